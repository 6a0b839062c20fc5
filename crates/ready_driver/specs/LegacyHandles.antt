-- What the calls on handles in memory answer. Cited by `feed`, `feed_message`, `end` and `look` of the readiness driver.
use Rattle.std.specs.Prelude.{ℕ, ◌≡◌, List, Some, None, Result, Ok, Err}
use Rattle.rent_buf.specs.Buffer.{Buffer}
use Rattle.machine.specs.declared.world.Look.{Look}
use Rattle.machine.specs.declared.world.WorldError.{WorldError}
use Rattle.machine.specs.declared.world.WorldError.TheVariants.{BadHandleEvent, OutOfMemory}
use Rattle.machine.specs.declared.ledger.Event.{Event}
use Rattle.machine.specs.declared.ledger.Event.TheVariants.{Feed, FeedMessage, End, Look as Looks}
use Rattle.machine.specs.declared.ledger.Reply.TheVariants.{Fed, Ended}
use Rattle.machine.specs.declared.ledger.Refusal.TheVariants.{BadHandleEvent as NotTaken}
use Rattle.machine.specs.Step.{look_reply}
use Rattle.ready_driver.specs.Legacy.{Legacy}
use Rattle.ready_driver.specs.LegacyState.{LegacyState}
use Rattle.ready_driver.specs.LegacyStands.{LegacyStands, LegacyAnswers}
use Rattle.ready_driver.specs.LegacyStep.{legacy_cause, legacy_step}
use Rattle.ready_driver.specs.MemIo.{Memory, memory_view}

-- Why a call on a handle was refused: by the cause of its event. If memory ran out there is none. The driver is as it was.
abbrev pub RefusedFor : {B : Type 0} → (B → Buffer) → Legacy → Event → LegacyState Memory B → WorldError → Type 0
RefusedFor buffer D event new BadHandleEvent = (legacy_cause D event ≡ Some NotTaken) × LegacyStands memory_view buffer new D
RefusedFor buffer D event new OutOfMemory = (legacy_cause D event ≡ None) × LegacyStands memory_view buffer new D

-- Bytes that arrive are answered as the driver as plain data answers them.
abbrev pub FeedsFor : {B : Type 0} → (B → Buffer) → Legacy → ℕ → List ℕ → LegacyState Memory B → Result Unit WorldError → Type 0
FeedsFor buffer D h bytes new (Ok done) = LegacyAnswers memory_view buffer D (Feed h bytes) Fed new
FeedsFor buffer D h bytes new (Err why) = RefusedFor buffer D (Feed h bytes) new why

-- So is a message that arrives.
abbrev pub FeedsMessageFor : {B : Type 0} → (B → Buffer) → Legacy → ℕ → ℕ → List ℕ → LegacyState Memory B → Result Unit WorldError →
    Type 0
FeedsMessageFor buffer D h addr bytes new (Ok done) = LegacyAnswers memory_view buffer D (FeedMessage h addr bytes) Fed new
FeedsMessageFor buffer D h addr bytes new (Err why) = RefusedFor buffer D (FeedMessage h addr bytes) new why

-- So is the end of what arrives.
abbrev pub EndsFor : {B : Type 0} → (B → Buffer) → Legacy → ℕ → LegacyState Memory B → Result Unit WorldError → Type 0
EndsFor buffer D h new (Ok done) = LegacyAnswers memory_view buffer D (End h) Ended new
EndsFor buffer D h new (Err why) = RefusedFor buffer D (End h) new why

-- A look shows what the driver replies, which stays as it is.
abbrev pub LooksFor : Legacy → ℕ → Look → Type 0
LooksFor D h look = legacy_step D (Looks h) ≡ (D, look_reply look)
