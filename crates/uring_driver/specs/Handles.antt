-- What the calls on handles answer. Cited by `feed`, `feed_message`, `end` and `look` of the driver.
use Rattle.std.specs.Prelude.{ℕ, ◌≡◌, List, Some, None, Result, Ok, Err}
use Rattle.rent_buf.specs.Buffer.{Buffer}
use Rattle.machine.specs.declared.world.Look.{Look}
use Rattle.machine.specs.declared.world.WorldError.{WorldError}
use Rattle.machine.specs.declared.world.WorldError.TheVariants.{BadHandleEvent, OutOfMemory}
use Rattle.machine.specs.declared.ledger.Event.{Event}
use Rattle.machine.specs.declared.ledger.Event.TheVariants.{Feed, FeedMessage, End, Look as Looks}
use Rattle.machine.specs.declared.ledger.Reply.TheVariants.{Fed, Ended}
use Rattle.machine.specs.declared.ledger.Refusal.TheVariants.{BadHandleEvent as NotTaken}
use Rattle.machine.specs.Refusal.{cause}
use Rattle.machine.specs.Ledger.{Ledger}
use Rattle.machine.specs.Step.{step, look_reply}
use Rattle.ring_core.specs.Ring.{RingView}
use Rattle.uring_driver.specs.declared.uring.IoUringDriver.{IoUringDriver}
use Rattle.uring_driver.specs.Stands.{Answers}

-- Why a call on a handle was refused: by the machine's cause. For want of memory there is none.
abbrev pub RefusedFor : Ledger → Event → WorldError → Type 0
RefusedFor L event BadHandleEvent = cause L event ≡ Some NotTaken
RefusedFor L event OutOfMemory = cause L event ≡ None

-- Bytes that arrive are answered as the machine answers them.
abbrev pub FeedsFor : {B : Type 0} → (B → Buffer) → Ledger → ℕ → List ℕ → IoUringDriver RingView B → Result Unit WorldError → Type 0
FeedsFor buffer L h bytes new (Ok done) = Answers (λ r. r) buffer L (Feed h bytes) Fed new
FeedsFor buffer L h bytes new (Err why) = RefusedFor L (Feed h bytes) why

-- A message that arrives is answered as the machine answers it.
abbrev pub FeedsMessageFor : {B : Type 0} → (B → Buffer) → Ledger → ℕ → ℕ → List ℕ → IoUringDriver RingView B → Result Unit WorldError →
    Type 0
FeedsMessageFor buffer L h addr bytes new (Ok done) = Answers (λ r. r) buffer L (FeedMessage h addr bytes) Fed new
FeedsMessageFor buffer L h addr bytes new (Err why) = RefusedFor L (FeedMessage h addr bytes) why

-- The end of what arrives is answered as the machine answers it.
abbrev pub EndsFor : {B : Type 0} → (B → Buffer) → Ledger → ℕ → IoUringDriver RingView B → Result Unit WorldError → Type 0
EndsFor buffer L h new (Ok done) = Answers (λ r. r) buffer L (End h) Ended new
EndsFor buffer L h new (Err why) = RefusedFor L (End h) why

-- A look shows what the machine replies, which stays as it is.
abbrev pub LooksFor : Ledger → ℕ → Look → Type 0
LooksFor L h look = step L (Looks h) ≡ (L, look_reply look)
