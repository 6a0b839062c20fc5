-- The parts of a session after calls of its driver.
use Rattle.std.proofs.Common.{◌≡◌, true, inl, refl, ℕ, [], sym, ◌∙◌, subst}
use Rattle.std.specs.Prelude.{Result, Ok, Err, OnErr, Option, Some, None}
use Rattle.rent_buf.specs.Buf.{built}
use Rattle.rent_buf.specs.declared.plain.Buf.{Buf}
use Rattle.ring_core.specs.Ring.{RingView}
use Rattle.machine.specs.Ledger.{Ledger}
use Rattle.machine.specs.declared.ledger.Event.TheVariants.{Turn, Exec}
use Rattle.machine.specs.declared.request.Told.{Told}
use Rattle.ring_core.specs.declared.mem_ring.ExecRefusal.{ExecRefusal}
use Rattle.machine.specs.Step.{step}
use Rattle.machine.proofs.Staying.{groups_of}
use Rattle.uring_driver.specs.declared.uring.IoUringDriver.{IoUringDriver}
use Rattle.driver_core.specs.declared.op.Executed.{Executed}
use Rattle.driver_core.specs.declared.op.Executed.TheVariants.{Op as ExecutedNumber, Close as ExecutedHandle}
use Rattle.driver_core.specs.declared.op.Turned.{Turned}
use Rattle.driver_core.specs.declared.op.Stop.{Stop}
use Rattle.uring_driver.specs.Uring.{due_in, given_by, holding_in}
use Rattle.uring_driver.specs.Op.{KeepsTokens, ops_in}
use Rattle.uring_driver.specs.Executed.{ExecutesFor}
use Rattle.uring_driver.specs.Turned.{TurnsFor, TreatsFor, TurnMeets}
use Rattle.uring_driver.specs.Stands.{Stands}
use Rattle.driver_core.specs.declared.tokens.Tokens.{Tokens}
use Rattle.driver_core.specs.Tokens.{by_number}
use Rattle.session_core.specs.Session.{PartsStand, AreParts, AreSingle}
use Rattle.driver_core.proofs.KeptTokens.{are_held-kept}
use Rattle.ready_run.proofs.Kept.{groups-same}
use Rattle.session_core.proofs.KeptGroups.{groups-kept, groups-step}
use Rattle.session_core.proofs.Single.{single-same, single-turned}
use Rattle.session_core.proofs.Steps.{stopped-same}

-- What stands for a ledger is a driver and tokens of a session.
pub parts_of_some : (engine : IoUringDriver RingView Buf) (kept : Tokens) (L : Ledger) → PartsStand engine kept L → AreParts engine kept
parts_of_some engine kept L stand = record { ledger = L; stand = stand }

-- A driver that holds the tokens that it held stays that of a session, where it stands for some ledger and nothing is due in it.
parts-moved : (old new : IoUringDriver RingView Buf) (kept : Tokens) (L M : Ledger) → PartsStand old kept L → Stands (λ r. r) built new M
    → groups_of M ≡ groups_of L → (due_in old ≡ [] → due_in new ≡ []) → (AreSingle old → AreSingle new) → KeepsTokens old new
    → given_by new ≡ given_by old
    → AreParts new kept
parts-moved old new kept L M stand driver same due single tokens given = record {
  ledger = M;
  stand = record {
    driver = driver;
    none_due = due stand.none_due;
    single = single stand.single;
    numbered = stand.numbered ∙ sym given;
    tokens = are_held-kept (by_number kept) (ops_in old) (ops_in new) stand.tokens tokens;
    groups = groups-kept kept kept L M stand.groups (groups-same kept) same;
  };
}

-- An execution leaves the parts of a session.
pub parts_executed : (old new : IoUringDriver RingView Buf) (kept : Tokens) (place : ℕ) (told : Told) (result : Result Executed ExecRefusal)
    → AreParts old kept → ((L : Ledger) → Stands (λ r. r) built old L → ExecutesFor built L place told new result)
    → OnErr result (new ≡ old) → holding_in new ≡ holding_in old → due_in new ≡ due_in old → KeepsTokens old new
    → given_by new ≡ given_by old → AreParts new kept
parts_executed old new kept place told (Ok (ExecutedNumber n)) parts answers err holding due tokens given =
    parts-moved old new kept parts.ledger (step parts.ledger (Exec place told)).0 parts.stand
    (answers parts.ledger parts.stand.driver).stands (groups-step parts.ledger (Exec place told) refl)
    (λ none. due ∙ none) (single-same old new holding) tokens given
parts_executed old new kept place told (Ok (ExecutedHandle h)) parts answers err holding due tokens given =
    parts-moved old new kept parts.ledger (step parts.ledger (Exec place told)).0 parts.stand
    (answers parts.ledger parts.stand.driver).stands (groups-step parts.ledger (Exec place told) refl)
    (λ none. due ∙ none) (single-same old new holding) tokens given
parts_executed old new kept place told (Err why) parts answers err holding due tokens given = subst (λ d. AreParts d kept) (sym err) parts

-- So does a turn over the ring in memory.
pub parts_turned : (old new : IoUringDriver RingView Buf) (kept : Tokens) (turned : Turned) → AreParts old kept
    → TurnMeets (λ r. r) built true true old new turned → AreParts new kept
parts_turned old new kept turned parts meets = by turned.stop (meets.turns refl parts.ledger parts.stand.driver) meets.treats
  where
    by : (stop : Option Stop) → TurnsFor (λ r. r) built true parts.ledger old new turned meets.queued stop →
        TreatsFor (λ r. r) true old new turned meets.queued stop → AreParts new kept
    by None turns treats = parts-moved old new kept parts.ledger (step parts.ledger Turn).0 parts.stand (turns.1 (inl refl)).stands
        (groups-step parts.ledger Turn refl) (meets.none_due refl) (single-turned old new turned meets.queued None treats) meets.tokens
        meets.given
    by (Some stop) turns treats =
        subst (λ d. AreParts d kept) (sym (stopped-same parts.ledger old new turned meets.queued stop turns)) parts
