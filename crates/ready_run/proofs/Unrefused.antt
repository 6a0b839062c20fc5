-- An event that a driver as plain data doesn't refuse isn't answered as a refused one: so the machine doesn't refuse it either.
use Rattle.std.proofs.Common.{◌≡◌, ◌∙◌, ℕ, Bool, true, false, not, Option, Some, None, refl, sym, ap}
use Rattle.std.specs.Prelude.{is_some}
use Rattle.rent_buf.specs.Buffer.{Buffer}
use Rattle.rent_buf.specs.Parts.{Parts}
use Rattle.machine.specs.Attempt.{attempt}
use Rattle.machine.specs.Ledger.{Ledger, is_under_marked, group_under}
use Rattle.machine.specs.Refusal.{cause, refused_if}
use Rattle.machine.specs.Request.{call_of}
use Rattle.machine.specs.Step.{look_reply}
use Rattle.machine.specs.World.{look_at}
use Rattle.machine.specs.declared.ledger.Event.{Event}
use Rattle.machine.specs.declared.ledger.Event.TheVariants.{Give, Feed, FeedMessage, End, Look, Close, Submit, Poll, Drop, Cancel}
use Rattle.machine.specs.declared.ledger.Event.TheVariants.{NewCanceller, NewHandle, CancelAll, Turn, Exec}
use Rattle.machine.specs.declared.ledger.Refusal.{Refusal}
use Rattle.machine.specs.declared.ledger.Refusal.TheVariants.{NoOp}
use Rattle.machine.specs.declared.ledger.Reply.TheVariants.{Refused}
use Rattle.machine.specs.declared.request.Request.{Request}
use Rattle.machine.specs.declared.request.Told.{Told}
use Rattle.machine.specs.declared.world.Look.{Look as Shown}
use Rattle.machine.specs.declared.world.Look.TheVariants.{Bytes, Messages}
use Rattle.machine.proofs.Stepping.{step-refused}
use Rattle.ready_driver.specs.Legacy.{LegacyOp, Legacy, seen, slot_at}
use Rattle.ready_driver.specs.LegacyStep.{poll_op, poll_slot, submit_at, legacy_row, legacy_cause, legacy_answered, legacy_step}
use Rattle.ready_driver.specs.Spelled.{open_spelling, with_closes, spelled, spelled_reply}

-- What a look shows is no refusal.
look-answers : (shown : Shown) (refusal : Refusal) → look_reply shown ≡ Refused refusal → ⊥
look-answers (Bytes bytes) refusal is = (let f : ⊥ = cc in f)
look-answers (Messages messages) refusal is = (let f : ⊥ = cc in f)

-- Nor is what a submission is answered with.
submit-answers : (marked : Bool) (D : Legacy) (request : Request Buffer Parts) (group : Option ℕ) (refusal : Refusal) →
    (submit_at marked D request group).1 ≡ Refused refusal → ⊥
submit-answers true D request group refusal is = (let f : ⊥ = cc in f)
submit-answers false D request group refusal is = (let f : ⊥ = cc in f)

-- Nor what a poll of an operation is.
op-answers : (asked : Bool) (made : Option Told) (D : Legacy) (n : ℕ) (op : LegacyOp) (refusal : Refusal) →
    (poll_op asked made D n op).1 ≡ Refused refusal → ⊥
op-answers true made D n op refusal is = (let f : ⊥ = cc in f)
op-answers false None D n op refusal is = (let f : ⊥ = cc in f)
op-answers false (Some told) D n op refusal is = (let f : ⊥ = cc in f)

-- The operation of a poll that isn't refused isn't gone.
poll-answers : (D : Legacy) (n : ℕ) (found : Option LegacyOp) (refusal : Refusal) →
    refused_if (not (is_some found)) NoOp None ≡ None → (poll_slot D n found).1 ≡ Refused refusal → ⊥
poll-answers D n None refusal unrefused is = (let f : ◌≡◌ {A = Option Refusal} (Some NoOp) None = unrefused in let g : ⊥ = cc in g)
poll-answers D n (Some op) refusal unrefused is = op-answers op.asked (attempt D.world (call_of op.request)) D n op refusal is

-- So no rule answers an unrefused event with a refusal.
row-answers : (D : Legacy) (e : Event) (refusal : Refusal) → legacy_cause D e ≡ None → (legacy_row D e).1 ≡ Refused refusal → ⊥
row-answers D (Give kind) refusal unrefused is = (let f : ⊥ = cc in f)
row-answers D (Feed h bytes) refusal unrefused is = (let f : ⊥ = cc in f)
row-answers D (FeedMessage h addr bytes) refusal unrefused is = (let f : ⊥ = cc in f)
row-answers D (End h) refusal unrefused is = (let f : ⊥ = cc in f)
row-answers D (Look h) refusal unrefused is = look-answers (look_at D.world h) refusal is
row-answers D (Close h) refusal unrefused is = (let f : ⊥ = cc in f)
row-answers D (Submit request under true) refusal unrefused is = (let f : ⊥ = cc in f)
row-answers D (Submit request under false) refusal unrefused is =
    submit-answers (is_under_marked (seen D) under) D request (group_under (seen D) under) refusal is
row-answers D (Poll n task) refusal unrefused is = poll-answers D n (slot_at D n) refusal unrefused is
row-answers D (Drop n) refusal unrefused is = (let f : ⊥ = cc in f)
row-answers D (Cancel n) refusal unrefused is = (let f : ⊥ = cc in f)
row-answers D NewCanceller refusal unrefused is = (let f : ⊥ = cc in f)
row-answers D (NewHandle c) refusal unrefused is = (let f : ⊥ = cc in f)
row-answers D (CancelAll c) refusal unrefused is = (let f : ⊥ = cc in f)
row-answers D Turn refusal unrefused is = (let f : ⊥ = cc in f)
row-answers D (Exec place told) refusal unrefused is = (let f : ⊥ = cc in f)

-- The machine answers a refused event, as it is spelled, with the refusal.
refused-reply : (L : Ledger) (e : Event) (refusal : Refusal) → cause L e ≡ Some refusal → spelled_reply L (spelled L e) ≡ Refused refusal
refused-reply L e refusal named =
    ap (λ c. spelled_reply L (with_closes L (open_spelling c L e))) named ∙ ap (λ next. next.1) (step-refused L e refusal named)

-- Where the answers are alike, the machine doesn't refuse what the driver doesn't refuse.
pub unrefused-alike : (D : Legacy) (L : Ledger) (e : Event) → legacy_cause D e ≡ None →
    (legacy_step D e).1 ≡ spelled_reply L (spelled L e) → cause L e ≡ None
unrefused-alike D L e unrefused alike = by (cause L e) refl
  where
    by : (c : Option Refusal) → cause L e ≡ c → c ≡ None
    by None named = refl
    by (Some refusal) named = absurd (row-answers D e refusal unrefused (
        sym (ap (λ c. (legacy_answered c D e).1) unrefused) ∙ alike ∙ refused-reply L e refusal named))
