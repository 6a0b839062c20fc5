-- How many handles an object made, behind each call of the driver.
use Rattle.std.proofs.Common.{ℕ, ◌≡◌, ◌≤◌, ◌<◌, ◌∙◌, ap, sym, arith, Bool, true, false, Option, Some, None, inl, inr}
use Rattle.rent_buf.specs.declared.plain.Buf.{Buf}
use Rattle.handle_core.specs.Table.{Table}
use Rattle.machine.specs.Effect.{made_by}
use Rattle.machine.specs.declared.request.Outcome.{Outcome}
use Rattle.machine.specs.declared.request.Outcome.TheVariants.{Count, From, Made, Fail}
use Rattle.machine.specs.declared.world.HandleKind.TheVariants.{Stream}
use Rattle.driver_core.specs.declared.op.Done.{Done as Ended}
use Rattle.driver_core.specs.declared.op.Op.{Op}
use Rattle.driver_core.specs.declared.op.Stop.{Stop}
use Rattle.driver_core.specs.declared.op.Stop.TheVariants as stopped
use Rattle.driver_core.specs.declared.op.Turned.{Turned}
use Rattle.ready_driver.specs.Calling.{Called}
use Rattle.ready_driver.specs.Dialing.{IsOpened}
use Rattle.ready_driver.specs.Io.{IoView, made_after}
use Rattle.ready_driver.specs.LegacyPolls.{HandsOver, outcome_for, outcome_if}
use Rattle.ready_driver.specs.LegacyState.{LegacyState}
use Rattle.ready_driver.specs.LegacyTurns.{LegacyTurns, TurnsBy, turning_in}
use Rattle.ready_driver.specs.Registry.{GivesUser, Handling, TriesFor, is_old}
use Rattle.relay_net.proofs.Calls.{Lawful}
use Rattle.relay_net.proofs.Polls.{Ends}

-- A count that is what it was hasn't fallen.
pub same_count : (old new : ℕ) → new ≡ old → old ≤ new
same_count old new same = omega (arith, same)

-- A count doesn't fall in two calls, one behind the other.
pub count_then : (old mid new : ℕ) → old ≤ mid → mid ≤ new → old ≤ new
count_then old mid new first second = omega (arith, first, second)

-- A call makes a handle, or none.
made_order : (outcome : Outcome) (made : ℕ) → made ≤ made_after outcome made
made_order (Count k) made = omega arith
made_order (From k addr) made = omega arith
made_order (Made h) made = omega arith
made_order (Fail error) made = omega arith

-- An outcome that names a handle is that of its call.
pub outcome_made : (table : Table) (call : Outcome) (h : ℕ) → made_by (outcome_for table call) ≡ Some h → call ≡ Made h
outcome_made table (Count k) h is = absurd cc
outcome_made table (From k addr) h is = absurd cc
outcome_made table (Fail error) h is = absurd cc
outcome_made table (Made n) h is = by-old (is_old table n) is
  where
    by-old : (b : Bool) → made_by (outcome_if b (Made n)) ≡ Some h → Made n ≡ Made h
    by-old true refused = absurd cc
    by-old false same = let e : n ≡ h = cc in ap Made e

module _ {I : Type 0} (view : I → IoView) (tells memory : Bool) where
  -- Behind a call that gave its user a handle the object made as many.
  gives_made : (old new : Handling I) (h : ℕ) → GivesUser view tells memory old h new → (view new.io).made ≡ (view old.io).made
  gives_made old new h gives = by-taken gives.taken gives.tries
    where
      by-taken : (taken : Bool) → TriesFor tells memory h gives.key (view old.io) (view new.io) taken → (view new.io).made ≡ (view
          old.io).made
      by-taken true tries = tries.0.made
      by-taken false tries = tries.0.made

  -- So it did where an operation may have handed over what it made.
  hands_made : (old new : Handling I) (made : Option ℕ) → HandsOver view tells memory old made new → (view new.io).made ≡ (view old.io).made
  hands_made old new None hands = ap (λ h. (view h.io).made) hands
  hands_made old new (Some h) hands = gives_made old new h hands.1

  -- A handle that was opened is one more.
  pub opened_made : (old new : Handling I) (h : ℕ) → IsOpened view tells memory Stream old new h → (view old.io).made ≤ (view new.io).made
  opened_made old new h opened =
      let given = gives_made opened.mid new h opened.user in
      let made = opened.made.made in
      omega (arith, given, made)

  -- A turn makes none.
  pub turned_made : (reporting : Bool) (old new : LegacyState I Buf) (turned : Turned)
      → LegacyTurns view tells reporting memory old new turned → (view new.handling.io).made ≡ (view old.handling.io).made
  turned_made reporting old new turned turns = by-stop turned.stop turns.does
    where
      by-stop : (s : Option Stop) → TurnsBy view tells reporting memory (turning_in old old.asked) (turning_in new turns.tasks) s
          → (view new.handling.io).made ≡ (view old.handling.io).made
      by-stop None does = does.object.made
      by-stop (Some stopped.RingFault) does = absurd does
      by-stop (Some stopped.Busy) does = absurd does
      by-stop (Some (stopped.BadCompletion word)) does = absurd does
      by-stop (Some (stopped.Os code)) does = does.0.object.made
      by-stop (Some stopped.OutOfMemory) (inl same) = ap (λ t. (view t.handling.io).made) same
      by-stop (Some stopped.OutOfMemory) (inr starves) = starves.stops.object.made

  module _ (files : I → ℕ → Bool) (called : Called I) (law : Lawful view tells memory called) where
    -- A poll that returned its operation made what its call made.
    ended_after : (old new : LegacyState I Buf) (op : Op) (done : Ended Buf)
        (ends : Ends view tells memory files called law old new op done) → (view new.handling.io).made ≡ made_after ends.call (view
        old.handling.io).made
    ended_after old new op done ends =
        ends.lets.object.made ∙ hands_made ends.mid ends.handed (made_by done.outcome) ends.hands ∙ ends.made.made

    -- So it made none less.
    pub ended_made : (old new : LegacyState I Buf) (op : Op) (done : Ended Buf) → Ends view tells memory files called law old new op done
        → (view old.handling.io).made ≤ (view new.handling.io).made
    ended_made old new op done ends =
        let order = made_order ends.call (view old.handling.io).made in
        let after = ended_after old new op done ends in
        omega (arith, order, after)

    -- One whose outcome is a handle made one more.
    pub ended_grows : (old new : LegacyState I Buf) (op : Op) (done : Ended Buf)
        (ends : Ends view tells memory files called law old new op done) (h : ℕ) → done.outcome ≡ Made h → (view old.handling.io).made <
        (view new.handling.io).made
    ended_grows old new op done ends h is =
        let call = outcome_made ends.mid.table ends.call h (ap made_by (sym ends.outcome ∙ is)) in
        let after = ended_after old new op done ends ∙ ap (λ o. made_after o (view old.handling.io).made) call in
        omega (arith, after)
