-- What the enter of a turn and the completions that came by themselves come to.
use Rattle.std.proofs.Common.{◌≡◌, ◌∙◌, Bool, length, sym, ap, subst, arith}
use Rattle.ring_core.specs.Ring.{RingView, IsSynced}
use Rattle.uring_driver.specs.Pending.{Pending}
use Rattle.uring_driver.specs.Submissions.{TakesFront, Enters, Arrives, pending_ring, with_due}
use Rattle.uring_driver.proofs.Entering.{later-on}

-- what is pending was entered, and then completions became ready
pub arrives : {R : Type 0} (view : R → RingView) (tells : Bool) (old mid new : Pending R) → Enters view tells old mid →
    IsSynced tells (view mid.ring) (view new.ring) → new.due ≡ mid.due → new.room ≡ mid.room → Arrives view tells old new
arrives view tells old mid new enters synced due room = record {
  later = later-on (view old.ring) (view mid.ring) (view new.ring) enters.later synced.later;
  few_to_come = (
      let a = enters.few_to_come in
      let b = synced.few_to_come in
      let c = synced.same_queue in
      let d = ap length due in
      omega (arith, a, b, c, d));
  more_done = (let a = enters.more_done in let b = synced.more_done in omega (arith, a, b));
  same_room = room ∙ enters.same_room;
  told = λ shows. subst (TakesFront (pending_ring view old))
      (sym (ap (λ v. with_due v new.due) (synced.told shows) ∙ ap (with_due (view mid.ring)) due)) (enters.told shows);
}
