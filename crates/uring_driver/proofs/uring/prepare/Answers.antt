use Rattle.std.proofs.Common.{refl, sym, subst}
use Rattle.uring_driver.specs.Pending.{Pending}
use Rattle.uring_driver.specs.Submissions.{TakesFront, pending_ring}
use Rattle.uring_driver.proofs.Entering.{took-still}
use Rattle.uring_driver.proofs.uring.prepare.Goals.{then-is_err-via-then-is_err, then-is_err-via-else-is_err+then-is_err-2}
use Rattle.uring_driver.proofs.uring.prepare.Goals as goal

pub returns-then-is_err-clause-takes : goal.returns-then-is_err-clause-takes
returns-then-is_err-clause-takes g c =
    let view = g.R.Ring.view in
    let old = c.args.ring.now in
    let takes = λ (ring : Pending g.row.R.Denot). TakesFront (pending_ring view old) (pending_ring view ring) in
    λ tells. elim c.then-is_err.branch [
      | then-is_err-via-then-is_err w ↦ subst takes (sym w.ring-is) (took-still view old old refl refl)
      | then-is_err-via-else-is_err+then-is_err-2 w ↦ subst takes (sym w.ring-is)
          (took-still view old w.make_spare.new.self w.make_spare.ensures.view w.make_spare.ensures.due)
    ]
