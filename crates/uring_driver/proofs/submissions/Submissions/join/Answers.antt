use Rattle.std.proofs.Common.{sym, ap, subst, arith}
use Rattle.uring_driver.specs.Pending.{MayBePushed}
use Rattle.uring_driver.proofs.Pushable.{may-joined}
use Rattle.uring_driver.proofs.submissions.Submissions.join.Goals as goal

pub invariant_of-self : goal.invariant_of-self
invariant_of-self g c =
    let had = c.self.invariant in
    let room = c.requires.room in
    let shown = ap (λ x. x.room) c.self.view_is in
    let len = c.push_back_reserved.ensures.len in
    let capacity = c.push_back_reserved.ensures.capacity in (
      omega (arith, had.0, room, shown, len),
      omega (arith, had.1, room, shown, len, capacity),
      subst MayBePushed (sym c.push_back_reserved.ensures.items)
          (may-joined c.self.inside.due.items c.args.entry had.2 c.requires.links),
    )
