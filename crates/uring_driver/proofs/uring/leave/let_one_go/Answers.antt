use Rattle.std.proofs.Common.{List, [], ap, map, refl, sym, subst}
use Rattle.std.specs.Prelude.{ℕ}
use Rattle.ring_core.specs.Entry.{close_entry}
use Rattle.driver_core.specs.Holds.{front_if}
use Rattle.uring_driver.specs.Submissions.{Posts, PostsEach}
use Rattle.uring_driver.proofs.uring.leave.let_one_go.Goals as goal

pub returns-in-Last-clause-posts : goal.returns-in-Last-clause-posts
returns-in-Last-clause-posts g c =
    let last = c.release_op.ensures.last.0 c.in-Last.is in
    subst (λ (us : List ℕ). PostsEach g.R.Ring.view g.R.Ring.tells g.R.Ring.steady c.args.ring.now c.post.new.self (map close_entry us))
    (sym (ap (λ b. front_if b c.args.h []) last)) (
      c.post.new.self,
      subst (λ e. Posts g.R.Ring.view g.R.Ring.tells g.R.Ring.steady c.args.ring.now c.post.new.self e) c.close.ensures
          c.post.ensures.posts,
      refl,
    )
