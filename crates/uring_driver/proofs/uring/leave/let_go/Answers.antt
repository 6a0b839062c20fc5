use Rattle.std.proofs.Common.{[], ◌∷◌, ◌≡◌, ◌<◌, ℕ, true, map, sym, subst, ap}
use Rattle.ring_core.specs.Entry.{close_entry}
use Rattle.machine.specs.Lists.{has_number}
use Rattle.machine.specs.declared.world.TheConstants.{MOST_HANDLES}
use Rattle.machine.specs.Request.{listed}
use Rattle.driver_core.specs.Holds.{unheld_by}
use Rattle.uring_driver.specs.Submissions.{PostsEach}
use Rattle.uring_driver.proofs.Letting.{posts-on, below-on}
use Rattle.uring_driver.proofs.uring.leave.let_go.Goals as goal

pub returns-in-Two-clause-posts : goal.returns-in-Two-clause-posts
returns-in-Two-clause-posts g c =
    let table = c.args.handles.now.table in
    let mid = c.let_one_go-in-Two.new.ring in
    let new = c.let_one_go-in-Two-2.new.ring in
    let rest = subst (λ t. PostsEach g.R.Ring.view g.R.Ring.tells g.R.Ring.steady mid new
    (map close_entry (unheld_by t (c.in-Two.upper ∷ []))))
    (ap (λ h. h.table) c.let_one_go-in-Two.ensures.handles) c.let_one_go-in-Two-2.ensures.posts in
    subst (λ names. PostsEach g.R.Ring.view g.R.Ring.tells g.R.Ring.steady c.args.ring.now new
    (map close_entry (unheld_by table (listed names)))) (sym c.in-Two.is)
    (posts-on g.R.Ring.view g.R.Ring.tells g.R.Ring.steady c.args.ring.now mid new table c.in-Two.lower (c.in-Two.upper ∷ [])
    c.let_one_go-in-Two.ensures.posts rest)

pub returns-in-Two-clause-below : goal.returns-in-Two-clause-below
returns-in-Two-clause-below g c =
    let table = c.args.handles.now.table in
    let rest = subst (λ t. (k : ℕ) → has_number k (unheld_by t (c.in-Two.upper ∷ [])) ≡ true → k < MOST_HANDLES)
    (ap (λ h. h.table) c.let_one_go-in-Two.ensures.handles) c.let_one_go-in-Two-2.ensures.below in
    subst (λ names. (k : ℕ) → has_number k (unheld_by table (listed names)) ≡ true → k < MOST_HANDLES) (sym c.in-Two.is)
    (below-on table c.in-Two.lower (c.in-Two.upper ∷ []) c.let_one_go-in-Two.ensures.below rest)
