use Rattle.std.proofs.Common.{◌≡◌, ◌∙◌, ◌<◌, ◌∷◌, ℕ, [], true, map, sym, subst, ap, arith}
use Rattle.std.proofs.lemmas.List.{map-append, length-map}
use Rattle.ring_core.specs.Entry.{close_entry}
use Rattle.machine.specs.Ledger.{with_made}
use Rattle.machine.specs.Lists.{has_number}
use Rattle.machine.specs.Request.{listed}
use Rattle.machine.specs.declared.world.TheConstants.{MOST_HANDLES}
use Rattle.driver_core.specs.Holds.{unheld_by, without_ops}
use Rattle.uring_driver.specs.Submissions.{PostsEach}
use Rattle.uring_driver.proofs.Letting.{posts-append, posts-moves, unheld-both}
use Rattle.uring_driver.proofs.Treated.{below-both}
use Rattle.uring_driver.proofs.uring.leave.let_all_go.Goals as goal

-- The closes of both were posted.
posts-both : (g : _) (c : goal.After-let_one_go g) → PostsEach g.R.Ring.view g.R.Ring.tells g.R.Ring.steady c.args.ring.now
    c.let_one_go.new.ring (map close_entry (unheld_by c.args.handles.now.table (with_made c.args.made (listed c.args.names))))
posts-both g c =
    let table = c.args.handles.now.table in
    let names = listed c.args.names in
    let us = unheld_by table names in
    let vs = unheld_by (without_ops table names) (c.in-Some.h ∷ []) in
    let rest = subst (λ t. PostsEach g.R.Ring.view g.R.Ring.tells g.R.Ring.steady c.let_go.new.ring c.let_one_go.new.ring
    (map close_entry (unheld_by t (c.in-Some.h ∷ []))))
    (ap (λ h. h.table) c.let_go.ensures.handles) c.let_one_go.ensures.posts in
    subst (λ m. PostsEach g.R.Ring.view g.R.Ring.tells g.R.Ring.steady c.args.ring.now c.let_one_go.new.ring
    (map close_entry (unheld_by table (with_made m names)))) (sym c.in-Some.is)
    (subst (λ es. PostsEach g.R.Ring.view g.R.Ring.tells g.R.Ring.steady c.args.ring.now c.let_one_go.new.ring es)
    (sym (map-append close_entry us vs) ∙ ap (map close_entry) (unheld-both table names (c.in-Some.h ∷ [])))
    (posts-append g.R.Ring.view g.R.Ring.tells g.R.Ring.steady c.args.ring.now c.let_go.new.ring c.let_one_go.new.ring
    (map close_entry us) (map close_entry vs) c.let_go.ensures.posts rest))

pub returns-in-Some-clause-posts : goal.returns-in-Some-clause-posts
returns-in-Some-clause-posts g c = posts-both g c

pub returns-in-Some-clause-moves : goal.returns-in-Some-clause-moves
returns-in-Some-clause-moves g c =
    let us = unheld_by c.args.handles.now.table (with_made c.args.made (listed c.args.names)) in
    let long = length-map us close_entry in
    let few = c.requires.room in
    posts-moves g.R.Ring.view g.R.Ring.tells g.R.Ring.steady c.args.ring.now c.let_one_go.new.ring (map close_entry us)
    (omega (arith, few, long)) (posts-both g c)

pub returns-in-Some-clause-below : goal.returns-in-Some-clause-below
returns-in-Some-clause-below g c = λ k among.
    let table = c.args.handles.now.table in
    let names = listed c.args.names in
    let us = unheld_by table names in
    let vs = unheld_by (without_ops table names) (c.in-Some.h ∷ []) in
    let rest = subst (λ t. (h : ℕ) → has_number h (unheld_by t (c.in-Some.h ∷ [])) ≡ true → h < MOST_HANDLES)
    (ap (λ h. h.table) c.let_go.ensures.handles) c.let_one_go.ensures.below in
    below-both us vs k c.let_go.ensures.below rest
    (ap (has_number k) (unheld-both table names (c.in-Some.h ∷ []))
    ∙ sym (ap (λ m. has_number k (unheld_by table (with_made m names))) c.in-Some.is) ∙ among)
