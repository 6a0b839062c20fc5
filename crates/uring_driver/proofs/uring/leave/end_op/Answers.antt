use Rattle.std.proofs.Common.{◌≡◌, ◌∙◌, inl, inr, ◌<◌, ◌∷◌, ◌++◌, ℕ, [], true, false, Option, Some, None, map, refl, sym, subst, ap}
use Rattle.std.specs.Prelude.{IfSome, ◌||◌}
use Rattle.std.proofs.lemmas.List.{map-append}
use Rattle.ring_core.specs.Entry.{close_entry}
use Rattle.machine.specs.Lists.{has_number}
use Rattle.machine.specs.Request.{listed}
use Rattle.machine.proofs.Numbers.{same-or-not, equal-other}
use Rattle.machine.specs.declared.world.TheConstants.{MOST_HANDLES}
use Rattle.driver_core.specs.Holds.{unheld_by}
use Rattle.driver_core.proofs.Distinct.{not-both}
use Rattle.uring_driver.specs.Making.{is_old, op_closes, lost_if, refuses_made}
use Rattle.uring_driver.specs.Holding.{ops_left}
use Rattle.uring_driver.specs.Submissions.{Posts, PostsEach}
use Rattle.uring_driver.proofs.Ended.{not-old, not-refused}
use Rattle.uring_driver.proofs.Letting.{posts-append, new-left}
use Rattle.uring_driver.proofs.Treated.{below-both}
use Rattle.uring_driver.proofs.uring.leave.end_op.Goals as goal

pub end_maker-requires-clause-fresh : goal.end_maker-requires-clause-fresh
end_maker-requires-clause-fresh g c =
    subst (λ x. IfSome c.args.made (λ h. is_old x h ≡ false)) (sym c.let_go.ensures.handles) (by c.args.made c.requires.made)
  where
    by : (made : Option ℕ) → refuses_made c.args.handles.now c.args.maker made ≡ false →
        IfSome made (λ h. is_old (ops_left c.args.handles.now (listed c.args.names)) h ≡ false)
    by None takes = tt
    by (Some h) takes = new-left c.args.handles.now (listed c.args.names) h c.requires.held
        (not-refused c.args.handles.now c.args.maker h takes).1

pub returns-in-Some-clause-posts : goal.returns-in-Some-clause-posts
returns-in-Some-clause-posts g c =
    let us = unheld_by c.args.handles.now.table (listed c.args.names) in
    let lost = ap (λ b. lost_if b c.args.made) c.if-dropped.true ∙ ap (lost_if true) c.in-Some.is in
    subst (λ xs. PostsEach g.R.Ring.view g.R.Ring.tells g.R.Ring.steady c.args.ring.now c.post.new.self
    (map close_entry (op_closes c.args.handles.now.table (listed c.args.names) xs))) (sym lost)
    (subst (λ es. PostsEach g.R.Ring.view g.R.Ring.tells g.R.Ring.steady c.args.ring.now c.post.new.self es)
    (sym (map-append close_entry us (c.in-Some.h ∷ [])))
    (posts-append g.R.Ring.view g.R.Ring.tells g.R.Ring.steady c.args.ring.now c.let_go.new.ring c.post.new.self
    (map close_entry us) (close_entry c.in-Some.h ∷ []) c.let_go.ensures.posts (
      c.post.new.self,
      subst (λ e. Posts g.R.Ring.view g.R.Ring.tells g.R.Ring.steady c.let_go.new.ring c.post.new.self e) c.close.ensures
          c.post.ensures.posts,
      refl,
    )))

pub returns-in-Some-clause-below : goal.returns-in-Some-clause-below
returns-in-Some-clause-below g c = λ k among.
    let us = unheld_by c.args.handles.now.table (listed c.args.names) in
    let lost = ap (λ b. lost_if b c.args.made) c.if-dropped.true ∙ ap (lost_if true) c.in-Some.is in
    let new = not-refused c.args.handles.now c.args.maker c.in-Some.h
    (ap (refuses_made c.args.handles.now c.args.maker) (sym c.in-Some.is) ∙ c.requires.made) in
    below-both us (c.in-Some.h ∷ []) k c.let_go.ensures.below (λ j is. alone j is (not-old c.args.handles.now c.in-Some.h new.1).2)
    (ap (λ xs. has_number k (us ++ xs)) (sym lost) ∙ among)
  where
    alone : (j : ℕ) → has_number j (c.in-Some.h ∷ []) ≡ true → c.in-Some.h < MOST_HANDLES → j < MOST_HANDLES
    alone j is below = elim (same-or-not j c.in-Some.h) [
      | inl e ↦ subst (λ x. x < MOST_HANDLES) (sym e) below
      | inr e ↦ absurd (not-both (has_number j (c.in-Some.h ∷ [])) is (ap (λ b. b || false) (equal-other j c.in-Some.h e)))
    ]
