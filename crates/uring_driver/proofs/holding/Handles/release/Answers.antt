use Rattle.std.proofs.Common.{◌≡◌, ◌-◌, true, sym, subst, ◌∙◌}
use Rattle.handle_core.specs.declared.table.Released.{Released}
use Rattle.handle_core.specs.declared.table.Released.TheVariants.{Held, Last}
use Rattle.handle_core.specs.Table.{Table, holders_at, with_holders, by_operation, without_user}
use Rattle.uring_driver.specs.Holding.{Holding, IsKept, is_users}
use Rattle.uring_driver.proofs.Closings.{kept-closing, kept-written, room-kept, somebody-of}
use Rattle.driver_core.proofs.Holds.{held-user}
use Rattle.uring_driver.proofs.holding.Handles.release.Goals as goal

pub add_op_reserved-requires-clause-room : goal.add_op_reserved-requires-clause-room
add_op_reserved-requires-clause-room c =
    let holding : Holding = record { table = c.self.inside.table; closing = c.self.inside.closing; makers = c.self.inside.makers } in
    room-kept holding c.self.invariant c.args.h
    (held-user holding.table c.args.h (subst (λ x. is_users x c.args.h ≡ true) (sym c.self.view_is) c.requires))

pub invariant_of-self : goal.invariant_of-self
invariant_of-self c =
    let holding : Holding = record { table = c.self.inside.table; closing = c.self.inside.closing; makers = c.self.inside.makers } in
    let closed = kept-closing holding c.self.invariant c.args.h
    (held-user holding.table c.args.h (subst (λ x. is_users x c.args.h ≡ true) (sym c.self.view_is) c.requires)) in
    let left = subst (λ (t : Table). IsKept (record holding {
      table = t;
      closing = record (with_holders holding.closing c.args.h by_operation) {
        spare = holding.closing.spare - 1;
      };
    })) (sym (c.release.ensures.left c.in-Last.is)) closed in
    subst (λ (t : Table). IsKept (record holding { table = c.release.new.self; closing = t })) (sym c.add_op_reserved.ensures) left

pub invariant_of-self-in-Held : goal.invariant_of-self-in-Held
invariant_of-self-in-Held c =
    let holding : Holding = record { table = c.self.inside.table; closing = c.self.inside.closing; makers = c.self.inside.makers } in
    let some = somebody-of (without_user (holders_at holding.table c.args.h)) (λ none.
    let f : ◌≡◌ {A = Released} Held Last = sym c.in-Held.is ∙ c.release.ensures.last.1 none in let z : ⊥ = cc in z) in
    subst (λ t. IsKept (record holding { table = t })) (sym (c.release.ensures.stays c.in-Held.is))
    (kept-written holding c.self.invariant c.args.h (without_user (holders_at holding.table c.args.h))
    (held-user holding.table c.args.h (subst (λ x. is_users x c.args.h ≡ true) (sym c.self.view_is) c.requires)) some)
