use Rattle.std.proofs.Common.{refl, sym, ◌∙◌, ap, arith, slice_get}
use Rattle.machine.specs.Ledger.{group_under}
use Rattle.session_core.proofs.Canceling.{handle-made, handle-unmade}
use Rattle.session_core.proofs.session.Session.handle_under.Goals as goal

pub returns-in-None-clause-finds : goal.returns-in-None-clause-finds
returns-in-None-clause-finds c = λ L stands. (
  refl,
  handle-unmade c.args.self.now L c.args.under c.in-Some.n stands c.in-Some.is (sym c.handle.ensures ∙ c.in-None.is),
)

pub returns-then-group-groups-clause-finds : goal.returns-then-group-groups-clause-finds
returns-then-group-groups-clause-finds c = λ L stands. absurd (
    let made = handle-made c.args.self.now L c.in-Some.n _ stands (sym c.handle.ensures ∙ c.in-Some-handle.is) in
    omega (arith, made))

pub returns-else-group-groups-clause-finds : goal.returns-else-group-groups-clause-finds
returns-else-group-groups-clause-finds c = λ L stands. ap (group_under L) c.in-Some.is
    ∙ ap (λ xs. slice_get xs c.in-Some.n) (sym stands.groups.handles) ∙ sym c.handle.ensures ∙ c.in-Some-handle.is
