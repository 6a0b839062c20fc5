use Rattle.std.proofs.Common.{refl, sym, ◌∙◌, ap, slice_get}
use Rattle.machine.specs.Ledger.{group_under}
use Rattle.ready_driver.specs.Legacy.{seen}
use Rattle.ready_run.proofs.Canceling.{handle-unmade}
use Rattle.ready_run.proofs.Parts.{under-made}
use Rattle.ready_run.proofs.inner.Inner.handle_under.Goals as goal

pub returns-in-None-clause-finds : goal.returns-in-None-clause-finds
returns-in-None-clause-finds c = λ D stands. (
  refl,
  handle-unmade c.args.self.now D c.args.under c.in-Some.n stands c.in-Some.is (sym c.handle.ensures ∙ c.in-None.is),
)

pub returns-in-Some-handle-clause-finds : goal.returns-in-Some-handle-clause-finds
returns-in-Some-handle-clause-finds c = λ D stands. ap (group_under (seen D)) c.in-Some.is
    ∙ ap (λ xs. slice_get xs c.in-Some.n) (sym stands.groups.handles) ∙ sym c.handle.ensures ∙ c.in-Some-handle.is

pub returns-in-Some-handle-clause-made : goal.returns-in-Some-handle-clause-made
returns-in-Some-handle-clause-made c =
    under-made c.args.self.now c.in-Some.n _ c.requires.parts (sym c.handle.ensures ∙ c.in-Some-handle.is)
