use Rattle.std.proofs.Common.{◌∙◌, refl, sym}
use Rattle.machine.proofs.Amended.{amended-at, passes-at}
use Rattle.machine.proofs.world.end_at.Goals as goal

pub returns-then-takes_no_end : goal.returns-then-takes_no_end
returns-then-takes_no_end c =
    (passes-at _ _ _ c.index.result.now c.requires c.index.ensures ∙ sym c.takes_no_end.ensures ∙ c.if-takes_no_end.true, refl)

pub returns : goal.returns
returns c = (
  passes-at _ _ _ c.index.result.now c.requires c.index.ensures ∙ sym c.takes_no_end.ensures ∙ c.if-takes_no_end.false,
  amended-at _ _ _ c.index_mut.result.now _ c.requires c.index_mut.ensures.value refl,
)
