use Rattle.std.proofs.Common.{◌∙◌, refl, sym}
use Rattle.machine.proofs.Amended.{amended-at, passes-at, set-same}
use Rattle.machine.proofs.world.feed_at.Goals as goal

pub returns-then-takes_no_bytes : goal.returns-then-takes_no_bytes
returns-then-takes_no_bytes c =
    (passes-at _ _ _ c.index.result.now c.requires c.index.ensures ∙ sym c.takes_no_bytes.ensures ∙ c.if-takes_no_bytes.true, refl)

pub returns-in-Ok : goal.returns-in-Ok
returns-in-Ok c = (
  passes-at _ _ _ c.index.result.now c.requires c.index.ensures ∙ sym c.takes_no_bytes.ensures ∙ c.if-takes_no_bytes.false,
  amended-at _ _ _ c.index_mut.result.now _ c.requires c.index_mut.ensures.value (rw c.in-Ok.ensures.ok),
)

pub returns-in-Err : goal.returns-in-Err
returns-in-Err c = (
  passes-at _ _ _ c.index.result.now c.requires c.index.ensures ∙ sym c.takes_no_bytes.ensures ∙ c.if-takes_no_bytes.false,
  set-same _ _ c.index_mut.result.now _ c.index_mut.ensures.value (rw c.in-Err.ensures.err),
)
