use Rattle.std.proofs.Common.{◌∙◌, ◌<◌, length, refl, sym, arith}
use Rattle.machine.proofs.Amended.{passes-at, set-same}
use Rattle.machine.proofs.Moving.{changed-moved}
use Rattle.machine.proofs.world.moves.send_message_at.Goals as goal

pub returns-then-not-may_be_sent_whole : goal.returns-then-not-may_be_sent_whole
returns-then-not-may_be_sent_whole g c =
    let count = c.len.ensures in
    let inside = c.if-h-len.false in
    let in_range : c.args.h < length c.args.handles.now.items = omega (arith, count, inside) in (
      passes-at _ _ _ c.index_mut-handle.result.now in_range c.index_mut-handle.ensures.value
          ∙ sym c.may_be_sent_whole.ensures ∙ c.if-not-may_be_sent_whole.true,
      set-same _ _ c.index_mut-handle.result.now _ c.index_mut-handle.ensures.value refl,
      refl,
    )

pub returns-in-Ok : goal.returns-in-Ok
returns-in-Ok g c =
    let count = c.len.ensures in
    let inside = c.if-h-len.false in
    let in_range : c.args.h < length c.args.handles.now.items = omega (arith, count, inside) in
    let handle = c.index_mut-handle.result.now in
    changed-moved _ _ _ _ handle _ _ _ _ _ _ in_range c.index_mut-handle.ensures.value
    (passes-at _ _ _ handle in_range c.index_mut-handle.ensures.value ∙ sym c.may_be_sent_whole.ensures
    ∙ c.if-not-may_be_sent_whole.false) refl refl
    (rw c.in-Ok.ensures.ok)

pub returns-in-Err : goal.returns-in-Err
returns-in-Err g c =
    let count = c.len.ensures in
    let inside = c.if-h-len.false in
    let in_range : c.args.h < length c.args.handles.now.items = omega (arith, count, inside) in (
      passes-at _ _ _ c.index_mut-handle.result.now in_range c.index_mut-handle.ensures.value
          ∙ sym c.may_be_sent_whole.ensures ∙ c.if-not-may_be_sent_whole.false,
      refl,
      set-same _ _ c.index_mut-handle.result.now _ c.index_mut-handle.ensures.value (rw c.in-Err.ensures.err),
      refl,
    )
