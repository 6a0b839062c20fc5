use Rattle.std.proofs.Common.{◌∙◌, ◌<◌, length, refl, sym, arith, ap, take}
use Rattle.machine.proofs.Amended.{passes-at, set-same}
use Rattle.machine.proofs.Moving.{receive-memory, receive-moved}
use Rattle.machine.proofs.world.moves.receive_at.Goals as goal

pub returns-in_default : goal.returns-in_default
returns-in_default g c =
    let count = c.len.ensures in
    let inside = c.if-h-len.false in
    let in_range : c.args.h < length c.args.handles.now.items = omega (arith, count, inside) in (
      passes-at _ _ _ c.index_mut-handle.result.now in_range c.index_mut-handle.ensures.value ∙ sym c.in_default.ensures.allowed,
      set-same _ _ c.index_mut-handle.result.now _ c.index_mut-handle.ensures.value refl,
      refl,
    )

pub returns-in-Ok : goal.returns-in-Ok
returns-in-Ok g c =
    let count = c.len.ensures in
    let inside = c.if-h-len.false in
    let in_range : c.args.h < length c.args.handles.now.items = omega (arith, count, inside) in
    receive-moved _ _ _ c.index_mut-handle.result.now _ c.in-Some.message.now _ _ _ _ c.first.result.now _ _ in_range
    c.index_mut-handle.ensures.value (sym c.in-Some.ensures.allowed) c.in-Some.ensures.message c.remove_first.ensures
    (c.first.ensures ∙ ap (take c.args.k) c.as_slice.ensures)
    c.in-Ok.ensures.ok

pub returns-in-Err : goal.returns-in-Err
returns-in-Err g c =
    let count = c.len.ensures in
    let inside = c.if-h-len.false in
    let in_range : c.args.h < length c.args.handles.now.items = omega (arith, count, inside) in (
      passes-at _ _ _ c.index_mut-handle.result.now in_range c.index_mut-handle.ensures.value ∙ sym c.in-Some.ensures.allowed,
      receive-memory g.P.Payloads.takes_memory c.args.ask _ c.index_mut-handle.result.now c.in-Some.message.now c.first.result.now
          (sym c.in-Some.ensures.allowed) c.in-Some.ensures.message
          (c.first.ensures ∙ ap (take c.args.k) c.as_slice.ensures) c.in-Err.ensures.memory,
      set-same _ _ c.index_mut-handle.result.now _ c.index_mut-handle.ensures.value refl,
      c.in-Err.ensures.err,
    )
