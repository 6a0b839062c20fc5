use Rattle.std.proofs.Common.{◌∙◌, ◌<◌, length, refl, sym, arith}
use Rattle.machine.proofs.Amended.{passes-at, set-same}
use Rattle.machine.proofs.Moving.{read-memory, read-moved}
use Rattle.machine.proofs.world.moves.read_at.Goals as goal

pub returns-then-not-may_take : goal.returns-then-not-may_take
returns-then-not-may_take g c =
    let count = c.len.ensures in
    let inside = c.if-h-len.false in
    let in_range : c.args.h < length c.args.handles.now.items = omega (arith, count, inside) in (
      passes-at _ _ _ c.index_mut-handle.result.now in_range c.index_mut-handle.ensures.value
          ∙ sym c.may_take.ensures ∙ c.if-not-may_take.true,
      set-same _ _ c.index_mut-handle.result.now _ c.index_mut-handle.ensures.value refl,
      refl,
    )

pub returns-in-Ok : goal.returns-in-Ok
returns-in-Ok g c =
    let count = c.len.ensures in
    let inside = c.if-h-len.false in
    let in_range : c.args.h < length c.args.handles.now.items = omega (arith, count, inside) in
    read-moved _ _ _ c.index_mut-handle.result.now _ _ _ _ _ c.first.result.now _ _ in_range c.index_mut-handle.ensures.value
    (sym c.may_take.ensures ∙ c.if-not-may_take.false) c.consume.ensures c.first.ensures c.in-Ok.ensures.ok

pub returns-in-Err : goal.returns-in-Err
returns-in-Err g c =
    let count = c.len.ensures in
    let inside = c.if-h-len.false in
    let in_range : c.args.h < length c.args.handles.now.items = omega (arith, count, inside) in
    let allowed = sym c.may_take.ensures ∙ c.if-not-may_take.false in (
      passes-at _ _ _ c.index_mut-handle.result.now in_range c.index_mut-handle.ensures.value ∙ allowed,
      read-memory g.P.Payloads.takes_memory c.args.ask _ c.index_mut-handle.result.now c.first.result.now allowed c.first.ensures
          c.in-Err.ensures.memory,
      set-same _ _ c.index_mut-handle.result.now _ c.index_mut-handle.ensures.value refl,
      c.in-Err.ensures.err,
    )
