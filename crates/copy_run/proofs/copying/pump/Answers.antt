use Rattle.std.proofs.Common.{◌≡◌, ◌<◌, ◌∙◌, ◌++◌, append-nil, ap, arith, eqb, length, length-drop, sym}
use Rattle.std.proofs.lemmas.Bool.Decides.{nat_tests}
use Rattle.stream_util.specs.PrefixedReadIo.{prefix_left}
use Rattle.copy_run.specs.Pieces.{delivered_by}
use Rattle.copy_run.proofs.Endings.{copied-first, given-back, tells-both, took-more-than}
use Rattle.copy_run.proofs.Pumps.{budget_fill, budget_piece, fill_smaller, joins_fill, joins_piece, kept_in, left_more, none_behind}
use Rattle.copy_run.proofs.Pumps.{nothing_there, run_rose, run_waits, some_there}
use Rattle.copy_run.proofs.copying.pump.Goals as goal

pub loop-next-preserved-in-Again : goal.loop-next-preserved-in-Again
loop-next-preserved-in-Again g c =
    let piece = c.copy_piece-step.ensures in
    let moved = kept_in c.in-Again.is piece.moved in
    let tell = tells-both g.S.ByteSource.tells in
    (joins_piece tell moved c.loop-next.invariant.0, budget_piece tell moved _ _ _ piece.within c.loop-next.invariant.1)

pub loop-next-preserved : goal.loop-next-preserved
loop-next-preserved g c =
    let piece = c.copy_piece-step.ensures in
    let moved = kept_in c.in-Pending.is piece.moved in
    let tell = tells-both g.S.ByteSource.tells in
    let filled = c.refill.ensures.left in (
      joins_fill (joins_piece tell moved c.loop-next.invariant.0) filled,
      budget_fill _ _ _ _ _ (budget_piece tell moved c.loop-next.budget _ _ piece.within c.loop-next.invariant.1) filled,
    )

pub loop-next-smaller : goal.loop-next-smaller
loop-next-smaller g c =
    let piece = c.copy_piece-step in
    let waits = run_waits _ piece.result.1 _ _ c.loop-next.copy c.in-Pending.next _ c.in-Pending.is piece.ensures.runs in
    let test = c.is_empty.ensures ∙ ap (λ l. eqb (length l) 0) c.buffer.ensures.value in
    let count : length c.refill.new.reader.held ≡ c.in-Ok.field-0 = c.in-Ok.ensures.count in
    let some : 0 < length c.refill.new.reader.held = grind (arith, nat_tests, c.in-Ok.field-0-is) in
    fill_smaller c.loop-next.budget piece.result.1 _ _ c.loop-next.reader.held c.refill.new.reader.held piece.ensures.within waits.1
    (sym piece.ensures.buffered ∙ nothing_there piece.new.reader.held c.is_empty.result test c.if-not-is_empty.false) some

pub returns-in-Ready-clause-ends : goal.returns-in-Ready-clause-ends
returns-in-Ready-clause-ends g c =
    let piece = c.copy_piece-step in
    let w = piece.new.writer.writer in
    let joins = joins_piece (tells-both g.S.ByteSource.tells) (kept_in c.in-Ready.is piece.ensures.moved) c.loop-next.invariant.0 in
    given-back g.S.ByteSource.left g.S.ByteSource.faults g.K.ByteSink.taken g.K.ByteSink.faults g.K.ByteSink.is_flushed
    _ _ _ _ _ _ _ _ _ _ _ _ _ _ c.give_up.ensures.source c.give_up.ensures.sink c.give_up.ensures.ending (
      run_rose _ piece.result.1 _ (g.K.ByteSink.faults c.loop-next.writer.writer.inner.sink.sink.now) _ c.loop-next.copy _
          c.in-Ready.field-0 c.in-Ready.is c.loop-next.writer.writer.inner.sink.home.order piece.ensures.runs,
      copied-first _ _ _ _ (g.K.ByteSink.taken w.inner.sink.sink.now) w.held c.in-Ready.field-0.rest _ w.inner.sink.home.grew joins.joined,
    )

pub returns-then-not-is_empty-clause-ends : goal.returns-then-not-is_empty-clause-ends
returns-then-not-is_empty-clause-ends g c =
    let piece = c.copy_piece-step in
    let new = piece.new.reader in
    let w = piece.new.writer.writer in
    let moved = kept_in c.in-Pending.is piece.ensures.moved in
    let joins = joins_piece (tells-both g.S.ByteSource.tells) moved c.loop-next.invariant.0 in
    let waits = run_waits _ piece.result.1 _ _ c.loop-next.copy c.in-Pending.next _ c.in-Pending.is piece.ensures.runs in
    let test = c.is_empty.ensures ∙ ap (λ l. eqb (length l) 0) c.buffer.ensures.value in
    let some = some_there new.held c.is_empty.result test c.if-not-is_empty.true in
    let behind = g.S.ByteSource.left new.inner.io.source.now in
    let ends = c.give_up-then-not-is_empty.ensures in
    given-back g.S.ByteSource.left g.S.ByteSource.faults g.K.ByteSink.taken g.K.ByteSink.faults g.K.ByteSink.is_flushed
    _ _ _ _ _ _ _ _ _ _ _ _ _ _ ends.source ends.sink ends.ending (
      (λ s. let budget = budget_piece (tells-both g.S.ByteSource.tells) moved c.loop-next.budget g.P.Places.most (length g.P.Places.left)
          piece.ensures.within c.loop-next.invariant.1 s in
          took-more-than g.P.Places.left behind g.P.Places.most (new.inner.io.home.gave s)
          (left_more new.held (prefix_left new.inner.finished new.inner.prefix) behind g.P.Places.left g.P.Places.most
          (omega (arith, budget, waits.0, length-drop piece.result.1 c.loop-next.reader.held, ap length piece.ensures.buffered, some))
          some)),
      copied-first _ _ _ _ (g.K.ByteSink.taken w.inner.sink.sink.now) w.held c.in-Pending.next.held _ w.inner.sink.home.grew joins.joined,
    )

pub returns-in-Err-clause-ends : goal.returns-in-Err-clause-ends
returns-in-Err-clause-ends g c =
    let piece = c.copy_piece-step in
    let w = piece.new.writer.writer in
    let joins = joins_piece (tells-both g.S.ByteSource.tells) (kept_in c.in-Pending.is piece.ensures.moved) c.loop-next.invariant.0 in
    let ends = c.give_up-in-Err.ensures in
    given-back g.S.ByteSource.left g.S.ByteSource.faults g.K.ByteSink.taken g.K.ByteSink.faults g.K.ByteSink.is_flushed
    _ _ _ _ _ _ _ _ _ _ _ _ _ _ ends.source ends.sink ends.ending (
      omega (arith, piece.new.reader.inner.io.home.order, c.in-Err.ensures.failed),
      copied-first _ _ _ _ (g.K.ByteSink.taken w.inner.sink.sink.now) w.held c.in-Pending.next.held _ w.inner.sink.home.grew
          (joins_fill joins c.refill.ensures.left).joined,
    )

pub drain-requires-clause-ended : goal.drain-requires-clause-ended
drain-requires-clause-ended g c = λ s.
    let filled = c.refill.new.reader in
    let zero : c.in-Ok-eq0.field-0 ≡ 0 = grind (arith, nat_tests, c.in-Ok-eq0.field-0-is) in
    ap (λ x. g.S.ByteSource.left x.source.now) c.source_of.ensures
    ∙ none_behind filled.held (prefix_left filled.inner.finished filled.inner.prefix) (g.S.ByteSource.left filled.inner.io.source.now)
    (c.in-Ok-eq0.ensures.end zero s)

pub drain-requires-clause-all : goal.drain-requires-clause-all
drain-requires-clause-all g c =
    let piece = c.copy_piece-step in
    let w = piece.new.writer.writer in
    let joins = joins_piece (tells-both g.S.ByteSource.tells) (kept_in c.in-Pending.is piece.ensures.moved) c.loop-next.invariant.0 in
    let zero : c.in-Ok-eq0.field-0 ≡ 0 = grind (arith, nat_tests, c.in-Ok-eq0.field-0-is) in
    let held = delivered_by (g.K.ByteSink.taken w.inner.sink.sink.now) w ++ c.in-Pending.next.held in
    λ s k. sym (append-nil held) ∙ ap (λ l. held ++ l) (sym (c.in-Ok-eq0.ensures.end zero s))
    ∙ (joins_fill joins c.refill.ensures.left).joined s k
