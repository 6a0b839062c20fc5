use Rattle.std.proofs.Common.{◌≡◌, ◌+◌, ◌∙◌, ◌++◌, ℕ, List, [], drop, length, append-nil, ap, refl, subst, sym, arith}
use Rattle.std.proofs.lemmas.List.{length-drop}
use Rattle.event_text.specs.TextLook.{line_end}
use Rattle.live_run.proofs.Giving.{finish-gives, live-moved, live-none, stop-gives, unread-gives}
use Rattle.live_run.proofs.Taking.{took-all, took-both, took-none}
use Rattle.live_run.proofs.live.run_pieces.Goals as goal

pub loop-turn-init : goal.loop-turn-init
loop-turn-init g c = record {
  piece = c.requires.piece;
  some = omega arith;
  few = omega arith;
  lines = (let none = ap length c.new-text.ensures.items in omega arith);
  one = ap line_end c.new-text.ensures.items;
  order = omega arith;
  calm = λ told. refl;
  sink_order = omega arith;
  sink_calm = λ told. refl;
  took = λ told. took-none (g.S.ByteSource.left c.args.source.now);
  at = λ L stands.
      live-none g.S.ByteSource.tells g.K.ByteSink.tells L _ _ _ _
      (ap (λ (xs : List ℕ). xs ++ g.S.ByteSource.left c.args.source.now) c.new-text.ensures.items) stands;
  unnamed = c.requires.running;
}

pub returns-in-Err : goal.returns-in-Err
returns-in-Err g c = λ L stands.
    unread-gives g.S.ByteSource.tells g.K.ByteSink.tells L _ (g.S.ByteSource.left c.loop-turn.source) _ _ _ _ _ _ c.loop-turn.taken _
    (g.S.ByteSource.faults c.loop-turn.source) _ _ _ _ _ c.in-Err.status (c.loop-turn.invariant.at L stands) c.loop-turn.invariant.took
    c.loop-turn.invariant.order c.loop-turn.invariant.calm c.loop-turn.invariant.sink_calm c.loop-turn.invariant.unnamed
    c.in-Err.ensures.why

pub returns-then-count-eq0 : goal.returns-then-count-eq0
returns-then-count-eq0 g c = λ L stands.
    let inv = c.loop-turn.invariant in
    let read = c.in-Ok.ensures in
    let left = g.S.ByteSource.left in
    finish-gives g.S.ByteSource.tells g.K.ByteSink.tells L _ _ (g.K.ByteSink.taken c.loop-turn.sink) _ _
    (g.K.ByteSink.faults c.loop-turn.sink) _ _ _ _ _ _ c.finish.result
    (live-moved g.S.ByteSource.tells g.K.ByteSink.tells L _ _ c.as_slice.result.now _ _ _ _ (inv.at L stands)
    (λ told. c.as_slice.ensures.value ∙ sym (append-nil c.read_more.new.text.items)
    ∙ ap (λ (xs : List ℕ). c.read_more.new.text.items ++ xs) (sym (read.past c.if-count-eq0.true told)) ∙ read.joined told))
    c.finish.ensures.gives c.finish.ensures.unnamed c.finish.ensures.flushed c.finish.ensures.why
    (λ told. read.past c.if-count-eq0.true told)
    (λ told.
    let both = took-both _ _ _ c.loop-turn.taken c.in-Ok.count (inv.took told) (read.took told) in
    let all = took-all _ _ _ both (read.past c.if-count-eq0.true told) in
    let few = read.few in
    omega arith)
    (λ told. read.calm told ∙ inv.calm told) inv.sink_order inv.sink_calm

pub returns-in-Err-run_whole : goal.returns-in-Err-run_whole
returns-in-Err-run_whole g c = λ L stands.
    let inv = c.loop-turn.invariant in
    let read = c.in-Ok.ensures in
    stop-gives g.S.ByteSource.tells g.K.ByteSink.tells L _ _ (g.K.ByteSink.taken c.loop-turn.sink) _ _
    (g.K.ByteSink.faults c.loop-turn.sink) _ _ _ c.in-Err-run_whole.status
    (c.in-Err-run_whole.ensures.ends g.S.ByteSource.tells L _ (g.S.ByteSource.left c.read_more.new.source) _
    (live-moved g.S.ByteSource.tells g.K.ByteSink.tells L _ _ _ _ _ _ _ (inv.at L stands)
    (λ told. ap (λ (xs : List ℕ). xs ++ g.S.ByteSource.left c.read_more.new.source) c.as_slice-in-loop-turn.ensures.value
    ∙ read.joined told)))
    (λ told. read.calm told ∙ inv.calm told) inv.sink_order inv.sink_calm c.in-Err-run_whole.ensures.why

pub loop-turn-preserved : goal.loop-turn-preserved
loop-turn-preserved g c =
    let inv = c.loop-turn.invariant in
    let read = c.in-Ok.ensures in
    let ran = c.in-Ok-run_whole.ensures in
    let rest = c.cut_front.ensures ∙ ap (drop c.in-Ok-run_whole.done.bytes) (sym c.as_slice-in-loop-turn.ensures.value) in
    record {
      piece = read.piece ∙ inv.piece;
      some = (let some = inv.some in let more = c.if-count-eq0.false in omega arith);
      few = read.few;
      lines = (
          let lines = inv.lines in
          let longer = read.longer in
          let few = ran.few in
          let within = ran.within in
          let cut = ap length c.cut_front.ensures ∙ length-drop c.in-Ok-run_whole.done.bytes c.read_more.new.text.items in
          omega arith);
      one = subst (λ (xs : List ℕ). line_end xs ≡ []) (sym rest) ran.rest;
      order = (let one = inv.order in let two = read.order in omega arith);
      calm = λ told. read.calm told ∙ inv.calm told;
      sink_order = (let one = inv.sink_order in let two = ran.order in omega arith);
      sink_calm = λ told. ran.calm told ∙ inv.sink_calm told;
      took = λ told. took-both _ _ _ c.loop-turn.taken c.in-Ok.count (inv.took told) (read.took told);
      at = λ L stands.
          live-moved g.S.ByteSource.tells g.K.ByteSink.tells L _ _ _ _ _ _ _
          (ran.goes g.S.ByteSource.tells L _ (g.S.ByteSource.left c.read_more.new.source) _
          (live-moved g.S.ByteSource.tells g.K.ByteSink.tells L _ _ _ _ _ _ _ (inv.at L stands)
          (λ told. ap (λ (xs : List ℕ). xs ++ g.S.ByteSource.left c.read_more.new.source) c.as_slice-in-loop-turn.ensures.value
          ∙ read.joined told)))
          (λ told. ap (λ (xs : List ℕ). xs ++ g.S.ByteSource.left c.read_more.new.source) rest);
      unnamed = ran.unnamed;
    }
