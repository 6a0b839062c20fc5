use Rattle.std.proofs.Common.{◌≡◌, ◌++◌, ◌+◌, ◌∙◌, refl, ap, sym, subst, arith, append-nil}
use Rattle.std.proofs.lemmas.Bool.Decides.{nat_tests}
use Rattle.rent_io.specs.Call.{reading, writing}
use Rattle.rent_io.proofs.Runs.{rose_later}
use Rattle.event_text.specs.TextLook.{line_end}
use Rattle.fault_run.specs.Running.{WhyUnread}
use Rattle.fault_run.proofs.Ends.{running-read, session-ends, session-stops, took-on}
use Rattle.fault_run.proofs.Running.{begins, some-so-far}
use Rattle.fault_run.proofs.run.run_session.Goals as goal

pub returns-in_default : goal.returns-in_default
returns-in_default g c = (
  record {
    few = λ told. (0, omega arith, record { there = omega arith; taken = refl });
    read = λ told. refl;
    wrote = λ told. refl;
  },
  some-so-far _ _ _ _ _ c.args.session 0 _ _
      (begins g.S.ByteSource.tells g.K.ByteSink.tells c.args.session (g.S.ByteSource.left c.args.source.now)
      (g.K.ByteSink.taken c.args.sink.now)),
)

pub loop-turn-init : goal.loop-turn-init
loop-turn-init g c = record {
  piece = c.in-Ok.ensures;
  some = omega arith;
  few = omega arith;
  short = (let long = c.new-text.ensures.len in omega arith);
  none = ap line_end c.new-text.ensures.items;
  took = λ told. record { there = omega arith; taken = refl };
  read_order = omega arith;
  read_calm = λ told. refl;
  write_order = omega arith;
  write_calm = λ told. refl;
  running = running-read _ _ _ _ _ c.args.session 0 (g.S.ByteSource.left c.args.source.now) _ _
      (begins g.S.ByteSource.tells g.K.ByteSink.tells c.args.session (g.S.ByteSource.left c.args.source.now)
      (g.K.ByteSink.taken c.args.sink.now))
      (λ told. ap (λ xs. xs ++ g.S.ByteSource.left c.args.source.now) c.new-text.ensures.items);
}

pub returns-in-Ok-eq0 : goal.returns-in-Ok-eq0
returns-in-Ok-eq0 g c =
    let inv = c.loop-turn.invariant in
    let n = c.in-Ok-eq0.field-0 in
    let zero : n ≡ 0 = c.in-Ok-eq0.field-0-test in
    let text = c.read_some.new.text.items in
    session-ends g.S.ByteSource.tells g.K.ByteSink.tells c.args.session
    (reading g.S.ByteSource.left g.S.ByteSource.faults c.args.source.now c.read_some.new.source)
    (writing g.K.ByteSink.taken g.K.ByteSink.faults g.K.ByteSink.is_flushed c.args.sink.now c.finish.new.sink)
    (g.K.ByteSink.faults c.loop-turn.sink) (c.loop-turn.taken + n) c.finish.result
    (c.finish.ensures _ _ _ _
    (running-read _ _ _ _ _ c.loop-turn.running c.loop-turn.ran _ c.as_slice.result.now _ inv.running
    (λ told. c.as_slice.ensures.value ∙ sym (append-nil text) ∙ ap (λ xs. text ++ xs) (sym (c.in-Ok-eq0.ensures.end zero told))
    ∙ c.in-Ok-eq0.ensures.joined told)))
    inv.write_order inv.write_calm c.in-Ok-eq0.ensures.few
    (λ told. took-on _ (g.S.ByteSource.left c.loop-turn.source) _ c.loop-turn.taken n (inv.took told) (c.in-Ok-eq0.ensures.took told))
    (λ told. c.in-Ok-eq0.ensures.calm told ∙ inv.read_calm told)
    (c.in-Ok-eq0.ensures.end zero)

pub returns-in-Err-TooLong : goal.returns-in-Err-TooLong
returns-in-Err-TooLong g c =
    let inv = c.loop-turn.invariant in
    let why = subst (λ w. WhyUnread g.S.ByteSource.tells c.loop-turn.taken (g.S.ByteSource.left c.loop-turn.source)
    (g.S.ByteSource.left c.read_some.new.source) (g.S.ByteSource.faults c.loop-turn.source)
    (g.S.ByteSource.faults c.read_some.new.source) w) c.in-Err-TooLong.field-0-is c.in-Err-TooLong.ensures.why in (
      λ told.
          let more = why told in
          let both = took-on _ (g.S.ByteSource.left c.loop-turn.source) _ c.loop-turn.taken more.0 (inv.took told) more.2 in
          record { count = c.loop-turn.taken + more.0; many = more.1; there = both.there; taken = both.taken },
      (c.loop-turn.ran, some-so-far _ _ _ _ _ c.loop-turn.running c.loop-turn.ran _ _ inv.running),
    )

pub returns-in-Err-Fault : goal.returns-in-Err-Fault
returns-in-Err-Fault g c =
    let inv = c.loop-turn.invariant in
    let why = subst (λ w. WhyUnread g.S.ByteSource.tells c.loop-turn.taken (g.S.ByteSource.left c.loop-turn.source)
    (g.S.ByteSource.left c.read_some.new.source) (g.S.ByteSource.faults c.loop-turn.source)
    (g.S.ByteSource.faults c.read_some.new.source) w) c.in-Err-Fault.field-0-is c.in-Err-Fault.ensures.why in (
      rose_later (g.S.ByteSource.faults c.args.source.now) (g.S.ByteSource.faults c.loop-turn.source) _ inv.read_order why,
      (c.loop-turn.ran, some-so-far _ _ _ _ _ c.loop-turn.running c.loop-turn.ran _ _ inv.running),
    )

pub returns-in_default-from_slice : goal.returns-in_default-from_slice
returns-in_default-from_slice g c =
    let inv = c.loop-turn.invariant in
    let n = c.in-Ok-read_some.count in
    let now = g.S.ByteSource.left c.read_some.new.source in (
      record {
        few = λ told. (
          c.loop-turn.taken + n,
          c.in-Ok-read_some.ensures.few,
          took-on _ (g.S.ByteSource.left c.loop-turn.source) _ c.loop-turn.taken n (inv.took told) (c.in-Ok-read_some.ensures.took told),
        );
        read = λ told. c.in-Ok-read_some.ensures.calm told ∙ inv.read_calm told;
        wrote = λ told. c.in-Ok-run_lines.ensures.calm told ∙ inv.write_calm told;
      },
      some-so-far _ _ _ _ _ c.run_lines.new.session (c.loop-turn.ran + c.in-Ok-run_lines.count) _ _
          (c.in-Ok-run_lines.ensures.ok _ _ _ _ now
          (running-read _ _ _ _ _ c.loop-turn.running c.loop-turn.ran _ (c.as_slice-in-loop-turn.result.now ++ now) _ inv.running
          (λ told. ap (λ xs. xs ++ now) c.as_slice-in-loop-turn.ensures.value ∙ c.in-Ok-read_some.ensures.joined told))),
    )

pub returns-in-Err : goal.returns-in-Err
returns-in-Err g c =
    let inv = c.loop-turn.invariant in
    let n = c.in-Ok-read_some.count in
    let now = g.S.ByteSource.left c.read_some.new.source in
    session-stops g.S.ByteSource.tells g.K.ByteSink.tells c.args.session
    (reading g.S.ByteSource.left g.S.ByteSource.faults c.args.source.now c.read_some.new.source)
    (writing g.K.ByteSink.taken g.K.ByteSink.faults g.K.ByteSink.is_flushed c.args.sink.now c.run_lines.new.sink)
    (g.K.ByteSink.faults c.loop-turn.sink) (c.loop-turn.taken + n) c.in-Err.ending
    (c.in-Err.ensures.why _ _ _ _ now
    (running-read _ _ _ _ _ c.loop-turn.running c.loop-turn.ran _ (c.as_slice-in-loop-turn.result.now ++ now) _ inv.running
    (λ told. ap (λ xs. xs ++ now) c.as_slice-in-loop-turn.ensures.value ∙ c.in-Ok-read_some.ensures.joined told)))
    inv.write_order inv.write_calm c.in-Ok-read_some.ensures.few
    (λ told. took-on _ (g.S.ByteSource.left c.loop-turn.source) _ c.loop-turn.taken n (inv.took told) (c.in-Ok-read_some.ensures.took told))
    (λ told. c.in-Ok-read_some.ensures.calm told ∙ inv.read_calm told)

pub loop-turn-preserved : goal.loop-turn-preserved
loop-turn-preserved g c =
    let inv = c.loop-turn.invariant in
    let n = c.in-Ok-read_some.count in
    let now = g.S.ByteSource.left c.read_some.new.source in
    record {
      piece = c.read_some.ensures.piece ∙ inv.piece;
      some = (let some = inv.some in grind (arith, nat_tests, c.in-Ok-read_some.count-test));
      few = c.in-Ok-read_some.ensures.few;
      short = (let short = inv.short in
          let read = c.in-Ok-read_some.ensures.count in
          let few = c.in-Ok-run_lines.ensures.few in
          let kept = c.in-Ok-from_slice.ensures.len in
          let seen = c.as_slice-in-loop-turn.ensures.len in
          omega arith);
      none = ap line_end c.in-Ok-from_slice.ensures.items ∙ c.in-Ok-run_lines.ensures.last;
      took = λ told.
          took-on _ (g.S.ByteSource.left c.loop-turn.source) _ c.loop-turn.taken n (inv.took told) (c.in-Ok-read_some.ensures.took told);
      read_order = (let later = c.in-Ok-read_some.ensures.order in let before = inv.read_order in omega arith);
      read_calm = λ told. c.in-Ok-read_some.ensures.calm told ∙ inv.read_calm told;
      write_order = (let later = c.in-Ok-run_lines.ensures.order in let before = inv.write_order in omega arith);
      write_calm = λ told. c.in-Ok-run_lines.ensures.calm told ∙ inv.write_calm told;
      running = running-read _ _ _ _ _ c.run_lines.new.session (c.loop-turn.ran + c.in-Ok-run_lines.count)
          (c.in-Ok-run_lines.rest.now ++ now) _ _
          (c.in-Ok-run_lines.ensures.ok _ _ _ _ now
          (running-read _ _ _ _ _ c.loop-turn.running c.loop-turn.ran _ (c.as_slice-in-loop-turn.result.now ++ now) _ inv.running
          (λ told. ap (λ xs. xs ++ now) c.as_slice-in-loop-turn.ensures.value ∙ c.in-Ok-read_some.ensures.joined told)))
          (λ told. ap (λ xs. xs ++ now) c.in-Ok-from_slice.ensures.items);
    }

pub returns-in-Err-OutOfMemory : goal.returns-in-Err-OutOfMemory
returns-in-Err-OutOfMemory g c =
    let inv = c.loop-turn.invariant in
    let why = subst (λ w. WhyUnread g.S.ByteSource.tells c.loop-turn.taken (g.S.ByteSource.left c.loop-turn.source)
    (g.S.ByteSource.left c.read_some.new.source) (g.S.ByteSource.faults c.loop-turn.source)
    (g.S.ByteSource.faults c.read_some.new.source) w) c.in-Err-OutOfMemory.field-0-is c.in-Err-OutOfMemory.ensures.why in (
      record {
        few = λ told.
            (let more = why.2 told in (
              c.loop-turn.taken + more.0,
              more.1,
              took-on _ (g.S.ByteSource.left c.loop-turn.source) _ c.loop-turn.taken more.0 (inv.took told) more.2,
            ));
        read = λ told. why.1 told ∙ inv.read_calm told;
        wrote = inv.write_calm;
      },
      some-so-far _ _ _ _ _ c.loop-turn.running c.loop-turn.ran _ _ inv.running,
    )
