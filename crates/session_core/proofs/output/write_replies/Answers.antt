use Rattle.std.proofs.Common.{◌≡◌, ◌+◌, ◌∙◌, ◌++◌, length, ap, refl, subst, arith}
use Rattle.std.specs.Prelude.{Result, Err}
use Rattle.std.proofs.lemmas.Bool.Decides.{nat_tests}
use Rattle.rent_io.proofs.Runs.{rose_later}
use Rattle.event_text.proofs.TextLinesRead.{right-behind}
use Rattle.session_core.specs.DriverKind.{replies_on}
use Rattle.session_core.specs.declared.output.Unwritten.{Unwritten}
use Rattle.session_core.specs.Top.{WrotePrefix, reply_lines}
use Rattle.session_core.proofs.Running.{all-sent, all-stand, cuts-same, first-read, first-right}
use Rattle.session_core.proofs.Running.{ran-cut, ran-next, ran-none, ran-stops, ran-unwritten}
use Rattle.session_core.proofs.Running.{stands-taken}
use Rattle.session_core.proofs.Writing.{sent-all, sent-some}
use Rattle.session_core.proofs.output.write_replies.Goals as goal

pub unreachable-requires : goal.unreachable-requires
unreachable-requires g c =
    first-right g.M.Stepping.kind _ _ c.first_line.result.0.now _ c.loop-rest.invariant.right c.first_line.ensures.lines
    c.in-Ok-None.ensures c.in-Ok-None.field-0-is

pub apply-requires : goal.apply-requires
apply-requires g c =
    let first = first-read g.M.Stepping.kind _ _ c.first_line.result.0.now _ c.in-Ok-Some.event c.first_line.ensures.lines
    c.in-Ok-Some.ensures c.in-Ok-Some.field-0-is in
    stands-taken g.M.Stepping.kind first.line c.in-Ok-Some.event first.stands

pub returns-in-Err-clause-why : goal.returns-in-Err-clause-why
returns-in-Err-clause-why g c = λ events stand.
    ran-cut g.M.Stepping.stands g.M.Stepping.kind g.K.ByteSink.tells _ _ _ _ _ _ _ _ events _ _ _ _ _ _ _
    (c.loop-rest.invariant.ran events stand) c.as_slice.ensures.value c.loop-rest.invariant.faults c.loop-rest.invariant.calm
    c.cut_short.ensures

pub returns-in-Err-clause-stops : goal.returns-in-Err-clause-stops
returns-in-Err-clause-stops g c = λ events stand.
    ran-stops g.M.Stepping.stands g.M.Stepping.kind g.K.ByteSink.tells _ _ _ _ _ _ _ _ events _ _ _ _ _ _ c.first_line.result.0.now _
    (c.loop-rest.invariant.ran events stand) c.as_slice.ensures.value refl c.first_line.ensures.lines c.cut_short.ensures

pub returns-in-Err-apply-clause-why : goal.returns-in-Err-apply-clause-why
returns-in-Err-apply-clause-why g c = λ events stand.
    ran-cut g.M.Stepping.stands g.M.Stepping.kind g.K.ByteSink.tells _ _ _ _ _ _ _ _ events _ _ _ _ _ _ _
    (c.loop-rest.invariant.ran events stand) c.as_slice-in-Err-apply.ensures.value c.loop-rest.invariant.faults
    c.loop-rest.invariant.calm c.cut_short-in-Err-apply.ensures

pub returns-in-Err-apply-clause-stops : goal.returns-in-Err-apply-clause-stops
returns-in-Err-apply-clause-stops g c = λ events stand.
    ran-stops g.M.Stepping.stands g.M.Stepping.kind g.K.ByteSink.tells _ _ _ _ _ _ _ _ events _ _ _ _ _ _ c.first_line.result.0.now _
    (c.loop-rest.invariant.ran events stand) c.as_slice-in-Err-apply.ensures.value refl c.first_line.ensures.lines
    c.cut_short-in-Err-apply.ensures

-- Memory ran out for a reply, so that neither what waits nor the sink has changed.
pub returns-in-Err-OutOfMemory-clause-why : goal.returns-in-Err-OutOfMemory-clause-why
returns-in-Err-OutOfMemory-clause-why g c = λ events stand.
    let same : c.in-Err-OutOfMemory.field-0 ≡ Unwritten.OutOfMemory = c.in-Err-OutOfMemory.field-0-is in
    let is : ◌≡◌ {A = Result (Unit {0}) Unwritten} (Err c.in-Err-OutOfMemory.field-0) (Err Unwritten.OutOfMemory) = cc in
    let short = c.in-Err-OutOfMemory.ensures.short is in
    let cuts = cuts-same g.K.ByteSink.taken g.K.ByteSink.faults g.K.ByteSink.tells c.as_slice-in-Err-OutOfMemory.result.now
    (g.K.ByteSink.taken c.cut_short-in-Err-OutOfMemory.new.sink) (g.K.ByteSink.faults c.cut_short-in-Err-OutOfMemory.new.sink)
    (c.loop-rest.number + 1) c.cut_short-in-Err-OutOfMemory.new.stop c.cut_short-in-Err-OutOfMemory.result c.write_next.new.sink
    c.loop-rest.sink short.1 c.cut_short-in-Err-OutOfMemory.ensures in
    ran-cut g.M.Stepping.stands g.M.Stepping.kind g.K.ByteSink.tells _ _ _ _ _ _ _ _ events _ _ _ _ _ _ _
    (c.loop-rest.invariant.ran events stand) (c.as_slice-in-Err-OutOfMemory.ensures.value ∙ short.0) c.loop-rest.invariant.faults
    c.loop-rest.invariant.calm
    cuts

pub returns-in-Err-OutOfMemory-clause-stops : goal.returns-in-Err-OutOfMemory-clause-stops
returns-in-Err-OutOfMemory-clause-stops g c = λ events stand.
    let same : c.in-Err-OutOfMemory.field-0 ≡ Unwritten.OutOfMemory = c.in-Err-OutOfMemory.field-0-is in
    let is : ◌≡◌ {A = Result (Unit {0}) Unwritten} (Err c.in-Err-OutOfMemory.field-0) (Err Unwritten.OutOfMemory) = cc in
    let short = c.in-Err-OutOfMemory.ensures.short is in
    let cuts = cuts-same g.K.ByteSink.taken g.K.ByteSink.faults g.K.ByteSink.tells c.as_slice-in-Err-OutOfMemory.result.now
    (g.K.ByteSink.taken c.cut_short-in-Err-OutOfMemory.new.sink) (g.K.ByteSink.faults c.cut_short-in-Err-OutOfMemory.new.sink)
    (c.loop-rest.number + 1) c.cut_short-in-Err-OutOfMemory.new.stop c.cut_short-in-Err-OutOfMemory.result c.write_next.new.sink
    c.loop-rest.sink short.1 c.cut_short-in-Err-OutOfMemory.ensures in
    ran-stops g.M.Stepping.stands g.M.Stepping.kind g.K.ByteSink.tells _ _ _ _ _ _ _ _ events _ _ _ _ _ _ c.first_line.result.0.now _
    (c.loop-rest.invariant.ran events stand) (c.as_slice-in-Err-OutOfMemory.ensures.value ∙ short.0) refl c.first_line.ensures.lines
    cuts

pub returns-in-Err-Fault-clause-why : goal.returns-in-Err-Fault-clause-why
returns-in-Err-Fault-clause-why g c = λ events stand.
    let first = first-read g.M.Stepping.kind _ _ c.first_line.result.0.now _ c.in-Ok-Some.event c.first_line.ensures.lines
    c.in-Ok-Some.ensures c.in-Ok-Some.field-0-is in
    ran-unwritten g.M.Stepping.stands g.M.Stepping.kind g.K.ByteSink.tells _ _ c.apply.new.self _ c.first_line.result.1.now
    c.loop-rest.out.items _ (g.K.ByteSink.taken c.loop-rest.sink) _ events _ c.in-Ok-Some.event c.in-Ok.reply _
    (g.K.ByteSink.faults c.loop-rest.sink) _ Unwritten.Fault (c.loop-rest.invariant.ran events stand) first
    c.in-Ok.ensures c.loop-rest.invariant.faults c.loop-rest.invariant.calm
    (rw c.in-Err-Fault.field-0-is at c.in-Err-Fault.ensures.why)

pub loop-rest-init : goal.loop-rest-init
loop-rest-init g c = record {
  right = c.requires.right;
  ran = λ events stand.
      ran-none g.M.Stepping.stands g.M.Stepping.kind g.K.ByteSink.tells c.args.session c.args.text.now _ _ events c.new-out.ensures.items
      stand;
  few = omega arith;
  faults = omega arith;
  calm = λ told. refl;
  unnamed = c.requires.running;
}

pub loop-rest-preserved : goal.loop-rest-preserved
loop-rest-preserved g c =
    let first = first-read g.M.Stepping.kind _ _ c.first_line.result.0.now _ c.in-Ok-Some.event c.first_line.ensures.lines
    c.in-Ok-Some.ensures c.in-Ok-Some.field-0-is in
    record {
      right = right-behind _ _ _ c.first_line.result.0.now c.loop-rest.invariant.right c.first_line.ensures.lines;
      ran = λ events stand.
          ran-next g.M.Stepping.stands g.M.Stepping.kind g.K.ByteSink.tells _ _ c.apply.new.self _ c.first_line.result.1.now
          c.loop-rest.out.items c.write_next.new.out.items _ (g.K.ByteSink.taken c.loop-rest.sink) _ events _ c.in-Ok-Some.event
          c.in-Ok.reply (c.loop-rest.invariant.ran events stand) first c.in-Ok.ensures c.in-Ok-write_next.ensures.ok;
      few = (let less = c.first_line.ensures.less in let few = c.loop-rest.invariant.few in omega arith);
      faults = (let later = c.in-Ok-write_next.ensures.faults in let before = c.loop-rest.invariant.faults in omega arith);
      calm = λ told. c.in-Ok-write_next.ensures.calm told ∙ c.loop-rest.invariant.calm told;
      unnamed = c.loop-rest.invariant.unnamed;
    }

pub returns-in-Ok-write_last-clause-stands : goal.returns-in-Ok-write_last-clause-stands
returns-in-Ok-write_last-clause-stands g c = λ events stand.
    all-stand g.M.Stepping.stands g.M.Stepping.kind g.K.ByteSink.tells _ _ c.loop-rest.rest.now _ _ _ events _
    (c.loop-rest.invariant.ran events stand) (grind (arith, nat_tests))

pub returns-in-Ok-write_last-clause-ok : goal.returns-in-Ok-write_last-clause-ok
returns-in-Ok-write_last-clause-ok g c = λ events stand L begun told.
    let now = g.K.ByteSink.taken c.loop-rest.sink in
    let end : length c.loop-rest.rest.now ≡ 0 = grind (arith, nat_tests) in
    sent-all (reply_lines (replies_on g.M.Stepping.kind L events)) c.loop-rest.out.items _ now _
    (all-sent g.M.Stepping.stands g.M.Stepping.kind g.K.ByteSink.tells _ _ c.loop-rest.rest.now _ _ _ events _
    (c.loop-rest.invariant.ran events stand) end L begun told)
    (c.in-Ok-write_last.ensures.writes.all told ∙ ap (λ xs. now ++ xs) c.as_slice-2.ensures.value)

pub returns-in-Err-write_last-clause-why : goal.returns-in-Err-write_last-clause-why
returns-in-Err-write_last-clause-why g c = λ events stand L begun.
    let now = g.K.ByteSink.taken c.loop-rest.sink in
    let end : length c.loop-rest.rest.now ≡ 0 = grind (arith, nat_tests) in (
      rose_later _ (g.K.ByteSink.faults c.loop-rest.sink) _ c.loop-rest.invariant.faults c.in-Err-write_last.ensures.writes.0,
      λ told.
          sent-some (reply_lines (replies_on g.M.Stepping.kind L events)) c.loop-rest.out.items _ now _
          (all-sent g.M.Stepping.stands g.M.Stepping.kind g.K.ByteSink.tells _ _ c.loop-rest.rest.now _ _ _ events _
          (c.loop-rest.invariant.ran events stand) end L begun told)
          (subst (λ xs. WrotePrefix xs now (g.K.ByteSink.taken c.write_last.new.sink)) c.as_slice-2.ensures.value
          (c.in-Err-write_last.ensures.writes.1 told)),
    )
