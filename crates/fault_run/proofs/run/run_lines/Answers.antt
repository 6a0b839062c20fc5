use Rattle.std.proofs.Common.{◌≡◌, ◌+◌, ◌-◌, ◌∙◌, drop, take, length, sym, subst, arith}
use Rattle.std.proofs.lemmas.List.{length-drop}
use Rattle.memchr.specs.Find.{IsFirstByte, is_byte}
use Rattle.event_text.proofs.TextCuts.{take-rest}
use Rattle.fault_run.specs.Running.{AnswersLines}
use Rattle.fault_run.proofs.Cutting.{found-line, found-none, found-none_before, found-within}
use Rattle.fault_run.proofs.Running.{lines-next, lines-stop}
use Rattle.fault_run.proofs.run.run_lines.Goals as goal

pub run_line-requires-clause-one : goal.run_line-requires-clause-one
run_line-requires-clause-one g c =
    found-none_before c.loop-at.rest.now c.in-Some.at
    (subst (λ r. IsFirstByte (is_byte 10) c.loop-at.rest.now r) c.in-Some.is c.memchr.ensures)

pub returns-in-Err-clause-why : goal.returns-in-Err-clause-why
returns-in-Err-clause-why g c =
    let rest = c.loop-at.rest.now in
    lines-stop g.K.ByteSink.tells c.args.session.now c.loop-at.session c.args.ran c.loop-at.count c.args.text.now _ rest
    (take c.in-Some.at rest) (drop (c.in-Some.at + 1) rest) _ _ _ (g.K.ByteSink.faults c.loop-at.sink) _ _ c.in-Err.ending
    c.loop-at.invariant.answered
    (found-line rest c.in-Some.at (subst (λ r. IsFirstByte (is_byte 10) rest r) c.in-Some.is c.memchr.ensures))
    c.loop-at.invariant.order c.loop-at.invariant.calm c.in-Err.ensures.why

pub loop-at-preserved : goal.loop-at-preserved
loop-at-preserved g c =
    let rest = c.loop-at.rest.now in
    let at = c.in-Some.at in
    let found = subst (λ r. IsFirstByte (is_byte 10) rest r) c.in-Some.is c.memchr.ensures in
    let behind : take (length rest - (at + 1)) (drop (at + 1) rest) ≡ drop (at + 1) rest = take-rest rest (at + 1) in
    record {
      answered = subst (λ xs. AnswersLines g.K.ByteSink.tells c.args.session.now c.args.ran c.args.text.now
          (g.K.ByteSink.taken c.args.sink.now) c.run_line.new.session (c.loop-at.count + 1) xs (g.K.ByteSink.taken c.run_line.new.sink))
          (sym behind)
          (lines-next g.K.ByteSink.tells c.args.session.now c.loop-at.session c.run_line.new.session c.args.ran c.loop-at.count
          c.args.text.now _ rest (take at rest) (drop (at + 1) rest) _ _ c.loop-at.invariant.answered (found-line rest at found)
          c.in-Ok.ensures.ok);
      few = (let within = found-within rest at found in
          let few = c.loop-at.invariant.few in
          let size = length-drop (at + 1) rest in
          rw behind (omega arith));
      order = (let later = c.in-Ok.ensures.order in let before = c.loop-at.invariant.order in omega arith);
      calm = λ told. c.in-Ok.ensures.calm told ∙ c.loop-at.invariant.calm told;
    }

pub returns-clause-last : goal.returns-clause-last
returns-clause-last g c =
    found-none c.loop-at.rest.now (subst (λ r. IsFirstByte (is_byte 10) c.loop-at.rest.now r) c.in_default.is c.memchr.ensures)
