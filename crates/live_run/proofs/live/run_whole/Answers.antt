use Rattle.std.proofs.Common.{◌≡◌, ◌∙◌, ◌++◌, ℕ, List, [], refl, subst, arith}
use Rattle.event_text.specs.TextLook.{line_end}
use Rattle.live_run.specs.Living.{GoesFor}
use Rattle.live_run.proofs.Cutting.{lines-whole-more}
use Rattle.live_run.proofs.Giving.{stops-later}
use Rattle.live_run.proofs.Living.{line-goes, line-stops}
use Rattle.live_run.proofs.Taking.{behind-left, behind-shorter, whole-left}
use Rattle.live_run.proofs.live.run_whole.Goals as goal

pub loop-line-init : goal.loop-line-init
loop-line-init g c = record {
  part = whole-left c.args.text.now;
  fits = omega arith;
  few = omega arith;
  goes = λ ts L all more taken at. at;
  unnamed = c.requires.running;
  order = omega arith;
  calm = λ told. refl;
}

pub loop-line-preserved : goal.loop-line-preserved
loop-line-preserved g c =
    let whole = c.in-Some.ensures.whole in
    let shorter = behind-shorter _ _ _ whole.is in
    record {
      part = behind-left c.args.text.now _ _ _ c.loop-line.invariant.part c.loop-line.invariant.fits whole.is;
      fits = (let fits = c.loop-line.invariant.fits in omega arith);
      few = (let few = c.loop-line.invariant.few in omega arith);
      goes = λ ts L all more taken at.
          line-goes ts g.K.ByteSink.tells L all _ _ (c.in-Some.behind.now ++ more) _ _ taken _ _ _ _
          (c.loop-line.invariant.goes ts L all more taken at) (lines-whole-more _ _ _ more whole) refl c.in-Ok.ensures.runs;
      unnamed = c.in-Ok.ensures.unnamed;
      order = (let one = c.loop-line.invariant.order in let two = c.in-Ok.ensures.order in omega arith);
      calm = λ told. c.in-Ok.ensures.calm told ∙ c.loop-line.invariant.calm told;
    }

pub returns-clause-rest : goal.returns-clause-rest
returns-clause-rest g c = subst (λ (xs : List ℕ). line_end xs ≡ []) c.loop-line.invariant.part c.in_default.ensures.none

pub returns-clause-goes : goal.returns-clause-goes
returns-clause-goes g c =
    subst (λ (xs : List ℕ). GoesFor g.K.ByteSink.tells c.args.text.now xs c.args.session.now c.loop-line.session
    (g.K.ByteSink.taken c.args.sink.now) (g.K.ByteSink.taken c.loop-line.sink) c.args.ran c.loop-line.ran) c.loop-line.invariant.part
    c.loop-line.invariant.goes

pub returns-in-Err-clause-ends : goal.returns-in-Err-clause-ends
returns-in-Err-clause-ends g c = λ ts L all more taken at.
    line-stops ts g.K.ByteSink.tells L all _ _ (c.in-Some.behind.now ++ more) _ _ taken _ _ _ _ _ c.in-Err.status
    (c.loop-line.invariant.goes ts L all more taken at) (lines-whole-more _ _ _ more c.in-Some.ensures.whole) refl c.in-Err.ensures.runs

pub returns-in-Err-clause-why : goal.returns-in-Err-clause-why
returns-in-Err-clause-why g c =
    stops-later g.K.ByteSink.tells (g.K.ByteSink.taken c.args.sink.now) (g.K.ByteSink.taken c.loop-line.sink)
    (g.K.ByteSink.taken c.run_line.new.sink) (g.K.ByteSink.faults c.args.sink.now) (g.K.ByteSink.faults c.loop-line.sink)
    (g.K.ByteSink.faults c.run_line.new.sink) (g.K.ByteSink.is_flushed c.run_line.new.sink) c.in-Err.status
    c.loop-line.invariant.order c.loop-line.invariant.calm c.in-Err.ensures.why
