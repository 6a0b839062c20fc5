use Rattle.std.proofs.Common.{◌≡◌, ◌<◌, [], length, refl, arith}
use Rattle.std.proofs.lemmas.Bool.Decides.{nat_tests}
use Rattle.live_run.proofs.Cutting.{lines-last}
use Rattle.live_run.proofs.Giving.{all-flushed, flush-stops}
use Rattle.live_run.proofs.Living.{all-ran, line-goes, line-stops}
use Rattle.live_run.proofs.live.finish.Goals as goal

pub returns-in-Ok-clause-gives : goal.returns-in-Ok-clause-gives
returns-in-Ok-clause-gives g c = λ ts L all taken at.
    let none : length c.args.text.now ≡ 0 = grind (arith, nat_tests) in
    all-flushed ts g.K.ByteSink.tells L all _ _ taken _ _ _ at none c.in-Ok.ensures.2

pub returns-in-Err-clause-gives : goal.returns-in-Err-clause-gives
returns-in-Err-clause-gives g c = λ ts L all taken at.
    flush-stops ts g.K.ByteSink.tells L all _ _ taken _ _ _ at c.in-Err.ensures.3

pub returns-in-Ok-run_line-clause-gives : goal.returns-in-Ok-run_line-clause-gives
returns-in-Ok-run_line-clause-gives g c = λ ts L all taken at.
    let some : 0 < length c.args.text.now = grind (arith, nat_tests) in
    all-ran ts g.K.ByteSink.tells L all [] _ taken _ _
    (line-goes ts g.K.ByteSink.tells L all _ c.args.text.now [] _ _ taken _ _ _ _ at (lines-last c.args.text.now c.requires.one some) refl
    c.in-Ok-run_line.ensures.runs)
    refl

pub returns-in-Err-run_line-clause-gives : goal.returns-in-Err-run_line-clause-gives
returns-in-Err-run_line-clause-gives g c = λ ts L all taken at.
    let some : 0 < length c.args.text.now = grind (arith, nat_tests) in
    line-stops ts g.K.ByteSink.tells L all _ c.args.text.now [] _ _ taken _ _ _ _ _ c.in-Err-run_line.status at
    (lines-last c.args.text.now c.requires.one some) refl c.in-Err-run_line.ensures.runs
