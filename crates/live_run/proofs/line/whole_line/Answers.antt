use Rattle.std.proofs.Common.{◌+◌}
use Rattle.event_text.proofs.TextCuts.{take-rest}
use Rattle.live_run.proofs.Cutting.{none-at, whole-at}
use Rattle.live_run.proofs.line.whole_line.Goals as goal

pub returns-in-Some-clause-whole : goal.returns-in-Some-clause-whole
returns-in-Some-clause-whole c =
    rw (take-rest c.args.text.now (c.in-Some.at + 1))
    (whole-at c.args.text.now c.in-Some.at c.in-Some.ensures.0.high c.in-Some.ensures.0.before c.in-Some.ensures.1)

pub returns-in-None-clause-none : goal.returns-in-None-clause-none
returns-in-None-clause-none c = none-at c.args.text.now c.in-None.ensures
