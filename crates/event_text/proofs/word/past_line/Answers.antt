use Rattle.event_text.proofs.TextLook.{line_end-here}
use Rattle.event_text.proofs.word.past_line.Goals as goal

pub returns-then-is_end-clause-past : goal.returns-then-is_end-clause-past
returns-then-is_end-clause-past c = line_end-here c.args.rest.now (let same = c.is_end.ensures in let is = c.if-is_end.true in cc)
