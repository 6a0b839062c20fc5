use Rattle.event_text.proofs.TextLook.{ends-line}
use Rattle.event_text.proofs.word.is_end.Goals as goal

pub returns-else-is_empty : goal.returns-else-is_empty
returns-else-is_empty c = ends-line c.args.rest.now (let some = c.if-is_empty.false in let is = c.if-is_empty.ensures in cc)
