use Rattle.std.proofs.lemmas.Result.{IfOk-weaker}
use Rattle.event_text.proofs.TextLinesRead.{zip-external}
use Rattle.event_text.proofs.text.read_external_events.Goals as goal

pub returns-clause-external : goal.returns-clause-external
returns-clause-external c = IfOk-weaker c.read_lines.result _ _ (λ events. zip-external _ events.items) c.read_lines.ensures.events
