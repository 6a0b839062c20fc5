use Rattle.event_text.proofs.TextEvents.{one_text, stands_once}
use Rattle.event_text.proofs.text.texts_differ.Goals as goal

pub returns-clause-events : goal.returns-clause-events
returns-clause-events c = one_text

pub returns-clause-lines : goal.returns-clause-lines
returns-clause-lines c = stands_once
