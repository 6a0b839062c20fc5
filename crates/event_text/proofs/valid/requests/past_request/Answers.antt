use Rattle.std.proofs.Common.{◌∙◌, ap}
use Rattle.std.specs.Option.{is_some}
use Rattle.event_text.proofs.TextFirsts.{request-first}
use Rattle.event_text.proofs.valid.requests.past_request.Goals as goal

pub returns-clause-reads : goal.returns-clause-reads
returns-clause-reads c = c.past_named.ensures.reads ∙ ap is_some (request-first _)
