use Rattle.std.proofs.Common.{◌≡◌, subst}
use Rattle.std.specs.Prelude.{IfOk}
use Rattle.event_text.proofs.TextFirsts.{request-first}
use Rattle.event_text.proofs.request.read_request.Goals as goal

pub returns : goal.returns
returns c = subst (λ o. IfOk c.named_request.result (λ request. request ≡ o)) (request-first _) c.named_request.ensures
