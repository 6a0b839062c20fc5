-- What a submission under a group does to tokens and requests, whichever the driver. Cited by `OpDriver`.
use Rattle.std.specs.Prelude.{◌≡◌, Some}
use Rattle.rent_buf.specs.Parts.{Parts}
use Rattle.machine.specs.declared.request.Request.{Request}
use Rattle.driver_core.specs.declared.op.Submitted.{Submitted}
use Rattle.driver_core.specs.declared.op.Submitted.TheVariants.{Op, Canceled}
use Rattle.driver_core.specs.Op.{AddsToken, KeepsTokens}
use Rattle.driver_core.specs.Ops.{Ops}
use Rattle.driver_core.specs.Requests.{request_at}

-- A submission made one token, or none under a canceled group.
abbrev pub AddsTokenIf : {B : Type 0} → Ops B → Ops B → Submitted B → Type 0
AddsTokenIf old new (Op op) = AddsToken old new op
AddsTokenIf old new (Canceled back) = KeepsTokens old new × (new.given ≡ old.given)

-- The new operation has the request; under a canceled group that comes back.
abbrev pub GivesBack : {B : Type 0} → Ops B → Request B Parts → Submitted B → Type 0
GivesBack new request (Op op) = request_at new op ≡ Some request
GivesBack new request (Canceled back) = back ≡ request
