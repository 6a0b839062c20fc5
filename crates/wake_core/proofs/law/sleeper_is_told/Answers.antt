use Rattle.wake_core.proofs.StepSafety.{safe_told}
use Rattle.wake_core.proofs.law.sleeper_is_told.Goals as goal

pub returns : goal.returns
returns c = safe_told
