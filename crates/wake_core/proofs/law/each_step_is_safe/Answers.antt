use Rattle.wake_core.proofs.StepSafety.{safe_first, safe_step, safe_steps}
use Rattle.wake_core.proofs.law.each_step_is_safe.Goals as goal

pub returns-clause-first : goal.returns-clause-first
returns-clause-first c = safe_first

pub returns-clause-step : goal.returns-clause-step
returns-clause-step c = safe_step

pub returns-clause-steps : goal.returns-clause-steps
returns-clause-steps c = safe_steps
