use Rattle.driver_core.specs.Op.{number_of}
use Rattle.driver_core.proofs.SlotTokens.{none-held}
use Rattle.driver_core.proofs.operations.Operations.new.Goals as goal

pub invariant_of-result : goal.invariant_of-result
invariant_of-result g c = λ key number held. absurd (none-held c.new.result.values c.new.ensures key number held)

pub returns-clause-none : goal.returns-clause-none
returns-clause-none g c = λ op held. none-held c.new.result.values c.new.ensures op.key (number_of op) held
