use Rattle.std.proofs.Common.{arith, ◌∙◌, sym}
use Rattle.rent_buf.proofs.Consumed.{consumed-none}
use Rattle.rent_buf.proofs.ranges.Ranges.consume.Goals as goal

pub returns-clause-ranges : goal.returns-clause-ranges
returns-clause-ranges c = sym (consumed-none c.loop-rest.self.ranges c.loop-rest.rest (omega arith)) ∙ c.loop-rest.invariant.ranges
