use Rattle.std.specs.Prelude.{string_bytes}
use Rattle.rent_io.proofs.LineRuns.{line_more}
use Rattle.rent_io.proofs.read_line.LineStatePolledPlain.laws.Goals as goal

pub returns-clause-one_more : goal.returns-clause-one_more
returns-clause-one_more g c = λ task start mid now s t step holds faults zeros. line_more _ task _ _ _ string_bytes s t step faults
