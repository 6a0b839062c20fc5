use Rattle.rent_io.proofs.ExactRuns.{fill_more}
use Rattle.rent_io.proofs.read_exact.ExactStatePolled.laws.Goals as goal

pub returns-clause-one_more : goal.returns-clause-one_more
returns-clause-one_more g c = search fill_more
