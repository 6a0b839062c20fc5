use Rattle.rent_io.proofs.LineRuns.{until_more}
use Rattle.rent_io.proofs.read_until.UntilStatePolledPlain.laws.Goals as goal

pub returns-clause-one_more : goal.returns-clause-one_more
returns-clause-one_more g c = search until_more
