use Rattle.rent_io.proofs.ScatterRuns.{scatter_more}
use Rattle.rent_io.proofs.read_vectored_exact.VectoredExactStatePolled.laws.Goals as goal

pub returns-clause-one_more : goal.returns-clause-one_more
returns-clause-one_more g c = λ task start mid now s t step holds. scatter_more _ task _ _ _ _ s t step
