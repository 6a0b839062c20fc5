use Rattle.rent_io.proofs.SendRuns.{send_more}
use Rattle.rent_io.proofs.write_vectored_all.VectoredAllStatePolled.laws.Goals as goal

pub returns-clause-one_more : goal.returns-clause-one_more
returns-clause-one_more g c = λ task start mid now s t step holds. send_more _ task _ _ _ s t step
