use Rattle.std.proofs.Common.{sym, ap}
use Rattle.std.specs.Prelude.{is_some}
use Rattle.ready_run.proofs.Refusals.{no_token-gone, token-live}
use Rattle.ready_run.proofs.inner.Inner.has_token.Goals as goal

pub returns-in-None-clause-there : goal.returns-in-None-clause-there
returns-in-None-clause-there c = sym (ap is_some c.in-None.ensures)

pub returns-in-None-clause-live : goal.returns-in-None-clause-live
returns-in-None-clause-live c = λ D stands. sym (no_token-gone c.args.self.now D c.args.n stands c.in-None.ensures)

pub returns-in-Some-clause-there : goal.returns-in-Some-clause-there
returns-in-Some-clause-there c = sym (ap is_some c.in-Some.ensures)

pub returns-in-Some-clause-live : goal.returns-in-Some-clause-live
returns-in-Some-clause-live c = λ D stands. sym (token-live c.args.self.now D c.args.n _ stands c.in-Some.ensures)
