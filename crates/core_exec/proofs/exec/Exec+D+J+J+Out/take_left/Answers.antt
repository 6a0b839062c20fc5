use Rattle.std.proofs.Common.{refl}
use Rattle.core_exec.proofs.Numbering.{none_left}
use Rattle.core_exec.proofs.exec.Exec+D+J+J+Out.take_left.Goals as goal

-- with no number no task is left
pub returns-in-None-clause-none : goal.returns-in-None-clause-none
returns-in-None-clause-none g c = (
  λ _. none_left c.args.self.now.ready.table c.args.self.now.ready.numbers c.requires.stands.known c.in-None.ensures.none,
  λ _. refl,
)
