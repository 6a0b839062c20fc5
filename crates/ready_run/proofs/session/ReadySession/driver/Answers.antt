use Rattle.ready_run.proofs.Following.{shows-ledger}
use Rattle.ready_run.proofs.session.ReadySession.driver.Goals as goal

pub returns-clause-shows : goal.returns-clause-shows
returns-clause-shows c = λ L stands. rw c.self.view_is (shows-ledger c.args.self.now L stands)
