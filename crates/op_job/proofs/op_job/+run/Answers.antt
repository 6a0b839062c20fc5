use Rattle.op_job.proofs.Runs.{ended_run, further_run, stopped_run}
use Rattle.op_job.proofs.op_job.+run.Goals as goal

-- its follower was told an end: the run stops before the request that comes, goes on with it, or is done
pub returns-then-most-le1-clause-runs : goal.returns-then-most-le1-clause-runs
returns-then-most-le1-clause-runs g t c =
    stopped_run g.D.OpDriver.submits g.D.OpDriver.polls g.D.OpDriver.held g.D.OpDriver.ops c.args.task c.args.canceled g.F.Follow.follows
    c.args.most c.requires.some c.args.driver.now c.args.follow.now c.args.state c.in-Done.end c.poll_state.new.driver c.follow.new.self
    c.in-Op.request c.if-most-le1.true c.in-Done.ensures.does c.in-Op.ensures

pub returns-else-most-le1-clause-runs : goal.returns-else-most-le1-clause-runs
returns-else-most-le1-clause-runs g t c =
    further_run g.D.OpDriver.submits g.D.OpDriver.polls g.D.OpDriver.held g.D.OpDriver.ops c.args.task c.args.canceled g.F.Follow.follows
    c.args.most c.requires.some c.args.driver.now c.args.follow.now c.args.state c.in-Done.end c.poll_state.new.driver c.follow.new.self
    c.in-Op.request c.run.new.driver c.run.new.follow c.run.result c.if-most-le1.false c.in-Done.ensures.does c.in-Op.ensures
    c.run.ensures.runs

pub returns-in-End-clause-runs : goal.returns-in-End-clause-runs
returns-in-End-clause-runs g t c =
    ended_run g.D.OpDriver.submits g.D.OpDriver.polls g.D.OpDriver.held g.D.OpDriver.ops c.args.task c.args.canceled g.F.Follow.follows
    c.args.most c.requires.some c.args.driver.now c.args.follow.now c.args.state c.in-Done.end c.poll_state.new.driver c.follow.new.self
    c.in-End.out c.in-Done.ensures.does c.in-End.ensures
