use Rattle.std.proofs.Common.{refl, subst}
use Rattle.session_core.specs.Ends.{ReadyEnds, reading, writing}
use Rattle.session_core.specs.DriverKind.{completion, readiness, KeepsRun, KeepsReady}
use Rattle.session_core.proofs.Endings.{ends-status}
use Rattle.session_core.proofs.Framing.{unframe-status}
use Rattle.session_core.proofs.Relaying.{relay-status}
use Rattle.session_core.proofs.Tasking.{tasks-status}
use Rattle.session_core.proofs.top.run_command.Goals as goal

pub returns-in-Run-clause-status : goal.returns-in-Run-clause-status
returns-in-Run-clause-status g c =
    ends-status completion g.S.ByteSource.tells g.K.ByteSink.tells _ _ _ (KeepsRun c.run_lines.new.kept) _ c.run_lines.ensures.ends

pub returns-in-Ready-clause-status : goal.returns-in-Ready-clause-status
returns-in-Ready-clause-status g c =
    ends-status readiness g.S.ByteSource.tells g.K.ByteSink.tells _ _ _ (KeepsReady c.run_ready.new.kept) _ (c.run_ready.ensures.ends 0)

pub returns-in-Unframe-clause-status : goal.returns-in-Unframe-clause-status
returns-in-Unframe-clause-status g c = unframe-status g.S.ByteSource.tells g.K.ByteSink.tells _ _ _ c.run_unframe.ensures

pub returns-in-Relay-clause-status : goal.returns-in-Relay-clause-status
returns-in-Relay-clause-status g c =
    relay-status g.S.ByteSource.tells g.K.ByteSink.tells c.in-Relay.plan.rounds _ _ _ refl refl c.run_relay.ensures.relays

pub returns-in-Ready-clause-net_fault : goal.returns-in-Ready-clause-net_fault
returns-in-Ready-clause-net_fault g c = λ is.
    absurd (subst
    (λ status. ReadyEnds g.S.ByteSource.tells g.K.ByteSink.tells 0
    (reading g.S.ByteSource.left g.S.ByteSource.faults c.args.source.now c.run_ready.new.source)
    (writing g.K.ByteSink.taken g.K.ByteSink.faults g.K.ByteSink.is_flushed c.args.sink.now c.run_ready.new.sink) c.run_ready.new.kept
    status) is (c.run_ready.ensures.ends 0))

pub returns-in-Tasks-clause-status : goal.returns-in-Tasks-clause-status
returns-in-Tasks-clause-status g c = tasks-status g.S.ByteSource.tells g.K.ByteSink.tells _ _ _ c.run_tasks.ensures.ends
