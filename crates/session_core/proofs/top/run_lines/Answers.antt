use Rattle.std.proofs.Common.{refl, Some}
use Rattle.machine.specs.Ledger.{empty}
use Rattle.session_core.specs.declared.top.Kept.TheVariants.{Run}
use Rattle.session_core.specs.DriverKind.{completion, KeepsRun}
use Rattle.session_core.specs.Session.{SessionStands}
use Rattle.session_core.specs.declared.top.Status.TheVariants.{Done}
use Rattle.session_core.specs.Ends.{reading, writing}
use Rattle.session_core.proofs.Endings.{ends-kept}
use Rattle.session_core.proofs.top.run_lines.Goals as goal

pub returns-in-Ok-run_session-clause-ends : goal.returns-in-Ok-run_session-clause-ends
returns-in-Ok-run_session-clause-ends g c =
    ends-kept completion g.S.ByteSource.tells g.K.ByteSink.tells (empty c.args.capacity)
    (reading g.S.ByteSource.left g.S.ByteSource.faults c.args.source.now c.run_session.new.source)
    (writing g.K.ByteSink.taken g.K.ByteSink.faults g.K.ByteSink.is_flushed c.args.sink.now c.run_session.new.sink)
    (SessionStands c.in-Ok-run_session.session) (KeepsRun (Some (Run c.in-Ok-run_session.session))) Done
    (λ M stands. record { session = c.in-Ok-run_session.session; kept_is = refl; stands = stands })
    (c.in-Ok-run_session.ensures.gives (empty c.args.capacity) c.in-Ok.ensures)

pub returns-in-Err-clause-ends : goal.returns-in-Err-clause-ends
returns-in-Err-clause-ends g c =
    ends-kept completion g.S.ByteSource.tells g.K.ByteSink.tells (empty c.args.capacity) _ _ (λ M. ⊥) (KeepsRun c.args.kept.now) _
    (λ M never. absurd never) (c.in-Err.ensures.gives (empty c.args.capacity) c.in-Ok.ensures)

pub returns-in-Err-clause-stops : goal.returns-in-Err-clause-stops
returns-in-Err-clause-stops g c = c.in-Err.ensures.stops (empty c.args.capacity) c.in-Ok.ensures

pub returns-in-Ok-run_session-clause-stops : goal.returns-in-Ok-run_session-clause-stops
returns-in-Ok-run_session-clause-stops g c = c.in-Ok-run_session.ensures.stops (empty c.args.capacity) c.in-Ok.ensures
