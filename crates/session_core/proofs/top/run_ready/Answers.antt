use Rattle.std.proofs.Common.{refl, Some}
use Rattle.machine.specs.Ledger.{empty}
use Rattle.ready_run.specs.ReadySession.{ReadyStands}
use Rattle.session_core.specs.declared.top.Kept.TheVariants.{Ready}
use Rattle.session_core.specs.DriverKind.{readiness, KeepsReady}
use Rattle.session_core.specs.declared.top.Status.TheVariants.{Done}
use Rattle.session_core.specs.Ends.{reading, writing}
use Rattle.session_core.proofs.Endings.{ends-kept}
use Rattle.session_core.proofs.top.run_ready.Goals as goal

pub returns-in-Ok-clause-ends : goal.returns-in-Ok-clause-ends
returns-in-Ok-clause-ends g c = λ capacity.
    ends-kept readiness g.S.ByteSource.tells g.K.ByteSink.tells (empty capacity)
    (reading g.S.ByteSource.left g.S.ByteSource.faults c.args.source.now c.run_session.new.source)
    (writing g.K.ByteSink.taken g.K.ByteSink.faults g.K.ByteSink.is_flushed c.args.sink.now c.run_session.new.sink)
    (ReadyStands c.in-Ok.session) (KeepsReady (Some (Ready c.in-Ok.session))) Done
    (λ M stands. record { session = c.in-Ok.session; kept_is = refl; stands = stands })
    (c.in-Ok.ensures.gives (empty capacity) (c.new.ensures capacity))

pub returns-in-Err-clause-ends : goal.returns-in-Err-clause-ends
returns-in-Err-clause-ends g c = λ capacity.
    ends-kept readiness g.S.ByteSource.tells g.K.ByteSink.tells (empty capacity) _ _ (λ M. ⊥) (KeepsReady c.args.kept.now) _
    (λ M never. absurd never) (c.in-Err.ensures.gives (empty capacity) (c.new.ensures capacity))

pub returns-in-Err-clause-stops : goal.returns-in-Err-clause-stops
returns-in-Err-clause-stops g c = λ capacity. c.in-Err.ensures.stops (empty capacity) (c.new.ensures capacity)

pub returns-in-Ok-clause-stops : goal.returns-in-Ok-clause-stops
returns-in-Ok-clause-stops g c = λ capacity. c.in-Ok.ensures.stops (empty capacity) (c.new.ensures capacity)
