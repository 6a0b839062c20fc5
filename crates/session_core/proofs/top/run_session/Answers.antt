use Rattle.std.proofs.Common.{refl, subst, sym}
use Rattle.std.specs.List.{AllZip}
use Rattle.event_text.specs.TextLines.{lines}
use Rattle.session_core.specs.DriverKind.{StandsOn}
use Rattle.session_core.proofs.Endings.{ends-given, ends-refused}
use Rattle.session_core.proofs.Reading.{was-read}
use Rattle.session_core.proofs.Stopping.{given-stops, refused-stops}
use Rattle.session_core.proofs.top.run_session.Goals as goal

pub returns-in-Ok-clause-gives : goal.returns-in-Ok-clause-gives
returns-in-Ok-clause-gives g c = λ L begun.
    let right = c.in-Ok.ensures.right in
    ends-given g.M.Stepping.stands g.M.Stepping.kind g.S.ByteSource.tells g.K.ByteSink.tells L _ _ right.events _
    (λ told. was-read g.M.Stepping.kind _ _ _ _ right.events (c.in-Ok.ensures.read told) refl right.stand) c.in-Ok.ensures.calm
    (c.run_events.ensures.gives right.events
    (subst (λ text. AllZip (StandsOn g.M.Stepping.kind) (lines text) right.events) (sym c.as_slice.ensures.value) right.stand) L begun)

pub returns-in-Ok-clause-stops : goal.returns-in-Ok-clause-stops
returns-in-Ok-clause-stops g c = λ L begun.
    let right = c.in-Ok.ensures.right in
    given-stops g.M.Stepping.kind g.S.ByteSource.tells g.K.ByteSink.tells L _ _ _ right.events _
    (λ told. was-read g.M.Stepping.kind _ _ _ _ right.events (c.in-Ok.ensures.read told) refl right.stand)
    (c.run_events.ensures.stops right.events
    (subst (λ text. AllZip (StandsOn g.M.Stepping.kind) (lines text) right.events) (sym c.as_slice.ensures.value) right.stand) L begun)

pub returns-in-Err-clause-gives : goal.returns-in-Err-clause-gives
returns-in-Err-clause-gives g c = λ L begun.
    ends-refused g.M.Stepping.kind g.S.ByteSource.tells g.K.ByteSink.tells L _ _ _ c.in-Err.why _ c.in-Err.ensures.why c.refuse.ensures

pub returns-in-Err-clause-stops : goal.returns-in-Err-clause-stops
returns-in-Err-clause-stops g c = λ L begun.
    refused-stops g.M.Stepping.kind g.S.ByteSource.tells g.K.ByteSink.tells L _ _ _ c.in-Err.why _ c.in-Err.ensures.stops c.refuse.ensures
