use Rattle.std.proofs.Common.{ℕ, List, Some, ap, subst}
use Rattle.event_text.specs.TextLines.{AreEventsFor, IsFirstWrongFor, lines}
use Rattle.session_core.specs.declared.top.Stop.TheVariants.{Wrong}
use Rattle.session_core.specs.DriverKind.{StandsOn}
use Rattle.session_core.proofs.Reading.{unread-events, was-wrong}
use Rattle.session_core.proofs.Stopping.{unread-stops}
use Rattle.session_core.proofs.input.read_input.Goals as goal

pub returns-in-None-clause-right : goal.returns-in-None-clause-right
returns-in-None-clause-right g c =
    subst (λ text. AreEventsFor (StandsOn g.M.Stepping.kind) (lines text)) c.as_slice.ensures.value c.in-None.ensures

pub returns-in-Some-clause-why : goal.returns-in-Some-clause-why
returns-in-Some-clause-why g c = λ told.
    was-wrong g.M.Stepping.kind _ _ _ c.as_slice.result.now c.in-Some.line (c.in-Ok.ensures.read told) c.as_slice.ensures.value
    c.in-Some.ensures

pub returns-in-Err-clause-why : goal.returns-in-Err-clause-why
returns-in-Err-clause-why g c = unread-events g.M.Stepping.kind _ _ _ _ _ c.in-Err.why (c.in-Err.ensures.why g.M.Stepping.kind)

pub returns-in-Some-clause-stops : goal.returns-in-Some-clause-stops
returns-in-Some-clause-stops g c = record {
  number = c.in-Some.line;
  text = c.in-Ok.text.items;
  stop_is = ap (λ (text : List ℕ). Some (Wrong c.in-Some.line text)) c.from_vec.ensures;
  first = subst (λ text. IsFirstWrongFor (StandsOn g.M.Stepping.kind) (lines text) c.in-Some.line) c.as_slice.ensures.value
      c.in-Some.ensures;
  read = λ told. (c.in-Ok.ensures.read told).all;
}

pub returns-in-Err-clause-stops : goal.returns-in-Err-clause-stops
returns-in-Err-clause-stops g c =
    unread-stops g.M.Stepping.kind g.S.ByteSource.tells _ _ _ _ _ c.in-Err.why (c.in-Err.ensures.why g.M.Stepping.kind) c.requires
