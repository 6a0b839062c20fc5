-- What a run comes to once its object has listened.
use Rattle.std.proofs.Common.{ℕ, ◌≡◌, ◌≤◌, ◌<◌, ap, sym, subst, arith, Bool, IsTrue, [], Ok, Err, None}
use Rattle.std.specs.Prelude.{IfErr, IfOk, Result}
use Rattle.rent_buf.specs.declared.plain.Buf.{Buf}
use Rattle.ready_driver.specs.Io.{IoView, IsLater}
use Rattle.ready_driver.specs.LegacyState.{LegacyState}
use Rattle.relay_net.specs.Keeping.{StopsFor}
use Rattle.relay_net.specs.Relaying.{Relaying}
use Rattle.relay_net.specs.declared.flow.TheConstants.{ROOM}
use Rattle.relay_net.specs.declared.round.RelayError.{RelayError}
use Rattle.relay_net.specs.declared.round.RelayError.TheVariants as relay_error
use Rattle.relay_run.specs.Relaying.{HasListened, MakesRounds, RunsOver, ended_by, made_of}
use Rattle.relay_run.proofs.Listening.{starves}
use Rattle.relay_run.proofs.Rounds.{rounds_behind, rounds_made, rounds_none}

-- A relay that has no connection yet.
abbrev pub first_relay : {I : Type 0} → LegacyState I Buf → ℕ → ℕ → Relaying I
first_relay driver listener limit =
    record { driver = driver; listener = listener; accept = None; open_ones = []; limit = limit; room = ROOM }

-- Its rounds were made, or one stopped them, and then its object came back.
pub rounds_run : {I : Type 0} (view : I → IoView) (tells memory : Bool) (before end : IoView) (driver : LegacyState I Buf)
    (listener limit rounds : ℕ) (start now : Relaying I) (made : Result ℕ RelayError) → (IsTrue memory → IsTrue tells)
    → start ≡ first_relay driver listener limit → HasListened view memory before driver.handling listener
    → IfOk made (λ closed. MakesRounds view tells memory start rounds closed now)
    → IfErr made (StopsFor (view start.driver.handling.io) (view now.driver.handling.io))
    → (view start.driver.handling.io).faults ≤ (view now.driver.handling.io).faults → IsLater (view now.driver.handling.io) end
    → end.made ≡ made_of view now → RunsOver memory limit rounds before end (ended_by made)
rounds_run view tells memory before end driver listener limit rounds start now (Ok closed) shows is has makes stops order later made =
    let first = subst (λ r. HasListened view memory before r.driver.handling r.listener) (sym is) has in
    let first_order = first.order in
    let first_made = first.made in
    let end_order = later.faults in
    let more = rounds_made view tells memory start now rounds closed makes in
    record {
      fault = λ no. absurd cc;
      order = omega (arith, first_order, order, end_order);
      listens = let all : before.made < end.made = omega (arith, first_made, more, made) in all;
      none = λ no_round. rounds_none view tells memory start now rounds closed makes no_round;
      opens = λ empty.
          let behind = rounds_behind view tells memory start now rounds closed (shows empty.is_memory) empty.is_memory
          (ap (λ r. r.open_ones) is) (first.listening empty) makes in
          let opened = behind.opened in
          let at = ap (λ r. r.limit) is in
          (behind.none, omega (arith, opened, first_made, made, at));
    }
rounds_run view tells memory before end driver listener limit rounds start now (Err relay_error.Fault) shows is has makes stops order later
    made =
    let first = (subst (λ r. HasListened view memory before r.driver.handling r.listener) (sym is) has).order in
    let end_order = later.faults in
    record {
      fault = λ same. omega (arith, first, stops, end_order);
      order = omega (arith, first, order, end_order);
      listens = tt;
      none = tt;
      opens = λ empty. tt;
    }
rounds_run view tells memory before end driver listener limit rounds start now (Err relay_error.OutOfMemory) shows is has makes stops order
    later made =
    let first = (subst (λ r. HasListened view memory before r.driver.handling r.listener) (sym is) has).order in
    let end_order = later.faults in
    starves memory limit rounds before end (omega (arith, first, order, end_order))
