-- Where each handle but the listener is a stream whose end isn't marked no connection is closed.
use Rattle.std.proofs.Common.{ℕ, ◌≡◌, ◌≢◌, ◌∙◌, sym, subst, Bool, IsTrue, true, false, List, Some, inl, inr}
use Rattle.std.specs.Prelude.{◌⊎◌, slice_get, slice_set}
use Rattle.std.specs.List.{remove}
use Rattle.rent_buf.specs.declared.plain.Buf.{Buf}
use Rattle.handle_core.specs.Table.{Table}
use Rattle.machine.specs.declared.world.HandleState.{HandleState}
use Rattle.driver_core.specs.Ops.{Ops}
use Rattle.ready_driver.specs.Io.{IoView}
use Rattle.ready_driver.specs.LegacyState.{LegacyState, ops_in}
use Rattle.relay_net.specs.Connection.{EndsConnection, IsGoing, IsOverIf, Serves, far_of, near_of}
use Rattle.relay_net.specs.Keeping.{HasEnded, world_of}
use Rattle.relay_net.specs.Listening.{AreGoingBut}
use Rattle.relay_net.specs.Opening.{Opening}
use Rattle.relay_net.specs.Relay.{AreGoing, IsServed}
use Rattle.relay_net.specs.declared.connection.Connection.{Connection}
use Rattle.relay_net.specs.declared.connection.Served.{Served}
use Rattle.relay_net.specs.declared.connection.Served.TheVariants as served
use Rattle.relay_net.proofs.Marks.{all_marked, removed_marked, same_handles, set_marked}

-- None of these handles has ended.
none_ended : (world : List HandleState) (listener h : ℕ) → AreGoingBut listener world → h ≢ listener → HasEnded world h → ⊥
none_ended world listener h going other ended =
    let is = going h ended.handle other ended.there in
    let no : ◌≡◌ {A = Bool} true false = sym (ended.spent is.0).1 ∙ is.1 in
    absurd cc

module _ {I : Type 0} (view : I → IoView) (tells : Bool) where
  -- Nothing has ended behind the turn, the accept and the other end.
  pub opening_going : (old new : LegacyState I Buf) (listener : ℕ) (was all : List Connection) → Opening view tells old was new all
      → IsTrue tells → AreGoing view old listener was → AreGoing view new listener all
  opening_going old new listener was all opening told going = record {
    streams = (opening.streams told listener).3 going.streams;
    marked = opening.marks told going.marked;
  }

  -- A round of a connection doesn't close it.
  pub served_going : {room : ℕ} (old new : LegacyState I Buf) (ops : Ops Buf) (table : Table) (listener : ℕ) (all : List Connection) (k : ℕ)
      (conn now : Connection) (answer : Served) → IsServed room ops table listener conn → slice_get all k ≡ Some conn
      → Serves view tells old new conn now answer → IsOverIf (ops_in new) now answer → IsTrue tells → AreGoing view old listener all
      → IsGoing answer × AreGoing view new listener (slice_set all k now)
  served_going old new ops table listener all k conn now answer own there serves over told going = (by-answer answer over, still)
    where
      still : AreGoing view new listener (slice_set all k now)
      still = record {
        streams = (serves.leaves.streams told listener).3 going.streams;
        marked = set_marked (world_of view old) (world_of view new) all k conn now there (serves.leaves.streams told) (serves.marks told)
            going.marked;
      }

      neither : HasEnded (world_of view new) (near_of now) ⊎ HasEnded (world_of view new) (far_of now) → ⊥
      neither (inl ended) =
          none_ended (world_of view new) listener (near_of now) still.streams (λ e. own.near_other (sym serves.near ∙ e)) ended
      neither (inr ended) =
          none_ended (world_of view new) listener (far_of now) still.streams (λ e. own.far_other (sym serves.far ∙ e)) ended

      by-answer : (a : Served) → IsOverIf (ops_in new) now a → IsGoing a
      by-answer served.Open is = tt
      by-answer served.Closed is = neither (serves.marks told (going.marked conn (k, there)) is.ending)
      by-answer (served.Failed error) is = tt
      by-answer (served.Stopped because) is = tt

  -- Nothing has ended where a connection was lost.
  pub removed_going : (old new : LegacyState I Buf) (listener near far : ℕ) (all : List Connection) (k : ℕ)
      → EndsConnection view tells old near far new → IsTrue tells → AreGoing view old listener all
      → AreGoing view new listener (remove all k)
  removed_going old new listener near far all k ends told going = record {
    streams = subst (AreGoingBut listener) (sym (ends.world told)) going.streams;
    marked = removed_marked (world_of view new) all k (all_marked (world_of view old) (world_of view new) all
        (same_handles (world_of view old) (world_of view new) (ends.world told)) going.marked);
  }
