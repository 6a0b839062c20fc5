-- Closing handles leaves operations, and so the jobs.
use Rattle.std.proofs.Common.{ℕ, ◌≡◌, ◌∙◌, ◌<◌, ◌≤◌, ap, sym, refl, subst, Option, Some, None, true, false, inl, inr, arith}
use Rattle.std.proofs.lemmas.Bool.{ltb-true}
use Rattle.std.specs.Prelude.{nat_lt, List, length, slice_get, unwrap_or, ◌+◌}
use Rattle.std.proofs.lemmas.Option.{slice_get_within}
use Rattle.std.specs.FinMap as map
use Rattle.rent_buf.specs.Parts.{Parts}
use Rattle.rent_buf.specs.Rent.{Rented}
use Rattle.handle_core.specs.Table.{Table, by_user, holders_at, nobody, without_user}
use Rattle.machine.specs.declared.request.Request.{Request}
use Rattle.machine.proofs.Numbers.{same-or-not}
use Rattle.driver_core.specs.declared.op.Op.{Op}
use Rattle.driver_core.specs.Holds.{settled}
use Rattle.driver_core.specs.Op.{number_of}
use Rattle.driver_core.specs.Ops.{Ops}
use Rattle.driver_core.specs.Requests.{request_in}
use Rattle.driver_core.specs.Slot.{number_at}
use Rattle.driver_core.proofs.Holds.{settled-same, settled-other}
use Rattle.driver_core.proofs.Maps.{put-other}
use Rattle.ready_driver.specs.Registry.{is_users}
use Rattle.net_stream.specs.Drives.{FitsOp, IfAsked, IsRecv, IsSend}
use Rattle.net_stream.specs.Listener.{IsAccept}
use Rattle.core_exec.specs.Tasks.{AreSound}
use Rattle.net_server.specs.declared.net_driver.NetDriver.{NetDriver}
use Rattle.net_server.specs.declared.net_job.NetJob.{NetJob}
use Rattle.net_server.specs.declared.net_job.State.{State}
use Rattle.net_server.specs.declared.net_job.State.TheVariants.{Accepting, Serving}
use Rattle.net_server.specs.declared.net_job.NetEnd.{NetEnd}
use Rattle.net_server.specs.declared.net_job.NetEnd.TheVariants.{Accepted, NotAccepted, Ended}
use Rattle.net_server.specs.Closing.{AreClosed, GainsNone, GainsOne, IsClosed, SameSlots}
use Rattle.net_server.specs.NetJob.{ApartJobs, FitsJob, FitsWaits}

-- An operation that waits is held still.
same_op : (old new : Ops Rented) (op : Option Op) (P : Request Rented Parts → Type 0) → SameSlots old new → FitsOp old op P
    → FitsOp new op P
same_op old new None P same fits = tt
same_op old new (Some op) P same fits = (
  (
    subst (λ v. number_at v op.key ≡ Some (number_of op)) (sym same.slots) fits.0.0,
    subst (λ g. number_of op < g) (sym same.given)
        fits.0.1,
  ),
  subst (λ v. IfAsked (request_in (map.get v op.key)) P) (sym same.slots) fits.1,
)

-- A job fits still.
pub same_state : {S : Type 0} (old new : Ops Rented) (state : State S) → SameSlots old new → FitsWaits old state → FitsWaits new state
same_state old new (Accepting listener) same fits = same_op old new listener.op (IsAccept listener.fd) same fits
same_state old new (Serving serving) same fits = record {
  receives = same_op old new serving.value.conn.incoming.op (IsRecv serving.value.conn.fd) same fits.receives;
  sends = same_op old new serving.value.conn.outgoing.op (IsSend serving.value.conn.fd serving.value.conn.outgoing.room) same fits.sends;
  apart = fits.apart;
}

-- So do all.
pub same_sound : {D S : Type 0} (ops : D → Ops Rented) (old new : NetDriver D) (jobs : ℕ → Option (NetJob S))
    → SameSlots (ops old.driver) (ops new.driver) → AreSound (FitsJob ops) ApartJobs old jobs → AreSound (FitsJob ops) ApartJobs new jobs
same_sound ops old new jobs same sound = record {
  all_fit = λ t job is. same_state (ops old.driver) (ops new.driver) job.state same (sound.all_fit t job is);
  all_apart = sound.all_apart;
}

-- The user holds a handle once less that it closed.
pub closed_less : (table : Table) (h : ℕ) → is_users table h ≡ true
    → (holders_at (settled table h (without_user (holders_at table h))) h).user < (holders_at table h).user
closed_less table h users =
    let e = ap (λ x. x.user) (settled-same table h (without_user (holders_at table h))) in
    let positive : 0 < (holders_at table h).user = ltb-true 0 (holders_at table h).user users in
    omega (arith, e, positive)

-- It holds no other handle by that.
pub closed_none : (table : Table) (h : ℕ) → is_users table h ≡ true
    → GainsNone table (settled table h (without_user (holders_at table h)))
closed_none table h users = record {
  none = λ k isnt. elim (same-or-not k h) [
    | inl e ↦ absurd (true_not_false (sym users ∙ (ap (is_users table) (sym e) ∙ isnt)))
    | inr e ↦ ap (λ x. nat_lt 0 x.user) (settled-other table h (without_user (holders_at table h)) k e) ∙ isnt
  ];
}
  where
    true_not_false : true ≡ false → ⊥
    true_not_false same = absurd cc

-- It gains none by one close after another.
pub gains_then : (old mid new : Table) → GainsNone old mid → GainsNone mid new → GainsNone old new
gains_then old mid new first second = record { none = λ h isnt. second.none h (first.none h isnt) }

-- It gains none where nothing is closed.
pub gains_same : (table : Table) → GainsNone table table
gains_same table = record { none = λ h isnt. isnt }

-- It gains none where the same are held.
pub gains_held : (old new : Table) → new.holders ≡ old.holders → GainsNone old new
gains_held old new same = record { none = λ h isnt. ap (λ m. nat_lt 0 (unwrap_or (map.get m h) nobody).user) same ∙ isnt }

-- It gains one that is opened.
pub gains_opened : (old mid new : Table) (h : ℕ) → mid.holders ≡ old.holders → new.holders ≡ map.insert mid.holders h by_user
    → GainsOne old new h
gains_opened old mid new h same opened = record {
  others = λ k other isnt.
      ap (λ m. nat_lt 0 (unwrap_or (map.get m k) nobody).user) opened
      ∙ ap (λ x. nat_lt 0 (unwrap_or x nobody).user) (put-other mid.holders h by_user k other)
      ∙ (gains_held old mid same).none k isnt;
}

-- It gains none by one that is opened and closed.
pub gains_closed : (old mid new : Table) (h : ℕ) → GainsOne old mid h → GainsNone mid new → is_users new h ≡ false → GainsNone old new
gains_closed old mid new h opened after closed = record {
  none = λ k isnt. elim (same-or-not k h) [
    | inl e ↦ ap (is_users new) e ∙ closed
    | inr e ↦ after.none k (opened.others k e isnt)
  ];
}

-- Operations are as before behind one call after another.
pub slots_then : (old mid new : Ops Rented) → SameSlots old mid → SameSlots mid new → SameSlots old new
slots_then old mid new first second = record { slots = second.slots ∙ first.slots; given = second.given ∙ first.given }

-- So they are behind no call.
pub slots_same : (ops : Ops Rented) → SameSlots ops ops
slots_same ops = record { slots = refl; given = refl }

-- Of the first so many among what ended, the user doesn't hold the handles of connections.
pub record ClosedBelow {S : Type 0} (table : Table) (ended : List (ℕ × NetEnd S)) (count : ℕ) : Type 0 where
  pub closed : (i : ℕ) (one : ℕ × NetEnd S) → i < count → slice_get ended i ≡ Some one → IsClosed table one.1

module _ {S : Type 0} where
  -- What is closed is so where the user gains none.
  closed_still : (old new : Table) (one : NetEnd S) → GainsNone old new → IsClosed old one → IsClosed new one
  closed_still old new (Accepted fd) gains closed = tt
  closed_still old new (NotAccepted why) gains closed = tt
  closed_still old new (Ended ended) gains closed = gains.none ended.fd closed

  some_is : (one other : ℕ × NetEnd S) → Some one ≡ Some other → one ≡ other
  some_is one other same = cc

  -- None is below none.
  pub closed_first : (table : Table) (ended : List (ℕ × NetEnd S)) → ClosedBelow table ended 0
  closed_first table ended = record { closed = λ i one below is. absurd (omega (arith, below)) }

  -- One more is closed.
  pub closed_more : (old new : Table) (ended : List (ℕ × NetEnd S)) (k : ℕ) (one : ℕ × NetEnd S) → ClosedBelow old ended k
      → GainsNone old new → slice_get ended k ≡ Some one → IsClosed new one.1 → ClosedBelow new ended (k + 1)
  closed_more old new ended k one before gains at now = record {
    closed = λ i other below is. elim (same-or-not i k) [
      | inl e ↦ subst (λ x. IsClosed new x.1) (some_is one other (sym at ∙ (ap (slice_get ended) (sym e) ∙ is))) now
      | inr e ↦ closed_still old new other.1 gains (before.closed i other (omega (arith, below, e)) is)
    ];
  }

  -- All are.
  pub closed_all : (table : Table) (ended : List (ℕ × NetEnd S)) (k : ℕ) → length ended ≤ k → ClosedBelow table ended k
      → AreClosed table ended
  closed_all table ended k most below = record {
    closed = λ i one is. below.closed i one (omega (arith, slice_get_within ended i one is, most)) is;
  }
