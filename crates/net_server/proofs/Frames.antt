-- What calls leave of jobs that wait for others.
use Rattle.std.specs.declared.alloc.Global.{Global}
use Rattle.std.proofs.Common.{Box, ℕ, ◌≡◌, ◌∙◌, sym, refl, subst, Option, Some, None, List, [], ◌∷◌, ◌++◌, inl, inr}
use Rattle.rent_buf.specs.Parts.{Parts}
use Rattle.rent_buf.specs.Rent.{Rented}
use Rattle.machine.specs.declared.request.Request.{Request}
use Rattle.driver_core.specs.declared.op.Op.{Op}
use Rattle.driver_core.specs.Ops.{Ops}
use Rattle.net_stream.specs.declared.connection.Connection.{Connection}
use Rattle.net_stream.specs.declared.listener.Listener.{Listener}
use Rattle.net_stream.specs.Connection.{AreDifferent, FitsConnection, KeepsOutside}
use Rattle.net_stream.specs.Drives.{FitsOp, IfAsked, IsOther, IsRecv, IsSend, KeepsOther}
use Rattle.net_stream.specs.Listener.{FitsListener, IsAccept}
use Rattle.net_stream.proofs.Frames.{are_apart, is_other, no_apart}
use Rattle.core_exec.specs.declared.job.JobStep.{JobStep}
use Rattle.core_exec.specs.declared.job.JobStep.TheVariants.{Done, Pending, OutOfMemory}
use Rattle.net_server.specs.declared.net_job.NetEnd.{NetEnd}
use Rattle.net_server.specs.declared.net_job.State.{State}
use Rattle.net_server.specs.declared.net_job.State.TheVariants.{Accepting, Serving}
use Rattle.net_server.specs.declared.serving.Serving.{Serving as Served}
use Rattle.net_server.specs.Serving.{Leaves, SameCalls}
use Rattle.core_exec.specs.Tasks.{AreSound, IsApart}
use Rattle.net_server.specs.declared.net_driver.NetDriver.{NetDriver}
use Rattle.net_server.specs.declared.net_job.NetJob.{NetJob}
use Rattle.net_server.specs.NetJob.{ApartJobs, WaitApart, EndLeaves, FitsJob, FitsWaits, IsEnded, NothingWaits, NamesOwn, StateLeaves}
use Rattle.net_server.specs.NetJob.{StepLeaves, first_op, second_op, idle_waits, none_apart}

-- A connection whose boxes alone have changed fits as before.
same_fits : (ops : Ops Rented) (before now : Connection) → SameCalls before now → FitsConnection ops before → FitsConnection ops now
same_fits ops before now same fits = record {
  receives = subst (λ c. FitsOp ops c.op (IsRecv now.fd)) (sym same.incoming)
      (subst (λ h. FitsOp ops before.incoming.op (IsRecv h)) (sym same.same_fd) fits.receives);
  sends = subst (λ g. FitsOp ops g.op (IsSend now.fd g.room)) (sym same.outgoing)
      (subst (λ h. FitsOp ops before.outgoing.op (IsSend h before.outgoing.room)) (sym same.same_fd) fits.sends);
  apart = subst (λ c. AreDifferent c.op now.outgoing.op) (sym same.incoming)
      (subst (λ g. AreDifferent before.incoming.op g.op) (sym same.outgoing) fits.apart);
}

-- A call that changes nothing leaves all.
pub leaves_none : (ops : Ops Rented) (conn : Connection) → FitsConnection ops conn → Leaves ops conn ops conn
leaves_none ops conn fits = record { fits = fits; others = λ other held one two. (held, refl, one, two); same_fd = refl }

-- One call after another.
pub leaves_then : (old mid new : Ops Rented) (before between now : Connection) → Leaves old before mid between
    → Leaves mid between new now → Leaves old before new now
leaves_then old mid new before between now first second = record {
  fits = second.fits;
  others = λ other held one two.
      let kept = first.others other held one two in
      let later = second.others other kept.0 kept.2 kept.3 in
      (later.0, later.1 ∙ kept.1, later.2, later.3);
  same_fd = second.same_fd ∙ first.same_fd;
}

-- A call, and then one that changes the boxes alone.
pub leaves_same : (old new : Ops Rented) (before between now : Connection) → Leaves old before new between → SameCalls between now
    → Leaves old before new now
leaves_same old new before between now first same = record {
  fits = same_fits new between now same first.fits;
  others = λ other held one two.
      let kept = first.others other held one two in (
        kept.0,
        kept.1,
        subst (λ c. IsOther c.op other) (sym same.incoming) kept.2,
        subst (λ g. IsOther g.op other) (sym same.outgoing)
            kept.3,
      );
  same_fd = same.same_fd ∙ first.same_fd;
}

-- Nothing that waits is held.
none_fits : (ops : Ops Rented) (op : Option Op) (P : Request Rented Parts → Type 0) → op ≡ None → FitsOp ops op P
none_fits ops None P none = tt
none_fits ops (Some op) P none = absurd cc

module _ {S : Type 0} where
  -- The calls of a connection leave its job.
  pub serving_leaves : (old new : Ops Rented) (before now : Box (Served S) Global) → Leaves old before.value.conn new now.value.conn
      → StateLeaves old (Serving before) new (Serving now)
  serving_leaves old new before now leaves = record { fits = leaves.fits; others = leaves.others }

  -- The end of a connection is the end of its job.
  pub serving_ended : (old new : Ops Rented) (before : Box (Served S) Global) → KeepsOutside old before.value.conn new
      → EndLeaves old (Serving before) new
  serving_ended old new before keeps = record { others = keeps }

  state_then : (old mid new : Ops Rented) (before between : Box (Served S) Global) (now : State S)
      → Leaves old before.value.conn mid between.value.conn
      → StateLeaves mid (Serving between) new now → StateLeaves old (Serving before) new now
  state_then old mid new before between now leaves step = record {
    fits = step.fits;
    others = λ other held one two.
        let kept = leaves.others other held one two in
        let later = step.others other kept.0 kept.2 kept.3 in
        (later.0, later.1 ∙ kept.1, later.2, later.3);
  }

  -- A job that is left as it is.
  pub serving_stays : (ops : Ops Rented) (serving : Box (Served S) Global) → FitsConnection ops serving.value.conn
      → StateLeaves ops (Serving serving) ops (Serving serving)
  serving_stays ops serving fits = record { fits = fits; others = λ other held one two. (held, refl, one, two) }

  -- The calls of a connection, and then what its job leaves.
  pub serving_then : (old mid new : Ops Rented) (before between : Box (Served S) Global) (result : JobStep (State S) (NetEnd S))
      → Leaves old before.value.conn mid between.value.conn → StepLeaves mid (Serving between) new result
      → StepLeaves old (Serving before) new result
  serving_then old mid new before between (Done end) leaves step = record {
    others = λ other held one two.
        let kept = leaves.others other held one two in
        let later = step.others other kept.0 kept.2 kept.3 in
        (later.0, later.1 ∙ kept.1);
  }
  serving_then old mid new before between (Pending now) leaves step = state_then old mid new before between now leaves step
  serving_then old mid new before between (OutOfMemory now) leaves step = state_then old mid new before between now leaves step

  -- A call of a listener leaves its job.
  pub accept_leaves : (old new : Ops Rented) (before now : Listener) → KeepsOther old before.op new now.op → FitsListener new now
      → StateLeaves {S = S} old (Accepting before) new (Accepting now)
  accept_leaves old new before now keeps fits = record {
    fits = fits;
    others = λ other held one two. let kept = keeps other held one in (kept.0, kept.1, kept.2, tt);
  }

  -- The end of a listener is the end of its job.
  pub accept_ended : (old new : Ops Rented) (before : Listener) → KeepsOther old before.op new None
      → EndLeaves {S = S} old (Accepting before) new
  accept_ended old new before keeps = record { others = λ other held one two. let kept = keeps other held one in (kept.0, kept.1) }

  -- So it is behind a call.
  pub accept_then : (old mid new : Ops Rented) (before between : Listener) (result : JobStep (State S) (NetEnd S))
      → KeepsOther old before.op mid between.op → IsEnded result → StepLeaves mid (Accepting between) new result
      → StepLeaves old (Accepting before) new result
  accept_then old mid new before between (Done end) first ended step = record {
    others = λ other held one two.
        let kept = first other held one in
        let later = step.others other kept.0 kept.2 tt in
        (later.0, later.1 ∙ kept.1);
  }
  accept_then old mid new before between (Pending now) first ended step = absurd ended
  accept_then old mid new before between (OutOfMemory now) first ended step = absurd ended

  -- What the poll of one job leaves of an operation that another waits for.
  record Beside (new : Ops Rented) (now : State S) (op : Option Op) (P : Request Rented Parts → Type 0) : Type 0 where
    fits : FitsOp new op P
    first : AreDifferent (first_op now) op
    second : AreDifferent (second_op now) op

  beside_op : (old new : Ops Rented) (before now : State S) (op : Option Op) (P : Request Rented Parts → Type 0)
      → StateLeaves old before new now → FitsOp old op P → AreDifferent (first_op before) op → AreDifferent (second_op before) op
      → Beside new now op P
  beside_op old new before now None P leaves fits first second =
      record { fits = tt; first = no_apart (first_op now); second = no_apart (second_op now) }
  beside_op old new before now (Some op) P leaves fits first second =
      let kept = leaves.others op fits.0 (is_other (first_op before) op first) (is_other (second_op before) op second) in
      record {
        fits = (kept.0, subst (λ r. IfAsked r P) (sym kept.1) fits.1);
        first = are_apart (first_op now) op kept.2;
        second = are_apart (second_op now) op kept.3;
      }

  -- What the last poll of one job leaves of an operation that another waits for.
  ended_op : (old new : Ops Rented) (before : State S) (op : Option Op) (P : Request Rented Parts → Type 0)
      → EndLeaves old before new → FitsOp old op P → AreDifferent (first_op before) op → AreDifferent (second_op before) op
      → FitsOp new op P
  ended_op old new before None P leaves fits first second = tt
  ended_op old new before (Some op) P leaves fits first second =
      let kept = leaves.others op fits.0 (is_other (first_op before) op first) (is_other (second_op before) op second) in
      (kept.0, subst (λ r. IfAsked r P) (sym kept.1) fits.1)

  -- Another job fits still.
  pub left_others : (old new : Ops Rented) (before now other : State S) → StateLeaves old before new now → FitsWaits old other
      → WaitApart before other → FitsWaits new other
  left_others old new before now (Accepting listener) leaves fits apart =
      (beside_op old new before now listener.op (IsAccept listener.fd) leaves fits apart.both_first apart.second_first).fits
  left_others old new before now (Serving serving) leaves fits apart =
      let conn = serving.value.conn in
      record {
        receives = (beside_op old new before now conn.incoming.op (IsRecv conn.fd) leaves fits.receives apart.both_first
            apart.second_first).fits;
        sends = (beside_op old new before now conn.outgoing.op (IsSend conn.fd conn.outgoing.room) leaves fits.sends apart.first_second
            apart.both_second).fits;
        apart = fits.apart;
      }

  -- It has no operation with the job that came back.
  pub left_apart : (old new : Ops Rented) (before now other : State S) → StateLeaves old before new now → FitsWaits old other
      → WaitApart before other → WaitApart now other
  left_apart old new before now (Accepting listener) leaves fits apart =
      let one = beside_op old new before now listener.op (IsAccept listener.fd) leaves fits apart.both_first apart.second_first in
      record {
        both_first = one.first;
        first_second = no_apart (first_op now);
        second_first = one.second;
        both_second = no_apart (second_op now);
      }
  left_apart old new before now (Serving serving) leaves fits apart =
      let conn = serving.value.conn in
      let one = beside_op old new before now conn.incoming.op (IsRecv conn.fd) leaves fits.receives apart.both_first apart.second_first in
      let two = beside_op old new before now conn.outgoing.op (IsSend conn.fd conn.outgoing.room) leaves fits.sends apart.first_second
      apart.both_second in
      record { both_first = one.first; first_second = two.first; second_first = one.second; both_second = two.second }

  -- Behind the end of one job another fits still.
  pub ended_others : (old new : Ops Rented) (before other : State S) → EndLeaves old before new → FitsWaits old other
      → WaitApart before other → FitsWaits new other
  ended_others old new before (Accepting listener) leaves fits apart =
      ended_op old new before listener.op (IsAccept listener.fd) leaves fits apart.both_first apart.second_first
  ended_others old new before (Serving serving) leaves fits apart =
      let conn = serving.value.conn in
      record {
        receives = ended_op old new before conn.incoming.op (IsRecv conn.fd) leaves fits.receives apart.both_first apart.second_first;
        sends = ended_op old new before conn.outgoing.op (IsSend conn.fd conn.outgoing.room) leaves fits.sends apart.first_second
            apart.both_second;
        apart = fits.apart;
      }

  -- A job that waits for nothing fits each driver.
  pub idle_fits : (ops : Ops Rented) (state : State S) → NothingWaits state → FitsWaits ops state
  idle_fits ops (Accepting listener) idle = none_fits ops listener.op (IsAccept listener.fd) idle.0
  idle_fits ops (Serving serving) idle = record {
    receives = none_fits ops serving.value.conn.incoming.op (IsRecv serving.value.conn.fd) idle.0;
    sends = none_fits ops serving.value.conn.outgoing.op (IsSend serving.value.conn.fd serving.value.conn.outgoing.room) idle.1;
    apart = none_apart serving.value.conn.incoming.op serving.value.conn.outgoing.op idle.0;
  }

  -- Jobs are sound behind the drop of one that was apart from them.
  pub apart_sound : {D : Type 0} (ops : D → Ops Rented) (old new : NetDriver D) (jobs : ℕ → Option (NetJob S)) (job : NetJob S)
      → AreSound (FitsJob ops) ApartJobs old jobs → (t : ℕ) × IsApart (FitsJob ops) ApartJobs old jobs t job
      → ((other : NetJob S) → FitsWaits (ops old.driver) other.state → WaitApart job.state other.state
      → FitsWaits (ops new.driver) other.state)
      → AreSound (FitsJob ops) ApartJobs new jobs
  apart_sound ops old new jobs job sound apart others = record {
    all_fit = λ t other is. others other (sound.all_fit t other is) (apart.1.from t other is);
    all_apart = sound.all_apart;
  }

  -- Jobs are sound behind the drop of one that had no operation.
  pub idle_sound : {D : Type 0} (ops : D → Ops Rented) (old new : NetDriver D) (jobs : ℕ → Option (NetJob S)) (job : NetJob S)
      → AreSound (FitsJob ops) ApartJobs old jobs → NothingWaits job.state
      → ((other : NetJob S) → FitsWaits (ops old.driver) other.state → WaitApart job.state other.state
      → FitsWaits (ops new.driver) other.state)
      → AreSound (FitsJob ops) ApartJobs new jobs
  idle_sound ops old new jobs job sound idle others = record {
    all_fit = λ t other is. others other (sound.all_fit t other is) (idle_waits job.state other.state idle);
    all_apart = sound.all_apart;
  }

-- Tasks that are to be named are as they were.
pub same_names : (task : ℕ) (old new : List ℕ) → new ≡ old → NamesOwn task old new
same_names task old new same = inl same

-- One joined them.
pub own_names : (task : ℕ) (old new : List ℕ) → new ≡ old ++ task ∷ [] → NamesOwn task old new
own_names task old new joined = inr joined
