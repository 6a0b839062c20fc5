-- What a call on one operation leaves of the others.
use Rattle.std.proofs.Common.{◌≡◌, ◌∙◌, ap, sym, refl, subst, Option, Some, None, Ok, Err, arith}
use Rattle.std.specs.Prelude.{Result}
use Rattle.rent_buf.specs.Parts.{Parts}
use Rattle.rent_buf.specs.Rent.{Rented}
use Rattle.rent_buf.specs.declared.fault.OutOfMemory.{OutOfMemory as NoMemory}
use Rattle.machine.specs.declared.request.Request.{Request}
use Rattle.driver_core.specs.declared.op.Op.{Op}
use Rattle.driver_core.specs.declared.op.PollOp.{PollOp}
use Rattle.driver_core.specs.declared.op.PollOp.TheVariants.{Pending, Ready}
use Rattle.driver_core.specs.Op.{AddsToken, DropsToken, Holds, KeepsTokens, number_of}
use Rattle.driver_core.specs.Ops.{Ops}
use Rattle.driver_core.specs.Requests.{KeepsRequests, request_at}
use Rattle.ready_driver.specs.Awaits.{TokensFor}
use Rattle.op_driver.specs.Returned.{KeepsOthers}
use Rattle.net_stream.specs.declared.connection.Connection.{Connection}
use Rattle.net_stream.specs.Connection.{AreDifferent, AreBeside, FitsConnection, KeepsBeside, KeepsOutside}
use Rattle.net_stream.specs.Drives.{FitsOp, HoldsNoMore, HoldsOp, IsGone, IfAsked, IsOther, IsRecv, IsSend, KeepsOther}
use Rattle.net_stream.specs.Told.{bytes_sent, in_flight}

-- A submission adds an operation that is none of those that were held.
pub submitted_other : (old new : Ops Rented) (op : Op) → AddsToken old new op → KeepsRequests old new → KeepsOther old None new (Some op)
submitted_other old new op adds keeps = λ other held apart.
    let below = held.1 in let next = adds.next in let number = adds.number in (
      (adds.kept other held.0, omega (arith, below, next)),
      keeps other held.0 (adds.kept other held.0),
      λ same. let e : number_of other ≡ number_of op = ap number_of same in absurd (omega (arith, below, number, e)),
    )

-- One that was refused changes none.
pub refused_other : (old new : Ops Rented) → KeepsTokens old new → new.given ≡ old.given → KeepsRequests old new
    → KeepsOther old None new None
refused_other old new tokens given keeps = λ other held apart.
    let below = held.1 in
    (((tokens other).0 held.0, omega (arith, below, given)), keeps other held.0 ((tokens other).0 held.0), tt)

-- A poll keeps each other operation, and where it waits on it keeps its own.
pub polled_other : (old new : Ops Rented) (op : Op) (result : Result (PollOp Rented) (NoMemory × Op)) → TokensFor old new op result
    → KeepsOthers old new op → new.given ≡ old.given → (other : Op) → HoldsOp old other → IsOther (Some op) other
    → HoldsOp new other × (request_at new other ≡ request_at old other)
polled_other old new op (Ok (Pending back)) tokens keeps given other held apart =
    let below = held.1 in
    (((tokens.1 other).0 held.0, omega (arith, below, given)), keeps other apart held.0)
polled_other old new op (Ok (Ready done)) tokens keeps given other held apart =
    let below = held.1 in
    (((tokens other).1 (held.0, apart), omega (arith, below, given)), keeps other apart held.0)
polled_other old new op (Err error) tokens keeps given other held apart =
    let below = held.1 in
    (((tokens.1 other).0 held.0, omega (arith, below, given)), keeps other apart held.0)

-- Where nothing was called each is kept.
pub same_other : (ops : Ops Rented) (waits : Option Op) → KeepsOther ops waits ops waits
same_other ops waits = λ other held apart. (held, refl, apart)

-- Each is kept by two calls that keep it.
pub then_other : (old mid new : Ops Rented) (waited between waits : Option Op) → KeepsOther old waited mid between
    → KeepsOther mid between new waits → KeepsOther old waited new waits
then_other old mid new waited between waits first second = λ other held apart.
    let once = first other held apart in
    let twice = second other once.0 once.2 in
    (twice.0, twice.1 ∙ once.1, twice.2)

-- A drop keeps each other operation.
pub dropped_other : (old new : Ops Rented) (op : Op) → DropsToken old new op → KeepsRequests old new → new.given ≡ old.given
    → KeepsOther old (Some op) new None
dropped_other old new op drops keeps given = λ other held apart.
    let below = held.1 in
    let still = (drops other).1 (held.0, apart) in
    ((still, omega (arith, below, given)), keeps other held.0 still, tt)

-- An operation that waits elsewhere is kept, with what is known of its request.
pub fits_kept : (old new : Ops Rented) (waited waits : Option Op) (op : Option Op) (P : Request Rented Parts → Type 0)
    → KeepsOther old waited new waits → FitsOp old op P → ((other : Op) → op ≡ Some other → IsOther waited other) → FitsOp new op P
fits_kept old new waited waits None P keeps fits apart = tt
fits_kept old new waited waits (Some op) P keeps fits apart =
    let kept = keeps op fits.0 (apart op refl) in
    (kept.0, subst (λ r. IfAsked r P) (sym kept.1) fits.1)

-- A call that keeps every token and every request, as a turn of the driver, keeps what a connection waits for.
pub kept_op : (old new : Ops Rented) (op : Option Op) (P : Request Rented Parts → Type 0) → KeepsTokens old new → new.given ≡ old.given
    → KeepsRequests old new → FitsOp old op P → FitsOp new op P
kept_op old new None P tokens given keeps fits = tt
kept_op old new (Some op) P tokens given keeps fits =
    let below = fits.0.1 in
    let still = (tokens op).0 fits.0.0 in
    ((still, omega (arith, below, given)), subst (λ r. IfAsked r P) (sym (keeps op fits.0.0 still)) fits.1)

-- A turn keeps what a connection waits for.
pub turned_fits : (old new : Ops Rented) (conn : Connection) → KeepsTokens old new → new.given ≡ old.given → KeepsRequests old new
    → FitsConnection old conn → FitsConnection new conn
turned_fits old new conn tokens given keeps fits = record {
  receives = kept_op old new conn.incoming.op (IsRecv conn.fd) tokens given keeps fits.receives;
  sends = kept_op old new conn.outgoing.op (IsSend conn.fd conn.outgoing.room) tokens given keeps fits.sends;
  apart = fits.apart;
}

-- An operation of another connection isn't one that this waits for.
pub is_other : (waits : Option Op) (op : Op) → AreDifferent waits (Some op) → IsOther waits op
is_other None op apart = tt
is_other (Some waited) op apart = apart

-- And one that isn't is different from it.
pub are_apart : (waits : Option Op) (op : Op) → IsOther waits op → AreDifferent waits (Some op)
are_apart None op other = tt
are_apart (Some waited) op other = other

-- Nothing is different from each.
pub no_apart : (waits : Option Op) → AreDifferent waits None
no_apart None = tt
no_apart (Some waited) = tt

-- What a call of one connection leaves of an operation that another waits for.
record Beside (new : Ops Rented) (now : Connection) (op : Option Op) (P : Request Rented Parts → Type 0) : Type 0 where
  fits : FitsOp new op P
  receives : AreDifferent now.incoming.op op
  sends : AreDifferent now.outgoing.op op

-- A call of one connection keeps one operation of another.
beside_op : (old new : Ops Rented) (before now : Connection) (op : Option Op) (P : Request Rented Parts → Type 0)
    → KeepsBeside old before new now → FitsOp old op P → AreDifferent before.incoming.op op → AreDifferent before.outgoing.op op
    → Beside new now op P
beside_op old new before now None P keeps fits receives sends =
    record { fits = tt; receives = no_apart now.incoming.op; sends = no_apart now.outgoing.op }
beside_op old new before now (Some op) P keeps fits receives sends =
    let kept = keeps op fits.0 (is_other before.incoming.op op receives) (is_other before.outgoing.op op sends) in
    record {
      fits = (kept.0, subst (λ r. IfAsked r P) (sym kept.1) fits.1);
      receives = are_apart now.incoming.op op kept.2;
      sends = are_apart now.outgoing.op op kept.3;
    }

-- A call of one connection keeps what another waits for, and that is none of what the first waits for then.
pub beside_fits : (old new : Ops Rented) (before now other : Connection) → KeepsBeside old before new now → FitsConnection old other
    → AreBeside before other → FitsConnection new other × AreBeside now other
beside_fits old new before now other keeps fits beside =
    let receive = beside_op old new before now other.incoming.op (IsRecv other.fd) keeps fits.receives beside.both_receive beside.one_sends
    in
    let send = beside_op old new before now other.outgoing.op (IsSend other.fd other.outgoing.room) keeps fits.sends beside.one_receives
    beside.both_send in (
      record { receives = receive.fits; sends = send.fits; apart = fits.apart },
      record { both_receive = receive.receives; one_receives = send.receives; one_sends = receive.sends; both_send = send.sends },
    )

-- It keeps the bytes that the other's send has.
pub beside_flight : (old new : Ops Rented) (before now other : Connection) → KeepsBeside old before new now → FitsConnection old other
    → AreBeside before other → in_flight new other.outgoing.op ≡ in_flight old other.outgoing.op
beside_flight old new before now other keeps fits beside =
    kept other.outgoing.op fits.sends beside.one_receives beside.both_send
  where
    kept : (op : Option Op) → FitsOp old op (IsSend other.fd other.outgoing.room) → AreDifferent before.incoming.op op
        → AreDifferent before.outgoing.op op → in_flight new op ≡ in_flight old op
    kept None fits receives sends = refl
    kept (Some op) fits receives sends =
        ap bytes_sent (keeps op fits.0 (is_other before.incoming.op op receives) (is_other before.outgoing.op op sends)).1

-- The end of one connection keeps what another waits for.
ended_op : (old new : Ops Rented) (ended : Connection) (op : Option Op) (P : Request Rented Parts → Type 0)
    → KeepsOutside old ended new → FitsOp old op P → AreDifferent ended.incoming.op op → AreDifferent ended.outgoing.op op → FitsOp new op P
ended_op old new ended None P keeps fits receives sends = tt
ended_op old new ended (Some op) P keeps fits receives sends =
    let kept = keeps op fits.0 (is_other ended.incoming.op op receives) (is_other ended.outgoing.op op sends) in
    (kept.0, subst (λ r. IfAsked r P) (sym kept.1) fits.1)

-- So it is of both its operations.
pub ended_fits : (old new : Ops Rented) (ended other : Connection) → KeepsOutside old ended new → FitsConnection old other
    → AreBeside ended other → FitsConnection new other
ended_fits old new ended other keeps fits beside = record {
  receives = ended_op old new ended other.incoming.op (IsRecv other.fd) keeps fits.receives beside.both_receive beside.one_sends;
  sends = ended_op old new ended other.outgoing.op (IsSend other.fd other.outgoing.room) keeps fits.sends beside.one_receives
      beside.both_send;
  apart = fits.apart;
}

-- The end of a connection behind a call that keeps every token and every request, as the close of its handle.
pub closed_outside : (old mid new : Ops Rented) (conn : Connection) → KeepsTokens old mid → mid.given ≡ old.given → KeepsRequests old mid
    → KeepsOutside mid conn new → KeepsOutside old conn new
closed_outside old mid new conn tokens given keeps outside = λ other held receives sends.
    let below = held.1 in
    let still = (tokens other).0 held.0 in
    let kept = outside other (still, omega (arith, below, given)) receives sends in
    (kept.0, kept.1 ∙ keeps other held.0 still)

-- Two connections wait for no operation together, whichever is named first.
pub beside_swaps : (one other : Connection) → AreBeside one other → AreBeside other one
beside_swaps one other beside = record {
  both_receive = apart_swaps one.incoming.op other.incoming.op beside.both_receive;
  one_receives = apart_swaps one.outgoing.op other.incoming.op beside.one_sends;
  one_sends = apart_swaps one.incoming.op other.outgoing.op beside.one_receives;
  both_send = apart_swaps one.outgoing.op other.outgoing.op beside.both_send;
}
  where
    apart_swaps : (one other : Option Op) → AreDifferent one other → AreDifferent other one
    apart_swaps None None apart = tt
    apart_swaps None (Some op) apart = tt
    apart_swaps (Some op) None apart = tt
    apart_swaps (Some op) (Some other) apart = λ same. apart (sym same)

-- A drop leaves its operation gone, and makes none.
pub dropped_gone : (old new : Ops Rented) (op : Op) → DropsToken old new op → Holds new op → ⊥
dropped_gone old new op drops held = ((drops op).0 held).1 refl

-- It makes none.
pub dropped_fewer : (old new : Ops Rented) (op : Op) → DropsToken old new op → HoldsNoMore old new
dropped_fewer old new op drops = λ other held. ((drops other).0 held).0

-- What is gone stays gone where none is made.
pub still_gone : (old new : Ops Rented) (op : Option Op) → IsGone old op → HoldsNoMore old new → IsGone new op
still_gone old new None gone fewer = tt
still_gone old new (Some op) gone fewer = λ held. gone (fewer op held)
