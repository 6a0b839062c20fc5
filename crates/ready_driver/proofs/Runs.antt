-- Whole runs of a readiness driver, and what its polls answer.
use Rattle.std.proofs.Common.{◌≡◌, ◌≢◌, ℕ, Bool, true, false, not, ◌&&◌, List, [], ◌∷◌, Option, Some, None, refl, sym, ◌∙◌, ap, arith}
use Rattle.std.specs.Prelude.{◌↔◌, is_none}
use Rattle.rent_buf.specs.Held.{HeldBuf}
use Rattle.machine.specs.declared.world.HandleState.{HandleState}
use Rattle.machine.specs.declared.world.call.TheConstants.{INVALID, BROKEN_PIPE, FILE_TOO_BIG}
use Rattle.machine.specs.declared.request.TheConstants.{CANCELED}
use Rattle.machine.specs.declared.request.Call.{Call}
use Rattle.machine.specs.declared.request.Call.TheVariants as call
use Rattle.machine.specs.declared.request.Told.{Told}
use Rattle.machine.specs.declared.request.Told.TheVariants.{Count, Fail}
use Rattle.machine.specs.declared.request.Outcome.{Outcome}
use Rattle.machine.specs.declared.ledger.Event.{Event}
use Rattle.machine.specs.declared.ledger.Event.TheVariants.{Poll}
use Rattle.machine.specs.declared.ledger.Reply.TheVariants.{Pending, Handed}
use Rattle.machine.specs.Request.{call_of, sent_of}
use Rattle.machine.specs.Effect.{effect, message_effect}
use Rattle.machine.specs.Attempt.{answer_if, is_early, awaited, fits, is_broken, receiver, is_dry, is_too_far, greatest}
use Rattle.machine.specs.Ledger.{Ledger, empty}
use Rattle.machine.specs.Refusal.{cause}
use Rattle.machine.proofs.Stepping.{OwnedAt, found}
use Rattle.ready_driver.specs.Spelled.{asked, blocked, spelled, spelled_reply, spelled_replies, spelled_after, ledger_behind}
use Rattle.ready_driver.specs.Legacy.{LegacyOp, Legacy, idle}
use Rattle.ready_driver.specs.LegacyStep.{poll_op, legacy_answered, legacy_step, legacy_after, legacy_replies}
use Rattle.ready_driver.specs.Readiness.{AreDriven, DriverFollows, PendingBlocked, CanceledAsked}
use Rattle.ready_driver.proofs.Settled.{Stands}
use Rattle.ready_driver.proofs.Causes.{same-cause}
use Rattle.ready_driver.proofs.Meets.{Taken, kept-taken}
use Rattle.ready_driver.proofs.Polls.{slot, made, poll-slot, poll-blocked}
use Rattle.ready_driver.proofs.Follows.{step-follows}
use Rattle.ready_driver.proofs.Shows.{stands-shows}

-- A new driver stands for the empty ledger.
starts : (capacity : ℕ) → Stands idle (empty capacity)
starts capacity = record {
  settled = record {
    half = record {
      lists = record { waiting = λ n. refl; flown = λ n. refl; standing = λ n. refl };
      idle = refl;
      calm = λ n o there. (let f : ⊥ = cc in absurd f);
      asks = λ n. refl;
      free = λ n o there. (let f : ⊥ = cc in absurd f);
      counted = refl;
    };
    closed = refl;
  };
  shows = record { slots = refl; users = refl; world = refl; cancellers = refl; cancel_handles = refl; groups = refl };
}

-- Events are followed, one after another.
run-follows : (D : Legacy) (L : Ledger) (events : List Event) → AreDriven events → Stands D L →
    (legacy_replies D events ≡ spelled_replies L events) × Stands (legacy_after D events) (spelled_after L events)
run-follows D L [] r st = (refl, st)
run-follows D L (e ∷ events) r st =
    let m = step-follows D L e r.0 st in
    let rest = run-follows (legacy_step D e).0 (ledger_behind L e) events r.1 m.stands in (
      ap (λ x. x ∷ legacy_replies (legacy_step D e).0 events) m.reply_is ∙ ap (λ xs. spelled_reply L (spelled L e) ∷ xs) rest.0,
      rest.1,
    )

-- A driver stands for the ledger after all events that it answered.
stands-after : (capacity : ℕ) (events : List Event) → AreDriven events →
    Stands (legacy_after idle events) (spelled_after (empty capacity) events)
stands-after capacity events r = (run-follows idle (empty capacity) events r (starts capacity)).1

-- The driver follows the machine.
pub driver-follows : DriverFollows
driver-follows capacity events r =
    let run = run-follows idle (empty capacity) events r (starts capacity) in
    record { replies = run.0; shows = stands-shows (legacy_after idle events) (spelled_after (empty capacity) events) run.1 }

-- A poll waits exactly where the cancel isn't asked for, and the call would block.
op-pending : (D : Legacy) (n : ℕ) (op : LegacyOp) (c : Bool) (m : Option Told) →
    ((poll_op c m D n op).1 ≡ Pending) ↔ ((not c && is_none m) ≡ true)
op-pending D n op true m = (λ h. (let f : ⊥ = cc in absurd f), λ h. (let f : ⊥ = cc in absurd f))
op-pending D n op false None = (λ h. refl, λ h. refl)
op-pending D n op false (Some told) = (λ h. (let f : ⊥ = cc in absurd f), λ h. (let f : ⊥ = cc in absurd f))

-- A call that is made at once never ends with the error of a cancel.
answers-other : (a b c d e : Bool) (k : ℕ) (told : Told) → answer_if a None (answer_if b (Some (Fail INVALID))
    (answer_if c (Some (Fail BROKEN_PIPE)) (answer_if d None (answer_if e (Some (Fail FILE_TOO_BIG)) (Some (Count k)))))) ≡ Some told →
    told ≢ Fail CANCELED
answers-other true b c d e k told h q = (let f : ⊥ = cc in f)
answers-other false true c d e k told h q = (let r : ◌≡◌ {A = ℕ} 22 125 = cc in absurd (omega (arith, r)))
answers-other false false true d e k told h q = (let r : ◌≡◌ {A = ℕ} 32 125 = cc in absurd (omega (arith, r)))
answers-other false false false true e k told h q = (let f : ⊥ = cc in f)
answers-other false false false false true k told h q = (let r : ◌≡◌ {A = ℕ} 27 125 = cc in absurd (omega (arith, r)))
answers-other false false false false false k told h q = (let f : ⊥ = cc in f)

-- A message that comes, or doesn't, is no error.
message-other : (world : List HandleState) (k : ℕ) (first : Option (ℕ × List ℕ)) →
    (message_effect world k first).outcome ≢ Outcome.Fail CANCELED
message-other world k None e = (let f : ⊥ = cc in f)
message-other world k (Some message) e = (let f : ⊥ = cc in f)

-- The outcome is the error of a cancel only where that is reported.
told-other : (world : List HandleState) (c : Call) (sent : List ℕ) (told : Told) → told ≢ Fail CANCELED →
    (effect world c sent told).outcome ≢ Outcome.Fail CANCELED
told-other world c sent (Fail x) other e = other (let q : x ≡ CANCELED = cc in ap Fail q)
told-other world (call.MessageIn h want) sent (Count k) other e = message-other _ k _ e
told-other world (call.In h want) sent (Count k) other e = (let f : ⊥ = cc in f)
told-other world (call.Out h offered) sent (Count k) other e = (let f : ⊥ = cc in f)
told-other world (call.MessageOut h addr offered) sent (Count k) other e = (let f : ⊥ = cc in f)
told-other world (call.ReadAt h pos want) sent (Count k) other e = (let f : ⊥ = cc in f)
told-other world (call.WriteAt h pos offered) sent (Count k) other e = (let f : ⊥ = cc in f)
told-other world (call.ToPipe h pipe want) sent (Count k) other e = (let f : ⊥ = cc in f)
told-other world (call.FromPipe pipe h want) sent (Count k) other e = (let f : ⊥ = cc in f)
told-other world (call.Accept h) sent (Count k) other e = (let f : ⊥ = cc in f)
told-other world call.Open sent (Count k) other e = (let f : ⊥ = cc in f)
told-other world (call.Connect h) sent (Count k) other e = (let f : ⊥ = cc in f)
told-other world (call.Fsync h) sent (Count k) other e = (let f : ⊥ = cc in f)
told-other world (call.PollAdd h read) sent (Count k) other e = (let f : ⊥ = cc in f)
told-other world call.Path sent (Count k) other e = (let f : ⊥ = cc in f)

-- A poll ends with the error of a cancel only where the cancel is asked for.
op-canceled : (D : Legacy) (n : ℕ) (op : LegacyOp) (c : Bool) (m : Option Told) (buffer : HeldBuf) →
    ((told : Told) → m ≡ Some told → told ≢ Fail CANCELED) → (poll_op c m D n op).1 ≡ Handed (Outcome.Fail CANCELED) buffer → c ≡ true
op-canceled D n op true m buffer other h = refl
op-canceled D n op false None buffer other h = (let z : ⊥ = cc in absurd z)
op-canceled D n op false (Some told) buffer other h =
    absurd (told-other D.world (call_of op.request) (sent_of op.request) told (other told refl)
    (let q : (effect D.world (call_of op.request) (sent_of op.request) told).outcome ≡ Outcome.Fail CANCELED = cc in q))

-- A poll that isn't refused, of a driver that stands for a ledger.
module _ (D : Legacy) (L : Ledger) (n task : ℕ) (st : Stands D L) (u : cause L (Poll n task) ≡ None) where
  -- Its operation.
  f : OwnedAt L n
  f = found L n u

  -- The operation once the queue is taken.
  t : Taken L n f.operation
  t = kept-taken L n f.operation st.settled.half f.there f.kept

  -- The reply is that of its slot.
  answer : spelled_reply L (spelled L (Poll n task))
      ≡ (poll_op t.canceled (made D L n task st f t) D n (slot D L n task st f t)).1
  answer =
      sym (step-follows D L (Poll n task) tt st).reply_is
      ∙ ap (λ s. s.1) (ap (λ c. legacy_answered c D (Poll n task)) (same-cause D L st (Poll n task) tt ∙ u) ∙ poll-slot D L n task st f t)

  -- It waits exactly where it is blocked.
  pending-blocked : (spelled_reply L (spelled L (Poll n task)) ≡ Pending) ↔ (blocked L n ≡ true)
  pending-blocked =
      let p = op-pending D n (slot D L n task st f t) t.canceled (made D L n task st f t) in
      let b = poll-blocked D L n task st f t in
      (λ h. b ∙ p.0 (sym answer ∙ h), λ h. answer ∙ p.1 (sym b ∙ h))

  -- It ends with the error of a cancel only where that is asked for.
  canceled-asked : (buffer : HeldBuf) → spelled_reply L (spelled L (Poll n task)) ≡ Handed (Outcome.Fail CANCELED) buffer → asked L n ≡ true
  canceled-asked buffer h =
      let c : Call = call_of f.operation.request in
      t.asked_is
      ∙ op-canceled D n (slot D L n task st f t) t.canceled (made D L n task st f t) buffer
      (λ told e. answers-other (is_early L.world (awaited c)) (not (fits L.world c)) (is_broken L.world (receiver c)) (is_dry L.world c)
      (is_too_far c) (greatest L.world c) told e) (sym answer ∙ h)

-- A poll after spelled events waits exactly where it is blocked.
pub poll-pending : PendingBlocked
poll-pending capacity events n task r u =
    pending-blocked (legacy_after idle events) (spelled_after (empty capacity) events) n task (stands-after capacity events r) u

-- It ends with the error of a cancel only where that is asked for.
pub poll-canceled : CanceledAsked
poll-canceled capacity events n task buffer r u h =
    canceled-asked (legacy_after idle events) (spelled_after (empty capacity) events) n task (stands-after capacity events r) u buffer h
