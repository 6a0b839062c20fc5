-- What each call of the completion driver does over a ring that fails where it is told to: the driver's own clauses, for this ring.
use Rattle.std.specs.Prelude.{ℕ, ◌≡◌, ◌≤◌, ◌↔◌, true, false, List, [], ◌∷◌, length, map, Option, Result, IfOk, IfErr, OnErr}
use Rattle.std.specs.List.Sorted.{IsStrictlyIncreasing}
use Rattle.rent_buf.specs.Buf.{built}
use Rattle.rent_buf.specs.Parts.{Parts}
use Rattle.rent_buf.specs.declared.plain.Buf.{Buf}
use Rattle.handle_core.specs.Table.{holders_at, without_user}
use Rattle.handle_core.specs.declared.table.Released.{Released}
use Rattle.handle_core.specs.declared.table.Released.TheVariants.{Held, Last}
use Rattle.cancel_core.specs.Group.{group_at}
use Rattle.op_slots.specs.declared.slab.TheConstants.{MAX_LIVE}
use Rattle.machine.specs.declared.request.Request.{Request}
use Rattle.ring_core.specs.Entry.{close_entry}
use Rattle.machine.specs.Ledger.{Ledger}
use Rattle.ring_core.specs.FaultRing.{FaultView, faulty_ring}
use Rattle.driver_core.specs.Answers.{IsUnder, CancellerFor}
use Rattle.driver_core.specs.Groups.{is_under_canceled}
use Rattle.driver_core.specs.Holds.{is_nobody}
use Rattle.driver_core.specs.Members.{cancels, leaves, with_fresh}
use Rattle.driver_core.specs.declared.op.Op.{Op}
use Rattle.driver_core.specs.declared.op.PollOp.{PollOp}
use Rattle.driver_core.specs.declared.op.SubmitError.{SubmitError}
use Rattle.driver_core.specs.declared.op.SubmitFault.TheVariants.{OutOfMemory}
use Rattle.driver_core.specs.declared.op.Submitted.{Submitted}
use Rattle.driver_core.specs.declared.op.Turned.{Turned}
use Rattle.uring_driver.specs.declared.uring.IoUringDriver.{IoUringDriver}
use Rattle.uring_driver.specs.Dropped.{DropsOp}
use Rattle.uring_driver.specs.Groups.{cancels_of}
use Rattle.uring_driver.specs.Holding.{unheld_if, user_left}
use Rattle.uring_driver.specs.Op.{number_of, cancel_for, DropsToken, KeepsRequests, KeepsTokens}
use Rattle.uring_driver.specs.PollOp.{PollsFor, PollsOp, PollsTokens, PollsHandles, PollsMembers, ReturnsRequest, IsExactPoll, IsPending}
use Rattle.uring_driver.specs.PollOp.{IsUnreaped, closes_of_poll}
use Rattle.uring_driver.specs.Reaps.{PendingJoins}
use Rattle.uring_driver.specs.Released.{Adopts, HasCloseRoom}
use Rattle.uring_driver.specs.Stands.{Stands}
use Rattle.uring_driver.specs.Submissions.{PendingMoves, PendingMovesEach, TakesFront}
use Rattle.uring_driver.specs.Submitted.{SameOps, SameSlots, SubmitsFor, SubmitMoves, SubmitRefused, AddsToken, GivesRequest, JoinsFor}
use Rattle.uring_driver.specs.Submitted.{IsCanceled, IsFullError, IsSameRing}
use Rattle.uring_driver.specs.Turned.{TurnMeets}
use Rattle.uring_driver.specs.Uring.{ring_in, pending, whole_ring, holding_in, members_in, given_by, group_count, live_slots}

-- A driver over such a ring.
abbrev pub Engine : Type 0
Engine = IoUringDriver FaultView Buf

-- It stands for a ledger.
abbrev pub EngineStands : Engine → Ledger → Type 0
EngineStands = Stands faulty_ring built

-- A handle was adopted.
pub record AdoptCall (old : Engine) (h : ℕ) (new : Engine) : Type 0 where
  pub handles : Adopts (holding_in old) h (holding_in new)
  pub rest : SameOps old new × IsSameRing faulty_ring old new
  pub room : HasCloseRoom new
  pub tokens : KeepsTokens old new
  pub requests : KeepsRequests old new

-- A hold of a handle was given up.
pub record CloseCall (old : Engine) (h : ℕ) (new : Engine) (released : Released) : Type 0 where
  pub last : (released ≡ Last) ↔ (is_nobody (without_user (holders_at (holding_in old).table h)) ≡ true)
  pub handles : holding_in new ≡ user_left (holding_in old) h
  pub ops : SameOps old new
  pub moves : PendingMoves (pending faulty_ring old) (pending faulty_ring new)
      (map close_entry (unheld_if (is_nobody (without_user (holders_at (holding_in old).table h))) h))
  pub ring : released ≡ Held → new.ring ≡ old.ring
  pub tokens : KeepsTokens old new
  pub requests : KeepsRequests old new

-- A request was submitted under a group or none, or was refused.
pub record SubmitCall (old : Engine) (request : Request Buf Parts) (group : Option ℕ) (new : Engine)
    (result : Result (Submitted Buf) (SubmitError Buf)) : Type 0 where
  pub answers : IfOk result (λ submitted. (L : Ledger) → EngineStands old L → (handle : Option ℕ) → IsUnder L group handle →
      SubmitsFor faulty_ring built false L request handle new submitted)
  pub token : IfOk result (λ submitted. AddsToken old new submitted)
  pub request_of : IfOk result (λ submitted. GivesRequest new submitted request)
  pub requests : KeepsRequests old new
  pub joins : IfOk result (λ submitted. JoinsFor old new request group submitted)
  pub moves : SubmitMoves faulty_ring built false request old new result
  pub canceled : IsCanceled result ↔ (is_under_canceled (members_in old) group ≡ true)
  pub full : IsFullError result ↔ ((is_under_canceled (members_in old) group ≡ false) × (live_slots old ≡ MAX_LIVE))
  pub err : IfErr result (SubmitRefused faulty_ring built false request old new)
  pub memory : IfErr result (λ refused. refused.why ≡ OutOfMemory → IsSameRing faulty_ring old new)
  pub takes : OnErr result (TakesFront (whole_ring faulty_ring old) (whole_ring faulty_ring new))
  pub kept : length (faulty_ring (ring_in old)).done ≤ length (faulty_ring (ring_in new)).done

-- An operation was polled for a task.
pub record PollCall (old : Engine) (op : Op) (task : ℕ) (new : Engine) (result : PollOp Buf) : Type 0 where
  pub answers : IsExactPoll false result → (L : Ledger) → EngineStands old L → PollsFor faulty_ring built L op task new result
  pub waits : (L : Ledger) → EngineStands old L → (IsPending result ↔ IsUnreaped L (number_of op))
  pub polls : PollsOp old new op task result
  pub tokens : PollsTokens old new op result
  pub request : ReturnsRequest old op result
  pub requests : KeepsRequests old new
  pub handles : PollsHandles old new result
  pub moves : PendingMovesEach (pending faulty_ring old) (pending faulty_ring new) (closes_of_poll old result)
  pub ring : closes_of_poll old result ≡ [] → new.ring ≡ old.ring
  pub given : given_by new ≡ given_by old
  pub members : PollsMembers old new op result

-- An operation was dropped.
pub record DropCall (old : Engine) (op : Op) (new : Engine) : Type 0 where
  pub tokens : DropsToken old new op
  pub requests : KeepsRequests old new
  pub drops : DropsOp faulty_ring true old new op
  pub given : given_by new ≡ given_by old
  pub members : members_in new ≡ leaves (members_in old) (number_of op)

-- The cancel of an operation was asked for.
pub record CancelCall (old : Engine) (op : Op) (new : Engine) : Type 0 where
  pub same : SameSlots old new
  pub tokens : KeepsTokens old new
  pub requests : KeepsRequests old new
  pub moves : PendingMoves (pending faulty_ring old) (pending faulty_ring new) (cancel_for op ∷ [])
  pub given : given_by new ≡ given_by old

-- A canceller was made.
pub record CancellerCall (old : Engine) (group : ℕ) (new : Engine) : Type 0 where
  pub answers : (L : Ledger) → EngineStands old L → CancellerFor EngineStands L group new
  pub number : group ≡ group_count old
  pub made : new ≡ record old { members = with_fresh (members_in old) }
  pub tokens : KeepsTokens old new
  pub requests : KeepsRequests old new

-- A group was canceled: its members are named, and the canceller is of a fresh group.
pub record CancelAllCall (old : Engine) (group : ℕ) (new : Engine) (fresh : ℕ) (numbers : List ℕ) : Type 0 where
  pub members : numbers ≡ (group_at (members_in old).groups group).members
  pub ascending : IsStrictlyIncreasing numbers
  pub moves : PendingJoins (pending faulty_ring old) (cancels_of (members_in old) numbers) (pending faulty_ring new)
  pub number : fresh ≡ group_count old
  pub marked : new ≡ record old { ring = new.ring; members = cancels (members_in old) group }
  pub tokens : KeepsTokens old new
  pub requests : KeepsRequests old new

-- A turn was made.
pub record TurnCall (old new : Engine) (turned : Turned) : Type 0 where
  pub meets : TurnMeets faulty_ring built true false old new turned
  pub requests : KeepsRequests old new
