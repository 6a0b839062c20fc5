-- What the calls of the completion driver do, over any ring: its own clauses. Cited by its `OpDriver`.
use Rattle.std.specs.Prelude.{ℕ, ◌≡◌, ◌↔◌, Bool, true, false, IsTrue, [], map, ◌∷◌, None, Some, Result, Ok, Err}
use Rattle.rent_buf.specs.Buffer.{Buffer}
use Rattle.rent_buf.specs.Parts.{Parts}
use Rattle.rent_buf.specs.declared.fault.OutOfMemory.{OutOfMemory}
use Rattle.ring_core.specs.Entry.{close_entry}
use Rattle.ring_core.specs.Ring.{RingView}
use Rattle.machine.specs.declared.request.Request.{Request}
use Rattle.handle_core.specs.declared.table.Released.{Released}
use Rattle.handle_core.specs.declared.table.Released.TheVariants.{Last}
use Rattle.handle_core.specs.Table.{holders_at, without_user}
use Rattle.driver_core.specs.Holds.{is_nobody}
use Rattle.driver_core.specs.Members.{leaves}
use Rattle.driver_core.specs.declared.op.Op.{Op as Token}
use Rattle.driver_core.specs.declared.op.PollOp.{PollOp}
use Rattle.driver_core.specs.declared.op.SubmitError.{SubmitError}
use Rattle.driver_core.specs.declared.op.Submitted.{Submitted}
use Rattle.driver_core.specs.declared.op.Submitted.TheVariants.{Op}
use Rattle.uring_driver.specs.declared.uring.IoUringDriver.{IoUringDriver}
use Rattle.uring_driver.specs.Dropped.{DropsOp}
use Rattle.uring_driver.specs.Op.{cancel_for}
use Rattle.uring_driver.specs.PollOp.{PollsOp, PollsHandles, PollsMembers, ReturnsRequest, closes_of_poll}
use Rattle.uring_driver.specs.Submissions.{PendingMoves, PendingMovesEach}
use Rattle.uring_driver.specs.Holding.{unheld_if, user_left}
use Rattle.uring_driver.specs.Submitted.{IsSameRing, JoinsFor, SameOps, SameSlots, SubmitMoves, SubmitRefused}
use Rattle.uring_driver.specs.Uring.{holding_in, members_in, pending}

-- A submission under no group: the new operation holds the handles that its request names, and its entry joins what is pending. One that
-- is refused says why, and what it left.
abbrev pub UringSubmits : {R B : Type 0} → (R → RingView) → (B → Buffer) → Bool → Bool → IoUringDriver R B → IoUringDriver R B →
    Request B Parts → Result Token (SubmitError B) → Type 0
UringSubmits view buffer tells steady old new request (Ok op) =
    JoinsFor old new request None (Op op) × (IsTrue tells → SubmitMoves view buffer false request old new (Ok (Op op)))
UringSubmits view buffer tells steady old new request (Err refused) = SubmitRefused view buffer steady request old new refused

-- The same under a group. Under a canceled one nothing changes, and the request comes back.
abbrev pub UringJoins : {R B : Type 0} → (R → RingView) → (B → Buffer) → Bool → Bool → IoUringDriver R B → IoUringDriver R B →
    Request B Parts → ℕ → Result (Submitted B) (SubmitError B) → Type 0
UringJoins view buffer tells steady old new request group (Ok submitted) =
    JoinsFor old new request (Some group) submitted × (IsTrue tells → SubmitMoves view buffer false request old new (Ok submitted))
UringJoins view buffer tells steady old new request group (Err refused) = SubmitRefused view buffer steady request old new refused

-- A poll: what it did to the slot at the token's key, to who holds handles and to the groups, and which closes joined what is pending.
pub record UringPolled {R B : Type 0} (view : R → RingView) (tells : Bool) (old new : IoUringDriver R B) (op : Token) (task : ℕ)
    (answer : PollOp B) : Type 0 where
  pub slot : PollsOp old new op task answer
  pub request : ReturnsRequest old op answer
  pub handles : PollsHandles old new answer
  pub members : PollsMembers old new op answer
  pub moves : IsTrue tells → PendingMovesEach (pending view old) (pending view new) (closes_of_poll old answer)

-- It takes no memory, so it never answers that memory ran out.
abbrev pub UringPolls : {R B : Type 0} → (R → RingView) → Bool → IoUringDriver R B → IoUringDriver R B → Token → ℕ →
    Result (PollOp B) (OutOfMemory × Token) → Type 0
UringPolls view tells old new op task (Ok answer) = UringPolled view tells old new op task answer
UringPolls view tells old new op task (Err error) = ⊥

-- A drop: what it did to the slot at the token's key and to who holds handles, and what joined what is pending. Its operation is no member
-- of a group any more.
pub record UringDrops {R B : Type 0} (view : R → RingView) (tells : Bool) (old new : IoUringDriver R B) (op : Token) : Type 0 where
  pub drops : DropsOp view tells old new op
  pub members : members_in new ≡ leaves (members_in old) op.number

-- A cancel joins what is pending. If memory ran out, the ring's lists and what is due are as before. Slots, handles and groups stay.
abbrev pub UringCancels : {R B : Type 0} → (R → RingView) → Bool → IoUringDriver R B → IoUringDriver R B → Token →
    Result Unit OutOfMemory → Type 0
UringCancels view tells old new op (Ok done) =
    SameSlots old new × (IsTrue tells → PendingMoves (pending view old) (pending view new) (cancel_for op ∷ []))
UringCancels view tells old new op (Err error) = SameSlots old new × IsSameRing view old new

-- A handle is given up: its user holds it once less, and where nobody holds it then its close joins what is pending.
pub record UringCloses {R B : Type 0} (view : R → RingView) (tells : Bool) (old new : IoUringDriver R B) (fd : ℕ) (answer : Released)
    : Type 0 where
  pub last : answer ≡ Last ↔ is_nobody (without_user (holders_at (holding_in old).table fd)) ≡ true
  pub handles : holding_in new ≡ user_left (holding_in old) fd
  pub ops : SameOps old new
  pub moves : IsTrue tells → PendingMoves (pending view old) (pending view new)
      (map close_entry (unheld_if (is_nobody (without_user (holders_at (holding_in old).table fd))) fd))
