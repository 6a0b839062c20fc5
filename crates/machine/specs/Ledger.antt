-- The ledger, the state of the machine: operations, handles, cancellers, cancel handles and groups by number, the first at 0.
use Rattle.std.specs.Prelude.{ℕ, Bool, true, false, not, ◌&&◌, ◌==◌, if◌then◌else◌, List, [], ◌∷◌, ◌++◌, map, Option, None, Some, slice_get}
use Rattle.rent_buf.specs.Buffer.{Buffer}
use Rattle.rent_buf.specs.Parts.{Parts}
use Rattle.rent_buf.specs.Held.{HeldBuf}
use Rattle.machine.specs.declared.request.Request.{Request}
use Rattle.machine.specs.declared.request.Outcome.{Outcome}
use Rattle.machine.specs.declared.world.HandleState.{HandleState}
use Rattle.machine.specs.Lists.{numbers_where, passes, has_number}
use Rattle.machine.specs.Request.{named, held_of}

-- What is in the queue: the request of an operation, a cancel of one, or the close of a handle.
pub data Queued : Type 0 where
  Req : ℕ → Queued
  Cancel : ℕ → Queued
  Close : ℕ → Queued

-- What is in flight, and what is done: an operation, or the close of a handle.
pub data Item : Type 0 where
  Op : ℕ → Item
  Close : ℕ → Item

-- Where an operation is; from its execution until it is gone it has its outcome.
pub data Place : Type 0 where
  InQueue : Place
  InFlight : Place
  InDone : Outcome → Place
  Reaped : Outcome → Place
  Gone : Place

-- An operation: the request that was submitted, whether it is linked, the operation that it waits for, its buffer as it is now, the group
-- that it was submitted under, the task that waits for it, whether its cancel was taken, whether it was dropped, the handle that it made,
-- and its place.
pub record Operation : Type 0 where
  pub request : Request Buffer Parts
  pub linked : Bool
  pub waits_for : Option ℕ
  pub buffer : HeldBuf
  pub group : Option ℕ
  pub task : Option ℕ
  pub canceled : Bool
  pub dropped : Bool
  pub made : Option ℕ
  pub place : Place

-- Whose a handle is: whether its user holds it.
pub record Owner : Type 0 where
  pub is_user : Bool

-- The ledger. What the handles have is in `world`, whose they are in `owners`. `cancellers` has the present group of each canceller,
-- `cancel_handles` the group of each cancel handle, and `groups` whether each group is marked: it was canceled, for good.
pub record Ledger : Type 0 where
  pub capacity : ℕ
  pub queue : List Queued
  pub flying : List Item
  pub done : List Item
  pub ops : List Operation
  pub world : List HandleState
  pub owners : List Owner
  pub cancellers : List ℕ
  pub cancel_handles : List ℕ
  pub groups : List Bool

-- The empty ledger of a capacity.
abbrev pub empty : ℕ → Ledger
empty capacity = record {
  capacity = capacity;
  queue = [];
  flying = [];
  done = [];
  ops = [];
  world = [];
  owners = [];
  cancellers = [];
  cancel_handles = [];
  groups = [];
}

-- A new operation of a request, under a group or none, and linked or not.
abbrev pub new_operation : Request Buffer Parts → Option ℕ → Bool → Operation
new_operation request group linked =
    record {
      request = request;
      linked = linked;
      waits_for = None;
      buffer = held_of request;
      group = group;
      task = None;
      canceled = false;
      dropped = false;
      made = None;
      place = InQueue;
    }

-- A place other than Gone.
abbrev pub is_kept : Place → Bool
is_kept Gone = false
is_kept _ = true

-- An operation isn't gone.
abbrev pub is_live : Operation → Bool
is_live operation = is_kept operation.place

-- An operation is its user's: it is neither gone nor dropped.
abbrev pub is_owned : Operation → Bool
is_owned operation = is_live operation && not operation.dropped

-- The operations that aren't gone, ascending.
abbrev pub live_ops : Ledger → List ℕ
live_ops L = numbers_where is_live 0 L.ops

-- The user holds a handle.
abbrev pub user_holds : Ledger → ℕ → Bool
user_holds L h = passes (λ owner. owner.is_user) (slice_get L.owners h)

-- Who holds a handle: its user, or an operation.
pub data Holder : Type 0 where
  User : Holder
  ByOp : ℕ → Holder

-- The user, where it holds the handle.
abbrev pub user_holder : Ledger → ℕ → List Holder
user_holder L h = if user_holds L h then User ∷ [] else []

-- Handles, and behind them one that was made, or none.
abbrev pub with_made : Option ℕ → List ℕ → List ℕ
with_made None handles = handles
with_made (Some h) handles = handles ++ h ∷ []

-- The handles that an operation holds while it isn't gone: those that its request names, and the one that it made.
abbrev pub holds : Operation → List ℕ
holds operation = with_made operation.made (named operation.request)

-- An operation holds a handle: it isn't gone, and its request names the handle, or it made it.
abbrev pub is_holding : ℕ → Operation → Bool
is_holding h operation = is_live operation && has_number h (holds operation)

-- The operations that hold a handle, ascending.
abbrev pub holding_ops : Ledger → ℕ → List ℕ
holding_ops L h = numbers_where (is_holding h) 0 L.ops

-- The holders of a handle: the user, and each operation that isn't gone and names it or made it.
abbrev pub holders : Ledger → ℕ → List Holder
holders L h = user_holder L h ++ map ByOp (holding_ops L h)

-- A group is marked.
abbrev pub is_marked : Ledger → ℕ → Bool
is_marked L g = passes (λ mark. mark) (slice_get L.groups g)

-- An operation was submitted under a group.
abbrev pub is_under : ℕ → Operation → Bool
is_under g operation = passes (λ group. group == g) operation.group

-- An operation is a member of a group: it was submitted under it, and is its user's.
abbrev pub is_member : ℕ → Operation → Bool
is_member g operation = is_under g operation && is_owned operation

-- The members of a group: the operations under it that are neither gone nor dropped, ascending. A marked group has none.
abbrev pub members : Ledger → ℕ → List ℕ
members L g = if is_marked L g then [] else numbers_where (is_member g) 0 L.ops

-- The group of the cancel handle that a request is submitted under; None where it is submitted under none.
abbrev pub group_under : Ledger → Option ℕ → Option ℕ
group_under L None = None
group_under L (Some handle) = slice_get L.cancel_handles handle

-- A request is submitted under a marked group.
abbrev pub is_under_marked : Ledger → Option ℕ → Bool
is_under_marked L under = passes (is_marked L) (group_under L under)
