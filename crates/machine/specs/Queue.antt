-- Taking the queue, pushing an entry, and the leaving of an operation.
use Rattle.std.specs.Prelude.{ℕ, Bool, true, not, ◌&&◌, ◌==◌, if◌then◌else◌, List, [], ◌∷◌, ◌++◌, length, map, filter, Option, Some, None}
use Rattle.std.specs.Prelude.{slice_get}
use Rattle.machine.specs.Lists.{amended, is_empty, numbers_below, passes}
use Rattle.machine.specs.Ledger.{Ledger, Operation, Place, InFlight, Gone, Queued, Req, Cancel, Item, Op, holders}

-- The ledger with an operation changed.
abbrev pub with_op : Ledger → ℕ → (Operation → Operation) → Ledger
with_op L n change = record L { ops = amended L.ops n change }

-- An operation at another place.
abbrev pub at_place : Place → Operation → Operation
at_place place operation = record operation { place = place }

-- An item joins the end of `flying`.
abbrev pub with_flying : Ledger → Item → Ledger
with_flying L item = record L { flying = L.flying ++ item ∷ [] }

-- The taking of its cancel is recorded of an operation in flight, and of no other.
abbrev pub canceled_at : Place → Operation → Operation
canceled_at InFlight operation = record operation { canceled = true }
canceled_at _ operation = operation

-- An operation after its cancel was taken.
abbrev pub with_cancel : Operation → Operation
with_cancel operation = canceled_at operation.place operation

-- An operation in flight that waits for another, or for none.
abbrev pub with_take : Option ℕ → Operation → Operation
with_take leader operation = record operation { waits_for = leader; place = InFlight }

-- Taking one entry: Req n and Close h join the end of `flying`, and n waits for the leader, where there is one; Cancel n is recorded where
-- n is in flight, and else does nothing.
abbrev pub take_one : Option ℕ → Ledger → Queued → Ledger
take_one leader L (Req n) = with_op (with_flying L (Op n)) n (with_take leader)
take_one leader L (Cancel n) = with_op L n with_cancel
take_one leader L (Queued.Close h) = with_flying L (Item.Close h)

-- The leader of a request that is taken directly behind an entry: the operation of a linked request, and none behind any other entry.
abbrev pub leader_behind : Ledger → Queued → Option ℕ
leader_behind L (Req n) = if passes (λ operation. operation.linked) (slice_get L.ops n) then Some n else None
leader_behind L (Cancel n) = None
leader_behind L (Queued.Close h) = None

-- Taking entries, in order, the first of them behind a leader or behind none.
abbrev pub take_behind : Option ℕ → Ledger → List Queued → Ledger
take_behind leader L [] = L
take_behind leader L (entry ∷ entries) = take_behind (leader_behind L entry) (take_one leader L entry) entries

-- Taking entries at once, in order.
abbrev pub take_each : Ledger → List Queued → Ledger
take_each L entries = take_behind None L entries

-- Taking empties the queue, in order.
abbrev pub take_all : Ledger → Ledger
take_all L = take_each (record L { queue = [] }) L.queue

-- A queue at capacity is taken.
abbrev pub make_room : Ledger → Ledger
make_room L = if length L.queue == L.capacity then take_all L else L

-- An entry joins the queue's end.
abbrev pub append : Ledger → Queued → Ledger
append L entry = record L { queue = L.queue ++ entry ∷ [] }

-- Pushing takes first where the queue is at capacity, then appends.
abbrev pub push : Ledger → Queued → Ledger
push L entry = append (make_room L) entry

-- Pushing entries, in order.
abbrev pub push_each : Ledger → List Queued → Ledger
push_each L [] = L
push_each L (entry ∷ entries) = push_each (push L entry) entries

-- Nobody holds a handle.
abbrev pub is_unheld : Ledger → ℕ → Bool
is_unheld L h = is_empty (holders L h)

-- The handles whose holders became none from a ledger to another, ascending.
abbrev pub became_unheld : Ledger → Ledger → List ℕ
became_unheld old new = filter (λ h. not (is_unheld old h) && is_unheld new h) (numbers_below (length old.owners))

-- An operation is gone.
abbrev pub with_gone : Ledger → ℕ → Ledger
with_gone L n = with_op L n (at_place Gone)

-- Leaving: the operation is gone, and each handle whose holders became none by this gets a close, in ascending order.
abbrev pub leave : Ledger → ℕ → Ledger
leave L n = push_each (with_gone L n) (map Queued.Close (became_unheld L (with_gone L n)))
