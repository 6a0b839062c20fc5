-- What pushing, leaving and reaping leave: all of an operation but its place and whether its cancel was taken, and most of the ledger.
use Rattle.std.proofs.Common.{◌≡◌, ℕ, Bool, true, false, List, [], ◌∷◌, length, map, Option, None, Some, option_map, refl, sym, ◌∙◌, ap}
use Rattle.std.proofs.Common.{slice_get, if◌then◌else◌, ◌==◌}
use Rattle.std.proofs.lemmas.List.{length-map}
use Rattle.rent_buf.specs.Buffer.{Buffer}
use Rattle.rent_buf.specs.Parts.{Parts}
use Rattle.rent_buf.specs.Held.{HeldBuf}
use Rattle.machine.specs.declared.request.Request.{Request}
use Rattle.machine.specs.Ledger.{Ledger, Operation, Place, InQueue, InFlight, InDone, Reaped, Gone, Queued, Req, Cancel, Item, Op}
use Rattle.machine.specs.Queue.{with_op, at_place, canceled_at, with_take, with_cancel, take_one, leader_behind, take_behind, take_each}
use Rattle.machine.specs.Queue.{take_all, make_room, append, push}
use Rattle.machine.specs.Queue.{push_each}
use Rattle.machine.specs.Queue.{became_unheld, with_gone, leave}
use Rattle.machine.specs.Turn.{with_reap, reap_if, reap_op, reap_one, reap_each}
use Rattle.machine.proofs.Amended.{map-amended, get-map, there-before}

-- What stays of an operation: its request, what it holds, its group, its task, whether it was dropped, and what it made.
pub record Stay : Type 0 where
  pub request : Request Buffer Parts
  pub buffer : HeldBuf
  pub group : Option ℕ
  pub task : Option ℕ
  pub dropped : Bool
  pub made : Option ℕ

-- What stays of an operation.
abbrev pub stay_of : Operation → Stay
stay_of o = record { request = o.request; buffer = o.buffer; group = o.group; task = o.task; dropped = o.dropped; made = o.made }

-- The groups of a ledger: the present one of each canceller, that of each cancel handle, and which are marked.
pub record Groups : Type 0 where
  pub cancellers : List ℕ
  pub cancel_handles : List ℕ
  pub groups : List Bool

-- The groups of a ledger.
abbrev pub groups_of : Ledger → Groups
groups_of L = record { cancellers = L.cancellers; cancel_handles = L.cancel_handles; groups = L.groups }

-- From a ledger to another one the capacity, what is done, the handles, their owners, the groups, and what stays of each operation
-- stayed.
pub record Stays (L M : Ledger) : Type 0 where
  pub capacity : M.capacity ≡ L.capacity
  pub done : M.done ≡ L.done
  pub world : M.world ≡ L.world
  pub owners : M.owners ≡ L.owners
  pub groups : groups_of M ≡ groups_of L
  pub ops : map stay_of M.ops ≡ map stay_of L.ops

-- A ledger stays as it is.
pub stays-same : (L : Ledger) → Stays L L
stays-same L = record { capacity = refl; done = refl; world = refl; owners = refl; groups = refl; ops = refl }

-- What stays twice stays.
pub stays-then : {L M K : Ledger} → Stays L M → Stays M K → Stays L K
stays-then a b = record {
  capacity = b.capacity ∙ a.capacity;
  done = b.done ∙ a.done;
  world = b.world ∙ a.world;
  owners = b.owners ∙ a.owners;
  groups = b.groups ∙ a.groups;
  ops = b.ops ∙ a.ops;
}

-- The number of operations stays.
pub stays-length : {L M : Ledger} → Stays L M → length M.ops ≡ length L.ops
stays-length {L} {M} s = sym (length-map M.ops stay_of) ∙ ap length s.ops ∙ length-map L.ops stay_of

-- An operation was there before, and this stayed of it.
pub stays-at : {L M : Ledger} → Stays L M → (n : ℕ) (p : Operation) → slice_get M.ops n ≡ Some p →
    (o : Operation) × (slice_get L.ops n ≡ Some o) × (stay_of p ≡ stay_of o)
stays-at {L} {M} s n p there =
    there-before stay_of (slice_get L.ops n) (stay_of p)
    (sym (get-map stay_of L.ops n) ∙ ap (λ xs. slice_get xs n) (sym s.ops) ∙ get-map stay_of M.ops n ∙ ap (option_map stay_of) there)

-- A change of one operation after which this stays of it.
pub stays-op : (L : Ledger) (n : ℕ) (change : Operation → Operation) → ((o : Operation) → stay_of (change o) ≡ stay_of o) →
    Stays L (with_op L n change)
stays-op L n change keeps =
    record { capacity = refl; done = refl; world = refl; owners = refl; groups = refl; ops = map-amended stay_of change L.ops n keeps }

-- A cancel that is taken.
stay-canceled : (p : Place) (o : Operation) → stay_of (canceled_at p o) ≡ stay_of o
stay-canceled InQueue o = refl
stay-canceled InFlight o = refl
stay-canceled (InDone outcome) o = refl
stay-canceled (Reaped outcome) o = refl
stay-canceled Gone o = refl

-- One entry taken.
pub stays-take_one : (leader : Option ℕ) (L : Ledger) (entry : Queued) → Stays L (take_one leader L entry)
stays-take_one leader L (Req n) =
    let kept = stays-op L n (with_take leader) (λ o. refl) in
    record { capacity = refl; done = refl; world = refl; owners = refl; groups = refl; ops = kept.ops }
stays-take_one leader L (Cancel n) = stays-op L n with_cancel (λ o. stay-canceled o.place o)
stays-take_one leader L (Queued.Close h) = record { capacity = refl; done = refl; world = refl; owners = refl; groups = refl; ops = refl }

-- Entries taken, whatever the first of them follows.
stays-take_behind : (leader : Option ℕ) (L : Ledger) (entries : List Queued) → Stays L (take_behind leader L entries)
stays-take_behind leader L [] = stays-same L
stays-take_behind leader L (entry ∷ entries) =
    stays-then (stays-take_one leader L entry) (stays-take_behind (leader_behind L entry) (take_one leader L entry) entries)

-- Entries taken.
pub stays-take_each : (L : Ledger) (entries : List Queued) → Stays L (take_each L entries)
stays-take_each L entries = stays-take_behind None L entries

-- The queue taken.
pub stays-take_all : (L : Ledger) → Stays L (take_all L)
stays-take_all L =
    let s = stays-take_each (record L { queue = [] }) L.queue in
    record { capacity = s.capacity; done = s.done; world = s.world; owners = s.owners; groups = s.groups; ops = s.ops }

-- Room that is made or not.
stays-room : (b : Bool) (L : Ledger) → Stays L (if b then take_all L else L)
stays-room true L = stays-take_all L
stays-room false L = stays-same L

-- Room made.
pub stays-make_room : (L : Ledger) → Stays L (make_room L)
stays-make_room L = stays-room (length L.queue == L.capacity) L

-- An entry pushed.
pub stays-push : (L : Ledger) (entry : Queued) → Stays L (push L entry)
stays-push L entry =
    let s = stays-make_room L in
    record { capacity = s.capacity; done = s.done; world = s.world; owners = s.owners; groups = s.groups; ops = s.ops }

-- Entries pushed.
pub stays-push_each : (L : Ledger) (entries : List Queued) → Stays L (push_each L entries)
stays-push_each L [] = stays-same L
stays-push_each L (entry ∷ entries) = stays-then (stays-push L entry) (stays-push_each (push L entry) entries)

-- An operation that is gone.
pub stays-gone : (L : Ledger) (n : ℕ) → Stays L (with_gone L n)
stays-gone L n = stays-op L n (at_place Gone) (λ o. refl)

-- One that leaves.
pub stays-leave : (L : Ledger) (n : ℕ) → Stays L (leave L n)
stays-leave L n = stays-then (stays-gone L n) (stays-push_each (with_gone L n) (map Queued.Close (became_unheld L (with_gone L n))))

-- The completion of an operation that was dropped, or wasn't.
stays-reap_if : (dropped : Bool) (L : Ledger) (n : ℕ) → Stays L (reap_if dropped L n)
stays-reap_if true L n = stays-leave L n
stays-reap_if false L n = stays-op L n with_reap (λ o. refl)

-- The completion of an operation that was looked up.
stays-reap_op : (L : Ledger) (n : ℕ) (x : Option Operation) → Stays L (reap_op L n x)
stays-reap_op L n None = stays-same L
stays-reap_op L n (Some o) = stays-reap_if o.dropped L n

-- A completion reaped.
pub stays-reap_one : (L : Ledger) (item : Item) → Stays L (reap_one L item)
stays-reap_one L (Op n) = stays-reap_op L n (slice_get L.ops n)
stays-reap_one L (Item.Close h) = stays-same L

-- Completions reaped.
pub stays-reap_each : (L : Ledger) (items : List Item) → Stays L (reap_each L items)
stays-reap_each L [] = stays-same L
stays-reap_each L (item ∷ items) = stays-then (stays-reap_one L item) (stays-reap_each (reap_one L item) items)

-- What is done plays no part in pushing: it is the same beside other completions.
module _ (L : Ledger) (done : List Item) where
  -- One entry taken beside other completions.
  beside-take_one : (leader : Option ℕ) (entry : Queued) →
      take_one leader (record L { done = done }) entry ≡ record (take_one leader L entry) { done = done }
  beside-take_one leader (Req n) = refl
  beside-take_one leader (Cancel n) = refl
  beside-take_one leader (Queued.Close h) = refl

  -- The leader of what is behind an entry is the same.
  beside-leader : (entry : Queued) → leader_behind (record L { done = done }) entry ≡ leader_behind L entry
  beside-leader (Req n) = refl
  beside-leader (Cancel n) = refl
  beside-leader (Queued.Close h) = refl

-- Entries, in order, whatever the first of them follows.
beside-take_behind : (leader : Option ℕ) (L : Ledger) (done : List Item) (entries : List Queued) →
    take_behind leader (record L { done = done }) entries ≡ record (take_behind leader L entries) { done = done }
beside-take_behind leader L done [] = refl
beside-take_behind leader L done (entry ∷ entries) =
    ap (λ M. take_behind (leader_behind (record L { done = done }) entry) M entries) (beside-take_one L done leader entry)
    ∙ ap (λ x. take_behind x (record (take_one leader L entry) { done = done }) entries) (beside-leader L done entry)
    ∙ beside-take_behind (leader_behind L entry) (take_one leader L entry) done entries

-- Entries, in order.
beside-take_each : (L : Ledger) (done : List Item) (entries : List Queued) →
    take_each (record L { done = done }) entries ≡ record (take_each L entries) { done = done }
beside-take_each L done entries = beside-take_behind None L done entries

-- Room that is made or not, beside other completions.
beside-room : (b : Bool) (L : Ledger) (done : List Item) →
    (if b then take_all (record L { done = done }) else record L { done = done }) ≡ record (if b then take_all L else L) { done = done }
beside-room true L done = beside-take_each (record L { queue = [] }) done L.queue
beside-room false L done = refl

-- A push beside other completions.
pub beside-push : (L : Ledger) (done : List Item) (entry : Queued) →
    push (record L { done = done }) entry ≡ record (push L entry) { done = done }
beside-push L done entry = ap (λ (M : Ledger). append M entry) (beside-room (length L.queue == L.capacity) L done)

-- Pushes beside other completions.
pub beside-push_each : (L : Ledger) (done : List Item) (entries : List Queued) →
    push_each (record L { done = done }) entries ≡ record (push_each L entries) { done = done }
beside-push_each L done [] = refl
beside-push_each L done (entry ∷ entries) =
    ap (λ M. push_each M entries) (beside-push L done entry) ∙ beside-push_each (push L entry) done entries

-- Leaving beside other completions.
pub beside-leave : (L : Ledger) (done : List Item) (n : ℕ) → leave (record L { done = done }) n ≡ record (leave L n) { done = done }
beside-leave L done n = beside-push_each (with_gone L n) done (map Queued.Close (became_unheld L (with_gone L n)))

-- The completion of an operation that was dropped, or wasn't, reaped beside other completions.
beside-reap_if : (dropped : Bool) (L : Ledger) (done : List Item) (n : ℕ) →
    reap_if dropped (record L { done = done }) n ≡ record (reap_if dropped L n) { done = done }
beside-reap_if true L done n = beside-leave L done n
beside-reap_if false L done n = refl

-- The completion of an operation that was looked up, reaped beside other completions.
beside-reap_op : (L : Ledger) (done : List Item) (n : ℕ) (x : Option Operation) →
    reap_op (record L { done = done }) n x ≡ record (reap_op L n x) { done = done }
beside-reap_op L done n None = refl
beside-reap_op L done n (Some o) = beside-reap_if o.dropped L done n

-- A completion reaped beside other completions.
pub beside-reap_one : (L : Ledger) (done : List Item) (item : Item) →
    reap_one (record L { done = done }) item ≡ record (reap_one L item) { done = done }
beside-reap_one L done (Op n) = beside-reap_op L done n (slice_get L.ops n)
beside-reap_one L done (Item.Close h) = refl
