-- The groups of a ledger: which events leave them, and what each other event makes of them.
use Rattle.std.proofs.Common.{◌≡◌, inl, inr, ℕ, ◌<◌, Bool, true, false, List, [], ◌∷◌, ◌++◌, length, map, Option, None, Some}
use Rattle.std.proofs.Common.{slice_get, unwrap_or, refl, sym, ◌∙◌, ap, arith}
use Rattle.std.proofs.lemmas.List.{map-append}
use Rattle.std.proofs.lemmas.Option.{slice_get_cases}
use Rattle.rent_buf.specs.Buffer.{Buffer}
use Rattle.rent_buf.specs.Parts.{Parts}
use Rattle.machine.specs.declared.request.Request.{Request}
use Rattle.machine.specs.declared.request.Told.{Told}
use Rattle.machine.specs.declared.request.Told.TheVariants.{Count, Fail}
use Rattle.machine.specs.declared.ledger.Event.{Event}
use Rattle.machine.specs.declared.ledger.Event.TheVariants.{Give, Feed, FeedMessage, End, Look, Close, Submit, Poll, Drop, Cancel, Turn}
use Rattle.machine.specs.declared.ledger.Event.TheVariants.{Exec}
use Rattle.machine.specs.declared.ledger.Event.TheVariants.{NewCanceller, NewHandle, CancelAll}
use Rattle.machine.specs.Lists.{amended}
use Rattle.machine.specs.Ledger.{Ledger, Operation, Place, InQueue, InFlight, InDone, Reaped, Gone, Queued, Req, Item, Op}
use Rattle.machine.specs.Ledger.{new_operation, members}
use Rattle.machine.specs.Queue.{with_op, take_all, is_unheld, push_each}
use Rattle.machine.specs.Turn.{exec_op, exec_step, complete_at, with_result, effect_of, waiting_on, with_break, break_one, break_each}
use Rattle.machine.specs.Turn.{released}
use Rattle.machine.specs.Step.{row, with_new_op, submit_step, with_task, handed_over, poll_at, poll_step, with_drop, drop_at}
use Rattle.machine.specs.Step.{drop_step, with_user, close_if, group_of, with_mark, cancel_all_step}
use Rattle.machine.proofs.Amended.{map-amended}
use Rattle.machine.proofs.Staying.{stay_of, Groups, groups_of, Stays, stays-take_all, stays-push, stays-push_each, stays-leave}
use Rattle.machine.proofs.Staying.{stays-reap_each}
use Rattle.machine.proofs.Releasing.{stays-let_go}

-- The group of each operation, by number.
abbrev pub op_groups : Ledger → List (Option ℕ)
op_groups L = map (λ o. o.group) L.ops

-- From a ledger to another one the groups stayed, and the group of each operation did.
pub record GroupsStay (L M : Ledger) : Type 0 where
  pub groups : groups_of M ≡ groups_of L
  pub ops : op_groups M ≡ op_groups L

-- The groups of a ledger stay.
pub groups-same : (L : Ledger) → GroupsStay L L
groups-same L = record { groups = refl; ops = refl }

-- What stays twice stays.
pub groups-then : {L M K : Ledger} → GroupsStay L M → GroupsStay M K → GroupsStay L K
groups-then a b = record { groups = b.groups ∙ a.groups; ops = b.ops ∙ a.ops }

-- The group of an operation is among what stays of it.
groups-of_stay : (ops : List Operation) → map (λ o. o.group) ops ≡ map (λ s. s.group) (map stay_of ops)
groups-of_stay [] = refl
groups-of_stay (o ∷ ops) = ap (λ gs. o.group ∷ gs) (groups-of_stay ops)

-- Where all this stays of a ledger, its groups do.
pub groups-stay : {L M : Ledger} → Stays L M → GroupsStay L M
groups-stay {L} {M} s = record {
  groups = s.groups;
  ops = groups-of_stay M.ops ∙ ap (λ xs. map (λ s. s.group) xs) s.ops ∙ sym (groups-of_stay L.ops);
}

-- A change of an operation that leaves its group.
groups-op : (L : Ledger) (n : ℕ) (change : Operation → Operation) → ((o : Operation) → (change o).group ≡ o.group) →
    GroupsStay L (with_op L n change)
groups-op L n change keeps = record { groups = refl; ops = map-amended (λ o. o.group) change L.ops n keeps }

-- The close of a handle is pushed, or isn't.
groups-close_if : (b : Bool) (L : Ledger) (h : ℕ) → GroupsStay L (close_if b L h)
groups-close_if true L h = groups-stay (stays-push L (Queued.Close h))
groups-close_if false L h = groups-same L

-- A handle that is handed over.
groups-handed : (L : Ledger) (made : Option ℕ) → GroupsStay L (handed_over L made)
groups-handed L None = groups-same L
groups-handed L (Some h) = record { groups = refl; ops = refl }

-- A poll, by the place of its operation.
groups-poll_at : (L : Ledger) (n task : ℕ) (o : Operation) (p : Place) → GroupsStay L (poll_at L n task o p).0
groups-poll_at L n task o InQueue = groups-op L n (with_task task) (λ o. refl)
groups-poll_at L n task o InFlight = groups-op L n (with_task task) (λ o. refl)
groups-poll_at L n task o (InDone outcome) = groups-op L n (with_task task) (λ o. refl)
groups-poll_at L n task o (Reaped outcome) = groups-then (groups-handed L o.made) (groups-stay (stays-leave (handed_over L o.made) n))
groups-poll_at L n task o Gone = groups-op L n (with_task task) (λ o. refl)

-- A poll.
groups-poll : (L : Ledger) (n task : ℕ) (x : Option Operation) → GroupsStay L (poll_step L n task x).0
groups-poll L n task None = groups-same L
groups-poll L n task (Some o) = groups-poll_at L n task o o.place

-- A drop, by the place of its operation.
groups-drop_at : (L : Ledger) (n : ℕ) (p : Place) → GroupsStay L (drop_at L n p)
groups-drop_at L n InQueue = groups-stay (stays-push L (Queued.Cancel n))
groups-drop_at L n InFlight = groups-stay (stays-push L (Queued.Cancel n))
groups-drop_at L n (InDone outcome) = groups-stay (stays-push L (Queued.Cancel n))
groups-drop_at L n (Reaped outcome) = groups-stay (stays-leave L n)
groups-drop_at L n Gone = groups-stay (stays-push L (Queued.Cancel n))

-- A drop.
groups-drop : (L : Ledger) (n : ℕ) (x : Option Operation) → GroupsStay L (drop_step L n x).0
groups-drop L n None = groups-same L
groups-drop L n (Some o) =
    groups-then (groups-op L n with_drop (λ o. refl)) (groups-drop_at (with_op L n with_drop) n o.place)

-- A turn.
groups-turn : (L : Ledger) → GroupsStay L (row L Turn).0
groups-turn L =
    let T : Ledger = take_all L in
    let E : Ledger = record T { done = [] } in
    let taken : GroupsStay L T = groups-stay (stays-take_all L) in
    let reaped : GroupsStay E (row L Turn).0 = groups-stay (stays-reap_each E T.done) in
    record { groups = reaped.groups ∙ taken.groups; ops = reaped.ops ∙ taken.ops }

-- The execution of an operation that was looked up.
groups-exec_op : (L : Ledger) (n : ℕ) (told : Told) (x : Option Operation) → GroupsStay L (exec_op L n told x)
groups-exec_op L n told None = groups-same L
groups-exec_op L n told (Some o) =
    let s = groups-op L n (with_result told (effect_of L o.request told)) (λ o. refl) in record { groups = s.groups; ops = s.ops }

-- Operations that end with their leaders.
groups-break_each : (L : Ledger) (numbers : List ℕ) → GroupsStay L (break_each L numbers)
groups-break_each L [] = groups-same L
groups-break_each L (m ∷ numbers) =
    let s = groups-op L m with_break (λ o. refl) in
    let r = groups-break_each (break_one L m) numbers in
    record { groups = r.groups ∙ s.groups; ops = r.ops ∙ s.ops }

-- Those that wait for an operation that was executed are released.
groups-released : (told : Told) (L : Ledger) (n : ℕ) → GroupsStay L (released told L n)
groups-released (Fail e) L n = groups-break_each L (waiting_on L.ops n L.flying)
groups-released (Count k) L n = groups-stay (stays-let_go L n)

-- The execution of what is in flight.
groups-exec : (L : Ledger) (place : ℕ) (told : Told) (x : Option Item) → GroupsStay L (exec_step L place told x).0
groups-exec L place told None = groups-same L
groups-exec L place told (Some (Op n)) =
    let s = groups-exec_op (complete_at L place (Op n)) n told (slice_get L.ops n) in
    let r = groups-released told (exec_op (complete_at L place (Op n)) n told (slice_get L.ops n)) n in
    record { groups = r.groups ∙ s.groups; ops = r.ops ∙ s.ops }
groups-exec L place told (Some (Item.Close h)) = record { groups = refl; ops = refl }

-- The events that may change groups, or bring an operation into one.
abbrev pub may_group : Event → Bool
may_group (Submit request under linked) = true
may_group NewCanceller = true
may_group (NewHandle c) = true
may_group (CancelAll c) = true
may_group _ = false

-- No other event does.
pub groups-row : (L : Ledger) (e : Event) → may_group e ≡ false → GroupsStay L (row L e).0
groups-row L (Give kind) h = record { groups = refl; ops = refl }
groups-row L (Feed k bytes) h = record { groups = refl; ops = refl }
groups-row L (FeedMessage k addr bytes) h = record { groups = refl; ops = refl }
groups-row L (End k) h = record { groups = refl; ops = refl }
groups-row L (Look k) h = groups-same L
groups-row L (Close k) h =
    let U : Ledger = with_user L k false in
    let s = groups-close_if (is_unheld U k) U k in record { groups = s.groups; ops = s.ops }
groups-row L (Submit request under linked) h = (let f : ⊥ = cc in absurd f)
groups-row L (Poll n task) h = groups-poll L n task (slice_get L.ops n)
groups-row L (Drop n) h = groups-drop L n (slice_get L.ops n)
groups-row L (Cancel n) h = groups-stay (stays-push L (Queued.Cancel n))
groups-row L NewCanceller h = (let f : ⊥ = cc in absurd f)
groups-row L (NewHandle c) h = (let f : ⊥ = cc in absurd f)
groups-row L (CancelAll c) h = (let f : ⊥ = cc in absurd f)
groups-row L Turn h = groups-turn L
groups-row L (Exec place told) h = groups-exec L place told (slice_get L.flying place)

-- The groups beside a new canceller.
abbrev pub with_canceller : Groups → Groups
with_canceller G = record G { cancellers = G.cancellers ++ length G.groups ∷ []; groups = G.groups ++ false ∷ [] }

-- The groups beside a new cancel handle of a group.
abbrev pub with_handle_of : Groups → ℕ → Groups
with_handle_of G g = record G { cancel_handles = G.cancel_handles ++ g ∷ [] }

-- The groups once the canceller c has a fresh one.
abbrev with_fresh : Groups → ℕ → Groups
with_fresh G c = record G { cancellers = amended G.cancellers c (λ x. length G.groups); groups = G.groups ++ false ∷ [] }

-- The groups once the group g of the canceller c is marked, and c has a fresh one.
abbrev pub renewed : Groups → ℕ → ℕ → Groups
renewed G c g = with_fresh (record G { groups = amended G.groups g (λ mark. true) }) c

-- The groups after a submission: those of the operations have one more.
pub groups-submit : (L : Ledger) (request : Request Buffer Parts) (group : Option ℕ) (linked : Bool) →
    (groups_of (submit_step L request group linked) ≡ groups_of L)
    × (op_groups (submit_step L request group linked) ≡ op_groups L ++ group ∷ [])
groups-submit L request group linked =
    let o : Operation = new_operation request group linked in
    let s : GroupsStay (with_new_op L o) (submit_step L request group linked) =
    groups-stay (stays-push (with_new_op L o) (Req (length L.ops))) in
    (s.groups, s.ops ∙ map-append (λ o. o.group) L.ops (o ∷ []))

-- The groups after a CancelAll.
pub groups-cancel_all : (L : Ledger) (c g : ℕ) →
    (groups_of (cancel_all_step L c g) ≡ renewed (groups_of L) c g) × (op_groups (cancel_all_step L c g) ≡ op_groups L)
groups-cancel_all L c g =
    let M : Ledger = with_mark L g in
    let s : GroupsStay M (push_each M (map Queued.Cancel (members L g))) =
    groups-stay (stays-push_each M (map Queued.Cancel (members L g))) in (
      ap {A = Groups} {B = Groups} (λ G. with_fresh G c) s.groups,
      s.ops,
    )

-- The present group of a canceller that was created.
pub group-there : (L : Ledger) (c : ℕ) → c < length L.cancellers → slice_get L.cancellers c ≡ Some (group_of L c)
group-there L c within = elim (slice_get_cases L.cancellers c).1 [
  | inl e ↦ e.2 ∙ ap Some (sym (ap (λ x. unwrap_or x 0) e.2))
  | inr e ↦ absurd (let past = e.0 in omega (arith, within, past))
]
