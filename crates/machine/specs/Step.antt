-- The step of the machine: the next ledger and the reply, for each event.
use Rattle.std.specs.Prelude.{ℕ, Bool, true, false, [], ◌∷◌, ◌++◌, length, map, Option, Some, None, unwrap_or, slice_get}
use Rattle.rent_buf.specs.Buffer.{Buffer}
use Rattle.rent_buf.specs.Parts.{Parts}
use Rattle.machine.specs.declared.request.Request.{Request}
use Rattle.machine.specs.declared.world.HandleState.{HandleState}
use Rattle.machine.specs.declared.world.Look.{Look as Shown}
use Rattle.machine.specs.declared.world.Look.TheVariants.{Bytes as ShownBytes, Messages as ShownMessages}
use Rattle.machine.specs.declared.ledger.Event.{Event}
use Rattle.machine.specs.declared.ledger.Event.TheVariants.{Give, Feed, FeedMessage, End, Look, Close, Submit, Poll, Drop, Cancel, Turn}
use Rattle.machine.specs.declared.ledger.Event.TheVariants.{Exec}
use Rattle.machine.specs.declared.ledger.Event.TheVariants.{NewCanceller, NewHandle, CancelAll}
use Rattle.machine.specs.declared.ledger.Refusal.{Refusal}
use Rattle.machine.specs.declared.ledger.Refusal.TheVariants.{NoOp}
use Rattle.machine.specs.declared.ledger.Reply.{Reply}
use Rattle.machine.specs.declared.ledger.Reply.TheVariants.{Handle, Fed, Ended, Released, Output, Messages, Submitted, Pending, Handed}
use Rattle.machine.specs.declared.ledger.Reply.TheVariants.{Dropped}
use Rattle.machine.specs.declared.ledger.Reply.TheVariants.{Asked, CanceledAtOnce, Canceller, CancelHandle, Cancels, Refused}
use Rattle.machine.specs.Lists.{amended}
use Rattle.machine.specs.Request.{held_of}
use Rattle.machine.specs.World.{fresh, with_input, with_message, with_end, look_at}
use Rattle.machine.specs.Ledger.{Ledger, Operation, Owner, Place, Reaped, Queued, Req, new_operation}
use Rattle.machine.specs.Ledger.{is_under_marked, group_under, members}
use Rattle.machine.specs.Queue.{with_op, push, push_each, is_unheld, leave}
use Rattle.machine.specs.Turn.{turn_step, exec_step}
use Rattle.machine.specs.Refusal.{cause}

-- Whose a new handle is: its user's.
abbrev pub new_owner : Owner
new_owner = record { is_user = true }

-- Give: a new handle of its user.
abbrev pub give_step : Ledger → HandleState → Ledger
give_step L handle = record L { world = L.world ++ handle ∷ []; owners = L.owners ++ new_owner ∷ [] }

-- The ledger with one handle changed.
abbrev pub with_handle : Ledger → ℕ → (HandleState → HandleState) → Ledger
with_handle L h change = record L { world = amended L.world h change }

-- An owner that holds its handle, or doesn't.
abbrev pub as_user : Bool → Owner → Owner
as_user is_user owner = record owner { is_user = is_user }

-- The ledger with a handle held by its user, or no longer.
abbrev pub with_user : Ledger → ℕ → Bool → Ledger
with_user L h is_user = record L { owners = amended L.owners h (as_user is_user) }

-- A close is pushed where nobody holds a handle.
abbrev pub close_if : Bool → Ledger → ℕ → Ledger
close_if true L h = push L (Queued.Close h)
close_if false L h = L

abbrev pub close_unheld : Ledger → ℕ → Ledger
close_unheld L h = close_if (is_unheld L h) L h

-- Close: the user no longer holds the handle, and its close is pushed where nobody else does.
abbrev pub close_step : Ledger → ℕ → Ledger
close_step L h = close_unheld (with_user L h false) h

-- The ledger with a new operation of the next number.
abbrev pub with_new_op : Ledger → Operation → Ledger
with_new_op L operation = record L { ops = L.ops ++ operation ∷ [] }

-- Submit under no marked group: the next number with its link, and a push of its request.
abbrev pub submit_step : Ledger → Request Buffer Parts → Option ℕ → Bool → Ledger
submit_step L request group linked = push (with_new_op L (new_operation request group linked)) (Req (length L.ops))

-- Submit: under a marked group what the request holds comes back, and nothing changes; else it is a new operation of its group.
abbrev pub submit_if : Bool → Ledger → Request Buffer Parts → Option ℕ → Bool → Ledger × Reply
submit_if true L request group linked = (L, CanceledAtOnce (held_of request))
submit_if false L request group linked = (submit_step L request group linked, Submitted (length L.ops))

-- An operation that a task waits for.
abbrev pub with_task : ℕ → Operation → Operation
with_task task operation = record operation { task = Some task }

-- A handle that was made, where there is one, becomes its user's.
abbrev pub handed_over : Ledger → Option ℕ → Ledger
handed_over L None = L
handed_over L (Some h) = with_user L h true

-- Poll: where the operation is reaped it is returned, with the handle that it made, and leaves; else its task is this one.
abbrev pub poll_at : Ledger → ℕ → ℕ → Operation → Place → Ledger × Reply
poll_at L n task operation (Reaped outcome) = (leave (handed_over L operation.made) n, Handed outcome operation.buffer)
poll_at L n task operation _ = (with_op L n (with_task task), Pending)

-- The poll of an operation that was looked up.
abbrev pub poll_step : Ledger → ℕ → ℕ → Option Operation → Ledger × Reply
poll_step L n task None = (L, Refused NoOp)
poll_step L n task (Some operation) = poll_at L n task operation operation.place

-- An operation that was dropped.
abbrev pub with_drop : Operation → Operation
with_drop operation = record operation { dropped = true }

-- Drop, by the operation's place: where it is reaped it leaves; else its cancel is pushed.
abbrev pub drop_at : Ledger → ℕ → Place → Ledger
drop_at L n (Reaped outcome) = leave L n
drop_at L n _ = push L (Queued.Cancel n)

-- The drop of an operation that was looked up.
abbrev pub drop_step : Ledger → ℕ → Option Operation → Ledger × Reply
drop_step L n None = (L, Refused NoOp)
drop_step L n (Some operation) = (drop_at (with_op L n with_drop) n operation.place, Dropped)

-- A fresh group, which isn't marked.
abbrev pub with_group : Ledger → Ledger
with_group L = record L { groups = L.groups ++ false ∷ [] }

-- NewCanceller: a canceller of a fresh group.
abbrev pub new_canceller_step : Ledger → Ledger
new_canceller_step L = record (with_group L) { cancellers = L.cancellers ++ length L.groups ∷ [] }

-- The present group of a canceller.
abbrev pub group_of : Ledger → ℕ → ℕ
group_of L c = unwrap_or (slice_get L.cancellers c) 0

-- NewHandle: a cancel handle of the canceller's present group.
abbrev pub new_handle_step : Ledger → ℕ → Ledger
new_handle_step L c = record L { cancel_handles = L.cancel_handles ++ group_of L c ∷ [] }

-- A group is marked for good.
abbrev pub with_mark : Ledger → ℕ → Ledger
with_mark L g = record L { groups = amended L.groups g (λ mark. true) }

-- A canceller gets a fresh group.
abbrev pub renew_group : Ledger → ℕ → Ledger
renew_group L c = record (with_group L) { cancellers = amended L.cancellers c (λ g. length L.groups) }

-- CancelAll: the canceller's group is marked, the cancel of each of its members is pushed, and the canceller gets a fresh group.
abbrev pub cancel_all_step : Ledger → ℕ → ℕ → Ledger
cancel_all_step L c g = renew_group (push_each (with_mark L g) (map Queued.Cancel (members L g))) c

-- The reply to a look.
abbrev pub look_reply : Shown → Reply
look_reply (ShownBytes bytes) = Output bytes
look_reply (ShownMessages messages) = Messages messages

-- The rule for an event that isn't refused.
abbrev pub row : Ledger → Event → Ledger × Reply
row L (Give kind) = (give_step L (fresh kind), Handle (length L.world))
row L (Feed h bytes) = (with_handle L h (with_input bytes), Fed)
row L (FeedMessage h addr bytes) = (with_handle L h (with_message addr bytes), Fed)
row L (End h) = (with_handle L h with_end, Ended)
row L (Look h) = (L, look_reply (look_at L.world h))
row L (Close h) = (close_step L h, Released)
row L (Submit request under linked) = submit_if (is_under_marked L under) L request (group_under L under) linked
row L (Poll n task) = poll_step L n task (slice_get L.ops n)
row L (Drop n) = drop_step L n (slice_get L.ops n)
row L (Cancel n) = (push L (Queued.Cancel n), Asked)
row L NewCanceller = (new_canceller_step L, Canceller (length L.cancellers))
row L (NewHandle c) = (new_handle_step L c, CancelHandle (length L.cancel_handles))
row L (CancelAll c) = (cancel_all_step L c (group_of L c), Cancels (members L (group_of L c)))
row L Turn = turn_step L
row L (Exec place told) = exec_step L place told (slice_get L.flying place)

-- An event with its cause: where there is one, nothing changes and the reply carries it.
abbrev pub answered : Option Refusal → Ledger → Event → Ledger × Reply
answered (Some refusal) L event = (L, Refused refusal)
answered None L event = row L event

-- One step of the machine.
unfoldable pub step : Ledger → Event → Ledger × Reply
step L event = answered (cause L event) L event
