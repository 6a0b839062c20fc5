-- The steps of Turn and Exec.
use Rattle.std.specs.Prelude.{ℕ, Bool, true, false, not, ◌==◌, if◌then◌else◌, List, [], ◌∷◌, ◌++◌, map, filter, remove, option_to_list}
use Rattle.std.specs.Prelude.{Option, Some, None, slice_get}
use Rattle.rent_buf.specs.Buffer.{Buffer}
use Rattle.rent_buf.specs.Parts.{Parts}
use Rattle.machine.specs.declared.request.Request.{Request}
use Rattle.machine.specs.declared.request.TheConstants.{CANCELED}
use Rattle.machine.specs.declared.request.Outcome.{Outcome}
use Rattle.machine.specs.declared.request.Told.{Told}
use Rattle.machine.specs.declared.request.Told.TheVariants.{Count, Fail}
use Rattle.machine.specs.Lists.{passes}
use Rattle.machine.specs.declared.ledger.Refusal.TheVariants.{NotFlying}
use Rattle.machine.specs.declared.ledger.Reply.{Reply}
use Rattle.machine.specs.declared.ledger.Reply.TheVariants.{Turned, ExecutedOp, ExecutedClose, Refused}
use Rattle.machine.specs.Request.{sent_of, call_of, held, held_of}
use Rattle.machine.specs.Effect.{Effect, effect, made_by}
use Rattle.machine.specs.Ledger.{Ledger, Operation, Owner, Place, InDone, Reaped, Item, Op}
use Rattle.machine.specs.Queue.{with_op, take_all, leave}

-- What was done is reaped; another place stays.
abbrev pub reaped_place : Place → Place
reaped_place (InDone outcome) = Reaped outcome
reaped_place place = place

-- An operation that is reaped.
abbrev pub with_reap : Operation → Operation
with_reap operation = record operation { place = reaped_place operation.place }

-- The completion of an operation that was dropped, or wasn't: a dropped one leaves, another is reaped.
abbrev pub reap_if : Bool → Ledger → ℕ → Ledger
reap_if true L n = leave L n
reap_if false L n = with_op L n with_reap

-- The completion of an operation that was looked up.
abbrev pub reap_op : Ledger → ℕ → Option Operation → Ledger
reap_op L n None = L
reap_op L n (Some operation) = reap_if operation.dropped L n

-- A completion: its operation is reaped, or leaves. That of a close changes nothing more.
abbrev pub reap_one : Ledger → Item → Ledger
reap_one L (Op n) = reap_op L n (slice_get L.ops n)
reap_one L (Item.Close h) = L

-- Completions, in order.
abbrev pub reap_each : Ledger → List Item → Ledger
reap_each L [] = L
reap_each L (item ∷ items) = reap_each (reap_one L item) items

-- The numbers of the operations among items.
abbrev pub ops_in : List Item → List ℕ
ops_in [] = []
ops_in (Op n ∷ items) = n ∷ ops_in items
ops_in (Item.Close h ∷ items) = ops_in items

-- The handles of the closes among items.
abbrev pub closes_in : List Item → List ℕ
closes_in [] = []
closes_in (Op n ∷ items) = closes_in items
closes_in (Item.Close h ∷ items) = h ∷ closes_in items

-- The task that waits for an operation, where there is one: none waits for a dropped one.
abbrev pub task_if : Bool → Option ℕ → List ℕ
task_if true task = []
task_if false task = option_to_list task

-- The task that is woken by the completion of an operation that was looked up.
abbrev pub task_woken : Option Operation → List ℕ
task_woken None = []
task_woken (Some operation) = task_if operation.dropped operation.task

-- The tasks that are woken by completions of operations, in order.
abbrev pub tasks_woken : List Operation → List ℕ → List ℕ
tasks_woken ops [] = []
tasks_woken ops (n ∷ numbers) = task_woken (slice_get ops n) ++ tasks_woken ops numbers

-- All that is done is named and reaped: the operations, the handles of closes, and the tasks that are woken.
abbrev pub reap_all : Ledger → Ledger × Reply
reap_all L = (reap_each (record L { done = [] }) L.done, Turned (ops_in L.done) (closes_in L.done) (tasks_woken L.ops (ops_in L.done)))

-- Turn: the queue is taken; then all that is done is reaped, in order.
abbrev pub turn_step : Ledger → Ledger × Reply
turn_step L = reap_all (take_all L)

-- The effect of executing a request.
abbrev pub effect_of : Ledger → Request Buffer Parts → Told → Effect
effect_of L request told = effect L.world (call_of request) (sent_of request) told

-- An executed operation has its outcome, what its request holds after it, and the handle that it made.
abbrev pub with_result : Told → Effect → Operation → Operation
with_result told result operation = record operation {
  buffer = held operation.request told result.got;
  made = made_by result.outcome;
  place = InDone result.outcome;
}

-- Whose the handle is that was made, where there is one: not its user's yet.
abbrev pub made_owners : Option ℕ → List Owner
made_owners None = []
made_owners (Some h) = record { is_user = false } ∷ []

-- What executing an operation leaves.
abbrev pub with_effect : Ledger → ℕ → Told → Effect → Ledger
with_effect L n told result = record (with_op L n (with_result told result)) {
  world = result.world;
  owners = L.owners ++ made_owners (made_by result.outcome);
}

-- Executing an operation that was looked up.
abbrev pub exec_op : Ledger → ℕ → Told → Option Operation → Ledger
exec_op L n told None = L
exec_op L n told (Some operation) = with_effect L n told (effect_of L operation.request told)

-- The item at a place leaves `flying` and becomes the last completion.
abbrev pub complete_at : Ledger → ℕ → Item → Ledger
complete_at L place item = record L { flying = remove L.flying place; done = L.done ++ item ∷ [] }

-- An operation waits for another.
abbrev pub waits_on : ℕ → Operation → Bool
waits_on n operation = passes (λ leader. leader == n) operation.waits_for

-- The operation among items that waits for n, then the one behind it that waits for that one, and so on.
abbrev pub waiting_on : List Operation → ℕ → List Item → List ℕ
waiting_on ops n [] = []
waiting_on ops n (Op m ∷ items) =
    if passes (waits_on n) (slice_get ops m) then m ∷ waiting_on ops m items else waiting_on ops n items
waiting_on ops n (Item.Close h ∷ items) = waiting_on ops n items

-- An operation that waits no more.
abbrev pub without_wait : Operation → Operation
without_wait operation = record operation { waits_for = None }

-- An operation that waits for n waits no more; any other stays.
abbrev pub unless_waits : ℕ → Operation → Operation
unless_waits n operation = if waits_on n operation then without_wait operation else operation

-- An operation whose leader failed: it is done with the error of a cancel, with what its request holds, and waits no more.
abbrev pub with_break : Operation → Operation
with_break operation = record operation {
  waits_for = None;
  buffer = held_of operation.request;
  place = InDone (Outcome.Fail CANCELED);
}

-- An item is the operation of a number.
abbrev pub is_op : ℕ → Item → Bool
is_op n (Op m) = n == m
is_op n (Item.Close h) = false

-- An operation whose leader failed leaves `flying` for the end of `done`.
abbrev pub break_one : Ledger → ℕ → Ledger
break_one L n = record (with_op L n with_break) { flying = filter (λ item. not (is_op n item)) L.flying; done = L.done ++ Op n ∷ [] }

-- Operations whose leaders failed, in order.
abbrev pub break_each : Ledger → List ℕ → Ledger
break_each L [] = L
break_each L (n ∷ numbers) = break_each (break_one L n) numbers

-- What becomes of those that wait for an operation that was executed: where it failed, they end too, one after another; else the one that
-- waits for it waits no more.
abbrev pub released : Told → Ledger → ℕ → Ledger
released (Fail e) L n = break_each L (waiting_on L.ops n L.flying)
released (Count k) L n = record L { ops = map (unless_waits n) L.ops }

-- Exec: the item at the place is executed and completed, and those that wait for it are released. A close moves nothing.
abbrev pub exec_step : Ledger → ℕ → Told → Option Item → Ledger × Reply
exec_step L place told None = (L, Refused NotFlying)
exec_step L place told (Some (Op n)) = (released told (exec_op (complete_at L place (Op n)) n told (slice_get L.ops n)) n, ExecutedOp n)
exec_step L place told (Some (Item.Close h)) = (complete_at L place (Item.Close h), ExecutedClose h)
