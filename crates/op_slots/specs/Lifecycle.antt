-- The calls of a lifecycle, as functions of the state before them. Cited by `Lifecycle`.
use Rattle.std.specs.Prelude.{ℕ}
use Rattle.op_slots.specs.declared.lifecycle.Lifecycle.{Lifecycle}
use Rattle.op_slots.specs.declared.lifecycle.Lifecycle.TheVariants.{Submitted, Waiting, Ignored, Completed}
use Rattle.op_slots.specs.declared.lifecycle.AfterComplete.{AfterComplete}
use Rattle.op_slots.specs.declared.lifecycle.AfterComplete.TheVariants.{Kept, Wake, Free}
use Rattle.op_slots.specs.declared.lifecycle.AfterPoll.{AfterPoll}
use Rattle.op_slots.specs.declared.lifecycle.AfterPoll.TheVariants.{Pending, Take}
use Rattle.op_slots.specs.declared.lifecycle.AfterDrop.{AfterDrop}
use Rattle.op_slots.specs.declared.lifecycle.AfterDrop.TheVariants.{Left, Free as Freed}

-- a result is there
abbrev pub IsCompleted : {R : Type 0} → Lifecycle R → Type 0
IsCompleted Submitted = ⊥
IsCompleted (Waiting task) = ⊥
IsCompleted Ignored = ⊥
IsCompleted (Completed r) = Unit {0}

-- the owner dropped it before it completed
abbrev pub IsIgnored : {R : Type 0} → Lifecycle R → Type 0
IsIgnored Submitted = ⊥
IsIgnored (Waiting task) = ⊥
IsIgnored Ignored = Unit {0}
IsIgnored (Completed r) = ⊥

-- what a completion asks for: only a task that waits is woken, and a slot that is ignored is freed
abbrev pub after_complete : {R : Type 0} → Lifecycle R → AfterComplete
after_complete Submitted = Kept
after_complete (Waiting task) = Wake task
after_complete Ignored = Free
after_complete (Completed r) = Kept

-- the state after a task asked: without a result, that task waits, and no earlier one
abbrev pub polled : {R : Type 0} → Lifecycle R → ℕ → Lifecycle R
polled Submitted task = Waiting task
polled (Waiting earlier) task = Waiting task
polled Ignored task = Ignored
polled (Completed r) task = Completed r

-- what a task that asked for the result learns: to take it exactly when there is one
abbrev pub after_poll : {R : Type 0} → Lifecycle R → AfterPoll
after_poll Submitted = Pending
after_poll (Waiting earlier) = Pending
after_poll Ignored = Pending
after_poll (Completed r) = Take

-- the state after the owner dropped it: without a result it is ignored from then on
abbrev pub dropped : {R : Type 0} → Lifecycle R → Lifecycle R
dropped Submitted = Ignored
dropped (Waiting task) = Ignored
dropped Ignored = Ignored
dropped (Completed r) = Completed r

-- what the owner that dropped an operation learns: to free the slot exactly when there is a result
abbrev pub after_drop : {R : Type 0} → Lifecycle R → AfterDrop
after_drop Submitted = Left
after_drop (Waiting task) = Left
after_drop Ignored = Left
after_drop (Completed r) = Freed
