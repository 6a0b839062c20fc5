-- Which events are answered with what speaks of cancellers and of groups.
use Rattle.std.proofs.Common.{◌≡◌, ℕ, Bool, true, false, Option, None, Some, slice_get, refl, sym, ◌∙◌, ap}
use Rattle.machine.specs.declared.request.Told.{Told}
use Rattle.machine.specs.declared.ledger.Event.{Event}
use Rattle.machine.specs.declared.ledger.Event.TheVariants.{Give, Feed, FeedMessage, End, Look, Close, Submit, Poll, Drop, Cancel, Turn}
use Rattle.machine.specs.declared.ledger.Event.TheVariants.{Exec}
use Rattle.machine.specs.declared.ledger.Event.TheVariants.{NewCanceller, NewHandle, CancelAll}
use Rattle.machine.specs.declared.ledger.Reply.{Reply}
use Rattle.machine.specs.declared.ledger.Reply.TheVariants.{CanceledAtOnce, Canceller, CancelHandle, Cancels}
use Rattle.machine.specs.Ledger.{Ledger, Operation, Place, InQueue, InFlight, InDone, Reaped, Gone, Item, Op}
use Rattle.machine.specs.Turn.{exec_step}
use Rattle.machine.specs.Step.{row, poll_at, poll_step, drop_step}
use Rattle.machine.proofs.Grouping.{may_group}
use Rattle.run_laws.proofs.Looks.{looked}

-- A reply speaks of a canceller, a cancel handle or a group.
abbrev pub is_of_group : Reply → Bool
is_of_group (CanceledAtOnce buffer) = true
is_of_group (Canceller c) = true
is_of_group (CancelHandle handle) = true
is_of_group (Cancels numbers) = true
is_of_group _ = false

-- A poll isn't answered so, by the place of its operation.
plain-poll_at : (L : Ledger) (n task : ℕ) (o : Operation) (p : Place) → is_of_group (poll_at L n task o p).1 ≡ false
plain-poll_at L n task o InQueue = refl
plain-poll_at L n task o InFlight = refl
plain-poll_at L n task o (InDone outcome) = refl
plain-poll_at L n task o (Reaped outcome) = refl
plain-poll_at L n task o Gone = refl

-- Nor is the poll of what was looked up.
plain-poll : (L : Ledger) (n task : ℕ) (x : Option Operation) → is_of_group (poll_step L n task x).1 ≡ false
plain-poll L n task None = refl
plain-poll L n task (Some o) = plain-poll_at L n task o o.place

-- Nor a drop.
plain-drop : (L : Ledger) (n : ℕ) (x : Option Operation) → is_of_group (drop_step L n x).1 ≡ false
plain-drop L n None = refl
plain-drop L n (Some o) = refl

-- Nor an execution.
plain-exec : (L : Ledger) (place : ℕ) (told : Told) (x : Option Item) → is_of_group (exec_step L place told x).1 ≡ false
plain-exec L place told None = refl
plain-exec L place told (Some (Op n)) = refl
plain-exec L place told (Some (Item.Close k)) = refl

-- No event that changes no groups is answered so.
pub plain-row : (L : Ledger) (e : Event) → may_group e ≡ false → is_of_group (row L e).1 ≡ false
plain-row L (Give kind) h = refl
plain-row L (Feed k bytes) h = refl
plain-row L (FeedMessage k addr bytes) h = refl
plain-row L (End k) h = refl
plain-row L (Look k) h = looked (λ reply. is_of_group reply ≡ false) L k (λ b. refl) (λ m. refl)
plain-row L (Close k) h = refl
plain-row L (Submit request under linked) h = (let f : ⊥ = cc in absurd f)
plain-row L (Poll n task) h = plain-poll L n task (slice_get L.ops n)
plain-row L (Drop n) h = plain-drop L n (slice_get L.ops n)
plain-row L (Cancel n) h = refl
plain-row L NewCanceller h = (let f : ⊥ = cc in absurd f)
plain-row L (NewHandle c) h = (let f : ⊥ = cc in absurd f)
plain-row L (CancelAll c) h = (let f : ⊥ = cc in absurd f)
plain-row L Turn h = refl
plain-row L (Exec place told) h = plain-exec L place told (slice_get L.flying place)

-- An event that is answered so may change groups.
pub answered-group : (L : Ledger) (e : Event) (r : Reply) → may_group e ≡ false → (row L e).1 ≡ r → is_of_group r ≡ true → ⊥
answered-group L e r plain is of = (let f : false ≡ true = sym (plain-row L e plain) ∙ ap is_of_group is ∙ of in cc)
