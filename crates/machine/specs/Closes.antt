-- How often the close of a handle is in the lists of a ledger, and what holds of every ledger that events led to.
use Rattle.std.specs.Prelude.{ℕ, ◌≡◌, ◌≤◌, ◌<◌, ◌+◌, nat_lt, Bool, true, false, ◌==◌, List, [], ◌∷◌, length, Option, Some, None, slice_get}
use Rattle.machine.specs.Lists.{has_number}
use Rattle.machine.specs.Lists.{one_if}
use Rattle.machine.specs.Request.{named, makes}
use Rattle.machine.specs.Effect.{made_by}
use Rattle.machine.specs.Ledger.{Ledger, Operation, Place, InDone, Reaped, is_live, user_holds, holds, is_holding}
use Rattle.machine.specs.Ledger.{Queued, Req, Cancel, Item, Op}
use Rattle.machine.specs.Queue.{is_unheld}

-- How often the close of a handle is among entries.
abbrev pub closes_queued : ℕ → List Queued → ℕ
closes_queued h [] = 0
closes_queued h (Req n ∷ entries) = closes_queued h entries
closes_queued h (Cancel n ∷ entries) = closes_queued h entries
closes_queued h (Queued.Close k ∷ entries) = one_if (h == k) + closes_queued h entries

-- How often the close of a handle is among items.
abbrev pub closes_listed : ℕ → List Item → ℕ
closes_listed h [] = 0
closes_listed h (Op n ∷ items) = closes_listed h items
closes_listed h (Item.Close k ∷ items) = one_if (h == k) + closes_listed h items

-- How often the close of a handle is in the queue, in flight and done, together.
abbrev pub close_count : Ledger → ℕ → ℕ
close_count L h = closes_queued h L.queue + (closes_listed h L.flying + closes_listed h L.done)

-- A handle is closing: its close is in the queue, in flight, or done.
abbrev pub is_closing : Ledger → ℕ → Bool
is_closing L h = nat_lt 0 (close_count L h)

-- Each handle that an operation names or made is there, one that it made is above those that it names, and each handle has its owner.
pub record AreKnown (L : Ledger) : Type 0 where
  pub known : (n h : ℕ) (operation : Operation) → slice_get L.ops n ≡ Some operation → has_number h (holds operation) ≡ true →
      h < length L.owners
  pub above : (n h made : ℕ) (operation : Operation) → slice_get L.ops n ≡ Some operation → has_number h (named operation.request) ≡ true →
      operation.made ≡ Some made → h < made
  pub together : length L.owners ≡ length L.world

-- The close of each handle is in the lists at most once; and only where the handle is there, and nobody holds it.
pub record ClosesOnce (L : Ledger) : Type 0 where
  pub once : (h : ℕ) → close_count L h ≤ 1
  pub unheld : (h : ℕ) → 1 ≤ close_count L h → is_unheld L h ≡ true
  pub there : (h : ℕ) → 1 ≤ close_count L h → h < length L.owners

-- What an operation at a place made: once it was executed the handle that its outcome names, where it names one; else nothing.
abbrev pub made_at : Place → Option ℕ
made_at (InDone outcome) = made_by outcome
made_at (Reaped outcome) = made_by outcome
made_at _ = None

-- What each operation made that isn't gone is what its outcome says; nobody else holds it, neither a user nor another operation; and its
-- request makes handles.
pub record MadeAlone (L : Ledger) : Type 0 where
  pub agrees : (n : ℕ) (o : Operation) → slice_get L.ops n ≡ Some o → is_live o ≡ true → o.made ≡ made_at o.place
  pub users : (n h : ℕ) (o : Operation) → slice_get L.ops n ≡ Some o → is_live o ≡ true → o.made ≡ Some h → user_holds L h ≡ false
  pub others : (n m h : ℕ) (o other : Operation) → slice_get L.ops n ≡ Some o → is_live o ≡ true → o.made ≡ Some h →
      slice_get L.ops m ≡ Some other → is_holding h other ≡ true → m ≡ n
  pub makers : (n h : ℕ) (o : Operation) → slice_get L.ops n ≡ Some o → is_live o ≡ true → o.made ≡ Some h → makes o.request ≡ true
