-- What treating completions does, one after another. Cited by `reap_one` and `reap_all`, and by what every turn does.
use Rattle.std.specs.Prelude.{ℕ, ◌≡◌, ◌+◌, ◌≤◌, Bool, true, false, not, ◌||◌, List, [], ◌∷◌, ◌++◌, option_to_list}
use Rattle.std.specs.Prelude.{Option, Some, None, vec_len}
use Rattle.std.specs.Prelude.{vec_capacity}
use Rattle.std.specs.Ordering.{nat_cmp}
use Rattle.std.specs.FinMap as map
use Rattle.machine.specs.declared.completion.Completion.{Completion}
use Rattle.machine.specs.declared.request.Outcome.{Outcome}
use Rattle.machine.specs.Effect.{made_by}
use Rattle.ring_core.specs.declared.entry.Target.{Target}
use Rattle.ring_core.specs.declared.entry.Target.TheVariants.{Slot as Keyed, Handle, Reserved}
use Rattle.ring_core.specs.Entry.{target}
use Rattle.driver_core.specs.declared.slot.Slot.{Slot}
use Rattle.driver_core.specs.Slot.{flies_in, named_by, slots_after}
use Rattle.driver_core.specs.Holds.{dropped_in, is_maker, is_dropped}
use Rattle.uring_driver.specs.declared.uring.turn.Named.{Named}
use Rattle.uring_driver.specs.Holding.{Holding, closes, close_reaped}
use Rattle.uring_driver.specs.Making.{refuses_made, kept_if, lost_if, op_closes, op_ended}

-- There is room for so many more numbers in each list.
pub record HasRoom (named : Named) (count : ℕ) : Type 0 where
  pub reaped : vec_len named.reaped + count ≤ vec_capacity named.reaped
  pub closed : vec_len named.closed + count ≤ vec_capacity named.closed
  pub woken : vec_len named.woken + count ≤ vec_capacity named.woken

-- A completion of the slot that was looked up is refused: the slot isn't in flight, or the handle that it names as made is refused.
abbrev pub is_refused : {B : Type 0} → Holding → Outcome → Option (Slot B) → Bool
is_refused holding outcome slot = not (flies_in slot) || refuses_made holding (is_maker slot) (made_by outcome)

-- A completion is stray, by what its word names: a slot by which it is refused, or a handle that isn't closing. One of a reserved word is
-- never stray.
abbrev pub IsStrayFor : {B : Type 0} → map.FinMap nat_cmp (Slot B) → Holding → Completion → Target → Type 0
IsStrayFor slots holding completion (Keyed key) = is_refused holding completion.outcome (map.get slots completion.word) ≡ true
IsStrayFor slots holding completion (Handle h) = closes holding h ≡ false
IsStrayFor slots holding completion (Reserved _) = ⊥

abbrev pub IsStray : {B : Type 0} → map.FinMap nat_cmp (Slot B) → Holding → Completion → Type 0
IsStray slots holding completion = IsStrayFor slots holding completion (target completion.word)

-- A completion of a word is stray.
pub record HasStray {B : Type 0} (slots : map.FinMap nat_cmp (Slot B)) (holding : Holding) (word : ℕ) : Type 0 where
  pub completion : Completion
  pub words : completion.word ≡ word
  pub stray : IsStray slots holding completion

-- What treating completions comes to: the slots, and who holds each handle; the operations and the closes that are named, the tasks to
-- wake, and the handles whose closes are queued, each in order; and the word of a stray completion that ended it, with the completions
-- behind that one.
pub record Treated (B : Type 0) : Type 0 where
  pub slots : map.FinMap nat_cmp (Slot B)
  pub holding : Holding
  pub reaped : List ℕ
  pub closed : List ℕ
  pub woken : List ℕ
  pub queued : List ℕ
  pub bad : Option ℕ
  pub left : List Completion

-- Nothing is treated.
abbrev pub treats_none : {B : Type 0} → map.FinMap nat_cmp (Slot B) → Holding → Treated B
treats_none slots holding =
    record { slots = slots; holding = holding; reaped = []; closed = []; woken = []; queued = []; bad = None; left = [] }

-- A stray completion of a word changes nothing.
abbrev pub treats_stray : {B : Type 0} → map.FinMap nat_cmp (Slot B) → Holding → ℕ → Treated B
treats_stray slots holding word = record (treats_none slots holding) { bad = Some word }

-- The handle that an operation made which was dropped, by the slot that was looked up.
abbrev pub lost_in : {B : Type 0} → Option (Slot B) → Outcome → List ℕ
lost_in slot outcome = lost_if (is_dropped slot) (made_by outcome)

-- Who holds handles once the slot that was looked up was completed.
abbrev pub holding_after : {B : Type 0} → Holding → Outcome → Option (Slot B) → Holding
holding_after holding outcome slot =
    op_ended holding (dropped_in slot) (is_maker slot) (kept_if (is_dropped slot) (made_by outcome)) (lost_in slot outcome)

-- The handles whose closes are queued then.
abbrev pub closes_after : {B : Type 0} → Holding → Outcome → Option (Slot B) → List ℕ
closes_after holding outcome slot = op_closes holding.table (dropped_in slot) (lost_in slot outcome)

-- A completion of a slot, by whom it names, unless it is stray. The slot is completed, and its number and the task that waits are named;
-- the operation holds the handle that it made. Where its operation was dropped the slot goes, and the close of each handle that nobody
-- holds any more is queued, and that of the one that it made.
abbrev pub treats_slot : {B : Type 0} → Option (ℕ × Option ℕ) → map.FinMap nat_cmp (Slot B) → Holding → Completion → Treated B
treats_slot None slots holding completion = treats_stray slots holding completion.word
treats_slot (Some named) slots holding completion = record {
  slots = slots_after slots completion (map.get slots completion.word);
  holding = holding_after holding completion.outcome (map.get slots completion.word);
  reaped = named.0 ∷ [];
  closed = [];
  woken = option_to_list named.1;
  queued = closes_after holding completion.outcome (map.get slots completion.word);
  bad = None;
  left = [];
}

-- Whom a completion names, unless it is refused.
abbrev pub named_unless : Bool → Option (ℕ × Option ℕ) → Option (ℕ × Option ℕ)
named_unless true named = None
named_unless false named = named

-- Whom a completion of the slot that was looked up names; None where it is stray.
abbrev pub names_in : {B : Type 0} → Holding → Outcome → Option (Slot B) → Option (ℕ × Option ℕ)
names_in holding outcome slot = named_unless (is_refused holding outcome slot) (named_by slot)

-- A completion of a handle, by whether it is closing: then its close is named, and is reaped. Else it is stray.
abbrev pub treats_close : {B : Type 0} → Bool → map.FinMap nat_cmp (Slot B) → Holding → ℕ → ℕ → Treated B
treats_close true slots holding word h = record (treats_none slots (close_reaped holding h)) { closed = h ∷ [] }
treats_close false slots holding word h = treats_stray slots holding word

-- One completion, by what its word names: one of a reserved word is passed over.
abbrev pub treat_one : {B : Type 0} → Target → map.FinMap nat_cmp (Slot B) → Holding → Completion → Treated B
treat_one (Keyed key) slots holding completion =
    treats_slot (names_in holding completion.outcome (map.get slots completion.word)) slots holding completion
treat_one (Handle h) slots holding completion = treats_close (closes holding h) slots holding completion.word h
treat_one (Reserved word) slots holding completion = treats_none slots holding

-- What more comes to, behind what was treated before.
abbrev pub behind : {B : Type 0} → Treated B → Treated B → Treated B
behind first more = record more {
  reaped = first.reaped ++ more.reaped;
  closed = first.closed ++ more.closed;
  woken = first.woken ++ more.woken;
  queued = first.queued ++ more.queued;
}

-- What the first completion comes to with the rest: a stray one leaves the rest.
abbrev pub goes_on : {B : Type 0} → Option ℕ → Treated B → List Completion → Treated B → Treated B
goes_on None first rest more = behind first more
goes_on (Some word) first rest more = record first { left = rest }

-- Completions are treated in order, up to a stray one.
abbrev pub treat_each : {B : Type 0} → map.FinMap nat_cmp (Slot B) → Holding → List Completion → Treated B
treat_each slots holding [] = treats_none slots holding
treat_each slots holding (completion ∷ rest) =
    let first = treat_one (target completion.word) slots holding completion in
    goes_on first.bad first rest (treat_each first.slots first.holding rest)
