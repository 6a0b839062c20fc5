-- How a slab's values lie on its pages: the layout. Cited by the body of `Slab`, and by no public clause.
use Rattle.std.specs.Prelude.{ℕ, zero, suc, ◌+◌, ◌-◌, ◌≡◌, ◌<◌, ◌≤◌, ◌⊎◌, map, count_by, is_some, List, [], ◌∷◌, ◌++◌, length}
use Rattle.std.specs.Prelude.{Option, Some, None, slice_get, slice_set, take}
use Rattle.std.specs.FinMap as map
use Rattle.op_slots.specs.declared.slab.TheConstants.{COMPACT_INTERVAL}
use Rattle.op_slots.specs.declared.slab.pages.TheConstants.{NUM_PAGES}
use Rattle.op_slots.specs.declared.slab.entry.FreeList.{FreeList}
use Rattle.op_slots.specs.declared.slab.entry.Entry.{Entry}
use Rattle.op_slots.specs.declared.slab.entry.Entry.TheVariants.{Vacant, Occupied}
use Rattle.op_slots.specs.Entry.{value_of, IsListOf}
use Rattle.op_slots.specs.Pages.{first_key}
use Rattle.op_slots.specs.Slots.{Slots}

-- what a place holds; past the end it is nothing
abbrev pub at : {T : Type 0} → List (Option T) → ℕ → Option T
at [] q = None
at (x ∷ xs) zero = x
at (x ∷ xs) (suc q) = at xs q

-- how many places hold a value
abbrev pub taken : {T : Type 0} → List (Option T) → ℕ
taken places = count_by is_some places

-- the values with their places, from a place on
abbrev pub listed : {T : Type 0} → ℕ → List (Option T) → List (ℕ × T)
listed i [] = []
listed i (None ∷ xs) = listed (i + 1) xs
listed i (Some x ∷ xs) = (i, x) ∷ listed (i + 1) xs

-- what the places hold, by key
abbrev pub places_of : {T : Type 0} → List (Entry T) → List (Option T)
places_of entries = map value_of entries

-- the entries lie on so many pages: every place of the pages before the last one was used, none behind the last one was, and each
-- page has the list of its empty entries
pub record AreLaid {T : Type 0} (entries : List (Entry T)) (lists : List FreeList) (pages : ℕ) : Type 0 where
  pub few : pages ≤ NUM_PAGES
  pub used : first_key (pages - 1) ≤ length entries
  pub within : length entries ≤ first_key pages
  pub count : length lists ≡ NUM_PAGES
  pub complete : (page : ℕ) (list : FreeList) → slice_get lists page ≡ Some list → IsListOf entries page list

-- what a slab keeps true: the layout, how many values were put in, where a search begins, and that the removals are fewer than those at
-- which the last page is looked at
pub record AreKept {T : Type 0} (entries : List (Entry T)) (lists : List FreeList) (pages entered first removals : ℕ) : Type 0 where
  pub laid : AreLaid entries lists pages
  pub counted : entered ≡ taken (places_of entries) + removals
  pub search : first ≤ pages - 1
  pub interval : removals < COMPACT_INTERVAL

-- the slots that the entries make on so many pages, each of whose places has memory
abbrev pub slots_of : {T : Type 0} → List (Entry T) → ℕ → ℕ → Slots T
slots_of entries pages removals = record {
  values = map.from_entries (listed 0 (places_of entries));
  room = first_key pages - taken (places_of entries);
  pages = pages;
  removals = removals;
}

-- this page has an empty place that was used
abbrev pub HasEmpty : List FreeList → ℕ → Type 0
HasEmpty lists page = (list : FreeList) × (slice_get lists page ≡ Some list) × (0 < list.count)

-- no page from this one on and before that one has
abbrev pub HaveNoEmpty : List FreeList → ℕ → ℕ → Type 0
HaveNoEmpty lists from to = (page : ℕ) (list : FreeList) → from ≤ page → page < to → slice_get lists page ≡ Some list → list.count ≡ 0

-- each place of so many pages holds a value
abbrev pub AreAllHeld : {T : Type 0} → List (Entry T) → ℕ → Type 0
AreAllHeld entries pages = taken (places_of entries) ≡ first_key pages

-- a page was added, and is this one, where every place was used and the last page had no empty one
pub record AddsPage {T : Type 0} (entries : List (Entry T)) (lists : List FreeList) (old new page : ℕ) : Type 0 where
  pub one : new ≡ old + 1
  pub last : page ≡ old
  pub few : old < NUM_PAGES
  pub used : length entries ≡ first_key old
  pub full : HaveNoEmpty lists (old - 1) old

-- this page is one of the pages, and has an empty place that was used, or a place was never used; or it was added
abbrev pub FindsPlace : {T : Type 0} → List (Entry T) → List FreeList → ℕ → ℕ → ℕ → Type 0
FindsPlace entries lists old new page =
    ((new ≡ old) × (page ≤ old - 1) × (HasEmpty lists page ⊎ (length entries < first_key old))) ⊎ AddsPage entries lists old new page

-- a value can be put: the list names an empty place, or it has none and there is memory for one more place
abbrev pub CanPut : {T : Type 0} → List (Entry T) → ℕ → FreeList → Type 0
CanPut entries memory list = (list.count ≡ 0 → length entries < memory) ×
    (0 < list.count → (rest : FreeList) × (slice_get entries list.place ≡ Some (Vacant rest)))

-- a value was put into the empty place that the list names, or behind all places if the list has none; answered is its key
abbrev pub Puts : {T : Type 0} → List (Entry T) → FreeList → ℕ → T → List (Entry T) → FreeList → Type 0
Puts old list key value new rest =
    ((list.count ≡ 0) × (rest ≡ list) × (key ≡ length old) × (new ≡ old ++ Occupied value ∷ [])) ⊎
    ((0 < list.count) × (slice_get old list.place ≡ Some (Vacant rest)) × (key ≡ list.place) ×
    (new ≡ slice_set old key (Occupied value)))

-- the value at a key was taken out, and its place leads the list
pub record Takes {T : Type 0} (old : List (Entry T)) (list : FreeList) (key : ℕ) (value : T) (new : List (Entry T)) (more : FreeList) :
    Type 0 where
  pub held : slice_get old key ≡ Some (Occupied value)
  pub emptied : new ≡ slice_set old key (Vacant list)
  pub leads : more ≡ record { place = key; count = list.count + 1 }

-- the last page is empty, and isn't the only one
abbrev pub IsLastEmpty : {T : Type 0} → List (Entry T) → List FreeList → ℕ → Type 0
IsLastEmpty entries lists pages = (1 < pages) ×
    ((list : FreeList) × (slice_get lists (pages - 1) ≡ Some list) × (first_key (pages - 1) + list.count ≡ length entries))

-- the last page was dropped
pub record DropsLast {T : Type 0} (old new : List (Entry T)) (lists rest : List FreeList) (pages count : ℕ) : Type 0 where
  pub empty : IsLastEmpty old lists pages
  pub left : count + 1 ≡ pages
  pub cut : new ≡ take (first_key count) old
  pub list : FreeList
  pub none : list.count ≡ 0
  pub cleared : rest ≡ slice_set lists count list

-- the last page was dropped if it was empty and not the only one, and else the pages are the same
abbrev pub LooksAtLast : {T : Type 0} → List (Entry T) → List (Entry T) → List FreeList → List FreeList → ℕ → ℕ → Type 0
LooksAtLast old new lists rest pages count = DropsLast old new lists rest pages count ⊎
    ((new ≡ old) × (rest ≡ lists) × (count ≡ pages) × ¬ IsLastEmpty old lists pages)
