-- How a slab keeps the empty places of a page in a list. Cited by the body of `Slab`, and by no public clause.
use Rattle.std.specs.Prelude.{◌≡◌, ℕ, zero, suc, ◌+◌, ◌≤◌, ◌<◌, List, [], ◌∷◌, Option, Some, None, slice_get}
use Rattle.op_slots.specs.Pages.{first_key}
use Rattle.op_slots.specs.declared.slab.entry.FreeList.{FreeList}
use Rattle.op_slots.specs.declared.slab.entry.Entry.{Entry}
use Rattle.op_slots.specs.declared.slab.entry.Entry.TheVariants.{Vacant, Occupied}

module _ {T : Type 0} where
  -- the value of an entry, if it has one
  abbrev pub value_of : Entry T → Option T
  value_of (Vacant list) = None
  value_of (Occupied value) = Some value

  -- how many of the first so many entries are empty
  abbrev pub empty_before : ℕ → List (Entry T) → ℕ
  empty_before zero entries = 0
  empty_before (suc n) [] = 0
  empty_before (suc n) (Vacant list ∷ entries) = suc (empty_before n entries)
  empty_before (suc n) (Occupied value ∷ entries) = empty_before n entries

  -- a list of so many empty entries, each at a key from `begin` on and before `end`, and each with the list of the others
  abbrev pub IsFreeList : List (Entry T) → ℕ → ℕ → ℕ → FreeList → Type 0
  IsFreeList entries begin end zero list = list.count ≡ 0
  IsFreeList entries begin end (suc n) list = (list.count ≡ suc n) × (begin ≤ list.place) × (list.place < end) ×
      ((rest : FreeList) × (slice_get entries list.place ≡ Some (Vacant rest)) × IsFreeList entries begin end n rest)

  -- the list of a page has each empty entry of the page
  pub record IsListOf (entries : List (Entry T)) (page : ℕ) (list : FreeList) : Type 0 where
    pub linked : IsFreeList entries (first_key page) (first_key (suc page)) list.count list
    pub complete : empty_before (first_key page) entries + list.count ≡ empty_before (first_key (suc page)) entries
