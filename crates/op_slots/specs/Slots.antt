-- A slab as contracts see it: the values at its keys, for how many more it has room, and its pages. Cited by `Slab`, `Ref` and
-- whoever holds one.
use Rattle.std.specs.Prelude.{ℕ, ◌≡◌, ◌≢◌, ◌+◌, ◌-◌, ◌<◌, ◌≤◌, ◌⊎◌, IsSome, refl}
use Rattle.std.specs.Ordering.{nat_cmp}
use Rattle.std.specs.FinMap as map
use Rattle.std.specs.Coded.{Coded, code_by, coded×, coded_ℕ}
use Rattle.op_slots.specs.declared.slab.TheConstants.{MAX_LIVE, COMPACT_INTERVAL}
use Rattle.op_slots.specs.declared.slab.pages.TheConstants.{NUM_PAGES}
use Rattle.op_slots.specs.Pages.{page_of, first_key, places_on}

-- the values by their keys; how many more values can be put in with no memory taken; how many pages there are; and how many values
-- were taken out since the last page was looked at
pub record Slots (T : Type 0) : Type 0 where
  pub values : map.FinMap nat_cmp T
  pub room : ℕ
  pub pages : ℕ
  pub removals : ℕ

-- slots are stored as the tuple of their fields
abbrev pub slots_code : {T : Type 0} → Coded T → Coded (Slots T)
slots_code code =
    code_by
    (map.FinMap nat_cmp _ × (ℕ × (ℕ × ℕ)))
    (coded× (map.code coded_ℕ code) (coded× coded_ℕ (coded× coded_ℕ coded_ℕ)))
    (λ s. (s.values, (s.room, (s.pages, s.removals))))
    (λ p. record { values = p.0; room = p.1.0; pages = p.1.1.0; removals = p.1.1.1 })
    (λ _. refl)

-- the key has a value
abbrev pub IsLive : {T : Type 0} → Slots T → ℕ → Type 0
IsLive slots key = IsSome (map.get slots.values key)

-- every live key is below the bound on keys
abbrev pub AreKeysBelow : {T : Type 0} → Slots T → Type 0
AreKeysBelow slots = (key : ℕ) → IsLive slots key → key < MAX_LIVE

-- every live key is on one of the pages, of which there are not too many
abbrev pub AreOnPages : {T : Type 0} → Slots T → Type 0
AreOnPages slots = (slots.pages ≤ NUM_PAGES) × ((key : ℕ) → IsLive slots key → page_of key < slots.pages)

-- each key of the page is live
abbrev pub IsPageFull : {T : Type 0} → Slots T → ℕ → Type 0
IsPageFull slots page = (key : ℕ) → first_key page ≤ key → key < first_key page + places_on page → IsLive slots key

-- no key of the page is live
abbrev pub IsPageEmpty : {T : Type 0} → Slots T → ℕ → Type 0
IsPageEmpty slots page = (key : ℕ) → IsLive slots key → page_of key ≢ page

-- the pages are the same, or one was made, behind a last one whose keys are all live
abbrev pub MakesPage : {T : Type 0} → Slots T → Slots T → Type 0
MakesPage old new = (new.pages ≡ old.pages) ⊎ ((new.pages ≡ old.pages + 1) × (0 < old.pages → IsPageFull old (old.pages - 1)))

-- a removal gives the last page back: it is the last one before a look, no key of the page is live after it, and the page isn't page 0
abbrev pub GivesBackPage : {T : Type 0} → Slots T → Slots T → Type 0
GivesBackPage old new = (old.removals + 1 ≡ COMPACT_INTERVAL) × (1 < old.pages) × IsPageEmpty new (old.pages - 1)

-- the slots with this value at the key, and all else the same
abbrev pub with_value : {T : Type 0} → Slots T → ℕ → T → Slots T
with_value slots key value = record slots { values = map.insert slots.values key value }
