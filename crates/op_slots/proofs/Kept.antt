-- What a slab keeps true, and what its slots are, where a key is looked up or its value replaced.
use Rattle.std.proofs.Common.{◌≡◌, ℕ, ◌-◌, ◌≤◌, ◌<◌, List, length, None, Some, set, get_or, slice_get, refl, sym, ◌∙◌, ap, subst}
use Rattle.std.proofs.Common.{arith}
use Rattle.std.specs.Prelude.{IsSome}
use Rattle.std.specs.FinMap.{get, len}
use Rattle.std.proofs.lemmas.List.{length-map, map-set}
use Rattle.std.proofs.lemmas.Option.{slice_get_within}
use Rattle.op_slots.specs.declared.slab.TheConstants.{MAX_LIVE}
use Rattle.op_slots.specs.declared.slab.entry.FreeList.{FreeList}
use Rattle.op_slots.specs.declared.slab.entry.Entry.{Entry}
use Rattle.op_slots.specs.declared.slab.entry.Entry.TheVariants.{Occupied}
use Rattle.op_slots.specs.Pages.{page_of}
use Rattle.op_slots.specs.Slots.{IsLive, AreKeysBelow, AreOnPages, with_value}
use Rattle.op_slots.specs.Entry.{value_of}
use Rattle.op_slots.specs.Layout.{at, taken, places_of, AreLaid, AreKept, slots_of}
use Rattle.op_slots.proofs.Pages.{first-bound}
use Rattle.op_slots.proofs.Places.{map_of, get-places, at-get_or, map-put, len-places, at-live, taken-keep, taken-le}
use Rattle.op_slots.proofs.Entries.{at-entry, entry-at}
use Rattle.op_slots.proofs.Laid.{page-before, laid-keep}

module _ {T : Type 0} where
  -- there is a place for each entry
  pub length-places : (es : List (Entry T)) → length (places_of es) ≡ length es
  length-places es = length-map es value_of

  -- there are no more entries than keys
  pub bound-all : (es : List (Entry T)) (lists : List FreeList) (pages : ℕ) → AreLaid es lists pages → length es ≤ MAX_LIVE
  bound-all es lists pages h = omega (arith, h.within, first-bound pages h.few)

  -- the live keys are counted
  pub kept-len : (es : List (Entry T)) (lists : List FreeList) (pages entered first removals : ℕ)
      → AreKept es lists pages entered first removals → entered - removals ≡ len (slots_of es pages removals).values
  kept-len es lists pages entered first removals h = omega (arith, h.counted, len-places (places_of es))

  -- no more keys are live than can be
  pub kept-bound : (es : List (Entry T)) (lists : List FreeList) (pages entered first removals : ℕ)
      → AreKept es lists pages entered first removals → entered - removals ≤ MAX_LIVE
  kept-bound es lists pages entered first removals h =
      omega (arith, h.counted, taken-le (places_of es), length-places es, bound-all es lists pages h.laid)

  -- a live key's entry has its value
  pub live-entry : (es : List (Entry T)) (pages removals key : ℕ) → IsLive (slots_of es pages removals) key
      → (v : T) × (slice_get es key ≡ Some (Occupied v))
  live-entry es pages removals key live = entry-at es key (subst IsSome (get-places (places_of es) key) live)

  -- a live key is below the bound, and on one of the pages
  pub live-on : (es : List (Entry T)) (lists : List FreeList) (pages removals key : ℕ) → AreLaid es lists pages
      → IsLive (slots_of es pages removals) key → (key < MAX_LIVE) × (page_of key < pages)
  live-on es lists pages removals key h live =
      let found = live-entry es pages removals key live in
      page-before key pages h.few (omega (arith, slice_get_within es key _ found.1, h.within))

  -- every live key is below the bound
  pub keys-below : (es : List (Entry T)) (lists : List FreeList) (pages removals : ℕ) → AreLaid es lists pages
      → AreKeysBelow (slots_of es pages removals)
  keys-below es lists pages removals h = λ key live. (live-on es lists pages removals key h live).0

  -- and on one of the pages
  pub on-pages : (es : List (Entry T)) (lists : List FreeList) (pages removals : ℕ) → AreLaid es lists pages
      → AreOnPages (slots_of es pages removals)
  on-pages es lists pages removals h = (h.few, λ key live. (live-on es lists pages removals key h live).1)

  -- a key has the value that is read at its place
  pub get-read : (es : List (Entry T)) (pages removals key : ℕ)
      → get (slots_of es pages removals).values key ≡ get_or (places_of es) key None
  get-read es pages removals key = get-places (places_of es) key ∙ at-get_or (places_of es) key

  -- an entry's value is that of its key
  pub get-entry : (es : List (Entry T)) (pages removals key : ℕ) (e : Entry T) → slice_get es key ≡ Some e
      → get (slots_of es pages removals).values key ≡ value_of e
  get-entry es pages removals key e found = get-places (places_of es) key ∙ at-entry es key e found

  -- another value at a live key
  pub kept-keep : (es : List (Entry T)) (lists : List FreeList) (pages entered first removals key : ℕ) (v w : T)
      → AreKept es lists pages entered first removals → slice_get es key ≡ Some (Occupied v)
      → AreKept (set es key (Occupied w)) lists pages entered first removals
  kept-keep es lists pages entered first removals key v w h found =
      let held : IsSome (at (places_of es) key) = subst IsSome (sym (at-entry es key (Occupied v) found)) refl in
      let same = map-set value_of es key (Occupied w) in
      record {
        laid = laid-keep es lists pages key v w h.laid found;
        counted = omega (
          arith,
          h.counted,
          ap taken same,
          taken-keep (places_of es) key w (at-live (places_of es) key held) held,
        );
        search = h.search;
        interval = h.interval;
      }

  -- is another value in the map, and all else stays
  pub slots-keep : (es : List (Entry T)) (pages removals key : ℕ) (v w : T) → slice_get es key ≡ Some (Occupied v)
      → slots_of (set es key (Occupied w)) pages removals ≡ with_value (slots_of es pages removals) key w
  slots-keep es pages removals key v w found =
      let held : IsSome (at (places_of es) key) = subst IsSome (sym (at-entry es key (Occupied v) found)) refl in
      let within = at-live (places_of es) key held in
      let same = map-set value_of es key (Occupied w) in
      let values = ap map_of same ∙ map-put (places_of es) key w within in
      let count : taken (places_of (set es key (Occupied w))) ≡ taken (places_of es) = ap taken same
      ∙ taken-keep (places_of es) key w within held in
      rw (values, count) refl
