-- Empty entries are counted, and the lists of them stay right, as entries are filled, emptied, added and dropped.
use Rattle.std.proofs.Common.{◌≡◌, ◌≢◌, ℕ, zero, suc, ◌+◌, ◌-◌, ◌<◌, ◌≤◌, List, [], ◌∷◌, ◌++◌, length, get_or, set, take}
use Rattle.std.proofs.Common.{Some, None, slice_get, refl, sym, ap, subst, ◌∙◌, arith, length-set}
use Rattle.std.specs.Prelude.{IsSome}
use Rattle.std.proofs.lemmas.List.{get_or-set_same, get_or-set_other}
use Rattle.std.proofs.lemmas.Option.{slice_get_within, slice_get-get_or, get_or_from_slice_get}
use Rattle.op_slots.specs.declared.slab.entry.FreeList.{FreeList}
use Rattle.op_slots.specs.declared.slab.entry.Entry.{Entry}
use Rattle.op_slots.specs.declared.slab.entry.Entry.TheVariants.{Vacant, Occupied}
use Rattle.op_slots.specs.Layout.{at, taken, places_of}
use Rattle.op_slots.specs.Entry.{value_of, empty_before, IsFreeList}
use Rattle.op_slots.proofs.Places.{taken-none, taken-some}

-- a write at another place leaves an entry
pub get-other : {A : Type 0} (xs : List A) (k q : ℕ) (x y : A) → k ≢ q → slice_get xs k ≡ Some x → slice_get (set xs q y) k ≡ Some x
get-other xs k q x y other found =
    slice_get-get_or (set xs q y) k x (omega (arith, length-set xs q y, slice_get_within xs k x found))
    ∙ ap Some (get_or-set_other xs q k y x other ∙ get_or_from_slice_get xs k x x found)

module _ {T : Type 0} where
  -- a write behind the first so many entries leaves their empty ones
  pub before-behind : (n k : ℕ) (es : List (Entry T)) (e : Entry T) → n ≤ k → empty_before n (set es k e) ≡ empty_before n es
  before-behind zero k es e le = refl
  before-behind (suc n) k [] e le = refl
  before-behind (suc n) zero (x ∷ es) e le = absurd (omega arith)
  before-behind (suc n) (suc k) (Vacant list ∷ es) e le = ap suc (before-behind n k es e (omega arith))
  before-behind (suc n) (suc k) (Occupied v ∷ es) e le = before-behind n k es e (omega arith)

  -- an empty entry that is filled is one less
  pub before-fill : (n k : ℕ) (es : List (Entry T)) (list : FreeList) (v : T) → k < n → slice_get es k ≡ Some (Vacant list)
      → empty_before n (set es k (Occupied v)) + 1 ≡ empty_before n es
  before-fill zero k es list v less found = absurd (omega arith)
  before-fill (suc n) k [] list v less found = cc
  before-fill (suc n) zero (Vacant _ ∷ es) list v less found = omega arith
  before-fill (suc n) zero (Occupied w ∷ es) list v less found = cc
  before-fill (suc n) (suc k) (Vacant _ ∷ es) list v less found = omega (arith, before-fill n k es list v (omega arith) found)
  before-fill (suc n) (suc k) (Occupied w ∷ es) list v less found = before-fill n k es list v (omega arith) found

  -- an entry that is emptied is one more
  pub before-empty : (n k : ℕ) (es : List (Entry T)) (list : FreeList) (v : T) → k < n → slice_get es k ≡ Some (Occupied v)
      → empty_before n (set es k (Vacant list)) ≡ empty_before n es + 1
  before-empty zero k es list v less found = absurd (omega arith)
  before-empty (suc n) k [] list v less found = cc
  before-empty (suc n) zero (Vacant _ ∷ es) list v less found = cc
  before-empty (suc n) zero (Occupied w ∷ es) list v less found = omega arith
  before-empty (suc n) (suc k) (Vacant _ ∷ es) list v less found = omega (arith, before-empty n k es list v (omega arith) found)
  before-empty (suc n) (suc k) (Occupied w ∷ es) list v less found = before-empty n k es list v (omega arith) found

  -- another value in an entry that has one empties none
  pub before-keep : (n k : ℕ) (es : List (Entry T)) (v w : T) → slice_get es k ≡ Some (Occupied v)
      → empty_before n (set es k (Occupied w)) ≡ empty_before n es
  before-keep zero k es v w found = refl
  before-keep (suc n) k [] v w found = refl
  before-keep (suc n) zero (Vacant _ ∷ es) v w found = cc
  before-keep (suc n) zero (Occupied _ ∷ es) v w found = refl
  before-keep (suc n) (suc k) (Vacant _ ∷ es) v w found = ap suc (before-keep n k es v w found)
  before-keep (suc n) (suc k) (Occupied _ ∷ es) v w found = before-keep n k es v w found

  -- a value behind all entries empties none
  pub before-push : (n : ℕ) (es : List (Entry T)) (v : T) → empty_before n (es ++ Occupied v ∷ []) ≡ empty_before n es
  before-push zero es v = refl
  before-push (suc zero) [] v = refl
  before-push (suc (suc n)) [] v = refl
  before-push (suc n) (Vacant _ ∷ es) v = ap suc (before-push n es v)
  before-push (suc n) (Occupied _ ∷ es) v = before-push n es v

  -- of the first so many entries those before their end are empty as they were
  pub before-take : (n m : ℕ) (es : List (Entry T)) → n ≤ m → empty_before n (take m es) ≡ empty_before n es
  before-take zero m es le = refl
  before-take (suc n) zero es le = absurd (omega arith)
  before-take (suc n) (suc m) [] le = refl
  before-take (suc n) (suc m) (Vacant _ ∷ es) le = ap suc (before-take n m es (omega arith))
  before-take (suc n) (suc m) (Occupied _ ∷ es) le = before-take n m es (omega arith)

  -- behind the entries none is empty
  pub before-past : (n m : ℕ) (es : List (Entry T)) → length es ≤ n → n ≤ m → empty_before m es ≡ empty_before n es
  before-past zero zero [] end le = refl
  before-past zero (suc m) [] end le = refl
  before-past zero m (x ∷ es) end le = absurd (omega arith)
  before-past (suc n) zero es end le = absurd (omega arith)
  before-past (suc n) (suc m) [] end le = refl
  before-past (suc n) (suc m) (Vacant _ ∷ es) end le = ap suc (before-past n m es (omega arith) (omega arith))
  before-past (suc n) (suc m) (Occupied _ ∷ es) end le = before-past n m es (omega arith) (omega arith)

  -- each entry is empty or has a value
  pub before-all : (n : ℕ) (es : List (Entry T)) → length es ≤ n → taken (places_of es) + empty_before n es ≡ length es
  before-all zero [] end = refl
  before-all zero (x ∷ es) end = absurd (omega arith)
  before-all (suc n) [] end = refl
  before-all (suc n) (Vacant _ ∷ es) end = omega (arith, taken-none (places_of es), before-all n es (omega arith))
  before-all (suc n) (Occupied v ∷ es) end = omega (arith, taken-some v (places_of es), before-all n es (omega arith))

  -- among more entries no fewer are empty
  pub before-mono : (a b : ℕ) (es : List (Entry T)) → a ≤ b → empty_before a es ≤ empty_before b es
  before-mono zero b es le = omega arith
  before-mono (suc a) zero es le = absurd (omega arith)
  before-mono (suc a) (suc b) [] le = omega arith
  before-mono (suc a) (suc b) (Vacant _ ∷ es) le = omega (arith, before-mono a b es (omega arith))
  before-mono (suc a) (suc b) (Occupied _ ∷ es) le = before-mono a b es (omega arith)

  -- nor more than entries that there are more
  pub before-steps : (a b : ℕ) (es : List (Entry T)) → a ≤ b → empty_before b es ≤ empty_before a es + (b - a)
  before-steps zero zero es le = omega arith
  before-steps zero (suc b) [] le = omega arith
  before-steps zero (suc b) (Vacant _ ∷ es) le = omega (arith, before-steps zero b es (omega arith))
  before-steps zero (suc b) (Occupied _ ∷ es) le = omega (arith, before-steps zero b es (omega arith))
  before-steps (suc a) zero es le = absurd (omega arith)
  before-steps (suc a) (suc b) [] le = omega arith
  before-steps (suc a) (suc b) (Vacant _ ∷ es) le = omega (arith, before-steps a b es (omega arith))
  before-steps (suc a) (suc b) (Occupied _ ∷ es) le = omega (arith, before-steps a b es (omega arith))

  -- where none of some entries is empty, each has a value
  pub held-between : (a b k : ℕ) (es : List (Entry T)) → empty_before b es ≡ empty_before a es → a ≤ k → k < b → k < length es
      → IsSome (at (places_of es) k)
  held-between a zero k es none from to within = absurd (omega arith)
  held-between a (suc b) k [] none from to within = absurd (omega arith)
  held-between zero (suc b) zero (Vacant _ ∷ es) none from to within = absurd (omega arith)
  held-between zero (suc b) (suc k) (Vacant _ ∷ es) none from to within = absurd (omega arith)
  held-between zero (suc b) zero (Occupied v ∷ es) none from to within = refl
  held-between zero (suc b) (suc k) (Occupied v ∷ es) none from to within =
      held-between zero b k es none (omega arith) (omega arith) (omega arith)
  held-between (suc a) (suc b) zero (x ∷ es) none from to within = absurd (omega arith)
  held-between (suc a) (suc b) (suc k) (Vacant _ ∷ es) none from to within =
      held-between a b k es (omega arith) (omega arith) (omega arith) (omega arith)
  held-between (suc a) (suc b) (suc k) (Occupied v ∷ es) none from to within =
      held-between a b k es none (omega arith) (omega arith) (omega arith)

  -- where all of some entries are empty, none has a value
  pub empty-between : (a b k : ℕ) (es : List (Entry T)) → empty_before a es + (b - a) ≤ empty_before b es → a ≤ k → k < b
      → at (places_of es) k ≡ None
  empty-between a zero k es all from to = absurd (omega arith)
  empty-between a (suc b) k [] all from to = refl
  empty-between zero (suc b) zero (Vacant _ ∷ es) all from to = refl
  empty-between zero (suc b) (suc k) (Vacant _ ∷ es) all from to = empty-between zero b k es (omega arith) (omega arith) (omega arith)
  empty-between zero (suc b) k (Occupied v ∷ es) all from to = absurd (omega (arith, before-steps zero b es (omega arith)))
  empty-between (suc a) (suc b) zero (x ∷ es) all from to = absurd (omega arith)
  empty-between (suc a) (suc b) (suc k) (Vacant _ ∷ es) all from to = empty-between a b k es (omega arith) (omega arith) (omega arith)
  empty-between (suc a) (suc b) (suc k) (Occupied v ∷ es) all from to = empty-between a b k es (omega arith) (omega arith) (omega arith)

  -- where no entry from one on has a value, all of those are empty
  pub empties-between : (a : ℕ) (es : List (Entry T)) → ((k : ℕ) → a ≤ k → IsSome (at (places_of es) k) → ⊥) → a ≤ length es
      → empty_before (length es) es ≡ empty_before a es + (length es - a)
  empties-between zero [] none le = refl
  empties-between zero (Vacant _ ∷ es) none le =
      omega (arith, empties-between zero es (λ k from held. none (suc k) (omega arith) held) (omega arith))
  empties-between zero (Occupied v ∷ es) none le = absurd (none 0 (omega arith) refl)
  empties-between (suc a) [] none le = absurd (omega arith)
  empties-between (suc a) (Vacant _ ∷ es) none le =
      omega (arith, empties-between a es (λ k from held. none (suc k) (omega arith) held) (omega arith))
  empties-between (suc a) (Occupied v ∷ es) none le =
      omega (arith, empties-between a es (λ k from held. none (suc k) (omega arith) held) (omega arith))

  -- what is at a place is the value of its entry
  pub at-entry : (es : List (Entry T)) (k : ℕ) (e : Entry T) → slice_get es k ≡ Some e → at (places_of es) k ≡ value_of e
  at-entry [] k e found = cc
  at-entry (x ∷ es) zero e found = cc
  at-entry (x ∷ es) (suc k) e found = at-entry es k e found

  -- where a value is, its entry has it
  pub entry-at : (es : List (Entry T)) (k : ℕ) → IsSome (at (places_of es) k) → (v : T) × (slice_get es k ≡ Some (Occupied v))
  entry-at [] k held = cc
  entry-at (Vacant _ ∷ es) zero held = cc
  entry-at (Occupied v ∷ es) zero held = (v, refl)
  entry-at (x ∷ es) (suc k) held = entry-at es k held

  -- what is read at an entry
  pub read-entry : (es : List (Entry T)) (k : ℕ) (e read : Entry T) → slice_get es k ≡ Some e → read ≡ get_or es k read → read ≡ e
  read-entry es k e read found is = is ∙ get_or_from_slice_get es k e read found

  -- an entry with a value isn't empty
  pub not_vacant : (v : T) (list : FreeList) → Vacant list ≡ Occupied v → ⊥
  not_vacant v list e = cc

  -- so many are on a list as it says
  list-count : (es : List (Entry T)) (begin end n : ℕ) (list : FreeList) → IsFreeList es begin end n list → list.count ≡ n
  list-count es begin end zero list h = h
  list-count es begin end (suc n) list h = h.0

  -- a write at a place that isn't on the list keeps the list
  pub list-set : (es : List (Entry T)) (begin end q : ℕ) (e : Entry T) (n : ℕ) (list : FreeList)
      → (begin ≤ q → q < end → (r : FreeList) → r.count < n → slice_get es q ≡ Some (Vacant r) → ⊥)
      → IsFreeList es begin end n list → IsFreeList (set es q e) begin end n list
  list-set es begin end q e zero list off h = h
  list-set es begin end q e (suc n) list off h =
      let rest = h.3.0 in
      let found = h.3.1 in
      let counted = list-count es begin end n rest h.3.2 in
      let other : list.place ≢ q =
      λ same. off (omega (arith, same, h.1)) (omega (arith, same, h.2)) rest (omega arith)
      (subst (λ k. slice_get es k ≡ Some (Vacant rest)) same found) in (
        h.0,
        h.1,
        h.2,
        (
          rest,
          get-other es list.place q (Vacant rest) e other found,
          list-set es begin end q e n rest (λ from to r less there. off from to r (omega arith) there) h.3.2,
        ),
      )

  -- a list of entries that are kept is kept
  pub list-kept : (es new : List (Entry T)) (begin end n : ℕ) (list : FreeList)
      → ((k : ℕ) (e : Entry T) → k < end → slice_get es k ≡ Some e → slice_get new k ≡ Some e)
      → IsFreeList es begin end n list → IsFreeList new begin end n list
  list-kept es new begin end zero list same h = h
  list-kept es new begin end (suc n) list same h =
      (h.0, h.1, h.2, (h.3.0, same list.place _ h.2 h.3.1, list-kept es new begin end n h.3.0 same h.3.2))

  -- the first of a list is an empty entry with the list of the others
  pub list-first : (es : List (Entry T)) (begin end n : ℕ) (list : FreeList) → IsFreeList es begin end n list → 0 < list.count
      → (begin ≤ list.place) × (list.place < end) × ((rest : FreeList) × (slice_get es list.place ≡ Some (Vacant rest)))
  list-first es begin end zero list h some = absurd (omega arith)
  list-first es begin end (suc n) list h some = (h.1, h.2, (h.3.0, h.3.1))

  -- the others, once it is filled
  pub list-rest : (es : List (Entry T)) (begin end n : ℕ) (list rest : FreeList) (v : T) → IsFreeList es begin end n list → 0 < list.count
      → slice_get es list.place ≡ Some (Vacant rest)
      → (rest.count + 1 ≡ list.count) × IsFreeList (set es list.place (Occupied v)) begin end rest.count rest
  list-rest es begin end zero list rest v h some found = absurd (omega arith)
  list-rest es begin end (suc n) list rest v h some found =
      let there = h.3.1 in
      let same : h.3.0 ≡ rest = cc in
      let is : IsFreeList es begin end n rest = subst (IsFreeList es begin end n) same h.3.2 in
      let counted = list-count es begin end n rest is in
      let off : begin ≤ list.place → list.place < end → (r : FreeList) → r.count < n → slice_get es list.place ≡ Some (Vacant r) → ⊥ =
      λ from to r less at_place. (let this : r ≡ rest = cc in omega (arith, ap (λ (l : FreeList). l.count) this)) in (
        omega arith,
        subst (λ m. IsFreeList (set es list.place (Occupied v)) begin end m rest) (sym counted)
            (list-set es begin end list.place (Occupied v) n rest off is),
      )

  -- the list with an entry that is emptied before the others
  pub list-more : (es : List (Entry T)) (begin end n key : ℕ) (list : FreeList) (v : T) → IsFreeList es begin end n list → list.count ≡ n
      → slice_get es key ≡ Some (Occupied v) → begin ≤ key → key < end
      → IsFreeList (set es key (Vacant list)) begin end (suc n) (record { place = key; count = list.count + 1 })
  list-more es begin end n key list v h is found from to =
      let within = slice_get_within es key _ found in
      let written : slice_get (set es key (Vacant list)) key ≡ Some (Vacant list) =
      slice_get-get_or _ key (Vacant list) (omega (arith, length-set es key (Vacant list)))
      ∙ ap Some (get_or-set_same es key (Vacant list) (Vacant list) within) in
      let off : begin ≤ key → key < end → (r : FreeList) → r.count < n → slice_get es key ≡ Some (Vacant r) → ⊥ =
      λ lo hi r less there. cc in
      (omega arith, from, to, (list, written, list-set es begin end key (Vacant list) n list off h))
