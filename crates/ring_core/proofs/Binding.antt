-- Bound entries in flight, as entries are taken and end.
use Rattle.std.proofs.Common.{◌≡◌, ℕ, zero, suc, ◌+◌, Bool, true, false, List, [], ◌∷◌, ◌++◌, length, take, drop, remove, Some, slice_get}
use Rattle.std.proofs.Common.{refl, sym, ◌∙◌, ap, arith, true≢false, if◌then◌else◌}
use Rattle.std.proofs.lemmas.List.{take-append-drop}
use Rattle.machine.specs.declared.request.TheConstants.{CANCELED}
use Rattle.machine.specs.declared.request.Outcome.{Outcome}
use Rattle.machine.specs.declared.request.Outcome.TheVariants.{Count, From, Made, Fail}
use Rattle.ring_core.specs.declared.entry.Entry.{Entry}
use Rattle.ring_core.specs.declared.entry.Flight.{Flight}
use Rattle.machine.specs.Lists.{amended}
use Rattle.ring_core.specs.Ranks.{kept, kept_first}
use Rattle.ring_core.specs.Flights.{words_of}
use Rattle.ring_core.specs.Bound.{completion_of, is_bound, bound_front, behind_bound, unbound, first_unbound, left_behind, taken_along}
use Rattle.ring_core.specs.Bound.{flying_left}
use Rattle.ring_core.specs.Bound.{broken, IsTakenBound}

-- A list without the element of a number, in parts.
pub remove-parts : {A : Type 0} (xs : List A) (n : ℕ) → remove xs n ≡ take n xs ++ drop (suc n) xs
remove-parts [] zero = refl
remove-parts [] (suc n) = refl
remove-parts (x ∷ xs) zero = refl
remove-parts (x ∷ xs) (suc n) = ap (λ ys. x ∷ ys) (remove-parts xs n)

-- What is before a number stays where its element is removed.
pub take-removed : {A : Type 0} (xs : List A) (n : ℕ) → take n (remove xs n) ≡ take n xs
take-removed [] zero = refl
take-removed [] (suc n) = refl
take-removed (x ∷ []) zero = refl
take-removed (x ∷ y ∷ xs) zero = refl
take-removed (x ∷ xs) (suc n) = ap (λ ys. x ∷ ys) (take-removed xs n)

-- What is behind it moves to its place.
pub drop-removed : {A : Type 0} (xs : List A) (n : ℕ) → drop n (remove xs n) ≡ drop (suc n) xs
drop-removed [] zero = refl
drop-removed [] (suc n) = refl
drop-removed (x ∷ []) zero = refl
drop-removed (x ∷ y ∷ xs) zero = refl
drop-removed (x ∷ xs) (suc n) = drop-removed xs n

-- The elements from a number on, where there is one of that number.
pub drop-there : {A : Type 0} (xs : List A) (n : ℕ) (x : A) → slice_get xs n ≡ Some x → drop n xs ≡ x ∷ drop (suc n) xs
drop-there [] n x there = cc
drop-there (y ∷ xs) zero x there = let same : y ≡ x = cc in ap (λ z. z ∷ xs) same
drop-there (y ∷ xs) (suc n) x there = drop-there xs n x there

-- A change of a kept slot is one of its rank.
pub kept-amended : {A : Type 0} (f : A → A) (flags : List Bool) (xs : List A) (slot : ℕ) → slice_get flags slot ≡ Some true →
    kept flags (amended xs slot f) ≡ amended (kept flags xs) (kept_first slot flags) f
kept-amended f [] xs slot there = cc
kept-amended f (b ∷ flags) [] zero there = refl
kept-amended f (b ∷ flags) [] (suc slot) there = refl
kept-amended f (true ∷ flags) (x ∷ xs) zero there = refl
kept-amended f (false ∷ flags) (x ∷ xs) zero there = cc
kept-amended f (true ∷ flags) (x ∷ xs) (suc slot) there =
    let next : suc (kept_first slot flags) ≡ 1 + kept_first slot flags = omega arith in
    ap (λ ys. x ∷ ys) (kept-amended f flags xs slot there) ∙ ap (λ n. amended (x ∷ kept flags xs) n f) next
kept-amended f (false ∷ flags) (x ∷ xs) (suc slot) there =
    let next : kept_first slot flags ≡ 0 + kept_first slot flags = omega arith in
    kept-amended f flags xs slot there ∙ ap (λ n. amended (kept flags xs) n f) next

-- An entry that is bound no more keeps its word.
pub words-unbound : (xs : List Flight) (n : ℕ) → words_of (amended xs n unbound) ≡ words_of xs
words-unbound [] n = refl
words-unbound (x ∷ xs) zero = refl
words-unbound (x ∷ xs) (suc n) = ap (λ ws. x.entry.word ∷ ws) (words-unbound xs n)

-- The entry at a place is bound no more: the first of those from there on.
pub unbound-parts : (xs : List Flight) (n : ℕ) → amended xs n unbound ≡ take n xs ++ first_unbound (drop n xs)
unbound-parts [] zero = refl
unbound-parts [] (suc n) = refl
unbound-parts (x ∷ xs) zero = refl
unbound-parts (x ∷ xs) (suc n) = ap (λ ys. x ∷ ys) (unbound-parts xs n)

-- Where the first entry isn't bound, none of the front is.
pub none-bound : (xs : List Flight) (n : ℕ) → is_bound xs n ≡ false → (behind_bound (drop n xs) ≡ drop n xs)
    × (bound_front (drop n xs) ≡ [])
none-bound [] zero free = (refl, refl)
none-bound [] (suc n) free = (refl, refl)
none-bound (x ∷ xs) zero free = (
  ap (λ b. if b then behind_bound xs else (x ∷ xs)) free,
  ap (λ b. if b then x ∷ bound_front xs else []) free,
)
none-bound (x ∷ xs) (suc n) free = none-bound xs n free

-- Where the first entry is bound, it is the first of the front.
pub one-bound : (x : Flight) (xs : List Flight) → x.bound ≡ true →
    (behind_bound (x ∷ xs) ≡ behind_bound xs) × (bound_front (x ∷ xs) ≡ x ∷ bound_front xs)
one-bound x xs bound = (
  ap (λ b. if b then behind_bound xs else (x ∷ xs)) bound,
  ap (λ b. if b then x ∷ bound_front xs else []) bound,
)

-- What is left once the first bound entry was taken out, and the rest of them go.
pub left-broken : (xs : List Flight) (n : ℕ) (left : List Flight) (entry : Entry) → IsTakenBound xs n left entry →
    take n left ++ behind_bound (drop n left) ≡ take n xs ++ behind_bound (drop n xs)
left-broken xs n left entry taken =
    ap (λ ys. take n ys ++ behind_bound (drop n ys)) taken.rest
    ∙ ap (λ ys. ys ++ behind_bound (drop n (remove xs n))) (take-removed xs n)
    ∙ ap (λ ys. take n xs ++ behind_bound ys) (drop-removed xs n)
    ∙ ap (λ ys. take n xs ++ ys) (sym (ap behind_bound (drop-there xs n taken.flight taken.there)
    ∙ (one-bound taken.flight (drop (suc n) xs) taken.bound).0))

-- Its completion is the first of those that end.
pub next-broken : (xs : List Flight) (n : ℕ) (left : List Flight) (entry : Entry) → IsTakenBound xs n left entry →
    broken (bound_front (drop n xs)) ≡ completion_of entry (Fail CANCELED) ∷ broken (bound_front (drop n left))
next-broken xs n left entry taken =
    ap (λ ys. broken (bound_front ys)) (drop-there xs n taken.flight taken.there)
    ∙ ap broken (one-bound taken.flight (drop (suc n) xs) taken.bound).1
    ∙ ap (λ e. completion_of e (Fail CANCELED) ∷ broken (bound_front (drop (suc n) xs))) (sym taken.answer)
    ∙ ap (λ ys. completion_of entry (Fail CANCELED) ∷ broken (bound_front ys)) (sym (ap (drop n) taken.rest ∙ drop-removed xs n))

-- Where the first isn't bound, all are left.
pub none-broken : (xs : List Flight) (n : ℕ) → is_bound xs n ≡ false → take n xs ++ behind_bound (drop n xs) ≡ xs
none-broken xs n free = ap (λ ys. take n xs ++ ys) (none-bound xs n free).0 ∙ take-append-drop n xs

-- Behind an entry that ended and didn't fail the next one is bound no more, and none ends with it.
pub behind-counted : (outcome : Outcome) (xs : List Flight) → ((e : ℕ) → outcome ≡ Fail e → ⊥) →
    (left_behind outcome xs ≡ first_unbound xs) × (taken_along outcome xs ≡ [])
behind-counted (Count k) xs _ = (refl, refl)
behind-counted (From k addr) xs _ = (refl, refl)
behind-counted (Made h) xs _ = (refl, refl)
behind-counted (Fail e) xs never = absurd (never e refl)

-- An element that is there is removed: one less is left.
pub length-removed : {A : Type 0} (xs : List A) (n : ℕ) (x : A) → slice_get xs n ≡ Some x → suc (length (remove xs n)) ≡ length xs
length-removed [] n x there = cc
length-removed (y ∷ xs) zero x there = refl
length-removed (y ∷ xs) (suc n) x there = ap suc (length-removed xs n x there)

-- One bound entry less is left.
pub length-taken : (xs : List Flight) (n : ℕ) (left : List Flight) (entry : Entry) → IsTakenBound xs n left entry →
    suc (length left) ≡ length xs
length-taken xs n left entry taken = ap (λ ys. suc (length ys)) taken.rest ∙ length-removed xs n taken.flight taken.there

-- Where the first entry isn't bound, it stays as it is.
first-free : (xs : List Flight) → is_bound xs zero ≡ false → first_unbound xs ≡ xs
first-free [] free = refl
first-free (x ∷ xs) free = ap (λ b. (record x { bound = b }) ∷ xs) (sym free)

-- Where the first of those behind an entry isn't bound, the entry takes none along, and all stay as they are.
pub free-behind : (outcome : Outcome) (xs : List Flight) → is_bound xs zero ≡ false →
    (left_behind outcome xs ≡ xs) × (taken_along outcome xs ≡ [])
free-behind (Count k) xs free = (first-free xs free, refl)
free-behind (From k addr) xs free = (first-free xs free, refl)
free-behind (Made h) xs free = (first-free xs free, refl)
free-behind (Fail e) xs free = none-bound xs zero free

-- An entry is taken out, and then those behind it are released.
pub left-removed : (outcome : Outcome) (xs : List Flight) (n : ℕ) →
    (take n (remove xs n) ++ left_behind outcome (drop n (remove xs n)) ≡ flying_left outcome n xs)
    × (broken (taken_along outcome (drop n (remove xs n))) ≡ broken (taken_along outcome (drop (suc n) xs)))
left-removed outcome xs n = (
  ap (λ ys. ys ++ left_behind outcome (drop n (remove xs n))) (take-removed xs n)
      ∙ ap (λ ys. take n xs ++ left_behind outcome ys) (drop-removed xs n),
  ap (λ ys. broken (taken_along outcome ys)) (drop-removed xs n),
)

-- Where no entry in flight is bound, the first of those from a place on isn't.
pub free-from : (xs : List Flight) (n : ℕ) → ((i : ℕ) (x : Flight) → slice_get xs i ≡ Some x → x.bound ≡ false) →
    is_bound (drop n xs) zero ≡ false
free-from [] zero free = refl
free-from [] (suc n) free = refl
free-from (x ∷ xs) zero free = free zero x refl
free-from (x ∷ xs) (suc n) free = free-from xs n (λ i y h. free (suc i) y h)

-- Nor is the one at any place.
pub never-bound : (xs : List Flight) (n : ℕ) → ((i : ℕ) (x : Flight) → slice_get xs i ≡ Some x → x.bound ≡ false) → is_bound xs n ≡ true → ⊥
never-bound [] n free bound = cc
never-bound (x ∷ xs) zero free bound = true≢false (sym bound ∙ free zero x refl)
never-bound (x ∷ xs) (suc n) free bound = never-bound xs n (λ i y h. free (suc i) y h) bound
