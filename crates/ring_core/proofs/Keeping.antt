-- What stands on the slots that are kept.
use Rattle.std.proofs.Common.{◌≡◌, ◌≢◌, inl, inr, ℕ, zero, suc, ◌+◌, ◌<◌, ◌≤◌, Bool, true, false, List, [], ◌∷◌, ◌++◌, map, length, take}
use Rattle.std.proofs.Common.{drop, remove, replicate, get_or, set, Some, slice_get, refl, sym, ◌∙◌, ap, subst, arith, true≢false}
use Rattle.std.specs.Prelude.{◌==◌}
use Rattle.std.proofs.lemmas.Option.{slice_get_within}
use Rattle.std.proofs.lemmas.List.{drop-set-lt, append_assoc, length-replicate}
use Rattle.std.proofs.Math.Seq.{take-suc-set}
use Rattle.ring_core.specs.declared.entry.Flight.{Flight}
use Rattle.machine.specs.Lists.{amended}
use Rattle.ring_core.specs.Ring.{marked_by}
use Rattle.ring_core.specs.Ranks.{kept_first, is_kept, kept}
use Rattle.ring_core.specs.declared.links.TheConstants.{FAR, SEVERAL}
use Rattle.ring_core.specs.Flights.{InFlight, words_of}
use Rattle.ring_core.specs.Links.{Linked, AreLinked}
use Rattle.machine.proofs.Appended.{drop-suc}
use Rattle.machine.proofs.Numbers.{equal-other, same-or-not, or-false}

-- As many stand on kept slots as slots are kept.
pub length-kept : {A : Type 0} (flags : List Bool) (xs : List A) → length xs ≡ length flags →
    length (kept flags xs) ≡ kept_first (length flags) flags
length-kept [] xs same = refl
length-kept (f ∷ flags) [] same = absurd (omega arith)
length-kept (true ∷ flags) (x ∷ xs) same = let rest = length-kept flags xs (omega arith) in omega arith
length-kept (false ∷ flags) (x ∷ xs) same = let rest = length-kept flags xs (omega arith) in omega arith

-- What stands on a kept slot stands at its rank.
pub get-kept : {A : Type 0} (flags : List Bool) (xs : List A) (slot : ℕ) (x : A) → slice_get flags slot ≡ Some true →
    slice_get xs slot ≡ Some x → slice_get (kept flags xs) (kept_first slot flags) ≡ Some x
get-kept [] xs slot x there here = cc
get-kept (f ∷ flags) [] slot x there here = cc
get-kept (true ∷ flags) (y ∷ xs) zero x there here = here
get-kept (false ∷ flags) (y ∷ xs) zero x there here = cc
get-kept (true ∷ flags) (y ∷ xs) (suc slot) x there here =
    let next : 1 + kept_first slot flags ≡ suc (kept_first slot flags) = omega arith in
    ap (slice_get (y ∷ kept flags xs)) next ∙ get-kept flags xs slot x there here
get-kept (false ∷ flags) (y ∷ xs) (suc slot) x there here =
    let next : 0 + kept_first slot flags ≡ kept_first slot flags = omega arith in
    ap (slice_get (kept flags xs)) next ∙ get-kept flags xs slot x there here

-- What joins the end stands behind all others.
pub kept-joined : {A : Type 0} (flags : List Bool) (xs : List A) (x : A) → length xs ≡ length flags →
    kept (flags ++ true ∷ []) (xs ++ x ∷ []) ≡ kept flags xs ++ x ∷ []
kept-joined [] [] x same = refl
kept-joined [] (y ∷ xs) x same = absurd (omega arith)
kept-joined (f ∷ flags) [] x same = absurd (omega arith)
kept-joined (true ∷ flags) (y ∷ xs) x same = ap (λ ys. y ∷ ys) (kept-joined flags xs x (omega arith))
kept-joined (false ∷ flags) (y ∷ xs) x same = kept-joined flags xs x (omega arith)

-- What stands on a slot that isn't kept any more has left its rank.
pub kept-released : {A : Type 0} (flags : List Bool) (xs : List A) (slot : ℕ) → slice_get flags slot ≡ Some true →
    length xs ≡ length flags → kept (set flags slot false) xs ≡ remove (kept flags xs) (kept_first slot flags)
kept-released [] xs slot there same = cc
kept-released (f ∷ flags) [] slot there same = absurd (omega arith)
kept-released (true ∷ flags) (y ∷ xs) zero there same = refl
kept-released (false ∷ flags) (y ∷ xs) zero there same = cc
kept-released (true ∷ flags) (y ∷ xs) (suc slot) there same =
    let next : 1 + kept_first slot flags ≡ suc (kept_first slot flags) = omega arith in
    ap (λ ys. y ∷ ys) (kept-released flags xs slot there (omega arith)) ∙ sym (ap (remove (y ∷ kept flags xs)) next)
kept-released (false ∷ flags) (y ∷ xs) (suc slot) there same =
    let next : 0 + kept_first slot flags ≡ kept_first slot flags = omega arith in
    kept-released flags xs slot there (omega arith) ∙ sym (ap (remove (kept flags xs)) next)

-- Where all slots are kept, everything is.
pub kept-whole : {A : Type 0} (n : ℕ) (xs : List A) → length xs ≡ n → kept (replicate n true) xs ≡ xs
kept-whole zero [] same = refl
kept-whole zero (x ∷ xs) same = absurd (omega arith)
kept-whole (suc n) [] same = absurd (omega arith)
kept-whole (suc n) (x ∷ xs) same = ap (λ ys. x ∷ ys) (kept-whole n xs (omega arith))

-- A change of everything changes what is kept.
pub kept-map : {A : Type 0} (f : A → A) (flags : List Bool) (xs : List A) → kept flags (map f xs) ≡ map f (kept flags xs)
kept-map f [] xs = refl
kept-map f (b ∷ flags) [] = refl
kept-map f (true ∷ flags) (x ∷ xs) = ap (λ ys. f x ∷ ys) (kept-map f flags xs)
kept-map f (false ∷ flags) (x ∷ xs) = kept-map f flags xs

-- What has another word isn't marked.
marked-other : (w : ℕ) (x : Flight) → x.entry.word ≢ w → marked_by w x ≡ x
marked-other w x other =
    ap (λ marked. record x { marked = marked }) (or-false x.marked (x.entry.word == w) (equal-other x.entry.word w other))

-- Where nothing that is kept has a word, its cancel marks nothing.
pub marks-nothing : (w : ℕ) (flags : List Bool) (xs : List Flight) →
    ((slot : ℕ) (x : Flight) → slice_get flags slot ≡ Some true → slice_get xs slot ≡ Some x → x.entry.word ≢ w) →
    kept flags xs ≡ map (marked_by w) (kept flags xs)
marks-nothing w [] xs other = refl
marks-nothing w (f ∷ flags) [] other = refl
marks-nothing w (true ∷ flags) (x ∷ xs) other =
    ap (λ y. y ∷ kept flags xs) (sym (marked-other w x (other zero x refl refl)))
    ∙ ap (λ ys. marked_by w x ∷ ys) (marks-nothing w flags xs (λ slot y there here. other (suc slot) y there here))
marks-nothing w (false ∷ flags) (x ∷ xs) other = marks-nothing w flags xs (λ slot y there here. other (suc slot) y there here)

-- Where a word is kept on one slot at most, its cancel marks at most what stands there.
pub marks-one : (w : ℕ) (flags : List Bool) (xs : List Flight) (at : ℕ) →
    ((slot : ℕ) (x : Flight) → slice_get flags slot ≡ Some true → slice_get xs slot ≡ Some x → x.entry.word ≡ w → slot ≡ at) →
    kept flags (amended xs at (marked_by w)) ≡ map (marked_by w) (kept flags xs)
marks-one w [] xs at only = refl
marks-one w (f ∷ flags) [] at only = refl
marks-one w (true ∷ flags) (x ∷ xs) zero only =
    ap (λ ys. marked_by w x ∷ ys)
    (marks-nothing w flags xs (λ slot y there here same. let no = only (suc slot) y there here same in absurd (omega arith)))
marks-one w (false ∷ flags) (x ∷ xs) zero only =
    marks-nothing w flags xs (λ slot y there here same. let no = only (suc slot) y there here same in absurd (omega arith))
marks-one w (true ∷ flags) (x ∷ xs) (suc at) only =
    ap (λ ys. x ∷ ys) (marks-one w flags xs at (λ slot y there here same. let one = only (suc slot) y there here same in omega arith))
    ∙ ap (λ y. y ∷ map (marked_by w) (kept flags xs))
    (sym (marked-other w x (λ same. let no = only zero x refl refl same in absurd (omega arith))))
marks-one w (false ∷ flags) (x ∷ xs) (suc at) only =
    marks-one w flags xs at (λ slot y there here same. let one = only (suc slot) y there here same in omega arith)

-- A mark changes no data word.
pub words-map : (w : ℕ) (xs : List Flight) → words_of (map (marked_by w) xs) ≡ words_of xs
words-map w [] = refl
words-map w (x ∷ xs) = ap (λ ws. x.entry.word ∷ ws) (words-map w xs)

-- Nor does a mark of one.
pub words-amended : (w at : ℕ) (xs : List Flight) → words_of (amended xs at (marked_by w)) ≡ words_of xs
words-amended w at [] = refl
words-amended w zero (x ∷ xs) = refl
words-amended w (suc at) (x ∷ xs) = ap (λ ws. x.entry.word ∷ ws) (words-amended w at xs)

-- The data word on a slot.
pub word-there : (xs : List Flight) (slot : ℕ) (x : Flight) → slice_get xs slot ≡ Some x → slice_get (words_of xs) slot ≡ Some x.entry.word
word-there [] slot x here = cc
word-there (y ∷ xs) zero x here = let same : y ≡ x = cc in ap (λ z. Some z.entry.word) same
word-there (y ∷ xs) (suc slot) x here = word-there xs slot x here

-- A word that is kept on a slot is kept on the one that its link names.
pub linked-one : (links : Linked) (flags : List Bool) (xs : List Flight) (word at : ℕ) → AreLinked links flags (words_of xs) →
    word < length links.slots → get_or links.slots word 0 ≡ at → at < SEVERAL → (slot : ℕ) (x : Flight) → slice_get flags slot ≡ Some true →
    slice_get xs slot ≡ Some x → x.entry.word ≡ word → slot ≡ at
linked-one links flags xs word at linked within link one slot x there here same = elim (same-or-not at slot) [
  | inl is ↦ sym is
  | inr differs ↦ (
      let many : get_or links.slots word 0 ≡ SEVERAL =
      (linked slot word there (word-there xs slot x here ∙ ap Some same)).names within (λ is. differs (sym link ∙ is)) in
      absurd (omega arith))
]

-- A word beyond the links is kept nowhere, where each word that is kept has its link.
pub linked-none : (links : Linked) (flags : List Bool) (xs : List Flight) (word : ℕ) → AreLinked links flags (words_of xs) →
    length links.slots ≤ word → word < FAR → links.complete ≡ true → (slot : ℕ) (x : Flight) → slice_get flags slot ≡ Some true →
    slice_get xs slot ≡ Some x → x.entry.word ≢ word
linked-none links flags xs word linked beyond near complete slot x there here same =
    let missing = (linked slot word there (word-there xs slot x here ∙ ap Some same)).misses beyond near in
    true≢false (sym complete ∙ missing)

-- A slot that isn't kept any more takes nothing from the links of the others.
pub linked-released : (links : Linked) (flags : List Bool) (words : List ℕ) (at : ℕ) → AreLinked links flags words →
    AreLinked links (set flags at false) words
linked-released links flags words at linked slot w kept here = linked slot w (was-kept flags at slot kept) here
  where
    was-kept : (flags : List Bool) (at slot : ℕ) → slice_get (set flags at false) slot ≡ Some true → slice_get flags slot ≡ Some true
    was-kept [] at slot kept = kept
    was-kept (f ∷ flags) zero zero kept = cc
    was-kept (f ∷ flags) zero (suc slot) kept = kept
    was-kept (f ∷ flags) (suc at) zero kept = kept
    was-kept (f ∷ flags) (suc at) (suc slot) kept = was-kept flags at slot kept

-- Words behind the slots change nothing.
pub linked-longer : (links : Linked) (flags : List Bool) (words : List ℕ) (word : ℕ) → length words ≡ length flags →
    AreLinked links flags words → AreLinked links flags (words ++ word ∷ [])
linked-longer links flags words word together linked slot w kept here =
    let within : slot < length flags = slice_get_within flags slot true kept in
    linked slot w kept (sym (get-first words slot (omega arith)) ∙ here)
  where
    get-first : (xs : List ℕ) (i : ℕ) → i < length xs → slice_get (xs ++ word ∷ []) i ≡ slice_get xs i
    get-first [] i within = absurd (omega arith)
    get-first (x ∷ xs) zero within = refl
    get-first (x ∷ xs) (suc i) within = get-first xs i (omega arith)

-- A slot that is tested as kept is kept.
pub tested-kept : (flags : List Bool) (slot : ℕ) → is_kept flags slot ≡ true → slice_get flags slot ≡ Some true
tested-kept [] slot test = cc
tested-kept (f ∷ flags) zero test = ap Some test
tested-kept (f ∷ flags) (suc slot) test = tested-kept flags slot test

-- A slot that is tested as not kept, and is there, isn't kept.
pub tested-gone : (flags : List Bool) (slot : ℕ) → slot < length flags → is_kept flags slot ≡ false → slice_get flags slot ≡ Some false
tested-gone [] slot within test = absurd (omega arith)
tested-gone (f ∷ flags) zero within test = ap Some test
tested-gone (f ∷ flags) (suc slot) within test = tested-gone flags slot (omega arith) test

-- The same, as code writes it.
drop-get : {A : Type 0} (xs : List A) (i : ℕ) (x : A) → slice_get xs i ≡ Some x → drop i xs ≡ x ∷ drop (i + 1) xs
drop-get xs i x here = drop-suc xs i x here ∙ ap (λ n. x ∷ drop n xs) (let next : suc i ≡ i + 1 = omega arith in next)

-- What stands on a kept slot moves behind what was moved before.
pub pack-kept : {A : Type 0} (flags : List Bool) (xs : List A) (count slot : ℕ) (x : A) → slot < length xs → count ≤ slot →
    slice_get flags slot ≡ Some true → slice_get xs slot ≡ Some x →
    take count xs ++ kept (drop slot flags) (drop slot xs) ≡ take (count + 1) (set xs count x) ++ kept (drop (slot + 1) flags)
    (drop (slot + 1) (set xs count x))
pack-kept flags xs count slot x within few there here =
    let rest = kept (drop (slot + 1) flags) (drop (slot + 1) xs) in
    let next : suc count ≡ count + 1 = omega arith in
    ap (λ fs. take count xs ++ kept fs (drop slot xs)) (drop-get flags slot true there)
    ∙ ap (λ ys. take count xs ++ kept (true ∷ drop (slot + 1) flags) ys) (drop-get xs slot x here)
    ∙ sym (append_assoc (take count xs) (x ∷ []) rest)
    ∙ ap (λ ys. ys ++ rest) (sym (take-suc-set xs count x (omega arith)) ∙ ap (λ n. take n (set xs count x)) next)
    ∙ ap (λ ys. take (count + 1) (set xs count x) ++ kept (drop (slot + 1) flags) ys)
    (sym (drop-set-lt (slot + 1) xs count x (omega arith)))

-- Each place within a list has an element.
get-there : {A : Type 0} (xs : List A) (i : ℕ) → i < length xs → (x : A) × (slice_get xs i ≡ Some x)
get-there [] i within = absurd (omega arith)
get-there (x ∷ xs) zero within = (x, refl)
get-there (x ∷ xs) (suc i) within = get-there xs i (omega arith)

-- What stands on a slot that isn't kept is passed by.
pub pack-gone : {A : Type 0} (flags : List Bool) (xs : List A) (count slot : ℕ) → slot < length xs → slice_get flags slot ≡ Some false →
    take count xs ++ kept (drop slot flags) (drop slot xs) ≡ take count xs ++ kept (drop (slot + 1) flags) (drop (slot + 1) xs)
pack-gone flags xs count slot within there =
    let at = get-there xs slot within in
    ap (λ fs. take count xs ++ kept fs (drop slot xs)) (drop-get flags slot false there)
    ∙ ap (λ ys. take count xs ++ kept (false ∷ drop (slot + 1) flags) ys) (drop-get xs slot at.0 at.1)

-- The words after one more item.
pub words-joined : (xs : List Flight) (x : Flight) → words_of (xs ++ x ∷ []) ≡ words_of xs ++ x.entry.word ∷ []
words-joined [] x = refl
words-joined (y ∷ xs) x = ap (λ ws. y.entry.word ∷ ws) (words-joined xs x)

-- There are as many words as items.
pub length-words : (xs : List Flight) → length (words_of xs) ≡ length xs
length-words [] = refl
length-words (x ∷ xs) = ap suc (length-words xs)

-- A list of no elements.
pub length-none : {A : Type 0} (xs : List A) → ◌≡◌ {A = ℕ} (length xs) 0 → [] ≡ xs
length-none [] none = refl
length-none (x ∷ xs) none = absurd (omega arith)

-- What is in flight, for its memory.
abbrev pub in_flight : ℕ → List Flight → InFlight
in_flight room flights = record { flights = flights; room = room }

-- The links after one more item whose slot is to come.
pub linked-more : (links : Linked) (flags : List Bool) (xs : List Flight) (x : Flight) → length xs ≡ length flags →
    AreLinked links flags (words_of xs) → AreLinked links flags (words_of (xs ++ x ∷ []))
linked-more links flags xs x together linked =
    let count = length-words xs in
    subst (AreLinked links flags) (sym (words-joined xs x)) (linked-longer links flags (words_of xs) x.entry.word (omega arith) linked)

-- Where all slots are kept, there are as many as items, and so many are kept.
pub all-kept : {A : Type 0} (flags : List Bool) (xs : List A) (n : ℕ) → flags ≡ replicate n true → length xs ≡ n →
    (length xs ≡ length flags) × (kept_first (length flags) flags ≡ length xs)
all-kept flags xs n all count =
    let slots : length flags ≡ n = ap length all ∙ length-replicate n true in
    let ones = length-kept flags xs (omega arith) in
    let whole = ap length (ap (λ fs. kept fs xs) all ∙ kept-whole n xs count) in
    (omega arith, omega arith)
