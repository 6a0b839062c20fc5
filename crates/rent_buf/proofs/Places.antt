-- The places of ranges, and what taking the first of them away leaves.
use Rattle.std.proofs.Common.{◌≡◌, ◌∙◌, ℕ, ◌+◌, ◌-◌, ◌<◌, ◌≤◌, List, [], ◌∷◌, ◌++◌, length, take, drop, refl, ap, sym, arith, append_assoc}
use Rattle.std.proofs.Common.{length-append, add-one, add-zero, zero, suc}
use Rattle.std.specs.Prelude.{map, sum_by, slice_index_or, slice_set}
use Rattle.std.specs.List.{range_with_len}
use Rattle.std.proofs.Math.Seq.{drop-cons}
use Rattle.std.proofs.lemmas.List.FromFn.{length-map-range_with_len}
use Rattle.std.proofs.lemmas.List.{take_more, map-append, length-map, length-take}
use Rattle.std.proofs.lemmas.List.Sums.{sum_by_more}
use Rattle.rent_buf.specs.Ranges.{Range, Ranging, places_in, places, ranges_of}

-- a range has as many places as bytes
pub length-places_in : (range : Range) → length (places_in range) ≡ range.2 - range.1
length-places_in range = length-map-range_with_len (λ (position : ℕ). (range.0, position)) range.1 (range.2 - range.1)

-- ranges that are joined have their places joined
pub places-append : (xs ys : List Range) → places (xs ++ ys) ≡ places xs ++ places ys
places-append [] ys = refl
places-append (range ∷ xs) ys = ap (λ (l : List (ℕ × ℕ)). places_in range ++ l) (places-append xs ys)
    ∙ sym (append_assoc (places_in range) (places xs) (places ys))

-- without its first places, a list of numbers in a row begins later
drop-row : (f : ℕ → ℕ × ℕ) (a n k : ℕ) → k ≤ n → drop k (map f (range_with_len a n)) ≡ map f (range_with_len (a + k) (n - k))
drop-row f a n zero small =
    let same : a ≡ a + 0 = omega arith in
    let all : n ≡ n - 0 = omega arith in
    ap (λ (b : ℕ). map f (range_with_len b n)) same ∙ ap (λ (m : ℕ). map f (range_with_len (a + 0) m)) all
drop-row f a zero (suc k) small = absurd (omega arith)
drop-row f a (suc n) (suc k) small =
    let less : k ≤ n = omega arith in
    let later : (a + 1) + k ≡ a + suc k = omega arith in
    let fewer : n - k ≡ suc n - suc k = omega arith in
    drop-row f (a + 1) n k less ∙ ap (λ (b : ℕ). map f (range_with_len b (n - k))) later
    ∙ ap (λ (m : ℕ). map f (range_with_len (a + suc k) m)) fewer

-- what is dropped of joined lists is dropped of the first, where that is long enough
drop-front : {X : Type 0} (xs ys : List X) (k : ℕ) → k ≤ length xs → drop k (xs ++ ys) ≡ drop k xs ++ ys
drop-front xs ys zero small = refl
drop-front [] ys (suc k) small = absurd (omega arith)
drop-front (x ∷ xs) ys (suc k) small = drop-front xs ys k (omega arith)

-- a range that is cut at its front has the places behind the cut
pub places-cut : (part begin end most : ℕ) (ranges : List Range) → most < end - begin
    → places ((part, begin + most, end) ∷ ranges) ≡ drop most (places ((part, begin, end) ∷ ranges))
places-cut part begin end most ranges small =
    let within : most ≤ end - begin = omega arith in
    let held : most ≤ length (places_in (part, begin, end)) = omega (arith, length-places_in (part, begin, end)) in
    let fewer : end - (begin + most) ≡ (end - begin) - most = omega arith in
    sym (
    drop-front (places_in (part, begin, end)) (places ranges) most held
    ∙ ap (λ (l : List (ℕ × ℕ)). l ++ places ranges)
    (drop-row (λ (position : ℕ). (part, position)) begin (end - begin) most within
    ∙ ap (λ (m : ℕ). map (λ (position : ℕ). (part, position)) (range_with_len (begin + most) m)) (sym fewer))
    )

-- without as many as the first list has, the second is left
drop-whole : (xs ys : List (ℕ × ℕ)) (k : ℕ) → k ≡ length xs → drop k (xs ++ ys) ≡ ys
drop-whole [] ys zero is = refl
drop-whole [] ys (suc k) is = absurd (omega arith)
drop-whole (x ∷ xs) ys zero is = absurd (omega arith)
drop-whole (x ∷ xs) ys (suc k) is = drop-whole xs ys k (omega arith)

-- behind a range are the places of the others
pub places-behind : (range : Range) (ranges : List Range) → places ranges ≡ drop (range.2 - range.1) (places (range ∷ ranges))
places-behind range ranges = sym (drop-whole (places_in range) (places ranges) (range.2 - range.1) (sym (length-places_in range)))

-- the ranges from one on: it, and those behind it
pub drop-range : (ranges : List Range) (i : ℕ) (range : Range) → i < length ranges
    → drop i ranges ≡ slice_index_or ranges i range ∷ drop (i + 1) ranges
drop-range ranges i range there = rw add-one (drop-cons ranges i range there)

-- where places are left, a range is left
pub some-left : (ranges : List Range) (first : ℕ) → 0 < length (places (drop first ranges)) → first < length ranges
some-left [] zero some = absurd (omega arith)
some-left [] (suc first) some = absurd (omega arith)
some-left (range ∷ ranges) zero some = omega arith
some-left (range ∷ ranges) (suc first) some =
    let later : first < length ranges = some-left ranges first some in
    omega arith

-- ranges whose first one that is left is cut at its front have the places behind the cut
pub places-cut-at : (ranges : List Range) (first most : ℕ) (range : Range) → first < length ranges
    → range ≡ slice_index_or ranges first range → most < range.2 - range.1
    → places (drop first (slice_set ranges first (range.0, range.1 + most, range.2))) ≡ drop most (places (drop first ranges))
places-cut-at [] first most range there is small = absurd (omega arith)
places-cut-at (r ∷ ranges) zero most range there is small = places-cut range.0 range.1 range.2 most ranges small
    ∙ ap (λ (q : Range). drop most (places (q ∷ ranges))) is
places-cut-at (r ∷ ranges) (suc first) most range there is small = places-cut-at ranges first most range (omega arith) is small

-- without the first one that is left, ranges have the places behind it
pub places-behind-at : (ranges : List Range) (first : ℕ) (range : Range) → first < length ranges → range ≡ slice_index_or ranges first range
    → places (drop (first + 1) ranges) ≡ drop (range.2 - range.1) (places (drop first ranges))
places-behind-at ranges first range there is =
    places-behind range (drop (first + 1) ranges)
    ∙ ap (λ (l : List Range). drop (range.2 - range.1) (places l))
    (ap (λ (q : Range). q ∷ drop (first + 1) ranges) is ∙ sym (drop-range ranges first range there))

-- one more range has as many more places as bytes
pub length-added : (ranges : List Range) (first part len : ℕ) → first ≤ length ranges
    → length (places (drop first (ranges ++ (part, 0, len) ∷ []))) ≡ length (places (drop first ranges)) + len
length-added ranges first part len small =
    let more = length-append (places (drop first ranges)) (places ((part, 0, len) ∷ [])) in
    let one = length-append (places_in (part, 0, len)) [] in
    let count = length-places_in (part, 0, len) in
    ap (λ (l : List Range). length (places l)) (drop-front ranges ((part, 0, len) ∷ []) first small)
    ∙ ap length (places-append (drop first ranges) ((part, 0, len) ∷ [])) ∙ omega (arith, more, one, count)

-- one more length makes one more range, behind the others
ranges_of-append : (n : ℕ) (lens : List ℕ) (len : ℕ) → ranges_of n (lens ++ len ∷ []) ≡ ranges_of n lens ++ (n + length lens, 0, len) ∷ []
ranges_of-append n [] len = rw add-zero refl
ranges_of-append n (x ∷ lens) len =
    let next : (n + 1) + length lens ≡ n + length (x ∷ lens) = omega arith in
    ap (λ (l : List Range). (n, 0, x) ∷ l)
    (ranges_of-append (n + 1) lens len ∙ ap (λ (m : ℕ). ranges_of (n + 1) lens ++ (m, 0, len) ∷ []) next)

-- the ranges of one more part
pub ranges_of-more : {X : Type 0} (f : X → ℕ) (xs : List X) (i : ℕ) (d : X) → i < length xs
    → ranges_of 0 (map f (take (i + 1) xs)) ≡ ranges_of 0 (map f (take i xs)) ++ (i, 0, f (slice_index_or xs i d)) ∷ []
ranges_of-more f xs i d there =
    let more : map f (take (i + 1) xs) ≡ map f (take i xs) ++ f (slice_index_or xs i d) ∷ [] = ap (map f) (take_more xs i d there)
    ∙ map-append f (take i xs) (slice_index_or xs i d ∷ []) in
    let count : 0 + length (map f (take i xs)) ≡ i = omega (arith, length-map (take i xs) f, length-take i xs) in
    ap (ranges_of 0) more ∙ ranges_of-append 0 (map f (take i xs)) (f (slice_index_or xs i d))
    ∙ ap (λ (n : ℕ). ranges_of 0 (map f (take i xs)) ++ (n, 0, f (slice_index_or xs i d)) ∷ []) count

-- one more part's range makes the ranges of one more part
pub ranging-more : {X : Type 0} (f : X → ℕ) (xs : List X) (i : ℕ) (d : X) (old new : Ranging) (len : ℕ) → i < length xs
    → len ≡ f (slice_index_or xs i d)
    → old ≡ record { ranges = ranges_of 0 (map f (take i xs)); len = sum_by f (take i xs) }
    → new ≡ record { ranges = old.ranges ++ (i, 0, len) ∷ []; len = old.len + len }
    → new ≡ record { ranges = ranges_of 0 (map f (take (i + 1) xs)); len = sum_by f (take (i + 1) xs) }
ranging-more f xs i d old new len there is was next =
    let ranging : List Range → ℕ → Ranging = λ ranges sum. record { ranges = ranges; len = sum } in
    next
    ∙ ap (λ (o : Ranging). ranging (o.ranges ++ (i, 0, len) ∷ []) (o.len + len)) was
    ∙ ap (λ (n : ℕ). ranging (ranges_of 0 (map f (take i xs)) ++ (i, 0, n) ∷ []) (sum_by f (take i xs) + n)) is
    ∙ ap (λ (l : List Range). ranging l (sum_by f (take i xs) + f (slice_index_or xs i d))) (sym (ranges_of-more f xs i d there))
    ∙ ap (λ (n : ℕ). ranging (ranges_of 0 (map f (take (i + 1) xs))) n) (sym (sum_by_more f xs i d there))
