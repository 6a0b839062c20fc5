-- The rooms and the bounds of parts that are made of vectors or of pairs.
use Rattle.std.proofs.Common.{◌≡◌, ◌∙◌, ℕ, ◌+◌, ◌^◌, ◌<◌, ◌≤◌, List, [], ◌∷◌, ◌++◌, append_assoc, length, refl, ap, sym, subst, arith}
use Rattle.std.specs.Prelude.{All, map, sum_by}
use Rattle.std.specs.declared.vec.Vec.{Vec}
use Rattle.std.proofs.lemmas.List.Sums.{sum_by-cons}
use Rattle.std.proofs.lemmas.List.Elements.{All-nil, All-cons, All-map, All-head, All-tail}
use Rattle.std.proofs.lemmas.List.{get_or-map, length-map}
use Rattle.rent_buf.specs.Rent.{Rented}
use Rattle.rent_buf.specs.Parts.{Parts, IsParts, rooms_of, parts_of_lists, parts_of_pairs, items_of}

-- the rooms are the vectors' lengths
pub rooms_lists : {Z : Type 0} (vectors : List (Vec ℕ Z))
    → rooms_of (parts_of_lists (items_of vectors)) ≡ sum_by (λ v. length v.items) vectors
rooms_lists [] = refl
rooms_lists (v ∷ vectors) =
    sum_by-cons (λ part. part.total) (record { bytes = v.items; total = length v.items }) (parts_of_lists (items_of vectors))
    ∙ ap (λ (n : ℕ). length v.items + n) (rooms_lists vectors)
    ∙ sym (sum_by-cons (λ w. length w.items) v vectors)

-- the bytes of lists fit their lengths
fit-lists : (lists : List (List ℕ)) → All (λ (part : Rented). length part.bytes ≤ part.total) (parts_of_lists lists)
fit-lists [] = All-nil (λ (part : Rented). length part.bytes ≤ part.total)
fit-lists (bytes ∷ lists) =
    let whole : length bytes ≤ length bytes = omega arith in
    All-cons (λ (part : Rented). length part.bytes ≤ part.total) (record { bytes = bytes; total = length bytes }) (parts_of_lists lists)
    whole (fit-lists lists)

-- lists whose lengths' sum fits are parts
pub parts-lists : (lists : List (List ℕ)) (parts : Parts) → parts ≡ parts_of_lists lists → rooms_of (parts_of_lists lists) < 2 ^ 64
    → IsParts parts
parts-lists lists parts is fits = subst IsParts (sym is) (record { fit = fit-lists lists; bounded = fits })

-- the rooms are those of the pairs
pub rooms_pairs : (pairs : List (ℕ × List ℕ)) → rooms_of (parts_of_pairs pairs) ≡ sum_by (λ pair. pair.0) pairs
rooms_pairs [] = refl
rooms_pairs (pair ∷ pairs) =
    sum_by-cons (λ part. part.total) (record { bytes = pair.1; total = pair.0 }) (parts_of_pairs pairs)
    ∙ ap (λ (n : ℕ). pair.0 + n) (rooms_pairs pairs)
    ∙ sym (sum_by-cons (λ p. p.0) pair pairs)

-- pairs whose bytes fit their rooms, and whose rooms' sum fits, are parts
pub parts_pairs : (pairs : List (ℕ × List ℕ)) → All (λ pair. length pair.1 ≤ pair.0) pairs → sum_by (λ pair. pair.0) pairs < 2 ^ 64
    → IsParts (parts_of_pairs pairs)
parts_pairs pairs fit fits = record {
  fit = All-map (λ (part : Rented). length part.bytes ≤ part.total) (λ pair. record { bytes = pair.1; total = pair.0 }) pairs fit;
  bounded = subst (λ (n : ℕ). n < 2 ^ 64) (sym (rooms_pairs pairs)) fits;
}

-- the bytes of pairs that are parts fit their rooms
pub fit_of_pairs : (pairs : List (ℕ × List ℕ)) → IsParts (parts_of_pairs pairs) → All (λ pair. length pair.1 ≤ pair.0) pairs
fit_of_pairs pairs are =
    let as_part : ℕ × List ℕ → Rented = λ pair. record { bytes = pair.1; total = pair.0 } in
    λ k d there.
    let count : k < length (map as_part pairs) = omega (arith, length-map pairs as_part) in
    subst (λ (part : Rented). length part.bytes ≤ part.total) (get_or-map as_part pairs k d (as_part d) there) (are.fit k (as_part d) count)

-- the rooms' sum of pairs that are parts fits
pub bounded_of_pairs : (pairs : List (ℕ × List ℕ)) → IsParts (parts_of_pairs pairs) → sum_by (λ pair. pair.0) pairs < 2 ^ 64
bounded_of_pairs pairs are = subst (λ (n : ℕ). n < 2 ^ 64) (rooms_pairs pairs) are.bounded

-- of parts made of pairs the first fits its room
pub fit-first : (pair : ℕ × List ℕ) (pairs rest : List (ℕ × List ℕ)) → pairs ≡ pair ∷ rest
    → All (λ part. length part.bytes ≤ part.total) (parts_of_pairs pairs) → length pair.1 ≤ pair.0
fit-first pair pairs rest is fit =
    All-head (λ (part : Rented). length part.bytes ≤ part.total) (record { bytes = pair.1; total = pair.0 }) (parts_of_pairs rest)
    (subst (λ (l : List (ℕ × List ℕ)). All (λ (part : Rented). length part.bytes ≤ part.total) (parts_of_pairs l)) is fit)

-- and those behind it fit theirs
pub fit-rest : (pair : ℕ × List ℕ) (pairs rest : List (ℕ × List ℕ)) → pairs ≡ pair ∷ rest
    → All (λ part. length part.bytes ≤ part.total) (parts_of_pairs pairs)
    → All (λ part. length part.bytes ≤ part.total) (parts_of_pairs rest)
fit-rest pair pairs rest is fit =
    All-tail (λ (part : Rented). length part.bytes ≤ part.total) (record { bytes = pair.1; total = pair.0 }) (parts_of_pairs rest)
    (subst (λ (l : List (ℕ × List ℕ)). All (λ (part : Rented). length part.bytes ≤ part.total) (parts_of_pairs l)) is fit)

-- one more pair that became a part leaves fewer, and the same parts in all
pub made-more : (parts : Parts) (pair : ℕ × List ℕ) (pairs rest : List (ℕ × List ℕ)) (rent : Rented) (all new : Parts)
    → pairs ≡ pair ∷ rest → parts ++ parts_of_pairs pairs ≡ all → rent ≡ record { bytes = pair.1; total = pair.0 }
    → new ≡ parts ++ rent ∷ [] → new ++ parts_of_pairs rest ≡ all
made-more parts pair pairs rest rent all new is made rent_is next =
    ap (λ (l : Parts). l ++ parts_of_pairs rest) next
    ∙ ap (λ (r : Rented). (parts ++ r ∷ []) ++ parts_of_pairs rest) rent_is
    ∙ append_assoc parts (record { bytes = pair.1; total = pair.0 } ∷ []) (parts_of_pairs rest)
    ∙ ap (λ (l : List (ℕ × List ℕ)). parts ++ parts_of_pairs l) (sym is) ∙ made
