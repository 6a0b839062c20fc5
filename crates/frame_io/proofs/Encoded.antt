-- The bytes of numbers and pieces.
use Rattle.std.proofs.Common.{◌≡◌, ◌∙◌, ℕ, zero, suc, ◌+◌, ◌/◌, ◌%◌, ◌<◌, ◌≤◌, List, [], ◌∷◌, ◌++◌, Bool, true, false, length}
use Rattle.std.proofs.Common.{take, drop, sym, ap, refl, arith, cond, append_assoc, length-append}
use Rattle.std.specs.Prelude.{nat_lt, nat_le}
use Rattle.std.proofs.lemmas.Bool.{cond-true, cond-false, leb-false}
use Rattle.std.proofs.lemmas.Bool.Decides.{nat_tests}
use Rattle.std.proofs.lemmas.List.{length-drop, drop-append-le}
use Rattle.frame_io.specs.Number.{number_in, vnum}
use Rattle.frame_io.specs.Piece.{flag_of, piece, pieces_in, pieces_of}

-- A number below 128 is one byte.
pub number_low : (count n : ℕ) → 0 < count → n < 128 → number_in count n ≡ n ∷ []
number_low zero n some small = absurd (omega arith)
number_low (suc count) n some small =
    cond-true (nat_lt n 128) (n ∷ []) ((128 + n % 128) ∷ number_in count (n / 128)) (grind (arith, nat_tests))

-- Another is its lowest seven bits, and the number of the rest.
pub number_high : (count less n : ℕ) → count ≡ less + 1 → 128 ≤ n → number_in count n ≡ (128 + n % 128) ∷ number_in less (n / 128)
number_high zero less n is big = absurd (omega arith)
number_high (suc count) less n is big =
    cond-false (nat_lt n 128) (n ∷ []) ((128 + n % 128) ∷ number_in count (n / 128)) (grind (arith, nat_tests))
    ∙ ap (λ c. (128 + n % 128) ∷ number_in c (n / 128)) (omega arith)

-- A byte alone, or before so many bytes at most, makes one byte more at most.
number_short_if : (b : Bool) (count n m : ℕ) (rest : List ℕ) → length rest ≤ count → length (cond b (n ∷ []) (m ∷ rest)) ≤ suc count
number_short_if true count n m rest less = omega arith
number_short_if false count n m rest less = omega arith

-- A number takes no more bytes than it may.
pub number_short : (count n : ℕ) → length (number_in count n) ≤ count
number_short zero n = omega arith
number_short (suc count) n =
    number_short_if (nat_lt n 128) count n (128 + n % 128) (number_in count (n / 128)) (number_short count (n / 128))

-- A piece, part by part.
pub piece_is : (old bytes : List ℕ) (channel : ℕ) (last : Bool) (flag : ℕ) → flag ≡ flag_of last
    → (((old ++ number_in 5 channel) ++ number_in 5 (length bytes)) ++ flag ∷ []) ++ bytes ≡ old ++ piece channel bytes last
unfolding vnum
piece_is old bytes channel last flag is =
    ap (λ f. (((old ++ number_in 5 channel) ++ number_in 5 (length bytes)) ++ f ∷ []) ++ bytes) is ∙ simp append_assoc

-- Choices with the same first branch are equal if their second ones are, where these are taken.
enough_if : (b : Bool) (x y z : List ℕ) → (b ≡ false → y ≡ z) → cond b x y ≡ cond b x z
enough_if true x y z same = refl
enough_if false x y z same = same refl

-- More pieces than there are bytes are enough.
pieces_enough : (n m channel : ℕ) (bytes : List ℕ) → length bytes ≤ n → length bytes ≤ m
    → pieces_in n channel bytes ≡ pieces_in m channel bytes
pieces_enough zero zero channel bytes small less = refl
pieces_enough zero (suc m) channel bytes small less =
    sym (cond-true (nat_le (length bytes) 65536) (piece channel bytes true) _ (grind (arith, nat_tests)))
pieces_enough (suc n) zero channel bytes small less =
    cond-true (nat_le (length bytes) 65536) (piece channel bytes true) _ (grind (arith, nat_tests))
pieces_enough (suc n) (suc m) channel bytes small less =
    enough_if (nat_le (length bytes) 65536) (piece channel bytes true)
    (piece channel (take 65536 bytes) false ++ pieces_in n channel (drop 65536 bytes))
    (piece channel (take 65536 bytes) false ++ pieces_in m channel (drop 65536 bytes))
    (λ e. ap (λ l. piece channel (take 65536 bytes) false ++ l) (pieces_enough n m channel (drop 65536 bytes)
    (omega (arith, length-drop 65536 bytes, leb-false (length bytes) 65536 e))
    (omega (arith, length-drop 65536 bytes, leb-false (length bytes) 65536 e))))

-- A message that fits in one piece.
pub pieces_one : (channel : ℕ) (bytes : List ℕ) → length bytes ≤ 65536 → pieces_of channel bytes ≡ piece channel bytes true
unfolding pieces_of
pieces_one channel bytes small = pieces_enough (length bytes) (suc (length bytes)) channel bytes (omega arith) (omega arith)
    ∙ cond-true (nat_le (length bytes) 65536) (piece channel bytes true) _ (grind (arith, nat_tests))

-- Another is a piece, and the pieces of the rest.
pub pieces_more : (channel : ℕ) (bytes : List ℕ) → 65536 < length bytes
    → pieces_of channel bytes ≡ piece channel (take 65536 bytes) false ++ pieces_of channel (drop 65536 bytes)
unfolding pieces_of
pieces_more channel bytes big = pieces_enough (length bytes) (suc (length bytes)) channel bytes (omega arith) (omega arith)
    ∙ cond-false (nat_le (length bytes) 65536) (piece channel bytes true)
    (piece channel (take 65536 bytes) false ++ pieces_in (length bytes) channel (drop 65536 bytes)) (grind (arith, nat_tests))
    ∙ ap (λ l. piece channel (take 65536 bytes) false ++ l) (pieces_enough (length bytes) (length (drop 65536 bytes)) channel
    (drop 65536 bytes) (omega (arith, length-drop 65536 bytes)) (omega arith))

-- Bytes that are added at the end come behind those from a place on.
pub held_behind : (xs ys zs : List ℕ) (from : ℕ) → from ≤ length xs → zs ≡ xs ++ ys → drop from zs ≡ drop from xs ++ ys
held_behind xs ys zs from within is = ap (drop from) is ∙ drop-append-le from xs ys within

-- A piece takes eleven bytes more than it brings, at most.
pub piece_short : (old bytes : List ℕ) (channel : ℕ) (last : Bool)
    → length (old ++ piece channel bytes last) ≤ length old + length bytes + 11
unfolding vnum
piece_short old bytes channel last = omega (
  arith,
  length-append old (piece channel bytes last),
  length-append (number_in 5 channel) (number_in 5 (length bytes) ++ (flag_of last ∷ bytes)),
  length-append (number_in 5 (length bytes)) (flag_of last ∷ bytes),
  number_short 5 channel,
  number_short 5 (length bytes),
)
