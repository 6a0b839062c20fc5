-- The digits that a text begins with, and words of pairs of digits.
use Rattle.std.proofs.Common.{◌≡◌, ◌∙◌, ℕ, zero, suc, ◌+◌, ◌-◌, ◌/◌, ◌<◌, ◌≤◌, List, [], ◌∷◌, ◌++◌, length, get_or, take, drop, refl}
use Rattle.std.proofs.Common.{ap, arith, sym, subst, inl, inr, bit_or, length-take, get_or-drop, get_or-take, take-append-drop}
use Rattle.std.specs.Prelude.{Option, Some, None, ◌==◌, ◌⊎◌, option_map}
use Rattle.std.proofs.lemmas.Bool.{cases_lt}
use Rattle.std.proofs.lemmas.Nat.{le_or_l, le_or_r}
use Rattle.std.proofs.Math.Bool.{or-true}
use Rattle.event_text.specs.TextReads.{digit_value_of, pair_onto, pairs_of}
use Rattle.event_text.specs.TextDigits.{AreDigits, HasOther, IsHex}
use Rattle.event_text.proofs.TextHex.{onto, onto-onto, isnt-eqb, pairs_of-Some, pairs_of-hex_front}

-- Digits, and then more digits behind them, are digits.
pub are_digits-more : (text : List ℕ) (at n : ℕ) → AreDigits text at → AreDigits (drop at text) n → AreDigits text (at + n)
are_digits-more text at n front behind k below is = elim (cases_lt k at) [
  | inl less ↦ front k less is
  | inr over ↦ behind (k - at) (omega arith)
      (ap digit_value_of (get_or-drop at text (k - at) 0 ∙ ap (λ (i : ℕ). get_or text i 0) (omega arith)) ∙ is)
]

-- Where the first bytes, taken alone, are all digits, they are digits.
pub are_digits-taken : (text : List ℕ) (n m : ℕ) → m ≡ n → n ≤ length text → AreDigits (take m text) (length (take m text))
    → AreDigits text n
are_digits-taken text n m same room all k below is =
    let long = length-take m text in
    all k (omega arith) (ap digit_value_of (get_or-take m text k 0 (omega arith)) ∙ is)

-- A fact of four places in a row.
four-below : (f : ℕ → ℕ) (at k : ℕ) → f at < 16 → f (at + 1) < 16 → f (at + 2) < 16 → f (at + 3) < 16 → k < 4 → f (at + k) < 16
four-below f at zero a b c d below = let place : at ≡ at + zero = omega arith in subst (λ (n : ℕ). f n < 16) place a
four-below f at (suc zero) a b c d below = b
four-below f at (suc (suc zero)) a b c d below = c
four-below f at (suc (suc (suc zero))) a b c d below = d
four-below f at (suc (suc (suc (suc k)))) a b c d below = absurd (omega arith)

-- Four bytes whose values, joined by `or`, are below 16 are digits.
pub four_digits : (text : List ℕ) (at a b c d : ℕ) → bit_or (bit_or a b) (bit_or c d) < 16
    → a ≡ digit_value_of (get_or text at 0) → b ≡ digit_value_of (get_or text (at + 1) 0)
    → c ≡ digit_value_of (get_or text (at + 2) 0) → d ≡ digit_value_of (get_or text (at + 3) 0)
    → AreDigits (drop at text) 4
four_digits text at a b c d small isa isb isc isd k below is =
    let front = le_or_l (bit_or a b) (bit_or c d) in
    let back = le_or_r (bit_or a b) (bit_or c d) in
    let fa : a < 16 = omega (arith, le_or_l a b) in
    let fb : b < 16 = omega (arith, le_or_r a b) in
    let fc : c < 16 = omega (arith, le_or_l c d) in
    let fd : d < 16 = omega (arith, le_or_r c d) in
    let less = four-below (λ (n : ℕ). digit_value_of (get_or text n 0)) at k (subst (λ (v : ℕ). v < 16) isa fa)
    (subst (λ (v : ℕ). v < 16) isb fb) (subst (λ (v : ℕ). v < 16) isc fc) (subst (λ (v : ℕ). v < 16) isd fd) below in
    let none : 16 < 16 = subst (λ (v : ℕ). v < 16) (ap digit_value_of (sym (get_or-drop at text k 0)) ∙ is) less in
    absurd (omega arith)

-- A pair of digits in front of so many pairs.
pair-count : (high low n : ℕ) (o : Option (List ℕ)) → (high ≡ 16 → ⊥) → (low ≡ 16 → ⊥) → Some (n / 2) ≡ option_map length o
    → Some ((n + 2) / 2) ≡ option_map length (pair_onto high low o)
pair-count high low n None h l count = absurd (cc)
pair-count high low n (Some bytes) h l count =
    let half : n / 2 ≡ length bytes = cc in
    rw (isnt-eqb high 16 h, isnt-eqb low 16 l) (ap (λ (m : ℕ). Some m) (omega arith))

-- Pairs of digits write half as many bytes.
pub pairs_of-count : (word : List ℕ) → IsHex word → Some (length word / 2) ≡ option_map length (pairs_of word)
unfolding pairs_of
pairs_of-count [] pairs = refl
pairs_of-count (digit ∷ []) pairs = absurd (omega (arith, pairs.even))
pairs_of-count (high ∷ low ∷ digits) pairs =
    let even = pairs.even in
    let rest : IsHex digits = record { even = omega arith; digits = λ k below. pairs.digits (suc (suc k)) (omega arith) } in
    ap (λ (m : ℕ). Some (m / 2)) (omega arith)
    ∙ pair-count (digit_value_of high) (digit_value_of low) (length digits) (pairs_of digits) (pairs.digits zero (omega arith))
    (pairs.digits (suc zero) (omega arith)) (pairs_of-count digits rest)

-- A pair of which one is no digit is none.
no_pair : (high low : ℕ) (o : Option (List ℕ)) → (high ≡ 16) ⊎ (low ≡ 16) → pair_onto high low o ≡ None
no_pair high low None bad = refl
no_pair high low (Some bytes) (inl is) = rw is refl
no_pair high low (Some bytes) (inr is) = rw (is, or-true (high == 16)) refl

-- A byte that is no digit makes the word none.
pub pairs_of-none : (word : List ℕ) (at : ℕ) → at < length word → digit_value_of (get_or word at 0) ≡ 16 → pairs_of word ≡ None
unfolding pairs_of
pairs_of-none [] at below is = absurd (omega arith)
pairs_of-none (digit ∷ []) at below is = refl
pairs_of-none (high ∷ low ∷ digits) zero below is = no_pair (digit_value_of high) (digit_value_of low) (pairs_of digits) (inl is)
pairs_of-none (high ∷ low ∷ digits) (suc zero) below is = no_pair (digit_value_of high) (digit_value_of low) (pairs_of digits) (inr is)
pairs_of-none (high ∷ low ∷ digits) (suc (suc at)) below is = rw (pairs_of-none digits at (omega arith) is) refl

-- The bytes of a block of digits are those in front of what is read behind it.
pub pairs_of-block : (all : Option (List ℕ)) (items rest bytes : List ℕ) (n : ℕ) → all ≡ onto items (pairs_of rest)
    → pairs_of (take n rest) ≡ Some bytes → all ≡ onto (items ++ bytes) (pairs_of (drop n rest))
pairs_of-block all items rest bytes n so_far read =
    let block = pairs_of-Some (take n rest) bytes read in
    so_far
    ∙ ap (λ (word : List ℕ). onto items (pairs_of word))
    (sym (take-append-drop n rest) ∙ ap (λ (front : List ℕ). front ++ drop n rest) block.0)
    ∙ ap (λ (o : Option (List ℕ)). onto items o) (pairs_of-hex_front bytes (drop n rest) block.1)
    ∙ onto-onto items bytes (pairs_of (drop n rest))

-- A byte of a block that is no digit makes the word none.
pub pairs_of-stop : (all : Option (List ℕ)) (items rest block : List ℕ) (n : ℕ) → all ≡ onto items (pairs_of rest) → block ≡ take n rest
    → HasOther block (length block) → None ≡ all
pairs_of-stop all items rest block n so_far is other =
    let long = ap length is ∙ length-take n rest in
    let below = other.below in
    let byte : get_or block other.place 0 ≡ get_or rest other.place 0 =
    ap (λ (l : List ℕ). get_or l other.place 0) is ∙ get_or-take n rest other.place 0 (omega arith) in
    sym (so_far ∙ ap (λ (o : Option (List ℕ)). onto items o)
    (pairs_of-none rest other.place (omega arith) (ap digit_value_of (sym byte) ∙ other.other)))

-- `onto` by a word of std.
pub onto-map : (front : List ℕ) (o : Option (List ℕ)) → onto front o ≡ option_map (λ (more : List ℕ). front ++ more) o
onto-map front None = refl
onto-map front (Some more) = refl
