-- The bytes that hexadecimal digits write.
use Rattle.std.proofs.Common.{◌≡◌, ◌∙◌, ℕ, zero, suc, ◌+◌, ◌*◌, ◌/◌, ◌%◌, ◌<◌, ◌≤◌, List, [], ◌∷◌, ◌++◌, length, get_or, take, drop, refl}
use Rattle.std.proofs.Common.{ap, arith, append_assoc, drop-cons, set, sym}
use Rattle.std.specs.Prelude.{Bool, true, false, Option, Some, None, ◌==◌, ◌||◌, if◌then◌else◌, bytes_eq, codes}
pub use Rattle.std.proofs.lemmas.Bool.{false_from_ne_true as false-from}
use Rattle.std.proofs.lemmas.Bool.Decides.{nat_tests}
use Rattle.std.proofs.lemmas.Grind.{common_steps}
use Rattle.std.proofs.lemmas.List.{take_more, take_more_set, drop_all, append-nil, length-set}
use Rattle.std.proofs.lemmas.Slice.Eq.{bytes_eq-Decides}
use Rattle.event_text.specs.TextReads.{digit_value_of, pair_onto, pairs_of, bytes_of}
use Rattle.event_text.specs.TextWords.{AreBytes, hex, hex_digit, bytes_word}

-- A digit's value has that digit.
pub digit_value_of-hex_digit : (v : ℕ) → v < 16 → digit_value_of (hex_digit v) ≡ v
digit_value_of-hex_digit v small = grind (arith, nat_tests)

-- A digit's value writes that digit, and is below 16.
pub hex_digit-digit_value_of : (c : ℕ) → (digit_value_of c ≡ 16 → ⊥) → (hex_digit (digit_value_of c) ≡ c) × (digit_value_of c < 16)
hex_digit-digit_value_of c isnt = (grind (arith, nat_tests), grind (arith, nat_tests))

-- The digits of joined bytes are those of each, joined.
pub hex-append : (xs ys : List ℕ) → hex (xs ++ ys) ≡ hex xs ++ hex ys
hex-append [] ys = refl
hex-append (x ∷ xs) ys = ap (λ (digits : List ℕ). hex_digit (x / 16) ∷ hex_digit (x % 16) ∷ digits) (hex-append xs ys)

-- One byte more is two digits more.
pub hex-take : (bytes : List ℕ) (i : ℕ) → i < length bytes
    → hex (take (i + 1) bytes) ≡ (hex (take i bytes) ++ hex_digit (get_or bytes i 0 / 16) ∷ []) ++ hex_digit (get_or bytes i 0 % 16) ∷ []
hex-take bytes i below = rw (take_more bytes i 0 below, hex-append (take i bytes) (get_or bytes i 0 ∷ []), append_assoc) refl

-- What the loop of `put_bytes` leaves after one byte more.
pub hex-written : (old bytes before between behind : List ℕ) (i high low : ℕ) → i < length bytes → before ≡ old ++ hex (take i bytes)
    → high ≡ hex_digit (get_or bytes i 0 / 16) → low ≡ hex_digit (get_or bytes i 0 % 16)
    → between ≡ before ++ high ∷ [] → behind ≡ between ++ low ∷ [] → behind ≡ old ++ hex (take (i + 1) bytes)
hex-written old bytes before between behind i high low below is0 ish isl is1 is2 =
    rw (is2, is1, is0, ish, isl, hex-take bytes i below) (simp append_assoc)

-- What the loop of `hex_block` leaves after one byte more.
pub hex-set : (block bytes : List ℕ) (i high low : ℕ) → i < length bytes → 2 * i + 1 < length block
    → take (2 * i) block ≡ hex (take i bytes)
    → high ≡ hex_digit (get_or bytes i 0 / 16) → low ≡ hex_digit (get_or bytes i 0 % 16)
    → take (2 * (i + 1)) (set (set block (2 * i) high) (2 * i + 1) low) ≡ hex (take (i + 1) bytes)
hex-set block bytes i high low below room so_far ish isl =
    let place : 2 * (i + 1) ≡ (2 * i + 1) + 1 = omega arith in
    let long = length-set block (2 * i) high in
    ap (λ (n : ℕ). take n (set (set block (2 * i) high) (2 * i + 1) low)) place
    ∙ take_more_set (set block (2 * i) high) (2 * i + 1) low (omega arith)
    ∙ ap (λ (l : List ℕ). l ++ low ∷ []) (take_more_set block (2 * i) high (omega arith))
    ∙ rw (so_far, ish, isl, hex-take bytes i below) refl

-- A byte in front of bytes makes bytes.
pub bytes_cons : (byte : ℕ) (bytes : List ℕ) → byte < 256 → AreBytes bytes → AreBytes (byte ∷ bytes)
bytes_cons byte bytes small rest zero d few = small
bytes_cons byte bytes small rest (suc k) d few = rest k d (omega arith)

-- Tests that fail.
pub isnt-eqb : (a b : ℕ) → (a ≡ b → ⊥) → (a == b) ≡ false
isnt-eqb a b isnt = grind (arith, nat_tests)

-- What was read so far, in front of what is read behind it.
abbrev pub onto : {A : Type 0} → List A → Option (List A) → Option (List A)
onto front None = None
onto front (Some more) = Some (front ++ more)

-- A pair of digits is one byte.
onto-pair : (front : List ℕ) (high low : ℕ) (o : Option (List ℕ)) → (high ≡ 16 → ⊥) → (low ≡ 16 → ⊥)
    → onto front (pair_onto high low o) ≡ onto (front ++ (high * 16 + low) ∷ []) o
onto-pair front high low None h l = refl
onto-pair front high low (Some bytes) h l = rw (isnt-eqb high 16 h, isnt-eqb low 16 l, append_assoc) refl

-- Two digits in front of the others.
two-front : (word : List ℕ) (at : ℕ) → at + 1 < length word → drop at word ≡ get_or word at 0 ∷ get_or word (at + 1) 0 ∷ drop (at + 2) word
two-front word at below = grind (arith, common_steps, drop-cons word at 0, drop-cons word (suc at) 0)

-- One pair more was read.
pub pairs_of-more : (all : Option (List ℕ)) (word : List ℕ) (at : ℕ) (front : List ℕ) → at + 1 < length word
    → (digit_value_of (get_or word at 0) ≡ 16 → ⊥) → (digit_value_of (get_or word (at + 1) 0) ≡ 16 → ⊥)
    → all ≡ onto front (pairs_of (drop at word))
    → all ≡ onto (front ++ (digit_value_of (get_or word at 0) * 16 + digit_value_of (get_or word (at + 1) 0)) ∷ [])
    (pairs_of (drop (at + 2) word))
unfolding pairs_of
pairs_of-more all word at front below high low so_far =
    so_far ∙ ap (λ (rest : List ℕ). onto front (pairs_of rest)) (two-front word at below)
    ∙ onto-pair front (digit_value_of (get_or word at 0)) (digit_value_of (get_or word (at + 1) 0)) (pairs_of (drop (at + 2) word)) high low

-- No pair is left.
pub pairs_of-end : (all : Option (List ℕ)) (word : List ℕ) (at : ℕ) (front : List ℕ) → length word ≤ at
    → all ≡ onto front (pairs_of (drop at word)) → all ≡ Some front
unfolding pairs_of
pairs_of-end all word at front end so_far =
    so_far ∙ ap (λ (rest : List ℕ). onto front (pairs_of rest)) (drop_all at word end) ∙ ap (λ (l : List ℕ). Some l) (append-nil front)

-- An odd number of digits is none.
pub pairs_of-odd : (word : List ℕ) → (length word % 2 ≡ 0 → ⊥) → pairs_of word ≡ None
unfolding pairs_of
pairs_of-odd [] odd = absurd (odd refl)
pairs_of-odd (digit ∷ []) odd = refl
pairs_of-odd (high ∷ low ∷ digits) odd = rw (pairs_of-odd digits (λ even. odd (omega arith))) refl

-- Nothing in front.
pub onto-none : {A : Type 0} (o : Option (List A)) → onto [] o ≡ o
onto-none None = refl
onto-none (Some more) = refl

-- Bytes in front of bytes.
pub onto-onto : {A : Type 0} (front next : List A) (o : Option (List A)) → onto front (onto next o) ≡ onto (front ++ next) o
onto-onto front next None = refl
onto-onto front next (Some more) = rw append_assoc refl

-- The digits of a byte in front of bytes that were read.
pair_onto-onto : (high low byte : ℕ) (bytes : List ℕ) (o : Option (List ℕ)) → high < 16 → low < 16 → high * 16 + low ≡ byte
    → pair_onto high low (onto bytes o) ≡ onto (byte ∷ bytes) o
pair_onto-onto high low byte bytes None h l whole = refl
pair_onto-onto high low byte bytes (Some more) h l whole =
    rw (isnt-eqb high 16 (λ is. omega arith), isnt-eqb low 16 (λ is. omega arith), whole) refl

-- What bytes are written as is read as those bytes, in front of what is read behind it.
pub pairs_of-hex_front : (bytes rest : List ℕ) → AreBytes bytes → pairs_of (hex bytes ++ rest) ≡ onto bytes (pairs_of rest)
unfolding pairs_of
pairs_of-hex_front [] rest small = sym (onto-none (pairs_of rest))
pairs_of-hex_front (byte ∷ bytes) rest small =
    let below : byte < 256 = small zero 0 (omega arith) in
    let behind : pairs_of (hex bytes ++ rest) ≡ onto bytes (pairs_of rest) =
    pairs_of-hex_front bytes rest (λ k d few. small (suc k) d (omega arith)) in
    let high : digit_value_of (hex_digit (byte / 16)) ≡ byte / 16 = digit_value_of-hex_digit (byte / 16) (omega arith) in
    let low : digit_value_of (hex_digit (byte % 16)) ≡ byte % 16 = digit_value_of-hex_digit (byte % 16) (omega arith) in
    rw (behind, high, low) (pair_onto-onto (byte / 16) (byte % 16) byte bytes (pairs_of rest) (omega arith) (omega arith) (omega arith))

-- What bytes are written as is read as those bytes.
pub pairs_of-hex : (bytes : List ℕ) → AreBytes bytes → pairs_of (hex bytes) ≡ Some bytes
unfolding pairs_of
pairs_of-hex bytes small =
    ap (λ (digits : List ℕ). pairs_of digits) (sym (append-nil (hex bytes))) ∙ pairs_of-hex_front bytes [] small
    ∙ ap (λ (l : List ℕ). Some l) (append-nil bytes)

-- A pair that was read.
if-pair : (a b : Bool) (byte : ℕ) (more bytes : List ℕ) → (if a || b then None else Some (byte ∷ more)) ≡ Some bytes
    → (a ≡ false) × (b ≡ false) × (bytes ≡ byte ∷ more)
if-pair true b byte more bytes is = absurd (cc)
if-pair false true byte more bytes is = absurd (cc)
if-pair false false byte more bytes is = (refl, refl, cc)

-- Numbers that fail the test differ.
pub eqb-isnt : (a b : ℕ) → (a == b) ≡ false → a ≡ b → ⊥
eqb-isnt a b isnt is = grind (arith, nat_tests)

-- The first byte of a word that was read, and the others.
pair_read : (high low : ℕ) (digits bytes : List ℕ) (o : Option (List ℕ)) → pairs_of digits ≡ o → pair_onto (digit_value_of high)
    (digit_value_of low) o ≡ Some bytes
    → ((more : List ℕ) → pairs_of digits ≡ Some more → (digits ≡ hex more) × AreBytes more)
    → (high ∷ low ∷ digits ≡ hex bytes) × AreBytes bytes
pair_read high low digits bytes None read is rest = absurd (cc)
pair_read high low digits bytes (Some more) read is rest =
    let tests = if-pair (digit_value_of high == 16) (digit_value_of low == 16)
    (digit_value_of high * 16 + digit_value_of low) more bytes is in
    let h = hex_digit-digit_value_of high (eqb-isnt (digit_value_of high) 16 tests.0) in
    let l = hex_digit-digit_value_of low (eqb-isnt (digit_value_of low) 16 tests.1) in
    let behind = rest more read in
    let first : (digit_value_of high * 16 + digit_value_of low) / 16 ≡ digit_value_of high = omega (arith, h.1, l.1) in
    let second : (digit_value_of high * 16 + digit_value_of low) % 16 ≡ digit_value_of low = omega (arith, h.1, l.1) in (
      rw (tests.2, first, second, h.0, l.0, ← behind.0) refl,
      rw tests.2 (bytes_cons (digit_value_of high * 16 + digit_value_of low) more (omega (arith, h.1, l.1)) behind.1),
    )

-- A word that is read as bytes is what those bytes are written as.
pub pairs_of-Some : (word bytes : List ℕ) → pairs_of word ≡ Some bytes → (word ≡ hex bytes) × AreBytes bytes
unfolding pairs_of
pairs_of-Some [] bytes is = let none : bytes ≡ [] = cc in rw none (refl, λ k d few. absurd (omega arith))
pairs_of-Some (digit ∷ []) bytes is = absurd (cc)
pairs_of-Some (high ∷ low ∷ digits) bytes is = pair_read high low digits bytes (pairs_of digits) refl is (λ more. pairs_of-Some digits more)

-- Lists that differ fail the test.
bytes_eq-false : (xs ys : List ℕ) → (xs ≡ ys → ⊥) → bytes_eq xs ys ≡ false
bytes_eq-false xs ys isnt = false-from (bytes_eq xs ys) (λ is. isnt ((bytes_eq-Decides xs ys).0 is))

-- A word of two bytes or more is read in pairs.
pub bytes_of-pairs : (word : List ℕ) → 1 < length word → bytes_of word ≡ pairs_of word
bytes_of-pairs word long =
    rw (
      bytes_eq-false word (codes "-") (λ is. let one : length word ≡ 1 = ap length is in absurd (omega arith)),
      isnt-eqb (length word) 0 (λ is. absurd (omega arith)),
    ) refl

-- The word of bytes is read as them.
pub bytes_of-bytes_word : (bytes : List ℕ) → AreBytes bytes → bytes_of (bytes_word bytes) ≡ Some bytes
bytes_of-bytes_word [] small = refl
bytes_of-bytes_word (byte ∷ bytes) small = bytes_of-pairs (hex (byte ∷ bytes)) (omega arith) ∙ pairs_of-hex (byte ∷ bytes) small

-- How a word is read, by its tests.
bytes_by : (word bytes : List ℕ) (dash : Bool) → bytes_eq word (codes "-") ≡ dash → (empty : Bool) → (length word == 0) ≡ empty
    → (if dash then Some [] else if empty then None else pairs_of word) ≡ Some bytes → (word ≡ bytes_word bytes) × AreBytes bytes
bytes_by word bytes true dash empty e is =
    let none : bytes ≡ [] = cc in rw none ((bytes_eq-Decides word (codes "-")).0 dash, λ k d few. absurd (omega arith))
bytes_by word bytes false dash true e is = absurd (cc)
bytes_by word [] false dash false e is =
    let read = pairs_of-Some word [] is in absurd (eqb-isnt (length word) 0 e (ap length read.0))
bytes_by word (byte ∷ bytes) false dash false e is = pairs_of-Some word (byte ∷ bytes) is

-- A word that is read as bytes is their word.
pub bytes_of-Some : (word bytes : List ℕ) → bytes_of word ≡ Some bytes → (word ≡ bytes_word bytes) × AreBytes bytes
bytes_of-Some word bytes is = bytes_by word bytes (bytes_eq word (codes "-")) refl (length word == 0) refl is

-- A word of an odd number of digits, other than `-`, is read as none.
pub bytes_of-odd : (word : List ℕ) → bytes_eq word (codes "-") ≡ false → (length word % 2 ≡ 0 → ⊥) → bytes_of word ≡ None
bytes_of-odd word dash odd =
    let some : (length word == 0) ≡ false = isnt-eqb (length word) 0 (λ is. odd (omega arith)) in
    rw (dash, some) (pairs_of-odd word odd)
