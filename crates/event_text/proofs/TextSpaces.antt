-- A line is cut into the words that it was made of.
use Rattle.std.proofs.Common.{◌≡◌, ◌∙◌, ℕ, zero, suc, ◌/◌, ◌%◌, ◌^◌, ◌<◌, ◌==◌, List, [], ◌∷◌, ◌++◌, length, get_or}
use Rattle.std.proofs.Common.{refl, ap, sym, arith}
use Rattle.std.specs.Prelude.{Bool, true, false, decimal}
use Rattle.std.proofs.lemmas.Bool.{eqb-false, eqb-true}
use Rattle.std.proofs.lemmas.Bool.Decides.{nat_tests}
use Rattle.std.proofs.lemmas.Fmt.{decimal_is_IsNumeral}
use Rattle.std.proofs.lemmas.Str.Parse.{digit_from_value}
use Rattle.std.specs.Str.Parse.{AllDigits}
use Rattle.event_text.specs.TextLines.{onto_first}
use Rattle.event_text.specs.TextReads.{words}
use Rattle.event_text.specs.TextWords.{is_solid, spaced, hex, hex_digit, bytes_word}
use Rattle.event_text.proofs.TextCuts.{words-space, words-other}

-- No word has a space in it.
abbrev pub AreSolid : List (List ℕ) → Type 0
AreSolid [] = Unit {0}
AreSolid (word ∷ words) = (is_solid word ≡ true) × AreSolid words

-- A word with no space has none behind a byte that is none.
pub solid-cons : (byte : ℕ) (bytes : List ℕ) → (byte ≡ 32 → ⊥) → is_solid bytes ≡ true → is_solid (byte ∷ bytes) ≡ true
solid-cons byte bytes isnt rest = grind (arith, nat_tests)

-- A word with no space has none in its first byte and none behind it.
solid-parts : (byte : ℕ) (bytes : List ℕ) → is_solid (byte ∷ bytes) ≡ true → (byte ≡ 32 → ⊥) × (is_solid bytes ≡ true)
solid-parts byte bytes is = (λ space. grind (arith, nat_tests), grind (arith, nat_tests))

-- A word with no space has none at any place.
solid-at : (word : List ℕ) (k : ℕ) → is_solid word ≡ true → k < length word → get_or word k 0 ≡ 32 → ⊥
solid-at [] k solid within is = absurd (omega arith)
solid-at (byte ∷ bytes) zero solid within is = (solid-parts byte bytes solid).0 is
solid-at (byte ∷ bytes) (suc k) solid within is = solid-at bytes k (solid-parts byte bytes solid).1 (omega arith) is

-- Digits have no space.
solid_digits : (digits : List ℕ) → AllDigits 10 digits → is_solid digits ≡ true
solid_digits [] h = refl
solid_digits (digit ∷ digits) h =
    let range = digit_from_value digit h.0 in solid-cons digit digits (λ is. omega (arith, range.0)) (solid_digits digits h.1)

-- A number's word has no space.
pub solid_decimal : (n : ℕ) → n < 2 ^ 64 → is_solid (decimal n) ≡ true
solid_decimal n small = solid_digits (decimal n) (decimal_is_IsNumeral n small).0.1

-- A hexadecimal digit is no space.
hex_digit-isnt : (v : ℕ) → hex_digit v ≡ 32 → ⊥
hex_digit-isnt v is = grind (arith, nat_tests)

-- Hexadecimal digits have no space.
solid_hex : (bytes : List ℕ) → is_solid (hex bytes) ≡ true
solid_hex [] = refl
solid_hex (byte ∷ bytes) =
    solid-cons (hex_digit (byte / 16)) (hex_digit (byte % 16) ∷ hex bytes) (hex_digit-isnt (byte / 16))
    (solid-cons (hex_digit (byte % 16)) (hex bytes) (hex_digit-isnt (byte % 16)) (solid_hex bytes))

-- The word of bytes has no space.
pub solid_bytes : (bytes : List ℕ) → is_solid (bytes_word bytes) ≡ true
solid_bytes [] = refl
solid_bytes (byte ∷ bytes) = solid_hex (byte ∷ bytes)

-- A word ends at the space behind it.
words-cut : (word rest : List ℕ) → is_solid word ≡ true → words (word ++ 32 ∷ rest) ≡ word ∷ words rest
words-cut [] rest solid = refl
words-cut (byte ∷ bytes) rest solid =
    let parts = solid-parts byte bytes solid in
    words-other byte (bytes ++ 32 ∷ rest) parts.0 ∙ ap (onto_first byte) (words-cut bytes rest parts.1)

-- A word with no space is the only one.
pub words-one : (word : List ℕ) → is_solid word ≡ true → words word ≡ word ∷ []
words-one [] solid = refl
words-one (byte ∷ bytes) solid =
    let parts = solid-parts byte bytes solid in
    words-other byte bytes parts.0 ∙ ap (onto_first byte) (words-one bytes parts.1)

-- Words with one space between them are those words.
pub words-spaced : (word : List ℕ) (more : List (List ℕ)) → AreSolid (word ∷ more) → words (spaced (word ∷ more)) ≡ word ∷ more
words-spaced word [] solid = words-one word solid.0
words-spaced word (next ∷ more) solid =
    words-cut word (spaced (next ∷ more)) solid.0 ∙ ap (λ (rest : List (List ℕ)). word ∷ rest) (words-spaced next more solid.1)

-- There is a first word.
first_word : (byte : ℕ) (bytes : List ℕ) (b : Bool) → (byte == 32) ≡ b
    → (word : List ℕ) × (more : List (List ℕ)) × (words bytes ≡ word ∷ more)
    → (word : List ℕ) × (more : List (List ℕ)) × (words (byte ∷ bytes) ≡ word ∷ more)
first_word byte bytes true e some = ([], words bytes, words-space byte bytes (eqb-true byte 32 e))
first_word byte bytes false e some = (byte ∷ some.0, some.1, words-other byte bytes (eqb-false byte 32 e) ∙ ap (onto_first byte) some.2)

-- A line has a first word.
pub words-some : (line : List ℕ) → (word : List ℕ) × (more : List (List ℕ)) × (words line ≡ word ∷ more)
words-some [] = ([], [], refl)
words-some (byte ∷ bytes) = first_word byte bytes (byte == 32) refl (words-some bytes)

-- An empty word in front of others is a space in front of them.
spaced-empty : (all more : List (List ℕ)) (word : List ℕ) → all ≡ word ∷ more → spaced ([] ∷ all) ≡ 32 ∷ spaced all
spaced-empty all more word is = rw is refl

-- A byte in front of the first word is in front of all.
spaced-first : (byte : ℕ) (all more : List (List ℕ)) (word : List ℕ) → all ≡ word ∷ more → spaced (onto_first byte all) ≡ byte ∷ spaced all
spaced-first byte all [] word is = rw is refl
spaced-first byte all (next ∷ more) word is = rw is refl

-- The words of a line make that line.
spaced_by : (byte : ℕ) (bytes : List ℕ) (b : Bool) → (byte == 32) ≡ b → spaced (words bytes) ≡ bytes
    → spaced (words (byte ∷ bytes)) ≡ byte ∷ bytes
spaced_by byte bytes true e rest =
    let some = words-some bytes in
    ap spaced (words-space byte bytes (eqb-true byte 32 e)) ∙ spaced-empty (words bytes) some.1 some.0 some.2
    ∙ ap (λ (l : List ℕ). 32 ∷ l) rest ∙ ap (λ (b : ℕ). b ∷ bytes) (sym (eqb-true byte 32 e))
spaced_by byte bytes false e rest =
    let some = words-some bytes in
    ap spaced (words-other byte bytes (eqb-false byte 32 e)) ∙ spaced-first byte (words bytes) some.1 some.0 some.2
    ∙ ap (λ (l : List ℕ). byte ∷ l) rest

-- The words of a line, with one space between them, are the line.
pub spaced-words : (line : List ℕ) → spaced (words line) ≡ line
spaced-words [] = refl
spaced-words (byte ∷ bytes) = spaced_by byte bytes (byte == 32) refl (spaced-words bytes)
