-- The words of a text's first line, where the text isn't cut into lines.
use Rattle.std.proofs.Common.{◌≡◌, ◌∙◌, ℕ, zero, suc, ◌+◌, ◌-◌, ◌/◌, ◌%◌, ◌<◌, ◌≤◌, ◌==◌, List, [], ◌∷◌, ◌++◌, length, get_or, take, drop}
use Rattle.std.proofs.Common.{refl, ap, sym, inl, inr, arith}
use Rattle.std.specs.Prelude.{Bool, true, false, ◌⊎◌, Option, Some, option_and_then, option_map, bytes_eq, decimal}
use Rattle.std.specs.Str.Parse.{AllDigits}
use Rattle.std.proofs.lemmas.Bool.{eq-eqb, eqb-false, eqb-true}
use Rattle.std.proofs.lemmas.Bool.Decides.{nat_tests}
use Rattle.std.proofs.lemmas.Fmt.{decimal_is_IsNumeral}
use Rattle.std.proofs.lemmas.List.{get_or-take, length-take-le, take_more}
use Rattle.std.proofs.lemmas.Slice.Eq.{bytes_eq-Decides}
use Rattle.std.proofs.lemmas.Str.Parse.{digit_from_value}
use Rattle.event_text.specs.TextDigits.{AreDigits, HaveDigits}
use Rattle.event_text.specs.TextLines.{lines, onto_first}
use Rattle.event_text.specs.TextLook.{IsWordEnd, count_of, ends_word, is_unbroken, line_end, line_of, no_more, words_left}
use Rattle.event_text.specs.TextReaders.{behind_first, field, first_of}
use Rattle.event_text.specs.TextReads.{BeginsWithNumber, bytes_end, bytes_of, digit_value_of, number_of, pairs_of, words, words_behind}
use Rattle.event_text.proofs.TextCuts.{lines-other, words-space, words-other, take-rest}
use Rattle.event_text.proofs.TextDigits.{pairs_of-count}
use Rattle.event_text.proofs.TextHex.{bytes_of-pairs, false-from, isnt-eqb}
use Rattle.event_text.proofs.TextLast.{digit-number, last-bytes}
use Rattle.event_text.proofs.TextNumbers.{number_of-Some}
use Rattle.event_text.proofs.TextSpaces.{words-some}

-- A newline ends the first line,
line-newline : (byte : ℕ) (bytes : List ℕ) → byte ≡ 10 → (line_of (byte ∷ bytes) ≡ []) × (line_end (byte ∷ bytes) ≡ byte ∷ bytes)
line-newline byte bytes is = rw is (refl, refl)

-- .. and another byte belongs to it.
line-other : (byte : ℕ) (bytes : List ℕ) → (byte ≡ 10 → ⊥)
    → (line_of (byte ∷ bytes) ≡ byte ∷ line_of bytes) × (line_end (byte ∷ bytes) ≡ line_end bytes)
line-other byte bytes isnt = (grind (arith, nat_tests), grind (arith, nat_tests))

-- A byte is a newline or another.
newline-or : (byte : ℕ) → (byte ≡ 10) ⊎ (byte ≡ 10 → ⊥)
newline-or byte = by (byte == 10) refl
  where
    by : (b : Bool) → (byte == 10) ≡ b → (byte ≡ 10) ⊎ (byte ≡ 10 → ⊥)
    by true is = inl (eqb-true byte 10 is)
    by false is = inr (eqb-false byte 10 is)

-- The lines of a text are its first line, and those behind the newline that ends it.
pub lines-line : (text : List ℕ) → 0 < length text → lines text ≡ line_of text ∷ lines (drop 1 (line_end text))
lines-line [] some = absurd (omega arith)
lines-line (byte ∷ []) some = by (newline-or byte)
  where
    by : (byte ≡ 10) ⊎ (byte ≡ 10 → ⊥) → lines (byte ∷ []) ≡ line_of (byte ∷ []) ∷ lines (drop 1 (line_end (byte ∷ [])))
    by (inl is) = rw is refl
    by (inr isnt) = (
        let line = line-other byte [] isnt in
        rw (lines-other byte [] isnt, line.0, line.1) refl)
lines-line (byte ∷ next ∷ bytes) some = by (newline-or byte) (lines-line (next ∷ bytes) (omega arith))
  where
    by : (byte ≡ 10) ⊎ (byte ≡ 10 → ⊥) → lines (next ∷ bytes) ≡ line_of (next ∷ bytes) ∷ lines (drop 1 (line_end (next ∷ bytes)))
        → lines (byte ∷ next ∷ bytes) ≡ line_of (byte ∷ next ∷ bytes) ∷ lines (drop 1 (line_end (byte ∷ next ∷ bytes)))
    by (inl is) rest = rw is refl
    by (inr isnt) rest = (
        let line = line-other byte (next ∷ bytes) isnt in
        lines-other byte (next ∷ bytes) isnt ∙ ap (onto_first byte) rest
        ∙ ap (λ (l : List ℕ). l ∷ lines (drop 1 (line_end (next ∷ bytes)))) (sym line.0)
        ∙ ap (λ (l : List ℕ). line_of (byte ∷ next ∷ bytes) ∷ lines (drop 1 l)) (sym line.1))

-- What is behind the first line of a text is shorter than the text.
pub line_end-short : (text : List ℕ) → length (line_end text) ≤ length text
line_end-short [] = omega arith
line_end-short (byte ∷ bytes) = by (newline-or byte) (line_end-short bytes)
  where
    by : (byte ≡ 10) ⊎ (byte ≡ 10 → ⊥) → length (line_end bytes) ≤ length bytes → length (line_end (byte ∷ bytes)) ≤ length (byte ∷ bytes)
    by (inl is) short = rw (line-newline byte bytes is).1 (omega arith)
    by (inr isnt) short = rw (line-other byte bytes isnt).1 (omega (arith, short))

-- Where a byte other than a newline is next, it ends a word, and a text with further words is behind it.
pub left-other : (byte : ℕ) (bytes : List ℕ) → (byte ≡ 10 → ⊥)
    → (words_left (byte ∷ bytes) ≡ words (line_of bytes)) × (line_end (byte ∷ bytes) ≡ line_end bytes)
left-other byte bytes isnt = let line = line-other byte bytes isnt in (ap words_behind line.0, line.1)

-- Where a newline is next, no word is left.
pub left-newline : (byte : ℕ) (bytes : List ℕ) → byte ≡ 10
    → (words_left (byte ∷ bytes) ≡ []) × (line_end (byte ∷ bytes) ≡ byte ∷ bytes)
left-newline byte bytes is = let line = line-newline byte bytes is in (ap words_behind line.0, line.1)

-- A text has a first word.
more-words : (text : List ℕ) → no_more (words text) ≡ false
more-words text = let some = words-some text in ap no_more some.2

-- Where a word ends, an empty one begins.
end-empty : (rest : List ℕ) → ends_word rest ≡ true → words (line_of rest) ≡ [] ∷ words_left rest
end-empty [] ends = refl
end-empty (byte ∷ bytes) ends = by (newline-or byte)
  where
    by : (byte ≡ 10) ⊎ (byte ≡ 10 → ⊥) → words (line_of (byte ∷ bytes)) ≡ [] ∷ words_left (byte ∷ bytes)
    by (inl is) = rw is refl
    by (inr isnt) = (
        let space : byte ≡ 32 = grind (arith, nat_tests) in
        let line = line-other byte bytes isnt in
        ap words line.0 ∙ words-space byte (line_of bytes) space ∙ ap (λ ws. [] ∷ ws) (sym (left-other byte bytes isnt).0))

-- The bytes of an unbroken word, one by one.
unbroken-parts : (byte : ℕ) (bytes : List ℕ) → is_unbroken (byte ∷ bytes) ≡ true
    → (byte ≡ 32 → ⊥) × (byte ≡ 10 → ⊥) × (is_unbroken bytes ≡ true)
unbroken-parts byte bytes is = (λ space. grind (arith, nat_tests), λ newline. grind (arith, nat_tests), grind (arith, nat_tests))

-- An unbroken word with a byte in front that is neither a space nor a newline is unbroken.
pub unbroken-cons : (byte : ℕ) (bytes : List ℕ) → (byte ≡ 32 → ⊥) → (byte ≡ 10 → ⊥) → is_unbroken bytes ≡ true
    → is_unbroken (byte ∷ bytes) ≡ true
unbroken-cons byte bytes space newline rest = grind (arith, nat_tests)

-- The first word of a text is the unbroken one that ends where one may end, ..
cut-words : (word rest : List ℕ) → is_unbroken word ≡ true → ends_word rest ≡ true → words (line_of (word ++ rest)) ≡ word ∷ words_left rest
cut-words [] rest unbroken ends = end-empty rest ends
cut-words (byte ∷ bytes) rest unbroken ends =
    let parts = unbroken-parts byte bytes unbroken in
    ap words (line-other byte (bytes ++ rest) parts.1).0 ∙ words-other byte (line_of (bytes ++ rest)) parts.0
    ∙ ap (onto_first byte) (cut-words bytes rest parts.2 ends)

-- .. and it ends no line.
cut-end : (word rest : List ℕ) → is_unbroken word ≡ true → line_end (word ++ rest) ≡ line_end rest
cut-end [] rest unbroken = refl
cut-end (byte ∷ bytes) rest unbroken =
    let parts = unbroken-parts byte bytes unbroken in
    (line-other byte (bytes ++ rest) parts.1).1 ∙ cut-end bytes rest parts.2

-- A text is its first bytes and the others.
take-drop : (text : List ℕ) (at : ℕ) → take at text ++ drop at text ≡ text
take-drop [] zero = refl
take-drop [] (suc at) = refl
take-drop (byte ∷ bytes) zero = refl
take-drop (byte ∷ bytes) (suc at) = ap (λ l. byte ∷ l) (take-drop bytes at)

-- The first word, and what is behind it, by where it ends.
pub word-at : (text : List ℕ) (at : ℕ) → IsWordEnd text at
    → (words (line_of text) ≡ take at text ∷ words_left (take (length text - at) (drop at text)))
    × (line_end (take (length text - at) (drop at text)) ≡ line_end text)
word-at text at end =
    let whole = take-drop text at in
    let rest = take-rest text at in (
      ap (λ l. words (line_of l)) (sym whole) ∙ cut-words (take at text) (drop at text) end.unbroken end.ends
          ∙ ap (λ l. take at text ∷ words_left l) (sym rest),
      ap line_end rest ∙ sym (cut-end (take at text) (drop at text) end.unbroken) ∙ ap line_end whole,
    )

-- Unbroken bytes with another behind them that is neither a space nor a newline are unbroken.
unbroken-more : (bytes : List ℕ) (byte : ℕ) → is_unbroken bytes ≡ true → (byte ≡ 32 → ⊥) → (byte ≡ 10 → ⊥)
    → is_unbroken (bytes ++ byte ∷ []) ≡ true
unbroken-more [] byte unbroken space newline = unbroken-cons byte [] space newline refl
unbroken-more (first ∷ bytes) byte unbroken space newline =
    let parts = unbroken-parts first bytes unbroken in
    unbroken-cons first (bytes ++ byte ∷ []) parts.0 parts.1 (unbroken-more bytes byte parts.2 space newline)

-- One byte more of a text belongs to its first word.
pub unbroken-next : (text : List ℕ) (at : ℕ) → at < length text → is_unbroken (take at text) ≡ true → (get_or text at 0 ≡ 32 → ⊥)
    → (get_or text at 0 ≡ 10 → ⊥) → is_unbroken (take (at + 1) text) ≡ true
unbroken-next text at below so_far space newline =
    ap is_unbroken (take_more text at 0 below) ∙ unbroken-more (take at text) (get_or text at 0) so_far space newline

-- The first word of a text ends somewhere.
some-end : (text : List ℕ) → (at : ℕ) × IsWordEnd text at
some-end [] = (zero, record { bound = omega arith; unbroken = refl; ends = refl })
some-end (byte ∷ bytes) = by (ends_word (byte ∷ bytes)) refl (some-end bytes)
  where
    by : (b : Bool) → ends_word (byte ∷ bytes) ≡ b → (at : ℕ) × IsWordEnd bytes at → (at : ℕ) × IsWordEnd (byte ∷ bytes) at
    by true ends rest = (zero, record { bound = omega arith; unbroken = refl; ends = ends })
    by false on rest = (
        let bound = rest.1.bound in (
          suc rest.0,
          record {
            bound = omega (arith, bound);
            unbroken = unbroken-cons byte (take rest.0 bytes) (λ is. grind (arith, nat_tests)) (λ is. grind (arith, nat_tests))
                rest.1.unbroken;
            ends = rest.1.ends;
          },
        ))

-- A text that doesn't begin with a word that ends there has another first word.
pub another-word : (text word : List ℕ)
    → (length word ≤ length text → take (length word) text ≡ word → ends_word (drop (length word) text) ≡ true → ⊥)
    → false ≡ bytes_eq (first_of (words (line_of text))) word
another-word text word never =
    sym (false-from (bytes_eq (first_of (words (line_of text))) word) (λ same.
    let end = some-end text in
    let bound = end.1.bound in
    let first : take end.0 text ≡ word =
    sym (ap first_of (word-at text end.0 end.1).0) ∙ (bytes_eq-Decides (first_of (words (line_of text))) word).0 same in
    let count : length word ≡ end.0 = sym (ap length first) ∙ length-take-le end.0 text bound in
    never (omega (arith, count, bound)) (ap (λ n. take n text) count ∙ first) (ap (λ n. ends_word (drop n text)) count ∙ end.1.ends)))

-- A text that begins with an unbroken word that ends there has this first word, and goes on behind it.
pub this-word : (text word : List ℕ) → is_unbroken word ≡ true → length word ≤ length text → bytes_eq (take (length word) text) word ≡ true
    → ends_word (take (length text - length word) (drop (length word) text)) ≡ true
    → (true ≡ bytes_eq (first_of (words (line_of text))) word)
    × (words_left (take (length text - length word) (drop (length word) text)) ≡ behind_first (words (line_of text)))
    × (line_end (take (length text - length word) (drop (length word) text)) ≡ line_end text)
this-word text word unbroken bound same ends =
    let begins : take (length word) text ≡ word = (bytes_eq-Decides (take (length word) text) word).0 same in
    let first = word-at text (length word) (record {
      bound = bound;
      unbroken = ap is_unbroken begins ∙ unbroken;
      ends = ap ends_word (sym (take-rest text (length word))) ∙ ends;
    }) in (
      sym ((bytes_eq-Decides (first_of (words (line_of text))) word).1 (ap first_of first.0 ∙ begins)),
      sym (ap behind_first first.0),
      first.1,
    )

-- No word is left exactly where nothing or a newline is next.
pub ends-line : (rest : List ℕ) → (length rest == 0) ≡ false → (get_or rest 0 0 == 10) ≡ no_more (words_left rest)
ends-line [] some = absurd (cc)
ends-line (byte ∷ bytes) some = by (newline-or byte)
  where
    by : (byte ≡ 10) ⊎ (byte ≡ 10 → ⊥) → (byte == 10) ≡ no_more (words_left (byte ∷ bytes))
    by (inl is) = eq-eqb byte 10 is ∙ sym (ap no_more (left-newline byte bytes is).0)
    by (inr isnt) = isnt-eqb byte 10 isnt ∙ sym (ap no_more (left-other byte bytes isnt).0 ∙ more-words (line_of bytes))

-- Where no word is left, the text is at the end of its line,
pub line_end-here : (rest : List ℕ) → no_more (words_left rest) ≡ true → rest ≡ line_end rest
line_end-here [] none = refl
line_end-here (byte ∷ bytes) none = by (newline-or byte)
  where
    by : (byte ≡ 10) ⊎ (byte ≡ 10 → ⊥) → byte ∷ bytes ≡ line_end (byte ∷ bytes)
    by (inl is) = sym (left-newline byte bytes is).1
    by (inr isnt) = (
        let more = sym none ∙ ap no_more (left-other byte bytes isnt).0 ∙ more-words (line_of bytes) in
        let f : ⊥ = cc in
        absurd f)

-- What is read of the first word, where it is read.
field-read : {A : Type 0} (read : List ℕ → Option A) (words ws : List (List ℕ)) (word : List ℕ) (value : A) → words ≡ word ∷ ws
    → read word ≡ Some value → field read words ≡ Some (value, ws)
field-read read words ws word value is reads = ap (field read) is ∙ ap (option_and_then (λ v. Some (v, ws))) reads

-- A next word of one digit is the number of its value.
pub digit-left : (rest : List ℕ) → 2 ≤ length rest → (get_or rest 0 0 ≡ 10 → ⊥) → 48 ≤ get_or rest 1 0 → get_or rest 1 0 ≤ 57
    → ends_word (take (length rest - 2) (drop 2 rest)) ≡ true
    → (field number_of (words_left rest) ≡ Some (get_or rest 1 0 - 48, words_left (take (length rest - 2) (drop 2 rest))))
    × (line_end (take (length rest - 2) (drop 2 rest)) ≡ line_end rest)
digit-left [] long other low high ends = absurd (omega arith)
digit-left (byte ∷ []) long other low high ends = absurd (omega arith)
digit-left (byte ∷ digit ∷ bytes) long other low high ends =
    let behind : take (length (byte ∷ digit ∷ bytes) - 2) (drop 2 (byte ∷ digit ∷ bytes)) ≡ bytes =
    take-rest (byte ∷ digit ∷ bytes) 2 in
    let left = left-other byte (digit ∷ bytes) other in
    let unbroken = unbroken-cons digit [] (λ is. omega arith) (λ is. omega arith) refl in
    let first = cut-words (digit ∷ []) bytes unbroken (ap ends_word (sym behind) ∙ ends) in (
      field-read number_of (words_left (byte ∷ digit ∷ bytes)) (words_left bytes) (digit ∷ []) (digit - 48) (left.0 ∙ first)
          (digit-number digit low high)
          ∙ ap (λ l. Some (digit - 48, words_left l)) (sym behind),
      ap line_end behind ∙ sym (cut-end (digit ∷ []) bytes unbroken) ∙ sym left.1,
    )

-- What is read of the first word of a text, where that ends.
read-at : {A : Type 0} (read : List ℕ → Option A) (text : List ℕ) (value : A) (at : ℕ) → at ≤ length text
    → is_unbroken (take at text) ≡ true
    → read (take at text) ≡ Some value → ends_word (take (length text - at) (drop at text)) ≡ true
    → (field read (words (line_of text)) ≡ Some (value, words_left (take (length text - at) (drop at text))))
    × (line_end (take (length text - at) (drop at text)) ≡ line_end text)
read-at read text value at bound unbroken reads ends =
    let first = word-at text at (record { bound = bound; unbroken = unbroken; ends = ap ends_word (sym (take-rest text at)) ∙ ends }) in
    (field-read read (words (line_of text)) _ (take at text) value first.0 reads, first.1)

-- Decimal digits are unbroken.
unbroken-digits : (digits : List ℕ) → AllDigits 10 digits → is_unbroken digits ≡ true
unbroken-digits [] all = refl
unbroken-digits (digit ∷ digits) all =
    let range = digit_from_value digit all.0 in
    unbroken-cons digit digits (λ is. omega (arith, range.0)) (λ is. omega (arith, range.0)) (unbroken-digits digits all.1)

-- What is read as a number is unbroken.
unbroken-number : (word : List ℕ) (n : ℕ) → number_of word ≡ Some n → is_unbroken word ≡ true
unbroken-number word n reads =
    let written = number_of-Some word n reads in
    ap is_unbroken written.0 ∙ unbroken-digits (decimal n) (decimal_is_IsNumeral n written.1).0.1

-- A number in front of a text is its first word's, where that ends behind it.
pub number-at : (text : List ℕ) (n at : ℕ) → BeginsWithNumber text n at → ends_word (take (length text - at) (drop at text)) ≡ true
    → (field number_of (words (line_of text)) ≡ Some (n, words_left (take (length text - at) (drop at text))))
    × (line_end (take (length text - at) (drop at text)) ≡ line_end text)
number-at text n at begins ends =
    read-at number_of text n at begins.bound (unbroken-number (take at text) n begins.writes) begins.writes ends

-- Hexadecimal digits are unbroken.
unbroken-hex : (word : List ℕ) → AreDigits word (length word) → is_unbroken word ≡ true
unbroken-hex [] digits = refl
unbroken-hex (digit ∷ word) digits =
    unbroken-cons digit word (λ is. digits zero (omega arith) (rw is refl)) (λ is. digits zero (omega arith) (rw is refl))
    (unbroken-hex word (λ k small. digits (suc k) (omega arith)))

-- The digits in front of a text, cut off.
digits-taken : (text : List ℕ) (at : ℕ) → HaveDigits text at → AreDigits (take at text) (length (take at text))
digits-taken text at have k small is =
    let count : length (take at text) ≡ at = length-take-le at text have.bound in
    have.before k (omega (arith, count)) (ap digit_value_of (sym (get_or-take at text k 0 (omega (arith, count)))) ∙ is)

-- The bytes of the digits in front of a text are counted, where its first word ends behind them.
pub digits-at : (text : List ℕ) (at : ℕ) → HaveDigits text at → (at ≡ 0 → ⊥) → at % 2 ≡ 0
    → ends_word (take (length text - at) (drop at text)) ≡ true
    → (field count_of (words (line_of text)) ≡ Some (at / 2, words_left (take (length text - at) (drop at text))))
    × (line_end (take (length text - at) (drop at text)) ≡ line_end text)
digits-at text at have some even ends =
    let count : length (take at text) ≡ at = length-take-le at text have.bound in
    let digits = digits-taken text at have in
    let pairs : bytes_of (take at text) ≡ pairs_of (take at text) = bytes_of-pairs (take at text) (omega (arith, count)) in
    let read = pairs_of-count (take at text) (record { even = ap (λ n. n % 2) count ∙ even; digits = digits }) in
    read-at count_of text (at / 2) at have.bound (unbroken-hex (take at text) digits)
    (ap (option_map length) pairs ∙ sym read ∙ ap (λ n. Some (n / 2)) count) ends

-- Behind its first line a text is shorter.
pub behind-short : (text past behind : List ℕ) → 0 < length text → past ≡ line_end text → behind ≡ drop 1 past → length behind < length text
behind-short text past behind some is0 is1 =
    let whole = line_end-short text in
    let short : length past ≤ length text = rw is0 whole in
    let less : length behind < length text = rw is1 (by past short) in
    less
  where
    by : (l : List ℕ) → length l ≤ length text → length (drop 1 l) < length text
    by [] short = some
    by (byte ∷ bytes) short = omega (arith, short)

-- A text with no newline is one line.
pub line_end-none : (text : List ℕ) → ((k : ℕ) → k < length text → get_or text k 0 ≡ 10 → ⊥) → line_end text ≡ []
line_end-none [] none = refl
line_end-none (byte ∷ bytes) none =
    (line-other byte bytes (none zero (omega arith))).1 ∙ line_end-none bytes (λ k small. none (suc k) (omega arith))

-- So is what is in front of the first newline.
pub line_end-taken : (text : List ℕ) (at : ℕ) → at ≤ length text → ((k : ℕ) → k < at → get_or text k 0 ≡ 10 → ⊥)
    → line_end (take at text) ≡ []
line_end-taken text at bound none =
    let count : length (take at text) ≡ at = length-take-le at text bound in
    line_end-none (take at text) (λ k small is.
    none k (omega (arith, count)) (sym (get_or-take at text k 0 (omega (arith, count))) ∙ is))

-- One line is its first.
pub line_of-whole : (text : List ℕ) → line_end text ≡ [] → line_of text ≡ text
line_of-whole [] none = refl
line_of-whole (byte ∷ bytes) none = by (newline-or byte) (line_of-whole bytes)
  where
    by : (byte ≡ 10) ⊎ (byte ≡ 10 → ⊥) → (line_end bytes ≡ [] → line_of bytes ≡ bytes) → line_of (byte ∷ bytes) ≡ byte ∷ bytes
    by (inl is) rest = (
        let more = sym (line-newline byte bytes is).1 ∙ none in
        let f : ⊥ = cc in
        absurd f)
    by (inr isnt) rest = (
        let line = line-other byte bytes isnt in
        line.0 ∙ ap (λ l. byte ∷ l) (rest (sym line.1 ∙ none)))

-- What is left of the last line behind a word and its space writes the bytes of the one word that is left.
pub bytes-left : (rest : List ℕ) → 1 ≤ length rest → line_end rest ≡ []
    → bytes_of (take (length rest - 1) (drop 1 rest)) ≡ bytes_end (words_left rest)
bytes-left rest some one = last-bytes rest some ∙ ap (λ l. bytes_end (words_behind l)) (sym (line_of-whole rest one))

-- Digits in front of a text are its first word, where that ends behind them.
pub digits-word : (text : List ℕ) (at : ℕ) → HaveDigits text at → ends_word (take (length text - at) (drop at text)) ≡ true
    → IsWordEnd text at
digits-word text at have ends = record {
  bound = have.bound;
  unbroken = unbroken-hex (take at text) (digits-taken text at have);
  ends = ap ends_word (sym (take-rest text at)) ∙ ends;
}
