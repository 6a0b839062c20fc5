-- Words that are read exactly when they are written: the forms of words, of lists of words, and of tables of names.
use Rattle.std.proofs.Common.{◌≡◌, ◌∙◌, ℕ, ◌^◌, ◌<◌, ◌≤◌, List, [], ◌∷◌, refl, ap, sym, subst, arith, inl, inr}
use Rattle.std.specs.Prelude.{Bool, true, false, nat_lt, if◌then◌else◌, Option, Some, None, option_map, bytes_eq, codes}
use Rattle.std.specs.Prelude.{decimal}
use Rattle.std.proofs.lemmas.Bool.{ltb-true, lt-ltb}
use Rattle.std.proofs.lemmas.Option.{same_Some}
use Rattle.std.proofs.lemmas.Slice.Eq.{bytes_eq-Decides}
use Rattle.event_text.specs.TextReaders.{field, with_first, at_end, last_of, row, by_name}
use Rattle.event_text.specs.TextReads.{number_of, number_below, bytes_of, address_of, flag_of, bytes_end}
use Rattle.event_text.specs.TextRequest.{IsAddress, address_word}
use Rattle.event_text.specs.TextWords.{AreBytes, bytes_word, is_solid}
use Rattle.event_text.proofs.TextFields.{and_then-Some, map-Some, if-Some, either-Some, at_end-Some, field-Some, bytes_end-Some}
use Rattle.event_text.proofs.TextHex.{bytes_of-bytes_word, bytes_of-Some}
use Rattle.event_text.proofs.TextNumbers.{number_of-decimal, number_of-Some, number_of-no_digit}
use Rattle.event_text.proofs.TextSpaces.{AreSolid, solid_decimal, solid_bytes}

-- A word is read as a value exactly when it is that value's, and it has no space in it.
pub record IsWord {A : Type 0} (read : List ℕ → Option A) (word_of : A → List ℕ) (IsTyped : A → Type 0) : Type 0 where
  pub solid : (x : A) → IsTyped x → is_solid (word_of x) ≡ true
  pub reads : (x : A) → IsTyped x → read (word_of x) ≡ Some x
  pub spelt : (word : List ℕ) (x : A) → read word ≡ Some x → (word ≡ word_of x) × IsTyped x

-- Words are read as a value exactly when they are that value's, and none has a space in it.
pub record IsForm {A : Type 0} (read : List (List ℕ) → Option A) (words_of : A → List (List ℕ)) (IsTyped : A → Type 0) : Type 0 where
  pub solid : (x : A) → IsTyped x → AreSolid (words_of x)
  pub reads : (x : A) → IsTyped x → read (words_of x) ≡ Some x
  pub spelt : (all : List (List ℕ)) (x : A) → read all ≡ Some x → (all ≡ words_of x) × IsTyped x

-- A number's word is its digits.
pub number_word : IsWord number_of decimal (λ n. n < 2 ^ 64)
number_word = record { solid = solid_decimal; reads = number_of-decimal; spelt = number_of-Some }

-- So is that of a number below a bound.
pub below_word : (bound : ℕ) → bound ≤ 2 ^ 64 → IsWord (number_below bound) decimal (λ n. n < bound)
below_word bound fits = record {
  solid = λ n h. solid_decimal n (omega arith);
  reads = λ n h. rw (number_of-decimal n (omega arith), lt-ltb n bound h) refl;
  spelt = λ word n is.
      let m = and_then-Some (λ (m : ℕ). if nat_lt m bound then Some m else None) (number_of word) n is in
      let below = if-Some (nat_lt m.0 bound) (Some m.0) n m.2 in
      let same : m.0 ≡ n = same_Some m.0 n below.1 in (
        (number_of-Some word m.0 m.1).0 ∙ ap decimal same,
        subst (λ (k : ℕ). k < bound) same (ltb-true m.0 bound below.0),
      );
}

-- The word of bytes.
pub bytes_are_word : IsWord bytes_of bytes_word AreBytes
bytes_are_word = record { solid = λ bytes h. solid_bytes bytes; reads = bytes_of-bytes_word; spelt = bytes_of-Some }

-- The word `-` is read as no number.
dash-none : number_of (codes "-") ≡ None
dash-none = number_of-no_digit (codes "-") 0 (omega arith) (λ low high. omega arith)

-- No number is written as `-`.
no_number : (n : ℕ) → n < 2 ^ 64 → bytes_eq (decimal n) (codes "-") ≡ true → ⊥
no_number n small is =
    let same : decimal n ≡ codes "-" = (bytes_eq-Decides (decimal n) (codes "-")).0 is in
    let read : None ≡ Some n = sym dash-none ∙ sym (ap number_of same) ∙ number_of-decimal n small in
    cc

-- A test that can't pass is passed by its other way.
otherwise : {A : Type 0} (b : Bool) (o p : Option A) → (b ≡ true → ⊥) → (if b then o else p) ≡ p
otherwise true o p never = absurd (never refl)
otherwise false o p never = refl

-- The word of an address.
pub address_is_word : IsWord address_of address_word IsAddress
address_is_word = record { solid = solid; reads = reads; spelt = spelt }
  where
    solid : (address : Option ℕ) → IsAddress address → is_solid (address_word address) ≡ true
    solid None h = refl
    solid (Some address) h = solid_decimal address h

    reads : (address : Option ℕ) → IsAddress address → address_of (address_word address) ≡ Some address
    reads None h = refl
    reads (Some address) h =
        otherwise (bytes_eq (decimal address) (codes "-")) (Some None) (option_map Some (number_of (decimal address))) (no_number address h)
        ∙ ap (λ (o : Option ℕ). option_map Some o) (number_of-decimal address h)

    spelt : (word : List ℕ) (address : Option ℕ) → address_of word ≡ Some address → (word ≡ address_word address) × IsAddress address
    spelt word address is =
        elim (either-Some (bytes_eq word (codes "-")) (Some None) (option_map Some (number_of word)) address is) [
          | inl it ↦
              subst (λ (a : Option ℕ). (word ≡ address_word a) × IsAddress a) (same_Some None address it.1)
              ((bytes_eq-Decides word (codes "-")).0 it.0, tt)
          | inr is ↦
              let n = map-Some Some (number_of word) address is in
              subst (λ (a : Option ℕ). (word ≡ address_word a) × IsAddress a) n.2 (number_of-Some word n.0 n.1)
        ]

-- The word of a flag, one of two that differ.
pub flag_word : (word_of : Bool → List ℕ) → is_solid (word_of true) ≡ true → is_solid (word_of false) ≡ true
    → bytes_eq (word_of false) (word_of true) ≡ false
    → IsWord (flag_of (word_of true) (word_of false)) word_of (λ flag. Unit {0})
flag_word word_of solid_set solid_unset differ = record { solid = solid; reads = reads; spelt = spelt }
  where
    solid : (flag : Bool) → Unit {0} → is_solid (word_of flag) ≡ true
    solid true h = solid_set
    solid false h = solid_unset

    reads : (flag : Bool) → Unit {0} → flag_of (word_of true) (word_of false) (word_of flag) ≡ Some flag
    reads true h = rw ((bytes_eq-Decides (word_of true) (word_of true)).1 refl) refl
    reads false h = rw (differ, (bytes_eq-Decides (word_of false) (word_of false)).1 refl) refl

    spelt : (word : List ℕ) (flag : Bool) → flag_of (word_of true) (word_of false) word ≡ Some flag → (word ≡ word_of flag) × Unit {0}
    spelt word flag is =
        elim (either-Some (bytes_eq word (word_of true)) (Some true) _ flag is) [
          | inl it ↦ ((bytes_eq-Decides word (word_of true)).0 it.0 ∙ ap word_of (same_Some true flag it.1), tt)
          | inr is ↦
              let it = if-Some (bytes_eq word (word_of false)) (Some false) flag is in
              ((bytes_eq-Decides word (word_of false)).0 it.0 ∙ ap word_of (same_Some false flag it.1), tt)
        ]

-- The word of bytes, alone.
pub bytes_form : IsForm bytes_end (λ bytes. bytes_word bytes ∷ []) AreBytes
bytes_form = record { solid = λ bytes h. (solid_bytes bytes, tt); reads = bytes_of-bytes_word; spelt = bytes_end-Some }

-- A word alone.
pub last_form : {A : Type 0} {read : List ℕ → Option A} {word_of : A → List ℕ} {IsTyped : A → Type 0} → IsWord read word_of IsTyped
    → IsForm (last_of read) (λ x. word_of x ∷ []) IsTyped
last_form {A = A} {read = read} {word_of = word_of} {IsTyped = IsTyped} w = record {
  solid = λ x h. (w.solid x h, tt);
  reads = λ x h. rw (w.reads x h) refl;
  spelt = λ all x is.
      let found = and_then-Some (λ (v : A × List (List ℕ)). at_end v.0 v.1) (field read all) x is in
      let end = at_end-Some found.0.0 found.0.1 x found.2 in
      let first = field-Some read all found.0.1 found.0.0 found.1 in
      let spelt = w.spelt first.0 found.0.0 first.2 in
      subst (λ (y : A). (all ≡ word_of y ∷ []) × IsTyped y) end.1 (
        first.1 ∙ ap (λ (word : List ℕ). word ∷ found.0.1) spelt.0 ∙ ap (λ (l : List (List ℕ)). word_of found.0.0 ∷ l) end.0,
        spelt.1,
      );
}

-- A word, then others.
pub with_first_form : {A B : Type 0} {first : List ℕ → Option A} {word_of : A → List ℕ} {IsFirst : A → Type 0}
    {read : List (List ℕ) → Option B} {words_of : B → List (List ℕ)} {AreMore : B → Type 0}
    → IsWord first word_of IsFirst → IsForm read words_of AreMore
    → IsForm (with_first first read) (λ pair. word_of pair.0 ∷ words_of pair.1) (λ pair. IsFirst pair.0 × AreMore pair.1)
with_first_form {A = A} {B = B} {first = first} {word_of = word_of} {IsFirst = IsFirst} {read = read} {words_of = words_of}
    {AreMore = AreMore} w more = record {
      solid = λ pair h. (w.solid pair.0 h.0, more.solid pair.1 h.1);
      reads = λ pair h. rw (w.reads pair.0 h.0, more.reads pair.1 h.1) refl;
      spelt = λ all pair is.
          let v = and_then-Some (λ (v : A × List (List ℕ)). option_map (λ (y : B). (v.0, y)) (read v.1)) (field first all) pair is in
          let y = map-Some (λ (y : B). (v.0.0, y)) (read v.0.1) pair v.2 in
          let word = field-Some first all v.0.1 v.0.0 v.1 in
          let front = w.spelt word.0 v.0.0 word.2 in
          let behind = more.spelt v.0.1 y.0 y.1 in
          subst (λ (p : A × B). (all ≡ word_of p.0 ∷ words_of p.1) × (IsFirst p.0 × AreMore p.1)) y.2 (
            word.1 ∙ ap (λ (w : List ℕ). w ∷ v.0.1) front.0 ∙ ap (λ (l : List (List ℕ)). word_of v.0.0 ∷ l) behind.0,
            (front.1, behind.1),
          );
    }

-- What a row's reader reads behind the row's name is that value's words.
pub record IsRow {A : Type 0} (words_of : A → List (List ℕ)) (IsTyped : A → Type 0)
    (entry : List ℕ × (List (List ℕ) → Option A)) : Type 0 where
  pub spelt : (words : List (List ℕ)) (x : A) → entry.1 words ≡ Some x → (entry.0 ∷ words ≡ words_of x) × IsTyped x

-- Each row of a table is one.
abbrev pub AreRows : {A : Type 0} → (A → List (List ℕ)) → (A → Type 0) → List (List ℕ × (List (List ℕ) → Option A)) → Type 0
AreRows words_of IsTyped [] = Unit {0}
AreRows words_of IsTyped (entry ∷ entries) = IsRow words_of IsTyped entry × AreRows words_of IsTyped entries

-- A form behind a name, whose values are made into others, is a row.
pub row_form : {A B : Type 0} (words_of : B → List (List ℕ)) (IsTyped : B → Type 0) (name : List ℕ) (make : A → B)
    {read : List (List ℕ) → Option A} {more_of : A → List (List ℕ)} {IsMore : A → Type 0} → IsForm read more_of IsMore
    → ((x : A) → IsMore x → (name ∷ more_of x ≡ words_of (make x)) × IsTyped (make x)) → IsRow words_of IsTyped (row name make read)
row_form {B = B} words_of IsTyped name make {read = read} more named = record {
  spelt = λ words y is.
      let x = map-Some make (read words) y is in
      let behind = more.spelt words x.0 x.1 in
      let whole = named x.0 behind.1 in
      subst (λ (z : B). (name ∷ words ≡ words_of z) × IsTyped z) x.2 (ap (λ (l : List (List ℕ)). name ∷ l) behind.0 ∙ whole.0, whole.1);
}

-- What a table of such rows reads is that value's words.
pub by_name-Some : {A : Type 0} (words_of : A → List (List ℕ)) (IsTyped : A → Type 0) (entries : List (List ℕ × (List (List ℕ) → Option A)))
    → AreRows words_of IsTyped entries → (last : Option A) (name : List ℕ) (words : List (List ℕ)) (x : A)
    → (last ≡ Some x → (name ∷ words ≡ words_of x) × IsTyped x)
    → by_name entries last name words ≡ Some x → (name ∷ words ≡ words_of x) × IsTyped x
by_name-Some words_of IsTyped [] all last name words x rest is = rest is
by_name-Some words_of IsTyped (entry ∷ entries) all last name words x rest is =
    elim (either-Some (bytes_eq name entry.0) (entry.1 words) (by_name entries last name words) x is) [
      | inl it ↦
          let spelt = all.0.spelt words x it.1 in
          (ap (λ (w : List ℕ). w ∷ words) ((bytes_eq-Decides name entry.0).0 it.0) ∙ spelt.0, spelt.1)
      | inr is ↦ by_name-Some words_of IsTyped entries all.1 last name words x rest is
    ]
