-- What the words of a line are read as, part by part: each is read exactly when it is written.
use Rattle.std.proofs.Common.{◌≡◌, ◌∙◌, ℕ, ◌^◌, ◌<◌, List, [], ◌∷◌, length, refl, ap, sym, subst, arith, inl, inr}
use Rattle.std.specs.Prelude.{Bool, true, false, ◌⊎◌, ◌&&◌, if◌then◌else◌, nat_le, Option, Some, None, option_and_then, option_map}
use Rattle.std.specs.Prelude.{bytes_eq, decimal}
use Rattle.std.proofs.lemmas.Bool.{leb-true, le-leb, eq-eqb, eqb-true}
use Rattle.std.proofs.lemmas.Option.{same_Some}
use Rattle.std.proofs.lemmas.Slice.Eq.{bytes_eq-Decides}
use Rattle.rent_buf.specs.Buffer.{Buffer, BufferBounds, IsFull}
use Rattle.rent_buf.specs.declared.kind.Kind.{Kind}
use Rattle.rent_buf.specs.declared.kind.Kind.TheVariants.{Vector, Grown, Fixed}
use Rattle.event_text.specs.TextReaders.{field, at_end, value_of}
use Rattle.event_text.specs.TextReads.{number_of, bytes_end, buffer_kind_of, is_full, bounded, buffer_of}
use Rattle.event_text.specs.TextRequest.{IsBuffer, buffer_kind_word, buffer_words}
use Rattle.event_text.specs.TextWords.{AreBytes, bytes_word}
use Rattle.event_text.proofs.TextHex.{bytes_of-bytes_word, bytes_of-Some}
use Rattle.event_text.proofs.TextNumbers.{number_of-decimal, number_of-Some}

-- What stood behind an answer.
pub and_then-Some : {A B : Type 0} (f : A → Option B) (o : Option A) (y : B) → option_and_then f o ≡ Some y
    → (x : A) × (o ≡ Some x) × (f x ≡ Some y)
and_then-Some f None y is = absurd (cc)
and_then-Some f (Some x) y is = (x, refl, is)

-- What was mapped to an answer.
pub map-Some : {A B : Type 0} (f : A → B) (o : Option A) (y : B) → option_map f o ≡ Some y → (x : A) × (o ≡ Some x) × (f x ≡ y)
map-Some f None y is = absurd (cc)
map-Some f (Some x) y is = (x, refl, cc)

-- An answer behind a test passed the test.
pub if-Some : {A : Type 0} (b : Bool) (o : Option A) (y : A) → (if b then o else None) ≡ Some y → (b ≡ true) × (o ≡ Some y)
if-Some true o y is = (refl, is)
if-Some false o y is = absurd (cc)

-- One of two answers.
pub either-Some : {A : Type 0} (b : Bool) (o p : Option A) (value : A) → (if b then o else p) ≡ Some value
    → ((b ≡ true) × (o ≡ Some value)) ⊎ (p ≡ Some value)
either-Some true o p value is = inl (refl, is)
either-Some false o p value is = inr is

-- Two tests that pass together pass alone.
pub and-true : (a b : Bool) → (a && b) ≡ true → (a ≡ true) × (b ≡ true)
and-true true true is = (refl, refl)
and-true true false is = absurd (cc)
and-true false b is = absurd (cc)

-- A value that is read at the end has no word behind it.
pub at_end-Some : {A : Type 0} (value : A) (words : List (List ℕ)) (y : A) → at_end value words ≡ Some y → (words ≡ []) × (value ≡ y)
at_end-Some value [] y is = (refl, cc)
at_end-Some value (word ∷ words) y is = absurd (cc)

-- A first field is what the first word is read as.
pub field-Some : {A : Type 0} (read : List ℕ → Option A) (words rest : List (List ℕ)) (x : A) → field read words ≡ Some (x, rest)
    → (word : List ℕ) × (words ≡ word ∷ rest) × (read word ≡ Some x)
field-Some read [] rest x is = absurd (cc)
field-Some {A = A} read (word ∷ words) rest x is =
    let found = and_then-Some (λ (y : A). Some (y, words)) (read word) (x, rest) is in
    let pair : (found.0, words) ≡ (x, rest) = same_Some (found.0, words) (x, rest) found.2 in (
      word,
      ap (λ (p : A × List (List ℕ)). word ∷ p.1) pair,
      found.1 ∙ ap (λ (p : A × List (List ℕ)). Some p.0) pair,
    )

-- A first word that is read as a number is its digits.
pub number_field-Some : (words rest : List (List ℕ)) (n : ℕ) → field number_of words ≡ Some (n, rest)
    → (words ≡ decimal n ∷ rest) × (n < 2 ^ 64)
number_field-Some words rest n is =
    let first = field-Some number_of words rest n is in
    let number = number_of-Some first.0 n first.2 in
    (first.1 ∙ ap (λ (word : List ℕ). word ∷ rest) number.0, number.1)

-- A word that is read as one of some values is that value's.
pub value_of-Some : {A : Type 0} (word_of : A → List ℕ) (values : List A) (word : List ℕ) (x : A) → value_of word_of values word ≡ Some x
    → word ≡ word_of x
value_of-Some word_of [] word x is = absurd (cc)
value_of-Some word_of (value ∷ values) word x is =
    elim (either-Some (bytes_eq word (word_of value)) (Some value) (value_of word_of values word) x is) [
      | inl it ↦ (bytes_eq-Decides word (word_of value)).0 it.0 ∙ ap word_of (same_Some value x it.1)
      | inr is ↦ value_of-Some word_of values word x is
    ]

-- Bytes.
pub bytes_end-Some : (words : List (List ℕ)) (bytes : List ℕ) → bytes_end words ≡ Some bytes
    → (words ≡ bytes_word bytes ∷ []) × AreBytes bytes
bytes_end-Some [] bytes is = absurd (cc)
bytes_end-Some (word ∷ []) bytes is = let read = bytes_of-Some word bytes is in (ap (λ (w : List ℕ). w ∷ []) read.0, read.1)
bytes_end-Some (word ∷ next ∷ words) bytes is = absurd (cc)

-- A buffer's kind is read from its word.
pub buffer_kind_of-word : (kind : Kind) → buffer_kind_of (buffer_kind_word kind) ≡ Some kind
buffer_kind_of-word Vector = refl
buffer_kind_of-word Grown = refl
buffer_kind_of-word Fixed = refl

-- A first word that is read as a buffer's kind is that kind's.
kind_field-Some : (words rest : List (List ℕ)) (kind : Kind) → field buffer_kind_of words ≡ Some (kind, rest)
    → words ≡ buffer_kind_word kind ∷ rest
kind_field-Some words rest kind is =
    let first = field-Some buffer_kind_of words rest kind is in
    first.1 ∙ ap (λ (word : List ℕ). word ∷ rest)
    (value_of-Some buffer_kind_word (Vector ∷ Grown ∷ Fixed ∷ []) first.0 kind first.2)

-- Buffers.
is_full-IsFull : (kind : Kind) (bytes : List ℕ) (total : ℕ) → IsFull kind bytes total → is_full kind (length bytes) total ≡ true
is_full-IsFull Vector bytes total h = refl
is_full-IsFull Grown bytes total h = refl
is_full-IsFull Fixed bytes total h = eq-eqb (length bytes) total h

-- A buffer that is as full as its kind wants passes the test.
IsFull-is_full : (kind : Kind) (bytes : List ℕ) (total : ℕ) → is_full kind (length bytes) total ≡ true → IsFull kind bytes total
IsFull-is_full Vector bytes total is = tt
IsFull-is_full Grown bytes total is = tt
IsFull-is_full Fixed bytes total is = eqb-true (length bytes) total is

-- A buffer whose bounds hold passes the tests.
pub bounded-bounds : (b : Buffer) → BufferBounds b → bounded b ≡ Some b
bounded-bounds b h =
    rw (
      le-leb (length b.bytes) b.total h.fits,
      le-leb b.begin b.end h.ordered,
      le-leb b.begin (length b.bytes) h.within,
      le-leb b.end b.total h.inside,
      is_full-IsFull b.kind b.bytes b.total h.full,
    ) refl

-- A buffer that passes the tests keeps its bounds.
pub bounded-Some : (b c : Buffer) → bounded b ≡ Some c → (b ≡ c) × BufferBounds b
bounded-Some b c is =
    let tests = if-Some (nat_le (length b.bytes) b.total && nat_le b.begin b.end && nat_le b.begin (length b.bytes) && nat_le b.end b.total
    && is_full b.kind (length b.bytes) b.total) (Some b) c is in
    let four = and-true (nat_le (length b.bytes) b.total && nat_le b.begin b.end && nat_le b.begin (length b.bytes) && nat_le b.end b.total)
    (is_full b.kind (length b.bytes) b.total) tests.0 in
    let three = and-true (nat_le (length b.bytes) b.total && nat_le b.begin b.end && nat_le b.begin (length b.bytes))
    (nat_le b.end b.total) four.0 in
    let two = and-true (nat_le (length b.bytes) b.total && nat_le b.begin b.end) (nat_le b.begin (length b.bytes)) three.0 in
    let one = and-true (nat_le (length b.bytes) b.total) (nat_le b.begin b.end) two.0 in (
      same_Some b c tests.1,
      record {
        fits = leb-true (length b.bytes) b.total one.0;
        ordered = leb-true b.begin b.end one.1;
        within = leb-true b.begin (length b.bytes) two.1;
        inside = leb-true b.end b.total three.1;
        full = IsFull-is_full b.kind b.bytes b.total four.1;
      },
    )

-- The words of a buffer's parts are read as the buffer.
buffer_of-parts : (kind : Kind) (bytes : List ℕ) (total begin end : ℕ) (b : Buffer)
    → b ≡ record { kind = kind; bytes = bytes; total = total; begin = begin; end = end }
    → BufferBounds b → AreBytes bytes → total < 2 ^ 64 → begin < 2 ^ 64 → end < 2 ^ 64
    → buffer_of (buffer_kind_word kind ∷ decimal total ∷ decimal begin ∷ decimal end ∷ bytes_word bytes ∷ []) ≡ Some b
buffer_of-parts kind bytes total begin end b is bounds small total_fits begin_fits end_fits =
    rw (
      buffer_kind_of-word kind,
      number_of-decimal total total_fits,
      number_of-decimal begin begin_fits,
      number_of-decimal end end_fits,
      bytes_of-bytes_word bytes small,
    )
    (ap bounded (sym is) ∙ bounded-bounds b bounds)

-- The words of a buffer are read as it.
pub buffer_of-words : (b : Buffer) → IsBuffer b → buffer_of (buffer_words b) ≡ Some b
buffer_of-words b h =
    let bounds = h.bounds in
    let fits = h.fits in
    buffer_of-parts b.kind b.bytes b.total b.begin b.end b refl h.bounds h.bytes h.fits (omega (arith, bounds.ordered, bounds.inside))
    (omega (arith, bounds.inside))

-- A buffer is read as what its parts are.
buffer_parts : (all : List (List ℕ)) (b : Buffer) (kind : Kind) (total begin end : ℕ) (bytes : List ℕ) (one two three four : List (List ℕ))
    → all ≡ buffer_kind_word kind ∷ one → (one ≡ decimal total ∷ two) × (total < 2 ^ 64) → (two ≡ decimal begin ∷ three) × (begin < 2 ^ 64)
    → (three ≡ decimal end ∷ four) × (end < 2 ^ 64)
    → (four ≡ bytes_word bytes ∷ []) × AreBytes bytes
    → bounded (record { kind = kind; bytes = bytes; total = total; begin = begin; end = end }) ≡ Some b
    → (all ≡ buffer_words b) × IsBuffer b
buffer_parts all b kind total begin end bytes one two three four k t g e y is =
    let found = bounded-Some (record { kind = kind; bytes = bytes; total = total; begin = begin; end = end }) b is in
    subst (λ (c : Buffer). (all ≡ buffer_words c) × IsBuffer c) found.0
    (rw (k, t.0, g.0, e.0, y.0) refl, record { bounds = found.1; fits = t.1; bytes = y.1 })

-- A buffer's parts, each with what stood behind it.
pub buffer_read : (all : List (List ℕ)) (b : Buffer) → buffer_of all ≡ Some b → (all ≡ buffer_words b) × IsBuffer b
buffer_read all b is =
    let behind_end = λ (kind : Kind) (total begin : ℕ) (end : ℕ × List (List ℕ)). option_and_then
    (λ (bytes : List ℕ). bounded (record { kind = kind; bytes = bytes; total = total; begin = begin; end = end.0 }))
    (bytes_end end.1) in
    let behind_begin = λ (kind : Kind) (total : ℕ) (begin : ℕ × List (List ℕ)). option_and_then (behind_end kind total begin.0)
    (field number_of begin.1) in
    let behind_total = λ (kind : Kind) (total : ℕ × List (List ℕ)). option_and_then (behind_begin kind total.0) (field number_of total.1) in
    let behind_kind = λ (kind : Kind × List (List ℕ)). option_and_then (behind_total kind.0) (field number_of kind.1) in
    let kind = and_then-Some behind_kind (field buffer_kind_of all) b is in
    let total = and_then-Some (behind_total kind.0.0) (field number_of kind.0.1) b kind.2 in
    let begin = and_then-Some (behind_begin kind.0.0 total.0.0) (field number_of total.0.1) b total.2 in
    let end = and_then-Some (behind_end kind.0.0 total.0.0 begin.0.0) (field number_of begin.0.1) b begin.2 in
    let bytes = and_then-Some (λ (bytes : List ℕ). bounded
    (record { kind = kind.0.0; bytes = bytes; total = total.0.0; begin = begin.0.0; end = end.0.0 })) (bytes_end end.0.1) b end.2 in
    buffer_parts all b kind.0.0 total.0.0 begin.0.0 end.0.0 bytes.0 kind.0.1 total.0.1 begin.0.1 end.0.1
    (kind_field-Some all kind.0.1 kind.0.0 kind.1) (number_field-Some kind.0.1 total.0.1 total.0.0 total.1)
    (number_field-Some total.0.1 begin.0.1 begin.0.0 begin.1)
    (number_field-Some begin.0.1 end.0.1 end.0.0 end.1) (bytes_end-Some end.0.1 bytes.0 bytes.1) bytes.2
