-- What the words of parts are read as: parts are read exactly when they are written.
use Rattle.std.proofs.Common.{◌≡◌, ◌∙◌, ℕ, zero, suc, ◌^◌, ◌<◌, ◌≤◌, List, [], ◌∷◌, ◌++◌, length, refl, ap, sym, subst, arith, append_assoc}
use Rattle.std.specs.Prelude.{Bool, true, false, ◌==◌, ◌&&◌, ◌↔◌, All, IfSome, IsSome, nat_le, nat_lt, Option, Some, None, option_and_then}
use Rattle.std.specs.Prelude.{option_map, bytes_eq, codes, decimal}
use Rattle.std.proofs.lemmas.Bool.{leb-true, le-leb, eq-eqb, eqb-true, ltb-true, lt-ltb}
use Rattle.std.proofs.lemmas.List.{append-nil, length-map, map-append}
use Rattle.std.proofs.lemmas.List.Elements.{All-cons}
use Rattle.std.proofs.lemmas.List.Sums.{sum_by-cons}
use Rattle.std.proofs.lemmas.Option.{same_Some}
use Rattle.std.proofs.lemmas.Slice.Eq.{bytes_eq-Decides}
use Rattle.rent_buf.specs.Parts.{Parts, IsParts, parts_of_pairs, rooms_of}
use Rattle.rent_buf.specs.Rent.{Rented}
use Rattle.event_text.specs.TextReaders.{field}
use Rattle.event_text.specs.TextReads.{number_of, bytes_of, part_onto, parts_end, all_fit, counted, counted_of, parts_of}
use Rattle.event_text.specs.TextRequest.{AreTypedParts, part_words, parts_words}
use Rattle.event_text.specs.TextWords.{AreBytes, bytes_word}
use Rattle.event_text.proofs.TextFields.{and-true, and_then-Some, map-Some, if-Some, number_field-Some}
use Rattle.event_text.proofs.TextHex.{onto, bytes_of-bytes_word, bytes_of-Some}
use Rattle.event_text.proofs.TextNumbers.{None-from, number_of-decimal, number_of-Some}
use Rattle.event_text.proofs.TextSpaces.{AreSolid, solid_decimal, solid_bytes}

-- A part of a room and bytes.
abbrev part : ℕ → List ℕ → Rented
part room bytes = record { bytes = bytes; total = room }

-- A part in front of what is read joins what was read.
onto-part : (front : Parts) (room : ℕ) (bytes : List ℕ) (o : Option Parts)
    → onto front (part_onto (Some room) (Some bytes) o) ≡ onto (front ++ part room bytes ∷ []) o
onto-part front room bytes None = refl
onto-part front room bytes (Some more) = rw append_assoc refl

-- A word that is no room makes the words none.
onto-no_room : (front : Parts) (bytes : Option (List ℕ)) (o : Option Parts) → onto front (part_onto None bytes o) ≡ None
onto-no_room front bytes o = refl

-- A word that is no bytes makes the words none.
onto-no_bytes : (front : Parts) (room : ℕ) (o : Option Parts) → onto front (part_onto (Some room) None o) ≡ None
onto-no_bytes front room o = refl

-- What was read in front of the words that are left. `read_rooms` goes from one such to the next.
pub rooms-more : (all : Option Parts) (words next rest : List (List ℕ)) (first second : List ℕ) (parts : Parts) (room : ℕ) (bytes : List ℕ)
    → words ≡ first ∷ next → next ≡ second ∷ rest → number_of first ≡ Some room → bytes_of second ≡ Some bytes
    → all ≡ onto parts (parts_end words) → all ≡ onto (parts ++ part room bytes ∷ []) (parts_end rest)
unfolding parts_end
rooms-more all words next rest first second parts room bytes is0 is1 number read so_far =
    so_far ∙ ap (λ (ws : List (List ℕ)). onto parts (parts_end ws)) (is0 ∙ ap (λ (ws : List (List ℕ)). first ∷ ws) is1)
    ∙ ap (λ (o : Option ℕ). onto parts (part_onto o (bytes_of second) (parts_end rest))) number
    ∙ ap (λ (o : Option (List ℕ)). onto parts (part_onto (Some room) o (parts_end rest))) read
    ∙ onto-part parts room bytes (parts_end rest)

-- A pair that was pushed is a part more.
pub rooms-pushed : (all behind : Option Parts) (pairs now : List (ℕ × List ℕ)) (room : ℕ) (bytes : List ℕ)
    → now ≡ pairs ++ (room, bytes) ∷ []
    → all ≡ onto (parts_of_pairs pairs ++ part room bytes ∷ []) behind → all ≡ onto (parts_of_pairs now) behind
rooms-pushed all behind pairs now room bytes is so_far =
    so_far ∙ ap (λ (ps : Parts). onto ps behind) (sym (ap parts_of_pairs is ∙ map-append _ pairs ((room, bytes) ∷ [])))

-- A room has no word behind it.
pub rooms-alone : (all : Option Parts) (words next : List (List ℕ)) (first : List ℕ) (parts : Parts) → words ≡ first ∷ next → next ≡ []
    → all ≡ onto parts (parts_end words) → all ≡ None
unfolding parts_end
rooms-alone all words next first parts is0 is1 so_far =
    so_far ∙ ap (λ (ws : List (List ℕ)). onto parts (parts_end ws)) (is0 ∙ ap (λ (ws : List (List ℕ)). first ∷ ws) is1)

-- The first word is no room.
pub rooms-no_room : (all : Option Parts) (words next rest : List (List ℕ)) (first second : List ℕ) (parts : Parts) → words ≡ first ∷ next
    → next ≡ second ∷ rest → number_of first ≡ None
    → all ≡ onto parts (parts_end words) → all ≡ None
unfolding parts_end
rooms-no_room all words next rest first second parts is0 is1 number so_far =
    so_far ∙ ap (λ (ws : List (List ℕ)). onto parts (parts_end ws)) (is0 ∙ ap (λ (ws : List (List ℕ)). first ∷ ws) is1)
    ∙ ap (λ (o : Option ℕ). onto parts (part_onto o (bytes_of second) (parts_end rest))) number
    ∙ onto-no_room parts (bytes_of second) (parts_end rest)

-- The second word is no bytes.
pub rooms-no_bytes : (all : Option Parts) (words next rest : List (List ℕ)) (first second : List ℕ) (parts : Parts) (room : ℕ)
    → words ≡ first ∷ next → next ≡ second ∷ rest → number_of first ≡ Some room
    → bytes_of second ≡ None → all ≡ onto parts (parts_end words) → all ≡ None
unfolding parts_end
rooms-no_bytes all words next rest first second parts room is0 is1 number read so_far =
    so_far ∙ ap (λ (ws : List (List ℕ)). onto parts (parts_end ws)) (is0 ∙ ap (λ (ws : List (List ℕ)). first ∷ ws) is1)
    ∙ ap (λ (o : Option ℕ). onto parts (part_onto o (bytes_of second) (parts_end rest))) number
    ∙ ap (λ (o : Option (List ℕ)). onto parts (part_onto (Some room) o (parts_end rest))) read
    ∙ onto-no_bytes parts room (parts_end rest)

-- No word is left.
pub rooms-done : (all : Option Parts) (words : List (List ℕ)) (parts : Parts) → words ≡ [] → all ≡ onto parts (parts_end words)
    → all ≡ Some parts
unfolding parts_end
rooms-done all words parts is so_far = so_far ∙ ap (λ (ws : List (List ℕ)). onto parts (parts_end ws)) is
    ∙ ap (λ (l : Parts). Some l) (append-nil parts)

-- Parts that fit are those that pass the test.
all_fit-All : (parts : Parts) → All (λ (p : Rented). length p.bytes ≤ p.total) parts → all_fit parts ≡ true
all_fit-All [] fit = refl
all_fit-All (p ∷ parts) fit =
    rw (le-leb (length p.bytes) p.total (fit zero p (omega arith)), all_fit-All parts (λ k d few. fit (suc k) d (omega arith))) refl

-- Parts that pass the test fit.
All-all_fit : (parts : Parts) → all_fit parts ≡ true → All (λ (p : Rented). length p.bytes ≤ p.total) parts
All-all_fit [] is = λ k d few. absurd (omega arith)
All-all_fit (p ∷ parts) is =
    let both = and-true (nat_le (length p.bytes) p.total) (all_fit parts) is in
    All-cons (λ (q : Rented). length q.bytes ≤ q.total) p parts (leb-true (length p.bytes) p.total both.0) (All-all_fit parts both.1)

-- Parts of this number whose bounds hold are counted.
pub counted-bounds : (count : ℕ) (parts : Parts) → count ≡ length parts → IsParts parts → counted count parts ≡ Some parts
counted-bounds count parts is bounds =
    rw (eq-eqb count (length parts) is, all_fit-All parts bounds.fit, lt-ltb (rooms_of parts) (2 ^ 64) bounds.bounded) refl

-- Parts that are counted have this number, and keep their bounds.
pub counted-Some : (count : ℕ) (parts found : Parts) → counted count parts ≡ Some found
    → (parts ≡ found) × (count ≡ length parts) × IsParts parts
counted-Some count parts found is =
    let tests = if-Some (count == length parts && all_fit parts && nat_lt (rooms_of parts) (2 ^ 64)) (Some parts) found is in
    let two = and-true (count == length parts && all_fit parts) (nat_lt (rooms_of parts) (2 ^ 64)) tests.0 in
    let one = and-true (count == length parts) (all_fit parts) two.0 in (
      same_Some parts found tests.1,
      eqb-true count (length parts) one.0,
      record { fit = All-all_fit parts one.1; bounded = ltb-true (rooms_of parts) (2 ^ 64) two.1 },
    )

-- Parts that have another number, or break a bound, aren't counted.
pub counted-None : (count : ℕ) (parts : Parts) → (count ≡ length parts → IsParts parts → ⊥) → counted count parts ≡ None
counted-None count parts never = None-from (counted count parts)
    (λ found is. let read = counted-Some count parts found is in never read.1 read.2)

-- What `PartsSpec::new` makes of pairs that were counted.
counted-new : (made : Option Parts) (count : ℕ) (pairs : List (ℕ × List ℕ)) → IfSome made (λ parts. parts ≡ parts_of_pairs pairs)
    → IsSome made ↔ IsParts (parts_of_pairs pairs) → count ≡ length (parts_of_pairs pairs)
    → made ≡ counted count (parts_of_pairs pairs)
counted-new None count pairs some exact is =
    sym (counted-None count (parts_of_pairs pairs) (λ same bounds. let never : ◌≡◌ {A = Bool} false true = exact.1 bounds in absurd (cc)))
counted-new (Some parts) count pairs some exact is =
    ap (λ (ps : Parts). Some ps) some ∙ sym (counted-bounds count (parts_of_pairs pairs) is (exact.0 refl))

-- What `PartsSpec::new` makes is what the words are read as.
pub counted_of-new : (words behind : List (List ℕ)) (made : Option Parts) (count : ℕ) (pairs : List (ℕ × List ℕ))
    → field number_of words ≡ Some (count, behind) → Some (parts_of_pairs pairs) ≡ parts_end behind
    → length pairs ≡ count → IfSome made (λ parts. parts ≡ parts_of_pairs pairs) → IsSome made ↔ IsParts (parts_of_pairs pairs)
    → made ≡ counted_of words
counted_of-new words behind made count pairs number read is some exact =
    counted-new made count pairs some exact (sym is ∙ sym (length-map pairs _))
    ∙ ap (λ (o : Option Parts). option_and_then (counted count) o) read
    ∙ ap (λ (o : Option (ℕ × List (List ℕ))). option_and_then
    (λ (field : ℕ × List (List ℕ)). option_and_then (counted field.0) (parts_end field.1)) o) (sym number)

-- What parts are written as is read as those parts.
parts_end-part_words : (parts : Parts) → rooms_of parts < 2 ^ 64 → All (λ (p : Rented). AreBytes p.bytes) parts
    → parts_end (part_words parts) ≡ Some parts
unfolding parts_end
parts_end-part_words [] fits bytes = refl
parts_end-part_words (p ∷ parts) fits bytes =
    let sum = sum_by-cons (λ (q : Rented). q.total) p parts in
    rw (
      number_of-decimal p.total (omega (arith, sum)),
      bytes_of-bytes_word p.bytes (bytes zero p (omega arith)),
      parts_end-part_words parts (omega (arith, sum)) (λ k d few. bytes (suc k) d (omega arith)),
    )
    refl

-- The words of parts are read as them.
pub parts_of-words : (parts : Parts) → AreTypedParts parts → parts_of (parts_words parts) ≡ Some parts
parts_of-words parts typed =
    rw (number_of-decimal (length parts) typed.count, parts_end-part_words parts typed.bounds.bounded typed.bytes)
    (counted-bounds (length parts) parts refl typed.bounds)

-- Words that are read as parts are what those parts are written as.
abbrev SpellParts : List (List ℕ) → Parts → Type 0
SpellParts words parts = (words ≡ part_words parts) × All (λ (p : Rented). AreBytes p.bytes) parts

-- The words of a part, then those of others, are the words of all.
part_spelt : (first second : List ℕ) (words : List (List ℕ)) (room : ℕ) (bytes : List ℕ) (more : Parts) → first ≡ decimal room
    → second ≡ bytes_word bytes → words ≡ part_words more
    → first ∷ second ∷ words ≡ part_words (part room bytes ∷ more)
part_spelt first second words room bytes more number read behind = rw (number, read, behind) refl

-- Two words that are read as a part are its words.
part_read : (first second : List ℕ) (words : List (List ℕ)) (parts : Parts)
    → ((more : Parts) → parts_end words ≡ Some more → SpellParts words more)
    → part_onto (number_of first) (bytes_of second) (parts_end words) ≡ Some parts → SpellParts (first ∷ second ∷ words) parts
part_read first second words parts rest is =
    let room = and_then-Some (λ (room : ℕ). option_and_then
    (λ (bytes : List ℕ). option_map (λ (more : Parts). part room bytes ∷ more) (parts_end words)) (bytes_of second))
    (number_of first) parts is in
    let bytes = and_then-Some (λ (bytes : List ℕ). option_map (λ (more : Parts). part room.0 bytes ∷ more) (parts_end words))
    (bytes_of second) parts room.2 in
    let more = map-Some (λ (more : Parts). part room.0 bytes.0 ∷ more) (parts_end words) parts bytes.2 in
    let number = number_of-Some first room.0 room.1 in
    let read = bytes_of-Some second bytes.0 bytes.1 in
    let behind = rest more.0 more.1 in
    subst (λ (ps : Parts). SpellParts (first ∷ second ∷ words) ps) more.2 (
      part_spelt first second words room.0 bytes.0 more.0 number.0 read.0 behind.0,
      All-cons (λ (p : Rented). AreBytes p.bytes) (part room.0 bytes.0) more.0 read.1 behind.1,
    )

-- Words that are read as rooms and bytes are those of the parts.
parts_end-Some : (words : List (List ℕ)) (parts : Parts) → parts_end words ≡ Some parts → SpellParts words parts
unfolding parts_end
parts_end-Some [] parts is = subst (λ (ps : Parts). SpellParts [] ps) (same_Some [] parts is) (refl, λ k d few. absurd (omega arith))
parts_end-Some (room ∷ []) parts is = absurd (cc)
parts_end-Some (room ∷ bytes ∷ words) parts is = part_read room bytes words parts (λ more. parts_end-Some words more) is

-- Words that are read as counted parts are their number's and theirs.
counted_read : (words : List (List ℕ)) (parts : Parts) → counted_of words ≡ Some parts
    → (codes "p" ∷ words ≡ parts_words parts) × AreTypedParts parts
counted_read words parts is =
    let count = and_then-Some (λ (count : ℕ × List (List ℕ)). option_and_then (counted count.0) (parts_end count.1))
    (field number_of words) parts is in
    let found = and_then-Some (counted count.0.0) (parts_end count.0.1) parts count.2 in
    let tests = counted-Some count.0.0 found.0 parts found.2 in
    let number = number_field-Some words count.0.1 count.0.0 count.1 in
    let spelt = parts_end-Some count.0.1 found.0 found.1 in
    let typed : AreTypedParts found.0 = record {
      bounds = tests.2;
      count = subst (λ (n : ℕ). n < 2 ^ 64) tests.1 number.1;
      bytes = spelt.1;
    } in
    subst (λ (ps : Parts). (codes "p" ∷ words ≡ parts_words ps) × AreTypedParts ps) tests.0 (
      ap (λ (l : List (List ℕ)). codes "p" ∷ l) (number.0 ∙ ap (λ (n : ℕ). decimal n ∷ count.0.1) tests.1
          ∙ ap (λ (l : List (List ℕ)). decimal (length found.0) ∷ l) spelt.0),
      typed,
    )

-- Words that are read as parts are theirs.
pub parts_read : (words : List (List ℕ)) (parts : Parts) → parts_of words ≡ Some parts → (words ≡ parts_words parts) × AreTypedParts parts
parts_read [] parts is = absurd (cc)
parts_read (word ∷ words) parts is =
    let name = if-Some (bytes_eq word (codes "p")) (counted_of words) parts is in
    let rest = counted_read words parts name.1 in
    (ap (λ (w : List ℕ). w ∷ words) ((bytes_eq-Decides word (codes "p")).0 name.0) ∙ rest.0, rest.1)

-- No word of parts has a space in it.
solid_part_words : (parts : Parts) → rooms_of parts < 2 ^ 64 → AreSolid (part_words parts)
solid_part_words [] fits = tt
solid_part_words (p ∷ parts) fits =
    let sum = sum_by-cons (λ (q : Rented). q.total) p parts in
    (solid_decimal p.total (omega (arith, sum)), (solid_bytes p.bytes, solid_part_words parts (omega (arith, sum))))

-- No word of parts has a space in it.
pub solid_parts : (parts : Parts) → AreTypedParts parts → AreSolid (parts_words parts)
solid_parts parts typed = (refl, (solid_decimal (length parts) typed.count, solid_part_words parts typed.bounds.bounded))
