-- Lines and their words looked through without keeping what they write.
use Rattle.std.proofs.Common.{◌≡◌, ◌∙◌, ℕ, zero, suc, ◌+◌, ◌^◌, ◌<◌, ◌≤◌, List, [], ◌∷◌, ◌++◌, length, refl, ap}
use Rattle.std.proofs.Common.{sym, arith, length-append}
use Rattle.std.specs.Prelude.{Bool, true, false, ◌==◌, All, Option, Some, None, option_and_then}
use Rattle.std.specs.Option.{is_some}
use Rattle.std.proofs.lemmas.Bool.{ne_eqb}
use Rattle.std.proofs.lemmas.List.Elements.{All-append, All-cons}
use Rattle.std.proofs.lemmas.List.Sums.{sum_by-append, sum_by-cons}
use Rattle.rent_buf.specs.Parts.{Parts, IsParts, rooms_of}
use Rattle.rent_buf.specs.Rent.{Rented}
use Rattle.machine.specs.declared.ledger.Event.{Event}
use Rattle.machine.proofs.Numbers.{some-of, none-of}
use Rattle.event_text.specs.TextEvent.{stands_for}
use Rattle.event_text.specs.TextLines.{lines, IsFirstWrongFor, Standing}
use Rattle.event_text.specs.TextReads.{words, number_of, bytes_of, part_onto, parts_end, counted}
use Rattle.event_text.specs.TextEventReads.{event_of}
use Rattle.event_text.specs.TextValid.{AddsPart, NoPart}
use Rattle.event_text.proofs.TextEvents.{read-stands, read-wrong}
use Rattle.event_text.proofs.TextHex.{onto}
use Rattle.event_text.proofs.TextLinesRead.{HaveRead, have_read-more, have_read-wrong}
use Rattle.event_text.proofs.TextParts.{counted-bounds, counted-None, rooms-more, rooms-alone, rooms-done}

-- So many lines in front of the rest stand for events.
pub record HaveSeen (Stands : Standing) (text rest : List ℕ) (n : ℕ) : Type 0 where
  pub events : List Event
  pub read : HaveRead Stands text rest events
  pub count : length events ≡ n

-- One line more was seen.
pub have_seen-more : (x : Bool) (text rest line behind : List ℕ) (n : ℕ) → HaveSeen (stands_for x) text rest n
    → lines rest ≡ line ∷ lines behind → is_some (event_of x (words line)) ≡ true → HaveSeen (stands_for x) text behind (n + 1)
have_seen-more x text rest line behind n seen first right =
    let event = some-of (event_of x (words line)) right in
    let count = seen.count in
    record {
      events = seen.events ++ event.0 ∷ [];
      read = have_read-more (stands_for x) text rest line behind seen.events (seen.events ++ event.0 ∷ []) event.0 seen.read first
          (read-stands x line event.0 event.1) refl;
      count = (let lengths = length-append seen.events (event.0 ∷ []) in omega (arith, lengths, count));
    }

-- The next line is wrong.
pub have_seen-wrong : (x : Bool) (text rest line behind : List ℕ) (n : ℕ) → HaveSeen (stands_for x) text rest n
    → lines rest ≡ line ∷ lines behind → is_some (event_of x (words line)) ≡ false → IsFirstWrongFor (stands_for x) (lines text) (n + 1)
have_seen-wrong x text rest line behind n seen first wrong =
    have_read-wrong (stands_for x) text rest line behind seen.events n seen.read first
    (read-wrong x line (none-of (event_of x (words line)) wrong)) (sym seen.count)

-- So many parts are to come behind those that were seen, whose bytes fit and whose rooms have this sum.
pub record PartsSeen (all : Option Parts) (ws : List (List ℕ)) (count left rooms : ℕ) : Type 0 where
  pub parts : Parts
  pub read : all ≡ onto parts (parts_end ws)
  pub number : length parts + left ≡ count
  pub sum : rooms_of parts ≡ rooms
  pub small : rooms < 2 ^ 64
  pub fit : All (λ (p : Rented). length p.bytes ≤ p.total) parts

-- A room has no bytes behind it.
pub parts_seen-alone : (all : Option Parts) (ws next : List (List ℕ)) (first : List ℕ) (count left rooms : ℕ)
    → PartsSeen all ws count left rooms → ws ≡ first ∷ next → next ≡ []
    → false ≡ is_some (option_and_then (counted count) all)
parts_seen-alone all ws next first count left rooms seen is0 is1 =
    sym (ap (λ (o : Option Parts). is_some (option_and_then (counted count) o))
    (rooms-alone all ws next first seen.parts is0 is1 seen.read))

-- All parts were seen.
pub parts_seen-all : (all : Option Parts) (ws : List (List ℕ)) (count left rooms : ℕ) → PartsSeen all ws count left rooms → ws ≡ []
    → (left == 0) ≡ is_some (option_and_then (counted count) all)
parts_seen-all all ws count left rooms seen is =
    by left seen.number ∙ sym (ap (λ (o : Option Parts). is_some (option_and_then (counted count) o))
    (rooms-done all ws seen.parts is seen.read))
  where
    by : (left : ℕ) → length seen.parts + left ≡ count → (left == 0) ≡ is_some (counted count seen.parts)
    by zero number =
        let sum = seen.sum in
        let small = seen.small in
        sym (ap (λ (o : Option Parts). is_some o)
        (counted-bounds count seen.parts (omega (arith, number)) (record { fit = seen.fit; bounded = omega (arith, sum, small) })))
    by (suc left) number = ne_eqb (suc left) 0 (λ is. omega (arith, is))
        ∙ sym (ap (λ (o : Option Parts). is_some o) (counted-None count seen.parts (λ same bounds. omega (arith, number, same))))

-- One part more was seen.
pub parts_seen-more : (all : Option Parts) (ws next rest : List (List ℕ)) (first second : List ℕ) (count left fewer rooms sum : ℕ)
    → PartsSeen all ws count left rooms → ws ≡ first ∷ next → next ≡ second ∷ rest
    → AddsPart rooms first second sum → left ≡ fewer + 1 → PartsSeen all rest count fewer sum
parts_seen-more all ws next rest first second count left fewer rooms sum seen is0 is1 adds less =
    let number = seen.number in
    let before = seen.sum in
    let p : Rented = record { bytes = adds.bytes; total = adds.room } in
    record {
      parts = seen.parts ++ p ∷ [];
      read = rooms-more all ws next rest first second seen.parts adds.room adds.bytes is0 is1 adds.number adds.read seen.read;
      number = (let lengths = length-append seen.parts (p ∷ []) in omega (arith, lengths, number));
      sum =
          (let sums = sum_by-append (λ (q : Rented). q.total) seen.parts (p ∷ []) in
          let one = sum_by-cons (λ (q : Rented). q.total) p [] in
          let same = adds.sum_is in omega (arith, sums, one, same, before));
      small = adds.small;
      fit = All-append (λ (q : Rented). length q.bytes ≤ q.total) seen.parts (p ∷ []) seen.fit
          (All-cons (λ (q : Rented). length q.bytes ≤ q.total) p [] adds.fits (λ k d few. absurd (omega arith)));
    }

-- A part among others that all fit does.
fit-among : (parts more : Parts) (p : Rented) → All (λ (q : Rented). length q.bytes ≤ q.total) (parts ++ p ∷ more)
    → length p.bytes ≤ p.total
fit-among [] more p fit = fit zero p (omega arith)
fit-among (q ∷ parts) more p fit = fit-among parts more p (λ k d few. fit (suc k) d (omega arith))

-- Parts that can't be counted, whatever the next one is, are none.
never-counted : (parts : Parts) (first : Option ℕ) (second : Option (List ℕ)) (behind : Option Parts) (count : ℕ)
    → ((room : ℕ) (bytes : List ℕ) (more : Parts) → first ≡ Some room → second ≡ Some bytes
    → count ≡ length (parts ++ (record { bytes = bytes; total = room }) ∷ more)
    → IsParts (parts ++ (record { bytes = bytes; total = room }) ∷ more) → ⊥)
    → false ≡ is_some (option_and_then (counted count) (onto parts (part_onto first second behind)))
never-counted parts None second behind count never = refl
never-counted parts (Some room) None behind count never = refl
never-counted parts (Some room) (Some bytes) None count never = refl
never-counted parts (Some room) (Some bytes) (Some more) count never =
    sym (ap (λ (o : Option Parts). is_some o)
    (counted-None count (parts ++ (record { bytes = bytes; total = room }) ∷ more) (never room bytes more refl refl)))

-- What all is, by the next two words.
next-two : (all : Option Parts) (ws next rest : List (List ℕ)) (first second : List ℕ) (parts : Parts) → all ≡ onto parts (parts_end ws)
    → ws ≡ first ∷ next → next ≡ second ∷ rest
    → all ≡ onto parts (part_onto (number_of first) (bytes_of second) (parts_end rest))
unfolding parts_end
next-two all ws next rest first second parts read is0 is1 =
    read ∙ ap (λ (l : List (List ℕ)). onto parts (parts_end l)) (is0 ∙ ap (λ (l : List (List ℕ)). first ∷ l) is1)

-- The next two words are no part.
pub parts_seen-stop : (all : Option Parts) (ws next rest : List (List ℕ)) (first second : List ℕ) (count left rooms : ℕ)
    → PartsSeen all ws count left rooms → ws ≡ first ∷ next → next ≡ second ∷ rest
    → NoPart rooms first second → false ≡ is_some (option_and_then (counted count) all)
parts_seen-stop all ws next rest first second count left rooms seen is0 is1 none =
    never-counted seen.parts (number_of first) (bytes_of second) (parts_end rest) count (λ room bytes more number read same bounds.
    let p : Rented = record { bytes = bytes; total = room } in
    let sums = sum_by-append (λ (q : Rented). q.total) seen.parts (p ∷ more) in
    let one = sum_by-cons (λ (q : Rented). q.total) p more in
    let before = seen.sum in
    let bounded = bounds.bounded in
    none (rooms + room) (record {
      room = room;
      bytes = bytes;
      number = number;
      read = read;
      fits = fit-among seen.parts more p bounds.fit;
      sum_is = refl;
      small = omega (arith, sums, one, before, bounded);
    }))
    ∙ sym (ap (λ (o : Option Parts). is_some (option_and_then (counted count) o))
    (next-two all ws next rest first second seen.parts seen.read is0 is1))

-- There is a part more than were to come.
pub parts_seen-over : (all : Option Parts) (ws next rest : List (List ℕ)) (first second : List ℕ) (count left rooms : ℕ)
    → PartsSeen all ws count left rooms → ws ≡ first ∷ next → next ≡ second ∷ rest
    → left ≡ 0 → false ≡ is_some (option_and_then (counted count) all)
parts_seen-over all ws next rest first second count left rooms seen is0 is1 over =
    never-counted seen.parts (number_of first) (bytes_of second) (parts_end rest) count (λ room bytes more number read same bounds.
    let p : Rented = record { bytes = bytes; total = room } in
    let lengths = length-append seen.parts (p ∷ more) in
    let counts = seen.number in
    omega (arith, lengths, counts, same, over))
    ∙ sym (ap (λ (o : Option Parts). is_some (option_and_then (counted count) o))
    (next-two all ws next rest first second seen.parts seen.read is0 is1))
