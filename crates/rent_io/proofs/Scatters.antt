-- Places in parts before which all is full.
use Rattle.std.proofs.Common.{◌≡◌, ◌∙◌, ℕ, zero, suc, ◌+◌, ◌<◌, ◌≤◌, ◌≢◌, ◌⊎◌, inl, inr, Bool, List, [], ◌∷◌, ◌++◌, length, take, refl}
use Rattle.std.proofs.Common.{sym, ap, subst}
use Rattle.std.proofs.Common.{arith, add-one, append-nil, append_assoc, length-append}
use Rattle.std.specs.Prelude.{IsTrue, None}
use Rattle.std.specs.List.{concat}
use Rattle.std.proofs.lemmas.List.{take_all, length-take, nil_from_length}
use Rattle.std.proofs.lemmas.List.Sums.{sum_by-cons}
use Rattle.std.proofs.lemmas.List.Elements.{All-nil, All-cons}
use Rattle.rent_buf.specs.Rent.{Rented}
use Rattle.rent_buf.specs.declared.fault.IoFault.TheVariants.{UnexpectedEof}
use Rattle.rent_buf.specs.Parts.{Parts, IsParts, bytes_of, rooms_of, part_at, part_put}
use Rattle.rent_io.specs.PartRoom.{PartTaken}
use Rattle.rent_io.specs.ReadVectoredExact.{Scattering, has_read, read_of, AreFull, AreFullBefore, IsRoom, NextRoom, rooms}
use Rattle.rent_io.specs.ReadVectoredExact.{IsScattered, ScatterGoesOn, ScatterEndsEarly}
use Rattle.rent_io.specs.Counts.{Rose}
use Rattle.rent_io.specs.Reader.{Reader, WasFront}
use Rattle.rent_io.specs.ReadState.{Gave}

-- Behind a part whose bytes are all filled the same bytes were read.
passed : (parts : Parts) (k n : ℕ) → k < length parts → n ≤ length (part_at parts k).bytes → length (part_at parts k).bytes ≤ n
    → read_of parts (suc k) 0 ≡ read_of parts k n
passed [] k n there within whole = absurd (omega arith)
passed (part ∷ []) zero n there within whole = append-nil part.bytes ∙ sym (take_all n part.bytes whole)
passed (part ∷ p ∷ parts) zero n there within whole = append-nil part.bytes ∙ sym (take_all n part.bytes whole)
passed (part ∷ parts) (suc k) n there within whole = ap (λ l. part.bytes ++ l) (passed parts k n (omega arith) within whole)

-- Behind a part whose filled bytes leave no room the same bytes were read.
pub passed_read : (parts : Parts) (k n : ℕ) → k < length parts → IsParts parts → n ≤ length (part_at parts k).bytes
    → (part_at parts k).total ≤ n → read_of parts (k + 1) 0 ≡ read_of parts k n
passed_read parts k n there are within whole = rw add-one
    (passed parts k n there within (omega (arith, are.fit k (record { bytes = []; total = 0 }) there, within, whole)))

-- Behind a part that is full all parts are full.
full-next : (parts : Parts) (k : ℕ) → k < length parts → AreFullBefore parts k → length (part_at parts k).bytes ≡ (part_at parts k).total
    → AreFullBefore parts (suc k)
full-next [] k there full is = absurd (omega arith)
full-next (part ∷ []) zero there full is = (is, tt)
full-next (part ∷ p ∷ parts) zero there full is = (is, tt)
full-next (part ∷ parts) (suc k) there full is = (full.0, full-next parts k (omega arith) full.1 is)

-- And all parts before the next are full.
pub passed_full : (parts : Parts) (k n : ℕ) → k < length parts → IsParts parts → AreFullBefore parts k
    → n ≤ length (part_at parts k).bytes → (part_at parts k).total ≤ n → AreFullBefore parts (k + 1)
passed_full parts k n there are full within whole = rw add-one
    (full-next parts k there full (omega (arith, are.fit k (record { bytes = []; total = 0 }) there, within, whole)))

-- Behind all parts all their bytes were read.
pub all_read : (parts : Parts) (k n : ℕ) → length parts ≤ k → read_of parts k n ≡ concat (bytes_of parts)
all_read [] k n behind = refl
all_read (part ∷ parts) zero n behind = absurd (omega arith)
all_read (part ∷ parts) (suc k) n behind = ap (λ l. part.bytes ++ l) (all_read parts k n (omega arith))

-- And all are full.
pub all_full : (parts : Parts) (k : ℕ) → length parts ≤ k → AreFullBefore parts k → AreFull parts
all_full [] k behind full = All-nil (λ part. length part.bytes ≡ part.total)
all_full (part ∷ parts) zero behind full = absurd (omega arith)
all_full (part ∷ parts) (suc k) behind full = All-cons (λ part. length part.bytes ≡ part.total) part parts full.0
    (all_full parts k (omega arith) full.1)

-- What parts that are full leave to be read.
pub ruleset passing = (passed_read, passed_full, all_read, all_full)

-- Bytes stored behind the filled ones of a part were read behind those that were.
pub put_read : (parts : Parts) (k at n : ℕ) (got : List ℕ) → k < length parts → at ≤ length (part_at parts k).bytes → n ≡ length got
    → read_of (part_put parts k at got) k (at + n) ≡ read_of parts k at ++ got
put_read [] k at n got there within long = absurd (omega arith)
put_read (part ∷ parts) zero at n got there within long =
    take_all (at + n) (take at part.bytes ++ got) (omega (arith, length-append (take at part.bytes) got, length-take at part.bytes, long))
put_read (part ∷ parts) (suc k) at n got there within long =
    ap (λ l. part.bytes ++ l) (put_read parts k at n got (omega arith) within long) ∙ sym (append_assoc part.bytes (read_of parts k at) got)

-- The parts before stay full.
pub put_full : (parts : Parts) (k at : ℕ) (got : List ℕ) → AreFullBefore parts k → AreFullBefore (part_put parts k at got) k
put_full [] k at got full = tt
put_full (part ∷ parts) zero at got full = tt
put_full (part ∷ parts) (suc k) at got full = (full.0, put_full parts k at got full.1)

-- The rooms stay.
pub put_rooms : (parts : Parts) (k at : ℕ) (got : List ℕ) → rooms (part_put parts k at got) ≡ rooms parts
put_rooms [] k at got = refl
put_rooms (part ∷ parts) zero at got = refl
put_rooms (part ∷ parts) (suc k) at got = ap (λ l. part.total ∷ l) (put_rooms parts k at got)

-- Before the first part there is none.
pub none_before : (parts : Parts) → AreFullBefore parts 0
none_before [] = tt
none_before (part ∷ parts) = tt

-- A place with room has fewer bytes before it than there are rooms.
read_less : (parts : Parts) (k n : ℕ) → k < length parts → AreFullBefore parts k → n < (part_at parts k).total
    → length (read_of parts k n) < rooms_of parts
read_less [] k n there full less = absurd (omega arith)
read_less (part ∷ parts) zero n there full less =
    let here : n < part.total = less in
    let sum = sum_by-cons (λ (p : Rented). p.total) part parts in
    omega (arith, length-take n part.bytes, here, sum)
read_less (part ∷ parts) (suc k) n there full less =
    let behind = read_less parts k n (omega arith) full.1 less in
    let sum = sum_by-cons (λ (p : Rented). p.total) part parts in
    omega (arith, length-append part.bytes (read_of parts k n), full.0, behind, sum)

-- A read of parts at a place.
abbrev pub scatter_at : Parts → ℕ → ℕ → ℕ → Scattering
scatter_at parts part filled total = record { parts = parts; part = part; filled = filled; total = total }

-- Where all parts are full, the read is done.
pub ends_full : (tells : Bool) (before now : Reader) (got : List ℕ) (s : Scattering) (parts back : Parts) (part filled total : ℕ)
    → scatter_at parts part filled total ≡ s → concat (bytes_of back) ≡ read_of parts part filled ++ got → AreFull back
    → rooms back ≡ rooms parts → WasFront tells before.left got now.left → Gave tells before now (IsScattered s back total)
ends_full tells before now got s parts back part filled total is read full same front = record {
  got = got;
  is = record {
    is_read = read ∙ ap (λ x. has_read x ++ got) is;
    full = full;
    same_rooms = same ∙ ap (λ x. rooms x.parts) is;
    total = ap (λ x. x.total) is;
  };
  front = front;
}

-- A count of what moved none of some bytes rose.
rose_of : (before now : ℕ) → ◌≡◌ {A = ℕ} 1 0 ⊎ Rose before now → Rose before now
rose_of before now (inl is) = absurd cc
rose_of before now (inr rose) = rose

module _ (tells : Bool) (before now : Reader) (s : Scattering) (parts back : Parts) (part filled total into at n : ℕ)
    (is : scatter_at parts part filled total ≡ s) (here : IsRoom parts part filled into at)
    (taken : PartTaken tells before.left now.left parts back into at n) where
  -- A read of no byte into the part at a place with room is the stream's end.
  pub ends_early : n ≡ 0 → (n ≡ 0 → ◌≡◌ {A = ℕ} 1 0 ⊎ Rose before.counts.zeros now.counts.zeros)
      → (IsTrue tells → before.left ≡ now.left) × ScatterEndsEarly tells before now s back UnexpectedEof
  ends_early none counted =
      let nothing : taken.got ≡ [] = nil_from_length taken.got (taken.count ∙ none) in
      let held = ap (λ x. x.parts) is in
      let read : read_of parts into at ≡ has_read s = here.same ∙ ap has_read is in
      let still : IsTrue tells → before.left ≡ now.left = λ t. taken.front t ∙ ap (λ l. l ++ now.left) nothing in
      let less = read_less parts into at here.there here.full here.room in (
        still,
        record {
          into = into;
          at = at;
          early = (refl, (λ t. sym (still t) ∙ taken.at_end t none), rose_of _ _ (counted none));
          more = subst (λ l. at < (part_at l into).total) held here.room;
          lacks = subst (λ l. length (has_read s) < rooms_of l) held (omega (arith, less, ap length read));
          same_read = subst (λ l. read_of l into at ≡ has_read s) held read;
          nothing = taken.is_put ∙ ap (part_put parts into at) nothing ∙ ap (λ l. part_put l into at []) held;
        },
      )

  -- Its rooms stay.
  taken_rooms : rooms back ≡ rooms parts
  taken_rooms = ap rooms taken.is_put ∙ put_rooms parts into at taken.got

  -- The bytes that were read are those before and those that it read.
  taken_read : read_of back into (at + n) ≡ read_of parts part filled ++ taken.got
  taken_read = ap (λ l. read_of l into (at + n)) taken.is_put ∙ put_read parts into at n taken.got here.there here.within (sym taken.count)
      ∙ ap (λ l. l ++ taken.got) here.same

  -- It is done where no place behind has room.
  pub step_ends : NextRoom back into (at + n) None → Gave tells before now (IsScattered s back total)
  step_ends full =
      ends_full tells before now taken.got s parts back part filled total is (full.0 ∙ taken_read) full.1 taken_rooms taken.front

  -- And more are to come, where one has.
  pub step_goes_on : (k m : ℕ) → IsRoom back into (at + n) k m → n ≢ 0
      → Gave tells before now (ScatterGoesOn s (scatter_at back k m total))
  step_goes_on k m next some = record {
    got = taken.got;
    is = record {
      some = omega (arith, taken.count, some);
      into = into;
      at = at;
      is_put = taken.is_put ∙ ap (λ x. part_put x.parts into at taken.got) is;
      adds = record {
        is_read = next.same ∙ taken_read ∙ ap (λ x. has_read x ++ taken.got) is;
        same_rooms = taken_rooms ∙ ap (λ x. rooms x.parts) is;
        same_total = ap (λ x. x.total) is;
      };
      more = read_less back k m next.there next.full next.room;
    };
    front = taken.front;
  }
