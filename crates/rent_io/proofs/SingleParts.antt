-- What a store in one part leaves of the others.
use Rattle.std.proofs.Common.{◌≡◌, ◌∙◌, ℕ, zero, suc, ◌+◌, ◌<◌, List, [], ◌∷◌, ◌++◌, length, take, drop, refl, sym, ap}
use Rattle.std.proofs.Common.{subst, arith, zero-add, Bool, inl, inr}
use Rattle.std.specs.Prelude.{slice_index_or, slice_set, IsTrue, Result, Ok, Err}
use Rattle.std.proofs.Math.ListN.{get_or-map}
use Rattle.std.proofs.lemmas.List.{length-map, get_or-set_same, set-get_or}
use Rattle.rent_buf.specs.Buffer.{BufferBounds, put}
use Rattle.rent_buf.specs.Rent.{Rented, buffer_of_rent}
use Rattle.rent_buf.specs.SliceMut.{Sliced, sliced, whole}
use Rattle.rent_buf.specs.declared.fault.IoFault.{IoFault}
use Rattle.rent_io.specs.declared.poll.PollBuf.TheVariants.{Ready}
use Rattle.rent_buf.specs.Parts.{Parts, IsParts, bytes_of, part_at, part_put}
use Rattle.rent_io.specs.Reader.{Taken, Reads}
use Rattle.rent_io.specs.PartRoom.{buffer_at, blank, others, PartTaken, ReadsPart}

-- There are as many lists of bytes as parts.
pub length_bytes : (parts : Parts) → length (bytes_of parts) ≡ length parts
length_bytes parts = length-map parts (λ part. part.bytes)

-- The bytes of a part.
pub bytes_at : (parts : Parts) (k : ℕ) → slice_index_or (bytes_of parts) k [] ≡ (part_at parts k).bytes
bytes_at parts k = get_or-map (λ part. part.bytes) parts k blank

-- Bytes stored in a part are put into its buffer.
pub at_put : (parts : Parts) (k at : ℕ) (s : List ℕ) → k < length parts
    → buffer_at (part_put parts k at s) k ≡ put (buffer_at parts k) (0 + at) s
at_put parts k at s there =
    ap buffer_of_rent (get_or-set_same parts k (record (part_at parts k) { bytes = take at (part_at parts k).bytes ++ s }) blank there)
    ∙ ap (λ n. put (buffer_at parts k) n s) (sym (zero-add at))

-- A part that is set twice is what it was set to last.
set-set : (parts : Parts) (k : ℕ) (x y : Rented) → slice_set (slice_set parts k x) k y ≡ slice_set parts k y
set-set [] k x y = refl
set-set (part ∷ parts) zero x y = refl
set-set (part ∷ parts) (suc k) x y = ap (λ l. part ∷ l) (set-set parts k x y)

-- What stands in one part leaves the others.
pub others_set : (parts : Parts) (k : ℕ) (x : Rented) → others (slice_set parts k x) k ≡ others parts k
others_set parts k x = set-set parts k x blank

-- A part keeps the bounds of a buffer.
pub bounds_at : (parts : Parts) (k : ℕ) → IsParts parts → k < length parts → BufferBounds (buffer_at parts k)
bounds_at parts k are there = record {
  fits = are.fit k blank there;
  ordered = omega arith;
  within = omega arith;
  inside = omega arith;
  full = tt;
}

-- Parts are known by the number of one, that one, and the others.
known : (parts back : Parts) (k k' : ℕ) (part : Rented) → k' ≡ k → others back k' ≡ others parts k → part_at back k' ≡ part
    → back ≡ slice_set parts k part
known parts back k k' part number rest here =
    sym (set-get_or back k' blank)
    ∙ ap (slice_set back k') here
    ∙ sym (set-set back k' blank part)
    ∙ ap (λ (l : Parts). slice_set l k' part) rest
    ∙ ap (λ (n : ℕ). slice_set (slice_set parts k blank) n part) number
    ∙ set-set parts k blank part

-- A part of the same bytes and the same room is the same.
part-same : (p q : Rented) → p.bytes ≡ q.bytes → p.total ≡ q.total → p ≡ q
part-same p q bytes total =
    let make : List ℕ → ℕ → Rented = λ b n. record { bytes = b; total = n } in
    ap (λ b. make b p.total) bytes ∙ ap (make q.bytes) total

-- A part's range from a place on, as a slice: its place among the parts lies under it, and the other parts beside it.
abbrev pub part_cut : Parts → ℕ → ℕ → ℕ → Sliced
part_cut parts k at end = sliced (buffer_at parts k) ((k, k + 1) ∷ []) (others parts k) at end

-- What the way back from a slice to a vector tells: the part, its number and the others.
pub record WayBack (slice : Sliced) (back : Parts) (k : ℕ) : Type 0 where
  pub whole_is : buffer_at back k ≡ whole slice.buffer slice.under
  pub place_is : (k, k + 1) ∷ [] ≡ drop 1 slice.under
  pub others_is : others back k ≡ slice.beside

-- A number is the start of its place among the parts.
place-start : (k k' : ℕ) (ranges : List (ℕ × ℕ)) → (k', k' + 1) ∷ [] ≡ ranges → ranges ≡ (k, k + 1) ∷ [] → k' ≡ k
place-start k k' ranges here there =
    let none : ℕ × ℕ = (0, 0) in
    ap (λ (l : List (ℕ × ℕ)). (slice_index_or l 0 none).0) (here ∙ there)

-- A read into a part's range is a read into the part.
taken_part : (tells : Bool) (left rest : List ℕ) (parts back : Parts) (k k' at end n : ℕ) (slice : Sliced)
    → end ≡ (part_at parts k).total → at < end → WayBack slice back k'
    → Taken tells left rest (part_cut parts k at end).buffer slice.buffer n
    → slice.under ≡ (part_cut parts k at end).under → slice.beside ≡ others parts k → PartTaken tells left rest parts back k at n
taken_part tells left rest parts back k k' at end n slice is_total some way taken under beside =
    let part = part_at parts k in
    let all = way.whole_is ∙ ap (whole slice.buffer) under in
    let bytes : (part_at back k').bytes ≡ take at part.bytes ++ taken.got =
    ap (λ b. b.bytes) all ∙ ap (λ b. b.bytes) taken.is_stored ∙ ap (λ i. take i part.bytes ++ taken.got) (zero-add at) in
    let total : (part_at back k').total ≡ part.total = ap (λ b. b.total) all ∙ ap (λ b. b.total) taken.is_stored in
    let here = part-same (part_at back k') (record part { bytes = take at part.bytes ++ taken.got }) bytes total in
    record {
      got = taken.got;
      count = taken.count;
      fits = omega (arith, taken.fits, is_total, some);
      is_put = known parts back k k' (record part { bytes = take at part.bytes ++ taken.got })
          (place-start k k' (drop 1 slice.under) way.place_is (ap (drop 1) under)) (way.others_is ∙ beside) here;
      front = taken.front;
      at_end = λ t none. elim (taken.at_end t none) [ inl no_room ↦ absurd (omega (arith, no_room, some)) | inr end ↦ end ];
    }

-- A part's range that comes back as it was is the vector as it was.
kept_part : (parts back : Parts) (k k' at end : ℕ) (slice : Sliced) → WayBack slice back k' → slice ≡ part_cut parts k at end → back ≡ parts
kept_part parts back k k' at end slice way is =
    let all : buffer_at back k' ≡ buffer_at parts k = way.whole_is ∙ ap (λ s. whole s.buffer s.under) is in
    let here = part-same (part_at back k') (part_at parts k) (ap (λ b. b.bytes) all) (ap (λ b. b.total) all) in
    let number = place-start k k' (drop 1 slice.under) way.place_is (ap (λ s. drop 1 s.under) is) in
    known parts back k k' (part_at parts k) number (way.others_is ∙ ap (λ s. s.beside) is) here ∙ set-get_or parts k blank

-- A poll of a read into a part's range, that is ready, is a poll of a read into the part.
pub ready_part : {T : Type 0} (tells : Bool) (left rest : List ℕ) (held : T → Parts) (buf back : T) (k k' at end : ℕ) (new slice : Sliced)
    (outcome : Result ℕ IoFault) → WayBack slice (held back) k' → new ≡ part_cut (held buf) k at end → end ≡ (part_at (held buf) k).total
    → at < end → Reads tells left rest (λ (s : Sliced). s.buffer) (λ s. s.under) (λ s. s.beside) new (Ready outcome slice)
    → ReadsPart tells left rest held buf k at (Ready outcome back)
ready_part tells left rest held buf back k k' at end new slice (Ok n) way new_is is_total some reads =
    let taken = subst (λ (s : Sliced). Taken tells left rest s.buffer slice.buffer n) new_is reads.0 in
    taken_part tells left rest (held buf) (held back) k k' at end n slice is_total some way taken
    (reads.1 ∙ ap (λ s. s.under) new_is) (reads.2 ∙ ap (λ s. s.beside) new_is)
ready_part tells left rest held buf back k k' at end new slice (Err fault) way new_is is_total some reads =
    (kept_part (held buf) (held back) k k' at end slice way (reads.0 ∙ new_is), reads.1)

-- And one that isn't ready leaves the vector.
pub paused_part : {T : Type 0} (tells : Bool) (left rest : List ℕ) (held : T → Parts) (buf back : T) (k k' at end : ℕ) (new slice : Sliced)
    → WayBack slice (held back) k' → new ≡ part_cut (held buf) k at end → (slice ≡ new) × (IsTrue tells → left ≡ rest)
    → (held back ≡ held buf) × (IsTrue tells → left ≡ rest)
paused_part tells left rest held buf back k k' at end new slice way new_is reads =
    (kept_part (held buf) (held back) k k' at end slice way (reads.0 ∙ new_is), reads.1)
