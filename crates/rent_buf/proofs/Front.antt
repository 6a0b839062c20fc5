-- Storing bytes in parts from the first one on: what a step of the walk leaves.
use Rattle.std.proofs.Common.{◌≡◌, ◌∙◌, ℕ, suc, ◌+◌, ◌<◌, List, [], ◌∷◌, ◌++◌, length, take, drop, refl, ap, sym, arith, add-one}
use Rattle.std.specs.Prelude.{slice_set}
use Rattle.std.proofs.lemmas.Bool.{lt-leb}
use Rattle.std.proofs.Math.Seq.{drop-cons}
use Rattle.std.proofs.lemmas.List.{set_split}
use Rattle.rent_buf.specs.Rent.{Rented}
use Rattle.rent_buf.specs.Parts.{Parts, part_at, part_put, parts_stored, last_stored}

-- the parts from one on: it, and those behind it
pub drop-part : (parts : Parts) (i : ℕ) → i < length parts → drop i parts ≡ part_at parts i ∷ drop (i + 1) parts
drop-part parts i there = rw add-one (drop-cons parts i (record { bytes = []; total = 0 }) there)

-- a part whose room is greater than what is left is the last that is stored in
last : (part : Rented) (parts : Parts) (s : List ℕ) → length s < part.total → parts_stored (part ∷ parts) s ≡ last_stored part parts s
last part parts s less = rw (lt-leb part.total (length s) less) refl

-- where something is left, that part gets it
last-some : (part : Rented) (parts : Parts) (s : List ℕ) → 0 < length s → last_stored part parts s ≡ record part { bytes = s } ∷ parts
last-some part parts [] some = absurd (omega arith)
last-some part parts (byte ∷ s) some = refl

-- the first part whose room is greater than what is left gets that
pub stored-last : (parts : Parts) (i : ℕ) (s : List ℕ) → i < length parts → length s < (part_at parts i).total → 0 < length s
    → take i parts ++ parts_stored (drop i parts) s ≡ part_put parts i 0 s
stored-last parts i s there less some =
    let part : Rented = record (part_at parts i) { bytes = s } in
    let split : slice_set parts i part ≡ take i parts ++ part ∷ drop (suc i) parts = set_split parts i part there in
    ap (λ (l : Parts). take i parts ++ parts_stored l s) (drop-part parts i there)
    ∙ ap (λ (l : Parts). take i parts ++ l)
    (last (part_at parts i) (drop (i + 1) parts) s less ∙ last-some (part_at parts i) (drop (i + 1) parts) s some)
    ∙ ap (λ (n : ℕ). take i parts ++ part ∷ drop n parts) (add-one i) ∙ sym split
