-- Where the bytes up to a delimiter end.
use Rattle.std.proofs.Common.{◌≡◌, ◌≢◌, ℕ, zero, suc, ◌+◌, ◌<◌, List, [], ◌∷◌, length, take, true, ap, arith, add-one, eqb-true}
use Rattle.std.proofs.Common.{eq-eqb, subst, sym}
use Rattle.std.proofs.Math.Seq.{take-length}
use Rattle.std.specs.Prelude.{◌==◌, slice_index}
use Rattle.std.proofs.lemmas.List.Elements.{All-nil, All-cons}
use Rattle.rent_io.specs.ReadUntil.{Lacks, IsLine}

-- A byte more in front, which isn't the delimiter.
line-cons : (d x : ℕ) (line : List ℕ) → x ≢ d → IsLine d line → IsLine d (x ∷ line)
line-cons d x line differs is = record {
  before = x ∷ is.before;
  others = All-cons (λ byte. byte ≢ d) x is.before differs is.others;
  ends = ap (λ l. x ∷ l) is.ends;
}

-- The bytes up to and with the first that is the delimiter are a line.
line_upto : (d : ℕ) (xs : List ℕ) (k : ℕ) → k < length xs → ((j : ℕ) → j < k → (slice_index xs j == d) ≡ true → ⊥)
    → (slice_index xs k == d) ≡ true → IsLine d (take (suc k) xs)
line_upto d [] k there before here = absurd (omega arith)
line_upto d (x ∷ xs) zero there before here = record
    { before = []; others = All-nil (λ byte. byte ≢ d); ends = ap (λ y. y ∷ []) (eqb-true x d here) }
line_upto d (x ∷ xs) (suc k) there before here =
    line-cons d x (take (suc k) xs) (λ same. before 0 (omega arith) (eq-eqb x d same))
    (line_upto d xs k (omega arith) (λ j less e. before (suc j) (omega arith) e) here)

-- The same, by the number of the bytes.
pub line_at : (d : ℕ) (xs : List ℕ) (k : ℕ) → k < length xs → ((j : ℕ) → j < k → (slice_index xs j == d) ≡ true → ⊥)
    → (slice_index xs k == d) ≡ true → IsLine d (take (k + 1) xs)
line_at d xs k there before here = rw add-one (line_upto d xs k there before here)

-- Where no byte is the delimiter, all lack it.
lacks : (d : ℕ) (xs : List ℕ) → ((j : ℕ) → j < length xs → (slice_index xs j == d) ≡ true → ⊥) → Lacks d xs
lacks d [] none = All-nil (λ byte. byte ≢ d)
lacks d (x ∷ xs) none = All-cons (λ byte. byte ≢ d) x xs (λ same. none 0 (omega arith) (eq-eqb x d same))
    (lacks d xs (λ j less e. none (suc j) (omega arith) e))

-- Also where they are cut to their number.
pub lacks_all : (d : ℕ) (xs : List ℕ) → ((j : ℕ) → j < length xs → (slice_index xs j == d) ≡ true → ⊥) → Lacks d (take (length xs) xs)
lacks_all d xs none = subst (Lacks d) (sym (take-length xs)) (lacks d xs none)
