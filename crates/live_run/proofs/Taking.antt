-- What was taken of an input.
use Rattle.std.proofs.Common.{◌≡◌, ◌∙◌, ℕ, zero, suc, ◌+◌, ◌-◌, ◌≤◌, List, [], ◌∷◌, ◌++◌, length, drop, refl, ap, sym, length-append, arith}
use Rattle.std.proofs.lemmas.List.{length-drop}
use Rattle.rent_io.specs.Call.{Took}

-- Nothing is left of nothing.
drop-none : (n : ℕ) → ◌≡◌ {A = List ℕ} (drop n []) []
drop-none zero = refl
drop-none (suc n) = refl

-- What is dropped behind what was dropped.
drop-twice : (xs : List ℕ) (m n k : ℕ) → k ≡ m + n → drop n (drop m xs) ≡ drop k xs
drop-twice [] zero n k is = (let same : n ≡ k = omega arith in ap (λ j. drop j []) same)
drop-twice [] (suc m) n k is = drop-none n ∙ sym (drop-none k)
drop-twice (x ∷ xs) zero n k is = (let same : n ≡ k = omega arith in ap (λ j. drop j (x ∷ xs)) same)
drop-twice (x ∷ xs) (suc m) n zero is = absurd (omega arith)
drop-twice (x ∷ xs) (suc m) n (suc k) is = drop-twice xs m n k (omega arith)

-- Bytes were taken, then more.
pub took-both : (all left rest : List ℕ) (m n : ℕ) → Took all left m → Took left rest n → Took all rest (m + n)
took-both all left rest m n first second = record {
  there = (
      let lengths = ap length first.taken ∙ length-drop m all in
      let one = first.there in
      let two = second.there in
      omega arith);
  taken = second.taken ∙ ap (drop n) first.taken ∙ drop-twice all m n (m + n) refl;
}

-- At first none were taken.
pub took-none : (all : List ℕ) → Took all all 0
took-none all = record { there = omega arith; taken = refl }

-- Where none are left, so many were there at most.
pub took-all : (all rest : List ℕ) (n : ℕ) → Took all rest n → rest ≡ [] → length all ≤ n
took-all all rest n took end = (
    let lengths = ap length took.taken ∙ length-drop n all in
    let none = ap length end in
    omega arith)

-- What is behind a line and its newline.
drop-line : (line behind : List ℕ) (k : ℕ) → k ≡ suc (length line) → drop k (line ++ 10 ∷ behind) ≡ behind
drop-line [] behind zero is = absurd (omega arith)
drop-line [] behind (suc k) is = (let none : k ≡ zero = omega arith in ap (λ j. drop j behind) none)
drop-line (x ∷ line) behind zero is = absurd (omega arith)
drop-line (x ∷ line) behind (suc k) is = drop-line line behind k (omega arith)

-- A text is what is left of it where none of it is gone.
pub whole-left : (text : List ℕ) → text ≡ drop (length text - length text) text
whole-left text = (let none : zero ≡ length text - length text = omega arith in ap (λ j. drop j text) none)

-- Where a line of what is left of a text is gone, what is behind it is left.
pub behind-left : (text rest line behind : List ℕ) → rest ≡ drop (length text - length rest) text → length rest ≤ length text →
    rest ≡ line ++ 10 ∷ behind → behind ≡ drop (length text - length behind) text
behind-left text rest line behind left fits is =
    let lengths = ap length is ∙ length-append line (10 ∷ behind) in
    let places : length text - length behind ≡ (length text - length rest) + suc (length line) = omega arith in
    sym (ap (drop (suc (length line))) is ∙ drop-line line behind (suc (length line)) refl)
    ∙ ap (drop (suc (length line))) left
    ∙ drop-twice text (length text - length rest) (suc (length line)) (length text - length behind) places

-- What is behind a line is shorter.
pub behind-shorter : (rest line behind : List ℕ) → rest ≡ line ++ 10 ∷ behind → length rest ≡ length line + length behind + 1
behind-shorter rest line behind is = (let lengths = ap length is ∙ length-append line (10 ∷ behind) in omega arith)
