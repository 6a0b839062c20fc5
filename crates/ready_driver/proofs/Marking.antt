-- Marks of the handles that are due: how many they are, and what setting one does.
use Rattle.std.proofs.Common.{◌≡◌, ◌∙◌, inl, inr, ℕ, zero, suc, ◌<◌, ◌≤◌, Bool, true, false, ◌||◌, List, [], ◌∷◌, ◌++◌}
use Rattle.std.proofs.Common.{◌+◌, length, get_or, set, refl, sym, ap, arith}
use Rattle.std.proofs.Math.Bool.{or-true, or-false}
use Rattle.driver_core.proofs.Distinct.{has-one_more, equal-is}
use Rattle.std.proofs.lemmas.List.{get_or-set_same, get_or-set_other, length-append, length-set}
use Rattle.machine.proofs.Numbers.{same-or-not, equal-other}
use Rattle.machine.specs.Lists.{has_number}
use Rattle.ready_driver.specs.Due.{trues, IsMarked}

-- No more are marked than there are marks.
pub trues-few : (marks : List Bool) → trues marks ≤ length marks
trues-few [] = omega arith
trues-few (true ∷ marks) = let few = trues-few marks in omega (arith, few)
trues-few (false ∷ marks) = let few = trues-few marks in omega (arith, few)

-- Fewer are, where one isn't.
pub trues-fewer : (marks : List Bool) (n : ℕ) → n < length marks → get_or marks n false ≡ false → trues marks < length marks
trues-fewer [] n in_range unmarked = absurd (omega (arith, in_range))
trues-fewer (false ∷ marks) zero in_range unmarked = let few = trues-few marks in omega (arith, few)
trues-fewer (true ∷ marks) zero in_range unmarked = cc
trues-fewer (true ∷ marks) (suc n) in_range unmarked =
    let fewer = trues-fewer marks n (omega (arith, in_range)) unmarked in omega (arith, fewer)
trues-fewer (false ∷ marks) (suc n) in_range unmarked =
    let fewer = trues-fewer marks n (omega (arith, in_range)) unmarked in omega (arith, fewer)

-- One more is marked.
pub trues-set : (marks : List Bool) (n : ℕ) → n < length marks → get_or marks n false ≡ false → trues (set marks n true) ≡ suc (trues marks)
trues-set [] n in_range unmarked = absurd (omega (arith, in_range))
trues-set (false ∷ marks) zero in_range unmarked = refl
trues-set (true ∷ marks) zero in_range unmarked = cc
trues-set (true ∷ marks) (suc n) in_range unmarked = ap suc (trues-set marks n (omega (arith, in_range)) unmarked)
trues-set (false ∷ marks) (suc n) in_range unmarked = trues-set marks n (omega (arith, in_range)) unmarked

-- A further mark that isn't set marks nothing.
unmarked-end : (marks : List Bool) (h : ℕ) → get_or (marks ++ false ∷ []) h false ≡ get_or marks h false
unmarked-end [] zero = refl
unmarked-end [] (suc h) = refl
unmarked-end (mark ∷ marks) zero = refl
unmarked-end (mark ∷ marks) (suc h) = unmarked-end marks h

-- It counts nothing.
trues-end : (marks : List Bool) → trues (marks ++ false ∷ []) ≡ trues marks
trues-end [] = refl
trues-end (true ∷ marks) = ap suc (trues-end marks)
trues-end (false ∷ marks) = trues-end marks

-- Where no mark is set, none is.
trues-none : (marks : List Bool) → ((h : ℕ) → get_or marks h false ≡ false) → trues marks ≡ 0
trues-none [] none = refl
trues-none (true ∷ marks) none = (let first = none 0 in cc)
trues-none (false ∷ marks) none = trues-none marks (λ h. none (suc h))

-- There is room for a handle that isn't marked.
pub room-unmarked : (handles : List ℕ) (marks : List Bool) (room n : ℕ) → IsMarked handles marks room → n < length marks →
    get_or marks n false ≡ false → length handles < room
room-unmarked handles marks room n all in_range unmarked =
    let fewer = trues-fewer marks n in_range unmarked in
    let once = all.once in
    let fits = all.fits in
    omega (arith, fewer, once, fits)

-- A handle that wasn't marked is, and is the last that is due.
pub marked-added : (handles : List ℕ) (marks : List Bool) (room n : ℕ) → IsMarked handles marks room → n < length marks →
    get_or marks n false ≡ false → IsMarked (handles ++ n ∷ []) (set marks n true) room
marked-added handles marks room n all in_range unmarked = record {
  marked = λ h. elim (same-or-not h n) [
    | inl e ↦ ap (λ k. get_or (set marks n true) k false) e ∙ get_or-set_same marks n true false in_range
        ∙ sym (has-one_more h n handles ∙ ap (λ b. has_number h handles || b) (equal-is h n e) ∙ or-true (has_number h handles))
    | inr e ↦ get_or-set_other marks n h true false e ∙ all.marked h
        ∙ sym (has-one_more h n handles ∙ ap (λ b. has_number h handles || b) (equal-other h n e) ∙ or-false (has_number h handles))
  ];
  once = (let same = length-append handles (n ∷ []) in let once = all.once in let more = trues-set marks n in_range unmarked in
      omega (arith, same, once, more));
  fits = (let same = length-set marks n true in let fits = all.fits in omega (arith, same, fits));
}

-- One handle more, which isn't marked.
pub marked-grown : (handles : List ℕ) (marks : List Bool) (room more : ℕ) → IsMarked handles marks room → length marks + 1 ≤ more →
    IsMarked handles (marks ++ false ∷ []) more
marked-grown handles marks room more all fits = record {
  marked = λ h. unmarked-end marks h ∙ all.marked h;
  once = all.once ∙ sym (trues-end marks);
  fits = (let same = length-append marks (false ∷ []) in omega (arith, same, fits));
}

-- Where nothing is marked nothing is due.
pub marked-none : (marks : List Bool) (room : ℕ) → ((h : ℕ) → get_or marks h false ≡ false) → length marks ≤ room → IsMarked [] marks room
marked-none marks room none fits = record { marked = none; once = sym (trues-none marks none); fits = fits }
