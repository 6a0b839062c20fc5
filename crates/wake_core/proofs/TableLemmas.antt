-- Lemmas on tables by number, and on the senders in one.
use Rattle.std.proofs.Common.{◌≡◌, ℕ, zero, suc, ◌+◌, ◌<◌, ◌≤◌, ◌≢◌, List, [], ◌∷◌, ◌++◌, length, map, get_or, refl, ap, arith, slice_set}
use Rattle.std.proofs.Common.{replicate, sum_by, subst, sym, inl, inr}
use Rattle.std.proofs.lemmas.Bool.Decides.{eqb_tells}
use Rattle.std.proofs.lemmas.List.Sums.{sum_by-cons}
use Rattle.wake_core.specs.SenderState.{SenderState, new_sender, all_drained}
use Rattle.wake_core.specs.SenderTable.{entry_of, with_entry, sender_of, with_sender, total_pushed, total_drained}

-- a look-up with a default is the entry with that number
pub get_or-entry_of : {X : Type 0} (d : X) (xs : List X) (s : ℕ) → get_or xs s d ≡ entry_of d xs s
get_or-entry_of d [] s = refl
get_or-entry_of d (x ∷ xs) zero = refl
get_or-entry_of d (x ∷ xs) (suc s) = get_or-entry_of d xs s

-- in a place, whatever the default
pub get_or-placed : {X : Type 0} (d e : X) (xs : List X) (s : ℕ) → s < length xs → get_or xs s e ≡ entry_of d xs s
get_or-placed d e [] s placed = absurd (omega arith)
get_or-placed d e (x ∷ xs) zero placed = refl
get_or-placed d e (x ∷ xs) (suc s) placed = get_or-placed d e xs s (omega arith)

-- past the end stands what stands for nothing
pub entry_of-past : {X : Type 0} (d : X) (xs : List X) (s : ℕ) → length xs ≤ s → entry_of d xs s ≡ d
entry_of-past d [] s past = refl
entry_of-past d (x ∷ xs) zero past = absurd (omega arith)
entry_of-past d (x ∷ xs) (suc s) past = entry_of-past d xs s (omega arith)

-- a write in a place
pub slice_set-with_entry : {X : Type 0} (d : X) (xs : List X) (s : ℕ) (v : X) → s < length xs → slice_set xs s v ≡ with_entry d xs s v
slice_set-with_entry d [] s v placed = absurd (omega arith)
slice_set-with_entry d (x ∷ xs) zero v placed = refl
slice_set-with_entry d (x ∷ xs) (suc s) v placed = ap (λ ys. x ∷ ys) (slice_set-with_entry d xs s v (omega arith))

-- a write past the end of an empty table, over empty entries up to there
replicate-with_entry : {X : Type 0} (d : X) (k : ℕ) (v : X) → replicate k d ++ v ∷ [] ≡ with_entry d [] k v
replicate-with_entry d zero v = refl
replicate-with_entry d (suc k) v = ap (λ ys. d ∷ ys) (replicate-with_entry d k v)

-- a write past the end, over empty entries up to there
pub append-with_entry : {X : Type 0} (d : X) (xs : List X) (s k : ℕ) (v : X) → s ≡ length xs + k
    → (xs ++ replicate k d) ++ v ∷ [] ≡ with_entry d xs s v
append-with_entry d [] s k v past = let same : s ≡ k = omega arith in rw same (replicate-with_entry d k v)
append-with_entry d (x ∷ xs) zero k v past = absurd (omega arith)
append-with_entry d (x ∷ xs) (suc s) k v past = ap (λ ys. x ∷ ys) (append-with_entry d xs s k v (omega arith))

-- what was written is there
pub entry_of-written : {X : Type 0} (d : X) (xs : List X) (s : ℕ) (v : X) → entry_of d (with_entry d xs s v) s ≡ v
entry_of-written d [] zero v = refl
entry_of-written d [] (suc s) v = entry_of-written d [] s v
entry_of-written d (x ∷ xs) zero v = refl
entry_of-written d (x ∷ xs) (suc s) v = entry_of-written d xs s v

-- the other entries stay
pub entry_of-other : {X : Type 0} (d : X) (xs : List X) (s t : ℕ) (v : X) → t ≢ s → entry_of d (with_entry d xs s v) t ≡ entry_of d xs t
entry_of-other d [] zero zero v differ = absurd (differ refl)
entry_of-other d [] zero (suc t) v differ = refl
entry_of-other d [] (suc s) zero v differ = refl
entry_of-other d [] (suc s) (suc t) v differ = entry_of-other d [] s t v (λ e. differ (ap suc e))
entry_of-other d (x ∷ xs) zero zero v differ = absurd (differ refl)
entry_of-other d (x ∷ xs) zero (suc t) v differ = refl
entry_of-other d (x ∷ xs) (suc s) zero v differ = refl
entry_of-other d (x ∷ xs) (suc s) (suc t) v differ = entry_of-other d xs s t v (λ e. differ (ap suc e))

-- the sender that was written is there
pub sender_of-written : (xs : List SenderState) (s : ℕ) (v : SenderState) → sender_of (with_sender xs s v) s ≡ v
sender_of-written xs s v = entry_of-written new_sender xs s v

-- the other senders stay
pub sender_of-other : (xs : List SenderState) (s t : ℕ) (v : SenderState) → t ≢ s → sender_of (with_sender xs s v) t ≡ sender_of xs t
sender_of-other xs s t v differ = entry_of-other new_sender xs s t v differ

-- what holds of a written sender, and of each other sender as it was, holds of each
pub each_sender : (P : ℕ → SenderState → Type 0) (xs : List SenderState) (s : ℕ) (v : SenderState) → P s v
    → ((u : ℕ) → u ≢ s → P u (sender_of xs u)) → (u : ℕ) → P u (sender_of (with_sender xs s v) u)
each_sender P xs s v here others u =
    let Q : ℕ → Type 0 = λ u. P u (sender_of (with_sender xs s v) u) in
    elim (eqb_tells u s) [
      | inl e ↦ subst Q (sym e.1) (subst (P s) (sym (sender_of-written xs s v)) here)
      | inr e ↦ subst (P u) (sym (sender_of-other xs s u v e.1)) (others u e.1)
    ]

-- the sum of a count that a new sender has at 0
pub sum_by-with_sender : (f : SenderState → ℕ) (xs : List SenderState) (s : ℕ) (v : SenderState) → f new_sender ≡ 0
    → sum_by f (with_sender xs s v) + f (sender_of xs s) ≡ sum_by f xs + f v
sum_by-with_sender f [] zero v none = omega arith
sum_by-with_sender f [] (suc s) v none = omega (arith, sum_by-cons f new_sender (with_sender [] s v), sum_by-with_sender f [] s v none)
sum_by-with_sender f (x ∷ xs) zero v none = omega (arith, sum_by-cons f v xs, sum_by-cons f x xs)
sum_by-with_sender f (x ∷ xs) (suc s) v none =
    omega (arith, sum_by-cons f x (with_sender xs s v), sum_by-cons f x xs, sum_by-with_sender f xs s v none)

-- each sender after a drain
pub sender_of-map : (xs : List SenderState) (s : ℕ) → sender_of (map all_drained xs) s ≡ all_drained (sender_of xs s)
sender_of-map [] s = refl
sender_of-map (x ∷ xs) zero = refl
sender_of-map (x ∷ xs) (suc s) = sender_of-map xs s

-- how many wakers a sender pushed
abbrev pushed_of : SenderState → ℕ
pushed_of v = v.pushed

-- how many wakers of a sender were drained
abbrev drained_of : SenderState → ℕ
drained_of v = v.drained

-- after a drain, all that was pushed was drained
pub total_drained-map : (xs : List SenderState) → total_drained (map all_drained xs) ≡ total_pushed xs
total_drained-map [] = refl
total_drained-map (x ∷ xs) =
    omega (arith, sum_by-cons drained_of (all_drained x) (map all_drained xs), sum_by-cons pushed_of x xs, total_drained-map xs)

-- a drain pushes nothing
pub total_pushed-map : (xs : List SenderState) → total_pushed (map all_drained xs) ≡ total_pushed xs
total_pushed-map [] = refl
total_pushed-map (x ∷ xs) =
    omega (arith, sum_by-cons pushed_of (all_drained x) (map all_drained xs), sum_by-cons pushed_of x xs, total_pushed-map xs)

-- where each sender's wakers were all drained, the totals are equal
pub total_drained-equal : (xs : List SenderState) → ((s : ℕ) → (sender_of xs s).drained ≡ (sender_of xs s).pushed)
    → total_drained xs ≡ total_pushed xs
total_drained-equal [] same = refl
total_drained-equal (x ∷ xs) same =
    omega (arith, sum_by-cons drained_of x xs, sum_by-cons pushed_of x xs, same 0, total_drained-equal xs (λ s. same (suc s)))
