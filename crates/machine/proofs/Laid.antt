-- Bytes that are laid over the front of others, and over some within a list.
use Rattle.std.proofs.Common.{◌≡◌, ℕ, zero, suc, ◌+◌, ◌-◌, ◌≤◌, List, [], ◌∷◌, ◌++◌, length, take, drop, replicate, min, max}
use Rattle.std.proofs.Common.{refl, sym, ◌∙◌, ap, arith, length-drop, length-append, inl, inr}
use Rattle.std.specs.List.{concat}
use Rattle.std.proofs.Math.Seq.{take-append-add, take-append_seam}
use Rattle.std.proofs.lemmas.List.{append-nil, append_assoc, length-replicate, length-take, length-take-le, take_all, take-append-le}
use Rattle.std.proofs.lemmas.List.{take-append-drop, drop-append-le, drop-drop, drop_all}
use borrow.Rule.Slice.PartMut.{put_mid, mid_of}
use Rattle.machine.specs.Effect.{overwritten}
use Rattle.machine.specs.Payloads.{laid_over}
use Rattle.machine.proofs.Joined.{take-first-joined}
use Rattle.machine.proofs.Numbers.{below-or-not}
use Rattle.machine.proofs.Written.{overwritten-within}

-- No bytes have no first ones.
take-none : (n : ℕ) → take {A = ℕ} n [] ≡ []
take-none zero = refl
take-none (suc n) = refl

-- No bytes over others leave these.
pub laid-none : (old : List ℕ) → laid_over [] old ≡ old
laid-none old = ap (λ xs. xs ++ old) (take-none (length old))

-- As many of the bytes as there is place for, and behind them what they leave.
pub laid-first : (bytes old : List ℕ) (n : ℕ) → n ≡ min (length bytes) (length old) → take n bytes ++ drop n old ≡ laid_over bytes old
laid-first [] old zero e = sym (laid-none old)
laid-first [] old (suc n) e = absurd (omega arith)
laid-first (b ∷ bytes) [] zero e = refl
laid-first (b ∷ bytes) [] (suc n) e = absurd (omega arith)
laid-first (b ∷ bytes) (x ∷ old) zero e = absurd (omega arith)
laid-first (b ∷ bytes) (x ∷ old) (suc n) e = ap (λ xs. b ∷ xs) (laid-first bytes old n (omega arith))

-- They leave as many as there were.
pub length-laid : (bytes old : List ℕ) → length (laid_over bytes old) ≡ length old
length-laid [] old = ap length (laid-none old)
length-laid (b ∷ bytes) [] = refl
length-laid (b ∷ bytes) (x ∷ old) = ap suc (length-laid bytes old)

-- Bytes and more behind them: the more are laid over what the first left.
pub laid-joined : (bytes more old : List ℕ) (n : ℕ) → n ≡ min (length old) (length bytes) →
    laid_over (bytes ++ more) old ≡ take n (laid_over bytes old) ++ laid_over more (drop n (laid_over bytes old))
laid-joined [] more old zero e = ap (laid_over more) (sym (laid-none old))
laid-joined [] more old (suc n) e = absurd (omega arith)
laid-joined (b ∷ bytes) [] [] zero e = refl
laid-joined (b ∷ bytes) (m ∷ more) [] zero e = refl
laid-joined (b ∷ bytes) more [] (suc n) e = absurd (omega arith)
laid-joined (b ∷ bytes) more (x ∷ old) zero e = absurd (omega arith)
laid-joined (b ∷ bytes) more (x ∷ old) (suc n) e = ap (λ xs. b ∷ xs) (laid-joined bytes more old n (omega arith))

-- Where the bytes fill the others, just as many of them are left.
laid-full : (bytes old : List ℕ) → length old ≤ length bytes → laid_over bytes old ≡ take (length old) bytes
laid-full bytes old full =
    ap (λ xs. take (length old) bytes ++ xs) (drop_all (length bytes) old full) ∙ append-nil (take (length old) bytes)

-- A target over which the first lists are laid, and the next list over what is behind them: all of these are laid over it.
pub laid-next : (first next old target came : List ℕ) (at : ℕ) → target ≡ laid_over first old → at ≡ min (length old) (length first) →
    came ≡ laid_over next (mid_of at (length target - at) target) →
    put_mid at (length target - at) target came ≡ laid_over (first ++ next) old
laid-next first next old target came at target_is at_is came_is =
    let behind = length-drop at target in
    let all : mid_of at (length target - at) target ≡ drop at target = take_all _ (drop at target) (omega (arith, behind)) in
    ap (λ xs. take at target ++ (came ++ xs)) (drop_all (length target - at) (drop at target) (omega (arith, behind)))
    ∙ ap (λ xs. take at target ++ xs) (append-nil came ∙ came_is ∙ ap (laid_over next) all)
    ∙ ap (λ xs. take at xs ++ laid_over next (drop at xs)) target_is
    ∙ sym (laid-joined first next old at at_is)

-- How many bytes of the first lists and the next fit the target.
pub laid-count : (first next old target : List ℕ) (at n : ℕ) → target ≡ laid_over first old → at ≡ min (length old) (length first) →
    n ≡ min (length (mid_of at (length target - at) target)) (length next) → at + n ≡ min (length old) (length (first ++ next))
laid-count first next old target at n target_is at_is n_is =
    let long = ap length target_is ∙ length-laid first old in
    let behind = length-drop at target in
    let part = length-take (length target - at) (drop at target) in
    let both = length-append first next in
    omega (arith, long, behind, part, both, at_is, n_is)

-- Once the first lists fill the target, all lists lay the same over it, and as many bytes of them fit it.
pub laid-filled : (xs : List (List ℕ)) (i : ℕ) (old : List ℕ) → length old ≤ length (concat (take i xs)) →
    (laid_over (concat (take i xs)) old ≡ laid_over (concat xs) old) × (length old ≤ length (concat xs))
laid-filled xs i old full =
    let first = take-first-joined (length old) xs i full in
    let some = length-take (length old) (concat (take i xs)) in
    let all = length-take (length old) (concat xs) in
    let same = ap length first in
    let more : length old ≤ length (concat xs) = omega (arith, full, some, all, same) in
    (laid-full (concat (take i xs)) old full ∙ first ∙ sym (laid-full (concat xs) old more), more)

-- A target that is filled: the bytes that are laid over it are as many at least.
pub laid-up-to : (first old target : List ℕ) (at : ℕ) → target ≡ laid_over first old → at ≡ min (length old) (length first) →
    at ≡ length target → length old ≤ length first
laid-up-to first old target at target_is at_is full =
    let long = ap length target_is ∙ length-laid first old in
    omega (arith, long, at_is, full)

-- So many bytes of all lists fit a target that the first lists fill.
pub laid-full-count : (xs : List (List ℕ)) (i : ℕ) (old target : List ℕ) (at : ℕ) → target ≡ laid_over (concat (take i xs)) old →
    at ≡ min (length old) (length (concat (take i xs))) → at ≡ length target → at ≡ min (length old) (length (concat xs))
laid-full-count xs i old target at target_is at_is full =
    let filled = laid-up-to (concat (take i xs)) old target at target_is at_is full in
    let all = (laid-filled xs i old filled).1 in
    omega (arith, at_is, filled, all)

-- Bytes over the first `count` of others, with those behind: the first `count` of the bytes, and the others behind these.
laid-part : (bytes old : List ℕ) (count n : ℕ) → count ≤ length old → n ≡ min count (length bytes) →
    laid_over bytes (take count old) ++ drop count old ≡ take count bytes ++ drop n old
laid-part [] old count zero le e =
    ap (λ xs. xs ++ drop count old) (laid-none (take count old)) ∙ take-append-drop count old ∙ ap (λ xs. xs ++ old) (sym (take-none count))
laid-part [] old count (suc n) le e = absurd (omega arith)
laid-part (b ∷ bytes) old zero zero le e = refl
laid-part (b ∷ bytes) old zero (suc n) le e = absurd (omega arith)
laid-part (b ∷ bytes) [] (suc count) n le e = absurd (omega arith)
laid-part (b ∷ bytes) (x ∷ old) (suc count) zero le e = absurd (omega arith)
laid-part (b ∷ bytes) (x ∷ old) (suc count) (suc n) le e = ap (λ xs. b ∷ xs) (laid-part bytes old count n (omega arith) (omega arith))

-- What is left of a list and what was added to it, behind a place, once it is cut to where the list or the place ends.
left-behind : (d z : List ℕ) (m : ℕ) → m ≤ length (d ++ z) → take (max (length d) m - m) (drop m (d ++ z)) ≡ drop m d
left-behind d z m le = elim (below-or-not m (length d)) [
  | inl lt ↦ ap (take (max (length d) m - m)) (drop-append-le m d z (omega (arith, lt)))
      ∙ ap (λ n. take n (drop m d ++ z)) (let long = length-drop m d in
      let e : max (length d) m - m ≡ length (drop m d) = omega (arith, long, lt) in e)
      ∙ take-append_seam (drop m d) z
  | inr ge ↦ ap (λ n. take n (drop m (d ++ z))) (let e : max (length d) m - m ≡ 0 = omega (arith, ge) in e)
      ∙ sym (drop_all m d (omega (arith, ge)))
]

-- Bytes behind which zeros joined, up to a length, have this length at least.
pub grown-long : (d : List ℕ) (n : ℕ) → n ≤ length (d ++ replicate (n - length d) 0)
grown-long d n =
    let a = length-append d (replicate (n - length d) 0) in
    let b = length-replicate {A = ℕ} (n - length d) 0 in
    omega (arith, a, b)

-- Bytes that are laid over a part of a list that was made long enough, and is cut to what it had or to where they end, are written.
written-laid : (d z w : List ℕ) (pos count n : ℕ) → pos ≤ length d → pos + count ≤ length (d ++ z) → n ≡ min count (length w) →
    take (max (length d) (pos + n)) (take pos (d ++ z) ++ (laid_over w (take count (drop pos (d ++ z))) ++ drop count (drop pos (d ++ z))))
    ≡ overwritten d pos (take count w)
written-laid d z w pos count n le within n_is =
    let e : List ℕ = d ++ z in
    let v : List ℕ = take count w in
    let long_v : length v ≡ n = length-take count w ∙ sym n_is in
    let behind = length-drop pos e in
    let front : List ℕ = take pos d ++ v in
    let long : length front ≡ pos + n =
    (let a = length-append (take pos d) v in let b = length-take-le pos d le in omega (arith, a, b, long_v)) in
    let cut : ℕ = max (length d) (pos + n) - (pos + n) in
    ap (λ xs. take (max (length d) (pos + n)) (take pos e ++ xs)) (laid-part w (drop pos e) count n (omega (arith, behind, within)) n_is)
    ∙ ap (λ xs. take (max (length d) (pos + n)) (xs ++ (v ++ drop n (drop pos e)))) (take-append-le pos d z le)
    ∙ ap (take (max (length d) (pos + n))) (sym (append_assoc (take pos d) v (drop n (drop pos e))))
    ∙ ap (λ xs. take (max (length d) (pos + n)) (front ++ xs)) (drop-drop n pos e)
    ∙ ap (λ k. take k (front ++ drop (pos + n) e)) (let m : max (length d) (pos + n) ≡ length front + cut = omega (arith, long) in m)
    ∙ take-append-add front (drop (pos + n) e) cut
    ∙ ap (λ xs. front ++ xs) (left-behind d z (pos + n) (let least = n_is in omega (arith, least, within)))
    ∙ ap (λ k. take pos d ++ v ++ drop (pos + k) d) (sym long_v)
    ∙ sym (overwritten-within d v pos le)

-- The same of a vector, a part of which was lent and came back.
pub written-over : (d z e w came rest : List ℕ) (pos count n end k most : ℕ) → pos ≤ length d → pos + count ≤ length (d ++ z) →
    e ≡ d ++ z → n ≡ min (length (mid_of pos (pos + count - pos) e)) (length w) → came ≡ laid_over w (mid_of pos (pos + count - pos) e) →
    end ≡ length d → k ≡ length e → most ≡ max end (pos + n) →
    take most (take k (put_mid pos (pos + count - pos) e came ++ rest)) ≡ overwritten d pos (take count w)
written-over d z e w came rest pos count n end k most le within e_is n_is came_is end_is k_is most_is =
    let lent : ℕ = pos + count - pos in
    let lent_is : lent ≡ count = omega arith in
    let over : List ℕ = laid_over w (take count (drop pos (d ++ z))) in
    let part : mid_of pos lent e ≡ take count (drop pos (d ++ z)) =
    ap (λ xs. take lent (drop pos xs)) e_is ∙ ap (λ m. take m (drop pos (d ++ z))) lent_is in
    let whole = ap length e_is in
    let behind = length-drop pos e in
    let some = length-take lent (drop pos e) in
    let laid = ap length came_is ∙ length-laid w (mid_of pos lent e) in
    let long : k ≡ length (put_mid pos lent e came) =
    (let a = length-append (take pos e) (came ++ drop lent (drop pos e)) in
    let b = length-append came (drop lent (drop pos e)) in
    let f = length-take-le pos e (omega (arith, whole, within)) in
    let g = length-drop lent (drop pos e) in
    omega (arith, a, b, f, g, laid, some, behind, whole, within, lent_is, k_is)) in
    let n_least : n ≡ min count (length w) = omega (arith, n_is, some, behind, whole, within, lent_is) in
    ap (λ m. take most (take m (put_mid pos lent e came ++ rest))) long
    ∙ ap (take most) (take-append_seam (put_mid pos lent e came) rest)
    ∙ ap (λ m. take m (put_mid pos lent e came)) (most_is ∙ ap (λ m. max m (pos + n)) end_is)
    ∙ ap (λ xs. take (max (length d) (pos + n)) (take pos e ++ (xs ++ drop lent (drop pos e)))) (came_is ∙ ap (laid_over w) part)
    ∙ ap (λ xs. take (max (length d) (pos + n)) (take pos xs ++ (over ++ drop lent (drop pos xs)))) e_is
    ∙ ap (λ m. take (max (length d) (pos + n)) (take pos (d ++ z) ++ (over ++ drop m (drop pos (d ++ z))))) lent_is
    ∙ written-laid d z w pos count n le within n_least
