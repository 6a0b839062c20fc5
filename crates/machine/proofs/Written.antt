-- Bytes that are written within others, and a change of two elements of a list, one after the other.
use Rattle.std.proofs.Common.{◌≡◌, ◌≢◌, ℕ, zero, suc, ◌+◌, ◌≤◌, ◌<◌, List, [], ◌∷◌, ◌++◌, length, take, drop}
use Rattle.std.proofs.Common.{get_or, set, refl, sym, ◌∙◌, ap, arith, unwrap_or, option_map}
use Rattle.std.proofs.lemmas.List.{append-nil, take-append-le, take-append-drop}
use Rattle.std.proofs.lemmas.Option.{slice_get_read}
use Rattle.machine.specs.declared.world.HandleState.{HandleState}
use Rattle.machine.specs.Lists.{amended}
use Rattle.machine.specs.World.{input_at}
use Rattle.machine.specs.Effect.{overwritten, without_front, with_sent}
use Rattle.machine.proofs.Amended.{amended-at}

-- Bytes that are written within others are between those before them and those behind them.
pub overwritten-within : (d w : List ℕ) (pos : ℕ) → pos ≤ length d → overwritten d pos w ≡ take pos d ++ w ++ drop (pos + length w) d
overwritten-within d [] pos le =
    sym (take-append-drop pos d) ∙ ap (λ xs. xs ++ drop pos d) (sym (append-nil (take pos d)))
    ∙ ap (λ n. (take pos d ++ []) ++ drop n d) (let e : pos ≡ pos + 0 = omega arith in e)
overwritten-within d (b ∷ w) pos le = ap (λ xs. xs ++ (b ∷ w) ++ drop (pos + length (b ∷ w)) d) (take-append-le pos d _ le)

-- What was written at a place is there.
got-set : {A : Type 0} (xs : List A) (n : ℕ) (a z : A) → n < length xs → get_or (set xs n a) n z ≡ a
got-set [] n a z lt = absurd (omega (arith, lt))
got-set (x ∷ xs) zero a z lt = refl
got-set (x ∷ xs) (suc n) a z lt = got-set xs n a z (omega (arith, lt))

-- The second write at a place counts.
set-twice : {A : Type 0} (xs : List A) (n : ℕ) (a b : A) → set (set xs n a) n b ≡ set xs n b
set-twice [] n a b = refl
set-twice (x ∷ xs) zero a b = refl
set-twice (x ∷ xs) (suc n) a b = ap (λ ys. x ∷ ys) (set-twice xs n a b)

-- An element that is put aside while another one is changed, and is written back changed: both are changed.
changed-two : {A : Type 0} (xs : List A) (n m : ℕ) (a b c x y z : A) (f g : A → A) → n < length xs → m < length xs → n ≢ m →
    x ≡ get_or xs n x → y ≡ get_or (set xs n a) m y → z ≡ get_or (set (set xs n a) m b) n z → b ≡ g y → (z ≡ a → c ≡ f x) →
    set (set (set xs n a) m b) n c ≡ amended (amended xs n f) m g
changed-two [] n m a b c x y z f g ln lm other xi yi zi bi ci = absurd (omega (arith, ln))
changed-two (w ∷ xs) zero zero a b c x y z f g ln lm other xi yi zi bi ci = absurd (other refl)
changed-two (w ∷ xs) zero (suc m) a b c x y z f g ln lm other xi yi zi bi ci =
    ap (λ v. v ∷ set xs m b) (ci zi ∙ ap f xi) ∙ ap (λ ys. f w ∷ ys) (amended-at g xs m y b (omega (arith, lm)) yi bi)
changed-two (w ∷ xs) (suc n) zero a b c x y z f g ln lm other xi yi zi bi ci =
    ap (λ v. v ∷ set (set xs n a) n c) (bi ∙ ap g yi)
    ∙ ap (λ ys. g w ∷ ys)
    (set-twice xs n a c ∙ amended-at f xs n x c (omega (arith, ln)) xi (ci (zi ∙ got-set xs n a z (omega (arith, ln)))))
changed-two (w ∷ xs) (suc n) (suc m) a b c x y z f g ln lm other xi yi zi bi ci =
    ap (λ ys. w ∷ ys)
    (changed-two xs n m a b c x y z f g (omega (arith, ln)) (omega (arith, lm)) (λ e. other (ap suc e)) xi yi zi bi ci)

-- A change that changes nothing.
amended-same : {A : Type 0} (xs : List A) (n : ℕ) → amended xs n (λ x. x) ≡ xs
amended-same [] n = refl
amended-same (x ∷ xs) zero = refl
amended-same (x ∷ xs) (suc n) = ap (λ ys. x ∷ ys) (amended-same xs n)

-- A handle with other bytes as its input.
abbrev with_bytes : List ℕ → HandleState → HandleState
with_bytes bytes handle = record handle { input = bytes }

-- The first bytes of one handle's input were sent to another handle.
pub spliced : (xs : List HandleState) (n m k : ℕ) (x y z b : HandleState) (aside taken first rest : List ℕ) →
    n < length xs → m < length xs → n ≢ m → x ≡ get_or xs n x → y ≡ get_or (set xs n (record x { input = aside })) m y →
    z ≡ get_or (set (set xs n (record x { input = aside })) m b) n z → taken ≡ x.input → first ≡ take k taken → b ≡ with_sent first y →
    rest ≡ drop k taken → set (set (set xs n (record x { input = aside })) m b) n (record z { input = rest })
    ≡ amended (amended xs n (without_front k)) m (with_sent (take k (input_at xs n)))
spliced xs n m k x y z b aside taken first rest ln lm other xi yi zi taken_is first_is bi rest_is =
    let found = slice_get_read xs (length xs) n x refl ln xi in
    let bytes : first ≡ take k (input_at xs n) = first_is ∙ ap (take k) taken_is
    ∙ ap (λ handle. take k (unwrap_or (option_map (λ state. state.input) handle) [])) (sym found) in
    changed-two xs n m (record x { input = aside }) b (record z { input = rest }) x y z (without_front k)
    (with_sent (take k (input_at xs n))) ln lm other xi yi zi (bi ∙ ap (λ sent. with_sent sent y) bytes)
    (λ e. ap (with_bytes rest) e ∙ ap (λ input. with_bytes input x) (rest_is ∙ ap (drop k) taken_is))

-- Nothing was sent to another handle: what was put aside is back.
pub unspliced : (xs : List HandleState) (n m : ℕ) (x y z b : HandleState) (aside taken : List ℕ) → n < length xs → m < length xs → n ≢ m →
    x ≡ get_or xs n x → y ≡ get_or (set xs n (record x { input = aside })) m y →
    z ≡ get_or (set (set xs n (record x { input = aside })) m b) n z → taken ≡ x.input → b ≡ y →
    set (set (set xs n (record x { input = aside })) m b) n (record z { input = taken }) ≡ xs
unspliced xs n m x y z b aside taken ln lm other xi yi zi taken_is bi =
    changed-two xs n m (record x { input = aside }) b (record z { input = taken }) x y z (λ handle. handle) (λ handle. handle)
    ln lm other xi yi zi bi (λ e. ap (with_bytes taken) e ∙ ap (λ input. with_bytes input x) taken_is)
    ∙ amended-same (amended xs n (λ handle. handle)) m ∙ amended-same xs n
