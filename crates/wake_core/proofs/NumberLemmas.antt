-- Lemmas on the wakers of one sender and on their numbers.
use Rattle.std.proofs.Common.{◌≡◌, ℕ, zero, suc, ◌+◌, ◌-◌, ◌≤◌, ◌≢◌, List, [], ◌∷◌, ◌++◌, length, map, All, Bool, refl, sym, ap, ◌∙◌, subst}
use Rattle.std.proofs.Common.{arith, add-zero, append-nil, inl, inr}
use Rattle.std.specs.Prelude.{◌==◌, if◌then◌else◌}
use Rattle.std.specs.List.{range_with_len}
use Rattle.std.proofs.lemmas.Bool.{eq-eqb, ne_eqb}
use Rattle.std.proofs.lemmas.Bool.Decides.{eqb_tells}
use Rattle.std.proofs.lemmas.List.{map-append, length-map}
use Rattle.std.proofs.lemmas.List.Elements.{filter-append, All-head, All-tail}
use Rattle.std.proofs.lemmas.List.FromFn.{length-range_with_len}
use Rattle.wake_core.specs.declared.senders.SenderStage.TheVariants.{Idle}
use Rattle.wake_core.specs.declared.waker.Waker.{Waker}
use Rattle.wake_core.specs.SenderState.{SenderState}
use Rattle.wake_core.specs.SenderTable.{sender_of, with_sender, total_pushed, total_drained}
use Rattle.wake_core.specs.Waker.{waker}
use Rattle.wake_core.specs.WakerList.{wakers_of, numbers_of, numbers_between}
use Rattle.wake_core.specs.WakeSafety.{IsMidSend, RunsOn, WakeSafety}
use Rattle.wake_core.specs.WakeState.{Wake}
use Rattle.wake_core.proofs.TableLemmas.{sender_of-written, sender_of-other, sum_by-with_sender, total_drained-equal}

-- numbers in a row, joined
range_with_len-append : (k n m : ℕ) → range_with_len k n ++ range_with_len (k + n) m ≡ range_with_len k (n + m)
range_with_len-append k zero m =
    let e : k + 0 ≡ k = add-zero k in
    let z : zero + m ≡ m = omega arith in
    rw (e, z) refl
range_with_len-append k (suc n) m =
    let e : k + suc n ≡ k + 1 + n = omega arith in
    let z : suc n + m ≡ suc (n + m) = omega arith in
    rw (e, z) (ap (λ xs. k ∷ xs) (range_with_len-append (k + 1) n m))

-- the numbers between two, then those from there on
pub numbers_between-append : (a b c : ℕ) → a ≤ b → b ≤ c → numbers_between a b ++ numbers_between b c ≡ numbers_between a c
numbers_between-append a b c low high =
    let e : a + (b - a) ≡ b = omega arith in
    let z : (b - a) + (c - b) ≡ c - a = omega arith in
    rw e at (range_with_len-append a (b - a) (c - b)) ∙ ap (range_with_len a) z

-- from a number to itself there is none
pub numbers_between-none : (a : ℕ) → numbers_between a a ≡ []
numbers_between-none a = let z : a - a ≡ 0 = omega arith in rw z refl

-- from a number to the next there is one
pub numbers_between-one : (a : ℕ) → numbers_between a (a + 1) ≡ a ∷ []
numbers_between-one a = let z : a + 1 - a ≡ 1 = omega arith in rw z refl

-- one number more at the end
pub numbers_between-push : (a b : ℕ) → a ≤ b → numbers_between a b ++ b ∷ [] ≡ numbers_between a (b + 1)
numbers_between-push a b low =
    ap (λ xs. numbers_between a b ++ xs) (sym (numbers_between-one b)) ∙ numbers_between-append a b (b + 1) low (omega arith)

-- how many numbers are between two
pub length-numbers_between : (a b : ℕ) → length (numbers_between a b) ≡ b - a
length-numbers_between a b = length-range_with_len a (b - a)

-- the wakers of a sender, if the first is of it
pub wakers_of-same : (s : ℕ) (w : Waker) (ws : List Waker) → w.sender ≡ s → wakers_of s (w ∷ ws) ≡ w ∷ wakers_of s ws
wakers_of-same s w ws e = ap (λ (b : Bool). if b then w ∷ wakers_of s ws else wakers_of s ws) (eq-eqb w.sender s e)

-- the wakers of a sender, if the first is of another
pub wakers_of-other : (s : ℕ) (w : Waker) (ws : List Waker) → w.sender ≢ s → wakers_of s (w ∷ ws) ≡ wakers_of s ws
wakers_of-other s w ws differ = ap (λ (b : Bool). if b then w ∷ wakers_of s ws else wakers_of s ws) (ne_eqb w.sender s differ)

-- the wakers of a sender in two lists joined
pub wakers_of-append : (s : ℕ) (xs ys : List Waker) → wakers_of s (xs ++ ys) ≡ wakers_of s xs ++ wakers_of s ys
wakers_of-append s xs ys = filter-append (λ (w : Waker). w.sender == s) xs ys

-- the numbers of a sender's wakers in two lists joined
pub numbers_of-append : (s : ℕ) (xs ys : List Waker) → numbers_of s (xs ++ ys) ≡ numbers_of s xs ++ numbers_of s ys
numbers_of-append s xs ys =
    ap (map (λ (w : Waker). w.number)) (wakers_of-append s xs ys)
    ∙ map-append (λ (w : Waker). w.number) (wakers_of s xs) (wakers_of s ys)

-- the wakers of a sender once it pushed one more
pub wakers_of-push_same : (s n t : ℕ) (q : List Waker) → wakers_of s (q ++ waker s n t ∷ []) ≡ wakers_of s q ++ waker s n t ∷ []
wakers_of-push_same s n t q =
    wakers_of-append s q (waker s n t ∷ []) ∙ ap (λ xs. wakers_of s q ++ xs) (wakers_of-same s (waker s n t) [] refl)

-- the wakers of a sender once another one pushed one more
pub wakers_of-push_other : (s u n t : ℕ) (q : List Waker) → u ≢ s → wakers_of u (q ++ waker s n t ∷ []) ≡ wakers_of u q
wakers_of-push_other s u n t q differ =
    wakers_of-append u q (waker s n t ∷ [])
    ∙ ap (λ xs. wakers_of u q ++ xs) (wakers_of-other u (waker s n t) [] (λ e. differ (sym e)))
    ∙ append-nil (wakers_of u q)

-- the numbers of a sender's wakers once it pushed one more
pub numbers_of-push_same : (s n t : ℕ) (q : List Waker) → numbers_of s (q ++ waker s n t ∷ []) ≡ numbers_of s q ++ n ∷ []
numbers_of-push_same s n t q =
    ap (map (λ (w : Waker). w.number)) (wakers_of-push_same s n t q)
    ∙ map-append (λ (w : Waker). w.number) (wakers_of s q) (waker s n t ∷ [])

-- the numbers of a sender's wakers once another one pushed one more
pub numbers_of-push_other : (s u n t : ℕ) (q : List Waker) → u ≢ s → numbers_of u (q ++ waker s n t ∷ []) ≡ numbers_of u q
numbers_of-push_other s u n t q differ = ap (map (λ (w : Waker). w.number)) (wakers_of-push_other s u n t q differ)

-- an idle sender has no waker in a queue whose senders are mid-send
pub wakers_of-idle : (q : List Waker) (xs : List SenderState) (s : ℕ) → All (λ (w : Waker). IsMidSend (sender_of xs w.sender).stage) q
    → (sender_of xs s).stage ≡ Idle → wakers_of s q ≡ []
wakers_of-idle [] xs s each idle = refl
wakers_of-idle (w ∷ ws) xs s each idle =
    let P : Waker → Type 0 = λ (w : Waker). IsMidSend (sender_of xs w.sender).stage in
    let rest : wakers_of s ws ≡ [] = wakers_of-idle ws xs s (All-tail P w ws each) idle in
    elim (eqb_tells w.sender s) [
      | inl e ↦ (let Q : ℕ → Type 0 = λ t. IsMidSend (sender_of xs t).stage in
          absurd (subst IsMidSend idle (subst Q e.1 (All-head P w ws each))))
      | inr e ↦ wakers_of-other s w ws e.1 ∙ rest
    ]

-- how many wakers of a sender are in the queue
pub length-wakers_of : (q : List Waker) (s : ℕ) (v : SenderState) → RunsOn q s v → v.drained + length (wakers_of s q) ≡ v.pushed
length-wakers_of q s v run =
    let same : length (numbers_of s q) ≡ v.pushed - v.drained = ap length run.numbers ∙ length-numbers_between v.drained v.pushed in
    let plain : length (numbers_of s q) ≡ length (wakers_of s q) = length-map (wakers_of s q) (λ (w : Waker). w.number) in
    omega (arith, same, plain, run.within)

-- the queue holds what was pushed and not drained
level : (q : List Waker) (xs : List SenderState)
    → ((s : ℕ) → (sender_of xs s).drained + length (wakers_of s q) ≡ (sender_of xs s).pushed)
    → total_drained xs + length q ≡ total_pushed xs
level [] xs counts =
    let none : (s : ℕ) → (sender_of xs s).drained ≡ (sender_of xs s).pushed = λ s. sym (add-zero (sender_of xs s).drained) ∙ counts s in
    omega (arith, total_drained-equal xs none)
level (w ∷ ws) xs counts =
    let v = sender_of xs w.sender in
    let v' : SenderState = record v { drained = v.drained + 1 } in
    let ys = with_sender xs w.sender v' in
    let drains = sum_by-with_sender (λ (x : SenderState). x.drained) xs w.sender v' refl in
    let pushes = sum_by-with_sender (λ (x : SenderState). x.pushed) xs w.sender v' refl in
    let own = ap length (wakers_of-same w.sender w ws refl) in
    let Q : ℕ → Type 0 = λ s. (sender_of ys s).drained + length (wakers_of s ws) ≡ (sender_of ys s).pushed in
    let one_less : (s : ℕ) → Q s = (λ s. elim (eqb_tells s w.sender) [
      | inl e ↦ subst Q (sym e.1) (rw (sender_of-written xs w.sender v') (omega (arith, counts w.sender, own)))
      | inr e ↦ rw (sender_of-other xs w.sender s v' e.1)
          (ap (λ zs. (sender_of xs s).drained + length zs) (sym (wakers_of-other s w ws (λ f. e.1 (sym f)))) ∙ counts s)
    ]) in
    omega (arith, level ws ys one_less, drains, pushes)

-- so it does where each sender's numbers run on
pub level_of_runs : (q : List Waker) (xs : List SenderState) → ((s : ℕ) → RunsOn q s (sender_of xs s))
    → total_drained xs + length q ≡ total_pushed xs
level_of_runs q xs runs = level q xs (λ s. length-wakers_of q s (sender_of xs s) (runs s))

-- what was booked as pushed was booked as drained, or waits
pub level_of_safe : (w : Wake) → WakeSafety w → w.drains + length w.queue ≡ w.pushes
level_of_safe w safe =
    omega (arith, safe.booked.all_pushes, safe.booked.all_drains, level_of_runs w.queue w.senders safe.numbers_run_on)
