-- The numbers of the elements that pass a test, after one element is changed or joins.
use Rattle.std.proofs.Common.{◌≡◌, ℕ, zero, suc, ◌+◌, Bool, true, false, List, [], ◌∷◌, ◌++◌, length, map, Some, slice_get, refl, sym, ◌∙◌}
use Rattle.std.proofs.Common.{ap, arith}
use Rattle.std.specs.Prelude.{if◌then◌else◌, ◌==◌}
use Rattle.machine.specs.Lists.{amended, numbers_where, is_empty}
use Rattle.machine.proofs.Numbers.{equal-other}

-- A list of no elements.
pub empty-is : {A : Type 0} (xs : List A) → is_empty xs ≡ true → xs ≡ []
empty-is [] h = refl
empty-is (x ∷ xs) h = (let f : ⊥ = cc in absurd f)

-- A list has no element exactly where its length is 0.
pub empty-length : {A : Type 0} (xs : List A) → is_empty xs ≡ (length xs == 0)
empty-length [] = refl
empty-length (x ∷ xs) = sym (equal-other (length (x ∷ xs)) 0 (λ e. omega (arith, e)))

-- A number that may lead a list.
abbrev led : Bool → ℕ → List ℕ → List ℕ
led b k xs = if b then k ∷ xs else xs

-- A list that is led joins what follows it.
led-append : (b : Bool) (k : ℕ) (xs ys : List ℕ) → led b k (xs ++ ys) ≡ led b k xs ++ ys
led-append true k xs ys = refl
led-append false k xs ys = refl

-- A list that has no element isn't led.
led-none : (b : Bool) (k : ℕ) (xs : List ℕ) → led b k xs ≡ [] → (b ≡ false) × (xs ≡ [])
led-none true k xs h = (let f : ⊥ = cc in absurd f)
led-none false k xs h = (refl, h)

-- The length of a list that is led, and of one that isn't.
length-led : (b : Bool) (k : ℕ) (xs ys : List ℕ) → length xs + 1 ≡ length ys → length (led b k xs) + 1 ≡ length (led b k ys)
length-led true k xs ys h = omega arith
length-led false k xs ys h = h

-- A change after which the element passes exactly where it did.
pub where-kept : {A : Type 0} (test : A → Bool) (f : A → A) (xs : List A) (n k : ℕ) →
    ((x : A) → slice_get xs n ≡ Some x → test (f x) ≡ test x) → numbers_where test k (amended xs n f) ≡ numbers_where test k xs
where-kept test f [] n k keeps = refl
where-kept test f (x ∷ xs) zero k keeps = ap (λ b. led b k (numbers_where test (suc k) xs)) (keeps x refl)
where-kept test f (x ∷ xs) (suc n) k keeps = ap (led (test x) k) (where-kept test f xs n (suc k) keeps)

-- A change after which the element passes no more.
pub where-left : {A : Type 0} (test : A → Bool) (f : A → A) (xs : List A) (n k : ℕ) (x : A) → slice_get xs n ≡ Some x →
    test x ≡ true → test (f x) ≡ false → length (numbers_where test k (amended xs n f)) + 1 ≡ length (numbers_where test k xs)
where-left test f [] n k x there was is = cc
where-left test f (y ∷ xs) zero k x there was is =
    let e : y ≡ x = cc in
    let old : led (test y) k (numbers_where test (suc k) xs) ≡ k ∷ numbers_where test (suc k) xs =
    ap (λ b. led b k (numbers_where test (suc k) xs)) (ap test e ∙ was) in
    let new : led (test (f y)) k (numbers_where test (suc k) xs) ≡ numbers_where test (suc k) xs =
    ap (λ b. led b k (numbers_where test (suc k) xs)) (ap (λ z. test (f z)) e ∙ is) in
    let a = ap length old in
    let b = ap length new in
    omega (arith, a, b)
where-left test f (y ∷ xs) (suc n) k x there was is =
    length-led (test y) k (numbers_where test (suc k) (amended xs n f)) (numbers_where test (suc k) xs)
    (where-left test f xs n (suc k) x there was is)

-- One more element.
pub where-joined : {A : Type 0} (test : A → Bool) (xs : List A) (y : A) (k : ℕ) →
    numbers_where test k (xs ++ y ∷ []) ≡ numbers_where test k xs ++ (if test y then (k + length xs) ∷ [] else [])
where-joined test [] y k = ap (λ n. led (test y) n []) (let e : k ≡ k + 0 = omega arith in e)
where-joined test (x ∷ xs) y k =
    ap (led (test x) k) (where-joined test xs y (suc k))
    ∙ led-append (test x) k (numbers_where test (suc k) xs) (led (test y) (suc k + length xs) [])
    ∙ ap (λ n. numbers_where test k (x ∷ xs) ++ led (test y) n []) (let e : suc k + length xs ≡ k + suc (length xs) = omega arith in e)

-- Where no number is listed, no element passes.
pub where-none : {A : Type 0} (test : A → Bool) (xs : List A) (k : ℕ) → numbers_where test k xs ≡ [] → (n : ℕ) (x : A) →
    slice_get xs n ≡ Some x → test x ≡ false
where-none test [] k none n x there = cc
where-none test (y ∷ xs) k none zero x there =
    let e : y ≡ x = cc in sym (ap test e) ∙ (led-none (test y) k (numbers_where test (suc k) xs) none).0
where-none test (y ∷ xs) k none (suc n) x there =
    where-none test xs (suc k) (led-none (test y) k (numbers_where test (suc k) xs) none).1 n x there

-- Where no element passes, no number is listed.
pub none-where : {A : Type 0} (test : A → Bool) (xs : List A) (k : ℕ) → ((n : ℕ) (x : A) → slice_get xs n ≡ Some x → test x ≡ false) →
    numbers_where test k xs ≡ []
none-where test [] k fails = refl
none-where test (y ∷ xs) k fails =
    ap (λ b. led b k (numbers_where test (suc k) xs)) (fails 0 y refl) ∙ none-where test xs (suc k) (λ n x there. fails (suc n) x there)

-- Changes after which each element passes exactly where it did.
pub where-map : {A : Type 0} (test : A → Bool) (f : A → A) (xs : List A) (k : ℕ) → ((x : A) → test (f x) ≡ test x) →
    numbers_where test k (map f xs) ≡ numbers_where test k xs
where-map test f [] k keeps = refl
where-map test f (x ∷ xs) k keeps =
    ap (λ b. led b k (numbers_where test (suc k) (map f xs))) (keeps x) ∙ ap (led (test x) k) (where-map test f xs (suc k) keeps)
