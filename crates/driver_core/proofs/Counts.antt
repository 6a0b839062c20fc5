-- How many operations pass a test, after a change of one.
use Rattle.std.proofs.Common.{◌≡◌, ℕ, zero, suc, ◌+◌, ◌≤◌, Bool, true, false, cond, List, [], ◌∷◌, ◌++◌, length, Some, refl, sym, ◌∙◌, ap}
use Rattle.std.proofs.Common.{arith, add_assoc}
use Rattle.std.specs.Prelude.{slice_get, not, if◌then◌else◌}
use Rattle.machine.specs.Lists.{amended, numbers_where}
use Rattle.machine.specs.Ledger.{Operation, is_live, is_owned}
use Rattle.machine.specs.Lists.{one_if}
use Rattle.machine.proofs.Numbers.{and-left}

-- The operations that pass, counted.
abbrev passing : (Operation → Bool) → List Operation → ℕ
passing test [] = 0
passing test (o ∷ ops) = cond (test o) 1 0 + passing test ops

-- A number that is listed where a test holds makes the list one longer there.
length-if : (b : Bool) (n : ℕ) (xs : List ℕ) → length (if b then n ∷ xs else xs) ≡ cond b 1 0 + length xs
length-if true n xs = omega arith
length-if false n xs = omega arith

-- As many numbers are listed as operations pass.
length-numbers : (test : Operation → Bool) (n : ℕ) (ops : List Operation) → length (numbers_where test n ops) ≡ passing test ops
length-numbers test n [] = refl
length-numbers test n (o ∷ ops) =
    length-if (test o) n (numbers_where test (suc n) ops) ∙ ap (λ k. cond (test o) 1 0 + k) (length-numbers test (suc n) ops)

-- As many pass where the one that is changed passes exactly where it did.
amended-same : (test : Operation → Bool) (f : Operation → Operation) (ops : List Operation) (n : ℕ) (o : Operation) →
    slice_get ops n ≡ Some o → test (f o) ≡ test o → passing test (amended ops n f) ≡ passing test ops
amended-same test f [] n o h l = refl
amended-same test f (x ∷ ops) zero o h l =
    let e : x ≡ o = cc in ap (λ b. cond b 1 0 + passing test ops) (ap (λ y. test (f y)) e ∙ l ∙ ap test (sym e))
amended-same test f (x ∷ ops) (suc n) o h l = ap (λ k. cond (test x) 1 0 + k) (amended-same test f ops n o h l)

-- As many pass after a change after which each passes exactly where it did.
amended-all : (test : Operation → Bool) (f : Operation → Operation) (ops : List Operation) (n : ℕ) →
    ((o : Operation) → test (f o) ≡ test o) → passing test (amended ops n f) ≡ passing test ops
amended-all test f [] n l = refl
amended-all test f (x ∷ ops) zero l = ap (λ b. cond b 1 0 + passing test ops) (l x)
amended-all test f (x ∷ ops) (suc n) l = ap (λ k. cond (test x) 1 0 + k) (amended-all test f ops n l)

-- One less passes where the one that is changed passes no more.
amended-less : (test : Operation → Bool) (f : Operation → Operation) (ops : List Operation) (n : ℕ) (o : Operation) →
    slice_get ops n ≡ Some o → test o ≡ true → test (f o) ≡ false → passing test (amended ops n f) + 1 ≡ passing test ops
amended-less test f [] n o h l m = cc
amended-less test f (x ∷ ops) zero o h l m =
    let e : x ≡ o = cc in
    let one : ◌≡◌ {A = ℕ} (cond (test x) 1 0) 1 = ap (λ b. cond b 1 0) (ap test e ∙ l) in
    let none : ◌≡◌ {A = ℕ} (cond (test (f x)) 1 0) 0 = ap (λ b. cond b 1 0) (ap (λ y. test (f y)) e ∙ m) in
    omega (arith, one, none)
amended-less test f (x ∷ ops) (suc n) o h l m = omega (arith, amended-less test f ops n o h l m)

-- One more passes after one is appended that passes.
pushed-more : (test : Operation → Bool) (ops : List Operation) (o : Operation) → test o ≡ true →
    passing test (ops ++ o ∷ []) ≡ passing test ops + 1
pushed-more test [] o h = ap (λ b. cond b 1 0 + 0) h
pushed-more test (x ∷ ops) o h =
    ap (λ k. cond (test x) 1 0 + k) (pushed-more test ops o h) ∙ sym (add_assoc (cond (test x) 1 0) (passing test ops) 1)

-- A test that implies another counts no more than it.
one-within : (a b : Bool) → (a ≡ true → b ≡ true) → cond a 1 0 ≤ cond b 1 0
one-within true true h = omega arith
one-within true false h = (let z : false ≡ true = h refl in cc)
one-within false true h = omega arith
one-within false false h = omega arith

-- No more pass a test than one that it implies.
passing-within : (p q : Operation → Bool) (ops : List Operation) → ((o : Operation) → p o ≡ true → q o ≡ true) →
    passing p ops ≤ passing q ops
passing-within p q [] h = omega arith
passing-within p q (o ∷ ops) h = omega (arith, one-within (p o) (q o) (h o), passing-within p q ops h)

-- One that passes exactly where it did.
pub where-same : (test : Operation → Bool) (f : Operation → Operation) (ops : List Operation) (n : ℕ) (o : Operation) →
    slice_get ops n ≡ Some o → test (f o) ≡ test o → length (numbers_where test 0 (amended ops n f)) ≡ length (numbers_where test 0 ops)
where-same test f ops n o h l = length-numbers test 0 (amended ops n f) ∙ amended-same test f ops n o h l ∙ sym (length-numbers test 0 ops)

-- A change after which each passes exactly where it did.
pub where-all : (test : Operation → Bool) (f : Operation → Operation) (ops : List Operation) (n : ℕ) →
    ((o : Operation) → test (f o) ≡ test o) → length (numbers_where test 0 (amended ops n f)) ≡ length (numbers_where test 0 ops)
where-all test f ops n l = length-numbers test 0 (amended ops n f) ∙ amended-all test f ops n l ∙ sym (length-numbers test 0 ops)

-- One that passes no more.
-- A number in front of others, or not.
length-led : (b : Bool) (k : ℕ) (ns : List ℕ) → length (if b then k ∷ ns else ns) ≡ one_if b + length ns
length-led true k ns = let e : suc (length ns) ≡ 1 + length ns = omega arith in e
length-led false k ns = let e : length ns ≡ 0 + length ns = omega arith in e

-- So many as are counted with the one that was and the one that is.
pub where-changed : (test : Operation → Bool) (f : Operation → Operation) (ops : List Operation) (n k : ℕ) (o : Operation) →
    slice_get ops n ≡ Some o →
    length (numbers_where test k (amended ops n f)) + one_if (test o) ≡ length (numbers_where test k ops) + one_if (test (f o))
where-changed test f [] n k o h = cc
where-changed test f (x ∷ ops) zero k o h =
    let e : x ≡ o = cc in
    let a = ap (λ y. one_if (test y)) e in
    let b = ap (λ y. one_if (test (f y))) e in
    let c = length-led (test x) k (numbers_where test (suc k) ops) in
    let d = length-led (test (f x)) k (numbers_where test (suc k) ops) in
    omega (arith, a, b, c, d)
where-changed test f (x ∷ ops) (suc n) k o h =
    let r = where-changed test f ops n (suc k) o h in
    let c = length-led (test x) k (numbers_where test (suc k) ops) in
    let d = length-led (test x) k (numbers_where test (suc k) (amended ops n f)) in
    omega (arith, r, c, d)

-- One less.
pub where-less : (test : Operation → Bool) (f : Operation → Operation) (ops : List Operation) (n : ℕ) (o : Operation) →
    slice_get ops n ≡ Some o → test o ≡ true → test (f o) ≡ false →
    length (numbers_where test 0 (amended ops n f)) + 1 ≡ length (numbers_where test 0 ops)
where-less test f ops n o h l m =
    ap (λ k. k + 1) (length-numbers test 0 (amended ops n f)) ∙ amended-less test f ops n o h l m ∙ sym (length-numbers test 0 ops)

-- One more.
pub where-more : (test : Operation → Bool) (ops : List Operation) (o : Operation) → test o ≡ true →
    length (numbers_where test 0 (ops ++ o ∷ [])) ≡ length (numbers_where test 0 ops) + 1
where-more test ops o h =
    length-numbers test 0 (ops ++ o ∷ []) ∙ pushed-more test ops o h ∙ ap (λ k. k + 1) (sym (length-numbers test 0 ops))

-- A test that implies another.
pub where-within : (p q : Operation → Bool) (ops : List Operation) → ((o : Operation) → p o ≡ true → q o ≡ true) →
    length (numbers_where p 0 ops) ≤ length (numbers_where q 0 ops)
where-within p q ops h =
    (let a = length-numbers p 0 ops in let b = length-numbers q 0 ops in let c = passing-within p q ops h in omega (arith, a, b, c))

-- An operation of its user isn't gone.
pub owned-lives : (o : Operation) → is_owned o ≡ true → is_live o ≡ true
owned-lives o h = and-left (is_live o) (not o.dropped) h
