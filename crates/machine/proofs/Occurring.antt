-- How often an operation, or the close of a handle, is in a list of the machine.
use Rattle.std.proofs.Common.{◌≡◌, ◌≢◌, ◌⊎◌, inl, inr, ℕ, zero, suc, ◌+◌, true, false, List, [], ◌∷◌, ◌++◌, remove, eqb, Some, slice_get}
use Rattle.std.proofs.Common.{ap, arith}
use Rattle.std.specs.Prelude.{◌==◌}
use Rattle.std.proofs.lemmas.Bool.Decides.{eqb_tells}
use Rattle.machine.specs.Lists.{one_if}
use Rattle.machine.specs.Ledger.{Queued, Req, Cancel, Item, Op}
use Rattle.machine.specs.Closes.{closes_queued, closes_listed}

-- 1 where two numbers are the same, else 0.
abbrev pub same : ℕ → ℕ → ℕ
same n m = one_if (n == m)

-- The count of a number, by whether it is the same.
same-by : (n m : ℕ) → ((eqb n m ≡ true) × (n ≡ m)) ⊎ ((eqb n m ≡ false) × (n ≢ m)) → ((n ≡ m) × (same n m ≡ 1)) ⊎ ((n ≢ m) × (same n m ≡ 0))
same-by n m (inl e) = inl (e.1, ap one_if e.0)
same-by n m (inr e) = inr (e.1, ap one_if e.0)

-- Two numbers are the same, or they aren't, and the count says so.
pub same-cases : (n m : ℕ) → ((n ≡ m) × (same n m ≡ 1)) ⊎ ((n ≢ m) × (same n m ≡ 0))
same-cases n m = same-by n m (eqb_tells n m)

-- How often the request of n is in a queue: a cancel is no request, nor is a close.
abbrev pub queued : ℕ → List Queued → ℕ
queued n [] = 0
queued n (Req m ∷ entries) = same n m + queued n entries
queued n (Cancel m ∷ entries) = queued n entries
queued n (Queued.Close h ∷ entries) = queued n entries

-- How often the operation n is in a list.
abbrev pub listed : ℕ → List Item → ℕ
listed n [] = 0
listed n (Op m ∷ items) = same n m + listed n items
listed n (Item.Close h ∷ items) = listed n items

-- Requests in joined queues.
pub queued-append : (n : ℕ) (xs ys : List Queued) → queued n (xs ++ ys) ≡ queued n xs + queued n ys
queued-append n [] ys = omega arith
queued-append n (Req x ∷ xs) ys = let r = queued-append n xs ys in omega arith
queued-append n (Cancel x ∷ xs) ys = queued-append n xs ys
queued-append n (Queued.Close x ∷ xs) ys = queued-append n xs ys

-- Operations in joined lists.
pub listed-append : (n : ℕ) (xs ys : List Item) → listed n (xs ++ ys) ≡ listed n xs + listed n ys
listed-append n [] ys = omega arith
listed-append n (Op x ∷ xs) ys = let r = listed-append n xs ys in omega arith
listed-append n (Item.Close x ∷ xs) ys = listed-append n xs ys

-- What is removed was in the list once more.
pub listed-remove : (n : ℕ) (xs : List Item) (place : ℕ) (item : Item) → slice_get xs place ≡ Some item →
    listed n xs ≡ listed n (remove xs place) + listed n (item ∷ [])
listed-remove n [] place item h = cc
listed-remove n (Op x ∷ xs) zero item h =
    let e : Op x ≡ item = cc in let f = ap (λ i. listed n (i ∷ [])) e in omega (arith, f)
listed-remove n (Op x ∷ xs) (suc place) item h = let r = listed-remove n xs place item h in omega arith
listed-remove n (Item.Close x ∷ xs) zero item h =
    let e : Item.Close x ≡ item = cc in let f = ap (λ i. listed n (i ∷ [])) e in omega (arith, f)
listed-remove n (Item.Close x ∷ xs) (suc place) item h = listed-remove n xs place item h

-- Closes in joined queues.
pub closes_queued-append : (h : ℕ) (xs ys : List Queued) → closes_queued h (xs ++ ys) ≡ closes_queued h xs + closes_queued h ys
closes_queued-append h [] ys = omega arith
closes_queued-append h (Req x ∷ xs) ys = closes_queued-append h xs ys
closes_queued-append h (Cancel x ∷ xs) ys = closes_queued-append h xs ys
closes_queued-append h (Queued.Close x ∷ xs) ys = let r = closes_queued-append h xs ys in omega arith

-- Closes in joined lists.
pub closes_listed-append : (h : ℕ) (xs ys : List Item) → closes_listed h (xs ++ ys) ≡ closes_listed h xs + closes_listed h ys
closes_listed-append h [] ys = omega arith
closes_listed-append h (Op x ∷ xs) ys = closes_listed-append h xs ys
closes_listed-append h (Item.Close x ∷ xs) ys = let r = closes_listed-append h xs ys in omega arith

-- A close that is removed was in the list once more.
pub closes_listed-remove : (h : ℕ) (xs : List Item) (place : ℕ) (item : Item) → slice_get xs place ≡ Some item →
    closes_listed h xs ≡ closes_listed h (remove xs place) + closes_listed h (item ∷ [])
closes_listed-remove h [] place item there = cc
closes_listed-remove h (Op x ∷ xs) zero item there =
    let e : Op x ≡ item = cc in let f = ap (λ i. closes_listed h (i ∷ [])) e in omega (arith, f)
closes_listed-remove h (Op x ∷ xs) (suc place) item there = closes_listed-remove h xs place item there
closes_listed-remove h (Item.Close x ∷ xs) zero item there =
    let e : Item.Close x ≡ item = cc in let f = ap (λ i. closes_listed h (i ∷ [])) e in omega (arith, f)
closes_listed-remove h (Item.Close x ∷ xs) (suc place) item there = let r = closes_listed-remove h xs place item there in omega arith
