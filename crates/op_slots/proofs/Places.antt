-- What the map of a list of places answers.
use Rattle.std.proofs.Common.{◌≡◌, ◌≢◌, ℕ, zero, suc, ◌+◌, ◌≤◌, ◌<◌, List, [], ◌∷◌, ◌++◌, length, Option, None, Some, Bool, true, false}
use Rattle.std.proofs.Common.{cond, refl, sym, ◌∙◌, ap, arith, add-one, set, is_some, get_or, take}
use Rattle.std.proofs.lemmas.Bool.Decides.{nat_tests}
use Rattle.std.specs.Ordering.{nat_cmp, eq_by_cmp}
use Rattle.std.specs.Cmp.{nat_cmp_total}
use Rattle.std.specs.FinMap.{FinMap, find, get, insert, remove, len, from_entries, get-from_entries, get-insert, get-remove, same_map}
use Rattle.std.specs.FinMap.{nat_cmp-IsAntisymmetric, len-insert, len-empty}
use Rattle.std.specs.Prelude.{IsSome}
use Rattle.std.proofs.lemmas.List.Sums.{sum_by-cons, sum_by-append, sum_by-set, count_by-le-length}
use Rattle.op_slots.specs.Layout.{at, taken, listed}

-- the map of the places
abbrev pub map_of : {T : Type 0} → List (Option T) → FinMap nat_cmp T
map_of xs = from_entries (listed 0 xs)

-- equal numbers compare as equal
pub same : (a b : ℕ) → a ≡ b → eq_by_cmp nat_cmp a b ≡ true
same a b e = grind (arith, nat_tests)

-- other numbers don't
pub differ : (a b : ℕ) → a ≢ b → eq_by_cmp nat_cmp a b ≡ false
differ a b e = grind (arith, nat_tests)

-- what compares as equal is equal
tied : (a b : ℕ) → eq_by_cmp nat_cmp a b ≡ true → a ≡ b
tied a b e = grind (arith, nat_tests)

-- successors compare as the numbers do
shifted : (a b : ℕ) → eq_by_cmp nat_cmp a b ≡ eq_by_cmp nat_cmp (suc a) (suc b)
shifted a b = grind (arith, nat_tests)

-- a first place is passed over by a later one
passed : {T : Type 0} (i q : ℕ) (x : T) (rest : Option T) → i < q → cond (eq_by_cmp nat_cmp q i) (Some x) rest ≡ rest
passed i q x rest above = ap (λ b. cond b (Some x) rest) (differ q i (omega arith))

-- nothing is listed below the first place
find-below : {T : Type 0} (xs : List (Option T)) (i q : ℕ) → q < i → find nat_cmp q (listed i xs) ≡ None
find-below [] i q below = refl
find-below (None ∷ xs) i q below = find-below xs (i + 1) q (omega arith)
find-below (Some x ∷ xs) i q below = rw (differ q i (omega arith)) (find-below xs (i + 1) q (omega arith))

-- a place is found with what it holds
find-listed : {T : Type 0} (xs : List (Option T)) (i q : ℕ) → find nat_cmp (i + q) (listed i xs) ≡ at xs q
find-listed [] i q = refl
find-listed (None ∷ xs) i zero = find-below xs (i + 1) (i + 0) (omega arith)
find-listed (None ∷ xs) i (suc q) = let e : i + suc q ≡ (i + 1) + q = omega arith in rw e (find-listed xs (i + 1) q)
find-listed (Some x ∷ xs) i zero = rw (same (i + 0) i (omega arith))
find-listed (Some x ∷ xs) i (suc q) = passed i (i + suc q) x _ (omega arith) ∙ (let e : i + suc q ≡ (i + 1) + q =
    omega arith in ap (λ n. find nat_cmp n (listed (i + 1) xs)) e ∙ find-listed xs (i + 1) q)

-- the map has at a key what the place holds
pub get-places : {T : Type 0} (xs : List (Option T)) (q : ℕ) → get (from_entries {R = nat_cmp} (listed 0 xs)) q ≡ at xs q
get-places xs q = get-from_entries nat_cmp_total (listed 0 xs) q ∙ (let e : q ≡ 0 + q =
    omega arith in ap (λ n. find nat_cmp n (listed 0 xs)) e ∙ find-listed xs 0 q)

-- what a place holds, read with nothing as the default
pub at-get_or : {T : Type 0} (xs : List (Option T)) (q : ℕ) → at xs q ≡ get_or xs q None
at-get_or [] q = refl
at-get_or (x ∷ xs) zero = refl
at-get_or (x ∷ xs) (suc q) = at-get_or xs q

-- what a place holds after one was written
pub at-set : {T : Type 0} (xs : List (Option T)) (k : ℕ) (x : Option T) (q : ℕ) → k < length xs
    → at (set xs k x) q ≡ cond (eq_by_cmp nat_cmp q k) x (at xs q)
at-set [] k x q within = absurd (omega arith)
at-set (y ∷ xs) zero x zero within = refl
at-set (y ∷ xs) zero x (suc q) within = rw (differ (suc q) 0 (omega arith))
at-set (y ∷ xs) (suc k) x zero within = rw (differ 0 (suc k) (omega arith))
at-set (y ∷ xs) (suc k) x (suc q) within = at-set xs k x q (omega arith) ∙ ap (λ b. cond b x (at xs q)) (shifted q k)

-- what a place holds where a value was put behind all
at-push : {T : Type 0} (xs : List (Option T)) (v : T) (q : ℕ)
    → at (xs ++ Some v ∷ []) q ≡ cond (eq_by_cmp nat_cmp q (length xs)) (Some v) (at xs q)
at-push [] v zero = refl
at-push [] v (suc q) = rw (differ (suc q) 0 (omega arith))
at-push (y ∷ xs) v zero = rw (differ 0 (suc (length xs)) (omega arith))
at-push (y ∷ xs) v (suc q) = at-push xs v q ∙ ap (λ b. cond b (Some v) (at xs q)) (shifted q (length xs))

-- past the end no place holds anything
pub at-past : {T : Type 0} (xs : List (Option T)) (q : ℕ) → length xs ≤ q → at xs q ≡ None
at-past [] q past = refl
at-past (x ∷ xs) zero past = absurd (omega arith)
at-past (x ∷ xs) (suc q) past = at-past xs q (omega arith)

-- writing a value at a place is an insertion
pub map-put : {T : Type 0} (xs : List (Option T)) (k : ℕ) (v : T) → k < length xs
    → from_entries {R = nat_cmp} (listed 0 (set xs k (Some v))) ≡ insert (from_entries (listed 0 xs)) k v
map-put xs k v within = same_map nat_cmp_total nat_cmp-IsAntisymmetric _ _ (λ q. get-places _ q ∙ at-set xs k (Some v) q within
    ∙ sym (get-insert nat_cmp_total _ k v q ∙ ap (λ o. cond (eq_by_cmp nat_cmp q k) (Some v) o) (get-places xs q)))

-- emptying a place is a removal
pub map-empty : {T : Type 0} (xs : List (Option T)) (k : ℕ) → k < length xs
    → from_entries {R = nat_cmp} (listed 0 (set xs k None)) ≡ remove (from_entries (listed 0 xs)) k
map-empty xs k within = same_map nat_cmp_total nat_cmp-IsAntisymmetric _ _ (λ q. get-places _ q ∙ at-set xs k None q within
    ∙ sym (get-remove nat_cmp_total _ k q ∙ ap (λ o. cond (eq_by_cmp nat_cmp q k) None o) (get-places xs q)))

-- removing an absent key leaves what any key has
kept : {T : Type 0} (m : FinMap nat_cmp T) (k q : ℕ) → get m k ≡ None → (b : Bool) → eq_by_cmp nat_cmp q k ≡ b
    → cond b None (get m q) ≡ get m q
kept m k q absent true e = sym (ap (get m) (tied q k e) ∙ absent)
kept m k q absent false e = refl

-- a key that isn't there is removed with no change
pub map-absent : {T : Type 0} (m : FinMap nat_cmp T) (k : ℕ) → get m k ≡ None → remove m k ≡ m
map-absent m k absent = same_map nat_cmp_total nat_cmp-IsAntisymmetric _ _ (λ q. get-remove nat_cmp_total m k q
    ∙ kept m k q absent (eq_by_cmp nat_cmp q k) refl)

-- each listed value has a key of its own
len-listed : {T : Type 0} (xs : List (Option T)) (i : ℕ) → len (from_entries {R = nat_cmp} (listed i xs)) ≡ length (listed i xs)
len-listed {T} [] i = len-empty nat_cmp T
len-listed (None ∷ xs) i = len-listed xs (i + 1)
len-listed (Some x ∷ xs) i =
    let m = from_entries {R = nat_cmp} (listed (i + 1) xs) in
    len-insert nat_cmp_total m i x
    ∙ ap (λ o. cond (is_some o) (len m) (len m + 1)) (get-from_entries nat_cmp_total (listed (i + 1) xs) i
    ∙ find-below xs (i + 1) i (omega arith))
    ∙ add-one (len m) ∙ ap suc (len-listed xs (i + 1))

-- an empty place isn't counted
pub taken-none : {T : Type 0} (xs : List (Option T)) → taken (None ∷ xs) ≡ taken xs
taken-none {T} xs = omega (arith, sum_by-cons (λ (o : Option T). cond (is_some o) 1 0) None xs)

-- a value is counted once
pub taken-some : {T : Type 0} (x : T) (xs : List (Option T)) → taken (Some x ∷ xs) ≡ taken xs + 1
taken-some {T} x xs = omega (arith, sum_by-cons (λ (o : Option T). cond (is_some o) 1 0) (Some x) xs)

-- as many values are listed as places hold one
length-listed : {T : Type 0} (xs : List (Option T)) (i : ℕ) → length (listed i xs) ≡ taken xs
length-listed [] i = refl
length-listed (None ∷ xs) i = omega (arith, length-listed xs (i + 1), taken-none xs)
length-listed (Some x ∷ xs) i = omega (arith, length-listed xs (i + 1), taken-some x xs)

-- the map has as many keys as places hold a value
pub len-places : {T : Type 0} (xs : List (Option T)) → len (from_entries {R = nat_cmp} (listed 0 xs)) ≡ taken xs
len-places xs = len-listed xs 0 ∙ length-listed xs 0

-- in two lists as many places hold a value as in each
pub taken-append : {T : Type 0} (xs ys : List (Option T)) → taken (xs ++ ys) ≡ taken xs + taken ys
taken-append {T} xs ys = sum_by-append (λ (o : Option T). cond (is_some o) 1 0) xs ys

-- a value in a place, or in its stead nothing, is counted
pub taken-set : {T : Type 0} (xs : List (Option T)) (k : ℕ) (x : Option T) → k < length xs
    → taken (set xs k x) + cond (is_some (at xs k)) 1 0 ≡ taken xs + cond (is_some x) 1 0
taken-set {T} xs k x within = rw (at-get_or xs k) (sum_by-set (λ (o : Option T). cond (is_some o) 1 0) xs k x None within)

-- a value in an empty place is one more
pub taken-put : {T : Type 0} (xs : List (Option T)) (k : ℕ) (v : T) → k < length xs → at xs k ≡ None
    → taken (set xs k (Some v)) ≡ taken xs + 1
taken-put xs k v within empty = let counted = taken-set xs k (Some v) within in let was = rw empty at counted in omega (arith, was)

-- a value that is taken out is one less
pub taken-take : {T : Type 0} (xs : List (Option T)) (k : ℕ) (v : T) → k < length xs → at xs k ≡ Some v
    → taken (set xs k None) + 1 ≡ taken xs
taken-take xs k v within held = let counted = taken-set xs k None within in let was = rw held at counted in omega (arith, was)

-- another value in a place that has one leaves their number
pub taken-keep : {T : Type 0} (xs : List (Option T)) (k : ℕ) (w : T) → k < length xs → IsSome (at xs k)
    → taken (set xs k (Some w)) ≡ taken xs
taken-keep xs k w within held = let counted = taken-set xs k (Some w) within in let was = rw held at counted in omega (arith, was)

-- there are no more values than places
pub taken-le : {T : Type 0} (xs : List (Option T)) → taken xs ≤ length xs
taken-le xs = count_by-le-length is_some xs

-- a place that holds a value is one of the list's
pub at-live : {T : Type 0} (xs : List (Option T)) (k : ℕ) → IsSome (at xs k) → k < length xs
at-live [] k live = cc
at-live (x ∷ xs) zero live = omega arith
at-live (x ∷ xs) (suc k) live = omega (arith, at-live xs k live)

-- a value behind all places is an insertion
pub map-push : {T : Type 0} (xs : List (Option T)) (v : T) → map_of (xs ++ Some v ∷ []) ≡ insert (map_of xs) (length xs) v
map-push xs v = same_map nat_cmp_total nat_cmp-IsAntisymmetric _ _ (λ q. get-places _ q ∙ at-push xs v q
    ∙ sym (get-insert nat_cmp_total _ (length xs) v q ∙ ap (λ o. cond (eq_by_cmp nat_cmp q (length xs)) (Some v) o) (get-places xs q)))

-- and is one more
pub taken-push : {T : Type 0} (xs : List (Option T)) (v : T) → taken (xs ++ Some v ∷ []) ≡ taken xs + 1
taken-push xs v = omega (arith, taken-append xs (Some v ∷ []), taken-some v [])

-- what a place holds where all places from one on, which hold nothing, were dropped
at-cut : {T : Type 0} (n : ℕ) (xs : List (Option T)) (q : ℕ) → ((k : ℕ) → n ≤ k → at xs k ≡ None) → at (take n xs) q ≡ at xs q
at-cut zero xs q none = sym (none q (omega arith))
at-cut (suc n) [] q none = refl
at-cut (suc n) (x ∷ xs) zero none = refl
at-cut (suc n) (x ∷ xs) (suc q) none = at-cut n xs q (λ k from. none (suc k) (omega arith))

-- so the map is the same
pub map-cut : {T : Type 0} (n : ℕ) (xs : List (Option T)) → ((k : ℕ) → n ≤ k → at xs k ≡ None) → map_of (take n xs) ≡ map_of xs
map-cut n xs none = same_map nat_cmp_total nat_cmp-IsAntisymmetric _ _ (λ q. get-places (take n xs) q ∙ at-cut n xs q none
    ∙ sym (get-places xs q))

-- and as many values are held
pub taken-cut : {T : Type 0} (n : ℕ) (xs : List (Option T)) → ((k : ℕ) → n ≤ k → at xs k ≡ None) → taken (take n xs) ≡ taken xs
taken-cut n xs none = sym (len-places (take n xs)) ∙ ap len (map-cut n xs none) ∙ len-places xs
