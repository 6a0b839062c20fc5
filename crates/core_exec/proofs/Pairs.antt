-- The order of deadlines and their tasks.
use Rattle.std.proofs.Common.{ℕ, ◌≡◌, ◌≢◌, ◌≤◌, refl, sym, Bool, true, false, cond, arith}
use Rattle.std.specs.Ordering.{nat_cmp, is_eq, is_gt, ordering_then}
use Rattle.std.specs.declared.cmp.Ordering.{Ordering}
use Rattle.std.specs.declared.cmp.Ordering.TheVariants.{Less, Equal, Greater}
use Rattle.core_exec.proofs.Marking.{not_both}

-- What is so stays so where more is.
pub cond_true : (b y : Bool) → y ≡ true → cond b true y ≡ true
cond_true true y so = refl
cond_true false y so = so

-- Numbers that differ aren't equal in the order.
pub numbers_apart : (t s : ℕ) → s ≢ t → is_eq (nat_cmp t s) ≡ false
numbers_apart t s other = grind arith

-- Nor are pairs with them.
pub pairs_apart : (first : Ordering) (t s : ℕ) → s ≢ t → is_eq (ordering_then first (nat_cmp t s)) ≡ false
pairs_apart Less t s other = refl
pairs_apart Equal t s other = numbers_apart t s other
pairs_apart Greater t s other = refl

-- A number that isn't greater in the order isn't greater.
pub number_within : (a d : ℕ) → is_gt (nat_cmp a d) ≡ false → a ≤ d
number_within a d within = grind arith

-- The first of a pair that isn't greater isn't greater.
then_within : (first second : Ordering) → is_gt (ordering_then first second) ≡ false → is_gt first ≡ false
then_within Less second within = refl
then_within Equal second within = refl
then_within Greater second within = within

-- So is the first of such a pair.
pub pair_within : (a d t s : ℕ) → is_gt (ordering_then (nat_cmp a d) (nat_cmp t s)) ≡ false → a ≤ d
pair_within a d t s within = number_within a d (then_within (nat_cmp a d) (nat_cmp t s) within)

-- Pairs whose firsts differ aren't equal.
pub firsts_apart : (a d : ℕ) (second : Ordering) → d ≢ a → is_eq (ordering_then (nat_cmp a d) second) ≡ false
firsts_apart a d second other = first_apart (nat_cmp a d) second (numbers_apart a d other)
  where
    first_apart : (first second : Ordering) → is_eq first ≡ false → is_eq (ordering_then first second) ≡ false
    first_apart Less second apart = refl
    first_apart Equal second apart = not_both (sym apart)
    first_apart Greater second apart = refl
