-- Parts that are compared one by one: what a step of the walk leaves to compare.
use Rattle.std.proofs.Common.{◌≡◌, ◌∙◌, ℕ, ◌+◌, ◌<◌, ◌∷◌, Bool, true, false, ◌&&◌, length, drop, ap}
use Rattle.rent_buf.specs.Parts.{Parts, part_at}
use Rattle.rent_buf.specs.PartsSpec.{part_eq, parts_eq}
use Rattle.rent_buf.proofs.Front.{drop-part}

-- the parts from one on are equal where it is, and where those behind it are
eq_from : (xs ys : Parts) (i : ℕ) (same : Bool) → i < length xs → i < length ys → part_eq (part_at xs i) (part_at ys i) ≡ same
    → parts_eq (drop i xs) (drop i ys) ≡ (same && parts_eq (drop (i + 1) xs) (drop (i + 1) ys))
eq_from xs ys i same in_xs in_ys is =
    ap (λ (l : Parts). parts_eq l (drop i ys)) (drop-part xs i in_xs)
    ∙ ap (λ (l : Parts). parts_eq (part_at xs i ∷ drop (i + 1) xs) l) (drop-part ys i in_ys)
    ∙ ap (λ (b : Bool). b && parts_eq (drop (i + 1) xs) (drop (i + 1) ys)) is

-- behind a part that is equal, those behind it decide
pub eq_behind : (xs ys : Parts) (i : ℕ) → i < length xs → i < length ys → part_eq (part_at xs i) (part_at ys i) ≡ true
    → parts_eq (drop i xs) (drop i ys) ≡ parts_eq (drop (i + 1) xs) (drop (i + 1) ys)
eq_behind xs ys i in_xs in_ys is = eq_from xs ys i true in_xs in_ys is

-- a part that is not equal decides
pub eq_apart : (xs ys : Parts) (i : ℕ) → i < length xs → i < length ys → part_eq (part_at xs i) (part_at ys i) ≡ false
    → parts_eq (drop i xs) (drop i ys) ≡ false
eq_apart xs ys i in_xs in_ys is = eq_from xs ys i false in_xs in_ys is
