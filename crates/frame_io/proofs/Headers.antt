-- A number and a header at the front of bytes are there too if more bytes follow.
use Rattle.std.proofs.Common.{◌≡◌, ℕ, zero, suc, ◌+◌, ◌-◌, ◌*◌, ◌/◌, ◌<◌, ◌≤◌, List, [], ◌∷◌, ◌++◌, Bool, true, false, length, drop}
use Rattle.std.proofs.Common.{sym, ap, subst, refl, arith}
use Rattle.std.proofs.Common.{cond}
use Rattle.std.specs.Prelude.{nat_eq, nat_lt, nat_le}
use Rattle.std.proofs.lemmas.Bool.{cond_both}
use Rattle.std.proofs.lemmas.Bool.Decides.{nat_tests}
use Rattle.std.proofs.lemmas.List.{length-drop, drop-append-le}
use Rattle.frame_io.specs.declared.fault.BadFrame.TheVariants.{Number, Large, Flag}
use Rattle.frame_io.specs.declared.header.Head.{Head}
use Rattle.frame_io.specs.declared.header.Header.{Header}
use Rattle.frame_io.specs.declared.header.Header.TheVariants.{Whole, Cut, Bad}
use Rattle.frame_io.specs.declared.number.Field.{Field}
use Rattle.frame_io.specs.declared.number.Field.TheVariants.{Whole as FieldWhole, Cut as FieldCut, Wrong as FieldWrong}
use Rattle.frame_io.specs.Number.{behind, number_below, number_at}
use Rattle.frame_io.specs.Piece.{flag_then, size_then, channel_then, header_at, IsHeader}

-- No bytes are less than a header.
pub no_header : header_at [] ≡ Cut
unfolding header_at number_at
no_header = refl

-- What a field is, with more bytes behind these: a number and what is none stay, and a number that was begun takes more bytes.
abbrev pub FieldGoes : ℕ → Field → Field → Type 0
FieldGoes n (FieldWhole v count) later = later ≡ FieldWhole v count
FieldGoes n FieldCut (FieldWhole v count) = n < count
FieldGoes n FieldCut FieldCut = Unit {0}
FieldGoes n FieldCut FieldWrong = Unit {0}
FieldGoes n FieldWrong later = later ≡ FieldWrong

-- A number takes at least one byte.
abbrev pub TakesSome : ℕ → Field → Type 0
TakesSome most (FieldWhole v count) = (0 < count) × (count ≤ most)
TakesSome most FieldCut = Unit {0}
TakesSome most FieldWrong = Unit {0}

-- A number with a byte more before it is none, or takes at least one byte, and at most one more than so many.
some_if : (b : Bool) (byte most v count : ℕ) → (0 < count) × (count ≤ most)
    → TakesSome (suc most) (cond b FieldWrong (FieldWhole (byte - 128 + 128 * v) (count + 1)))
some_if true byte most v count some = tt
some_if false byte most v count some = (omega arith, omega (arith, some.1))

-- With a byte before it, a field takes at least one byte, and at most one more than so many.
behind_some : (byte most : ℕ) (f : Field) → TakesSome most f → TakesSome (suc most) (behind byte f)
behind_some byte most (FieldWhole v count) some = some_if (nat_eq v 0) byte most v count some
behind_some byte most FieldCut some = tt
behind_some byte most FieldWrong some = tt

-- So does what stands at a first byte: this byte alone, no number, or the field.
some_at : (p q r : Bool) (byte most : ℕ) (f : Field) → TakesSome (suc most) f
    → TakesSome (suc most) (cond p (cond q (FieldWhole byte 1) FieldWrong) (cond r FieldWrong f))
some_at true true r byte most f some = (omega arith, omega arith)
some_at true false r byte most f some = tt
some_at false q true byte most f some = tt
some_at false q false byte most f some = some

-- A number at the front of bytes takes at least one of them, and no more than there are.
pub takes_some : (limit : ℕ) (bytes : List ℕ) → TakesSome (length bytes) (number_below limit bytes)
takes_some limit [] = tt
takes_some limit (byte ∷ bytes) = some_at (nat_lt byte 128) (nat_lt byte limit) (nat_le limit 128) byte (length bytes)
    (behind byte (number_below (limit / 128) bytes)) (behind_some byte (length bytes) (number_below (limit / 128) bytes)
    (takes_some (limit / 128) bytes))

-- A field that is whole or none stays.
stays_if : (b : Bool) (n v count : ℕ)
    → FieldGoes n (cond b FieldWrong (FieldWhole v count)) (cond b FieldWrong (FieldWhole v count))
stays_if true n v count = refl
stays_if false n v count = refl

-- A number that was begun goes on as no number, or as a whole one that takes more bytes.
begun_if : (b : Bool) (n v count : ℕ) → n < count → FieldGoes n FieldCut (cond b FieldWrong (FieldWhole v count))
begun_if true n v count more = tt
begun_if false n v count more = more

-- What more bytes make of a field, they make of it with a byte before it too.
behind_goes : (byte n : ℕ) (f g : Field) → FieldGoes n f g → FieldGoes (suc n) (behind byte f) (behind byte g)
behind_goes byte n (FieldWhole v count) g goes =
    subst (λ x. FieldGoes (suc n) (behind byte (FieldWhole v count)) (behind byte x)) (sym goes)
    (stays_if (nat_eq v 0) (suc n) (byte - 128 + 128 * v) (count + 1))
behind_goes byte n FieldCut (FieldWhole v count) goes =
    begun_if (nat_eq v 0) (suc n) (byte - 128 + 128 * v) (count + 1) (omega (arith, goes))
behind_goes byte n FieldCut FieldCut goes = tt
behind_goes byte n FieldCut FieldWrong goes = tt
behind_goes byte n FieldWrong g goes = ap (behind byte) goes

-- And of what stands at a first byte: this byte alone, no number, or the field.
goes_at : (p q r : Bool) (byte n : ℕ) (f g : Field) → FieldGoes n f g
    → FieldGoes n (cond p (cond q (FieldWhole byte 1) FieldWrong) (cond r FieldWrong f))
    (cond p (cond q (FieldWhole byte 1) FieldWrong) (cond r FieldWrong g))
goes_at true true r byte n f g goes = refl
goes_at true false r byte n f g goes = refl
goes_at false q true byte n f g goes = refl
goes_at false q false byte n f g goes = goes

-- Where no bytes were, any field may come that takes at least one byte if it is whole.
none_goes : (most : ℕ) (g : Field) → TakesSome most g → FieldGoes 0 FieldCut g
none_goes most (FieldWhole v count) some = some.0
none_goes most FieldCut some = tt
none_goes most FieldWrong some = tt

-- With more bytes behind, a whole number and what is none stay, and a begun number that gets whole takes more bytes.
pub number_goes : (limit : ℕ) (xs ys : List ℕ) → FieldGoes (length xs) (number_below limit xs) (number_below limit (xs ++ ys))
number_goes limit [] ys = none_goes (length ys) (number_below limit ys) (takes_some limit ys)
number_goes limit (x ∷ xs) ys = goes_at (nat_lt x 128) (nat_lt x limit) (nat_le limit 128) x (suc (length xs))
    (behind x (number_below (limit / 128) xs)) (behind x (number_below (limit / 128) (xs ++ ys)))
    (behind_goes x (length xs) (number_below (limit / 128) xs) (number_below (limit / 128) (xs ++ ys)) (number_goes (limit / 128) xs ys))

-- The same of a header.
abbrev pub HeaderGoes : ℕ → Header → Header → Type 0
HeaderGoes n (Whole head count) later = later ≡ Whole head count
HeaderGoes n Cut (Whole head count) = n < count
HeaderGoes n Cut Cut = Unit {0}
HeaderGoes n Cut (Bad fault) = Unit {0}
HeaderGoes n (Bad fault) later = later ≡ Bad fault

-- A header that was begun goes on as one with a wrong flag, or as a whole one that takes more bytes.
flag_more_if : (b : Bool) (n count : ℕ) (head : Head) → n < count → HeaderGoes n Cut (cond b (Bad Flag) (Whole head count))
flag_more_if true n count head more = tt
flag_more_if false n count head more = more

-- A header of which no more bytes were there than its numbers' takes more with its flag.
flag_more : (channel size count n : ℕ) (bytes : List ℕ) → n ≤ count → HeaderGoes n Cut (flag_then channel size count bytes)
flag_more channel size count n [] more = tt
flag_more channel size count n (flag ∷ bytes) more = flag_more_if (nat_lt 1 flag) n (count + 1) _ (omega arith)

-- A header that has a wrong flag, or is whole, stays.
flag_stays_if : (b : Bool) (n count : ℕ) (head : Head)
    → HeaderGoes n (cond b (Bad Flag) (Whole head count)) (cond b (Bad Flag) (Whole head count))
flag_stays_if true n count head = refl
flag_stays_if false n count head = refl

-- With more bytes behind, what is there with a flag stays, and a header that lacks its flag takes more bytes if it gets whole.
flag_goes : (channel size count n : ℕ) (xs ys : List ℕ) → n ≤ count + length xs
    → HeaderGoes n (flag_then channel size count xs) (flag_then channel size count (xs ++ ys))
flag_goes channel size count n [] ys is = flag_more channel size count n ys (omega arith)
flag_goes channel size count n (flag ∷ xs) ys is = flag_stays_if (nat_lt 1 flag) n (count + 1) _

-- A header that was begun goes on as one that is too large, or as before.
size_more_if : (b : Bool) (n : ℕ) (h : Header) → HeaderGoes n Cut h → HeaderGoes n Cut (cond b (Bad Large) h)
size_more_if true n h goes = tt
size_more_if false n h goes = goes

-- A header that was begun takes more bytes if its length does.
size_more : (channel count n : ℕ) (bytes : List ℕ) (f : Field) → FieldGoes (n - count) FieldCut f
    → HeaderGoes n Cut (size_then channel count bytes f)
size_more channel count n bytes (FieldWhole size more) goes =
    size_more_if (nat_lt 65536 size) n (flag_then channel size (count + more) (drop more bytes))
    (flag_more channel size (count + more) n (drop more bytes) (omega (arith, goes)))
size_more channel count n bytes FieldCut goes = tt
size_more channel count n bytes FieldWrong goes = tt

-- What more bytes make of a header, they make of it too where it may be too large.
size_goes_if : (b : Bool) (n : ℕ) (h k : Header) → HeaderGoes n h k → HeaderGoes n (cond b (Bad Large) h) (cond b (Bad Large) k)
size_goes_if true n h k goes = refl
size_goes_if false n h k goes = goes

-- A number that takes more than so many bytes takes more than fewer.
cut_less : (m n : ℕ) (g : Field) → m ≤ n → FieldGoes n FieldCut g → FieldGoes m FieldCut g
cut_less m n (FieldWhole v count) less goes = omega (arith, goes)
cut_less m n FieldCut less goes = tt
cut_less m n FieldWrong less goes = tt

-- From its length on, a header stays, or takes more bytes, as its length does.
size_goes : (channel count n : ℕ) (xs ys : List ℕ) (f g : Field) → n ≤ count + length xs → TakesSome (length xs) f
    → FieldGoes (length xs) f g → HeaderGoes n (size_then channel count xs f) (size_then channel count (xs ++ ys) g)
size_goes channel count n xs ys (FieldWhole size more) g is some goes =
    let within : more ≤ length xs = some.1 in
    subst (λ x. HeaderGoes n (size_then channel count xs (FieldWhole size more)) (size_then channel count (xs ++ ys) x)) (sym goes)
    (size_goes_if (nat_lt 65536 size) n (flag_then channel size (count + more) (drop more xs))
    (flag_then channel size (count + more) (drop more (xs ++ ys)))
    (subst (λ l. HeaderGoes n (flag_then channel size (count + more) (drop more xs)) (flag_then channel size (count + more) l))
    (sym (drop-append-le more xs ys within))
    (flag_goes channel size (count + more) n (drop more xs) ys (omega (arith, length-drop more xs)))))
size_goes channel count n xs ys FieldCut g is some goes =
    size_more channel count n (xs ++ ys) g (cut_less (n - count) (length xs) g (omega arith) goes)
size_goes channel count n xs ys FieldWrong g is some goes =
    subst (λ x. size_then channel count (xs ++ ys) x ≡ Bad Number) (sym goes) refl

-- A header whose channel takes more bytes than were there takes more too.
behind_channel : (channel count n : ℕ) (bytes : List ℕ) → n < count → HeaderGoes n Cut (size_then channel count bytes (number_at bytes))
unfolding number_at
behind_channel channel count n bytes more = size_more channel count n bytes (number_at bytes)
    (cut_less (n - count) 0 (number_at bytes) (omega arith) (none_goes (length bytes) (number_at bytes) (takes_some 4294967296 bytes)))

-- From its channel on, a header stays, or takes more bytes, as its channel does.
channel_goes : (xs ys : List ℕ) (f g : Field) → TakesSome (length xs) f → FieldGoes (length xs) f g
    → HeaderGoes (length xs) (channel_then xs f) (channel_then (xs ++ ys) g)
unfolding number_at
channel_goes xs ys (FieldWhole channel count) g some goes =
    let within : count ≤ length xs = some.1 in
    subst (λ x. HeaderGoes (length xs) (channel_then xs (FieldWhole channel count)) (channel_then (xs ++ ys) x)) (sym goes)
    (subst (λ l. HeaderGoes (length xs) (size_then channel count (drop count xs) (number_at (drop count xs)))
    (size_then channel count l (number_at l))) (sym (drop-append-le count xs ys within))
    (size_goes channel count (length xs) (drop count xs) ys (number_at (drop count xs)) (number_at (drop count xs ++ ys))
    (omega (arith, length-drop count xs)) (takes_some 4294967296 (drop count xs)) (number_goes 4294967296 (drop count xs) ys)))
channel_goes xs ys FieldCut (FieldWhole channel count) some goes =
    behind_channel channel count (length xs) (drop count (xs ++ ys)) goes
channel_goes xs ys FieldCut FieldCut some goes = tt
channel_goes xs ys FieldCut FieldWrong some goes = tt
channel_goes xs ys FieldWrong g some goes = subst (λ x. channel_then (xs ++ ys) x ≡ Bad Number) (sym goes) refl

-- With more bytes behind, a whole header and a fault stay, and a begun header that gets whole takes more bytes.
pub header_goes : (xs ys : List ℕ) → HeaderGoes (length xs) (header_at xs) (header_at (xs ++ ys))
unfolding header_at number_at
header_goes xs ys = channel_goes xs ys (number_at xs) (number_at (xs ++ ys)) (takes_some 4294967296 xs) (number_goes 4294967296 xs ys)

-- The numbers of so many bytes, and one more, are below this.
abbrev pub room : ℕ → ℕ
room zero = 128
room (suc k) = 128 * room k

-- A number takes so many bytes at most.
abbrev pub Short : ℕ → Field → Type 0
Short most (FieldWhole v count) = count ≤ most
Short most FieldCut = Unit {0}
Short most FieldWrong = Unit {0}

-- A number that takes so many bytes at most does so too where it may be none.
short_if : (b : Bool) (most v count : ℕ) → count ≤ most → Short most (cond b FieldWrong (FieldWhole v count))
short_if true most v count less = tt
short_if false most v count less = less

-- With a byte before it, a field takes at most one byte more.
behind_short : (byte most : ℕ) (f : Field) → Short most f → Short (suc most) (behind byte f)
behind_short byte most (FieldWhole v count) less =
    short_if (nat_eq v 0) (suc most) (byte - 128 + 128 * v) (count + 1) (omega (arith, less))
behind_short byte most FieldCut less = tt
behind_short byte most FieldWrong less = tt

-- What one byte is alone, a number or none, takes one byte at most.
one_short : (b : Bool) (most byte : ℕ) → Short (suc most) (cond b (FieldWhole byte 1) FieldWrong)
one_short true most byte = omega arith
one_short false most byte = tt

-- A number below a limit within room k takes k bytes and one more at most.
pub short : (k limit : ℕ) (bytes : List ℕ) → limit ≤ room k → Short (suc k) (number_below limit bytes)
short k limit [] fits = tt
short zero limit (byte ∷ bytes) fits =
    cond_both (nat_lt byte 128) (cond (nat_lt byte limit) (FieldWhole byte 1) FieldWrong)
    (cond (nat_le limit 128) FieldWrong (behind byte (number_below (limit / 128) bytes))) (Short 1)
    (λ e. one_short (nat_lt byte limit) 0 byte)
    (λ e. cond_both (nat_le limit 128) FieldWrong (behind byte (number_below (limit / 128) bytes)) (Short 1) (λ l. tt)
    (λ l. absurd (grind (arith, nat_tests))))
short (suc k) limit (byte ∷ bytes) fits =
    cond_both (nat_lt byte 128) (cond (nat_lt byte limit) (FieldWhole byte 1) FieldWrong)
    (cond (nat_le limit 128) FieldWrong (behind byte (number_below (limit / 128) bytes))) (Short (suc (suc k)))
    (λ e. one_short (nat_lt byte limit) (suc k) byte)
    (λ e. cond_both (nat_le limit 128) FieldWrong (behind byte (number_below (limit / 128) bytes)) (Short (suc (suc k))) (λ l. tt)
    (λ l. behind_short byte (suc k) (number_below (limit / 128) bytes) (short k (limit / 128) bytes (omega arith))))

-- A number below 2 ^ 32 takes five bytes at most.
pub short_number : (bytes : List ℕ) → Short 5 (number_at bytes)
unfolding number_at
short_number bytes = short 4 4294967296 bytes (omega arith)

-- A header that has a wrong flag, or is whole within its bounds, is within them.
flag_within_if : (b : Bool) (most count : ℕ) (head : Head) → 0 < count → count ≤ most → count ≤ 11 → head.size ≤ 65536
    → IsHeader most (cond b (Bad Flag) (Whole head count))
flag_within_if true most count head some within few fits = tt
flag_within_if false most count head some within few fits = (some, within, few, fits)

-- From its flag on, a header is within its bounds, if its numbers take ten bytes at most, and its piece has 65536 at most.
flag_within : (channel size count most : ℕ) (bytes : List ℕ) → count + length bytes ≤ most → count ≤ 10 → size ≤ 65536
    → IsHeader most (flag_then channel size count bytes)
flag_within channel size count most [] within few fits = tt
flag_within channel size count most (flag ∷ bytes) within few fits =
    flag_within_if (nat_lt 1 flag) most (count + 1) _ (omega arith) (omega arith) (omega arith) fits

-- From its length on, it is so if its channel and its length take five bytes at most each.
size_within : (channel count most : ℕ) (bytes : List ℕ) (f : Field) → count + length bytes ≤ most → count ≤ 5
    → TakesSome (length bytes) f → Short 5 f → IsHeader most (size_then channel count bytes f)
size_within channel count most bytes (FieldWhole size more) within few some less =
    cond_both (nat_lt 65536 size) (Bad Large) (flag_then channel size (count + more) (drop more bytes)) (IsHeader most) (λ e. tt)
    (λ e. flag_within channel size (count + more) most (drop more bytes) (omega (arith, length-drop more bytes, some.1))
    (omega (arith, less)) (grind (arith, nat_tests)))
size_within channel count most bytes FieldCut within few some less = tt
size_within channel count most bytes FieldWrong within few some less = tt

-- From its channel on, it is so if the channel takes five bytes at most.
channel_within : (bytes : List ℕ) (f : Field) → TakesSome (length bytes) f → Short 5 f → IsHeader (length bytes) (channel_then bytes f)
unfolding number_at
channel_within bytes (FieldWhole channel count) some less =
    size_within channel count (length bytes) (drop count bytes) (number_at (drop count bytes))
    (omega (arith, length-drop count bytes, some.1)) less (takes_some 4294967296 (drop count bytes)) (short_number (drop count bytes))
channel_within bytes FieldCut some less = tt
channel_within bytes FieldWrong some less = tt

-- A header takes at least one of the bytes, and eleven at most, and its piece has 65536 bytes at most.
pub header_within : (bytes : List ℕ) → IsHeader (length bytes) (header_at bytes)
unfolding header_at number_at
header_within bytes = channel_within bytes (number_at bytes) (takes_some 4294967296 bytes) (short_number bytes)
