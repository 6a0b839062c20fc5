-- The first part of a vector that has room, or bytes.
use Rattle.std.proofs.Common.{◌≡◌, ◌∙◌, ℕ, zero, suc, ◌≤◌, List, [], ◌∷◌, ◌++◌, length, take, refl, ap, arith, inl, inr}
use Rattle.std.proofs.Common.{length-append}
use Rattle.std.specs.List.{concat}
use Rattle.std.proofs.lemmas.List.{nil_from_length}
use Rattle.std.specs.Prelude.{Result, Ok, Err}
use Rattle.rent_buf.specs.declared.fault.IoFault.{IoFault}
use Rattle.rent_io.specs.declared.poll.PollBuf.TheVariants.{Ready}
use Rattle.rent_io.specs.Counts.{Counts}
use Rattle.rent_io.specs.Polls.{CountsNone}
use Rattle.rent_io.specs.Writer.{first_part}

-- The first bytes of two lists that are joined are the first of the first.
pub take-first : (xs ys : List ℕ) (n : ℕ) → n ≤ length xs → take n xs ≡ take n (xs ++ ys)
take-first xs ys zero within = refl
take-first [] ys (suc n) within = absurd (omega arith)
take-first (x ∷ xs) ys (suc n) within = ap (λ l. x ∷ l) (take-first xs ys n (omega arith))

-- The first bytes of the first part that has any are the first of all.
pub first_part-front : (parts : List (List ℕ)) (n : ℕ) → n ≤ length (first_part parts) → take n (first_part parts) ≡ take n (concat parts)
first_part-front [] n within = refl
first_part-front ([] ∷ parts) n within = first_part-front parts n within
first_part-front ((byte ∷ bytes) ∷ parts) n within = take-first (byte ∷ bytes) (concat parts) n within

-- The first part has no more bytes than all.
pub first_part-within : (parts : List (List ℕ)) → length (first_part parts) ≤ length (concat parts)
first_part-within [] = omega arith
first_part-within ([] ∷ parts) = first_part-within parts
first_part-within ((byte ∷ bytes) ∷ parts) = omega (arith, length-append (byte ∷ bytes) (concat parts))

-- The first bytes of the first part, delivered, are the first of all.
pub parts_written : (before now : List ℕ) (parts : List (List ℕ)) (n : ℕ) → n ≤ length (first_part parts)
    → now ≡ before ++ take n (first_part parts) → now ≡ before ++ take n (concat parts)
parts_written before now parts n within is = is ∙ ap (λ l. before ++ l) (first_part-front parts n within)

-- And there are so many bytes in all.
pub parts_within : (parts : List (List ℕ)) (n : ℕ) → n ≤ length (first_part parts) → n ≤ length (concat parts)
parts_within parts n within = omega (arith, within, first_part-within parts)

-- Where the first part has none, there are none in all.
pub none_at_all : (parts : List (List ℕ)) → first_part parts ≡ [] → concat parts ≡ []
none_at_all [] none = refl
none_at_all ([] ∷ parts) none = none_at_all parts none
none_at_all ((byte ∷ bytes) ∷ parts) none = absurd (cc none)

-- A write of none of the first part's bytes, where it has some, is one of none of all.
pub none_of_all : {T U : Type 0} (parts : List (List ℕ)) (before now : Counts) (outcome : Result ℕ IoFault) (back : T) (buf : U)
    → CountsNone (length (first_part parts)) before now (Ready outcome back)
    → CountsNone (length (concat parts)) before now (Ready outcome buf)
none_of_all parts before now (Ok n) back buf counted = λ none. elim (counted none) [
  | inl empty ↦ inl (ap length (none_at_all parts (nil_from_length (first_part parts) empty)))
  | inr rose ↦ inr rose
]
none_of_all parts before now (Err fault) back buf counted = tt
