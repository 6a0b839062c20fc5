-- Turns of the loop of a copy: what they keep, and that each comes nearer to the end.
use Rattle.std.proofs.Common.{◌≡◌, ◌∙◌, ◌≤◌, ◌<◌, ◌+◌, ◌*◌, ◌-◌, ℕ, List, [], ◌∷◌, ◌++◌, Bool, length, take, drop, sym, ap, arith, min}
use Rattle.std.proofs.Common.{append_assoc, length-append}
use Rattle.std.proofs.lemmas.List.{length-take, length-drop, nil_from_length}
use Rattle.std.proofs.Common.{eqb, eqb-true, false, true, subst}
use Rattle.std.proofs.lemmas.Bool.{false≢true}
use Rattle.std.specs.Prelude.{IsTrue, Result, Ok, Err}
use Rattle.rent_buf.specs.Counts.{Rose}
use Rattle.rent_buf.specs.declared.fault.IoFault.{IoFault}
use Rattle.rent_io.specs.declared.poll.Step.{Step}
use Rattle.rent_io.specs.declared.poll.Step.TheVariants.{Ready, Pending}
use Rattle.stream_util.specs.Copy.{Copying, held_in}
use Rattle.stream_util.specs.declared.copy.Copied.{Copied}
use Rattle.copy_run.specs.Pieces.{IsSinkFault, PieceMoved, PieceRuns}
use Rattle.copy_run.specs.Places.{Joins}

-- 1 where a list is empty, and else 0.
abbrev pub none_there : List ℕ → ℕ
none_there [] = 1
none_there (x ∷ xs) = 0

module _ {ts both tk : Bool} {buffered left rest delivered later held kept : List ℕ} {used : ℕ} (tell : IsTrue ts → IsTrue both)
    (moved : PieceMoved both tk buffered left rest delivered later held kept used) where
  -- A run over the first bytes that are left keeps the joined list.
  pub joins_piece : {all : List ℕ} → Joins ts tk delivered held left all → Joins ts tk later kept rest all
  joins_piece joins = record {
    joined = λ s k.
        let took = take used buffered in
        ap (λ l. l ++ rest) (moved.joined k ∙ sym (append_assoc delivered held took)) ∙ append_assoc (delivered ++ held) took rest
        ∙ ap (λ l. (delivered ++ held) ++ l) (sym (moved.behind (tell s))) ∙ joins.joined s k;
  }

  -- What it read is gone from what is left, and from the number of bytes that may still come.
  pub budget_piece : (budget most total : ℕ) → used ≤ min budget (length buffered) → (IsTrue ts → length left + most ≡ total + budget)
      → IsTrue ts → length rest + most ≡ total + (budget - used)
  budget_piece budget most total within sum s = omega
      (arith, within, sum s, ap length (moved.behind (tell s)), length-append (take used buffered) rest, length-take used buffered)

-- What it holds, where it is known what the run answers.
pub kept_in : {both tk : Bool} {buffered left rest delivered later held : List ℕ} {used : ℕ} {step is : Step Copying Copied} → step ≡ is
    → PieceMoved both tk buffered left rest delivered later held (held_in step) used
    → PieceMoved both tk buffered left rest delivered later held (held_in is) used
kept_in {both} {tk} {buffered} {left} {rest} {delivered} {later} {held} {used} same moved =
    subst (λ s. PieceMoved both tk buffered left rest delivered later held (held_in s) used) same moved

-- A fill keeps the joined list.
pub joins_fill : {ts tk : Bool} {delivered held left rest all : List ℕ} → Joins ts tk delivered held left all
    → (IsTrue ts → rest ≡ left) → Joins ts tk delivered held rest all
joins_fill {ts} {tk} {delivered} {held} joins same =
    record { joined = λ s k. ap (λ l. (delivered ++ held) ++ l) (same s) ∙ joins.joined s k }

-- A fill keeps the number.
pub budget_fill : (ts : Bool) (left rest : List ℕ) (most sum : ℕ) → (IsTrue ts → length left + most ≡ sum) → (IsTrue ts → rest ≡ left)
    → IsTrue ts → length rest + most ≡ sum
budget_fill ts left rest most sum is same s = omega (arith, is s, ap length (same s))

-- A run that waits, and then a fill of some bytes, come nearer to the end.
pub fill_smaller : (budget used held kept : ℕ) (before now : List ℕ) → used ≤ min budget (length before) → kept ≤ held + used
    → drop used before ≡ [] → 0 < length now
    → 4 * (budget - used) + 2 * kept + none_there now < 4 * budget + 2 * held + none_there before
fill_smaller budget used held kept before [] within more empty some = absurd (omega (arith, some))
fill_smaller budget used held kept [] (y ∷ ys) within more empty some = omega (arith, within, more)
fill_smaller budget used held kept (x ∷ xs) (y ∷ ys) within more empty some =
    omega (arith, within, more, ap length empty, length-drop used (x ∷ xs))

-- A fault of the sink: its count rose since the copy began.
sink-rose : (first before now : ℕ) (result : Result ℕ IoFault) → first ≤ before → IsSinkFault before now result → Rose first now
sink-rose first before now (Ok n) order fault = absurd fault
sink-rose first before now (Err e) order fault = omega (arith, order, fault)

-- A run that ended: the sink's count of faults rose since the copy began.
pub run_rose : (size used first faults later : ℕ) (copy : Copying) (step : Step Copying Copied) (copied : Copied) → step ≡ Ready copied
    → first ≤ faults → PieceRuns size used faults later copy step → Rose first later
run_rose size used first faults later copy step copied is order runs =
    sink-rose first faults later copied.result order (subst (λ s. PieceRuns size used faults later copy s) is runs)

-- What a run that waits copied.
pub run_waits : (size used faults later : ℕ) (copy next : Copying) (step : Step Copying Copied) → step ≡ Pending next
    → PieceRuns size used faults later copy step → (used ≡ size) × (length next.held ≤ length copy.held + used)
run_waits size used faults later copy next step is runs = subst (λ s. PieceRuns size used faults later copy s) is runs

-- A test that finds bytes: there are some.
pub some_there : (xs : List ℕ) (empty : Bool) → empty ≡ eqb (length xs) 0 → empty ≡ false → 0 < length xs
some_there [] empty is fails = absurd (false≢true (sym fails ∙ is))
some_there (x ∷ xs) empty is fails = omega arith

-- A test that finds none: there is none.
pub nothing_there : (xs : List ℕ) (empty : Bool) → empty ≡ eqb (length xs) 0 → empty ≡ true → xs ≡ []
nothing_there xs empty is holds = nil_from_length xs (eqb-true (length xs) 0 (sym is ∙ holds))

-- Where nothing is left, nothing is left behind what is buffered.
pub none_behind : (held front left : List ℕ) → held ++ (front ++ left) ≡ [] → left ≡ []
none_behind held front left none =
    nil_from_length left (omega (arith, ap length none, length-append held (front ++ left), length-append front left))

-- Where the number of bytes that may still come is used up and some are buffered, more were left than may be copied.
pub left_more : (held front left before : List ℕ) (most : ℕ) → length (held ++ (front ++ left)) + most ≡ length before + 0
    → 0 < length held → length left + most < length before
left_more held front left before most sum some = omega (arith, sum, some, length-append held (front ++ left), length-append front left)
