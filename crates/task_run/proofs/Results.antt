-- Lines and the tasks of their bytes, one after another.
use Rattle.std.proofs.Common.{◌≡◌, ◌∙◌, ◌≤◌, ◌<◌, ◌+◌, ◌++◌, ℕ, zero, suc, List, [], ◌∷◌, length, drop, Some, None}
use Rattle.std.proofs.Common.{refl, sym, ap, subst, arith}
use Rattle.std.specs.Prelude.{◌⊎◌, IsSome, Result, unwrap_or}
use Rattle.std.proofs.Common.{inl, inr}
use Rattle.std.specs.List.{All}
use Rattle.std.specs.List.Sorted.{IsNonDecreasingBy, IsPermutation}
use Rattle.std.proofs.lemmas.List.Sorted.{length_permutation}
use Rattle.event_text.specs.TextLines.{lines}
use Rattle.event_text.specs.TextReads.{bytes_of}
use Rattle.core_exec.specs.Places.{outputs_at}
use Rattle.pipe_job.specs.PipeJob.{IsAim}
use Rattle.rent_buf.specs.declared.fault.IoFault.{IoFault}
use Rattle.task_run.specs.Lines.{left_line, result_lines}
use Rattle.task_run.specs.Tasks.{AreResults, AreRight, IsSpawned, WritesResults, bytes_at, first_bytes, line_bytes}

-- The lines so far are those before these.
pub record Reads (text : List ℕ) (rest : List ℕ) (number : ℕ) : Type 0 where
  pub behind : drop number (lines text) ≡ lines rest
  pub count : number + length (lines rest) ≡ length (lines text)
  pub within : number + length rest ≤ length text
  pub right : AreRight text number

-- What is behind the first of a list.
drop_next : {A : Type 0} (xs ys : List A) (x : A) (n : ℕ) → drop n xs ≡ x ∷ ys → drop (suc n) xs ≡ ys
drop_next [] ys x zero same = absurd cc
drop_next [] ys x (suc n) same = absurd cc
drop_next (y ∷ xs) ys x zero same = cc
drop_next (y ∷ xs) ys x (suc n) same = drop_next xs ys x n same

-- The line of a number writes what the next line does.
pub line_here : (text rest line behind : List ℕ) (number : ℕ) → Reads text rest number → lines rest ≡ line ∷ lines behind
    → line_bytes text number ≡ bytes_of line
line_here text rest line behind number reads next = ap first_bytes (reads.behind ∙ next)

-- It is the task's.
pub line_read : (text rest line behind bytes : List ℕ) (number : ℕ) → Reads text rest number → lines rest ≡ line ∷ lines behind
    → Some bytes ≡ bytes_of line → bytes_at text number ≡ bytes
line_read text rest line behind bytes number reads next is =
    ap (λ o. unwrap_or o []) (line_here text rest line behind number reads next ∙ sym is)

-- One line further.
pub line_next : (text rest line behind bytes : List ℕ) (number : ℕ) → Reads text rest number → lines rest ≡ line ∷ lines behind
    → length behind < length rest → Some bytes ≡ bytes_of line → Reads text behind (number + 1)
line_next text rest line behind bytes number reads next less is =
    let more : suc number ≡ number + 1 = omega arith in
    record {
      behind = subst (λ n. drop n (lines text) ≡ lines behind) more
          (drop_next (lines text) (lines behind) line number (reads.behind ∙ next));
      count = (let count = reads.count in let one : length (lines rest) ≡ suc (length (lines behind)) = ap length next in
          omega (arith, count, one));
      within = (let within = reads.within in omega (arith, within, less));
      right = right_more;
    }
  where
    right_more : AreRight text (number + 1)
    right_more t below = elim (cases t below) [
      | inl early ↦ reads.right t early
      | inr same ↦ subst (λ n. IsSome (line_bytes text n)) (sym same)
          (subst (λ o. IsSome o) (is ∙ sym (line_here text rest line behind number reads next)) refl)
    ]
      where
        cases : (t : ℕ) → t < number + 1 → (t < number) ⊎ (t ≡ number)
        cases t below = grind arith

-- At the end all lines were read.
pub lines_end : (text rest : List ℕ) (number : ℕ) → Reads text rest number → length rest ≡ 0 → IsSpawned text number None
lines_end text rest number reads none =
    let empty : rest ≡ [] = nil rest none in
    let last : length (lines rest) ≡ 0 = ap (λ r. length (lines r)) empty in
    let count = reads.count in
    let same : number ≡ length (lines text) = omega (arith, count, last) in
    (subst (AreRight text) same reads.right, same)
  where
    nil : (xs : List ℕ) → length xs ≡ 0 → xs ≡ []
    nil [] is = refl
    nil (x ∷ xs) is = absurd (omega (arith, is))

-- The next line is the first that writes no bytes.
pub line_wrong : (text rest line behind : List ℕ) (number spawned : ℕ) → Reads text rest number → lines rest ≡ line ∷ lines behind
    → None ≡ bytes_of line → IsSpawned text spawned (Some (number + 1))
line_wrong text rest line behind number spawned reads next is = record {
  before = number;
  number_is = refl;
  there = (let count = reads.count in let one : length (lines rest) ≡ suc (length (lines behind)) = ap length next in
      omega (arith, count, one));
  right = reads.right;
  wrong = line_here text rest line behind number reads next ∙ sym is;
}

-- The outputs that were taken of tasks, of which there was one for each line.
pub taken_results : (text : List ℕ) (outputs taken : List (ℕ × Result (List ℕ) IoFault)) (before left spawned : ℕ)
    → IsPermutation outputs taken → IsNonDecreasingBy (λ r. r.0) taken → ((t : ℕ) → outputs_at taken t ≤ 1)
    → ((t : ℕ) → spawned ≤ t → outputs_at taken t ≡ 0) → All (λ r. IsAim (bytes_at text r.0) r.1) taken
    → length outputs + before ≡ spawned → left ≡ before → spawned ≡ length (lines text) → AreResults text taken left
taken_results text outputs taken before left spawned moved ascending once of_spawned meet all same is = record {
  ascending = ascending;
  once = once;
  of_lines = λ t most. of_spawned t (subst (λ n. n ≤ t) (sym is) most);
  meet = meet;
  all = (let count = length_permutation outputs taken moved in omega (arith, count, all, same, is));
}

-- What was written behind nothing are the lines of these, and of how many are left.
pub results_written : (text start between written : List ℕ) (results : List (ℕ × Result (List ℕ) IoFault)) (left : ℕ)
    → AreRight text (length (lines text)) → AreResults text results left → start ≡ [] → between ≡ start ++ result_lines results
    → written ≡ between ++ left_line left → WritesResults text written
results_written text start between written results left right tasks none first last = record {
  right = right;
  results = results;
  left = left;
  tasks = tasks;
  written_is = last ∙ ap (λ b. b ++ left_line left) (first ∙ ap (λ s. s ++ result_lines results) none);
}
