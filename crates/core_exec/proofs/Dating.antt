-- Tasks of which one gets another deadline.
use Rattle.std.proofs.Common.{ℕ, ◌≡◌, ◌≢◌, ◌≤◌, ◌<◌, ◌+◌, ◌∙◌, inl, inr, ap, sym, refl, subst, Bool, true, false, cond, List, Some, None}
use Rattle.std.specs.Prelude.{◌==◌, Option, IsSome, is_some, option_map}
use Rattle.std.specs.List.{All}
use Rattle.std.proofs.lemmas.Bool.Decides.{eqb_tells}
use Rattle.core_exec.specs.declared.table.Task.{Task}
use Rattle.core_exec.specs.declared.deadlines.Deadlines.{Deadlines}
use Rattle.core_exec.specs.declared.numbers.Numbers.{Numbers}
use Rattle.core_exec.specs.Tasks.{AreSound, AreWaiting, HaveJobs, aim_in, canceled_of, count_in, deadline_of, job_in, mark_of}
use Rattle.core_exec.specs.Deadlines.{IsSetAt, is_set}
use Rattle.core_exec.specs.Marks.{AreSet, Covers, KeepsButDeadline, dated}
use Rattle.core_exec.specs.Numbers.{AreNumbers, is_in}
use Rattle.core_exec.specs.Places.{ArePlaced, outputs_at}
use Rattle.core_exec.specs.Turns.{AreCounted}
use Rattle.core_exec.specs.Exec.{HasAims}
use Rattle.core_exec.proofs.Counted.{not_some}

module _ {J : Type 0} where
  -- A task without another deadline is as it was.
  not_dated : (deadline : Option ℕ) (x : Option (Task J)) → option_map (dated false deadline) x ≡ x
  not_dated deadline None = refl
  not_dated deadline (Some task) = refl

  -- A task that gets another deadline, and no other, is each with the deadline of its number.
  pub dated_once : (t : ℕ) (deadline : Option ℕ) (old new : ℕ → Option (Task J)) → new t ≡ option_map (dated true deadline) (old t)
      → ((s : ℕ) → s ≢ t → new s ≡ old s) → (s : ℕ) → new s ≡ option_map (dated (s == t) deadline) (old s)
  dated_once t deadline old new this rest s = elim (eqb_tells s t) [
    | inl e ↦ subst (λ b. new s ≡ option_map (dated b deadline) (old s)) (sym e.0)
        (subst (λ x. new x ≡ option_map (dated true deadline) (old x)) (sym e.1) this)
    | inr e ↦ subst (λ b. new s ≡ option_map (dated b deadline) (old s)) (sym e.0) (rest s e.1 ∙ sym (not_dated deadline (old s)))
  ]

  -- Where no task is there, none gets another.
  pub dated_none : (t : ℕ) (deadline : Option ℕ) (old : ℕ → Option (Task J)) → old t ≡ None
      → (s : ℕ) → old s ≡ option_map (dated (s == t) deadline) (old s)
  dated_none t deadline old none = dated_once t deadline old old
      (none ∙ sym (ap (option_map (dated true deadline)) none)) (λ s other. refl)

  -- Another deadline leaves all else of a task.
  pub dated_keeps : (b : Bool) (deadline : Option ℕ) (was is : Option (Task J)) → is ≡ option_map (dated b deadline) was
      → KeepsButDeadline was is
  dated_keeps b deadline was is e = subst (KeepsButDeadline was) (sym e) (by b was)
    where
      by : (b : Bool) (x : Option (Task J)) → KeepsButDeadline x (option_map (dated b deadline) x)
      by true None = record { there = refl; job = refl; mark = refl; canceled = refl }
      by true (Some task) = record { there = refl; job = refl; mark = refl; canceled = refl }
      by false None = record { there = refl; job = refl; mark = refl; canceled = refl }
      by false (Some task) = record { there = refl; job = refl; mark = refl; canceled = refl }

  -- What is the same keeps all.
  pub same_keeps : (was is : Option (Task J)) → is ≡ was → KeepsButDeadline was is
  same_keeps was is e = record { there = ap is_some e; job = ap job_in e; mark = ap mark_of e; canceled = ap canceled_of e }

  -- The deadline of a task that was given one is that.
  given : (deadline : Option ℕ) (d : ℕ) (x : Option (Task J)) → deadline_of (option_map (dated true deadline) x) ≡ Some d
      → deadline ≡ Some d
  given deadline d None has = absurd (not_some has)
  given deadline d (Some task) has = has

  -- What is to come, where one task got another deadline, which is set.
  pub set_dated : (now t : ℕ) (deadline : Option ℕ) (old new : ℕ → Option (Task J)) (before after : Deadlines) → AreSet now old before
      → ((s : ℕ) → new s ≡ option_map (dated (s == t) deadline) (old s)) → IsSetAt after t deadline
      → ((d s : ℕ) → s ≢ t → is_set before d s ≡ true → is_set after d s ≡ true) → AreSet now new after
  set_dated now t deadline old new before after set each this others s d canceled has = elim (eqb_tells s t) [
    | inl e ↦ inl (subst (λ x. is_set after d x ≡ true) (sym e.1) (subst (IsSetAt after t) (given deadline d (old s)
        (sym (ap deadline_of (each s ∙ ap (λ b. option_map (dated b deadline) (old s)) e.0)) ∙ has)) this))
    | inr e ↦ let same = each s ∙ ap (λ b. option_map (dated b deadline) (old s)) e.0 ∙ not_dated deadline (old s) in
        elim (set s d (sym (ap canceled_of same) ∙ canceled) (sym (ap deadline_of same) ∙ has)) [
          | inl is ↦ inl (others d s e.1 is)
          | inr is ↦ inr (ap mark_of same ∙ is.0, is.1)
        ]
  ]

  -- The list has each marked task still.
  pub covers_dated : (old new : ℕ → Option (Task J)) (marks : List ℕ) → ((s : ℕ) → KeepsButDeadline (old s) (new s)) → Covers old marks
      → Covers new marks
  covers_dated old new marks keeps covers s is = covers s (sym (keeps s).mark ∙ is)

  -- Each task has its job,
  pub jobs_dated : (old new : ℕ → Option (Task J)) → ((s : ℕ) → KeepsButDeadline (old s) (new s)) → HaveJobs old → HaveJobs new
  jobs_dated old new keeps have = record {
    has_job = λ t there. ap is_some (keeps t).job ∙ have.has_job t (sym (keeps t).there ∙ there);
  }

  -- polled and canceled as often,
  pub counted_dated : (polls cancels : J → ℕ) (most now : ℕ) (old new : ℕ → Option (Task J)) → ((s : ℕ) → KeepsButDeadline (old s) (new s))
      → now ≡ most → AreCounted polls cancels most old → AreCounted polls cancels now new
  counted_dated polls cancels most now old new keeps same counted = record {
    polls_within = λ t. subst (λ n. count_in polls (job_in (new t)) ≤ n) (sym same)
        (subst (λ x. count_in polls x ≤ most) (sym (keeps t).job) (counted.polls_within t));
    asked_once = λ t. ap (count_in cancels) (keeps t).job ∙ counted.asked_once t ∙ ap (λ b. cond b 1 0) (sym (keeps t).canceled);
  }

  -- with its number,
  pub numbers_dated : (old new : ℕ → Option (Task J)) (before after : Numbers) → ((s : ℕ) → KeepsButDeadline (old s) (new s))
      → after ≡ before → AreNumbers old before → AreNumbers new after
  numbers_dated old new before after keeps same are s = ap (λ x. is_in x s) same ∙ are s ∙ sym (keeps s).there

  -- which was given,
  pub there_dated : (spawned now : ℕ) (old new : ℕ → Option (Task J)) → ((s : ℕ) → KeepsButDeadline (old s) (new s)) → now ≡ spawned
      → ((t : ℕ) → IsSome (old t) → t < spawned) → (t : ℕ) → IsSome (new t) → t < now
  there_dated spawned now old new keeps same below t there = subst (λ n. t < n) (sym same) (below t (sym (keeps t).there ∙ there))

  -- in its places.
  pub placed_dated : {O : Type 0} (spawned now : ℕ) (old new : ℕ → Option (Task J)) (before after : List (ℕ × O))
      → ((s : ℕ) → KeepsButDeadline (old s) (new s)) → now ≡ spawned → after ≡ before → ArePlaced spawned old before
      → ArePlaced now new after
  placed_dated spawned now old new before after keeps same outputs placed = record {
    once = λ s. subst (λ x. outputs_at x s + cond (is_some (new s)) 1 0 ≤ 1) (sym outputs)
        (subst (λ b. outputs_at before s + cond b 1 0 ≤ 1) (sym (keeps s).there) (placed.once s));
    of_spawned = λ s late. ap (λ x. outputs_at x s) outputs ∙ placed.of_spawned s (subst (λ n. n ≤ s) same late);
  }

  -- It has its aim,
  pub aims_dated : {O : Type 0} (aim : J → List ℕ) (meets : List ℕ → O → Type 0) (aims : ℕ → List ℕ) (old new : ℕ → Option (Task J))
      (before after : List (ℕ × O)) → ((s : ℕ) → KeepsButDeadline (old s) (new s)) → after ≡ before → HasAims aim meets aims old before
      → HasAims aim meets aims new after
  aims_dated aim meets aims old new before after keeps outputs has = record {
    of_jobs = λ t there. ap (aim_in aim) (keeps t).job ∙ has.of_jobs t (sym (keeps t).there ∙ there);
    of_outputs = subst (λ x. All (λ o. meets (aims o.0) o.1) x) (sym outputs) has.of_outputs;
  }

  -- fits the driver,
  pub sound_dated : {D : Type 0} (fits : D → ℕ → J → Type 0) (apart : J → J → Type 0) (driver now : D) (old new : ℕ → Option (Task J))
      → ((s : ℕ) → KeepsButDeadline (old s) (new s)) → now ≡ driver → AreSound fits apart driver (λ s. job_in (old s))
      → AreSound fits apart now (λ s. job_in (new s))
  sound_dated fits apart driver now old new keeps same sound = record {
    all_fit = λ t job is. subst (λ d. fits d t job) (sym same) (sound.all_fit t job (sym (keeps t).job ∙ is));
    all_apart = λ s t one other differ is are. sound.all_apart s t one other differ (sym (keeps s).job ∙ is) (sym (keeps t).job ∙ are);
  }

  -- and waits in it.
  pub waiting_dated : {D : Type 0} (waits : D → ℕ → J → Type 0) (driver now : D) (old new : ℕ → Option (Task J))
      → ((s : ℕ) → KeepsButDeadline (old s) (new s)) → now ≡ driver → AreWaiting waits driver old → AreWaiting waits now new
  waiting_dated waits driver now old new keeps same waiting t job unmarked own = subst (λ d. waits d t job) (sym same)
      (waiting t job (sym (keeps t).mark ∙ unmarked) (sym (keeps t).job ∙ own))
