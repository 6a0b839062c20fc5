-- A turn of an executor comes to each task that the turn of its readiness driver names.
use Rattle.std.proofs.Common.{ℕ, suc, zero, ◌≡◌, ◌∙◌, inl, inr, ap, sym, refl, subst, Bool, true, false, List, [], ◌∷◌}
use Rattle.std.proofs.Common.{Option, Some, None, Ok, Err, arith, eq-eqb}
use Rattle.std.specs.Prelude.{◌||◌, ◌==◌, ◌++◌, IfOk, IsSome, IsTrue, Result, option_map}
use Rattle.rent_buf.specs.declared.fault.OutOfMemory.{OutOfMemory}
use Rattle.std.specs.List.{Contains}
use Rattle.std.proofs.lemmas.List.Elements.{Contains-append_left, Contains-append_right}
use Rattle.core_exec.specs.declared.table.Task.{Task}
use Rattle.core_exec.specs.declared.turn.Ran.{Ran}
use Rattle.core_exec.specs.Marks.{has_number, is_late, ready_tasks, with_mark}
use Rattle.core_exec.specs.Tasks.{mark_of}
use Rattle.core_exec.specs.Turns.{Reaches}
use Rattle.core_exec.proofs.Visiting.{or_true}
use Rattle.driver_core.specs.declared.op.Stop.{Stop}
use Rattle.driver_core.specs.declared.op.Turned.{Turned}
use Rattle.ready_driver.specs.declared.ready.Direction.{Direction}
use Rattle.ready_driver.specs.declared.ready.Direction.TheVariants.{Read, Write}
use Rattle.ready_driver.specs.Io.{IoView}
use Rattle.ready_driver.specs.LegacyState.{LegacyState}
use Rattle.ready_driver.specs.LegacyTurns.{LegacyTurns, NamesFor, TurnsBy, turning_in}
use Rattle.ready_driver.specs.Registry.{AreKeyed}
use Rattle.ready_driver.specs.Turns.{AreReported}
use Rattle.op_job.specs.Met.{IsReached, IsWaiting, MissesNone, NamesMet, is_met}
use Rattle.op_job.proofs.Naming.{turn_names}
use Rattle.machine.proofs.Numbers.{below-or-not}

-- A list has each number that it contains.
pub has_in : (xs : List ℕ) (t : ℕ) → Contains xs t → has_number t xs ≡ true
has_in [] t (k, below, at) = absurd (omega (arith, below))
has_in (x ∷ xs) t (zero, below, at) = ap (λ b. b || has_number t xs) (eq-eqb t x (sym at))
has_in (x ∷ xs) t (suc k, below, at) =
    ap (λ b. t == x || b) (has_in xs t (k, omega (arith, below), at)) ∙ or_true (t == x)

-- So it has those of a list behind another.
pub has_behind : (front xs : List ℕ) (t : ℕ) → Contains xs t → has_number t (front ++ xs) ≡ true
has_behind front xs t has = has_in (front ++ xs) t (Contains-append_right front xs t has)

-- A number that two lists don't have, one behind the other, the second one doesn't have.
pub unnamed_behind : (front xs : List ℕ) (t : ℕ) → has_number t (front ++ xs) ≡ false → has_number t xs ≡ false
unnamed_behind [] xs t none = none
unnamed_behind (x ∷ front) xs t none = unnamed_behind front xs t (by (t == x) (has_number t (front ++ xs)) none)
  where
    by : (a b : Bool) → (a || b) ≡ false → b ≡ false
    by false b none = none
    by true b none = (let f : ⊥ = cc in absurd f)

-- A task that is named is marked, if there is one.
named_mark : {J : Type 0} (now : ℕ) (b : Bool) (x : Option (Task J)) → b ≡ true → IsSome x
    → mark_of (option_map (with_mark (b || is_late now x)) x) ≡ true
named_mark now b None is there = absurd cc
named_mark now b (Some task) is there = ap (λ c. task.marked || (c || is_late now (Some task))) is ∙ or_true task.marked

-- A turn that reaches the ready tasks reaches each that is marked.
pub reached_marked : {J : Type 0} (was is : ℕ → Option (Task J)) (polled : List ℕ) (stopped : Option ℕ) (t : ℕ)
    → Reaches was is polled stopped → mark_of (was t) ≡ true → IsReached polled stopped t
reached_marked was is polled None t reaches marked = inl (reaches.all refl t marked)
reached_marked was is polled (Some r) t reaches marked = elim (below-or-not t r) [
  | inl before ↦ inl ((reaches.stop r refl).front t before marked)
  | inr behind ↦ inr (r, refl, behind)
]

-- So it reaches one that is named.
pub reached_named : {J : Type 0} (now : ℕ) (named : List ℕ) (was is : ℕ → Option (Task J)) (polled : List ℕ) (stopped : Option ℕ) (t : ℕ)
    → Reaches (ready_tasks now named was) is polled stopped → has_number t named ≡ true → IsSome (was t) → IsReached polled stopped t
reached_named now named was is polled stopped t reaches has there = reached_marked (ready_tasks now named was) is polled stopped t reaches
    (named_mark now (has_number t named) (was t) has there)

module _ {I B : Type 0} (view : I → IoView) (tells reporting memory : Bool) (old mid : LegacyState I B) (turned : Turned)
    (turns : LegacyTurns view tells reporting memory old mid turned) where
  -- The tasks that a turn of the driver names are all that are to be named, unless it stopped; then the next one names them.
  all_named : (stop : Option Stop) → stop ≡ None → NamesFor stop turns.tasks turned.woken mid.asked → turned.woken ≡ turns.tasks
  all_named None is names = names.0
  all_named (Some why) is names = absurd cc

  left_asked : (stop : Option Stop) (why : Stop) → stop ≡ Some why → NamesFor stop turns.tasks turned.woken mid.asked
      → mid.asked ≡ turns.tasks
  left_asked None why is names = absurd cc
  left_asked (Some other) why is names = names.1

  -- Those that were to be named before are among them.
  asked_first : (stop : Option Stop) → stop ≡ None
      → TurnsBy view tells reporting memory (turning_in old old.asked) (turning_in mid turns.tasks) stop
      → (t : ℕ) → Contains old.asked t → Contains turns.tasks t
  asked_first None is does t has =
      subst (λ ts. Contains ts t) (sym does.treats.tasks) (Contains-append_left old.asked _ t has)
  asked_first (Some why) is does t has = absurd cc

  -- Over a world in memory the bits of each handle that somebody holds are those of what it has.
  pub shown_then : (stop : Option Stop) → stop ≡ None
      → TurnsBy view tells reporting memory (turning_in old old.asked) (turning_in mid turns.tasks) stop → IsTrue memory
      → AreKeyed old.handling.table (view old.handling.io).keys
      → AreReported mid.handling.table mid.handling.records (view mid.handling.io).world
  shown_then None is does = does.shows
  shown_then (Some why) is does = absurd cc

  -- So a turn of the executor over it, in which these are ready, misses none whose operation can go on.
  pub misses_none : {J : Type 0} (now : ℕ) (named : List ℕ) (was is : ℕ → Option (Task J)) (ran : Ran)
      → ((t : ℕ) → Contains turned.woken t → has_number t named ≡ true)
      → Reaches (ready_tasks now named was) is ran.polled.items ran.stopped
      → MissesNone view tells reporting memory old turned was ran
  misses_none now named was is ran names reaches = record {
    mid = mid;
    turns = turns;
    waits = waiting;
    met = met;
    asked = λ none t has there. come none t (asked_first turned.stop none turns.does t has) there;
    later = λ why is. left_asked turned.stop why is turns.names;
    written = λ none in_memory keyed h n t known waits there.
        met none h n t Write waits (shown_then turned.stop none turns.does in_memory keyed h known).writes there;
    read = λ none in_memory keyed h n t known readable waits there.
        met none h n t Read waits ((shown_then turned.stop none turns.does in_memory keyed h known).reads readable) there;
  }
    where
      waiting : NamesMet old.handling.records mid.handling.records turns.tasks
      waiting = turn_names view tells reporting memory old mid turned turns

      come : turned.stop ≡ None → (t : ℕ) → Contains turns.tasks t → IsSome (was t) → IsReached ran.polled.items ran.stopped t
      come none t has there = reached_named now named was is ran.polled.items ran.stopped t reaches
          (names t (subst (λ ts. Contains ts t) (sym (all_named turned.stop none turns.names)) has)) there

      met : turned.stop ≡ None → (h n t : ℕ) (dir : Direction) → IsWaiting old.handling.records h n t dir
          → is_met mid.handling.records h dir ≡ true → IsSome (was t) → IsReached ran.polled.items ran.stopped t
      met none h n t dir waits is_now there = elim (waiting h n t dir waits) [
        | inl has ↦ come none t has there
        | inr still ↦ absurd (let unmet = still.unmet in let both : true ≡ false = sym is_now ∙ unmet in cc)
      ]

  -- The same of an answer, which has a turn where there was memory for its lists.
  pub misses_if : {J : Type 0} (now : ℕ) (named : List ℕ) (was is : ℕ → Option (Task J)) (result : Result Ran OutOfMemory)
      → ((t : ℕ) → Contains turned.woken t → has_number t named ≡ true)
      → IfOk result (λ ran. Reaches (ready_tasks now named was) is ran.polled.items ran.stopped)
      → IfOk result (MissesNone view tells reporting memory old turned was)
  misses_if now named was is (Ok ran) names reaches = misses_none now named was is ran names reaches
  misses_if now named was is (Err error) names reaches = reaches
