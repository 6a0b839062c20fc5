-- A job that waits for its operation stands in its readiness driver, or the next turn names its task; and a turn comes to each other one.
use Rattle.std.proofs.Common.{ℕ, ◌≡◌, ◌∙◌, ◌⊎◌, inl, inr, ap, sym, refl, subst, Bool, true, false, if◌then◌else◌, List, [], ◌∷◌}
use Rattle.std.proofs.Common.{Option, Some, None, Ok, Err}
use Rattle.std.specs.Prelude.{◌||◌, IfOk, IsSome, IsTrue, Result, is_some}
use Rattle.std.specs.FinMap.{get}
use Rattle.std.specs.List.{Contains}
use Rattle.rent_buf.specs.Buffer.{Buffer}
use Rattle.rent_buf.specs.declared.fault.OutOfMemory.{OutOfMemory}
use Rattle.machine.specs.Attempt.{is_readable_at}
use Rattle.machine.specs.Lists.{has_number}
use Rattle.core_exec.specs.declared.table.Task.{Task}
use Rattle.core_exec.specs.declared.turn.Ran.{Ran}
use Rattle.core_exec.specs.Marks.{has_number as has_task, is_late, ready_tasks}
use Rattle.core_exec.specs.Tasks.{AreWaiting, job_in, mark_of}
use Rattle.core_exec.specs.Turns.{Reaches}
use Rattle.core_exec.proofs.Aims.{same_job}
use Rattle.driver_core.specs.declared.op.Op.{Op}
use Rattle.driver_core.specs.declared.op.PollOp.TheVariants.{Pending}
use Rattle.driver_core.specs.declared.op.Stop.{Stop}
use Rattle.driver_core.specs.declared.op.Turned.{Turned}
use Rattle.driver_core.specs.Holds.{named_in}
use Rattle.driver_core.specs.Op.{KeepsTokens, number_of}
use Rattle.driver_core.specs.Slot.{number_at}
use Rattle.ready_driver.specs.declared.ready.Direction.{Direction}
use Rattle.ready_driver.specs.declared.ready.Direction.TheVariants.{Read, Write}
use Rattle.ready_driver.specs.Awaits.{LeavesFor, slot_awaits, unless}
use Rattle.ready_driver.specs.Calling.{Called}
use Rattle.ready_driver.specs.Io.{IoView}
use Rattle.ready_driver.specs.LegacyState.{LegacyState, ops_in}
use Rattle.ready_driver.specs.LegacyTurns.{LegacyTurns, NamesFor}
use Rattle.ready_driver.specs.Ready.{mask_of, meets}
use Rattle.ready_driver.specs.Records.{io_at}
use Rattle.ready_driver.specs.Registry.{AreKeyed}
use Rattle.ready_driver.specs.Reports.{ShowsBits}
use Rattle.ready_driver.proofs.Unnamed.{slot-named}
use Rattle.op_driver.specs.Legacy.{LegacyCancels, LegacyPolls, LegacySubmits}
use Rattle.op_job.specs.declared.op_job.OpJob.{OpJob}
use Rattle.op_job.specs.declared.op_job.State.{State}
use Rattle.op_job.specs.declared.op_job.State.TheVariants.{Unsent, Waiting}
use Rattle.op_job.specs.Kept.{IsKept, IsReported, KeptState, StandsIn, StandsOrNamed, WaitsLegacy, WaitsReady, WakesAll}
use Rattle.op_job.specs.Met.{IsReached}
use Rattle.op_job.specs.Waits.{IsBeside, LedBeside, WaitsState}
use Rattle.op_job.proofs.KeptSteps.{canceled_stands, polled_stands, submitted_stands, turned_stands}
use Rattle.op_job.proofs.Pending.{pending_leaves}
use Rattle.op_job.proofs.Reached.{has_in, reached_marked, shown_then}
use Rattle.op_job.proofs.Waits.{AreFitting, turned_waits}

-- What is awaited of a handle that is no file is awaited.
unless_some : (files : ℕ → Bool) (x : Option (ℕ × Direction)) (h : ℕ) (dir : Direction) → unless files x ≡ Some (h, dir) → x ≡ Some (h, dir)
unless_some files None h dir is = is
unless_some files (Some (k, d)) h dir is = by (files k) is
  where
    by : (b : Bool) → if◌then◌else◌ {A = Option (ℕ × Direction)} b None (Some (k, d)) ≡ Some (h, dir)
        → ◌≡◌ {A = Option (ℕ × Direction)} (Some (k, d)) (Some (h, dir))
    by true is = (let f : ⊥ = cc in absurd f)
    by false is = is

-- Bits that show what a handle has and that meet no direction of a job: it is that of reads, and there is nothing to read.
unmet_reads : (dir : Direction) (readable : Bool) (ready : ℕ) → ShowsBits readable ready → meets ready (mask_of dir) ≡ false
    → (dir ≡ Read) × (readable ≡ false)
unmet_reads Write readable ready shows unmet = (let e : true ≡ false = sym shows.writes ∙ unmet in let f : ⊥ = cc in absurd f)
unmet_reads Read true ready shows unmet = (let e : true ≡ false = sym (shows.reads refl) ∙ unmet in let f : ⊥ = cc in absurd f)
unmet_reads Read false ready shows unmet = (refl, refl)

-- Slots that stay keep every token.
slots_tokens : {I B : Type 0} (old new : LegacyState I B) → new.slots ≡ old.slots → KeepsTokens (ops_in old) (ops_in new)
slots_tokens old new same op = (
  (λ held. subst (λ s. number_at s.values op.key ≡ Some (number_of op)) (sym same) held),
  (λ held. subst (λ s. number_at s.values op.key ≡ Some (number_of op)) same held),
)

module _ {I B : Type 0} (files : I → ℕ → Bool) (buffer : B → Buffer) (called : Called I) (view : I → IoView) (tells reporting memory : Bool)
  where
    -- The poll that was pending leaves its operation standing, where its request waits for a direction of a handle that is no file.
    pending_stands : (op : Op) (task : ℕ) (before behind : LegacyState I B)
        → LegacyPolls files buffer called view tells memory before behind op task (Ok (Pending op))
        → IsReported files buffer called view tells reporting memory op before → StandsIn behind op task
    pending_stands op task before behind polls reported =
        by (unless (files before.handling.io) (slot_awaits (get before.slots.values op.key))) refl reported
      where
        by : (x : Option (ℕ × Direction)) → unless (files before.handling.io) (slot_awaits (get before.slots.values op.key)) ≡ x → IsSome x
            → StandsIn behind op task
        by None is some = (let f : ⊥ = cc in absurd f)
        by (Some (h, dir)) is some =
            let own = polls.ends.0 in
            let names : has_number h (named_in (get behind.slots.values op.key)) ≡ true
            = ap (has_number h) polls.slot.names
            ∙ slot-named (get before.slots.values op.key) h dir
            (unless_some (files before.handling.io) (slot_awaits (get before.slots.values op.key)) h dir is) in
            elim (pending_leaves own.records behind.handling.records h op.number task dir B op
            (subst (λ x. LeavesFor {B = B} x own.records op.number task behind.handling.records (Ok (Pending op))) is own.leaves)) [
              | inl none ↦
                  let e : false ≡ true = sym (ap is_some none) ∙ polls.recorded h ∙ polls.held op.key h names in
                  let f : ⊥ = cc in
                  absurd f
              | inr waits ↦ record {
                handle = h;
                direction = dir;
                names = names;
                known = polls.held op.key h names;
                waits = waits;
              }
            ]

    -- A step beside it.
    step_stands : (op : Op) (task : ℕ) (old new : LegacyState I B)
        → IsBeside (LegacySubmits view tells memory) (LegacyPolls files buffer called view tells memory) LegacyCancels
        (LegacyTurns view tells reporting memory) ops_in op task old new → StandsOrNamed old op task → StandsOrNamed new op task
    step_stands op task old new beside stands = elim beside.step [
      | inl s ↦ submitted_stands op task old new view tells memory s.request s.result s.does beside.held beside.holds stands
      | inr (inl p) ↦
          polled_stands op task old new files buffer called view tells memory p.other p.task p.result p.does p.apart beside.holds stands
      | inr (inr (inl c)) ↦ canceled_stands op task old new c.other c.result c.does c.apart stands
      | inr (inr (inr t)) ↦ turned_stands op task old new view tells reporting memory t.turned t.does t.unnamed stands
    ]

    -- Several.
    led_stands : (op : Op) (task : ℕ) (mids : List (LegacyState I B)) (first last : LegacyState I B) → StandsOrNamed first op task
        → LedBeside (LegacySubmits view tells memory) (LegacyPolls files buffer called view tells memory) LegacyCancels
        (LegacyTurns view tells reporting memory) ops_in op task first mids last → StandsOrNamed last op task
    led_stands op task [] first last stands same = subst (λ d. StandsOrNamed d op task) (sym same) stands
    led_stands op task (mid ∷ mids) first last stands led =
        step_stands op task mid last led.1 (led_stands op task mids first mid stands led.0)

    -- So a job that waits for its operation is kept.
    kept_state : (driver : LegacyState I B) (task : ℕ) (state : State B)
        → WaitsState (LegacySubmits view tells memory) (LegacyPolls files buffer called view tells memory) LegacyCancels
        (LegacyTurns view tells reporting memory) ops_in driver task state
        → KeptState files buffer called view tells reporting memory driver task state
    kept_state driver task (Unsent request) waits = waits
    kept_state driver task (Waiting op) awaited = record {
      awaited = awaited;
      kept = λ reported. led_stands op task awaited.mids awaited.behind driver
          (inl (pending_stands op task awaited.before awaited.behind awaited.pending reported)) awaited.since;
    }

    -- Each one is that isn't ready.
    pub all_kept : {F : Type 0} (driver : LegacyState I B) (tasks : ℕ → Option (Task (OpJob B F)))
        → AreWaiting (WaitsLegacy files buffer called view tells reporting memory) driver tasks
        → AreWaiting (WaitsReady files buffer called view tells reporting memory) driver tasks
    all_kept driver tasks waiting t job unmarked own = kept_state driver t job.state (waiting t job unmarked own)

    -- Behind a turn of the driver each is so that isn't ready for a turn of the executor.
    pub turned_kept : {F : Type 0} (now : ℕ) (named : List ℕ) (old mid : LegacyState I B) (turned : Turned)
        (was : ℕ → Option (Task (OpJob B F))) → LegacyTurns view tells reporting memory old mid turned
        → ((t : ℕ) → has_task t named ≡ false → has_task t turned.woken ≡ false) → AreFitting (ops_in old) was
        → AreWaiting (WaitsLegacy files buffer called view tells reporting memory) old was
        → AreWaiting (WaitsLegacy files buffer called view tells reporting memory) mid (ready_tasks now named was)
    turned_kept now named old mid turned was turns names fitting waiting =
        turned_waits (LegacySubmits view tells memory) (LegacyPolls files buffer called view tells memory) LegacyCancels
        (LegacyTurns view tells reporting memory) ops_in now named old mid turned was was turns refl names fitting
        (slots_tokens old mid turns.slots) turns.given waiting

    -- So a turn of the executor comes to each other one.
    wakes_all : {F : Type 0} (now : ℕ) (named : List ℕ) (old mid : LegacyState I B) (turned : Turned)
        (was is : ℕ → Option (Task (OpJob B F))) (ran : Ran) → LegacyTurns view tells reporting memory old mid turned
        → ((t : ℕ) → has_task t named ≡ false → has_task t turned.woken ≡ false) → AreFitting (ops_in old) was
        → AreWaiting (WaitsLegacy files buffer called view tells reporting memory) old was
        → Reaches (ready_tasks now named was) is ran.polled.items ran.stopped
        → WakesAll files buffer called view tells reporting memory old turned was ran
    wakes_all {F} now named old mid turned was is ran turns names fitting waiting reaches = record {
      mid = mid;
      turns = turns;
      each = λ t job own. by t job own (mark_of (ready_tasks now named was t)) refl;
      reads = λ none in_memory keyed op t stands. unmet_reads stands.direction
          (is_readable_at (view mid.handling.io).world stands.handle) (io_at mid.handling.records stands.handle).ready
          (shown_then view tells reporting memory old mid turned turns turned.stop none turns.does in_memory keyed stands.handle
          stands.known)
          stands.waits.unmet;
    }
      where
        by : (t : ℕ) (job : OpJob B F) → job_in (was t) ≡ Some job → (b : Bool) → mark_of (ready_tasks now named was t) ≡ b
            → IsReached ran.polled.items ran.stopped t ⊎ WaitsReady files buffer called view tells reporting memory mid t job
        by t job own true marked =
            inl (reached_marked (ready_tasks now named was) is ran.polled.items ran.stopped t reaches marked)
        by t job own false unmarked =
            inr (all_kept mid (ready_tasks now named was) (turned_kept now named old mid turned was turns names fitting waiting) t job
            unmarked (same_job (has_task t named || is_late now (was t)) (was t) ∙ own))

    -- The same of an answer.
    pub wakes_if : {F : Type 0} (now : ℕ) (named : List ℕ) (old mid : LegacyState I B) (turned : Turned)
        (was is : ℕ → Option (Task (OpJob B F))) (result : Result Ran OutOfMemory) → LegacyTurns view tells reporting memory old mid turned
        → ((t : ℕ) → has_task t named ≡ false → has_task t turned.woken ≡ false) → AreFitting (ops_in old) was
        → AreWaiting (WaitsLegacy files buffer called view tells reporting memory) old was
        → IfOk result (λ ran. Reaches (ready_tasks now named was) is ran.polled.items ran.stopped)
        → IfOk result (WakesAll files buffer called view tells reporting memory old turned was)
    wakes_if now named old mid turned was is (Ok ran) turns names fitting waiting reaches =
        wakes_all now named old mid turned was is ran turns names fitting waiting reaches
    wakes_if now named old mid turned was is (Err error) turns names fitting waiting reaches = reaches

    -- So over handles in memory, where a turn came to no task, no job could go on: each that waits for a direction of a handle which is no
    -- file waits to read, of one that has nothing to read.
    pub none_goes_on : {F : Type 0} (old : LegacyState I B) (turned : Turned) (was : ℕ → Option (Task (OpJob B F))) (ran : Ran)
        (wakes : WakesAll files buffer called view tells reporting memory old turned was ran) → turned.stop ≡ None → IsTrue memory
        → AreKeyed old.handling.table (view old.handling.io).keys → ran.polled.items ≡ [] → ran.stopped ≡ None
        → (t : ℕ) (job : OpJob B F) (op : Op) → job_in (was t) ≡ Some job → job.state ≡ Waiting op
        → (kept : IsKept files buffer called view tells reporting memory op t wakes.mid)
        × (IsReported files buffer called view tells reporting memory op kept.awaited.before
        → (stands : StandsIn wakes.mid op t) × (stands.direction ≡ Read)
        × (is_readable_at (view wakes.mid.handling.io).world stands.handle ≡ false))
    none_goes_on old turned was ran wakes none in_memory keyed empty all t job op own is = elim (wakes.each t job own) [
      | inl reached ↦ absurd (nowhere (subst (λ s. IsReached [] s t) all (subst (λ ts. IsReached ts ran.stopped t) empty reached)))
      | inr waits ↦
          let kept = subst (KeptState files buffer called view tells reporting memory wakes.mid t) is waits in (
            kept,
            λ reported. elim (kept.kept reported) [
              | inl stands ↦ (let reads = wakes.reads none in_memory keyed op t stands in (stands, reads.0, reads.1))
              | inr has ↦ absurd (unasked turned.stop none wakes.turns.names has)
            ],
          )
    ]
      where
        nowhere : IsReached [] None t → ⊥
        nowhere (inl has) = cc
        nowhere (inr (r, stopped, below)) = cc

        unasked : (why : Option Stop) → why ≡ None → NamesFor why wakes.turns.tasks turned.woken wakes.mid.asked
            → Contains wakes.mid.asked t → ⊥
        unasked None now names has =
            let e : false ≡ true = has_in [] t (subst (λ ts. Contains ts t) names.1 has) in
            cc
        unasked (Some stop) now names has = cc
