-- A turn of the driver names the tasks of jobs, or leaves them waiting.
use Rattle.std.proofs.Common.{ℕ, ◌≡◌, ◌∙◌, ◌⊎◌, inl, inr, ap, sym, subst, Bool, true, true≢false, List, Option, Some, None}
use Rattle.std.specs.FinMap as map
use Rattle.std.specs.List.{Contains}
use Rattle.std.proofs.lemmas.List.Elements.{Contains-append_left}
use Rattle.rent_buf.specs.Rent.{Rented}
use Rattle.core_exec.specs.declared.table.Task.{Task}
use Rattle.core_exec.specs.Marks.{has_number, ready_tasks}
use Rattle.core_exec.specs.Tasks.{AreWaiting}
use Rattle.core_exec.proofs.Waiting.{unmarked_unnamed}
use Rattle.driver_core.specs.declared.op.Stop.{Stop}
use Rattle.driver_core.specs.declared.op.Stop.TheVariants.{RingFault, Busy, BadCompletion, Os, OutOfMemory}
use Rattle.driver_core.specs.declared.op.Turned.{Turned}
use Rattle.op_job.proofs.Naming.{turn_names}
use Rattle.ready_driver.specs.Awaits.{slot_awaits}
use Rattle.ready_driver.specs.Io.{IoView}
use Rattle.ready_driver.specs.LegacyState.{LegacyState}
use Rattle.ready_driver.specs.LegacyTurns.{LegacyTurns, NamesFor, Turning, TurnsBy, turning_in}
use Rattle.pipe_job.specs.Awaits.{WaitsPipe, WaitsWait}
use Rattle.pipe_job.specs.declared.pipe_job.PipeJob.{PipeJob}
use Rattle.pipe_job.specs.declared.step.Wait.{Wait}
use Rattle.pipe_job.specs.declared.step.Wait.TheVariants.{Room, Waiting}

module _ {I : Type 0} (files : I → ℕ → Bool) (view : I
    → IoView) (tells reporting memory : Bool) (old new : LegacyState I Rented) (turned : Turned)
    (turns : LegacyTurns view tells reporting memory old new turned) where
  -- Those that were to be named before a turn are to be named in it, however it stops.
  asked_first : (stop : Option Stop) → TurnsBy view tells reporting memory (turning_in old old.asked) (turning_in new turns.tasks) stop
      → (t : ℕ) → Contains old.asked t → Contains turns.tasks t
  asked_first None does t has = subst (λ ts. Contains ts t) (sym does.treats.tasks) (Contains-append_left old.asked _ t has)
  asked_first (Some RingFault) does t has = absurd does
  asked_first (Some Busy) does t has = absurd does
  asked_first (Some (BadCompletion word)) does t has = absurd does
  asked_first (Some (Os code)) does t has =
      subst (λ ts. Contains ts t) (sym does.0.treats.tasks) (Contains-append_left old.asked _ t has)
  asked_first (Some OutOfMemory) (inl same) t has = subst (λ (x : Turning _). Contains x.tasks t) (sym same) has
  asked_first (Some OutOfMemory) (inr starves) t has =
      subst (λ ts. Contains ts t) (sym starves.stops.treats.tasks) (Contains-append_left old.asked _ t has)

  -- A task that is to be named is, or the next turn is to name it.
  named_or_later : (stop : Option Stop) → NamesFor stop turns.tasks turned.woken new.asked → (t : ℕ) → Contains turns.tasks t
      → Contains turned.woken t ⊎ Contains new.asked t
  named_or_later None names t has = inl (subst (λ ts. Contains ts t) (sym names.0) has)
  named_or_later (Some why) names t has = inr (subst (λ ts. Contains ts t) (sym names.1) has)

  -- So a job that waits is named, or waits still.
  named_or_waits : (pipe task : ℕ) (wait : Wait) → WaitsWait files memory old pipe task wait → Contains turned.woken task
      ⊎ WaitsWait files memory new pipe task wait
  named_or_waits pipe task (Room room) waits = absurd waits
  named_or_waits pipe task (Waiting op) (inl listed) =
      elim (turn_names view tells reporting memory old new turned turns pipe op.number task listed.direction listed.waits) [
        | inl has ↦ elim (named_or_later turned.stop turns.names task has) [ inl woken ↦ inl woken | inr later ↦ inr (inr (inl later)) ]
        | inr still ↦ inr (inl (record {
          direction = listed.direction;
          awaits = ap (λ s. slot_awaits (map.get s.values op.key)) turns.slots ∙ listed.awaits;
          waits = still;
        }))
      ]
  named_or_waits pipe task (Waiting op) (inr (inr unreported)) = inr (inr (inr unreported))
  named_or_waits pipe task (Waiting op) (inr (inl asked)) =
      elim (named_or_later turned.stop turns.names task (asked_first turned.stop turns.does task asked)) [
        | inl woken ↦ inl woken
        | inr later ↦ inr (inr (inl later))
      ]

  -- Where the executor's turn is to come to all that the driver names, each task that isn't ready waits.
  pub turned_waits : (now : ℕ) (named : List ℕ) (was is : ℕ → Option (Task PipeJob))
      → ((t : ℕ) → Contains turned.woken t → has_number t named ≡ true) → is ≡ was → AreWaiting (WaitsPipe files memory) old was
      → AreWaiting (WaitsPipe files memory) new (ready_tasks now named is)
  turned_waits now named was is names same waiting =
      subst (λ tasks. AreWaiting (WaitsPipe files memory) new (ready_tasks now named tasks)) (sym same) (λ t job unmarked own.
      let kept = unmarked_unnamed now named was t job unmarked own in
      elim (named_or_waits job.course.pipe t job.wait (waiting t job kept.0 kept.1.0)) [
        | inl woken ↦ absurd (true≢false (sym (names t woken) ∙ kept.1.1))
        | inr waits ↦ waits
      ])
