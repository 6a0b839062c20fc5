-- A turn of a readiness driver names each task whose operation waits, once a bit meets its direction.
use Rattle.std.proofs.Common.{ℕ, ◌≡◌, ◌∙◌, ◌⊎◌, inl, inr, ap, sym, refl, subst, Bool, true, false, cond, eqb, not, List, [], ◌∷◌, ◌++◌}
use Rattle.std.proofs.Common.{Option, Some, None, option_map, unwrap_or, arith}
use Rattle.std.specs.Prelude.{◌==◌, bit_and, bit_or, IsSome}
use Rattle.std.specs.List.{Contains}
use Rattle.std.proofs.lemmas.Bool.Decides.{eqb_tells, nat_tests}
use Rattle.std.proofs.lemmas.List.Elements.{Contains-append_left, Contains-append_right}
use Rattle.ready_driver.specs.declared.non_block.Report.{Report}
use Rattle.ready_driver.specs.declared.records.Record.{Record}
use Rattle.ready_driver.specs.declared.scheduled_io.Waiter.{Waiter}
use Rattle.ready_driver.specs.Ready.{meets, mask_of}
use Rattle.ready_driver.specs.Records.{Kept, changed, changed_in, io_at, io_in, named_at, quiet, record_at, with_io}
use Rattle.ready_driver.specs.ScheduledIo.{entry_of, left, taken, tasks_of, waiter_of}
use Rattle.ready_driver.specs.ScheduledIo.{Scheduled, is_met as takes}
use Rattle.ready_driver.specs.Turns.{reported, reported_each, with_report, woken_by, woken_each}
use Rattle.ready_driver.specs.Io.{IoView}
use Rattle.ready_driver.specs.LegacyState.{LegacyState}
use Rattle.ready_driver.specs.LegacyTurns.{LegacyTurns, Treats, TurnsBy, turning_in}
use Rattle.driver_core.specs.declared.op.Stop.{Stop}
use Rattle.driver_core.specs.declared.op.Stop.TheVariants.{RingFault, Busy, BadCompletion, Os, OutOfMemory}
use Rattle.driver_core.specs.declared.op.Turned.{Turned}
use Rattle.ready_driver.proofs.Recorded.{changed-other, io-changed}
use Rattle.ready_driver.proofs.Waiting.{IsNamed, taken_named}
use Rattle.ready_driver.proofs.Reported.{shared_union}
use Rattle.op_job.specs.Met.{IsWaiting, NamesMet}

-- A set that doesn't meet another has no bit of it.
none_shared : (n : ℕ) → not (n == 0) ≡ false → n ≡ 0
none_shared n none = grind (arith, nat_tests)

-- Two sets that don't meet a third don't meet it together.
union_unmet : (a b m : ℕ) → meets a m ≡ false → meets b m ≡ false → meets (bit_or a b) m ≡ false
union_unmet a b m one other =
    let first : bit_and a m ≡ 0 = none_shared (bit_and a m) one in
    let second : bit_and b m ≡ 0 = none_shared (bit_and b m) other in
    ap (λ n. not (n == 0)) (shared_union a b m ∙ ap (λ n. bit_or n (bit_and b m)) first ∙ ap (λ n. bit_or 0 n) second)

-- The first entry of an operation, which a set of bits leaves, is the first of those that are left.
left_entry : (ready : ℕ) (ws : List Waiter) (n : ℕ) (w : Waiter) → waiter_of ws n ≡ Some w → takes ready w ≡ false
    → waiter_of (left ready ws) n ≡ Some w
left_entry ready [] n w is unmet = absurd cc
left_entry ready (v ∷ ws) n w is unmet = elim (eqb_tells v.serial n) [
  | inl e ↦
      let own : v ≡ w = (let both : Some v ≡ Some w = sym (ap (λ b. cond b (Some v) (waiter_of ws n)) e.0) ∙ is in cc) in
      let stays : left ready (v ∷ ws) ≡ v ∷ left ready ws
      = ap (λ b. cond (not b) (v ∷ left ready ws) (left ready ws)) (ap (takes ready) own ∙ unmet) in
      ap (λ xs. waiter_of xs n) stays ∙ ap (λ b. cond b (Some v) (waiter_of (left ready ws) n)) e.0 ∙ ap (λ x. Some x) own
  | inr e ↦
      let later : waiter_of (left ready ws) n ≡ Some w
      = left_entry ready ws n w (sym (ap (λ b. cond b (Some v) (waiter_of ws n)) e.0) ∙ is) unmet in
      by-first (takes ready v) e.0 later
]
  where
    by-first : (b : Bool) → eqb v.serial n ≡ false → waiter_of (left ready ws) n ≡ Some w
        → waiter_of (cond (not b) (v ∷ left ready ws) (left ready ws)) n ≡ Some w
    by-first true apart later = later
    by-first false apart later = ap (λ x. cond x (Some v) (waiter_of (left ready ws) n)) apart ∙ later

-- An entry that a set of bits takes has its task among those that are woken.
taken_entry : (ready : ℕ) (ws : List Waiter) (n : ℕ) (w : Waiter) → waiter_of ws n ≡ Some w → takes ready w ≡ true
    → Contains (tasks_of (taken ready ws)) w.task
taken_entry ready ws n w is met = by (waiter_of ws n) (taken_named ready ws n) is
  where
    by : (o : Option Waiter) → IsNamed ready ws o → o ≡ Some w → Contains (tasks_of (taken ready ws)) w.task
    by None named none = absurd cc
    by (Some v) named one = let own : v ≡ w = cc in
        subst (λ (x : Waiter). Contains (tasks_of (taken ready ws)) x.task) own (named (subst (λ x. takes ready x ≡ true) (sym own) met))

-- What an entry, and whether a bit meets its direction, became once reports were treated: its task was woken, or both are as they were.
record IsTreated (before after : Kept) (h n : ℕ) (w : Waiter) : Type 0 where
  entry : waiter_of (io_at after h).waiting n ≡ Some w
  unmet : meets (io_at after h).ready (mask_of w.direction) ≡ false

-- What is read of a record that was looked up.
abbrev read : Option Record → Scheduled
read x = unwrap_or (option_map (λ r. r.io) x) quiet

-- A handle of which an entry is found has a record.
has_record : (kept : Kept) (h n : ℕ) (w : Waiter) → waiter_of (io_at kept h).waiting n ≡ Some w → IsSome (record_at kept h)
has_record kept h n w is = by (record_at kept h) refl is
  where
    by : (x : Option Record) → record_at kept h ≡ x → waiter_of (read x).waiting n ≡ Some w → IsSome x
    by None none found = absurd cc
    by (Some one) some found = refl

-- One report, by the handle of its key.
one_in : (kept : Kept) (report : Report) (named : Option ℕ) (h n : ℕ) (w : Waiter) → waiter_of (io_at kept h).waiting n ≡ Some w
    → meets (io_at kept h).ready (mask_of w.direction) ≡ false
    → Contains (tasks_of (taken report.ready (io_in kept named).waiting)) w.task
    ⊎ IsTreated kept (changed_in kept named (with_io (with_report report.ready))) h n w
one_in kept report None h n w is unmet = inr (record { entry = is; unmet = unmet })
one_in kept report (Some named) h n w is unmet = elim (eqb_tells named h) [
  | inl e ↦ by-met (takes report.ready w) refl e.1
  | inr e ↦
      let same : io_at (changed kept named (with_io (with_report report.ready))) h ≡ io_at kept h
      = ap read (changed-other kept named (with_io (with_report report.ready)) h (λ q. e.1 (sym q))) in
      inr (record {
        entry = ap (λ io. waiter_of io.waiting n) same ∙ is;
        unmet = ap (λ io. meets io.ready (mask_of w.direction)) same ∙ unmet;
      })
]
  where
    by-met : (b : Bool) → takes report.ready w ≡ b → named ≡ h
        → Contains (tasks_of (taken report.ready (io_at kept named).waiting)) w.task
        ⊎ IsTreated kept (changed kept named (with_io (with_report report.ready))) h n w
    by-met true met at = inl (taken_entry report.ready (io_at kept named).waiting n w
        (subst (λ k. waiter_of (io_at kept k).waiting n ≡ Some w) (sym at) is) met)
    by-met false none at =
        let there = has_record kept named n w (subst (λ k. waiter_of (io_at kept k).waiting n ≡ Some w) (sym at) is) in
        let same : io_at (changed kept named (with_io (with_report report.ready))) h ≡ with_report report.ready (io_at kept h)
        = ap (io_at (changed kept named (with_io (with_report report.ready)))) (sym at)
        ∙ io-changed kept named (with_report report.ready) there
        ∙ ap (λ k. with_report report.ready (io_at kept k)) at in
        inr (record {
          entry = ap (λ io. waiter_of io.waiting n) same ∙ left_entry report.ready (io_at kept h).waiting n w is none;
          unmet = ap (λ io. meets io.ready (mask_of w.direction)) same
              ∙ union_unmet (io_at kept h).ready report.ready (mask_of w.direction) unmet none;
        })

-- One report.
one_treated : (kept : Kept) (report : Report) (h n : ℕ) (w : Waiter) → waiter_of (io_at kept h).waiting n ≡ Some w
    → meets (io_at kept h).ready (mask_of w.direction) ≡ false
    → Contains (woken_by kept report) w.task ⊎ IsTreated kept (reported kept report) h n w
one_treated kept report h n w is unmet = one_in kept report (named_at kept report.key) h n w is unmet

-- Several, in order.
each_treated : (reports : List Report) (kept : Kept) (h n : ℕ) (w : Waiter) → waiter_of (io_at kept h).waiting n ≡ Some w
    → meets (io_at kept h).ready (mask_of w.direction) ≡ false
    → Contains (woken_each kept reports) w.task ⊎ IsTreated kept (reported_each kept reports) h n w
each_treated [] kept h n w is unmet = inr (record { entry = is; unmet = unmet })
each_treated (report ∷ reports) kept h n w is unmet = elim (one_treated kept report h n w is unmet) [
  | inl woken ↦ inl (Contains-append_left (woken_by kept report) (woken_each (reported kept report) reports) w.task woken)
  | inr waits ↦ elim (each_treated reports (reported kept report) h n w waits.entry waits.unmet) [
    | inl later ↦ inl (Contains-append_right (woken_by kept report) (woken_each (reported kept report) reports) w.task later)
    | inr still ↦ inr (record { entry = still.entry; unmet = still.unmet })
  ]
]

-- So they name each task whose operation waits, or it waits still.
pub treated_names : (reports : List Report) (kept : Kept) (front : List ℕ)
    → NamesMet kept (reported_each kept reports) (front ++ woken_each kept reports)
treated_names reports kept front h n task dir waits = elim (each_treated reports kept h n (entry_of n task dir) waits.entry waits.unmet) [
  | inl woken ↦ inl (Contains-append_right front (woken_each kept reports) task woken)
  | inr still ↦ inr (record { entry = still.entry; unmet = still.unmet })
]

module _ {I B : Type 0} (view : I → IoView) (tells reporting memory : Bool) (old mid : LegacyState I B) where
  -- Reports that were treated name them.
  treats_names : (reports : List Report) (tasks : List ℕ) → Treats (turning_in old old.asked) reports (turning_in mid tasks)
      → NamesMet old.handling.records mid.handling.records tasks
  treats_names reports tasks treats =
      let records : mid.handling.records ≡ reported_each old.handling.records reports = ap (λ h. h.records) treats.handling in
      subst (λ k. NamesMet old.handling.records k tasks) (sym records)
      (subst (NamesMet old.handling.records (reported_each old.handling.records reports)) (sym treats.tasks)
      (treated_names reports old.handling.records old.asked))

  -- Where nothing was treated each waits still.
  same_names : (tasks : List ℕ) → turning_in mid tasks ≡ turning_in old old.asked
      → NamesMet old.handling.records mid.handling.records tasks
  same_names tasks same h n task dir waits =
      inr (subst (λ k. IsWaiting k h n task dir) (sym (ap (λ t. t.handling.records) same)) waits)

  turns_by : (stop : Option Stop) (tasks : List ℕ)
      → TurnsBy view tells reporting memory (turning_in old old.asked) (turning_in mid tasks) stop
      → NamesMet old.handling.records mid.handling.records tasks
  turns_by None tasks does = treats_names (old.untreated ++ does.came) tasks does.treats
  turns_by (Some RingFault) tasks does = absurd does
  turns_by (Some Busy) tasks does = absurd does
  turns_by (Some (BadCompletion word)) tasks does = absurd does
  turns_by (Some (Os code)) tasks does = treats_names old.untreated tasks does.0.treats
  turns_by (Some OutOfMemory) tasks (inl same) = same_names tasks same
  turns_by (Some OutOfMemory) tasks (inr starves) = treats_names old.untreated tasks starves.stops.treats

  -- So does each turn of the driver, of those that it names, or that the next one names where it stopped.
  pub turn_names : (turned : Turned) (turns : LegacyTurns view tells reporting memory old mid turned)
      → NamesMet old.handling.records mid.handling.records turns.tasks
  turn_names turned turns = turns_by turned.stop turns.tasks turns.does
