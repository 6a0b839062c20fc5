-- What reports do to the records of handles: how many operations still wait, and that just the handles that had records have one.
use Rattle.std.proofs.Common.{◌≡◌, ◌∙◌, inl, inr, ℕ, suc, ◌+◌, ◌≤◌, List, [], ◌∷◌, length, drop, Option, Some, None, refl, sym}
use Rattle.std.proofs.Common.{ap, subst, arith, not, slice_get, option_map, unwrap_or}
use Rattle.std.proofs.lemmas.List.{length-map}
use Rattle.std.proofs.lemmas.List.Filters.{length-filter_both}
use Rattle.handle_core.specs.Table.{Table}
use Rattle.machine.proofs.Numbers.{same-or-not}
use Rattle.machine.proofs.Appended.{drop-suc}
use Rattle.ready_driver.specs.declared.non_block.Report.{Report}
use Rattle.ready_driver.specs.declared.scheduled_io.Waiter.{Waiter}
use Rattle.ready_driver.specs.ScheduledIo.{is_met, taken, left}
use Rattle.ready_driver.specs.Records.{Kept, quiet, io_at, io_in, io_named, named_at, changed, changed_in, with_io}
use Rattle.ready_driver.specs.Registry.{AreRecorded}
use Rattle.ready_driver.specs.Turns.{with_report, reported, reported_each, woken_by, waiting_on}
use Rattle.ready_driver.proofs.Recorded.{changed-other, io-either}
use Rattle.ready_driver.proofs.Agreeing.{named-same}
use Rattle.ready_driver.proofs.Registering.{recorded-named}

-- What is taken and what is left are all that waited.
taken-left : (ready : ℕ) (ws : List Waiter) → length (taken ready ws) + length (left ready ws) ≡ length ws
taken-left ready ws = length-filter_both (is_met ready) (λ w. not (is_met ready w)) (λ w. refl) ws

-- A report wakes no more tasks than operations wait for its handle.
pub woken_few : (kept : Kept) (report : Report) → length (woken_by kept report) ≤ length (io_named kept report.key).waiting
woken_few kept report =
    let same = length-map (taken report.ready (io_named kept report.key).waiting) (λ (w : Waiter). w.task) in
    let both = taken-left report.ready (io_named kept report.key).waiting in
    omega (arith, same, both)

-- After a report no more operations wait for a handle.
fewer-at : (kept : Kept) (n ready h : ℕ) → length (io_at (changed kept n (with_io (with_report ready))) h).waiting ≤ length (io_at kept
    h).waiting
fewer-at kept n ready h = elim (same-or-not h n) [
  | inl e ↦
      let both = taken-left ready (io_at kept n).waiting in
      subst (λ k. length (io_at (changed kept n (with_io (with_report ready))) k).waiting ≤ length (io_at kept k).waiting) (sym e)
      (io-either (λ io. length io.waiting ≤ length (io_at kept n).waiting) kept n (with_report ready)
      (omega arith) (omega (arith, both)))
  | inr e ↦
      let same = ap (λ x. length (unwrap_or (option_map (λ r. r.io) x) quiet).waiting)
      (changed-other kept n (with_io (with_report ready)) h e) in
      omega (arith, same)
]

-- Nor for the handle of a key.
fewer-named : (kept : Kept) (report : Report) (key : ℕ) →
    length (io_named (reported kept report) key).waiting ≤ length (io_named kept key).waiting
fewer-named kept report key =
    subst (λ x. length (io_in (reported kept report) x).waiting ≤ length (io_named kept key).waiting)
    (sym (named-same kept report.key (with_io (with_report report.ready)) key)) (by (named_at kept key) (named_at kept report.key))
  where
    by : (x y : Option ℕ) → length (io_in (changed_in kept y (with_io (with_report report.ready))) x).waiting ≤ length (io_in kept
        x).waiting
    by None y = omega arith
    by (Some h) None = omega arith
    by (Some h) (Some n) = fewer-at kept n report.ready h

-- So no more wait for the handles of other reports.
pub fewer_on : (kept : Kept) (report : Report) (reports : List Report) → waiting_on (reported kept report) reports ≤ waiting_on kept reports
fewer_on kept report [] = omega arith
fewer_on kept report (other ∷ reports) =
    let here = fewer-named kept report other.key in
    let rest = fewer_on kept report reports in
    omega (arith, here, rest)

-- The reports from a place on begin with the one that is there.
pub drop_report : (reports : List Report) (at : ℕ) (report : Report) → slice_get reports at ≡ Some report →
    drop at reports ≡ report ∷ drop (at + 1) reports
drop_report reports at report there =
    drop-suc reports at report there ∙ ap (λ n. report ∷ drop n reports) (let next : suc at ≡ at + 1 = omega arith in next)

-- How many wait for their handles.
pub waiting_drop : (kept : Kept) (reports : List Report) (at : ℕ) (report : Report) → slice_get reports at ≡ Some report →
    waiting_on kept (drop at reports) ≡ length (io_named kept report.key).waiting + waiting_on kept (drop (at + 1) reports)
waiting_drop kept reports at report there = ap (waiting_on kept) (drop_report reports at report there)

-- From the end on there are none.
pub drop_end : (reports : List Report) → drop (length reports) reports ≡ []
drop_end [] = refl
drop_end (report ∷ reports) = drop_end reports

-- Just the handles that had records have one after reports.
pub recorded-reported : (table : Table) (reports : List Report) (kept : Kept) → AreRecorded table kept →
    AreRecorded table (reported_each kept reports)
recorded-reported table [] kept all = all
recorded-reported table (report ∷ reports) kept all =
    recorded-reported table reports (reported kept report)
    (recorded-named table kept all report.key (with_io (with_report report.ready)))
