-- What a turn does that treats reports twice: those that were untreated before it, and those that came.
use Rattle.std.proofs.Common.{◌≡◌, ◌∙◌, Bool, IsTrue, List, [], ◌∷◌, ◌++◌, refl, sym, ap, subst}
use Rattle.std.proofs.lemmas.List.{append_assoc}
use Rattle.handle_core.specs.Table.{Table}
use Rattle.ready_driver.specs.declared.non_block.Report.{Report}
use Rattle.ready_driver.specs.Io.{IoView, IsWaited}
use Rattle.ready_driver.specs.LegacyTurns.{Turning, Treats, ReportsTurn}
use Rattle.ready_driver.specs.Records.{Kept}
use Rattle.ready_driver.specs.Registry.{Handling, AreKeyed}
use Rattle.ready_driver.specs.Reports.{reports_of}
use Rattle.ready_driver.specs.Turns.{reported, reported_each, woken_by, woken_each, AreShown}
use Rattle.ready_driver.proofs.Reported.{shown-reported, shown-waited}

-- The records after some reports and then others.
reported-both : (kept : Kept) (first second : List Report) →
    reported_each kept (first ++ second) ≡ reported_each (reported_each kept first) second
reported-both kept [] second = refl
reported-both kept (report ∷ first) second = reported-both (reported kept report) first second

-- The tasks that some reports wake and then others.
woken-both : (kept : Kept) (first second : List Report) →
    woken_each kept (first ++ second) ≡ woken_each kept first ++ woken_each (reported_each kept first) second
woken-both kept [] second = refl
woken-both kept (report ∷ first) second =
    ap (λ tasks. woken_by kept report ++ tasks) (woken-both (reported kept report) first second)
    ∙ sym (append_assoc (woken_by kept report) (woken_each (reported kept report) first)
    (woken_each (reported_each (reported kept report) first) second))

-- Handles, by what their parts are.
abbrev handling_of : {I : Type 0} → I → Table → Kept → Handling I
handling_of io table records = record { io = io; table = table; records = records }

-- Reports were treated, and then others: so all were. Between them the object may have changed, and the untreated reports.
treats-both : {I : Type 0} (old mid between new : Turning I) (first second : List Report) → Treats old first mid →
    between.tasks ≡ mid.tasks → between.handling.table ≡ mid.handling.table → between.handling.records ≡ mid.handling.records →
    Treats between second new → Treats old (first ++ second) new
treats-both old mid between new first second before tasks table records after =
    let kept : between.handling.records ≡ reported_each old.handling.records first =
    records ∙ ap (λ all. all.records) before.handling in
    let held : between.handling.table ≡ old.handling.table = table ∙ ap (λ all. all.table) before.handling in
    record {
      tasks = after.tasks ∙ ap (λ ts. ts ++ woken_each between.handling.records second) (tasks ∙ before.tasks)
          ∙ ap (λ k. (old.tasks ++ woken_each old.handling.records first) ++ woken_each k second) kept
          ∙ append_assoc old.tasks (woken_each old.handling.records first)
          (woken_each (reported_each old.handling.records first) second)
          ∙ ap (λ ts. old.tasks ++ ts) (sym (woken-both old.handling.records first second));
      handling = after.handling ∙ ap (λ t. handling_of new.handling.io t (reported_each between.handling.records second)) held
          ∙ ap (λ k. handling_of new.handling.io old.handling.table (reported_each k second)) kept
          ∙ ap (handling_of new.handling.io old.handling.table) (sym (reported-both old.handling.records first second));
    }

-- A wait that put what came into an empty list, between two lists of reports that were treated.
pub record Waited {I : Type 0} (view : I → IoView) (tells reporting memory : Bool) (mid between : Turning I) : Type 0 where
  pub still : IsWaited tells memory (view mid.handling.io) (view between.handling.io)
  pub reports : IsTrue reporting → between.untreated ≡ (view mid.handling.io).reports
  pub none : IsTrue memory → (view between.handling.io).due ≡ []
  pub handling : between.handling ≡ record mid.handling { io = between.handling.io }
  pub tasks : between.tasks ≡ mid.tasks

-- The untreated reports were treated, and no object changed. Over a world in memory each held handle is due or has its bits then, where
-- that was so with these reports.
pub record TreatedAll {I : Type 0} (view : I → IoView) (memory : Bool) (old new : Turning I) : Type 0 where
  pub treats : Treats old old.untreated new
  pub io : new.handling.io ≡ old.handling.io
  pub none : new.untreated ≡ []
  pub shown : IsTrue memory → AreShown view old.handling old.untreated → AreShown view new.handling []

-- Over a world in memory the first reports that are treated, and those that a wait puts into the list then, show each held handle.
pub shown-came : {I : Type 0} (view : I → IoView) (tells reporting memory : Bool) → (IsTrue memory → IsTrue tells) →
    (IsTrue memory → IsTrue reporting × ((io : I) → (view io).reports ≡ reports_of (view io).world (view io).keys (view io).due)) →
    (mid between : Turning I) → Waited view tells reporting memory mid between → IsTrue memory → AreShown view mid.handling [] →
    AreShown view between.handling between.untreated
shown-came view tells reporting memory world_tells world_reports mid between waited is shown =
    shown-waited view tells memory mid.handling between.handling between.untreated is (world_tells is) waited.handling waited.still
    (waited.reports (world_reports is).0 ∙ (world_reports is).1 mid.handling.io) shown

-- A turn treats all reports: the untreated ones, and those that come then.
pub treats-all : {I : Type 0} (view : I → IoView) (tells reporting memory : Bool) → (IsTrue memory → IsTrue tells) →
    (IsTrue memory → IsTrue reporting × ((io : I) → (view io).reports ≡ reports_of (view io).world (view io).keys (view io).due)) →
    (old mid between new : Turning I) → (IsTrue memory → AreShown view old.handling old.untreated) → TreatedAll view memory old mid →
    Waited view tells reporting memory mid between → TreatedAll view memory between new → ReportsTurn view tells reporting memory old new
treats-all {I} view tells reporting memory world_tells world_reports old mid between new shown before waited after =
    let tables : between.handling.table ≡ old.handling.table =
    ap (λ h. h.table) waited.handling ∙ ap (λ h. h.table) before.treats.handling in
    record {
      came = between.untreated;
      reported = λ is. waited.reports is ∙ ap (λ io. (view io).reports) before.io;
      object = subst (λ io. IsWaited tells memory (view io) (view new.handling.io)) before.io
          (subst (λ io. IsWaited tells memory (view mid.handling.io) (view io)) (sym after.io) waited.still);
      treats = treats-both old mid between new old.untreated between.untreated before.treats waited.tasks
          (ap (λ h. h.table) waited.handling) (ap (λ h. h.records) waited.handling) after.treats;
      untreated = after.none;
      shows = λ is keyed. (
          let keys : (view new.handling.io).keys ≡ (view old.handling.io).keys =
          ap (λ io. (view io).keys) after.io ∙ waited.still.keys_are is ∙ ap (λ io. (view io).keys) before.io in
          let held : AreKeyed new.handling.table (view new.handling.io).keys =
          subst (λ t. AreKeyed t (view new.handling.io).keys) (sym (ap (λ h. h.table) after.treats.handling ∙ tables))
          (subst (AreKeyed old.handling.table) (sym keys) keyed) in
          shown-reported new.handling.table new.handling.records (view new.handling.io)
          (ap (λ io. (view io).due) after.io ∙ waited.none is) held
          (after.shown is (shown-came view tells reporting memory world_tells world_reports mid between waited is
          (before.shown is (shown is)))).shown
          );
    }
