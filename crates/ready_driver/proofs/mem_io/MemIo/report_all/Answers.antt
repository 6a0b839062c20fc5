use Rattle.std.proofs.Common.{◌≡◌, ◌++◌, ◌∷◌, suc, ◌+◌, slice_get, Some, drop, sym, ◌∙◌, ap, arith}
use Rattle.std.proofs.lemmas.List.{append_assoc}
use Rattle.machine.specs.Attempt.{is_readable_at}
use Rattle.machine.proofs.Appended.{drop-suc}
use Rattle.ready_driver.specs.MemIo.{Memory}
use Rattle.ready_driver.specs.Reports.{report_of, reports_of}
use Rattle.ready_driver.proofs.mem_io.MemIo.report_all.Goals as goal

pub loop-at-preserved : goal.loop-at-preserved
loop-at-preserved c =
    let m = c.args.self.now in
    let h = c.in-Some.h in
    let there : slice_get m.due c.loop-at.at ≡ Some h =
    ap (λ (x : Memory). slice_get x.due c.loop-at.at) (sym c.self.view_is) ∙ sym c.get.ensures ∙ c.in-Some.is in
    let step : drop c.loop-at.at m.due ≡ h ∷ drop (c.loop-at.at + 1) m.due =
    drop-suc m.due c.loop-at.at h there
    ∙ ap (λ n. h ∷ drop n m.due) (let next : suc c.loop-at.at ≡ c.loop-at.at + 1 = omega arith in next) in
    let rest = reports_of m.world m.keys (drop (c.loop-at.at + 1) m.due) in
    ap (λ xs. xs ++ rest) c.in_ok-report.ensures.ok
    ∙ append_assoc c.loop-at.reports (report_of (slice_get m.keys h) (is_readable_at m.world h)) rest
    ∙ ap (λ hs. c.loop-at.reports ++ reports_of m.world m.keys hs) (sym step) ∙ c.loop-at.invariant
