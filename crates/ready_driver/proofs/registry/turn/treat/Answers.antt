use Rattle.std.proofs.Common.{◌+◌, ◌++◌, sym, ◌∙◌, ap, drop, arith}
use Rattle.std.proofs.lemmas.List.{append_assoc}
use Rattle.ready_driver.specs.Records.{Holdings}
use Rattle.ready_driver.specs.Turns.{reported, reported_each, woken_by, woken_each, waiting_on}
use Rattle.ready_driver.proofs.Reporting.{drop_report, waiting_drop, woken_few, fewer_on}
use Rattle.ready_driver.proofs.registry.turn.treat.Goals as goal

pub treat_one-requires : goal.treat_one-requires
treat_one-requires c =
    let step = waiting_drop c.loop-at.records.records c.args.reports.now c.loop-at.at c.in-Some.report (sym c.get.ensures ∙ c.in-Some.is) in
    let room = c.loop-at.invariant.room in
    omega (arith, step, room)

pub loop-at-preserved : goal.loop-at-preserved
loop-at-preserved c =
    let there = sym c.get.ensures ∙ c.in-Some.is in
    let front = drop_report c.args.reports.now c.loop-at.at c.in-Some.report there in
    let rest = drop (c.loop-at.at + 1) c.args.reports.now in
    let old = c.loop-at.records.records in
    let is = ap (λ (a : Holdings). a.records) c.treat_one.ensures.records in
    let step = waiting_drop old c.args.reports.now c.loop-at.at c.in-Some.report there in
    let room = c.loop-at.invariant.room in
    let len = c.treat_one.ensures.len in
    let cap = c.treat_one.ensures.capacity in
    let few = woken_few old c.in-Some.report in
    let fewer = fewer_on old c.in-Some.report rest in
    let rests = ap (λ k. waiting_on k rest) is in
    record {
      table = ap (λ (a : Holdings). a.table) c.treat_one.ensures.records ∙ c.loop-at.invariant.table;
      records = ap (λ k. reported_each k rest) is ∙ ap (reported_each old) (sym front) ∙ c.loop-at.invariant.records;
      tasks = ap (λ k. c.treat_one.new.woken.items ++ woken_each k rest) is
          ∙ ap (λ xs. xs ++ woken_each (reported old c.in-Some.report) rest) c.treat_one.ensures.tasks
          ∙ append_assoc c.loop-at.woken.items (woken_by old c.in-Some.report) (woken_each (reported old c.in-Some.report) rest)
          ∙ ap (λ rs. c.loop-at.woken.items ++ woken_each old rs) (sym front)
          ∙ c.loop-at.invariant.tasks;
      room = omega (arith, step, room, len, few, fewer, rests, cap);
    }
