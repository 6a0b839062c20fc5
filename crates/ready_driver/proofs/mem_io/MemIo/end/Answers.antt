use Rattle.std.proofs.Common.{◌≤◌, length, refl, sym, ◌∙◌, ap, arith}
use Rattle.ready_driver.specs.Due.{Duty}
use Rattle.ready_driver.specs.MemIo.{Memory}
use Rattle.ready_driver.proofs.Called.{length-ends}
use Rattle.ready_driver.proofs.Shown.{due-count, changed-shown}
use Rattle.ready_driver.proofs.mem_io.MemIo.end.Goals as goal

pub invariant_of-self : goal.invariant_of-self
invariant_of-self c =
    let count = length-ends c.self.inside.world c.args.h
    c.end.new.self c.end.result c.end.ensures in
    (c.self.invariant.0 ∙ sym count, c.self.invariant.1)

pub invariant_of-self-2 : goal.invariant_of-self-2
invariant_of-self-2 c =
    let same = ap (λ (d : Duty). d.count) c.add.ensures ∙ due-count c.self.inside.due c.args.h in
    let room = c.self.invariant.1 in
    let now : length c.self.inside.keys.items ≤ c.add.new.self.count = omega (arith, same, room) in
    let count = length-ends c.self.inside.world c.args.h
    c.end.new.self c.end.result c.end.ensures in
    (c.self.invariant.0 ∙ sym count, now)

pub returns-clause-shown : goal.returns-clause-shown
returns-clause-shown c =
    let old : Memory = record {
      world = c.self.inside.world;
      keys = c.self.inside.keys.items;
      due = c.self.inside.due.handles;
      blocks = c.self.inside.blocks;
      fails = c.self.inside.fails;
      waits = c.self.inside.waits;
      closes = c.self.inside.closes;
      limit = c.self.inside.limit;
    } in
    let new : Memory = record old { world = c.end.new.self; due = c.add.new.self.handles } in
    rw (← c.self.view_is) (changed-shown old new c.self.inside.due c.args.h _ refl c.self.invariant.1 refl c.in_ok-end.ensures.1
    (ap (λ (d : Duty). d.handles) c.add.ensures))
