use Rattle.std.proofs.Common.{◌≤◌, length, Some, refl, ◌∙◌, ap, arith}
use Rattle.machine.proofs.Amended.{length-amended}
use Rattle.ready_driver.specs.Due.{Duty}
use Rattle.ready_driver.specs.MemIo.{Memory}
use Rattle.ready_driver.proofs.Shown.{due-count, keyed-shown}
use Rattle.ready_driver.proofs.mem_io.MemIoNonBlock.register.Goals as goal

pub invariant_of-self : goal.invariant_of-self
invariant_of-self c =
    let same = ap length c.set_key.ensures ∙ length-amended _ c.self.inside.keys.items c.args.h in
    let room = c.self.invariant.1 in
    let count = ap (λ (d : Duty). d.count) c.add.ensures ∙ due-count c.self.inside.due c.args.h in
    let now : length c.set_key.new.keys.items ≤ c.add.new.self.count = omega (arith, same, room, count) in
    (same ∙ c.self.invariant.0, now)

pub returns : goal.returns
returns c =
    let same = ap length c.set_key.ensures ∙ length-amended _ c.self.inside.keys.items c.args.h in
    let room = c.self.invariant.1 in
    let now : length c.set_key.new.keys.items ≤ c.self.inside.due.count = omega (arith, same, room) in
    let old : Memory = record {
      world = c.self.inside.world;
      keys = c.self.inside.keys.items;
      due = c.self.inside.due.handles;
      blocks = c.self.inside.blocks;
      fails = c.self.inside.fails;
      waits = c.self.inside.waits;
      closes = c.self.inside.closes;
      limit = c.self.inside.limit;
    } in
    let new : Memory = record old { keys = c.set_key.new.keys.items; due = c.add.new.self.handles } in
    let shown = keyed-shown old new c.self.inside.due c.args.h (Some c.args.key) refl now c.set_key.ensures refl
    (ap (λ (d : Duty). d.handles) c.add.ensures) in
    rw (← c.self.view_is) (
      record {
        later = record { faults = omega arith; blocks = omega arith; fails = omega arith };
        made = refl;
        closes_are = refl;
        world = λ told. refl;
        keys_are = λ told. c.set_key.ensures;
        shown = λ told. shown.0;
      },
      λ told. shown.1,
      refl,
    )
