use Rattle.std.proofs.Common.{◌≤◌, length, refl, ◌∙◌, ap, arith}
use Rattle.machine.proofs.Amended.{length-amended}
use Rattle.ready_driver.specs.MemIo.{Memory}
use Rattle.ready_driver.proofs.Shown.{unkeyed-shown}
use Rattle.ready_driver.proofs.mem_io.MemIoNonBlock.close.Goals as goal

pub invariant_of-self : goal.invariant_of-self
invariant_of-self c =
    let same = ap length c.set_key.ensures ∙ length-amended _ c.self.inside.keys.items c.args.h in
    let room = c.self.invariant.1 in
    let now : length c.set_key.new.keys.items ≤ c.self.inside.due.count = omega (arith, same, room) in
    (same ∙ c.self.invariant.0, now)

pub returns : goal.returns
returns c =
    let same = ap length c.set_key.ensures ∙ length-amended _ c.self.inside.keys.items c.args.h in
    let room = c.self.invariant.1 in
    let now : length c.set_key.new.keys.items ≤ c.self.inside.due.count = omega (arith, same, room) in
    let old : Memory = record {
      world = c.self.inside.world;
      keys = c.self.inside.keys.items;
      due = c.self.inside.due.handles;
      blocks = c.self.inside.blocks;
      fails = c.self.inside.fails;
      waits = c.self.inside.waits;
      closes = c.self.inside.closes;
      limit = c.self.inside.limit;
    } in
    let new : Memory = record old { keys = c.set_key.new.keys.items; closes = c.one_more-self-inside.result } in
    let shown = unkeyed-shown old new c.args.h c.set_key.ensures refl refl in
    rw (← c.self.view_is) (record {
      still = record {
        later = record { faults = omega arith; blocks = omega arith; fails = omega arith };
        made = refl;
        closes_are = c.one_more-self-inside.ensures;
        world = λ told. refl;
        keys_are = λ told. c.set_key.ensures;
        shown = λ told. shown.0;
      };
      outcome_is = λ told. refl;
    })
