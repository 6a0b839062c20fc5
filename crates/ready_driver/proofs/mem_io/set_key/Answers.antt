use Rattle.std.proofs.Common.{◌<◌, ◌≤◌, length, refl, arith}
use Rattle.machine.proofs.Amended.{amended-at, amended-past}
use Rattle.ready_driver.proofs.mem_io.set_key.Goals as goal

pub returns-then-h-len : goal.returns-then-h-len
returns-then-h-len c =
    let count = c.len.ensures in
    let below = c.if-h-len.true in
    let in_range : c.args.h < length c.args.keys.now.items = omega (arith, count, below) in
    amended-at _ c.args.keys.now.items c.args.h c.index_mut.result.now c.args.key in_range c.index_mut.ensures.value refl

pub returns-else-h-len : goal.returns-else-h-len
returns-else-h-len c =
    let count = c.len.ensures in
    let past = c.if-h-len.false in
    let out : length c.args.keys.now.items ≤ c.args.h = omega (arith, count, past) in
    amended-past _ c.args.keys.now.items c.args.h out
