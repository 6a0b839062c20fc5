use Rattle.std.proofs.Common.{◌∙◌, sym, ap, length, take, arith, length-append}
use Rattle.std.proofs.lemmas.List.{length-map}
use Rattle.std.specs.Prelude.{filter, map}
use Rattle.ready_driver.specs.WaitList.{is_taken, task_of}
use Rattle.ready_driver.proofs.Gaps.{taken_before}
use Rattle.ready_driver.proofs.scheduled_io.wait_list.name_taken.Goals as goal

pub push_reserved-requires : goal.push_reserved-requires
push_reserved-requires c =
    let i = c.loop-entry.entry-index in
    let so_far = filter (is_taken c.args.ready) (take i c.args.entries.now) in
    let fewer = taken_before (is_taken c.args.ready) c.args.entries.now i _ c.loop-entry-test.true
    (sym c.is_taken.ensures ∙ c.if-is_taken.true) in
    let named = ap length c.loop-entry.invariant.named in
    let more = length-append c.args.tasks.now.items (map task_of so_far) in
    let same = length-map so_far task_of in
    let room = c.requires in
    omega (arith, fewer, named, more, same, room, c.loop-entry.invariant.room)
