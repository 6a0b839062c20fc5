use Rattle.std.proofs.Common.{◌∙◌, ap}
use Rattle.std.specs.FinMap.{get}
use Rattle.driver_core.proofs.Placing.{next-apart}
use Rattle.ready_driver.proofs.legacy.prepare.Goals as goal

pub enroll-requires-clause-apart : goal.enroll-requires-clause-apart
enroll-requires-clause-apart g c =
    ap (λ n. get c.args.members.now.places n) c.given-number.ensures.given
    ∙ next-apart c.args.members.now c.args.ops.now.slots.values c.args.ops.now.given c.requires.in_slots c.given-number.ensures.numbered

pub returns-then-len-ge-MAX_LIVE-clause-apart : goal.returns-then-len-ge-MAX_LIVE-clause-apart
returns-then-len-ge-MAX_LIVE-clause-apart g c =
    next-apart c.args.members.now c.args.ops.now.slots.values c.args.ops.now.given c.requires.in_slots c.given-number.ensures.numbered

pub returns-then-is_err-clause-apart : goal.returns-then-is_err-clause-apart
returns-then-is_err-clause-apart g c =
    next-apart c.args.members.now c.args.ops.now.slots.values c.args.ops.now.given c.requires.in_slots c.given-number.ensures.numbered

pub returns-in-Err-Fault-clause-apart : goal.returns-in-Err-Fault-clause-apart
returns-in-Err-Fault-clause-apart g c =
    next-apart c.args.members.now c.args.ops.now.slots.values c.args.ops.now.given c.requires.in_slots c.given-number.ensures.numbered

pub returns-in-Err-OutOfMemory-clause-apart : goal.returns-in-Err-OutOfMemory-clause-apart
returns-in-Err-OutOfMemory-clause-apart g c =
    next-apart c.args.members.now c.args.ops.now.slots.values c.args.ops.now.given c.requires.in_slots c.given-number.ensures.numbered

pub returns-in-Ok-enroll-clause-apart : goal.returns-in-Ok-enroll-clause-apart
returns-in-Ok-enroll-clause-apart g c =
    next-apart c.args.members.now c.args.ops.now.slots.values c.args.ops.now.given c.requires.in_slots c.given-number.ensures.numbered

pub returns-in-Err-clause-apart : goal.returns-in-Err-clause-apart
returns-in-Err-clause-apart g c =
    next-apart c.args.members.now c.args.ops.now.slots.values c.args.ops.now.given c.requires.in_slots c.given-number.ensures.numbered
