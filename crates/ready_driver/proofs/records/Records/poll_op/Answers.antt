use Rattle.std.proofs.Common.{◌≡◌, inl, inr, false, Option, option_map, unwrap_or, refl, sym, ◌∙◌, ap, subst}
use Rattle.std.specs.Prelude.{Ok}
use Rattle.std.specs.FinMap.{get}
use Rattle.driver_core.specs.Op.{number_of}
use Rattle.driver_core.specs.declared.op.PollOp.TheVariants.{Pending}
use Rattle.ready_driver.specs.Awaits.{PollsUnless, BlocksUnless}
use Rattle.ready_driver.specs.Calling.{CallsOnce}
use Rattle.ready_driver.specs.Ready.{meets, mask_of}
use Rattle.ready_driver.specs.ScheduledIo.{Scheduled, entry_of}
use Rattle.ready_driver.specs.declared.records.Record.{Record}
use Rattle.ready_driver.specs.Records.{quiet, Holdings, with_io}
use Rattle.ready_driver.proofs.Bearing.{keeps-written, keeps-written-due, keeps-unwritten}
use Rattle.ready_driver.proofs.Kept.{found-at, unfound-at, not-unplaced, written-record, written-paired, same-record}
use Rattle.ready_driver.proofs.Recorded.{none-meet, leaves-found, leaves-unfound}
use Rattle.ready_driver.proofs.Unnamed.{slot-named}
use Rattle.ready_driver.proofs.records.Records.poll_op.Goals as goal

-- The bits and what waits, of what was looked up.
abbrev read : Option Record → Scheduled
read x = unwrap_or (option_map (λ r. r.io) x) quiet

pub unreachable-requires : goal.unreachable-requires
unreachable-requires g c = not-unplaced c.self.inside.keys c.self.inside.slab _ c.self.invariant _ c.self.view_is c.args.h _
    c.in-Some.ensures.value c.in_default-get_mut.ensures.value

pub invariant_of-self : goal.invariant_of-self
invariant_of-self g c = written-paired c.self.inside.keys c.self.inside.slab _ c.self.invariant _ c.self.view_is c.args.h _ _ _
    c.in-Some.ensures.value c.in-Some-get_mut.ensures.value refl refl

pub returns-clause-polls : goal.returns-clause-polls
returns-clause-polls g c = λ memory D parts. (
    let is = ap read (found-at c.self.inside.keys c.self.inside.slab _ c.self.invariant _ c.self.view_is c.args.h _
    c.in-Some-get_mut.one.now
    c.in-Some.ensures.value c.in-Some-get_mut.ensures.value) in
    subst (λ (io : Scheduled). PollsUnless (meets io.ready (mask_of c.args.dir) ≡ false) g.B.IoBufMut.buffer D c.args.op c.poll_op.new.ops
    (g.I.NonBlock.view c.poll_op.new.io).world c.poll_op.result) (sym is) (c.poll_op.ensures.polls memory D parts))

pub returns-clause-blocks : goal.returns-clause-blocks
returns-clause-blocks g c =
    let is = ap read (found-at c.self.inside.keys c.self.inside.slab _ c.self.invariant _ c.self.view_is c.args.h _
    c.in-Some-get_mut.one.now
    c.in-Some.ensures.value c.in-Some-get_mut.ensures.value) in
    subst (λ (io : Scheduled). BlocksUnless (meets io.ready (mask_of c.args.dir) ≡ false) (g.I.NonBlock.view c.args.io.now)
    (g.I.NonBlock.view c.poll_op.new.io) c.poll_op.result) (sym is) c.poll_op.ensures.blocks

pub returns-clause-calls : goal.returns-clause-calls
returns-clause-calls g c =
    let is = ap read (found-at c.self.inside.keys c.self.inside.slab _ c.self.invariant _ c.self.view_is c.args.h _
    c.in-Some-get_mut.one.now
    c.in-Some.ensures.value c.in-Some-get_mut.ensures.value) in
    subst (λ (io : Scheduled). CallsOnce (meets io.ready (mask_of c.args.dir)) g.B.IoBufMut.buffer g.I.Calls.called
    (get c.args.ops.now.slots.values c.args.op.key) c.args.io.now (get c.poll_op.new.ops.slots.values c.args.op.key) c.poll_op.new.io
    c.poll_op.result) (sym is) c.poll_op.ensures.calls

pub returns-clause-leaves : goal.returns-clause-leaves
returns-clause-leaves g c =
    let one = c.in-Some-get_mut.one.now in
    leaves-found _ c.args.h one.kept (entry_of (number_of c.args.op) c.args.task c.args.dir) _ c.poll_op.new.self c.poll_op.result
    (found-at c.self.inside.keys c.self.inside.slab _ c.self.invariant _ c.self.view_is c.args.h _ one
    c.in-Some.ensures.value c.in-Some-get_mut.ensures.value)
    (λ f now. ap (λ (a : Holdings). a.records) (written-record c.self.inside.keys c.self.inside.slab _ c.self.invariant _ c.self.view_is
    c.args.h _
    one _ c.in-Some.ensures.value c.in-Some-get_mut.ensures.value (with_io f)
    (ap (λ io. record one { kept = record one.kept { io = io } }) now)))
    (λ now. ap (λ (a : Holdings). a.records) (same-record c.self.inside.keys c.self.inside.slab _ c.self.invariant _ c.self.view_is
    c.args.h _
    one _ c.in-Some.ensures.value c.in-Some-get_mut.ensures.value (ap (λ io. record one { kept = record one.kept { io = io } }) now)))
    c.poll_op.ensures.leaves

pub returns-clause-table : goal.returns-clause-table
returns-clause-table g c =
    let one = c.in-Some-get_mut.one.now in
    ap (λ (a : Holdings). a.table) (written-record c.self.inside.keys c.self.inside.slab _ c.self.invariant _ c.self.view_is c.args.h _
    one _ c.in-Some.ensures.value c.in-Some-get_mut.ensures.value (with_io (λ old. c.poll_op.new.self)) refl)

pub returns-clause-shown : goal.returns-clause-shown
returns-clause-shown g c = λ memory awaited. (
    let one = c.in-Some-get_mut.one.now in
    let view = g.I.NonBlock.view in
    let slot = get c.args.ops.now.slots.values c.args.op.key in
    let there = found-at c.self.inside.keys c.self.inside.slab _ c.self.invariant _ c.self.view_is c.args.h _ one
    c.in-Some.ensures.value c.in-Some-get_mut.ensures.value in
    let written = ap (λ (a : Holdings). a.records) (written-record c.self.inside.keys c.self.inside.slab _ c.self.invariant _
    c.self.view_is c.args.h _
    one _ c.in-Some.ensures.value c.in-Some-get_mut.ensures.value (with_io (λ old. c.poll_op.new.self)) refl) in
    elim (c.poll_op.ensures.bits memory) [
      | inl same ↦
          keeps-written (view c.args.io.now) (view c.poll_op.new.io) c.args.self.now.records _ c.args.h one.kept c.poll_op.new.self there
          written (c.poll_op.ensures.shown memory) same
      | inr due ↦
          keeps-written-due (view c.args.io.now) (view c.poll_op.new.io) c.args.self.now.records _ c.args.h c.poll_op.new.self written
          (c.poll_op.ensures.shown memory) (due c.args.h (slot-named slot c.args.h c.args.dir awaited))
    ])

pub returns-in_default-clause-polls : goal.returns-in_default-clause-polls
returns-in_default-clause-polls g c = λ memory D parts. (
  refl,
  inl (ap (λ x. meets (read x).ready (mask_of c.args.dir))
      (unfound-at c.self.inside.keys c.self.inside.slab _ c.self.invariant _ c.self.view_is c.args.h c.in_default.ensures.value) ∙
      none-meet c.args.dir),
  parts,
)

pub returns-in_default-clause-blocks : goal.returns-in_default-clause-blocks
returns-in_default-clause-blocks g c =
    inl (ap (λ x. meets (read x).ready (mask_of c.args.dir))
    (unfound-at c.self.inside.keys c.self.inside.slab _ c.self.invariant _ c.self.view_is c.args.h c.in_default.ensures.value) ∙ none-meet
    c.args.dir)

pub returns-in_default-clause-calls : goal.returns-in_default-clause-calls
returns-in_default-clause-calls g c =
    let unmet = ap (λ x. meets (read x).ready (mask_of c.args.dir))
    (unfound-at c.self.inside.keys c.self.inside.slab _ c.self.invariant _ c.self.view_is c.args.h c.in_default.ensures.value) ∙ none-meet
    c.args.dir in
    let slot = get c.args.ops.now.slots.values c.args.op.key in
    subst (λ met. CallsOnce met g.B.IoBufMut.buffer g.I.Calls.called slot c.args.io.now slot c.args.io.now (Ok (Pending c.args.op)))
    (sym unmet) (record { object = refl; slot_is = refl })

pub returns-in_default-clause-leaves : goal.returns-in_default-clause-leaves
returns-in_default-clause-leaves g c =
    leaves-unfound g.row.B.Denot _ c.args.h (entry_of (number_of c.args.op) c.args.task c.args.dir) _ c.args.op
    (unfound-at c.self.inside.keys c.self.inside.slab _ c.self.invariant _ c.self.view_is c.args.h c.in_default.ensures.value) refl

pub returns-in_default-clause-table : goal.returns-in_default-clause-table
returns-in_default-clause-table g c = refl

pub returns-in_default-clause-shown : goal.returns-in_default-clause-shown
returns-in_default-clause-shown g c = λ memory awaited.
    keeps-unwritten (g.I.NonBlock.view c.args.io.now) c.args.self.now.records _ refl
