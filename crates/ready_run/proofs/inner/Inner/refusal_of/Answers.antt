use Rattle.std.proofs.Common.{sym, ◌∙◌}
use Rattle.ready_run.proofs.Submitting.{cause-submit_handle, cause-submit_full, unrefused-marked, unrefused-fewer}
use Rattle.ready_run.proofs.inner.Inner.refusal_of.Goals.{else-not-canceled-via-then-not-canceled+else-num_operations-ge-MAX_LIVE}
use Rattle.ready_run.proofs.inner.Inner.refusal_of.Goals.{else-not-canceled-via-else-not-canceled}
use Rattle.ready_run.proofs.inner.Inner.refusal_of.Goals as goal

pub returns-then-not-holds_named-clause-named : goal.returns-then-not-holds_named-clause-named
returns-then-not-holds_named-clause-named c = λ D under stands is.
    cause-submit_handle c.args.self.now D c.args.request.now c.args.group.now under stands is
    (sym c.holds_named.ensures ∙ c.if-not-holds_named.true)

pub returns-then-num_operations-ge-MAX_LIVE-clause-named : goal.returns-then-num_operations-ge-MAX_LIVE-clause-named
returns-then-num_operations-ge-MAX_LIVE-clause-named c = λ D under stands is.
    cause-submit_full c.args.self.now D c.args.request.now c.args.group.now under c.num_operations.result c.is_canceled-canceled.result
    stands is
    (sym c.holds_named.ensures ∙ c.if-not-holds_named.false) c.num_operations.ensures c.if-num_operations-ge-MAX_LIVE.true
    (c.is_canceled-canceled.ensures D under stands is) c.if-not-canceled.true

pub returns-clause-named : goal.returns-clause-named
returns-clause-named c = λ D under stands is.
    let held = sym c.holds_named.ensures ∙ c.if-not-holds_named.false in
    elim c.else-not-canceled.branch [
      | else-not-canceled-via-then-not-canceled+else-num_operations-ge-MAX_LIVE w ↦
          unrefused-fewer c.args.self.now D c.args.request.now c.args.group.now under w.num_operations.result stands is held
          w.num_operations.ensures w.if-num_operations-ge-MAX_LIVE.false
      | else-not-canceled-via-else-not-canceled w ↦
          unrefused-marked c.args.self.now D c.args.request.now c.args.group.now under c.is_canceled-canceled.result stands is held
          (c.is_canceled-canceled.ensures D under stands is) w.if-not-canceled.false
    ]
