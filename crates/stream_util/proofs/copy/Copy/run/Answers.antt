use Rattle.std.proofs.Common.{◌∙◌, ap, length, refl, arith}
use Rattle.stream_util.specs.Copy.{Ends}
use Rattle.stream_util.proofs.Copies.{calls_more, ran_none, ran_again, ran_waits, ran_ends, copies_all, same_joined}
use Rattle.stream_util.proofs.copy.Copy.run.Goals as goal

pub loop-init : goal.loop-init
loop-init g c = (
  ran_none _ _ _ c.args.self (omega (arith, c.count.ensures, c.count.type_inv)),
  (refl, refl),
  omega (arith, ap length c.held.ensures.value, c.held.ensures.within),
)

pub returns-in-Pending-clause-answer : goal.returns-in-Pending-clause-answer
returns-in-Pending-clause-answer g c = ran_waits c.loop.counter c.args.turns _ _ _ _ _ _ _ _ _ c.loop.invariant.0
    c.in-Pending.ensures.answer

pub returns-in-Pending-clause-joined : goal.returns-in-Pending-clause-joined
returns-in-Pending-clause-joined g c =
    let now : Ends = record { reader = g.R.AsyncReadRent.reader c.poll.new.reader; writer = g.W.AsyncWriteRent.writer c.poll.new.writer } in
    let runs = ran_waits c.loop.counter 0 _ _ _ _ _ now _ _ _ c.loop.invariant.0 c.in-Pending.ensures.answer in
    same_joined _ _ _ _ _ _ runs.0

pub returns-in-Ready-clause-answer : goal.returns-in-Ready-clause-answer
returns-in-Ready-clause-answer g c = ran_ends c.loop.counter _ _ c.args.task _ _ _ _ _ _ c.loop.invariant.0 c.in-Ready.ensures.answer

pub returns-in-Ready-clause-all : goal.returns-in-Ready-clause-all
returns-in-Ready-clause-all g c =
    let now : Ends = record { reader = g.R.AsyncReadRent.reader c.poll.new.reader; writer = g.W.AsyncWriteRent.writer c.poll.new.writer } in
    copies_all _ _ _ now _ _ (ran_ends c.loop.counter _ _ c.args.task _ _ now _ _ _ c.loop.invariant.0 c.in-Ready.ensures.answer)

pub returns-in-Ready-clause-joined : goal.returns-in-Ready-clause-joined
returns-in-Ready-clause-joined g c =
    let now : Ends = record { reader = g.R.AsyncReadRent.reader c.poll.new.reader; writer = g.W.AsyncWriteRent.writer c.poll.new.writer } in
    let has = ran_ends c.loop.counter _ _ c.args.task _ _ now _ _ _ c.loop.invariant.0 c.in-Ready.ensures.answer in
    same_joined _ _ _ _ _ (record { held = c.in-Ready.copied.rest; count = has.count }) has.moves

pub loop-preserved : goal.loop-preserved
loop-preserved g c = (
  ran_again c.loop.counter _ _ _ _ _ _ _ _ c.loop.invariant.0 c.poll.ensures.counts c.in-Again.ensures.answer,
  (c.poll.ensures.ends.0 ∙ c.loop.invariant.1.0, c.poll.ensures.ends.1 ∙ c.loop.invariant.1.1),
  c.in-Again.ensures.within,
)

pub returns-clause-joined : goal.returns-clause-joined
returns-clause-joined g c = same_joined _ _ _ _ _ _ c.loop.invariant.0.uses.moves

pub returns-in-Pending-clause-counts : goal.returns-in-Pending-clause-counts
returns-in-Pending-clause-counts g c =
    calls_more c.loop.counter c.args.turns _ _ _ (omega arith) c.loop.invariant.0.calls c.poll.ensures.counts

pub returns-in-Ready-clause-counts : goal.returns-in-Ready-clause-counts
returns-in-Ready-clause-counts g c =
    calls_more c.loop.counter c.args.turns _ _ _ (omega arith) c.loop.invariant.0.calls c.poll.ensures.counts
