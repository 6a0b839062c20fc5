use Rattle.std.proofs.Common.{◌∙◌, arith}
use Rattle.ring_core.specs.Ring.{marked_by}
use Rattle.ring_core.proofs.Marked.{mapped_front-all, mapped_front-set}
use Rattle.ring_core.proofs.flights.mark_each.Goals as goal

pub loop-flight-preserved : goal.loop-flight-preserved
loop-flight-preserved c =
    mapped_front-set (marked_by c.args.word) c.args.flights.now c.loop-flight.flights c.loop-flight.flight-index _ c.marked.result
    c.loop-flight.invariant (omega (arith, c.loop-flight-test.true)) c.marked.ensures

pub returns : goal.returns
returns c =
    c.loop-flight.invariant
    ∙ mapped_front-all (marked_by c.args.word) c.loop-flight.flight-index c.args.flights.now (omega (arith, c.loop-flight-test.false))
