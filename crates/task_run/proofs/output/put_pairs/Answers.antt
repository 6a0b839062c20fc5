use Rattle.std.proofs.Common.{arith}
use Rattle.event_text.proofs.TextHex.{hex-written}
use Rattle.task_run.proofs.output.put_pairs.Goals as goal

pub loop-byte-preserved : goal.loop-byte-preserved
loop-byte-preserved c = record {
  written = hex-written _ c.args.bytes.now c.loop-byte.out.items _ _ c.loop-byte.byte-index c.digit_of.result
      c.digit_of-in-loop-byte.result c.loop-byte-test.true c.loop-byte.invariant.written
      c.digit_of.ensures c.digit_of-in-loop-byte.ensures c.push_reserved.ensures.items c.push_reserved-in-loop-byte.ensures.items;
  room = omega arith;
}
