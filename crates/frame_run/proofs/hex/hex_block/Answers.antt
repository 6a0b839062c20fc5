use Rattle.std.proofs.Common.{◌∙◌, ◌+◌, ◌*◌, arith, set}
use Rattle.std.proofs.lemmas.List.{length-set}
use Rattle.event_text.proofs.TextHex.{hex-set}
use Rattle.frame_run.proofs.hex.hex_block.Goals as goal

pub loop-at-preserved : goal.loop-at-preserved
loop-at-preserved c =
    let at = c.loop-at.at in
    let block = c.loop-at.block in
    let long = c.loop-at.invariant.long in
    let below = c.loop-at-test.true in
    let all = c.requires in
    let high = c.digit_of.result in
    let low = c.digit_of-in-loop-at.result in
    record {
      long = length-set (set block (2 * at) high) (2 * at + 1) low ∙ length-set block (2 * at) high ∙ long;
      written = hex-set block c.args.bytes.now at high low (omega arith) (omega arith) c.loop-at.invariant.written
          c.digit_of.ensures c.digit_of-in-loop-at.ensures;
    }
