use Rattle.std.proofs.Common.{arith}
use Rattle.event_text.proofs.TextDigits.{are_digits-more}
use Rattle.event_text.proofs.word.hex.past_fours.Goals as goal

pub loop-at-preserved : goal.loop-at-preserved
loop-at-preserved c =
    let room = c.loop-at-test.true in
    let within = c.loop-at.invariant.within in
    record {
      within = omega arith;
      before = are_digits-more c.args.text.now c.loop-at.at 4 c.loop-at.invariant.before
          (c.are_four_digits.ensures c.if-are_four_digits.true);
    }
