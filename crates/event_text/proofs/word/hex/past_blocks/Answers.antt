use Rattle.std.proofs.Common.{◌+◌, ◌-◌, arith, drop, length-drop}
use Rattle.event_text.proofs.TextDigits.{are_digits-more, are_digits-taken}
use Rattle.event_text.proofs.word.hex.past_blocks.Goals as goal

pub loop-at-preserved : goal.loop-at-preserved
loop-at-preserved c =
    let room = c.loop-at-test.true in
    let within = c.loop-at.invariant.within in
    let at = c.loop-at.at in
    let text = c.args.text.now in
    let long = length-drop at text in
    record {
      within = omega arith;
      before = are_digits-more text at 32 c.loop-at.invariant.before
          (are_digits-taken (drop at text) 32 (at + 32 - at) (omega arith) (omega arith) (c.are_digits.ensures.yes c.if-are_digits.true));
    }
