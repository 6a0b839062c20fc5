use Rattle.event_text.proofs.TextLook.{unbroken-next}
use Rattle.event_text.proofs.word.word_end.Goals as goal

pub loop-at-preserved : goal.loop-at-preserved
loop-at-preserved c = record {
  unbroken = unbroken-next c.args.text.now c.loop-at.at c.loop-at-test.true c.loop-at.invariant.unbroken c.if-text-at-eq32.false
      c.if-text-at-eq10.false;
}
