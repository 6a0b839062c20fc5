use Rattle.fault_run.proofs.Putting.{words-more, words-all}
use Rattle.fault_run.proofs.answer.put_words.Goals as goal

pub loop-word-preserved : goal.loop-word-preserved
loop-word-preserved c = words-more c.args.out.now.items c.args.words.now c.loop-word.out.items c.put_counted.new.out.items
    c.loop-word.word-index c.loop-word-test.true c.loop-word.invariant c.in_ok-put_counted.ensures

pub returns : goal.returns
returns c = words-all c.args.out.now.items c.args.words.now c.loop-word.out.items c.loop-word.word-index c.loop-word-test.false
    c.loop-word.invariant
