use Rattle.std.proofs.Common.{◌≡◌, ◌∙◌, ℕ, ◌+◌, ◌*◌, List, ap, arith, take}
use Rattle.std.specs.Prelude.{Some}
use Rattle.std.proofs.lemmas.List.{length-set, take_all, take_more_set}
use Rattle.event_text.specs.TextReads.{pairs_of}
use Rattle.event_text.proofs.TextHex.{pairs_of-more, pairs_of-end}
use Rattle.event_text.proofs.word.hex.read_block.Goals as goal

pub loop-at-preserved : goal.loop-at-preserved
loop-at-preserved c =
    let at = c.loop-at.at in
    let block = c.loop-at.block in
    let long = c.loop-at.invariant.long in
    let below = c.loop-at-test.true in
    let all = c.requires.long in
    let byte = c.block_value.result * 16 + c.block_value-in-loop-at.result in
    let place : 2 * (at + 1) ≡ 2 * at + 2 = omega arith in
    let high = c.block_value.ensures.value in
    let low = c.block_value-in-loop-at.ensures.value in
    let more = pairs_of-more (pairs_of c.args.word.now) c.args.word.now (2 * at) (take at block) (omega arith)
    (c.requires.digits (2 * at) (omega arith)) (c.requires.digits (2 * at + 1) (omega arith)) c.loop-at.invariant.read in
    record {
      long = length-set block at byte ∙ long;
      read = rw (take_more_set block at byte (omega arith), place, high, low) more;
    }

pub returns-clause-read : goal.returns-clause-read
returns-clause-read c =
    let end = c.loop-at-test.false in
    let long = c.loop-at.invariant.long in
    let all = c.requires.long in
    pairs_of-end (pairs_of c.args.word.now) c.args.word.now (2 * c.loop-at.at) (take c.loop-at.at c.loop-at.block) (omega arith)
    c.loop-at.invariant.read
    ∙ ap (λ (l : List ℕ). Some l) (take_all c.loop-at.at c.loop-at.block (omega arith))
