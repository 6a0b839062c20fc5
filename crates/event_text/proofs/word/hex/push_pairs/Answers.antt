use Rattle.std.proofs.Common.{◌≡◌, ◌∙◌, ◌+◌, ◌*◌, arith, sym}
use Rattle.event_text.specs.TextReads.{pairs_of}
use Rattle.event_text.proofs.TextDigits.{onto-map, pairs_of-none}
use Rattle.event_text.proofs.TextHex.{onto, pairs_of-more, pairs_of-end}
use Rattle.event_text.proofs.word.hex.push_pairs.Goals as goal
use Rattle.event_text.proofs.word.hex.push_pairs.Goals.{then-high-eq-NO_DIGIT-via-then-high-eq-NO_DIGIT}
use Rattle.event_text.proofs.word.hex.push_pairs.Goals.{then-high-eq-NO_DIGIT-via-else-high-eq-NO_DIGIT+then-low-eq-NO_DIGIT}

pub returns-then-high-eq-NO_DIGIT-clause-no : goal.returns-then-high-eq-NO_DIGIT-clause-no
returns-then-high-eq-NO_DIGIT-clause-no c same =
    let word = c.args.word.now in
    let at = c.loop-at.at in
    let below = c.loop-at-test.true in
    elim c.then-high-eq-NO_DIGIT.branch [
      | then-high-eq-NO_DIGIT-via-then-high-eq-NO_DIGIT w ↦
          pairs_of-none word (2 * at) (omega arith) (sym c.digit_value-high.ensures ∙ w.if-high-eq-NO_DIGIT.true)
      | then-high-eq-NO_DIGIT-via-else-high-eq-NO_DIGIT+then-low-eq-NO_DIGIT w ↦
          pairs_of-none word (2 * at + 1) (omega arith) (sym c.digit_value-low.ensures ∙ w.if-low-eq-NO_DIGIT.true)
    ]

pub loop-at-preserved : goal.loop-at-preserved
loop-at-preserved c =
    let at = c.loop-at.at in
    let below = c.loop-at-test.true in
    let place : 2 * (at + 1) ≡ 2 * at + 2 = omega arith in
    let high = c.digit_value-high.ensures in
    let low = c.digit_value-low.ensures in
    let more = pairs_of-more (onto c.args.bytes.now.items (pairs_of c.args.word.now)) c.args.word.now (2 * at) c.loop-at.bytes.items
    (omega arith) (λ is. c.if-high-eq-NO_DIGIT.false (high ∙ is)) (λ is. c.if-low-eq-NO_DIGIT.false (low ∙ is))
    c.loop-at.invariant.read in
    record {
      read = rw (c.push_reserved.ensures.items, place, high, low) more;
      room = omega arith;
    }

pub returns-clause-yes : goal.returns-clause-yes
returns-clause-yes c same =
    let even = c.requires.even in
    let end = c.loop-at-test.false in
    sym (onto-map c.args.bytes.now.items (pairs_of c.args.word.now))
    ∙ pairs_of-end (onto c.args.bytes.now.items (pairs_of c.args.word.now)) c.args.word.now (2 * c.loop-at.at) c.loop-at.bytes.items
    (omega arith) c.loop-at.invariant.read
