use Rattle.std.proofs.Common.{◌+◌, length, add-one, arith}
use Rattle.event_text.proofs.TextCuts.{lines-at, lines-whole, take-rest, drop-whole}
use Rattle.event_text.proofs.TextLook.{line_end-none, line_end-taken}
use Rattle.event_text.proofs.word.first_line.Goals as goal

pub returns-then-at-text-clause-lines : goal.returns-then-at-text-clause-lines
returns-then-at-text-clause-lines c =
    rw (take-rest c.args.text.now (c.place_of-at.result + 1), add-one)
    (lines-at c.args.text.now c.place_of-at.result c.if-at-text.true c.place_of-at.ensures.before
    (c.place_of-at.ensures.there c.if-at-text.true))

pub returns-clause-lines : goal.returns-clause-lines
returns-clause-lines c =
    rw (take-rest c.args.text.now (length c.args.text.now), drop-whole c.args.text.now)
    (lines-whole c.args.text.now c.requires (λ k small. c.place_of-at.ensures.before k (omega arith)))

pub returns-then-at-text-clause-one : goal.returns-then-at-text-clause-one
returns-then-at-text-clause-one c =
    line_end-taken c.args.text.now c.place_of-at.result c.place_of-at.ensures.bound c.place_of-at.ensures.before

pub returns-clause-one : goal.returns-clause-one
returns-clause-one c = line_end-none c.args.text.now (λ k small. c.place_of-at.ensures.before k (omega arith))
