use Rattle.std.proofs.Common.{◌%◌, arith, length}
use Rattle.event_text.proofs.TextDigits.{pairs_of-none}
use Rattle.event_text.proofs.TextHex.{eqb-isnt, pairs_of-odd}
use Rattle.event_text.proofs.word.hex.is_hex.Goals as goal

pub returns-then-word-eq0-clause-no : goal.returns-then-word-eq0-clause-no
returns-then-word-eq0-clause-no c isnt =
    let have = c.leading_digits.ensures in
    let differ = eqb-isnt c.leading_digits.result (length c.args.word.now) isnt in
    pairs_of-none c.args.word.now c.leading_digits.result (omega arith) (have.there (omega arith))

pub returns-else-word-eq0-clause-no : goal.returns-else-word-eq0-clause-no
returns-else-word-eq0-clause-no c isnt = pairs_of-odd c.args.word.now (eqb-isnt (length c.args.word.now % 2) 0 isnt)
