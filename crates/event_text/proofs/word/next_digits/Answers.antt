use Rattle.std.proofs.Common.{◌∙◌, ap}
use Rattle.event_text.specs.TextReaders.{field}
use Rattle.event_text.specs.TextReads.{number_of}
use Rattle.event_text.proofs.TextLook.{number-at}
use Rattle.event_text.proofs.word.next_digits.Goals as goal

pub returns-clause-reads : goal.returns-clause-reads
returns-clause-reads c =
    ap (field number_of) c.in_ok-text.ensures.reads
    ∙ (number-at c.in_ok-text.text.now c.in_ok-number.number c.in_ok-number.at c.in_ok-number.ensures
    (let same = c.is_word_end.ensures in let is = c.if-not-is_word_end.false in cc)).0

pub returns-clause-past : goal.returns-clause-past
returns-clause-past c =
    (number-at c.in_ok-text.text.now c.in_ok-number.number c.in_ok-number.at c.in_ok-number.ensures
    (let same = c.is_word_end.ensures in let is = c.if-not-is_word_end.false in cc)).1
    ∙ c.in_ok-text.ensures.past
