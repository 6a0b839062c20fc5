use Rattle.std.proofs.Common.{◌∙◌, ap}
use Rattle.event_text.specs.TextLook.{count_of}
use Rattle.event_text.specs.TextReaders.{field}
use Rattle.event_text.proofs.TextLook.{digits-at}
use Rattle.event_text.proofs.word.next_pairs.Goals as goal

pub returns-clause-reads : goal.returns-clause-reads
returns-clause-reads c =
    ap (field count_of) c.in_ok-text.ensures.reads
    ∙ (digits-at c.in_ok-text.text.now c.leading_digits-at.result c.leading_digits-at.ensures c.if-at-eq0.false c.if-at-ne0.false
    (let same = c.is_word_end.ensures in let is = c.if-not-is_word_end.false in cc)).0

pub returns-clause-past : goal.returns-clause-past
returns-clause-past c =
    (digits-at c.in_ok-text.text.now c.leading_digits-at.result c.leading_digits-at.ensures c.if-at-eq0.false c.if-at-ne0.false
    (let same = c.is_word_end.ensures in let is = c.if-not-is_word_end.false in cc)).1
    ∙ c.in_ok-text.ensures.past
