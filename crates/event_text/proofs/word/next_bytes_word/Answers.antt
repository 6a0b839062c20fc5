use Rattle.std.proofs.Common.{◌∙◌}
use Rattle.event_text.proofs.TextLook.{digits-word, word-at}
use Rattle.event_text.proofs.word.next_bytes_word.Goals as goal

pub returns-clause-reads : goal.returns-clause-reads
returns-clause-reads c =
    let end = digits-word c.in_ok-text.text.now c.leading_digits-at.result c.leading_digits-at.ensures
    (let same = c.is_word_end.ensures in let is = c.if-not-is_word_end.false in cc) in
    c.in_ok-text.ensures.reads ∙ (word-at c.in_ok-text.text.now c.leading_digits-at.result end).0

pub returns-clause-past : goal.returns-clause-past
returns-clause-past c =
    let end = digits-word c.in_ok-text.text.now c.leading_digits-at.result c.leading_digits-at.ensures
    (let same = c.is_word_end.ensures in let is = c.if-not-is_word_end.false in cc) in
    (word-at c.in_ok-text.text.now c.leading_digits-at.result end).1 ∙ c.in_ok-text.ensures.past
