use Rattle.event_text.proofs.TextLook.{digit-left}
use Rattle.event_text.proofs.word.next_digit.Goals as goal

pub returns-clause-reads : goal.returns-clause-reads
returns-clause-reads c =
    let digit = c.if-not-is_ascii_digit.ensures in
    (digit-left c.args.rest.now c.if-rest-lt2.false c.if-rest-eq10.false digit.cases.0 digit.cases.1
    (let same = c.is_word_end.ensures in let is = c.if-not-is_word_end.false in cc)).0

pub returns-clause-past : goal.returns-clause-past
returns-clause-past c =
    let digit = c.if-not-is_ascii_digit.ensures in
    (digit-left c.args.rest.now c.if-rest-lt2.false c.if-rest-eq10.false digit.cases.0 digit.cases.1
    (let same = c.is_word_end.ensures in let is = c.if-not-is_word_end.false in cc)).1
