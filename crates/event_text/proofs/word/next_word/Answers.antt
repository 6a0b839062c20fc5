use Rattle.std.proofs.Common.{◌∙◌}
use Rattle.event_text.proofs.TextLook.{word-at}
use Rattle.event_text.proofs.word.next_word.Goals as goal

pub returns-clause-reads : goal.returns-clause-reads
returns-clause-reads c = c.in_ok-text.ensures.reads ∙ (word-at c.in_ok-text.text.now c.word_end-at.result c.word_end-at.ensures).0

pub returns-clause-past : goal.returns-clause-past
returns-clause-past c = (word-at c.in_ok-text.text.now c.word_end-at.result c.word_end-at.ensures).1 ∙ c.in_ok-text.ensures.past
