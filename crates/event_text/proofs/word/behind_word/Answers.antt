use Rattle.std.proofs.Common.{◌∙◌, length, arith, ap}
use Rattle.std.proofs.lemmas.Slice.Eq.{bytes_eq-Decides}
use Rattle.event_text.specs.TextLook.{ends_word}
use Rattle.event_text.proofs.TextCuts.{take-rest}
use Rattle.event_text.proofs.TextLook.{another-word, this-word}
use Rattle.event_text.proofs.word.behind_word.Goals.{then-not-is_word-via-then-not-is_word}
use Rattle.event_text.proofs.word.behind_word.Goals.{then-not-is_word-via-else-not-is_word+then-not-is_word_end}
use Rattle.event_text.proofs.word.behind_word.Goals as goal

pub returns-then-text-at-clause-reads : goal.returns-then-text-at-clause-reads
returns-then-text-at-clause-reads c =
    another-word c.args.text.now c.args.word.now (λ bound begins ends. let short = c.if-text-at.true in omega (arith, bound, short))

pub returns-then-not-is_word-clause-reads : goal.returns-then-not-is_word-clause-reads
returns-then-not-is_word-clause-reads c =
    another-word c.args.text.now c.args.word.now (λ bound begins ends. elim c.then-not-is_word.branch [
      | then-not-is_word-via-then-not-is_word w ↦ (
          let other = w.if-not-is_word.true in
          let same = c.is_word.ensures ∙ (bytes_eq-Decides _ c.args.word.now).1 begins in
          let f : ⊥ = cc in
          f)
      | then-not-is_word-via-else-not-is_word+then-not-is_word_end w ↦ (
          let on = w.if-not-is_word_end.true in
          let same = w.is_word_end.ensures ∙ ap ends_word (take-rest c.args.text.now (length c.args.word.now)) ∙ ends in
          let f : ⊥ = cc in
          f)
    ])

pub returns-clause-reads : goal.returns-clause-reads
returns-clause-reads c =
    (this-word c.args.text.now c.args.word.now c.requires c.if-text-at.false
    (let same = c.is_word.ensures in let is = c.if-not-is_word.false in cc)
    (let same = c.is_word_end.ensures in let is = c.if-not-is_word_end.false in cc)).0

pub returns-clause-behind : goal.returns-clause-behind
returns-clause-behind c =
    (this-word c.args.text.now c.args.word.now c.requires c.if-text-at.false
    (let same = c.is_word.ensures in let is = c.if-not-is_word.false in cc)
    (let same = c.is_word_end.ensures in let is = c.if-not-is_word_end.false in cc)).1

pub returns-clause-past : goal.returns-clause-past
returns-clause-past c =
    (this-word c.args.text.now c.args.word.now c.requires c.if-text-at.false
    (let same = c.is_word.ensures in let is = c.if-not-is_word.false in cc)
    (let same = c.is_word_end.ensures in let is = c.if-not-is_word_end.false in cc)).2
