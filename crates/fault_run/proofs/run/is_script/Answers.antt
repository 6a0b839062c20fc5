use Rattle.std.proofs.Common.{◌≡◌, ◌<◌, ◌∙◌, true, length, refl, sym, arith}
use Rattle.std.proofs.lemmas.Bool.Decides.{nat_tests}
use Rattle.std.proofs.lemmas.List.Elements.{All-more}
use Rattle.fault_run.specs.Script.{is_letter}
use Rattle.fault_run.proofs.Words.{all-letters}
use Rattle.fault_run.proofs.run.is_script.Goals as goal

pub loop-letter-preserved : goal.loop-letter-preserved
loop-letter-preserved c = All-more (λ letter. is_letter letter ≡ true) c.args.word.now c.loop-letter.letter-index 0 c.loop-letter-test.true
    c.loop-letter.invariant (sym c.is_letter.ensures ∙ c.if-not-is_letter.false)

pub returns : goal.returns
returns c =
    let some : 0 < length c.args.word.now = grind (arith, nat_tests, c.if-is_empty.ensures) in (
      λ yes. all-letters c.args.word.now c.loop-letter.letter-index some c.loop-letter-test.false c.loop-letter.invariant,
      λ script. refl,
    )
