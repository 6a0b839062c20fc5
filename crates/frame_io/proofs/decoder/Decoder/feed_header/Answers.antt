use Rattle.std.proofs.Common.{◌≡◌, ◌∙◌, ◌++◌, [], sym, ap, refl, arith}
use Rattle.std.proofs.lemmas.Grind.{common_steps}
use Rattle.frame_io.specs.declared.header.Header.TheVariants.{Bad}
use Rattle.frame_io.specs.Piece.{header_at}
use Rattle.frame_io.proofs.Steps.{fed_bad, fed_one, polled_by}
use Rattle.frame_io.proofs.decoder.Decoder.feed_header.Goals as goal

pub returns-then-not-is_empty-clause-answer : goal.returns-then-not-is_empty-clause-answer
returns-then-not-is_empty-clause-answer c = λ more.
    fed_one c.args.self.now c.feed_byte.new.self c.feed_byte.result.0 _ c.args.bytes.now more c.feed_byte.result.1 c.requires.some refl
    c.feed_byte.ensures.within c.feed_byte.ensures.answer

pub returns-in-Bad-clause-answer : goal.returns-in-Bad-clause-answer
returns-in-Bad-clause-answer c = λ more.
    let was = c.args.self.now in
    let bytes = c.args.bytes.now in
    let bad = c.in-Bad.bad in
    let inside : c.self.inside.head ≡ [] = grind (arith, common_steps) in
    let empty : was.head ++ bytes ≡ bytes = ap (λ d. d.head ++ bytes) (sym c.self.view_is) ∙ ap (λ h. h ++ bytes) inside in
    let there : header_at (was.head ++ bytes) ≡ Bad bad = ap header_at empty ∙ sym c.in-Bad.ensures.value in
    polled_by _ _ _ _ (fed_bad was bad bytes more c.requires.stop c.requires.piece there) (c.stop_at.ensures.answer (bytes ++ more))
