use Rattle.std.proofs.Common.{◌≡◌, ◌∙◌, ◌<◌, [], ap, subst, sym, refl, length, rules, arith}
use Rattle.std.proofs.lemmas.Grind.{common_steps}
use Rattle.std.specs.Prelude.{None, Some, IfSome, vec_len, ◌==◌}
use Rattle.frame_io.specs.declared.fault.Ending.TheVariants.{End}
use Rattle.frame_io.specs.declared.header.Header.TheVariants.{Cut as HeaderCut}
use Rattle.frame_io.specs.Decoder.{Stops, rest_of}
use Rattle.frame_io.specs.Frames.{stops, ending_of}
use Rattle.frame_io.specs.Piece.{header_at}
use Rattle.frame_io.proofs.Steps.{ends_piece, ends_head, ending_head, ending_open, some_open, no_open, polled_by}
use Rattle.frame_io.proofs.decoder.Decoder.end.Goals as goal

pub returns-in-Some-clause-answer : goal.returns-in-Some-clause-answer
returns-in-Some-clause-answer c =
    let was = c.args.self.now in
    let there : was.piece ≡ Some c.in-Some.field-0 = ap (λ d. d.piece) (sym c.self.view_is) ∙ c.in-Some.is in
    polled_by _ _ _ _ (ends_piece was c.in-Some.field-0 c.requires.stop there
    (subst (λ q. IfSome q (λ p. 0 < p.lacks)) there c.requires.lacks))
    (c.stop_at.ensures.answer [])

pub returns-then-not-is_empty-clause-answer : goal.returns-then-not-is_empty-clause-answer
returns-then-not-is_empty-clause-answer c =
    let was = c.args.self.now in
    let none : was.piece ≡ None = ap (λ d. d.piece) (sym c.self.view_is) ∙ c.in_default.is in
    let part : header_at was.head ≡ HeaderCut = ap (λ d. header_at d.head) (sym c.self.view_is) ∙ c.self.invariant.part in
    let inside : c.self.inside.head ≡ [] → ⊥ = λ e. grind (arith, common_steps) in
    let some : was.head ≡ [] → ⊥ = λ e. inside (ap (λ d. d.head) c.self.view_is ∙ e) in
    polled_by _ _ _ _ (ends_head was c.requires.stop none part ∙ ap (λ e. stops e was.offset) (ending_head was.channels was.head some))
    (c.stop_at-then-not-is_empty.ensures.answer [])

pub returns-then-not-is_empty-2-clause-answer : goal.returns-then-not-is_empty-2-clause-answer
returns-then-not-is_empty-2-clause-answer c =
    let was = c.args.self.now in
    let none : was.piece ≡ None = ap (λ d. d.piece) (sym c.self.view_is) ∙ c.in_default.is in
    let part : header_at was.head ≡ HeaderCut = ap (λ d. header_at d.head) (sym c.self.view_is) ∙ c.self.invariant.part in
    let count : vec_len c.self.inside.channels ≡ length c.self.inside.channels.items = search rules in
    let same : c.is_empty-2.result ≡ (length c.self.inside.channels.items == 0) = c.is_empty-2.ensures ∙ ap (λ n. n == 0) count in
    let some : was.channels ≡ [] → ⊥ = λ e. some_open c.self.inside.channels.items c.is_empty-2.result same
    c.if-not-is_empty-2.true (ap (λ d. d.channels) c.self.view_is ∙ e) in
    polled_by _ _ _ _ (ends_head was c.requires.stop none part ∙ ap (λ e. stops e was.offset) (ending_open was.channels was.head some))
    (c.stop_at-then-not-is_empty-2.ensures.answer [])

pub returns-clause-answer : goal.returns-clause-answer
returns-clause-answer c =
    let i = c.self.inside in
    let was = c.args.self.now in
    let none : was.piece ≡ None = ap (λ d. d.piece) (sym c.self.view_is) ∙ c.in_default.is in
    let part : header_at was.head ≡ HeaderCut = ap (λ d. header_at d.head) (sym c.self.view_is) ∙ c.self.invariant.part in
    let count : vec_len c.self.inside.channels ≡ length c.self.inside.channels.items = search rules in
    let same : c.is_empty-2.result ≡ (length c.self.inside.channels.items == 0) = c.is_empty-2.ensures ∙ ap (λ n. n == 0) count in
    let closed : was.channels ≡ [] = ap (λ d. d.channels) (sym c.self.view_is)
    ∙ no_open i.channels.items c.is_empty-2.result same c.if-not-is_empty-2.false in
    let inside : i.head ≡ [] = grind (arith, common_steps) in
    let empty : was.head ≡ [] = ap (λ d. d.head) (sym c.self.view_is) ∙ inside in
    let step : rest_of was [] ≡ stops End i.offset = ends_head was c.requires.stop none part
    ∙ ap (λ l. stops (ending_of l was.head) was.offset) closed ∙ ap (λ h. stops (ending_of [] h) was.offset) empty
    ∙ ap (λ d. stops End d.offset) (sym c.self.view_is) in
    subst (λ o. Stops End o (stops End i.offset)) (sym step) (record { nothing = refl; ends = refl; same = refl })
