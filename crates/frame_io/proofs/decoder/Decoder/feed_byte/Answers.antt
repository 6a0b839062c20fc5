use Rattle.std.proofs.Common.{◌≡◌, ◌∙◌, ◌++◌, ◌∷◌, [], drop, sym, ap, subst}
use Rattle.std.specs.Prelude.{None}
use Rattle.frame_io.specs.declared.header.Header.TheVariants.{Whole, Bad}
use Rattle.frame_io.specs.Decoder.{Decoding, Polled, rest_of}
use Rattle.frame_io.specs.Frames.{read_from, refusal, taken}
use Rattle.frame_io.specs.Piece.{header_at}
use Rattle.frame_io.proofs.Reading.{takes_all}
use Rattle.frame_io.proofs.Steps.{decoding_none, fed_bad, fed_whole, polled_by}
use Rattle.frame_io.proofs.decoder.Decoder.feed_byte.Goals as goal

pub invariant_of-self-in-Bad : goal.invariant_of-self-in-Bad
invariant_of-self-in-Bad c = decoding_none _ _ _ _ _ c.truncate-in-Bad.ensures (ap (λ d. d.piece) c.self.view_is ∙ c.requires.piece)
    c.self.invariant.bound

pub invariant_of-self : goal.invariant_of-self
invariant_of-self c = decoding_none _ _ _ _ _ c.truncate.ensures (ap (λ d. d.piece) c.self.view_is ∙ c.requires.piece)
    c.self.invariant.bound

pub returns-in-Whole-clause-answer : goal.returns-in-Whole-clause-answer
returns-in-Whole-clause-answer c = λ more.
    let i = c.self.inside in
    let was : Decoding = record {
      limits = i.limits;
      channels = i.channels.items;
      head = i.head;
      piece = i.piece;
      bytes = i.bytes;
      stop = i.stop;
      offset = i.offset;
    } in
    let is : was ≡ c.args.self.now = c.self.view_is in
    let stop : was.stop ≡ None = ap (λ d. d.stop) is ∙ c.requires.stop in
    let none : was.piece ≡ None = ap (λ d. d.piece) is ∙ c.requires.piece in
    let head = c.in-Whole.head in
    let count = c.in-Whole.count in
    let there : header_at (was.head ++ c.args.byte ∷ []) ≡ Whole head count =
    sym (ap header_at c.in-Ok.ensures.ok) ∙ ap header_at (sym c.as_slice.ensures) ∙ sym c.in-Whole.ensures.value in
    let all : drop count (was.head ++ c.args.byte ∷ []) ≡ [] = takes_all was.head c.args.byte head count c.self.invariant.part there in
    let step : rest_of was (c.args.byte ∷ more) ≡ taken (λ o n b. read_from was.limits o n b) was.channels was.offset head count more
    (refusal was.limits was.channels head) = fed_whole was head count (c.args.byte ∷ []) more stop none there
    ∙ ap (λ l. taken (λ o n b. read_from was.limits o n b) was.channels was.offset head count (l ++ more)
    (refusal was.limits was.channels head)) all in
    subst (λ (d : Decoding). Polled (rest_of d (c.args.byte ∷ more)) (rest_of c.begin.new.self more) c.begin.result) is
    (polled_by _ _ _ _ step (c.begin.ensures.answer more))

pub returns-in-Bad-clause-answer : goal.returns-in-Bad-clause-answer
returns-in-Bad-clause-answer c = λ more.
    let i = c.self.inside in
    let was : Decoding = record {
      limits = i.limits;
      channels = i.channels.items;
      head = i.head;
      piece = i.piece;
      bytes = i.bytes;
      stop = i.stop;
      offset = i.offset;
    } in
    let is : was ≡ c.args.self.now = c.self.view_is in
    let stop : was.stop ≡ None = ap (λ d. d.stop) is ∙ c.requires.stop in
    let none : was.piece ≡ None = ap (λ d. d.piece) is ∙ c.requires.piece in
    let bad = c.in-Bad.bad in
    let there : header_at (was.head ++ c.args.byte ∷ []) ≡ Bad bad =
    sym (ap header_at c.in-Ok.ensures.ok) ∙ ap header_at (sym c.as_slice.ensures) ∙ sym c.in-Bad.ensures.value in
    subst (λ (d : Decoding). Polled (rest_of d (c.args.byte ∷ more)) (rest_of c.stop_at.new.self more) c.stop_at.result) is
    (polled_by _ _ _ _ (fed_bad was bad (c.args.byte ∷ []) more stop none there) (c.stop_at.ensures.answer more))
