use Rattle.std.proofs.Common.{◌≡◌, ◌∙◌, ◌+◌, ◌++◌, List, ℕ, drop, take, sym, ap, subst, refl}
use Rattle.std.proofs.lemmas.List.{drop-drop}
use Rattle.frame_io.specs.declared.header.Header.TheVariants.{Whole}
use Rattle.frame_io.specs.Decoder.{Decoding, Polled, rest_of}
use Rattle.frame_io.specs.Frames.{read_from, refusal, taken}
use Rattle.frame_io.specs.Piece.{header_at}
use Rattle.frame_io.proofs.Steps.{cut_at, fed_whole, polled_by}
use Rattle.frame_io.proofs.decoder.Decoder.feed_whole.Goals as goal
use Rattle.frame_io.proofs.decoder.Decoder.feed_whole.Goals.{then-head-rest+else-extend, else-head-rest}

pub returns-then-extend-clause-answer : goal.returns-then-extend-clause-answer
returns-then-extend-clause-answer c = λ more.
    let was = c.args.self.now in
    let bytes = c.args.bytes.now in
    let head = c.args.head in
    let count = c.args.count in
    let empty : was.head ++ bytes ≡ bytes = ap (λ h. h ++ bytes) c.requires.begun in
    let there : header_at (was.head ++ bytes) ≡ Whole head count = ap header_at empty ∙ c.requires.is in
    let rest : List ℕ = c.split_at.result.1.now in
    let front : List ℕ = c.split_at-then-head-rest.result.0.now in
    let behind : rest ≡ drop count bytes = c.split_at.ensures.back in
    let further : drop (count + head.size) bytes ≡ drop head.size rest =
    sym (drop-drop head.size count bytes) ∙ ap (drop head.size) (sym behind) in
    let cut : front ++ (drop (count + head.size) bytes ++ more) ≡ drop count bytes ++ more =
    ap (λ l. l ++ (drop (count + head.size) bytes ++ more)) c.split_at-then-head-rest.ensures.front
    ∙ ap (λ l. take head.size rest ++ (l ++ more)) further ∙ cut_at head.size rest more ∙ ap (λ l. l ++ more) behind in
    let read : List ℕ → _ = λ left. taken (λ o n b. read_from was.limits o n b) was.channels was.offset head count left
    (refusal was.limits was.channels head) in
    c.if-extend.ensures.rest refl (drop (count + head.size) bytes ++ more) ∙ ap read cut
    ∙ ap (λ l. read (drop count l ++ more)) (sym empty)
    ∙ sym (fed_whole was head count bytes more c.requires.stop c.requires.piece there)

pub returns-clause-answer : goal.returns-clause-answer
returns-clause-answer c = λ more.
    let was = c.args.self.now in
    let bytes = c.args.bytes.now in
    let head = c.args.head in
    let count = c.args.count in
    let empty : was.head ++ bytes ≡ bytes = ap (λ h. h ++ bytes) c.requires.begun in
    let there : header_at (was.head ++ bytes) ≡ Whole head count = ap header_at empty ∙ c.requires.is in
    let same : c.if-head-rest.self ≡ was =
    elim c.if-head-rest.branch [
      | then-head-rest+else-extend w ↦ w.self-is ∙ w.extend.ensures.same w.if-extend.false
      | else-head-rest w ↦ w.self-is
    ] in
    polled_by _ _ _ _ (fed_whole was head count bytes more c.requires.stop c.requires.piece there
    ∙ ap (λ l. taken (λ o n b. read_from was.limits o n b) was.channels was.offset head count (drop count l ++ more)
    (refusal was.limits was.channels head)) empty)
    (subst (λ (d : Decoding). Polled (taken (λ o n b. read_from d.limits o n b) d.channels d.offset head count (drop count bytes ++ more)
    (refusal d.limits d.channels head)) (rest_of c.begin.new.self (drop count bytes ++ more)) c.begin.result) same
    (c.begin.ensures.answer (drop count bytes ++ more)))
