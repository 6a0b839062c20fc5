use Rattle.std.proofs.Common.{◌≡◌, ◌∙◌, ◌++◌, List, ℕ, drop, sym, ap, subst}
use Rattle.frame_io.specs.Decoder.{Polled, rest_of}
use Rattle.frame_io.specs.FrameReader.{Reading}
use Rattle.frame_io.proofs.Steps.{left_after}
use Rattle.frame_io.proofs.reader.FrameReader.feed.Goals as goal

pub returns-clause-answer : goal.returns-clause-answer
returns-clause-answer g c = λ tells.
    let i = c.self.inside in
    let reader = g.R.AsyncReadRent.reader in
    let front = c.buffered.ensures.front tells in
    let bytes : List ℕ = c.buffered.result.now in
    let count = c.feed-count.result.0 in
    let left : (reader i.inner).left ≡ bytes ++ front.0 = front.1 ∙ ap (λ b. b ++ front.0) (sym c.buffered.ensures.value) in
    let taken = c.consume.ensures.left tells in
    let now : (reader c.consume.new.self).left ≡ drop count bytes ++ front.0 =
    left_after count bytes front.0 (reader i.inner).left (reader c.consume.new.self).left c.feed-count.ensures.within left
    (rw (sym c.buffered.ensures.value) at taken) in
    let polled = c.feed-count.ensures.answer front.0 in
    subst (λ (r : Reading g.row.R.Denot). Polled (rest_of r.kept (reader r.inner).left)
    (rest_of c.feed-count.new.self (reader c.consume.new.self).left)
    c.feed-count.result.1) c.self.view_is
    (subst (λ l. Polled (rest_of i.decoder (reader i.inner).left) (rest_of c.feed-count.new.self l) c.feed-count.result.1) (sym now)
    (subst (λ l. Polled (rest_of i.decoder l) (rest_of c.feed-count.new.self (drop count bytes ++ front.0)) c.feed-count.result.1)
    (sym left)
    polled))
