use Rattle.std.proofs.Common.{◌≡◌, ◌∙◌, ◌-◌, ◌++◌, List, ℕ, length, drop, ap, subst, arith}
use Rattle.std.specs.Prelude.{None, Some}
use Rattle.frame_io.specs.Decoder.{Decoding, rest_of}
use Rattle.frame_io.proofs.Steps.{fed_piece}
use Rattle.frame_io.proofs.decoder.Decoder.feed_piece.Goals as goal

pub returns-in-Ok-clause-answer : goal.returns-in-Ok-clause-answer
returns-in-Ok-clause-answer c = λ more.
    let i = c.self.inside in
    let was : Decoding = record {
      limits = i.limits;
      channels = i.channels.items;
      head = i.head;
      piece = i.piece;
      bytes = i.bytes;
      stop = i.stop;
      offset = i.offset;
    } in
    let is : was ≡ c.args.self.now = c.self.view_is in
    let stop : was.stop ≡ None = ap (λ d. d.stop) is ∙ c.requires.stop in
    let p = c.args.piece in
    let count = c.min-count.result in
    let front : List ℕ = c.split_at.result.0.now in
    let size : length front ≡ count = omega (arith, c.split_at.ensures.front_len) in
    subst (λ (d : Decoding). rest_of (record was {
      piece = Some (record { channel = p.channel; last = p.last; lacks = p.lacks - count; size = p.size });
      bytes = c.append.new.self;
    }) (drop count c.args.bytes.now ++ more) ≡ rest_of d (c.args.bytes.now ++ more)) is
    (fed_piece was p count front c.append.new.self c.args.bytes.now more stop
    (ap (λ d. d.piece) is ∙ c.requires.piece) c.split_at.ensures.front size (omega arith) c.in-Ok.ensures.ok)
