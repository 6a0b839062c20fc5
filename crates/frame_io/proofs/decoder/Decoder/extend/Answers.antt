use Rattle.std.proofs.Common.{◌≡◌, ◌∙◌, ap, refl}
use Rattle.std.specs.Prelude.{None}
use Rattle.frame_io.proofs.Extending.{bounded_extended}
use Rattle.frame_io.proofs.decoder.Decoder.extend.Goals as goal

pub invariant_of-self-2 : goal.invariant_of-self-2
invariant_of-self-2 c =
    let i = c.self.inside in
    let none : i.piece ≡ None = ap (λ d. d.piece) c.self.view_is ∙ c.requires.piece in
    record {
      part = c.self.invariant.part;
      none = c.self.invariant.none;
      bound = bounded_extended i.limits c.args.head.channel c.args.bytes.now i.channels.items c.extended.new.channels.items i.piece i.bytes none
          c.self.invariant.bound (c.if-not-extended.ensures.done refl);
    }
