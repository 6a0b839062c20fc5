use Rattle.std.proofs.Common.{◌≡◌, ◌∙◌, ◌+◌, ◌<◌, ◌≤◌, [], ◌∷◌, ◌++◌, false, length, length-append, sym, ap, subst, arith}
use Rattle.std.specs.Prelude.{Some, IfSome}
use Rattle.frame_io.specs.declared.message.Message.{Message}
use Rattle.frame_io.specs.Decoder.{AreShort}
use Rattle.frame_io.proofs.Bounds.{short_append}
use Rattle.frame_io.proofs.decoder.Decoder.finish.Goals as goal

pub invariant_of-self-in-Ok : goal.invariant_of-self-in-Ok
invariant_of-self-in-Ok c =
    let i = c.self.inside in
    let bound = c.self.invariant.bound in
    let message : Message = record { channel = c.args.piece.channel; bytes = c.replace.result } in
    let there : i.piece ≡ Some c.args.piece = ap (λ d. d.piece) c.self.view_is ∙ c.requires.piece in
    let begun = subst (λ q. IfSome q (λ p. (length i.bytes + p.lacks ≤ i.limits.bytes)
    × (p.last ≡ false → length i.channels.items < i.limits.channels))) there bound.begun in
    let size : length message.bytes ≤ i.limits.bytes = omega (arith, ap length c.replace.ensures.value, bound.within) in
    let room : length i.channels.items < i.limits.channels = begun.1 c.if-piece.false in
    let more : c.push.new.self.items ≡ i.channels.items ++ message ∷ [] = c.in-Ok.ensures.items in
    record {
      part = c.self.invariant.part;
      none = tt;
      bound = record {
        few = omega (arith, ap length more, length-append i.channels.items (message ∷ []));
        short = subst (AreShort i.limits.bytes) (sym more) (short_append i.limits.bytes i.channels.items message bound.short size);
        within = omega (arith, ap length c.replace.ensures.after, ap length c.new-none.ensures);
        begun = tt;
      };
    }
