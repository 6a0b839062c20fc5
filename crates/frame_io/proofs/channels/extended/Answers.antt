use Rattle.std.proofs.Common.{◌≡◌, ◌∙◌, ◌++◌, length, ap, subst, arith}
use Rattle.std.proofs.lemmas.Grind.{common_steps}
use Rattle.frame_io.specs.Channels.{HasPlace}
use Rattle.frame_io.specs.Frames.{bytes_of}
use Rattle.frame_io.specs.declared.message.Message.{Message}
use Rattle.frame_io.proofs.Extending.{extends_last}
use Rattle.frame_io.proofs.channels.extended.Goals as goal

pub returns-clause-done : goal.returns-clause-done
returns-clause-done c = λ told.
    let m : Message = c.index_mut.result.now in
    let channel = c.args.channel in
    let more = c.args.more.now in
    let old = c.args.channels.now.items in
    let place = c.in-Some.place in
    let there : HasPlace channel old place = subst (λ l. HasPlace channel l place) c.as_slice.ensures.value c.in-Some.ensures in
    let here = c.index_mut.ensures.value in
    let own : m.bytes ≡ bytes_of channel old = ap (λ (x : Message). x.bytes) here ∙ there.bytes m in
    let read : c.index.result.now.bytes ≡ bytes_of channel old = ap (λ (x : Message). x.bytes) c.index.ensures ∙ there.bytes _ in
    let grown : c.append.new.self ≡ m.bytes ++ more = grind (arith, common_steps) in
    extends_last channel more c.args.most old m _ c.append.new.self place there
    (omega (arith, c.len.ensures, c.if-place-len.false)) here
    (omega (arith, ap length own, ap length read, c.len-have.ensures, c.if-have-most.false, c.if-more-most.false)) grown
