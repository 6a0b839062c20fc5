use Rattle.std.proofs.Common.{arith, ◌∙◌, ap, length}
use Rattle.std.proofs.lemmas.List.{length-take}
use Rattle.rent_buf.specs.Buffer.{shown}
use Rattle.machine.specs.declared.request.TheConstants.{MOST_ASKED}
use Rattle.machine.proofs.request.bytes.offered.Goals as goal

pub returns : goal.returns
returns g c =
    let shows = c.bytes_init.ensures ∙ ap length c.keeps_bounds.ensures.content in
    let cut = length-take MOST_ASKED (shown (g.B.IoBufMut.buffer c.args.buf.now)) in
    let asks = c.asked.ensures in
    omega (arith, shows, cut, asks)
