use Rattle.std.proofs.Common.{◌∙◌, ◌+◌, ap, arith, length, sym}
use Rattle.machine.proofs.Laid.{written-over, grown-long}
use Rattle.machine.proofs.input.write_over.Goals as goal

pub returns-clause-ok : goal.returns-clause-ok
returns-clause-ok g c =
    let bytes = c.args.bytes.now.items in
    let count = c.args.bytes.now.ok.0 in
    let within = c.requires in
    let grown = c.in_ok-grow_to.ensures.ok in
    c.truncate.ensures.items
    ∙ written-over bytes _ c.as_mut_slice.result.now (g.P.Payloads.offered c.args.payloads.now c.args.word) c.copy_to-written.new.target _
    c.args.pos c.args.count c.copy_to-written.result c.len-end.result _ c.max.result (omega (arith, count, within))
    (grown-long bytes (c.args.pos + c.args.count))
    (c.as_mut_slice.ensures.value ∙ grown) c.copy_to-written.ensures.count c.copy_to-written.ensures.bytes (c.len-end.ensures ∙ count)
    (c.grow_to.new.bytes.ok.0 ∙ sym (ap length c.as_mut_slice.ensures.value)) c.max.ensures
