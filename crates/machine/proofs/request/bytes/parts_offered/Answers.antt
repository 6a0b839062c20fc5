use Rattle.std.proofs.Common.{arith, ◌≡◌, ◌<◌, ◌+◌, ◌∙◌, ap, suc, length}
use Rattle.std.specs.Prelude.{take}
use Rattle.std.specs.List.{concat}
use Rattle.std.proofs.lemmas.List.{length-take, take_all}
use Rattle.rent_buf.specs.Parts.{bytes_of}
use Rattle.machine.specs.declared.request.TheConstants.{MOST_ASKED}
use Rattle.machine.proofs.Joined.{length-joined-more}
use Rattle.machine.proofs.request.bytes.parts_offered.Goals as goal

pub loop-i-preserved : goal.loop-i-preserved
loop-i-preserved c =
    let parts = bytes_of c.args.parts.now in
    let count = c.parts_len-i-end.ensures in
    let there : c.loop-i.i < length parts = omega (arith, count) in
    let next : c.loop-i.i + 1 ≡ suc c.loop-i.i = omega arith in
    let more = ap (λ i. length (concat (take i parts))) next ∙ length-joined-more parts c.loop-i.i there in
    let part = ap length c.part.ensures in
    let sum = c.saturating_add-count.ensures in
    let before = c.loop-i.invariant in
    omega (arith, more, part, sum, before)

pub returns : goal.returns
returns c =
    let parts = bytes_of c.args.parts.now in
    let count = c.parts_len-i-end.ensures in
    let all = ap (λ xs. length (concat xs)) (take_all c.loop-i.i parts (omega (arith, count))) in
    let cut = length-take MOST_ASKED (concat parts) in
    let sum = c.loop-i.invariant in
    let asks = c.asked.ensures in
    omega (arith, all, cut, sum, asks)
