use Rattle.std.proofs.Common.{arith, ◌≡◌, ◌<◌, ◌+◌, ◌-◌, ◌∙◌, ap, sym, suc, length, min, take, []}
use Rattle.std.specs.Prelude.{slice_index_or}
use Rattle.std.specs.List.{concat}
use borrow.Rule.Slice.PartMut.{mid_of}
use Rattle.machine.specs.Payloads.{laid_over}
use Rattle.machine.proofs.Joined.{joined-more}
use Rattle.machine.proofs.Laid.{laid-next, laid-count, laid-filled, laid-up-to, laid-full-count}
use Rattle.machine.proofs.payloads.copy_first_parts.Goals as goal

pub returns-then-at-target-clause-count : goal.returns-then-at-target-clause-count
returns-then-at-target-clause-count g c =
    let all = laid-full-count (g.V.IoVecBuf.parts c.args.parts.now) c.loop-i.i c.args.target.now c.loop-i.target c.loop-i.at
    c.loop-i.invariant.laid c.loop-i.invariant.at c.if-at-target.true in
    omega (arith, all)

pub returns-then-at-target-clause-bytes : goal.returns-then-at-target-clause-bytes
returns-then-at-target-clause-bytes g c =
    c.loop-i.invariant.laid
    ∙ (laid-filled (g.V.IoVecBuf.parts c.args.parts.now) c.loop-i.i c.args.target.now
    (laid-up-to (concat (take c.loop-i.i (g.V.IoVecBuf.parts c.args.parts.now))) c.args.target.now c.loop-i.target c.loop-i.at
    c.loop-i.invariant.laid c.loop-i.invariant.at c.if-at-target.true)).0

pub loop-i-preserved : goal.loop-i-preserved
loop-i-preserved g c =
    let parts = g.V.IoVecBuf.parts c.args.parts.now in
    let before = concat (take c.loop-i.i parts) in
    let next_part = slice_index_or parts c.loop-i.i [] in
    let count = c.parts_len-i-end.ensures in
    let there : c.loop-i.i < length parts = omega (arith, count) in
    let next : c.loop-i.i + 1 ≡ suc c.loop-i.i = omega arith in
    let more = ap (λ i. concat (take i parts)) next ∙ joined-more parts c.loop-i.i there in
    let behind = mid_of c.loop-i.at (length c.loop-i.target - c.loop-i.at) c.loop-i.target in
    record {
      laid = laid-next before next_part c.args.target.now c.loop-i.target c.copy_first-at.new.target c.loop-i.at c.loop-i.invariant.laid
          c.loop-i.invariant.at (c.copy_first-at.ensures.bytes ∙ ap (λ part. laid_over part behind) c.part.ensures)
          ∙ ap (λ bytes. laid_over bytes c.args.target.now) (sym more);
      at = laid-count before next_part c.args.target.now c.loop-i.target c.loop-i.at c.copy_first-at.result c.loop-i.invariant.laid
          c.loop-i.invariant.at (c.copy_first-at.ensures.count ∙ ap (λ part. min (length behind) (length part)) c.part.ensures)
          ∙ ap (λ bytes. min (length c.args.target.now) (length bytes)) (sym more);
    }
