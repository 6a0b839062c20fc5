use Rattle.std.proofs.Common.{arith, ◌≡◌, ◌<◌, ◌+◌, ◌++◌, [], ◌∙◌, ap, sym, suc, length}
use Rattle.std.specs.Prelude.{take, slice_index_or}
use Rattle.std.specs.List.{concat}
use Rattle.std.proofs.lemmas.List.{length-take, append_assoc}
use Rattle.machine.proofs.Joined.{joined-more, length-joined-more, take-joined, take-first-joined}
use Rattle.machine.proofs.payloads.append_first_parts.Goals as goal

pub loop-i-preserved : goal.loop-i-preserved
loop-i-preserved g c =
    let parts = g.V.IoVecBuf.parts c.args.parts.now in
    let before = concat (take c.loop-i.i parts) in
    let next_part = slice_index_or parts c.loop-i.i [] in
    let count = c.parts_len-i-end.ensures in
    let there : c.loop-i.i < length parts = omega (arith, count) in
    let next : c.loop-i.i + 1 ≡ suc c.loop-i.i = omega arith in
    let more : concat (take (c.loop-i.i + 1) parts) ≡ before ++ next_part = ap (λ i. concat (take i parts)) next
    ∙ joined-more parts c.loop-i.i there in
    let longer = ap (λ i. length (concat (take i parts))) next ∙ length-joined-more parts c.loop-i.i there in
    let left = c.loop-i.invariant.left in
    let piece = c.first-piece.ensures ∙ ap (take c.loop-i.left) c.part.ensures ∙ ap (λ n. take n next_part) left in
    let cut = ap length c.first-piece.ensures ∙ length-take c.loop-i.left c.part.result.now in
    let part = ap length c.part.ensures in
    record {
      joined = c.in-Ok.ensures.ok ∙ ap (λ xs. xs ++ c.first-piece.result.now) c.loop-i.invariant.joined
          ∙ append_assoc c.args.list.now (take c.args.count before) c.first-piece.result.now
          ∙ ap (λ ys. c.args.list.now ++ (take c.args.count before ++ ys)) piece
          ∙ ap (λ ys. c.args.list.now ++ ys) (sym (take-joined c.args.count before next_part))
          ∙ ap (λ ys. c.args.list.now ++ take c.args.count ys) (sym more);
      left = omega (arith, longer, left, cut, part);
      before = c.loop-i.invariant.before;
    }

pub returns-then-left-eq0-clause-ok : goal.returns-then-left-eq0-clause-ok
returns-then-left-eq0-clause-ok g c =
    let parts = g.V.IoVecBuf.parts c.args.parts.now in
    let left = c.loop-i.invariant.left in
    let none = c.if-left-eq0.true in
    c.loop-i.invariant.joined
    ∙ ap (λ ys. c.args.list.now ++ ys) (take-first-joined c.args.count parts c.loop-i.i (omega (arith, left, none)))
