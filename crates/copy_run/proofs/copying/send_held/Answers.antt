use Rattle.std.proofs.Common.{◌∙◌, ◌++◌, [], append-nil, ap, arith, rules}
use Rattle.copy_run.specs.Pieces.{delivered_by}
use Rattle.copy_run.proofs.Pieces.{moved_joined, none_got}
use Rattle.copy_run.proofs.copying.send_held.Goals as goal

pub loop-next-preserved : goal.loop-next-preserved
loop-next-preserved g c =
    let m = c.in-Again.ensures.answer.moves in
    let old = c.loop-next.writer.writer in
    let d = delivered_by (g.K.ByteSink.taken old.inner.sink) old in
    let joined = moved_joined _ _ _ _ _ _ [] m (none_got _ _ _ _ _ m (search rules)) in
    record {
      joined = λ k. joined k ∙ ap (λ l. d ++ l) (append-nil c.loop-next.copy.held) ∙ c.loop-next.invariant.joined k;
      order = omega (arith, c.loop-next.invariant.order, c.run.ensures.counts.writer.faults_stay);
    }
