use Rattle.std.proofs.Common.{◌∙◌, arith, ap, take, drop}
use Rattle.pipe_job.specs.declared.course.TheConstants.{MOST_MOVED}
use Rattle.pipe_job.proofs.Bytes.{next_most}
use Rattle.pipe_job.proofs.course.Course.next.Goals.{then-is_sent, else-is_sent}
use Rattle.pipe_job.proofs.course.Course.next.Goals as goal

-- the next bytes are sent
pub returns-clause-sends : goal.returns-clause-sends
returns-clause-sends c = λ some. elim c.if-is_sent.branch [
  | then-is_sent w ↦ (let all = c.is_sent.ensures.0 w.if-is_sent.true in absurd (omega (arith, all, some)))
  | else-is_sent w ↦ (
      next_most c.as_slice-all.result.now c.if-is_sent.begin MOST_MOVED c.min.result c.min.ensures
      ∙ ap (λ b. take MOST_MOVED (drop b c.as_slice-all.result.now)) w.begin-is
      ∙ ap (λ bs. take MOST_MOVED (drop c.self.inside.sent bs)) c.as_slice-all.ensures
      ∙ ap (λ v. take MOST_MOVED (drop v.sent v.bytes)) c.self.view_is)
]
