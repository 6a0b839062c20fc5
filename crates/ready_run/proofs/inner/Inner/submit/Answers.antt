use Rattle.std.proofs.Common.{Some, refl, sym, ◌∙◌, ap}
use Rattle.ready_run.proofs.Kept.{tokens-same}
use Rattle.ready_run.proofs.Steps.{answers-refused}
use Rattle.ready_run.proofs.Submitting.{cause-submit_unmade}
use Rattle.ready_run.proofs.inner.Inner.submit.Goals as goal

pub returns-in-Ok : goal.returns-in-Ok
returns-in-Ok c = λ D stands. c.submit_to.ensures D c.args.under stands (c.in-Ok.ensures.finds D stands)

pub returns-in-Err : goal.returns-in-Err
returns-in-Err c = λ D stands.
    let finds = c.in-Err.ensures.finds D stands in
    answers-refused c.args.self.now _ D _ _ stands (cause-submit_unmade D c.args.request c.args.under finds.1 ∙ ap Some (sym finds.0)) refl
    (tokens-same _)
