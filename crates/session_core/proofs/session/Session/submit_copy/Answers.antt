use Rattle.std.proofs.Common.{Some, refl, sym, ◌∙◌, ap}
use Rattle.ready_run.proofs.Kept.{tokens-same}
use Rattle.session_core.proofs.Steps.{answers-refused}
use Rattle.session_core.proofs.Submitting.{cause-submit_unmade}
use Rattle.session_core.proofs.session.Session.submit_copy.Goals as goal

pub returns-in-Ok : goal.returns-in-Ok
returns-in-Ok c = λ L stands. c.submit_copy_to.ensures L c.args.under stands (c.in-Ok.ensures.finds L stands)

pub returns-in-Err : goal.returns-in-Err
returns-in-Err c = λ L stands.
    let finds = c.in-Err.ensures.finds L stands in
    answers-refused c.args.self.now _ L _ _ stands
    (cause-submit_unmade L c.args.request.now c.args.under c.args.linked finds.1 ∙ ap Some (sym finds.0)) refl (tokens-same _)
