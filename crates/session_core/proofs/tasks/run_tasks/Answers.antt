use Rattle.std.proofs.Common.{refl, subst, sym}
use Rattle.session_core.specs.DriverKind.{completion}
use Rattle.session_core.specs.Ends.{reading, writing}
use Rattle.session_core.specs.Tasking.{TasksStop}
use Rattle.session_core.proofs.Tasking.{tasks_short, tasks_unnamed, tasks_unread}
use Rattle.session_core.proofs.tasks.run_tasks.Goals as goal

pub returns-in-Err-clause-ends : goal.returns-in-Err-clause-ends
returns-in-Err-clause-ends g c =
    tasks_unread completion g.S.ByteSource.tells g.K.ByteSink.tells _ _ c.in-Err.why _ (c.in-Err.ensures.why completion) c.refuse.ensures

pub returns-in-Err-clause-stops : goal.returns-in-Err-clause-stops
returns-in-Err-clause-stops g c =
    let source = reading g.S.ByteSource.left g.S.ByteSource.faults c.args.source.now c.read_all.new.source in
    let sink = writing g.K.ByteSink.taken g.K.ByteSink.faults g.K.ByteSink.is_flushed c.args.sink.now c.refuse.new.sink in
    subst (λ stop. TasksStop g.S.ByteSource.tells source stop c.refuse.result) (sym c.requires)
    (tasks_unnamed completion g.S.ByteSource.tells g.K.ByteSink.tells source sink c.in-Err.why c.refuse.result
    (c.in-Err.ensures.why completion) c.refuse.ensures)

pub returns-in-Ok-run_text-clause-ends : goal.returns-in-Ok-run_text-clause-ends
returns-in-Ok-run_text-clause-ends g c = c.write_tasks.ensures.ends g.S.ByteSource.tells _ c.in-Ok.ensures.read

pub returns-in-Ok-run_text-clause-stops : goal.returns-in-Ok-run_text-clause-stops
returns-in-Ok-run_text-clause-stops g c =
    c.write_tasks.ensures.stops g.S.ByteSource.tells
    (reading g.S.ByteSource.left g.S.ByteSource.faults c.args.source.now c.read_all.new.source) c.in-Ok.ensures.read

pub returns-in-Err-run_text-clause-ends : goal.returns-in-Err-run_text-clause-ends
returns-in-Err-run_text-clause-ends g c =
    tasks_short g.S.ByteSource.tells g.K.ByteSink.tells _ _ c.in-Ok.text.items c.in-Ok.ensures.read c.in-Ok.ensures.calm refl refl
