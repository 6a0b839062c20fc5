use Rattle.std.proofs.Common.{sym, ◌∙◌, ap, Err}
use Rattle.machine.specs.Surroundings.{around}
use Rattle.machine.specs.Attempt.{attempt}
use Rattle.machine.proofs.Called.{ran-called, ran-around, ran-out}
use Rattle.machine.proofs.world.World.call.Goals as goal

pub returns-in-Ok-clause-calls : goal.returns-in-Ok-clause-calls
returns-in-Ok-clause-calls g c =
    ran-called g.B.IoBufMut.buffer (around g.B.IoBufMut.under g.B.IoBufMut.beside) c.args.self.now c.args.request.now c.in-Some.told
    (ap (attempt c.args.self.now) (sym c.call-call.ensures) ∙ sym c.in-Some.ensures.attempt) c.call-call.result c.call-call.ensures _ _ _ _
    c.in-Ok.ensures.runs

pub returns-in-Ok-clause-surroundings : goal.returns-in-Ok-clause-surroundings
returns-in-Ok-clause-surroundings g c =
    ran-around g.B.IoBufMut.buffer (around g.B.IoBufMut.under g.B.IoBufMut.beside) c.args.self.now c.args.request.now c.in-Some.told
    (ap (attempt c.args.self.now) (sym c.call-call.ensures) ∙ sym c.in-Some.ensures.attempt) c.call-call.result c.call-call.ensures _ _ _ _
    c.in-Ok.ensures.runs

pub returns-in-Err-OutOfMemory-clause-calls : goal.returns-in-Err-OutOfMemory-clause-calls
returns-in-Err-OutOfMemory-clause-calls g c =
    ran-out g.B.IoBufMut.buffer (around g.B.IoBufMut.under g.B.IoBufMut.beside) c.args.self.now c.args.request.now c.in-Some.told
    (ap (attempt c.args.self.now) (sym c.call-call.ensures) ∙ sym c.in-Some.ensures.attempt) c.call-call.result c.call-call.ensures _ _ _
    c.execute.result (c.in-Err-OutOfMemory.is ∙ ap Err c.in-Err-OutOfMemory.field-0-is) c.execute.ensures.runs
