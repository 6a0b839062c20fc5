use Rattle.machine.proofs.Written.{spliced, unspliced}
use Rattle.machine.proofs.world.splices.splice.Goals as goal

pub returns-in-Ok-clause-ok : goal.returns-in-Ok-clause-ok
returns-in-Ok-clause-ok c =
    spliced c.args.handles.now.items c.args.from c.args.to c.args.k c.index_mut.result.now c.index_mut-2.result.now
    c.index_mut-in-Ok.result.now _ _ c.replace-input.result c.first.result.now _
    c.requires.from c.requires.to c.requires.apart c.index_mut.ensures.value
    c.index_mut-2.ensures.value c.index_mut-in-Ok.ensures.value c.replace-input.ensures.value c.first.ensures c.in-Ok.ensures.ok
    c.consume.ensures

pub returns-in-Err-clause-err : goal.returns-in-Err-clause-err
returns-in-Err-clause-err c =
    unspliced c.args.handles.now.items c.args.from c.args.to c.index_mut.result.now c.index_mut-2.result.now c.index_mut-in-Err.result.now
    _ _ c.replace-input.result c.requires.from c.requires.to c.requires.apart c.index_mut.ensures.value
    c.index_mut-2.ensures.value c.index_mut-in-Err.ensures.value c.replace-input.ensures.value c.in-Err.ensures.err
