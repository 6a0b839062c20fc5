use Rattle.std.proofs.Common.{vec_len}
use Rattle.frame_run.proofs.Sendings.{unread_later}
use Rattle.frame_run.proofs.text.read_text.Goals as goal

pub returns-in-Err-clause-why : goal.returns-in-Err-clause-why
returns-in-Err-clause-why g c =
    unread_later g.S.ByteSource.tells c.args.most (vec_len c.loop.text) c.loop.text.items _ _ _ _ _ _ c.in-Err.why c.loop.text.ok.0
    c.loop.invariant.1.order c.loop.invariant.1.calm c.loop.invariant.1.all c.in-Err.ensures.why
