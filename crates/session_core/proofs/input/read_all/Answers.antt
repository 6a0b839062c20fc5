use Rattle.std.proofs.Common.{vec_len}
use Rattle.session_core.proofs.Reading.{unread-later}
use Rattle.session_core.proofs.input.read_all.Goals as goal

pub returns-in-Err-clause-why : goal.returns-in-Err-clause-why
returns-in-Err-clause-why g c = λ driver.
    unread-later driver g.S.ByteSource.tells c.loop-turn.text.items _ _ _ (vec_len c.loop-turn.text) _ _ _ c.in-Err.why
    c.loop-turn.text.ok.0 c.loop-turn.invariant.faults c.loop-turn.invariant.calm c.loop-turn.invariant.all c.in-Err.ensures.why
