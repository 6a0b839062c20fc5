use Rattle.frame_io.proofs.Turns
use Rattle.frame_io.proofs.law.turns_are_read.Goals as goal

pub returns : goal.returns
returns c = Turns.turns_are_read
