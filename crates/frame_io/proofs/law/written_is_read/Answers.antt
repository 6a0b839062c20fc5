use Rattle.frame_io.proofs.Writing
use Rattle.frame_io.proofs.law.written_is_read.Goals as goal

pub returns : goal.returns
returns c = Writing.written_is_read
