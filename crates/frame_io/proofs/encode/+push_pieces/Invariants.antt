use Rattle.std.proofs.Common.{length}
use Rattle.frame_io.proofs.encode.+push_pieces.Given as goal

abbrev pub decreases-push_pieces : goal.decreases-push_pieces
decreases-push_pieces l = length l.bytes.now
