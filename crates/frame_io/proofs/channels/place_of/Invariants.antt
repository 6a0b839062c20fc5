use Rattle.frame_io.proofs.Places.{Passes}
use Rattle.frame_io.proofs.channels.place_of.Given as goal

abbrev pub invariant-loop-i : goal.invariant-loop-i
invariant-loop-i l = Passes l.channel l.channels l.i
