use Rattle.frame_io.proofs.number.+number_under.Given as goal

abbrev pub decreases-number_under : goal.decreases-number_under
decreases-number_under l = l.limit
