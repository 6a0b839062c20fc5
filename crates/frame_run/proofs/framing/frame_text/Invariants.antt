use Rattle.frame_run.proofs.framing.frame_text.Given as goal

-- Where the sink is as the call begins, and the text.
abbrev pub ghosts-frame_at : goal.ghosts-frame_at
ghosts-frame_at g a = record {
  sink = a.written.sink.ghost_name;
  text = a.text.now;
  taken = g.K.ByteSink.taken a.written.sink.now;
  write_faults = g.K.ByteSink.faults a.written.sink.now;
}
