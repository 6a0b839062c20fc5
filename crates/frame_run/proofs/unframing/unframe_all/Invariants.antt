use Rattle.frame_run.proofs.unframing.unframe_all.Given as goal

-- Where the source and the sink are as the call begins.
abbrev pub ghosts-unframe_at : goal.ghosts-unframe_at
ghosts-unframe_at g a = record {
  source = a.ended.source.ghost_name;
  most = a.most;
  left = g.S.ByteSource.left a.ended.source.now;
  taken = g.K.ByteSink.taken a.sink.now;
  read_faults = g.S.ByteSource.faults a.ended.source.now;
  write_faults = g.K.ByteSink.faults a.sink.now;
}
