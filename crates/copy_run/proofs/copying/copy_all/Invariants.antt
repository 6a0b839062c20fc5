use Rattle.copy_run.proofs.copying.copy_all.Given as goal

-- Where the source and the sink are as the copy begins.
abbrev pub ghosts-copy_at : goal.ghosts-copy_at
ghosts-copy_at g a = record {
  source = a.ends.source.ghost_name;
  sink = a.ends.sink.ghost_name;
  most = a.most;
  prefix = a.prefix;
  left = g.S.ByteSource.left a.ends.source.now;
  taken = g.K.ByteSink.taken a.ends.sink.now;
  read_faults = g.S.ByteSource.faults a.ends.source.now;
  write_faults = g.K.ByteSink.faults a.ends.sink.now;
}
