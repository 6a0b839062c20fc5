use Rattle.std.proofs.Common.{◌≡◌, ◌≤◌, []}
use Rattle.std.specs.Prelude.{IsTrue}
use Rattle.frame_io.specs.FrameWriter.{sink_over}
use Rattle.frame_io.specs.Written.{sent_with}
use Rattle.frame_io.proofs.writer.FrameWriter.drive.Given as goal

-- No message is left, and what was delivered and is buffered is the same bytes, joined.
abbrev pub invariant-loop : goal.invariant-loop
invariant-loop g l =
    let writer = g.W.AsyncWriteRent.writer in
    record {
      run : IsTrue g.W.AsyncWriteRent.tells → sent_with (writer l.self.inner).delivered l.self.held l.messages.items
          ≡ sent_with (writer l.initial.self.inner).delivered l.initial.self.held l.initial.messages.items;
      none : l.messages.items ≡ [];
      faults : (sink_over (writer l.initial.self.inner) l.initial.self).counts.faults
          ≤ (sink_over (writer l.self.inner) l.self).counts.faults;
      flushes : (writer l.self.inner).flushes ≡ (writer l.initial.self.inner).flushes;
    }
