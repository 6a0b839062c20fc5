use Rattle.std.proofs.Common.{◌≡◌, ◌≤◌, ◌++◌}
use Rattle.std.specs.VecDeque.{deque_len}
use Rattle.frame_io.specs.Written.{pieces_of_all}
use Rattle.frame_io.proofs.writer.FrameWriter.buffer_all.Given as goal

-- What is buffered and the pieces of the messages that are left are the same bytes, joined.
abbrev pub invariant-loop-message : goal.invariant-loop-message
invariant-loop-message g l = record {
  joined : l.self.held ++ pieces_of_all l.messages.items ≡ l.initial.self.held ++ pieces_of_all l.initial.messages.items;
  inner : l.self.inner ≡ l.initial.self.inner;
  moved : l.self.moved ≡ l.initial.self.moved;
  stays : l.initial.self.refused ≤ l.self.refused;
}

abbrev pub decreases-loop-message : goal.decreases-loop-message
decreases-loop-message g l = deque_len l.messages
