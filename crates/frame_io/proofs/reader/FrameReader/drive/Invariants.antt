use Rattle.std.proofs.Common.{◌≡◌}
use Rattle.std.specs.Prelude.{IsTrue}
use Rattle.frame_io.specs.Decoder.{rest_of}
use Rattle.frame_io.specs.Frames.{behind}
use Rattle.frame_io.proofs.reader.FrameReader.drive.Given as goal

abbrev pub invariant-loop : goal.invariant-loop
invariant-loop g l = IsTrue g.R.AsyncReadRent.tells
    → behind l.messages.items (rest_of l.self.kept (g.R.AsyncReadRent.reader l.self.inner).left)
    ≡ behind l.initial.messages.items (rest_of l.initial.self.kept (g.R.AsyncReadRent.reader l.initial.self.inner).left)
