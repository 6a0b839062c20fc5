use Rattle.std.proofs.Common.{◌≤◌, length}
use Rattle.rent_io.specs.Writer.{EndsStay}
use Rattle.stream_util.specs.declared.copy.TheConstants.{MOST_HELD}
use Rattle.stream_util.proofs.Copies.{Ran}
use Rattle.stream_util.proofs.copy.Copy.run.Given as goal

-- What the polls so far moved, and how much is held.
abbrev pub invariant-loop : goal.invariant-loop
invariant-loop g l =
    let reader = g.R.AsyncReadRent.reader in
    let writer = g.W.AsyncWriteRent.writer in
    Ran l.counter g.R.AsyncReadRent.tells g.W.AsyncWriteRent.tells
    (record { reader = reader l.initial.reader; writer = writer l.initial.writer })
    (record { reader = reader l.reader; writer = writer l.writer }) l.initial.copy l.copy
    × EndsStay (writer l.initial.writer) (writer l.writer)
    × (length l.copy.held ≤ MOST_HELD)
