-- What a stream with a buffer ends as, where the stream inside was lent.
use Rattle.std.specs.Borrow.{Lends, Fml, RattleType, MutBor}
use Rattle.stream_util.specs.BufReader.{Reading}
use Rattle.stream_util.specs.BufWriter.{Writing}
use Rattle.stream_util.specs.contracts.buf_reader.BufReader.{the_row as reader_row}
use Rattle.stream_util.specs.contracts.buf_writer.BufWriter.{the_row as writer_row}

-- Once the borrow ends, the reader has the stream inside that was left there, and all else of it is as it was.
abbrev pub LendsReader : (T : RattleType) → MutBor (Reading T.Denot) → MutBor T.Denot → Fml
LendsReader T s r = Lends (reader_row T) T s r (λ inner. record s.now { inner = inner })

-- The same of a writer.
abbrev pub LendsWriter : (T : RattleType) → MutBor (Writing T.Denot) → MutBor T.Denot → Fml
LendsWriter T s r = Lends (writer_row T) T s r (λ inner. record s.now { inner = inner })
