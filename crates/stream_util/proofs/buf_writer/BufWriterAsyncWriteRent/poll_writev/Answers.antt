use Rattle.std.proofs.Common.{◌∙◌, ◌++◌, inl, refl, sym, ap, arith, length}
use Rattle.std.proofs.lemmas.List.{nil_from_length}
use Rattle.rent_io.proofs.FirstParts.{none_at_all, parts_within}
use Rattle.stream_util.proofs.Buffered.{first_behind}
use Rattle.stream_util.proofs.buf_writer.BufWriterAsyncWriteRent.poll_writev.Goals as goal

pub returns-in-Taken-clause-writes : goal.returns-in-Taken-clause-writes
returns-in-Taken-clause-writes g c =
    let parts = g.T.IoVecBuf.parts c.args.buf in
    let writer = g.W.AsyncWriteRent.writer in
    let first = c.first_part-part.result.now in
    let offers = c.in-Taken.ensures.offers in
    let is = c.first_part-part.ensures in (
      refl,
      parts_within parts (length first) (omega (arith, ap length is)),
      λ t. ap (λ w. (writer w.inner).delivered ++ c.offer.new.self.held) offers.1
          ∙ first_behind (writer c.args.self.now.inner).delivered c.args.self.now.held parts first c.offer.new.self.held is
          (ap (λ w. w.held) offers.1),
    )

pub returns-in-Taken-clause-none : goal.returns-in-Taken-clause-none
returns-in-Taken-clause-none g c = λ none.
    inl (ap length (none_at_all (g.T.IoVecBuf.parts c.args.buf)
    (sym c.first_part-part.ensures ∙ nil_from_length c.first_part-part.result.now none)))
