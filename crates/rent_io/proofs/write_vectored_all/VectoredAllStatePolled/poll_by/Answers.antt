use Rattle.std.proofs.Common.{inr}
use Rattle.rent_io.proofs.Rests.{placed_ends, placed_sends_on}
use Rattle.rent_io.proofs.write_vectored_all.VectoredAllStatePolled.poll_by.Goals as goal

pub returns-in-None-next_place-clause-answer : goal.returns-in-None-next_place-clause-answer
returns-in-None-next_place-clause-answer g c =
    let w = g.A.AsyncWriteRent.writer in
    let a = c.in-Ready-Ok-default in
    let writes = rw a.field-0-is at a.ensures.writes in (
      placed_ends g.T.IoVecBuf.parts g.A.AsyncWriteRent.tells (w c.args.io.now).delivered (w c.write.new.io).delivered c.args.self
          _ _ _ _ _ _ _ _ _ _ _ c.self.view_is c.in-Some.ensures c.new.ensures
          (record { same = writes.0; within = writes.1; joined = writes.2 }) c.into_inner-buf.ensures c.place_behind-upto.ensures.place
          c.in-None-next_place.ensures,
      c.write.ensures.ends,
    )

pub returns-in-Some-next_place-clause-answer : goal.returns-in-Some-next_place-clause-answer
returns-in-Some-next_place-clause-answer g c =
    let w = g.A.AsyncWriteRent.writer in
    let a = c.in-Ready-Ok-default in
    let next = c.in-Some-next_place in
    let writes = rw a.field-0-is at a.ensures.writes in (
      inr (placed_sends_on g.T.IoVecBuf.parts g.A.AsyncWriteRent.tells (w c.args.io.now).delivered (w c.write.new.io).delivered c.args.self
          _ _ _ _ _ _ _ _ _ _ _ c.self.view_is c.in-Some.ensures c.new.ensures
          (record { same = writes.0; within = writes.1; joined = writes.2 }) c.into_inner-buf.ensures c.place_behind-upto.ensures.place
          next.part next.sent next.ensures c.if-n-eq0.false),
      c.write.ensures.ends,
    )
