use Rattle.std.proofs.Common.{inr, subst, sym}
use Rattle.rent_io.specs.PartRoom.{PartTaken}
use Rattle.rent_io.specs.ReadVectoredExact.{AreFullBefore}
use Rattle.rent_io.proofs.Scatters.{ends_early, step_ends, step_goes_on, put_full}
use Rattle.rent_io.proofs.read_vectored_exact.VectoredExactStatePolled.poll_by.Goals as goal

pub returns-then-n-eq0-clause-answer : goal.returns-then-n-eq0-clause-answer
returns-then-n-eq0-clause-answer g c =
    let r = g.A.AsyncReadRent.reader in
    let a = c.in-Ready-Ok-default in
    let early = ends_early g.A.AsyncReadRent.tells (r c.args.io.now) (r c.read_part.new.io) c.args.self _ _ _ _ _ _ _ _ c.self.view_is
    c.in-Some.ensures (rw a.field-0-is at a.ensures.reads) c.if-n-eq0.true (rw a.field-0-is at a.ensures.none) in
    (early.0, inr early.1)

pub next_room-requires-in-Ready-Ok-default-clause-full : goal.next_room-requires-in-Ready-Ok-default-clause-full
next_room-requires-in-Ready-Ok-default-clause-full g c =
    let held = g.T.IoVecBufMut.held in
    let r = g.A.AsyncReadRent.reader in
    let a = c.in-Ready-Ok-default in
    let place = c.in-Some.place in
    let t : PartTaken g.A.AsyncReadRent.tells (r c.args.io.now).left (r c.read_part.new.io).left (held c.self.inside.buf) (held a.buf)
    place.0 place.1 a.n = rw a.field-0-is at a.ensures.reads in
    subst (λ l. AreFullBefore l place.0) (sym t.is_put) (put_full _ place.0 place.1 t.got c.in-Some.ensures.full)

pub returns-in-None-next_room-clause-answer : goal.returns-in-None-next_room-clause-answer
returns-in-None-next_room-clause-answer g c =
    let r = g.A.AsyncReadRent.reader in
    let a = c.in-Ready-Ok-default in
    step_ends g.A.AsyncReadRent.tells (r c.args.io.now) (r c.read_part.new.io) c.args.self _ _ _ _ _ _ _ _ c.self.view_is c.in-Some.ensures
    (rw a.field-0-is at a.ensures.reads) c.in-None-next_room.ensures

pub returns-in-Some-next_room-clause-answer : goal.returns-in-Some-next_room-clause-answer
returns-in-Some-next_room-clause-answer g c =
    let r = g.A.AsyncReadRent.reader in
    let a = c.in-Ready-Ok-default in
    let next = c.in-Some-next_room in
    inr (step_goes_on g.A.AsyncReadRent.tells (r c.args.io.now) (r c.read_part.new.io) c.args.self _ _ _ _ _ _ _ _ c.self.view_is
    c.in-Some.ensures (rw a.field-0-is at a.ensures.reads) next.part next.filled next.ensures c.if-n-eq0.false)
