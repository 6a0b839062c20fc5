use Rattle.std.proofs.Common.{◌≡◌, ◌∙◌, ◌++◌, length, ap, subst, arith}
use Rattle.std.proofs.lemmas.Grind.{common_steps}
use Rattle.std.specs.Prelude.{◌&&◌}
use Rattle.rent_buf.specs.Parts.{parts_stored}
use Rattle.rent_io.specs.Reader.{Scattered}
use Rattle.stream_util.specs.PrefixedReadIo.{prefix_left}
use Rattle.stream_util.proofs.Prefixes.{scattered_prefix}
use Rattle.stream_util.proofs.prefixed_io.PrefixedReadIo.readv_prefix.Goals as goal

pub returns-else-count-eq0-clause-reads : goal.returns-else-count-eq0-clause-reads
returns-else-count-eq0-clause-reads g c =
    let i = c.self.inside in
    let left = g.P.ByteSource.left in
    let reader = g.I.AsyncReadRent.reader in
    let parts = g.T.IoVecBufMut.held c.args.buf in
    let back = g.T.IoVecBufMut.held c.store_front-in-Ok.new.self in
    let after = prefix_left i.finished (left c.read.new.self) ++ (reader i.io).left in
    let size : length c.read.new.room ≡ c.min.result = grind (arith, common_steps) in
    subst (λ s. Scattered (g.I.AsyncReadRent.tells && g.P.ByteSource.tells) (prefix_left s.finished (left s.prefix) ++ (reader s.io).left)
    after parts back c.in-Ok.count) c.self.view_is
    (scattered_prefix g.I.AsyncReadRent.tells g.P.ByteSource.tells i.finished (left i.prefix) (left c.read.new.self) (reader i.io).left
    c.read.new.room parts back c.min.result c.in-Ok.count c.if-self.false
    (omega (arith, c.min.ensures, c.first_room-total.ensures.room)) size (grind (arith, common_steps)) c.if-count-eq0.false
    (c.store_front-in-Ok.ensures ∙ ap (λ l. parts_stored parts l) c.split_at.ensures.front) (grind (arith, common_steps)))
