use Rattle.std.proofs.Common.{◌≡◌, ◌∙◌, ◌+◌, ◌++◌, length, ap, subst, arith}
use Rattle.std.proofs.lemmas.Grind.{common_steps}
use Rattle.std.specs.Prelude.{◌&&◌}
use Rattle.rent_buf.specs.Buffer.{put}
use Rattle.rent_io.specs.Reader.{Taken}
use Rattle.stream_util.specs.PrefixedReadIo.{prefix_left}
use Rattle.stream_util.proofs.Prefixes.{taken_prefix}
use Rattle.stream_util.proofs.prefixed_io.PrefixedReadIo.read_prefix.Goals as goal

pub returns-else-count-eq0-clause-reads : goal.returns-else-count-eq0-clause-reads
returns-else-count-eq0-clause-reads g c =
    let i = c.self.inside in
    let left = g.P.ByteSource.left in
    let reader = g.I.AsyncReadRent.reader in
    let b = g.T.IoBufMut.buffer c.args.buf in
    let back = g.T.IoBufMut.buffer c.store-in-Ok.new.self in
    let after = prefix_left i.finished (left c.read.new.self) ++ (reader i.io).left in
    let size : length c.read.new.room ≡ c.min.result = grind (arith, common_steps) in (
      subst (λ s. Taken (g.I.AsyncReadRent.tells && g.P.ByteSource.tells) (prefix_left s.finished (left s.prefix) ++ (reader s.io).left)
          after b back c.in-Ok.count) c.self.view_is
          (taken_prefix g.I.AsyncReadRent.tells g.P.ByteSource.tells i.finished (left i.prefix) (left c.read.new.self) (reader i.io).left
          c.read.new.room b back c.min.result c.in-Ok.count c.if-self.false
          (omega (arith, c.min.ensures, c.bytes_total-total.ensures.total)) size (grind (arith, common_steps)) c.if-count-eq0.false
          (c.store-in-Ok.ensures.put ∙ ap (λ l. put b (b.begin + 0) l) c.split_at.ensures.front) (grind (arith, common_steps))),
      c.store-in-Ok.ensures.under,
      c.store-in-Ok.ensures.beside,
    )
