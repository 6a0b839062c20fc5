use Rattle.std.proofs.Common.{ap, length, ◌∙◌}
use Rattle.std.specs.Prelude.{min}
use Rattle.rent_buf.specs.Buffer.{shown}
use Rattle.rent_buf.proofs.Slices.{shown-to}
use Rattle.rent_buf.proofs.slice.SliceMutIoBuf.bytes.Goals as goal

pub returns : goal.returns
returns g c =
    let s = c.self.inside in
    let all-shown = c.bytes-all.ensures ∙ c.keeps_bounds.ensures.content in
    let lesser = c.min-end.ensures ∙ ap (λ l. min s.end (length l)) all-shown in
    rw all-shown (shown-to (g.T.IoBufMut.buffer s.buf) s.begin s.end c.min-end.result c.keeps_bounds.ensures.bounds c.self.invariant.1
    lesser ∙ ap (λ v. shown v.buffer) c.self.view_is)
