use Rattle.std.proofs.Common.{refl, subst, ap, length, ◌+◌, ◌≤◌, ◌≡◌, ◌∙◌}
use Rattle.std.specs.List.{slice_range}
use Rattle.rent_buf.specs.Buffer.{shown}
use Rattle.rent_buf.specs.SliceMut.{Sliced, with_range}
use Rattle.rent_buf.proofs.Slices.{lent-part, lent-back}
use Rattle.rent_buf.proofs.slice.SliceMutLendBytes.range_mut.Goals as goal

pub returns : goal.returns
returns g c =
    let T = g.T.IoBufMut in let laws = g.met.T.LendBytes in let s = c.self.inside in let a = c.args in
    let back = λ (w : _).
    lent-back (T.buffer s.buf) _ (T.under s.buf) _ (T.beside s.buf) _ s.begin s.end a.begin w
    (laws.with_bytes_buffer s.buf (s.begin + a.begin) w) (laws.with_bytes_under s.buf (s.begin + a.begin) w)
    (laws.with_bytes_beside s.buf (s.begin + a.begin) w)
    ∙ ap (λ v. with_range v a.begin w) c.self.view_is in
    let LendsPart : Sliced → Type 0 = λ v. a.end ≤ length (shown v.buffer)
    → c.range_mut.result.now ≡ slice_range (shown v.buffer) a.begin a.end in
    let part = λ (inside : _). c.range_mut.ensures.value
    ∙ lent-part (T.buffer s.buf) s.begin s.end a.begin a.end c.keeps_bounds.ensures.bounds c.self.invariant.1 c.requires.ordered
    inside in
    ((refl, back), record { lends = tt; value = subst LendsPart c.self.view_is part c.requires.inside })
