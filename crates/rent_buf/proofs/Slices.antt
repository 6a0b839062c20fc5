-- Ranges of ranges: what a slice shows and lends, by the buffer that it was cut from.
use Rattle.std.proofs.Common.{◌≡◌, ◌+◌, ◌-◌, ◌≤◌, ℕ, List, length, drop, take, arith, ap, sym, ◌∙◌, subst, add_assoc, length-drop}
use Rattle.std.specs.Prelude.{min}
use Rattle.std.specs.List.{slice_range}
use Rattle.std.proofs.lemmas.List.{take-take, take_min, drop-drop, drop-take, length-take}
use Rattle.rent_buf.specs.Buffer.{Buffer, BufferBounds, IsRange, shown, sub, overwritten}
use Rattle.rent_buf.specs.Parts.{Parts}
use Rattle.rent_buf.specs.SliceMut.{sliced, with_range}

-- a range of a range is a range
narrowed : (xs : List ℕ) (b e f u : ℕ) → f ≤ u → b + u ≤ e → drop (b + f) (take (b + u) xs) ≡ take (u - f) (drop f (drop b (take e xs)))
narrowed xs b e f u ordered inside =
    let wide : e ≡ (b + f) + (e - (b + f)) = omega arith in
    let thin : b + u ≡ (b + f) + (u - f) = omega arith in
    let less : u - f ≤ e - (b + f) = omega arith in
    ap (λ n. drop (b + f) (take n xs)) thin ∙ drop-take (b + f) (u - f) xs
    ∙ sym (ap (take (u - f)) (drop-drop f b (take e xs) ∙ ap (λ n. drop (b + f) (take n xs)) wide ∙ drop-take (b + f) (e - (b + f)) xs)
    ∙ take-take (u - f) (e - (b + f)) (drop (b + f) xs) less)

-- a range of a buffer shows that part of what the buffer shows
pub shown-sub : (b : Buffer) (from upto : ℕ) → BufferBounds b → IsRange b from upto
    → shown (sub b from upto) ≡ take (upto - from) (drop from (shown b))
shown-sub b from upto bounds range =
    let in_order = bounds.ordered in let ends = range.ends in
    narrowed b.bytes b.begin b.end from upto range.ordered (omega arith)

-- what a slice shows: from its begin to the lesser of its end and the number of bytes that the buffer shows
pub shown-to : (b : Buffer) (from upto last : ℕ) → BufferBounds b → IsRange b from upto → last ≡ min upto (length (shown b))
    → take (last - from) (drop from (shown b)) ≡ shown (sub b from upto)
shown-to b from upto last bounds range lesser =
    let starts = range.starts in let left = length-drop from (shown b) in
    let cut : last - from ≡ min (upto - from) (length (drop from (shown b))) = omega arith in
    ap (λ n. take n (drop from (shown b))) cut ∙ take_min (upto - from) (drop from (shown b)) ∙ sym (shown-sub b from upto bounds range)

-- a part of a part is a part
parted : (ys : List ℕ) (k from begin end : ℕ) → begin ≤ end → end ≤ k
    → slice_range ys (from + begin) (from + end) ≡ slice_range (take k (drop from ys)) begin end
parted ys k from begin end ordered inside =
    let wide : k ≡ begin + (k - begin) = omega arith in
    let same : (from + end) - (from + begin) ≡ end - begin = omega arith in
    let less : end - begin ≤ k - begin = omega arith in
    ap (λ n. take n (drop (from + begin) ys)) same
    ∙ sym (ap (take (end - begin)) (ap (λ n. drop begin (take n (drop from ys))) wide ∙ drop-take begin (k - begin) (drop from ys))
    ∙ take-take (end - begin) (k - begin) (drop begin (drop from ys)) less ∙ ap (take (end - begin)) (drop-drop begin from ys))

-- what a slice lends is that part of what the buffer lends
pub lent-part : (b : Buffer) (from upto begin end : ℕ) → BufferBounds b → IsRange b from upto → begin ≤ end
    → end ≤ length (shown (sub b from upto))
    → slice_range (shown b) (from + begin) (from + end) ≡ slice_range (shown (sub b from upto)) begin end
lent-part b from upto begin end bounds range ordered inside =
    let part = shown-sub b from upto bounds range in
    let short : length (take (upto - from) (drop from (shown b))) ≤ upto - from = omega
    (arith, length-take (upto - from) (drop from (shown b))) in
    let in_part : end ≤ length (take (upto - from) (drop from (shown b))) = subst (λ (l : List ℕ). end ≤ length l) part inside in
    parted (shown b) (upto - from) from begin end ordered (omega arith) ∙ ap (λ (l : List ℕ). slice_range l begin end) (sym part)

-- a write through the buffer is a write through the slice
pub lent-back : (b b' : Buffer) (u u' : List (ℕ × ℕ)) (n n' : Parts) (from upto at : ℕ) (w : List ℕ)
    → b' ≡ overwritten b (b.begin + (from + at)) w → u' ≡ u → n' ≡ n
    → sliced b' u' n' from upto ≡ with_range (sliced b u n from upto) at w
lent-back b b' u u' n n' from upto at w bytes ranges parts =
    ap (λ (c : Buffer). sliced c u' n' from upto) bytes
    ∙ ap (λ (r : List (ℕ × ℕ)). sliced (overwritten b (b.begin + (from + at)) w) r n' from upto) ranges
    ∙ ap (λ (m : Parts). sliced (overwritten b (b.begin + (from + at)) w) u m from upto) parts
    ∙ ap (λ (k : ℕ). sliced (overwritten b k w) u n from upto) (sym (add_assoc b.begin from at))
