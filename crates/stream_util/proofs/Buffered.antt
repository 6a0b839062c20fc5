-- Bytes of a buffer from a place on.
use Rattle.std.proofs.Common.{◌≡◌, ◌∙◌, ℕ, ◌+◌, ◌≤◌, List, ◌++◌, Bool, length, take, drop, sym, ap, subst, arith, append_assoc}
use Rattle.std.proofs.Common.{append-nil, zero, suc}
use Rattle.std.proofs.Math.Seq.{take-length}
use Rattle.std.specs.List.{concat, slice_range}
use Rattle.rent_buf.specs.Slice.{Cut}
use Rattle.rent_io.specs.Writer.{Writer, first_part}
use Rattle.rent_io.proofs.FirstParts.{parts_written}
use Rattle.rent_io.proofs.Rests.{drop-first}
use Rattle.rent_io.proofs.Sends.{SliceSent}
use Rattle.stream_util.specs.BufWriter.{Pushes}
use Rattle.stream_util.proofs.Copies.{range_cut}

-- Bytes that are added at the end come behind those from a place on.
pub added_behind : (xs ys held : List ℕ) (from : ℕ) → from ≤ length xs → drop from xs ≡ held → drop from (xs ++ ys) ≡ held ++ ys
added_behind xs ys held from within is = drop-first xs ys from within ∙ ap (λ l. l ++ ys) is

-- A write of the bytes of a buffer from a place on: those that it took were the first of them.
pub pushed : {T : Type 0} (content : T → List ℕ) (tells : Bool) (before now : Writer) (held : List ℕ) (buf back : T) (sent n total : ℕ)
    (slice part : Cut T) → drop sent (content buf) ≡ held → slice ≡ record { inner = buf; begin = sent; end = total }
    → SliceSent content tells before.delivered now.delivered slice part n → back ≡ part.inner → total ≡ length (content buf)
    → Pushes tells before now held (drop (sent + n) (content back))
pushed content tells before now held buf back sent n total slice part is cut sent_of inner end =
    let moved = subst (λ sl. SliceSent content tells before.delivered now.delivered sl part n) cut sent_of in
    let range = slice_range (content buf) sent total in
    record {
      sent = take n range;
      cut = sym is ∙ sym (range_cut (content buf) sent total n end)
          ∙ ap (λ b. take n range ++ drop (sent + n) (content b)) (sym (inner ∙ ap (λ p. p.inner) moved.same));
      delivered = moved.joined;
    }

-- The bytes of the first part that has any, joined behind others, are the first of those of all parts there.
pub first_behind : (d held : List ℕ) (parts : List (List ℕ)) (first now : List ℕ) → first ≡ first_part parts → now ≡ held ++ first
    → d ++ now ≡ d ++ held ++ take (length first) (concat parts)
first_behind d held parts first now is same =
    parts_written (d ++ held) (d ++ now) parts (length first) (omega (arith, ap length is))
    (ap (λ l. d ++ l) same ∙ sym (append_assoc d held first) ∙ ap (λ l. d ++ held ++ l) (sym (take-length first)
    ∙ ap (λ l. take (length first) l) is))

-- The first none of some bytes, joined behind others, are these.
pub nothing_taken : (before now bytes : List ℕ) (n : ℕ) → n ≡ 0 → now ≡ before ++ take n bytes → now ≡ before
nothing_taken before now bytes zero none is = is ∙ append-nil before
nothing_taken before now bytes (suc n) none is = absurd (omega (arith, none))
