-- What a write of some of the bytes leaves to be written.
use Rattle.std.proofs.Common.{◌≡◌, ◌∙◌, ℕ, ◌+◌, ◌-◌, ◌≤◌, ◌≢◌, List, ◌++◌, Bool, length, take, drop, sym, ap, subst, arith}
use Rattle.std.specs.Prelude.{IsTrue}
use Rattle.std.specs.List.{slice_range}
use Rattle.std.proofs.lemmas.List.{take_all, length-take, length-drop, take-append-drop, drop-drop}
use Rattle.rent_buf.specs.Slice.{Cut}
use Rattle.rent_io.specs.WriteAll.{Sending, SendsOn}

-- From a place on, a range to the end is all that is behind that place.
pub range-to_end : (xs : List ℕ) (from total : ℕ) → total ≡ length xs → slice_range xs from total ≡ drop from xs
range-to_end xs from total is =
    let rest = length-drop from xs in
    take_all (total - from) (drop from xs) (omega (arith, rest, is))

-- What a write of some of a slice's bytes did.
pub record SliceSent {T : Type 0} (content : T → List ℕ) (tells : Bool) (before now : List ℕ) (slice part : Cut T) (n : ℕ) : Type 0 where
  pub same : part ≡ slice
  pub within : n ≤ length (slice_range (content slice.inner) slice.begin slice.end)
  pub joined : IsTrue tells → now ≡ before ++ take n (slice_range (content slice.inner) slice.begin slice.end)

-- After a write of some but not all of the bytes from a place to the end of a buffer, those behind them are to be written.
pub slice_sends_on : {T : Type 0} (content : T → List ℕ) (tells : Bool) (before now : List ℕ) (s : Sending T) (buf back : T)
    (sent n total : ℕ) (slice part : Cut T)
    → record { buf = buf; rest = drop sent (content buf); total = length (content buf) } ≡ s
    → slice ≡ record { inner = buf; begin = sent; end = total } → SliceSent content tells before now slice part n
    → back ≡ part.inner → total ≡ length (content buf) → n ≢ 0 → sent + n ≢ total
    → SendsOn tells before now s (record { buf = back; rest = drop (sent + n) (content back); total = length (content back) })
slice_sends_on content tells before now s buf back sent n total slice part is cut sent_of inner end some short =
    let moved = subst (λ sl. SliceSent content tells before now sl part n) cut sent_of in
    let same = inner ∙ ap (λ p. p.inner) moved.same in
    let xs = content buf in
    let whole = range-to_end xs sent total end in
    let fits : n ≤ length (drop sent xs) = rw (← whole) moved.within in
    record {
      sent = take n (drop sent xs);
      some = omega (arith, length-take n (drop sent xs), fits, some);
      more = rw same (omega (arith, length-drop (sent + n) xs, length-drop sent xs, fits, short, end));
      cut = ap (λ x. x.rest) (sym is) ∙ sym (take-append-drop n (drop sent xs))
          ∙ ap (λ l. take n (drop sent xs) ++ l) (drop-drop n sent xs ∙ ap (λ b. drop (sent + n) (content b)) (sym same));
      same_buf = same ∙ ap (λ x. x.buf) is;
      same_total = ap (λ b. length (content b)) same ∙ ap (λ x. x.total) is;
      joined = λ t. moved.joined t ∙ ap (λ l. before ++ take n l) whole;
    }
