-- What splices move.
use Rattle.std.proofs.Common.{◌≡◌, ◌∙◌, ℕ, ◌+◌, ◌-◌, ◌^◌, ◌<◌, ◌≤◌, ◌≢◌, List, [], ◌++◌, Bool, take, drop}
use Rattle.std.proofs.Common.{sym, ap, subst, arith, append-nil}
use Rattle.std.specs.List.{slice_range}
use Rattle.std.proofs.lemmas.List.{length-take, take-take, take-append-drop, drop-drop}
use Rattle.rent_buf.specs.Slice.{Cut}
use Rattle.rent_io.specs.Reader.{Reader}
use Rattle.rent_io.specs.Writer.{Writer}
use Rattle.rent_io.proofs.Sends.{SliceSent}
use Rattle.stream_util.specs.Copy.{Copying, MovesSome, count_more}
use Rattle.stream_util.specs.Splice.{SplicedIn, SplicedOut}

-- A write of a range of a pipe's memory from the pipe's start on: its first bytes leave the pipe.
pub spliced_out : {T : Type 0} (content : T → List ℕ) (tells : Bool) (before now pipe : List ℕ) (buf back : T) (start end len n : ℕ)
    (slice part : Cut T) → drop start (content buf) ≡ pipe → slice ≡ record { inner = buf; begin = start; end = end }
    → SliceSent content tells before now slice part n → back ≡ part.inner → end ≤ start + len
    → SplicedOut tells before now pipe (drop (start + n) (content back)) len n
spliced_out content tells before now pipe buf back start end len n slice part is cut sent_of inner most =
    let moved = subst (λ sl. SliceSent content tells before now sl part n) cut sent_of in
    let behind = drop start (content buf) in
    let range = slice_range (content buf) start end in
    let size = length-take (end - start) behind in
    let first : take n range ≡ take n behind = take-take n (end - start) behind (omega (arith, moved.within, size)) in
    record {
      sent = take n range;
      count = omega (arith, length-take n range, moved.within);
      within = omega (arith, moved.within, size, most);
      cut = sym is ∙ sym (take-append-drop n behind) ∙ ap (λ l. l ++ drop n behind) (sym first)
          ∙ ap (λ l. take n range ++ l) (drop-drop n start (content buf))
          ∙ ap (λ b. take n range ++ drop (start + n) (content b)) (sym (inner ∙ ap (λ p. p.inner) moved.same));
      delivered = moved.joined;
    }

-- A splice in of some bytes: the copy holds them too.
pub splice_fetched : (reads writes : Bool) (before now : Reader) (writer : Writer) (copy : Copying) (pipe later : List ℕ) (len n count : ℕ)
    → record { held = pipe; count = count } ≡ copy → count < 2 ^ 64 → n ≢ 0 → SplicedIn reads before.left now.left pipe later len n
    → MovesSome reads writes (record { reader = before; writer = writer }) (record { reader = now; writer = writer }) copy
    (record { held = later; count = count })
splice_fetched reads writes before now writer copy pipe later len n count is bounded some spliced = record {
  moves = record {
    got = spliced.got;
    sent = [];
    front = spliced.front;
    delivered = λ _. sym (append-nil writer.delivered);
    kept = ap (λ c. c.held ++ spliced.got) (sym is) ∙ sym spliced.joined;
    counted = omega (arith, bounded, ap (λ c. c.count) is);
  };
  some = omega (arith, spliced.count, some);
}

-- A splice out of some bytes: the copy delivered them.
pub splice_delivered : (reads writes : Bool) (reader : Reader) (before now : Writer) (copy : Copying) (pipe later : List ℕ)
    (len n count : ℕ) → record { held = pipe; count = count } ≡ copy → n ≢ 0
    → SplicedOut writes before.delivered now.delivered pipe later len n
    → MovesSome reads writes (record { reader = reader; writer = before }) (record { reader = reader; writer = now }) copy
    (record { held = later; count = count_more count n })
splice_delivered reads writes reader before now copy pipe later len n count is some spliced = record {
  moves = record {
    got = [];
    sent = spliced.sent;
    front = λ _. cc;
    delivered = spliced.delivered;
    kept = append-nil copy.held ∙ ap (λ c. c.held) (sym is) ∙ spliced.cut;
    counted = omega (arith, ap (λ c. c.count) is, spliced.count);
  };
  some = omega (arith, spliced.count, some);
}
