-- The bytes of parts from a place on.
use Rattle.std.proofs.Common.{◌≡◌, ◌∙◌, ℕ, zero, suc, ◌+◌, ◌<◌, ◌≤◌, ◌≢◌, List, [], ◌∷◌, ◌++◌, length, take, drop, Bool, refl}
use Rattle.std.proofs.Common.{sym, ap, subst, arith, add-one, append_assoc, append-nil, length-append}
use Rattle.std.specs.Prelude.{slice_index_or, IsTrue}
use Rattle.std.specs.List.{concat}
use Rattle.std.proofs.Math.Seq.{drop-cons}
use Rattle.std.proofs.Math.ListN.{drop_of_length-le}
use Rattle.std.proofs.lemmas.List.{length-take, length-drop, take-append-drop, drop-drop}
use Rattle.rent_io.specs.WriteAll.{Sending, SendsOn}
use Rattle.rent_io.specs.WriteVectoredAll.{rest_from, IsPlace, PartCut}

-- The first bytes of two joined lists are dropped from the first.
pub drop-first : (xs ys : List ℕ) (n : ℕ) → n ≤ length xs → drop n (xs ++ ys) ≡ drop n xs ++ ys
drop-first xs ys zero within = refl
drop-first [] ys (suc n) within = absurd (omega arith)
drop-first (x ∷ xs) ys (suc n) within = drop-first xs ys n (omega arith)

-- The bytes from a place of a part on are the rest of that part, and then the parts behind it.
rest-split : (parts : List (List ℕ)) (k sent : ℕ) → k < length parts → sent ≤ length (slice_index_or parts k [])
    → rest_from parts k sent ≡ drop sent (slice_index_or parts k []) ++ concat (drop (k + 1) parts)
rest-split parts k sent there within =
    let here : drop k parts ≡ slice_index_or parts k [] ∷ drop (k + 1) parts = rw add-one (drop-cons parts k [] there) in
    ap (λ l. drop sent (concat l)) here ∙ drop-first (slice_index_or parts k []) (concat (drop (k + 1) parts)) sent within

-- A part that is written whole is passed over.
pub rest_passed : (parts : List (List ℕ)) (k sent : ℕ) → k < length parts → sent ≤ length (slice_index_or parts k [])
    → length (slice_index_or parts k []) ≤ sent → rest_from parts (k + 1) 0 ≡ rest_from parts k sent
rest_passed parts k sent there within whole =
    sym (rest-split parts k sent there within ∙ ap (λ l. l ++ concat (drop (k + 1) parts))
    (drop_of_length-le (slice_index_or parts k []) whole))

-- Behind all parts there are no bytes.
pub rest_none : (parts : List (List ℕ)) (k sent : ℕ) → length parts ≤ k → rest_from parts k sent ≡ []
rest_none parts k sent behind = ap (λ l. drop sent (concat l)) (drop_of_length-le parts behind) ∙ drop_of_length-le [] (omega arith)

-- The bytes from a place on are the next ones of that part, and those behind them.
rest-cut : (parts : List (List ℕ)) (k sent n : ℕ) → k < length parts → sent + n ≤ length (slice_index_or parts k [])
    → rest_from parts k sent ≡ take n (drop sent (slice_index_or parts k [])) ++ rest_from parts k (sent + n)
rest-cut parts k sent n there within =
    let part = slice_index_or parts k [] in
    let behind = concat (drop (k + 1) parts) in
    rest-split parts k sent there (omega arith)
    ∙ ap (λ l. l ++ behind) (sym (take-append-drop n (drop sent part)) ∙ ap (λ l. take n (drop sent part) ++ l) (drop-drop n sent part))
    ∙ append_assoc (take n (drop sent part)) (drop (sent + n) part) behind
    ∙ ap (λ l. take n (drop sent part) ++ l) (sym (rest-split parts k (sent + n) there within))

-- Where a place has a byte, there are bytes from it on.
rest-some : (parts : List (List ℕ)) (k sent : ℕ) → k < length parts → sent < length (slice_index_or parts k [])
    → 0 < length (rest_from parts k sent)
rest-some parts k sent there less =
    let part = slice_index_or parts k [] in
    let split = ap length (rest-split parts k sent there (omega arith)) in
    omega (arith, split, length-append (drop sent part) (concat (drop (k + 1) parts)), length-drop sent part)

-- What a write of some of a part's bytes did.
pub record PartSent {T : Type 0} (parts : T → List (List ℕ)) (tells : Bool) (before now : List ℕ) (cut back : PartCut T) (n : ℕ) : Type 0
  where
    pub same : back ≡ cut
    pub within : n ≤ length (drop cut.begin (slice_index_or (parts cut.inner) cut.part []))
    pub joined : IsTrue tells → now ≡ before ++ take n (drop cut.begin (slice_index_or (parts cut.inner) cut.part []))

module _ {T : Type 0} (parts : T → List (List ℕ)) (tells : Bool) (before now : List ℕ) (s : Sending T) (buf back : T)
    (part sent k at n total upto : ℕ) (cut slice : PartCut T)
    (is : record { buf = buf; rest = rest_from (parts buf) part sent; total = total } ≡ s) (here : IsPlace (parts buf) part sent k at)
    (cut_is : cut ≡ record { inner = buf; part = k; begin = at }) (told : PartSent parts tells before now cut slice n)
    (inner : back ≡ slice.inner) (behind : upto ≡ slice.begin + n) where
  -- A write of bytes of the part at a place.
  moved : PartSent parts tells before now (record { inner = buf; part = k; begin = at }) slice n
  moved = subst (λ x. PartSent parts tells before now x slice n) cut_is told

  -- The buffer comes back.
  same_back : back ≡ buf
  same_back = inner ∙ ap (λ x. x.inner) moved.same

  -- The bytes to be written are those that were written, and those behind them.
  placed_cut : s.rest ≡ take n (drop at (slice_index_or (parts buf) k [])) ++ rest_from (parts back) k upto
  placed_cut =
      let bytes = slice_index_or (parts buf) k [] in
      ap (λ x. x.rest) (sym is) ∙ sym here.same
      ∙ rest-cut (parts buf) k at n here.there (omega (arith, moved.within, length-drop at bytes, here.less))
      ∙ ap (λ l. take n (drop at bytes) ++ l) (ap (λ b. rest_from (parts b) k (at + n)) (sym same_back)
      ∙ ap (rest_from (parts back) k) (sym (behind ∙ ap (λ x. x.begin + n) moved.same)))

  -- After it more bytes are to be written, where there is a next place.
  pub placed_sends_on : (k' at' : ℕ) → IsPlace (parts back) k upto k' at' → n ≢ 0
      → SendsOn tells before now s (record { buf = back; rest = rest_from (parts back) k' at'; total = total })
  placed_sends_on k' at' next some =
      let bytes = drop at (slice_index_or (parts buf) k []) in record {
        sent = take n bytes;
        some = omega (arith, length-take n bytes, moved.within, some);
        more = rest-some (parts back) k' at' next.there next.less;
        cut = placed_cut ∙ ap (λ l. take n bytes ++ l) (sym next.same);
        same_buf = same_back ∙ ap (λ x. x.buf) is;
        same_total = ap (λ x. x.total) is;
        joined = moved.joined;
      }

  -- After it all bytes are delivered, where there is none.
  pub placed_ends : rest_from (parts back) k upto ≡ [] → ((total ≡ s.total) × (IsTrue tells → now ≡ before ++ s.rest)) × (back ≡ s.buf)
  placed_ends none =
      let bytes = drop at (slice_index_or (parts buf) k []) in
      let all : s.rest ≡ take n bytes = placed_cut ∙ ap (λ l. take n bytes ++ l) none ∙ append-nil (take n bytes) in
      ((ap (λ x. x.total) is, λ t. moved.joined t ∙ ap (λ l. before ++ l) (sym all)), same_back ∙ ap (λ x. x.buf) is)
