-- Reads from the bytes that are buffered.
use Rattle.std.proofs.Common.{◌≡◌, ◌∙◌, ℕ, ◌+◌, ◌-◌, ◌≤◌, ◌⊎◌, inl, inr, List, [], ◌∷◌, ◌++◌, Bool, length, take, drop, min}
use Rattle.std.proofs.Common.{sym, ap, arith, add-zero, append_assoc}
use Rattle.std.specs.Prelude.{IsTrue}
use Rattle.std.specs.List.{slice_range}
use Rattle.std.proofs.lemmas.List.{length-take, length-drop, drop-take, drop-drop, take-append-drop}
use Rattle.rent_buf.specs.Buffer.{Buffer, room, put}
use Rattle.rent_buf.specs.Parts.{Parts, parts_stored}
use Rattle.rent_io.specs.Reader.{Reader, Taken, Scattered, first_room}
use Rattle.stream_util.specs.BufReader.{Reading, FillsFirst}

-- A range without its first bytes.
pub skipped : (xs held : List ℕ) (begin end count : ℕ) → begin ≤ end → end ≤ length xs → count ≤ length held
    → slice_range xs begin end ≡ held → slice_range xs (begin + count) end ≡ drop count held
skipped xs held begin end count ordered within fits is =
    let size : length held ≡ end - begin =
    omega (arith, ap length is, length-take (end - begin) (drop begin xs), length-drop begin xs, ordered, within) in
    let sum : count + (end - (begin + count)) ≡ end - begin = omega (arith, size, fits, ordered) in
    ap (λ l. take (end - (begin + count)) l) (sym (drop-drop count begin xs))
    ∙ sym (drop-take count (end - (begin + count)) (drop begin xs)) ∙ ap (λ n. drop count (take n (drop begin xs))) sum ∙ ap (drop count) is

-- No byte was given only where there is no room, or at the end.
given-end : (tells : Bool) (before held left : List ℕ) (space n : ℕ) → n ≡ min (length held) space → (IsTrue tells → held ++ left ≡ before)
    → (IsTrue tells → length held ≡ 0 → held ++ left ≡ []) → IsTrue tells → n ≡ 0 → (space ≡ 0) ⊎ (before ≡ [])
given-end tells before [] left space n count same end t zero = inr (sym (same t) ∙ end t (omega arith))
given-end tells before (byte ∷ held) left space n count same end t zero = inl (omega arith)

-- The first bytes that are buffered were the first of those left.
given-front : (before held left : List ℕ) (n : ℕ) → held ++ left ≡ before → before ≡ take n held ++ (drop n held ++ left)
given-front before held left n same =
    sym same ∙ ap (λ l. l ++ left) (sym (take-append-drop n held)) ∙ append_assoc (take n held) (drop n held) left

-- A read that gave the first bytes that are buffered.
pub given : (tells : Bool) (before held left : List ℕ) (b back : Buffer) (n : ℕ) → n ≡ min (length held) (room b)
    → back ≡ put b (b.begin + 0) (take n held) → (IsTrue tells → held ++ left ≡ before)
    → (IsTrue tells → length held ≡ 0 → held ++ left ≡ []) → Taken tells before (drop n held ++ left) b back n
given tells before held left b back n count is same end = record {
  got = take n held;
  count = omega (arith, length-take n held, count);
  fits = omega (arith, count);
  is_stored = is ∙ ap (λ at. put b at (take n held)) (add-zero b.begin);
  front = λ t. given-front before held left n (same t);
  at_end = given-end tells before held left (room b) n count same end;
}

-- The same into parts.
pub given_part : (tells : Bool) (before held left : List ℕ) (parts back : Parts) (n : ℕ) → n ≡ min (length held) (first_room parts)
    → back ≡ parts_stored parts (take n held) → (IsTrue tells → held ++ left ≡ before)
    → (IsTrue tells → length held ≡ 0 → held ++ left ≡ []) → Scattered tells before (drop n held ++ left) parts back n
given_part tells before held left parts back n count is same end = record {
  got = take n held;
  count = omega (arith, length-take n held, count);
  fits = omega (arith, count);
  is_stored = is;
  front = λ t. given-front before held left n (same t);
  at_end = given-end tells before held left (first_room parts) n count same end;
}

-- A read that filled the empty buffer and then gave the first bytes of it.
pub filled_first : {R : Type 0} (inner : R → Reader) (tells : Bool) (before filled now : Reading R) (space n : ℕ) → before.held ≡ []
    → (IsTrue tells → filled.held ++ (inner filled.inner).left ≡ before.held ++ (inner before.inner).left)
    → length filled.held ≤ filled.capacity → filled.capacity ≡ before.capacity → n ≡ min (length filled.held) space
    → now ≡ record filled { held = drop n filled.held } → FillsFirst inner tells before now space n
filled_first inner tells before filled now space n none same within size count is = record {
  filled = filled.held;
  within = omega (arith, within, size);
  front = λ t. ap (λ l. l ++ (inner before.inner).left) (sym none) ∙ sym (same t)
      ∙ ap (λ r. filled.held ++ (inner r.inner).left) (sym is);
  given = count;
  rest = ap (λ r. r.held) is;
}
