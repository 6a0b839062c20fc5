-- Reads that take the first bytes that are left.
use Rattle.std.proofs.Common.{◌≡◌, ◌∙◌, ℕ, ◌+◌, ◌≤◌, ◌⊎◌, Bool, List, [], ◌++◌, length, take, drop, min, sym, ap, arith}
use Rattle.std.proofs.Common.{add-zero, append-nil, inl, inr, length-append, true}
use Rattle.std.specs.Prelude.{Ok, Err}
use Rattle.std.proofs.lemmas.List.{drop_min, length-drop, length-take, take-append-drop, take_at}
use Rattle.rent_buf.specs.Buffer.{Buffer, room, put}
use Rattle.rent_buf.specs.Parts.{Parts, parts_stored}
use Rattle.rent_io.specs.BufReader.{IsFront}
use Rattle.rent_buf.specs.Fixed.{buffer_of_fixed}
use Rattle.rent_io.specs.Reader.{FrontRead, Reads, ReadsFixed, Taken, Scattered, first_room}
use Rattle.rent_io.specs.declared.poll.PollBuf.{PollBuf}
use Rattle.rent_io.specs.declared.poll.PollBuf.TheVariants.{Ready, Pending, Again}

-- A reader that tells what is left took the first n of it, and stored them at the start of the range.
pub taken_front : (left : List ℕ) (b back : Buffer) (n : ℕ) → n ≤ room b → n ≤ length left → back ≡ put b (b.begin + 0) (take n left)
    → (n ≡ 0 → (room b ≡ 0) ⊎ (left ≡ [])) → Taken true left (drop n left) b back n
taken_front left b back n fits there is none = record {
  got = take n left;
  count = omega (arith, length-take n left, there);
  fits = fits;
  is_stored = is ∙ ap (λ at. put b at (take n left)) (add-zero b.begin);
  front = λ t. sym (take-append-drop n left);
  at_end = λ t. none;
}

-- The same into parts.
pub scattered_front : (left : List ℕ) (parts back : Parts) (n : ℕ) → n ≤ first_room parts → n ≤ length left
    → back ≡ parts_stored parts (take n left) → (n ≡ 0 → (first_room parts ≡ 0) ⊎ (left ≡ []))
    → Scattered true left (drop n left) parts back n
scattered_front left parts back n fits there is none = record {
  got = take n left;
  count = omega (arith, length-take n left, there);
  fits = fits;
  is_stored = is;
  front = λ t. sym (take-append-drop n left);
  at_end = λ t. none;
}

-- All bytes are the first of them.
pub all_front : (tells : Bool) (left : List ℕ) → IsFront tells left left
all_front tells left = λ t. ([], sym (append-nil left))

-- The first n bytes and the rest are all, also where there are fewer.
pub cut_to_end : (n : ℕ) (left : List ℕ) → left ≡ take n left ++ drop (min n (length left)) left
cut_to_end n left = sym (take-append-drop n left) ∙ ap (λ l. take n left ++ l) (sym (drop_min n left))

-- Bytes that were stored in a buffer of fixed length are its first.
fixed_taken : (tells : Bool) (left rest buf back : List ℕ) (n : ℕ)
    → Taken tells left rest (buffer_of_fixed buf) (buffer_of_fixed back) n → FrontRead tells left rest buf back n
fixed_taken tells left rest buf back n taken =
    let is : back ≡ taken.got ++ drop (0 + length taken.got) buf = ap (λ (b : Buffer). b.bytes) taken.is_stored in
    let first : take n back ≡ taken.got = ap (take n) is ∙ take_at taken.got (drop (0 + length taken.got) buf) n taken.count in
    record {
      fits = omega (arith, taken.fits);
      same_length = omega (
        arith,
        ap length is,
        length-append taken.got (drop (0 + length taken.got) buf),
        length-drop (0 + length taken.got) buf,
        taken.count,
        taken.fits,
      );
      front = λ t. taken.front t ∙ ap (λ l. l ++ rest) (sym first);
      at_end = λ t none. elim (taken.at_end t none) [ inl full ↦ inl (omega (arith, full)) | inr end ↦ inr end ];
    }

-- A poll of a read into such a buffer is one of `poll_fixed`.
pub fixed_read : (tells : Bool) (left rest buf : List ℕ) (result : PollBuf (List ℕ))
    → Reads tells left rest buffer_of_fixed (λ _. []) (λ _. []) buf result → ReadsFixed tells left rest buf result
fixed_read tells left rest buf (Ready (Ok n) back) reads = fixed_taken tells left rest buf back n reads.0
fixed_read tells left rest buf (Ready (Err fault) back) reads = (ap length reads.0, reads.1)
fixed_read tells left rest buf (Pending back) reads = (ap length reads.0, reads.1)
fixed_read tells left rest buf (Again back) reads = (ap length reads.0, reads.1)
