-- A pending poll leaves its operation waiting in the list of its handle.
use Rattle.std.proofs.Common.{ℕ, ◌≡◌, ◌+◌, ◌<◌, ◌∙◌, ◌⊎◌, inl, inr, ap, sym, refl, subst, Bool, true, false, not}
use Rattle.std.proofs.Common.{Option, Some, None, Ok, arith}
use Rattle.std.specs.Prelude.{◌==◌, ◌-◌, ◌%◌, bit_and, bit_or, bit_xor, min, max, IsSome}
use Rattle.std.specs.Int.{bit_at}
use Rattle.std.proofs.lemmas.Nat.{or_disjoint}
use Rattle.std.proofs.lemmas.Nat.Bits.{bit_at-lt, bit_at-zero, bit_at_and, bit_at_or, bit_at_xor, same_from_bits}
use Rattle.driver_core.specs.declared.op.Op.{Op}
use Rattle.driver_core.specs.declared.op.PollOp.TheVariants.{Pending}
use Rattle.ready_driver.specs.declared.ready.Direction.{Direction}
use Rattle.ready_driver.specs.declared.records.Record.{Record}
use Rattle.ready_driver.specs.Awaits.{LeavesFor, LeavesIf, with_waiter, without_bits}
use Rattle.ready_driver.specs.Ready.{mask_of, meets, without}
use Rattle.ready_driver.specs.Records.{Kept, changed, io_at, record_at, with_io}
use Rattle.ready_driver.specs.ScheduledIo.{Scheduled, entry_of, waiter_of}
use Rattle.ready_driver.proofs.Recorded.{changed-none, io-changed}
use Rattle.ready_driver.proofs.Waiting.{kept-own}
use Rattle.op_job.specs.Met.{IsWaiting}

-- Bits of a set, without those of another.
bit_apart : (x y : ℕ) → x < 2 → y < 2 → min ((x + min x y) % 2) y ≡ 0
bit_apart x y one other = omega arith

-- Nor one with both.
bit_apart_both : (x y : ℕ) → x < 2 → y < 2 → min ((x + min x y) % 2) (min x y) ≡ 0
bit_apart_both x y one other = omega arith

-- With it the bit is there again.
bit_whole : (x y : ℕ) → x < 2 → y < 2 → max ((x + min x y) % 2) (min x y) ≡ x
bit_whole x y one other = omega arith

-- The set without what it shares with another.
abbrev cleared : ℕ → ℕ → ℕ
cleared a b = bit_xor a (bit_and a b)

-- Bit by bit.
cleared_bit : (a b k : ℕ) → bit_at (cleared a b) k ≡ (bit_at a k + min (bit_at a k) (bit_at b k)) % 2
cleared_bit a b k = bit_at_xor a (bit_and a b) k ∙ ap (λ n. (bit_at a k + n) % 2) (bit_at_and a b k)

-- It shares nothing with the other.
cleared_apart : (a b : ℕ) → bit_and (cleared a b) b ≡ 0
cleared_apart a b = same_from_bits _ _ (λ k. bit_at_and (cleared a b) b k ∙ ap (λ n. min n (bit_at b k)) (cleared_bit a b k)
    ∙ bit_apart (bit_at a k) (bit_at b k) (bit_at-lt a k) (bit_at-lt b k) ∙ sym (bit_at-zero k))

-- Nor with what both have.
cleared_apart_both : (a b : ℕ) → bit_and (cleared a b) (bit_and a b) ≡ 0
cleared_apart_both a b = same_from_bits _ _ (λ k. bit_at_and (cleared a b) (bit_and a b) k
    ∙ ap (λ n. min n (bit_at (bit_and a b) k)) (cleared_bit a b k)
    ∙ ap (λ n. min ((bit_at a k + min (bit_at a k) (bit_at b k)) % 2) n) (bit_at_and a b k)
    ∙ bit_apart_both (bit_at a k) (bit_at b k) (bit_at-lt a k) (bit_at-lt b k) ∙ sym (bit_at-zero k))

-- With what both have it is the whole set.
cleared_whole : (a b : ℕ) → bit_or (cleared a b) (bit_and a b) ≡ a
cleared_whole a b = same_from_bits _ _ (λ k. bit_at_or (cleared a b) (bit_and a b) k
    ∙ ap (λ n. max n (bit_at (bit_and a b) k)) (cleared_bit a b k)
    ∙ ap (λ n. max ((bit_at a k + min (bit_at a k) (bit_at b k)) % 2) n) (bit_at_and a b k)
    ∙ bit_whole (bit_at a k) (bit_at b k) (bit_at-lt a k) (bit_at-lt b k))

-- It is the difference, and doesn't meet the other.
without_unmet : (a b : ℕ) → meets (without a b) b ≡ false
without_unmet a b =
    let both = or_disjoint (cleared a b) (bit_and a b) (cleared_apart_both a b) in
    let whole = cleared_whole a b in
    let same : a - bit_and a b ≡ cleared a b = omega (arith, both, whole) in
    ap (λ n. not (bit_and n b == 0)) same ∙ ap (λ n. not (n == 0)) (cleared_apart a b)

module _ (records after : Kept) (h n task : ℕ) (dir : Direction) where
  by_record : (x : Option Record) → record_at records h ≡ x → (f : Scheduled → Scheduled) → after ≡ changed records h (with_io f)
      → ((io : Scheduled) → waiter_of (f io).waiting n ≡ Some (entry_of n task dir))
      → meets (f (io_at records h)).ready (mask_of dir) ≡ false → (record_at after h ≡ None) ⊎ IsWaiting after h n task dir
  by_record None none f left own unmet = inl (ap (λ k. record_at k h) (left ∙ changed-none records h (with_io f) none) ∙ none)
  by_record (Some one) is f left own unmet =
      let same : io_at after h ≡ f (io_at records h)
      = ap (λ k. io_at k h) left ∙ io-changed records h f (subst (λ (x : Option Record). IsSome x) (sym is) refl) in
      inr (record {
        entry = ap (λ io. waiter_of io.waiting n) same ∙ own (io_at records h);
        unmet = ap (λ io. meets io.ready (mask_of dir)) same ∙ unmet;
      })

  by_met : (B : Type 0) (back : Op) (b : Bool) → meets (io_at records h).ready (mask_of dir) ≡ b
      → LeavesIf {B = B} b records h (entry_of n task dir) after (Ok (Pending back))
      → (record_at after h ≡ None) ⊎ IsWaiting after h n task dir
  by_met B back false unmet left = by_record (record_at records h) refl (with_waiter (entry_of n task dir)) left
      (λ io. kept-own io.waiting (entry_of n task dir)) unmet
  by_met B back true met left = by_record (record_at records h) refl (λ io. with_waiter (entry_of n task dir) (without_bits dir io)) left
      (λ io. kept-own io.waiting (entry_of n task dir)) (without_unmet (io_at records h).ready (mask_of dir))

  -- Where its handle has a record, it waits there with its task.
  pub pending_leaves : (B : Type 0) (back : Op) → LeavesFor {B = B} (Some (h, dir)) records n task after (Ok (Pending back))
      → (record_at after h ≡ None) ⊎ IsWaiting after h n task dir
  pending_leaves B back left = by_met B back (meets (io_at records h).ready (mask_of dir)) refl left
