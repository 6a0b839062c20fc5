-- What stays of a sink behind a buffer while its buffer is written.
use Rattle.std.proofs.Common.{◌≡◌, ◌∙◌, ◌≤◌, ◌<◌, inl, inr, ℕ, List, Bool, length, refl, arith}
use Rattle.std.specs.Prelude.{IsTrue}
use Rattle.rent_io.specs.Counts.{Counts}
use Rattle.rent_io.specs.Writer.{EndsStay, SinkWriting, Writer}
use Rattle.stream_util.specs.BufWriter.{GetsFurther, Writing}
use Rattle.copy_run.specs.Pieces.{outlet_writer}

-- Writes of the buffer changed nothing that was delivered, no count of flushes and shutdowns, and no count of faults fell.
pub record Kept (tells : Bool) (before now : Writer) : Type 0 where
  pub delivered : IsTrue tells → now.delivered ≡ before.delivered
  pub order : before.counts.faults ≤ now.counts.faults
  pub ends : EndsStay before now

-- The same of a sink behind a buffer.
abbrev pub KeptBy : {K : Type 0} → Bool → (K → List ℕ) → (K → ℕ) → Writing (SinkWriting K) → Writing (SinkWriting K) → Type 0
KeptBy tells taken faults old new = Kept tells (outlet_writer (taken old.inner.sink) (faults old.inner.sink) old)
    (outlet_writer (taken new.inner.sink) (faults new.inner.sink) new)

-- Nothing was written yet.
pub kept_none : (tells : Bool) (w : Writer) → Kept tells w w
kept_none tells w = record { delivered = λ t. refl; order = omega arith; ends = (refl, refl) }

-- One write more.
pub kept_more : (tells : Bool) (before mid now : Writer) → Kept tells before mid → (IsTrue tells → now.delivered ≡ mid.delivered)
    → mid.counts.faults ≤ now.counts.faults → EndsStay mid now → Kept tells before now
kept_more tells before mid now kept same order ends = record {
  delivered = λ t. same t ∙ kept.delivered t;
  order = omega (arith, kept.order, order);
  ends = (ends.0 ∙ kept.ends.0, ends.1 ∙ kept.ends.1);
}

-- A stream that is never interrupted got further only where less is buffered.
pub less_held : (before now : Counts) (held later : List ℕ) → now.interrupts ≡ 0 → GetsFurther before now held later
    → length later < length held
less_held before now held later never (inl less) = less
less_held before now held later never (inr rose) = absurd (omega (arith, never, rose))
