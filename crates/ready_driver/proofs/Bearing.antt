-- What showed handles of a world in memory shows them still, through each change of their records, their holders and their object.
use Rattle.std.proofs.Common.{◌≡◌, ◌≢◌, inl, inr, ℕ, Option, Some, None, refl, sym, ◌∙◌, ap, subst}
use Rattle.std.specs.Prelude.{unwrap_or, option_map}
use Rattle.machine.proofs.Numbers.{same-or-not}
use Rattle.ready_driver.specs.declared.records.Record.{Record}
use Rattle.ready_driver.specs.Io.{IoView, IsDue, IsShown, KeepsShown}
use Rattle.ready_driver.specs.Records.{Kept, quiet, record_at, io_at, changed, with_io}
use Rattle.ready_driver.specs.ScheduledIo.{Scheduled}
use Rattle.ready_driver.specs.Turns.{bits_by, KeepsBits}
use Rattle.ready_driver.proofs.Recorded.{changed-at, changed-none, changed-other}

-- The record of a handle changed in what isn't its bits.
pub bits-kept : (kept : Kept) (h : ℕ) (change : Record → Record) → ((one : Record) → (change one).io.ready ≡ one.io.ready) → (g : ℕ) →
    (io_at (changed kept h change) g).ready ≡ (io_at kept g).ready
bits-kept kept h change same g = elim (same-or-not g h) [
  | inl e ↦ ap (λ k. (io_at (changed kept h change) k).ready) e ∙ here (record_at kept h) refl ∙ ap (λ k. (io_at kept k).ready) (sym e)
  | inr e ↦ ap (λ x. (unwrap_or (option_map (λ r. r.io) x) quiet).ready) (changed-other kept h change g e)
]
  where
    here : (x : Option Record) → record_at kept h ≡ x → (io_at (changed kept h change) h).ready ≡ (io_at kept h).ready
    here None is = ap (λ k. (io_at k h).ready) (changed-none kept h change is)
    here (Some one) is =
        ap (λ x. (unwrap_or (option_map (λ r. r.io) x) quiet).ready) (changed-at kept h change one is) ∙ same one
        ∙ ap (λ x. (unwrap_or (option_map (λ r. r.io) x) quiet).ready) (sym is)

-- The record of one handle changed: the bits of another one.
pub bits-beside : (kept : Kept) (h : ℕ) (change : Record → Record) (g : ℕ) → g ≢ h →
    (io_at (changed kept h change) g).ready ≡ (io_at kept g).ready
bits-beside kept h change g e = ap (λ x. (unwrap_or (option_map (λ r. r.io) x) quiet).ready) (changed-other kept h change g e)

-- The bits stay.
pub keeps-bits : (old new : IoView) (before after : Kept) → KeepsShown old new →
    ((h : ℕ) → (io_at after h).ready ≡ (io_at before h).ready) → KeepsBits old before new after
keeps-bits old new before after keeps same = λ h key reports shown.
    subst (λ r. IsShown new h (bits_by key r reports)) (sym (same h)) (keeps h (bits_by key (io_at before h).ready reports) shown)

-- Those of a handle that is due may change.
pub keeps-due : (old new : IoView) (before after : Kept) (n : ℕ) → KeepsShown old new → IsDue new n →
    ((h : ℕ) → h ≢ n → (io_at after h).ready ≡ (io_at before h).ready) → KeepsBits old before new after
keeps-due old new before after n keeps due same = λ h key reports shown. elim (same-or-not h n) [
  | inl e ↦ λ keyed. inl (subst (IsDue new) (sym e) due keyed)
  | inr e ↦
      subst (λ r. IsShown new h (bits_by key r reports)) (sym (same h e)) (keeps h (bits_by key (io_at before h).ready reports) shown)
]

-- A record was written with the bits that it had: all bits stay.
pub bits-written : (kept new : Kept) (h : ℕ) (one : Record) (io : Scheduled) → record_at kept h ≡ Some one →
    new ≡ changed kept h (with_io (λ old. io)) → io.ready ≡ one.io.ready → (g : ℕ) → (io_at new g).ready ≡ (io_at kept g).ready
bits-written kept new h one io there is same g = ap (λ k. (io_at k g).ready) is ∙ elim (same-or-not g h) [
  | inl e ↦ (
      ap (λ k. (io_at (changed kept h (with_io (λ old. io))) k).ready) e
      ∙ ap (λ x. (unwrap_or (option_map (λ r. r.io) x) quiet).ready) (changed-at kept h (with_io (λ old. io)) one there) ∙ same
      ∙ ap (λ x. (unwrap_or (option_map (λ r. r.io) x) quiet).ready) (sym there) ∙ ap (λ k. (io_at kept k).ready) (sym e))
  | inr e ↦ bits-beside kept h (with_io (λ old. io)) g e
]

-- So what showed the handles shows them still.
pub keeps-written : (old new : IoView) (before after : Kept) (h : ℕ) (one : Record) (io : Scheduled) → record_at before h ≡ Some one →
    after ≡ changed before h (with_io (λ x. io)) → KeepsShown old new → io.ready ≡ one.io.ready → KeepsBits old before new after
keeps-written old new before after h one io there is keeps same =
    keeps-bits old new before after keeps (bits-written before after h one io there is same)

-- A record was written whose handle is due: what showed the handles shows them still.
pub keeps-written-due : (old new : IoView) (before after : Kept) (h : ℕ) (io : Scheduled) → after ≡ changed before h (with_io (λ x. io)) →
    KeepsShown old new → IsDue new h → KeepsBits old before new after
keeps-written-due old new before after h io is keeps due =
    keeps-due old new before after h keeps due (λ g e. ap (λ k. (io_at k g).ready) is ∙ bits-beside before h (with_io (λ x. io)) g e)

-- Nothing was written, and the object is as it was.
pub keeps-unwritten : (view : IoView) (before after : Kept) → after ≡ before → KeepsBits view before view after
keeps-unwritten view before after is =
    keeps-bits view view before after (λ h ready shown. shown) (λ h. ap (λ k. (io_at k h).ready) is)
