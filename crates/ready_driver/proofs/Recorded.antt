-- The records of handles after that of one handle changed: what it has then, and what the others have.
use Rattle.std.proofs.Common.{◌≡◌, ◌≢◌, inl, inr, ℕ, Bool, true, false, Option, Some, None, option_map, unwrap_or, refl, sym}
use Rattle.std.proofs.Common.{◌∙◌, ap, subst}
use Rattle.std.specs.Prelude.{IsSome, is_some, Result, Ok, Err}
use Rattle.machine.proofs.Numbers.{same-or-not}
use Rattle.driver_core.proofs.Maps.{put-same, put-other}
use Rattle.ready_driver.specs.declared.ready.Direction.{Direction}
use Rattle.ready_driver.specs.declared.ready.Direction.TheVariants.{Read, Write}
use Rattle.ready_driver.specs.declared.records.Record.{Record}
use Rattle.driver_core.specs.declared.op.Op.{Op}
use Rattle.driver_core.specs.declared.op.PollOp.{PollOp}
use Rattle.rent_buf.specs.declared.fault.OutOfMemory.{OutOfMemory}
use Rattle.ready_driver.specs.declared.scheduled_io.Waiter.{Waiter}
use Rattle.driver_core.specs.declared.op.PollOp.TheVariants.{Pending, Ready}
use Rattle.ready_driver.specs.Awaits.{LeavesIo, LeavesIf, Leaves, without_bits, with_waiter, without_waiter}
use Rattle.ready_driver.specs.Ready.{meets, mask_of}
use Rattle.ready_driver.specs.ScheduledIo.{Scheduled}
use Rattle.ready_driver.specs.Records.{Kept, quiet, record_at, key_at, io_at, changed_if, changed, with_io}

-- No bits meet no direction.
pub none-meet : (dir : Direction) → meets 0 (mask_of dir) ≡ false
none-meet Read = refl
none-meet Write = refl

-- The record of the handle that changed.
pub changed-at : (kept : Kept) (h : ℕ) (change : Record → Record) (one : Record) → record_at kept h ≡ Some one →
    record_at (changed kept h change) h ≡ Some (change one)
changed-at kept h change one there =
    ap (λ x. record_at (changed_if x kept h change) h) there ∙ put-same kept.handles h (change one)

-- A handle with no record has none then.
pub changed-none : (kept : Kept) (h : ℕ) (change : Record → Record) → record_at kept h ≡ None → changed kept h change ≡ kept
changed-none kept h change none = ap (λ x. changed_if x kept h change) none

-- The records of other handles stay.
pub changed-other : (kept : Kept) (h : ℕ) (change : Record → Record) (k : ℕ) → k ≢ h →
    record_at (changed kept h change) k ≡ record_at kept k
changed-other kept h change k apart = by (record_at kept h)
  where
    by : (x : Option Record) → record_at (changed_if x kept h change) k ≡ record_at kept k
    by None = refl
    by (Some one) = put-other kept.handles h (change one) k apart

-- Just the handles that had records have one.
pub there-changed : (kept : Kept) (h : ℕ) (change : Record → Record) (k : ℕ) →
    is_some (record_at (changed kept h change) k) ≡ is_some (record_at kept k)
there-changed kept h change k = by (record_at kept h) refl
  where
    by : (x : Option Record) → record_at kept h ≡ x → is_some (record_at (changed kept h change) k) ≡ is_some (record_at kept k)
    by None is = ap (λ x. is_some (record_at x k)) (changed-none kept h change is)
    by (Some one) is = elim (same-or-not k h) [
      | inl e ↦ (
          ap (λ q. is_some (record_at (changed kept h change) q)) e ∙ ap is_some (changed-at kept h change one is) ∙ sym (ap is_some is)
          ∙ ap (λ q. is_some (record_at kept q)) (sym e))
      | inr e ↦ ap is_some (changed-other kept h change k e)
    ]

-- What is read of what was looked up.
abbrev read : Option Record → Scheduled
read x = unwrap_or (option_map (λ r. r.io) x) quiet

-- The bits and what waits, of the handle that changed, where it has a record.
pub io-changed : (kept : Kept) (h : ℕ) (f : Scheduled → Scheduled) → IsSome (record_at kept h) →
    io_at (changed kept h (with_io f)) h ≡ f (io_at kept h)
io-changed kept h f there = by (record_at kept h) refl there
  where
    by : (x : Option Record) → record_at kept h ≡ x → IsSome x → io_at (changed kept h (with_io f)) h ≡ f (io_at kept h)
    by None is some = (let g : ⊥ = cc in absurd g)
    by (Some one) is some = ap read (changed-at kept h (with_io f) one is) ∙ ap (λ x. f (read x)) (sym is)

-- A property of no bits and nothing that waits is one of a handle with no record; and what a change makes of others is one of the rest.
pub io-either : (P : Scheduled → Type 0) (kept : Kept) (h : ℕ) (f : Scheduled → Scheduled) → P quiet → P (f (io_at kept h)) →
    P (io_at (changed kept h (with_io f)) h)
io-either P kept h f none some = by (record_at kept h) refl
  where
    by : (x : Option Record) → record_at kept h ≡ x → P (io_at (changed kept h (with_io f)) h)
    by None is = subst P (sym (ap read (ap (λ k. record_at k h) (changed-none kept h (with_io f) is) ∙ is))) none
    by (Some one) is = subst P (sym (io-changed kept h f (subst IsSome (sym is) refl))) some

-- A handle that has a key has a record.
pub keyed-record : (kept : Kept) (h key : ℕ) → key_at kept h ≡ Some key → IsSome (record_at kept h)
keyed-record kept h key keyed = by (record_at kept h) keyed
  where
    by : (x : Option Record) → option_map (λ r. r.key) x ≡ Some key → IsSome x
    by None keyed = (let f : ⊥ = cc in absurd f)
    by (Some one) keyed = refl

-- What a poll left of the record that was looked up, it left of the records.
pub leaves-record : {B : Type 0} (met : Bool) (old : Kept) (h : ℕ) (was : Scheduled) (entry : Waiter) (new : Kept) (now : Scheduled)
    (result : Result (PollOp B) (OutOfMemory × Op)) →
    ((f : Scheduled → Scheduled) → now ≡ f was → new ≡ changed old h (with_io f)) → (now ≡ was → new ≡ old) →
    LeavesIo met was entry now result → LeavesIf met old h entry new result
leaves-record false old h was entry new now (Ok (Pending back)) writes same left = writes (with_waiter entry) left
leaves-record false old h was entry new now (Ok (Ready done)) writes same left = left
leaves-record false old h was entry new now (Err error) writes same left = same left
leaves-record true old h was entry new now (Ok (Pending back)) writes same left =
    writes (λ io. with_waiter entry (without_bits entry.direction io)) left
leaves-record true old h was entry new now (Ok (Ready done)) writes same left = writes (without_waiter entry.serial) left
leaves-record true old h was entry new now (Err error) writes same left = same left

-- So it is where the record was found.
pub leaves-found : {B : Type 0} (old : Kept) (h : ℕ) (one : Record) (entry : Waiter) (new : Kept) (now : Scheduled)
    (result : Result (PollOp B) (OutOfMemory × Op)) → record_at old h ≡ Some one →
    ((f : Scheduled → Scheduled) → now ≡ f one.io → new ≡ changed old h (with_io f)) → (now ≡ one.io → new ≡ old) →
    LeavesIo (meets one.io.ready (mask_of entry.direction)) one.io entry now result → Leaves old h entry new result
leaves-found old h one entry new now result there writes same left =
    subst (λ (io : Scheduled). LeavesIf (meets io.ready (mask_of entry.direction)) old h entry new result) (sym (ap read there))
    (leaves-record (meets one.io.ready (mask_of entry.direction)) old h one.io entry new now result writes same left)

-- A handle with no record leaves its operation waiting, which changes nothing.
pub leaves-unfound : (B : Type 0) (old : Kept) (h : ℕ) (entry : Waiter) (new : Kept) (op : Op) → record_at old h ≡ None → new ≡ old →
    Leaves {B = B} old h entry new (Ok (Pending op))
leaves-unfound B old h entry new op none same =
    subst (λ met. LeavesIf {B = B} met old h entry new (Ok (Pending op)))
    (sym (ap (λ x. meets (read x).ready (mask_of entry.direction)) none ∙ none-meet entry.direction))
    (same ∙ sym (changed-none old h (with_io (with_waiter entry)) none))
