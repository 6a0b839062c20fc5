-- The keys of records, which stay where a record changes in anything else.
use Rattle.std.proofs.Common.{◌≡◌, ◌∙◌, inl, inr, ℕ, Option, Some, None, option_map, refl, sym, ap}
use Rattle.std.specs.Prelude.{Result, Ok, Err}
use Rattle.rent_buf.specs.declared.fault.OutOfMemory.{OutOfMemory}
use Rattle.machine.proofs.Numbers.{same-or-not}
use Rattle.driver_core.specs.declared.op.Op.{Op}
use Rattle.driver_core.specs.declared.op.PollOp.{PollOp}
use Rattle.driver_core.specs.declared.op.PollOp.TheVariants.{Pending, Ready}
use Rattle.std.specs.Prelude.{Bool, true, false}
use Rattle.ready_driver.specs.declared.ready.Direction.{Direction}
use Rattle.ready_driver.specs.declared.records.Record.{Record}
use Rattle.ready_driver.specs.Awaits.{LeavesIf, LeavesFor}
use Rattle.ready_driver.specs.Ready.{meets, mask_of}
use Rattle.ready_driver.specs.ScheduledIo.{entry_of}
use Rattle.ready_driver.specs.Records.{Kept, AreNamed, key_at, named_at, io_at, record_at, changed, changed_in, changed_if, changed_named}
use Rattle.ready_driver.specs.Records.{with_new, with_registered, fresh_record}
use Rattle.std.specs.FinMap.{get, insert}
use Rattle.driver_core.proofs.Maps.{put-same, put-twice}
use Rattle.ready_driver.proofs.Recorded.{changed-at, changed-none, changed-other}

-- What of a record is read as its key.
abbrev pub key_in : Option Record → Option ℕ
key_in x = option_map (λ r. r.key) x

-- The record of a handle changed in what isn't its key: each handle keeps its key.
pub keys-changed : (kept : Kept) (h : ℕ) (change : Record → Record) → ((one : Record) → (change one).key ≡ one.key) → (g : ℕ) →
    key_at (changed kept h change) g ≡ key_at kept g
keys-changed kept h change same g = elim (same-or-not g h) [
  | inl e ↦ ap (key_at (changed kept h change)) e ∙ here (record_at kept h) refl ∙ ap (key_at kept) (sym e)
  | inr e ↦ ap key_in (changed-other kept h change g e)
]
  where
    here : (x : Option Record) → record_at kept h ≡ x → key_at (changed kept h change) h ≡ key_at kept h
    here None is = ap (λ k. key_at k h) (changed-none kept h change is)
    here (Some one) is = ap key_in (changed-at kept h change one is) ∙ ap Some (same one) ∙ ap key_in (sym is)

-- So it is of the handle of a key.
pub keys-changed-named : (kept : Kept) (key : ℕ) (change : Record → Record) → ((one : Record) → (change one).key ≡ one.key) → (g : ℕ) →
    key_at (changed_named kept key change) g ≡ key_at kept g
keys-changed-named kept key change same g = by (named_at kept key)
  where
    by : (x : Option ℕ) → key_at (changed_in kept x change) g ≡ key_at kept g
    by None = refl
    by (Some h) = keys-changed kept h change same g

-- A record that changed is of the handle of the same key.
pub names-changed : (kept : Kept) (h : ℕ) (change : Record → Record) → (changed kept h change).names ≡ kept.names
names-changed kept h change = by (record_at kept h)
  where
    by : (x : Option Record) → (changed_if x kept h change).names ≡ kept.names
    by None = refl
    by (Some one) = refl

-- The same of the handle of a key.
pub names-changed-named : (kept : Kept) (key : ℕ) (change : Record → Record) → (changed_named kept key change).names ≡ kept.names
names-changed-named kept key change = by (named_at kept key)
  where
    by : (x : Option ℕ) → (changed_in kept x change).names ≡ kept.names
    by None = refl
    by (Some h) = names-changed kept h change

-- So a key is of the handle that it was of.
pub named-same : (kept : Kept) (key : ℕ) (change : Record → Record) (k : ℕ) → named_at (changed_named kept key change) k ≡ named_at kept k
named-same kept key change k = ap (λ m. get m k) (names-changed-named kept key change)

-- A new handle that is registered then, by its key: its record, and the handles of keys.
pub new-registered : (all : Kept) (h key n : ℕ) →
    ((changed_named (record (with_new all h key) { spare = n }) key (with_registered true)).handles
    ≡ insert all.handles h (with_registered true (fresh_record key)))
    × ((changed_named (record (with_new all h key) { spare = n }) key (with_registered true)).names ≡ insert all.names key h)
new-registered all h key n =
    let now : Kept = record (with_new all h key) { spare = n } in (
      ap (λ x. (changed_in now x (with_registered true)).handles) (put-same all.names key h)
          ∙ ap (λ x. (changed_if x now h (with_registered true)).handles) (put-same all.handles h (fresh_record key))
          ∙ put-twice all.handles h (fresh_record key) (with_registered true (fresh_record key)),
      names-changed-named now key (with_registered true),
    )

-- The keys are those of records still.
pub named-changed : (kept : Kept) (key : ℕ) (change : Record → Record) → ((one : Record) → (change one).key ≡ one.key) → AreNamed kept →
    AreNamed (changed_named kept key change)
named-changed kept key change same named h k = (
  λ is. keys-changed-named kept key change same h ∙ (named h k).0 (sym (named-same kept key change k) ∙ is),
  λ is. named-same kept key change k ∙ (named h k).1 (sym (keys-changed-named kept key change same h) ∙ is),
)

-- What a poll leaves of the records has the keys that there were.
pub keys-left : {B : Type 0} (awaited : Option (ℕ × Direction)) (old : Kept) (serial task : ℕ) (new : Kept)
    (result : Result (PollOp B) (OutOfMemory × Op)) → LeavesFor awaited old serial task new result → (g : ℕ) → key_at new g ≡ key_at old g
keys-left None old serial task new result left g = ap (λ k. key_at k g) left
keys-left (Some (h, dir)) old serial task new result left g = by (meets (io_at old h).ready (mask_of dir)) result left
  where
    same : (change : Record → Record) → ((one : Record) → (change one).key ≡ one.key) → new ≡ changed old h change →
        key_at new g ≡ key_at old g
    same change keeps is = ap (λ k. key_at k g) is ∙ keys-changed old h change keeps g

    by : {B : Type 0} (met : Bool) (result : Result (PollOp B) (OutOfMemory × Op)) →
        LeavesIf met old h (entry_of serial task dir) new result → key_at new g ≡ key_at old g
    by false (Ok (Pending back)) left = same _ (λ one. refl) left
    by false (Ok (Ready done)) left = absurd left
    by false (Err error) left = ap (λ k. key_at k g) left
    by true (Ok (Pending back)) left = same _ (λ one. refl) left
    by true (Ok (Ready done)) left = same _ (λ one. refl) left
    by true (Err error) left = ap (λ k. key_at k g) left
