-- What a table of holders and records keep true: just the handles that somebody holds have records, through each change of both.
use Rattle.std.proofs.Common.{◌≡◌, ◌∙◌, inl, inr, ℕ, ◌<◌, Bool, true, false, Option, Some, None, option_map, refl, sym}
use Rattle.std.proofs.Common.{ap, subst}
use Rattle.std.specs.Prelude.{is_some, unwrap_or, if◌then◌else◌, Result, Ok, Err, IfSome}
use Rattle.std.specs.Ordering.{nat_cmp}
use Rattle.std.specs.FinMap.{FinMap, get, empty, insert, remove, get-empty}
use Rattle.handle_core.specs.declared.table.Holders.{Holders}
use Rattle.handle_core.specs.Table.{Table, with_holders, without_handle, by_user}
use Rattle.machine.proofs.Numbers.{same-or-not}
use Rattle.driver_core.proofs.Maps.{put-same, put-other, gone-same, gone-other, put-self}
use Rattle.rent_buf.specs.declared.fault.OutOfMemory.{OutOfMemory}
use Rattle.driver_core.specs.declared.op.Op.{Op}
use Rattle.driver_core.specs.declared.op.PollOp.{PollOp}
use Rattle.driver_core.specs.declared.op.PollOp.TheVariants.{Pending, Ready}
use Rattle.ready_driver.specs.declared.records.Record.{Record}
use Rattle.ready_driver.specs.declared.scheduled_io.Waiter.{Waiter}
use Rattle.ready_driver.specs.declared.ready.Direction.{Direction}
use Rattle.ready_driver.specs.Awaits.{LeavesIf, LeavesFor}
use Rattle.ready_driver.specs.Ready.{meets, mask_of}
use Rattle.ready_driver.specs.ScheduledIo.{entry_of}
use Rattle.ready_driver.specs.Records.{Kept, io_at, record_at, is_registered, with_record, without_record, changed, changed_if}
use Rattle.ready_driver.specs.Records.{with_registered, changed_in, changed_named, named_at, unregistered_at, unregistered_in}
use Rattle.ready_driver.specs.Registry.{Handling, HasMadeRoom, is_known, AreRecorded}
use Rattle.ready_driver.proofs.Recorded.{there-changed}

-- Two maps have the same keys, after each got one more, or wrote one that it had.
keys-put : {X Y : Type 0} (a : FinMap nat_cmp X) (b : FinMap nat_cmp Y) (h : ℕ) (x : X) (y : Y) →
    ((k : ℕ) → is_some (get a k) ≡ is_some (get b k)) → (k : ℕ) → is_some (get (insert a h x) k) ≡ is_some (get (insert b h y) k)
keys-put a b h x y alike k = elim (same-or-not k h) [
  | inl e ↦ (
      ap (λ q. is_some (get (insert a h x) q)) e ∙ ap is_some (put-same a h x) ∙ sym (ap is_some (put-same b h y))
      ∙ ap (λ q. is_some (get (insert b h y) q)) (sym e))
  | inr e ↦ ap is_some (put-other a h x k e) ∙ alike k ∙ sym (ap is_some (put-other b h y k e))
]

-- And after each lost the same one.
keys-gone : {X Y : Type 0} (a : FinMap nat_cmp X) (b : FinMap nat_cmp Y) (h : ℕ) →
    ((k : ℕ) → is_some (get a k) ≡ is_some (get b k)) → (k : ℕ) → is_some (get (remove a h) k) ≡ is_some (get (remove b h) k)
keys-gone a b h alike k = elim (same-or-not k h) [
  | inl e ↦ (
      ap (λ q. is_some (get (remove a h) q)) e ∙ ap is_some (gone-same a h) ∙ sym (ap is_some (gone-same b h))
      ∙ ap (λ q. is_some (get (remove b h) q)) (sym e))
  | inr e ↦ ap is_some (gone-other a h k e) ∙ alike k ∙ sym (ap is_some (gone-other b h k e))
]

-- A map that wrote one of its keys has the keys that it had.
pub keys-kept : {X : Type 0} (a : FinMap nat_cmp X) (h : ℕ) (x : X) → is_some (get a h) ≡ true → (k : ℕ) →
    is_some (get (insert a h x) k) ≡ is_some (get a k)
keys-kept a h x there k = elim (same-or-not k h) [
  | inl e ↦ ap (λ q. is_some (get (insert a h x) q)) e ∙ ap is_some (put-same a h x) ∙ sym (ap (λ q. is_some (get a q)) e ∙ there)
  | inr e ↦ ap is_some (put-other a h x k e)
]

-- No handle is held, and none has a record.
pub recorded-none : (table : Table) (records : Kept) → table.holders ≡ empty → records.handles ≡ empty → AreRecorded table records
recorded-none table records none no_records = λ h.
    ap (λ m. is_some (get m h)) no_records ∙ ap is_some (get-empty {X = Record} nat_cmp h)
    ∙ sym (ap (λ m. is_some (get m h)) none ∙ ap is_some (get-empty {X = Holders} nat_cmp h))

-- Reserved memory doesn't matter.
pub recorded-like : (table new : Table) (records now : Kept) → AreRecorded table records → new.holders ≡ table.holders →
    now.handles ≡ records.handles → AreRecorded new now
recorded-like table new records now all same alike = λ h.
    ap (λ m. is_some (get m h)) alike ∙ all h ∙ sym (ap (λ m. is_some (get m h)) same)

module _ (table : Table) (records : Kept) (all : AreRecorded table records) where
  -- A handle gets holders and a record.
  pub recorded-given : (h : ℕ) (held : Holders) (one : Record) → AreRecorded (with_holders table h held) (with_record records h one)
  recorded-given h held one = keys-put records.handles table.holders h one held all

  -- A handle that somebody holds has other holders.
  pub recorded-written : (h : ℕ) (held : Holders) → is_known table h ≡ true → AreRecorded (with_holders table h held) records
  recorded-written h held there = λ k. all k ∙ sym (keys-kept table.holders h held there k)

  -- A handle leaves the table, with its record.
  pub recorded-gone : (h : ℕ) → AreRecorded (without_handle table h) (without_record records h)
  recorded-gone h = keys-gone records.handles table.holders h all

  -- The record of a handle changes.
  pub recorded-changed : (h : ℕ) (change : Record → Record) → AreRecorded table (changed records h change)
  recorded-changed h change = λ k. there-changed records h change k ∙ all k

  -- So does that of the handle of a key.
  pub recorded-named : (key : ℕ) (change : Record → Record) → AreRecorded table (changed_named records key change)
  recorded-named key change = by (named_at records key)
    where
      by : (x : Option ℕ) → AreRecorded table (changed_in records x change)
      by None = all
      by (Some h) = recorded-changed h change

-- A new handle is held, and has a record.
pub recorded-new : (table : Table) (records : Kept) → AreRecorded table records → (h : ℕ) (new : Table) (now : Kept) (one : Record) →
    new.holders ≡ insert table.holders h by_user → now.handles ≡ insert records.handles h one → AreRecorded new now
recorded-new table records all h new now one held kept =
    recorded-like (with_holders table h by_user) new (with_record records h one) now
    (recorded-given table records all h by_user one) held kept

-- A handle that is registered has a record.
pub registered-record : (records : Kept) (h : ℕ) → is_registered records h ≡ true →
    (one : Record) × (record_at records h ≡ Some one) × (one.registered ≡ true)
registered-record records h is = by (record_at records h) refl is
  where
    by : (x : Option Record) → record_at records h ≡ x → unwrap_or (option_map (λ r. r.registered) x) false ≡ true →
        (one : Record) × (record_at records h ≡ Some one) × (one.registered ≡ true)
    by None there is = (let f : ⊥ = cc in absurd f)
    by (Some one) there is = (one, there, is)

-- One that is registered is registered again: nothing changes.
pub registered-again : (records : Kept) (h : ℕ) → is_registered records h ≡ true → changed records h (with_registered true) ≡ records
registered-again records h is = by (registered-record records h is)
  where
    by : (r : (one : Record) × (record_at records h ≡ Some one) × (one.registered ≡ true)) →
        changed records h (with_registered true) ≡ records
    by (one, there, registered) =
        ap (λ x. changed_if x records h (with_registered true)) there
        ∙ ap (λ b. with_record records h (record one { registered = b })) (sym registered)
        ∙ ap (λ m. record records { handles = m }) (put-self records.handles h one there)

-- A handle that is registered, or has no record, has none to register.
pub registered-none : (records : Kept) (h : ℕ) → is_registered records h ≡ true → unregistered_at records h ≡ None
registered-none records h is = by (registered-record records h is)
  where
    by : (r : (one : Record) × (record_at records h ≡ Some one) × (one.registered ≡ true)) → unregistered_at records h ≡ None
    by (one, there, registered) =
        ap unregistered_in there ∙ ap (λ b. if◌then◌else◌ {A = Option ℕ} b None (Some one.key)) registered

-- One that has a record that isn't registered: its record has the key.
pub unregistered-record : (records : Kept) (h key : ℕ) → unregistered_at records h ≡ Some key →
    (one : Record) × (record_at records h ≡ Some one) × (one.registered ≡ false) × (one.key ≡ key)
unregistered-record records h key is = by (record_at records h) refl is
  where
    by : (x : Option Record) → record_at records h ≡ x → unregistered_in x ≡ Some key →
        (one : Record) × (record_at records h ≡ Some one) × (one.registered ≡ false) × (one.key ≡ key)
    by None there is = (let f : ⊥ = cc in absurd f)
    by (Some one) there is = here one.registered refl is
      where
        here : (b : Bool) → one.registered ≡ b → if◌then◌else◌ {A = Option ℕ} b None (Some one.key) ≡ Some key →
            (one : Record) × (record_at records h ≡ Some one) × (one.registered ≡ false) × (one.key ≡ key)
        here true registered is = (let f : ⊥ = cc in absurd f)
        here false registered is = (one, there, registered, ap (λ x. unwrap_or x one.key) is)

-- What is left of the records by a poll by the bits has just the records that there were.
pub recorded-left : {B : Type 0} (table : Table) (met : Bool) (old : Kept) (h : ℕ) (entry : Waiter) (new : Kept)
    (result : Result (PollOp B) (OutOfMemory × Op)) → AreRecorded table old → LeavesIf met old h entry new result → AreRecorded table new
recorded-left table false old h entry new (Ok (Pending back)) all left =
    subst (AreRecorded table) (sym left) (recorded-changed table old all h _)
recorded-left table false old h entry new (Ok (Ready done)) all left = absurd left
recorded-left table false old h entry new (Err error) all left = subst (AreRecorded table) (sym left) all
recorded-left table true old h entry new (Ok (Pending back)) all left =
    subst (AreRecorded table) (sym left) (recorded-changed table old all h _)
recorded-left table true old h entry new (Ok (Ready done)) all left =
    subst (AreRecorded table) (sym left) (recorded-changed table old all h _)
recorded-left table true old h entry new (Err error) all left = subst (AreRecorded table) (sym left) all

-- So it is, whatever the poll's operation waits for.
pub recorded-leaves : {B : Type 0} (table : Table) (awaited : Option (ℕ × Direction)) (old : Kept) (serial task : ℕ) (new : Kept)
    (result : Result (PollOp B) (OutOfMemory × Op)) → AreRecorded table old → LeavesFor awaited old serial task new result →
    AreRecorded table new
recorded-leaves table None old serial task new result all left = subst (AreRecorded table) (sym left) all
recorded-leaves table (Some (h, dir)) old serial task new result all left =
    recorded-left table (meets (io_at old h).ready (mask_of dir)) old h (entry_of serial task dir) new result all left

-- A poll that memory ran out for before it looked at the bits leaves the records as they were.
pub leaves-refused : (B : Type 0) (awaited : Option (ℕ × Direction)) (records : Kept) (serial task : ℕ) (error : OutOfMemory × Op) →
    LeavesFor {B = B} awaited records serial task records (Err error)
leaves-refused B None records serial task error = refl
leaves-refused B (Some (h, dir)) records serial task error = by (meets (io_at records h).ready (mask_of dir))
  where
    by : (met : Bool) → LeavesIf {B = B} met records h (entry_of serial task dir) records (Err error)
    by true = refl
    by false = refl

-- A record that changes takes none of the memory that is reserved for one.
spare-changed : (kept : Kept) (h : ℕ) (change : Record → Record) → (changed kept h change).spare ≡ kept.spare
spare-changed kept h change = by (record_at kept h)
  where
    by : (one : Option Record) → (changed_if one kept h change).spare ≡ kept.spare
    by None = refl
    by (Some one) = refl

-- Nor does a poll.
pub leaves-spare : {B : Type 0} (awaited : Option (ℕ × Direction)) (old : Kept) (serial task : ℕ) (new : Kept)
    (result : Result (PollOp B) (OutOfMemory × Op)) → LeavesFor awaited old serial task new result → new.spare ≡ old.spare
leaves-spare None old serial task new result left = ap (λ k. k.spare) left
leaves-spare (Some (h, dir)) old serial task new result left =
    by (meets (io_at old h).ready (mask_of dir)) result left
  where
    same : (change : Record → Record) → new ≡ changed old h change → new.spare ≡ old.spare
    same change is = ap (λ k. k.spare) is ∙ spare-changed old h change

    by : {B : Type 0} (met : Bool) (result : Result (PollOp B) (OutOfMemory × Op)) →
        LeavesIf met old h (entry_of serial task dir) new result → new.spare ≡ old.spare
    by false (Ok (Pending back)) left = same _ left
    by false (Ok (Ready done)) left = absurd left
    by false (Err error) left = ap (λ k. k.spare) left
    by true (Ok (Pending back)) left = same _ left
    by true (Ok (Ready done)) left = same _ left
    by true (Err error) left = ap (λ k. k.spare) left

-- A handle that a call made has the memory that was taken for one.
pub made-room : {I : Type 0} (made : Option ℕ) (maker : Bool) (old new : Handling I) → (maker ≡ true → HasMadeRoom old) →
    ((h : ℕ) → made ≡ Some h → maker ≡ true) → new.table ≡ old.table → new.records.spare ≡ old.records.spare →
    IfSome made (λ h. HasMadeRoom new)
made-room None maker old new room makes table spare = tt
made-room (Some h) maker old new room makes table spare =
    let had = room (makes h refl) in
    record { handle = subst (λ t. 0 < t.spare) (sym table) had.handle; one = subst (λ n. 0 < n) (sym spare) had.one }
