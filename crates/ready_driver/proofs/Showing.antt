-- Each handle that somebody holds is due or has its bits, through each change of a driver over a world in memory.
use Rattle.std.proofs.Common.{◌≡◌, ◌≢◌, inl, inr, ℕ, Bool, true, false, List, [], ◌∷◌, length, Option, Some, None}
use Rattle.std.proofs.Common.{refl, sym, ◌∙◌, ap, subst}
use Rattle.std.specs.Prelude.{IsTrue, is_some, unwrap_or, option_map, slice_get, OnOk, OnErr, Result, Ok, Err}
use Rattle.std.specs.Ordering.{nat_cmp}
use Rattle.std.specs.FinMap.{get, empty, get-empty}
use Rattle.handle_core.specs.declared.table.Holders.{Holders}
use Rattle.handle_core.specs.Table.{Table, holders_at, with_holders, without_user, by_user}
use Rattle.machine.specs.declared.world.HandleKind.{HandleKind}
use Rattle.machine.proofs.Numbers.{same-or-not}
use Rattle.driver_core.specs.declared.slot.Slot.{Slot}
use Rattle.driver_core.specs.Holds.{is_nobody, settled, left_holders, with_ops, without_ops, front_if, unheld_by, CanJoin, CanLeave}
use Rattle.driver_core.specs.Members.{Membership, key_at as key_at_place}
use Rattle.driver_core.proofs.Maps.{put-same, put-other, gone-other}
use Rattle.driver_core.specs.declared.op.Op.{Op}
use Rattle.driver_core.specs.declared.op.PollOp.{PollOp}
use Rattle.rent_buf.specs.declared.fault.OutOfMemory.{OutOfMemory}
use Rattle.machine.proofs.Amended.{get-amended, get-amended-other}
use Rattle.ready_driver.specs.declared.non_block.Report.{Report}
use Rattle.ready_driver.specs.declared.ready.Direction.{Direction}
use Rattle.ready_driver.specs.declared.records.Record.{Record}
use Rattle.ready_driver.specs.Awaits.{slot_awaits, without_waiter, LeavesFor, KeysFor}
use Rattle.ready_driver.specs.Io.{IoView, IsDue, IsShown, KeepsShown}
use Rattle.ready_driver.specs.LegacyCalls.{Asking, asks_in, asks_each, unwaiting, unwaited}
use Rattle.ready_driver.specs.LegacyPolls.{HandsOver}
use Rattle.ready_driver.specs.Records.{Kept, quiet, record_at, key_at, io_at, changed, with_io, with_registered, without_record}
use Rattle.ready_driver.specs.Registry.{Handling, is_known, is_users, registered_each, without_records, unheld_if, IsSameButRoom, GivesUser}
use Rattle.ready_driver.specs.MemIo.{Memory, memory_view}
use Rattle.ready_driver.specs.Registry.{MakesReady, LetsGo, TriesFor, with_created}
use Rattle.ready_driver.specs.Reports.{with_key}
use Rattle.ready_driver.specs.Turns.{bits_by, AreShown, KeepsBits}
use Rattle.ready_driver.proofs.Agreeing.{key_in, keys-changed, keys-left}
use Rattle.ready_driver.proofs.Bearing.{bits-kept}
use Rattle.ready_driver.proofs.Owning.{keyed-ready, keys-dropped, keys-polled, keys-registered}
use Rattle.ready_driver.proofs.Paired.{some-same}
use Rattle.ready_driver.proofs.Shown.{key-before}
use Rattle.ready_driver.proofs.Parting.{settled-known, left-known}
use Rattle.driver_core.proofs.Holds.{held-op, held-user}
use Rattle.ready_driver.proofs.Registering.{keys-kept}
use Rattle.ready_driver.proofs.Standing.{joined-known}

-- The bits that a look-up reads.
abbrev bits_in : Option Record → ℕ
bits_in x = (unwrap_or (option_map (λ r. r.io) x) quiet).ready

-- The records of handles are registered: their bits stay.
pub bits-registered : (handles : List ℕ) (records : Kept) (h : ℕ) →
    (io_at (registered_each records handles) h).ready ≡ (io_at records h).ready
bits-registered [] records h = refl
bits-registered (n ∷ handles) records h =
    bits-registered handles (changed records n (with_registered true)) h ∙ bits-kept records n (with_registered true) (λ one. refl) h

-- A handle that is held once an operation left keeps its record.
left-record : (handles : List ℕ) (table : Table) (records : Kept) (k : ℕ) → CanLeave table handles →
    is_known (without_ops table handles) k ≡ true → record_at (without_records records (unheld_by table handles)) k ≡ record_at records k
left-record [] table records k may known = refl
left-record (h ∷ handles) table records k may known =
    let next = settled table h (left_holders table h) in
    let held = left-known handles next [] k may.1 known in
    let was = settled-known table h (left_holders table h) (is_nobody (left_holders table h)) (held-op table h may.0) k held.0 in
    by (is_nobody (left_holders table h)) was.1 (λ rs. left-record handles next rs k may.1 known)
  where
    by : (b : Bool) → (b ≡ true → k ≢ h) →
        ((rs : Kept) → record_at (without_records rs (unheld_by (settled table h (left_holders table h)) handles)) k ≡ record_at rs k) →
        record_at (without_records records (front_if b h (unheld_by (settled table h (left_holders table h)) handles))) k
        ≡ record_at records k
    by true apart same = same (without_record records h) ∙ gone-other records.handles h k (apart refl)
    by false apart same = same records

-- An operation waits no longer: the bits stay.
pub bits-unwaiting : (records : Kept) (number : ℕ) (awaited : Option (ℕ × Direction)) (h : ℕ) →
    (io_at (unwaiting records number awaited) h).ready ≡ (io_at records h).ready
bits-unwaiting records number None h = refl
bits-unwaiting records number (Some (n, dir)) h = bits-kept records n (with_io (without_waiter number)) (λ one. refl) h

-- And the keys.
keys-unwaiting : (records : Kept) (number : ℕ) (awaited : Option (ℕ × Direction)) (h : ℕ) →
    key_at (unwaiting records number awaited) h ≡ key_at records h
keys-unwaiting records number None h = refl
keys-unwaiting records number (Some (n, dir)) h = keys-changed records n (with_io (without_waiter number)) (λ one. refl) h

-- The bits and the key of a handle are what they were.
pub record Agree (old new : Kept) (h : ℕ) : Type 0 where
  pub bits : (io_at new h).ready ≡ (io_at old h).ready
  pub key : key_at new h ≡ key_at old h

-- So it is where the record is.
pub agree-record : (old new : Kept) (h : ℕ) → record_at new h ≡ record_at old h → Agree old new h
agree-record old new h same = record { bits = ap bits_in same; key = ap key_in same }

-- A handle that is registered was so with the same key.
abbrev pub KeepsKey : IoView → IoView → ℕ → Type 0
KeepsKey old new h = (key : ℕ) → slice_get new.keys h ≡ Some (Some key) → slice_get old.keys h ≡ Some (Some key)

-- So it is where the keys are the same.
pub keys-same : (old new : IoView) → new.keys ≡ old.keys → (h : ℕ) → KeepsKey old new h
keys-same old new same h key is = ap (λ ks. slice_get ks h) (sym same) ∙ is

-- No handle is held.
pub shown-none : {I : Type 0} (view : I → IoView) (all : Handling I) (reports : List Report) → all.table.holders ≡ empty →
    AreShown view all reports
shown-none view all reports none = record { owned = λ h known. absurd (nobody h known); shown = λ h known. absurd (nobody h known) }
  where
    nobody : (h : ℕ) → is_known all.table h ≡ true → ⊥
    nobody h known = (
        let f : false ≡ true = sym (ap (λ m. is_some (get m h)) none ∙ ap is_some (get-empty {X = Holders} nat_cmp h)) ∙ known in
        let g : ⊥ = cc in
        g)

module _ {I : Type 0} (view : I → IoView) (reports : List Report) where
  -- Of a handle whose bits and key stay.
  shown-one : (old new : IoView) (before after : Kept) (h : ℕ) → KeepsShown old new → Agree before after h →
      IsShown old h (bits_by (key_at before h) (io_at before h).ready reports) →
      IsShown new h (bits_by (key_at after h) (io_at after h).ready reports)
  shown-one old new before after h keeps same shown =
      subst (λ k. IsShown new h (bits_by k (io_at after h).ready reports)) (sym same.key)
      (subst (λ r. IsShown new h (bits_by (key_at before h) r reports)) (sym same.bits)
      (keeps h (bits_by (key_at before h) (io_at before h).ready reports) shown))

  -- Fewer handles are held, whose bits and keys stay.
  pub shown-like : (old new : Handling I) → KeepsShown (view old.io) (view new.io) →
      ((h : ℕ) → KeepsKey (view old.io) (view new.io) h) →
      ((h : ℕ) → is_known new.table h ≡ true → is_known old.table h ≡ true) →
      ((h : ℕ) → is_known new.table h ≡ true → Agree old.records new.records h) →
      AreShown view old reports → AreShown view new reports
  shown-like old new keeps keys known same shown = record {
    owned = λ h held key is. (same h held).key ∙ shown.owned h (known h held) key (keys h key is);
    shown = λ h held.
        shown-one (view old.io) (view new.io) old.records new.records h keeps (same h held) (shown.shown h (known h held));
  }

  -- The object is the same.
  keeps-same : (old new : I) → new ≡ old → KeepsShown (view old) (view new)
  keeps-same old new is = subst (λ i. KeepsShown (view old) (view i)) (sym is) (λ h ready shown. shown)

  -- Nothing but reserved memory has changed.
  pub shown-room : (old new : Handling I) → IsSameButRoom old new → AreShown view old reports → AreShown view new reports
  shown-room old new same =
      shown-like old new (keeps-same old.io new.io same.io) (keys-same (view old.io) (view new.io) (ap (λ i. (view i).keys) same.io))
      (λ h held. ap (λ m. is_some (get m h)) (sym same.table) ∙ held)
      (λ h held. agree-record old.records new.records h (ap (λ m. get m h) same.records))

  -- An operation waits no longer.
  pub shown-unwaited : {B : Type 0} (old : Handling I) (number : ℕ) (slot : Option (Slot B)) → AreShown view old reports →
      AreShown view (unwaited old number slot) reports
  shown-unwaited old number slot =
      shown-like old (unwaited old number slot) (λ h ready shown. shown) (λ h key is. is) (λ h held. held)
      (λ h held. record {
        bits = bits-unwaiting old.records number (slot_awaits slot) h;
        key = keys-unwaiting old.records number (slot_awaits slot) h;
      })

  -- Operations that are canceled wait no longer.
  pub shown-asked : {B : Type 0} (m : Membership) (a : Asking I B) (numbers : List ℕ) → AreShown view a.handling reports →
      AreShown view (asks_each m a numbers).handling reports
  shown-asked m a [] shown = shown
  shown-asked {B} m a (n ∷ numbers) shown = shown-asked m (asks_in a n (key_at_place m n)) numbers (by (key_at_place m n))
    where
      by : (x : Option ℕ) → AreShown view (asks_in a n x).handling reports
      by None = shown
      by (Some key) = shown-unwaited a.handling n (get a.slots key) shown

  -- A handle that somebody holds has other holders.
  pub shown-held : (old new : Handling I) (h : ℕ) (held : Holders) → is_known old.table h ≡ true →
      new ≡ record old { table = with_holders old.table h held } → AreShown view old reports → AreShown view new reports
  shown-held old new h held there is shown =
      subst (λ x. AreShown view x reports) (sym is) (shown-like old (record old { table = with_holders old.table h held })
      (λ g ready s. s) (λ g key is. is) (λ g known. sym (keys-kept old.table.holders h held there g) ∙ known)
      (λ g known. record { bits = refl; key = refl }) shown)

  -- The object moved.
  pub shown-moved : (old : Handling I) (io : I) → KeepsShown (view old.io) (view io) → ((h : ℕ) → KeepsKey (view old.io) (view io) h) →
      AreShown view old reports → AreShown view (record old { io = io }) reports
  shown-moved old io keeps keys =
      shown-like old (record old { io = io }) keeps keys (λ h held. held) (λ h held. record { bits = refl; key = refl })

  -- A poll by the bits of handles.
  pub shown-polled : {B : Type 0} (old new : Handling I) (awaited : Option (ℕ × Direction)) (serial task : ℕ)
      (result : Result (PollOp B) (OutOfMemory × Op)) → new.table ≡ old.table → LeavesFor awaited old.records serial task new.records
      result →
      KeysFor (view old.io).keys (view new.io).keys result → KeepsBits (view old.io) old.records (view new.io) new.records →
      AreShown view old reports → AreShown view new reports
  shown-polled old new awaited serial task result table left keys keeps shown = record {
    owned = λ h held key is. keys-left awaited old.records serial task new.records result left h
        ∙ shown.owned h (before h held) key (keys-polled (view old.io).keys (view new.io).keys result keys h key is);
    shown = λ h held.
        subst (λ k. IsShown (view new.io) h (bits_by k (io_at new.records h).ready reports))
        (sym (keys-left awaited old.records serial task new.records result left h))
        (keeps h (key_at old.records h) reports (shown.shown h (before h held)));
  }
    where
      before : (h : ℕ) → is_known new.table h ≡ true → is_known old.table h ≡ true
      before h held = ap (λ t. is_known t h) (sym table) ∙ held

  -- An operation holds handles that somebody holds.
  pub shown-joined : (old new : Handling I) (handles : List ℕ) → CanJoin old.table handles →
      new ≡ record old { table = with_ops old.table handles } → AreShown view old reports → AreShown view new reports
  shown-joined old new handles may is shown =
      subst (λ x. AreShown view x reports) (sym is) (shown-like old (record old { table = with_ops old.table handles })
      (λ h ready s. s) (λ h key is. is) (λ h held. joined-known old.table handles may h held)
      (λ h held. record { bits = refl; key = refl }) shown)

  module _ (tells memory : Bool) (in_memory : IsTrue memory) where
    -- Handles are registered.
    pub shown-ready : (old new : Handling I) (handles : List ℕ) → MakesReady view tells memory old handles new → AreShown view old reports →
        AreShown view new reports
    shown-ready old new handles ready shown = record {
      owned = λ h held key is. key_is h ∙ keyed-ready handles old.records (view old.io).keys h (shown.owned h (before h held)) key
          (ap (λ ks. slice_get ks h) (sym (ready.object.keys_are in_memory)) ∙ is);
      shown = λ h held. shown-one (view old.io) (view new.io) old.records new.records h (ready.object.shown in_memory)
          (record {
            bits = ap (λ k. (io_at k h).ready) ready.records ∙ bits-registered handles old.records h;
            key = key_is h;
          }) (shown.shown h (before h held));
    }
      where
        before : (h : ℕ) → is_known new.table h ≡ true → is_known old.table h ≡ true
        before h held = ap (λ t. is_known t h) (sym ready.table) ∙ held

        key_is : (h : ℕ) → key_at new.records h ≡ key_at old.records h
        key_is h = ap (λ k. key_at k h) ready.records ∙ keys-registered handles old.records h

    -- A new handle of the user's is due, and is registered with its key.
    tries-shown : (old new : IoView) (h key : ℕ) (taken : Bool) → TriesFor tells memory h key old new taken →
        KeepsShown old new × IsDue new h × (new.keys ≡ with_key old.keys h (Some key))
    tries-shown old new h key true tries = (tries.0.shown in_memory, tries.1 in_memory, tries.0.keys_are in_memory)
    tries-shown old new h key false tries = absurd (tries.1 in_memory)

    -- The key of a handle that was registered.
    key-given : (keys : List (Option ℕ)) (h key k : ℕ) → slice_get (with_key keys h (Some key)) h ≡ Some (Some k) →
        ◌≡◌ {A = Option ℕ} (Some key) (Some k)
    key-given keys h key k is = by (slice_get keys h) (sym (get-amended (λ old. Some key) keys h) ∙ is)
      where
        by : (x : Option (Option ℕ)) → option_map (λ old. Some key) x ≡ Some (Some k) → ◌≡◌ {A = Option ℕ} (Some key) (Some k)
        by None is = (let f : ⊥ = cc in absurd f)
        by (Some old) is = some-same (Some key) (Some k) is

    pub shown-given : (old new : Handling I) (h : ℕ) → GivesUser view tells memory old h new → AreShown view old reports →
        AreShown view new reports
    shown-given old new h gives shown = record {
      owned = λ g held key is. elim (same-or-not g h) [
        | inl e ↦
            ap (key_at new.records) e ∙ ap (λ m. key_in (get m h)) gives.records ∙ ap key_in (put-same old.records.handles h _)
            ∙ key-given (view old.io).keys h gives.key key
            (ap (λ ks. slice_get ks h) (sym tried.2) ∙ ap (slice_get (view new.io).keys) (sym e) ∙ is)
        | inr e ↦
            (same g e).key ∙ shown.owned g (known g held e) key
            (sym (get-amended-other (λ old. Some gives.key) (view old.io).keys h g e) ∙ ap (λ ks. slice_get ks g) (sym tried.2) ∙ is)
      ];
      shown = λ g held. elim (same-or-not g h) [
        | inl e ↦ λ keyed. inl (subst (IsDue (view new.io)) (sym e) tried.1 keyed)
        | inr e ↦
            shown-one (view old.io) (view new.io) old.records new.records g tried.0 (same g e) (shown.shown g (known g held e))
      ];
    }
      where
        tried : KeepsShown (view old.io) (view new.io) × IsDue (view new.io) h
            × ((view new.io).keys ≡ with_key (view old.io).keys h (Some gives.key))
        tried = tries-shown (view old.io) (view new.io) h gives.key gives.taken gives.tries

        known : (g : ℕ) → is_known new.table g ≡ true → g ≢ h → is_known old.table g ≡ true
        known g held e = sym (ap (λ m. is_some (get m g)) gives.table ∙ ap is_some (put-other old.table.holders h by_user g e)) ∙ held

        same : (g : ℕ) → g ≢ h → Agree old.records new.records g
        same g e = agree-record old.records new.records g
            (ap (λ m. get m g) gives.records ∙ put-other old.records.handles h _ g e)

    -- So is one that a call made, where it made one.
    pub shown-handed : (old new : Handling I) (made : Option ℕ) → HandsOver view tells memory old made new → AreShown view old reports →
        AreShown view new reports
    shown-handed old new None hands shown = subst (λ x. AreShown view x reports) (sym hands) shown
    shown-handed old new (Some h) hands shown = shown-given old new h hands.1 shown

    -- An operation lets the handles go that it named.
    pub shown-left : (old new : Handling I) (handles : List ℕ) → CanLeave old.table handles →
        LetsGo view tells memory old (without_ops old.table handles) (unheld_by old.table handles) new → AreShown view old reports →
        AreShown view new reports
    shown-left old new handles may lets =
        let there : (h : ℕ) → is_known new.table h ≡ true → is_known (without_ops old.table handles) h ≡ true =
        λ h held. ap (λ t. is_known t h) (sym lets.holders) ∙ held in
        shown-like old new (lets.object.shown in_memory)
        (λ h key is. keys-dropped (unheld_by old.table handles) (view old.io).keys h key
        (ap (λ ks. slice_get ks h) (sym (lets.object.keys_are in_memory)) ∙ is))
        (λ h held. (left-known handles old.table [] h may (there h held)).0)
        (λ h held. agree-record old.records new.records h
        (ap (λ k. record_at k h) lets.records ∙ left-record handles old.table old.records h may (there h held)))

    -- The user drops a hold.
    pub shown-released : (old new : Handling I) (h : ℕ) → is_users old.table h ≡ true →
        LetsGo view tells memory old (settled old.table h (without_user (holders_at old.table h)))
        (unheld_if (is_nobody (without_user (holders_at old.table h))) h) new → AreShown view old reports → AreShown view new reports
    shown-released old new h users lets =
        let held = without_user (holders_at old.table h) in
        let was : (k : ℕ) → is_known new.table k ≡ true → (is_known old.table k ≡ true) × (is_nobody held ≡ true → k ≢ h) =
        λ k known. settled-known old.table h held (is_nobody held) (held-user old.table h users) k
        (ap (λ t. is_known t k) (sym lets.holders) ∙ known) in
        shown-like old new (lets.object.shown in_memory)
        (λ k key is. keys-dropped (unheld_if (is_nobody held) h) (view old.io).keys k key
        (ap (λ ks. slice_get ks k) (sym (lets.object.keys_are in_memory)) ∙ is))
        (λ k known. (was k known).0)
        (λ k known. agree-record old.records new.records k (ap (λ r. record_at r k) lets.records ∙ gone (is_nobody held) k (was k known).1))
      where
        gone : (b : Bool) (k : ℕ) → (b ≡ true → k ≢ h) →
            record_at (without_records old.records (unheld_if b h)) k ≡ record_at old.records k
        gone true k apart = gone-other old.records.handles h k (apart refl)
        gone false k apart = refl

-- A handle was adopted, over an object that this one moved to; or nothing but reserved memory has changed.
pub shown-adopted : {I A E : Type 0} (view : I → IoView) (reports : List Report) (tells memory : Bool) → IsTrue memory →
    (result : Result A E) (old mid new : Handling I) (h : ℕ) → AreShown view old reports → AreShown view mid reports →
    OnOk result (GivesUser view tells memory mid h new) → OnErr result (IsSameButRoom old new) → AreShown view new reports
shown-adopted view reports tells memory in_memory (Ok fd) old mid new h shown moved gives same =
    shown-given view reports tells memory in_memory mid new h gives moved
shown-adopted view reports tells memory in_memory (Err e) old mid new h shown moved gives same = shown-room view reports old new same shown

-- A new handle in memory.
pub shown-gave : {A E : Type 0} (reports : List Report) (result : Result A E) (old new : Handling Memory) (kind : HandleKind) →
    AreShown memory_view old reports → OnOk result (KeepsShown (memory_view old.io) (memory_view (with_created old kind).io)) →
    OnOk result (GivesUser memory_view true true (with_created old kind) (length old.io.world) new) → OnErr result (IsSameButRoom old new) →
    AreShown memory_view new reports
shown-gave reports (Ok fd) old new kind shown keeps gives same =
    shown-given memory_view reports true true refl (with_created old kind) new (length old.io.world) gives
    (shown-moved memory_view reports old (with_created old kind).io keeps (λ h key is. key-before (Some 0) old.io.keys h key is) shown)
shown-gave reports (Err e) old new kind shown keeps gives same = shown-room memory_view reports old new same shown
