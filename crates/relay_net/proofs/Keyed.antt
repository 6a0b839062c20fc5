-- Each call of the driver leaves each handle that is held registered, over a world in memory.
use Rattle.std.proofs.Common.{ℕ, suc, ◌≡◌, ◌∙◌, ap, sym, refl, subst, arith, Bool, IsTrue, true, false, List, [], ◌∷◌, ◌++◌, length}
use Rattle.std.proofs.Common.{Option, Some, None, Ok, Err, inl, inr, length-append}
use Rattle.std.specs.Prelude.{is_some, slice_get, unwrap_or, if◌then◌else◌}
use Rattle.std.specs.FinMap as map
use Rattle.rent_buf.specs.Buf.{built}
use Rattle.rent_buf.specs.Buffer.{Buffer}
use Rattle.rent_buf.specs.Parts.{Parts}
use Rattle.rent_buf.specs.declared.plain.Buf.{Buf}
use Rattle.rent_buf.specs.declared.fault.OutOfMemory.{OutOfMemory as NoMemory}
use Rattle.handle_core.specs.Table.{Table, by_user, holders_at, nobody, with_holders, with_operation, without_operation, without_user}
use Rattle.handle_core.specs.declared.table.Holders.{Holders}
use Rattle.machine.specs.Effect.{made_by}
use Rattle.machine.specs.Lists.{has_number}
use Rattle.machine.specs.Request.{named, plain_request}
use Rattle.machine.specs.declared.request.Outcome.{Outcome}
use Rattle.machine.specs.declared.request.Outcome.TheVariants.{Count, From, Made, Fail}
use Rattle.machine.specs.declared.request.Request.{Request}
use Rattle.machine.specs.declared.request.Request.TheVariants.{Recv, Send}
use Rattle.machine.specs.declared.world.HandleKind.TheVariants.{Stream}
use Rattle.machine.proofs.Amended.{get-amended-other, get-amended-same, joined-cases, length-amended}
use Rattle.machine.proofs.Appended.{get-append-end}
use Rattle.machine.proofs.Leaving.{has-first, has-later}
use Rattle.machine.proofs.Numbers.{same-or-not}
use Rattle.driver_core.specs.Holds.{front_if, is_nobody, left_holders, named_in, settle_if, settled, unheld_by, with_ops, without_ops}
use Rattle.driver_core.specs.declared.op.Done.{Done as Ended}
use Rattle.driver_core.specs.declared.op.Op.{Op}
use Rattle.driver_core.specs.declared.op.PollOp.{PollOp}
use Rattle.driver_core.specs.declared.op.PollOp.TheVariants.{Pending, Ready}
use Rattle.driver_core.specs.declared.op.Stop.{Stop}
use Rattle.driver_core.specs.declared.op.Stop.TheVariants as stopped
use Rattle.driver_core.specs.declared.op.SubmitError.{SubmitError}
use Rattle.driver_core.specs.declared.op.Turned.{Turned}
use Rattle.driver_core.specs.declared.operations.calls.CallAnswer.TheVariants.{Done}
use Rattle.driver_core.proofs.Maps.{gone-other, gone-same, put-other}
use Rattle.ready_driver.specs.Calling.{Called}
use Rattle.ready_driver.specs.Dialing.{IsOpened, IsUnopened}
use Rattle.ready_driver.specs.Io.{EndsFor, IoView, IsWaited, made_after}
use Rattle.ready_driver.specs.Legacy.{Legacy}
use Rattle.ready_driver.specs.LegacyPolls.{HandsOver}
use Rattle.ready_driver.specs.LegacyStands.{LegacyStands}
use Rattle.ready_driver.specs.LegacyState.{LegacyState, holds_all, ops_in}
use Rattle.ready_driver.specs.LegacyTurns.{LegacyTurns, TurnsBy, turning_in}
use Rattle.ready_driver.specs.MemIo.{Memory, memory_view}
use Rattle.ready_driver.specs.Records.{Kept, changed, record_at, with_registered}
use Rattle.ready_driver.specs.declared.records.Record.{Record}
use Rattle.ready_driver.specs.Registry.{AreKeyed, GivesUser, Handling, LetsGo, MakesReady, TriesFor, is_known}
use Rattle.ready_driver.specs.Registry.{keyed_by, keyed_each, unheld_if, without_keys}
use Rattle.ready_driver.specs.Reports.{has_key, is_keyed, with_key, with_made_key}
use Rattle.ready_driver.specs.declared.non_block.NonBlockError.{NonBlockError}
use Rattle.ready_driver.proofs.Naming.{all-known}
use Rattle.ready_driver.proofs.Registering.{keys-kept}
use Rattle.ready_driver.proofs.Parting.{length-without}
use Rattle.ready_driver.proofs.Shown.{keyed-key}
use Rattle.op_driver.specs.Legacy.{LegacyDrops, LegacyPolls, LegacySubmits}
use Rattle.relay_net.specs.Connection.{far_of, near_of}
use Rattle.relay_net.specs.Flow.{IfAsked, IsPending, IsReceive, IsSend, empty_buffer}
use Rattle.relay_net.specs.Keyed.{AreRegistered, HasKeys, KeepsKeys}
use Rattle.relay_net.specs.Relay.{IsAccept, IsSound}
use Rattle.relay_net.specs.declared.connection.Connection.{Connection}
use Rattle.relay_net.proofs.Calls.{Lawful}
use Rattle.relay_net.proofs.Listens.{users_known}
use Rattle.relay_net.proofs.Made.{count_then, ended_made, opened_made, outcome_made, same_count, turned_made}
use Rattle.relay_net.proofs.Polls.{Ends, Waits, pending_waits, ready_ends, starved_waits}

-- A driver over handles in memory that stands as plain data has its keys. So each one has that was made new and called.
pub stands_keys : (driver : LegacyState Memory Buf) (D : Legacy) → LegacyStands memory_view built driver D
    → HasKeys memory_view driver.handling
stands_keys driver D stands = record {
  keyed = stands.handles.keyed;
  sized = stands.handles.sized ∙ ap length (sym stands.parts.handles);
}

-- Where nothing is called all stays.
pub keeps_none : {I : Type 0} (view : I → IoView) (memory : Bool) (driver : LegacyState I Buf) → KeepsKeys view memory driver driver
keeps_none view memory driver = record { made = omega arith; keys = λ is keys. keys }

-- One call follows another.
pub keeps_then : {I : Type 0} (view : I → IoView) (memory : Bool) (old mid new : LegacyState I Buf) → KeepsKeys view memory old mid
    → KeepsKeys view memory mid new → KeepsKeys view memory old new
keeps_then view memory old mid new first second = record {
  made = count_then (view old.handling.io).made (view mid.handling.io).made (view new.handling.io).made first.made second.made;
  keys = λ is keys. second.keys is (first.keys is keys);
}

-- The same holders have the same keys.
same_keyed : (old new : Table) (keys : List (Option ℕ)) → new.holders ≡ old.holders → AreKeyed old keys → AreKeyed new keys
same_keyed old new keys same all k known = all k (sym (ap (λ m. is_some (map.get m k)) same) ∙ known)

-- A key that is written once more leaves each handle that is held with one.
key_again : (table : Table) (keys : List (Option ℕ)) (h key : ℕ) → AreKeyed table keys → AreKeyed table (with_key keys h (Some key))
key_again table keys h key all k known = elim (same-or-not k h) [
  | inl e ↦
      let had = keyed-key keys h (subst (λ n. is_keyed keys n ≡ true) e (all k known)) in
      ap has_key (ap (slice_get (with_key keys h (Some key))) e ∙ get-amended-same (λ old. Some key) keys h (Some had.0) had.1)
  | inr e ↦ ap has_key (get-amended-other (λ old. Some key) keys h k e) ∙ all k known
]

-- So does one that is written only if the handle has a record that isn't registered.
key_by : (table : Table) (keys : List (Option ℕ)) (h : ℕ) (one : Option Record) → AreKeyed table keys → AreKeyed table (keyed_by one keys h)
key_by table keys h None all = all
key_by table keys h (Some one) all = by one.registered
  where
    by : (b : Bool) → AreKeyed table (if◌then◌else◌ {A = List (Option ℕ)} b keys (with_key keys h (Some one.key)))
    by true = all
    by false = key_again table keys h one.key all

-- It makes no key.
by_length : (keys : List (Option ℕ)) (h : ℕ) (one : Option Record) → length (keyed_by one keys h) ≡ length keys
by_length keys h None = refl
by_length keys h (Some one) = by one.registered
  where
    by : (b : Bool) → length (if◌then◌else◌ {A = List (Option ℕ)} b keys (with_key keys h (Some one.key))) ≡ length keys
    by true = refl
    by false = length-amended (λ old. Some one.key) keys h

-- So do the keys of several handles, written one after another.
each_keyed : (table : Table) (handles : List ℕ) (records : Kept) (keys : List (Option ℕ)) → AreKeyed table keys
    → AreKeyed table (keyed_each records keys handles)
each_keyed table [] records keys all = all
each_keyed table (h ∷ handles) records keys all =
    each_keyed table handles (changed records h (with_registered true)) (keyed_by (record_at records h) keys h)
    (key_by table keys h (record_at records h) all)

-- Nor do several.
each_length : (handles : List ℕ) (records : Kept) (keys : List (Option ℕ)) → length (keyed_each records keys handles) ≡ length keys
each_length [] records keys = refl
each_length (h ∷ handles) records keys =
    each_length handles (changed records h (with_registered true)) (keyed_by (record_at records h) keys h)
    ∙ by_length keys h (record_at records h)

-- A handle was held before an operation joined, where it is held then.
joined_held : (table : Table) (handles : List ℕ) → ((h : ℕ) → has_number h handles ≡ true → is_known table h ≡ true) → (k : ℕ)
    → is_known (with_ops table handles) k ≡ true → is_known table k ≡ true
joined_held table [] held k known = known
joined_held table (h ∷ handles) held k known =
    let same = keys-kept table.holders h (with_operation (holders_at table h)) (held h (has-first h handles)) in
    sym (same k)
    ∙ joined_held (with_holders table h (with_operation (holders_at table h))) handles
    (λ n there. same n ∙ held n (has-later n h handles there)) k known

-- A handle of which a holder is left, once an operation or its user dropped a hold, was held.
left_held : (table : Table) (h : ℕ) → is_nobody (left_holders table h) ≡ false → is_known table h ≡ true
left_held table h some = by-found (map.get table.holders h) refl
  where
    by-found : (found : Option Holders) → map.get table.holders h ≡ found → is_known table h ≡ true
    by-found None is =
        let no : ◌≡◌ {A = Bool} true false = sym (ap (λ o. is_nobody (without_operation (unwrap_or o nobody))) is) ∙ some in
        absurd cc
    by-found (Some holders) is = ap is_some is

-- So was one of which a holder is left, once the user gave it up.
released_held : (table : Table) (h : ℕ) → is_nobody (without_user (holders_at table h)) ≡ false → is_known table h ≡ true
released_held table h some = by-found (map.get table.holders h) refl
  where
    by-found : (found : Option Holders) → map.get table.holders h ≡ found → is_known table h ≡ true
    by-found None is =
        let no : ◌≡◌ {A = Bool} true false = sym (ap (λ o. is_nobody (without_user (unwrap_or o nobody))) is) ∙ some in
        absurd cc
    by-found (Some holders) is = ap is_some is

-- The keys without that of a handle, where nobody holds it any more.
abbrev keys_if : Bool → List (Option ℕ) → ℕ → List (Option ℕ)
keys_if true keys h = with_key keys h None
keys_if false keys h = keys

-- A handle settles: those that are held then have their keys.
settled_keyed : (table : Table) (keys : List (Option ℕ)) (h : ℕ) (held : Holders) (b : Bool) → (b ≡ false → is_known table h ≡ true)
    → AreKeyed table keys → AreKeyed (settle_if b table h held) (keys_if b keys h)
settled_keyed table keys h held true there all k known = elim (same-or-not k h) [
  | inl e ↦ (
      let no : ◌≡◌ {A = Bool} false true = sym (ap (λ q. is_known (settle_if true table h held) q) e
      ∙ ap is_some (gone-same table.holders h)) ∙ known in
      absurd cc)
  | inr e ↦ (
      ap has_key (get-amended-other (λ old. None) keys h k e) ∙ all k (sym (ap is_some (gone-other table.holders h k e)) ∙ known))
]
settled_keyed table keys h held false there all k known = all k (sym (keys-kept table.holders h held (there refl) k) ∙ known)

-- The keys go one after another.
front_keyed : (table : Table) (keys : List (Option ℕ)) (h : ℕ) (rest : List ℕ) (b : Bool)
    → AreKeyed table (without_keys (keys_if b keys h) rest) → AreKeyed table (without_keys keys (front_if b h rest))
front_keyed table keys h rest true all = all
front_keyed table keys h rest false all = all

-- That of a handle goes if nobody holds it.
unheld_keyed : (table : Table) (keys : List (Option ℕ)) (h : ℕ) (b : Bool) → AreKeyed table (keys_if b keys h)
    → AreKeyed table (without_keys keys (unheld_if b h))
unheld_keyed table keys h true all = all
unheld_keyed table keys h false all = all

-- So do those that an operation left.
left_keyed : (handles : List ℕ) (table : Table) (keys : List (Option ℕ)) → AreKeyed table keys
    → AreKeyed (without_ops table handles) (without_keys keys (unheld_by table handles))
left_keyed [] table keys all = all
left_keyed (h ∷ handles) table keys all =
    let next = settled table h (left_holders table h) in
    front_keyed (without_ops next handles) keys h (unheld_by next handles) (is_nobody (left_holders table h))
    (left_keyed handles next (keys_if (is_nobody (left_holders table h)) keys h)
    (settled_keyed table keys h (left_holders table h) (is_nobody (left_holders table h)) (left_held table h) all))

-- A handle that was made has no key yet, and all others have theirs.
appended_keyed : (table : Table) (keys : List (Option ℕ)) → AreKeyed table keys → AreKeyed table (keys ++ None ∷ [])
appended_keyed table keys all k known = elim (joined-cases keys None k) [
  | inl e ↦ (let no : ◌≡◌ {A = Bool} false true = sym (ap has_key e.1) ∙ all k known in absurd cc)
  | inr e ↦ ap has_key e.1 ∙ all k known
]

-- So it is of each handle that a call may have made.
made_keyed : (table : Table) (keys : List (Option ℕ)) (made : Option ℕ) → AreKeyed table keys → AreKeyed table (with_made_key made keys)
made_keyed table keys None all = all
made_keyed table keys (Some h) all = appended_keyed table keys all

-- Its key is one more.
appended_length : (keys : List (Option ℕ)) (made : ℕ) → length keys ≡ made → length (keys ++ None ∷ []) ≡ suc made
appended_length keys made size = let more = length-append keys (None ∷ []) in omega (arith, more, size)

-- So are as many keys as handles behind a call.
made_length : (keys : List (Option ℕ)) (made : ℕ) (outcome : Outcome) → length keys ≡ made
    → length (with_made_key (made_by outcome) keys) ≡ made_after outcome made
made_length keys made (Count k) size = size
made_length keys made (From k addr) size = size
made_length keys made (Made h) size = appended_length keys made size
made_length keys made (Fail error) size = size

-- It is the one with the last number.
appended_last : (keys now : List (Option ℕ)) (made h : ℕ) → length keys ≡ made → h ≡ made → now ≡ keys ++ None ∷ []
    → slice_get now h ≡ Some None
appended_last keys now made h size at is =
    ap (λ ks. slice_get ks h) is ∙ ap (slice_get (keys ++ None ∷ [])) (at ∙ sym size) ∙ get-append-end keys None

-- The user got a handle, which is registered.
given_keyed : (old new : Table) (keys : List (Option ℕ)) (h key : ℕ) → AreKeyed old keys → slice_get keys h ≡ Some None
    → new.holders ≡ map.insert old.holders h by_user → AreKeyed new (with_key keys h (Some key))
given_keyed old new keys h key all place held k known = elim (same-or-not k h) [
  | inl e ↦ ap has_key (ap (slice_get (with_key keys h (Some key))) e ∙ get-amended-same (λ old. Some key) keys h None place)
  | inr e ↦ (
      ap has_key (get-amended-other (λ old. Some key) keys h k e)
      ∙ all k (sym (ap is_some (ap (λ m. map.get m k) held ∙ put-other old.holders h by_user k e)) ∙ known))
]

module _ {I : Type 0} (view : I → IoView) where
  -- The same handles are registered behind a call that leaves holders and keys.
  pub same_keys : (old new : Handling I) → new.table.holders ≡ old.table.holders → (view new.io).keys ≡ (view old.io).keys
      → (view new.io).made ≡ (view old.io).made → HasKeys view old → HasKeys view new
  same_keys old new table keys made has = record {
    keyed = subst (AreKeyed new.table) (sym keys) (same_keyed old.table new.table (view old.io).keys table has.keyed);
    sized = ap length keys ∙ has.sized ∙ sym made;
  }

  module _ (tells memory : Bool) where
    -- Behind a call that let handles go.
    lets_keys : (old new : Handling I) (table : Table) (handles : List ℕ) → LetsGo view tells memory old table handles new
        → AreKeyed table (without_keys (view old.io).keys handles) → IsTrue memory → HasKeys view old → HasKeys view new
    lets_keys old new table handles lets all memory_is has = record {
      keyed = subst (λ t. AreKeyed t (view new.io).keys) (sym lets.holders)
          (subst (AreKeyed table) (sym (lets.object.keys_are memory_is)) all);
      sized = ap length (lets.object.keys_are memory_is) ∙ length-without handles (view old.io).keys ∙ has.sized ∙ sym lets.object.made;
    }

    -- Behind one that gave its user a handle that was made.
    gives_keys : (old new : Handling I) (h : ℕ) → GivesUser view tells memory old h new → slice_get (view old.io).keys h ≡ Some None
        → IsTrue memory → HasKeys view old → HasKeys view new
    gives_keys old new h gives place memory_is has = by-taken gives.taken gives.tries
      where
        by-taken : (taken : Bool) → TriesFor tells memory h gives.key (view old.io) (view new.io) taken → HasKeys view new
        by-taken true tries = record {
          keyed = subst (AreKeyed new.table) (sym (tries.0.keys_are memory_is))
              (given_keyed old.table new.table (view old.io).keys h gives.key has.keyed place gives.table);
          sized = ap length (tries.0.keys_are memory_is) ∙ length-amended (λ old. Some gives.key) (view old.io).keys h ∙ has.sized
              ∙ sym tries.0.made;
        }
        by-taken false tries = absurd (tries.1 memory_is)

    -- What an operation made becomes its user's, and is registered.
    hands_keys : (old new : Handling I) (made : Option ℕ) → HandsOver view tells memory old made new
        → ((h : ℕ) → made ≡ Some h → slice_get (view old.io).keys h ≡ Some None) → IsTrue memory → HasKeys view old → HasKeys view new
    hands_keys old new None hands place memory_is has = subst (HasKeys view) (sym hands) has
    hands_keys old new (Some h) hands place memory_is has = gives_keys old new h hands.1 (place h refl) memory_is has

    -- Behind one that registered handles.
    ready_keys : (old new : Handling I) (handles : List ℕ) → MakesReady view tells memory old handles new → IsTrue memory
        → HasKeys view old → HasKeys view new
    ready_keys old new handles ready memory_is has = record {
      keyed = subst (AreKeyed new.table) (sym (ready.object.keys_are memory_is))
          (each_keyed new.table handles old.records (view old.io).keys
          (subst (λ t. AreKeyed t (view old.io).keys) (sym ready.table) has.keyed));
      sized = ap length (ready.object.keys_are memory_is) ∙ each_length handles old.records (view old.io).keys ∙ has.sized
          ∙ sym ready.object.made;
    }

    -- A submission of a request that names handles of the user's.
    pub submitted_keys : (old new : LegacyState I Buf) (request : Request Buf Parts) (op : Op)
        → LegacySubmits view tells memory old new request (Ok op) → IsTrue (holds_all old.handling.table (named request))
        → KeepsKeys view memory old new
    submitted_keys old new request op joins held = record {
      made = same_count (view old.handling.io).made (view new.handling.io).made
          (ap (λ x. (view x.io).made) joins.handling ∙ joins.ready.object.made);
      keys = λ memory_is has.
          let mid = ready_keys old.handling joins.mid (named request) joins.ready memory_is has in
          let all : (h : ℕ) → has_number h (named request) ≡ true → is_known joins.mid.table h ≡ true =
          λ h there. ap (λ t. is_known t h) joins.ready.table ∙ all-known old.handling.table (named request) held h there in
          subst (HasKeys view) (sym joins.handling) (record {
            keyed = λ k known. mid.keyed k (joined_held joins.mid.table (named request) all k known);
            sized = mid.sized;
          });
    }

    -- So does one that is refused.
    pub refused_keys : (old new : LegacyState I Buf) (request : Request Buf Parts) (refused : SubmitError Buf)
        → LegacySubmits view tells memory old new request (Err refused) → KeepsKeys view memory old new
    refused_keys old new request refused refuses = record {
      made = same_count (view old.handling.io).made (view new.handling.io).made refuses.handles.made.object.made;
      keys = λ memory_is has. ready_keys old.handling new.handling refuses.handles.front refuses.handles.made memory_is has;
    }

    -- A drop.
    pub dropped_keys : (old new : LegacyState I Buf) (op : Op) → LegacyDrops view tells memory old new op → KeepsKeys view memory old new
    dropped_keys old new op drops = record {
      made = same_count (view old.handling.io).made (view new.handling.io).made drops.handles.object.made;
      keys = λ memory_is has.
          let handles = named_in (map.get old.slots.values op.key) in
          record {
            keyed = subst (λ t. AreKeyed t (view new.handling.io).keys) (sym drops.handles.holders)
                (subst (AreKeyed (without_ops old.handling.table handles)) (sym (drops.handles.object.keys_are memory_is))
                (left_keyed handles old.handling.table (view old.handling.io).keys has.keyed));
            sized = ap length (drops.handles.object.keys_are memory_is)
                ∙ length-without (unheld_by old.handling.table handles) (view old.handling.io).keys ∙ has.sized
                ∙ sym drops.handles.object.made;
          };
    }

    -- A release.
    pub released_keys : (old new : LegacyState I Buf) (fd : ℕ)
        → LetsGo view tells memory old.handling (settled old.handling.table fd (without_user (holders_at old.handling.table fd)))
        (unheld_if (is_nobody (without_user (holders_at old.handling.table fd))) fd) new.handling → KeepsKeys view memory old new
    released_keys old new fd lets = record {
      made = same_count (view old.handling.io).made (view new.handling.io).made lets.object.made;
      keys = λ memory_is has.
          let table = old.handling.table in
          let held = without_user (holders_at table fd) in
          lets_keys old.handling new.handling (settled table fd held) (unheld_if (is_nobody held) fd) lets
          (unheld_keyed (settled table fd held) (view old.handling.io).keys fd (is_nobody held)
          (settled_keyed table (view old.handling.io).keys fd held (is_nobody held) (released_held table fd) has.keyed)) memory_is has;
    }

    -- A turn, however it stopped.
    waited_keys : (old new : Handling I) → IsWaited tells memory (view old.io) (view new.io) → new.table ≡ old.table → IsTrue memory
        → HasKeys view old → HasKeys view new
    waited_keys old new waited table memory_is has =
        same_keys old new (ap (λ t. t.holders) table) (waited.keys_are memory_is) waited.made has

    -- A turn.
    pub turned_keys : (reporting : Bool) (old new : LegacyState I Buf) (turned : Turned)
        → LegacyTurns view tells reporting memory old new turned → KeepsKeys view memory old new
    turned_keys reporting old new turned turns = record {
      made = same_count (view old.handling.io).made (view new.handling.io).made
          (turned_made view tells memory reporting old new turned turns);
      keys = λ memory_is has. by-stop turned.stop turns.does memory_is has;
    }
      where
        by-stop : (s : Option Stop) → TurnsBy view tells reporting memory (turning_in old old.asked) (turning_in new turns.tasks) s
            → IsTrue memory → HasKeys view old.handling → HasKeys view new.handling
        by-stop None does memory_is has =
            waited_keys old.handling new.handling does.object (ap (λ h. h.table) does.treats.handling) memory_is has
        by-stop (Some stopped.RingFault) does memory_is has = absurd does
        by-stop (Some stopped.Busy) does memory_is has = absurd does
        by-stop (Some (stopped.BadCompletion word)) does memory_is has = absurd does
        by-stop (Some (stopped.Os code)) does memory_is has =
            waited_keys old.handling new.handling does.0.object (ap (λ h. h.table) does.0.treats.handling) memory_is has
        by-stop (Some stopped.OutOfMemory) (inl same) memory_is has =
            subst (HasKeys view) (sym (ap (λ t. t.handling) same)) has
        by-stop (Some stopped.OutOfMemory) (inr starves) memory_is has =
            waited_keys old.handling new.handling starves.stops.object (ap (λ h. h.table) starves.stops.treats.handling) memory_is has

    -- A handle was opened, or none was.
    pub opened_keys : (old new : LegacyState I Buf) (h : ℕ) → IsOpened view tells memory Stream old.handling new.handling h
        → KeepsKeys view memory old new
    opened_keys old new h opened = record {
      made = opened_made view tells memory old.handling new.handling h opened;
      keys = λ memory_is has.
          let before = (view old.handling.io).keys in
          gives_keys opened.mid new.handling h opened.user
          (appended_last before (view opened.mid.io).keys (view old.handling.io).made h has.sized opened.made.number
          (opened.made.keys memory_is)) memory_is (record {
            keyed = subst (AreKeyed opened.mid.table) (sym (opened.made.keys memory_is)) (appended_keyed opened.mid.table before
                (same_keyed old.handling.table opened.mid.table before opened.holders has.keyed));
            sized = ap length (opened.made.keys memory_is) ∙ appended_length before (view old.handling.io).made has.sized
                ∙ sym opened.made.made;
          });
    }

    -- So does one that failed.
    pub unopened_keys : (old new : LegacyState I Buf) (why : NonBlockError)
        → IsUnopened view tells memory old.handling new.handling why → KeepsKeys view memory old new
    unopened_keys old new why unopened = record {
      made = same_count (view old.handling.io).made (view new.handling.io).made unopened.object.made;
      keys = λ memory_is has. same_keys old.handling new.handling unopened.holders (unopened.object.keys_are memory_is)
          unopened.object.made has;
    }

    module _ (files : I → ℕ → Bool) (called : Called I) (law : Lawful view tells memory called) where
      -- A poll that returned no operation.
      waits_keys : (old new : LegacyState I Buf) (op : Op) → Waits view tells memory files called law old new op
          → KeepsKeys view memory old new
      waits_keys old new op waits = record {
        made = same_count (view old.handling.io).made (view new.handling.io).made waits.made;
        keys = λ memory_is has. same_keys old.handling new.handling waits.holders (waits.keys memory_is) waits.made has;
      }

      -- A poll that is pending, or for which memory ran out.
      pub pending_keys : (old new : LegacyState I Buf) (op back : Op) (answer : PollOp Buf) (task : ℕ) → answer ≡ Pending back
          → LegacyPolls files built called view tells memory old new op task (Ok answer) → KeepsKeys view memory old new
      pending_keys old new op back answer task is polls =
          waits_keys old new op (pending_waits view tells memory files called law old new op back task
          (subst (λ a. LegacyPolls files built called view tells memory old new op task (Ok a)) is polls))

      -- The latter.
      pub starved_keys : (old new : LegacyState I Buf) (op : Op) (error : NoMemory × Op) (task : ℕ)
          → LegacyPolls files built called view tells memory old new op task (Err error) → KeepsKeys view memory old new
      starved_keys old new op error task polls =
          waits_keys old new op (starved_waits view tells memory files called law old new op error task polls)

      -- One that returned its operation: a handle that its call made is the object's next one.
      ended_keys : (old new : LegacyState I Buf) (op : Op) (done : Ended Buf)
          (ends : Ends view tells memory files called law old new op done)
          → ((h : ℕ) → ends.call ≡ Made h → h ≡ (view old.handling.io).made) → KeepsKeys view memory old new
      ended_keys old new op done ends number = record {
        made = ended_made view tells memory files called law old new op done ends;
        keys = λ memory_is has.
            let before = (view old.handling.io).keys in
            let keys = (ends.made.called memory_is).1 in
            let mid : HasKeys view ends.mid = record {
              keyed = subst (AreKeyed ends.mid.table) (sym keys) (made_keyed ends.mid.table before (made_by ends.call)
                  (same_keyed old.handling.table ends.mid.table before ends.table has.keyed));
              sized = ap length keys ∙ made_length before (view old.handling.io).made ends.call has.sized ∙ sym ends.made.made;
            } in
            let place : (h : ℕ) → made_by done.outcome ≡ Some h → slice_get (view ends.mid.io).keys h ≡ Some None = λ h made.
            let same : ends.call ≡ Made h = outcome_made ends.mid.table ends.call h (ap made_by (sym ends.outcome) ∙ made) in
            appended_last before (view ends.mid.io).keys (view old.handling.io).made h has.sized (number h same)
            (keys ∙ ap (λ o. with_made_key (made_by o) before) same) in
            let handed = hands_keys ends.mid ends.handed (made_by done.outcome) ends.hands place memory_is mid in
            lets_keys ends.handed new.handling (without_ops ends.handed.table (named done.request))
            (unheld_by ends.handed.table (named done.request)) ends.lets
            (left_keyed (named done.request) ends.handed.table (view ends.handed.io).keys handed.keyed) memory_is handed;
      }

      -- A receive, or a send, makes none.
      pub received_keys : (old new : LegacyState I Buf) (op : Op) (answer : PollOp Buf) (done : Ended Buf) (task room from : ℕ)
          → answer ≡ Ready done → LegacyPolls files built called view tells memory old new op task (Ok answer)
          → IsPending (ops_in old) op (IsReceive room from) → KeepsKeys view memory old new
      received_keys old new op answer done task room from is polls pending =
          let asked = subst (λ a. LegacyPolls files built called view tells memory old new op task (Ok a)) is polls in
          let ends = ready_ends view tells memory files called law old new op done task (IsReceive room from) asked pending in
          let own : IsReceive room from ends.request = subst (λ a. IfAsked a (IsReceive room from)) ends.asked pending.asks in
          let request = own.request_is in
          ended_keys old new op done ends (λ h made.
          let no : ◌≡◌ {A = Bool} false true = (subst (EndsFor (Recv from (empty_buffer room)) (plain_request built done.request)) made
          (subst (λ r. EndsFor r (plain_request built done.request) ends.call) request ends.made.ends)).0 in
          absurd cc)

      -- A poll that returned a send.
      pub sent_keys : (old new : LegacyState I Buf) (op : Op) (answer : PollOp Buf) (done : Ended Buf) (task to count : ℕ)
          → answer ≡ Ready done → LegacyPolls files built called view tells memory old new op task (Ok answer)
          → IsPending (ops_in old) op (IsSend to count) → KeepsKeys view memory old new
      sent_keys old new op answer done task to count is polls pending =
          let asked = subst (λ a. LegacyPolls files built called view tells memory old new op task (Ok a)) is polls in
          let ends = ready_ends view tells memory files called law old new op done task (IsSend to count) asked pending in
          let request : IsSend to count ends.request = subst (λ a. IfAsked a (IsSend to count)) ends.asked pending.asks in
          ended_keys old new op done ends (λ h made.
          let no : ◌≡◌ {A = Bool} false true = (subst (EndsFor (Send to request.buf) (plain_request built done.request)) made
          (subst (λ r. EndsFor r (plain_request built done.request) ends.call) request.request_is ends.made.ends)).0 in
          absurd cc)

      -- An accept makes the object's next handle.
      pub accepted_keys : ((before : I) (request : Request Buffer Parts) (after : I) (now : Request Buffer Parts) (h : ℕ)
          → called before request after now (Done (Made h)) → h ≡ (view before).made)
          → (old new : LegacyState I Buf) (op : Op) (answer : PollOp Buf) (done : Ended Buf) (task listener : ℕ) → answer ≡ Ready done
          → LegacyPolls files built called view tells memory old new op task (Ok answer) → IsPending (ops_in old) op (IsAccept listener)
          → KeepsKeys view memory old new
      accepted_keys numbered old new op answer done task listener is polls pending =
          let asked = subst (λ a. LegacyPolls files built called view tells memory old new op task (Ok a)) is polls in
          let ends = ready_ends view tells memory files called law old new op done task (IsAccept listener) asked pending in
          ended_keys old new op done ends (λ h made.
          numbered old.handling.io ends.request ends.mid.io (plain_request built done.request) h
          (subst (λ o. called old.handling.io ends.request ends.mid.io (plain_request built done.request) (Done o)) made ends.calls))

-- The handles of a relay are its user's, so they are registered.
pub sound_registered : {room : ℕ} {I : Type 0} (view : I → IoView) (driver : LegacyState I Buf) (listener : ℕ) (accept : Option Op)
    (all : List Connection) → IsSound room (ops_in driver) driver.handling.table listener accept all → HasKeys view driver.handling
    → AreRegistered view driver listener all
sound_registered view driver listener accept all sound has = record {
  held = has;
  listens = has.keyed listener (users_known driver.handling.table listener sound.listens);
  near = λ conn among. has.keyed (near_of conn) (users_known driver.handling.table (near_of conn)
      (sound.served.each among.0 conn among.1).near);
  far = λ conn among. has.keyed (far_of conn) (users_known driver.handling.table (far_of conn)
      (sound.served.each among.0 conn among.1).far);
}
