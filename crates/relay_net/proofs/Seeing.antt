-- The bits of a handle show what it has, through each call of the driver over a world in memory.
use Rattle.std.proofs.Common.{ℕ, zero, suc, ◌≡◌, ◌≢◌, ◌∙◌, ◌⊎◌, ap, sym, refl, subst, arith, Bool, IsTrue, true, false, not, true≢false}
use Rattle.std.proofs.Common.{List, [], ◌∷◌, ◌++◌, Option, Some, None, Ok, Err, inl, inr, drop}
use Rattle.std.specs.Prelude.{◌+◌, ◌-◌, ◌^◌, ◌<◌, ◌==◌, ◌||◌, bit_and, if◌then◌else◌, nat_lt, option_map, slice_get, unwrap_or, IsSome, ◌≤◌}
use Rattle.std.specs.FinMap as map
use Rattle.std.proofs.lemmas.Bool.Decides.{nat_tests}
use Rattle.std.proofs.lemmas.Nat.{and_assoc, and_comm, and_le_r, and-not}
use lib.Bits.{and_zero_r}
use Rattle.rent_buf.specs.Parts.{Parts}
use Rattle.rent_buf.specs.declared.fault.OutOfMemory.{OutOfMemory as NoMemory}
use Rattle.rent_buf.specs.declared.plain.Buf.{Buf}
use Rattle.handle_core.specs.Table.{Table}
use Rattle.handle_core.specs.declared.table.Holders.{Holders}
use Rattle.machine.specs.Attempt.{answer_if, attempt, is_readable, is_readable_at, readable_by_kind, reads_at_once}
use Rattle.machine.specs.Effect.{sent_to_kind, with_sent, without_front}
use Rattle.machine.specs.Lists.{amended, is_empty, passes}
use Rattle.machine.specs.World.{fresh}
use Rattle.machine.specs.declared.request.Call.TheVariants.{In, Accept}
use Rattle.machine.specs.declared.request.Request.{Request}
use Rattle.machine.specs.declared.request.Told.{Told}
use Rattle.machine.specs.declared.request.Told.TheVariants.{Count, Fail}
use Rattle.machine.specs.declared.world.HandleKind.TheVariants.{Stream}
use Rattle.machine.specs.declared.world.HandleState.{HandleState}
use Rattle.machine.specs.declared.world.call.TheConstants.{INVALID}
use Rattle.machine.proofs.Amended.{get-amended, get-amended-other}
use Rattle.machine.proofs.Numbers.{same-or-not}
use Rattle.driver_core.specs.Holds.{front_if, is_nobody, left_holders, named_in, settled, unheld_by, without_ops}
use Rattle.driver_core.specs.declared.op.Op.{Op}
use Rattle.driver_core.specs.declared.op.PollOp.TheVariants.{Pending, Ready}
use Rattle.driver_core.specs.declared.op.Done.{Done as Ended}
use Rattle.driver_core.specs.declared.op.SubmitError.{SubmitError}
use Rattle.driver_core.proofs.Lists.{get-front}
use Rattle.driver_core.proofs.Maps.{gone-other, put-other}
use Rattle.ready_driver.specs.Awaits.{LeavesFor, LeavesIf, is_met_at, unless, with_waiter, without_bits, without_waiter}
use Rattle.ready_driver.specs.Io.{IoView}
use Rattle.ready_driver.specs.LegacyCalls.{unwaiting}
use Rattle.ready_driver.specs.LegacyPolls.{HandsOver}
use Rattle.ready_driver.specs.LegacyState.{LegacyState}
use Rattle.ready_driver.specs.Ready.{mask_of, meets, without}
use Rattle.ready_driver.specs.Records.{Kept, changed, io_at, quiet, record_at, with_io, without_record}
use Rattle.ready_driver.specs.Registry.{Handling, LetsGo, is_old, is_users, unheld_if, without_records}
use Rattle.ready_driver.specs.Reports.{ShowsBits}
use Rattle.ready_driver.specs.ScheduledIo.{Scheduled, entry_of}
use Rattle.ready_driver.specs.declared.ready.Direction.{Direction}
use Rattle.ready_driver.specs.declared.ready.Direction.TheVariants as towards
use Rattle.ready_driver.specs.declared.records.Record.{Record}
use Rattle.ready_driver.proofs.Bearing.{bits-beside, bits-kept}
use Rattle.ready_driver.proofs.Recorded.{changed-none, io-changed}
use Rattle.ready_driver.proofs.Bits.{below-power}
use Rattle.ready_driver.proofs.Showing.{bits-registered, bits-unwaiting}
use Rattle.op_driver.specs.Legacy.{LegacyDrops, LegacySubmits}
use Rattle.net_stream.specs.Told.{IsStream}
use Rattle.relay_net.specs.Forwarding.{KeepsSeen, KeepsSeenBut}
use Rattle.relay_net.specs.Keeping.{MovesBetween, world_of}
use Rattle.relay_net.proofs.Calls.{left_users}
use Rattle.relay_net.proofs.Opens.{unknown_unheld}

-- Bits that are taken away leave what a set of others has of these.
without_apart : (a b c : ℕ) → bit_and b c ≡ 0 → bit_and (without a b) c ≡ bit_and a c
without_apart a b c apart =
    let d : ℕ = bit_and a c in
    let w : ℕ = b + (a + c) in
    let low : w < 2 ^ w = below-power w in
    let rest : ℕ = 2 ^ w - 1 - b in
    let few : d ≤ c = and_le_r a c in
    let parts : bit_and rest a + bit_and b a ≡ a = and-not w b a (omega (arith, low)) (omega (arith, low)) in
    let swapped = and_comm b a in
    let is : without a b ≡ bit_and rest a = omega (arith, parts, swapped) in
    let own : bit_and rest d + bit_and b d ≡ d = and-not w b d (omega (arith, low)) (omega (arith, low, few)) in
    let none : bit_and b d ≡ 0 = sym (and_assoc c b a) ∙ (ap (λ x. bit_and x c) (and_comm b a) ∙ (and_assoc c a b
    ∙ (ap (bit_and a) apart ∙ and_zero_r a))) in
    ap (λ x. bit_and x c) is ∙ (and_assoc c rest a ∙ omega (arith, own, none))

-- Without the bits of reads a handle's bits meet what they met of writes.
writes_kept : (ready : ℕ) → meets ready (mask_of towards.Write) ≡ true
    → meets (without ready (mask_of towards.Read)) (mask_of towards.Write) ≡ true
writes_kept ready met =
    ap (λ x. not (x == 0)) (without_apart ready (mask_of towards.Read) (mask_of towards.Write) refl) ∙ met

-- What waits behind the first bytes waited with them.
rest_some : (k : ℕ) (bytes : List ℕ) (ended : Bool) → not (is_empty (drop k bytes)) || ended ≡ true → not (is_empty bytes) || ended ≡ true
rest_some zero bytes ended is = is
rest_some (suc k) [] ended is = is
rest_some (suc k) (b ∷ bytes) ended is = refl

-- A stream that a call may have moved bytes of is readable only if it was.
amended_readable : (change : HandleState → HandleState) → ((handle : HandleState) → handle.kind ≡ Stream → is_readable (change handle) ≡
    true
    → is_readable handle ≡ true) → (world : List HandleState) (h g : ℕ) → IsStream world g → is_readable_at (amended world h change) g ≡
    true
    → is_readable_at world g ≡ true
amended_readable change falls world h g stream is = elim (same-or-not g h) [
  | inl e ↦ ap (passes is_readable) stream.there ∙ falls stream.handle stream.kind
      (sym (ap (passes is_readable) (ap (slice_get (amended world h change)) e ∙ (get-amended change world h
      ∙ ap (option_map change) (sym (ap (slice_get world) e) ∙ stream.there)))) ∙ is)
  | inr e ↦ sym (ap (passes is_readable) (get-amended-other change world h g e)) ∙ is
]

-- What can be read behind a receive could be read before it.
taken_falls : (k : ℕ) (handle : HandleState) → handle.kind ≡ Stream → is_readable (without_front k handle) ≡ true → is_readable handle ≡
    true
taken_falls k handle stream is =
    ap (λ kind. readable_by_kind kind handle) stream
    ∙ rest_some k handle.input handle.ended (sym (ap (λ kind. readable_by_kind kind (without_front k handle)) stream) ∙ is)

-- And behind a send.
sent_falls : (bytes : List ℕ) (handle : HandleState) → handle.kind ≡ Stream → is_readable (with_sent bytes handle) ≡ true
    → is_readable handle ≡ true
sent_falls bytes handle stream is =
    ap (λ kind. readable_by_kind kind handle) stream
    ∙ (sym (ap (λ kind. is_readable (sent_to_kind kind bytes handle)) stream
    ∙ ap (λ kind. readable_by_kind kind (sent_to_kind Stream bytes handle)) stream) ∙ is)

-- So it is of each that moves between two handles.
pub moves_readable : (old new : List HandleState) (from to g : ℕ) → MovesBetween old from to new → IsStream old g
    → is_readable_at new g ≡ true → is_readable_at old g ≡ true
moves_readable old new from to g (inl (inl same)) stream is = ap (λ w. is_readable_at w g) (sym same) ∙ is
moves_readable old new from to g (inl (inr taken)) stream is =
    amended_readable (without_front taken.0) (taken_falls taken.0) old from g stream (ap (λ w. is_readable_at w g) (sym taken.1) ∙ is)
moves_readable old new from to g (inr (inl same)) stream is = ap (λ w. is_readable_at w g) (sym same) ∙ is
moves_readable old new from to g (inr (inr sent)) stream is =
    amended_readable (with_sent sent.0) (sent_falls sent.0) old to g stream (ap (λ w. is_readable_at w g) (sym sent.1) ∙ is)

-- A stream that was there is readable beside a handle more only if it was.
pub appended_readable : (world : List HandleState) (g : ℕ) → IsStream world g → is_readable_at (world ++ fresh Stream ∷ []) g ≡ true
    → is_readable_at world g ≡ true
appended_readable world g stream is =
    ap (passes is_readable) stream.there
    ∙ (sym (ap (passes is_readable) (get-front world (fresh Stream ∷ []) g stream.handle stream.there)) ∙ is)

-- A receive, or an accept, that would block is of a handle that isn't readable.
early_unread : (world : List HandleState) (h : ℕ) → passes reads_at_once (slice_get world h) ≡ false → is_readable_at world h ≡ false
early_unread world h early = by (slice_get world h) early
  where
    by : (found : Option HandleState) → passes reads_at_once found ≡ false → passes is_readable found ≡ false
    by None is = refl
    by (Some handle) is = search (arith, nat_tests)

-- A call that would block waits to read: no other test lets it block.
blocked_early : (b f : Bool) (why : Told) (count : ℕ) → answer_if (not b) None (answer_if (not f) (Some why) (Some (Count count))) ≡ None
    → b ≡ false
blocked_early false f why count is = refl
blocked_early true true why count is = absurd cc
blocked_early true false why count is = absurd cc

-- A receive that would block has nothing to read.
pub receive_unread : (world : List HandleState) (h want : ℕ) → attempt world (In h want) ≡ None → is_readable_at world h ≡ false
receive_unread world h want none =
    early_unread world h (blocked_early (passes reads_at_once (slice_get world h)) _ (Fail INVALID) _ none)

-- Nor has an accept.
pub accept_unread : (world : List HandleState) (h : ℕ) → attempt world (Accept h) ≡ None → is_readable_at world h ≡ false
accept_unread world h none =
    early_unread world h (blocked_early (passes reads_at_once (slice_get world h)) _ (Fail INVALID) _ none)

-- The bits that a look-up reads.
abbrev bits_in : Option Record → ℕ
bits_in found = (unwrap_or (option_map (λ r. r.io) found) quiet).ready

-- Equal records of all handles have equal bits.
pub same_bits : (old new : Kept) (h : ℕ) → new.handles ≡ old.handles → (io_at new h).ready ≡ (io_at old h).ready
same_bits old new h same = ap (λ m. bits_in (map.get m h)) same

-- What a call made of the bits of a handle: they are as they were; or it would have blocked, and those of its direction are gone.
abbrev pub BitsFor : Bool → ℕ → Direction → Kept → Kept → ℕ → Type 0
BitsFor met own dir old new h = ((io_at new h).ready ≡ (io_at old h).ready)
    ⊎ ((h ≡ own) × (met ≡ true) × ((io_at new h).ready ≡ without (io_at old h).ready (mask_of dir)))

module _ (records after : Kept) (own number task : ℕ) (dir : Direction) where
  cleared : (h : ℕ) → after ≡ changed records own (with_io (λ io. with_waiter (entry_of number task dir) (without_bits dir io)))
      → ((io_at after h).ready ≡ (io_at records h).ready)
      ⊎ ((h ≡ own) × ((io_at after h).ready ≡ without (io_at records h).ready (mask_of dir)))
  cleared h left = elim (same-or-not h own) [
    | inl e ↦ by (record_at records own) refl e
    | inr e ↦ inl (ap (λ k. (io_at k h).ready) left
        ∙ bits-beside records own (with_io (λ io. with_waiter (entry_of number task dir) (without_bits dir io))) h e)
  ]
    where
      by : (found : Option Record) → record_at records own ≡ found → h ≡ own
          → ((io_at after h).ready ≡ (io_at records h).ready)
          ⊎ ((h ≡ own) × ((io_at after h).ready ≡ without (io_at records h).ready (mask_of dir)))
      by None none e = inl (ap (λ k. (io_at k h).ready) (left
          ∙ changed-none records own (with_io (λ io. with_waiter (entry_of number task dir) (without_bits dir io))) none))
      by (Some one) is e =
          let same = ap (λ k. io_at k own) left
          ∙ io-changed records own (λ io. with_waiter (entry_of number task dir) (without_bits dir io))
          (subst (λ (x : Option Record). IsSome x) (sym is) refl) in
          inr (
            e,
            ap (λ k. (io_at after k).ready) e ∙ (ap (λ (io : Scheduled). io.ready) same
                ∙ ap (λ k. without (io_at records k).ready (mask_of dir)) (sym e)),
          )

  waits_by : (B : Type 0) (back : Op) (b : Bool) → meets (io_at records own).ready (mask_of dir) ≡ b
      → LeavesIf {B = B} b records own (entry_of number task dir) after (Ok (Pending back)) → (h : ℕ) → BitsFor b own dir records after h
  waits_by B back false unmet left h = inl (ap (λ k. (io_at k h).ready) left
      ∙ bits-kept records own (with_io (with_waiter (entry_of number task dir))) (λ one. refl) h)
  waits_by B back true met left h = elim (cleared h left) [
    | inl same ↦ inl same
    | inr gone ↦ inr (gone.0, refl, gone.1)
  ]

  -- What a pending poll leaves of the bits of a handle, which its operation may wait for.
  pub pending_bits : (B : Type 0) (files : ℕ → Bool) (back : Op)
      → LeavesFor {B = B} (unless files (Some (own, dir))) records number task after (Ok (Pending back)) → (h : ℕ)
      → BitsFor (is_met_at records (unless files (Some (own, dir)))) own dir records after h
  pending_bits B files back left h = by-file (files own) left
    where
      by-file : (b : Bool)
          → LeavesFor {B = B} (if b then None else Some (own, dir)) records number task after (Ok (Pending back))
          → BitsFor (is_met_at records (if b then None else Some (own, dir))) own dir records after h
      by-file true left = inl (ap (λ k. (io_at k h).ready) left)
      by-file false left = waits_by B back (meets (io_at records own).ready (mask_of dir)) refl left h

-- A poll that returned its operation, and one that memory ran out for, leave all bits.
pub ready_bits : (B : Type 0) (records after : Kept) (number task : ℕ) (awaited : Option (ℕ × Direction)) (done : Ended B)
    → LeavesFor awaited records number task after (Ok (Ready done)) → (h : ℕ) → (io_at after h).ready ≡ (io_at records h).ready
ready_bits B records after number task None done left h = ap (λ k. (io_at k h).ready) left
ready_bits B records after number task (Some (own, dir)) done left h = by (meets (io_at records own).ready (mask_of dir)) left
  where
    by : (b : Bool) → LeavesIf b records own (entry_of number task dir) after (Ok (Ready done))
        → (io_at after h).ready ≡ (io_at records h).ready
    by false none = absurd none
    by true left = ap (λ k. (io_at k h).ready) left ∙ bits-kept records own (with_io (without_waiter number)) (λ one. refl) h

-- A poll that memory ran out for left the bits of each handle.
pub starved_bits : (B : Type 0) (records after : Kept) (number task : ℕ) (awaited : Option (ℕ × Direction)) (error : NoMemory × Op)
    → LeavesFor {B = B} awaited records number task after (Err error) → (h : ℕ) → (io_at after h).ready ≡ (io_at records h).ready
starved_bits B records after number task None error left h = ap (λ k. (io_at k h).ready) left
starved_bits B records after number task (Some (own, dir)) error left h = by (meets (io_at records own).ready (mask_of dir)) left
  where
    by : (b : Bool) → LeavesIf {B = B} b records own (entry_of number task dir) after (Err error)
        → (io_at after h).ready ≡ (io_at records h).ready
    by false left = ap (λ k. (io_at k h).ready) left
    by true left = ap (λ k. (io_at k h).ready) left

-- A handle of the user isn't let go by an operation that leaves.
users_held_still : (table : Table) (h k : ℕ) → is_users table k ≡ true → is_nobody (left_holders table h) ≡ true → k ≢ h
users_held_still table h k held nobody_left same =
    let own : is_users table h ≡ true = ap (is_users table) (sym same) ∙ held in
    by (left_holders table h) nobody_left own
  where
    by : (left : Holders) → is_nobody left ≡ true → nat_lt 0 left.user ≡ true → ⊥
    by left none held = search (arith, nat_tests)

-- Its record stays.
users_record : (handles : List ℕ) (table : Table) (records : Kept) (k : ℕ) → is_users table k ≡ true
    → record_at (without_records records (unheld_by table handles)) k ≡ record_at records k
users_record [] table records k held = refl
users_record (h ∷ handles) table records k held =
    let next = settled table h (left_holders table h) in
    by (is_nobody (left_holders table h)) refl (λ rs. users_record handles next rs k (left_users table (h ∷ []) k held))
  where
    by : (b : Bool) → is_nobody (left_holders table h) ≡ b
        → ((rs : Kept) → record_at (without_records rs (unheld_by (settled table h (left_holders table h)) handles)) k ≡ record_at rs k)
        → record_at (without_records records (front_if b h (unheld_by (settled table h (left_holders table h)) handles))) k
        ≡ record_at records k
    by true is same = same (without_record records h) ∙ gone-other records.handles h k (users_held_still table h k held is)
    by false is same = same records

-- A handle that the user gets leaves the bits of each other one that it holds.
given_bits : (records after : Kept) (table : Table) (h k : ℕ) (one : Record) → is_old table h ≡ false
    → after.handles ≡ map.insert records.handles h one → is_users table k ≡ true → (io_at after k).ready ≡ (io_at records k).ready
given_bits records after table h k one fresh is held =
    ap (λ m. bits_in (map.get m k)) is
    ∙ ap bits_in (put-other records.handles h one k (λ same.
    let no : ◌≡◌ {A = Bool} true false = sym held ∙ (ap (is_users table) same ∙ unknown_unheld table h fresh) in absurd cc))

-- Bits that showed a handle show it still, where these stay, and it is readable only if it was.
pub shows_still : (old new : Bool) (ready now : ℕ) → now ≡ ready → (new ≡ true → old ≡ true) → ShowsBits old ready → ShowsBits new now
shows_still old new ready now same falls shows = record {
  writes = ap (λ r. meets r (mask_of towards.Write)) same ∙ shows.writes;
  reads = λ is. ap (λ r. meets r (mask_of towards.Read)) same ∙ shows.reads (falls is);
}

-- So they do without those of reads, where it isn't readable.
pub shows_unread : (old new : Bool) (ready now : ℕ) → now ≡ without ready (mask_of towards.Read) → (new ≡ true → old ≡ true) → old ≡ false
    → ShowsBits old ready → ShowsBits new now
shows_unread old new ready now gone falls unread shows = record {
  writes = ap (λ r. meets r (mask_of towards.Write)) gone ∙ writes_kept ready shows.writes;
  reads = λ is. absurd (true≢false (sym (falls is) ∙ unread));
}

module _ {I : Type 0} (view : I → IoView) (tells memory : Bool) (told : IsTrue memory → IsTrue tells) where
  -- A call that leaves the world and the bits of each handle of the user keeps what they show.
  pub keeps_seen : (old new : LegacyState I Buf) → (IsTrue tells → world_of view new ≡ world_of view old)
      → ((h : ℕ) → is_users old.handling.table h ≡ true → (io_at new.handling.records h).ready ≡ (io_at old.handling.records h).ready)
      → KeepsSeen view memory old new
  keeps_seen old new world bits memory_is h held stream seen =
      shows_still (is_readable_at (world_of view old) h) (is_readable_at (world_of view new) h) (io_at old.handling.records h).ready
      (io_at new.handling.records h).ready (bits h held) (λ is. ap (λ w. is_readable_at w h) (sym (world (told memory_is))) ∙ is) seen

  -- A submission.
  pub submitted_seen : (old new : LegacyState I Buf) → (IsTrue tells → world_of view new ≡ world_of view old)
      → ((h : ℕ) → (io_at new.handling.records h).ready ≡ (io_at old.handling.records h).ready) → KeepsSeen view memory old new
  submitted_seen old new world bits = keeps_seen old new world (λ h held. bits h)

  -- One that was refused.
  pub refused_seen : (old new : LegacyState I Buf) (request : Request Buf Parts) (refused : SubmitError Buf)
      → LegacySubmits view tells memory old new request (Err refused) → KeepsSeen view memory old new
  refused_seen old new request refused refuses =
      keeps_seen old new refuses.handles.made.object.world (λ h held. ap (λ r. (io_at r h).ready) refuses.handles.made.records
      ∙ bits-registered refuses.handles.front old.handling.records h)

  -- A drop.
  pub dropped_seen : (old new : LegacyState I Buf) (op : Op) → LegacyDrops view tells memory old new op → KeepsSeen view memory old new
  dropped_seen old new op drops =
      keeps_seen old new drops.handles.object.world (λ h held. ap (λ r. (io_at r h).ready) drops.handles.records
      ∙ (ap bits_in (users_record (named_in (map.get old.slots.values op.key)) old.handling.table _ h held)
      ∙ bits-unwaiting old.handling.records op.number _ h))

  -- A handle that is given up, but for that one.
  pub released_seen : (old new : LegacyState I Buf) (fd : ℕ) (table : Table) (b : Bool)
      → LetsGo view tells memory old.handling table (unheld_if b fd) new.handling → KeepsSeenBut view memory old fd fd new
  released_seen old new fd table b lets memory_is h other also held stream seen =
      shows_still (is_readable_at (world_of view old) h) (is_readable_at (world_of view new) h) (io_at old.handling.records h).ready
      (io_at new.handling.records h).ready (ap (λ r. (io_at r h).ready) lets.records ∙ by b)
      (λ is. ap (λ w. is_readable_at w h) (sym (lets.object.world (told memory_is))) ∙ is) seen
    where
      by : (b : Bool) → (io_at (without_records old.handling.records (unheld_if b fd)) h).ready ≡ (io_at old.handling.records h).ready
      by true = ap bits_in (gone-other old.handling.records.handles fd h other)
      by false = refl

  -- What an operation made was handed over.
  pub handed_bits : (old new : Handling I) (made : Option ℕ) → HandsOver view tells memory old made new → (h : ℕ)
      → is_users old.table h ≡ true → (io_at new.records h).ready ≡ (io_at old.records h).ready
  handed_bits old new None hands h held = ap (λ x. (io_at x.records h).ready) hands
  handed_bits old new (Some made) hands h held =
      given_bits old.records new.records old.table made h _ hands.0 hands.1.records held

  -- Handles that an operation let go of.
  pub left_bits : (old new : Handling I) (handles : List ℕ)
      → LetsGo view tells memory old (without_ops old.table handles) (unheld_by old.table handles) new → (h : ℕ)
      → is_users old.table h ≡ true → (io_at new.records h).ready ≡ (io_at old.records h).ready
  left_bits old new handles lets h held =
      ap (λ r. (io_at r h).ready) lets.records ∙ ap bits_in (users_record handles old.table old.records h held)

  -- One call follows another.
  pub seen_then : (old mid new : LegacyState I Buf)
      → ((h : ℕ) → is_users old.handling.table h ≡ true → is_users mid.handling.table h ≡ true)
      → (IsTrue tells → (h : ℕ) → IsStream (world_of view old) h → IsStream (world_of view mid) h) → KeepsSeen view memory old mid
      → KeepsSeen view memory mid new → KeepsSeen view memory old new
  seen_then old mid new users streams first second memory_is h held stream seen =
      second memory_is h (users h held) (streams (told memory_is) h stream) (first memory_is h held stream seen)

-- Where nothing is called all stays.
pub none_seen : {I : Type 0} (view : I → IoView) (memory : Bool) (driver : LegacyState I Buf) → KeepsSeen view memory driver driver
none_seen view memory driver memory_is h held stream seen = seen

-- What is so of every stream is so of each but two.
pub seen_but : {I : Type 0} (view : I → IoView) (memory : Bool) (old new : LegacyState I Buf) (near far : ℕ)
    → KeepsSeen view memory old new → KeepsSeenBut view memory old near far new
seen_but view memory old new near far keeps memory_is h first second held stream seen = keeps memory_is h held stream seen

-- What is so of each but one is so of each but that one and another.
pub but_near : {I : Type 0} (view : I → IoView) (memory : Bool) (old new : LegacyState I Buf) (near far : ℕ)
    → KeepsSeenBut view memory old near near new → KeepsSeenBut view memory old near far new
but_near view memory old new near far keeps memory_is h first second held stream seen = keeps memory_is h first first held stream seen

-- The same of the far handle.
pub but_far : {I : Type 0} (view : I → IoView) (memory : Bool) (old new : LegacyState I Buf) (near far : ℕ)
    → KeepsSeenBut view memory old far far new → KeepsSeenBut view memory old near far new
but_far view memory old new near far keeps memory_is h first second held stream seen = keeps memory_is h second second held stream seen

-- One call that leaves the world follows another.
pub but_then : {I : Type 0} (view : I → IoView) (tells memory : Bool) (told : IsTrue memory → IsTrue tells) (old mid new : LegacyState I
    Buf)
    (near far : ℕ)
    → ((h : ℕ) → h ≢ near → h ≢ far → is_users old.handling.table h ≡ true → is_users mid.handling.table h ≡ true)
    → (IsTrue tells → world_of view mid ≡ world_of view old) → KeepsSeenBut view memory old near far mid
    → KeepsSeenBut view memory mid near far new → KeepsSeenBut view memory old near far new
but_then view tells memory told old mid new near far users world first second memory_is h one other held stream seen =
    second memory_is h one other (users h one other held) (subst (λ w. IsStream w h) (sym (world (told memory_is))) stream)
    (first memory_is h one other held stream seen)
