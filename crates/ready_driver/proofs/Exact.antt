-- Where the bits of handles show what a world in memory has: an operation whose direction no bit meets would block.
use Rattle.std.proofs.Common.{◌≡◌, ◌∙◌, inl, inr, ℕ, Bool, true, false, not, List, [], ◌∷◌, Option, Some, None, refl, sym, ap}
use Rattle.std.proofs.Common.{slice_get, arith}
use Rattle.std.proofs.lemmas.Bool.Decides.{nat_tests}
use Rattle.std.specs.Prelude.{if◌then◌else◌, nat_lt, ◌||◌, unwrap_or, Result, Ok, Err}
use Rattle.std.specs.FinMap.{get}
use Rattle.rent_buf.specs.Buffer.{Buffer}
use Rattle.rent_buf.specs.Parts.{Parts}
use Rattle.rent_buf.specs.declared.fault.OutOfMemory.{OutOfMemory}
use Rattle.handle_core.specs.Table.{Table}
use Rattle.machine.specs.declared.request.Call.{Call}
use Rattle.machine.specs.declared.request.Request.{Request}
use Rattle.machine.specs.declared.request.Told.{Told}
use Rattle.machine.specs.declared.request.Request.TheVariants.{Recv, ReadVec, Send, WriteVec, RecvMsg, SendMsg, Read, Write}
use Rattle.machine.specs.declared.request.Request.TheVariants.{SpliceTo, SpliceFrom, Accept, Open, Connect, Fsync, PollAdd, MkDir, Rename}
use Rattle.machine.specs.declared.request.Request.TheVariants.{Unlink}
use Rattle.machine.specs.declared.world.HandleState.{HandleState}
use Rattle.machine.specs.declared.ledger.Reply.TheVariants.{Pending as Waits}
use Rattle.machine.specs.Attempt.{awaited, is_file_at, is_readable_at, is_readable, reads_at_once, is_early, attempt, answer_if}
use Rattle.machine.specs.Lists.{has_number, passes}
use Rattle.machine.specs.Request.{named, both, call_of, plain_request}
use Rattle.machine.specs.World.{is_file}
use Rattle.machine.proofs.Leaving.{has-first, has-later}
use Rattle.machine.proofs.Requests.{named-mapped}
use Rattle.driver_core.specs.declared.op.Op.{Op}
use Rattle.driver_core.specs.declared.op.PollOp.{PollOp}
use Rattle.driver_core.specs.declared.op.PollOp.TheVariants.{Pending, Ready}
use Rattle.driver_core.specs.Ops.{Ops}
use Rattle.driver_core.specs.Slot.{number_at, is_flying}
use Rattle.driver_core.proofs.Numbers.{Owner, owner}
use Rattle.ready_driver.specs.declared.ready.Direction.{Direction}
use Rattle.ready_driver.specs.declared.ready.Direction.TheVariants as towards
use Rattle.ready_driver.specs.Awaits.{awaits, awaits_if, slot_awaits, unless_file, IsWorldUnmet, PollsUnless}
use Rattle.ready_driver.specs.HandlesStand.{HandlesStand}
use Rattle.ready_driver.specs.Legacy.{Legacy, LegacyOp, slot_at}
use Rattle.ready_driver.specs.LegacyStep.{poll_op, poll_slot}
use Rattle.ready_driver.specs.Polling.{SlotFor, PartsStand, PollsFor}
use Rattle.ready_driver.specs.Ready.{meets, mask_of}
use Rattle.ready_driver.specs.Records.{Kept, io_at}
use Rattle.ready_driver.specs.Reports.{ShowsBits}
use Rattle.ready_driver.specs.Turns.{AreReported}
use Rattle.ready_driver.proofs.Ended.{flying-unasked}
use Rattle.ready_driver.proofs.Parting.{named-held}
use Rattle.driver_core.proofs.Holds.{held-op}

-- A pair of a handle and a direction: the handle.
pub same-handle : (fd h : ℕ) (d e : Direction) → ◌≡◌ {A = Option (ℕ × Direction)} (Some (fd, d)) (Some (h, e)) → fd ≡ h
same-handle fd h d e is = ap (λ o. (unwrap_or {T = ℕ × Direction} o (fd, d)).0) is

-- What waits to write doesn't wait to read.
no-read : (fd h : ℕ) → ◌≡◌ {A = Option (ℕ × Direction)} (Some (fd, towards.Write)) (Some (h, towards.Read)) → ⊥
no-read fd h is =
    let e : ◌≡◌ {A = Direction} towards.Write towards.Read = ap (λ o. (unwrap_or {T = ℕ × Direction} o (fd, towards.Write)).1) is in
    let f : ⊥ = cc in f

-- The handle that a request waits for to read is the one that its call reads on.
awaits-read : {B : Type 0} (buffer : B → Buffer) (r : Request B Parts) (h : ℕ) → awaits r ≡ Some (h, towards.Read) →
    awaited (call_of (plain_request buffer r)) ≡ Some h
awaits-read buffer (Recv fd buf) h is = ap Some (same-handle fd h _ _ is)
awaits-read buffer (ReadVec fd parts) h is = ap Some (same-handle fd h _ _ is)
awaits-read buffer (RecvMsg fd buf) h is = ap Some (same-handle fd h _ _ is)
awaits-read buffer (Read fd pos buf) h is = ap Some (same-handle fd h _ _ is)
awaits-read buffer (SpliceTo fd pipe len) h is = ap Some (same-handle fd h _ _ is)
awaits-read buffer (Accept fd) h is = ap Some (same-handle fd h _ _ is)
awaits-read buffer (PollAdd fd true) h is = ap Some (same-handle fd h _ _ is)
awaits-read buffer (PollAdd fd false) h is = absurd (no-read fd h is)
awaits-read buffer (Send fd buf) h is = absurd (no-read fd h is)
awaits-read buffer (WriteVec fd parts) h is = absurd (no-read fd h is)
awaits-read buffer (SendMsg fd addr buf) h is = absurd (no-read fd h is)
awaits-read buffer (Write fd pos buf) h is = absurd (no-read fd h is)
awaits-read buffer (SpliceFrom pipe fd len) h is = absurd (no-read fd h is)
awaits-read buffer (Open path flags mode) h is = (let f : ⊥ = cc in absurd f)
awaits-read buffer (Connect fd addr) h is = (let f : ⊥ = cc in absurd f)
awaits-read buffer (Fsync fd data_only) h is = (let f : ⊥ = cc in absurd f)
awaits-read buffer (MkDir path mode) h is = (let f : ⊥ = cc in absurd f)
awaits-read buffer (Rename from to) h is = (let f : ⊥ = cc in absurd f)
awaits-read buffer (Unlink path remove_dir) h is = (let f : ⊥ = cc in absurd f)

-- The second of two numbers.
has-second : (a b : ℕ) → has_number b (a ∷ b ∷ []) ≡ true
has-second a b = has-later b a (b ∷ []) (has-first b [])

-- Each of two handles is among both.
both-first : (a b : ℕ) → has_number a (both a b) ≡ true
both-first a b = lower (nat_lt a b)
  where
    upper : (test : Bool) → has_number a (if test then b ∷ a ∷ [] else a ∷ []) ≡ true
    upper true = has-second b a
    upper false = has-first a []

    lower : (test : Bool) → has_number a (if test then a ∷ b ∷ [] else if nat_lt b a then b ∷ a ∷ [] else a ∷ []) ≡ true
    lower true = has-first a (b ∷ [])
    lower false = upper (nat_lt b a)

-- The second of two numbers is among both.
both-second : (a b : ℕ) → has_number b (both a b) ≡ true
both-second a b = lower (nat_lt a b) refl
  where
    upper : (test : Bool) → nat_lt b a ≡ test → nat_lt a b ≡ false → has_number b (if test then b ∷ a ∷ [] else a ∷ []) ≡ true
    upper true is not = has-first b (a ∷ [])
    upper false is not = ap (λ k. has_number b (k ∷ [])) (let e : a ≡ b = grind (arith, nat_tests) in e) ∙ has-first b []

    lower : (test : Bool) → nat_lt a b ≡ test →
        has_number b (if test then a ∷ b ∷ [] else if nat_lt b a then b ∷ a ∷ [] else a ∷ []) ≡ true
    lower true is = has-second a b
    lower false is = upper (nat_lt b a) refl is

-- The handle of a request, as the one that is waited for.
named-as : (fd h : ℕ) (handles : List ℕ) → has_number fd handles ≡ true → fd ≡ h → has_number h handles ≡ true
named-as fd h handles there is = ap (λ k. has_number k handles) (sym is) ∙ there

-- A request names the handle that it waits for.
pub awaits-named : {B V : Type 0} (r : Request B V) (h : ℕ) (dir : Direction) → awaits r ≡ Some (h, dir) → has_number h (named r) ≡ true
awaits-named (Recv fd buf) h dir is = named-as fd h (fd ∷ []) (has-first fd []) (same-handle fd h _ _ is)
awaits-named (ReadVec fd parts) h dir is = named-as fd h (fd ∷ []) (has-first fd []) (same-handle fd h _ _ is)
awaits-named (RecvMsg fd buf) h dir is = named-as fd h (fd ∷ []) (has-first fd []) (same-handle fd h _ _ is)
awaits-named (Read fd pos buf) h dir is = named-as fd h (fd ∷ []) (has-first fd []) (same-handle fd h _ _ is)
awaits-named (SpliceTo fd pipe len) h dir is = named-as fd h (both fd pipe) (both-first fd pipe) (same-handle fd h _ _ is)
awaits-named (Accept fd) h dir is = named-as fd h (fd ∷ []) (has-first fd []) (same-handle fd h _ _ is)
awaits-named (PollAdd fd true) h dir is = named-as fd h (fd ∷ []) (has-first fd []) (same-handle fd h _ _ is)
awaits-named (PollAdd fd false) h dir is = named-as fd h (fd ∷ []) (has-first fd []) (same-handle fd h _ _ is)
awaits-named (Send fd buf) h dir is = named-as fd h (fd ∷ []) (has-first fd []) (same-handle fd h _ _ is)
awaits-named (WriteVec fd parts) h dir is = named-as fd h (fd ∷ []) (has-first fd []) (same-handle fd h _ _ is)
awaits-named (SendMsg fd addr buf) h dir is = named-as fd h (fd ∷ []) (has-first fd []) (same-handle fd h _ _ is)
awaits-named (Write fd pos buf) h dir is = named-as fd h (fd ∷ []) (has-first fd []) (same-handle fd h _ _ is)
awaits-named (SpliceFrom pipe fd len) h dir is = named-as fd h (both pipe fd) (both-second pipe fd) (same-handle fd h _ _ is)
awaits-named (Open path flags mode) h dir is = (let f : ⊥ = cc in absurd f)
awaits-named (Connect fd addr) h dir is = (let f : ⊥ = cc in absurd f)
awaits-named (Fsync fd data_only) h dir is = (let f : ⊥ = cc in absurd f)
awaits-named (MkDir path mode) h dir is = (let f : ⊥ = cc in absurd f)
awaits-named (Rename from to) h dir is = (let f : ⊥ = cc in absurd f)
awaits-named (Unlink path remove_dir) h dir is = (let f : ⊥ = cc in absurd f)

-- A handle that is no file and isn't readable doesn't give its reads at once.
not-at-once : (x : Option HandleState) → passes (λ handle. is_file handle.kind) x ≡ false → passes is_readable x ≡ false →
    passes reads_at_once x ≡ false
not-at-once None file readable = refl
not-at-once (Some handle) file readable = ap (λ b. b || is_readable handle) file ∙ readable

-- The first test decides.
first-none : (b : Bool) (rest : Option Told) → b ≡ true → answer_if b None rest ≡ None
first-none true rest is = refl
first-none false rest is = (let f : ⊥ = cc in absurd f)

-- So a call that reads on it would block.
early-blocks : (world : List HandleState) (call : Call) (h : ℕ) → awaited call ≡ Some h → is_file_at world h ≡ false →
    is_readable_at world h ≡ false → attempt world call ≡ None
early-blocks world call h on file readable =
    first-none (is_early world (awaited call)) _ (ap (is_early world) on ∙ ap not (not-at-once (slice_get world h) file readable))

-- What is awaited, where it isn't on a file.
file-or-not : (world : List HandleState) (x : Option (ℕ × Direction)) (h : ℕ) (dir : Direction) → unless_file world x ≡ Some (h, dir) →
    (x ≡ Some (h, dir)) × (is_file_at world h ≡ false)
file-or-not world None h dir is = (let f : ⊥ = cc in absurd f)
file-or-not world (Some (k, d)) h dir is = by (is_file_at world k) refl is
  where
    by : (b : Bool) → is_file_at world k ≡ b → if◌then◌else◌ {A = Option (ℕ × Direction)} b None (Some (k, d)) ≡ Some (h, dir) →
        (◌≡◌ {A = Option (ℕ × Direction)} (Some (k, d)) (Some (h, dir))) × (is_file_at world h ≡ false)
    by true file is = (let f : ⊥ = cc in absurd f)
    by false file is = (is, ap (is_file_at world) (sym (same-handle k h d dir is)) ∙ file)

-- What waits is in flight.
awaits-flies : {B : Type 0} (flies : Bool) (r : Request B Parts) (h : ℕ) (dir : Direction) → awaits_if flies r ≡ Some (h, dir) →
    (flies ≡ true) × (awaits r ≡ Some (h, dir))
awaits-flies true r h dir is = (refl, is)
awaits-flies false r h dir is = (let f : ⊥ = cc in absurd f)

-- Bits that show what a handle has and that a direction doesn't meet: it is that of reads, and the handle isn't readable.
unmet-read : (dir : Direction) (readable : Bool) (ready : ℕ) → ShowsBits readable ready → meets ready (mask_of dir) ≡ false →
    (dir ≡ towards.Read) × (readable ≡ false)
unmet-read towards.Write readable ready shows unmet =
    (let e : true ≡ false = sym shows.writes ∙ unmet in let f : ⊥ = cc in absurd f)
unmet-read towards.Read true ready shows unmet =
    (let e : true ≡ false = sym (shows.reads refl) ∙ unmet in let f : ⊥ = cc in absurd f)
unmet-read towards.Read false ready shows unmet = (refl, refl)

-- The driver as plain data waits at a poll whose call would block.
blocked-waits : (D : Legacy) (n : ℕ) (x : Option LegacyOp) (op : LegacyOp) → x ≡ Some op → op.asked ≡ false →
    attempt D.world (call_of op.request) ≡ None → poll_slot D n x ≡ (D, Waits)
blocked-waits D n x op is unasked blocks =
    ap (poll_slot D n) is ∙ ap (λ b. poll_op b (attempt D.world (call_of op.request)) D n op) unasked
    ∙ ap (λ t. poll_op false t D n op) blocks

-- Operations, handles and their holders that are those of a driver, and bits that show what the world has.
module _ {B : Type 0} (buffer : B → Buffer) (table : Table) (records : Kept) (world : List HandleState) (keys : List (Option ℕ))
    (D : Legacy) (ops : Ops B) (reported : AreReported table records world) (handles : HandlesStand table keys D)
    (parts : PartsStand buffer ops world D) where
  -- An operation whose direction no bit meets waits: the driver does so too.
  pub unmet-waits : (key number : ℕ) → number_at ops.slots.values key ≡ Some number →
      IsWorldUnmet records world (get ops.slots.values key) → poll_slot D number (slot_at D number) ≡ (D, Waits)
  unmet-waits key number holds unmet =
      let own : Owner ops.slots.values key number = owner ops.slots.values key number holds in
      let one : SlotFor buffer D own.slot = parts.operations.slots.holds key own.slot own.there in
      let on = file-or-not world (slot_awaits (get ops.slots.values key)) unmet.handle unmet.direction unmet.awaited_is in
      let waits = awaits-flies (is_flying own.slot.life) own.slot.request unmet.handle unmet.direction
      (sym (ap slot_awaits own.there) ∙ on.0) in
      let names = awaits-named own.slot.request unmet.handle unmet.direction waits.1 in
      let held = named-held table keys D handles number one.op (ap (slot_at D) (sym own.serial) ∙ one.there) unmet.handle
      (ap (λ r. has_number unmet.handle (named r)) (sym one.request)
      ∙ ap (has_number unmet.handle) (named-mapped buffer (λ ps. ps) own.slot.request) ∙ names) in
      let read = unmet-read unmet.direction (is_readable_at world unmet.handle) (io_at records unmet.handle).ready
      (reported unmet.handle (held-op table unmet.handle held)) unmet.unmet in
      let call = awaits-read buffer own.slot.request unmet.handle
      (waits.1 ∙ ap (λ d. Some (unmet.handle, d)) read.0) in
      blocked-waits D number (slot_at D number) one.op (ap (slot_at D) (sym own.serial) ∙ one.there)
      (flying-unasked one.op.asked own.slot.life one.life waits.0)
      (ap (λ w. attempt w (call_of one.op.request)) (sym parts.handles) ∙ ap (λ r. attempt world (call_of r)) (sym one.request)
      ∙ early-blocks world (call_of (plain_request buffer own.slot.request)) unmet.handle call on.1 read.1)

-- A poll that may be Pending where it needn't, but only where the driver waits too, is that of the driver.
pub exact-unless : {B : Type 0} (unmet : Type 0) (buffer : B → Buffer) (D : Legacy) (op : Op) (ops : Ops B) (world : List HandleState)
    (result : Result (PollOp B) (OutOfMemory × Op)) → (unmet → poll_slot D op.number (slot_at D op.number) ≡ (D, Waits)) →
    PollsUnless unmet buffer D op ops world result → PollsFor buffer D op ops world result
exact-unless unmet buffer D op ops world (Ok (Pending back)) waits polls = (
  polls.0,
  elim polls.1 [
    | inl not ↦ waits not
    | inr is ↦ is
  ],
  polls.2,
)
exact-unless unmet buffer D op ops world (Ok (Ready done)) waits polls = polls
exact-unless unmet buffer D op ops world (Err error) waits polls = polls
