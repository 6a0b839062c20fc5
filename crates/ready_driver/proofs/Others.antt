-- The entries of the other operations stay behind a call on one, and no bit comes that meets a direction.
use Rattle.std.proofs.Common.{◌≡◌, ◌≢◌, inl, inr, ◌⊎◌, ℕ, Bool, true, false, not, ◌==◌, List, [], ◌∷◌, Option, Some, None, option_map}
use Rattle.std.proofs.Common.{unwrap_or, refl, sym, ◌∙◌, ap, subst, true≢false}
use Rattle.std.specs.FinMap.{get}
use Rattle.std.specs.Prelude.{is_some, Result, Ok, Err}
use Rattle.rent_buf.specs.Buffer.{Buffer}
use Rattle.rent_buf.specs.Parts.{Parts}
use Rattle.rent_buf.specs.declared.fault.OutOfMemory.{OutOfMemory}
use Rattle.machine.proofs.Numbers.{same-or-not}
use Rattle.machine.specs.Effect.{made_by}
use Rattle.machine.specs.Request.{named}
use Rattle.machine.specs.declared.request.Request.{Request}
use Rattle.driver_core.specs.declared.op.Op.{Op}
use Rattle.driver_core.specs.declared.op.PollOp.{PollOp}
use Rattle.driver_core.specs.declared.op.PollOp.TheVariants.{Pending, Ready}
use Rattle.driver_core.specs.declared.op.SubmitError.{SubmitError}
use Rattle.driver_core.specs.declared.op.Submitted.{Submitted}
use Rattle.driver_core.specs.declared.op.Submitted.TheVariants as submission
use Rattle.driver_core.specs.Holds.{unheld_by}
use Rattle.driver_core.proofs.Maps.{put-same, put-other, gone-same, gone-other}
use Rattle.ready_driver.specs.declared.ready.Direction.{Direction}
use Rattle.ready_driver.specs.declared.records.Record.{Record}
use Rattle.ready_driver.specs.declared.scheduled_io.Waiter.{Waiter}
use Rattle.ready_driver.specs.Awaits.{LeavesIf, LeavesFor, with_waiter, without_waiter, without_bits}
use Rattle.ready_driver.specs.Calling.{Called}
use Rattle.ready_driver.specs.Io.{IoView}
use Rattle.ready_driver.specs.LegacyCalls.{JoinsFor, SubmitRefused, unwaiting}
use Rattle.ready_driver.specs.LegacyPolls.{EndsFor, PollsHandling, HandsOver}
use Rattle.ready_driver.specs.LegacyState.{LegacyState}
use Rattle.ready_driver.specs.Others.{HasEntry, MeetsNone, KeepsOthers}
use Rattle.ready_driver.specs.Ready.{meets, mask_of, without}
use Rattle.ready_driver.specs.Records.{Kept, quiet, record_at, io_at, changed, without_record, with_io, with_registered}
use Rattle.ready_driver.specs.Registry.{Handling, is_known, AreRecorded, MakesReady, registered_each, without_records}
use Rattle.ready_driver.specs.ScheduledIo.{waiter_of, entry_of}
use Rattle.ready_driver.proofs.Bits.{none-without}
use Rattle.ready_driver.proofs.Polled.{or-first}
use Rattle.ready_driver.proofs.Recorded.{none-meet, changed-at, changed-none, changed-other}
use Rattle.ready_driver.proofs.Registering.{recorded-like, recorded-leaves}
use Rattle.ready_driver.proofs.Waiting.{kept-others, forgotten-others}

-- What is read of a record that was looked up: the entry of an operation.
abbrev entry_in : Option Record → ℕ → Option Waiter
entry_in x number = waiter_of (unwrap_or (option_map (λ r. r.io) x) quiet).waiting number

-- A handle that has an entry has a record.
entry-there : (records : Kept) (h number : ℕ) (entry : Waiter) → HasEntry records h number entry → is_some (record_at records h) ≡ true
entry-there records h number entry has = by (record_at records h) refl
  where
    by : (x : Option Record) → record_at records h ≡ x → is_some x ≡ true
    by None is = (
        let e : ◌≡◌ {A = Option Waiter} None (Some entry) = sym (ap (λ x. entry_in x number) is) ∙ has in
        let f : ⊥ = cc in
        absurd f)
    by (Some one) is = refl

-- An entry is read of the same record.
entry-same : (old new : Kept) (h number : ℕ) (entry : Waiter) → record_at new h ≡ record_at old h → HasEntry old h number entry →
    HasEntry new h number entry
entry-same old new h number entry same has = ap (λ x. entry_in x number) same ∙ has

-- A change of a handle's record that leaves the entry of an operation.
entry-changed : (old : Kept) (n h number : ℕ) (entry : Waiter) (change : Record → Record) →
    ((one : Record) → waiter_of (change one).io.waiting number ≡ waiter_of one.io.waiting number) → HasEntry old h number entry →
    HasEntry (changed old n change) h number entry
entry-changed old n h number entry change keeps has = elim (same-or-not h n) [
  | inl e ↦ by (record_at old n) refl e
  | inr e ↦ entry-same old (changed old n change) h number entry (changed-other old n change h e) has
]
  where
    by : (x : Option Record) → record_at old n ≡ x → h ≡ n → HasEntry (changed old n change) h number entry
    by None is e = subst (λ k. HasEntry k h number entry) (sym (changed-none old n change is)) has
    by (Some one) is e =
        ap (λ k. entry_in (record_at (changed old n change) k) number) e ∙ ap (λ x. entry_in x number) (changed-at old n change one is)
        ∙ keeps one ∙ sym (ap (λ x. entry_in x number) is) ∙ sym (ap (λ k. entry_in (record_at old k) number) e) ∙ has

-- A poll leaves them, by whether a bit meets the direction of its own operation.
entry-left : {B : Type 0} (met : Bool) (old : Kept) (n : ℕ) (own : Waiter) (new : Kept) (result : Result (PollOp B) (OutOfMemory × Op))
    (h number : ℕ) (entry : Waiter) → number ≢ own.serial → LeavesIf met old n own new result → HasEntry old h number entry →
    HasEntry new h number entry
entry-left false old n own new (Ok (Pending back)) h number entry other left has =
    subst (λ k. HasEntry k h number entry) (sym left)
    (entry-changed old n h number entry (with_io (with_waiter own)) (λ one. kept-others one.io.waiting own number other) has)
entry-left false old n own new (Ok (Ready done)) h number entry other left has = absurd left
entry-left false old n own new (Err error) h number entry other left has = subst (λ k. HasEntry k h number entry) (sym left) has
entry-left true old n own new (Ok (Pending back)) h number entry other left has =
    subst (λ k. HasEntry k h number entry) (sym left)
    (entry-changed old n h number entry (with_io (λ io. with_waiter own (without_bits own.direction io)))
    (λ one. kept-others one.io.waiting own number other) has)
entry-left true old n own new (Ok (Ready done)) h number entry other left has =
    subst (λ k. HasEntry k h number entry) (sym left)
    (entry-changed old n h number entry (with_io (without_waiter own.serial))
    (λ one. forgotten-others one.io.waiting own.serial number other) has)
entry-left true old n own new (Err error) h number entry other left has = subst (λ k. HasEntry k h number entry) (sym left) has

-- By what its operation waits for.
entry-leaves : {B : Type 0} (awaited : Option (ℕ × Direction)) (old : Kept) (mine task : ℕ) (new : Kept)
    (result : Result (PollOp B) (OutOfMemory × Op)) (h number : ℕ) (entry : Waiter) → number ≢ mine →
    LeavesFor awaited old mine task new result → HasEntry old h number entry → HasEntry new h number entry
entry-leaves None old mine task new result h number entry other left has = subst (λ k. HasEntry k h number entry) (sym left) has
entry-leaves (Some (n, dir)) old mine task new result h number entry other left has =
    entry-left (meets (io_at old n).ready (mask_of dir)) old n (entry_of mine task dir) new result h number entry other left has

-- The record of a handle is gone with those of some, or it stays.
record-left : (handles : List ℕ) (records : Kept) (h : ℕ) →
    (record_at (without_records records handles) h ≡ None) ⊎ (record_at (without_records records handles) h ≡ record_at records h)
record-left [] records h = inr refl
record-left (n ∷ handles) records h = elim (record-left handles (without_record records n) h) [
  | inl gone ↦ inl gone
  | inr same ↦ elim (same-or-not h n) [
    | inl e ↦ inl (same ∙ ap (record_at (without_record records n)) e ∙ gone-same records.handles n)
    | inr e ↦ inr (same ∙ gone-other records.handles n h e)
  ]
]

-- A handle that somebody holds still has its entries.
entry-lets : {I : Type 0} (old new : Handling I) (handles : List ℕ) → new.records ≡ without_records old.records handles →
    AreRecorded new.table new.records → (h number : ℕ) (entry : Waiter) → is_known new.table h ≡ true →
    HasEntry old.records h number entry → HasEntry new.records h number entry
entry-lets old new handles lets all h number entry known has =
    let there : is_some (record_at (without_records old.records handles) h) ≡ true =
    ap (λ k. is_some (record_at k h)) (sym lets) ∙ all h ∙ known in
    subst (λ k. HasEntry k h number entry) (sym lets) (elim (record-left handles old.records h) [
      | inl gone ↦ absurd (true≢false (sym there ∙ ap is_some gone))
      | inr same ↦ entry-same old.records (without_records old.records handles) h number entry same has
    ])

-- A handle that was made had no record, so it had no entries.
entry-hands : {I : Type 0} (view : I → IoView) (tells memory : Bool) (old new : Handling I) (made : Option ℕ) →
    AreRecorded old.table old.records → HandsOver view tells memory old made new → (h number : ℕ) (entry : Waiter) →
    HasEntry old.records h number entry → HasEntry new.records h number entry
entry-hands view tells memory old new None all hands h number entry has =
    subst (λ (s : Handling _). HasEntry s.records h number entry) (sym hands) has
entry-hands view tells memory old new (Some n) all hands h number entry has = elim (same-or-not h n) [
  | inl e ↦ absurd (true≢false (sym (entry-there old.records h number entry has) ∙ all h ∙ ap (is_known old.table) e
      ∙ or-first (is_known old.table n) _ hands.0))
  | inr e ↦ entry-same old.records new.records h number entry
      (ap (λ m. record_at (record old.records { handles = m }) h) hands.1.records ∙ put-other old.records.handles n _ h e) has
]

-- An operation that waits no longer leaves the entries of the others.
pub entry-unwaiting : (records : Kept) (mine : ℕ) (awaited : Option (ℕ × Direction)) (h number : ℕ) (entry : Waiter) → number ≢ mine →
    HasEntry records h number entry → HasEntry (unwaiting records mine awaited) h number entry
entry-unwaiting records mine None h number entry other has = has
entry-unwaiting records mine (Some (n, dir)) h number entry other has =
    entry-changed records n h number entry (with_io (without_waiter mine))
    (λ one. forgotten-others one.io.waiting mine number other) has

-- Handles that are registered keep their entries.
pub entry-registered : (handles : List ℕ) (records : Kept) (h number : ℕ) (entry : Waiter) → HasEntry records h number entry →
    HasEntry (registered_each records handles) h number entry
entry-registered [] records h number entry has = has
entry-registered (n ∷ handles) records h number entry has =
    entry-registered handles (changed records n (with_registered true)) h number entry
    (entry-changed records n h number entry (with_registered true) (λ one. refl) has)

-- What is read of a record that was looked up: whether a bit meets a direction.
abbrev met_in : Option Record → Direction → Bool
met_in x dir = meets (unwrap_or (option_map (λ r. r.io) x) quiet).ready (mask_of dir)

-- No bit of it does, where it is the same record.
unmet-same : (old new : Kept) (h : ℕ) (dir : Direction) → record_at new h ≡ record_at old h → MeetsNone old h dir → MeetsNone new h dir
unmet-same old new h dir same none = ap (λ x. met_in x dir) same ∙ none

-- Nor where it is a record with no bits, or none.
unmet-quiet : (records : Kept) (h : ℕ) (dir : Direction) (x : Option Record) → record_at records h ≡ x → met_in x dir ≡ false →
    MeetsNone records h dir
unmet-quiet records h dir x is none = ap (λ y. met_in y dir) is ∙ none

-- A change of a handle's record that brings no bit.
unmet-changed : (old : Kept) (n h : ℕ) (dir : Direction) (change : Record → Record) →
    ((one : Record) → meets one.io.ready (mask_of dir) ≡ false → meets (change one).io.ready (mask_of dir) ≡ false) →
    MeetsNone old h dir → MeetsNone (changed old n change) h dir
unmet-changed old n h dir change keeps none = elim (same-or-not h n) [
  | inl e ↦ by (record_at old n) refl e
  | inr e ↦ unmet-same old (changed old n change) h dir (changed-other old n change h e) none
]
  where
    by : (x : Option Record) → record_at old n ≡ x → h ≡ n → MeetsNone (changed old n change) h dir
    by None is e = subst (λ k. MeetsNone k h dir) (sym (changed-none old n change is)) none
    by (Some one) is e =
        let here : MeetsNone old n dir = subst (λ k. MeetsNone old k dir) e none in
        ap (λ k. met_in (record_at (changed old n change) k) dir) e ∙ ap (λ x. met_in x dir) (changed-at old n change one is)
        ∙ keeps one (sym (ap (λ x. met_in x dir) is) ∙ here)

-- Bits that are taken away bring none.
unmet-without : (ready mask : ℕ) (dir : Direction) → meets ready (mask_of dir) ≡ false → meets (without ready mask) (mask_of dir) ≡ false
unmet-without ready mask dir none = ap (λ x. not (x == 0)) (none-without ready mask (mask_of dir) none)

-- A poll brings none, by whether a bit meets the direction of its own operation.
unmet-left : {B : Type 0} (met : Bool) (old : Kept) (n : ℕ) (own : Waiter) (new : Kept) (result : Result (PollOp B) (OutOfMemory × Op))
    (h : ℕ) (dir : Direction) → LeavesIf met old n own new result → MeetsNone old h dir → MeetsNone new h dir
unmet-left false old n own new (Ok (Pending back)) h dir left none =
    subst (λ k. MeetsNone k h dir) (sym left) (unmet-changed old n h dir (with_io (with_waiter own)) (λ one was. was) none)
unmet-left false old n own new (Ok (Ready done)) h dir left none = absurd left
unmet-left false old n own new (Err error) h dir left none = subst (λ k. MeetsNone k h dir) (sym left) none
unmet-left true old n own new (Ok (Pending back)) h dir left none =
    subst (λ k. MeetsNone k h dir) (sym left)
    (unmet-changed old n h dir (with_io (λ io. with_waiter own (without_bits own.direction io)))
    (λ one was. unmet-without one.io.ready (mask_of own.direction) dir was) none)
unmet-left true old n own new (Ok (Ready done)) h dir left none =
    subst (λ k. MeetsNone k h dir) (sym left) (unmet-changed old n h dir (with_io (without_waiter own.serial)) (λ one was. was) none)
unmet-left true old n own new (Err error) h dir left none = subst (λ k. MeetsNone k h dir) (sym left) none

-- By what its operation waits for.
unmet-leaves : {B : Type 0} (awaited : Option (ℕ × Direction)) (old : Kept) (mine task : ℕ) (new : Kept)
    (result : Result (PollOp B) (OutOfMemory × Op)) (h : ℕ) (dir : Direction) → LeavesFor awaited old mine task new result →
    MeetsNone old h dir → MeetsNone new h dir
unmet-leaves None old mine task new result h dir left none = subst (λ k. MeetsNone k h dir) (sym left) none
unmet-leaves (Some (n, own)) old mine task new result h dir left none =
    unmet-left (meets (io_at old n).ready (mask_of own)) old n (entry_of mine task own) new result h dir left none

-- Nor do handles that are let go.
unmet-lets : (handles : List ℕ) (old new : Kept) (h : ℕ) (dir : Direction) → new ≡ without_records old handles → MeetsNone old h dir →
    MeetsNone new h dir
unmet-lets handles old new h dir lets none =
    subst (λ k. MeetsNone k h dir) (sym lets) (elim (record-left handles old h) [
      | inl gone ↦ unmet-quiet (without_records old handles) h dir None gone (none-meet dir)
      | inr same ↦ unmet-same old (without_records old handles) h dir same none
    ])

-- A handle that was made has no bits.
unmet-hands : {I : Type 0} (view : I → IoView) (tells memory : Bool) (old new : Handling I) (made : Option ℕ) →
    HandsOver view tells memory old made new → (h : ℕ) (dir : Direction) → MeetsNone old.records h dir → MeetsNone new.records h dir
unmet-hands view tells memory old new None hands h dir none = subst (λ (s : Handling _). MeetsNone s.records h dir) (sym hands) none
unmet-hands view tells memory old new (Some n) hands h dir none =
    let now = ap (λ m. record_at (record old.records { handles = m }) h) hands.1.records in
    elim (same-or-not h n) [
      | inl e ↦ unmet-quiet new.records h dir (Some _) (now ∙ ap (get _) e ∙ put-same old.records.handles n _) (none-meet dir)
      | inr e ↦ unmet-same old.records new.records h dir (now ∙ put-other old.records.handles n _ h e) none
    ]

-- An operation that waits no longer brings no bit.
pub unmet-unwaiting : (records : Kept) (mine : ℕ) (awaited : Option (ℕ × Direction)) (h : ℕ) (dir : Direction) →
    MeetsNone records h dir → MeetsNone (unwaiting records mine awaited) h dir
unmet-unwaiting records mine None h dir none = none
unmet-unwaiting records mine (Some (n, own)) h dir none =
    unmet-changed records n h dir (with_io (without_waiter mine)) (λ one was. was) none

-- Nor do handles that are registered.
pub unmet-registered : (handles : List ℕ) (records : Kept) (h : ℕ) (dir : Direction) → MeetsNone records h dir →
    MeetsNone (registered_each records handles) h dir
unmet-registered [] records h dir none = none
unmet-registered (n ∷ handles) records h dir none =
    unmet-registered handles (changed records n (with_registered true)) h dir
    (unmet-changed records n h dir (with_registered true) (λ one was. was) none)

-- A poll leaves what the other operations wait for.
module _ {I B : Type 0} (files : I → ℕ → Bool) (buffer : B → Buffer) (called : Called I) (view : I → IoView) (tells memory : Bool)
    (old new : LegacyState I B) (op : Op) (task : ℕ) where
  -- What a poll itself leaves.
  by-polls : (mid : Handling I) (result : Result (PollOp B) (OutOfMemory × Op)) →
      PollsHandling files old.handling mid (get old.slots.values op.key) op.number task result →
      (h number : ℕ) (entry : Waiter) → number ≢ op.number → HasEntry old.handling.records h number entry →
      HasEntry mid.records h number entry
  by-polls mid result polls h number entry other has =
      entry-leaves _ polls.records op.number task mid.records result h number entry other polls.leaves
      (entry-same old.handling.records polls.records h number entry
      (ap (λ m. record_at (record polls.records { handles = m }) h) polls.room) has)

  -- Which bits it brings: none.
  by-bits : (mid : Handling I) (result : Result (PollOp B) (OutOfMemory × Op)) →
      PollsHandling files old.handling mid (get old.slots.values op.key) op.number task result → (h : ℕ) (dir : Direction) →
      MeetsNone old.handling.records h dir → MeetsNone mid.records h dir
  by-bits mid result polls h dir none =
      unmet-leaves _ polls.records op.number task mid.records result h dir polls.leaves
      (unmet-same old.handling.records polls.records h dir
      (ap (λ m. record_at (record polls.records { handles = m }) h) polls.room) none)

  -- Where it is ready, just the handles that somebody holds have records behind it.
  abbrev pub RecordedFor : Result (PollOp B) (OutOfMemory × Op) → Type 0
  RecordedFor (Ok (Ready done)) = AreRecorded new.handling.table new.handling.records
  RecordedFor (Ok (Pending back)) = Unit {0}
  RecordedFor (Err error) = Unit {0}

  -- Whatever it answers.
  pub polls-keep : (result : Result (PollOp B) (OutOfMemory × Op)) → EndsFor files buffer called view tells memory old new op task result →
      AreRecorded old.handling.table old.handling.records → RecordedFor result → KeepsOthers old.handling new.handling op.number
  polls-keep (Ok (Pending back)) ends was now = record {
    entries = λ h number entry other known has. by-polls new.handling (Ok (Pending back)) ends.0 h number entry other has;
    unmet = by-bits new.handling (Ok (Pending back)) ends.0;
  }
  polls-keep (Err error) ends was now = record {
    entries = λ h number entry other known has. by-polls new.handling (Err error) ends.0 h number entry other has;
    unmet = by-bits new.handling (Err error) ends.0;
  }
  polls-keep (Ok (Ready done)) ends was now =
      let polls = ends.polls in
      let mid : AreRecorded ends.mid.table ends.mid.records =
      recorded-leaves ends.mid.table _ polls.records op.number task ends.mid.records _
      (recorded-like old.handling.table ends.mid.table old.handling.records polls.records was polls.table polls.room) polls.leaves in
      let gone : List ℕ = unheld_by ends.handed.table (named done.request) in
      record {
        entries = λ h number entry other known has. entry-lets ends.handed new.handling gone ends.lets.records now h number entry known
            (entry-hands view tells memory ends.mid ends.handed (made_by done.outcome) mid ends.hands h number entry
            (by-polls ends.mid _ polls h number entry other has));
        unmet = λ h dir none. unmet-lets gone ends.handed.records new.handling.records h dir ends.lets.records
            (unmet-hands view tells memory ends.mid ends.handed (made_by done.outcome) ends.hands h dir
            (by-bits ends.mid _ polls h dir none));
      }

-- Handles that are registered leave what every operation waits for.
readies-keep : {I : Type 0} (view : I → IoView) (tells memory : Bool) (old new : Handling I) (handles : List ℕ) (mine : ℕ) →
    MakesReady view tells memory old handles new → KeepsOthers old new mine
readies-keep view tells memory old new handles mine ready = record {
  entries = λ h number entry other known has.
      subst (λ k. HasEntry k h number entry) (sym ready.records) (entry-registered handles old.records h number entry has);
  unmet = λ h dir none. subst (λ k. MeetsNone k h dir) (sym ready.records) (unmet-registered handles old.records h dir none);
}

-- So does a submission.
pub submits-keep : {I B : Type 0} (view : I → IoView) (tells memory : Bool) (old new : LegacyState I B) (request : Request B Parts)
    (under : Option ℕ) (submitted : Submitted B) (mine : ℕ) → JoinsFor view tells memory old new request under submitted →
    KeepsOthers old.handling new.handling mine
submits-keep view tells memory old new request under (submission.Op op) mine joins =
    let keeps = readies-keep view tells memory old.handling joins.mid (named request) mine joins.ready in
    record {
      entries = λ h number entry other known has. subst (λ (s : Handling _). HasEntry s.records h number entry) (sym joins.handling)
          (subst (λ k. HasEntry k h number entry) (sym joins.ready.records)
          (entry-registered (named request) old.handling.records h number entry has));
      unmet = λ h dir none. subst (λ (s : Handling _). MeetsNone s.records h dir) (sym joins.handling) (keeps.unmet h dir none);
    }
submits-keep view tells memory old new request under (submission.Canceled back) mine joins = record {
  entries = λ h number entry other known has. subst (λ (s : LegacyState _ _). HasEntry s.handling.records h number entry) (sym joins) has;
  unmet = λ h dir none. subst (λ (s : LegacyState _ _). MeetsNone s.handling.records h dir) (sym joins) none;
}

-- So does one that is refused.
pub refused-keep : {I B : Type 0} (view : I → IoView) (tells memory : Bool) (request : Request B Parts) (old new : LegacyState I B)
    (refused : SubmitError B) (mine : ℕ) → SubmitRefused view tells memory request old new refused →
    KeepsOthers old.handling new.handling mine
refused-keep view tells memory request old new refused mine is =
    readies-keep view tells memory old.handling new.handling is.handles.front mine is.handles.made

-- A cancel leaves what the other operations wait for.
pub cancels-keep : {I : Type 0} (old new : Handling I) (mine : ℕ) (awaited : Option (ℕ × Direction)) →
    new ≡ record old { records = unwaiting old.records mine awaited } → KeepsOthers old new mine
cancels-keep old new mine awaited waits = record {
  entries = λ h number entry other known has. subst (λ (s : Handling _). HasEntry s.records h number entry) (sym waits)
      (entry-unwaiting old.records mine awaited h number entry other has);
  unmet = λ h dir none. subst (λ (s : Handling _). MeetsNone s.records h dir) (sym waits)
      (unmet-unwaiting old.records mine awaited h dir none);
}
