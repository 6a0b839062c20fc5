-- Steps beside an operation leave it standing in the list of its handle, or leave its task to the next turn.
use Rattle.std.proofs.Common.{ℕ, ◌≡◌, ◌≢◌, ◌∙◌, inl, inr, ap, sym, refl, subst, Bool, true, false, List, [], Option, Some, None}
use Rattle.std.proofs.Common.{◌∷◌, Ok, Err, arith}
use Rattle.std.specs.Prelude.{Result, is_some}
use Rattle.std.specs.FinMap.{FinMap, get, insert}
use Rattle.std.specs.List.{Contains}
use Rattle.std.specs.Ordering.{nat_cmp}
use Rattle.std.proofs.lemmas.List.Elements.{Contains-append_left}
use Rattle.rent_buf.specs.Buffer.{Buffer}
use Rattle.rent_buf.specs.Parts.{Parts}
use Rattle.rent_buf.specs.declared.fault.OutOfMemory.{OutOfMemory}
use Rattle.handle_core.specs.Table.{Table, holders_at, with_holders, with_operation}
use Rattle.machine.specs.declared.request.Request.{Request}
use Rattle.machine.specs.Lists.{has_number}
use Rattle.machine.specs.Request.{named}
use Rattle.machine.proofs.Numbers.{same-or-not}
use Rattle.core_exec.specs.Marks.{has_number as has_task}
use Rattle.driver_core.specs.declared.op.Op.{Op}
use Rattle.driver_core.specs.declared.op.PollOp.{PollOp}
use Rattle.driver_core.specs.declared.op.PollOp.TheVariants.{Pending, Ready}
use Rattle.driver_core.specs.declared.op.Stop.{Stop}
use Rattle.driver_core.specs.declared.op.Stop.TheVariants as stop
use Rattle.driver_core.specs.declared.op.SubmitError.{SubmitError}
use Rattle.driver_core.specs.declared.op.Turned.{Turned}
use Rattle.driver_core.specs.declared.slot.Slot.{Slot}
use Rattle.driver_core.specs.Holds.{named_in, with_ops}
use Rattle.driver_core.specs.Op.{Holds, number_of}
use Rattle.driver_core.specs.Operations.{new_slot}
use Rattle.driver_core.specs.Slot.{is_flying, serial_of}
use Rattle.driver_core.proofs.Maps.{put-same, put-other}
use Rattle.ready_driver.specs.declared.ready.Direction.{Direction}
use Rattle.ready_driver.specs.Awaits.{slot_awaits}
use Rattle.ready_driver.specs.Calling.{Called}
use Rattle.ready_driver.specs.Io.{IoView}
use Rattle.ready_driver.specs.LegacyCalls.{unwaiting}
use Rattle.ready_driver.specs.LegacyState.{LegacyState, ops_in}
use Rattle.ready_driver.specs.LegacyTurns.{LegacyTurns, NamesFor, TurnsBy, turning_in}
use Rattle.ready_driver.specs.Named.{KeepsSlot, PollsSlotFor, canceled_if, canceled_in, canceled_slots}
use Rattle.ready_driver.specs.Others.{HasEntry, MeetsNone}
use Rattle.ready_driver.specs.Records.{Kept}
use Rattle.ready_driver.specs.Registry.{is_known, registered_each}
use Rattle.ready_driver.specs.ScheduledIo.{entry_of}
use Rattle.ready_driver.proofs.Others.{entry-registered, entry-unwaiting, unmet-registered, unmet-unwaiting}
use Rattle.op_driver.specs.Legacy.{LegacyCancels, LegacyPolls, LegacySubmits}
use Rattle.op_job.specs.declared.op_job.State.TheVariants.{Waiting}
use Rattle.op_job.specs.Kept.{StandsOrNamed}
use Rattle.op_job.specs.Met.{IsWaiting}
use Rattle.op_job.specs.OpJob.{FitsState}
use Rattle.op_job.proofs.Naming.{turn_names}
use Rattle.op_job.proofs.Reached.{has_in}

-- A slot in the place of one that names the same handles.
put_named : {B : Type 0} (slots : FinMap nat_cmp (Slot B)) (k j : ℕ) (s t : Slot B) → get slots k ≡ Some s
    → named t.request ≡ named s.request → named_in (get (insert slots k t) j) ≡ named_in (get slots j)
put_named slots k j s t is same = elim (same-or-not j k) [
  | inl e ↦ ap (λ i. named_in (get (insert slots k t) i)) e ∙ ap named_in (put-same slots k t) ∙ same ∙ sym (ap named_in is)
      ∙ ap (λ i. named_in (get slots i)) (sym e)
  | inr e ↦ ap named_in (put-other slots k t j e)
]

-- A slot whose operation's cancel is asked for keeps its names, and so does each other slot.
canceled_names : {B : Type 0} (slots : FinMap nat_cmp (Slot B)) (k j : ℕ)
    → named_in (get (canceled_slots slots k) j) ≡ named_in (get slots j)
canceled_names {B} slots k j = by (get slots k) refl
  where
    flies : (b : Bool) (s : Slot B) → get slots k ≡ Some s → named_in (get (canceled_if b slots k s) j) ≡ named_in (get slots j)
    flies false s is = refl
    flies true s is = put_named slots k j s _ is refl

    by : (x : Option (Slot B)) → get slots k ≡ x → named_in (get (canceled_in slots k x) j) ≡ named_in (get slots j)
    by None is = refl
    by (Some s) is = flies (is_flying s.life) s is

-- Handles that are registered leave an operation waiting.
registered_waits : (handles : List ℕ) (old new : Kept) (h number task : ℕ) (dir : Direction) → new ≡ registered_each old handles
    → IsWaiting old h number task dir → IsWaiting new h number task dir
registered_waits handles old new h number task dir is waits = record {
  entry = subst (λ k. HasEntry k h number (entry_of number task dir)) (sym is)
      (entry-registered handles old h number (entry_of number task dir) waits.entry);
  unmet = subst (λ k. MeetsNone k h dir) (sym is) (unmet-registered handles old h dir waits.unmet);
}

-- So does one that waits no longer, of the others.
unwaiting_waits : (old new : Kept) (mine : ℕ) (awaited : Option (ℕ × Direction)) (h number task : ℕ) (dir : Direction) → number ≢ mine
    → new ≡ unwaiting old mine awaited → IsWaiting old h number task dir → IsWaiting new h number task dir
unwaiting_waits old new mine awaited h number task dir other is waits = record {
  entry = subst (λ k. HasEntry k h number (entry_of number task dir)) (sym is)
      (entry-unwaiting old mine awaited h number (entry_of number task dir) other waits.entry);
  unmet = subst (λ k. MeetsNone k h dir) (sym is) (unmet-unwaiting old mine awaited h dir waits.unmet);
}

-- A handle that somebody holds is held once operations hold some.
known_with : (handles : List ℕ) (table : Table) (h : ℕ) → is_known table h ≡ true → is_known (with_ops table handles) h ≡ true
known_with [] table h known = known
known_with (n ∷ handles) table h known =
    let held = with_operation (holders_at table n) in
    known_with handles (with_holders table n held) h (elim (same-or-not h n) [
      | inl e ↦ ap (is_known (with_holders table n held)) e ∙ ap is_some (put-same table.holders n held)
      | inr e ↦ ap is_some (put-other table.holders n held h e) ∙ known
    ])

module _ {I B : Type 0} (op : Op) (task : ℕ) (old new : LegacyState I B) where
  -- What a call leaves, by what it leaves of the operation's names, its entry, and the tasks that the next turn names.
  carried : named_in (get new.slots.values op.key) ≡ named_in (get old.slots.values op.key)
      → ((h : ℕ) (dir : Direction) → has_number h (named_in (get new.slots.values op.key)) ≡ true
      → IsWaiting old.handling.records h op.number task dir → IsWaiting new.handling.records h op.number task dir)
      → ((h : ℕ) → has_number h (named_in (get new.slots.values op.key)) ≡ true → is_known old.handling.table h ≡ true
      → is_known new.handling.table h ≡ true)
      → (Contains old.asked task → Contains new.asked task) → StandsOrNamed old op task → StandsOrNamed new op task
  carried names waits known asked (inl stands) =
      let still : has_number stands.handle (named_in (get new.slots.values op.key)) ≡ true
      = ap (has_number stands.handle) names ∙ stands.names in
      inl (record {
        handle = stands.handle;
        direction = stands.direction;
        names = still;
        known = known stands.handle still stands.known;
        waits = waits stands.handle stands.direction still stands.waits;
      })
  carried names waits known asked (inr has) = inr (asked has)

  -- A new slot is at another key.
  added_other : (request : Request B Parts) (other : Op) → FitsState (ops_in old) (Waiting op) → FitsState (ops_in new) (Waiting op)
      → new.slots.values ≡ insert old.slots.values other.key (new_slot (ops_in old) request)
      → get new.slots.values op.key ≡ get old.slots.values op.key
  added_other request other held holds is = elim (same-or-not op.key other.key) [
    | inl e ↦
        let now : get new.slots.values op.key ≡ Some (new_slot (ops_in old) request)
        = ap (get new.slots.values) e ∙ ap (λ m. get m other.key) is
        ∙ put-same old.slots.values other.key (new_slot (ops_in old) request) in
        let both : Some old.given ≡ Some op.number = sym (ap serial_of now) ∙ holds.0 in
        let number : old.given ≡ op.number = cc in
        let below = held.1 in
        absurd (omega (arith, below, number))
    | inr e ↦ ap (λ m. get m op.key) is ∙ put-other old.slots.values other.key (new_slot (ops_in old) request) op.key e
  ]

  -- A submission leaves it so.
  pub submitted_stands : (view : I → IoView) (tells memory : Bool) (request : Request B Parts) (result : Result Op (SubmitError B))
      → LegacySubmits view tells memory old new request result → FitsState (ops_in old) (Waiting op) → FitsState (ops_in new) (Waiting op)
      → StandsOrNamed old op task → StandsOrNamed new op task
  submitted_stands view tells memory request (Ok other) joins held holds =
      carried (ap named_in (added_other request other held holds joins.slots))
      (λ h dir still. registered_waits (named request) old.handling.records new.handling.records h op.number task dir
      (ap (λ s. s.records) joins.handling ∙ joins.ready.records))
      (λ h still was. ap (λ s. is_known s.table h) joins.handling ∙ known_with (named request) joins.mid.table h
      (ap (λ t. is_known t h) joins.ready.table ∙ was))
      (subst (λ ts. Contains ts task) (sym joins.asked))
  submitted_stands view tells memory request (Err refused) is held holds =
      carried (ap (λ m. named_in (get m op.key)) is.same.slots)
      (λ h dir still. registered_waits is.handles.front old.handling.records new.handling.records h op.number task dir
      is.handles.made.records)
      (λ h still was. ap (λ t. is_known t h) is.handles.made.table ∙ was)
      (subst (λ ts. Contains ts task) (sym is.same.asked))

  -- A poll of another operation keeps the names of its slot.
  polled_names : (other : Op) (result : Result (PollOp B) (OutOfMemory × Op)) → PollsSlotFor (ops_in old) (ops_in new) other result
      → Holds (ops_in new) op → named_in (get new.slots.values op.key) ≡ named_in (get old.slots.values op.key)
  polled_names other result polls holds = by result polls
    where
      kept : KeepsSlot old.slots.values other.key new.slots.values
          → named_in (get new.slots.values op.key) ≡ named_in (get old.slots.values op.key)
      kept keeps = elim (same-or-not op.key other.key) [
        | inl e ↦ ap (λ k. named_in (get new.slots.values k)) e ∙ keeps.names ∙ ap (λ k. named_in (get old.slots.values k)) (sym e)
        | inr e ↦ ap named_in (keeps.others op.key e)
      ]

      by : (r : Result (PollOp B) (OutOfMemory × Op)) → PollsSlotFor (ops_in old) (ops_in new) other r
          → named_in (get new.slots.values op.key) ≡ named_in (get old.slots.values op.key)
      by (Ok (Pending back)) keeps = kept keeps
      by (Err error) keeps = kept keeps
      by (Ok (Ready done)) returns = elim (same-or-not op.key other.key) [
        | inl e ↦
            let none : ◌≡◌ {A = Option ℕ} None (Some op.number)
            = sym (ap serial_of (ap (get new.slots.values) e ∙ returns.free)) ∙ holds in
            let f : ⊥ = cc in
            absurd f
        | inr e ↦ ap named_in (returns.others op.key e)
      ]

  -- So it leaves it standing.
  pub polled_stands : (files : I → ℕ → Bool) (buffer : B → Buffer) (called : Called I) (view : I → IoView) (tells memory : Bool)
      (other : Op) (by : ℕ) (result : Result (PollOp B) (OutOfMemory × Op))
      → LegacyPolls files buffer called view tells memory old new other by result
      → number_of other ≢ number_of op → FitsState (ops_in new) (Waiting op) → StandsOrNamed old op task → StandsOrNamed new op task
  polled_stands files buffer called view tells memory other by result polls apart holds =
      carried (polled_names other result polls.slot holds.0)
      (λ h dir still waits. record {
        entry = polls.others.entries h op.number (entry_of op.number task dir) (λ same. apart (sym same)) (polls.held op.key h still)
            waits.entry;
        unmet = polls.others.unmet h dir waits.unmet;
      })
      (λ h still was. polls.held op.key h still)
      (subst (λ ts. Contains ts task) (sym polls.asked))

  -- So does the cancel of another.
  pub canceled_stands : (other : Op) (result : Result Unit OutOfMemory) → LegacyCancels old new other result → number_of other ≢ number_of op
      → StandsOrNamed old op task → StandsOrNamed new op task
  canceled_stands other (Ok done) is apart =
      carried (ap (λ m. named_in (get m op.key)) is.slots ∙ canceled_names old.slots.values other.key op.key)
      (λ h dir still. unwaiting_waits old.handling.records new.handling.records other.number
      (slot_awaits (get old.slots.values other.key)) h op.number task dir (λ same. apart (sym same)) (ap (λ s. s.records) is.waits))
      (λ h still was. ap (λ s. is_known s.table h) is.waits ∙ was)
      (λ has. subst (λ ts. Contains ts task) (sym is.asked) (Contains-append_left old.asked _ task has))
  canceled_stands other (Err error) is apart = subst (λ d. StandsOrNamed d op task) (sym is)

  -- The tasks that the next turn names are among those that it is to name,
  asked_first : (view : I → IoView) (tells reporting memory : Bool) (tasks : List ℕ) (why : Option Stop)
      → TurnsBy view tells reporting memory (turning_in old old.asked) (turning_in new tasks) why
      → Contains old.asked task → Contains tasks task
  asked_first view tells reporting memory tasks None does has =
      subst (λ ts. Contains ts task) (sym does.treats.tasks) (Contains-append_left old.asked _ task has)
  asked_first view tells reporting memory tasks (Some stop.RingFault) does has = absurd does
  asked_first view tells reporting memory tasks (Some stop.Busy) does has = absurd does
  asked_first view tells reporting memory tasks (Some (stop.BadCompletion word)) does has = absurd does
  asked_first view tells reporting memory tasks (Some (stop.Os code)) does has =
      subst (λ ts. Contains ts task) (sym does.0.treats.tasks) (Contains-append_left old.asked _ task has)
  asked_first view tells reporting memory tasks (Some stop.OutOfMemory) (inl same) has =
      subst (λ ts. Contains ts task) (sym (ap (λ t. t.tasks) same)) has
  asked_first view tells reporting memory tasks (Some stop.OutOfMemory) (inr starves) has =
      subst (λ ts. Contains ts task) (sym starves.stops.treats.tasks) (Contains-append_left old.asked _ task has)

  -- and one of these that it doesn't name is left to the next one.
  left_asked : (why : Option Stop) (tasks woken : List ℕ) → NamesFor why tasks woken new.asked → has_task task woken ≡ false
      → Contains tasks task → Contains new.asked task
  left_asked None tasks woken names unnamed has =
      let f : true ≡ false = sym (has_in woken task (subst (λ ts. Contains ts task) (sym names.0) has)) ∙ unnamed in
      let g : ⊥ = cc in
      absurd g
  left_asked (Some why) tasks woken names unnamed has = subst (λ ts. Contains ts task) (sym names.1) has

  -- A turn leaves the holders of handles.
  pub turned_table : (view : I → IoView) (tells reporting memory : Bool) (tasks : List ℕ) (why : Option Stop)
      → TurnsBy view tells reporting memory (turning_in old old.asked) (turning_in new tasks) why
      → new.handling.table ≡ old.handling.table
  turned_table view tells reporting memory tasks None does = ap (λ s. s.table) does.treats.handling
  turned_table view tells reporting memory tasks (Some stop.RingFault) does = absurd does
  turned_table view tells reporting memory tasks (Some stop.Busy) does = absurd does
  turned_table view tells reporting memory tasks (Some (stop.BadCompletion word)) does = absurd does
  turned_table view tells reporting memory tasks (Some (stop.Os code)) does = ap (λ s. s.table) does.0.treats.handling
  turned_table view tells reporting memory tasks (Some stop.OutOfMemory) (inl same) = ap (λ t. t.handling.table) same
  turned_table view tells reporting memory tasks (Some stop.OutOfMemory) (inr starves) = ap (λ s. s.table) starves.stops.treats.handling

  -- So a turn that doesn't name the task leaves the operation standing, or the task to the next turn.
  pub turned_stands : (view : I → IoView) (tells reporting memory : Bool) (turned : Turned)
      → LegacyTurns view tells reporting memory old new turned → has_task task turned.woken ≡ false
      → StandsOrNamed old op task → StandsOrNamed new op task
  turned_stands view tells reporting memory turned turns unnamed (inl stands) =
      elim (turn_names view tells reporting memory old new turned turns stands.handle op.number task stands.direction stands.waits) [
        | inl has ↦ inr (left_asked turned.stop turns.tasks turned.woken turns.names unnamed has)
        | inr waits ↦ inl (record {
          handle = stands.handle;
          direction = stands.direction;
          names = ap (λ s. has_number stands.handle (named_in (get s.values op.key))) turns.slots ∙ stands.names;
          known = ap (λ t. is_known t stands.handle)
              (turned_table view tells reporting memory turns.tasks turned.stop turns.does) ∙ stands.known;
          waits = waits;
        })
      ]
  turned_stands view tells reporting memory turned turns unnamed (inr has) =
      inr (left_asked turned.stop turns.tasks turned.woken turns.names unnamed
      (asked_first view tells reporting memory turns.tasks turned.stop turns.does has))
