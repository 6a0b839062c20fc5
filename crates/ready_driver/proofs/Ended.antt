-- What the calls of operations do to slots that are those of a driver's operations.
use Rattle.std.proofs.Common.{◌≡◌, ℕ, Bool, true, false, List, length, Option, Some, None, option_map, refl, sym, ◌∙◌, ap, subst}
use Rattle.std.specs.Ordering.{nat_cmp}
use Rattle.std.specs.FinMap.{FinMap, get, insert, remove}
use Rattle.rent_buf.specs.Buffer.{Buffer}
use Rattle.rent_buf.specs.Parts.{Parts}
use Rattle.op_slots.specs.Lifecycle.{polled}
use Rattle.op_slots.specs.declared.lifecycle.Lifecycle.{Lifecycle}
use Rattle.op_slots.specs.declared.lifecycle.Lifecycle.TheVariants.{Submitted, Waiting, Ignored, Completed}
use Rattle.machine.specs.declared.request.TheConstants.{CANCELED}
use Rattle.machine.specs.declared.request.Outcome.{Outcome}
use Rattle.machine.specs.declared.request.Outcome.TheVariants.{Fail}
use Rattle.machine.specs.declared.request.Told.{Told}
use Rattle.machine.specs.declared.request.Request.{Request}
use Rattle.machine.specs.declared.completion.Completion.{Completion}
use Rattle.machine.specs.declared.world.HandleState.{HandleState}
use Rattle.machine.specs.declared.ledger.Reply.TheVariants.{Pending as Waits, Handed}
use Rattle.machine.specs.Request.{plain_request, call_of, held_of, held}
use Rattle.machine.specs.Effect.{Effect}
use Rattle.machine.specs.Attempt.{attempt}
use Rattle.machine.specs.WorldCall.{IsCalled, call_effect}
use Rattle.machine.proofs.Amended.{length-amended}
use Rattle.driver_core.specs.declared.slot.Slot.{Slot}
use Rattle.driver_core.specs.declared.op.Done.{Done}
use Rattle.driver_core.specs.declared.operations.calls.CallAnswer.{CallAnswer}
use Rattle.driver_core.specs.Calls.{CallsSlot}
use Rattle.driver_core.specs.Slot.{is_owned_life, number_at, is_flying, flies_in, with_life, PollsAt, slots_completed, slots_if}
use Rattle.driver_core.specs.Slot.{slots_after, EndsSlot}
use Rattle.driver_core.specs.Slot.{CompletesSlot}
use Rattle.driver_core.proofs.Lists.{some, amended-twice}
use Rattle.driver_core.proofs.Maps.{put-same, put-self, remove-put}
use Rattle.driver_core.proofs.Numbers.{Owner, owner}
use Rattle.driver_core.proofs.Polling.{called-now}
use Rattle.ready_driver.specs.Legacy.{Legacy, slot_at}
use Rattle.ready_driver.specs.LegacyStep.{freed, op_effect, ends_with, poll_op, poll_slot, with_ask}
use Rattle.ready_driver.specs.Polling.{LifeFor, SlotFor, SlotsStand, asked_at}
use Rattle.ready_driver.proofs.Slots.{slots-put, slots-gone, asked-same, asked-other}

-- A slot that is its user's and in flight is completed in its place.
completed-kept : {B : Type 0} (life : Lifecycle Outcome) (m : FinMap nat_cmp (Slot B)) (key : ℕ) (t : Slot B) → is_flying life ≡ true →
    is_owned_life life ≡ true → slots_completed life m key t ≡ insert m key t
completed-kept Submitted m key t flies owned = refl
completed-kept (Waiting task) m key t flies owned = refl
completed-kept Ignored m key t flies owned = (let f : ⊥ = cc in absurd f)
completed-kept (Completed outcome) m key t flies owned = refl

-- A slot in flight is completed.
completes-flying : {B : Type 0} (old new : FinMap nat_cmp (Slot B)) (c : Completion) (result : Option (ℕ × Option ℕ)) (s : Slot B) →
    get old c.word ≡ Some s → is_flying s.life ≡ true → is_owned_life s.life ≡ true → CompletesSlot old c new result →
    new ≡ insert old c.word (with_life s (Completed c.outcome))
completes-flying old new c result s there flies owned done =
    done.slots ∙ ap (slots_after old c) there ∙ ap (λ b. slots_if b old c s) flies
    ∙ completed-kept s.life old c.word (with_life s (Completed c.outcome)) flies owned

-- One that isn't in flight stays.
completes-landed : {B : Type 0} (old new : FinMap nat_cmp (Slot B)) (c : Completion) (result : Option (ℕ × Option ℕ)) (s : Slot B) →
    get old c.word ≡ Some s → is_flying s.life ≡ false → CompletesSlot old c new result → new ≡ old
completes-landed old new c result s there landed done =
    done.slots ∙ ap (slots_after old c) there ∙ ap (λ b. slots_if b old c s) landed

-- What isn't in flight had its cancel asked for.
landed-life : (is_asked : Bool) (life : Lifecycle Outcome) → LifeFor is_asked life → is_flying life ≡ false → life ≡ Completed
    (Fail CANCELED)
landed-life true life for landed = for
landed-life false Submitted for landed = (let f : ⊥ = cc in absurd f)
landed-life false (Waiting task) for landed = (let f : ⊥ = cc in absurd f)
landed-life false Ignored for landed = absurd for
landed-life false (Completed outcome) for landed = absurd for

-- What is completed had its cancel asked for, and has that error.
completed-asked : (is_asked : Bool) (life : Lifecycle Outcome) (outcome : Outcome) → LifeFor is_asked life → life ≡ Completed outcome →
    (is_asked ≡ true) × (outcome ≡ Fail CANCELED)
completed-asked true life outcome for is = (
  refl,
  (let e : ◌≡◌ {A = Lifecycle Outcome} (Completed outcome) (Completed (Fail CANCELED)) = sym is ∙ for in cc),
)
completed-asked false Submitted outcome for is = (let f : ⊥ = cc in absurd f)
completed-asked false (Waiting task) outcome for is = (let f : ⊥ = cc in absurd f)
completed-asked false Ignored outcome for is = absurd for
completed-asked false (Completed other) outcome for is = absurd for

-- What is in flight didn't.
pub flying-unasked : (is_asked : Bool) (life : Lifecycle Outcome) → LifeFor is_asked life → is_flying life ≡ true → is_asked ≡ false
flying-unasked false life for flies = refl
flying-unasked true life for flies =
    (let e : false ≡ true = sym (ap is_flying for) ∙ flies in let f : ⊥ = cc in absurd f)

-- What waits and is polled waits on.
polled-life : (life : Lifecycle Outcome) (task : ℕ) → LifeFor false life → LifeFor false (polled life task)
polled-life Submitted task for = tt
polled-life (Waiting earlier) task for = tt
polled-life Ignored task for = absurd for
polled-life (Completed outcome) task for = absurd for

-- The slot of an operation that is its user's, and a completion that names it.
module _ {B : Type 0} (old new : FinMap nat_cmp (Slot B)) (key number : ℕ) (c : Completion) (result : Option (ℕ × Option ℕ))
    (holds : number_at old key ≡ Some number) (word : c.word ≡ key) (completes : CompletesSlot old c new result) where
  -- The slot.
  abbrev own : Owner old key number
  own = owner old key number holds

  -- The completion names it.
  named : get old c.word ≡ Some own.slot
  named = ap (get old) word ∙ own.there

  -- Where it is in flight it is completed.
  flying-new : is_flying own.slot.life ≡ true → new ≡ insert old key (with_life own.slot (Completed c.outcome))
  flying-new flies =
      completes-flying old new c result own.slot named flies own.owned completes
      ∙ ap (λ k. insert old k (with_life own.slot (Completed c.outcome))) word

  -- It isn't in flight any more.
  pub lands : flies_in (get new key) ≡ false
  lands = by (is_flying own.slot.life) refl
    where
      by : (b : Bool) → is_flying own.slot.life ≡ b → flies_in (get new key) ≡ false
      by true is = ap (λ m. flies_in (get m key)) (flying-new is)
          ∙ ap flies_in (put-same old key (with_life own.slot (Completed c.outcome)))
      by false is = ap (λ m. flies_in (get m key)) (completes-landed old new c result own.slot named is completes)
          ∙ ap flies_in own.there ∙ is

  -- With the error of a cancel its cancel is asked for.
  pub canceled-stand : (buffer : B → Buffer) (D : Legacy) → c.outcome ≡ Fail CANCELED → SlotsStand buffer old D →
      SlotsStand buffer new (asked_at D number)
  canceled-stand buffer D outcome stand = subst (λ n. SlotsStand buffer new (asked_at D n)) own.serial (by (is_flying own.slot.life) refl)
    where
      fits : SlotFor buffer D own.slot
      fits = stand.holds key own.slot own.there

      put : (t : Slot B) → t.serial ≡ own.slot.serial → t.request ≡ own.slot.request → t.life ≡ Completed (Fail CANCELED) →
          SlotsStand buffer (insert old key t) (asked_at D own.slot.serial)
      put t serial request life =
          slots-put buffer old D key own.slot stand own.there (asked_at D own.slot.serial) t serial (record {
            op = with_ask fits.op;
            there = ap (slot_at (asked_at D own.slot.serial)) serial ∙ asked-same D own.slot.serial fits.op fits.there;
            request = ap (plain_request buffer) request ∙ fits.request;
            life = life;
          }) (asked-other D own.slot.serial)

      by : (b : Bool) → is_flying own.slot.life ≡ b → SlotsStand buffer new (asked_at D own.slot.serial)
      by true is =
          subst (λ m. SlotsStand buffer m (asked_at D own.slot.serial)) (sym (flying-new is))
          (put (with_life own.slot (Completed c.outcome)) refl refl (ap Completed outcome))
      by false is =
          subst (λ m. SlotsStand buffer m (asked_at D own.slot.serial))
          (put-self old key own.slot own.there ∙ sym (completes-landed old new c result own.slot named is completes))
          (put own.slot refl refl (landed-life fits.op.asked own.slot.life fits.life is))

-- Slots that are those of a driver are so with other handles and users.
slots-beside : {B : Type 0} (buffer : B → Buffer) (slots : FinMap nat_cmp (Slot B)) (D : Legacy) (world : List HandleState)
    (users : List Bool) →
    SlotsStand buffer slots D → SlotsStand buffer slots (record D { world = world; users = users })
slots-beside buffer slots D world users stand = record {
  holds = λ k s at. (
      let f = stand.holds k s at in record { op = f.op; there = f.there; request = f.request; life = f.life });
  one = stand.one;
  each = stand.each;
}

-- The slot of an operation that is its user's, of a driver, and a poll of it.
module _ {B : Type 0} (buffer : B → Buffer) (D : Legacy) (old : FinMap nat_cmp (Slot B)) (key number : ℕ)
    (stand : SlotsStand buffer old D) (holds : number_at old key ≡ Some number) where
  -- The slot, and the driver's operation.
  abbrev mine : Owner old key number
  mine = owner old key number holds

  -- It is that of the driver's operation.
  abbrev fits : SlotFor buffer D mine.slot
  fits = stand.holds key mine.slot mine.there

  -- The driver has the operation.
  driven : slot_at D number ≡ Some fits.op
  driven = ap (slot_at D) (sym mine.serial) ∙ fits.there

  -- The poll of the driver, by whether its cancel is asked for and by what its call makes.
  polled-by : (b : Bool) (m : Option Told) → fits.op.asked ≡ b → attempt D.world (call_of fits.op.request) ≡ m →
      poll_slot D number (slot_at D number) ≡ poll_op b m D number fits.op
  polled-by b m eb em =
      ap (poll_slot D number) driven ∙ ap (λ x. poll_op fits.op.asked x D number fits.op) em
      ∙ ap (λ x. poll_op x m D number fits.op) eb

  -- It goes with its slot.
  gone : SlotsStand buffer (remove old key) (freed D number)
  gone = subst (λ n. SlotsStand buffer (remove old key) (freed D n)) mine.serial (slots-gone buffer old D key mine.slot stand mine.there)

  -- A poll that returns what was completed before.
  module _ (task : ℕ) (new : FinMap nat_cmp (Slot B)) (done : Done B) (polls : PollsAt old key task new (Some done)) where
    -- Its cancel was asked for.
    was : (fits.op.asked ≡ true) × (done.outcome ≡ Fail CANCELED)
    was = completed-asked fits.op.asked mine.slot.life done.outcome fits.life (polls mine.slot mine.there).0

    -- The driver ends it with that error.
    ready-driven : poll_slot D number (slot_at D number) ≡ (freed D number, Handed (Fail CANCELED) (held_of fits.op.request))
    ready-driven = polled-by true (attempt D.world (call_of fits.op.request)) was.0 refl

    -- The driver replies so.
    pub ready-reply : (poll_slot D number (slot_at D number)).1 ≡ Handed done.outcome (held_of (plain_request buffer done.request))
    ready-reply =
        ap (λ p. p.1) ready-driven ∙ ap (λ o. Handed o (held_of fits.op.request)) (sym was.1)
        ∙ ap (λ r. Handed done.outcome (held_of r))
        (sym fits.request ∙ ap (plain_request buffer) (sym (polls mine.slot mine.there).1))

    -- The slots are those of the driver behind it, which has the same handles.
    pub ready-stand : SlotsStand buffer new (poll_slot D number (slot_at D number)).0
    ready-stand =
        subst (SlotsStand buffer new) (sym (ap (λ p. p.0) ready-driven))
        (subst (λ m. SlotsStand buffer m (freed D number)) (sym (polls mine.slot mine.there).2) gone)

    -- The handles are the same, and how many operations there were.
    pub ready-rest : ((poll_slot D number (slot_at D number)).0.world ≡ D.world)
        × (length (poll_slot D number (slot_at D number)).0.slots ≡ length D.slots)
    ready-rest = (
      ap (λ p. p.0.world) ready-driven,
      ap (λ p. length p.0.slots) ready-driven ∙ length-amended (λ slot. None) D.slots number,
    )

  -- A poll that waits, and the call behind it.
  module _ {C : Type 0} (called : C → Request Buffer Parts → C → Request Buffer Parts → CallAnswer → Type 0) (task : ℕ)
      (mid new : FinMap nat_cmp (Slot B)) (before after : C) (answer : CallAnswer) (polls : PollsAt old key task mid None)
      (calls : CallsSlot buffer called mid key before new after answer) where
    -- The slot with the task that polled.
    abbrev waiting : Slot B
    waiting = with_life mine.slot (polled mine.slot.life task)

    -- The slots after the poll.
    mid-is : mid ≡ insert old key waiting
    mid-is = (polls mine.slot mine.there).1

    -- The slot that was called is that one.
    slot-is : calls.slot ≡ waiting
    slot-is = some calls.slot waiting (get mid key) calls.there (ap (λ m. get m key) mid-is ∙ put-same old key waiting)

    -- The slots after the call.
    new-is : new ≡ insert (insert old key waiting) key calls.now
    new-is = calls.slots ∙ ap (λ m. insert m key calls.now) mid-is

    -- Its number stays.
    now-serial : calls.now.serial ≡ mine.slot.serial
    now-serial = calls.serial ∙ ap (λ s. s.serial) slot-is

    -- It waits on.
    now-life : calls.now.life ≡ polled mine.slot.life task
    now-life = calls.life ∙ ap (λ s. s.life) slot-is

    -- Its cancel wasn't asked for.
    unasked : fits.op.asked ≡ false
    unasked = flying-unasked fits.op.asked mine.slot.life fits.life (polls mine.slot mine.there).0

    -- That is the life of such an operation.
    still-for : LifeFor fits.op.asked (polled mine.slot.life task)
    still-for =
        subst (λ b. LifeFor b (polled mine.slot.life task)) (sym unasked)
        (polled-life mine.slot.life task (subst (λ b. LifeFor b mine.slot.life) unasked fits.life))

    -- The request that was called is the driver's.
    pub asks-same : plain_request buffer calls.slot.request ≡ fits.op.request
    asks-same = ap (λ s. plain_request buffer s.request) slot-is ∙ fits.request

    -- A call that wasn't made leaves the slots those of the driver.
    pub unmade-stand : plain_request buffer calls.now.request ≡ plain_request buffer calls.slot.request → SlotsStand buffer new D
    unmade-stand same =
        let one : SlotsStand buffer (insert old key waiting) D =
        slots-put buffer old D key mine.slot stand mine.there D waiting refl
        (record { op = fits.op; there = fits.there; request = fits.request; life = still-for }) (λ n apart. refl) in
        subst (λ m. SlotsStand buffer m D) (sym new-is)
        (slots-put buffer (insert old key waiting) D key waiting one (put-same old key waiting) D calls.now now-serial (record {
          op = fits.op;
          there = ap (slot_at D) now-serial ∙ fits.there;
          request = same ∙ asks-same;
          life = subst (LifeFor fits.op.asked) (sym now-life) still-for;
        }) (λ n apart. refl))

    -- The driver waits where the call would block.
    pub blocks-driven : (world : List HandleState) → world ≡ D.world →
        attempt world (call_of (plain_request buffer calls.slot.request)) ≡ None → poll_slot D number (slot_at D number) ≡ (D, Waits)
    blocks-driven world same none =
        polled-by false None unasked
        (sym (ap (λ w. attempt w (call_of (plain_request buffer calls.slot.request))) same
        ∙ ap (λ r. attempt D.world (call_of r)) asks-same) ∙ none)

    -- A call that was made, and the end of its operation.
    module _ (world next : List HandleState) (outcome : Outcome) (done : Done B) (behind : FinMap nat_cmp (Slot B)) (same : world ≡ D.world)
        (made : IsCalled world (plain_request buffer calls.slot.request) next (plain_request buffer calls.now.request) outcome)
        (ends : EndsSlot new key outcome behind done) where
      -- What the driver's call moves.
      effect-is : call_effect world (plain_request buffer calls.slot.request) made.told ≡ op_effect D fits.op made.told
      effect-is = ap (λ w. call_effect w (plain_request buffer calls.slot.request) made.told) same
          ∙ ap (λ r. call_effect D.world r made.told) asks-same

      -- The driver ends the operation so.
      made-driven : poll_slot D number (slot_at D number) ≡ ends_with D number fits.op made.told
      made-driven =
          polled-by false (Some made.told) unasked
          (sym (ap (λ w. attempt w (call_of (plain_request buffer calls.slot.request))) same
          ∙ ap (λ r. attempt D.world (call_of r)) asks-same) ∙ made.made)

      -- What the request holds is what the driver has.
      held-is : held_of (plain_request buffer done.request) ≡ held fits.op.request made.told (op_effect D fits.op made.told).got
      held-is =
          ap (λ r. held_of (plain_request buffer r)) (ends calls.now (called-now calls)).1 ∙ made.holds.holds
          ∙ ap (λ r. held r made.told (call_effect world (plain_request buffer calls.slot.request) made.told).got) asks-same
          ∙ ap (λ (left : Effect). held fits.op.request made.told left.got) effect-is

      -- The driver replies so.
      pub made-reply : (poll_slot D number (slot_at D number)).1 ≡ Handed done.outcome (held_of (plain_request buffer done.request))
      made-reply =
          ap (λ p. p.1) made-driven
          ∙ ap (λ o. Handed o (held fits.op.request made.told (op_effect D fits.op made.told).got))
          (sym ((ends calls.now (called-now calls)).0 ∙ made.outcome_is ∙ ap (λ left. left.outcome) effect-is))
          ∙ ap (Handed done.outcome) (sym held-is)

      -- The slots are those of the driver behind it.
      pub made-stand : SlotsStand buffer behind (poll_slot D number (slot_at D number)).0
      made-stand =
          subst (SlotsStand buffer behind) (sym (ap (λ p. p.0) made-driven))
          (subst (λ m. SlotsStand buffer m (ends_with D number fits.op made.told).0)
          (sym ((ends calls.now (called-now calls)).2 ∙ ap (λ m. remove m key) new-is ∙ remove-put (insert old key waiting) key calls.now
          ∙ remove-put old key waiting))
          (slots-beside buffer (remove old key) (freed D number) (ends_with D number fits.op made.told).0.world
          (ends_with D number fits.op made.told).0.users gone))

      -- So are the handles, and how many operations there were.
      pub made-rest : (next ≡ (poll_slot D number (slot_at D number)).0.world)
          × (length (poll_slot D number (slot_at D number)).0.slots ≡ length D.slots)
      made-rest = (
        made.world ∙ ap (λ left. left.world) effect-is ∙ sym (ap (λ p. p.0.world) made-driven),
        ap (λ p. length p.0.slots) made-driven ∙ length-amended (λ slot. None) D.slots number,
      )

-- The drop of an operation whose cancel is asked for: it is gone, as it is where it wasn't.
pub freed-asked : (D : Legacy) (n : ℕ) → freed (asked_at D n) n ≡ freed D n
freed-asked D n = ap (λ xs. record D { slots = xs }) (amended-twice D.slots n (option_map with_ask) (λ slot. None))

-- The slots once a slot that is its user's went.
pub dropped-stand : {B : Type 0} (buffer : B → Buffer) (D : Legacy) (old : FinMap nat_cmp (Slot B)) (key number : ℕ) →
    SlotsStand buffer old D → number_at old key ≡ Some number → SlotsStand buffer (remove old key) (freed D number)
dropped-stand buffer D old key number stand holds = gone buffer D old key number stand holds
