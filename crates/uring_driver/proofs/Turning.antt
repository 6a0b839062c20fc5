-- What the turn of a driver that stands for a ledger answers.
use Rattle.std.proofs.Common.{◌≡◌, ◌≤◌, ◌<◌, ℕ, Bool, true, false, List, [], ◌++◌, length, Option, Some, None, refl, sym, ◌∙◌}
use Rattle.std.proofs.Common.{ap, subst}
use Rattle.std.proofs.Common.{arith, append-nil, length-append}
use Rattle.std.specs.Prelude.{IsTrue, take, drop}
use Rattle.std.proofs.lemmas.List.{append_cancel_left, length-drop, length-map}
use Rattle.rent_buf.specs.Buffer.{Buffer}
use Rattle.machine.specs.declared.world.TheConstants.{MOST_HANDLES}
use Rattle.machine.specs.declared.ledger.Event.TheVariants.{Turn}
use Rattle.machine.specs.declared.ledger.Reply.TheVariants.{Turned as TurnReply}
use Rattle.machine.specs.declared.completion.Completion.{Completion}
use Rattle.machine.specs.Lists.{has_number}
use Rattle.machine.specs.Ledger.{Ledger}
use Rattle.machine.specs.Queue.{take_all}
use Rattle.ring_core.specs.Ring.{RingView, with_done}
use Rattle.machine.specs.Step.{step}
use Rattle.machine.specs.Turn.{ops_in, closes_in, tasks_woken}
use Rattle.machine.proofs.Staying.{stays-length, stays-take_each, stays-reap_each}
use Rattle.driver_core.specs.declared.op.Turned.{Turned}
use Rattle.driver_core.specs.Holds.{AreMaking}
use Rattle.driver_core.specs.Slot.{KeepsNumbers}
use Rattle.driver_core.specs.Slots.{SlotsStand}
use Rattle.uring_driver.specs.declared.uring.IoUringDriver.{IoUringDriver}
use Rattle.uring_driver.specs.declared.uring.turn.Begun.{Begun}
use Rattle.uring_driver.specs.declared.uring.turn.Named.{Named}
use Rattle.uring_driver.specs.Holding.{HandlesStand}
use Rattle.uring_driver.specs.Stands.{Stands, Answers, owed}
use Rattle.uring_driver.specs.Uring.{ring_in, due_in, room_in, pending, whole_ring}
use Rattle.uring_driver.specs.Submissions.{Arrives, EnteredFor, with_spare}
use Rattle.uring_driver.specs.Lists.{queued_of}
use Rattle.uring_driver.specs.Reap.{Treated, treat_each}
use Rattle.uring_driver.specs.Reaps.{FitsQueue, closes_of, posted, KeepsUp}
use Rattle.uring_driver.specs.Turned.{taken_front, reaped_out, TurnsTo, TurnsFor}
use Rattle.uring_driver.specs.Begun.{HasBegun, why_stopped}
use Rattle.uring_driver.proofs.Amid.{Amid}
use Rattle.uring_driver.proofs.Answering.{groups-still, answers-parts, fits-of}
use Rattle.uring_driver.proofs.Begins.{amid-of, amid-front, amid-all}
use Rattle.uring_driver.proofs.Ending.{Ends, enters, told-is, cut, all-cut}
use Rattle.uring_driver.proofs.Entering.{later-behind, none-pending}
use Rattle.uring_driver.proofs.Heads.{means-view}
use Rattle.uring_driver.proofs.Means.{Means, means-of, ring-of}
use Rattle.uring_driver.proofs.Posted.{posted-done}
use Rattle.uring_driver.proofs.Steps.{step-turn}
use Rattle.uring_driver.proofs.Strays.{treats-ended}
use Rattle.uring_driver.proofs.Taking.{means-took-all, means-took-front, owned-taken}
use Rattle.uring_driver.proofs.Turns.{TreatsAll, treats-all}

module _ {R B : Type 0} (view : R → RingView) (buffer : B → Buffer) (tells steady : Bool) (old mid new : IoUringDriver R B) (begun : Begun)
    (turned : Turned) (named : Named) (bad : Option ℕ) (has : HasBegun view tells steady old mid begun)
    (ends : Ends view tells steady mid new begun.named named bad)
    (reaped : turned.reaped ≡ named.reaped.items) (closed : turned.closed ≡ named.closed.items)
    (woken : turned.woken ≡ named.woken.items) (given : new.given ≡ mid.given) (members : new.members ≡ mid.members)
    (numbers : KeepsNumbers mid.slots.values new.slots.values)
    (shows : IsTrue tells) (L : Ledger) (stands : Stands view buffer old L) (making : AreMaking mid.slots.values mid.holding.makers) where
  making-old : AreMaking old.slots.values old.holding.makers
  making-old = subst (λ m. AreMaking m old.holding.makers) has.same.slots
      (subst (λ h. AreMaking mid.slots.values h.makers) has.same.holding making)

  abbrev taken : List Completion
  taken = ends.reaps.taken

  abbrev all : Treated B
  all = treat_each mid.slots.values mid.holding taken

  -- What the turn tells of it.
  says : all ≡ record {
    slots = new.slots.values;
    holding = new.holding;
    reaped = turned.reaped;
    closed = turned.closed;
    woken = turned.woken;
    queued = all.queued;
    bad = bad;
    left = [];
  }
  says = told-is view tells steady old mid new begun turned named bad has ends reaped closed woken

  abbrev entered : Arrives view tells old.ring mid.ring
  entered = enters view tells steady old mid new begun turned named bad has ends reaped closed woken

  -- What is pending after the enter fits the queue.
  fits-mid : FitsQueue view mid.ring
  fits-mid =
      let fits = fits-of view old stands in
      let front = entered.told shows in
      let queue = ap length front.took.queue ∙ length-drop front.count (pending view old) in
      let before = length-append (view (ring_in old)).queue (due_in old) in
      let after = length-append (view (ring_in mid)).queue (due_in mid) in
      let same = entered.later.same_capacity in
      omega (arith, fits, queue, before, after, same)

  -- The parts of the driver once its ring was entered, by the parts before.
  amid-mid : (K : Ledger) → Amid buffer (whole_ring view mid) old.slots.values old.holding K →
      Amid buffer (whole_ring view mid) mid.slots.values mid.holding K
  amid-mid K amid = subst (λ h. Amid buffer (whole_ring view mid) mid.slots.values h K) (sym has.same.holding)
      (subst (λ m. Amid buffer (whole_ring view mid) m old.holding K) (sym has.same.slots) amid)

  later-mid : (enter : Arrives view tells old.ring mid.ring) → Amid buffer (whole_ring view mid) mid.slots.values mid.holding
      (taken_front (enter.told shows).count L)
  later-mid enter =
      let front = enter.told shows in
      let later = later-behind (view (ring_in old)) (view (ring_in mid)) (due_in old) (due_in mid) enter.later in
      amid-mid (taken_front front.count L)
      (amid-front buffer (whole_ring view old) (whole_ring view mid) old.slots.values old.holding L (amid-of stands making-old) front.count
      (means-took-front buffer (whole_ring view old) old.slots.values L (means-of stands) (whole_ring view mid) front.count
      front.takings stands.fits later front.took))

  all-mid : EnteredFor view tells steady old.ring mid.ring false →
      Amid buffer (whole_ring view mid) mid.slots.values mid.holding (take_all L)
  all-mid enter =
      let front = enter.0.told shows in
      let later = later-behind (view (ring_in old)) (view (ring_in mid)) (due_in old) (due_in mid) enter.0.later in
      amid-mid (take_all L)
      (amid-all buffer (whole_ring view old) (whole_ring view mid) old.slots.values old.holding L (amid-of stands making-old)
      (means-took-all buffer (whole_ring view old) old.slots.values L (means-of stands) (whole_ring view mid) front.count
      front.takings stands.fits later front.took (none-pending (view (ring_in mid)).queue (due_in mid) enter.1 enter.2)))

  -- Against the ledger to which the enter led.
  module _ (K : Ledger) (amid : Amid buffer (whole_ring view mid) mid.slots.values mid.holding K)
      (count : length K.ops ≡ length L.ops) where
    -- No completion was bad.
    never-bad : (word : ℕ) → bad ≡ Some word → ⊥
    never-bad word is =
        let c = cut view tells steady old mid new begun turned named bad has ends reaped closed woken shows in
        let e = treats-ended mid.slots.values mid.holding taken c.rest word (ends.reaps.treats.bad ∙ is) in
        let t = treats-all buffer (taken ++ c.rest) [] (whole_ring view mid) mid.slots.values mid.holding K amid
        (c.front ∙ sym (append-nil (taken ++ c.rest))) refl
        (subst (λ hs. (h : ℕ) → has_number h hs ≡ true → h < MOST_HANDLES) (sym (ap (λ x. x.queued) e)) ends.reaps.below) in
        let z : Some word ≡ None = sym (ap (λ x. x.bad) e ∙ ends.reaps.treats.bad ∙ is) ∙ t.no_bad in
        let f : ⊥ = cc in
        f

    module _ (none : bad ≡ None) where
      -- What was ready was taken off.
      ready-is : (view (ring_in mid)).done ≡ taken
      ready-is =
          let c = cut view tells steady old mid new begun turned named bad has ends reaped closed woken shows in
          c.front ∙ ap (λ xs. taken ++ xs)
          (all-cut view tells steady old mid new begun turned named bad has ends reaped closed woken shows none) ∙ append-nil taken

      treated : TreatsAll buffer (with_done (whole_ring view mid) []) mid.holding K all
      treated = treats-all buffer taken [] (whole_ring view mid) mid.slots.values mid.holding K amid
          (ready-is ∙ sym (append-nil taken)) refl ends.reaps.below

      abbrev pushed_all : RingView
      pushed_all = posted (with_done (whole_ring view mid) []) (closes_of all.queued)

      -- The ring is what the pushes of the closes make of it.
      means-new : KeepsUp steady all.queued → Means buffer (whole_ring view new) new.slots.values (reaped_out K)
      means-new keeps =
          let exact = (ends.reaps.ring.exact shows keeps fits-mid).0 in
          let same : with_spare (with_done (whole_ring view new) (taken ++ (whole_ring view new).done)) 0
          ≡ with_spare (with_done pushed_all (taken ++ pushed_all.done)) 0 =
          sym exact
          ∙ ap (λ d. with_spare (posted (with_done (whole_ring view mid) d) (closes_of all.queued)) 0) ready-is
          ∙ ap (λ v. with_spare v 0) (posted-done (whole_ring view mid) taken (closes_of all.queued)) in
          subst (λ m. Means buffer (whole_ring view new) m (reaped_out K)) (ap (λ x. x.slots) says)
          (means-view buffer pushed_all (whole_ring view new) all.slots (reaped_out K) (ap (λ v. v.capacity) same) (ap (λ v. v.queue) same)
          (ap (λ v. v.flying) same)
          (append_cancel_left taken (whole_ring view new).done pushed_all.done (ap (λ v. v.done) same)) (ap (λ v. v.world) same)
          treated.amid.means)

      numbered : new.given ≡ length (reaped_out K).ops
      numbered = given ∙ has.same.given ∙ stands.operations.numbered ∙ sym count
          ∙ sym (stays-length (stays-reap_each (record K { done = [] }) K.done))

      turns-to : TurnsTo view buffer steady K new turned all.queued
      turns-to = record {
        reaped = sym (ap (λ x. x.reaped) says) ∙ treated.reaped;
        closed = sym (ap (λ x. x.closed) says) ∙ treated.closed;
        woken = sym (ap (λ x. x.woken) says) ∙ treated.woken;
        operations = record {
          numbered = numbered;
          in_slots = subst (λ m. SlotsStand buffer m (reaped_out K).ops) (ap (λ x. x.slots) says) treated.amid.means.in_slots;
        };
        handles = subst (λ h. HandlesStand h (reaped_out K)) (ap (λ x. x.holding) says) treated.amid.handles;
        ring = λ keeps. ring-of (means-new keeps);
      }

  -- Taking leaves how many operations there are.
  all-count : length (take_all L).ops ≡ length L.ops
  all-count = stays-length (stays-take_each (record L { queue = [] }) L.queue)

  -- Where all was taken and none was bad, the answer and the next ledger are the machine's.
  module _ (none : bad ≡ None) (enter : EnteredFor view tells steady old.ring mid.ring false) where
    abbrev M : Ledger
    M = reaped_out (take_all L)

    goes : TurnsTo view buffer steady (take_all L) new turned all.queued
    goes = turns-to (take_all L) (all-mid enter) all-count none

    reply-is : (step L Turn) ≡ (M, TurnReply turned.reaped turned.closed turned.woken)
    reply-is = step-turn L
        ∙ ap (λ x. (M, TurnReply x (closes_in (take_all L).done) (tasks_woken (take_all L).ops (ops_in (take_all L).done))))
        (sym goes.reaped)
        ∙ ap (λ x. (M, TurnReply turned.reaped x (tasks_woken (take_all L).ops (ops_in (take_all L).done)))) (sym goes.closed)
        ∙ ap (λ x. (M, TurnReply turned.reaped turned.closed x)) (sym goes.woken)

    -- There is room for what is owed.
    roomy : owed M new.holding ≤ room_in new
    roomy =
        let left = (treated (take_all L) (all-mid enter) all-count none).owed in
        let taken_from = owned-taken buffer (whole_ring view old) old.slots.values L (means-of stands) in
        let same = ap (λ x. owed M x.holding) says in
        let before = ap (λ h. owed L h) has.same.holding in
        let room = stands.room in
        let used = ends.reaps.ring.room in
        let reserved = entered.same_room in
        omega (arith, left, taken_from, same, before, room, used, reserved)

    answers : KeepsUp steady all.queued → Answers view buffer L Turn (TurnReply turned.reaped turned.closed turned.woken) new
    answers keeps =
        let capacity = ends.reaps.ring.later.same_capacity ∙ entered.later.same_capacity in
        answers-parts view buffer old new L M Turn (TurnReply turned.reaped turned.closed turned.woken) stands reply-is capacity
        (means-new (take_all L) (all-mid enter) all-count none keeps) (numbered (take_all L) (all-mid enter) all-count none) goes.handles
        (groups-still view buffer old new L M Turn (TurnReply turned.reaped turned.closed turned.woken) stands reply-is capacity refl
        goes.operations.in_slots (subst (λ slots. KeepsNumbers slots new.slots.values) has.same.slots numbers)
        (members ∙ has.same.members))
        roomy (ends.reaps.ring.exact shows keeps fits-mid).1
        ((stays-reap_each (record (take_all L) { done = [] }) (take_all L).done).world
        ∙ (stays-take_each (record L { queue = [] }) L.queue).world)

  -- A prefix of the queue has no more entries than the queue.
  within-queue : (enter : Arrives view tells old.ring mid.ring) → (enter.told shows).count ≤ length L.queue
  within-queue enter =
      let w = (enter.told shows).took.within in
      let l = ap length stands.ring.in_lists.queue ∙ length-map (whole_ring view old).queue queued_of in
      omega (arith, w, l)

  front-count : (count : ℕ) → length (taken_front count L).ops ≡ length L.ops
  front-count count = stays-length (stays-take_each (record L { queue = drop count L.queue }) (take count L.queue))

  -- What the turn of a driver that stands for a ledger answers, by how its enter went.
  turns-by : (busy : Bool) (b : Option ℕ) → EnteredFor view tells steady old.ring mid.ring busy → bad ≡ b →
      TurnsFor view buffer steady L old new turned all.queued (why_stopped b busy)
  turns-by false None enter none = (goes none enter, answers none enter)
  turns-by true None enter none = (
    enter.2,
    record {
      count = (enter.0.told shows).count;
      within = within-queue enter.0;
      turns = turns-to (taken_front (enter.0.told shows).count L) (later-mid enter.0) (front-count (enter.0.told shows).count) none;
    },
  )
  turns-by false (Some word) enter is = never-bad (take_all L) (all-mid enter) all-count word is
  turns-by true (Some word) enter is =
      never-bad (taken_front (enter.0.told shows).count L) (later-mid enter.0) (front-count (enter.0.told shows).count) word is

  pub turns : TurnsFor view buffer steady L old new turned all.queued (why_stopped bad begun.busy)
  turns = turns-by begun.busy bad has.entered refl
