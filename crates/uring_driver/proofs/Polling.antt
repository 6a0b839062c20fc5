-- What a poll of a live slot does to a driver that stands for a ledger, and to its tokens.
use Rattle.std.proofs.Common.{◌≡◌, ◌≤◌, ℕ, ◌+◌, Bool, true, false, List, Option, Some, None, refl, sym, ◌∙◌, ap}
use Rattle.std.proofs.Common.{subst, length, arith, IsTrue}
use Rattle.std.specs.Prelude.{◌↔◌, slice_get}
use Rattle.std.specs.FinMap.{get, insert, remove}
use Rattle.rent_buf.specs.Buffer.{Buffer}
use Rattle.op_slots.specs.declared.lifecycle.Lifecycle.{Lifecycle}
use Rattle.op_slots.specs.declared.lifecycle.Lifecycle.TheVariants.{Submitted, Waiting, Ignored, Completed}
use Rattle.op_slots.specs.declared.lifecycle.AfterPoll.TheVariants.{Pending as Waits}
use Rattle.op_slots.specs.Lifecycle.{after_poll, polled}
use Rattle.ring_core.specs.Ring.{RingView}
use Rattle.machine.specs.Lists.{amended, numbers_where}
use Rattle.machine.specs.Request.{named, plain_request, held_of, IsHolding}
use Rattle.machine.specs.declared.request.Outcome.{Outcome}
use Rattle.machine.specs.declared.ledger.Event.TheVariants.{Poll}
use Rattle.machine.specs.declared.ledger.Reply.TheVariants.{Pending, Handed}
use Rattle.machine.specs.Ledger.{Ledger, Operation, Place, InQueue, InFlight, InDone, Reaped, Gone, is_kept, is_owned, with_made}
use Rattle.machine.specs.Queue.{with_op, with_gone, at_place, leave}
use Rattle.machine.specs.Step.{with_task, with_user, handed_over}
use Rattle.machine.specs.Effect.{made_by}
use Rattle.machine.specs.Closes.{made_at}
use Rattle.machine.proofs.Amended.{get-amended-same, length-amended}
use Rattle.driver_core.proofs.Seen.{SeenAlike, seen-op, made-waiting}
use Rattle.machine.proofs.Taking.{in_queue}
use Rattle.driver_core.specs.declared.slot.Slot.{Slot}
use Rattle.uring_driver.specs.declared.uring.IoUringDriver.{IoUringDriver}
use Rattle.uring_driver.specs.Holding.{ops_left, places, with_added, HandlesStand}
use Rattle.uring_driver.specs.Making.{made_handed, handed_if}
use Rattle.uring_driver.specs.Uring.{whole_ring}
use Rattle.uring_driver.specs.Submissions.{pending_ring}
use Rattle.driver_core.specs.Holds.{made_life, seen, unheld_by, HoldersStand}
use Rattle.driver_core.proofs.Holds.{len-left}
use Rattle.driver_core.specs.Slot.{with_life, is_owned_life, is_flying, KeepsNumbers}
use Rattle.driver_core.specs.Slots.{SlotFor, waiting, life_of, life_at, owned_life}
use Rattle.driver_core.specs.declared.op.Done.{Done}
use Rattle.driver_core.specs.declared.op.Op.{Op}
use Rattle.driver_core.specs.declared.op.PollOp.{PollOp}
use Rattle.driver_core.specs.declared.op.PollOp.TheVariants as Answer
use Rattle.driver_core.specs.Slot.{PollsAt}
use Rattle.driver_core.specs.Answers.{IsOwnRequest}
use Rattle.driver_core.proofs.Numbers.{Owner, slot-number}
use Rattle.driver_core.proofs.SlotTokens.{held-slot, poll-keeps}
use Rattle.uring_driver.specs.Op.{Holds, number_of}
use Rattle.uring_driver.specs.PollOp.{PollsFor, PollsOp, handed_by, IsPending, IsUnreaped, IsUnreapedOp, IsUnreapedPlace}
use Rattle.uring_driver.specs.Reaps.{FitsQueue}
use Rattle.uring_driver.specs.Stands.{Stands, Answers}
use Rattle.uring_driver.proofs.Steps.{is_waiting, step-poll-waiting, step-poll-reaped}
use Rattle.uring_driver.proofs.Means.{Means, means-of}
use Rattle.uring_driver.proofs.Holders.{handles-same}
use Rattle.uring_driver.proofs.Answering.{LeavesGroup, lawful-of, alone-of, fits-of, groups-still, answers-parts}
use Rattle.uring_driver.proofs.Lefts.{early-left, live-left}
use Rattle.uring_driver.proofs.Leaving.{TakesParts}
use Rattle.uring_driver.proofs.Departing.{Departs, stands-departs}
use Rattle.uring_driver.proofs.Starting.{means-world}
use Rattle.uring_driver.proofs.Changing.{means-changed, means-freed}
use Rattle.driver_core.proofs.Counts.{where-all, where-less}
use Rattle.driver_core.proofs.Lists.{some}
use Rattle.driver_core.proofs.Standing.{holders-stand-left}
use Rattle.driver_core.proofs.Seeing.{seen-distinct, unheld-became, holders-stand-handed, unheld-handed}
use Rattle.driver_core.proofs.Owned.{Owned, owned-slot, owned-names, owned-reaped}

-- An operation whose slot isn't completed isn't reaped.
pending-waits : (p : Place) (t : Option ℕ) → is_kept p ≡ true → after_poll (owned_life p t) ≡ Waits → is_waiting p ≡ true
pending-waits InQueue t h e = refl
pending-waits InFlight t h e = refl
pending-waits (InDone r) t h e = refl
pending-waits (Reaped r) t h e = (let f : ⊥ = cc in absurd f)
pending-waits Gone t h e = (let f : ⊥ = cc in absurd f)

-- What isn't reaped is so at its place.
unreaped-place : (p : Place) → is_waiting p ≡ true → IsUnreapedPlace p
unreaped-place InQueue h = tt
unreaped-place InFlight h = tt
unreaped-place (InDone r) h = tt
unreaped-place (Reaped r) h = (let f : ⊥ = cc in absurd f)
unreaped-place Gone h = (let f : ⊥ = cc in absurd f)

-- A slot that is in flight, and wasn't dropped, waits.
waits-flies : (l : Lifecycle Outcome) → is_flying l ≡ true → is_owned_life l ≡ true → after_poll l ≡ Waits
waits-flies Submitted f o = refl
waits-flies (Waiting t) f o = refl
waits-flies Ignored f o = cc
waits-flies (Completed r) f o = cc

-- A poll of a slot that waits leaves its task.
polled-waiting : (t : Option ℕ) (task : ℕ) → polled (waiting t) task ≡ Waiting task
polled-waiting None task = refl
polled-waiting (Some t) task = refl

-- The new life is that of the operation with its new task.
life-waits : (p : Place) (t : Option ℕ) (task : ℕ) → is_waiting p ≡ true → polled (owned_life p t) task ≡ owned_life p (Some task)
life-waits InQueue t task h = polled-waiting t task
life-waits InFlight t task h = polled-waiting t task
life-waits (InDone r) t task h = polled-waiting t task
life-waits (Reaped r) t task h = (let f : ⊥ = cc in absurd f)
life-waits Gone t task h = (let f : ⊥ = cc in absurd f)

-- A task that waits leaves what is seen.
task-seen : (task : ℕ) (o : Operation) → is_waiting o.place ≡ true → SeenAlike o (with_task task o)
task-seen task o waits = record { request = refl; made = by o.dropped o.place o.task waits; live = refl }
  where
    by : (b : Bool) (p : Place) (t : Option ℕ) → is_waiting p ≡ true → made_life (life_of b p (Some task)) ≡ made_life (life_of b p t)
    by true p t waits = refl
    by false InQueue t waits = sym (made-waiting t)
    by false InFlight t waits = sym (made-waiting t)
    by false (InDone r) t waits = sym (made-waiting t)
    by false (Reaped r) t waits = (let f : ⊥ = cc in absurd f)
    by false Gone t waits = (let f : ⊥ = cc in absurd f)

module _ {R B : Type 0} (view : R → RingView) (buffer : B → Buffer) (d new : IoUringDriver R B) (L : Ledger) (key task : ℕ) (s : Slot B)
    (old : Stands view buffer d L) (there : get d.slots.values key ≡ Some s) (mine : is_owned_life s.life ≡ true)
    (given : new.given ≡ d.given) where
  -- The operation of the slot, which its user may still drop.
  abbrev my : Owned buffer L s
  my = owned-slot buffer L s (old.operations.in_slots.holds key s there) mine

  -- A poll of an operation that isn't reaped.
  pub stands-waits : new.ring ≡ d.ring → new.holding ≡ d.holding → new.members ≡ d.members →
      KeepsNumbers d.slots.values new.slots.values → after_poll s.life ≡ Waits →
      new.slots.values ≡ insert d.slots.values key (with_life s (polled s.life task)) →
      Answers view buffer L (Poll s.serial task) Pending new
  stands-waits ring holding members keeps waits_here slots =
      let o = my.fit.operation in
      let w = pending-waits o.place o.task my.fit.live (ap after_poll (sym my.life) ∙ waits_here) in
      let M = with_op L s.serial (with_task task) in
      let fits : SlotFor buffer (amended L.ops s.serial (with_task task)) (with_life s (polled s.life task)) = record {
        operation = with_task task o;
        there = get-amended-same (with_task task) L.ops s.serial o my.fit.there;
        live = my.fit.live;
        request = my.fit.request;
        life = ap (λ l. polled l task) my.life ∙ life-waits o.place o.task task w
            ∙ sym (ap (λ b. life_of b o.place (Some task)) my.not_dropped);
        fresh = my.fit.fresh;
        uncanceled = my.fit.uncanceled;
      } in
      let means = subst (λ x. Means buffer (pending_ring view x) new.slots.values M) (sym ring)
      (subst (λ x. Means buffer (pending_ring view d.ring) x M) (sym slots)
      (means-changed buffer (pending_ring view d.ring) d.slots.values L key s (polled s.life task) (with_task task) o
      (means-of old) there my.fit.there
      (λ p. record { place = refl; canceled = refl; linked = refl; waits_for = refl }) fits)) in
      let e = step-poll-waiting L s.serial task o my.fit.there my.owned w in
      let capacity = ap (λ p. (view p.ring).capacity) ring in
      answers-parts view buffer d new L M (Poll s.serial task) Pending old e capacity means
      (given ∙ old.operations.numbered ∙ sym (length-amended (with_task task) L.ops s.serial))
      (subst (λ x. HandlesStand x M) (sym holding)
      (handles-same d.holding L old.handles M (seen-op L s.serial (with_task task) (λ p q.
      task-seen task p (ap (λ x. is_waiting x.place) (some p o (slice_get L.ops s.serial) q my.fit.there) ∙ w))) (λ h. refl)))
      (groups-still view buffer d new L M (Poll s.serial task) Pending old e capacity refl means.in_slots keeps members)
      (let a = where-all is_owned (with_task task) L.ops s.serial (λ p. refl) in
      let b = ap (λ x. places x) holding in let c = ap (λ p. p.room) ring in let r = old.room in
      omega (arith, a, b, c, r))
      (subst (λ p. FitsQueue view p) (sym ring) (fits-of view d old)) refl

  -- An operation whose poll waits isn't reaped.
  pub waits-unreaped : after_poll s.life ≡ Waits → IsUnreaped L s.serial
  waits-unreaped waits_here = subst (λ x. IsUnreapedOp x) (sym my.fit.there) (unreaped-place my.fit.operation.place
      (pending-waits my.fit.operation.place my.fit.operation.task my.fit.live (ap after_poll (sym my.life) ∙ waits_here)))

  -- What the operation of a completed slot made is seen: it is what its outcome says.
  made-reaped : (r : Outcome) → s.life ≡ Completed r → (made_life (life_at my.fit.operation) ≡ made_by r)
      × (my.fit.operation.made ≡ made_by r)
  made-reaped r life =
      let o = my.fit.operation in (
        ap made_life (sym my.fit.life ∙ life),
        (alone-of old).agrees s.serial o my.fit.there my.fit.live
            ∙ ap made_at (owned-reaped buffer L s my r life),
      )

  -- A poll of an operation that was reaped, by what it made.
  module _ (tells steady : Bool) (r : Outcome) (life : s.life ≡ Completed r) (slots : new.slots.values ≡ remove d.slots.values key)
      (parts : TakesParts view tells steady d new (handed_if d.holding (made_by r)) (named s.request)) where
    abbrev us : Option ℕ → List ℕ
    us made = unheld_by (handed_if d.holding made).table (named s.request)

    abbrev o : Operation
    o = my.fit.operation

    freed : (H : Ledger) → Means buffer (pending_ring view d.ring) d.slots.values H → slice_get H.ops s.serial ≡ Some my.fit.operation →
        Means buffer (pending_ring view d.ring) new.slots.values (with_gone H s.serial)
    freed H means at = subst (λ x. Means buffer (pending_ring view d.ring) x (with_gone H s.serial)) (sym slots)
        (means-freed buffer (pending_ring view d.ring) d.slots.values H key s (at_place Gone) my.fit.operation r means there at
        (owned-reaped buffer L s my r life) refl)

    owned-less : length (numbers_where is_owned 0 (with_gone L s.serial).ops) + 1 ≡ length (numbers_where is_owned 0 L.ops)
    owned-less = where-less is_owned (at_place Gone) L.ops s.serial my.fit.operation my.fit.there my.owned refl

    places-less : places (handed_if d.holding (made_by r)) ≡ places d.holding →
        places new.holding + length (us (made_by r)) ≤ places d.holding
    places-less same =
        let a = len-left (handed_if d.holding (made_by r)).table (named s.request) parts.may in
        let b = ap (λ x. places x) parts.holding in
        omega (arith, a, b, same)

    departs : (made : Option ℕ) → made_by r ≡ made → places (handed_if d.holding (made_by r)) ≡ places d.holding →
        Departs view buffer tells steady d new L (handed_over L made) s.serial (us (made_by r))
    departs None is same =
        let o = my.fit.operation in
        let lawful = lawful-of old in
        let none : made_life (life_at o) ≡ None = (made-reaped r life).0 ∙ is in
        let seen-is : seen o ≡ named s.request =
        ap (λ m. with_made m (named o.request)) none ∙ owned-names buffer L s my in
        let holding : new.holding ≡ ops_left d.holding (seen o) =
        parts.holding ∙ ap (λ m. ops_left (handed_if d.holding m) (named s.request)) is ∙ ap (ops_left d.holding) (sym seen-is) in
        let distinct = seen-distinct d.holding.table L s.serial o old.handles.holders my.fit.there my.fit.live lawful.known
        (alone-of old) in
        record {
          means = freed L (means-of old) my.fit.there;
          closing = old.handles.closing;
          stand = subst (λ t. HoldersStand t (with_gone L s.serial)) (sym (ap (λ x. x.table) holding))
              (holders-stand-left d.holding.table L s.serial o old.handles.holders my.fit.there my.fit.live distinct);
          became = ap us is ∙ ap (unheld_by d.holding.table) (sym seen-is)
              ∙ unheld-became d.holding.table L s.serial o old.handles.holders my.fit.there my.fit.live lawful.known (alone-of old)
              ((made-reaped r life).0 ∙ sym (made-reaped r life).1);
          closed = ap (λ x. x.closing) parts.holding
              ∙ ap (λ m. with_added (handed_if d.holding m).closing (us (made_by r))) is;
          early = early-left L s.serial o lawful my.fit.there (ap in_queue (owned-reaped buffer L s my r life));
          live = live-left L s.serial o lawful my.fit.there (ap in_queue (owned-reaped buffer L s my r life));
          below = parts.below;
          room = parts.room;
          posts = parts.posts;
          owned = owned-less;
          count = length-amended (at_place Gone) L.ops s.serial;
          world = refl;
          places = places-less same;
        }
    departs (Some h) is same =
        let o = my.fit.operation in
        let H : Ledger = with_user L h true in
        let lawful = lawful-of old in
        let made : o.made ≡ Some h = (made-reaped r life).1 ∙ is in
        let all : made_life (life_at o) ≡ o.made = (made-reaped r life).0 ∙ sym (made-reaped r life).1 in
        let holding : new.holding ≡ ops_left (made_handed d.holding h) (named o.request) =
        parts.holding ∙ ap (λ m. ops_left (handed_if d.holding m) (named s.request)) is
        ∙ ap (ops_left (made_handed d.holding h)) (sym (owned-names buffer L s my)) in
        record {
          means = freed H (means-world buffer (whole_ring view d) d.slots.values L (whole_ring view d).world L.world H.owners
              old.ring.world (means-of old)) my.fit.there;
          closing = old.handles.closing;
          stand = subst (λ t. HoldersStand t (with_gone H s.serial)) (sym (ap (λ x. x.table) holding))
              (holders-stand-handed d.holding.table L s.serial o old.handles.holders my.fit.there my.fit.live lawful.known (alone-of old)
              h made all);
          became = ap us is ∙ ap (unheld_by (made_handed d.holding h).table) (sym (owned-names buffer L s my))
              ∙ unheld-handed d.holding.table L s.serial o old.handles.holders my.fit.there my.fit.live lawful.known (alone-of old)
              h made all;
          closed = ap (λ x. x.closing) parts.holding
              ∙ ap (λ m. with_added (handed_if d.holding m).closing (us (made_by r))) is;
          early = early-left L s.serial o lawful my.fit.there (ap in_queue (owned-reaped buffer L s my r life));
          live = live-left L s.serial o lawful my.fit.there (ap in_queue (owned-reaped buffer L s my r life));
          below = parts.below;
          room = parts.room;
          posts = parts.posts;
          owned = owned-less;
          count = length-amended (at_place Gone) L.ops s.serial;
          world = refl;
          places = places-less same;
        }

    -- It answers what the machine does.
    pub stands-takes : IsTrue steady → LeavesGroup d new (record { number = s.serial; key = key }) →
        places (handed_if d.holding (made_by r)) ≡ places d.holding →
        Answers view buffer L (Poll s.serial task) (Handed r (held_of (plain_request buffer s.request))) new
    stands-takes always leaves_it same =
        let o = my.fit.operation in
        let e = step-poll-reaped L s.serial task o my.fit.there my.owned r
        (owned-reaped buffer L s my r life)
        ∙ ap (λ x. (leave (handed_over L o.made) s.serial, Handed r x)) (sym my.fit.request.holds)
        ∙ ap (λ m. (leave (handed_over L m) s.serial, Handed r (held_of (plain_request buffer s.request)))) (made-reaped r life).1 in
        stands-departs view buffer tells steady d new L (handed_over L (made_by r)) s.serial (us (made_by r)) (Poll s.serial task)
        (Handed r (held_of (plain_request buffer s.request))) always old (departs (made_by r) refl same) e given refl
        (record { number = s.serial; key = key }) (slot-number d.slots.values key s there mine) leaves_it

  -- One whose slot is completed is.
  pub takes-reaped : (r : Outcome) → s.life ≡ Completed r → IsUnreaped L s.serial → ⊥
  takes-reaped r life unreaped =
      subst (λ x. IsUnreapedPlace x) (owned-reaped buffer L s my r life) (subst (λ x. IsUnreapedOp x) my.fit.there unreaped)

-- The answers of a poll, by what it did to the slot of its token.
module _ {R B : Type 0} (view : R → RingView) (buffer : B → Buffer) (d new : IoUringDriver R B) (op : Op) (task : ℕ) (holds : Holds d op)
    (L : Ledger) (old : Stands view buffer d L) (given : new.given ≡ d.given) where
  -- The slot that the token names.
  abbrev has : Owner d.slots.values op.key op.number
  has = held-slot d.slots.values op holds

  -- A poll that waits answers what the machine does.
  pub poll-waits : new.ring ≡ d.ring → new.holding ≡ d.holding → new.members ≡ d.members →
      PollsAt d.slots.values op.key task new.slots.values None →
      Answers view buffer L (Poll (number_of op) task) Pending new
  poll-waits ring holding members polls =
      let s = has.slot in
      let is = polls s has.there in
      subst (λ n. Answers view buffer L (Poll n task) Pending new) has.serial
      (stands-waits view buffer d new L op.key task s old has.there has.owned given ring holding members
      (poll-keeps d.slots.values op holds task new.slots.values polls) (waits-flies s.life is.0 has.owned) is.1)

  -- One that takes answers what the machine does.
  takes : (tells steady : Bool) → IsTrue steady → LeavesGroup d new op → (done : Done B) →
      PollsAt d.slots.values op.key task new.slots.values (Some done) →
      TakesParts view tells steady d new (handed_by d.holding done) (named done.request) →
      places (handed_by d.holding done) ≡ places d.holding →
      Answers view buffer L (Poll (number_of op) task) (Handed done.outcome (held_of (plain_request buffer done.request))) new
  takes tells steady always leaves_it done polls parts same =
      let s = has.slot in
      let is = polls s has.there in
      let own = subst (λ r. TakesParts view tells steady d new (handed_by d.holding done) (named r)) is.1 parts in
      subst (λ r. Answers view buffer L (Poll (number_of op) task) (Handed done.outcome (held_of (plain_request buffer r))) new) (sym is.1)
      (subst (λ n. Answers view buffer L (Poll n task) (Handed done.outcome (held_of (plain_request buffer s.request))) new) has.serial
      (stands-takes view buffer d new L op.key task s old has.there has.owned given tells steady done.outcome is.0 is.2 own always
      (subst (λ n. LeavesGroup d new (record { number = n; key = op.key })) (sym has.serial) leaves_it) same))

  -- What it takes is the operation's own request.
  owns : (done : Done B) → PollsAt d.slots.values op.key task new.slots.values (Some done) →
      IsOwnRequest buffer L (number_of op) done.request
  owns done polls =
      let s = has.slot in
      let fit = old.operations.in_slots.holds op.key s has.there in
      record {
        operation = fit.operation;
        there = ap (slice_get L.ops) (sym has.serial) ∙ fit.there;
        own = subst (λ r. IsHolding fit.operation.request fit.operation.buffer (plain_request buffer r)) (sym (polls s has.there).1)
            fit.request;
      }

  -- It hands out the operation's own request.
  pub poll-takes : (tells steady : Bool) → IsTrue steady → LeavesGroup d new op → (done : Done B) →
      PollsAt d.slots.values op.key task new.slots.values (Some done) →
      TakesParts view tells steady d new (handed_by d.holding done) (named done.request) →
      places (handed_by d.holding done) ≡ places d.holding →
      PollsFor view buffer L op task new (Answer.Ready done)
  poll-takes tells steady always leaves_it done polls parts same =
      (takes tells steady always leaves_it done polls parts same, owns done polls)

  -- A poll is pending exactly while the operation isn't reaped.
  pub pending-unreaped : (result : PollOp B) → PollsOp d new op task result → IsPending result ↔ IsUnreaped L (number_of op)
  pending-unreaped (Answer.Pending back) polls = (
    λ _. (let s = has.slot in
        let is = polls s has.there in
        subst (λ n. IsUnreaped L n) has.serial
        (waits-unreaped view buffer d new L op.key task s old has.there has.owned given (waits-flies s.life is.0 has.owned))),
    λ _. tt,
  )
  pending-unreaped (Answer.Ready done) polls = (
    λ f. absurd f,
    λ unreaped. (let s = has.slot in
        takes-reaped view buffer d new L op.key task s old has.there has.owned given done.outcome (polls s has.there).0
        (subst (λ n. IsUnreaped L n) (sym has.serial) unreaped)),
  )
