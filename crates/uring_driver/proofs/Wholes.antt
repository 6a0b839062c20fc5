-- A whole turn, and one that can't begin.
use Rattle.std.proofs.Common.{◌≡◌, ◌≤◌, inl, ℕ, Bool, true, false, List, [], ◌∷◌, ◌++◌, length, Option, Some, None, refl, sym, ◌∙◌}
use Rattle.std.proofs.Common.{ap, subst, append-nil, arith, length-append}
use Rattle.std.specs.Prelude.{IsTrue, IfNone, take, drop}
use Rattle.std.proofs.lemmas.List.{take-append-drop, length-map}
use Rattle.rent_buf.specs.Buffer.{Buffer}
use Rattle.machine.specs.declared.ledger.Event.TheVariants.{Turn}
use Rattle.machine.specs.Ledger.{Ledger}
use Rattle.ring_core.specs.declared.entry.Entry.{Entry}
use Rattle.ring_core.specs.Entry.{close_entry}
use Rattle.ring_core.specs.Ring.{RingView}
use Rattle.machine.specs.Step.{step}
use Rattle.driver_core.specs.declared.op.Stop.{Stop}
use Rattle.driver_core.specs.declared.op.Stop.TheVariants.{RingFault, Busy, BadCompletion, Os, OutOfMemory}
use Rattle.driver_core.specs.declared.op.Turned.{Turned}
use Rattle.driver_core.specs.Holds.{AreMaking}
use Rattle.driver_core.specs.Slot.{KeepsNumbers, number_at}
use Rattle.driver_core.proofs.SlotTokens.{tokens-kept}
use Rattle.uring_driver.specs.declared.uring.IoUringDriver.{IoUringDriver}
use Rattle.uring_driver.specs.declared.uring.turn.Begun.{Begun}
use Rattle.uring_driver.specs.declared.uring.turn.Named.{Named}
use Rattle.uring_driver.specs.Stands.{Stands, StandsIfSteady}
use Rattle.uring_driver.specs.Uring.{ring_in, due_in, pending}
use Rattle.uring_driver.specs.Submitted.{SameSlots}
use Rattle.uring_driver.specs.Reap.{treat_each}
use Rattle.uring_driver.specs.Reaps.{ReapsAll, PendingJoins, EndsWith, closes_of, waiting_in, midway_of}
use Rattle.uring_driver.specs.Turned.{TreatsNone, StopsFor, TreatsFor, TurnsFor, TurnMeets}
use Rattle.uring_driver.specs.Turned.{IsCalm, GivesNoStray, GoesOn}
use Rattle.uring_driver.specs.Submissions.{EnteredFor}
use Rattle.uring_driver.specs.Begun.{HasBegun, CannotBegin, TookReady, is_at_hand, why_stopped}
use Rattle.uring_driver.proofs.Ending.{ends-of, moves, stops, treats, took}
use Rattle.uring_driver.proofs.Turning.{turns}

-- Where no more is left than joined, what is left are the last that joined.
left-last : (old joined entered new : List Entry) → old ++ joined ≡ entered ++ new → length new ≤ length joined → EndsWith joined new
left-last [] joined entered new moved few = record { front = entered; ends = moved }
left-last (x ∷ old) joined [] new moved few =
    let a = ap length moved in
    let b = length-append (x ∷ old) joined in
    absurd (omega (arith, a, b, few))
left-last (x ∷ old) joined (y ∷ entered) new moved few = left-last old joined entered new (ap (drop 1) moved) few

module _ {R B : Type 0} (view : R → RingView) (buffer : B → Buffer) (tells steady : Bool) where
  -- A turn that doesn't stop entered all that was pending.
  all-entered : (old new : IoUringDriver R B) (turned : Turned) (queued : List ℕ) → StopsFor view old new turned queued turned.stop →
      PendingJoins (pending view old) (closes_of queued) (pending view new) → turned.stop ≡ None →
      EndsWith (closes_of queued) (pending view new)
  all-entered old new turned queued stops moves none =
      let few : waiting_in view new.ring ≤ length queued = subst (StopsFor view old new turned queued) none stops in
      let ready = length-append (view new.ring.ring).queue new.ring.due in
      let closes = length-map queued close_entry in
      left-last (pending view old) (closes_of queued) moves.entered (pending view new) moves.moved (omega (arith, few, ready, closes))

  -- A turn stops only where a count rose, a completion is stray or memory runs out.
  goes-on : (old new : IoUringDriver R B) (turned : Turned) (queued : List ℕ) (stop : Option Stop) →
      StopsFor view old new turned queued stop → TreatsFor view tells old new turned queued stop → IsTrue tells →
      IsCalm (view (ring_in old)) (view (ring_in new)) → GivesNoStray view old → GoesOn stop
  goes-on old new turned queued None stops treats shows calm none = tt
  goes-on old new turned queued (Some RingFault) stops treats shows calm none = calm.never_faulty stops.0
  goes-on old new turned queued (Some Busy) stops treats shows calm none = calm.never_busy stops.0
  goes-on old new turned queued (Some (BadCompletion word)) stops treats shows calm none =
      let ready = treats.shown shows in
      let good = none ready.mid treats.taken ready.rest ready.front ready.ready in
      let same : ◌≡◌ {A = Option ℕ} None (Some word) = sym good ∙ ap (λ t. t.bad) treats.treated in
      let f : ⊥ = cc in f
  goes-on old new turned queued (Some (Os code)) stops treats shows calm none = absurd stops
  goes-on old new turned queued (Some OutOfMemory) stops treats shows calm none = tt

  -- What was begun, and then treated, is a whole turn.
  pub whole : (old mid new : IoUringDriver R B) (begun : Begun) (turned : Turned) (named : Named) (bad : Option ℕ) →
      HasBegun view tells steady old mid begun → ReapsAll view tells steady (midway_of mid) (midway_of new) begun.named named bad →
      AreMaking mid.slots.values mid.holding.makers →
      (IsTrue steady → due_in mid ≡ [] → due_in new ≡ []) → KeepsNumbers mid.slots.values new.slots.values → new.given ≡ mid.given →
      new.members ≡ mid.members →
      turned.reaped ≡ named.reaped.items → turned.closed ≡ named.closed.items → turned.woken ≡ named.woken.items →
      turned.stop ≡ why_stopped bad begun.busy →
      (meets : TurnMeets view buffer tells steady old new turned)
      × TookReady view tells old new turned meets.queued turned.stop meets.treats (is_at_hand view mid begun)
  whole old mid new begun turned named bad has reaps making due numbers given members reaped closed woken stop =
      let ends = ends-of view tells steady mid new begun.named named bad reaps in
      let queued = (treat_each mid.slots.values mid.holding ends.reaps.taken).queued in
      let stopped_by = subst (λ s. StopsFor view old new turned queued s) (sym stop)
      (stops view tells steady old mid new begun turned named bad has ends reaped closed woken) in
      let both =
      subst
      (λ s. (t : TreatsFor view tells old new turned queued s)
      × TookReady view tells old new turned queued s t (is_at_hand view mid begun)) (sym stop) (
        treats view tells steady old mid new begun turned named bad has ends reaped closed woken,
        took view tells steady old mid new begun turned named bad has ends reaped closed woken,
      ) in
      let treated_by = both.0 in
      let moved = moves view tells steady old mid new begun turned named bad has ends reaped closed woken in (
        record {
          queued = queued;
          turns = λ shows L stands. subst (λ s. TurnsFor view buffer steady L old new turned queued s) (sym stop)
              (turns view buffer tells steady old mid new begun turned named bad has ends reaped closed woken given members numbers
              shows L stands making);
          stops = stopped_by;
          treats = treated_by;
          moves = moved;
          entered = λ shows none. all-entered old new turned queued stopped_by (moved shows) none;
          none_due = λ always none. due always (none-due old mid begun.busy has.entered always);
          complete = goes-on old new turned queued turned.stop stopped_by treated_by;
          tokens = tokens-kept old.slots.values new.slots.values
              (subst (λ slots. KeepsNumbers slots new.slots.values) has.same.slots numbers);
          given = given ∙ has.same.given;
          members = members ∙ has.same.members;
        },
        both.1,
      )
    where
      none-due : (a b : IoUringDriver R B) (busy : Bool) → EnteredFor view tells steady a.ring b.ring busy → IsTrue steady → due_in b ≡ []
      none-due a b false enter always = enter.2
      none-due a b true enter always = absurd (enter.2 always)

  -- A turn that can't begin treats nothing.
  pub stopped : (old new : IoUringDriver R B) (turned : Turned) (stop : Stop) → CannotBegin view tells steady old new stop →
      turned.reaped ≡ [] → turned.closed ≡ [] → turned.woken ≡ [] → turned.stop ≡ Some stop →
      TurnMeets view buffer tells steady old new turned
  stopped old new turned RingFault cannot reaped closed woken stop =
      let none : TreatsNone old new turned [] =
      record { same = cannot.1; reaped = reaped; closed = closed; woken = woken; none_queued = refl } in
      record {
        queued = [];
        turns = λ shows L stands. subst (λ s. TurnsFor view buffer steady L old new turned [] s) (sym stop) cannot.3;
        stops = subst (λ s. StopsFor view old new turned [] s) (sym stop) (cannot.0, none);
        treats = subst (λ s. TreatsFor view tells old new turned [] s) (sym stop) cannot.2;
        moves = λ shows. (
            let front = cannot.2.told shows in
            let head = take front.count (pending view old) in
            record {
              entered = head;
              moved = append-nil (pending view old) ∙ sym (take-append-drop front.count (pending view old))
                  ∙ ap (λ xs. head ++ xs) (sym front.took.queue);
            });
        entered = λ shows none. (let w = sym none ∙ stop in let f : ⊥ = cc in absurd f);
        none_due = λ always none. absurd (cannot.3 always);
        complete = λ shows calm none. absurd (calm.never_faulty cannot.0);
        tokens = tokens-kept old.slots.values new.slots.values (λ key. ap (λ m. number_at m key) cannot.1.slots);
        given = cannot.1.given;
        members = cannot.1.members;
      }
  stopped old new turned Busy cannot reaped closed woken stop = absurd cannot
  stopped old new turned (BadCompletion word) cannot reaped closed woken stop = absurd cannot
  stopped old new turned (Os code) cannot reaped closed woken stop = absurd cannot
  stopped old new turned OutOfMemory cannot reaped closed woken stop =
      let same : SameSlots old new = record {
        slots = ap (λ d. d.slots.values) cannot;
        given = ap (λ d. d.given) cannot;
        holding = ap (λ d. d.holding) cannot;
        members = ap (λ d. d.members) cannot;
      } in
      let none : TreatsNone old new turned [] =
      record { same = same; reaped = reaped; closed = closed; woken = woken; none_queued = refl } in
      record {
        queued = [];
        turns = λ shows L stands. subst (λ s. TurnsFor view buffer steady L old new turned [] s) (sym stop) cannot;
        stops = subst (λ s. StopsFor view old new turned [] s) (sym stop) (cannot, none);
        treats = subst (λ s. TreatsFor view tells old new turned [] s) (sym stop) tt;
        moves = λ shows. record { entered = []; moved = append-nil (pending view old) ∙ sym (ap (pending view) cannot) };
        entered = λ shows none. (let w = sym none ∙ stop in let f : ⊥ = cc in absurd f);
        none_due = λ always none. ap due_in cannot ∙ none;
        complete = λ shows calm none. subst GoesOn (sym stop) tt;
        tokens = tokens-kept old.slots.values new.slots.values (λ key. ap (λ m. number_at m key) same.slots);
        given = same.given;
        members = same.members;
      }

  -- A turn that doesn't stop leads to the machine's next ledger, over a steady ring.
  pub turn_stands : (IsTrue steady → IsTrue tells) → (old new : IoUringDriver R B) (turned : Turned) →
      TurnMeets view buffer tells steady old new turned → IfNone turned.stop
      ((L : Ledger) → StandsIfSteady view buffer steady old L → StandsIfSteady view buffer steady new (step L Turn).0)
  turn_stands steady_tells old new turned meets = by-stop turned.stop meets.turns
    where
      by-stop : (stop : Option Stop) →
          (IsTrue tells → (L : Ledger) → Stands view buffer old L → TurnsFor view buffer steady L old new turned meets.queued stop) →
          IfNone stop ((L : Ledger) → StandsIfSteady view buffer steady old L → StandsIfSteady view buffer steady new (step L Turn).0)
      by-stop None answer = λ L s. (s.0, ((answer (steady_tells s.0) L s.1).1 (inl s.0)).stands)
      by-stop (Some stop) answer = tt
