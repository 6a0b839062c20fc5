-- One more event passes the history of an operation on.
use Rattle.std.proofs.Common.{◌≡◌, inl, inr, ℕ, suc, Bool, true, false, List, Option, Some, None, option_map, slice_get, refl, sym, ◌∙◌, ap}
use Rattle.std.proofs.Common.{subst, arith}
use Rattle.rent_buf.specs.Buffer.{Buffer}
use Rattle.rent_buf.specs.Parts.{Parts}
use Rattle.rent_buf.specs.Held.{HeldBuf}
use Rattle.machine.specs.declared.request.Request.{Request}
use Rattle.machine.specs.declared.request.Outcome.{Outcome}
use Rattle.machine.specs.declared.ledger.Event.{Event}
use Rattle.machine.specs.declared.ledger.Event.TheVariants.{Turn}
use Rattle.machine.specs.declared.ledger.Reply.{Reply}
use Rattle.machine.specs.Ledger.{Operation, Place, InQueue, InFlight, InDone, Reaped, Gone, empty, is_kept}
use Rattle.machine.specs.Run.{replies, IsGiven}
use Rattle.run_laws.specs.Moments.{IsReapedBefore, IsHandedBefore, IsDroppedBefore}
use Rattle.machine.proofs.Making.{kept-taken}
use Rattle.machine.proofs.Numbers.{same-or-not, below-or-not}
use Rattle.machine.proofs.Taking.{taken_place, with_taking, Took}
use Rattle.machine.proofs.Releasing.{with_waits}
use Rattle.machine.proofs.Reaping.{place_after, ended_place, with_end}
use Rattle.run_laws.proofs.Moments.{NotBefore, Executes, Hands, Drops, Given, Stands, WasReaped, reaped-before, Placed, Owned, Unknown}
use Rattle.run_laws.proofs.Moments.{History, IsCalm}

-- What wasn't before k, and isn't at k, wasn't before the next.
pub not-before-next : (P : ℕ → Type 0) (k : ℕ) → (P k → ⊥) → NotBefore P k → NotBefore P (suc k)
not-before-next P k here before = λ j lt p. elim (same-or-not j k) [
  | inl e ↦ here (subst P e p)
  | inr e ↦ before j (omega arith) p
]

module _ (capacity : ℕ) (events : List Event) (k : ℕ) (e : Event) (r : Reply)
    (here : slice_get events k ≡ Some e) (reply : slice_get (replies (empty capacity) events) k ≡ Some r) where
  -- A calm event gives no operation.
  calm-gives : (n : ℕ) → IsCalm e r n → IsGiven capacity events n k → ⊥
  calm-gives n calm x = calm.gives_none (let q = sym reply ∙ x.reply in cc)

  -- A calm event returns no operation.
  pub calm-hands : (n : ℕ) → IsCalm e r n → Hands capacity events n k → ⊥
  calm-hands n calm x = calm.hands_none x.task x.outcome x.buffer (let q = sym here ∙ x.event in cc) (let q = sym reply ∙ x.reply in cc)

  -- A calm event drops no operation.
  pub calm-drops : (n : ℕ) → IsCalm e r n → Drops capacity events n k → ⊥
  calm-drops n calm x = calm.drops_none (let q = sym here ∙ x.event in cc) (let q = sym reply ∙ x.reply in cc)

  -- One event more keeps each part of a history.
  pub given-next : (n : ℕ) (request : Request Buffer Parts) → Given capacity events k n request → Given capacity events (suc k) n request
  given-next n request g = record {
    at = g.at;
    before = (let b = g.before in omega arith);
    under = g.under;
    linked = g.linked;
    event = g.event;
    reply = g.reply;
  }

  -- What was executed and not reaped is so after an event that isn't a turn.
  stands-next : (n : ℕ) (outcome : Outcome) (buffer : HeldBuf) → (e ≡ Turn → ⊥) → Stands capacity events k n outcome buffer →
      Stands capacity events (suc k) n outcome buffer
  stands-next n outcome buffer turns s = record {
    own = s.own;
    given_first = s.given_first;
    before = (let b = s.before in omega arith);
    no_turn = λ t after lt turn. elim (same-or-not t k) [
      | inl q ↦ turns (let w = sym here ∙ ap (slice_get events) (sym q) ∙ turn in cc)
      | inr q ↦ s.no_turn t after (omega arith) turn
    ];
  }

  -- What was reaped was so after one event more.
  pub was_reaped-next : (n : ℕ) (outcome : Outcome) (buffer : HeldBuf) → WasReaped capacity events k n outcome buffer →
      WasReaped capacity events (suc k) n outcome buffer
  was_reaped-next n outcome buffer s =
      record { own = s.own; given_first = s.given_first; turn = s.turn; first = s.first; before = (let b = s.before in omega arith) }

  -- What was reaped before an event was so before the next one.
  reaped-next : (n : ℕ) → IsReapedBefore capacity events n k → IsReapedBefore capacity events n (suc k)
  reaped-next n h = record { reap = h.reap; before = (let b = h.before in omega arith); reaped = h.reaped }

  -- What was returned before an event was so before the next one.
  handed-next : (n : ℕ) → IsHandedBefore events (replies (empty capacity) events) n k →
      IsHandedBefore events (replies (empty capacity) events) n (suc k)
  handed-next n h = record { hand = h.hand; before = (let b = h.before in omega arith); is_handed = h.is_handed }

  -- What was dropped before an event was so before the next one.
  dropped-next : (n : ℕ) → IsDroppedBefore events (replies (empty capacity) events) n k →
      IsDroppedBefore events (replies (empty capacity) events) n (suc k)
  dropped-next n h = record { drop = h.drop; before = (let b = h.before in omega arith); is_dropped = h.is_dropped }

  -- An event that is no Turn and doesn't execute n passes on what happened to an operation that stays at its place.
  pub placed-next : (n : ℕ) (buffer : HeldBuf) (p : Place) → (Executes capacity events n k → ⊥) → (e ≡ Turn → ⊥) →
      Placed capacity events k n buffer p → Placed capacity events (suc k) n buffer p
  placed-next n buffer InQueue none turns h = not-before-next (Executes capacity events n) k none h
  placed-next n buffer InFlight none turns h = not-before-next (Executes capacity events n) k none h
  placed-next n buffer (InDone outcome) none turns h = stands-next n outcome buffer turns h
  placed-next n buffer (Reaped outcome) none turns h = was_reaped-next n outcome buffer h
  placed-next n buffer Gone none turns h = reaped-next n h

  -- An event that neither hands over nor drops n passes on what its user did.
  pub owned-next : (n : ℕ) (dropped kept : Bool) → (Hands capacity events n k → ⊥) → (Drops capacity events n k → ⊥) →
      Owned capacity events k n dropped kept → Owned capacity events (suc k) n dropped kept
  owned-next n true kept hands drops h = dropped-next n h
  owned-next n false true hands drops h =
      (not-before-next (Hands capacity events n) k hands h.0, not-before-next (Drops capacity events n) k drops h.1)
  owned-next n false false hands drops h = handed-next n h

  -- A number that wasn't given still wasn't.
  unknown-next : (n : ℕ) → IsCalm e r n → (Executes capacity events n k → ⊥) → Unknown capacity events k n →
      Unknown capacity events (suc k) n
  unknown-next n calm none h = record {
    ungiven = not-before-next (IsGiven capacity events n) k (calm-gives n calm) h.ungiven;
    unexecuted = not-before-next (Executes capacity events n) k none h.unexecuted;
    unhanded = not-before-next (Hands capacity events n) k (calm-hands n calm) h.unhanded;
    undropped = not-before-next (Drops capacity events n) k (calm-drops n calm) h.undropped;
  }

  -- An event that is no Turn, doesn't execute n, and does nothing else to it, passes its history on.
  pub history-next : (n : ℕ) (x : Option Operation) → IsCalm e r n → (Executes capacity events n k → ⊥) → (e ≡ Turn → ⊥) →
      History capacity events k n x → History capacity events (suc k) n x
  history-next n None calm none turns h = unknown-next n calm none h
  history-next n (Some o) calm none turns h = record {
    given = given-next n o.request h.given;
    placed = placed-next n o.buffer o.place none turns h.placed;
    owned = owned-next n o.dropped (is_kept o.place) (calm-hands n calm) (calm-drops n calm) h.owned;
  }

  -- A Turn at k is the first after what was executed before.
  stands-reaped : (n : ℕ) (outcome : Outcome) (buffer : HeldBuf) → e ≡ Turn → Stands capacity events k n outcome buffer →
      WasReaped capacity events (suc k) n outcome buffer
  stands-reaped n outcome buffer turn s = record {
    own = s.own;
    given_first = s.given_first;
    turn = k;
    first = record {
      behind = s.before;
      event = here ∙ ap Some turn;
      first = λ t after is. elim (below-or-not t k) [ inl lt ↦ absurd (s.no_turn t after lt is) | inr le ↦ le ];
    };
    before = omega arith;
  }

  -- What was executed is reaped: where it was dropped it is gone, else it is at its user.
  placed-after : (n : ℕ) (buffer : HeldBuf) (dropped : Bool) (outcome : Outcome) → WasReaped capacity events (suc k) n outcome buffer →
      Placed capacity events (suc k) n buffer (place_after dropped outcome)
  placed-after n buffer true outcome s = reaped-before capacity events (suc k) n outcome buffer s
  placed-after n buffer false outcome s = s

  -- A Turn passes on what happened, and reaps what was executed.
  placed-ended : (n : ℕ) (buffer : HeldBuf) (dropped : Bool) (p : Place) → (Executes capacity events n k → ⊥) → e ≡ Turn →
      Placed capacity events k n buffer p → Placed capacity events (suc k) n buffer (ended_place dropped p)
  placed-ended n buffer dropped InQueue none turn h = not-before-next (Executes capacity events n) k none h
  placed-ended n buffer dropped InFlight none turn h = not-before-next (Executes capacity events n) k none h
  placed-ended n buffer dropped (InDone outcome) none turn h = placed-after n buffer dropped outcome (stands-reaped n outcome buffer turn h)
  placed-ended n buffer dropped (Reaped outcome) none turn h = was_reaped-next n outcome buffer h
  placed-ended n buffer dropped Gone none turn h = reaped-next n h

  -- No Turn takes an operation that wasn't dropped from its user.
  kept-ended : (p : Place) → is_kept (ended_place false p) ≡ is_kept p
  kept-ended InQueue = refl
  kept-ended InFlight = refl
  kept-ended (InDone outcome) = refl
  kept-ended (Reaped outcome) = refl
  kept-ended Gone = refl

  -- Whose an operation is stays once it is reaped.
  owned-ended : (n : ℕ) (dropped : Bool) (p : Place) → IsCalm e r n → Owned capacity events k n dropped (is_kept p) →
      Owned capacity events (suc k) n dropped (is_kept (ended_place dropped p))
  owned-ended n true p calm h = dropped-next n h
  owned-ended n false p calm h =
      subst (Owned capacity events (suc k) n false) (sym (kept-ended p))
      (owned-next n false (is_kept p) (calm-hands n calm) (calm-drops n calm) h)

  -- A Turn reaps what was executed.
  pub history-reaped : (n : ℕ) (x : Option Operation) → IsCalm e r n → (Executes capacity events n k → ⊥) → e ≡ Turn →
      History capacity events k n x → History capacity events (suc k) n (option_map with_end x)
  history-reaped n None calm none turn h = unknown-next n calm none h
  history-reaped n (Some o) calm none turn h = record {
    given = given-next n o.request h.given;
    placed = placed-ended n o.buffer o.dropped o.place none turn h.placed;
    owned = owned-ended n o.dropped o.place calm h.owned;
  }

-- What was in the queue is placed in flight once it is taken.
placed-taken : (capacity : ℕ) (events : List Event) (k n : ℕ) (buffer : HeldBuf) (p : Place) → Placed capacity events k n buffer p →
    Placed capacity events k n buffer (taken_place p)
placed-taken capacity events k n buffer InQueue h = h
placed-taken capacity events k n buffer InFlight h = h
placed-taken capacity events k n buffer (InDone outcome) h = h
placed-taken capacity events k n buffer (Reaped outcome) h = h
placed-taken capacity events k n buffer Gone h = h

-- Taking an operation keeps its history.
taken-history : (capacity : ℕ) (events : List Event) (k n : ℕ) (canceled : Bool) (waits_for : Option ℕ) (x : Option Operation) →
    History capacity events k n x → History capacity events k n (option_map (with_taking canceled waits_for) x)
taken-history capacity events k n canceled waits_for None h = h
taken-history capacity events k n canceled waits_for (Some o) h = record {
  given = h.given;
  placed = placed-taken capacity events k n o.buffer o.place h.placed;
  owned = subst (Owned capacity events k n o.dropped) (sym (kept-taken o.place)) h.owned;
}

-- Taking is no event of an operation's history.
pub history-taken : (capacity : ℕ) (events : List Event) (k n : ℕ) (x y : Option Operation) → Took x y → History capacity events k n x →
    History capacity events k n y
history-taken capacity events k n x y took h =
    subst (History capacity events k n) (sym took.is) (taken-history capacity events k n took.canceled took.waits_for x h)

-- Whom an operation waits for is no part of its history.
pub history-waits : (capacity : ℕ) (events : List Event) (k n : ℕ) (waits_for : Option ℕ) (x : Option Operation) →
    History capacity events k n x → History capacity events k n (option_map (with_waits waits_for) x)
history-waits capacity events k n waits_for None h = h
history-waits capacity events k n waits_for (Some o) h = record { given = h.given; placed = h.placed; owned = h.owned }
