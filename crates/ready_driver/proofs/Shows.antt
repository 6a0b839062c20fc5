-- What a readiness driver shows of a ledger that it stands for, by number: its operations, and the holders of handles.
use Rattle.std.proofs.Common.{◌≡◌, ℕ, Bool, false, ◌&&◌, List, [], ◌∷◌, ◌++◌, length, map, Option, Some, None, option_map, slice_get}
use Rattle.std.proofs.Common.{refl, sym, ◌∙◌, ap, if◌then◌else◌}
use Rattle.std.proofs.lemmas.List.{length-map}
use Rattle.machine.specs.Lists.{numbers_where, has_number}
use Rattle.machine.specs.Request.{named}
use Rattle.machine.specs.Ledger.{Ledger, Operation, Place, InQueue, InFlight, InDone, Reaped, Gone, User, ByOp, is_kept, is_holding}
use Rattle.machine.specs.Ledger.{user_holds}
use Rattle.machine.specs.Ledger.{with_made, holders}
use Rattle.machine.specs.Queue.{take_all}
use Rattle.machine.proofs.Taken.{length-take_each}
use Rattle.machine.proofs.Taking.{Took, take_all-ops, taken_place, with_taking}
use Rattle.ready_driver.specs.Spelled.{asked}
use Rattle.ready_driver.specs.Legacy.{Legacy, slot_in, slot_at, is_on, holders_at}
use Rattle.ready_driver.specs.Readiness.{slot_of_op, Shows}
use Rattle.ready_driver.proofs.Lists.{numbers-like}
use Rattle.ready_driver.proofs.Asks.{CalmAt, canceled_in}
use Rattle.ready_driver.proofs.Settled.{Stands, shown}
use Rattle.ready_driver.proofs.Causes.{slot-taken, slot-by-taken, slot-live, if-and, tests-alike, same-members, same-users}

-- The slot of what was taken, that was looked up.
slot-of-taken : (x : Option Operation) (c : Bool) (w : Option ℕ) (b : Bool) → b ≡ canceled_in (option_map (with_taking c w) x) →
    slot_in (option_map shown (option_map (with_taking c w) x)) ≡ slot_of_op b x
slot-of-taken None c w b h = refl
slot-of-taken (Some o) c w b h = slot-by-taken o.place _ ∙ ap (λ a. slot_of_op a (Some o)) (sym h)

-- A calm operation that isn't gone made nothing: it holds what it names.
calm-holds : (p : Place) (dropped : Bool) (made : Option ℕ) (h : ℕ) (names : List ℕ) → CalmAt (taken_place p) dropped made →
    (is_kept p && has_number h names) ≡ (is_kept p && has_number h (with_made made names))
calm-holds InQueue dropped made h names c = ap (λ m. has_number h (with_made m names)) (sym c.1)
calm-holds InFlight dropped made h names c = ap (λ m. has_number h (with_made m names)) (sym c.1)
calm-holds (InDone outcome) dropped made h names c = absurd c
calm-holds (Reaped outcome) dropped made h names c = absurd c
calm-holds Gone dropped made h names c = refl

-- A driver that stands for a ledger.
module _ (D : Legacy) (L : Ledger) (st : Stands D L) where
  -- Its slots are those of the operations.
  slots-shown : (n : ℕ) → slot_at D n ≡ slot_of_op (asked L n) (slice_get L.ops n)
  slots-shown n =
      let took : Took (slice_get L.ops n) (slice_get (take_all L).ops n) = take_all-ops L st.settled.half.lists n in
      slot-taken D L n st.shows ∙ ap (λ x. slot_in (option_map shown x)) took.is
      ∙ slot-of-taken (slice_get L.ops n) took.canceled took.waits_for (asked L n) (st.settled.half.asks n ∙ ap canceled_in took.is)

  -- The same operations hold a handle.
  holding-ops : (h : ℕ) → numbers_where (is_on h) 0 D.slots ≡ numbers_where (is_holding h) 0 L.ops
  holding-ops h = numbers-like (is_on h) (is_holding h) 0 D.slots L.ops (
      tests-alike D L st (is_on h) (is_holding h) (λ o canceled waits calm.
      ap (is_on h) (slot-by-taken o.place _) ∙ slot-live (is_on h) false (has_number h (named o.request)) o.place _ refl refl
      ∙ if-and (is_kept o.place) (has_number h (named o.request)) ∙ calm-holds o.place o.dropped o.made h (named o.request) calm))

  -- A handle has the same holders.
  holders-shown : (h : ℕ) → holders_at D h ≡ holders L h
  holders-shown h =
      ap (λ b. (if b then User ∷ [] else []) ++ map ByOp (numbers_where (is_on h) 0 D.slots)) (same-users D L st h)
      ∙ ap (λ xs. (if user_holds L h then User ∷ [] else []) ++ map ByOp xs) (holding-ops h)

  -- It shows the ledger.
  pub stands-shows : Shows D L
  stands-shows = record {
    count = ap length st.shows.slots ∙ length-map (take_all L).ops shown ∙ length-take_each (record L { queue = [] }) L.queue;
    slots = slots-shown;
    world = st.shows.world;
    users = same-users D L st;
    holders = holders-shown;
    cancellers = st.shows.cancellers;
    cancel_handles = st.shows.cancel_handles;
    groups = st.shows.groups;
    members = same-members D L st;
    done = st.settled.half.idle;
  }
