-- What taking the close of a handle off the queue does to a ring and slots that mean a ledger.
use Rattle.std.proofs.Common.{◌≡◌, ◌<◌, inl, inr, ℕ, suc, true, false, List, [], ◌∷◌, ◌++◌, map, Option, refl, sym, ◌∙◌, ap, subst}
use Rattle.std.specs.Ordering.{nat_cmp}
use Rattle.std.specs.FinMap.{FinMap}
use Rattle.std.proofs.lemmas.List.{map-append}
use Rattle.rent_buf.specs.Buffer.{Buffer}
use Rattle.machine.specs.declared.world.TheConstants.{MOST_HANDLES}
use Rattle.ring_core.specs.Ring.{RingView}
use Rattle.ring_core.specs.Entry.{close_entry}
use Rattle.ring_core.specs.declared.entry.Body.TheVariants.{Close as Closes}
use Rattle.ring_core.specs.declared.entry.Entry.{Entry}
use Rattle.ring_core.specs.declared.entry.Flight.{Flight}
use Rattle.machine.specs.Ledger.{Ledger, Queued, Item}
use Rattle.machine.specs.Queue.{take_one}
use Rattle.driver_core.specs.declared.slot.Slot.{Slot}
use Rattle.uring_driver.specs.Lists.{FlightFor, ListsStand, is_call, queued_of, item_in, item_of}
use Rattle.uring_driver.proofs.Means.{Means}
use Rattle.driver_core.proofs.Lists.{get-pushed}
use Rattle.uring_driver.proofs.Kept.{close-queued}
use Rattle.uring_driver.proofs.Heads.{at-head, behind-head, once-behind, cancels-left}

-- A close is taken: it is in flight, not marked and not bound.
module _ {B : Type 0} (buffer : B → Buffer) (v : RingView) (slots : FinMap nat_cmp (Slot B)) (L : Ledger) (e : Entry) (rest : List Entry)
    (old : Means buffer v slots L) (first : v.queue ≡ e ∷ rest) (leader : Option ℕ) (k : ℕ) (body : e.body ≡ Closes k) where
  here : (e ≡ close_entry k) × (k < MOST_HANDLES)
  here = close-queued buffer slots L.ops e e.body (old.in_lists.in_queue 0 e (at-head v.queue e rest first)) k body

  abbrev f' : Flight
  f' = record { entry = e; marked = false; bound = false }

  not-call : (x : Flight) → x ≡ f' → is_call x.entry.body ≡ true → ⊥
  not-call x h q = (let z : false ≡ true = sym (ap (λ y. is_call y.entry.body) h ∙ ap is_call body) ∙ q in cc)

  lists-close : ListsStand buffer slots (record v { queue = rest; flying = v.flying ++ f' ∷ [] })
      (take_one leader (record L { queue = map queued_of rest }) (Queued.Close k))
  lists-close = record {
    queue = refl;
    flying = ap (λ x. x ++ Item.Close k ∷ []) old.in_lists.flying ∙ ap (λ b. map item_of v.flying ++ item_in e b ∷ []) (sym body)
        ∙ sym (map-append item_of v.flying (f' ∷ []));
    done = old.in_lists.done;
    in_queue = λ i x h. old.in_lists.in_queue (suc i) x (behind-head v.queue e rest first i x h);
    in_flight = λ i x h. elim (get-pushed v.flying f' i x h) [
      | inl r ↦ old.in_lists.in_flight i x r
      | inr r ↦ subst (λ y. FlightFor buffer slots L.ops y y.entry.body) (sym r.1)
          (subst (λ b. FlightFor buffer slots L.ops f' b) (sym body) (here.0, here.1, refl, refl))
    ];
    in_done = old.in_lists.in_done;
    queue_once = once-behind _ _ v.queue e rest first old.in_lists.queue_once;
    flight_once = λ i j x y h q c d s. elim (get-pushed v.flying f' i x h) [
      | inl a ↦ elim (get-pushed v.flying f' j y q) [
        | inl b ↦ old.in_lists.flight_once i j x y a b c d s
        | inr b ↦ absurd (not-call y b.1 d)
      ]
      | inr a ↦ absurd (not-call x a.1 c)
    ];
    done_once = old.in_lists.done_once;
    cancels = cancels-left v e rest first old.in_lists.cancels (v.flying ++ f' ∷ [])
        (λ i j f c key h q b s. elim (get-pushed v.flying f' i f h) [
          | inl r ↦ old.in_lists.cancels.flown i (suc j) f c key r (behind-head v.queue e rest first j c q) b s
          | inr r ↦ absurd (not-call f r.1 s)
        ]);
  }

  pub means-close : Means buffer (record v { queue = rest; flying = v.flying ++ f' ∷ [] }) slots
      (take_one leader (record L { queue = map queued_of rest }) (Queued.Close k))
  means-close = record {
    capacity = old.capacity;
    world = old.world;
    in_slots = old.in_slots;
    in_lists = lists-close;
  }
