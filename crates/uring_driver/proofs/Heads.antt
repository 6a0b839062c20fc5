-- A ring that differs in what means nothing, and what is left of a queue once its head is taken.
use Rattle.std.proofs.Common.{◌≡◌, ℕ, suc, Bool, true, List, ◌∷◌, Some, sym, ◌∙◌, ap, subst, arith}
use Rattle.std.specs.Prelude.{slice_get}
use Rattle.std.specs.Ordering.{nat_cmp}
use Rattle.std.specs.FinMap.{FinMap}
use Rattle.rent_buf.specs.Buffer.{Buffer}
use Rattle.ring_core.specs.Ring.{RingView}
use Rattle.ring_core.specs.declared.entry.Body.TheVariants.{Cancel as Cancels}
use Rattle.ring_core.specs.declared.entry.Entry.{Entry}
use Rattle.ring_core.specs.declared.entry.Flight.{Flight}
use Rattle.machine.specs.Ledger.{Ledger}
use Rattle.driver_core.specs.declared.slot.Slot.{Slot}
use Rattle.uring_driver.specs.Lists.{Once, Meets, CancelsMean, ListsStand, is_call}
use Rattle.uring_driver.proofs.Means.{Means}

-- A ring that differs in what means nothing.
pub means-view : {B : Type 0} (buffer : B → Buffer) (v w : RingView) (slots : FinMap nat_cmp (Slot B)) (L : Ledger) →
    w.capacity ≡ v.capacity → w.queue ≡ v.queue → w.flying ≡ v.flying → w.done ≡ v.done → w.world ≡ v.world → Means buffer v slots L →
    Means buffer w slots L
means-view buffer v w slots L capacity queue flying done world old =
    let l = old.in_lists in
    record {
      capacity = capacity ∙ old.capacity;
      world = world ∙ old.world;
      in_slots = old.in_slots;
      in_lists = subst (λ xs. ListsStand buffer slots (record w { queue = xs }) L) (sym queue)
          (subst (λ xs. ListsStand buffer slots (record w { queue = v.queue; flying = xs }) L) (sym flying)
          (subst (λ xs. ListsStand buffer slots (record w { queue = v.queue; flying = v.flying; done = xs }) L) (sym done)
          (record {
            queue = l.queue;
            flying = l.flying;
            done = l.done;
            in_queue = l.in_queue;
            in_flight = l.in_flight;
            in_done = l.in_done;
            queue_once = l.queue_once;
            flight_once = l.flight_once;
            done_once = l.done_once;
            cancels = l.cancels;
          })));
    }

-- The head of a list.
pub at-head : {A : Type 0} (xs : List A) (x : A) (rest : List A) → xs ≡ x ∷ rest → slice_get xs 0 ≡ Some x
at-head xs x rest first = ap (λ all. slice_get all 0) first

-- What is behind the head is one place further on.
pub behind-head : {A : Type 0} (xs : List A) (x : A) (rest : List A) → xs ≡ x ∷ rest → (i : ℕ) (y : A) → slice_get rest i ≡ Some y →
    slice_get xs (suc i) ≡ Some y
behind-head xs x rest first i y h = ap (λ all. slice_get all (suc i)) first ∙ h

-- No two elements that pass a test have one number behind the head, where no two of all have.
pub once-behind : {A : Type 0} (passes : A → Bool) (number : A → ℕ) (xs : List A) (x : A) (rest : List A) → xs ≡ x ∷ rest →
    Once passes number xs → Once passes number rest
once-behind passes number xs x rest first once i j y z h k a b same =
    (let w = once (suc i) (suc j) y z (behind-head xs x rest first i y h) (behind-head xs x rest first j z k) a b same in cc)

-- The cancels that are left once the head is taken mean what they meant.
pub cancels-left : (v : RingView) (e : Entry) (rest : List Entry) → v.queue ≡ e ∷ rest → CancelsMean v.queue v.flying → (fs : List Flight) →
    ((i j : ℕ) (f : Flight) (c : Entry) (key : ℕ) → slice_get fs i ≡ Some f → slice_get rest j ≡ Some c → c.body ≡ Cancels key →
    is_call f.entry.body ≡ true → Meets f.entry key c.serial) → CancelsMean rest fs
cancels-left v e rest first old fs all = record {
  before = λ i j x c key h k b l q. old.before (suc i) (suc j) x c key (behind-head v.queue e rest first i x h)
      (behind-head v.queue e rest first j c k) b (omega (arith, l)) q;
  flown = all;
}
