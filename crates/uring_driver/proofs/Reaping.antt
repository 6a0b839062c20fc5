-- What treating one completion does to a ring and slots that mean a ledger.
use Rattle.std.proofs.Common.{◌≡◌, ◌≢◌, ℕ, suc, Bool, true, false, List, [], ◌∷◌, ◌++◌, flat_map, Option, Some, None, refl, sym, ◌∙◌, ap}
use Rattle.std.proofs.Common.{subst}
use Rattle.std.specs.Prelude.{slice_get, option_to_list, ◌&&◌}
use Rattle.std.specs.Ordering.{nat_cmp}
use Rattle.std.specs.FinMap.{FinMap, get, insert, remove}
use Rattle.rent_buf.specs.Buffer.{Buffer}
use Rattle.op_slots.specs.declared.lifecycle.Lifecycle.TheVariants.{Completed}
use Rattle.ring_core.specs.Ring.{RingView, with_done}
use Rattle.machine.specs.Lists.{amended}
use Rattle.machine.specs.declared.completion.Completion.{Completion}
use Rattle.machine.specs.declared.request.Outcome.{Outcome}
use Rattle.machine.specs.Ledger.{Ledger, Operation, Place, InQueue, InFlight, InDone, Gone, is_live, is_kept}
use Rattle.machine.specs.Queue.{at_place, with_op, with_gone}
use Rattle.machine.specs.Request.{named as handles_of, makes, plain_request}
use Rattle.machine.specs.Turn.{reaped_place, with_reap, task_if}
use Rattle.machine.proofs.Amended.{get-amended-same, get-amended-other}
use Rattle.machine.proofs.Requests.{named-holding, named-mapped, makes-holding, makes-mapped}
use Rattle.driver_core.specs.declared.slot.Slot.{Slot}
use Rattle.driver_core.specs.Slot.{with_life, is_flying, flies_in, task_in, slots_completed, named_by, slots_after}
use Rattle.driver_core.specs.Holds.{if_dropped, dropped_in, is_maker, is_dropped, is_dropped_life}
use Rattle.driver_core.specs.Slots.{SlotFor, SlotsStand, waiting, life_of, is_early}
use Rattle.ring_core.specs.declared.entry.Target.TheVariants.{Slot as Keyed}
use Rattle.ring_core.specs.Entry.{target}
use Rattle.uring_driver.specs.Lists.{CompletionFor, DoneFor, IsAt, ListsStand, names_slot, done_items_of}
use Rattle.uring_driver.proofs.Heads.{at-head, behind-head, once-behind}
use Rattle.uring_driver.proofs.Means.{Means}
use Rattle.driver_core.proofs.Completing.{named-flying, slots-flying}
use Rattle.driver_core.proofs.Lists.{some}
use Rattle.driver_core.proofs.Maps.{remove-put}
use Rattle.driver_core.proofs.Slots.{slots-replaced, other-slot, slots-freed, other-left}
use Rattle.uring_driver.proofs.Kept.{stays-own, KeepsOp, KeepsSlot, lists-kept}

-- A completion names an operation, and so many tasks.
pub record Names (named : Option (ℕ × Option ℕ)) (number : ℕ) (tasks : List ℕ) : Type 0 where
  pub task : Option ℕ
  pub is : named ≡ Some (number, task)
  pub woken : option_to_list task ≡ tasks

-- A slot that waits is in flight.
waiting-flies : (t : Option ℕ) → is_flying (waiting t) ≡ true
waiting-flies None = refl
waiting-flies (Some t) = refl

-- So is the slot of an operation that is done, dropped or not.
done-flies : (b : Bool) (r : Outcome) (t : Option ℕ) → is_flying (life_of b (InDone r) t) ≡ true
done-flies true r t = refl
done-flies false r t = waiting-flies t

-- A slot that waits wasn't dropped.
kept-waiting : (t : Option ℕ) → is_dropped_life (waiting t) ≡ false
kept-waiting None = refl
kept-waiting (Some t) = refl

-- The slot of an operation that is done was dropped exactly where the operation was.
dropped-by : (b : Bool) (r : Outcome) (t : Option ℕ) → is_dropped_life (life_of b (InDone r) t) ≡ b
dropped-by true r t = refl
dropped-by false r t = kept-waiting t

-- A slot that waits wakes its task.
wakes : (t : Option ℕ) → option_to_list (task_in (waiting t)) ≡ option_to_list t
wakes None = refl
wakes (Some t) = refl

-- The task that a completion wakes is that of the ledger's reap.
wakes-task : (b : Bool) (r : Outcome) (t : Option ℕ) → option_to_list (task_in (life_of b (InDone r) t)) ≡ task_if b t
wakes-task true r t = refl
wakes-task false r t = wakes t

-- A slot that waits leaves no handle.
none-waiting : (t : Option ℕ) (handles : List ℕ) → if_dropped (waiting t) handles ≡ []
none-waiting None handles = refl
none-waiting (Some t) handles = refl

-- The completion of a slot that waits stays in it.
slots-waiting : {B : Type 0} (t : Option ℕ) (m : FinMap nat_cmp (Slot B)) (k : ℕ) (x : Slot B) →
    slots_completed (waiting t) m k x ≡ insert m k x
slots-waiting None m k x = refl
slots-waiting (Some t) m k x = refl

-- A completion is taken off: what is left means the ledger without what it means.
pub means-less : {B : Type 0} (buffer : B → Buffer) (v : RingView) (slots : FinMap nat_cmp (Slot B)) (L : Ledger) (c : Completion)
    (rest : List Completion) → Means buffer v slots L → v.done ≡ c ∷ rest →
    Means buffer (with_done v rest) slots (record L { done = flat_map done_items_of rest })
means-less buffer v slots L c rest old first =
    let l = old.in_lists in
    record {
      capacity = old.capacity;
      world = old.world;
      in_slots = old.in_slots;
      in_lists = record {
        queue = l.queue;
        flying = l.flying;
        done = refl;
        in_queue = l.in_queue;
        in_flight = l.in_flight;
        in_done = λ i x h. l.in_done (suc i) x (behind-head v.done c rest first i x h);
        queue_once = l.queue_once;
        flight_once = l.flight_once;
        done_once = once-behind _ _ v.done c rest first l.done_once;
        cancels = l.cancels;
      };
    }

-- What the ledger has done is what the first completion means, and then what the rest do.
pub done-first : {B : Type 0} (buffer : B → Buffer) (v : RingView) (slots : FinMap nat_cmp (Slot B)) (L : Ledger) (c : Completion)
    (rest : List Completion) → Means buffer v slots L → v.done ≡ c ∷ rest → L.done ≡ done_items_of c ++ flat_map done_items_of rest
done-first buffer v slots L c rest old first = old.in_lists.done ∙ ap (flat_map done_items_of) first

-- What the completion of an operation comes to: the operation is done with its outcome, and it is named with its task. Where it wasn't
-- dropped its slot is completed, and it is reaped; else its slot goes, with the handles that it names, and it is gone.
pub record Completes {B : Type 0} (buffer : B → Buffer) (v : RingView) (slots : FinMap nat_cmp (Slot B)) (L : Ledger) (c : Completion)
    (rest : List Completion) : Type 0 where
  pub operation : Operation
  pub there : slice_get L.ops c.serial ≡ Some operation
  pub done : operation.place ≡ InDone c.outcome
  pub named : Names (named_by (get slots c.word)) c.serial (task_if operation.dropped operation.task)
  pub live : is_live operation ≡ true
  pub flies : flies_in (get slots c.word) ≡ true
  pub maker : is_maker (get slots c.word) ≡ makes operation.request
  pub drop : is_dropped (get slots c.word) ≡ operation.dropped
  pub kept : operation.dropped ≡ false → Means buffer (with_done v rest) (slots_after slots c (get slots c.word))
      (with_op (record L { done = flat_map done_items_of rest }) c.serial with_reap) × (dropped_in (get slots c.word) ≡ [])
  pub left : operation.dropped ≡ true → Means buffer (with_done v rest) (slots_after slots c (get slots c.word))
      (with_gone (record L { done = flat_map done_items_of rest }) c.serial)
      × (dropped_in (get slots c.word) ≡ handles_of operation.request)

module _ {B : Type 0} (buffer : B → Buffer) (v : RingView) (slots : FinMap nat_cmp (Slot B)) (L : Ledger) (c : Completion)
    (rest : List Completion)
    (old : Means buffer v slots L) (first : v.done ≡ c ∷ rest) (key : ℕ) (keyed : target c.word ≡ Keyed key) where
  here : CompletionFor slots c × IsAt L.ops c.serial (InDone c.outcome)
  here = subst (λ t. DoneFor slots L.ops c t) keyed (old.in_lists.in_done 0 c (at-head v.done c rest first))

  s : Slot B
  unfolding here
  s = here.0.slot

  slot-there : get slots c.word ≡ Some s
  unfolding s here
  slot-there = here.0.there

  n-is : s.serial ≡ c.serial
  unfolding s here
  n-is = here.0.serial

  abbrev mine : SlotFor buffer L.ops s
  mine = old.in_slots.holds c.word s slot-there

  abbrev o : Operation
  o = mine.operation

  which : slice_get L.ops c.serial ≡ Some o
  which = ap (slice_get L.ops) (sym n-is) ∙ mine.there

  stands-done : o.place ≡ InDone c.outcome
  unfolding here
  stands-done = ap (λ x. x.place) (some o here.1.operation (slice_get L.ops c.serial) which here.1.there) ∙ here.1.stays

  life-is : s.life ≡ life_of o.dropped (InDone c.outcome) o.task
  life-is = mine.life ∙ ap (λ p. life_of mine.operation.dropped p mine.operation.task) stands-done

  abbrev t : Slot B
  t = with_life s (Completed c.outcome)

  -- Its user may poll it: it is completed.
  module _ (owned : o.dropped ≡ false) where
    lives : is_live (with_reap o) ≡ is_live o
    lives = ap (λ p. is_kept (reaped_place p)) stands-done ∙ sym (ap is_kept stands-done)

    not-early : is_early (reaped_place o.place) ≡ true → ⊥
    not-early h = (let z : false ≡ true = sym (ap (λ p. is_early (reaped_place p)) stands-done) ∙ h in cc)

    not-queued : reaped_place o.place ≡ InQueue → ⊥
    not-queued h = (let z = sym (ap reaped_place stands-done) ∙ h in cc)

    fits : SlotFor buffer (amended L.ops s.serial with_reap) t
    fits = record {
      operation = with_reap o;
      there = get-amended-same with_reap L.ops s.serial o mine.there;
      live = ap (λ p. is_kept (reaped_place p)) stands-done;
      request = mine.request;
      life = sym (ap (λ b. life_of b (reaped_place o.place) o.task) owned ∙ ap (λ p. life_of false (reaped_place p) o.task) stands-done);
      fresh = λ h. absurd (not-early h);
      uncanceled = λ h. absurd (not-queued h);
    }

    slots-reaped : SlotsStand buffer (insert slots c.word t) (amended L.ops c.serial with_reap)
    slots-reaped = subst (λ x. SlotsStand buffer (insert slots c.word t) (amended L.ops x with_reap)) n-is
        (slots-replaced buffer slots L.ops c.word s t with_reap o old.in_slots slot-there refl mine.there lives fits)

    slot-kept : (n : ℕ) → n ≢ c.serial → KeepsSlot slots (insert slots c.word t) n
    slot-kept n q k u h e = (
      u,
      other-slot buffer slots L.ops c.word s t with_reap o old.in_slots slot-there refl mine.there lives fits k u h
          (λ r. q (sym e ∙ r ∙ n-is)),
      refl,
      refl,
    )

  -- Its user dropped it: its slot is freed.
  slots-left : SlotsStand buffer (remove slots c.word) (amended L.ops c.serial (at_place Gone))
  slots-left = subst (λ x. SlotsStand buffer (remove slots c.word) (amended L.ops x (at_place Gone))) n-is
      (slots-freed buffer slots L.ops c.word s (at_place Gone) o old.in_slots slot-there mine.there (ap is_kept stands-done) refl)

  slot-left : (n : ℕ) → n ≢ c.serial → KeepsSlot slots (remove slots c.word) n
  slot-left n q k u h e = (
    u,
    other-left buffer slots L.ops c.word s (at_place Gone) o old.in_slots slot-there mine.there (ap is_kept stands-done) refl k u h
        (λ r. q (sym e ∙ r ∙ n-is)),
    refl,
    refl,
  )

  op-kept : (f : Operation → Operation) (n : ℕ) → n ≢ c.serial → KeepsOp L.ops (amended L.ops c.serial f) n
  op-kept f n q p h = (p, get-amended-other f L.ops c.serial n q ∙ h, stays-own p)

  not-this : (n : ℕ) (p : Place) → IsAt L.ops n p → p ≢ InDone c.outcome → n ≢ c.serial
  not-this n p a h e = h (sym a.stays ∙ ap (λ x. x.place) (some a.operation o (slice_get L.ops n) a.there (ap (slice_get L.ops) e ∙ which))
      ∙ stands-done)

  -- The ledger without it.
  abbrev taken-off : Ledger
  taken-off = record L { done = flat_map done_items_of rest }

  less : Means buffer (with_done v rest) slots taken-off
  less = means-less buffer v slots L c rest old first

  lists-reaped : (slots' : FinMap nat_cmp (Slot B)) (f : Operation → Operation) → ((n : ℕ) → n ≢ c.serial → KeepsSlot slots slots' n) →
      ListsStand buffer slots' (with_done v rest) (record taken-off { ops = amended L.ops c.serial f })
  lists-reaped slots' f keeps =
      lists-kept buffer slots slots' L.ops (amended L.ops c.serial f) (with_done v rest) taken-off refl
      (λ n a. (let q = not-this n InQueue a (λ r. cc) in (keeps n q, op-kept f n q)))
      (λ n a. (let q = not-this n InFlight a (λ r. cc) in (keeps n q, op-kept f n q)))
      (λ i x h b a. (
      let q : x.serial ≢ c.serial = λ r. (let z = old.in_lists.done_once (suc i) 0 x c (behind-head v.done c rest first i x h)
      (at-head v.done c rest first) b (ap names_slot keyed) r in cc) in
      (keeps x.serial q, op-kept f x.serial q)))
      less.in_lists

  -- The slots once it is completed, by whether its operation was dropped.
  abbrev after : Bool → FinMap nat_cmp (Slot B)
  after b = slots_completed (life_of b (InDone c.outcome) o.task) slots c.word t

  kept-by : (b : Bool) → o.dropped ≡ b → b ≡ false → Means buffer (with_done v rest) (after b) (with_op taken-off c.serial with_reap)
  kept-by true d h = (let f : ⊥ = cc in absurd f)
  kept-by false d h = subst (λ m. Means buffer (with_done v rest) m (with_op taken-off c.serial with_reap))
      (sym (slots-waiting o.task slots c.word t)) (record {
        capacity = old.capacity;
        world = old.world;
        in_slots = slots-reaped d;
        in_lists = lists-reaped (insert slots c.word t) with_reap (slot-kept d);
      })

  left-by : (b : Bool) → o.dropped ≡ b → b ≡ true → Means buffer (with_done v rest) (after b) (with_gone taken-off c.serial)
  left-by true d h = subst (λ m. Means buffer (with_done v rest) m (with_gone taken-off c.serial)) (sym (remove-put slots c.word t))
      (record {
        capacity = old.capacity;
        world = old.world;
        in_slots = slots-left;
        in_lists = lists-reaped (remove slots c.word) (at_place Gone) slot-left;
      })
  left-by false d h = (let f : ⊥ = cc in absurd f)

  abbrev flies-here : flies_in (get slots c.word) ≡ true
  flies-here = ap flies_in slot-there ∙ ap is_flying life-is ∙ done-flies o.dropped c.outcome o.task

  -- The slots once it is treated.
  after-is : slots_after slots c (get slots c.word) ≡ after o.dropped
  after-is = slots-flying slots c s slot-there flies-here ∙ ap (λ l. slots_completed l slots c.word t) life-is

  -- The handles that it leaves, by whether its operation was dropped.
  names-by : (b : Bool) → dropped_in (get slots c.word) ≡ if_dropped (life_of b (InDone c.outcome) o.task) (handles_of s.request) →
      (b ≡ false → dropped_in (get slots c.word) ≡ []) × (b ≡ true → dropped_in (get slots c.word) ≡ handles_of o.request)
  names-by true is = (
    λ h. (let f : ⊥ = cc in absurd f),
    λ h. is ∙ sym (named-mapped buffer (λ parts. parts) s.request)
        ∙ named-holding mine.operation.request mine.operation.buffer (plain_request buffer s.request) mine.request,
  )
  names-by false is = (λ h. is ∙ none-waiting o.task (handles_of s.request), λ h. (let f : ⊥ = cc in absurd f))

  dropped-is : dropped_in (get slots c.word) ≡ if_dropped (life_of o.dropped (InDone c.outcome) o.task) (handles_of s.request)
  dropped-is = ap dropped_in slot-there ∙ ap (λ l. if_dropped l (handles_of s.request)) life-is

  maker-here : is_maker (get slots c.word) ≡ makes o.request
  maker-here = ap is_maker slot-there ∙ ap (λ b. b && makes s.request) (ap flies_in (sym slot-there) ∙ flies-here)
      ∙ sym (makes-mapped buffer (λ parts. parts) s.request)
      ∙ makes-holding mine.operation.request mine.operation.buffer (plain_request buffer s.request) mine.request

  pub completes : Completes buffer v slots L c rest
  unfolding s
  completes = record {
    operation = o;
    there = which;
    done = stands-done;
    live = ap is_kept stands-done;
    flies = flies-here;
    maker = maker-here;
    drop = ap is_dropped slot-there ∙ ap is_dropped_life life-is ∙ dropped-by o.dropped c.outcome o.task;
    named = record {
      task = task_in s.life;
      is = named-flying slots c s slot-there flies-here ∙ ap (λ n. Some (n, task_in s.life)) n-is;
      woken = ap (λ l. option_to_list (task_in l)) life-is ∙ wakes-task o.dropped c.outcome o.task;
    };
    kept = λ h. (
      subst (λ m. Means buffer (with_done v rest) m (with_op taken-off c.serial with_reap)) (sym after-is) (kept-by o.dropped refl h),
      (names-by o.dropped dropped-is).0 h,
    );
    left = λ h. (
      subst (λ m. Means buffer (with_done v rest) m (with_gone taken-off c.serial)) (sym after-is) (left-by o.dropped refl h),
      (names-by o.dropped dropped-is).1 h,
    );
  }

-- Where no completion is ready, none is in the ledger.
pub ended : {B : Type 0} (buffer : B → Buffer) (v : RingView) (slots : FinMap nat_cmp (Slot B)) (L : Ledger) → Means buffer v slots L →
    v.done ≡ [] → L.done ≡ []
ended buffer v slots L means h = means.in_lists.done ∙ ap (flat_map done_items_of) h
