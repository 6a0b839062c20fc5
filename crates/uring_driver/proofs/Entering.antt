-- Entering what is pending: prefixes of it are taken, one after another.
use Rattle.std.proofs.Common.{◌≡◌, ℕ, zero, suc, ◌+◌, ◌-◌, ◌<◌, ◌≤◌, Bool, true, false, List, [], ◌∷◌, ◌++◌, length, take, drop, refl, sym}
use Rattle.std.proofs.Common.{◌∙◌, ap, subst, arith, append_assoc, append-nil, length-append, IsTrue, Result, Ok, Err}
use Rattle.std.specs.Prelude.{OnOk, OnErr, IfErr, ◌==◌, if◌then◌else◌}
use Rattle.std.proofs.lemmas.List.{length-drop}
use Rattle.std.proofs.Math.Seq.{take-add, take-length, drop-length}
use Rattle.ring_core.specs.declared.entry.Entry.{Entry}
use Rattle.ring_core.specs.declared.entry.Flight.{Flight}
use Rattle.machine.specs.declared.completion.Completion.{Completion}
use Rattle.ring_core.specs.declared.ring.EnterError.{EnterError}
use Rattle.ring_core.specs.declared.ring.EnterError.TheVariants.{Fault, Busy}
use Rattle.ring_core.specs.Ring.{RingView, IsLater, TookFront, EntersFor, IsPushed, entered, pushed, with_done}
use Rattle.ring_core.specs.Ring.{flying_after, done_after_entry, done_after}
use Rattle.uring_driver.specs.Pending.{Pending}
use Rattle.uring_driver.specs.Submissions.{with_spare, with_due, room_made, pending_ring, flying_each, taken_by, TakesFront, Enters}
use Rattle.uring_driver.specs.Submissions.{KeptOut, Posts, PendingMoves}

-- Some enters, then others.
flying-joined : (flying : List Flight) (xs ys : List (List Entry)) → flying_each flying (xs ++ ys) ≡ flying_each (flying_each flying xs) ys
flying-joined flying [] ys = refl
flying-joined flying (x ∷ xs) ys = flying-joined (flying_after flying x) xs ys

-- What they took, one behind the other.
taken-joined : (xs ys : List (List Entry)) → taken_by (xs ++ ys) ≡ taken_by xs ++ taken_by ys
taken-joined [] ys = refl
taken-joined (x ∷ xs) ys = ap (λ zs. x ++ zs) (taken-joined xs ys) ∙ sym (append_assoc x (taken_by xs) (taken_by ys))

-- What two parts add to what is done they add as one.
done-joined : (done : List Completion) (xs ys : List Entry) → done_after done (xs ++ ys) ≡ done_after (done_after done xs) ys
done-joined done [] ys = refl
done-joined done (x ∷ xs) ys = done-joined (done_after_entry done x x.body) xs ys

-- What is left without one prefix, then without another, is left without both at once.
drop-more : {A : Type 0} (m n : ℕ) (xs : List A) → drop n (drop m xs) ≡ drop (m + n) xs
drop-more {A} zero n xs = ap (λ k. drop k xs) (let z : n ≡ 0 + n = omega arith in z)
drop-more {A} (suc m) zero [] = ap (λ k. drop {A = A} k []) (let z : suc m ≡ suc m + 0 = omega arith in z)
drop-more {A} (suc m) (suc n) [] = ap (λ k. drop {A = A} k []) (let z : suc (m + suc n) ≡ suc m + suc n = omega arith in z)
drop-more {A} (suc m) n (x ∷ xs) = drop-more m n xs ∙ ap (λ k. drop k (x ∷ xs)) (let z : suc (m + n) ≡ suc m + n = omega arith in z)

-- A prefix no longer than a list is the same whatever stands behind the list.
take-front : {A : Type 0} (n : ℕ) (xs ys : List A) → n ≤ length xs → take n (xs ++ ys) ≡ take n xs
take-front zero xs ys h = refl
take-front (suc n) [] ys h = absurd (omega (arith, h))
take-front (suc n) (x ∷ xs) ys h = ap (λ zs. x ∷ zs) (take-front n xs ys (omega (arith, h)))

-- What is left without such a prefix has behind it what stood behind the list.
drop-front : {A : Type 0} (n : ℕ) (xs ys : List A) → n ≤ length xs → drop n (xs ++ ys) ≡ drop n xs ++ ys
drop-front zero xs ys h = refl
drop-front (suc n) [] ys h = absurd (omega (arith, h))
drop-front (suc n) (x ∷ xs) ys h = drop-front n xs ys (omega (arith, h))

-- Nothing is taken.
pub took-none : (v : RingView) (spare : ℕ) → TakesFront v (with_spare v spare)
took-none v spare = record {
  count = 0;
  takings = [];
  took = record { within = omega arith; taken = refl; queue = refl; flying = refl; once = λ fits. refl; done = refl; world = refl };
}

-- Nothing is taken where memory was reserved at most.
pub took-still : {R : Type 0} (view : R → RingView) (old new : Pending R) →
    view new.ring ≡ with_spare (view old.ring) (view new.ring).spare → new.due ≡ old.due →
    TakesFront (pending_ring view old) (pending_ring view new)
took-still view old new ring due =
    subst (λ v. TakesFront (pending_ring view old) v)
    (sym (ap (λ v. with_due v new.due) ring ∙ ap (with_due (with_spare (view old.ring) (view new.ring).spare)) due))
    (took-none (pending_ring view old) (view new.ring).spare)

-- Where what is pending is the same, none of it was taken.
none-taken : {A : Type 0} (n : ℕ) (xs ys : List A) → n ≤ length xs → ys ≡ drop n xs → ys ≡ xs → n ≡ 0
none-taken n xs ys within left same =
    (let a = ap length left in let b = ap length same in let c = length-drop n xs in omega (arith, within, a, b, c))

-- One prefix is taken, then one of what is left. Where what is pending fits the queue, all of it is taken by the second.
pub took-on : (a b c : RingView) → (length a.queue ≤ a.capacity → b ≡ with_spare a b.spare) → TakesFront a b → TakesFront b c →
    TakesFront a c
took-on a b c still f g =
    let m = f.count in
    let n = g.count in
    let front : take (m + n) a.queue ≡ take m a.queue ++ take n b.queue = take-add m n a.queue
    ∙ ap (λ q. take m a.queue ++ take n q) (sym f.took.queue) in
    record {
      count = m + n;
      takings = f.takings ++ g.takings;
      took = record {
        within =
            (let w = g.took.within in let l = ap length f.took.queue ∙ length-drop m a.queue in
            let x = f.took.within in omega (arith, w, l, x));
        taken = taken-joined f.takings g.takings ∙ ap (λ x. x ++ taken_by g.takings) f.took.taken
            ∙ ap (λ x. take m a.queue ++ x) g.took.taken ∙ sym front;
        queue = g.took.queue ∙ ap (drop n) f.took.queue ∙ drop-more m n a.queue;
        flying = g.took.flying ∙ ap (λ x. flying_each x g.takings) f.took.flying ∙ sym (flying-joined a.flying f.takings g.takings);
        once = λ fits.
            let same : b ≡ with_spare a b.spare = still fits in
            let none : m ≡ 0 = none-taken m a.queue b.queue f.took.within f.took.queue (ap (λ x. x.queue) same) in
            let count : n ≡ m + n = omega (arith, none) in
            g.took.once (subst (λ x. length x.queue ≤ x.capacity) (sym same) fits)
            ∙ ap (λ x. flying_after x.flying (take n x.queue)) same ∙ ap (λ k. flying_after a.flying (take k a.queue)) count;
        done =
            g.took.done ∙ ap (λ x. done_after x (take n b.queue)) f.took.done ∙ sym (done-joined a.done (take m a.queue) (take n b.queue))
            ∙ ap (done_after a.done) (sym front);
        world = g.took.world ∙ f.took.world;
      };
    }

-- A prefix of the queue is a prefix of all that is pending.
took-behind : (n : ℕ) (v w : RingView) (due : List Entry) → TookFront n v w → TakesFront (with_due v due) (with_due w due)
took-behind n v w due t = record {
  count = n;
  takings = take n v.queue ∷ [];
  took = record {
    within = (let l = length-append v.queue due in let x = t.within in omega (arith, l, x));
    taken = append-nil (take n v.queue) ∙ sym (take-front n v.queue due t.within);
    queue = ap (λ q. q ++ due) t.queue ∙ sym (drop-front n v.queue due t.within);
    flying = t.flying;
    once = λ fits. t.flying ∙ ap (flying_after v.flying) (sym (take-front n v.queue due t.within));
    done = t.done ∙ ap (done_after v.done) (sym (take-front n v.queue due t.within));
    world = t.world;
  };
}

-- A ring that is entered took its whole queue.
took-entered : (v : RingView) → TookFront (length v.queue) v (entered v)
took-entered v = record {
  within = omega arith;
  queue = sym (drop-length v.queue);
  flying = ap (flying_after v.flying) (sym (take-length v.queue));
  done = ap (done_after v.done) (sym (take-length v.queue));
  world = refl;
}

-- Where the queue with what is due behind it fits, their lengths together do.
pub fits-split : (queue due : List Entry) (capacity : ℕ) → length (queue ++ due) ≤ capacity → length queue + length due ≤ capacity
fits-split queue due capacity h = (let l = length-append queue due in omega (arith, l, h))

-- What no call makes less, over two calls.
pub later-on : (a b c : RingView) → IsLater a b → IsLater b c → IsLater a c
later-on a b c f g = record {
  same_capacity = g.same_capacity ∙ f.same_capacity;
  more_handles = (let x = f.more_handles in let y = g.more_handles in omega (arith, x, y));
  more_faults = (let x = f.more_faults in let y = g.more_faults in omega (arith, x, y));
  more_busies = (let x = f.more_busies in let y = g.more_busies in omega (arith, x, y));
}

-- Another number of pushes makes nothing less.
pub later-same : (v : RingView) (spare : ℕ) → IsLater v (with_spare v spare)
later-same v spare = record { same_capacity = refl; more_handles = omega arith; more_faults = omega arith; more_busies = omega arith }

module _ {R : Type 0} (view : R → RingView) (tells : Bool) where
  pub enters-none : (old : Pending R) → Enters view tells old old
  enters-none old = record {
    later = later-same (view old.ring) (view old.ring).spare;
    few_done = omega arith;
    few_to_come = omega arith;
    more_done = omega arith;
    same_room = refl;
    told = λ t. took-none (pending_ring view old) (view old.ring).spare;
  }

  -- What is pending stays as it is before the second, where it fits the queue.
  pub enters-on : (a b c : Pending R) → (IsTrue tells → length (view a.ring).queue + length a.due ≤ (view a.ring).capacity →
      pending_ring view b ≡ with_spare (pending_ring view a) (view b.ring).spare) →
      Enters view tells a b → Enters view tells b c → Enters view tells a c
  enters-on a b c still f g = record {
    later = later-on (view a.ring) (view b.ring) (view c.ring) f.later g.later;
    few_done = (let x = f.few_done in let y = g.few_done in omega (arith, x, y));
    few_to_come = (let x = f.few_to_come in let y = g.few_to_come in omega (arith, x, y));
    more_done = (let x = f.more_done in let y = g.more_done in omega (arith, x, y));
    same_room = g.same_room ∙ f.same_room;
    told = λ t. took-on (pending_ring view a) (pending_ring view b) (pending_ring view c)
        (λ fits. still t (fits-split (view a.ring).queue a.due (view a.ring).capacity fits)) (f.told t) (g.told t);
  }

  -- The ring takes of its queue what it takes.
  enters-by : (old : Pending R) (ring : R) (result : Result ℕ EnterError) → EntersFor tells (view old.ring) (view ring) result →
      Enters view tells old (record old { ring = ring })
  enters-by old ring (Ok n) e = record {
    later = e.later;
    few_done = (let a = e.all in let b = ap length e.emptied in let c = e.few_done in omega (arith, a, b, c));
    few_to_come = (let a = e.all in let b = ap length e.emptied in let c = e.few_to_come in omega (arith, a, b, c));
    more_done = e.more_done;
    same_room = refl;
    told =
        λ t. subst (λ w. TakesFront (pending_ring view old) (with_due w old.due)) (sym (e.told t))
        (took-behind (length (view old.ring).queue) (view old.ring) (entered (view old.ring)) old.due (took-entered (view old.ring)));
  }
  enters-by old ring (Err Fault) e = record {
    later = e.1.later;
    few_done = (let a = e.1.rest in let c = e.1.few_done in omega (arith, a, c));
    few_to_come = (let a = e.1.rest in let c = e.1.few_to_come in omega (arith, a, c));
    more_done = e.1.more_done;
    same_room = refl;
    told = λ t. took-behind e.1.count (view old.ring) (view ring) old.due (e.1.told t);
  }
  enters-by old ring (Err Busy) e = record {
    later = e.1.later;
    few_done = (let a = e.1.rest in let c = e.1.few_done in omega (arith, a, c));
    few_to_come = (let a = e.1.rest in let c = e.1.few_to_come in omega (arith, a, c));
    more_done = e.1.more_done;
    same_room = refl;
    told = λ t. took-behind e.1.count (view old.ring) (view ring) old.due (e.1.told t);
  }

  pub enters-ring : (old inside : Pending R) (ring : R) (result : Result ℕ EnterError) → inside ≡ old →
      EntersFor tells (view inside.ring) (view ring) result → Enters view tells old (record inside { ring = ring })
  enters-ring old inside ring result is e =
      subst (λ x. Enters view tells x (record inside { ring = ring })) is (enters-by inside ring result e)

-- The first due entry was pushed: what is pending is the same.
first-told : (v w : RingView) (e : Entry) (rest due : List Entry) → due ≡ e ∷ rest → w ≡ pushed v e →
    with_due w rest ≡ with_spare (with_due v due) w.spare
first-told v w e rest due front h =
    ap (λ x. with_due x rest) h
    ∙ ap (λ q. record v { queue = q; spare = v.spare - 1 }) (append_assoc v.queue (e ∷ []) rest)
    ∙ ap (λ d. record v { queue = v.queue ++ d; spare = v.spare - 1 }) (sym front)
    ∙ ap (λ s. with_spare (with_due v due) s) (sym (ap (λ x. x.spare) h))

module _ {R : Type 0} (view : R → RingView) (tells : Bool) where
  pub first-in : (old mid new : Pending R) (e : Entry) → 0 < length old.due →
      (length (view old.ring).queue < (view old.ring).capacity → mid ≡ old) → mid.due ≡ e ∷ new.due →
      IsPushed tells e (view mid.ring) (view new.ring) → length (view old.ring).queue + length old.due ≤ (view old.ring).capacity →
      (length (view new.ring).queue + length new.due ≡ length (view old.ring).queue + length old.due) ×
      (IsTrue tells → pending_ring view new ≡ with_spare (pending_ring view old) (view new.ring).spare)
  first-in old mid new e some same front push fits =
      let is : mid ≡ old = same (omega (arith, some, fits)) in
      let due : old.due ≡ e ∷ new.due = sym (ap (λ x. x.due) is) ∙ front in (
        (let a = push.one_more in let b = ap (λ x. length (view x.ring).queue) is in let c = ap length due in omega (arith, a, b, c)),
        λ t. first-told (view old.ring) (view new.ring) e new.due old.due due (push.told t ∙ ap (λ x. pushed (view x.ring) e) is),
      )

  -- What is pending stays, one push after another.
  pub same-pending : (a b c : Pending R) → pending_ring view b ≡ with_spare (pending_ring view a) (view b.ring).spare →
      pending_ring view c ≡ with_spare (pending_ring view b) (view c.ring).spare →
      pending_ring view c ≡ with_spare (pending_ring view a) (view c.ring).spare
  same-pending a b c f g = g ∙ ap (λ x. with_spare x (view c.ring).spare) f

-- Another number of pushes changes nothing of the room that is made.
room-spare : (v : RingView) (spare : ℕ) (b : Bool) →
    (if b then entered (with_spare v spare) else with_spare v spare) ≡ with_spare (if b then entered v else v) spare
room-spare v spare true = refl
room-spare v spare false = refl

-- Making room in a ring keeps its capacity, by whether it takes.
room-capacity-by : (v : RingView) (b : Bool) → (if b then entered v else v).capacity ≡ v.capacity
room-capacity-by v true = refl
room-capacity-by v false = refl

-- Making room in a ring keeps its capacity.
pub room-capacity : (v : RingView) → (room_made v).capacity ≡ v.capacity
room-capacity v = room-capacity-by v (length v.queue == v.capacity)

-- Where nothing is due, the ring is as it is.
none-behind : (v : RingView) (due : List Entry) → due ≡ [] → with_due v due ≡ v
none-behind v due h = ap (with_due v) h ∙ ap (λ q. record v { queue = q }) (append-nil v.queue)

module _ {R : Type 0} (view : R → RingView) where
  -- Room is made behind what was due.
  pub room-behind : (old mid new : Pending R) → mid.due ≡ [] → new.due ≡ mid.due →
      pending_ring view mid ≡ with_spare (pending_ring view old) (view mid.ring).spare → view new.ring ≡ room_made (view mid.ring) →
      pending_ring view new ≡ with_spare (room_made (pending_ring view old)) (view new.ring).spare
  room-behind old mid new none same pend room =
      let P = pending_ring view old in
      let b = length P.queue == P.capacity in
      let is : view new.ring ≡ with_spare (room_made P) (view mid.ring).spare = room
      ∙ ap room_made (sym (none-behind (view mid.ring) mid.due none) ∙ pend) ∙ room-spare P (view mid.ring).spare b in
      none-behind (view new.ring) new.due (same ∙ none) ∙ is ∙ ap (with_spare (room_made P)) (sym (ap (λ x. x.spare) is))

-- What holds anyway holds of an answer that isn't Ok.
pub on-err : {T E P : Type 0} (result : Result T E) → P → OnErr result P
on-err (Ok x) p = tt
on-err (Err e) p = p

module _ {R : Type 0} (view : R → RingView) (tells : Bool) where
  -- What is pending fits the queue.
  abbrev pub Fits : Pending R → Type 0
  Fits p = length (view p.ring).queue + length p.due ≤ (view p.ring).capacity

  -- What is pending is the same.
  abbrev pub IsStill : Pending R → Pending R → Type 0
  IsStill a b =
      (length (view b.ring).queue + length b.due ≡ length (view a.ring).queue + length a.due) ×
      (IsTrue tells → pending_ring view b ≡ with_spare (pending_ring view a) (view b.ring).spare)

  pub still-on : (a b c : Pending R) → IsLater (view a.ring) (view b.ring) → (Fits a → IsStill a b) → (Fits b → IsStill b c) → Fits a →
      IsStill a c
  still-on a b c later f g fits =
      let x = f fits in
      let y = g (let n = x.0 in let l = later.same_capacity in omega (arith, n, l, fits)) in
      (y.0 ∙ x.0, λ t. same-pending view tells a b c (x.1 t) (y.1 t))

  module _ (steady : Bool) (old mid new : Pending R) (entry : Entry) (steady_tells : IsTrue steady → IsTrue tells)
      (enters : Enters view tells old mid)
      (told : IsTrue tells → pending_ring view new ≡ with_spare (pushed (pending_ring view mid) entry) (view new.ring).spare)
      (later : IsLater (view mid.ring) (view new.ring))
      (more : length (view new.ring).queue + length new.due ≡ length (view mid.ring).queue + length mid.due + 1)
      (done : length (view new.ring).done ≡ length (view mid.ring).done)
      (to_come : (view new.ring).to_come ≤ (view mid.ring).to_come)
      (due : mid.due ≡ [] → length (view mid.ring).queue < (view mid.ring).capacity → new.due ≡ []) where
    exactly : (result : Result Unit EnterError) → OnOk result (mid.due ≡ []) →
        OnOk result (length (view mid.ring).queue < (view mid.ring).capacity) →
        OnOk result
        (IsTrue tells → Fits old → pending_ring view mid ≡ with_spare (room_made (pending_ring view old)) (view mid.ring).spare) →
        IfErr result (KeptOut steady (view old.ring) (view mid.ring)) → IsTrue steady → Fits old →
        (pending_ring view new ≡ with_spare (pushed (room_made (pending_ring view old)) entry) (view new.ring).spare) × Fits new
    exactly (Ok u) none room pend kept s fits =
        let t = steady_tells s in
        let n : length (view new.ring).queue + length new.due ≡ length (view mid.ring).queue + length mid.due + 1 =
        sym (length-append (view new.ring).queue new.due) ∙ ap (λ x. length x.queue) (told t)
        ∙ length-append ((view mid.ring).queue ++ mid.due) (entry ∷ []) ∙ ap (λ k. k + 1) (length-append (view mid.ring).queue mid.due) in (
          told t ∙ ap (λ v. with_spare (pushed v entry) (view new.ring).spare) (pend t fits),
          (let z = ap length none in let c = later.same_capacity in omega (arith, n, z, room, c)),
        )
    exactly (Err Fault) none room pend kept s fits = absurd (kept.1 s)
    exactly (Err Busy) none room pend kept s fits = absurd (kept.1 s)

    pub joins : (result : Result Unit EnterError) → OnOk result (mid.due ≡ []) →
        OnOk result (length (view mid.ring).queue < (view mid.ring).capacity) →
        OnOk result
        (IsTrue tells → Fits old → pending_ring view mid ≡ with_spare (room_made (pending_ring view old)) (view mid.ring).spare) →
        IfErr result (KeptOut steady (view old.ring) (view mid.ring)) → new.room + 1 ≡ mid.room → 0 < old.room →
        Posts view tells steady old new entry
    joins result none room pend kept less some = record {
      later = later-on (view old.ring) (view mid.ring) (view new.ring) enters.later later;
      room = λ h. less ∙ enters.same_room;
      few_done = (let a = enters.few_done in omega (arith, a, more, done));
      few_to_come = (let a = enters.few_to_come in omega (arith, a, more, done, to_come));
      more_done = (let a = enters.more_done in omega (arith, a, done));
      told = λ h t. (pending_ring view mid, enters.told t, told t);
      exact = λ h s fits. exactly result none room pend kept s fits;
    }

    -- Over a steady ring nothing is due.
    pub joins-steady : (result : Result Unit EnterError) → OnOk result (mid.due ≡ []) →
        OnOk result (length (view mid.ring).queue < (view mid.ring).capacity) →
        IfErr result (KeptOut steady (view old.ring) (view mid.ring)) → IsTrue steady → new.due ≡ []
    joins-steady (Ok u) none room kept s = due none room
    joins-steady (Err Fault) none room kept s = absurd (kept.1 s)
    joins-steady (Err Busy) none room kept s = absurd (kept.1 s)

-- An entry joined it.
pub moves-join : (v mid w : RingView) (e : Entry) (spare : ℕ) → TakesFront v mid → w ≡ with_spare (pushed mid e) spare →
    PendingMoves v.queue w.queue (e ∷ [])
moves-join v mid w e spare t h =
    record { count = t.count; within = t.took.within; moved = ap (λ x. x.queue) h ∙ ap (λ q. q ++ e ∷ []) t.took.queue }

-- Nothing is pending.
pub none-pending : (queue due : List Entry) → queue ≡ [] → due ≡ [] → queue ++ due ≡ []
none-pending queue due q d = ap (λ x. x ++ due) q ∙ d

-- What is due is counted behind the queue.
pub later-behind : (v w : RingView) (due due' : List Entry) → IsLater v w → IsLater (with_due v due) (with_due w due')
later-behind v w due due' l =
    record { same_capacity = l.same_capacity; more_handles = l.more_handles; more_faults = l.more_faults; more_busies = l.more_busies }

-- A completion is taken off, behind which all that is pending stays.
pub taken-behind : {R : Type 0} (view : R → RingView) (old new : Pending R) (rest : List Completion) →
    view new.ring ≡ with_done (view old.ring) rest → new.due ≡ old.due → pending_ring view new ≡ with_done (pending_ring view old) rest
taken-behind view old new rest ring due = ap (λ v. with_due v new.due) ring ∙ ap (λ xs. with_due (with_done (view old.ring) rest) xs) due
