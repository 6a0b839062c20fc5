-- What posts of closes, and completions that are taken off, make of a ring.
use Rattle.std.proofs.Common.{◌≡◌, inl, inr, ℕ, ◌-◌, ◌<◌, ◌≤◌, Bool, true, false, List, [], ◌∷◌, ◌++◌, length, take, drop, refl, sym}
use Rattle.std.proofs.Common.{◌∙◌, ap, subst, arith}
use Rattle.std.proofs.Common.{append_assoc, append-nil, length-append}
use Rattle.std.specs.Prelude.{◌==◌, if◌then◌else◌}
use Rattle.std.proofs.lemmas.List.{map-append, take-append-drop}
use Rattle.ring_core.specs.declared.entry.Body.{Body}
use Rattle.ring_core.specs.declared.entry.Body.TheVariants.{Call as Calls, Cancel as Cancels, Close as Closes}
use Rattle.ring_core.specs.declared.entry.Entry.{Entry}
use Rattle.machine.specs.declared.completion.Completion.{Completion}
use Rattle.ring_core.specs.Entry.{close_entry}
use Rattle.ring_core.specs.Ring.{RingView, IsTakenOff, entered, pushed, with_done, done_after_entry, done_after}
use Rattle.uring_driver.specs.Pending.{Pending}
use Rattle.uring_driver.specs.Submissions.{with_spare, room_made, pending_ring, Posts, PostsEach}
use Rattle.uring_driver.specs.Reaps.{FitsQueue, closes_of, posted, KeepsUp, ShowsReaps, IsReaped}
use Rattle.uring_driver.specs.Reaps.{ReapsRing, PostsAll}
use Rattle.uring_driver.proofs.Entering.{later-on, later-same, taken-behind}

-- What one entry adds to what is done stands behind it.
done-entry : (xs ys : List Completion) (e : Entry) (b : Body) → done_after_entry (xs ++ ys) e b ≡ xs ++ done_after_entry ys e b
done-entry xs ys e (Calls call) = refl
done-entry xs ys e (Cancels key) = append_assoc xs ys _
done-entry xs ys e (Closes h) = refl

-- So does what entries add.
done-front : (xs ys : List Completion) (es : List Entry) → done_after (xs ++ ys) es ≡ xs ++ done_after ys es
done-front xs ys [] = refl
done-front xs ys (e ∷ es) = ap (λ d. done_after d es) (done-entry xs ys e e.body) ∙ done-front xs (done_after_entry ys e e.body) es

-- Completions in front of those that are ready stay there while room is made.
room-front : (v : RingView) (xs : List Completion) →
    room_made (with_done v (xs ++ v.done)) ≡ with_done (room_made v) (xs ++ (room_made v).done)
room-front v xs = by_test (length v.queue == v.capacity)
  where
    by_test : (b : Bool) → (if b then entered (with_done v (xs ++ v.done)) else with_done v (xs ++ v.done))
        ≡ with_done (if b then entered v else v) (xs ++ (if b then entered v else v).done)
    by_test true = ap (λ d. with_done (entered v) d) (done-front xs v.done v.queue)
    by_test false = refl

-- They stay there while entries are pushed.
pub posted-front : (v : RingView) (xs : List Completion) (es : List Entry) →
    posted (with_done v (xs ++ v.done)) es ≡ with_done (posted v es) (xs ++ (posted v es).done)
posted-front v xs [] = refl
posted-front v xs (e ∷ es) = ap (λ w. posted (pushed w e) es) (room-front v xs) ∙ posted-front (pushed (room_made v) e) xs es

-- What is ready before entries are pushed stands in front of what they add.
pub posted-done : (v : RingView) (ds : List Completion) (es : List Entry) →
    posted (with_done v ds) es ≡ with_done (posted (with_done v []) es) (ds ++ (posted (with_done v []) es).done)
posted-done v ds es = sym (ap (λ d. posted (with_done v d) es) (append-nil ds)) ∙ posted-front (with_done v []) ds es

-- Room is made as it is with other memory.
room-spare : (v : RingView) (spare : ℕ) → room_made (with_spare v spare) ≡ with_spare (room_made v) spare
room-spare v spare = by_test (length v.queue == v.capacity)
  where
    by_test : (b : Bool) → (if b then entered (with_spare v spare) else with_spare v spare) ≡ with_spare (if b then entered v else v) spare
    by_test true = refl
    by_test false = refl

-- Entries are pushed as they are with other memory.
pub posted-spare : (v : RingView) (spare : ℕ) (es : List Entry) →
    with_spare (posted (with_spare v spare) es) 0 ≡ with_spare (posted v es) 0
posted-spare v spare [] = refl
posted-spare v spare (e ∷ es) = ap (λ w. with_spare (posted (pushed w e) es) 0) (room-spare v spare)
    ∙ posted-spare (pushed (room_made v) e) (spare - 1) es

-- Entries that are pushed in two parts are pushed as one.
pub posted-append : (v : RingView) (xs ys : List Entry) → posted v (xs ++ ys) ≡ posted (posted v xs) ys
posted-append v [] ys = refl
posted-append v (x ∷ xs) ys = posted-append (pushed (room_made v) x) xs ys

-- Reaps in two parts are one.
reaped-on : (a b c : RingView) (t t' : List Completion) (q q' : List ℕ) → IsReaped a b t q → IsReaped b c t' q' →
    IsReaped a c (t ++ t') (q ++ q')
reaped-on a b c t t' q q' f g =
    let es = closes_of q in
    let es' = closes_of q' in
    let P = posted b es' in
    ap (λ xs. with_spare (posted a xs) 0) (map-append close_entry q q')
    ∙ ap (λ v. with_spare v 0) (posted-append a es es')
    ∙ sym (posted-spare (posted a es) 0 es')
    ∙ ap (λ v. with_spare (posted v es') 0) f
    ∙ posted-spare (with_done b (t ++ b.done)) 0 es'
    ∙ ap (λ v. with_spare v 0) (posted-front b t es')
    ∙ ap (λ v. with_done v (t ++ v.done)) g
    ∙ ap (λ d. with_spare (with_done c d) 0) (sym (append_assoc t t' c.done))

-- Where two lists joined are none, the first is, and so is the second.
none-first : (xs ys : List ℕ) → xs ++ ys ≡ [] → xs ≡ []
none-first [] ys h = refl
none-first (x ∷ xs) ys h = (let f : ⊥ = cc in absurd f)

-- The second is none.
none-second : (xs ys : List ℕ) → xs ++ ys ≡ [] → ys ≡ []
none-second [] ys h = h
none-second (x ∷ xs) ys h = (let f : ⊥ = cc in absurd f)

-- Where a ring keeps up with all of these closes, it keeps up with the first.
keeps-first : (steady : Bool) (q q' : List ℕ) → KeepsUp steady (q ++ q') → KeepsUp steady q
keeps-first steady q q' (inl always) = inl always
keeps-first steady q q' (inr none) = inr (none-first q q' none)

-- It keeps up with the second.
keeps-second : (steady : Bool) (q q' : List ℕ) → KeepsUp steady (q ++ q') → KeepsUp steady q'
keeps-second steady q q' (inl always) = inl always
keeps-second steady q q' (inr none) = inr (none-second q q' none)

-- What is shown of reaps in two parts is shown of one.
shows-on : (a b c : RingView) (t t' : List Completion) (q q' : List ℕ) → ShowsReaps a b t q → ShowsReaps b c t' q' →
    ShowsReaps a c (t ++ t') (q ++ q')
shows-on a b c t t' q q' f g = record {
  more = f.more ++ g.more;
  done = sym (append_assoc a.done f.more g.more) ∙ ap (λ d. d ++ g.more) f.done ∙ append_assoc t b.done g.more ∙ ap (λ d. t ++ d) g.done
      ∙ sym (append_assoc t t' c.done);
  pending = record {
    entered = f.pending.entered ++ g.pending.entered;
    moved = ap (λ xs. a.queue ++ xs) (map-append close_entry q q') ∙ sym (append_assoc a.queue (closes_of q) (closes_of q'))
        ∙ ap (λ xs. xs ++ closes_of q') f.pending.moved ∙ append_assoc f.pending.entered b.queue (closes_of q')
        ∙ ap (λ xs. f.pending.entered ++ xs) g.pending.moved ∙ sym (append_assoc f.pending.entered g.pending.entered c.queue);
  };
}

module _ {R : Type 0} (view : R → RingView) (tells steady : Bool) where
  -- Reaps of a ring in two parts are one.
  pub ring-on : (a b c : Pending R) (t t' : List Completion) (q q' : List ℕ) → ReapsRing view tells steady a b t q →
      ReapsRing view tells steady b c t' q' → ReapsRing view tells steady a c (t ++ t') (q ++ q')
  ring-on a b c t t' q q' f g =
      let long = length-append t t' in
      let many = length-append q q' in
      record {
        later = later-on (view a.ring) (view b.ring) (view c.ring) f.later g.later;
        room = (let x = f.room in let y = g.room in omega (arith, x, y, many));
        few = (let x = f.few in let y = g.few in omega (arith, x, y, long, many));
        few_to_come = (let x = f.few_to_come in let y = g.few_to_come in omega (arith, x, y, long, many));
        kept = (let x = f.kept in let y = g.kept in omega (arith, x, y, long));
        same = λ none.
            let x = f.same (none-first q q' none) in
            let y = g.same (none-second q q' none) in
            record {
              queue = y.queue ∙ x.queue;
              due = y.due ∙ x.due;
              done = (let m = x.done in let n = y.done in omega (arith, m, n, long));
            };
        told = λ shows. shows-on (pending_ring view a) (pending_ring view b) (pending_ring view c) t t' q q' (f.told shows) (g.told shows);
        exact = λ shows keeps fits.
            let x = f.exact shows (keeps-first steady q q' keeps) fits in
            let y = g.exact shows (keeps-second steady q q' keeps) x.1 in
            (reaped-on (pending_ring view a) (pending_ring view b) (pending_ring view c) t t' q q' x.0 y.0, y.1);
      }

  -- A completion is taken off.
  pub ring-taken : (old new : Pending R) (c : Completion) → IsTakenOff tells (view old.ring) (view new.ring) c → new.due ≡ old.due →
      new.room ≡ old.room → ReapsRing view tells steady old new (c ∷ []) []
  ring-taken old new c off due room =
      let same = ap length due in
      let rest = (view new.ring).done in
      record {
        later = off.later;
        room = omega (arith, room);
        few = (let d = off.one_less in let q = off.same_queue in omega (arith, d, q, same));
        few_to_come = (let d = off.one_less in let q = off.same_queue in let m = off.no_more in omega (arith, d, q, m, same));
        kept = (let d = off.one_less in omega (arith, d));
        same = λ none. record { queue = off.same_queue; due = due; done = off.one_less };
        told = λ shows. record {
          more = [];
          done = append-nil (view old.ring).done ∙ (off.told shows).0;
          pending = record {
            entered = [];
            moved = append-nil (pending_ring view old).queue
                ∙ sym (ap (λ v. v.queue) (taken-behind view old new rest (off.told shows).1 due));
          };
        };
        exact = λ shows keeps fits. (
          ap (λ d. with_spare (with_done (pending_ring view old) d) 0) (off.told shows).0
              ∙ ap (λ v. with_spare (with_done v (c ∷ v.done)) 0) (sym (taken-behind view old new rest (off.told shows).1 due)),
          (let q = off.same_queue in let l = off.later.same_capacity in omega (arith, q, same, l, fits)),
        );
      }

  -- Nothing happens.
  pub ring-none : (p : Pending R) → ReapsRing view tells steady p p [] []
  ring-none p = record {
    later = later-same (view p.ring) (view p.ring).spare;
    room = omega arith;
    few = omega arith;
    few_to_come = omega arith;
    kept = omega arith;
    same = λ none. record { queue = refl; due = refl; done = omega arith };
    told = λ shows. record {
      more = [];
      done = append-nil (view p.ring).done;
      pending = record { entered = []; moved = append-nil (pending_ring view p).queue };
    };
    exact = λ shows keeps fits. (refl, fits);
  }

  -- The close of a handle is posted.
  ring-posted : (old new : Pending R) (h : ℕ) → 0 < old.room → Posts view tells steady old new (close_entry h) →
      ReapsRing view tells steady old new [] (h ∷ [])
  ring-posted old new h some posts = record {
    later = posts.later;
    room = posts.room some;
    few = (let a = posts.few_done in omega (arith, a));
    few_to_come = (let a = posts.few_to_come in omega (arith, a));
    kept = (let a = posts.more_done in omega (arith, a));
    same = λ none. (let f : ⊥ = cc in absurd f);
    told = λ shows. (
        let told = posts.told some shows in
        let front = take told.1.count (pending_ring view old).queue in
        record {
          more = done_after [] front;
          done = sym (done-front (view old.ring).done [] front) ∙ ap (λ d. done_after d front) (append-nil (view old.ring).done)
              ∙ sym told.1.took.done ∙ sym (ap (λ v. v.done) told.2);
          pending = record {
            entered = front;
            moved = ap (λ q. q ++ close_entry h ∷ []) (sym (take-append-drop told.1.count (pending_ring view old).queue))
                ∙ append_assoc front (drop told.1.count (pending_ring view old).queue) (close_entry h ∷ [])
                ∙ ap (λ q. front ++ (q ++ close_entry h ∷ [])) (sym told.1.took.queue)
                ∙ ap (λ q. front ++ q) (sym (ap (λ v. v.queue) told.2));
          };
        });
    exact = λ shows keeps fits. by_steady keeps fits;
  }
    where
      by_steady : KeepsUp steady (h ∷ []) → FitsQueue view old →
          IsReaped (pending_ring view old) (pending_ring view new) [] (h ∷ []) × FitsQueue view new
      by_steady (inl always) fits =
          (let exact = posts.exact some always fits in (ap (λ v. with_spare v 0) (sym exact.0), exact.1))
      by_steady (inr none) fits = (let f : ⊥ = cc in absurd f)

  -- The closes of handles are posted.
  posted-each : (old new : Pending R) (handles : List ℕ) → length handles ≤ old.room →
      PostsEach view tells steady old new (closes_of handles) → ReapsRing view tells steady old new [] handles
  posted-each old new [] few same = subst (λ p. ReapsRing view tells steady old p [] []) (sym same) (ring-none old)
  posted-each old new (h ∷ handles) few posts =
      let left = posts.1.room (omega (arith, few)) in
      ring-on old posts.0 new [] [] (h ∷ []) handles (ring-posted old posts.0 h (omega (arith, few)) posts.1)
      (posted-each posts.0 new handles (omega (arith, few, left)) posts.2)

  pub ring-posts : (old new : Pending R) (handles : List ℕ) → PostsAll view tells steady old new handles →
      ReapsRing view tells steady old new [] handles
  ring-posts old new handles posts = posted-each old new handles posts.few posts.posts
