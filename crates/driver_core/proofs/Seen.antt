-- What a driver sees operations hold is the same in two ledgers, by each step that changes it for none.
use Rattle.std.proofs.Common.{◌≡◌, ◌∙◌, inl, inr, ℕ, zero, suc, Bool, true, false, List, [], ◌∷◌, ◌++◌, length, map, Option, Some, None}
use Rattle.std.proofs.Common.{refl, sym, ap, if◌then◌else◌}
use Rattle.std.specs.Prelude.{slice_get, ◌&&◌, ◌==◌}
use Rattle.machine.specs.Lists.{has_number, amended}
use Rattle.machine.specs.Request.{named}
use Rattle.machine.specs.declared.request.Outcome.{Outcome}
use Rattle.machine.specs.Ledger.{Ledger, Operation, Place, InQueue, InFlight, InDone, Reaped, Gone, Queued, Req, Cancel}
use Rattle.machine.specs.Ledger.{is_kept, is_live, user_holds, with_made}
use Rattle.machine.specs.Queue.{with_op, canceled_at, with_take, with_cancel, take_one, leader_behind, take_behind, take_each}
use Rattle.machine.specs.Queue.{take_all, make_room, push, push_each}
use Rattle.machine.proofs.Amended.{changed-cases, joined-cases, there-before}
use Rattle.machine.proofs.Taken.{queue-take_each}
use Rattle.machine.proofs.Where.{where-kept}
use Rattle.driver_core.specs.Slots.{waiting, life_of, life_at, is_early}
use Rattle.driver_core.specs.Holds.{made_life, seen, is_seen, seen_ops}

-- Each handle has the same user, and the same operations that are seen to hold it.
pub record SameSeen (L M : Ledger) : Type 0 where
  pub users : (h : ℕ) → user_holds M h ≡ user_holds L h
  pub ops : (h : ℕ) → seen_ops M h ≡ seen_ops L h

-- A ledger and itself.
pub seen-own : (L : Ledger) → SameSeen L L
seen-own L = record { users = λ h. refl; ops = λ h. refl }

-- One step after another.
pub seen-then : {L M K : Ledger} → SameSeen L M → SameSeen M K → SameSeen L K
seen-then a b = record { users = λ h. b.users h ∙ a.users h; ops = λ h. b.ops h ∙ a.ops h }

-- Two operations are seen to hold the same: they have the same request, what they made is seen alike, and both are gone or neither is.
pub record SeenAlike (o p : Operation) : Type 0 where
  pub request : p.request ≡ o.request
  pub made : made_life (life_at p) ≡ made_life (life_at o)
  pub live : is_live p ≡ is_live o

-- Such are seen alike.
pub seen-alike : (h : ℕ) {o p : Operation} → SeenAlike o p → is_seen h p ≡ is_seen h o
seen-alike h {o} {p} s =
    ap (λ b. b && has_number h (seen p)) s.live
    ∙ ap (λ m. is_live o && has_number h (with_made m (named p.request))) s.made
    ∙ ap (λ r. is_live o && has_number h (with_made (made_life (life_at o)) (named r))) s.request

-- A change of an operation after which it is seen alike.
pub seen-op : (L : Ledger) (n : ℕ) (change : Operation → Operation) →
    ((o : Operation) → slice_get L.ops n ≡ Some o → SeenAlike o (change o)) → SameSeen L (with_op L n change)
seen-op L n change keeps = record {
  users = λ h. refl;
  ops = λ h. where-kept (is_seen h) change L.ops n 0 (λ o there. seen-alike h (keeps o there));
}

-- What waits made nothing that is seen.
pub made-waiting : (task : Option ℕ) → made_life (waiting task) ≡ None
made-waiting None = refl
made-waiting (Some task) = refl

-- What wasn't executed made nothing that is seen.
pub made-early : (dropped : Bool) (place : Place) (task : Option ℕ) → is_early place ≡ true → made_life (life_of dropped place task) ≡ None
made-early true place task early = refl
made-early false InQueue task early = made-waiting task
made-early false InFlight task early = made-waiting task
made-early false (InDone outcome) task early = (let f : ⊥ = cc in absurd f)
made-early false (Reaped outcome) task early = (let f : ⊥ = cc in absurd f)
made-early false Gone task early = (let f : ⊥ = cc in absurd f)

-- What was executed and isn't reaped made nothing that is seen.
pub made-done : (dropped : Bool) (place : Place) (task : Option ℕ) (outcome : Outcome) → place ≡ InDone outcome →
    made_life (life_of dropped place task) ≡ None
made-done true place task outcome done = refl
made-done false place task outcome done = ap (λ p. made_life (life_of false p task)) done ∙ made-waiting task

-- What wasn't executed isn't gone.
pub early-live : (o : Operation) → is_early o.place ≡ true → is_live o ≡ true
early-live o early = by o.place refl early
  where
    by : (p : Place) → o.place ≡ p → is_early p ≡ true → is_live o ≡ true
    by InQueue e early = ap is_kept e
    by InFlight e early = ap is_kept e
    by (InDone outcome) e early = (let f : ⊥ = cc in absurd f)
    by (Reaped outcome) e early = (let f : ⊥ = cc in absurd f)
    by Gone e early = (let f : ⊥ = cc in absurd f)

-- Each request among entries is one of an operation that wasn't executed.
pub record AreEarly (ops : List Operation) (entries : List Queued) : Type 0 where
  pub early : (place n : ℕ) (o : Operation) → slice_get entries place ≡ Some (Req n) → slice_get ops n ≡ Some o → is_early o.place ≡ true

-- No entries.
pub early-none : (ops : List Operation) (entries : List Queued) → entries ≡ [] → AreEarly ops entries
early-none ops entries none = record {
  early = λ place n o is there. (let q : slice_get [] place ≡ Some (Req n) = sym (ap (λ es. slice_get es place) none) ∙ is in
      let f : ⊥ = cc in absurd f);
}

-- An entry that is no request.
pub early-other : (ops : List Operation) (entry : Queued) → ((n : ℕ) → entry ≡ Req n → ⊥) → AreEarly ops (entry ∷ [])
early-other ops entry other = record { early = λ place n o is there. one place n is }
  where
    one : (place n : ℕ) → slice_get (entry ∷ []) place ≡ Some (Req n) → {b : Bool} → b ≡ true
    one zero n is = absurd (other n (let e : entry ≡ Req n = cc in e))
    one (suc place) n is = (let f : ⊥ = cc in absurd f)

-- The first of some entries, and the rest.
pub early-first : (ops : List Operation) (entry : Queued) (entries : List Queued) → AreEarly ops (entry ∷ entries) →
    AreEarly ops (entry ∷ [])
early-first ops entry entries h = record { early = λ place n o is there. one place n o is there }
  where
    one : (place n : ℕ) (o : Operation) → slice_get (entry ∷ []) place ≡ Some (Req n) → slice_get ops n ≡ Some o → is_early o.place ≡ true
    one zero n o is there = h.early 0 n o is there
    one (suc place) n o is there = (let f : ⊥ = cc in absurd f)

-- A change that leaves what wasn't executed so.
pub early-changed : (ops : List Operation) (entries : List Queued) (m : ℕ) (change : Operation → Operation) →
    ((o : Operation) → is_early o.place ≡ true → is_early (change o).place ≡ true) → AreEarly ops entries →
    AreEarly (amended ops m change) entries
early-changed ops entries m change keeps h = record {
  early = λ place n o is there. elim (changed-cases change ops m n) [
    | inl e ↦ (
        let b = there-before change (slice_get ops m) o (sym e.1 ∙ there) in
        ap (λ p. is_early p.place) b.2 ∙ keeps b.0 (h.early place n b.0 is (ap (slice_get ops) e.0 ∙ b.1)))
    | inr e ↦ h.early place n o is (sym e.1 ∙ there)
  ];
}

-- One entry more.
pub early-append : (ops : List Operation) (entries : List Queued) (entry : Queued) → AreEarly ops entries → AreEarly ops (entry ∷ []) →
    AreEarly ops (entries ++ entry ∷ [])
early-append ops entries entry h one = record {
  early = λ place n o is there. elim (joined-cases entries entry place) [
    | inl e ↦ one.early 0 n o (sym e.2 ∙ is) there
    | inr e ↦ h.early place n o (sym e.1 ∙ is) there
  ];
}

-- A cancel that is taken leaves an operation at its place, and seen alike.
canceled-alike : (p : Place) (o : Operation) → SeenAlike o (canceled_at p o) × ((canceled_at p o).place ≡ o.place)
canceled-alike InQueue o = (record { request = refl; made = refl; live = refl }, refl)
canceled-alike InFlight o = (record { request = refl; made = refl; live = refl }, refl)
canceled-alike (InDone outcome) o = (record { request = refl; made = refl; live = refl }, refl)
canceled-alike (Reaped outcome) o = (record { request = refl; made = refl; live = refl }, refl)
canceled-alike Gone o = (record { request = refl; made = refl; live = refl }, refl)

-- One entry taken.
seen-take_one : (leader : Option ℕ) (L : Ledger) (entry : Queued) → AreEarly L.ops (entry ∷ []) → SameSeen L (take_one leader L entry)
seen-take_one leader L (Req n) h = record {
  users = λ k. refl;
  ops = (seen-op L n (with_take leader) (λ o there.
      let early = h.early 0 n o refl there in record {
        request = refl;
        made = made-early o.dropped InFlight o.task refl ∙ sym (made-early o.dropped o.place o.task early);
        live = sym (early-live o early);
      })).ops;
}
seen-take_one leader L (Cancel n) h = seen-op L n with_cancel (λ o there. (canceled-alike o.place o).0)
seen-take_one leader L (Queued.Close k) h = record { users = λ k. refl; ops = λ k. refl }

-- One entry taken leaves the requests of the rest those of operations that weren't executed.
pub early-take_one : (leader : Option ℕ) (L : Ledger) (entry : Queued) (entries : List Queued) → AreEarly L.ops (entry ∷ entries) →
    AreEarly (take_one leader L entry).ops entries
early-take_one leader L (Req n) entries h =
    early-changed L.ops entries n (with_take leader) (λ o is. refl) (record { early = λ place. h.early (suc place) })
early-take_one leader L (Cancel n) entries h =
    early-changed L.ops entries n with_cancel (λ o is. ap is_early (canceled-alike o.place o).1 ∙ is)
    (record { early = λ place. h.early (suc place) })
early-take_one leader L (Queued.Close k) entries h = record { early = λ place. h.early (suc place) }

-- Entries taken, whatever the first of them follows.
seen-take_behind : (leader : Option ℕ) (L : Ledger) (entries : List Queued) → AreEarly L.ops entries →
    SameSeen L (take_behind leader L entries)
seen-take_behind leader L [] h = seen-own L
seen-take_behind leader L (entry ∷ entries) h =
    seen-then (seen-take_one leader L entry (early-first L.ops entry entries h))
    (seen-take_behind (leader_behind L entry) (take_one leader L entry) entries (early-take_one leader L entry entries h))

-- Entries taken.
pub seen-take_each : (L : Ledger) (entries : List Queued) → AreEarly L.ops entries → SameSeen L (take_each L entries)
seen-take_each L entries h = seen-take_behind None L entries h

-- The queue taken.
pub seen-take_all : (L : Ledger) → AreEarly L.ops L.queue → SameSeen L (take_all L)
seen-take_all L h = let s = seen-take_each (record L { queue = [] }) L.queue h in record { users = s.users; ops = s.ops }

-- Room made.
pub seen-make_room : (L : Ledger) → AreEarly L.ops L.queue → SameSeen L (make_room L)
seen-make_room L h = by (length L.queue == L.capacity)
  where
    by : (b : Bool) → SameSeen L (if b then take_all L else L)
    by true = seen-take_all L h
    by false = seen-own L

-- An entry pushed.
pub seen-push : (L : Ledger) (entry : Queued) → AreEarly L.ops L.queue → SameSeen L (push L entry)
seen-push L entry h = let s = seen-make_room L h in record { users = s.users; ops = s.ops }

-- The queue after room was made.
pub early-make_room : (L : Ledger) → AreEarly L.ops L.queue → AreEarly (make_room L).ops (make_room L).queue
early-make_room L h = by (length L.queue == L.capacity)
  where
    by : (b : Bool) → AreEarly (if b then take_all L else L).ops (if b then take_all L else L).queue
    by true = early-none (take_all L).ops (take_all L).queue (queue-take_each (record L { queue = [] }) L.queue)
    by false = h

-- The queue after an entry was pushed that is no request.
pub early-push : (L : Ledger) (entry : Queued) → ((n : ℕ) → entry ≡ Req n → ⊥) → AreEarly L.ops L.queue →
    AreEarly (push L entry).ops (push L entry).queue
early-push L entry other h =
    let M : Ledger = make_room L in early-append M.ops M.queue entry (early-make_room L h) (early-other M.ops entry other)

-- Closes pushed.
pub seen-push_closes : (L : Ledger) (handles : List ℕ) → AreEarly L.ops L.queue → SameSeen L (push_each L (map Queued.Close handles))
seen-push_closes L [] h = seen-own L
seen-push_closes L (k ∷ handles) h =
    seen-then (seen-push L (Queued.Close k) h)
    (seen-push_closes (push L (Queued.Close k)) handles (early-push L (Queued.Close k) (λ n e. (let f : ⊥ = cc in f)) h))
