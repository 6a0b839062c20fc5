-- What a step keeps of linked operations: one in flight waits for whom it waited, one behind a linked one in the queue stands there still,
-- or waits for that one, and nothing else waits. So it is where an operation changes, and where the queue is taken.
use Rattle.std.proofs.Common.{[], ◌≡◌, ◌≢◌, ◌⊎◌, inl, inr, ℕ, zero, suc, ◌≤◌, Bool, true, false, List, ◌∷◌}
use Rattle.std.proofs.Common.{Option, Some, None, option_map, slice_get, refl, sym, ◌∙◌, ap, subst, arith}
use Rattle.std.specs.Prelude.{if◌then◌else◌}
use Rattle.machine.specs.Lists.{passes}
use Rattle.machine.specs.Ledger.{Ledger, Operation, Place, InQueue, InFlight, InDone, Reaped, Gone, Queued, Req}
use Rattle.machine.specs.Queue.{with_op, with_take, with_cancel, canceled_at, take_one, leader_behind, take_behind, take_all}
use Rattle.run_laws.specs.Waits.{IsNext}
use Rattle.machine.proofs.Amended.{get-amended, get-amended-other, changed-cases}
use Rattle.machine.proofs.Occurring.{queued}
use Rattle.machine.proofs.Taking.{in_queue, in_flight, queue_mark, flight_mark, Listed, canceled-place, one-taken, one-canceled}
use Rattle.machine.proofs.Listed.{flight-there}
use Rattle.machine.proofs.Reaping.{AreCloses, closed-take_all}
use Rattle.machine.proofs.Lawful.{queued-there}
use Rattle.machine.proofs.Behind.{awaited, no-number, same-at}
use Rattle.machine.proofs.Following.{canceled-waits}

-- An operation in flight waits for another.
pub record Waits (L : Ledger) (n leader : ℕ) : Type 0 where
  pub flies : flight_mark (slice_get L.ops n) ≡ 1
  pub awaits : awaited (slice_get L.ops n) ≡ Some leader

-- From a ledger to another: what was in flight is, and waits for whom it waited; what stood behind a linked one does, or waits for it; and
-- nothing else waits.
pub record Keeps (L M : Ledger) : Type 0 where
  pub flight : (n : ℕ) → flight_mark (slice_get L.ops n) ≡ 1 →
      (flight_mark (slice_get M.ops n) ≡ 1) × (awaited (slice_get M.ops n) ≡ awaited (slice_get L.ops n))
  pub next : (n leader : ℕ) → IsNext L n leader → IsNext M n leader ⊎ Waits M n leader
  pub only : (n leader : ℕ) → awaited (slice_get M.ops n) ≡ Some leader →
      (awaited (slice_get L.ops n) ≡ Some leader) ⊎ IsNext L n leader

-- What stands behind a linked one in the later ledger's queue did so in the earlier one's.
abbrev pub Backs : Ledger → Ledger → Type 0
Backs L M = (n leader : ℕ) → IsNext M n leader → IsNext L n leader

-- What waits, waits still.
keeps-waits : (L M : Ledger) (n leader : ℕ) → Keeps L M → Waits L n leader → Waits M n leader
keeps-waits L M n leader k w = (let f = k.flight n w.flies in record { flies = f.0; awaits = f.1 ∙ w.awaits })

-- What stands behind a linked one does so in a ledger whose queue and operations are the same.
pub backs-same : (L M : Ledger) → L.queue ≡ M.queue → L.ops ≡ M.ops → Backs L M
backs-same L M queue ops n leader x = record {
  place = x.place;
  ahead = ap (λ q. slice_get q x.place) queue ∙ x.ahead;
  next = ap (λ q. slice_get q (suc x.place)) queue ∙ x.next;
  linked = ap (λ os. passes (λ (o : Operation). o.linked) (slice_get os leader)) ops ∙ x.linked;
}

-- Ledgers whose queue and operations are the same.
pub keeps-same : (L M : Ledger) → M.queue ≡ L.queue → M.ops ≡ L.ops → Keeps L M
keeps-same L M queue ops = record {
  flight = λ n f. (ap (λ os. flight_mark (slice_get os n)) ops ∙ f, ap (λ os. awaited (slice_get os n)) ops);
  next = λ n leader x. inl (backs-same M L queue ops n leader x);
  only = λ n leader w. inl (sym (ap (λ os. awaited (slice_get os n)) ops) ∙ w);
}

-- What is kept twice is kept.
pub keeps-then : (L M N : Ledger) → Backs L M → Keeps L M → Keeps M N → Keeps L N
keeps-then L M N back a b = record {
  flight = λ n f. (let p = a.flight n f in let q = b.flight n p.0 in (q.0, q.1 ∙ p.1));
  next = λ n leader x. elim (a.next n leader x) [
    | inl y ↦ b.next n leader y
    | inr w ↦ inr (keeps-waits M N n leader b w)
  ];
  only = λ n leader w. elim (b.only n leader w) [
    | inl v ↦ a.only n leader v
    | inr x ↦ inr (back n leader x)
  ];
}

-- What a change leaves of an operation.
pub record Leaves (old new : Operation) : Type 0 where
  pub waits : new.waits_for ≡ old.waits_for
  pub flies : in_flight new.place ≡ in_flight old.place
  pub linked : new.linked ≡ old.linked

-- Such a change of an operation.
pub keeps-op : (L : Ledger) (m : ℕ) (change : Operation → Operation) →
    ((o : Operation) → slice_get L.ops m ≡ Some o → Leaves o (change o)) → Keeps L (with_op L m change)
keeps-op L m change leaves = record {
  flight = λ n f. (
    same-at flight_mark L.ops m change (λ o there. (leaves o there).flies) n ∙ f,
    same-at awaited L.ops m change (λ o there. (leaves o there).waits) n,
  );
  next = λ n leader x. inl (record {
    place = x.place;
    ahead = x.ahead;
    next = x.next;
    linked = same-at (passes (λ (o : Operation). o.linked)) L.ops m change (λ o there. (leaves o there).linked) leader ∙ x.linked;
  });
  only = λ n leader w. inl (sym (same-at awaited L.ops m change (λ o there. (leaves o there).waits) n) ∙ w);
}

-- It is none the less where it was.
pub backs-op : (L : Ledger) (m : ℕ) (change : Operation → Operation) →
    ((o : Operation) → slice_get L.ops m ≡ Some o → Leaves o (change o)) → Backs L (with_op L m change)
backs-op L m change leaves n leader x = record {
  place = x.place;
  ahead = x.ahead;
  next = x.next;
  linked = sym (same-at (passes (λ (o : Operation). o.linked)) L.ops m change (λ o there. (leaves o there).linked) leader) ∙ x.linked;
}

-- What is in flight doesn't stand in the queue.
flies-unqueued : (x : Option Operation) → flight_mark x ≡ 1 → queue_mark x ≡ 0
flies-unqueued x f = (let t = flight-there x (omega (arith, f)) in ap queue_mark t.1 ∙ ap in_queue t.2)

-- A number is in a list of entries that starts with its request.
first-queued : (m : ℕ) (entries : List Queued) → 1 ≤ queued m (Req m ∷ entries)
first-queued m entries = queued-there m (Req m ∷ entries) 0 refl

-- The first request of entries that are the queue isn't in flight.
first-other : (L : Ledger) (m n : ℕ) (entries : List Queued) →
    ((k : ℕ) → queued k (Req m ∷ entries) ≡ queue_mark (slice_get L.ops k)) → flight_mark (slice_get L.ops n) ≡ 1 → n ≢ m
first-other L m n entries fits f e =
    let q = fits m in
    let some = first-queued m entries in
    let flies : flight_mark (slice_get L.ops m) ≡ 1 = ap (λ k. flight_mark (slice_get L.ops k)) (sym e) ∙ f in
    let z : queue_mark (slice_get L.ops m) ≡ 0 = flies-unqueued (slice_get L.ops m) flies in
    omega (arith, q, z, some)

-- A cancel that is taken leaves the rest of an operation.
canceled-leaves : (p : Place) (o : Operation) → Leaves o (canceled_at p o)
canceled-leaves p o = record { waits = canceled-waits p o; flies = ap in_flight (canceled-place p o); linked = by p }
  where
    by : (p : Place) → (canceled_at p o).linked ≡ o.linked
    by InQueue = refl
    by InFlight = refl
    by (InDone outcome) = refl
    by (Reaped outcome) = refl
    by Gone = refl

-- What is in flight is kept as entries that are the queue are taken.
taken-flight : (leader : Option ℕ) (L : Ledger) (entries : List Queued) →
    ((k : ℕ) → queued k entries ≡ queue_mark (slice_get L.ops k)) → (n : ℕ) → flight_mark (slice_get L.ops n) ≡ 1 →
    (flight_mark (slice_get (take_behind leader L entries).ops n) ≡ 1)
    × (awaited (slice_get (take_behind leader L entries).ops n) ≡ awaited (slice_get L.ops n))
taken-flight leader L [] fits n f = (f, refl)
taken-flight leader L (Req m ∷ entries) fits n f =
    let M : Ledger = take_one leader L (Req m) in
    let at : slice_get M.ops n ≡ slice_get L.ops n =
    get-amended-other (with_take leader) L.ops m n (first-other L m n entries fits f) in
    let r = taken-flight (leader_behind L (Req m)) M entries (λ k. (one-taken leader L.ops m entries fits k None).1) n
    (ap flight_mark at ∙ f) in
    (r.0, r.1 ∙ ap awaited at)
taken-flight leader L (Queued.Cancel m ∷ entries) fits n f =
    let M : Ledger = take_one leader L (Queued.Cancel m) in
    let k = (keeps-op L m with_cancel (λ o there. canceled-leaves o.place o)).flight n f in
    let r = taken-flight None M entries (λ j. fits j ∙ sym (one-canceled L.ops m j None).1) n k.0 in
    (r.0, r.1 ∙ k.1)
taken-flight leader L (Queued.Close h ∷ entries) fits n f = taken-flight None (take_one leader L (Queued.Close h)) entries fits n f

-- What stands in the queue is an operation.
queue-some : (x : Option Operation) → 1 ≤ queue_mark x → (o : Operation) × (x ≡ Some o)
queue-some None h = absurd (omega (arith, h))
queue-some (Some o) h = (o, refl)

-- What is taken from the front behind a leader waits for it, in flight.
first-waits : (leader : ℕ) (L : Ledger) (n : ℕ) (entries : List Queued) →
    ((k : ℕ) → queued k (Req n ∷ entries) ≡ queue_mark (slice_get L.ops k)) → Waits (take_behind (Some leader) L (Req n ∷ entries)) n leader
first-waits leader L n entries fits =
    let M : Ledger = take_one (Some leader) L (Req n) in
    let o = queue-some (slice_get L.ops n) (let q = fits n in let some = first-queued n entries in omega (arith, q, some)) in
    let at : slice_get M.ops n ≡ Some (with_take (Some leader) o.0) =
    get-amended (with_take (Some leader)) L.ops n ∙ ap (option_map (with_take (Some leader))) o.1 in
    let r = taken-flight (leader_behind L (Req n)) M entries (λ k. (one-taken (Some leader) L.ops n entries fits k None).1) n
    (ap flight_mark at) in
    record { flies = r.0; awaits = r.1 ∙ ap awaited at }

-- Whether an operation is linked stays as an entry is taken.
taken-linked : (leader : Option ℕ) (L : Ledger) (entry : Queued) (k : ℕ) →
    passes (λ (o : Operation). o.linked) (slice_get (take_one leader L entry).ops k)
    ≡ passes (λ (o : Operation). o.linked) (slice_get L.ops k)
taken-linked leader L (Req m) k = same-at (passes (λ (o : Operation). o.linked)) L.ops m (with_take leader) (λ o there. refl) k
taken-linked leader L (Queued.Cancel m) k =
    same-at (passes (λ (o : Operation). o.linked)) L.ops m with_cancel (λ o there. (canceled-leaves o.place o).linked) k
taken-linked leader L (Queued.Close h) k = refl

-- Of entries that are the queue, what stands directly behind a linked one waits for it once they are taken.
taken-next : (first : Option ℕ) (L : Ledger) (entries : List Queued) →
    ((k : ℕ) → queued k entries ≡ queue_mark (slice_get L.ops k)) → (place n leader : ℕ) →
    slice_get entries place ≡ Some (Req leader) → slice_get entries (suc place) ≡ Some (Req n) →
    passes (λ (o : Operation). o.linked) (slice_get L.ops leader) ≡ true → Waits (take_behind first L entries) n leader
taken-next first L [] fits place n leader ahead next linked = (let f : ⊥ = cc in absurd f)
taken-next first L (entry ∷ []) fits zero n leader ahead next linked = (let f : ⊥ = cc in absurd f)
taken-next first L (entry ∷ second ∷ entries) fits zero n leader ahead next linked =
    let a : entry ≡ Req leader = cc in
    let b : second ≡ Req n = cc in
    let fits' : (k : ℕ) → queued k (Req leader ∷ Req n ∷ entries) ≡ queue_mark (slice_get L.ops k) =
    subst (λ x. (k : ℕ) → queued k (Req leader ∷ x ∷ entries) ≡ queue_mark (slice_get L.ops k)) b
    (subst (λ x. (k : ℕ) → queued k (x ∷ second ∷ entries) ≡ queue_mark (slice_get L.ops k)) a fits) in
    let M : Ledger = take_one first L (Req leader) in
    let w : Waits (take_behind (Some leader) M (Req n ∷ entries)) n leader =
    first-waits leader M n entries (λ k. (one-taken first L.ops leader (Req n ∷ entries) fits' k None).1) in
    let behind : leader_behind L (Req leader) ≡ Some leader = ap (λ b. if b then Some leader else None) linked in
    subst (λ x. Waits (take_behind first L (x ∷ second ∷ entries)) n leader) (sym a)
    (subst (λ x. Waits (take_behind first L (Req leader ∷ x ∷ entries)) n leader) (sym b)
    (subst (λ x. Waits (take_behind x M (Req n ∷ entries)) n leader) (sym behind) w))
taken-next first L (Req m ∷ entries) fits (suc place) n leader ahead next linked =
    taken-next (leader_behind L (Req m)) (take_one first L (Req m)) entries (λ k. (one-taken first L.ops m entries fits k None).1) place n
    leader ahead next (taken-linked first L (Req m) leader ∙ linked)
taken-next first L (Queued.Cancel m ∷ entries) fits (suc place) n leader ahead next linked =
    taken-next None (take_one first L (Queued.Cancel m)) entries (λ k. fits k ∙ sym (one-canceled L.ops m k None).1) place n leader ahead
    next (taken-linked first L (Queued.Cancel m) leader ∙ linked)
taken-next first L (Queued.Close h ∷ entries) fits (suc place) n leader ahead next linked =
    taken-next None (take_one first L (Queued.Close h)) entries fits place n leader ahead next linked

-- Among entries the request of an operation stands directly behind that of a linked one.
record IsBehind (L : Ledger) (entries : List Queued) (n leader : ℕ) : Type 0 where
  place : ℕ
  ahead : slice_get entries place ≡ Some (Req leader)
  next : slice_get entries (suc place) ≡ Some (Req n)
  linked : passes (λ (o : Operation). o.linked) (slice_get L.ops leader) ≡ true

-- Why an operation waits for another once entries are taken behind a first leader, or behind none: it did, or it is the first of them,
-- or it stands directly behind that one among them.
abbrev Why : Option ℕ → Ledger → List Queued → ℕ → ℕ → Type 0
Why first L entries n leader =
    (awaited (slice_get L.ops n) ≡ Some leader)
    ⊎ (((first ≡ Some leader) × (slice_get entries 0 ≡ Some (Req n))) ⊎ IsBehind L entries n leader)

-- The leader behind a request is its operation, which is linked.
leader-linked : (linked : Bool) (m leader : ℕ) → (if linked then Some m else None) ≡ Some leader → (m ≡ leader) × (linked ≡ true)
leader-linked true m leader is = (let e : m ≡ leader = cc in e, refl)
leader-linked false m leader is = no-number leader None refl is

-- What was taken behind a leader, or behind none, waits so.
take-waits : (first : Option ℕ) (x : Option Operation) → (x ≡ None) ⊎ (awaited (option_map (with_take first) x) ≡ first)
take-waits first None = inl refl
take-waits first (Some o) = inr refl

-- The same of one more entry before them, which changes no link.
why-more : (first : Option ℕ) (L : Ledger) (entry : Queued) (entries : List Queued) (n leader : ℕ) →
    (awaited (slice_get (take_one first L entry).ops n) ≡ Some leader → Why first L (entry ∷ entries) n leader) →
    (leader_behind L entry ≡ Some leader → slice_get entries 0 ≡ Some (Req n) → Why first L (entry ∷ entries) n leader) →
    Why (leader_behind L entry) (take_one first L entry) entries n leader → Why first L (entry ∷ entries) n leader
why-more first L entry entries n leader before front (inl w) = before w
why-more first L entry entries n leader before front (inr (inl f)) = front f.0 f.1
why-more first L entry entries n leader before front (inr (inr b)) = inr (inr (record {
  place = suc b.place;
  ahead = b.ahead;
  next = b.next;
  linked = sym (taken-linked first L entry leader) ∙ b.linked;
}))

-- Once entries are taken, what waits does so for one of these reasons.
taken-only : (first : Option ℕ) (L : Ledger) (entries : List Queued) (n leader : ℕ) →
    awaited (slice_get (take_behind first L entries).ops n) ≡ Some leader → Why first L entries n leader
taken-only first L [] n leader w = inl w
taken-only first L (Req m ∷ entries) n leader w =
    why-more first L (Req m) entries n leader
    (λ v. elim (changed-cases (with_take first) L.ops m n) [
      | inl e ↦ inr (inl (
        (elim (take-waits first (slice_get L.ops m)) [
          | inl t ↦ no-number leader None refl (sym (ap (λ o. awaited (option_map (with_take first) o)) t) ∙ sym (ap awaited e.1) ∙ v)
          | inr t ↦ sym t ∙ sym (ap awaited e.1) ∙ v
        ]),
        ap (λ k. Some (Req k)) (sym e.0),
      ))
      | inr e ↦ inl (sym (ap awaited e.1) ∙ v)
    ])
    (λ is there. (
    let l = leader-linked (passes (λ (o : Operation). o.linked) (slice_get L.ops m)) m leader is in
    inr (inr (record {
      place = 0;
      ahead = ap (λ k. Some (Req k)) l.0;
      next = there;
      linked = ap (λ k. passes (λ (o : Operation). o.linked) (slice_get L.ops k)) (sym l.0) ∙ l.1;
    }))))
    (taken-only (leader_behind L (Req m)) (take_one first L (Req m)) entries n leader w)
taken-only first L (Queued.Cancel m ∷ entries) n leader w =
    why-more first L (Queued.Cancel m) entries n leader
    (λ v. inl (sym (same-at awaited L.ops m with_cancel (λ o there. (canceled-leaves o.place o).waits) n) ∙ v))
    (λ is there. no-number leader None refl is)
    (taken-only None (take_one first L (Queued.Cancel m)) entries n leader w)
taken-only first L (Queued.Close h ∷ entries) n leader w =
    why-more first L (Queued.Close h) entries n leader (λ v. inl v) (λ is there. no-number leader None refl is)
    (taken-only None (take_one first L (Queued.Close h)) entries n leader w)

-- The same of the queue.
queue-only : (L : Ledger) (n leader : ℕ) → Why None (record L { queue = [] }) L.queue n leader →
    (awaited (slice_get L.ops n) ≡ Some leader) ⊎ IsNext L n leader
queue-only L n leader (inl w) = inl w
queue-only L n leader (inr (inl f)) = no-number leader None refl f.0
queue-only L n leader (inr (inr b)) = inr (record { place = b.place; ahead = b.ahead; next = b.next; linked = b.linked })

-- Among closes there is no request.
pub closes-unrequested : (entries : List Queued) (place n : ℕ) → AreCloses entries → slice_get entries place ≡ Some (Req n) → ⊥
closes-unrequested [] place n c there = (let f : ⊥ = cc in f)
closes-unrequested (Req m ∷ entries) place n c there = c
closes-unrequested (Queued.Cancel m ∷ entries) place n c there = c
closes-unrequested (Queued.Close h ∷ entries) zero n c there = (let f : ⊥ = cc in f)
closes-unrequested (Queued.Close h ∷ entries) (suc place) n c there = closes-unrequested entries place n c there

-- In a taken queue nothing stands.
pub backs-take_all : (L : Ledger) → Backs L (take_all L)
backs-take_all L n leader x = absurd (closes-unrequested (take_all L).queue x.place leader (closed-take_all L) x.ahead)

-- The queue is taken.
pub keeps-take_all : (L : Ledger) → Listed L → Keeps L (take_all L)
keeps-take_all L l = record {
  flight = λ n f. taken-flight None (record L { queue = [] }) L.queue l.waiting n f;
  next = λ n leader x. inr (taken-next None (record L { queue = [] }) L.queue l.waiting x.place n leader x.ahead x.next x.linked);
  only = λ n leader w. queue-only L n leader (taken-only None (record L { queue = [] }) L.queue n leader w);
}
