-- The lists hold what the places say after each event too, and which operations an event changes.
use Rattle.std.proofs.Common.{◌≡◌, ◌⊎◌, inl, inr, ℕ, ◌+◌, ◌<◌, ◌≤◌, Bool, true, false, List, [], ◌∷◌, ◌++◌, length, map, remove, Option}
use Rattle.std.proofs.Common.{Some, None, option_map, slice_get, refl, sym, ◌∙◌, ap, subst, arith, if◌then◌else◌, ◌==◌}
use Rattle.std.proofs.lemmas.Option.{slice_get_past}
use Rattle.rent_buf.specs.Buffer.{Buffer}
use Rattle.rent_buf.specs.Parts.{Parts}
use Rattle.machine.specs.declared.request.Request.{Request}
use Rattle.machine.specs.declared.request.Outcome.{Outcome}
use Rattle.machine.specs.declared.world.HandleState.{HandleState}
use Rattle.machine.specs.Lists.{amended, passes}
use Rattle.machine.specs.Ledger.{Ledger, Operation, Owner, Place, InQueue, InFlight, InDone, Reaped, Gone, Queued, Req, Cancel, Item, Op}
use Rattle.machine.specs.Ledger.{new_operation}
use Rattle.machine.specs.Queue.{with_op, with_take, with_cancel, take_one, leader_behind, take_behind, take_each, take_all, make_room}
use Rattle.machine.specs.Queue.{append, push, push_each}
use Rattle.machine.specs.Turn.{complete_at}
use Rattle.machine.specs.Step.{with_new_op, submit_step}
use Rattle.machine.proofs.Amended.{get-amended-other, get-amended, amended-append, amended-append-fixed, changed-cases, joined-cases}
use Rattle.machine.proofs.Numbers.{below-or-not}
use Rattle.machine.proofs.Appended.{get-append-within}
use Rattle.machine.proofs.Taken.{length-make_room}
use Rattle.machine.proofs.Occurring.{same-cases, same, queued, listed, queued-append, listed-append, listed-remove}
use Rattle.machine.proofs.Taking.{in_queue, in_flight, in_done, queue_mark, flight_mark, done_mark, Listed, taken_place, with_taking}
use Rattle.machine.proofs.Taking.{Took, take_all-ops}
use Rattle.machine.proofs.Taking.{listed-take_all, one-taken, one-canceled}

-- An operation whose request stands in the queue was given.
known : (ops : List Operation) (m : ℕ) (entries : List Queued) → ((n : ℕ) → queued n (Req m ∷ entries) ≡ queue_mark (slice_get ops n)) →
    m < length ops
known ops m entries fits = elim (same-cases m m) [
  | inr e ↦ absurd (e.0 refl)
  | inl e ↦ elim (below-or-not m (length ops)) [
    | inl lt ↦ lt
    | inr past ↦ absurd (let f : same m m + queued m entries ≡ 0 = fits m ∙ ap queue_mark (slice_get_past ops m past) in let z = e.1 in
        omega arith)
  ]
]

-- A linked operation is linked beside a new one too.
leader-new_op : (L : Ledger) (o : Operation) (m : ℕ) → m < length L.ops → leader_behind (with_new_op L o) (Req m) ≡ leader_behind L (Req m)
leader-new_op L o m within =
    ap (λ x. if passes (λ (operation : Operation). operation.linked) x then Some m else None) (get-append-within L.ops o m within)

-- Taking before a new operation is appended, or after it, is the same, whatever the first entry follows: no cancel is recorded of what
-- isn't in flight.
take-new_op_behind : (leader : Option ℕ) (L : Ledger) (o : Operation) (entries : List Queued) → with_cancel o ≡ o →
    ((n : ℕ) → queued n entries ≡ queue_mark (slice_get L.ops n)) →
    take_behind leader (with_new_op L o) entries ≡ with_new_op (take_behind leader L entries) o
take-new_op_behind leader L o [] still h = refl
take-new_op_behind leader L o (Req m ∷ entries) still h =
    let within = known L.ops m entries h in
    let next = leader_behind L (Req m) in
    ap (λ x. take_behind x (take_one leader (with_new_op L o) (Req m)) entries) (leader-new_op L o m within)
    ∙ ap (λ ops. take_behind next (record (take_one leader L (Req m)) { ops = ops }) entries)
    (amended-append L.ops (o ∷ []) m (with_take leader) within)
    ∙ take-new_op_behind next (take_one leader L (Req m)) o entries still (λ n. (one-taken leader L.ops m entries h n None).1)
take-new_op_behind leader L o (Cancel m ∷ entries) still h =
    ap (λ ops. take_behind None (record (take_one leader L (Cancel m)) { ops = ops }) entries)
    (amended-append-fixed L.ops o m with_cancel still)
    ∙ take-new_op_behind None (take_one leader L (Cancel m)) o entries still (λ n. h n ∙ sym (one-canceled L.ops m n None).1)
take-new_op_behind leader L o (Queued.Close m ∷ entries) still h =
    take-new_op_behind None (take_one leader L (Queued.Close m)) o entries still h

-- Taking at once, before a new operation is appended or after it.
pub take-new_op : (L : Ledger) (o : Operation) (entries : List Queued) → with_cancel o ≡ o →
    ((n : ℕ) → queued n entries ≡ queue_mark (slice_get L.ops n)) →
    take_each (with_new_op L o) entries ≡ with_new_op (take_each L entries) o
take-new_op L o entries still h = take-new_op_behind None L o entries still h

-- A new operation and its request join the ledger.
abbrev pub joined : Ledger → Operation → Ledger
joined M o = append (with_new_op M o) (Req (length M.ops))

-- Making room before a new operation is appended, or after it, is the same.
room-new_op : (b : Bool) (L : Ledger) (o : Operation) → with_cancel o ≡ o → Listed L →
    (if b then take_all (with_new_op L o) else with_new_op L o) ≡ with_new_op (if b then take_all L else L) o
room-new_op true L o still h = take-new_op (record L { queue = [] }) o L.queue still h.waiting
room-new_op false L o still h = refl

-- Submitting makes room, then joins the operation and its request.
pub submit-joined : (L : Ledger) (request : Request Buffer Parts) (group : Option ℕ) (linked : Bool) → Listed L →
    submit_step L request group linked ≡ joined (make_room L) (new_operation request group linked)
submit-joined L request group linked h =
    let o : Operation = new_operation request group linked in
    ap (λ M. append M (Req (length L.ops))) (room-new_op (length L.queue == L.capacity) L o refl h)
    ∙ ap (λ n. append (with_new_op (make_room L) o) (Req n)) (sym (length-make_room L))

-- An operation stayed as it was, or was taken.
abbrev pub MayTake : Option Operation → Option Operation → Type 0
MayTake old new = (new ≡ old) ⊎ Took old new

-- What is taken twice is in flight as it was.
taken-twice : (p : Place) → taken_place (taken_place p) ≡ taken_place p
taken-twice InQueue = refl
taken-twice InFlight = refl
taken-twice (InDone outcome) = refl
taken-twice (Reaped outcome) = refl
taken-twice Gone = refl

-- Taking an operation that was taken is taking it.
with_taking-twice : (first second : Bool) (a b : Option ℕ) (x : Option Operation) →
    option_map (with_taking second b) (option_map (with_taking first a) x) ≡ option_map (with_taking second b) x
with_taking-twice first second a b None = refl
with_taking-twice first second a b (Some o) =
    ap (λ p. Some (record o { waits_for = b; canceled = second; place = p })) (taken-twice o.place)

-- Two takings are one.
took-then : (x y z : Option Operation) → Took x y → Took y z → Took x z
took-then x y z a b = record {
  canceled = b.canceled;
  waits_for = b.waits_for;
  is = b.is ∙ ap (option_map (with_taking b.canceled b.waits_for)) a.is
      ∙ with_taking-twice a.canceled b.canceled a.waits_for b.waits_for x;
}

-- The same of what may be taken.
may_take-then : (x y z : Option Operation) → MayTake x y → MayTake y z → MayTake x z
may_take-then x y z (inl a) (inl b) = inl (b ∙ a)
may_take-then x y z (inl a) (inr b) = inr (subst (λ w. Took w z) a b)
may_take-then x y z (inr a) (inl b) = inr (subst (λ w. Took x w) (sym b) a)
may_take-then x y z (inr a) (inr b) = inr (took-then x y z a b)

-- Room that is made, or not, leaves an operation, or takes it.
room-ops : (b : Bool) (L : Ledger) → Listed L → (n : ℕ) → MayTake (slice_get L.ops n) (slice_get (if b then take_all L else L).ops n)
room-ops true L h n = inr (take_all-ops L h n)
room-ops false L h n = inl refl

-- Making room leaves an operation, or takes it.
pub make_room-ops : (L : Ledger) → Listed L → (n : ℕ) → MayTake (slice_get L.ops n) (slice_get (make_room L).ops n)
make_room-ops L h n = room-ops (length L.queue == L.capacity) L h n

-- The lists hold what the places say after room was made.
listed-room : (b : Bool) (L : Ledger) → Listed L → Listed (if b then take_all L else L)
listed-room true L h = listed-take_all L h
listed-room false L h = h

-- The lists hold what the places say after room was made.
pub listed-make_room : (L : Ledger) → Listed L → Listed (make_room L)
listed-make_room L h = listed-room (length L.queue == L.capacity) L h

-- The lists hold what the places say after what is no request joined the queue.
listed-appended : (M : Ledger) (entry : Queued) → ((n : ℕ) → queued n (entry ∷ []) ≡ 0) → Listed M → Listed (append M entry)
listed-appended M entry none h = record {
  waiting = λ n. (let a = queued-append n M.queue (entry ∷ []) in let w = h.waiting n in let z = none n in omega (arith, a, w, z));
  flown = h.flown;
  standing = h.standing;
}

-- The lists hold what the places say after a cancel was pushed.
pub listed-push_cancel : (L : Ledger) (n : ℕ) → Listed L → Listed (push L (Cancel n))
listed-push_cancel L n h = listed-appended (make_room L) (Cancel n) (λ k. refl) (listed-make_room L h)

-- So they do after the close of a handle was pushed.
pub listed-push_close : (L : Ledger) (k : ℕ) → Listed L → Listed (push L (Queued.Close k))
listed-push_close L k h = listed-appended (make_room L) (Queued.Close k) (λ n. refl) (listed-make_room L h)

-- And after closes were.
pub listed-push_closes : (L : Ledger) (handles : List ℕ) → Listed L → Listed (push_each L (map Queued.Close handles))
listed-push_closes L [] h = h
listed-push_closes L (k ∷ handles) h = listed-push_closes (push L (Queued.Close k)) handles (listed-push_close L k h)

-- Pushing closes leaves an operation, or takes it.
pub push_closes-ops : (L : Ledger) (handles : List ℕ) → Listed L → (n : ℕ) →
    MayTake (slice_get L.ops n) (slice_get (push_each L (map Queued.Close handles)).ops n)
push_closes-ops L [] h n = inl refl
push_closes-ops L (k ∷ handles) h n =
    let M : Ledger = push L (Queued.Close k) in
    may_take-then (slice_get L.ops n) (slice_get M.ops n) (slice_get (push_each M (map Queued.Close handles)).ops n) (make_room-ops L h n)
    (push_closes-ops M handles (listed-push_close L k h) n)

-- A number that wasn't given stands in no list; a new operation stands in the queue alone.
listed-joined-at : (M : Ledger) (o : Operation) → o.place ≡ InQueue → Listed M → (n : ℕ) →
    (queued n (joined M o).queue ≡ queue_mark (slice_get (joined M o).ops n))
    × (listed n M.flying ≡ flight_mark (slice_get (joined M o).ops n)) × (listed n M.done ≡ done_mark (slice_get (joined M o).ops n))
listed-joined-at M o p h n =
    let q = queued-append n M.queue (Req (length M.ops) ∷ []) in
    elim (joined-cases M.ops o n) [
      | inl e ↦ elim (same-cases n (length M.ops)) [
        | inr z ↦ absurd (z.0 e.0)
        | inl z ↦ (
          (let s = z.1 in let w : queued n M.queue ≡ 0 = h.waiting n ∙ ap queue_mark e.1 in
              let t : queue_mark (slice_get (joined M o).ops n) ≡ 1 = ap queue_mark e.2 ∙ ap in_queue p in omega arith),
          h.flown n ∙ ap flight_mark e.1 ∙ sym (ap flight_mark e.2 ∙ ap in_flight p),
          h.standing n ∙ ap done_mark e.1 ∙ sym (ap done_mark e.2 ∙ ap in_done p),
        )
      ]
      | inr e ↦ elim (same-cases n (length M.ops)) [
        | inl z ↦ absurd (e.0 z.0)
        | inr z ↦ (
          (let s = z.1 in let w : queued n M.queue ≡ queue_mark (slice_get (joined M o).ops n) = h.waiting n ∙ sym (ap queue_mark e.1) in
              omega arith),
          h.flown n ∙ sym (ap flight_mark e.1),
          h.standing n ∙ sym (ap done_mark e.1),
        )
      ]
    ]

-- The lists hold what the places say after a new operation joined.
pub listed-joined : (M : Ledger) (o : Operation) → o.place ≡ InQueue → Listed M → Listed (joined M o)
listed-joined M o p h = record {
  waiting = λ n. (listed-joined-at M o p h n).0;
  flown = λ n. (listed-joined-at M o p h n).1;
  standing = λ n. (listed-joined-at M o p h n).2;
}

-- Two places of which no list tells a difference.
pub record SameMarks (p q : Place) : Type 0 where
  pub queue : in_queue p ≡ in_queue q
  pub flight : in_flight p ≡ in_flight q
  pub done : in_done p ≡ in_done q

-- A mark that the change of one operation leaves is left everywhere.
changed-mark : (mark : Option Operation → ℕ) (ops : List Operation) (n : ℕ) (change : Operation → Operation) (o : Operation) →
    slice_get ops n ≡ Some o → mark (Some (change o)) ≡ mark (Some o) → (k : ℕ) →
    mark (slice_get (amended ops n change) k) ≡ mark (slice_get ops k)
changed-mark mark ops n change o there m k = elim (changed-cases change ops n k) [
  | inl e ↦ ap mark (e.1 ∙ ap (option_map change) there) ∙ m ∙ sym (ap mark (ap (slice_get ops) e.0 ∙ there))
  | inr e ↦ ap mark e.1
]

-- The lists hold what the places say after a change that leaves the marks.
pub listed-changed : (L : Ledger) (n : ℕ) (change : Operation → Operation) (o : Operation) → Listed L → slice_get L.ops n ≡ Some o →
    SameMarks (change o).place o.place → Listed (with_op L n change)
listed-changed L n change o h there m = record {
  waiting = λ k. h.waiting k ∙ sym (changed-mark queue_mark L.ops n change o there m.queue k);
  flown = λ k. h.flown k ∙ sym (changed-mark flight_mark L.ops n change o there m.flight k);
  standing = λ k. h.standing k ∙ sym (changed-mark done_mark L.ops n change o there m.done k);
}

-- What has the mark of flight is in flight.
pub flight-place : (p : Place) → 1 ≤ in_flight p → p ≡ InFlight
flight-place InQueue h = absurd (omega (arith, h))
flight-place InFlight h = refl
flight-place (InDone outcome) h = absurd (omega (arith, h))
flight-place (Reaped outcome) h = absurd (omega (arith, h))
flight-place Gone h = absurd (omega (arith, h))

-- What counts as in flight is an operation in flight.
pub flight-there : (x : Option Operation) → 1 ≤ flight_mark x → (o : Operation) × (x ≡ Some o) × (o.place ≡ InFlight)
flight-there None h = absurd (omega (arith, h))
flight-there (Some o) h = (o, refl, flight-place o.place h)

-- What stands in flight is the operation of its number, and is in flight.
pub flying-there : (L : Ledger) (place m : ℕ) → Listed L → slice_get L.flying place ≡ Some (Op m) → (o : Operation)
    × (slice_get L.ops m ≡ Some o) × (o.place ≡ InFlight)
flying-there L place m h item = flight-there (slice_get L.ops m) (elim (same-cases m m) [
  | inr e ↦ absurd (e.0 refl)
  | inl e ↦ (let z = e.1 in let a = listed-remove m L.flying place (Op m) item in let b = h.flown m in omega arith)
])

-- The item at a place moved to the end of `done`, with its operation's outcome.
module _ (L : Ledger) (place m : ℕ) (o : Operation) (result : Operation → Operation) (outcome : Outcome)
    (h : Listed L) (item : slice_get L.flying place ≡ Some (Op m)) (there : slice_get L.ops m ≡ Some o) (flies : o.place ≡ InFlight)
    (ends : (result o).place ≡ InDone outcome) where
  -- By number: what each list holds, and the mark of the operation.
  executed-at : (k : ℕ) → (queued k L.queue ≡ queue_mark (slice_get (amended L.ops m result) k))
      × (listed k (remove L.flying place) ≡ flight_mark (slice_get (amended L.ops m result) k))
      × (listed k (L.done ++ Op m ∷ []) ≡ done_mark (slice_get (amended L.ops m result) k))
  executed-at k =
      let r = listed-remove k L.flying place (Op m) item in
      let d = listed-append k L.done (Op m ∷ []) in
      let w = h.waiting k in
      let f = h.flown k in
      let s = h.standing k in
      elim (same-cases k m) [
        | inl e ↦ (
            let old : slice_get L.ops k ≡ Some o = ap (slice_get L.ops) e.0 ∙ there in
            let new : slice_get (amended L.ops m result) k ≡ Some (result o) = ap (slice_get (amended L.ops m result)) e.0
            ∙ get-amended result L.ops m ∙ ap (option_map result) there in
            let one = e.1 in
            let w0 : queue_mark (slice_get L.ops k) ≡ 0 = ap queue_mark old ∙ ap in_queue flies in
            let f1 : flight_mark (slice_get L.ops k) ≡ 1 = ap flight_mark old ∙ ap in_flight flies in
            let s0 : done_mark (slice_get L.ops k) ≡ 0 = ap done_mark old ∙ ap in_done flies in
            let w' : queue_mark (slice_get (amended L.ops m result) k) ≡ 0 = ap queue_mark new ∙ ap in_queue ends in
            let f' : flight_mark (slice_get (amended L.ops m result) k) ≡ 0 = ap flight_mark new ∙ ap in_flight ends in
            let s' : done_mark (slice_get (amended L.ops m result) k) ≡ 1 = ap done_mark new ∙ ap in_done ends in
            (omega arith, omega arith, omega arith))
        | inr e ↦ (
            let new : slice_get (amended L.ops m result) k ≡ slice_get L.ops k = get-amended-other result L.ops m k e.0 in
            let none = e.1 in
            let w' : queue_mark (slice_get (amended L.ops m result) k) ≡ queue_mark (slice_get L.ops k) = ap queue_mark new in
            let f' : flight_mark (slice_get (amended L.ops m result) k) ≡ flight_mark (slice_get L.ops k) = ap flight_mark new in
            let s' : done_mark (slice_get (amended L.ops m result) k) ≡ done_mark (slice_get L.ops k) = ap done_mark new in
            (omega arith, omega arith, omega arith))
      ]

  -- The lists hold what the places say after an execution.
  pub listed-executed : (world : List HandleState) (owners : List Owner) →
      Listed (record L {
        flying = remove L.flying place;
        done = L.done ++ Op m ∷ [];
        ops = amended L.ops m result;
        world = world;
        owners = owners;
      })
  listed-executed world owners = record {
    waiting = λ k. (executed-at k).0;
    flown = λ k. (executed-at k).1;
    standing = λ k. (executed-at k).2;
  }

-- The close at a place moved to the end of `done`.
pub listed-closed : (L : Ledger) (place k : ℕ) → Listed L → slice_get L.flying place ≡ Some (Item.Close k) →
    Listed (complete_at L place (Item.Close k))
listed-closed L place k h item = record {
  waiting = h.waiting;
  flown = λ n. (let r = listed-remove n L.flying place (Item.Close k) item in let f = h.flown n in omega (arith, r, f));
  standing = λ n. (let a = listed-append n L.done (Item.Close k ∷ []) in let s = h.standing n in omega (arith, a, s));
}
