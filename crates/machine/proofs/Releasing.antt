-- What becomes of those that wait for an operation that was executed: they stay in the list of their place, and hold what they held.
use Rattle.std.proofs.Common.{◌≡◌, ◌≢◌, ◌⊎◌, inl, inr, ℕ, ◌+◌, ◌≤◌, Bool, true, false, cond, not, List, [], ◌∷◌, ◌++◌, length, map}
use Rattle.std.proofs.Common.{Option, Some, None, option_map, slice_get, refl, sym, ◌∙◌, ap, subst, arith}
use Rattle.std.specs.Prelude.{filter, if◌then◌else◌, ◌==◌}
use Rattle.std.proofs.lemmas.List.{length-map}
use Rattle.std.proofs.lemmas.Bool.Decides.{eqb_tells}
use Rattle.machine.specs.declared.request.Told.{Told}
use Rattle.machine.specs.declared.request.Told.TheVariants.{Count, Fail}
use Rattle.machine.specs.Lists.{amended, passes}
use Rattle.machine.specs.Lists.{one_if}
use Rattle.machine.specs.Ledger.{Ledger, Operation, Place, InQueue, InFlight, InDone, Reaped, Gone, Item, Op, is_kept, is_live}
use Rattle.machine.specs.Ledger.{is_holding}
use Rattle.machine.specs.Turn.{waits_on, waiting_on, without_wait, unless_waits, with_break, is_op, break_one, break_each, released}
use Rattle.machine.specs.Closes.{closes_listed, close_count, AreKnown, ClosesOnce, made_at}
use Rattle.machine.proofs.Amended.{get-amended, get-amended-other, get-map, changed-cases, length-amended, there-before}
use Rattle.machine.proofs.Where.{where-map}
use Rattle.machine.proofs.Occurring.{same, same-cases, queued, listed, listed-append, closes_listed-append}
use Rattle.machine.proofs.Staying.{Stays, stay_of}
use Rattle.machine.proofs.Holders.{SameHolders, holders-own, holders-then, holders-op}
use Rattle.machine.proofs.Closing.{known-op}
use Rattle.machine.proofs.Once.{once-same}
use Rattle.machine.proofs.Taking.{in_queue, in_flight, in_done, queue_mark, flight_mark, done_mark, Listed}
use Rattle.machine.proofs.Listed.{flight-there}
use Rattle.machine.proofs.Making.{From, OpsFrom, ops_from-same, ops_from-then, ops_from-op_at}

-- How often a number is in a list.
abbrev pub counted : ℕ → List ℕ → ℕ
counted k [] = 0
counted k (m ∷ numbers) = same k m + counted k numbers

-- One that waits more, or none, by a test.
counted-by : (b : Bool) (m k : ℕ) (xs ys : List ℕ) (items : List Item) → counted k xs ≤ listed k items → counted k ys ≤ listed k items →
    counted k (if b then m ∷ xs else ys) ≤ listed k (Op m ∷ items)
counted-by true m k xs ys items a b = omega (arith, a)
counted-by false m k xs ys items a b = omega (arith, b)

-- Those that wait are among the items, none of them oftener than there.
pub waiting-listed : (ops : List Operation) (n : ℕ) (items : List Item) (k : ℕ) → counted k (waiting_on ops n items) ≤ listed k items
waiting-listed ops n [] k = omega arith
waiting-listed ops n (Op m ∷ items) k =
    counted-by (passes (waits_on n) (slice_get ops m)) m k (waiting_on ops m items) (waiting_on ops n items) items
    (waiting-listed ops m items k) (waiting-listed ops n items k)
waiting-listed ops n (Item.Close h ∷ items) k = waiting-listed ops n items k

-- Items but the operation of a number.
abbrev pub without : ℕ → List Item → List Item
without m items = filter (λ item. not (is_op m item)) items

-- It is among them no more.
pub listed-without : (m : ℕ) (items : List Item) → listed m (without m items) ≡ 0
listed-without m [] = refl
listed-without m (Op x ∷ items) = elim (eqb_tells m x) [
  | inl e ↦ ap (λ b. listed m (cond (not b) (Op x ∷ without m items) (without m items))) e.0 ∙ listed-without m items
  | inr e ↦ (
      let z : same m x ≡ 0 = ap one_if e.0 in
      let r : listed m (without m items) ≡ 0 = listed-without m items in
      let t : listed m (Op x ∷ without m items) ≡ 0 = omega (arith, z, r) in
      ap (λ b. listed m (cond (not b) (Op x ∷ without m items) (without m items))) e.0 ∙ t)
]
listed-without m (Item.Close h ∷ items) = listed-without m items

-- Every other one is among them as often.
pub listed-without-other : (m k : ℕ) (items : List Item) → k ≢ m → listed k (without m items) ≡ listed k items
listed-without-other m k [] other = refl
listed-without-other m k (Op x ∷ items) other =
    let r : listed k (without m items) ≡ listed k items = listed-without-other m k items other in
    elim (eqb_tells m x) [
      | inl e ↦ (
          let t : listed k (without m items) ≡ listed k (Op x ∷ items) = elim (same-cases k x) [
            | inl z ↦ absurd (other (z.0 ∙ sym e.1))
            | inr z ↦ (let s = z.1 in omega (arith, s, r))
          ] in
          ap (λ b. listed k (cond (not b) (Op x ∷ without m items) (without m items))) e.0 ∙ t)
      | inr e ↦ ap (λ b. listed k (cond (not b) (Op x ∷ without m items) (without m items))) e.0 ∙ ap (λ c. same k x + c) r
    ]
listed-without-other m k (Item.Close h ∷ items) other = listed-without-other m k items other

-- Closes are among them as often.
closes-without : (m h : ℕ) (items : List Item) → closes_listed h (without m items) ≡ closes_listed h items
closes-without m h [] = refl
closes-without m h (Op x ∷ items) = at (m == x) ∙ closes-without m h items
  where
    at : (b : Bool) → closes_listed h (cond (not b) (Op x ∷ without m items) (without m items)) ≡ closes_listed h (without m items)
    at true = refl
    at false = refl
closes-without m h (Item.Close k ∷ items) = ap (λ c. one_if (h == k) + c) (closes-without m h items)

-- An operation in flight.
pub record Flies (L : Ledger) (m : ℕ) : Type 0 where
  pub operation : Operation
  pub there : slice_get L.ops m ≡ Some operation
  pub place : operation.place ≡ InFlight

-- What is listed in flight is an operation in flight.
pub flies-listed : (L : Ledger) (m : ℕ) → Listed L → 1 ≤ listed m L.flying → Flies L m
flies-listed L m l h =
    let f = flight-there (slice_get L.ops m) (let a = l.flown m in omega (arith, h, a)) in
    record { operation = f.0; there = f.1; place = f.2 }

-- Whatever is looked up of an operation in flight is in flight.
pub flies-at : {L : Ledger} {m : ℕ} → Flies L m → (o : Operation) → slice_get L.ops m ≡ Some o → o.place ≡ InFlight
flies-at {L} {m} f o at = let q : f.operation ≡ o = (let w = sym f.there ∙ at in cc) in ap (λ z. z.place) (sym q) ∙ f.place

-- Nothing is in flight twice.
flight-most : (p : Place) → in_flight p ≤ 1
flight-most InQueue = omega arith
flight-most InFlight = omega arith
flight-most (InDone outcome) = omega arith
flight-most (Reaped outcome) = omega arith
flight-most Gone = omega arith

-- The same of an operation that was looked up.
pub flight-mark-most : (x : Option Operation) → flight_mark x ≤ 1
flight-mark-most None = omega arith
flight-mark-most (Some o) = flight-most o.place

-- Numbers are each in flight, and none comes twice.
pub record AreFlown (L : Ledger) (numbers : List ℕ) : Type 0 where
  pub flown : (k : ℕ) → counted k numbers ≤ listed k L.flying

-- Those that wait are.
pub waiting-flown : (L : Ledger) (n : ℕ) → AreFlown L (waiting_on L.ops n L.flying)
waiting-flown L n = record { flown = waiting-listed L.ops n L.flying }

-- The first of them is in flight.
pub first-flies : (L : Ledger) (m : ℕ) (numbers : List ℕ) → Listed L → AreFlown L (m ∷ numbers) → Flies L m
first-flies L m numbers l a = flies-listed L m l (elim (same-cases m m) [
  | inl e ↦ (let one = e.1 in let f = a.flown m in omega (arith, one, f))
  | inr e ↦ absurd (e.0 refl)
])

-- The rest are still, once the first ended.
pub rest-flown : (L : Ledger) (m : ℕ) (numbers : List ℕ) → Listed L → AreFlown L (m ∷ numbers) → AreFlown (break_one L m) numbers
rest-flown L m numbers l a = record {
  flown = λ k. elim (same-cases k m) [
    | inl e ↦ (
        let one = e.1 in
        let f = a.flown k in
        let all = l.flown k in
        let most = flight-mark-most (slice_get L.ops k) in
        let none : counted k numbers ≤ 0 = omega (arith, one, f, all, most) in
        omega (arith, none))
    | inr e ↦ (
        let other = e.1 in
        let f = a.flown k in
        let r = listed-without-other m k L.flying e.0 in
        omega (arith, other, f, r))
  ];
}

-- An operation in flight that ends with its leader.
module _ (L : Ledger) (m : ℕ) (f : Flies L m) (h : Listed L) where
  -- By number: what each list holds, and the mark of the operation.
  ended-at : (k : ℕ) → (queued k L.queue ≡ queue_mark (slice_get (amended L.ops m with_break) k))
      × (listed k (without m L.flying) ≡ flight_mark (slice_get (amended L.ops m with_break) k))
      × (listed k (L.done ++ Op m ∷ []) ≡ done_mark (slice_get (amended L.ops m with_break) k))
  ended-at k =
      let d = listed-append k L.done (Op m ∷ []) in
      let w = h.waiting k in
      let g = h.flown k in
      let s = h.standing k in
      elim (same-cases k m) [
        | inl e ↦ (
            let old : slice_get L.ops k ≡ Some f.operation = ap (slice_get L.ops) e.0 ∙ f.there in
            let new : slice_get (amended L.ops m with_break) k ≡ Some (with_break f.operation) =
            ap (slice_get (amended L.ops m with_break)) e.0 ∙ get-amended with_break L.ops m ∙ ap (option_map with_break) f.there in
            let one = e.1 in
            let none : listed k (without m L.flying) ≡ 0 = ap (λ j. listed j (without m L.flying)) e.0 ∙ listed-without m L.flying in
            let w0 : queue_mark (slice_get L.ops k) ≡ 0 = ap queue_mark old ∙ ap in_queue f.place in
            let s0 : done_mark (slice_get L.ops k) ≡ 0 = ap done_mark old ∙ ap in_done f.place in
            let w' : queue_mark (slice_get (amended L.ops m with_break) k) ≡ 0 = ap queue_mark new in
            let f' : flight_mark (slice_get (amended L.ops m with_break) k) ≡ 0 = ap flight_mark new in
            let s' : done_mark (slice_get (amended L.ops m with_break) k) ≡ 1 = ap done_mark new in
            (omega arith, omega arith, omega arith))
        | inr e ↦ (
            let new : slice_get (amended L.ops m with_break) k ≡ slice_get L.ops k = get-amended-other with_break L.ops m k e.0 in
            let none = e.1 in
            let rest : listed k (without m L.flying) ≡ listed k L.flying = listed-without-other m k L.flying e.0 in
            let w' : queue_mark (slice_get (amended L.ops m with_break) k) ≡ queue_mark (slice_get L.ops k) = ap queue_mark new in
            let f' : flight_mark (slice_get (amended L.ops m with_break) k) ≡ flight_mark (slice_get L.ops k) = ap flight_mark new in
            let s' : done_mark (slice_get (amended L.ops m with_break) k) ≡ done_mark (slice_get L.ops k) = ap done_mark new in
            (omega arith, omega arith, omega arith))
      ]

  -- The lists hold what the places say.
  pub listed-break_one : Listed (break_one L m)
  listed-break_one = record { waiting = λ k. (ended-at k).0; flown = λ k. (ended-at k).1; standing = λ k. (ended-at k).2 }

  -- Each close is there once.
  pub once-break_one : ClosesOnce L → ClosesOnce (break_one L m)
  once-break_one c =
      let s = holders-op L m with_break (λ o at. record { request = refl; made = refl; live = sym (ap is_kept (flies-at f o at)) }) in
      once-same L (break_one L m)
      (λ k. (let a = closes_listed-append k L.done (Op m ∷ []) in let b = closes-without m k L.flying in omega (arith, a, b)))
      (record { users = s.users; ops = s.ops }) (omega arith) c

  -- It comes from what it was.
  pub ops_from-break_one : OpsFrom L (break_one L m)
  ops_from-break_one =
      let s = ops_from-op_at L m with_break (λ o at. record {
        request = refl;
        made = refl;
        live = λ l. ap is_kept (flies-at f o at);
        place = λ l. sym (ap made_at (flies-at f o at));
      }) in
      record { users = s.users; ops = s.ops }

-- The handles stay known.
pub known-break_one : (L : Ledger) (m : ℕ) → AreKnown L → AreKnown (break_one L m)
known-break_one L m k =
    let s = known-op L m with_break (λ o. (refl, refl)) k in record { known = s.known; above = s.above; together = s.together }

-- The ledger in which nothing waits for an operation any more.
abbrev pub let_go : Ledger → ℕ → Ledger
let_go L n = record L { ops = map (unless_waits n) L.ops }

-- What doesn't read whom an operation waits for reads the same of one that waits no more.
pub unless-keeps : {X : Type 0} (g : Operation → X) (n : ℕ) (o : Operation) → g (without_wait o) ≡ g o → g (unless_waits n o) ≡ g o
unless-keeps {X} g n o keeps = by (waits_on n o)
  where
    by : (b : Bool) → g (if b then without_wait o else o) ≡ g o
    by true = keeps
    by false = refl

-- The same of operations.
map-unless : {X : Type 0} (g : Operation → X) (n : ℕ) (ops : List Operation) → ((o : Operation) → g (without_wait o) ≡ g o) →
    map g (map (unless_waits n) ops) ≡ map g ops
map-unless g n [] keeps = refl
map-unless g n (o ∷ ops) keeps =
    ap (λ x. x ∷ map g (map (unless_waits n) ops)) (unless-keeps g n o (keeps o)) ∙ ap (λ xs. g o ∷ xs) (map-unless g n ops keeps)

-- All but that stays.
pub stays-let_go : (L : Ledger) (n : ℕ) → Stays L (let_go L n)
stays-let_go L n =
    record { capacity = refl; done = refl; world = refl; owners = refl; groups = refl; ops = map-unless stay_of n L.ops (λ o. refl) }

-- The marks stay.
pub unless-marks : (n : ℕ) (x : Option Operation) → (queue_mark (option_map (unless_waits n) x) ≡ queue_mark x)
    × (flight_mark (option_map (unless_waits n) x) ≡ flight_mark x) × (done_mark (option_map (unless_waits n) x) ≡ done_mark x)
unless-marks n None = (refl, refl, refl)
unless-marks n (Some o) = (
  unless-keeps (λ z. in_queue z.place) n o refl,
  unless-keeps (λ z. in_flight z.place) n o refl,
  unless-keeps (λ z. in_done z.place) n o refl,
)

-- The lists hold what the places say.
pub listed-let_go : (L : Ledger) (n : ℕ) → Listed L → Listed (let_go L n)
listed-let_go L n h = record {
  waiting = λ k. h.waiting k ∙ sym (ap queue_mark (get-map (unless_waits n) L.ops k) ∙ (unless-marks n (slice_get L.ops k)).0);
  flown = λ k. h.flown k ∙ sym (ap flight_mark (get-map (unless_waits n) L.ops k) ∙ (unless-marks n (slice_get L.ops k)).1);
  standing = λ k. h.standing k ∙ sym (ap done_mark (get-map (unless_waits n) L.ops k) ∙ (unless-marks n (slice_get L.ops k)).2);
}

-- Each close is there once.
pub once-let_go : (L : Ledger) (n : ℕ) → ClosesOnce L → ClosesOnce (let_go L n)
once-let_go L n c =
    once-same L (let_go L n) (λ h. refl) (record {
      users = λ h. refl;
      ops = λ h. where-map (is_holding h) (unless_waits n) L.ops 0 (λ o. unless-keeps (is_holding h) n o refl);
    }) (omega arith) c

-- Each operation comes from what it was.
pub ops_from-let_go : (L : Ledger) (n : ℕ) → OpsFrom L (let_go L n)
ops_from-let_go L n = record {
  users = λ h is. is;
  ops = λ k p there. (
      let b = there-before (unless_waits n) (slice_get L.ops k) p (sym (get-map (unless_waits n) L.ops k) ∙ there) in
      (b.0, b.1, subst (From b.0) (sym b.2) (comes b.0)));
}
  where
    comes : (o : Operation) → From o (unless_waits n o)
    comes o = record {
      request = unless-keeps (λ z. z.request) n o refl;
      made = unless-keeps (λ z. z.made) n o refl;
      live = λ l. sym (unless-keeps is_live n o refl) ∙ l;
      place = λ l. unless-keeps (λ z. made_at z.place) n o refl;
    }

-- Operations in flight that end with their leaders come from what they were.
ops_from-break_each : (L : Ledger) (numbers : List ℕ) → AreFlown L numbers → Listed L → OpsFrom L (break_each L numbers)
ops_from-break_each L [] a l = ops_from-same L
ops_from-break_each L (m ∷ numbers) a l =
    let f = first-flies L m numbers l a in
    ops_from-then (ops_from-break_one L m f l)
    (ops_from-break_each (break_one L m) numbers (rest-flown L m numbers l a) (listed-break_one L m f l))

-- Each operation comes from what it was, once those that waited for an executed one are released.
pub ops_from-released : (told : Told) (L : Ledger) (n : ℕ) → Listed L → OpsFrom L (released told L n)
ops_from-released (Fail e) L n l = ops_from-break_each L (waiting_on L.ops n L.flying) (waiting-flown L n) l
ops_from-released (Count k) L n l = ops_from-let_go L n

-- An operation that waits for another one, or for none.
abbrev pub with_waits : Option ℕ → Operation → Operation
with_waits waits_for o = record o { waits_for = waits_for }

-- An operation that stayed, but for whom it waits for.
pub record Stayed (old new : Option Operation) : Type 0 where
  pub waits_for : Option ℕ
  pub is : new ≡ option_map (with_waits waits_for) old

-- An operation in flight that ended with its leader, which failed.
pub record Broke (told : Told) (old new : Option Operation) : Type 0 where
  pub error : ℕ
  pub failed : told ≡ Fail error
  pub operation : Operation
  pub there : old ≡ Some operation
  pub place : operation.place ≡ InFlight
  pub is : new ≡ Some (with_break operation)

-- An operation that stays as it is.
stayed-same : (x : Option Operation) → Stayed x x
stayed-same None = record { waits_for = None; is = refl }
stayed-same (Some o) = record { waits_for = o.waits_for; is = refl }

-- An operation that may wait no more.
stayed-unless : (n : ℕ) (x : Option Operation) → Stayed x (option_map (unless_waits n) x)
stayed-unless n None = record { waits_for = None; is = refl }
stayed-unless n (Some o) = by (waits_on n o)
  where
    by : (b : Bool) → Stayed (Some o) (Some (if b then without_wait o else o))
    by true = record { waits_for = None; is = refl }
    by false = record { waits_for = o.waits_for; is = refl }

-- What ended with its leader isn't in flight.
broke-once : {Y : Type 0} (told : Told) (o : Operation) (x y : Option Operation) → x ≡ Some (with_break o) → Broke told x y → Y
broke-once told o x y is b =
    let q : with_break o ≡ b.operation = (let w = sym is ∙ b.there in cc) in
    let p : (with_break o).place ≡ InFlight = ap (λ z. z.place) q ∙ b.place in
    let f : ⊥ = cc in absurd f

-- Operations that end with their leaders: each of them is broken once, and each other one stays.
pub break_each-ops : (e : ℕ) (L : Ledger) (numbers : List ℕ) → AreFlown L numbers → Listed L → (k : ℕ) →
    (slice_get (break_each L numbers).ops k ≡ slice_get L.ops k)
    ⊎ Broke (Fail e) (slice_get L.ops k) (slice_get (break_each L numbers).ops k)
break_each-ops e L [] a l k = inl refl
break_each-ops e L (m ∷ numbers) a l k =
    let f = first-flies L m numbers l a in
    let rest = break_each-ops e (break_one L m) numbers (rest-flown L m numbers l a) (listed-break_one L m f l) k in
    let y : Option Operation = slice_get (break_each L (m ∷ numbers)).ops k in
    elim (changed-cases with_break L.ops m k) [
      | inl c ↦ (
          let at : slice_get (amended L.ops m with_break) k ≡ Some (with_break f.operation) = c.1 ∙ ap (option_map with_break) f.there in
          elim rest [
            | inl r ↦ inr (record {
              error = e;
              failed = refl;
              operation = f.operation;
              there = ap (slice_get L.ops) c.0 ∙ f.there;
              place = f.place;
              is = r ∙ at;
            })
            | inr r ↦ broke-once (Fail e) f.operation (slice_get (amended L.ops m with_break) k) y at r
          ])
      | inr c ↦ elim rest [
        | inl r ↦ inl (r ∙ c.1)
        | inr r ↦ inr (record { error = e; failed = refl; operation = r.operation; there = sym c.1 ∙ r.there; place = r.place; is = r.is })
      ]
    ]

-- Each operation stays, but for whom it waits for, or ends with its leader, once those that waited for an executed one are released.
pub released-ops : (told : Told) (L : Ledger) (n : ℕ) → Listed L → (k : ℕ) →
    Stayed (slice_get L.ops k) (slice_get (released told L n).ops k) ⊎ Broke told (slice_get L.ops k) (slice_get (released told L n).ops k)
released-ops (Fail e) L n l k = elim (break_each-ops e L (waiting_on L.ops n L.flying) (waiting-flown L n) l k) [
  | inl r ↦ inl (subst (Stayed (slice_get L.ops k)) (sym r) (stayed-same (slice_get L.ops k)))
  | inr r ↦ inr r
]
released-ops (Count c) L n l k =
    inl (subst (Stayed (slice_get L.ops k)) (sym (get-map (unless_waits n) L.ops k)) (stayed-unless n (slice_get L.ops k)))

-- All but the operations, and what is in flight and done, stays once those that waited are released.
pub record SameBeside (L M : Ledger) : Type 0 where
  pub queue : M.queue ≡ L.queue
  pub world : M.world ≡ L.world
  pub owners : M.owners ≡ L.owners
  pub count : length M.ops ≡ length L.ops

-- Operations that end with their leaders leave the rest.
break_each-beside : (L : Ledger) (numbers : List ℕ) → SameBeside L (break_each L numbers)
break_each-beside L [] = record { queue = refl; world = refl; owners = refl; count = refl }
break_each-beside L (m ∷ numbers) =
    let r = break_each-beside (break_one L m) numbers in
    record { queue = r.queue; world = r.world; owners = r.owners; count = r.count ∙ length-amended with_break L.ops m }

-- Those that are released leave the rest.
pub released-beside : (told : Told) (L : Ledger) (n : ℕ) → SameBeside L (released told L n)
released-beside (Fail e) L n = break_each-beside L (waiting_on L.ops n L.flying)
released-beside (Count k) L n =
    record { queue = refl; world = refl; owners = refl; count = length-map L.ops (unless_waits n) }

-- Operations in flight that end with their leaders leave who holds each handle.
holders-break_each : (L : Ledger) (numbers : List ℕ) → AreFlown L numbers → Listed L → SameHolders L (break_each L numbers)
holders-break_each L [] a l = holders-own L
holders-break_each L (m ∷ numbers) a l =
    let f = first-flies L m numbers l a in
    let s = holders-op L m with_break (λ o at. record { request = refl; made = refl; live = sym (ap is_kept (flies-at f o at)) }) in
    holders-then (record { users = s.users; ops = s.ops })
    (holders-break_each (break_one L m) numbers (rest-flown L m numbers l a) (listed-break_one L m f l))

-- Those that are released hold what they held.
pub released-holders : (told : Told) (L : Ledger) (n : ℕ) → Listed L → SameHolders L (released told L n)
released-holders (Fail e) L n l = holders-break_each L (waiting_on L.ops n L.flying) (waiting-flown L n) l
released-holders (Count k) L n l = record {
  users = λ h. refl;
  ops = λ h. where-map (is_holding h) (unless_waits n) L.ops 0 (λ o. unless-keeps (is_holding h) n o refl);
}

-- Operations that end with their leaders are no closes.
count-break_each : (L : Ledger) (numbers : List ℕ) (h : ℕ) → close_count (break_each L numbers) h ≡ close_count L h
count-break_each L [] h = refl
count-break_each L (m ∷ numbers) h =
    let r = count-break_each (break_one L m) numbers h in
    let a = closes_listed-append h L.done (Op m ∷ []) in
    let b = closes-without m h L.flying in
    omega (arith, r, a, b)

-- As many closes are there once those that waited are released.
pub released-count : (told : Told) (L : Ledger) (n h : ℕ) → close_count (released told L n) h ≡ close_count L h
released-count (Fail e) L n h = count-break_each L (waiting_on L.ops n L.flying) h
released-count (Count k) L n h = refl
