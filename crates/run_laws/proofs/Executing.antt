-- What executes an operation: the Exec at which it leaves what is in flight, its own or one that fails an operation that it waits for.
use Rattle.std.proofs.Common.{◌≡◌, ◌≢◌, ◌⊎◌, inl, inr, ℕ, zero, suc, ◌≤◌, Bool, true, false, ◌||◌, List, [], ◌∷◌, take, Option, Some}
use Rattle.std.proofs.Common.{None}
use Rattle.std.proofs.Common.{option_map, slice_get, refl, sym, ◌∙◌, ap, subst, arith, true≢false, if◌then◌else◌}
use Rattle.std.specs.List.{list_any}
use Rattle.std.proofs.lemmas.Bool.Decides.{eqb_tells}
use Rattle.rent_buf.specs.Buffer.{Buffer}
use Rattle.rent_buf.specs.Parts.{Parts}
use Rattle.rent_buf.specs.Held.{HeldBuf}
use Rattle.machine.specs.declared.request.Request.{Request}
use Rattle.machine.specs.declared.request.TheConstants.{CANCELED}
use Rattle.machine.specs.declared.request.Told.{Told}
use Rattle.machine.specs.declared.request.Told.TheVariants.{Count, Fail}
use Rattle.machine.specs.declared.request.Outcome.{Outcome}
use Rattle.machine.specs.declared.ledger.Event.{Event}
use Rattle.machine.specs.declared.ledger.Event.TheVariants.{Exec}
use Rattle.machine.specs.Lists.{one_if}
use Rattle.machine.specs.Request.{held, held_of}
use Rattle.machine.specs.Refusal.{cause}
use Rattle.machine.specs.Effect.{Effect}
use Rattle.machine.specs.Ledger.{Ledger, Operation, InFlight, InDone, Item, Op, empty}
use Rattle.machine.specs.Turn.{is_op, released, effect_of, with_result, exec_op, exec_step, complete_at, unless_waits, waiting_on}
use Rattle.machine.specs.Run.{ledger_before, IsExecuted, IsOwn, own_answer}
use Rattle.run_laws.specs.Headline.{BreaksByFailure}
use Rattle.machine.proofs.Numbers.{same-or-not, equal-self, equal-other}
use Rattle.machine.proofs.Amended.{get-amended, get-amended-other, get-map}
use Rattle.machine.proofs.Occurring.{same, listed}
use Rattle.machine.proofs.Taking.{in_flight, flight_mark, Listed}
use Rattle.machine.proofs.Listed.{flying-there, flight-there}
use Rattle.machine.proofs.Releasing.{flight-mark-most, with_waits, Stayed, Broke, released-ops, break_each-ops, waiting-flown}
use Rattle.machine.proofs.Lawful.{lawful-ledger, lawful-executed}
use Rattle.run_laws.proofs.Replies.{step-row, after-next}

-- An operation that is found among items counts there.
any-listed : (n : ℕ) (items : List Item) → list_any (is_op n) items ≡ true → 1 ≤ listed n items
any-listed n [] is = absurd (true≢false (sym is))
any-listed n (Op x ∷ items) is = elim (eqb_tells n x) [
  | inl e ↦ (let z : same n x ≡ 1 = ap one_if e.0 in omega (arith, z))
  | inr e ↦ (let r : 1 ≤ listed n items = any-listed n items (sym (ap (λ b. b || list_any (is_op n) items) e.0) ∙ is) in omega (arith, r))
]
any-listed n (Item.Close h ∷ items) is = any-listed n items is

-- One that counts is found.
listed-any : (n : ℕ) (items : List Item) → 1 ≤ listed n items → list_any (is_op n) items ≡ true
listed-any n [] some = absurd (omega (arith, some))
listed-any n (Op x ∷ items) some = elim (eqb_tells n x) [
  | inl e ↦ ap (λ b. b || list_any (is_op n) items) e.0
  | inr e ↦ ap (λ b. b || list_any (is_op n) items) e.0
      ∙ listed-any n items (let z : same n x ≡ 0 = ap one_if e.0 in omega (arith, z, some))
]
listed-any n (Item.Close h ∷ items) some = listed-any n items some

-- One that isn't found doesn't count.
none-listed : (n : ℕ) (items : List Item) → list_any (is_op n) items ≡ false → listed n items ≡ 0
none-listed n items none = by (listed n items) refl
  where
    by : (c : ℕ) → listed n items ≡ c → listed n items ≡ 0
    by zero is = is
    by (suc c) is = absurd (true≢false (sym (listed-any n items (omega (arith, is))) ∙ none))

-- One that doesn't count isn't found.
listed-none : (n : ℕ) (items : List Item) → listed n items ≡ 0 → list_any (is_op n) items ≡ false
listed-none n items none = by (list_any (is_op n) items) refl
  where
    by : (b : Bool) → list_any (is_op n) items ≡ b → b ≡ false
    by true is = (let some = any-listed n items is in absurd (omega (arith, some, none)))
    by false is = refl

-- What an operation ends with that is executed itself.
pub own-itself : (L : Ledger) (n : ℕ) (request : Request Buffer Parts) (told : Told) →
    own_answer L n (Op n) request told ≡ ((effect_of L request told).outcome, held request told (effect_of L request told).got)
own-itself L n request told =
    ap (λ b. if b then ((effect_of L request told).outcome, held request told (effect_of L request told).got)
    else (Outcome.Fail CANCELED, held_of request)) (equal-self n)

-- What one ends with that ends with another.
pub own-other : (L : Ledger) (n m : ℕ) (request : Request Buffer Parts) (told : Told) → n ≢ m →
    own_answer L n (Op m) request told ≡ (Outcome.Fail CANCELED, held_of request)
own-other L n m request told other =
    ap (λ b. if b then ((effect_of L request told).outcome, held request told (effect_of L request told).got)
    else (Outcome.Fail CANCELED, held_of request)) (equal-other n m other)

-- An operation that stayed, but for whom it waits for, is in flight exactly where it was.
pub stayed-mark : (x y : Option Operation) → Stayed x y → flight_mark y ≡ flight_mark x
stayed-mark x y s = ap flight_mark s.is ∙ by x
  where
    by : (x : Option Operation) → flight_mark (option_map (with_waits s.waits_for) x) ≡ flight_mark x
    by None = refl
    by (Some o) = refl

module _ (capacity : ℕ) (events : List Event) where
  -- The lists of each ledger hold what its places say.
  pub lists-at : (i : ℕ) → Listed (ledger_before capacity events i)
  lists-at i = (lawful-ledger capacity (take i events)).lists

  -- It left: an operation in flight before an event isn't after it.
  pub record Left (n i : ℕ) : Type 0 where
    pub flew : flight_mark (slice_get (ledger_before capacity events i).ops n) ≡ 1
    pub left : flight_mark (slice_get (ledger_before capacity events (suc i)).ops n) ≡ 0

  -- What is executed leaves.
  pub executed-left : (n i : ℕ) (told : Told) (item : Item) → IsExecuted capacity events n i told item → Left n i
  executed-left n i told item x = record {
    flew = (
        let some : 1 ≤ listed n (ledger_before capacity events i).flying = any-listed n (ledger_before capacity events i).flying x.flew in
        let mark = (lists-at i).flown n in
        let most = flight-mark-most (slice_get (ledger_before capacity events i).ops n) in
        omega (arith, some, mark, most));
    left = sym ((lists-at (suc i)).flown n) ∙ none-listed n (ledger_before capacity events (suc i)).flying x.left;
  }

  -- It was an operation in flight.
  pub executed-flew : (n i : ℕ) (told : Told) (item : Item) → IsExecuted capacity events n i told item →
      (o : Operation) × (slice_get (ledger_before capacity events i).ops n ≡ Some o) × (o.place ≡ InFlight)
  executed-flew n i told item x =
      flight-there (slice_get (ledger_before capacity events i).ops n) (let f = (executed-left n i told item x).flew in omega (arith, f))

  module _ (i place : ℕ) (told : Told) (item : Item) (event : slice_get events i ≡ Some (Exec place told))
      (unrefused : cause (ledger_before capacity events i) (Exec place told) ≡ None)
      (there : slice_get (ledger_before capacity events i).flying place ≡ Some item) where
    -- What leaves by an Exec is executed by it.
    pub left-executed : (n : ℕ) → Left n i → IsExecuted capacity events n i told item
    left-executed n x = record {
      place = place;
      event = event;
      unrefused = unrefused;
      there = there;
      flew = listed-any n (ledger_before capacity events i).flying
          (let mark = (lists-at i).flown n in let f = x.flew in omega (arith, mark, f));
      left = listed-none n (ledger_before capacity events (suc i)).flying ((lists-at (suc i)).flown n ∙ x.left);
    }

    -- The ledger after it.
    pub exec-after : ledger_before capacity events (suc i) ≡ (exec_step (ledger_before capacity events i) place told (Some item)).0
    exec-after =
        let L : Ledger = ledger_before capacity events i in
        after-next (empty capacity) events i (Exec place told) event
        ∙ ap (λ s. s.0) (step-row L (Exec place told) unrefused) ∙ ap (λ x. (exec_step L place told x).0) there

  -- What is looked up of another operation than the one that is executed, before those that wait are released.
  module _ (n m i place : ℕ) (told : Told) (there : slice_get (ledger_before capacity events i).flying place ≡ Some (Op m))
      (other : n ≢ m) where
    -- The ledger then.
    abbrev pub executed : Ledger
    executed = exec_op (complete_at (ledger_before capacity events i) place (Op m)) m told
        (slice_get (ledger_before capacity events i).ops m)

    -- It is what it was.
    pub executed-other : slice_get executed.ops n ≡ slice_get (ledger_before capacity events i).ops n
    executed-other =
        let L : Ledger = ledger_before capacity events i in
        let f = flying-there L place m (lists-at i) there in
        ap (λ x. slice_get (exec_op (complete_at L place (Op m)) m told x).ops n) f.1
        ∙ get-amended-other (with_result told (effect_of L f.0.request told)) L.ops m n other

    -- The lists hold what the places say.
    pub executed-lists : Listed executed
    executed-lists = (lawful-executed (ledger_before capacity events i) place told m there (lawful-ledger capacity (take i events))).lists

  -- What was looked up before an Exec, and after it, of another operation than the one that is executed.
  pub exec-other : (n m i place : ℕ) (told : Told) → slice_get (ledger_before capacity events i).flying place ≡ Some (Op m) → n ≢ m →
      let L : Ledger = ledger_before capacity events i in
      Stayed (slice_get L.ops n) (slice_get (exec_step L place told (Some (Op m))).0.ops n)
      ⊎ Broke told (slice_get L.ops n) (slice_get (exec_step L place told (Some (Op m))).0.ops n)
  exec-other n m i place told there other =
      let L : Ledger = ledger_before capacity events i in
      let E : Ledger = exec_op (complete_at L place (Op m)) m told (slice_get L.ops m) in
      subst (λ x. Stayed x (slice_get (released told E m).ops n) ⊎ Broke told x (slice_get (released told E m).ops n))
      (executed-other n m i place told there other) (released-ops told E m (executed-lists n m i place told there other) n)

  -- The same where it fails.
  pub fail-other : (n m i place error : ℕ) → slice_get (ledger_before capacity events i).flying place ≡ Some (Op m) → n ≢ m →
      let L : Ledger = ledger_before capacity events i in
      (slice_get (exec_step L place (Fail error) (Some (Op m))).0.ops n ≡ slice_get L.ops n)
      ⊎ Broke (Fail error) (slice_get L.ops n) (slice_get (exec_step L place (Fail error) (Some (Op m))).0.ops n)
  fail-other n m i place error there other =
      let L : Ledger = ledger_before capacity events i in
      let E : Ledger = exec_op (complete_at L place (Op m)) m (Fail error) (slice_get L.ops m) in
      let y : Option Operation = slice_get (released (Fail error) E m).ops n in
      subst (λ x. (y ≡ x) ⊎ Broke (Fail error) x y) (executed-other n m i place (Fail error) there other)
      (break_each-ops error E (waiting_on E.ops m E.flying) (waiting-flown E m) (executed-lists n m i place (Fail error) there other) n)

  -- The same where it counts.
  pub count-other : (n m i place count : ℕ) → slice_get (ledger_before capacity events i).flying place ≡ Some (Op m) → n ≢ m →
      let L : Ledger = ledger_before capacity events i in
      slice_get (exec_step L place (Count count) (Some (Op m))).0.ops n ≡ option_map (unless_waits m) (slice_get L.ops n)
  count-other n m i place count there other =
      let L : Ledger = ledger_before capacity events i in
      let E : Ledger = exec_op (complete_at L place (Op m)) m (Count count) (slice_get L.ops m) in
      get-map (unless_waits m) E.ops n ∙ ap (option_map (unless_waits m)) (executed-other n m i place (Count count) there other)

  -- An operation that ends by the execution of another item ends as that one, an operation, fails.
  pub breaks-by-failure : BreaksByFailure capacity events
  breaks-by-failure n i told (Item.Close h) x =
      let L : Ledger = ledger_before capacity events i in
      let x' = executed-left n i told (Item.Close h) x in
      let a = x'.flew in
      let b : flight_mark (slice_get L.ops n) ≡ 0 =
      ap (λ K. flight_mark (slice_get K.ops n)) (sym (exec-after i x.place told (Item.Close h) x.event x.unrefused x.there)) ∙ x'.left in
      absurd (omega (arith, a, b))
  breaks-by-failure n i told (Op m) x = elim (same-or-not n m) [
    | inl e ↦ inl (ap Op (sym e))
    | inr other ↦ (
        let L : Ledger = ledger_before capacity events i in
        let left = executed-left n i told (Op m) x in
        let next = exec-after i x.place told (Op m) x.event x.unrefused x.there in
        elim (exec-other n m i x.place told x.there other) [
          | inl s ↦ (
              let a = left.flew in
              let b : flight_mark (slice_get (exec_step L x.place told (Some (Op m))).0.ops n) ≡ 0 =
              ap (λ K. flight_mark (slice_get K.ops n)) (sym next) ∙ left.left in
              let c = stayed-mark (slice_get L.ops n) (slice_get (exec_step L x.place told (Some (Op m))).0.ops n) s in
              absurd (omega (arith, a, b, c)))
          | inr b ↦ inr (m, b.error, refl, b.failed)
        ])
  ]

  -- An Exec executes the operation at its place.
  pub exec-itself : (n i place : ℕ) (told : Told) → slice_get events i ≡ Some (Exec place told) →
      cause (ledger_before capacity events i) (Exec place told) ≡ None →
      slice_get (ledger_before capacity events i).flying place ≡ Some (Op n) → IsExecuted capacity events n i told (Op n)
  exec-itself n i place told event unrefused there =
      let L : Ledger = ledger_before capacity events i in
      let l = lawful-ledger capacity (take i events) in
      let f = flying-there L place n l.lists there in
      let result : Effect = effect_of L f.0.request told in
      let E : Ledger = exec_op (complete_at L place (Op n)) n told (slice_get L.ops n) in
      let at : slice_get E.ops n ≡ Some (with_result told result f.0) =
      ap (λ x. slice_get (exec_op (complete_at L place (Op n)) n told x).ops n) f.1
      ∙ get-amended (with_result told result) L.ops n ∙ ap (option_map (with_result told result)) f.1 in
      let now : flight_mark (slice_get (released told E n).ops n) ≡ 0 =
      elim (released-ops told E n (lawful-executed L place told n there l).lists n) [
        | inl s ↦ stayed-mark (slice_get E.ops n) (slice_get (released told E n).ops n) s ∙ ap flight_mark at
        | inr b ↦ (
            let q : with_result told result f.0 ≡ b.operation = (let w = sym at ∙ b.there in cc) in
            let p : InDone result.outcome ≡ InFlight = ap (λ z. z.place) q ∙ b.place in
            let z : ⊥ = cc in absurd z)
      ] in
      left-executed i place told (Op n) event unrefused there n (record {
        flew = ap flight_mark f.1 ∙ ap in_flight f.2;
        left = ap (λ K. flight_mark (slice_get K.ops n)) (exec-after i place told (Op n) event unrefused there) ∙ now;
      })

  -- What ends by a count is the operation at the place.
  pub counted-itself : (n i k : ℕ) (told : Told) (item : Item) → IsExecuted capacity events n i told item → told ≡ Count k → item ≡ Op n
  counted-itself n i k told item x is = elim (breaks-by-failure n i told item x) [
    | inl e ↦ e
    | inr b ↦ (let q : Count k ≡ Fail b.1 = sym is ∙ b.3 in let f : ⊥ = cc in absurd f)
  ]

  -- What made a handle was executed itself.
  pub made-itself : (n h : ℕ) (buffer : HeldBuf) (own : IsOwn capacity events n (Outcome.Made h) buffer) →
      (own.item ≡ Op n)
      × (Outcome.Made h ≡ (effect_of (ledger_before capacity events own.exec) own.is_given.request own.told).outcome)
  made-itself n h buffer own = elim (breaks-by-failure n own.exec own.told own.item own.is_executed) [
    | inl e ↦ (e, itself e)
    | inr b ↦ elim (same-or-not n b.0) [
      | inl same ↦ (let e : own.item ≡ Op n = b.2 ∙ ap Op (sym same) in (e, itself e))
      | inr other ↦ (
          let q : Outcome.Made h ≡ Outcome.Fail CANCELED = own.outcome_is
          ∙ ap (λ i. (own_answer (ledger_before capacity events own.exec) n i own.is_given.request own.told).0) b.2
          ∙ ap (λ a. a.0) (own-other (ledger_before capacity events own.exec) n b.0 own.is_given.request own.told other) in
          let f : ⊥ = cc in absurd f)
    ]
  ]
    where
      itself : own.item ≡ Op n →
          Outcome.Made h ≡ (effect_of (ledger_before capacity events own.exec) own.is_given.request own.told).outcome
      itself e = own.outcome_is
          ∙ ap (λ i. (own_answer (ledger_before capacity events own.exec) n i own.is_given.request own.told).0) e
          ∙ ap (λ a. a.0) (own-itself (ledger_before capacity events own.exec) n own.is_given.request own.told)
