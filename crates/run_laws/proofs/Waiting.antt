-- What an operation waits for, and what becomes of it.
use Rattle.std.proofs.Common.{◌≡◌, ◌≢◌, ◌⊎◌, inl, inr, ℕ, zero, suc, ◌≤◌, true, List, [], ◌∷◌, take, Option, Some, None, option_map}
use Rattle.std.proofs.Common.{slice_get, refl, sym, ◌∙◌, ap, subst, arith, true≢false}
use Rattle.std.specs.Prelude.{is_some}
use Rattle.machine.specs.declared.request.Told.{Told}
use Rattle.machine.specs.declared.request.Told.TheVariants.{Count, Fail}
use Rattle.machine.specs.declared.ledger.Event.{Event}
use Rattle.machine.specs.Lists.{passes}
use Rattle.machine.specs.Ledger.{Ledger, Operation, InFlight, Item, Op}
use Rattle.machine.specs.Refusal.{waits}
use Rattle.machine.specs.Run.{ledger_before, IsExecuted}
use Rattle.run_laws.specs.Waits.{IsWaiting, IsBehind, WaitsBehind, Runs, StartsFree, BreaksWithLeader, StartsBehindLeader}
use Rattle.machine.proofs.Occurring.{listed, same-cases}
use Rattle.machine.proofs.Taking.{in_flight, flight_mark}
use Rattle.machine.proofs.Listed.{flight-place, flying-there}
use Rattle.machine.specs.Turn.{unless_waits}
use Rattle.machine.proofs.Releasing.{unless-keeps}
use Rattle.machine.proofs.Stepping.{executed-free}
use Rattle.machine.proofs.Behind.{awaited, awaited_by, op_of, AreBehind, no-number, unless-awaits}
use Rattle.machine.proofs.Parting.{Follows}
use Rattle.machine.proofs.Following.{follows-ledger}
use Rattle.run_laws.proofs.Executing.{lists-at, left-executed, exec-after, fail-other, count-other, exec-itself, executed-left}

-- An operation that counts among items has a place there.
listed-place : (n : ℕ) (items : List Item) → 1 ≤ listed n items → (p : ℕ) × (slice_get items p ≡ Some (Op n))
listed-place n [] some = absurd (omega (arith, some))
listed-place n (Op x ∷ items) some = elim (same-cases n x) [
  | inl e ↦ (0, ap (λ j. Some (Op j)) (sym e.0))
  | inr e ↦ (let r = listed-place n items (let z = e.1 in omega (arith, z, some)) in (suc r.0, r.1))
]
listed-place n (Item.Close h ∷ items) some = (let r = listed-place n items some in (suc r.0, r.1))

-- What is directly before an item that waits: the operation that it waits for.
record Ahead (before : Option ℕ) (items : List Item) (place leader : ℕ) : Type 0 where
  where_it_is : ((place ≡ 0) × (before ≡ Some leader)) ⊎ ((q : ℕ) × (place ≡ suc q) × (slice_get items q ≡ Some (Op leader)))

-- An item is the operation that it is of.
op-of-is : (item : Item) (m : ℕ) → op_of item ≡ Some m → item ≡ Op m
op-of-is (Op n) m is = ap Op (let e : n ≡ m = cc in e)
op-of-is (Item.Close h) m is = (let f : ⊥ = cc in absurd f)

-- An item that waits is behind the one that it waits for.
ahead-of : (ops : List Operation) (before : Option ℕ) (items : List Item) (place leader : ℕ) (item : Item) →
    AreBehind ops before items → slice_get items place ≡ Some item → awaited_by ops item ≡ Some leader → Ahead before items place leader
ahead-of ops before [] place leader item b there is = cc
ahead-of ops before (x ∷ items) zero leader item b there is =
    let e : x ≡ item = cc in record { where_it_is = inl (refl, b.0 leader (ap (awaited_by ops) e ∙ is)) }
ahead-of ops before (x ∷ items) (suc place) leader item b there is =
    let a = ahead-of ops (op_of x) items place leader item b.1 there is in
    record {
      where_it_is = elim a.where_it_is [
        | inl s ↦ inr (0, ap suc s.0, ap Some (op-of-is x leader s.1))
        | inr s ↦ inr (suc s.0, ap suc s.1, s.2)
      ];
    }

-- What waits for another doesn't pass the test of what waits for none.
waiting-passes : (n leader : ℕ) (L : Ledger) → IsWaiting L n leader → waits L (Op n) ≡ true
waiting-passes n leader L w = ap (passes (λ (operation : Operation). is_some operation.waits_for)) w.there ∙ ap is_some w.waits

module _ (capacity : ℕ) (events : List Event) where
  -- Each ledger follows.
  follows : (i : ℕ) → Follows (ledger_before capacity events i)
  follows i = follows-ledger capacity (take i events)

  -- What waits is in flight.
  pub waiting-flies : (i n leader : ℕ) (w : IsWaiting (ledger_before capacity events i) n leader) → w.operation.place ≡ InFlight
  waiting-flies i n leader w = flight-place w.operation.place (by (in_flight w.operation.place) refl)
    where
      by : (c : ℕ) → in_flight w.operation.place ≡ c → 1 ≤ in_flight w.operation.place
      by zero is = no-number leader (awaited (slice_get (ledger_before capacity events i).ops n))
          ((follows i).idle n (ap flight_mark w.there ∙ is)) (ap awaited w.there ∙ w.waits)
      by (suc c) is = omega (arith, is)

  -- At each moment an operation that waits for another is in flight, directly behind it.
  pub waits-behind : WaitsBehind capacity events
  waits-behind i n leader w =
      let L : Ledger = ledger_before capacity events i in
      let mark : flight_mark (slice_get L.ops n) ≡ 1 = ap flight_mark w.there ∙ ap in_flight (waiting-flies i n leader w) in
      let p = listed-place n L.flying (let a = (lists-at capacity events i).flown n in omega (arith, a, mark)) in
      let a = ahead-of L.ops None L.flying p.0 leader (Op n) (follows i).behind p.1 (ap awaited w.there ∙ w.waits) in
      elim a.where_it_is [
        | inl s ↦ no-number leader None refl s.1
        | inr s ↦ record { place = s.0; ahead = s.2; next = sym (ap (slice_get L.flying) s.1) ∙ p.1 }
      ]

  -- An operation that is executed itself waits for none.
  pub starts-free : StartsFree capacity events
  starts-free n i leader told x w =
      let L : Ledger = ledger_before capacity events i in
      true≢false (sym (waiting-passes n leader L w) ∙ sym (ap (passes (waits L)) x.there) ∙ executed-free L x.place told x.unrefused)

  module _ (n m i : ℕ) (w : IsWaiting (ledger_before capacity events i) n m) where
    -- Where an operation isn't in flight after an event, nobody waits for it there.
    unawaited : flight_mark (slice_get (ledger_before capacity events (suc i)).ops m) ≡ 0 → (j : ℕ) →
        IsWaiting (ledger_before capacity events (suc i)) j m → ⊥
    unawaited left j v =
        let N : Ledger = ledger_before capacity events (suc i) in
        let b : IsBehind N j m = waits-behind (suc i) j m v in
        let f = flying-there N b.place m (lists-at capacity events (suc i)) b.ahead in
        let mark : flight_mark (slice_get N.ops m) ≡ 1 = ap flight_mark f.1 ∙ ap in_flight f.2 in
        omega (arith, mark, left)

    -- What waits for an operation that leaves as another one fails ends by the same event.
    pub breaks-behind : (leader error : ℕ) → Runs capacity events leader i (Fail error) → n ≢ leader →
        flight_mark (slice_get (ledger_before capacity events (suc i)).ops m) ≡ 0 → IsExecuted capacity events n i (Fail error) (Op leader)
    breaks-behind leader error x other gone =
        let L : Ledger = ledger_before capacity events i in
        let flew : flight_mark (slice_get L.ops n) ≡ 1 = ap flight_mark w.there ∙ ap in_flight (waiting-flies i n m w) in
        let after = exec-after capacity events i x.place (Fail error) (Op leader) x.event x.unrefused x.there in
        let left : flight_mark (slice_get (ledger_before capacity events (suc i)).ops n) ≡ 0 =
        elim (fail-other capacity events n leader i x.place error x.there other) [
          | inl s ↦ absurd (unawaited gone n (record {
            operation = w.operation;
            there = ap (λ K. slice_get K.ops n) after ∙ s ∙ w.there;
            waits = w.waits;
          }))
          | inr b ↦ ap (λ K. flight_mark (slice_get K.ops n)) after ∙ ap flight_mark b.is
        ] in
        left-executed capacity events i x.place (Fail error) (Op leader) x.event x.unrefused x.there n
        (record { flew = flew; left = left })

  -- What waits for an operation that is executed is another one.
  pub waits-apart : (n leader i m : ℕ) (told : Told) → Runs capacity events leader i told →
      IsWaiting (ledger_before capacity events i) n m → n ≢ leader
  waits-apart n leader i m told x w e = starts-free n i m told (subst (λ j. Runs capacity events j i told) (sym e) x) w

  -- An operation that is executed isn't in flight after it.
  pub runs-left : (leader i : ℕ) (told : Told) → Runs capacity events leader i told →
      flight_mark (slice_get (ledger_before capacity events (suc i)).ops leader) ≡ 0
  runs-left leader i told x =
      (executed-left capacity events leader i told (Op leader)
      (exec-itself capacity events leader i x.place told x.event x.unrefused x.there)).left

  -- Where an operation fails, the one that waits for it ends by the same event.
  pub breaks-with-leader : BreaksWithLeader capacity events
  breaks-with-leader n leader i error x w =
      breaks-behind n leader i w leader error x (waits-apart n leader i leader (Fail error) x w) (runs-left leader i (Fail error) x)

  -- Where an operation ends otherwise, the one that waits for it is in flight still, and waits for none.
  pub starts-behind-leader : StartsBehindLeader capacity events
  starts-behind-leader n leader i count x w =
      let L : Ledger = ledger_before capacity events i in
      let N : Ledger = ledger_before capacity events (suc i) in
      let o : Operation = unless_waits leader w.operation in
      let now : slice_get N.ops n ≡ Some o =
      ap (λ K. slice_get K.ops n) (exec-after capacity events i x.place (Count count) (Op leader) x.event x.unrefused x.there)
      ∙ count-other capacity events n leader i x.place count x.there (waits-apart n leader i leader (Count count) x w)
      ∙ ap (option_map (unless_waits leader)) w.there in
      record {
        operation = o;
        there = now;
        flies = unless-keeps (λ z. z.place) leader w.operation refl ∙ waiting-flies i n leader w;
        free = by w o.waits_for refl;
      }
    where
      by : (w : IsWaiting (ledger_before capacity events i) n leader) (now : Option ℕ) → (unless_waits leader w.operation).waits_for ≡ now →
          (unless_waits leader w.operation).waits_for ≡ None
      by w None is = is
      by w (Some j) is =
          let a = unless-awaits leader j (Some w.operation) is in
          let q : Some leader ≡ Some j = sym w.waits ∙ a.0 in
          let e : leader ≡ j = cc in
          absurd (a.1 (sym e))
