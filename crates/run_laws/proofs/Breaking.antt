-- What a failed operation takes with it is exactly its chain: what waits for it, for that one, and so on, in order.
use Rattle.std.proofs.Common.{◌≡◌, ◌≢◌, inl, inr, ℕ, zero, suc, ◌+◌, ◌≤◌, Bool, true, false, List, [], ◌∷◌, ◌++◌, length, map}
use Rattle.std.proofs.Common.{Some, option_map, slice_get, refl, sym, ◌∙◌, ap, arith}
use Rattle.std.proofs.lemmas.List.{append_assoc}
use Rattle.std.specs.Prelude.{if◌then◌else◌}
use Rattle.machine.specs.declared.request.Told.TheVariants.{Fail}
use Rattle.machine.specs.declared.ledger.Event.{Event}
use Rattle.machine.specs.Lists.{passes}
use Rattle.machine.specs.Ledger.{Ledger, Operation, Item, Op}
use Rattle.machine.specs.Turn.{waits_on, waiting_on, with_result, effect_of, exec_op, complete_at, break_each, break_one}
use Rattle.machine.specs.Run.{ledger_before, IsExecuted}
use Rattle.run_laws.specs.Waits.{IsWaiting, IsChained, Runs, BreaksChain, IsDoneBehind, CompletesInOrder}
use Rattle.machine.proofs.Amended.{get-map}
use Rattle.machine.proofs.Occurring.{same-cases, listed}
use Rattle.machine.proofs.Taking.{flight_mark}
use Rattle.machine.proofs.Listed.{flying-there}
use Rattle.machine.proofs.Releasing.{counted, listed-without-other}
use Rattle.machine.proofs.Behind.{awaited, waits-is, same-at}
use Rattle.machine.proofs.Released.{break_each-done}
use Rattle.run_laws.proofs.Executing.{lists-at, exec-after, executed-left, executed-other, executed-lists}
use Rattle.run_laws.proofs.Waiting.{breaks-behind, waits-apart, runs-left}
use Rattle.run_laws.proofs.Starting.{awaits-waiting}

-- An operation waits for another, by so many others between them, as their numbers tell.
abbrev Awaits : List Operation → ℕ → ℕ → ℕ → Type 0
Awaits ops n leader zero = awaited (slice_get ops n) ≡ Some leader
Awaits ops n leader (suc between) = (m : ℕ) × (awaited (slice_get ops n) ≡ Some m) × Awaits ops m leader between

-- A chain whose first operation waits for one more.
awaits-longer : (ops : List Operation) (n x leader between : ℕ) → Awaits ops n x between → awaited (slice_get ops x) ≡ Some leader →
    Awaits ops n leader (suc between)
awaits-longer ops n x leader zero a w = (x, a, w)
awaits-longer ops n x leader (suc between) a w = (a.0, a.1, awaits-longer ops a.0 x leader between a.2 w)

-- What is listed as waiting for an operation is in its chain.
listed-awaits : (ops : List Operation) (leader : ℕ) (items : List Item) (n : ℕ) → 1 ≤ counted n (waiting_on ops leader items) →
    (between : ℕ) × Awaits ops n leader between
listed-awaits ops leader [] n some = absurd (omega (arith, some))
listed-awaits ops leader (Item.Close h ∷ items) n some = listed-awaits ops leader items n some
listed-awaits ops leader (Op x ∷ items) n some =
    by (listed-awaits ops x items n) (listed-awaits ops leader items n) (passes (waits_on leader) (slice_get ops x)) refl some
  where
    by : (1 ≤ counted n (waiting_on ops x items) → (between : ℕ) × Awaits ops n x between) →
        (1 ≤ counted n (waiting_on ops leader items) → (between : ℕ) × Awaits ops n leader between) →
        (b : Bool) → passes (waits_on leader) (slice_get ops x) ≡ b →
        1 ≤ counted n (if b then x ∷ waiting_on ops x items else waiting_on ops leader items) →
        (between : ℕ) × Awaits ops n leader between
    by behind beside true is some = elim (same-cases n x) [
      | inl e ↦ (0, ap (λ k. awaited (slice_get ops k)) e.0 ∙ waits-is leader (slice_get ops x) is)
      | inr e ↦ (
          let other = e.1 in
          let r = behind (omega (arith, some, other)) in
          (suc r.0, awaits-longer ops n x leader r.0 r.1 (waits-is leader (slice_get ops x) is)))
    ]
    by behind beside false is some = beside some

-- What is among numbers has a place there.
counted-place : (n : ℕ) (numbers : List ℕ) → 1 ≤ counted n numbers → (p : ℕ) × (slice_get numbers p ≡ Some n)
counted-place n [] some = absurd (omega (arith, some))
counted-place n (m ∷ numbers) some = elim (same-cases n m) [
  | inl e ↦ (0, ap Some (sym e.0))
  | inr e ↦ (let z = e.1 in let r = counted-place n numbers (omega (arith, z, some)) in (suc r.0, r.1))
]

-- Behind a first operation, each of those that wait one behind another waits for the one directly before it.
waiting-before : (ops : List Operation) (leader : ℕ) (items : List Item) (p n : ℕ) → slice_get (waiting_on ops leader items) p ≡ Some n →
    (m : ℕ) × (slice_get (leader ∷ waiting_on ops leader items) p ≡ Some m) × (awaited (slice_get ops n) ≡ Some m)
waiting-before ops leader [] p n there = (let f : ⊥ = cc in absurd f)
waiting-before ops leader (Item.Close h ∷ items) p n there = waiting-before ops leader items p n there
waiting-before ops leader (Op x ∷ items) p n there =
    by (waiting-before ops x items) (λ q. waiting-before ops leader items q n) (passes (waits_on leader) (slice_get ops x)) refl p there
  where
    by : ((q k : ℕ) → slice_get (waiting_on ops x items) q ≡ Some k →
        (m : ℕ) × (slice_get (x ∷ waiting_on ops x items) q ≡ Some m) × (awaited (slice_get ops k) ≡ Some m)) →
        ((q : ℕ) → slice_get (waiting_on ops leader items) q ≡ Some n →
        (m : ℕ) × (slice_get (leader ∷ waiting_on ops leader items) q ≡ Some m) × (awaited (slice_get ops n) ≡ Some m)) →
        (b : Bool) → passes (waits_on leader) (slice_get ops x) ≡ b → (q : ℕ) →
        slice_get (if b then x ∷ waiting_on ops x items else waiting_on ops leader items) q ≡ Some n →
        (m : ℕ) × (slice_get (leader ∷ (if b then x ∷ waiting_on ops x items else waiting_on ops leader items)) q ≡ Some m)
        × (awaited (slice_get ops n) ≡ Some m)
    by behind beside true is zero there =
        let e : x ≡ n = cc in (leader, refl, ap (λ k. awaited (slice_get ops k)) (sym e) ∙ waits-is leader (slice_get ops x) is)
    by behind beside true is (suc q) there = behind q n there
    by behind beside false is q there = beside q there

-- What is behind others is at its own place behind theirs.
get-behind : {A : Type 0} (xs ys : List A) (p k : ℕ) → k ≡ length xs + p → slice_get (xs ++ ys) k ≡ slice_get ys p
get-behind [] ys p k is = ap (slice_get ys) (let e : k ≡ p = omega (arith, is) in e)
get-behind (x ∷ xs) ys p zero is = absurd (omega (arith, is))
get-behind (x ∷ xs) ys p (suc k) is = get-behind xs ys p k (omega (arith, is))

-- What isn't among those that end with their leaders stays in flight as often.
unbroken-listed : (L : Ledger) (numbers : List ℕ) (n : ℕ) → counted n numbers ≡ 0 →
    listed n (break_each L numbers).flying ≡ listed n L.flying
unbroken-listed L [] n none = refl
unbroken-listed L (m ∷ numbers) n none = elim (same-cases n m) [
  | inl e ↦ (let one = e.1 in absurd (omega (arith, one, none)))
  | inr e ↦ unbroken-listed (break_one L m) numbers n (omega (arith, none)) ∙ listed-without-other m n L.flying e.0
]

-- A chain of ledgers whose operations wait alike.
awaits-chained : (L : Ledger) (ops : List Operation) → ((k : ℕ) → awaited (slice_get ops k) ≡ awaited (slice_get L.ops k)) →
    (n leader between : ℕ) → Awaits ops n leader between → IsChained L n leader between
awaits-chained L ops alike n leader zero a = awaits-waiting L n leader (sym (alike n) ∙ a)
awaits-chained L ops alike n leader (suc between) a =
    (a.0, awaits-waiting L n a.0 (sym (alike n) ∙ a.1), awaits-chained L ops alike a.0 leader between a.2)

module _ (capacity : ℕ) (events : List Event) (leader i error : ℕ) (x : Runs capacity events leader i (Fail error)) where
  -- The ledger before the event.
  abbrev L : Ledger
  L = ledger_before capacity events i

  -- That in which the operation has failed, and nothing has ended with it yet.
  abbrev E : Ledger
  E = exec_op (complete_at L x.place (Op leader)) leader (Fail error) (slice_get L.ops leader)

  -- Each operation waits there for whom it waited.
  failed-awaits : (k : ℕ) → awaited (slice_get E.ops k) ≡ awaited (slice_get L.ops k)
  failed-awaits k =
      let f = flying-there L x.place leader (lists-at capacity events i) x.there in
      ap (λ o. awaited (slice_get (exec_op (complete_at L x.place (Op leader)) leader (Fail error) o).ops k)) f.1
      ∙ same-at awaited L.ops leader (with_result (Fail error) (effect_of L f.0.request (Fail error))) (λ o there. refl) k

  -- What is in a chain behind it ends by the same event.
  chained-ends : (n between : ℕ) → IsChained L n leader between → IsExecuted capacity events n i (Fail error) (Op leader)
  chained-ends n zero w =
      breaks-behind capacity events n leader i w leader error x (waits-apart capacity events n leader i leader (Fail error) x w)
      (runs-left capacity events leader i (Fail error) x)
  chained-ends n (suc between) c =
      breaks-behind capacity events n c.0 i c.1 leader error x (waits-apart capacity events n leader i c.0 (Fail error) x c.1)
      (executed-left capacity events c.0 i (Fail error) (Op leader) (chained-ends c.0 between c.2)).left

  -- Those that wait for it, one behind another, once it has failed.
  abbrev chain : List ℕ
  chain = waiting_on E.ops leader E.flying

  -- What ends by the same event, and isn't the operation itself, is among them.
  ends-listed : (n : ℕ) → n ≢ leader → IsExecuted capacity events n i (Fail error) (Op leader) → 1 ≤ counted n chain
  ends-listed n other e =
      let left = executed-left capacity events n i (Fail error) (Op leader) e in
      let same = executed-other capacity events n leader i x.place (Fail error) x.there other in
      let flies : listed n E.flying ≡ 1 =
      (executed-lists capacity events n leader i x.place (Fail error) x.there other).flown n ∙ ap flight_mark same ∙ left.flew in
      let gone : listed n (break_each E chain).flying ≡ 0 =
      ap (λ K. listed n K.flying) (sym (exec-after capacity events i x.place (Fail error) (Op leader) x.event x.unrefused x.there))
      ∙ (lists-at capacity events (suc i)).flown n ∙ left.left in
      by flies gone (counted n chain) refl
    where
      by : listed n E.flying ≡ 1 → listed n (break_each E chain).flying ≡ 0 → (c : ℕ) → counted n chain ≡ c → 1 ≤ counted n chain
      by flies gone zero is = (let stays = unbroken-listed E chain n is in absurd (omega (arith, stays, flies, gone)))
      by flies gone (suc c) is = omega (arith, is)

  -- So it is in a chain behind it.
  ends-chained : (n : ℕ) → n ≢ leader → IsExecuted capacity events n i (Fail error) (Op leader) →
      (between : ℕ) × IsChained L n leader between
  ends-chained n other e =
      let r = listed-awaits E.ops leader E.flying n (ends-listed n other e) in
      (r.0, awaits-chained L E.ops failed-awaits n leader r.0 r.1)

  -- What is done after the event: what was, the operation, and its chain, in order.
  ends-done : (ledger_before capacity events (suc i)).done ≡ L.done ++ map Op (leader ∷ chain)
  ends-done =
      let f = flying-there L x.place leader (lists-at capacity events i) x.there in
      ap (λ K. K.done) (exec-after capacity events i x.place (Fail error) (Op leader) x.event x.unrefused x.there)
      ∙ break_each-done E chain
      ∙ ap (λ o. (exec_op (complete_at L x.place (Op leader)) leader (Fail error) o).done ++ map Op chain) f.1
      ∙ append_assoc L.done (Op leader ∷ []) (map Op chain)

  -- What waits for one of these completes directly behind it.
  waits-done : (n m : ℕ) → IsExecuted capacity events m i (Fail error) (Op leader) → IsWaiting L n m →
      IsDoneBehind (ledger_before capacity events (suc i)) n m
  waits-done n m e w =
      let other : n ≢ leader = waits-apart capacity events n leader i m (Fail error) x w in
      let ends : IsExecuted capacity events n i (Fail error) (Op leader) =
      breaks-behind capacity events n m i w leader error x other
      (executed-left capacity events m i (Fail error) (Op leader) e).left in
      let p = counted-place n chain (ends-listed n other ends) in
      let b = waiting-before E.ops leader E.flying p.0 n p.1 in
      let same : Some b.0 ≡ Some m = sym b.2 ∙ failed-awaits n ∙ ap awaited w.there ∙ w.waits in
      let q : b.0 ≡ m = cc in
      let at : (k place : ℕ) → place ≡ length L.done + k → slice_get (ledger_before capacity events (suc i)).done place
      ≡ option_map Op (slice_get (leader ∷ chain) k) =
      λ k place is. ap (λ items. slice_get items place) ends-done ∙ get-behind L.done (map Op (leader ∷ chain)) k place is
      ∙ get-map Op (leader ∷ chain) k in
      record {
        place = length L.done + p.0;
        ahead = at p.0 (length L.done + p.0) refl ∙ ap (option_map Op) b.1 ∙ ap (λ j. Some (Op j)) q;
        next = at (suc p.0) (suc (length L.done + p.0)) (omega arith) ∙ ap (option_map Op) p.1;
      }

-- A chain completes in order.
pub completes-in-order : (capacity : ℕ) (events : List Event) → CompletesInOrder capacity events
completes-in-order capacity events n m leader i error x e w = waits-done capacity events leader i error x n m e w

-- What a failed operation takes with it is exactly its chain.
pub breaks-chain : (capacity : ℕ) (events : List Event) → BreaksChain capacity events
breaks-chain capacity events n leader i error x other = (
  ends-chained capacity events leader i error x n other,
  λ c. chained-ends capacity events leader i error x n c.0 c.1,
)
