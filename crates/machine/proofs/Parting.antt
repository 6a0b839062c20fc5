-- What an execution releases leaves each operation that waits directly behind the one that it waits for.
use Rattle.std.proofs.Common.{◌≡◌, ◌≢◌, inl, inr, ℕ, zero, suc, ◌≤◌, Bool, true, false, List, [], ◌∷◌, take, drop, remove, map}
use Rattle.std.proofs.Common.{Option, Some, None, option_map, slice_get, refl, sym, ◌∙◌, ap, subst, arith}
use Rattle.std.specs.Prelude.{if◌then◌else◌, is_some}
use Rattle.machine.specs.declared.request.Told.{Told}
use Rattle.machine.specs.declared.request.Told.TheVariants.{Count, Fail}
use Rattle.machine.specs.Lists.{amended, passes}
use Rattle.machine.specs.Effect.{Effect}
use Rattle.machine.specs.Ledger.{Ledger, Operation, Item, Op}
use Rattle.machine.specs.Turn.{waiting_on, unless_waits, with_break, break_one, break_each, released, with_result, with_effect}
use Rattle.machine.specs.Turn.{complete_at}
use Rattle.machine.specs.Turn.{exec_op, effect_of}
use Rattle.machine.specs.Refusal.{waits}
use Rattle.machine.proofs.Numbers.{same-or-not, none-of}
use Rattle.machine.proofs.Amended.{get-amended-other, get-map, changed-cases}
use Rattle.machine.proofs.Occurring.{listed, listed-remove}
use Rattle.machine.proofs.Taking.{flight_mark, Listed}
use Rattle.machine.proofs.Listed.{flying-there}
use Rattle.machine.proofs.Releasing.{without, listed-without, Flies, flies-listed, flight-mark-most, listed-break_one, let_go}
use Rattle.machine.proofs.Releasing.{unless-marks}
use Rattle.machine.proofs.Behind.{awaited, awaited_by, AreBehind, waiting_front, no-number, listed-here, listed-there, same-at}
use Rattle.machine.proofs.Behind.{behind-fewer, behind-before, behind-after, behind-take, behind-drop, behind-join, without-remove}
use Rattle.machine.proofs.Behind.{front-same}
use Rattle.machine.proofs.Behind.{AreOnce, place-waits, unless-awaits, unless-free}

-- Each operation that waits is in flight, directly behind the one that it waits for.
pub record Follows (L : Ledger) : Type 0 where
  pub idle : (n : ℕ) → flight_mark (slice_get L.ops n) ≡ 0 → awaited (slice_get L.ops n) ≡ None
  pub behind : AreBehind L.ops None L.flying

-- The same where an operation just left its place in flight: what was behind it may wait for it still.
pub record Parted (L : Ledger) (n place : ℕ) : Type 0 where
  pub idle : (k : ℕ) → flight_mark (slice_get L.ops k) ≡ 0 → awaited (slice_get L.ops k) ≡ None
  pub before : AreBehind L.ops None (take place L.flying)
  pub after : AreBehind L.ops (Some n) (drop place L.flying)
  pub gone : listed n L.flying ≡ 0

-- Nothing is in flight twice.
pub flying-once : (L : Ledger) → Listed L → AreOnce L.flying
flying-once L l = record {
  once = λ k. (let a = l.flown k in let m = flight-mark-most (slice_get L.ops k) in omega (arith, a, m));
}

-- Those that an execution releases are the ones from its place on that wait, up to the first item that doesn't.
pub parted-waits : (L : Ledger) (n place : ℕ) → Listed L → Parted L n place →
    waiting_on L.ops n L.flying ≡ waiting_front L.ops (drop place L.flying)
parted-waits L n place l p =
    place-waits L.ops n None L.flying place p.before (λ is. (let f : ⊥ = cc in f)) p.after p.gone (flying-once L l)

-- The item at a place is the first from there on.
pub get-drop : (items : List Item) (place : ℕ) → slice_get (drop place items) 0 ≡ slice_get items place
get-drop [] zero = refl
get-drop [] (suc place) = refl
get-drop (x ∷ items) zero = refl
get-drop (x ∷ items) (suc place) = get-drop items place

-- What is behind a place is there once the item at the place left.
pub drop-removed : (items : List Item) (place : ℕ) (item : Item) (rest : List Item) → drop place items ≡ item ∷ rest →
    drop place (remove items place) ≡ rest
drop-removed [] zero item rest is = (let f : ⊥ = cc in absurd f)
drop-removed [] (suc place) item rest is = (let f : ⊥ = cc in absurd f)
drop-removed (x ∷ items) zero item rest is = cc
drop-removed (x ∷ items) (suc place) item rest is = drop-removed items place item rest is

-- From a place on an operation is no oftener than in all.
listed-drop : (k : ℕ) (items : List Item) (place : ℕ) → listed k (drop place items) ≤ listed k items
listed-drop k [] zero = omega arith
listed-drop k [] (suc place) = omega arith
listed-drop k (x ∷ items) zero = omega arith
listed-drop k (Op x ∷ items) (suc place) = (let r = listed-drop k items place in omega (arith, r))
listed-drop k (Item.Close h ∷ items) (suc place) = listed-drop k items place

-- The first of those at the front that wait.
pub record Leads (ops : List Operation) (items : List Item) (m : ℕ) (numbers : List ℕ) : Type 0 where
  pub rest : List Item
  pub items_are : items ≡ Op m ∷ rest
  pub rest_are : numbers ≡ waiting_front ops rest

-- Where some wait, the first of the items is the first of them.
pub front-first : (ops : List Operation) (items : List Item) (m : ℕ) (numbers : List ℕ) → m ∷ numbers ≡ waiting_front ops items →
    Leads ops items m numbers
front-first ops [] m numbers is = (let f : ⊥ = cc in absurd f)
front-first ops (Op x ∷ items) m numbers is = by (is_some (awaited (slice_get ops x))) is
  where
    by : (b : Bool) → m ∷ numbers ≡ (if b then x ∷ waiting_front ops items else []) → Leads ops (Op x ∷ items) m numbers
    by true q = (
        let e : m ≡ x = cc in
        let r : numbers ≡ waiting_front ops items = cc in
        record { rest = items; items_are = ap (λ j. Op j ∷ items) (sym e); rest_are = r })
    by false q = (let f : ⊥ = cc in absurd f)
front-first ops (Item.Close h ∷ items) m numbers is = (let f : ⊥ = cc in absurd f)

-- Where none waits at the front, the first item doesn't.
front-none : (ops : List Operation) (items : List Item) → [] ≡ waiting_front ops items → (item : Item) → slice_get items 0 ≡ Some item →
    awaited_by ops item ≡ None
front-none ops [] none item there = (let f : ⊥ = cc in absurd f)
front-none ops (Op x ∷ items) none item there =
    let e : Op x ≡ item = cc in ap (awaited_by ops) (sym e) ∙ by (awaited (slice_get ops x)) refl none
  where
    by : (w : Option ℕ) → awaited (slice_get ops x) ≡ w → [] ≡
        (if is_some (awaited (slice_get ops x)) then x ∷ waiting_front ops items else []) →
        awaited (slice_get ops x) ≡ None
    by None at q = at
    by (Some j) at q =
        let z : [] ≡ x ∷ waiting_front ops items = q ∙ ap (λ w. if is_some w then x ∷ waiting_front ops items else []) at in
        let f : ⊥ = cc in absurd f
front-none ops (Item.Close h ∷ items) none item there = let e : Item.Close h ≡ item = cc in ap (awaited_by ops) (sym e)

-- The first of items before which there is no operation waits for none.
first-none : (ops : List Operation) (items : List Item) → AreBehind ops None items → (item : Item) → slice_get items 0 ≡ Some item →
    awaited_by ops item ≡ None
first-none ops [] b item there = (let f : ⊥ = cc in absurd f)
first-none ops (x ∷ items) b item there =
    let e : x ≡ item = cc in ap (awaited_by ops) (sym e) ∙ by (awaited_by ops x) refl
  where
    by : (w : Option ℕ) → awaited_by ops x ≡ w → w ≡ None
    by None at = refl
    by (Some j) at = (let q : None ≡ Some j = b.0 j at in let f : ⊥ = cc in absurd f)

-- Nor does the first that waited for n, once nothing does.
first-free : (ops new : List Operation) (n : ℕ) (items : List Item) → AreBehind ops (Some n) items →
    ((k j : ℕ) → awaited (slice_get new k) ≡ Some j → (awaited (slice_get ops k) ≡ Some j) × (j ≢ n)) → (item : Item) →
    slice_get items 0 ≡ Some item → awaited_by new item ≡ None
first-free ops new n [] b down item there = (let f : ⊥ = cc in absurd f)
first-free ops new n (Op x ∷ items) b down item there =
    let e : Op x ≡ item = cc in ap (awaited_by new) (sym e) ∙ by (awaited (slice_get new x)) refl
  where
    by : (w : Option ℕ) → awaited (slice_get new x) ≡ w → w ≡ None
    by None at = refl
    by (Some j) at =
        let a = down x j at in
        let q : Some n ≡ Some j = b.0 j a.0 in
        let z : n ≡ j = cc in
        absurd (a.1 (sym z))
first-free ops new n (Item.Close h ∷ items) b down item there = let e : Item.Close h ≡ item = cc in ap (awaited_by new) (sym e)

-- An operation that ended with its leader waits for none.
broken-free : (x : Option Operation) → awaited (option_map with_break x) ≡ None
broken-free None = refl
broken-free (Some o) = refl

-- The first that waits ends with its leader: what was behind it may wait for it still.
module _ (L : Ledger) (n place m : ℕ) (l : Listed L) (p : Parted L n place) (there : slice_get L.flying place ≡ Some (Op m)) where
  -- It leaves its place.
  pub leaves : without m L.flying ≡ remove L.flying place
  leaves = without-remove m L.flying place there ((flying-once L l).once m)

  -- Nobody waits more.
  break-fewer : (k j : ℕ) → awaited (slice_get (amended L.ops m with_break) k) ≡ Some j → awaited (slice_get L.ops k) ≡ Some j
  break-fewer k j is = elim (changed-cases with_break L.ops m k) [
    | inl e ↦ no-number j (awaited (slice_get (amended L.ops m with_break) k)) (ap awaited e.1 ∙ broken-free (slice_get L.ops m)) is
    | inr e ↦ sym (ap awaited e.1) ∙ is
  ]

  -- The operation is parted from those behind it.
  pub parted-break : Parted (break_one L m) m place
  parted-break = record {
    idle = λ k h. elim (changed-cases with_break L.ops m k) [
      | inl e ↦ ap awaited e.1 ∙ broken-free (slice_get L.ops m)
      | inr e ↦ ap awaited e.1 ∙ p.idle k (sym (ap flight_mark e.1) ∙ h)
    ];
    before =
        subst (λ xs. AreBehind (amended L.ops m with_break) None (take place xs)) (sym leaves)
        (behind-fewer L.ops (amended L.ops m with_break) None (take place (remove L.flying place)) (λ k j some is. break-fewer k j is)
        (behind-before L.ops None L.flying place p.before));
    after =
        subst (λ xs. AreBehind (amended L.ops m with_break) (Some m) (drop place xs)) (sym leaves)
        (behind-fewer L.ops (amended L.ops m with_break) (Some m) (drop place (remove L.flying place)) (λ k j some is. break-fewer k j is)
        (behind-after L.ops (Some n) L.flying place (Op m) there p.after));
    gone = listed-without m L.flying;
  }

  -- Those that wait behind it wait as they did.
  pub break-front : (rest : List Item) → drop place L.flying ≡ Op m ∷ rest →
      waiting_front (amended L.ops m with_break) (drop place (without m L.flying)) ≡ waiting_front L.ops rest
  break-front rest are =
      let left : drop place (without m L.flying) ≡ rest = ap (drop place) leaves ∙ drop-removed L.flying place (Op m) rest are in
      front-same L.ops (amended L.ops m with_break) (drop place (without m L.flying)) (λ k some. ap awaited
      (get-amended-other with_break L.ops m k (λ e. (
      let d = listed-drop m (without m L.flying) place in
      let z = listed-without m L.flying in
      let s : 1 ≤ listed m (drop place (without m L.flying)) = subst (λ j. 1 ≤ listed j (drop place (without m L.flying))) e some in
      omega (arith, d, z, s)))))
      ∙ ap (waiting_front L.ops) left

-- Those at the front that wait end with their leaders, one after another.
pub follows-break_each : (L : Ledger) (n place : ℕ) (numbers : List ℕ) → numbers ≡ waiting_front L.ops (drop place L.flying) → Listed L →
    Parted L n place → Follows (break_each L numbers)
follows-break_each L n place [] none l p = record {
  idle = p.idle;
  behind = behind-join L.ops None (Some n) L.flying place p.before p.after
      (λ item there. front-none L.ops (drop place L.flying) none item (get-drop L.flying place ∙ there));
}
follows-break_each L n place (m ∷ numbers) are l p =
    let f : Leads L.ops (drop place L.flying) m numbers = front-first L.ops (drop place L.flying) m numbers are in
    let there : slice_get L.flying place ≡ Some (Op m) = sym (get-drop L.flying place) ∙ ap (λ xs. slice_get xs 0) f.items_are in
    let flies : Flies L m = flies-listed L m l (listed-there L.flying place m there) in
    follows-break_each (break_one L m) m place numbers (f.rest_are ∙ sym (break-front L n place m l p there f.rest f.items_are))
    (listed-break_one L m flies l) (parted-break L n place m l p there)

-- The one that waits for an operation waits no more.
pub follows-let_go : (L : Ledger) (n place : ℕ) → Parted L n place → Follows (let_go L n)
follows-let_go L n place p = record {
  idle = λ k h. ap awaited (at k)
      ∙ unless-free n (slice_get L.ops k) (p.idle k (sym (unless-marks n (slice_get L.ops k)).1 ∙ sym (ap flight_mark (at k)) ∙ h));
  behind = behind-join new None (Some n) L.flying place
      (behind-fewer L.ops new None (take place L.flying) (λ k j some is. (down k j is).0) p.before)
      (behind-fewer L.ops new (Some n) (drop place L.flying) (λ k j some is. (down k j is).0) p.after)
      (λ item there. first-free L.ops new n (drop place L.flying) p.after down item (get-drop L.flying place ∙ there));
}
  where
    new : List Operation
    new = map (unless_waits n) L.ops

    at : (k : ℕ) → slice_get (map (unless_waits n) L.ops) k ≡ option_map (unless_waits n) (slice_get L.ops k)
    at k = get-map (unless_waits n) L.ops k

    down : (k j : ℕ) → awaited (slice_get (map (unless_waits n) L.ops) k) ≡ Some j → (awaited (slice_get L.ops k) ≡ Some j) × (j ≢ n)
    down k j is = unless-awaits n j (slice_get L.ops k) (sym (ap awaited (at k)) ∙ is)

-- Those that wait for an operation that was executed are released.
pub follows-released : (told : Told) (L : Ledger) (n place : ℕ) → Listed L → Parted L n place → Follows (released told L n)
follows-released (Fail e) L n place l p =
    follows-break_each L n place (waiting_on L.ops n L.flying) (parted-waits L n place l p) l p
follows-released (Count k) L n place l p = follows-let_go L n place p

-- An operation that waits for none, by the test.
free-is : (x : Option Operation) → passes (λ operation. is_some operation.waits_for) x ≡ false → awaited x ≡ None
free-is None h = refl
free-is (Some o) h = none-of o.waits_for h

-- The operation at a place is executed, and parted from those behind it.
pub parted-effect : (L : Ledger) (place n : ℕ) (told : Told) (result : Effect) → slice_get L.flying place ≡ Some (Op n) →
    awaited (slice_get L.ops n) ≡ None → Listed L → Follows L → Parted (with_effect (complete_at L place (Op n)) n told result) n place
parted-effect L place n told result there free l f = record {
  idle = λ k h. stays k ∙ elim (same-or-not k n) [
    | inl e ↦ ap (λ j. awaited (slice_get L.ops j)) e ∙ free
    | inr e ↦ f.idle k (sym (ap flight_mark (get-amended-other (with_result told result) L.ops n k e)) ∙ h)
  ];
  before = behind-fewer L.ops new None (take place (remove L.flying place)) (λ k j some is. sym (stays k) ∙ is)
      (behind-before L.ops None L.flying place (behind-take L.ops None L.flying place f.behind));
  after = behind-fewer L.ops new (Some n) (drop place (remove L.flying place)) (λ k j some is. sym (stays k) ∙ is)
      (behind-after L.ops (behind-drop L.ops None L.flying place f.behind).0 L.flying place (Op n) there
      (behind-drop L.ops None L.flying place f.behind).1);
  gone = (
      let r = listed-remove n L.flying place (Op n) there in
      let h : 1 ≤ listed n (Op n ∷ []) = listed-here n [] in
      let once = (flying-once L l).once n in
      omega (arith, r, h, once));
}
  where
    new : List Operation
    new = amended L.ops n (with_result told result)

    stays : (k : ℕ) → awaited (slice_get (amended L.ops n (with_result told result)) k) ≡ awaited (slice_get L.ops k)
    stays k = same-at awaited L.ops n (with_result told result) (λ o at. refl) k

-- The operation at a place is executed.
pub parted-executed : (L : Ledger) (place : ℕ) (told : Told) (n : ℕ) → slice_get L.flying place ≡ Some (Op n) → waits L (Op n) ≡ false →
    Listed L → Follows L → Parted (exec_op (complete_at L place (Op n)) n told (slice_get L.ops n)) n place
parted-executed L place told n there free l f =
    let o = flying-there L place n l there in
    subst (λ x. Parted (exec_op (complete_at L place (Op n)) n told x) n place) (sym o.1)
    (parted-effect L place n told (effect_of L o.0.request told) there (free-is (slice_get L.ops n) free) l f)

-- The close at a place is executed.
pub follows-closed : (L : Ledger) (place h : ℕ) → slice_get L.flying place ≡ Some (Item.Close h) → Follows L →
    Follows (complete_at L place (Item.Close h))
follows-closed L place h there f =
    let d = behind-drop L.ops None L.flying place f.behind in
    let after : AreBehind L.ops None (drop place (remove L.flying place)) =
    behind-after L.ops d.0 L.flying place (Item.Close h) there d.1 in
    record {
      idle = f.idle;
      behind = behind-join L.ops None None (remove L.flying place) place
          (behind-before L.ops None L.flying place (behind-take L.ops None L.flying place f.behind)) after
          (λ item at. first-none L.ops (drop place (remove L.flying place)) after item (get-drop (remove L.flying place) place ∙ at));
    }
