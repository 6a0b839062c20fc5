-- Whom each operation in flight waits for: the one directly before it, or none; and who waits by that for one that was executed.
use Rattle.std.proofs.Common.{◌≡◌, ◌≢◌, inl, inr, ℕ, zero, suc, ◌+◌, ◌≤◌, Bool, true, false, cond, not, List, [], ◌∷◌, ◌++◌, take, drop}
use Rattle.std.proofs.Common.{remove}
use Rattle.std.proofs.Common.{Option, Some, None, option_map, slice_get, refl, sym, ◌∙◌, ap, subst, arith, true≢false}
use Rattle.std.specs.Prelude.{if◌then◌else◌, ◌==◌, is_some}
use Rattle.std.proofs.lemmas.Bool.Decides.{eqb_tells}
use Rattle.machine.specs.Lists.{amended, passes}
use Rattle.machine.specs.Ledger.{Operation, Item, Op}
use Rattle.machine.specs.Turn.{waits_on, waiting_on, without_wait, unless_waits}
use Rattle.machine.proofs.Numbers.{equal-self}
use Rattle.machine.proofs.Amended.{changed-cases}
use Rattle.machine.proofs.Occurring.{same, same-cases, listed, listed-remove}
use Rattle.machine.proofs.Releasing.{without}

-- Whom an operation that was looked up waits for.
abbrev pub awaited : Option Operation → Option ℕ
awaited None = None
awaited (Some o) = o.waits_for

-- Whom an item waits for.
abbrev pub awaited_by : List Operation → Item → Option ℕ
awaited_by ops (Op n) = awaited (slice_get ops n)
awaited_by ops (Item.Close h) = None

-- The operation of an item: a close has none.
abbrev pub op_of : Item → Option ℕ
op_of (Op n) = Some n
op_of (Item.Close h) = None

-- Each item that waits is directly behind the one that it waits for; before the first is an operation, or none.
abbrev pub AreBehind : List Operation → Option ℕ → List Item → Type 0
AreBehind ops before [] = Unit {0}
AreBehind ops before (item ∷ items) = ((m : ℕ) → awaited_by ops item ≡ Some m → before ≡ Some m) × AreBehind ops (op_of item) items

-- The operation of the last item.
abbrev pub last_op : Option ℕ → List Item → Option ℕ
last_op before [] = before
last_op before (item ∷ items) = last_op (op_of item) items

-- The operations at the front that wait, up to the first item that doesn't.
abbrev pub waiting_front : List Operation → List Item → List ℕ
waiting_front ops [] = []
waiting_front ops (Op m ∷ items) = if is_some (awaited (slice_get ops m)) then m ∷ waiting_front ops items else []
waiting_front ops (Item.Close h ∷ items) = []

-- No number is none.
pub no-number : {Y : Type 0} (m : ℕ) (x : Option ℕ) → x ≡ None → x ≡ Some m → Y
no-number m x none is = (let q : None ≡ Some m = sym none ∙ is in let f : ⊥ = cc in absurd f)

-- The first of items is among them.
pub listed-here : (n : ℕ) (items : List Item) → 1 ≤ listed n (Op n ∷ items)
listed-here n items = elim (same-cases n n) [
  | inl e ↦ (let one = e.1 in omega (arith, one))
  | inr e ↦ absurd (e.0 refl)
]

-- What stands at a place is among the items.
pub listed-there : (items : List Item) (place m : ℕ) → slice_get items place ≡ Some (Op m) → 1 ≤ listed m items
listed-there items place m there =
    let r = listed-remove m items place (Op m) there in
    let h : 1 ≤ listed m (Op m ∷ []) = listed-here m [] in
    omega (arith, r, h)

-- What is read of each operation stays, where a change leaves it.
pub same-at : {X : Type 0} (g : Option Operation → X) (ops : List Operation) (n : ℕ) (change : Operation → Operation) →
    ((o : Operation) → slice_get ops n ≡ Some o → g (Some (change o)) ≡ g (Some o)) → (k : ℕ) →
    g (slice_get (amended ops n change) k) ≡ g (slice_get ops k)
same-at g ops n change keeps k = elim (changed-cases change ops n k) [
  | inl e ↦ ap g e.1 ∙ by (slice_get ops n) refl ∙ sym (ap (λ j. g (slice_get ops j)) e.0)
  | inr e ↦ ap g e.1
]
  where
    by : (x : Option Operation) → slice_get ops n ≡ x → g (option_map change x) ≡ g x
    by None there = refl
    by (Some o) there = keeps o there

-- Where no operation among items waits for more, each is behind whom it waits for still.
pub behind-fewer : (ops new : List Operation) (before : Option ℕ) (items : List Item) →
    ((n m : ℕ) → 1 ≤ listed n items → awaited (slice_get new n) ≡ Some m → awaited (slice_get ops n) ≡ Some m) →
    AreBehind ops before items → AreBehind new before items
behind-fewer ops new before [] fewer b = tt
behind-fewer ops new before (Op n ∷ items) fewer b = (
  λ m is. b.0 m (fewer n m (listed-here n items) is),
  behind-fewer ops new (Some n) items (λ k m some is. fewer k m (omega (arith, some)) is) b.1,
)
behind-fewer ops new before (Item.Close h ∷ items) fewer b = (b.0, behind-fewer ops new None items fewer b.1)

-- The last of joined items.
pub last-append : (before : Option ℕ) (items : List Item) (item : Item) → last_op before (items ++ item ∷ []) ≡ op_of item
last-append before [] item = refl
last-append before (x ∷ items) item = last-append (op_of x) items item

-- One item more, that waits for the last, or for none.
pub behind-append : (ops : List Operation) (before : Option ℕ) (items : List Item) (item : Item) → AreBehind ops before items →
    ((m : ℕ) → awaited_by ops item ≡ Some m → last_op before items ≡ Some m) → AreBehind ops before (items ++ item ∷ [])
behind-append ops before [] item b waits = (waits, tt)
behind-append ops before (x ∷ items) item b waits = (b.0, behind-append ops (op_of x) items item b.1 waits)

-- What is before a place stays as an item leaves it.
pub behind-before : (ops : List Operation) (before : Option ℕ) (items : List Item) (place : ℕ) → AreBehind ops before (take place items) →
    AreBehind ops before (take place (remove items place))
behind-before ops before [] zero b = tt
behind-before ops before [] (suc place) b = tt
behind-before ops before (x ∷ items) zero b = tt
behind-before ops before (x ∷ items) (suc place) b = (b.0, behind-before ops (op_of x) items place b.1)

-- What is behind a place is behind the item that leaves it.
pub behind-after : (ops : List Operation) (before : Option ℕ) (items : List Item) (place : ℕ) (item : Item) →
    slice_get items place ≡ Some item → AreBehind ops before (drop place items) →
    AreBehind ops (op_of item) (drop place (remove items place))
behind-after ops before [] place item there b = cc
behind-after ops before (x ∷ items) zero item there b = let e : x ≡ item = cc in subst (λ i. AreBehind ops (op_of i) items) e b.1
behind-after ops before (x ∷ items) (suc place) item there b = behind-after ops before items place item there b

-- Items are behind whom they wait for up to a place, and from it on.
pub behind-take : (ops : List Operation) (before : Option ℕ) (items : List Item) (place : ℕ) → AreBehind ops before items →
    AreBehind ops before (take place items)
behind-take ops before [] zero b = tt
behind-take ops before [] (suc place) b = tt
behind-take ops before (x ∷ items) zero b = tt
behind-take ops before (x ∷ items) (suc place) b = (b.0, behind-take ops (op_of x) items place b.1)

-- From a place on they are behind some operation, or behind none.
pub behind-drop : (ops : List Operation) (before : Option ℕ) (items : List Item) (place : ℕ) → AreBehind ops before items →
    (b : Option ℕ) × AreBehind ops b (drop place items)
behind-drop ops before [] zero b = (before, tt)
behind-drop ops before [] (suc place) b = (before, tt)
behind-drop ops before (x ∷ items) zero b = (before, b)
behind-drop ops before (x ∷ items) (suc place) b = behind-drop ops (op_of x) items place b.1

-- Items up to a place and from it on join, where the first from it on waits for none.
pub behind-join : (ops : List Operation) (before b : Option ℕ) (items : List Item) (place : ℕ) → AreBehind ops before (take place items) →
    AreBehind ops b (drop place items) → ((item : Item) → slice_get items place ≡ Some item → awaited_by ops item ≡ None) →
    AreBehind ops before items
behind-join ops before b [] place up on free = tt
behind-join ops before b (x ∷ items) zero up on free =
    (λ m is. no-number m (awaited_by ops x) (free x refl) is, on.1)
behind-join ops before b (x ∷ items) (suc place) up on free = (up.0, behind-join ops (op_of x) b items place up.1 on free)

-- The items but one that isn't among them.
pub without-none : (m : ℕ) (items : List Item) → listed m items ≡ 0 → without m items ≡ items
without-none m [] none = refl
without-none m (Op x ∷ items) none = elim (eqb_tells m x) [
  | inl e ↦ (
      let q : 1 ≤ listed m (Op m ∷ items) = listed-here m items in
      let z : listed m (Op m ∷ items) ≡ 0 = ap (λ j. listed m (Op j ∷ items)) e.1 ∙ none in
      absurd (omega (arith, q, z)))
  | inr e ↦ ap (λ b. cond (not b) (Op x ∷ without m items) (without m items)) e.0
      ∙ ap (λ xs. Op x ∷ xs) (without-none m items (omega (arith, none)))
]
without-none m (Item.Close h ∷ items) none = ap (λ xs. Item.Close h ∷ xs) (without-none m items none)

-- The items but one that is among them once.
pub without-remove : (m : ℕ) (items : List Item) (place : ℕ) → slice_get items place ≡ Some (Op m) → listed m items ≤ 1 →
    without m items ≡ remove items place
without-remove m [] place there once = cc
without-remove m (Op x ∷ items) zero there once =
    let e : Op x ≡ Op m = cc in
    let here : 1 ≤ listed m (Op m ∷ []) = listed-here m [] in
    let one : 1 ≤ same m x = (let f = ap (λ i. listed m (i ∷ [])) e in omega (arith, f, here)) in
    elim (eqb_tells m x) [
      | inl t ↦ ap (λ b. cond (not b) (Op x ∷ without m items) (without m items)) t.0 ∙ without-none m items (omega (arith, one, once))
      | inr t ↦ absurd (t.1 (let g : x ≡ m = cc in sym g))
    ]
without-remove m (Op x ∷ items) (suc place) there once =
    let some : 1 ≤ listed m items = listed-there items place m there in
    elim (eqb_tells m x) [
      | inl t ↦ (
          let q : 1 ≤ listed m (Op m ∷ []) = listed-here m [] in
          let z : listed m (Op m ∷ items) ≤ 1 = subst (λ j. listed m (Op j ∷ items) ≤ 1) (sym t.1) once in
          absurd (omega (arith, some, q, z)))
      | inr t ↦ ap (λ b. cond (not b) (Op x ∷ without m items) (without m items)) t.0
          ∙ ap (λ xs. Op x ∷ xs) (without-remove m items place there (omega (arith, once)))
    ]
without-remove m (Item.Close h ∷ items) zero there once = (let f : ⊥ = cc in absurd f)
without-remove m (Item.Close h ∷ items) (suc place) there once =
    ap (λ xs. Item.Close h ∷ xs) (without-remove m items place there once)

-- Those at the front that wait are the same, where each among the items waits for the same.
pub front-same : (ops new : List Operation) (items : List Item) →
    ((n : ℕ) → 1 ≤ listed n items → awaited (slice_get new n) ≡ awaited (slice_get ops n)) →
    waiting_front new items ≡ waiting_front ops items
front-same ops new [] same = refl
front-same ops new (Op m ∷ items) same =
    ap (λ w. if is_some w then m ∷ waiting_front new items else []) (same m (listed-here m items))
    ∙ ap (λ ms. if is_some (awaited (slice_get ops m)) then m ∷ ms else [])
    (front-same ops new items (λ n some. same n (omega (arith, some))))
front-same ops new (Item.Close h ∷ items) same = refl

-- An operation that waits for n, by the test, does; and the other way round.
pub waits-is : (n : ℕ) (x : Option Operation) → passes (waits_on n) x ≡ true → awaited x ≡ Some n
waits-is n None is = (let f : ⊥ = cc in absurd f)
waits-is n (Some o) is = by o.waits_for is
  where
    by : (w : Option ℕ) → passes (λ leader. leader == n) w ≡ true → w ≡ Some n
    by None t = (let f : ⊥ = cc in absurd f)
    by (Some leader) t = elim (eqb_tells leader n) [
      | inl e ↦ ap Some e.1
      | inr e ↦ absurd (true≢false (sym t ∙ e.0))
    ]

-- An operation that waits for n passes the test.
is-waits : (n : ℕ) (x : Option Operation) → awaited x ≡ Some n → passes (waits_on n) x ≡ true
is-waits n None is = (let f : ⊥ = cc in absurd f)
is-waits n (Some o) is = ap (passes (λ leader. leader == n)) is ∙ equal-self n

-- A test that can't pass fails.
test-fails : (b : Bool) → (b ≡ true → ⊥) → b ≡ false
test-fails true none = absurd (none refl)
test-fails false none = refl

-- A number that isn't among items isn't that of the first.
not-first : (n x : ℕ) (items : List Item) → listed n (Op x ∷ items) ≡ 0 → Some x ≡ Some n → ⊥
not-first n x items none is =
    let e : x ≡ n = cc in
    let z : listed n (Op n ∷ items) ≡ 0 = subst (λ j. listed n (Op j ∷ items) ≡ 0) e none in
    let q : 1 ≤ listed n (Op n ∷ items) = listed-here n items in
    omega (arith, z, q)

-- Nothing waits for what is neither among the items nor before them.
pub none-waits : (ops : List Operation) (n : ℕ) (before : Option ℕ) (items : List Item) → AreBehind ops before items →
    (before ≡ Some n → ⊥) → listed n items ≡ 0 → waiting_on ops n items ≡ []
none-waits ops n before [] b other none = refl
none-waits ops n before (Op x ∷ items) b other none =
    ap (λ t. if t then x ∷ waiting_on ops x items else waiting_on ops n items)
    (test-fails (passes (waits_on n) (slice_get ops x)) (λ is. other (b.0 n (waits-is n (slice_get ops x) is))))
    ∙ none-waits ops n (Some x) items b.1 (not-first n x items none) (omega (arith, none))
none-waits ops n before (Item.Close h ∷ items) b other none =
    none-waits ops n None items b.1 (λ is. (let f : ⊥ = cc in f)) none

-- Items of which none comes twice.
pub record AreOnce (items : List Item) : Type 0 where
  pub once : (k : ℕ) → listed k items ≤ 1

-- No more do those behind the first.
once-rest : (x : ℕ) (items : List Item) → AreOnce (Op x ∷ items) → AreOnce items
once-rest x items o = record { once = λ k. (let a = o.once k in omega (arith, a)) }

-- The first isn't among those behind it.
once-first-gone : (x : ℕ) (items : List Item) → AreOnce (Op x ∷ items) → listed x items ≡ 0
once-first-gone x items o = elim (same-cases x x) [
  | inl e ↦ (let one = e.1 in let a = o.once x in omega (arith, one, a))
  | inr e ↦ absurd (e.0 refl)
]

-- Those that wait for the operation directly before items, one behind another, are the ones at the front that wait.
pub front-waits : (ops : List Operation) (n : ℕ) (items : List Item) → AreBehind ops (Some n) items → listed n items ≡ 0 → AreOnce items →
    waiting_on ops n items ≡ waiting_front ops items
front-waits ops n [] b none once = refl
front-waits ops n (Op x ∷ items) b none once =
    by (front-waits ops x items b.1 (once-first-gone x items once) (once-rest x items once)) (passes (waits_on n) (slice_get ops x)) refl
  where
    no : passes (waits_on n) (slice_get ops x) ≡ false → (w : Option ℕ) → awaited (slice_get ops x) ≡ w → is_some w ≡ false
    no is None at = refl
    no is (Some m) at =
        let f : awaited (slice_get ops x) ≡ Some n = at ∙ sym (b.0 m at) in
        absurd (true≢false (sym (is-waits n (slice_get ops x) f) ∙ is))

    awaits : (t : Bool) → passes (waits_on n) (slice_get ops x) ≡ t → is_some (awaited (slice_get ops x)) ≡ t
    awaits true is = ap is_some (waits-is n (slice_get ops x) is)
    awaits false is = no is (awaited (slice_get ops x)) refl

    by : waiting_on ops x items ≡ waiting_front ops items → (t : Bool) → passes (waits_on n) (slice_get ops x) ≡ t →
        waiting_on ops n (Op x ∷ items) ≡ waiting_front ops (Op x ∷ items)
    by rest true is =
        ap (λ t. if t then x ∷ waiting_on ops x items else waiting_on ops n items) is
        ∙ ap (λ ms. x ∷ ms) rest
        ∙ sym (ap (λ t. if t then x ∷ waiting_front ops items else []) (awaits true is))
    by rest false is =
        ap (λ t. if t then x ∷ waiting_on ops x items else waiting_on ops n items) is
        ∙ none-waits ops n (Some x) items b.1 (not-first n x items none) (omega (arith, none))
        ∙ sym (ap (λ t. if t then x ∷ waiting_front ops items else []) (awaits false is))
front-waits ops n (Item.Close h ∷ items) b none once = none-waits ops n None items b.1 (λ is. (let f : ⊥ = cc in f)) none

-- Those that wait for an operation that left a place, one behind another, are the ones from that place on that wait, up to the first that
-- doesn't.
pub place-waits : (ops : List Operation) (n : ℕ) (before : Option ℕ) (items : List Item) (place : ℕ) →
    AreBehind ops before (take place items) → (before ≡ Some n → ⊥) → AreBehind ops (Some n) (drop place items) → listed n items ≡ 0 →
    AreOnce items → waiting_on ops n items ≡ waiting_front ops (drop place items)
place-waits ops n before [] zero up other on none once = refl
place-waits ops n before [] (suc place) up other on none once = refl
place-waits ops n before (x ∷ items) zero up other on none once = front-waits ops n (x ∷ items) on none once
place-waits ops n before (Op x ∷ items) (suc place) up other on none once =
    ap (λ t. if t then x ∷ waiting_on ops x items else waiting_on ops n items)
    (test-fails (passes (waits_on n) (slice_get ops x)) (λ is. other (up.0 n (waits-is n (slice_get ops x) is))))
    ∙ place-waits ops n (Some x) items place up.1 (not-first n x items none) on (omega (arith, none)) (once-rest x items once)
place-waits ops n before (Item.Close h ∷ items) (suc place) up other on none once =
    place-waits ops n None items place up.1 (λ is. (let f : ⊥ = cc in f)) on none (record { once = once.once })

-- What waits for another than n, or for none, once it waits for n no more.
pub unless-awaits : (n m : ℕ) (x : Option Operation) → awaited (option_map (unless_waits n) x) ≡ Some m → (awaited x ≡ Some m) × (m ≢ n)
unless-awaits n m None is = (let f : ⊥ = cc in absurd f)
unless-awaits n m (Some o) is = by (waits_on n o) refl is
  where
    by : (b : Bool) → waits_on n o ≡ b → (if b then without_wait o else o).waits_for ≡ Some m → (o.waits_for ≡ Some m) × (m ≢ n)
    by true t w = (let f : ⊥ = cc in absurd f)
    by false t w = (w, λ e. true≢false (sym (is-waits n (Some o) (w ∙ ap Some e)) ∙ t))

-- What waits for none waits for none still.
pub unless-free : (n : ℕ) (x : Option Operation) → awaited x ≡ None → awaited (option_map (unless_waits n) x) ≡ None
unless-free n None free = refl
unless-free n (Some o) free = by (waits_on n o)
  where
    by : (b : Bool) → (if b then without_wait o else o).waits_for ≡ None
    by true = refl
    by false = free
