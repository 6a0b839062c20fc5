-- Where the operations under groups are: that they are in slots, after each call, and what a join that is taken back leaves.
use Rattle.std.proofs.Common.{◌≡◌, ◌≢◌, inl, inr, ℕ, zero, suc, true, false, cond, not, List, [], ◌∷◌, Option, Some, None, is_some}
use Rattle.std.proofs.Common.{option_map, Result, Ok, Err, OnOk, refl, sym, ◌∙◌, ap, subst, arith, true≢false, eq-eqb, nat_cmp, Less}
use Rattle.std.proofs.Common.{Equal, Greater}
use Rattle.std.specs.FinMap as map
use Rattle.std.specs.Ordering.{match_ordering}
use Rattle.std.proofs.lemmas.Bool.{false_from_ne_true}
use Rattle.std.proofs.lemmas.Map.Lookups.{exact_unsigned}
use Rattle.machine.specs.Lists.{has_number}
use Rattle.machine.proofs.Leaving.{has-first, has-other}
use Rattle.machine.proofs.Numbers.{same-or-not, equal-other}
use Rattle.cancel_core.specs.Group.{Group, group_at, with_members, joined, without}
use Rattle.driver_core.specs.declared.members.places.Place.{Place}
use Rattle.driver_core.specs.declared.op.Op.{Op}
use Rattle.driver_core.specs.declared.slot.Slot.{Slot}
use Rattle.driver_core.specs.Groups.{AreInSlots, joins_if}
use Rattle.driver_core.specs.Members.{Membership, ArePlaced, group_over, joins, moves, keyed_at, leaves, leaves_from}
use Rattle.driver_core.specs.Op.{AddsToken, DropsToken}
use Rattle.driver_core.specs.Ops.{Ops, AreNumbered}
use Rattle.driver_core.specs.Slot.{number_at, KeepsNumbers}
use Rattle.driver_core.proofs.Lists.{some}
use Rattle.driver_core.proofs.Maps.{put-same, put-other, put-twice, gone-same, gone-other}
use Rattle.driver_core.proofs.Membership.{put-taken}
use Rattle.driver_core.proofs.Joining.{has-contains}

-- With no places it holds.
pub in-slots-none : {B : Type 0} (m : Membership) (slots : map.FinMap nat_cmp (Slot B)) → m.places ≡ map.empty → AreInSlots m slots
in-slots-none m slots none = λ number place there. absurd (true≢false (
    sym (ap is_some there) ∙ ap (λ (x : map.FinMap nat_cmp Place). is_some (map.get x number)) none
    ∙ ap is_some (map.get-empty {X = Place} nat_cmp number)))

-- Slots that keep their numbers keep it.
pub in-slots-kept : {B : Type 0} (m : Membership) (slots slots' : map.FinMap nat_cmp (Slot B)) → KeepsNumbers slots slots' →
    AreInSlots m slots → AreInSlots m slots'
in-slots-kept m slots slots' keeps are = λ number place there. keeps place.key ∙ are number place there

-- The place of an operation that leaves is gone, and each other one stays.
left-place : (m : Membership) (n q : ℕ) (place : Place) → map.get (leaves m n).places q ≡ Some place →
    (q ≢ n) × (map.get m.places q ≡ Some place)
left-place m n q place there = by (map.get m.places n) refl there
  where
    by : (x : Option Place) → map.get m.places n ≡ x → map.get (leaves_from m n x).places q ≡ Some place →
        (q ≢ n) × (map.get m.places q ≡ Some place)
    by None at is = (λ e. true≢false (sym (ap is_some is) ∙ ap (λ i. is_some (map.get m.places i)) e ∙ ap is_some at), is)
    by (Some p) at is = elim (same-or-not q n) [
      | inl e ↦ absurd (true≢false (sym (ap is_some is) ∙ ap (λ i. is_some (map.get (map.remove m.places n) i)) e
          ∙ ap is_some (gone-same m.places n)))
      | inr e ↦ (e, sym (gone-other m.places n q e) ∙ is)
    ]

-- An operation that is its user's no more leaves.
pub in-slots-left : {B : Type 0} (m : Membership) (old new : Ops B) (op : Op) → DropsToken old new op →
    AreInSlots m old.slots.values → AreInSlots (leaves m op.number) new.slots.values
in-slots-left m old new op spends are = λ number place there.
    let was = left-place m op.number number place there in
    let other : Op = record { number = number; key = place.key } in
    (spends other).1 (are number place was.1, λ e. was.0 (ap (λ o. o.number) e))

-- A new operation joins a group, or none.
pub in-slots-joined : {B : Type 0} (m : Membership) (old new : Ops B) (op : Op) (under : Option ℕ) → AddsToken old new op →
    AreInSlots m old.slots.values → AreInSlots (joins_if m under op.number op.key) new.slots.values
in-slots-joined m old new op None adds are = λ number place there.
    adds.kept (record { number = number; key = place.key }) (are number place there)
in-slots-joined {B} m old new op (Some g) adds are = λ number place there.
    let this : Place = record { key = op.key; group = g } in
    elim (same-or-not number op.number) [
      | inl e ↦
          let at : this ≡ place = some this place (map.get (map.insert m.places op.number this) op.number)
          (put-same m.places op.number this) (ap (map.get (map.insert m.places op.number this)) (sym e) ∙ there) in
          subst (λ i. number_at new.slots.values place.key ≡ Some i) (sym e)
          (ap (λ (p : Place). number_at new.slots.values p.key) (sym at) ∙ adds.this)
      | inr e ↦
          adds.kept (record { number = number; key = place.key })
          (are number place (sym (put-other m.places op.number this number e) ∙ there))
    ]

-- The next number has no place.
pub next-apart : {B : Type 0} (m : Membership) (slots : map.FinMap nat_cmp (Slot B)) (given : ℕ) → AreInSlots m slots →
    AreNumbered slots given → map.get m.places given ≡ None
next-apart m slots given are numbered = by (map.get m.places given) refl
  where
    by : (x : Option Place) → map.get m.places given ≡ x → x ≡ None
    by None at = refl
    by (Some place) at = absurd (let below = (numbered place.key given (are given place at)).number_below in omega (arith, below))

-- An operation that joined with one key and moved to another one joined with that.
pub moved-joined : (m : Membership) (under : Option ℕ) (n k j : ℕ) → map.get m.places n ≡ None →
    moves (joins_if m under n k) n j ≡ joins_if m under n j
moved-joined m None n k j apart = ap (λ x. record m { places = keyed_at m.places n j x }) apart
moved-joined m (Some g) n k j apart =
    let places : map.FinMap nat_cmp Place = map.insert m.places n (record { key = k; group = g }) in
    ap (λ x. record (joins m g n k) { places = keyed_at places n j x }) (put-same m.places n (record { key = k; group = g }))
    ∙ ap (λ ps. record (joins m g n k) { places = ps })
    (put-twice m.places n (record { key = k; group = g }) (record { key = j; group = g }))

-- The groups once the next operation joined one, in front of its slot, and then got the key of its slot.
pub joined-at : (m mid new : Membership) (under : Option ℕ) (given : ℕ) (op : Op) (number key : ℕ) → op.number ≡ given →
    number ≡ op.number → key ≡ op.key → map.get m.places given ≡ None → mid ≡ joins_if m under given 0 → new ≡ moves mid number key →
    new ≡ joins_if m under op.number op.key
joined-at m mid new under given op number key is n k apart joins moved =
    moved ∙ ap (λ x. moves x number key) joins ∙ ap (λ i. moves (joins_if m under given 0) i key) (n ∙ is)
    ∙ moved-joined m under given 0 key apart ∙ ap (joins_if m under given) k ∙ ap (λ i. joins_if m under i op.key) (sym is)

-- A number that isn't among others isn't the first of them, nor among the rest.
absent-both : (n x : ℕ) (xs : List ℕ) → has_number n (x ∷ xs) ≡ false → (n ≢ x) × (has_number n xs ≡ false)
absent-both n x xs absent =
    let other : n ≢ x = λ e. true≢false (sym (subst (λ y. has_number n (y ∷ xs) ≡ true) e (has-first n xs)) ∙ absent) in
    (other, sym (has-other n x xs other) ∙ absent)

-- Numbers without one that isn't the first of them.
pub without-keeps : (n x : ℕ) (xs : List ℕ) → n ≢ x → without (x ∷ xs) n ≡ x ∷ without xs n
without-keeps n x xs other = ap (λ b. cond (not b) (x ∷ without xs n) (without xs n)) (equal-other x n (λ e. other (sym e)))

-- Numbers without the first of them.
pub without-drops : (n : ℕ) (xs : List ℕ) → without (n ∷ xs) n ≡ without xs n
without-drops n xs = ap (λ b. cond (not b) (n ∷ without xs n) (without xs n)) (eq-eqb n n refl)

-- Numbers without one that isn't among them.
pub without-absent : (n : ℕ) (xs : List ℕ) → has_number n xs ≡ false → without xs n ≡ xs
without-absent n [] absent = refl
without-absent n (x ∷ xs) absent =
    let both = absent-both n x xs absent in without-keeps n x xs both.0 ∙ ap (λ ys. x ∷ ys) (without-absent n xs both.1)

-- A number that joined numbers, and left them again.
without-joined : (n : ℕ) (xs : List ℕ) → has_number n xs ≡ false → without (joined xs n) n ≡ xs
without-joined n [] absent = without-drops n []
without-joined n (x ∷ xs) absent =
    let both = absent-both n x xs absent in
    elim (nat_cmp n x) as (λ r. nat_cmp n x ≡ r
    → without (match_ordering r (n ∷ x ∷ xs) (x ∷ xs) (x ∷ joined xs n)) n ≡ x ∷ xs) [
      | Less ↦ λ e. without-drops n (x ∷ xs) ∙ without-absent n (x ∷ xs) absent
      | Equal ↦ λ e. absurd (both.0 (exact_unsigned n x e))
      | Greater ↦ λ e. without-keeps n x (joined xs n) both.0 ∙ ap (λ ys. x ∷ ys) (without-joined n xs both.1)
    ] refl

-- Who isn't under a group is no member of it.
pub absent-unless : (m : Membership) → ArePlaced m → (n g : ℕ) → group_over m n ≢ Some g →
    has_number n (group_at m.groups g).members ≡ false
absent-unless m placed n g other = false_from_ne_true (has_number n (group_at m.groups g).members) (λ is.
    other (placed.members g n (has-contains n (group_at m.groups g).members is)))

-- Who has no place is a member of no group.
pub apart-absent : (m : Membership) → ArePlaced m → (n g : ℕ) → map.get m.places n ≡ None →
    has_number n (group_at m.groups g).members ≡ false
apart-absent m placed n g apart = absent-unless m placed n g (λ over.
    true≢false (sym (ap is_some over) ∙ ap (λ x. is_some (option_map (λ place. place.group) x)) apart))

-- An operation that joined a group, and left again, leaves all as it was.
left-joined : (m : Membership) (g n k : ℕ) → ArePlaced m → map.get m.places n ≡ None → leaves (joins m g n k) n ≡ m
left-joined m g n k placed apart =
    let this : Place = record { key = k; group = g } in
    let ms : List ℕ = (group_at m.groups g).members in
    ap (leaves_from (joins m g n k) n) (put-same m.places n this)
    ∙ ap (λ ps. record {
      groups = with_members (with_members m.groups g (joined ms n)) g
          (without (group_at (with_members m.groups g (joined ms n)) g).members n);
      places = ps;
    }) (put-taken m.places n this apart)
    ∙ ap (λ gs. record { groups = gs; places = m.places }) (undone m.groups g (apart-absent m placed n g apart))
  where
    undone : (gs : List Group) (h : ℕ) → has_number n (group_at gs h).members ≡ false →
        with_members (with_members gs h (joined (group_at gs h).members n)) h
        (without (group_at (with_members gs h (joined (group_at gs h).members n)) h).members n) ≡ gs
    undone [] h absent = refl
    undone (x ∷ gs) zero absent = ap (λ zs. record x { members = zs } ∷ gs) (without-joined n x.members absent)
    undone (x ∷ gs) (suc h) absent = ap (λ ys. x ∷ ys) (undone gs h absent)

-- So it is where the join went well.
pub left-again : {A E : Type 0} (r : Result A E) (m m' : Membership) (g n k : ℕ) → ArePlaced m → map.get m.places n ≡ None →
    OnOk r (m' ≡ joins m g n k) → OnOk r (leaves m' n ≡ m)
left-again (Ok a) m m' g n k placed apart is = ap (λ x. leaves x n) is ∙ left-joined m g n k placed apart
left-again (Err e) m m' g n k placed apart is = tt
