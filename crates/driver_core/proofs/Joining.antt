-- Numbers in order with one more, and without one; groups of which one was given other members.
use Rattle.std.proofs.Common.{◌≡◌, ◌≢◌, inl, inr, ℕ, zero, suc, ◌<◌, Bool, true, false, not, ◌||◌, List, [], ◌∷◌, ◌++◌, length}
use Rattle.std.proofs.Common.{refl, sym, ◌∙◌, ap, subst, arith, eqb, eqb-true, eq-eqb, ne_eqb, true≢false, Contains}
use Rattle.std.proofs.Common.{nat_cmp, Less, Equal, Greater}
use Rattle.std.proofs.Math.Bool.{or-true}
use Rattle.std.specs.List.{list_any}
use Rattle.std.specs.Ordering.{match_ordering}
use Rattle.std.specs.Cmp.{nat_eq_equiv}
use Rattle.std.proofs.lemmas.List.{get_or-set_same, get_or-set_other}
use Rattle.std.proofs.lemmas.Map.Lookups.{exact_unsigned}
use Rattle.std.proofs.lemmas.Map.Views.{Contains-from_any, list_any-from_Contains, any-filter_same}
use Rattle.machine.specs.Lists.{has_number}
use Rattle.machine.proofs.Numbers.{same-or-not}
use Rattle.cancel_core.specs.Group.{Group, fresh, group_at, with_members, joined, without}

-- A test that comes twice is one.
twice : (a b : Bool) → (a || b) ≡ (a || (a || b))
twice true b = refl
twice false b = refl

-- Two tests come in either order.
turned : (a b c : Bool) → (a || (b || c)) ≡ (b || (a || c))
turned true true c = refl
turned true false c = refl
turned false b c = refl

-- Numbers with one more have that one, and those that they had.
any-joined : (ks : List ℕ) (k n : ℕ) → list_any (eqb n) (joined ks k) ≡ (eqb n k || list_any (eqb n) ks)
any-joined [] k n = refl
any-joined (x ∷ xs) k n =
    elim (nat_cmp k x) as (λ r. nat_cmp k x ≡ r
    → list_any (eqb n) (match_ordering r (k ∷ x ∷ xs) (x ∷ xs) (x ∷ joined xs k)) ≡ (eqb n k || list_any (eqb n) (x ∷ xs))) [
      | Less ↦ λ e. refl
      | Equal ↦ λ e. twice (eqb n x) (list_any (eqb n) xs)
          ∙ ap (λ y. eqb n y || (eqb n x || list_any (eqb n) xs)) (sym (exact_unsigned k x e))
      | Greater ↦ λ e. ap (λ b. eqb n x || b) (any-joined xs k n) ∙ turned (eqb n x) (eqb n k) (list_any (eqb n) xs)
    ] refl

-- A member is found by a test.
found : (ks : List ℕ) (n : ℕ) → Contains ks n → list_any (eqb n) ks ≡ true
found ks n h = list_any-from_Contains nat_eq_equiv n ks h

-- What a test finds is a member.
found-member : (ks : List ℕ) (n : ℕ) → list_any (eqb n) ks ≡ true → Contains ks n
found-member ks n h = Contains-from_any eqb-true n ks h

-- A number is among others by the test of the machine's lists exactly when it is by the test of the library.
has-any : (n : ℕ) (ks : List ℕ) → has_number n ks ≡ list_any (eqb n) ks
has-any n [] = refl
has-any n (k ∷ ks) = ap (λ b. eqb n k || b) (has-any n ks)

-- A number that is among others is one of them.
pub has-contains : (n : ℕ) (ks : List ℕ) → has_number n ks ≡ true → Contains ks n
has-contains n ks h = found-member ks n (sym (has-any n ks) ∙ h)

-- Who joins is a member.
pub joined-this : (ks : List ℕ) (k : ℕ) → Contains (joined ks k) k
joined-this ks k = found-member (joined ks k) k (any-joined ks k k ∙ ap (λ b. b || list_any (eqb k) ks) (eq-eqb k k refl))

-- A member stays when another joins.
pub joined-kept : (ks : List ℕ) (k n : ℕ) → Contains ks n → Contains (joined ks k) n
joined-kept ks k n h = found-member (joined ks k) n (any-joined ks k n ∙ ap (λ b. eqb n k || b) (found ks n h) ∙ or-true (eqb n k))

-- Who is a member beside the one that joined was one before.
pub joined-other : (ks : List ℕ) (k n : ℕ) → n ≢ k → Contains (joined ks k) n → Contains ks n
joined-other ks k n other h =
    found-member ks n (sym (any-joined ks k n ∙ ap (λ b. b || list_any (eqb n) ks) (ne_eqb n k other)) ∙ found (joined ks k) n h)

-- A number passes the test for another exactly when it is another.
apart-same : (k n : ℕ) (b : Bool) → eqb n k ≡ b → (m : ℕ) → eqb n m ≡ true → not (eqb m k) ≡ not b
apart-same k n b e m same = ap (λ y. not (eqb y k)) (sym (eqb-true n m same)) ∙ ap not e

-- Members without one have none that is it.
pub without-gone : (ks : List ℕ) (k : ℕ) → Contains (without ks k) k → ⊥
without-gone ks k h =
    true≢false (sym (found (without ks k) k h)
    ∙ any-filter_same (eqb k) (λ m. not (eqb m k)) false (apart-same k k true (eq-eqb k k refl)) ks)

-- The others are the same without one.
without-any : (ks : List ℕ) (k n : ℕ) → n ≢ k → list_any (eqb n) (without ks k) ≡ list_any (eqb n) ks
without-any ks k n other = any-filter_same (eqb n) (λ m. not (eqb m k)) true (apart-same k n false (ne_eqb n k other)) ks

-- A member stays when another leaves.
pub without-kept : (ks : List ℕ) (k n : ℕ) → n ≢ k → Contains ks n → Contains (without ks k) n
without-kept ks k n other h = found-member (without ks k) n (without-any ks k n other ∙ found ks n h)

-- Who is a member when another left was one before.
pub without-other : (ks : List ℕ) (k n : ℕ) → n ≢ k → Contains (without ks k) n → Contains ks n
without-other ks k n other h = found-member ks n (sym (without-any ks k n other) ∙ found (without ks k) n h)

-- No number is a member of what has no members.
pub contains-none : (n : ℕ) → Contains [] n → ⊥
contains-none n h = absurd (omega (arith, h.1))

-- ---- one group among all

-- One more group changes no group.
pub at-more : (gs : List Group) (g : ℕ) → group_at (gs ++ fresh ∷ []) g ≡ group_at gs g
at-more [] zero = refl
at-more [] (suc g) = refl
at-more (x ∷ gs) zero = refl
at-more (x ∷ gs) (suc g) = at-more gs g

-- A group that was changed.
pub at-same : (gs : List Group) (g : ℕ) (ks : List ℕ) → g < length gs
    → group_at (with_members gs g ks) g ≡ record (group_at gs g) { members = ks }
at-same gs g ks known = get_or-set_same gs g (record (group_at gs g) { members = ks }) fresh known

-- Each other group.
pub at-other : (gs : List Group) (g h : ℕ) (ks : List ℕ) → h ≢ g → group_at (with_members gs g ks) h ≡ group_at gs h
at-other gs g h ks other = get_or-set_other gs g h (record (group_at gs g) { members = ks }) fresh other

-- A change of one group's members leaves each mark.
pub at-mark : (gs : List Group) (g h : ℕ) (ks : List ℕ) → g < length gs
    → (group_at (with_members gs g ks) h).canceled ≡ (group_at gs h).canceled
at-mark gs g h ks known = elim (same-or-not h g) [
  | inl e ↦ ap (λ i. (group_at (with_members gs g ks) i).canceled) e ∙ ap (λ x. x.canceled) (at-same gs g ks known)
      ∙ ap (λ i. (group_at gs i).canceled) (sym e)
  | inr e ↦ ap (λ x. x.canceled) (at-other gs g h ks e)
]

module _ (gs : List Group) (g : ℕ) (ks : List ℕ) (known : g < length gs) where
  abbrev after : List Group
  after = with_members gs g ks

  -- Who is among the members that a group was given is a member of it.
  pub at-this : (n : ℕ) → Contains ks n → Contains (group_at after g).members n
  at-this n is = subst (λ (x : Group). Contains x.members n) (sym (at-same gs g ks known)) is

  -- Who is a member of a group that was given members is among them.
  pub from-this : (n h : ℕ) → h ≡ g → Contains (group_at after h).members n → Contains ks n
  from-this n h same is =
      subst (λ (x : Group). Contains x.members n) (at-same gs g ks known) (subst (λ i. Contains (group_at after i).members n) same is)

  -- Who is a member of any other group was one before.
  pub from-other : (n h : ℕ) → h ≢ g → Contains (group_at after h).members n → Contains (group_at gs h).members n
  from-other n h other is = subst (λ (x : Group). Contains x.members n) (at-other gs g h ks other) is

  -- Who is among the new members only if it was among the old ones is a member only of groups of which it was one.
  pub member-before : (n : ℕ) → (Contains ks n → Contains (group_at gs g).members n)
      → (h : ℕ) → Contains (group_at after h).members n → Contains (group_at gs h).members n
  member-before n was h is = elim (same-or-not h g) [
    | inl e ↦ subst (λ i. Contains (group_at gs i).members n) (sym e) (was (from-this n h e is))
    | inr e ↦ from-other n h e is
  ]

  -- Who is among the new members if it was among the old ones is a member of each group of which it was one.
  pub member-after : (n : ℕ) → (Contains (group_at gs g).members n → Contains ks n)
      → (h : ℕ) → Contains (group_at gs h).members n → Contains (group_at after h).members n
  member-after n stays h was = elim (same-or-not h g) [
    | inl e ↦ subst (λ i. Contains (group_at after i).members n) (sym e)
        (at-this n (stays (subst (λ i. Contains (group_at gs i).members n) e was)))
    | inr e ↦ subst (λ (x : Group). Contains x.members n) (sym (at-other gs g h ks e)) was
  ]
