-- The marks and the members of groups of which an operation left one, joined one, one was made, or one was canceled.
use Rattle.std.proofs.Common.{◌≡◌, ◌≢◌, inl, inr, ℕ, zero, suc, ◌<◌, Bool, true, false, List, [], ◌∷◌, ◌++◌, length, map, Option, Some}
use Rattle.std.proofs.Common.{None, option_map, set, slice_get, refl, sym, ◌∙◌, ap, subst, arith, nat_cmp, Greater}
use Rattle.std.specs.FinMap as finite
use Rattle.std.specs.Cmp.{nat_cmp_is}
use Rattle.std.specs.Ordering.{match_ordering}
use Rattle.std.proofs.lemmas.List.{map-append, length-map, get_or-set_same, get_or-set_other}
use Rattle.machine.specs.Lists.{amended, has_number, passes}
use Rattle.machine.proofs.Leaving.{has-first, has-later}
use Rattle.machine.proofs.Numbers.{same-or-not}
use Rattle.cancel_core.specs.Group.{Group, fresh, canceled, group_at, with_members, joined, without}
use Rattle.driver_core.specs.declared.members.places.Place.{Place}
use Rattle.driver_core.specs.Groups.{is_canceled}
use Rattle.driver_core.specs.Members.{Membership, ArePlaced, with_fresh, joins, leaves, leaves_from, cancels}
use Rattle.driver_core.proofs.Joining.{at-more, at-same, at-other}
use Rattle.driver_core.proofs.Placing.{without-absent, apart-absent, absent-unless}

-- Whether each group is canceled.
abbrev pub marks_of : Membership → List Bool
marks_of m = map (λ group. group.canceled) m.groups

-- The members of a group.
abbrev pub members_of : Membership → ℕ → List ℕ
members_of m g = (group_at m.groups g).members

-- A group is canceled exactly where its mark is set.
pub marked-at : (m : Membership) (g : ℕ) → g < length m.groups → passes (λ mark. mark) (slice_get (marks_of m) g) ≡ is_canceled m g
marked-at m g within = read m.groups g within
  where
    read : (gs : List Group) (h : ℕ) → h < length gs →
        passes (λ mark. mark) (slice_get (map (λ x. x.canceled) gs) h) ≡ (group_at gs h).canceled
    read [] h lt = absurd (omega (arith, lt))
    read (x ∷ gs) zero lt = refl
    read (x ∷ gs) (suc h) lt = read gs h (omega (arith, lt))

-- A change of one group's members leaves all marks.
marks-stay : (gs : List Group) (g : ℕ) (ks : List ℕ) → map (λ x. x.canceled) (with_members gs g ks) ≡ map (λ x. x.canceled) gs
marks-stay [] g ks = refl
marks-stay (x ∷ gs) zero ks = refl
marks-stay (x ∷ gs) (suc g) ks = ap (λ marks. x.canceled ∷ marks) (marks-stay gs g ks)

-- ---- an operation leaves its group

-- By its place: the marks are as they were.
marks-from : (m : Membership) (n : ℕ) (x : Option Place) → marks_of (leaves_from m n x) ≡ marks_of m
marks-from m n None = refl
marks-from m n (Some place) = marks-stay m.groups place.group (without (members_of m place.group) n)

-- The marks are as they were.
pub left-marks : (m : Membership) (n : ℕ) → marks_of (leaves m n) ≡ marks_of m
left-marks m n = marks-from m n (finite.get m.places n)

-- By its place: each group has its members but that one.
members-from : (m : Membership) → ArePlaced m → (n : ℕ) (x : Option Place) → finite.get m.places n ≡ x → (g : ℕ) →
    members_of (leaves_from m n x) g ≡ without (members_of m g) n
members-from m placed n None at g = sym (without-absent n (members_of m g) (apart-absent m placed n g at))
members-from m placed n (Some place) at g = elim (same-or-not g place.group) [
  | inl e ↦
      let fewer : List ℕ = without (members_of m place.group) n in
      ap (λ i. (group_at (with_members m.groups place.group fewer) i).members) e
      ∙ ap (λ (x : Group). x.members) (at-same m.groups place.group fewer
      (placed.made place.group n (ap (option_map (λ p. p.group)) at)))
      ∙ ap (λ i. without (members_of m i) n) (sym e)
  | inr e ↦
      ap (λ (x : Group). x.members) (at-other m.groups place.group g (without (members_of m place.group) n) e)
      ∙ sym (without-absent n (members_of m g) (absent-unless m placed n g (λ over.
      e (let same : ◌≡◌ {A = Option ℕ} (Some g) (Some place.group) = sym over ∙ ap (option_map (λ p. p.group)) at in cc))))
]

-- Each group has its members but that one.
pub left-members : (m : Membership) → ArePlaced m → (n g : ℕ) → members_of (leaves m n) g ≡ without (members_of m g) n
left-members m placed n g = members-from m placed n (finite.get m.places n) refl g

-- ---- an operation joins a group

-- The marks are as they were.
pub joined-marks : (m : Membership) (u n key : ℕ) → marks_of (joins m u n key) ≡ marks_of m
joined-marks m u n key = marks-stay m.groups u (joined (members_of m u) n)

-- A number above others joins them at their end.
joined-last : (n : ℕ) (xs : List ℕ) → ((q : ℕ) → has_number q xs ≡ true → q < n) → joined xs n ≡ xs ++ n ∷ []
joined-last n [] below = refl
joined-last n (x ∷ xs) below =
    let above : Greater ≡ nat_cmp n x = nat_cmp_is n x Greater (below x (has-first x xs)) in
    ap (λ r. match_ordering r (n ∷ x ∷ xs) (x ∷ xs) (x ∷ joined xs n)) (sym above)
    ∙ ap (λ ys. x ∷ ys) (joined-last n xs (λ q h. below q (has-later q x xs h)))

-- Where its number is above those of the members, these are what they were, and that one.
pub joined-members : (m : Membership) (u n key : ℕ) (members : List ℕ) → u < length m.groups → members_of m u ≡ members →
    ((q : ℕ) → has_number q members ≡ true → q < n) → members_of (joins m u n key) u ≡ members ++ n ∷ []
joined-members m u n key members within are below =
    ap (λ (x : Group). x.members) (at-same m.groups u (joined (members_of m u) n) within) ∙ ap (λ ms. joined ms n) are
    ∙ joined-last n members below

-- Each other group has its members.
pub joined-members-other : (m : Membership) (u n key g : ℕ) → g ≢ u → members_of (joins m u n key) g ≡ members_of m g
joined-members-other m u n key g apart = ap (λ (x : Group). x.members) (at-other m.groups u g (joined (members_of m u) n) apart)

-- ---- a group is made, or canceled

-- A fresh group has no mark.
pub fresh-marks : (m : Membership) → marks_of (with_fresh m) ≡ marks_of m ++ false ∷ []
fresh-marks m = map-append (λ x. x.canceled) m.groups (fresh ∷ [])

-- Each group has its members, and a fresh one has none.
pub fresh-members : (m : Membership) (g : ℕ) → members_of (with_fresh m) g ≡ members_of m g
fresh-members m g = ap (λ (x : Group). x.members) (at-more m.groups g)

-- A group that is canceled is marked, and a fresh one isn't.
pub canceled-marks : (m : Membership) (c : ℕ) → marks_of (cancels m c) ≡ amended (marks_of m) c (λ mark. true) ++ false ∷ []
canceled-marks m c =
    map-append (λ x. x.canceled) (set m.groups c canceled) (fresh ∷ []) ∙ ap (λ marks. marks ++ false ∷ []) (set-marks m.groups c)
  where
    set-marks : (gs : List Group) (i : ℕ) →
        map (λ x. x.canceled) (set gs i canceled) ≡ amended (map (λ x. x.canceled) gs) i (λ mark. true)
    set-marks [] i = refl
    set-marks (x ∷ gs) zero = refl
    set-marks (x ∷ gs) (suc i) = ap (λ marks. x.canceled ∷ marks) (set-marks gs i)

-- The mark of a group that was made is set once it is canceled.
pub canceled-mark : (m : Membership) (marks : List Bool) (c : ℕ) → marks_of m ≡ marks → c < length m.groups →
    slice_get (amended marks c (λ mark. true)) c ≡ Some true
canceled-mark m marks c are within =
    set-mark marks c (subst (λ ms. c < length ms) are (subst (λ k. c < k) (sym (length-map m.groups (λ x. x.canceled))) within))
  where
    set-mark : (ms : List Bool) (i : ℕ) → i < length ms → slice_get (amended ms i (λ mark. true)) i ≡ Some true
    set-mark [] i lt = absurd (omega (arith, lt))
    set-mark (x ∷ ms) zero lt = refl
    set-mark (x ∷ ms) (suc i) lt = set-mark ms i (omega (arith, lt))

-- A group that is canceled has no members.
pub canceled-members : (m : Membership) (c : ℕ) → c < length m.groups → members_of (cancels m c) c ≡ []
canceled-members m c within =
    ap (λ (x : Group). x.members) (at-more (set m.groups c canceled) c ∙ get_or-set_same m.groups c canceled fresh within)

-- Each other group has its members.
pub canceled-members-other : (m : Membership) (c g : ℕ) → g ≢ c → members_of (cancels m c) g ≡ members_of m g
canceled-members-other m c g apart =
    ap (λ (x : Group). x.members) (at-more (set m.groups c canceled) g ∙ get_or-set_other m.groups c g canceled fresh apart)
