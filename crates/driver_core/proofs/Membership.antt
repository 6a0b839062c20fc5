-- What holds of groups and places, after each call.
use Rattle.std.proofs.Common.{◌≡◌, ◌≢◌, inl, inr, ℕ, ◌<◌, List, [], ◌∷◌, ◌++◌, length, Result, Ok, Err, IfOk, OnOk, OnErr}
use Rattle.std.proofs.Common.{set, Option, Some, None, IsSome, is_some, option_map, unwrap_or, refl, sym, ◌∙◌, ap, subst, arith, nat_cmp}
use Rattle.std.proofs.Common.{length-set, length-append, true≢false, Contains}
use Rattle.std.proofs.lemmas.List.{get_or-set_same, get_or-set_other}
use Rattle.std.proofs.lemmas.List.Elements.{All-contains_itself, All-weaker}
use Rattle.std.specs.FinMap as map
use Rattle.op_slots.proofs.Places.{map-absent}
use Rattle.machine.proofs.Numbers.{same-or-not}
use Rattle.cancel_core.specs.Group.{Group, fresh, canceled, group_at, with_members, joined, without}
use Rattle.driver_core.specs.declared.members.places.Place.{Place}
use Rattle.driver_core.specs.Members.{Membership, none, key_at, group_over, IsMember, IsUnderNone, HaveKeys, ArePlaced}
use Rattle.driver_core.specs.Members.{with_fresh, joins, moves, keyed_at, leaves_from, cancels}
use Rattle.driver_core.proofs.Maps.{put-same, put-other, gone-same, gone-other, remove-put}
use Rattle.driver_core.proofs.Joining.{joined-this, joined-kept, joined-other, without-gone, without-kept, without-other, contains-none}
use Rattle.driver_core.proofs.Joining.{at-more, at-mark, at-this, from-this, from-other, member-before, member-after}

-- With no groups it holds.
pub placed-none : ArePlaced none
placed-none =
    record {
      members = λ group number h. absurd (contains-none number h);
      made = λ group number h. absurd (is-none group (sym (ap (option_map (λ place. place.group)) (map.get-empty nat_cmp number)) ∙ h));
      within = λ group number h. absurd (is-none group (sym (ap (option_map (λ place. place.group)) (map.get-empty nat_cmp number)) ∙ h));
    }
  where
    is-none : (g : ℕ) → None ≡ Some g → ⊥
    is-none g e = true≢false (sym (ap is_some e))

module _ (m : Membership) (placed : ArePlaced m) where
  -- One more group.
  pub placed-fresh : ArePlaced (with_fresh m)
  placed-fresh =
      record {
        members = λ group number h. placed.members group number (subst (λ x. Contains x.members number) (at-more m.groups group) h);
        made = λ group number h. let below = placed.made group number h in rw (length-append m.groups (fresh ∷ [])) (omega (arith, below));
        within = λ group number h unmarked.
            subst (λ (x : Group). Contains x.members number) (sym (at-more m.groups group))
            (placed.within group number h (sym (ap (λ x. x.canceled) (at-more m.groups group)) ∙ unmarked));
      }

  -- A group is canceled, and one more is made.
  pub placed-canceled : (c : ℕ) → c < length m.groups → ArePlaced (cancels m c)
  placed-canceled c known =
      record {
        members = λ group number h. elim (same-or-not group c) [
          | inl e ↦ absurd (contains-none number (subst (λ x. Contains x.members number) (at-this group e) h))
          | inr e ↦ placed.members group number (subst (λ x. Contains x.members number) (at-rest group e) h)
        ];
        made = λ group number h.
            let below = placed.made group number h in
            rw (length-append (set m.groups c canceled) (fresh ∷ []), length-set m.groups c canceled) (omega (arith, below));
        within = λ group number h unmarked. elim (same-or-not group c) [
          | inl e ↦ absurd (true≢false (sym (ap (λ x. x.canceled) (at-this group e)) ∙ unmarked))
          | inr e ↦ subst (λ (x : Group). Contains x.members number) (sym (at-rest group e))
              (placed.within group number h (sym (ap (λ x. x.canceled) (at-rest group e)) ∙ unmarked))
        ];
      }
    where
      at-this : (g : ℕ) → g ≡ c → group_at (set m.groups c canceled ++ fresh ∷ []) g ≡ canceled
      at-this g e =
          at-more (set m.groups c canceled) g ∙ ap (group_at (set m.groups c canceled)) e
          ∙ get_or-set_same m.groups c canceled fresh known

      at-rest : (g : ℕ) → g ≢ c → group_at (set m.groups c canceled ++ fresh ∷ []) g ≡ group_at m.groups g
      at-rest g e = at-more (set m.groups c canceled) g ∙ get_or-set_other m.groups c g canceled fresh e

  -- Each member of a group has a key.
  pub members-keyed : (c : ℕ) → HaveKeys m (group_at m.groups c).members
  members-keyed c =
      All-weaker (Contains ks) (λ n. IsSome (key_at m n)) (λ n h. keyed n (map.get m.places n) refl (placed.members c n h)) ks
      (All-contains_itself ks)
    where
      ks : List ℕ
      ks = (group_at m.groups c).members

      keyed : (n : ℕ) (o : Option Place) → map.get m.places n ≡ o → option_map (λ place. place.group) o ≡ Some c → IsSome (key_at m n)
      keyed n (Some place) is h = subst (λ o. IsSome (option_map (λ p. p.key) o)) (sym is) refl
      keyed n None is h = absurd (true≢false (sym (ap is_some h)))

-- An operation whose slot moved is under the group that it was under, and so is each other one.
over-moved : (m : Membership) (n k q : ℕ) → group_over (moves m n k) q ≡ group_over m q
over-moved m n k q = by (map.get m.places n) refl
  where
    by : (x : Option Place) → map.get m.places n ≡ x →
        option_map (λ place. place.group) (map.get (keyed_at m.places n k x) q) ≡ group_over m q
    by None at = refl
    by (Some place) at = elim (same-or-not q n) [
      | inl e ↦
          ap (λ i. option_map (λ p. p.group) (map.get (map.insert m.places n (record place { key = k })) i)) e
          ∙ ap (option_map (λ p. p.group)) (put-same m.places n (record place { key = k }))
          ∙ sym (ap (option_map (λ p. p.group)) (ap (map.get m.places) e ∙ at))
      | inr e ↦ ap (option_map (λ p. p.group)) (put-other m.places n (record place { key = k }) q e)
    ]

-- What holds of places holds after a move.
pub placed-moved : (m : Membership) → ArePlaced m → (n k : ℕ) → ArePlaced (moves m n k)
placed-moved m placed n k = record {
  members = λ group number h. over-moved m n k number ∙ placed.members group number h;
  made = λ group number h. placed.made group number (sym (over-moved m n k number) ∙ h);
  within = λ group number h unmarked. placed.within group number (sym (over-moved m n k number) ∙ h) unmarked;
}

-- The group over the operation that joined.
over-this : (m : Membership) (g n k : ℕ) → group_over (joins m g n k) n ≡ Some g
over-this m g n k = ap (option_map (λ place. place.group)) (put-same m.places n (record { key = k; group = g }))

-- The group over each other operation, when one joined.
over-other : (m : Membership) (g n k q : ℕ) → q ≢ n → group_over (joins m g n k) q ≡ group_over m q
over-other m g n k q other = ap (option_map (λ place. place.group)) (put-other m.places n (record { key = k; group = g }) q other)

-- Who has no key is under no group.
over-none : (m : Membership) (n g : ℕ) → map.get m.places n ≡ None → group_over m n ≡ Some g → ⊥
over-none m n g none h = true≢false (sym (ap is_some (sym (ap (option_map (λ place. place.group)) none) ∙ h)))

-- One option is one number.
same-some : (a b : ℕ) → Some a ≡ Some b → a ≡ b
same-some a b e = ap (λ o. unwrap_or o a) e

module _ (m : Membership) (placed : ArePlaced m) (g n k : ℕ) (known : g < length m.groups) (apart : map.get m.places n ≡ None) where
  abbrev more : List ℕ
  more = joined (group_at m.groups g).members n

  -- The one that joined is a member of that group alone.
  joined-here : (h : ℕ) → IsMember (joins m g n k) h n → h ≡ g
  joined-here h is = elim (same-or-not h g) [
    | inl e ↦ e
    | inr e ↦ absurd (over-none m n h apart (placed.members h n (from-other m.groups g more known n h e is)))
  ]

  -- An operation with no place joins a group.
  pub placed-joined : ArePlaced (joins m g n k)
  placed-joined =
      record {
        members = λ h q is. elim (same-or-not q n) [
          | inl e ↦ ap (group_over (joins m g n k)) e ∙ over-this m g n k
              ∙ ap Some (sym (joined-here h (subst (λ i. IsMember (joins m g n k) h i) e is)))
          | inr e ↦ over-other m g n k q e
              ∙ placed.members h q (member-before m.groups g more known q (joined-other (group_at m.groups g).members n q e) h is)
        ];
        made = λ h q is. elim (same-or-not q n) [
          | inl e ↦ rw (length-members, ← same-some g h (joined-group h q e is)) known
          | inr e ↦ rw length-members (placed.made h q (sym (over-other m g n k q e) ∙ is))
        ];
        within = λ h q is unmarked. elim (same-or-not q n) [
          | inl e ↦ subst (λ i. IsMember (joins m g n k) i q) (same-some g h (joined-group h q e is))
              (subst (λ i. IsMember (joins m g n k) g i) (sym e)
              (at-this m.groups g more known n (joined-this (group_at m.groups g).members n)))
          | inr e ↦ member-after m.groups g more known q (joined-kept (group_at m.groups g).members n q) h
              (placed.within h q (sym (over-other m g n k q e) ∙ is) (sym (at-mark m.groups g h more known) ∙ unmarked))
        ];
      }
    where
      length-members : length (with_members m.groups g more) ≡ length m.groups
      length-members = length-set m.groups g (record (group_at m.groups g) { members = more })

      joined-group : (h q : ℕ) → q ≡ n → group_over (joins m g n k) q ≡ Some h → Some g ≡ Some h
      joined-group h q e is = sym (over-this m g n k) ∙ ap (group_over (joins m g n k)) (sym e) ∙ is

-- The group over the operation that left.
left-this : (m : Membership) (n : ℕ) (place : Place) → group_over (leaves_from m n (Some place)) n ≡ None
left-this m n place = ap (option_map (λ p. p.group)) (gone-same m.places n)

-- The group over each other operation, when one left.
left-other : (m : Membership) (n q : ℕ) (place : Place) → q ≢ n → group_over (leaves_from m n (Some place)) q ≡ group_over m q
left-other m n q place other = ap (option_map (λ p. p.group)) (gone-other m.places n q other)

module _ (m : Membership) (placed : ArePlaced m) (n : ℕ) (place : Place) (here : map.get m.places n ≡ Some place) where
  abbrev fewer : List ℕ
  fewer = without (group_at m.groups place.group).members n

  abbrev after : Membership
  after = leaves_from m n (Some place)

  -- The group of a place was made.
  pub left-known : place.group < length m.groups
  left-known = placed.made place.group n (ap (option_map (λ p. p.group)) here)

  -- Who left is no member of any group.
  left-none : (h : ℕ) → IsMember after h n → ⊥
  left-none h is = elim (same-or-not h place.group) [
    | inl e ↦ without-gone (group_at m.groups place.group).members n (from-this m.groups place.group fewer left-known n h e is)
    | inr e ↦ e (same-some h place.group (sym (placed.members h n (from-other m.groups place.group fewer left-known n h e is))
        ∙ ap (option_map (λ p. p.group)) here))
  ]

  -- Who left has no group.
  left-over : (h q : ℕ) → q ≡ n → group_over after q ≡ Some h → ⊥
  left-over h q e is = true≢false (sym (ap is_some (sym (left-this m n place) ∙ ap (group_over after) (sym e) ∙ is)))

  -- An operation with a place leaves.
  pub placed-left : ArePlaced after
  placed-left =
      record {
        members = λ h q is. elim (same-or-not q n) [
          | inl e ↦ absurd (left-none h (subst (λ i. IsMember after h i) e is))
          | inr e ↦ left-other m n q place e ∙ placed.members h q
              (member-before m.groups place.group fewer left-known q (without-other (group_at m.groups place.group).members n q e) h is)
        ];
        made = λ h q is. elim (same-or-not q n) [
          | inl e ↦ absurd (left-over h q e is)
          | inr e ↦ rw length-members (placed.made h q (sym (left-other m n q place e) ∙ is))
        ];
        within = λ h q is unmarked. elim (same-or-not q n) [
          | inl e ↦ absurd (left-over h q e is)
          | inr e ↦ member-after m.groups place.group fewer left-known q (without-kept (group_at m.groups place.group).members n q e) h
              (placed.within h q (sym (left-other m n q place e) ∙ is)
              (sym (at-mark m.groups place.group h fewer left-known) ∙ unmarked))
        ];
      }
    where
      length-members : length (with_members m.groups place.group fewer) ≡ length m.groups
      length-members = length-set m.groups place.group (record (group_at m.groups place.group) { members = fewer })

  -- Who left is under no group.
  pub apart-left : IsUnderNone after n
  apart-left = (gone-same m.places n, left-none)

-- Who has no place is under no group.
pub apart-none : (m : Membership) → ArePlaced m → (n : ℕ) → map.get m.places n ≡ None → IsUnderNone m n
apart-none m placed n none = (none, λ h is. over-none m n h none (placed.members h n is))

-- Who has no key has no place.
pub place-none : (m : Membership) (n : ℕ) → key_at m n ≡ None → map.get m.places n ≡ None
place-none m n = by (map.get m.places n) where
  by : (o : Option Place) → option_map (λ p. p.key) o ≡ None → o ≡ None
  by None h = refl
  by (Some place) h = absurd (true≢false (ap is_some h))

-- What was put at a new number and taken out again leaves the places.
pub put-taken : (places : map.FinMap nat_cmp Place) (n : ℕ) (place : Place) → map.get places n ≡ None
    → map.remove (map.insert places n place) n ≡ places
put-taken places n place none = remove-put places n place ∙ map-absent places n none

-- What holds of the groups that an Ok leaves, and of those that an Err leaves, holds after a call.
pub either : {A B : Type 0} (r : Result A B) (P : List Group → Type 0) (new next old : List Group)
    → OnOk r (new ≡ next) → OnErr r (new ≡ old)
    → P next → P old → P new
either (Ok a) P new next old ok err is was = subst P (sym ok) is
either (Err e) P new next old ok err is was = subst P (sym err) was

-- The members that a cancel answers have keys.
pub answered-keyed : {A B : Type 0} (r : Result (A × List ℕ) B) (m : Membership) → ArePlaced m → (c : ℕ)
    → IfOk r (λ canceling. canceling.1 ≡ (group_at m.groups c).members) → IfOk r (λ canceling. HaveKeys m canceling.1)
answered-keyed (Ok a) m placed c is = subst (HaveKeys m) (sym is) (members-keyed m placed c)
answered-keyed (Err e) m placed c is = tt
