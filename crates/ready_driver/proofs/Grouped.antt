-- What calls leave of groups that are those of a readiness driver as plain data.
use Rattle.std.proofs.Common.{◌≡◌, inl, inr, ℕ, zero, suc, ◌+◌, ◌<◌, ◌==◌, Bool, true, false, List, [], ◌∷◌, ◌++◌, length}
use Rattle.std.proofs.Common.{Option, Some, None, option_map, slice_get, IfSome, refl, sym, ◌∙◌, ap, subst, arith, if◌then◌else◌}
use Rattle.std.proofs.Common.{eq-eqb}
use Rattle.std.proofs.lemmas.List.{append-nil}
use Rattle.std.proofs.lemmas.Option.{slice_get_within}
use Rattle.std.proofs.lemmas.Bool.{false_from_ne_true}
use Rattle.rent_buf.specs.Buffer.{Buffer}
use Rattle.rent_buf.specs.Parts.{Parts}
use Rattle.machine.specs.declared.request.Request.{Request}
use Rattle.machine.specs.Ledger.{is_marked}
use Rattle.machine.specs.Lists.{amended, has_number, numbers_where, passes}
use Rattle.machine.proofs.Amended.{get-amended-other}
use Rattle.machine.proofs.Members.{has-where}
use Rattle.machine.proofs.Numbers.{same-or-not, equal-other}
use Rattle.machine.proofs.Owning.{marks-more}
use Rattle.machine.proofs.Where.{where-kept, where-joined}
use Rattle.cancel_core.specs.Group.{group_at, without}
use Rattle.driver_core.specs.Groups.{is_under_canceled, joins_if}
use Rattle.driver_core.specs.Members.{Membership, ArePlaced, none, with_fresh, leaves, cancels, joins}
use Rattle.driver_core.proofs.Placing.{without-absent, without-drops, without-keeps}
use Rattle.driver_core.proofs.Regrouped.{members_of, marked-at, left-marks, left-members, joined-marks, joined-members}
use Rattle.driver_core.proofs.Regrouped.{joined-members-other, fresh-marks, fresh-members, canceled-marks, canceled-mark, canceled-members}
use Rattle.driver_core.proofs.Regrouped.{canceled-members-other}
use Rattle.ready_driver.specs.Legacy.{LegacyOp, Legacy, idle, seen, is_under_at, members_at}
use Rattle.ready_driver.specs.LegacyStands.{GroupsStand}
use Rattle.ready_driver.specs.LegacyStep.{freed, with_ask, ask_each, new_op, cancel_group}
use Rattle.ready_driver.specs.Polling.{asked_at, joined_at}

-- No number is listed below the first.
unlisted : {A : Type 0} (test : A → Bool) (k m : ℕ) (xs : List A) → m < k → has_number m (numbers_where test k xs) ≡ false
unlisted test k m xs below = false_from_ne_true (has_number m (numbers_where test k xs)) (λ is.
    let r = has-where test xs k m is in let q = r.2 in omega (arith, below, q))

-- A change after which the element doesn't pass takes its number out.
where-without : {A : Type 0} (test : A → Bool) (f : A → A) (xs : List A) (n k : ℕ) → ((x : A) → test (f x) ≡ false) →
    numbers_where test k (amended xs n f) ≡ without (numbers_where test k xs) (k + n)
where-without test f [] n k fails = refl
where-without {A} test f (x ∷ xs) zero k fails =
    let rest : List ℕ = numbers_where test (suc k) xs in
    let same : k ≡ k + 0 = omega arith in
    let absent : has_number k rest ≡ false = unlisted test (suc k) k xs (omega arith) in
    ap (λ b. if b then k ∷ rest else rest) (fails x) ∙ by (test x) rest absent ∙ ap (without (if test x then k ∷ rest else rest)) same
  where
    by : (b : Bool) (rest : List ℕ) → has_number k rest ≡ false → rest ≡ without (if b then k ∷ rest else rest) k
    by true rest absent = sym (without-drops k rest ∙ without-absent k rest absent)
    by false rest absent = sym (without-absent k rest absent)
where-without {A} test f (x ∷ xs) (suc n) k fails =
    let rest : List ℕ = numbers_where test (suc k) xs in
    let same : suc k + n ≡ k + suc n = omega arith in
    ap (λ ys. if test x then k ∷ ys else ys) (where-without test f xs n (suc k) fails ∙ ap (without rest) same) ∙ by (test x) rest
  where
    by : (b : Bool) (rest : List ℕ) →
        (if b then k ∷ without rest (k + suc n) else without rest (k + suc n)) ≡ without (if b then k ∷ rest else rest) (k + suc n)
    by true rest = sym (without-keeps (k + suc n) k rest (λ e. omega (arith, e)))
    by false rest = refl

-- A number counted from zero.
from-zero : (n : ℕ) → n ≡ 0 + n
from-zero n = omega arith

-- With no groups they are those of a new driver.
pub groups-idle : (m : Membership) → m ≡ none → GroupsStand m idle
groups-idle m is = subst (λ x. GroupsStand x idle) (sym is) (record { marks = refl; members = λ g. refl })

-- The members of a group, by its mark.
abbrev unless_marked : Bool → List ℕ → List ℕ
unless_marked b numbers = if b then [] else numbers

-- Groups are those of a driver that has the same groups, and the same operations under each.
pub groups-same : (m : Membership) (D E : Legacy) → E.groups ≡ D.groups →
    ((g : ℕ) → numbers_where (is_under_at g) 0 E.slots ≡ numbers_where (is_under_at g) 0 D.slots) → GroupsStand m D → GroupsStand m E
groups-same m D E groups under stand = record {
  marks = stand.marks ∙ sym groups;
  members = λ g. stand.members g
      ∙ sym (ap (λ (gs : List Bool). unless_marked (passes (λ mark. mark) (slice_get gs g)) (numbers_where (is_under_at g) 0 E.slots))
      groups
      ∙ ap (unless_marked (is_marked (seen D) g)) (under g));
}

-- The operation that was looked up is under its group, whether its cancel is asked for or not.
asked-under : (g : ℕ) (slot : Option LegacyOp) → is_under_at g (option_map with_ask slot) ≡ is_under_at g slot
asked-under g None = refl
asked-under g (Some op) = refl

-- The cancel of an operation is asked for.
pub groups-asked : (m : Membership) (D : Legacy) (n : ℕ) → GroupsStand m D → GroupsStand m (asked_at D n)
groups-asked m D n stand = groups-same m D (asked_at D n) refl
    (λ g. where-kept (is_under_at g) (option_map with_ask) D.slots n 0 (λ x there. asked-under g x)) stand

-- The cancels of operations are asked for.
under-each : (g : ℕ) (slots : List (Option LegacyOp)) (numbers : List ℕ) →
    numbers_where (is_under_at g) 0 (ask_each slots numbers) ≡ numbers_where (is_under_at g) 0 slots
under-each g slots [] = refl
under-each g slots (n ∷ numbers) =
    under-each g (amended slots n (option_map with_ask)) numbers
    ∙ where-kept (is_under_at g) (option_map with_ask) slots n 0 (λ x there. asked-under g x)

-- An operation is gone, and left its group.
pub groups-freed : (m : Membership) → ArePlaced m → (n : ℕ) (D : Legacy) → GroupsStand m D → GroupsStand (leaves m n) (freed D n)
groups-freed m placed n D stand = record {
  marks = left-marks m n ∙ stand.marks;
  members = λ g. left-members m placed n g ∙ ap (λ ms. without ms n) (stand.members g) ∙ by (is_marked (seen D) g) g
      ∙ ap (unless_marked (is_marked (seen D) g)) (ap (without (numbers_where (is_under_at g) 0 D.slots)) (from-zero n)
      ∙ sym (where-without (is_under_at g) (λ slot. None) D.slots n 0 (λ x. refl)));
}
  where
    by : (b : Bool) (g : ℕ) → without (unless_marked b (numbers_where (is_under_at g) 0 D.slots)) n
        ≡ unless_marked b (without (numbers_where (is_under_at g) 0 D.slots) n)
    by true g = refl
    by false g = refl

-- A group is canceled exactly where it is marked in the driver.
pub stands-marked : (m : Membership) (D : Legacy) → GroupsStand m D → (g : ℕ) → g < length m.groups →
    is_marked (seen D) g ≡ (group_at m.groups g).canceled
stands-marked m D stand g within =
    ap (λ marks. passes (λ mark. mark) (slice_get marks g)) (sym stand.marks) ∙ marked-at m g within

-- A new operation joins the group that it is submitted under, or none.
module _ (m : Membership) (D : Legacy) (request : Request Buffer Parts) (stand : GroupsStand m D) where
  -- The operations under a group, with the new one.
  under-joined : (under : Option ℕ) (g : ℕ) → numbers_where (is_under_at g) 0 (joined_at D request under).slots
      ≡ numbers_where (is_under_at g) 0 D.slots ++ (if passes (λ group. group == g) under then length D.slots ∷ [] else [])
  under-joined under g =
      where-joined (is_under_at g) D.slots (Some (new_op request under)) 0
      ∙ ap (λ k. numbers_where (is_under_at g) 0 D.slots ++ (if passes (λ group. group == g) under then k ∷ [] else []))
      (sym (from-zero (length D.slots)))

  -- Each number below the new one.
  under-below : (g q : ℕ) → has_number q (numbers_where (is_under_at g) 0 D.slots) ≡ true → q < length D.slots
  under-below g q listed =
      let r = has-where (is_under_at g) D.slots 0 q listed in
      let w = slice_get_within D.slots r.0 r.1 r.3 in
      let e = r.2 in
      omega (arith, w, e)

  pub groups-joined : (under : Option ℕ) (key : ℕ) → IfSome under (λ g. g < length m.groups) → is_under_canceled m under ≡ false →
      GroupsStand (joins_if m under (length D.slots) key) (joined_at D request under)
  groups-joined None key known unmarked = record {
    marks = stand.marks;
    members = λ g. stand.members g
        ∙ ap (unless_marked (is_marked (seen D) g)) (sym (under-joined None g ∙ append-nil (numbers_where (is_under_at g) 0 D.slots)));
  }
  groups-joined (Some u) key known unmarked =
      let plain : members_at D u ≡ numbers_where (is_under_at u) 0 D.slots =
      ap (λ b. unless_marked b (numbers_where (is_under_at u) 0 D.slots)) (stands-marked m D stand u known ∙ unmarked) in
      record {
        marks = joined-marks m u (length D.slots) key ∙ stand.marks;
        members = λ g. elim (same-or-not g u) [
          | inl q ↦
              ap (members_of (joins m u (length D.slots) key)) q
              ∙ joined-members m u (length D.slots) key (numbers_where (is_under_at u) 0 D.slots) known (stand.members u ∙ plain)
              (under-below u)
              ∙ sym (under-joined (Some u) u
              ∙ ap (λ b. numbers_where (is_under_at u) 0 D.slots ++ (if b then length D.slots ∷ [] else [])) (eq-eqb u u refl))
              ∙ sym (ap (λ b. unless_marked b (numbers_where (is_under_at u) 0 (joined_at D request (Some u)).slots))
              (stands-marked m D stand u known ∙ unmarked))
              ∙ ap (members_at (joined_at D request (Some u))) (sym q)
          | inr q ↦
              joined-members-other m u (length D.slots) key g q ∙ stand.members g
              ∙ ap (unless_marked (is_marked (seen D) g)) (sym (under-joined (Some u) g
              ∙ ap (λ b. numbers_where (is_under_at g) 0 D.slots ++ (if b then length D.slots ∷ [] else []))
              (equal-other u g (λ e. q (sym e)))
              ∙ append-nil (numbers_where (is_under_at g) 0 D.slots)))
        ];
      }

-- With a fresh group behind them.
pub groups-fresh : (m : Membership) (D : Legacy) (cancellers : List ℕ) → GroupsStand m D →
    GroupsStand (with_fresh m) (record D { groups = D.groups ++ false ∷ []; cancellers = cancellers })
groups-fresh m D cancellers stand = record {
  marks = fresh-marks m ∙ ap (λ marks. marks ++ false ∷ []) stand.marks;
  members = λ g. fresh-members m g ∙ stand.members g
      ∙ sym (ap (λ b. unless_marked b (numbers_where (is_under_at g) 0 D.slots)) (marks-more D.groups g));
}

-- A group that was made is canceled.
pub groups-canceled : (m : Membership) (D : Legacy) (k c : ℕ) → c < length m.groups → GroupsStand m D →
    GroupsStand (cancels m c) (cancel_group D k c)
groups-canceled m D k c within stand = record {
  marks = canceled-marks m c ∙ ap (λ ms. amended ms c (λ mark. true) ++ false ∷ []) stand.marks;
  members = λ g. elim (same-or-not g c) [
    | inl e ↦
        ap (members_of (cancels m c)) e ∙ canceled-members m c within
        ∙ sym (ap (λ b. unless_marked b (under c))
        (mark c ∙ ap (passes (λ mark. mark)) (canceled-mark m D.groups c stand.marks within)))
        ∙ ap (members_at (cancel_group D k c)) (sym e)
    | inr e ↦
        canceled-members-other m c g e ∙ stand.members g
        ∙ ap (unless_marked (is_marked (seen D) g)) (sym (under-each g D.slots (members_at D c)))
        ∙ sym (ap (λ b. unless_marked b (under g))
        (mark g ∙ ap (passes (λ mark. mark)) (get-amended-other (λ mark. true) D.groups c g e)))
  ];
}
  where
    under : ℕ → List ℕ
    under g = numbers_where (is_under_at g) 0 (ask_each D.slots (members_at D c))

    mark : (g : ℕ) → is_marked (seen (cancel_group D k c)) g ≡ passes (λ mark. mark) (slice_get (amended D.groups c (λ mark. true)) g)
    mark g = marks-more (amended D.groups c (λ mark. true)) g
