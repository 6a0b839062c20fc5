-- What calls leave of groups that stand for those of a ledger.
use Rattle.std.proofs.Common.{◌≡◌, ◌≢◌, ◌⊎◌, inl, inr, ℕ, ◌<◌, true, false, [], ◌∷◌, ◌++◌, length, Option, Some, Bool}
use Rattle.std.proofs.Common.{None, slice_get, IfSome, refl, sym, ◌∙◌, ap, subst, arith, nat_cmp}
use Rattle.std.specs.FinMap as finite
use Rattle.std.proofs.lemmas.Bool.{lt-leb}
use Rattle.std.proofs.lemmas.Option.{slice_get_within}
use Rattle.rent_buf.specs.Buffer.{Buffer}
use Rattle.rent_buf.specs.Parts.{Parts}
use Rattle.machine.specs.declared.ledger.Event.TheVariants.{Submit}
use Rattle.machine.specs.declared.request.Request.{Request}
use Rattle.machine.specs.Ledger.{Ledger, Place, InQueue, InFlight, InDone, Reaped, Gone, is_kept, is_marked, members, empty}
use Rattle.machine.specs.Ledger.{group_under}
use Rattle.machine.specs.Refusal.{has_no_canceller}
use Rattle.machine.specs.Lists.{amended, has_number, passes}
use Rattle.machine.specs.Step.{new_canceller_step, new_handle_step, cancel_all_step}
use Rattle.machine.proofs.Amended.{get-amended-other}
use Rattle.machine.proofs.Grouping.{op_groups, GroupsStay, groups-cancel_all}
use Rattle.machine.proofs.Members.{members-are}
use Rattle.machine.proofs.Numbers.{same-or-not}
use Rattle.machine.proofs.Owning.{members-marked, members-kept, members-left, members-more, members-beside, marks-more}
use Rattle.machine.proofs.Staying.{Groups, groups_of}
use Rattle.machine.proofs.Stepping.{OwnedAt}
use Rattle.cancel_core.specs.Group.{fresh, canceled, group_at, without}
use Rattle.driver_core.specs.declared.op.Op.{Op}
use Rattle.driver_core.specs.declared.slot.Slot.{Slot}
use Rattle.driver_core.specs.Answers.{IsUnder}
use Rattle.driver_core.specs.Groups.{GroupsStand, is_under_canceled, joins_if}
use Rattle.driver_core.specs.Members.{Membership, ArePlaced, none, with_fresh, joins, leaves, cancels}
use Rattle.driver_core.specs.Op.{AddsToken, DropsToken}
use Rattle.driver_core.specs.Ops.{Ops}
use Rattle.driver_core.specs.Slot.{number_at, number_if, serial_of, is_owned_life, KeepsNumbers}
use Rattle.driver_core.specs.Slots.{SlotsStand, life_of, owned_life}
use Rattle.driver_core.proofs.Lists.{some}
use Rattle.driver_core.proofs.Numbers.{owner}
use Rattle.driver_core.proofs.Owned.{owned-slot}
use Rattle.driver_core.proofs.Regrouped.{members_of, marked-at, left-marks, left-members, joined-marks, joined-members}
use Rattle.driver_core.proofs.Regrouped.{joined-members-other, fresh-marks, fresh-members, canceled-marks, canceled-mark, canceled-members}
use Rattle.driver_core.proofs.Regrouped.{canceled-members-other}

-- The slot of an operation that isn't gone, and wasn't dropped, is its user's.
owned-place : (p : Place) (task : Option ℕ) → is_kept p ≡ true → is_owned_life (owned_life p task) ≡ true
owned-place InQueue None kept = refl
owned-place InQueue (Some task) kept = refl
owned-place InFlight None kept = refl
owned-place InFlight (Some task) kept = refl
owned-place (InDone outcome) None kept = refl
owned-place (InDone outcome) (Some task) kept = refl
owned-place (Reaped outcome) task kept = refl
owned-place Gone task kept = (let f : ⊥ = cc in absurd f)

module _ {B : Type 0} (buffer : B → Buffer) (slots : finite.FinMap nat_cmp (Slot B)) (L : Ledger) (old : SlotsStand buffer slots L.ops)
  where
    -- The number of a slot is that of an operation of its user's.
    pub numbered-owned : (key n : ℕ) → number_at slots key ≡ Some n → OwnedAt L n
    numbered-owned key n is =
        let h = owner slots key n is in
        let w = owned-slot buffer L h.slot (old.holds key h.slot h.there) h.owned in
        record {
          operation = w.fit.operation;
          there = ap (slice_get L.ops) (sym h.serial) ∙ w.fit.there;
          kept = w.fit.live;
          undropped = w.not_dropped;
        }

    -- An operation of its user's has its number at a key.
    pub owned-numbered : (n : ℕ) → OwnedAt L n → (key : ℕ) × (number_at slots key ≡ Some n)
    owned-numbered n o =
        let h = old.each n o.operation o.there o.kept in
        let fit = old.holds h.key h.slot h.there in
        let same = some fit.operation o.operation (slice_get L.ops n) (ap (slice_get L.ops) (sym h.serial) ∙ fit.there) o.there in
        let mine : is_owned_life h.slot.life ≡ true =
        ap is_owned_life fit.life ∙ ap (λ p. is_owned_life (life_of p.dropped p.place p.task)) same
        ∙ ap (λ b. is_owned_life (life_of b o.operation.place o.operation.task)) o.undropped
        ∙ owned-place o.operation.place o.operation.task o.kept in
        (h.key, ap serial_of h.there ∙ ap (λ b. number_if b h.slot.serial) mine ∙ ap Some h.serial)

    -- It has it at one key alone.
    pub one-key : (key j n : ℕ) → number_at slots key ≡ Some n → number_at slots j ≡ Some n → key ≡ j
    one-key key j n at also =
        let h = owner slots key n at in
        let k = owner slots j n also in
        old.one key j h.slot k.slot h.there k.there (h.serial ∙ sym k.serial)

-- With no groups they stand for those of the empty ledger.
pub groups-none : (capacity : ℕ) (m : Membership) → m ≡ none → GroupsStand m (empty capacity)
groups-none capacity m is = subst (λ x. GroupsStand x (empty capacity)) (sym is) (record { marks = refl; members = λ group. refl })

-- Groups that stay have their marks.
stays-marked : (L M : Ledger) (g : ℕ) → groups_of M ≡ groups_of L → is_marked M g ≡ is_marked L g
stays-marked L M g same = ap (λ (G : Groups). passes (λ mark. mark) (slice_get G.groups g)) same

-- Where slots keep their numbers and groups stay, what stood for a ledger stands for the next one.
pub groups-kept : {B : Type 0} (buffer : B → Buffer) (slots slots' : finite.FinMap nat_cmp (Slot B)) (L M : Ledger) (m : Membership) →
    SlotsStand buffer slots L.ops → SlotsStand buffer slots' M.ops → KeepsNumbers slots slots' → GroupsStay L M → GroupsStand m L →
    GroupsStand m M
groups-kept buffer slots slots' L M m old new keeps stay stand =
    let into : (n : ℕ) → OwnedAt L n → OwnedAt M n = λ n o.
    (let k = owned-numbered buffer slots L old n o in numbered-owned buffer slots' M new k.0 n (keeps k.0 ∙ k.1)) in
    let from : (n : ℕ) → OwnedAt M n → OwnedAt L n = λ n o.
    (let k = owned-numbered buffer slots' M new n o in numbered-owned buffer slots L old k.0 n (sym (keeps k.0) ∙ k.1)) in
    record {
      marks = stand.marks ∙ sym (ap (λ (G : Groups). G.groups) stay.groups);
      members = λ g. stand.members g ∙ sym (members-kept L M g (stays-marked L M g stay.groups) stay.ops into from);
    }

-- Where one operation is its user's no more, and leaves its group, they stand for those of the next ledger.
pub groups-left : {B : Type 0} (buffer : B → Buffer) (old new : Ops B) (L M : Ledger) (m : Membership) (op : Op) →
    SlotsStand buffer old.slots.values L.ops → SlotsStand buffer new.slots.values M.ops →
    number_at old.slots.values op.key ≡ Some op.number → DropsToken old new op → GroupsStay L M → ArePlaced m → GroupsStand m L →
    GroupsStand (leaves m op.number) M
groups-left buffer old new L M m op was is at spends stay placed stand =
    let n = op.number in
    let into : (q : ℕ) → q ≢ n → OwnedAt L q → OwnedAt M q = λ q other o.
    (let k = owned-numbered buffer old.slots.values L was q o in
    numbered-owned buffer new.slots.values M is k.0 q
    ((spends (record { number = q; key = k.0 })).1 (k.1, λ e. other (ap (λ x. x.number) e)))) in
    let from : (q : ℕ) → OwnedAt M q → OwnedAt L q × (q ≢ n) = λ q o.
    (let k = owned-numbered buffer new.slots.values M is q o in
    let both = (spends (record { number = q; key = k.0 })).0 k.1 in (
      numbered-owned buffer old.slots.values L was k.0 q both.0,
      λ e. both.1 (same-op q k.0 e (one-key buffer old.slots.values L was k.0 op.key n
          (subst (λ i. number_at old.slots.values k.0 ≡ Some i) e both.0) at)),
    )) in
    record {
      marks = left-marks m n ∙ stand.marks ∙ sym (ap (λ (G : Groups). G.groups) stay.groups);
      members = λ g. left-members m placed n g ∙ ap (λ ms. without ms n) (stand.members g)
          ∙ sym (members-left L M g n (stays-marked L M g stay.groups) stay.ops into from);
    }
  where
    same-op : (q k : ℕ) → q ≡ op.number → k ≡ op.key → ◌≡◌ {A = Op} (record { number = q; key = k }) op
    same-op q k e f = ap (λ i. record { number = i; key = k }) e ∙ ap (λ j. record { number = op.number; key = j }) f

-- A group that isn't canceled isn't marked in a ledger for which groups stand.
pub stands-marked : (m : Membership) (L : Ledger) → GroupsStand m L → (g : ℕ) → g < length m.groups →
    is_marked L g ≡ (group_at m.groups g).canceled
stands-marked m L stand g within =
    ap (λ marks. passes (λ mark. mark) (slice_get marks g)) (sym stand.marks) ∙ marked-at m g within

-- The group of the cancel handle that the machine submits under is the one that a driver submits under.
pub under-group : (L : Ledger) (under handle : Option ℕ) → IsUnder L under handle → group_under L handle ≡ under
under-group L None handle is = ap (group_under L) is
under-group L (Some g) handle is = is

-- That cancel handle was created.
pub under-known : (L : Ledger) (request : Request Buffer Parts) (under handle : Option ℕ) (linked : Bool) → IsUnder L under handle →
    has_no_canceller L (Submit request handle linked) ≡ false
under-known L request under None linked is = refl
under-known L request None (Some k) linked is = (let f : ⊥ = cc in absurd f)
under-known L request (Some g) (Some k) linked is = lt-leb (length L.cancel_handles) k (slice_get_within L.cancel_handles k g is)

-- Where a new operation joins the group that it is submitted under, or none, they stand for those of the next ledger.
module _ {B : Type 0} (buffer : B → Buffer) (old new : Ops B) (L M : Ledger) (m : Membership) (op : Op) (under : Option ℕ)
    (was : SlotsStand buffer old.slots.values L.ops) (is : SlotsStand buffer new.slots.values M.ops) (adds : AddsToken old new op)
    (groups : groups_of M ≡ groups_of L) (ops : op_groups M ≡ op_groups L ++ under ∷ []) (number : op.number ≡ length L.ops)
    (stand : GroupsStand m L) where
  into : (n : ℕ) → OwnedAt L n → OwnedAt M n
  into n o =
      let k = owned-numbered buffer old.slots.values L was n o in
      numbered-owned buffer new.slots.values M is k.0 n (adds.kept (record { number = n; key = k.0 }) k.1)

  this : OwnedAt M op.number
  this = numbered-owned buffer new.slots.values M is op.key op.number adds.this

  from : (n : ℕ) → OwnedAt M n → OwnedAt L n ⊎ (n ≡ op.number)
  from n o =
      let k = owned-numbered buffer new.slots.values M is n o in
      elim (adds.only (record { number = n; key = k.0 }) k.1) [
        | inl e ↦ inr (ap (λ x. x.number) e)
        | inr h ↦ inl (numbered-owned buffer old.slots.values L was k.0 n h)
      ]

  -- A member that there was is below the new one.
  below : (g q : ℕ) → is_marked L g ≡ false → has_number q (members L g) ≡ true → q < op.number
  below g q unmarked h =
      let a = members-are L g q unmarked h in
      let w = slice_get_within L.ops q a.operation a.there in
      omega (arith, w, number)

  pub groups-joined : (key : ℕ) → IfSome under (λ g. g < length m.groups) → is_under_canceled m under ≡ false →
      GroupsStand (joins_if m under op.number key) M
  groups-joined key known unmarked = by under refl known unmarked
    where
      marks : M.groups ≡ L.groups
      marks = ap (λ (G : Groups). G.groups) groups

      beside : (g : ℕ) → under ≢ Some g → members M g ≡ members L g
      beside g other = members-beside L M op.number under ops number into this from g (stays-marked L M g groups) other

      by : (x : Option ℕ) → under ≡ x → IfSome x (λ g. g < length m.groups) → is_under_canceled m x ≡ false →
          GroupsStand (joins_if m x op.number key) M
      by None e within opened = record {
        marks = stand.marks ∙ sym marks;
        members = λ g. stand.members g ∙ sym (beside g (λ q. (let f : ◌≡◌ {A = Option ℕ} None (Some g) = sym e ∙ q in cc)));
      }
      by (Some u) e within opened =
          let now : is_marked L u ≡ false = stands-marked m L stand u within ∙ opened in
          record {
            marks = joined-marks m u op.number key ∙ stand.marks ∙ sym marks;
            members = λ g. elim (same-or-not g u) [
              | inl q ↦
                  ap (members_of (joins m u op.number key)) q
                  ∙ joined-members m u op.number key (members L u) within (stand.members u) (λ i h. below u i now h)
                  ∙ sym (members-more L M op.number under ops number into this from u (stays-marked L M u groups ∙ now) now e)
                  ∙ ap (members M) (sym q)
              | inr q ↦
                  joined-members-other m u op.number key g q ∙ stand.members g
                  ∙ sym (beside g (λ f. q (let s : ◌≡◌ {A = Option ℕ} (Some u) (Some g) = sym e ∙ f in cc)))
            ];
          }

-- With a fresh group behind them they stand for those of the ledger with a new canceller.
pub groups-fresh : (m : Membership) (L : Ledger) → GroupsStand m L → GroupsStand (with_fresh m) (new_canceller_step L)
groups-fresh m L stand = record {
  marks = fresh-marks m ∙ ap (λ marks. marks ++ false ∷ []) stand.marks;
  members = λ g. fresh-members m g ∙ stand.members g
      ∙ sym (members-kept L (new_canceller_step L) g (marks-more L.groups g) refl
      (λ n o. record { operation = o.operation; there = o.there; kept = o.kept; undropped = o.undropped })
      (λ n o. record { operation = o.operation; there = o.there; kept = o.kept; undropped = o.undropped }));
}

-- A cancel handle leaves groups and operations.
pub groups-handle : (m : Membership) (L : Ledger) (c : ℕ) → GroupsStand m L → GroupsStand m (new_handle_step L c)
groups-handle m L c stand = record { marks = stand.marks; members = stand.members }

-- Where a group that was made is canceled, which is that of a canceller, and its slots stay, they stand for those of the ledger with that
-- group canceled.
pub groups-canceled : {B : Type 0} (buffer : B → Buffer) (slots : finite.FinMap nat_cmp (Slot B)) (L : Ledger) (m : Membership) (k c : ℕ) →
    SlotsStand buffer slots L.ops → SlotsStand buffer slots (cancel_all_step L k c).ops → c < length m.groups → GroupsStand m L →
    GroupsStand (cancels m c) (cancel_all_step L k c)
groups-canceled buffer slots L m k c old new within stand =
    let M : Ledger = cancel_all_step L k c in
    let s = groups-cancel_all L k c in
    let marks : M.groups ≡ amended L.groups c (λ mark. true) ++ false ∷ [] = ap (λ (G : Groups). G.groups) s.0 in
    let into : (n : ℕ) → OwnedAt L n → OwnedAt M n = λ n o.
    (let j = owned-numbered buffer slots L old n o in numbered-owned buffer slots M new j.0 n j.1) in
    let from : (n : ℕ) → OwnedAt M n → OwnedAt L n = λ n o.
    (let j = owned-numbered buffer slots M new n o in numbered-owned buffer slots L old j.0 n j.1) in
    let at : (g : ℕ) → is_marked M g ≡ passes (λ mark. mark) (slice_get (amended L.groups c (λ mark. true)) g) = λ g.
    ap (λ ms. passes (λ mark. mark) (slice_get ms g)) marks ∙ marks-more (amended L.groups c (λ mark. true)) g in
    record {
      marks = canceled-marks m c ∙ ap (λ ms. amended ms c (λ mark. true) ++ false ∷ []) stand.marks ∙ sym marks;
      members = λ g. elim (same-or-not g c) [
        | inl e ↦
            ap (members_of (cancels m c)) e ∙ canceled-members m c within
            ∙ sym (members-marked M c (at c ∙ ap (passes (λ mark. mark)) (canceled-mark m L.groups c stand.marks within)))
            ∙ ap (members M) (sym e)
        | inr e ↦
            canceled-members-other m c g e ∙ stand.members g
            ∙ sym (members-kept L M g (at g ∙ ap (passes (λ mark. mark)) (get-amended-other (λ mark. true) L.groups c g e)) s.1 into from)
      ];
    }
