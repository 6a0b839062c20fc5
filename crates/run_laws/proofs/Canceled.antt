-- What a CancelAll names: the members of its canceller's present group.
use Rattle.std.proofs.Common.{◌≡◌, inl, inr, ℕ, zero, suc, ◌≤◌, Bool, true, false, List, [], ◌∷◌, Option, None, Some, option_map, slice_get}
use Rattle.std.proofs.Common.{refl, sym, ◌∙◌, ap, subst, arith}
use Rattle.machine.specs.declared.ledger.Event.{Event}
use Rattle.machine.specs.declared.ledger.Event.TheVariants.{CancelAll}
use Rattle.machine.specs.Lists.{passes}
use Rattle.machine.specs.Ledger.{Ledger, Operation, empty, is_kept, is_marked, members}
use Rattle.machine.specs.Refusal.{cause}
use Rattle.machine.specs.Step.{group_of}
use Rattle.machine.specs.Run.{ledger_before}
use Rattle.run_laws.specs.Groups.{CreatesHandle, IsCanceledBetween, IsGivenUnder, IsMemberBefore, Rise, NamesMembers, CancelsMembers}
use Rattle.machine.proofs.Amended.{get-map}
use Rattle.machine.proofs.Staying.{groups_of}
use Rattle.machine.proofs.Leaving.{Ascends}
use Rattle.machine.proofs.Stepping.{step-row, cancel-canceller}
use Rattle.machine.proofs.Grouping.{group-there}
use Rattle.machine.proofs.Members.{MemberAt, members-are, are-members, members-ascend}
use Rattle.run_laws.proofs.Replies.{reply-at}
use Rattle.run_laws.proofs.Moments.{Owned, History}
use Rattle.run_laws.proofs.Polls.{traced, given-once}
use Rattle.run_laws.proofs.Origins.{answers, IsGroupUnder, GroupGiven, Origin, OriginsAt}
use Rattle.run_laws.proofs.Groups.{origins_at, grouped_at, present-group}

-- A later number of those that rise is at least the first.
ascends-at : (k : ℕ) (xs : List ℕ) (j n : ℕ) → Ascends k xs → slice_get xs j ≡ Some n → k ≤ n
ascends-at k [] j n a there = cc
ascends-at k (x ∷ xs) zero n a there = (let q : x ≡ n = cc in let le = a.0 in omega arith)
ascends-at k (x ∷ xs) (suc j) n a there =
    let later = ascends-at (suc x) xs j n a.1 there in let le = a.0 in omega (arith, later, le)

-- Numbers that rise one by one rise.
ascends-rise : (k : ℕ) (xs : List ℕ) → Ascends k xs → Rise xs
ascends-rise k [] a i j m n lt one two = cc
ascends-rise k (x ∷ xs) a zero zero m n lt one two = absurd (omega (arith, lt))
ascends-rise k (x ∷ xs) a zero (suc j) m n lt one two =
    let q : x ≡ m = cc in let later = ascends-at (suc x) xs j n a.1 two in omega (arith, q, later)
ascends-rise k (x ∷ xs) a (suc i) zero m n lt one two = absurd (omega (arith, lt))
ascends-rise k (x ∷ xs) a (suc i) (suc j) m n lt one two = ascends-rise (suc x) xs a.1 i j m n (omega (arith, lt)) one two

module _ (capacity : ℕ) (events : List Event) where
  module _ (c i : ℕ) (here : slice_get events i ≡ Some (CancelAll c))
      (unrefused : cause (ledger_before capacity events i) (CancelAll c) ≡ None) where
    -- The ledger before the event.
    abbrev before : Ledger
    before = ledger_before capacity events i

    -- The group that is canceled.
    abbrev group : ℕ
    group = group_of before c

    -- It is the canceller's present one.
    at : slice_get before.cancellers c ≡ Some group
    at = group-there before c (cancel-canceller before c unrefused)

    -- It wasn't marked before.
    unmarked : is_marked before group ≡ false
    unmarked = ap (passes (λ mark. mark)) ((grouped_at capacity events i).present c group at)

    -- Where the groups come from.
    origins : OriginsAt capacity events i before
    origins = origins_at capacity events i (CancelAll c) here

    -- A cancel handle of the group is one of this canceller, and no CancelAll came since it was created.
    record PresentHandle (handle : ℕ) : Type 0 where
      made : ℕ
      is_made : CreatesHandle events (answers capacity events) c handle made
      present : IsCanceledBetween events (answers capacity events) c made i → ⊥

    -- So it is with each.
    present-handle : (handle : ℕ) → slice_get before.cancel_handles handle ≡ Some group → PresentHandle handle
    present-handle handle there =
        let o : Origin capacity events i (groups_of before) handle group = origins.origin handle group there in
        elim o.state [
          | inl s ↦ (
              let same : o.canceller ≡ c = (grouped_at capacity events i).apart o.canceller c group s.1 at in
              record {
                made = o.made;
                is_made = subst (λ b. CreatesHandle events (answers capacity events) b handle o.made) same o.is_made;
                present = subst (λ b. IsCanceledBetween events (answers capacity events) b o.made i → ⊥) same s.0;
              })
          | inr s ↦ absurd (let q : Some false ≡ Some true = sym ((grouped_at capacity events i).present c group at) ∙ s.1 in
              let f : ⊥ = cc in f)
        ]

    -- An operation of the group was given under a cancel handle of it.
    given-under : (n : ℕ) (under : Option ℕ) (x : GroupGiven capacity events i (groups_of before) n (Some group)) →
        x.is_given.under ≡ under → IsGroupUnder (groups_of before) under (Some group) →
        IsGivenUnder capacity events (answers capacity events) c n i
    given-under n None x is u = (let f : ⊥ = cc in absurd f)
    given-under n (Some handle) x is u =
        let q : u.0 ≡ group = (let w = u.2 in cc) in
        let p : PresentHandle handle = present-handle handle (u.1 ∙ ap Some q) in
        record {
          given = x.at;
          before = x.before;
          is_given = x.is_given;
          handle = handle;
          under = is;
          made = p.made;
          is_made = p.is_made;
          present = p.present;
        }

    -- The group of an operation that is there, with its origin.
    op-given : (n : ℕ) (o : Operation) → slice_get before.ops n ≡ Some o → GroupGiven capacity events i (groups_of before) n o.group
    op-given n o there = origins.given n o.group (get-map (λ x. x.group) before.ops n ∙ ap (option_map (λ x. x.group)) there)

    -- A member is one by the events.
    member-before : (n : ℕ) → MemberAt before group n → IsMemberBefore capacity events (answers capacity events) c n i
    member-before n m =
        let o : Operation = m.operation in
        let h : History capacity events i n (Some o) =
        subst (History capacity events i n) m.there ((traced capacity events i (CancelAll c) here).history n) in
        let owned : Owned capacity events i n false true =
        subst (λ b. Owned capacity events i n b true) m.undropped
        (subst (Owned capacity events i n o.dropped) m.kept h.owned) in
        let x : GroupGiven capacity events i (groups_of before) n (Some group) =
        subst (GroupGiven capacity events i (groups_of before) n) m.under (op-given n o m.there) in
        record {
          given = given-under n x.is_given.under x refl x.under;
          unhanded = λ z. owned.0 z.hand z.before z.is_handed;
          undropped = λ z. owned.1 z.drop z.before z.is_dropped;
        }

    -- An operation that was neither handed over nor dropped is there, and its user's.
    owned-member : (n : ℕ) (o : Operation) (dropped kept : Bool) → o.dropped ≡ dropped → is_kept o.place ≡ kept →
        slice_get before.ops n ≡ Some o → o.group ≡ Some group → Owned capacity events i n dropped kept →
        IsMemberBefore capacity events (answers capacity events) c n i → MemberAt before group n
    owned-member n o true kept d k there under owned m = absurd (m.undropped owned)
    owned-member n o false true d k there under owned m = record { operation = o; there = there; under = under; kept = k; undropped = d }
    owned-member n o false false d k there under owned m = absurd (m.unhanded owned)

    -- What was given under a cancel handle of the present group has that group.
    own-group : (handle made g : ℕ) (x : Option ℕ) → CreatesHandle events (answers capacity events) c handle made →
        (IsCanceledBetween events (answers capacity events) c made i → ⊥) → slice_get before.cancel_handles handle ≡ Some g →
        x ≡ Some g → x ≡ Some group
    own-group handle made g x is_made present there is =
        is ∙ sym (present-group capacity events i handle c made is_made origins g there present) ∙ at

    -- What is a member by the events has this group.
    group-is : (n : ℕ) (o : Operation) → slice_get before.ops n ≡ Some o →
        IsMemberBefore capacity events (answers capacity events) c n i → o.group ≡ Some group
    group-is n o there m =
        let y : IsGivenUnder capacity events (answers capacity events) c n i = m.given in
        let x : GroupGiven capacity events i (groups_of before) n o.group = op-given n o there in
        let same : x.at ≡ y.given = given-once capacity events n x.at y.given x.is_given y.is_given in
        let under : x.is_given.under ≡ y.is_given.under =
        (let q = sym x.is_given.event ∙ ap (slice_get events) same ∙ y.is_given.event in cc) in
        let u : IsGroupUnder (groups_of before) (Some y.handle) o.group =
        subst (λ z. IsGroupUnder (groups_of before) z o.group) (under ∙ y.under) x.under in
        own-group y.handle y.made u.0 o.group y.is_made y.present u.1 u.2

    -- What is a member by the events is one, by what was looked up.
    member-at : (n : ℕ) (x : Option Operation) → slice_get before.ops n ≡ x → History capacity events i n x →
        IsMemberBefore capacity events (answers capacity events) c n i → MemberAt before group n
    member-at n None there h m = absurd (h.ungiven m.given.given m.given.before m.given.is_given)
    member-at n (Some o) there h m =
        owned-member n o o.dropped (is_kept o.place) refl refl there (group-is n o there m) h.owned m

    -- The reply names exactly the members.
    names-members : NamesMembers capacity events (answers capacity events) c i
    names-members = record {
      numbers = members before group;
      reply = reply-at (empty capacity) events i (CancelAll c) here ∙ ap (λ s. Some s.1) (step-row before (CancelAll c) unrefused);
      rise = ascends-rise 0 (members before group) (members-ascend before group);
      names = λ n. (
        λ is. member-before n (members-are before group n unmarked is),
        λ m. are-members before group n unmarked
            (member-at n (slice_get before.ops n) refl ((traced capacity events i (CancelAll c) here).history n) m),
      );
    }

  -- An unrefused CancelAll names exactly the members of its canceller's present group.
  pub cancels-members : CancelsMembers capacity events (answers capacity events)
  cancels-members c i here unrefused = names-members c i here unrefused
