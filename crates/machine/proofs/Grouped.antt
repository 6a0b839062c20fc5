-- What holds of the groups of every ledger that events led to.
use Rattle.std.proofs.Common.{◌≡◌, ◌≢◌, inl, inr, ℕ, ◌<◌, Bool, true, false, List, [], ◌∷◌, ◌++◌, length, Option, None, Some}
use Rattle.std.proofs.Common.{option_map, slice_get, refl, sym, ◌∙◌, ap, subst, arith}
use Rattle.std.proofs.lemmas.List.{length-append}
use Rattle.std.proofs.lemmas.Option.{slice_get_within}
use Rattle.rent_buf.specs.Buffer.{Buffer}
use Rattle.rent_buf.specs.Parts.{Parts}
use Rattle.machine.specs.declared.request.Request.{Request}
use Rattle.machine.specs.declared.ledger.Event.{Event}
use Rattle.machine.specs.declared.ledger.Event.TheVariants.{Give, Feed, FeedMessage, End, Look, Close, Submit, Poll, Drop, Cancel, Turn}
use Rattle.machine.specs.declared.ledger.Event.TheVariants.{Exec}
use Rattle.machine.specs.declared.ledger.Event.TheVariants.{NewCanceller, NewHandle, CancelAll}
use Rattle.machine.specs.declared.ledger.Refusal.{Refusal}
use Rattle.machine.specs.Lists.{amended}
use Rattle.machine.specs.Ledger.{Ledger, empty}
use Rattle.machine.specs.Ledger.{is_under_marked, group_under}
use Rattle.machine.specs.Refusal.{cause}
use Rattle.machine.specs.Step.{step, row, submit_step, submit_if}
use Rattle.machine.specs.Step.{group_of, cancel_all_step}
use Rattle.machine.specs.Run.{after, ledger}
use Rattle.machine.proofs.Amended.{get-amended-other, length-amended, changed-cases, joined-cases}
use Rattle.machine.proofs.Appended.{get-append-within, get-append-end}
use Rattle.machine.proofs.Staying.{Groups, groups_of}
use Rattle.machine.proofs.Stepping.{step-refused, step-row, handle-canceller, cancel-canceller}
use Rattle.machine.proofs.Grouping.{op_groups, GroupsStay, groups-same, may_group, groups-row, with_canceller, with_handle_of, renewed}
use Rattle.machine.proofs.Grouping.{groups-submit, groups-cancel_all, group-there}

-- What an element was it is beside one more.
pub get-append-keeps : {A : Type 0} (xs : List A) (y : A) (n : ℕ) (x : A) → slice_get xs n ≡ Some x → slice_get (xs ++ y ∷ []) n ≡ Some x
get-append-keeps xs y n x there = get-append-within xs y n (slice_get_within xs n x there) ∙ there

-- What holds of groups and of those of operations, by number: the present group of each canceller is there, isn't marked, and is that of
-- no other canceller; and the group of each cancel handle, and of each operation, is there.
pub record AreGrouped (G : Groups) (under : List (Option ℕ)) : Type 0 where
  pub present : (c g : ℕ) → slice_get G.cancellers c ≡ Some g → slice_get G.groups g ≡ Some false
  pub apart : (b c g : ℕ) → slice_get G.cancellers b ≡ Some g → slice_get G.cancellers c ≡ Some g → b ≡ c
  pub handles : (h g : ℕ) → slice_get G.cancel_handles h ≡ Some g → g < length G.groups
  pub ops : (n g : ℕ) → slice_get under n ≡ Some (Some g) → g < length G.groups

-- The same of a ledger.
abbrev pub Grouped : Ledger → Type 0
Grouped L = AreGrouped (groups_of L) (op_groups L)

-- The group of a canceller is there.
pub present-there : (G : Groups) (ops : List (Option ℕ)) (c g : ℕ) → AreGrouped G ops → slice_get G.cancellers c ≡ Some g →
    g < length G.groups
present-there G ops c g a there = slice_get_within G.groups g false (a.present c g there)

-- A new canceller.
grouped-canceller : (G : Groups) (ops : List (Option ℕ)) → AreGrouped G ops → AreGrouped (with_canceller G) ops
grouped-canceller G ops a =
    let count = length-append G.groups (false ∷ []) in
    let fresh : ℕ = length G.groups in
    record {
      present = λ c g there. elim (joined-cases G.cancellers fresh c) [
        | inl e ↦ (let q : fresh ≡ g = (let w = sym e.2 ∙ there in cc) in
            ap (slice_get (G.groups ++ false ∷ [])) (sym q) ∙ get-append-end G.groups false)
        | inr e ↦ get-append-keeps G.groups false g false (a.present c g (sym e.1 ∙ there))
      ];
      apart = λ b c g one two. elim (joined-cases G.cancellers fresh b) [
        | inl e ↦ (
            let q : fresh ≡ g = (let w = sym e.2 ∙ one in cc) in
            elim (joined-cases G.cancellers fresh c) [
              | inl f ↦ e.0 ∙ sym f.0
              | inr f ↦ absurd (let old = present-there G ops c g a (sym f.1 ∙ two) in omega (arith, q, old))
            ])
        | inr e ↦ elim (joined-cases G.cancellers fresh c) [
          | inl f ↦ absurd (let q : fresh ≡ g = (let w = sym f.2 ∙ two in cc) in
              let old = present-there G ops b g a (sym e.1 ∙ one) in omega (arith, q, old))
          | inr f ↦ a.apart b c g (sym e.1 ∙ one) (sym f.1 ∙ two)
        ]
      ];
      handles = λ h g there. (let old = a.handles h g there in omega (arith, count, old));
      ops = λ n g there. (let old = a.ops n g there in omega (arith, count, old));
    }

-- A new cancel handle.
grouped-handle : (G : Groups) (ops : List (Option ℕ)) (g : ℕ) → g < length G.groups → AreGrouped G ops → AreGrouped (with_handle_of G g) ops
grouped-handle G ops g within a = record {
  present = a.present;
  apart = a.apart;
  handles = λ h k there. elim (joined-cases G.cancel_handles g h) [
    | inl e ↦ (let q : g ≡ k = (let w = sym e.2 ∙ there in cc) in omega (arith, q, within))
    | inr e ↦ a.handles h k (sym e.1 ∙ there)
  ];
  ops = a.ops;
}

-- A mark leaves each other group.
pub marked-other : (groups : List Bool) (g k : ℕ) (mark : Bool) → k ≢ g → slice_get groups k ≡ Some mark →
    slice_get (amended groups g (λ m. true) ++ false ∷ []) k ≡ Some mark
marked-other groups g k mark other there =
    get-append-keeps (amended groups g (λ m. true)) false k mark (get-amended-other (λ m. true) groups g k other ∙ there)

-- A group that is canceled: the canceller c, whose group it was, has a fresh one.
grouped-renewed : (G : Groups) (ops : List (Option ℕ)) (c g : ℕ) → slice_get G.cancellers c ≡ Some g → AreGrouped G ops →
    AreGrouped (renewed G c g) ops
grouped-renewed G ops c g at a =
    let marked : List Bool = amended G.groups g (λ mark. true) in
    let same = length-amended (λ mark. true) G.groups g in
    let count = length-append marked (false ∷ []) in
    let change : ℕ → ℕ = λ x. length marked in
    let new : (k : ℕ) → option_map change (slice_get G.cancellers c) ≡ Some k → length marked ≡ k = λ k q.
    (let w = sym (ap (option_map change) at) ∙ q in cc) in
    record {
      present = λ b k there. elim (changed-cases change G.cancellers c b) [
        | inl e ↦ ap (slice_get (marked ++ false ∷ [])) (sym (new k (sym e.1 ∙ there))) ∙ get-append-end marked false
        | inr e ↦ (
            let old : slice_get G.cancellers b ≡ Some k = sym e.1 ∙ there in
            let other : k ≢ g = λ q. e.0 (a.apart b c g (old ∙ ap Some q) at) in
            marked-other G.groups g k false other (a.present b k old))
      ];
      apart = λ b d k one two. elim (changed-cases change G.cancellers c b) [
        | inl e ↦ elim (changed-cases change G.cancellers c d) [
          | inl f ↦ e.0 ∙ sym f.0
          | inr f ↦ absurd (let q = new k (sym e.1 ∙ one) in let old = present-there G ops d k a (sym f.1 ∙ two) in
              omega (arith, q, old, same))
        ]
        | inr e ↦ elim (changed-cases change G.cancellers c d) [
          | inl f ↦ absurd (let q = new k (sym f.1 ∙ two) in let old = present-there G ops b k a (sym e.1 ∙ one) in
              omega (arith, q, old, same))
          | inr f ↦ a.apart b d k (sym e.1 ∙ one) (sym f.1 ∙ two)
        ]
      ];
      handles = λ h k there. (let old = a.handles h k there in omega (arith, same, count, old));
      ops = λ n k there. (let old = a.ops n k there in omega (arith, same, count, old));
    }

-- Groups that stay keep what holds of them.
pub grouped-stay : {L M : Ledger} → GroupsStay L M → Grouped L → Grouped M
grouped-stay {L} {M} s a =
    subst (λ G. AreGrouped G (op_groups M)) (sym s.groups) (subst (AreGrouped (groups_of L)) (sym s.ops) a)

-- A new operation of a group that is there.
grouped-new_op : (G : Groups) (ops : List (Option ℕ)) (group : Option ℕ) → ((g : ℕ) → group ≡ Some g → g < length G.groups) →
    AreGrouped G ops → AreGrouped G (ops ++ group ∷ [])
grouped-new_op G ops group within a = record {
  present = a.present;
  apart = a.apart;
  handles = a.handles;
  ops = λ n g there. elim (joined-cases ops group n) [
    | inl e ↦ within g (let w = sym e.2 ∙ there in cc)
    | inr e ↦ a.ops n g (sym e.1 ∙ there)
  ];
}

-- The group that a request is submitted under is there.
under-there : (L : Ledger) (under : Option ℕ) (g : ℕ) → Grouped L → group_under L under ≡ Some g → g < length L.groups
under-there L None g a there = (let f : ⊥ = cc in absurd f)
under-there L (Some handle) g a there = a.handles handle g there

-- A submission, under a marked group or not.
grouped-submit : (b : Bool) (L : Ledger) (request : Request Buffer Parts) (under : Option ℕ) (linked : Bool) → Grouped L →
    Grouped (submit_if b L request (group_under L under) linked).0
grouped-submit true L request under linked a = a
grouped-submit false L request under linked a =
    let s = groups-submit L request (group_under L under) linked in
    let M : Ledger = submit_step L request (group_under L under) linked in
    subst (λ G. AreGrouped G (op_groups M)) (sym s.0) (subst (AreGrouped (groups_of L)) (sym s.1)
    (grouped-new_op (groups_of L) (op_groups L) (group_under L under) (λ g there. under-there L under g a there) a))

-- An event that changes no groups, by its row.
grouped-quiet : (L : Ledger) (e : Event) → may_group e ≡ false → Grouped L → Grouped (row L e).0
grouped-quiet L e h a = grouped-stay (groups-row L e h) a

-- The row of an event that isn't refused.
grouped-row : (L : Ledger) (e : Event) → cause L e ≡ None → Grouped L → Grouped (row L e).0
grouped-row L (Give kind) u a = grouped-quiet L (Give kind) refl a
grouped-row L (Feed k bytes) u a = grouped-quiet L (Feed k bytes) refl a
grouped-row L (FeedMessage k addr bytes) u a = grouped-quiet L (FeedMessage k addr bytes) refl a
grouped-row L (End k) u a = grouped-quiet L (End k) refl a
grouped-row L (Look k) u a = grouped-quiet L (Look k) refl a
grouped-row L (Close k) u a = grouped-quiet L (Close k) refl a
grouped-row L (Submit request under linked) u a = grouped-submit (is_under_marked L under) L request under linked a
grouped-row L (Poll n task) u a = grouped-quiet L (Poll n task) refl a
grouped-row L (Drop n) u a = grouped-quiet L (Drop n) refl a
grouped-row L (Cancel n) u a = grouped-quiet L (Cancel n) refl a
grouped-row L NewCanceller u a = grouped-canceller (groups_of L) (op_groups L) a
grouped-row L (NewHandle c) u a =
    let there = group-there L c (handle-canceller L c u) in
    grouped-handle (groups_of L) (op_groups L) (group_of L c)
    (present-there (groups_of L) (op_groups L) c (group_of L c) a there) a
grouped-row L (CancelAll c) u a =
    let g : ℕ = group_of L c in
    let s = groups-cancel_all L c g in
    subst (λ G. AreGrouped G (op_groups (cancel_all_step L c g))) (sym s.0)
    (subst (AreGrouped (renewed (groups_of L) c g)) (sym s.1)
    (grouped-renewed (groups_of L) (op_groups L) c g (group-there L c (cancel-canceller L c u)) a))
grouped-row L Turn u a = grouped-quiet L Turn refl a
grouped-row L (Exec place told) u a = grouped-quiet L (Exec place told) refl a

-- So does its step.
pub groups-step : (L : Ledger) (e : Event) → may_group e ≡ false → GroupsStay L (step L e).0
groups-step L e h = by (cause L e) refl
  where
    by : (c : Option Refusal) → cause L e ≡ c → GroupsStay L (step L e).0
    by None is = subst (λ s. GroupsStay L s.0) (sym (step-row L e is)) (groups-row L e h)
    by (Some refusal) is = subst (λ s. GroupsStay L s.0) (sym (step-refused L e refusal is)) (groups-same L)

-- An event, by its cause.
grouped-cause : (L : Ledger) (e : Event) (c : Option Refusal) → cause L e ≡ c → Grouped L → Grouped (step L e).0
grouped-cause L e None h a = subst (λ s. Grouped s.0) (sym (step-row L e h)) (grouped-row L e h a)
grouped-cause L e (Some refusal) h a = subst (λ s. Grouped s.0) (sym (step-refused L e refusal h)) a

-- A step keeps all this.
pub grouped-step : (L : Ledger) (e : Event) → Grouped L → Grouped (step L e).0
grouped-step L e a = grouped-cause L e (cause L e) refl a

-- So do events.
pub grouped-after : (L : Ledger) (events : List Event) → Grouped L → Grouped (after L events)
grouped-after L [] a = a
grouped-after L (e ∷ events) a = grouped-after (step L e).0 events (grouped-step L e a)

-- It holds of every ledger that events led to.
pub grouped-ledger : (capacity : ℕ) (events : List Event) → Grouped (ledger capacity events)
grouped-ledger capacity events = grouped-after (empty capacity) events (record {
  present = λ c g there. (let f : ⊥ = cc in absurd f);
  apart = λ b c g one two. (let f : ⊥ = cc in absurd f);
  handles = λ h g there. (let f : ⊥ = cc in absurd f);
  ops = λ n g there. (let f : ⊥ = cc in absurd f);
})
