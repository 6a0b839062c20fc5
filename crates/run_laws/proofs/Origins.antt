-- Where the groups of cancel handles and of operations come from, and what each event makes of that.
use Rattle.std.proofs.Common.{◌≡◌, ◌⊎◌, inl, inr, ℕ, suc, ◌<◌, Bool, true, false, List, [], ◌∷◌, ◌++◌, length, Option, None, Some}
use Rattle.std.proofs.Common.{slice_get, refl, sym, ◌∙◌, ap, subst, arith}
use Rattle.std.proofs.lemmas.List.{length-append}
use Rattle.machine.specs.declared.ledger.Event.{Event}
use Rattle.machine.specs.declared.ledger.Event.TheVariants.{NewHandle, CancelAll}
use Rattle.machine.specs.declared.ledger.Reply.{Reply}
use Rattle.machine.specs.declared.ledger.Reply.TheVariants.{CancelHandle, Cancels}
use Rattle.machine.specs.Lists.{amended}
use Rattle.machine.specs.Ledger.{Ledger, empty}
use Rattle.machine.specs.Run.{replies, IsGiven}
use Rattle.run_laws.specs.Groups.{CreatesHandle, IsCanceledBetween}
use Rattle.machine.proofs.Numbers.{same-or-not}
use Rattle.machine.proofs.Amended.{get-amended-same, get-amended-other, joined-cases}
use Rattle.machine.proofs.Staying.{Groups, groups_of}
use Rattle.machine.proofs.Grouping.{op_groups, with_canceller, with_handle_of, renewed}
use Rattle.machine.proofs.Grouped.{get-append-keeps, marked-other}

-- An event with this reply creates no cancel handle, and cancels no group.
pub record IsStill (e : Event) (r : Reply) : Type 0 where
  pub makes_none : (c handle : ℕ) → e ≡ NewHandle c → r ≡ CancelHandle handle → ⊥
  pub cancels_none : (c : ℕ) (numbers : List ℕ) → e ≡ CancelAll c → r ≡ Cancels numbers → ⊥

-- The group of what is submitted under a cancel handle, or under none.
abbrev pub IsGroupUnder : Groups → Option ℕ → Option ℕ → Type 0
IsGroupUnder G None group = group ≡ None
IsGroupUnder G (Some handle) group = (g : ℕ) × (slice_get G.cancel_handles handle ≡ Some g) × (group ≡ Some g)

-- What an operation was given stays beside one more cancel handle.
under-more : (G : Groups) (g : ℕ) (under group : Option ℕ) → IsGroupUnder G under group → IsGroupUnder (with_handle_of G g) under group
under-more G g None group x = x
under-more G g (Some handle) group x = (x.0, get-append-keeps G.cancel_handles g handle x.0 x.1, x.2)

-- It goes by cancel handles alone.
under-handles : (G H : Groups) (under group : Option ℕ) → H.cancel_handles ≡ G.cancel_handles → IsGroupUnder G under group →
    IsGroupUnder H under group
under-handles G H None group same x = x
under-handles G H (Some handle) group same x = (x.0, ap (λ hs. slice_get hs handle) same ∙ x.1, x.2)

module _ (capacity : ℕ) (events : List Event) where
  -- The replies of the run.
  abbrev pub answers : List Reply
  answers = replies (empty capacity) events

  -- The group of a cancel handle is its canceller's present one, which wasn't canceled since it was created; or it was, and is marked.
  abbrev pub HandleState : ℕ → Groups → ℕ → ℕ → ℕ → Type 0
  HandleState k G c made g =
      ((IsCanceledBetween events answers c made k → ⊥) × (slice_get G.cancellers c ≡ Some g))
      ⊎ (IsCanceledBetween events answers c made k × (slice_get G.groups g ≡ Some true))

  -- Where a cancel handle of a group comes from.
  pub record Origin (k : ℕ) (G : Groups) (handle g : ℕ) : Type 0 where
    pub canceller : ℕ
    pub made : ℕ
    pub before : made < k
    pub is_made : CreatesHandle events answers canceller handle made
    pub state : HandleState k G canceller made g

  -- Where an operation of a group comes from.
  pub record GroupGiven (k : ℕ) (G : Groups) (n : ℕ) (group : Option ℕ) : Type 0 where
    pub at : ℕ
    pub before : at < k
    pub is_given : IsGiven capacity events n at
    pub under : IsGroupUnder G is_given.under group

  -- Before the event at k, each cancel handle has its origin, each that was created is there, and each operation has its group.
  pub record Origins (k : ℕ) (G : Groups) (under : List (Option ℕ)) : Type 0 where
    pub origin : (handle g : ℕ) → slice_get G.cancel_handles handle ≡ Some g → Origin k G handle g
    pub made : (c handle i : ℕ) → i < k → CreatesHandle events answers c handle i → handle < length G.cancel_handles
    pub given : (n : ℕ) (group : Option ℕ) → slice_get under n ≡ Some group → GroupGiven k G n group

  -- What was canceled before the event at k was before the next one.
  between-next : (c i k : ℕ) → IsCanceledBetween events answers c i k → IsCanceledBetween events answers c i (suc k)
  between-next c i k x = record {
    cancel = x.cancel;
    numbers = x.numbers;
    after = x.after;
    before = (let b = x.before in omega arith);
    event = x.event;
    reply = x.reply;
  }

  -- What wasn't, and isn't at k, wasn't before the next one.
  unbetween-next : (c i k : ℕ) →
      ((numbers : List ℕ) → slice_get events k ≡ Some (CancelAll c) → slice_get answers k ≡ Some (Cancels numbers) → ⊥) →
      (IsCanceledBetween events answers c i k → ⊥) → IsCanceledBetween events answers c i (suc k) → ⊥
  unbetween-next c i k here none x = elim (same-or-not x.cancel k) [
    | inl e ↦ here x.numbers (ap (slice_get events) (sym e) ∙ x.event) (ap (slice_get answers) (sym e) ∙ x.reply)
    | inr e ↦ none (record {
      cancel = x.cancel;
      numbers = x.numbers;
      after = x.after;
      before = (let b = x.before in omega arith);
      event = x.event;
      reply = x.reply;
    })
  ]

  -- Nothing is between an event and the next one.
  unbetween-now : (c k : ℕ) → IsCanceledBetween events answers c k (suc k) → ⊥
  unbetween-now c k x = (let a = x.after in let b = x.before in omega (arith, a, b))

  -- Operations, with the same cancel handles or more, before the next event.
  given-next : (k n : ℕ) (G H : Groups) (group : Option ℕ) →
      ((under : Option ℕ) → IsGroupUnder G under group → IsGroupUnder H under group) → GroupGiven k G n group → GroupGiven (suc k) H n group
  given-next k n G H group keeps x =
      record { at = x.at; before = (let b = x.before in omega arith); is_given = x.is_given; under = keeps x.is_given.under x.under }

  module _ (k : ℕ) (e : Event) (r : Reply) (here : slice_get events k ≡ Some e) (reply : slice_get answers k ≡ Some r) where
    -- An event that cancels no group passes on what wasn't canceled.
    still-between : (c i : ℕ) → IsStill e r → (IsCanceledBetween events answers c i k → ⊥) →
        IsCanceledBetween events answers c i (suc k) → ⊥
    still-between c i still none =
        unbetween-next c i k (λ numbers p q. still.cancels_none c numbers (let w = sym here ∙ p in cc) (let w = sym reply ∙ q in cc)) none

    -- It leaves the state of a cancel handle.
    still-state : (G : Groups) (c made g : ℕ) → IsStill e r → HandleState k G c made g → HandleState (suc k) G c made g
    still-state G c made g still (inl x) = inl (still-between c made still x.0, x.1)
    still-state G c made g still (inr x) = inr (between-next c made k x.0, x.1)

    -- A created cancel handle was created before, but by this event.
    made-before : (c handle i : ℕ) → i < suc k → CreatesHandle events answers c handle i →
        (i < k) ⊎ ((e ≡ NewHandle c) × (r ≡ CancelHandle handle))
    made-before c handle i lt x = elim (same-or-not i k) [
      | inl q ↦ inr (
        (let w = sym here ∙ ap (slice_get events) (sym q) ∙ x.event in cc),
        (let w = sym reply ∙ ap (slice_get answers) (sym q) ∙ x.reply in cc),
      )
      | inr q ↦ inl (omega arith)
    ]

    -- A still event passes all this on.
    pub origins-still : (G : Groups) (under : List (Option ℕ)) → IsStill e r → Origins k G under → Origins (suc k) G under
    origins-still G under still t = record {
      origin = λ handle g there. (
          let o : Origin k G handle g = t.origin handle g there in
          record {
            canceller = o.canceller;
            made = o.made;
            before = (let b = o.before in omega arith);
            is_made = o.is_made;
            state = still-state G o.canceller o.made g still o.state;
          });
      made = λ c handle i lt x. elim (made-before c handle i lt x) [
        | inl before ↦ t.made c handle i before x
        | inr now ↦ absurd (still.makes_none c handle now.0 now.1)
      ];
      given = λ n group there. given-next k n G G group (λ u x. x) (t.given n group there);
    }

  -- A new operation under a cancel handle, or none.
  pub origins-given : (k : ℕ) (G : Groups) (under : List (Option ℕ)) (group : Option ℕ) → GroupGiven k G (length under) group →
      Origins k G under → Origins k G (under ++ group ∷ [])
  origins-given k G under group new t = record {
    origin = t.origin;
    made = t.made;
    given = λ n x there. elim (joined-cases under group n) [
      | inl e ↦ (let q : group ≡ x = (let w = sym e.2 ∙ there in cc) in
          subst (λ m. GroupGiven k G m x) (sym e.0) (subst (GroupGiven k G (length under)) q new))
      | inr e ↦ t.given n x (sym e.1 ∙ there)
    ];
  }

  -- A new canceller.
  pub origins-canceller : (k : ℕ) (G : Groups) (under : List (Option ℕ)) → Origins k G under → Origins k (with_canceller G) under
  origins-canceller k G under t = record {
    origin = λ handle g there. (
        let o : Origin k G handle g = t.origin handle g there in
        record {
          canceller = o.canceller;
          made = o.made;
          before = o.before;
          is_made = o.is_made;
          state = state o.canceller o.made g o.state;
        });
    made = t.made;
    given = λ n group there. (
        let x : GroupGiven k G n group = t.given n group there in
        record {
          at = x.at;
          before = x.before;
          is_given = x.is_given;
          under = under-handles G (with_canceller G) x.is_given.under group refl x.under;
        });
  }
    where
      state : (c made g : ℕ) → HandleState k G c made g → HandleState k (with_canceller G) c made g
      state c made g (inl x) = inl (x.0, get-append-keeps G.cancellers (length G.groups) c g x.1)
      state c made g (inr x) = inr (x.0, get-append-keeps G.groups false g true x.1)

  -- A new cancel handle of the present group of a canceller.
  pub origins-handle : (k : ℕ) (G : Groups) (under : List (Option ℕ)) (c g : ℕ) → slice_get events k ≡ Some (NewHandle c) →
      slice_get answers k ≡ Some (CancelHandle (length G.cancel_handles)) → slice_get G.cancellers c ≡ Some g → Origins k G under →
      Origins (suc k) (with_handle_of G g) under
  origins-handle k G under c g here reply at t =
      let count = length-append G.cancel_handles (g ∷ []) in
      record {
        origin = λ handle x there. elim (joined-cases G.cancel_handles g handle) [
          | inl e ↦ record {
            canceller = c;
            made = k;
            before = omega arith;
            is_made = record { event = here; reply = reply ∙ ap (λ h. Some (CancelHandle h)) (sym e.0) };
            state = inl (unbetween-now c k, (let q : g ≡ x = (let w = sym e.2 ∙ there in cc) in at ∙ ap Some q));
          }
          | inr e ↦ (
              let o : Origin k G handle x = t.origin handle x (sym e.1 ∙ there) in
              record {
                canceller = o.canceller;
                made = o.made;
                before = (let b = o.before in omega arith);
                is_made = o.is_made;
                state = state o.canceller o.made x o.state;
              })
        ];
        made = λ b handle i lt x. elim (made-before k (NewHandle c) (CancelHandle (length G.cancel_handles)) here reply b handle i lt x) [
          | inl before ↦ (let old = t.made b handle i before x in omega (arith, count, old))
          | inr now ↦ (let q : length G.cancel_handles ≡ handle = (let w = now.1 in cc) in omega (arith, count, q))
        ];
        given = λ n group there. given-next k n G (with_handle_of G g) group (λ u x. under-more G g u group x) (t.given n group there);
      }
    where
      state : (b made x : ℕ) → HandleState k G b made x → HandleState (suc k) (with_handle_of G g) b made x
      state b made x (inl s) = inl (unbetween-next b made k (λ numbers p q. (let w = sym here ∙ p in cc)) s.0, s.1)
      state b made x (inr s) = inr (between-next b made k s.0, s.1)

  -- The state of a cancel handle once the group g of the canceller c is canceled, by the event at k.
  renewed-state : (k : ℕ) (G : Groups) (c g : ℕ) (numbers : List ℕ) → slice_get events k ≡ Some (CancelAll c) →
      slice_get answers k ≡ Some (Cancels numbers) → slice_get G.cancellers c ≡ Some g → slice_get G.groups g ≡ Some false →
      (b made x : ℕ) → made < k → HandleState k G b made x → HandleState (suc k) (renewed G c g) b made x
  renewed-state k G c g numbers here reply at unmarked b made x lt (inl s) = elim (same-or-not b c) [
    | inl e ↦ inr (
      record {
        cancel = k;
        numbers = numbers;
        after = lt;
        before = omega arith;
        event = here ∙ ap (λ d. Some (CancelAll d)) (sym e);
        reply = reply;
      },
      (let own : slice_get G.cancellers c ≡ Some x = ap (slice_get G.cancellers) (sym e) ∙ s.1 in
          let q : g ≡ x = (let w = sym at ∙ own in cc) in
          let marked : List Bool = amended G.groups g (λ mark. true) in
          ap (slice_get (marked ++ false ∷ [])) (sym q)
          ∙ get-append-keeps marked false g true (get-amended-same (λ mark. true) G.groups g false unmarked)),
    )
    | inr e ↦ inl (
      unbetween-next b made k (λ ns p q. e (let w : c ≡ b = (let v = sym here ∙ p in cc) in sym w)) s.0,
      get-amended-other (λ y. length (amended G.groups g (λ mark. true))) G.cancellers c b e ∙ s.1,
    )
  ]
  renewed-state k G c g numbers here reply at unmarked b made x lt (inr s) = inr (
    between-next b made k s.0,
    elim (same-or-not x g) [
      | inl e ↦ absurd (let f : true ≡ false = (let w = sym s.1 ∙ ap (slice_get G.groups) e ∙ unmarked in cc) in let h : ⊥ = cc in h)
      | inr e ↦ marked-other G.groups g x true e s.1
    ],
  )

  -- A group that is canceled.
  pub origins-renewed : (k : ℕ) (G : Groups) (under : List (Option ℕ)) (c g : ℕ) (numbers : List ℕ) →
      slice_get events k ≡ Some (CancelAll c) → slice_get answers k ≡ Some (Cancels numbers) → slice_get G.cancellers c ≡ Some g →
      slice_get G.groups g ≡ Some false →
      Origins k G under → Origins (suc k) (renewed G c g) under
  origins-renewed k G under c g numbers here reply at unmarked t = record {
    origin = λ handle x there. (
        let o : Origin k G handle x = t.origin handle x there in
        record {
          canceller = o.canceller;
          made = o.made;
          before = (let b = o.before in omega arith);
          is_made = o.is_made;
          state = renewed-state k G c g numbers here reply at unmarked o.canceller o.made x o.before o.state;
        });
    made = λ b handle i lt x. elim (made-before k (CancelAll c) (Cancels numbers) here reply b handle i lt x) [
      | inl before ↦ t.made b handle i before x
      | inr now ↦ absurd (let q = now.0 in let f : ⊥ = cc in f)
    ];
    given = λ n group there.
        given-next k n G (renewed G c g) group (λ u x. under-handles G (renewed G c g) u group refl x) (t.given n group there);
  }

  -- The same of a ledger.
  abbrev pub OriginsAt : ℕ → Ledger → Type 0
  OriginsAt k L = Origins k (groups_of L) (op_groups L)

  -- Other groups, and others of operations, that are the same.
  pub origins-as : (k : ℕ) (M : Ledger) (G : Groups) (under : List (Option ℕ)) → groups_of M ≡ G → op_groups M ≡ under → Origins k G under →
      OriginsAt k M
  origins-as k M G under groups ops t =
      subst (λ H. Origins k H (op_groups M)) (sym groups) (subst (Origins k G) (sym ops) t)
