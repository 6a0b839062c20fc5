-- Handles in memory that are due, or that bits show: what each call keeps of that.
use Rattle.std.proofs.Common.{◌≡◌, ◌⊎◌, inl, inr, ℕ, ◌<◌, ◌≤◌, Bool, true, false, not, ◌&&◌, List, [], ◌∷◌, ◌++◌}
use Rattle.std.proofs.Common.{if◌then◌else◌, length, Option, Some, None, option_map, slice_get, refl, sym, ◌∙◌, ap, subst, arith}
use Rattle.std.specs.Prelude.{nat_lt}
use Rattle.std.proofs.lemmas.Bool.Decides.{nat_tests}
use Rattle.std.proofs.lemmas.Option.{slice_get_within}
use Rattle.rent_buf.specs.Buffer.{Buffer}
use Rattle.rent_buf.specs.Parts.{Parts}
use Rattle.machine.specs.declared.request.Request.{Request}
use Rattle.machine.specs.declared.request.Outcome.{Outcome}
use Rattle.machine.specs.declared.world.HandleState.{HandleState}
use Rattle.machine.specs.Attempt.{is_readable}
use Rattle.machine.specs.Effect.{made_by}
use Rattle.machine.specs.Lists.{amended, has_number, passes}
use Rattle.machine.specs.Request.{named}
use Rattle.machine.specs.WorldCall.{IsCalled}
use Rattle.machine.proofs.Leaving.{has-before, has-last, has-other}
use Rattle.machine.proofs.Numbers.{same-or-not, below-or-not}
use Rattle.machine.proofs.Amended.{get-amended, get-amended-other}
use Rattle.machine.proofs.Appended.{get-append-within, get-append-end, get-append-past}
use Rattle.ready_driver.specs.Due.{Duty, with_due, with_each_due}
use Rattle.ready_driver.specs.Io.{IsDue, KeepsShown, AreDue}
use Rattle.ready_driver.specs.MemIo.{Memory, memory_view}
use Rattle.ready_driver.specs.Reports.{has_key, is_keyed, with_key, with_made_key, ShowsBits}
use Rattle.ready_driver.proofs.Unnamed.{called-other}

-- What was due is once another handle is.
pub due-kept : (duty : Duty) (n h : ℕ) → has_number h duty.handles ≡ true → has_number h (with_due duty n).handles ≡ true
due-kept duty n h is = by (nat_lt n duty.count && not (has_number n duty.handles))
  where
    by : (b : Bool) → has_number h (if b then record duty { handles = duty.handles ++ n ∷ [] } else duty).handles ≡ true
    by true = has-before h n duty.handles is
    by false = is

-- A handle that can be due is once it is added.
pub due-added : (duty : Duty) (h : ℕ) → h < duty.count → has_number h (with_due duty h).handles ≡ true
due-added duty h within =
    let below : nat_lt h duty.count ≡ true = grind (arith, nat_tests) in
    let more : Duty = record duty { handles = duty.handles ++ h ∷ [] } in
    subst (λ b. has_number h (if b && not (has_number h duty.handles) then more else duty).handles ≡ true) (sym below)
    (by (has_number h duty.handles) refl)
  where
    by : (b : Bool) → has_number h duty.handles ≡ b →
        has_number h (if true && not b then record duty { handles = duty.handles ++ h ∷ [] } else duty).handles ≡ true
    by true is = is
    by false is = has-last h duty.handles

-- As many can be due as before.
pub due-count : (duty : Duty) (n : ℕ) → (with_due duty n).count ≡ duty.count
due-count duty n = by (nat_lt n duty.count && not (has_number n duty.handles))
  where
    by : (b : Bool) → (if b then record duty { handles = duty.handles ++ n ∷ [] } else duty).count ≡ duty.count
    by true = refl
    by false = refl

-- The same where some are added.
pub each-count : (duty : Duty) (handles : List ℕ) → (with_each_due duty handles).count ≡ duty.count
each-count duty [] = refl
each-count duty (n ∷ handles) = each-count (with_due duty n) handles ∙ due-count duty n

-- The same of handles that are added.
pub each-kept : (duty : Duty) (handles : List ℕ) (h : ℕ) → has_number h duty.handles ≡ true →
    has_number h (with_each_due duty handles).handles ≡ true
each-kept duty [] h is = is
each-kept duty (n ∷ handles) h is = each-kept (with_due duty n) handles h (due-kept duty n h is)

-- Each handle that is added is due then.
pub each-added : (duty : Duty) (handles : List ℕ) (h : ℕ) → h < duty.count → has_number h handles ≡ true →
    has_number h (with_each_due duty handles).handles ≡ true
each-added duty [] h within is = (let f : ⊥ = cc in absurd f)
each-added duty (n ∷ handles) h within is = elim (same-or-not h n) [
  | inl e ↦
      each-kept (with_due duty n) handles h
      (subst (λ k. has_number k (with_due duty n).handles ≡ true) (sym e) (due-added duty n (subst (λ k. k < duty.count) e within)))
  | inr e ↦ each-added (with_due duty n) handles h (subst (λ k. h < k) (sym (due-count duty n)) within)
      (sym (has-other h n handles e) ∙ is)
]

-- A handle that is registered has a key.
pub keyed-key : (keys : List (Option ℕ)) (h : ℕ) → is_keyed keys h ≡ true → (key : ℕ) × (slice_get keys h ≡ Some (Some key))
keyed-key keys h keyed = by (slice_get keys h) refl keyed
  where
    by : (x : Option (Option ℕ)) → slice_get keys h ≡ x → has_key x ≡ true → (key : ℕ) × (slice_get keys h ≡ Some (Some key))
    by None is some = (let f : ⊥ = cc in absurd f)
    by (Some None) is some = (let f : ⊥ = cc in absurd f)
    by (Some (Some key)) is some = (key, is)

-- So it is one of those that there are.
keyed-within : (keys : List (Option ℕ)) (h : ℕ) → is_keyed keys h ≡ true → h < length keys
keyed-within keys h keyed = let key = keyed-key keys h keyed in slice_get_within keys h (Some key.0) key.1

-- Of each handle: what was due is, and else it is registered as it was and has what it had, unless it is due.
pub record Stays (old new : Memory) : Type 0 where
  pub due : (h : ℕ) → has_number h old.due ≡ true → has_number h new.due ≡ true
  pub each : (h : ℕ) → is_keyed new.keys h ≡ true →
      (has_number h new.due ≡ true)
      ⊎ ((is_keyed old.keys h ≡ true) × (slice_get new.world h ≡ slice_get old.world h))

-- So bits that showed a handle show it, or it is due.
pub stays-shown : (old new : Memory) → Stays old new → KeepsShown (memory_view old) (memory_view new)
stays-shown old new stays = λ h ready shown keyed. elim (stays.each h keyed) [
  | inl due ↦ inl due
  | inr same ↦ elim (shown same.0) [
    | inl due ↦ inl (stays.due h due)
    | inr bits ↦ inr (subst (λ x. ShowsBits (passes is_readable x) ready) (sym same.1) bits)
  ]
]

-- A handle changed, and is due.
pub changed-shown : (old new : Memory) (duty : Duty) (h : ℕ) (change : HandleState → HandleState) → duty.handles ≡ old.due →
    length old.keys ≤ duty.count → new.keys ≡ old.keys → new.world ≡ amended old.world h change → new.due ≡ (with_due duty h).handles →
    KeepsShown (memory_view old) (memory_view new)
changed-shown old new duty h change was room keys world now = stays-shown old new (record {
  due = λ g is. ap (has_number g) now ∙ due-kept duty h g (ap (has_number g) was ∙ is);
  each = λ g keyed. (
      let here : is_keyed old.keys g ≡ true = ap (λ ks. is_keyed ks g) (sym keys) ∙ keyed in
      let within = keyed-within old.keys g here in
      elim (same-or-not g h) [
        | inl e ↦
            inl (ap (has_number g) now ∙ subst (λ k. has_number g (with_due duty k).handles ≡ true) e
            (due-added duty g (omega (arith, within, room))))
        | inr e ↦ inr (here, ap (λ w. slice_get w g) world ∙ get-amended-other change old.world h g e)
      ]);
})

-- A handle's key changed, and the handle is due.
pub keyed-shown : (old new : Memory) (duty : Duty) (h : ℕ) (key : Option ℕ) → duty.handles ≡ old.due → length new.keys ≤ duty.count →
    new.keys ≡ with_key old.keys h key → new.world ≡ old.world → new.due ≡ (with_due duty h).handles →
    KeepsShown (memory_view old) (memory_view new) × IsDue (memory_view new) h
keyed-shown old new duty h key was room keys world now = (
  stays-shown old new (record {
    due = λ g is. ap (has_number g) now ∙ due-kept duty h g (ap (has_number g) was ∙ is);
    each = λ g keyed. elim (same-or-not g h) [
      | inl e ↦ inl (subst (λ k. has_number k new.due ≡ true) (sym e) (added (subst (λ k. is_keyed new.keys k ≡ true) e keyed)))
      | inr e ↦
          inr (
            sym (ap has_key (ap (λ ks. slice_get ks g) keys ∙ get-amended-other _ old.keys h g e)) ∙ keyed,
            ap (λ w. slice_get w g)
                world,
          )
    ];
  }),
  added,
)
  where
    added : is_keyed new.keys h ≡ true → has_number h new.due ≡ true
    added keyed =
        let within = keyed-within new.keys h keyed in
        ap (has_number h) now ∙ due-added duty h (omega (arith, within, room))

-- A handle isn't registered any more.
unkeyed : (keys : List (Option ℕ)) (h : ℕ) → is_keyed (with_key keys h None) h ≡ true → ⊥
unkeyed keys h keyed = by (slice_get keys h) (sym (ap has_key (get-amended _ keys h)) ∙ keyed)
  where
    by : (x : Option (Option ℕ)) → has_key (option_map (λ k. None) x) ≡ true → ⊥
    by None is = cc
    by (Some k) is = cc

-- Where a handle loses its key, what was shown stays, and the handle is due.
pub unkeyed-shown : (old new : Memory) (h : ℕ) → new.keys ≡ with_key old.keys h None → new.world ≡ old.world → new.due ≡ old.due →
    KeepsShown (memory_view old) (memory_view new) × IsDue (memory_view new) h
unkeyed-shown old new h keys world due = (
  stays-shown old new (record {
    due = λ g is. ap (has_number g) due ∙ is;
    each = λ g keyed. elim (same-or-not g h) [
      | inl e ↦ absurd (gone (subst (λ k. is_keyed new.keys k ≡ true) e keyed))
      | inr e ↦
          inr (
            sym (ap has_key (ap (λ ks. slice_get ks g) keys ∙ get-amended-other _ old.keys h g e)) ∙ keyed,
            ap (λ w. slice_get w g)
                world,
          )
    ];
  }),
  λ keyed. absurd (gone keyed),
)
  where
    gone : is_keyed new.keys h ≡ true → ⊥
    gone keyed = unkeyed old.keys h (ap (λ ks. is_keyed ks h) (sym keys) ∙ keyed)

-- A key among those with one of a handle that was made, which isn't registered, is an old one.
pub key-before : (made : Option ℕ) (keys : List (Option ℕ)) (h key : ℕ) → slice_get (with_made_key made keys) h ≡ Some (Some key) →
    slice_get keys h ≡ Some (Some key)
key-before None keys h key keyed = keyed
key-before (Some n) keys h key keyed = by (below-or-not h (length keys))
  where
    by : (h < length keys) ⊎ (length keys ≤ h) → slice_get keys h ≡ Some (Some key)
    by (inl within) = sym (get-append-within keys None h within) ∙ keyed
    by (inr past) = elim (same-or-not h (length keys)) [
      | inl e ↦
          let f : ◌≡◌ {A = Option (Option ℕ)} (Some None) (Some (Some key)) =
          sym (ap (slice_get (keys ++ None ∷ [])) e ∙ get-append-end keys None) ∙ keyed in
          let g : ⊥ = cc in
          absurd g
      | inr e ↦
          let f : ◌≡◌ {A = Option (Option ℕ)} None (Some (Some key)) = sym (get-append-past keys None h (omega (arith, past, e))) ∙ keyed in
          let g : ⊥ = cc in
          absurd g
    ]

-- So a handle that is registered then was so before.
keyed-before : (made : Option ℕ) (keys : List (Option ℕ)) (h : ℕ) → is_keyed (with_made_key made keys) h ≡ true → is_keyed keys h ≡ true
keyed-before made keys h keyed =
    let key = keyed-key (with_made_key made keys) h keyed in ap has_key (key-before made keys h key.0 key.1)

-- A call was made, and each handle that its request names is due.
pub called-shown : (old new : Memory) (duty : Duty) (request now : Request Buffer Parts) (outcome : Outcome) (handles : List ℕ) →
    handles ≡ named request → duty.handles ≡ old.due → length old.keys ≤ duty.count → length old.keys ≡ length old.world →
    IsCalled old.world request new.world now outcome → new.keys ≡ with_made_key (made_by outcome) old.keys →
    new.due ≡ (with_each_due duty handles).handles → KeepsShown (memory_view old) (memory_view new)
called-shown old new duty request now outcome handles names was room sized called keys due = stays-shown old new (record {
  due = λ g is. ap (has_number g) due ∙ each-kept duty handles g (ap (has_number g) was ∙ is);
  each = λ g keyed. (
      let here = keyed-before (made_by outcome) old.keys g (ap (λ ks. is_keyed ks g) (sym keys) ∙ keyed) in
      let within = keyed-within old.keys g here in
      by g here within (has_number g handles) refl);
})
  where
    by : (g : ℕ) → is_keyed old.keys g ≡ true → g < length old.keys → (b : Bool) → has_number g handles ≡ b →
        (has_number g new.due ≡ true)
        ⊎ ((is_keyed old.keys g ≡ true) × (slice_get new.world g ≡ slice_get old.world g))
    by g here within true is = inl (ap (has_number g) due ∙ each-added duty handles g (omega (arith, within, room)) is)
    by g here within false is =
        inr (
          here,
          ap (λ w. slice_get w g) called.world
              ∙ called-other old.world request called.told g (sym (ap (has_number g) names) ∙ is) (omega (arith, within, sized)),
        )

-- A call would have blocked, and each handle that its request names is due.
pub blocked-shown : (old new : Memory) (duty : Duty) (request : Request Buffer Parts) (handles : List ℕ) → handles ≡ named request →
    duty.handles ≡ old.due → length old.keys ≤ duty.count → new.world ≡ old.world → new.keys ≡ old.keys →
    new.due ≡ (with_each_due duty handles).handles →
    KeepsShown (memory_view old) (memory_view new) × AreDue (memory_view new) (named request)
blocked-shown old new duty request handles names was room world keys due = (
  stays-shown old new (record {
    due = λ g is. ap (has_number g) due ∙ each-kept duty handles g (ap (has_number g) was ∙ is);
    each = λ g keyed. inr (ap (λ ks. is_keyed ks g) (sym keys) ∙ keyed, ap (λ w. slice_get w g) world);
  }),
  λ g is keyed. (
      let here : is_keyed old.keys g ≡ true = ap (λ ks. is_keyed ks g) (sym keys) ∙ keyed in
      let within = keyed-within old.keys g here in
      ap (has_number g) due ∙ each-added duty handles g (omega (arith, within, room)) (ap (has_number g) names ∙ is)),
)
