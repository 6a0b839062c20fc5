-- Tokens after each call: which slot has which number.
use Rattle.std.proofs.Common.{◌≡◌, ◌≢◌, ◌⊎◌, inl, inr, ℕ, ◌+◌, ◌<◌, true, Option, Some, None, refl, sym, ◌∙◌, ap, subst, arith}
use Rattle.std.specs.Prelude.{◌↔◌, IsSome, IfSome}
use Rattle.std.specs.Ordering.{nat_cmp}
use Rattle.std.specs.FinMap.{FinMap, get, insert, remove, empty, get-empty}
use Rattle.op_slots.specs.declared.slab.TheConstants.{MAX_LIVE}
use Rattle.op_slots.specs.declared.lifecycle.AfterDrop.{AfterDrop}
use Rattle.op_slots.specs.declared.lifecycle.AfterDrop.TheVariants.{Left, Free}
use Rattle.op_slots.specs.declared.lifecycle.Lifecycle.{Lifecycle}
use Rattle.op_slots.specs.declared.lifecycle.Lifecycle.TheVariants.{Submitted, Waiting, Ignored, Completed}
use Rattle.op_slots.specs.Lifecycle.{polled, IsIgnored}
use Rattle.machine.specs.declared.request.Outcome.{Outcome}
use Rattle.driver_core.specs.declared.op.Done.{Done}
use Rattle.driver_core.specs.declared.op.Op.{Op}
use Rattle.driver_core.specs.declared.slot.Slot.{Slot}
use Rattle.driver_core.specs.Slot.{with_life, number_at, number_if, serial_of, is_owned_life, PollsAt, EndsSlot, DropsAt, KeepsNumbers}
use Rattle.driver_core.specs.Op.{number_of}
use Rattle.driver_core.specs.Ops.{AreNumbered}
use Rattle.machine.proofs.Numbers.{same-or-not}
use Rattle.driver_core.proofs.Lists.{some}
use Rattle.driver_core.proofs.Maps.{put-same, put-other, gone-same, gone-other}
use Rattle.driver_core.proofs.Numbers.{Owner, owner, owned-life, keeps-put}

-- Where each slot keeps its number, the same tokens are held.
pub tokens-kept : {B : Type 0} (old new : FinMap nat_cmp (Slot B)) → KeepsNumbers old new → (op : Op) →
    (number_at old op.key ≡ Some (number_of op)) ↔ (number_at new op.key ≡ Some (number_of op))
tokens-kept old new keeps op = (λ h. keeps op.key ∙ h, λ h. sym (keeps op.key) ∙ h)

-- No token is held where there is no slot.
pub none-held : {B : Type 0} (slots : FinMap nat_cmp (Slot B)) → slots ≡ empty → (key number : ℕ) → number_at slots key ≡ Some number → ⊥
none-held {B} slots fresh key number h =
    (let z : ◌≡◌ {A = Option ℕ} None (Some number) =
    sym (ap (λ m. number_at m key) fresh ∙ ap serial_of (get-empty {X = Slot B} nat_cmp key)) ∙ h in cc)

-- One token is spent, and every other is kept.
drops-token : {B : Type 0} (old new : FinMap nat_cmp (Slot B)) (op : Op) → number_at old op.key ≡ Some op.number →
    number_at new op.key ≡ None → ((k : ℕ) → k ≢ op.key → number_at new k ≡ number_at old k) → (o : Op) →
    (number_at new o.key ≡ Some (number_of o)) ↔ ((number_at old o.key ≡ Some (number_of o)) × (o ≢ op))
drops-token old new op holds gone kept o = (
  λ h. elim (same-or-not o.key op.key) [
    | inl e ↦ absurd (let z : ◌≡◌ {A = Option ℕ} None (Some o.number) = sym (ap (number_at new) e ∙ gone) ∙ h in cc)
    | inr e ↦ (sym (kept o.key e) ∙ h, λ q. e (ap (λ x. x.key) q))
  ],
  λ h. elim (same-or-not o.key op.key) [
    | inl e ↦ absurd (h.1 (
        let z : Some o.number ≡ Some op.number = sym h.0 ∙ ap (number_at old) e ∙ holds in
        let n : o.number ≡ op.number = cc in
        ap (λ k. record { number = o.number; key = k }) e ∙ ap (λ m. record { number = m; key = op.key }) n))
    | inr e ↦ kept o.key e ∙ h.0
  ],
)

-- A poll leaves whether a slot is its user's.
polled-owned : (l : Lifecycle Outcome) (task : ℕ) → is_owned_life (polled l task) ≡ is_owned_life l
polled-owned Submitted task = refl
polled-owned (Waiting t) task = refl
polled-owned Ignored task = refl
polled-owned (Completed r) task = refl

-- Calls on the slot of a token that is held.
module _ {B : Type 0} (old : FinMap nat_cmp (Slot B)) (op : Op) (holds : number_at old op.key ≡ Some (number_of op)) where
  pub held-slot : Owner old op.key op.number
  held-slot = owner old op.key op.number holds

  pub held-live : IsSome (get old op.key)
  held-live = subst (λ o. IsSome o) (sym held-slot.there) refl

  pub held-owned : IfSome (get old op.key) (λ s. IsIgnored s.life → ⊥)
  held-owned =
      subst (λ (o : Option (Slot B)). IfSome o (λ s. IsIgnored s.life → ⊥)) (sym held-slot.there)
      (owned-life held-slot.slot.life held-slot.owned)

  -- A poll that is pending keeps all numbers.
  pub poll-keeps : (task : ℕ) (new : FinMap nat_cmp (Slot B)) → PollsAt old op.key task new None → KeepsNumbers old new
  poll-keeps task new polls =
      let s = held-slot.slot in
      subst (λ m. KeepsNumbers old m) (sym (polls s held-slot.there).1)
      (keeps-put old op.key s (with_life s (polled s.life task)) held-slot.there refl (polled-owned s.life task))

  -- A slot that goes takes its token with it.
  gone-tokens : (new : FinMap nat_cmp (Slot B)) → new ≡ remove old op.key → (o : Op) →
      (number_at new o.key ≡ Some (number_of o)) ↔ ((number_at old o.key ≡ Some (number_of o)) × (o ≢ op))
  gone-tokens new gone =
      drops-token old new op holds (ap (λ m. number_at m op.key) gone ∙ ap serial_of (gone-same old op.key))
      (λ k e. ap (λ m. number_at m k) gone ∙ ap serial_of (gone-other old op.key k e))

  pub poll-spends : (task : ℕ) (new : FinMap nat_cmp (Slot B)) (done : Done B) → PollsAt old op.key task new (Some done) → (o : Op) →
      (number_at new o.key ≡ Some (number_of o)) ↔ ((number_at old o.key ≡ Some (number_of o)) × (o ≢ op))
  poll-spends task new done polls = gone-tokens new (polls held-slot.slot held-slot.there).2

  pub end-spends : (outcome : Outcome) (new : FinMap nat_cmp (Slot B)) (done : Done B) → EndsSlot old op.key outcome new done → (o : Op) →
      (number_at new o.key ≡ Some (number_of o)) ↔ ((number_at old o.key ≡ Some (number_of o)) × (o ≢ op))
  end-spends outcome new done ends = gone-tokens new (ends held-slot.slot held-slot.there).2

  pub drop-spends : (new : FinMap nat_cmp (Slot B)) (answer : AfterDrop) → DropsAt old op.key new answer → (o : Op) →
      (number_at new o.key ≡ Some (number_of o)) ↔ ((number_at old o.key ≡ Some (number_of o)) × (o ≢ op))
  drop-spends new Left drops =
      let s = held-slot.slot in
      let is = (drops s held-slot.there).1 in
      drops-token old new op holds (ap (λ m. number_at m op.key) is ∙ ap serial_of (put-same old op.key (with_life s Ignored)))
      (λ k e. ap (λ m. number_at m k) is ∙ ap serial_of (put-other old op.key (with_life s Ignored) k e))
  drop-spends new Free drops = gone-tokens new (drops held-slot.slot held-slot.there).1

-- Numbers stay below the next one where no slot gets a new number.
pub numbered-less : {B : Type 0} (old new : FinMap nat_cmp (Slot B)) (given : ℕ) → AreNumbered old given →
    ((key number : ℕ) → number_at new key ≡ Some number → number_at old key ≡ Some number) → AreNumbered new given
numbered-less old new given s sub = λ key number h. s key number (sub key number h)

-- So they do where each keeps its number.
pub numbered-kept : {B : Type 0} (old new : FinMap nat_cmp (Slot B)) (given : ℕ) → AreNumbered old given → KeepsNumbers old new →
    AreNumbered new given
numbered-kept old new given s keeps = numbered-less old new given s (λ key number h. sym (keeps key) ∙ h)

-- So they do where a token is spent.
pub numbered-spent : {B : Type 0} (old new : FinMap nat_cmp (Slot B)) (given : ℕ) (op : Op) → AreNumbered old given →
    ((o : Op) → (number_at new o.key ≡ Some (number_of o)) ↔ ((number_at old o.key ≡ Some (number_of o)) × (o ≢ op))) →
    AreNumbered new given
numbered-spent old new given op s spends =
    numbered-less old new given s (λ key number h. (let o : Op = record { number = number; key = key } in ((spends o).0 h).0))

-- A submission adds one number and one token.
module _ {B : Type 0} (old new : FinMap nat_cmp (Slot B)) (given key : ℕ) (t : Slot B) (free : get old key ≡ None)
    (serial : t.serial ≡ given) (owned : is_owned_life t.life ≡ true) (is : new ≡ insert old key t) where
  at-key : (k : ℕ) → k ≡ key → number_at new k ≡ Some given
  at-key k e =
      ap (λ m. number_at m k) is ∙ ap (number_at (insert old key t)) e ∙ ap serial_of (put-same old key t)
      ∙ ap (λ b. number_if b t.serial) owned ∙ ap (λ n. Some n) serial

  at-other : (k : ℕ) → k ≢ key → number_at new k ≡ number_at old k
  at-other k e = ap (λ m. number_at m k) is ∙ ap serial_of (put-other old key t k e)

  pub adds-this : (o : Op) → o.key ≡ key → o.number ≡ given → number_at new o.key ≡ Some (number_of o)
  adds-this o k n = at-key o.key k ∙ ap (λ x. Some x) (sym n)

  pub adds-kept : (o : Op) → number_at old o.key ≡ Some (number_of o) → number_at new o.key ≡ Some (number_of o)
  adds-kept o h = elim (same-or-not o.key key) [
    | inl e ↦ absurd (let z : ◌≡◌ {A = Option ℕ} None (Some o.number) = sym (ap (number_at old) e ∙ ap serial_of free) ∙ h in cc)
    | inr e ↦ at-other o.key e ∙ h
  ]

  pub adds-only : (op o : Op) → op.key ≡ key → op.number ≡ given → number_at new o.key ≡ Some (number_of o) →
      (o ≡ op) ⊎ (number_at old o.key ≡ Some (number_of o))
  adds-only op o k m h = elim (same-or-not o.key key) [
    | inl e ↦ inl (
        let z : Some given ≡ Some o.number = sym (at-key o.key e) ∙ h in
        let n : given ≡ o.number = cc in
        ap (λ k. record { number = o.number; key = k }) (e ∙ sym k) ∙ ap (λ x. record { number = x; key = op.key }) (sym n ∙ sym m))
    | inr e ↦ inr (sym (at-other o.key e) ∙ h)
  ]

  pub numbered-more : AreNumbered old given → key < MAX_LIVE → AreNumbered new (given + 1)
  numbered-more s below k n h = elim (same-or-not k key) [
    | inl e ↦ (
        let z : n ≡ given = some n given (number_at new k) h (at-key k e) in
        record { key_below = subst (λ x. x < MAX_LIVE) (sym e) below; number_below = omega (arith, z) })
    | inr e ↦ (
        let o = s k n (sym (at-other k e) ∙ h) in
        record { key_below = o.key_below; number_below = (let b = o.number_below in omega (arith, b)) })
  ]
