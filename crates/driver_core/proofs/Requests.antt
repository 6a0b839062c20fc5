-- What stays of the slots of tokens that are held before and after a call.
use Rattle.std.proofs.Common.{◌≡◌, inl, inr, ℕ, Bool, true, false, Option, Some, None, refl, sym, ◌∙◌, ap, subst}
use Rattle.std.specs.Ordering.{nat_cmp}
use Rattle.std.specs.FinMap.{FinMap, get, insert, remove}
use Rattle.op_slots.specs.declared.lifecycle.AfterDrop.{AfterDrop}
use Rattle.op_slots.specs.declared.lifecycle.AfterDrop.TheVariants.{Left, Free}
use Rattle.op_slots.specs.declared.lifecycle.Lifecycle.{Lifecycle}
use Rattle.op_slots.specs.declared.lifecycle.Lifecycle.TheVariants.{Submitted, Waiting, Ignored, Completed}
use Rattle.machine.specs.declared.completion.Completion.{Completion}
use Rattle.machine.specs.declared.request.Outcome.{Outcome}
use Rattle.driver_core.specs.declared.op.Done.{Done}
use Rattle.driver_core.specs.declared.op.Op.{Op}
use Rattle.driver_core.specs.declared.slot.Slot.{Slot}
use Rattle.driver_core.specs.Slot.{with_life, is_flying, number_at, serial_of, slots_completed, slots_if, slots_after}
use Rattle.driver_core.specs.Slot.{PollsAt, DropsAt, CompletesSlot, KeepsNumbers}
use Rattle.driver_core.specs.Op.{number_of}
use Rattle.driver_core.specs.Requests.{request_in, StaysHeld}
use Rattle.machine.proofs.Numbers.{same-or-not}
use Rattle.driver_core.proofs.Maps.{put-same, put-other, gone-same, gone-other, remove-put}
use Rattle.driver_core.proofs.Numbers.{owner}

module _ {B X : Type 0} (read : Option (Slot B) → X) where
  -- What is read stays where the slots do.
  pub stays-same : (old new : FinMap nat_cmp (Slot B)) → new ≡ old → StaysHeld read old new
  stays-same old new same = λ op before after. ap (λ m. read (get m op.key)) same

  -- It stays where one slot is written with which it is the same.
  pub stays-put : (m : FinMap nat_cmp (Slot B)) (key : ℕ) (s t : Slot B) → get m key ≡ Some s → read (Some t) ≡ read (Some s) →
      StaysHeld read m (insert m key t)
  stays-put m key s t there same = λ op before after. elim (same-or-not op.key key) [
    | inl e ↦ ap (λ k. read (get (insert m key t) k)) e ∙ ap read (put-same m key t) ∙ same ∙ sym (ap read (ap (get m) e ∙ there))
    | inr e ↦ ap read (put-other m key t op.key e)
  ]

  -- It stays where a slot is added at a free key.
  pub stays-added : (m : FinMap nat_cmp (Slot B)) (key : ℕ) (t : Slot B) → get m key ≡ None → StaysHeld read m (insert m key t)
  stays-added m key t free = λ op before after. elim (same-or-not op.key key) [
    | inl e ↦
        let none = ap serial_of (ap (get m) e ∙ free) in
        absurd (let z : ◌≡◌ {A = Option ℕ} None (Some (number_of op)) = sym none ∙ before in cc)
    | inr e ↦ ap read (put-other m key t op.key e)
  ]

  -- It stays where a slot goes.
  pub stays-gone : (m : FinMap nat_cmp (Slot B)) (key : ℕ) → StaysHeld read m (remove m key)
  stays-gone m key = λ op before after. elim (same-or-not op.key key) [
    | inl e ↦
        let none = ap (number_at (remove m key)) e ∙ ap serial_of (gone-same m key) in
        absurd (let z : ◌≡◌ {A = Option ℕ} None (Some (number_of op)) = sym none ∙ after in cc)
    | inr e ↦ ap read (gone-other m key op.key e)
  ]

  -- It stays in two calls of which the first keeps all numbers.
  pub stays-on : (a b c : FinMap nat_cmp (Slot B)) → KeepsNumbers a b → StaysHeld read a b → StaysHeld read b c → StaysHeld read a c
  stays-on a b c numbers first second = λ op before after.
      let between = numbers op.key ∙ before in
      second op between after ∙ first op before between

-- A new slot has its request.
pub request-added : {B : Type 0} (old new : FinMap nat_cmp (Slot B)) (key at : ℕ) (t : Slot B) → new ≡ insert old key t → at ≡ key →
    request_in (get new at) ≡ Some t.request
request-added old new key at t is here =
    ap (λ m. request_in (get m at)) is ∙ ap (λ k. request_in (get (insert old key t) k)) here ∙ ap request_in (put-same old key t)

-- A poll keeps requests.
pub poll-requests : {B : Type 0} (old new : FinMap nat_cmp (Slot B)) (op : Op) (task : ℕ) (answer : Option (Done B)) →
    number_at old op.key ≡ Some (number_of op) → PollsAt old op.key task new answer → StaysHeld request_in old new
poll-requests old new op task None holds polls =
    let o = owner old op.key op.number holds in
    let is = (polls o.slot o.there).1 in
    subst (λ m. StaysHeld request_in old m) (sym is) (stays-put request_in old op.key o.slot _ o.there refl)
poll-requests old new op task (Some done) holds polls =
    let o = owner old op.key op.number holds in
    subst (λ m. StaysHeld request_in old m) (sym (polls o.slot o.there).2) (stays-gone request_in old op.key)

-- A poll that is ready returns the request of its operation.
pub poll-returns : {B : Type 0} (old new : FinMap nat_cmp (Slot B)) (op : Op) (task : ℕ) (done : Done B) →
    number_at old op.key ≡ Some (number_of op) → PollsAt old op.key task new (Some done) → request_in (get old op.key) ≡ Some done.request
poll-returns old new op task done holds polls =
    let o = owner old op.key op.number holds in
    ap request_in o.there ∙ ap (λ r. Some r) (sym (polls o.slot o.there).1)

-- A drop keeps requests.
pub drop-requests : {B : Type 0} (old new : FinMap nat_cmp (Slot B)) (op : Op) (answer : AfterDrop) →
    number_at old op.key ≡ Some (number_of op) → DropsAt old op.key new answer → StaysHeld request_in old new
drop-requests old new op Left holds drops =
    let o = owner old op.key op.number holds in
    subst (λ m. StaysHeld request_in old m) (sym (drops o.slot o.there).1)
    (stays-put request_in old op.key o.slot (with_life o.slot Ignored) o.there refl)
drop-requests old new op Free holds drops =
    let o = owner old op.key op.number holds in
    subst (λ m. StaysHeld request_in old m) (sym (drops o.slot o.there).1) (stays-gone request_in old op.key)

-- A completion keeps requests, by the life of its slot.
completed-requests : {B : Type 0} (life : Lifecycle Outcome) (old : FinMap nat_cmp (Slot B)) (key : ℕ) (s t : Slot B) →
    get old key ≡ Some s → t.request ≡ s.request → StaysHeld request_in old (slots_completed life old key t)
completed-requests Submitted old key s t there same = stays-put request_in old key s t there (ap (λ r. Some r) same)
completed-requests (Waiting task) old key s t there same = stays-put request_in old key s t there (ap (λ r. Some r) same)
completed-requests Ignored old key s t there same =
    subst (λ m. StaysHeld request_in old m) (sym (remove-put old key t)) (stays-gone request_in old key)
completed-requests (Completed outcome) old key s t there same = stays-put request_in old key s t there (ap (λ r. Some r) same)

-- A completion keeps requests, by whether its slot is in flight.
if-requests : {B : Type 0} (flies : Bool) (old : FinMap nat_cmp (Slot B)) (completion : Completion) (s : Slot B) →
    get old completion.word ≡ Some s → StaysHeld request_in old (slots_if flies old completion s)
if-requests true old completion s there =
    completed-requests s.life old completion.word s (with_life s (Completed completion.outcome)) there refl
if-requests false old completion s there = stays-same request_in old old refl

-- A completion keeps requests, by the slot that it names.
after-requests : {B : Type 0} (old : FinMap nat_cmp (Slot B)) (completion : Completion) (x : Option (Slot B)) →
    get old completion.word ≡ x → StaysHeld request_in old (slots_after old completion x)
after-requests old completion None there = stays-same request_in old old refl
after-requests old completion (Some s) there = if-requests (is_flying s.life) old completion s there

-- A completion keeps requests.
pub complete-requests : {B : Type 0} (old new : FinMap nat_cmp (Slot B)) (completion : Completion) (result : Option (ℕ × Option ℕ)) →
    CompletesSlot old completion new result → StaysHeld request_in old new
complete-requests old new completion result completes =
    subst (λ m. StaysHeld request_in old m) (sym completes.slots) (after-requests old completion (get old completion.word) refl)
