-- What the table and the queue say of the senders, before and after each change of them.
use Rattle.std.proofs.Common.{◌≡◌, ℕ, zero, suc, ◌+◌, ◌-◌, ◌<◌, ◌≤◌, ◌≢◌, List, [], ◌∷◌, ◌++◌, length, map, refl, sym, ap, ◌∙◌, arith}
use Rattle.std.proofs.Common.{length-append}
use Rattle.wake_core.specs.declared.senders.SenderSlot.{SenderSlot}
use Rattle.wake_core.specs.declared.senders.SenderStage.{SenderStage}
use Rattle.wake_core.specs.declared.senders.SenderStage.TheVariants.{Idle, Pushed}
use Rattle.wake_core.specs.declared.waker.Waker.{Waker}
use Rattle.wake_core.specs.SenderSlot.{new_slot, state_of, states_from, states_of}
use Rattle.wake_core.specs.SenderState.{SenderState, new_sender, all_drained}
use Rattle.wake_core.specs.SenderTable.{entry_of, with_entry, sender_of, with_sender}
use Rattle.wake_core.specs.Waker.{waker}
use Rattle.wake_core.specs.WakerList.{wakers_of}
use Rattle.wake_core.proofs.NumberLemmas.{wakers_of-push_same, wakers_of-push_other}

-- a sender's state once it pushed one more
abbrev pushed_once : SenderState → SenderState
pushed_once v = record v { stage = Pushed; pushed = v.pushed + 1 }

-- a sender that isn't idle has a slot
slot_there : (xs : List SenderSlot) (s : ℕ) → (entry_of new_slot xs s).stage ≢ Idle → s < length xs
slot_there [] s busy = absurd (busy refl)
slot_there (x ∷ xs) zero busy = omega arith
slot_there (x ∷ xs) (suc s) busy = omega (arith, slot_there xs s busy)

-- what a slot says of its sender beside another queue, in which that sender's wakers are the same
state_of-same : (queue other : List Waker) (n : ℕ) (x : SenderSlot) → wakers_of n other ≡ wakers_of n queue
    → state_of other n x ≡ state_of queue n x
state_of-same queue other n x same = ap (λ (ws : List Waker).
    (let v : SenderState = record { stage = x.stage; pushed = x.pushed; drained = x.pushed - length ws } in v)) same

module _ (queue : List Waker) where
  -- a sender that pushed nothing has nothing drained, whatever waits
  state_of-new : (s : ℕ) → state_of queue s new_slot ≡ new_sender
  state_of-new s =
      let none : 0 - length (wakers_of s queue) ≡ 0 = omega arith in
      ap (λ n. record new_sender { drained = n }) none

  -- each sender from a number on is what its slot says beside the queue
  entry_of-states : (k : ℕ) (xs : List SenderSlot) (s n : ℕ) → n ≡ k + s
      → sender_of (states_from queue k xs) s ≡ state_of queue n (entry_of new_slot xs s)
  entry_of-states k [] s n at = sym (state_of-new n)
  entry_of-states k (x ∷ xs) zero n at = let e : k ≡ n = omega arith in ap (λ m. state_of queue m x) e
  entry_of-states k (x ∷ xs) (suc s) n at = entry_of-states (k + 1) xs s n (omega arith)

  -- each sender is what its slot says beside the queue
  pub sender_of-states : (xs : List SenderSlot) (s : ℕ) → sender_of (states_of queue xs) s ≡ state_of queue s (entry_of new_slot xs s)
  sender_of-states xs s = entry_of-states 0 xs s s (omega arith)

  -- a sender's slot has its stage
  pub stage-slot : (xs : List SenderSlot) (s : ℕ) → (entry_of new_slot xs s).stage ≡ (sender_of (states_of queue xs) s).stage
  stage-slot xs s = sym (ap (λ (x : SenderState). x.stage) (sender_of-states xs s))

  -- a sender's slot has its pushed count
  pub pushed-slot : (xs : List SenderSlot) (s : ℕ) → (entry_of new_slot xs s).pushed ≡ (sender_of (states_of queue xs) s).pushed
  pushed-slot xs s = sym (ap (λ (x : SenderState). x.pushed) (sender_of-states xs s))

  -- a sender that isn't idle is in the table
  pub placed : (xs : List SenderSlot) (s : ℕ) → (sender_of (states_of queue xs) s).stage ≢ Idle → s < length xs
  placed xs s busy = slot_there xs s (λ idle. busy (sym (stage-slot xs s) ∙ idle))

  -- one slot is written
  states-with_entry : (k : ℕ) (xs : List SenderSlot) (s n : ℕ) (slot : SenderSlot) → n ≡ k + s
      → states_from queue k (with_entry new_slot xs s slot) ≡ with_sender (states_from queue k xs) s (state_of queue n slot)
  states-with_entry k [] zero n slot at = let e : k ≡ n = omega arith in ap (λ m. state_of queue m slot ∷ []) e
  states-with_entry k [] (suc s) n slot at = (λ i. state_of-new k i ∷ states-with_entry (k + 1) [] s n slot (omega arith) i)
  states-with_entry k (x ∷ xs) zero n slot at =
      let e : k ≡ n = omega arith in
      ap (λ m. state_of queue m slot ∷ states_from queue (k + 1) xs) e
  states-with_entry k (x ∷ xs) (suc s) n slot at =
      ap (λ ys. state_of queue k x ∷ ys) (states-with_entry (k + 1) xs s n slot (omega arith))

  -- beside another queue, in which the wakers of these senders are the same
  states-same : (other : List Waker) (k : ℕ) (xs : List SenderSlot)
      → ((u : ℕ) → k ≤ u → wakers_of u other ≡ wakers_of u queue) → states_from other k xs ≡ states_from queue k xs
  states-same other k [] same = refl
  states-same other k (x ∷ xs) same =
      let first = state_of-same queue other k x (same k (omega arith)) in
      (λ i. first i ∷ states-same other (k + 1) xs (λ u above. same u (omega arith)) i)

  -- and beside one in which they are the same but of one sender, which is written
  states-but_one : (other : List Waker) (k : ℕ) (xs : List SenderSlot) (s n : ℕ) (v : SenderState) → n ≡ k + s
      → ((u : ℕ) → u ≢ n → wakers_of u other ≡ wakers_of u queue)
      → with_sender (states_from other k xs) s v ≡ with_sender (states_from queue k xs) s v
  states-but_one other k [] s n v at same = refl
  states-but_one other k (x ∷ xs) zero n v at same =
      ap (λ ys. v ∷ ys) (states-same other (k + 1) xs (λ u above. same u (λ e. absurd (omega arith))))
  states-but_one other k (x ∷ xs) (suc s) n v at same =
      let first = state_of-same queue other k x (same k (λ e. absurd (omega arith))) in
      (λ i. first i ∷ states-but_one other (k + 1) xs s n v (omega arith) same i)

  -- a sender goes to another stage
  pub states_of-stage : (xs : List SenderSlot) (s : ℕ) (to : SenderStage)
      → states_of queue (with_entry new_slot xs s (record (entry_of new_slot xs s) { stage = to }))
      ≡ with_sender (states_of queue xs) s (record (sender_of (states_of queue xs) s) { stage = to })
  states_of-stage xs s to =
      let slot : SenderSlot = record (entry_of new_slot xs s) { stage = to } in
      let made : SenderState → SenderState = λ (v : SenderState). record v { stage = to } in
      states-with_entry 0 xs s s slot (omega arith)
      ∙ ap (λ (v : SenderState). with_sender (states_of queue xs) s (made v)) (sym (sender_of-states xs s))

  -- a drain, from a number on
  states_from-drain : (k : ℕ) (xs : List SenderSlot) → states_from [] k xs ≡ map all_drained (states_from queue k xs)
  states_from-drain k [] = refl
  states_from-drain k (x ∷ xs) =
      let all : x.pushed - 0 ≡ x.pushed = omega arith in
      let first : state_of [] k x ≡ all_drained (state_of queue k x) =
      (λ i. record { stage = x.stage; pushed = x.pushed; drained = all i }) in
      (λ i. first i ∷ states_from-drain (k + 1) xs i)

  -- a drain
  pub states_of-drain : (xs : List SenderSlot) → states_of [] xs ≡ map all_drained (states_of queue xs)
  states_of-drain xs = states_from-drain 0 xs

-- a push
pub states_of-push : (queue : List Waker) (xs : List SenderSlot) (s t n : ℕ) → n ≡ (entry_of new_slot xs s).pushed
    → states_of (queue ++ waker s n t ∷ []) (with_entry new_slot xs s (record { stage = Pushed; pushed = n + 1 }))
    ≡ with_sender (states_of queue xs) s (pushed_once (sender_of (states_of queue xs) s))
states_of-push queue xs s t n next =
    let other = queue ++ waker s n t ∷ [] in
    let slot : SenderSlot = record { stage = Pushed; pushed = n + 1 } in
    let was = entry_of new_slot xs s in
    let one_more : length (wakers_of s other) ≡ length (wakers_of s queue) + 1 =
    ap length (wakers_of-push_same s n t queue) ∙ length-append (wakers_of s queue) (waker s n t ∷ []) in
    let drained : n + 1 - length (wakers_of s other) ≡ was.pushed - length (wakers_of s queue) = omega (arith, one_more, next) in
    let now : state_of other s slot ≡ pushed_once (state_of queue s was) =
    (λ i. record { stage = Pushed; pushed = next i + 1; drained = drained i }) in
    states-with_entry other 0 xs s s slot (omega arith)
    ∙ states-but_one queue other 0 xs s s (state_of other s slot) (omega arith) (λ u differ. wakers_of-push_other s u n t queue differ)
    ∙ ap (λ (v : SenderState). with_sender (states_of queue xs) s v) (now ∙ ap pushed_once (sym (sender_of-states queue xs s)))
