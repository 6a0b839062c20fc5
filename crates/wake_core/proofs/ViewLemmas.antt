-- What contracts see of a wake state, before and after each change of its parts.
use Rattle.std.proofs.Common.{◌≡◌, ℕ, ◌+◌, List, [], ◌∷◌, ◌++◌, length, Bool, ◌∙◌}
use Rattle.wake_core.specs.declared.senders.SenderSlot.{SenderSlot}
use Rattle.wake_core.specs.declared.senders.SenderStage.{SenderStage}
use Rattle.wake_core.specs.declared.senders.SenderStage.TheVariants.{Pushed}
use Rattle.wake_core.specs.declared.sleeper.SleeperStage.{SleeperStage}
use Rattle.wake_core.specs.declared.waker.Waker.{Waker}
use Rattle.wake_core.specs.SenderSlot.{new_slot, states_of, seen}
use Rattle.wake_core.specs.SenderTable.{entry_of, with_entry, sender_of}
use Rattle.wake_core.specs.Waker.{waker}
use Rattle.wake_core.specs.WakeState.{Wake, after_push, with_sender_at, after_drain_rest}
use Rattle.wake_core.proofs.SlotLemmas.{pushed-slot, states_of-push, states_of-stage, states_of-drain}

module _ (q : List Waker) (flag token : Bool) (xs : List SenderSlot) (p d : ℕ) (stage : SleeperStage) where
  -- what is seen of these parts
  abbrev before : Wake
  before = seen q flag token xs p d stage

  -- a push
  pub seen-push : (s t n : ℕ) (q' : List Waker) (xs' : List SenderSlot) (p' : ℕ) → n ≡ (entry_of new_slot xs s).pushed
      → q' ≡ q ++ waker s n t ∷ [] → xs' ≡ with_entry new_slot xs s (record { stage = Pushed; pushed = n + 1 }) → p' ≡ p + 1
      → seen q' flag token xs' p' d stage ≡ after_push before s t
  seen-push s t n q' xs' p' next queue slots pushes =
      let number : n ≡ (sender_of (states_of q xs) s).pushed = next ∙ pushed-slot q xs s in
      (λ i. seen (queue i) flag token (slots i) (pushes i) d stage)
      ∙ (λ i. record before { queue = q ++ waker s (number i) t ∷ []; senders = states_of-push q xs s t n next i; pushes = p + 1 })

  -- a sender goes to another stage
  pub seen-stage : (s : ℕ) (to : SenderStage) (xs' : List SenderSlot)
      → xs' ≡ with_entry new_slot xs s (record (entry_of new_slot xs s) { stage = to })
      → seen q flag token xs' p d stage ≡ with_sender_at before s to
  seen-stage s to xs' slots =
      (λ i. seen q flag token (slots i) p d stage) ∙ (λ i. record before { senders = states_of-stage q xs s to i })

  -- a drain
  pub seen-drain : (q' : List Waker) (d' : ℕ) → q' ≡ [] → d' ≡ d + length q
      → seen q' flag token xs p d' stage ≡ after_drain_rest before
  seen-drain q' d' none drains =
      (λ i. seen (none i) flag token xs p (drains i) stage)
      ∙ (λ i. record before { queue = []; senders = states_of-drain q xs i; drains = d + length q })
