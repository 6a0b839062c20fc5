-- What the two last steps of a send leave of the sender, and the steps that end its send.
use Rattle.std.proofs.Common.{◌≡◌, ℕ, List, [], ◌∷◌, Bool, true, false, refl, ap, sym, subst, ◌∙◌}
use Rattle.std.specs.Prelude.{if◌then◌else◌}
use Rattle.wake_core.specs.declared.senders.SenderStage.{SenderStage}
use Rattle.wake_core.specs.declared.senders.SenderStage.TheVariants.{Idle, Called}
use Rattle.wake_core.specs.Locked.{Makes, ending_at, ending}
use Rattle.wake_core.specs.SenderState.{SenderState}
use Rattle.wake_core.specs.SenderTable.{sender_of}
use Rattle.wake_core.specs.Step.{Step, ReadFlag, SetToken}
use Rattle.wake_core.specs.WakeState.{Wake, with_sender_at, CanReadFlag, after_read_flag, CanSetToken, after_set_token}
use Rattle.wake_core.proofs.TableLemmas.{sender_of-written}

-- the stage of a sender that read this flag
abbrev stage_read : Bool → SenderStage
stage_read flag = if flag then Idle else Called

-- a sender that was moved to a stage is there
stage-with_sender_at : (w : Wake) (s : ℕ) (to : SenderStage) → (sender_of (with_sender_at w s to).senders s).stage ≡ to
stage-with_sender_at w s to =
    ap (λ (x : SenderState). x.stage) (sender_of-written w.senders s (record (sender_of w.senders s) { stage = to }))

-- a sender that was moved to a stage pushed what it had
pushed-with_sender_at : (w : Wake) (s : ℕ) (to : SenderStage)
    → (sender_of (with_sender_at w s to).senders s).pushed ≡ (sender_of w.senders s).pushed
pushed-with_sender_at w s to =
    ap (λ (x : SenderState). x.pushed) (sender_of-written w.senders s (record (sender_of w.senders s) { stage = to }))

module _ (w next : Wake) (s : ℕ) where
  -- after it read this flag, a sender is at the stage that the flag gives
  stage_after_read : next ≡ after_read_flag w s → (sender_of next.senders s).stage ≡ stage_read w.flag
  stage_after_read after =
      ap (λ (x : Wake). (sender_of x.senders s).stage) after ∙ stage-with_sender_at w s (stage_read w.flag)

  -- after a read of false the sender may set the token
  pub called_after_false : next ≡ after_read_flag w s → w.flag ≡ false → CanSetToken next s
  called_after_false after down = stage_after_read after ∙ ap stage_read down

  -- after a read of true it is idle
  pub idle_after_true : next ≡ after_read_flag w s → w.flag ≡ true → (sender_of next.senders s).stage ≡ Idle
  idle_after_true after up = stage_after_read after ∙ ap stage_read up

  -- after it set the token it is idle
  pub idle_after_token : next ≡ after_set_token w s → (sender_of next.senders s).stage ≡ Idle
  idle_after_token after = ap (λ (x : Wake). (sender_of x.senders s).stage) after ∙ stage-with_sender_at w s Idle

  -- a read of the flag doesn't change how many wakers it pushed
  pub pushed_after_read : next ≡ after_read_flag w s → (sender_of next.senders s).pushed ≡ (sender_of w.senders s).pushed
  pushed_after_read after =
      ap (λ (x : Wake). (sender_of x.senders s).pushed) after ∙ pushed-with_sender_at w s (stage_read w.flag)

  -- nor does setting the token
  pub pushed_after_token : next ≡ after_set_token w s → (sender_of next.senders s).pushed ≡ (sender_of w.senders s).pushed
  pushed_after_token after = ap (λ (x : Wake). (sender_of x.senders s).pushed) after ∙ pushed-with_sender_at w s Idle

-- a sender at Pushed that reads false and sets the token ends its send
pub makes_both : (w middle next : Wake) (s : ℕ) → CanReadFlag w s → w.flag ≡ false
    → middle ≡ after_read_flag w s → next ≡ after_set_token middle s → Makes w (ending w s) next
makes_both w middle next s can down read set =
    let steps : ending w s ≡ ReadFlag s ∷ SetToken s ∷ [] = (λ i. ending_at (can i) (down i) s) in
    let called = called_after_false w (after_read_flag w s) s refl down in
    subst (λ (xs : List Step). Makes w xs next) (sym steps) (record {
      admitted = (can, (called, tt));
      state = set ∙ ap (λ (x : Wake). after_set_token x s) read;
    })
