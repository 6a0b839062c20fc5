-- The first state is wake-safe, and so is the state after each list of steps that may be made.
use Rattle.std.proofs.Common.{◌≡◌, ◌<◌, List, [], ◌∷◌, All, Bool, true, false, refl, sym, subst, arith, inl, inr}
use Rattle.std.specs.Prelude.{◌⊎◌}
use Rattle.std.proofs.lemmas.List.Elements.{All-nil}
use Rattle.wake_core.specs.declared.state.TheConstants.{MAX_SENDERS}
use Rattle.wake_core.specs.declared.waker.Waker.{Waker}
use Rattle.wake_core.specs.SenderState.{SenderState}
use Rattle.wake_core.specs.SenderTable.{sender_of}
use Rattle.wake_core.specs.Step.{Step, Push, ReadFlag, SetToken, Nudge, DrainFirst, ClearFlag, DrainAgain, FallAsleep, TakeToken, Rouse}
use Rattle.wake_core.specs.Step.{SetFlag, DrainRest, Admits, after, AdmitsAll, after_all}
use Rattle.wake_core.specs.WakeSafety.{MaySleep, IsMidSend, AreMidSend, WakeSafety, IsTold}
use Rattle.wake_core.specs.WakeState.{Wake, first_wake}
use Rattle.wake_core.proofs.SafetyLemmas.{safe_push, safe_read_flag, safe_set_token, safe_nudge, safe_drain, safe_drain_first}
use Rattle.wake_core.proofs.SafetyLemmas.{safe_clear_flag, safe_drain_again, safe_fall_asleep, safe_take_token, safe_rouse, safe_set_flag}

-- the first state
pub safe_first : WakeSafety first_wake
safe_first = record {
  flag_fits = refl;
  none_slept_over = λ asleep unset. absurd asleep;
  numbers_run_on = λ u. record { within = omega arith; numbers = refl };
  within_limits = record { numbered = All-nil (λ (x : Waker). x.sender < MAX_SENDERS); counted = λ u. omega arith };
  booked = record { all_pushes = refl; all_drains = refl };
}

-- one step
pub safe_step : (w : Wake) (step : Step) → WakeSafety w → Admits w step → WakeSafety (after w step)
safe_step w (Push s t) safe can = safe_push w s t safe can
safe_step w (ReadFlag s) safe can = safe_read_flag w s safe
safe_step w (SetToken s) safe can = safe_set_token w s safe
safe_step w Nudge safe can = safe_nudge w safe
safe_step w DrainFirst safe can = safe_drain_first w safe can
safe_step w ClearFlag safe can = safe_clear_flag w safe
safe_step w DrainAgain safe can = safe_drain_again w safe can
safe_step w FallAsleep safe can = safe_fall_asleep w safe can
safe_step w TakeToken safe can = safe_take_token w safe can
safe_step w Rouse safe can = safe_rouse w safe can
safe_step w SetFlag safe can = safe_set_flag w safe
safe_step w DrainRest safe can = safe_drain w w.stage safe safe.flag_fits

-- a list of steps
pub safe_steps : (w : Wake) (steps : List Step) → WakeSafety w → AdmitsAll w steps → WakeSafety (after_all w steps)
safe_steps w [] safe can = safe
safe_steps w (step ∷ steps) safe can = safe_steps (after w step) steps (safe_step w step safe can.0) can.1

-- the token is set, or it isn't
told : (q : List Waker) (xs : List SenderState) (token : Bool) → (token ≡ false → AreMidSend q xs)
    → (token ≡ true) ⊎ All (λ (x : Waker). IsMidSend (sender_of xs x.sender).stage) q
told q xs true are = inl refl
told q xs false are = inr (are refl).each

-- a sleeper that sleeps is told
pub safe_told : (w : Wake) → WakeSafety w → IsTold w
safe_told w safe asleep = told w.queue w.senders w.token (safe.none_slept_over (subst MaySleep (sym asleep) tt))
