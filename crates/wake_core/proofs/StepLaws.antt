-- Over lists of steps, wakers come out once and in order.
use Rattle.std.proofs.Common.{◌≡◌, ℕ, ◌+◌, ◌≤◌, ◌≢◌, List, [], ◌∷◌, ◌++◌, map, refl, sym, ap, ◌∙◌, subst, arith, append_assoc, append-nil}
use Rattle.std.proofs.Common.{inl, inr}
use Rattle.std.proofs.lemmas.Bool.Decides.{eqb_tells}
use Rattle.wake_core.specs.declared.senders.SenderStage.{SenderStage}
use Rattle.wake_core.specs.declared.senders.SenderStage.TheVariants.{Pushed}
use Rattle.wake_core.specs.declared.waker.Waker.{Waker}
use Rattle.wake_core.specs.SenderState.{SenderState}
use Rattle.wake_core.specs.SenderTable.{sender_of, with_sender}
use Rattle.wake_core.specs.Step.{Step, Push, ReadFlag, SetToken, Nudge, DrainFirst, ClearFlag, DrainAgain, FallAsleep, TakeToken, Rouse}
use Rattle.wake_core.specs.Step.{SetFlag, DrainRest, after, pushed_by, drained_by, AdmitsAll, after_all, pushed_by_all, drained_by_all}
use Rattle.wake_core.specs.Step.{EachWakerOnce, KeepsOrder}
use Rattle.wake_core.specs.Waker.{waker}
use Rattle.wake_core.specs.WakerList.{wakers_of, numbers_of, numbers_between}
use Rattle.wake_core.specs.WakeSafety.{WakeSafety}
use Rattle.wake_core.specs.WakeState.{Wake, first_wake, next_waker, after_push}
use Rattle.wake_core.proofs.NumberLemmas.{numbers_between-append, numbers_between-none, numbers_between-one, wakers_of-same}
use Rattle.wake_core.proofs.NumberLemmas.{wakers_of-other, wakers_of-append, numbers_of-append}
use Rattle.wake_core.proofs.StepSafety.{safe_first}
use Rattle.wake_core.proofs.TableLemmas.{sender_of-written, sender_of-other, each_sender, sender_of-map}

-- what one step gives out and leaves is what waited and what it put in
step_in_order : (w : Wake) (step : Step) → drained_by w step ++ (after w step).queue ≡ w.queue ++ pushed_by w step
step_in_order w (Push s t) = refl
step_in_order w (ReadFlag s) = sym (append-nil w.queue)
step_in_order w (SetToken s) = sym (append-nil w.queue)
step_in_order w Nudge = sym (append-nil w.queue)
step_in_order w DrainFirst = refl
step_in_order w ClearFlag = sym (append-nil w.queue)
step_in_order w DrainAgain = refl
step_in_order w FallAsleep = sym (append-nil w.queue)
step_in_order w TakeToken = sym (append-nil w.queue)
step_in_order w Rouse = sym (append-nil w.queue)
step_in_order w SetFlag = sym (append-nil w.queue)
step_in_order w DrainRest = refl

-- the same over lists of steps
steps_in_order : (w : Wake) (steps : List Step) → drained_by_all w steps ++ (after_all w steps).queue ≡ w.queue ++ pushed_by_all w steps
steps_in_order w [] = sym (append-nil w.queue)
steps_in_order w (step ∷ steps) =
    let next = after w step in
    append_assoc (drained_by w step) (drained_by_all next steps) (after_all next steps).queue
    ∙ ap (λ ws. drained_by w step ++ ws) (steps_in_order next steps)
    ∙ sym (append_assoc (drained_by w step) next.queue (pushed_by_all next steps))
    ∙ ap (λ ws. ws ++ pushed_by_all next steps) (step_in_order w step)
    ∙ append_assoc w.queue (pushed_by w step) (pushed_by_all next steps)

-- how many wakers a sender pushed
abbrev pushed_of : Wake → ℕ → ℕ
pushed_of w s = (sender_of w.senders s).pushed

-- the numbers of the sender's wakers among these run from one count to another
record Grew (ws : List Waker) (s low high : ℕ) : Type 0 where
  rises : low ≤ high
  numbers : numbers_of s ws ≡ numbers_between low high

-- no wakers, and a count that stays
grew_none : (s low high : ℕ) → high ≡ low → Grew [] s low high
grew_none s low high e = record { rises = omega arith; numbers = sym (numbers_between-none low) ∙ ap (numbers_between low) (sym e) }

-- one waker of the sender
grew_one : (s n t high : ℕ) → high ≡ n + 1 → Grew (waker s n t ∷ []) s n high
grew_one s n t high e = record {
  rises = omega arith;
  numbers = ap (map (λ (w : Waker). w.number)) (wakers_of-same s (waker s n t) [] refl)
      ∙ sym (numbers_between-one n)
      ∙ ap (numbers_between n) (sym e);
}

-- one waker of another sender
grew_other : (s u n t low high : ℕ) → u ≢ s → high ≡ low → Grew (waker s n t ∷ []) u low high
grew_other s u n t low high differ e = record {
  rises = omega arith;
  numbers = ap (map (λ (w : Waker). w.number)) (wakers_of-other u (waker s n t) [] (λ f. differ (sym f)))
      ∙ sym (numbers_between-none low)
      ∙ ap (numbers_between low) (sym e);
}

-- two lists joined
grew_more : (ws vs : List Waker) (s low middle high : ℕ) → Grew ws s low middle → Grew vs s middle high → Grew (ws ++ vs) s low high
grew_more ws vs s low middle high first rest =
    let rises = first.rises in
    let goes_on = rest.rises in
    record {
      rises = omega arith;
      numbers = numbers_of-append s ws vs
          ∙ (λ i. first.numbers i ++ rest.numbers i)
          ∙ numbers_between-append low middle high rises goes_on;
    }

-- another stage changes no pushed count
pushed_of-at : (xs : List SenderState) (s : ℕ) (to : SenderStage) (u : ℕ)
    → (sender_of (with_sender xs s (record (sender_of xs s) { stage = to })) u).pushed ≡ (sender_of xs u).pushed
pushed_of-at xs s to =
    each_sender (λ u x. x.pushed ≡ (sender_of xs u).pushed) xs s (record (sender_of xs s) { stage = to }) refl (λ u differ. refl)

-- these wakers are what a sender's pushed count grew by from one state to another
abbrev GrewTo : List Waker → Wake → Wake → ℕ → Type 0
GrewTo ws w next s = Grew ws s (pushed_of w s) (pushed_of next s)

-- a push
grew_push : (w : Wake) (s t u : ℕ) → GrewTo (next_waker w s t ∷ []) w (after_push w s t) u
grew_push w s t u =
    let v = sender_of w.senders s in
    let v' : SenderState = record v { stage = Pushed; pushed = v.pushed + 1 } in
    let next = after_push w s t in
    let Q : ℕ → Type 0 = λ u. GrewTo (next_waker w s t ∷ []) w next u in
    let own = ap (λ (x : SenderState). x.pushed) (sender_of-written w.senders s v') in
    elim (eqb_tells u s) [
      | inl e ↦ subst Q (sym e.1) (grew_one s v.pushed t (pushed_of next s) own)
      | inr e ↦ grew_other s u v.pushed t (pushed_of w u) (pushed_of next u) e.1
          (ap (λ (x : SenderState). x.pushed) (sender_of-other w.senders s u v' e.1))
    ]

-- a drain
grew_drain : (w : Wake) (s : ℕ) (step : Step) → (after w step).senders ≡ (after w DrainRest).senders → pushed_by w step ≡ []
    → GrewTo (pushed_by w step) w (after w step) s
grew_drain w s step drained none =
    let same : pushed_of (after w step) s ≡ pushed_of w s =
    ap (λ xs. (sender_of xs s).pushed) drained ∙ ap (λ (x : SenderState). x.pushed) (sender_of-map w.senders s) in
    subst (λ ws. GrewTo ws w (after w step) s) (sym none) (grew_none s (pushed_of w s) (pushed_of (after w step) s) same)

-- any step
grew_step : (w : Wake) (step : Step) (s : ℕ) → GrewTo (pushed_by w step) w (after w step) s
grew_step w (Push u t) s = grew_push w u t s
grew_step w (ReadFlag u) s = grew_none s (pushed_of w s) _ (pushed_of-at w.senders u _ s)
grew_step w (SetToken u) s = grew_none s (pushed_of w s) _ (pushed_of-at w.senders u _ s)
grew_step w Nudge s = grew_none s (pushed_of w s) _ refl
grew_step w DrainFirst s = grew_drain w s DrainFirst refl refl
grew_step w ClearFlag s = grew_none s (pushed_of w s) _ refl
grew_step w DrainAgain s = grew_drain w s DrainAgain refl refl
grew_step w FallAsleep s = grew_none s (pushed_of w s) _ refl
grew_step w TakeToken s = grew_none s (pushed_of w s) _ refl
grew_step w Rouse s = grew_none s (pushed_of w s) _ refl
grew_step w SetFlag s = grew_none s (pushed_of w s) _ refl
grew_step w DrainRest s = grew_drain w s DrainRest refl refl

-- a list of steps
grew_steps : (w : Wake) (steps : List Step) (s : ℕ) → GrewTo (pushed_by_all w steps) w (after_all w steps) s
grew_steps w [] s = grew_none s (pushed_of w s) (pushed_of w s) refl
grew_steps w (step ∷ steps) s =
    let next = after w step in
    grew_more (pushed_by w step) (pushed_by_all next steps) s (pushed_of w s) (pushed_of next s) (pushed_of (after_all next steps) s)
    (grew_step w step s) (grew_steps next steps s)

-- from a wake-safe state on, what is drained is what waited and was pushed, in that order
pub keeps_order : (w : Wake) (steps : List Step) → WakeSafety w → AdmitsAll w steps → KeepsOrder w steps
keeps_order w steps safe can = record {
  wakers = steps_in_order w steps;
  numbers = λ s.
      (let v = sender_of w.senders s in
      let grew = grew_steps w steps s in
      let run = safe.numbers_run_on s in
      ap (numbers_of s) (steps_in_order w steps)
      ∙ numbers_of-append s w.queue (pushed_by_all w steps)
      ∙ (λ i. run.numbers i ++ grew.numbers i)
      ∙ numbers_between-append v.drained v.pushed (pushed_of (after_all w steps) s) run.within grew.rises);
}

-- from the first state on, each sender's wakers come out once and in order
pub each_waker_once : (steps : List Step) (s : ℕ) → AdmitsAll first_wake steps → EachWakerOnce steps s
each_waker_once steps s can =
    let order = keeps_order first_wake steps safe_first can in
    let given = drained_by_all first_wake steps in
    let left = (after_all first_wake steps).queue in
    record {
      wakers = sym (wakers_of-append s given left) ∙ ap (wakers_of s) order.wakers;
      numbers = sym (numbers_of-append s given left) ∙ order.numbers s;
    }
