-- Each step that may be made keeps wake safety.
use Rattle.std.proofs.Common.{◌≡◌, ℕ, ◌+◌, ◌<◌, ◌≤◌, List, [], ◌∷◌, ◌++◌, length, map, All, Bool, true, false, refl, sym, ap, ◌∙◌, subst}
use Rattle.std.proofs.Common.{arith, inl, inr}
use Rattle.std.specs.Prelude.{◌&&◌, if◌then◌else◌, ◌⊎◌}
use Rattle.std.proofs.lemmas.Bool.Decides.{eqb_tells}
use Rattle.std.proofs.lemmas.List.Elements.{All-nil, All-cons, All-append}
use Rattle.wake_core.specs.declared.senders.SenderStage.{SenderStage}
use Rattle.wake_core.specs.declared.senders.SenderStage.TheVariants.{Idle, Pushed, Called}
use Rattle.wake_core.specs.declared.sleeper.SleeperStage.{SleeperStage}
use Rattle.wake_core.specs.declared.sleeper.SleeperStage.TheVariants.{Awake, First, Cleared, Second, Asleep, Up}
use Rattle.wake_core.specs.declared.state.TheConstants.{MAX_PUSHED, MAX_SENDERS}
use Rattle.wake_core.specs.declared.waker.Waker.{Waker}
use Rattle.wake_core.specs.SenderState.{SenderState, all_drained}
use Rattle.wake_core.specs.SenderTable.{sender_of, with_sender}
use Rattle.wake_core.specs.Waker.{waker}
use Rattle.wake_core.specs.WakerList.{is_empty, wakers_of}
use Rattle.wake_core.specs.WakeSafety.{FlagFits, MaySleep, IsMidSend, AreMidSend, RunsOn, IsWithinLimits, IsBooked, WakeSafety}
use Rattle.wake_core.specs.WakeState.{Wake, CanPush, next_waker, after_push, after_read_flag, after_set_token, after_nudge}
use Rattle.wake_core.specs.WakeState.{after_drain_rest, at_stage, after_drain_first, after_clear_flag, first_gave_nothing}
use Rattle.wake_core.specs.WakeState.{after_drain_again, after_fall_asleep, after_take_token, after_rouse, after_set_flag}
use Rattle.wake_core.proofs.NumberLemmas.{numbers_between-push, numbers_between-none, wakers_of-push_same, wakers_of-push_other}
use Rattle.wake_core.proofs.NumberLemmas.{numbers_of-push_same, numbers_of-push_other, wakers_of-idle, level_of_runs}
use Rattle.wake_core.proofs.TableLemmas.{sender_of-written, each_sender, sum_by-with_sender, sender_of-map, total_drained-map}
use Rattle.wake_core.proofs.TableLemmas.{total_pushed-map}

-- the waker names a sender below the limit
abbrev IsNumbered : Waker → Type 0
IsNumbered w = w.sender < MAX_SENDERS

-- a sender that is mid-send stays so where another is written, or where it is written mid-send
kept_mid_send : (xs : List SenderState) (s : ℕ) (v : SenderState) → IsMidSend v.stage
    → (u : ℕ) → IsMidSend (sender_of xs u).stage → IsMidSend (sender_of (with_sender xs s v) u).stage
kept_mid_send xs s v to =
    each_sender (λ u x. IsMidSend (sender_of xs u).stage → IsMidSend x.stage) xs s v (λ was. to) (λ u differ was. was)

-- one waker more, that names a sender below the limit
numbered_push : (q : List Waker) (w : Waker) → All IsNumbered q → IsNumbered w → All IsNumbered (q ++ w ∷ [])
numbered_push q w each here = All-append IsNumbered q (w ∷ []) each (All-cons IsNumbered w [] here (All-nil IsNumbered))

-- after a push the numbers of the sender run on
runs_push : (q : List Waker) (s t : ℕ) (to : SenderStage) (v : SenderState) → RunsOn q s v
    → RunsOn (q ++ waker s v.pushed t ∷ []) s (record v { stage = to; pushed = v.pushed + 1 })
runs_push q s t to v run =
    let within = run.within in
    record {
      within = omega arith;
      numbers = numbers_of-push_same s v.pushed t q
          ∙ ap (λ ns. ns ++ v.pushed ∷ []) run.numbers
          ∙ numbers_between-push v.drained v.pushed within;
    }

-- after a push of an idle sender each sender in the queue is mid-send, if each was
mid_send_push : (q : List Waker) (xs : List SenderState) (s n t : ℕ) (v : SenderState)
    → AreMidSend q xs → (sender_of xs s).stage ≡ Idle → v.stage ≡ Pushed
    → AreMidSend (q ++ waker s n t ∷ []) (with_sender xs s v)
mid_send_push q xs s n t v are idle to =
    let added = waker s n t in
    let ys = with_sender xs s v in
    let P : Waker → Type 0 = λ (w : Waker). IsMidSend (sender_of ys w.sender).stage in
    let pushed : IsMidSend v.stage = subst IsMidSend (sym to) tt in
    let here : P added = subst (λ (x : SenderState). IsMidSend x.stage) (sym (sender_of-written xs s v)) pushed in
    let alone : wakers_of s (q ++ added ∷ []) ≡ added ∷ [] =
    wakers_of-push_same s n t q ∙ ap (λ ws. ws ++ added ∷ []) (wakers_of-idle q xs s are.each idle) in
    let one : length (wakers_of s (q ++ added ∷ [])) ≡ 1 = ap length alone in
    record {
      each = All-append P q (added ∷ [])
          (λ k d below. kept_mid_send xs s v pushed _ (are.each k d below))
          (All-cons P added [] here (All-nil P));
      none_twice = λ u. elim (eqb_tells u s) [
        | inl e ↦ (let Q : ℕ → Type 0 = λ u. length (wakers_of u (q ++ added ∷ [])) ≤ 1 in subst Q (sym e.1) (omega (arith, one)))
        | inr e ↦ rw (wakers_of-push_other s u n t q e.1) (are.none_twice u)
      ];
    }

-- a push keeps wake safety
pub safe_push : (w : Wake) (s t : ℕ) → WakeSafety w → CanPush w s → WakeSafety (after_push w s t)
safe_push w s t safe can =
    let v = sender_of w.senders s in
    let v' : SenderState = record v { stage = Pushed; pushed = v.pushed + 1 } in
    let pushes = sum_by-with_sender (λ (x : SenderState). x.pushed) w.senders s v' refl in
    let drains = sum_by-with_sender (λ (x : SenderState). x.drained) w.senders s v' refl in
    let q' = w.queue ++ next_waker w s t ∷ [] in
    record {
      flag_fits = safe.flag_fits;
      none_slept_over = λ asleep unset.
          mid_send_push w.queue w.senders s v.pushed t v' (safe.none_slept_over asleep unset) can.idle refl;
      numbers_run_on = each_sender (RunsOn q') w.senders s v' (runs_push w.queue s t Pushed v (safe.numbers_run_on s))
          (λ u differ. (let run = safe.numbers_run_on u in
          record { within = run.within; numbers = numbers_of-push_other s u v.pushed t w.queue differ ∙ run.numbers }));
      within_limits = record {
        numbered = numbered_push w.queue (next_waker w s t) safe.within_limits.numbered can.numbered;
        counted = each_sender (λ u x. x.pushed ≤ MAX_PUSHED) w.senders s v'
            (let room = can.room in omega arith)
            (λ u differ. safe.within_limits.counted u);
      };
      booked = record {
        all_pushes = omega (arith, pushes, safe.booked.all_pushes);
        all_drains = omega (arith, drains, safe.booked.all_drains);
      };
    }

-- a sender goes to another stage
module _ (xs : List SenderState) (s : ℕ) (to : SenderStage) where
  -- the sender at that stage
  abbrev moved : SenderState
  moved = record (sender_of xs s) { stage = to }

  -- the numbers run on
  runs_at : (q : List Waker) → ((u : ℕ) → RunsOn q u (sender_of xs u)) → (u : ℕ) → RunsOn q u (sender_of (with_sender xs s moved) u)
  runs_at q runs = each_sender (RunsOn q) xs s moved
      (let run = runs s in record { within = run.within; numbers = run.numbers })
      (λ u differ. runs u)

  -- all is within the limits
  limits_at : (q : List Waker) → IsWithinLimits q xs → IsWithinLimits q (with_sender xs s moved)
  limits_at q limits = record {
    numbered = limits.numbered;
    counted = each_sender (λ u x. x.pushed ≤ MAX_PUSHED) xs s moved (limits.counted s) (λ u differ. limits.counted u);
  }

  -- the totals are booked
  booked_at : (p d : ℕ) → IsBooked xs p d → IsBooked (with_sender xs s moved) p d
  booked_at p d booked =
      let pushes = sum_by-with_sender (λ (x : SenderState). x.pushed) xs s moved refl in
      let drains = sum_by-with_sender (λ (x : SenderState). x.drained) xs s moved refl in
      record { all_pushes = omega (arith, pushes, booked.all_pushes); all_drains = omega (arith, drains, booked.all_drains) }

-- where the sleeper may sleep the flag is false
unflagged : (stage : SleeperStage) (flag : Bool) → FlagFits stage flag → MaySleep stage → flag ≡ false
unflagged Awake flag fits asleep = absurd asleep
unflagged (First e) flag fits asleep = absurd asleep
unflagged Cleared flag fits asleep = absurd asleep
unflagged (Second true) flag fits asleep = fits
unflagged (Second false) flag fits asleep = absurd asleep
unflagged Asleep flag fits asleep = fits
unflagged Up flag fits asleep = absurd asleep

-- reading the flag keeps wake safety
pub safe_read_flag : (w : Wake) (s : ℕ) → WakeSafety w → WakeSafety (after_read_flag w s)
safe_read_flag w s safe =
    let to : SenderStage = if w.flag then Idle else Called in
    let v' : SenderState = record (sender_of w.senders s) { stage = to } in
    record {
      flag_fits = safe.flag_fits;
      none_slept_over = λ asleep unset.
          (let called : to ≡ Called = ap (λ (b : Bool). if b then Idle else Called) (unflagged w.stage w.flag safe.flag_fits asleep) in
          let are = safe.none_slept_over asleep unset in
          record {
            each = λ k d below. kept_mid_send w.senders s v' (subst IsMidSend (sym called) tt) _ (are.each k d below);
            none_twice = are.none_twice;
          });
      numbers_run_on = runs_at w.senders s to w.queue safe.numbers_run_on;
      within_limits = limits_at w.senders s to w.queue safe.within_limits;
      booked = booked_at w.senders s to w.pushes w.drains safe.booked;
    }

-- so does setting the token
pub safe_set_token : (w : Wake) (s : ℕ) → WakeSafety w → WakeSafety (after_set_token w s)
safe_set_token w s safe = record {
  flag_fits = safe.flag_fits;
  none_slept_over = λ asleep unset. absurd (cc);
  numbers_run_on = runs_at w.senders s Idle w.queue safe.numbers_run_on;
  within_limits = limits_at w.senders s Idle w.queue safe.within_limits;
  booked = booked_at w.senders s Idle w.pushes w.drains safe.booked;
}

-- a nudge leaves the token unset only where it was
unset_before : (flag token : Bool) → (if flag then token else true) ≡ false → token ≡ false
unset_before true token unset = unset
unset_before false token unset = cc

-- so does a nudge
pub safe_nudge : (w : Wake) → WakeSafety w → WakeSafety (after_nudge w)
safe_nudge w safe = record {
  flag_fits = safe.flag_fits;
  none_slept_over = λ asleep unset. safe.none_slept_over asleep (unset_before w.flag w.token unset);
  numbers_run_on = safe.numbers_run_on;
  within_limits = safe.within_limits;
  booked = safe.booked;
}

-- the flag and the sleeper's stage change, and the sleeper may not sleep then
safe_awake : (w : Wake) (flag token : Bool) (to : SleeperStage) → WakeSafety w → FlagFits to flag → (MaySleep to → ⊥)
    → WakeSafety (record w { flag = flag; token = token; stage = to })
safe_awake w flag token to safe fits awake = record {
  flag_fits = fits;
  none_slept_over = λ asleep unset. absurd (awake asleep);
  numbers_run_on = safe.numbers_run_on;
  within_limits = safe.within_limits;
  booked = safe.booked;
}

-- a drain, and a stage that the flag fits
pub safe_drain : (w : Wake) (to : SleeperStage) → WakeSafety w → FlagFits to w.flag → WakeSafety (at_stage (after_drain_rest w) to)
safe_drain w to safe fits =
    let numbered : All IsNumbered [] = All-nil IsNumbered in
    record {
      flag_fits = fits;
      none_slept_over = λ asleep unset. record {
        each = All-nil (λ (x : Waker). IsMidSend (sender_of (map all_drained w.senders) x.sender).stage);
        none_twice = λ u. omega arith;
      };
      numbers_run_on = λ u. subst (λ (x : SenderState). RunsOn [] u x) (sym (sender_of-map w.senders u))
          (record { within = omega arith; numbers = sym (numbers_between-none (sender_of w.senders u).pushed) });
      within_limits = record { numbered = numbered; counted = λ u. rw (sender_of-map w.senders u) (safe.within_limits.counted u) };
      booked = record {
        all_pushes = omega (arith, total_pushed-map w.senders, safe.booked.all_pushes);
        all_drains =
            omega (arith, total_drained-map w.senders, safe.booked.all_drains, level_of_runs w.queue w.senders safe.numbers_run_on);
      };
    }

-- the first drain of a round keeps wake safety
pub safe_drain_first : (w : Wake) → WakeSafety w → w.stage ≡ Awake → WakeSafety (after_drain_first w)
safe_drain_first w safe at =
    safe_drain w (First (is_empty w.queue)) safe (subst (λ (st : SleeperStage). FlagFits st w.flag) at safe.flag_fits)

-- so does clearing the flag
pub safe_clear_flag : (w : Wake) → WakeSafety w → WakeSafety (after_clear_flag w)
safe_clear_flag w safe = safe_awake w false w.token Cleared safe refl (λ asleep. asleep)

-- the flag fits the stage after a second drain
fits_again : (stage : SleeperStage) (flag empty : Bool) → FlagFits stage flag → (stage ≡ First false) ⊎ (stage ≡ Cleared)
    → FlagFits (Second (first_gave_nothing stage && empty)) flag
fits_again Awake flag empty fits at = tt
fits_again (First true) flag empty fits at = elim at [ inl e ↦ absurd (cc) | inr e ↦ absurd (cc) ]
fits_again (First false) flag empty fits at = tt
fits_again Cleared flag true fits at = fits
fits_again Cleared flag false fits at = tt
fits_again (Second e) flag empty fits at = tt
fits_again Asleep flag empty fits at = tt
fits_again Up flag empty fits at = tt

-- the second drain of a round keeps wake safety
pub safe_drain_again : (w : Wake) → WakeSafety w → (w.stage ≡ First false) ⊎ (w.stage ≡ Cleared) → WakeSafety (after_drain_again w)
safe_drain_again w safe at =
    let fits = fits_again w.stage w.flag (is_empty w.queue) safe.flag_fits at in
    safe_drain w (Second (first_gave_nothing w.stage && is_empty w.queue)) safe fits

-- so does falling asleep
pub safe_fall_asleep : (w : Wake) → WakeSafety w → w.stage ≡ Second true → WakeSafety (after_fall_asleep w)
safe_fall_asleep w safe at = record {
  flag_fits = subst (λ (st : SleeperStage). FlagFits st w.flag) at safe.flag_fits;
  none_slept_over = λ asleep unset. safe.none_slept_over (subst MaySleep (sym at) tt) unset;
  numbers_run_on = safe.numbers_run_on;
  within_limits = safe.within_limits;
  booked = safe.booked;
}

-- the flag is false where the sleeper sleeps
unflagged_asleep : (w : Wake) → WakeSafety w → w.stage ≡ Asleep → w.flag ≡ false
unflagged_asleep w safe at = subst (λ (st : SleeperStage). FlagFits st w.flag) at safe.flag_fits

-- a token that is taken, or isn't set
taken : (q : List Waker) (xs : List SenderState) (token : Bool) (stage : SleeperStage)
    → (MaySleep stage → token ≡ false → AreMidSend q xs) → MaySleep (if token then Up else stage) → AreMidSend q xs
taken q xs true stage told asleep = absurd asleep
taken q xs false stage told asleep = told asleep refl

-- the flag fits the stage after a token was taken, or not
fits_taken : (flag token : Bool) (stage : SleeperStage) → FlagFits stage flag → stage ≡ Asleep
    → FlagFits (if token then Up else stage) flag
fits_taken flag true stage fits at = subst (λ (st : SleeperStage). FlagFits st flag) at fits
fits_taken flag false stage fits at = fits

-- taking the token keeps wake safety
pub safe_take_token : (w : Wake) → WakeSafety w → w.stage ≡ Asleep → WakeSafety (after_take_token w)
safe_take_token w safe at = record {
  flag_fits = fits_taken w.flag w.token w.stage safe.flag_fits at;
  none_slept_over = λ asleep unset. taken w.queue w.senders w.token w.stage safe.none_slept_over asleep;
  numbers_run_on = safe.numbers_run_on;
  within_limits = safe.within_limits;
  booked = safe.booked;
}

-- so does rousing the sleeper
pub safe_rouse : (w : Wake) → WakeSafety w → w.stage ≡ Asleep → WakeSafety (after_rouse w)
safe_rouse w safe at = safe_awake w w.flag w.token Up safe (unflagged_asleep w safe at) (λ asleep. asleep)

-- so does setting the flag
pub safe_set_flag : (w : Wake) → WakeSafety w → WakeSafety (after_set_flag w)
safe_set_flag w safe = safe_awake w true w.token Awake safe refl (λ asleep. asleep)
