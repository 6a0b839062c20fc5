-- What waits, by the entries of a waiting list: what each change of the entries leaves.
use Rattle.std.proofs.Common.{◌≡◌, ◌∙◌, ℕ, suc, zero, Bool, true, false, cond, eqb, not, ◌||◌, Some, None, List, [], ◌∷◌}
use Rattle.std.proofs.Common.{◌++◌, length, get_or, set, take, refl, sym, ap, subst, arith}
use Rattle.std.specs.Prelude.{◌+◌, ◌<◌, filter, map}
use Rattle.std.specs.List.{list_any}
use Rattle.std.proofs.Math.ListN.{length-set}
use Rattle.std.proofs.Common.{length-append}
use Rattle.ready_driver.specs.declared.scheduled_io.Waiter.{Waiter}
use Rattle.ready_driver.specs.declared.scheduled_io.wait_list.Entry.{Entry}
use Rattle.ready_driver.specs.declared.scheduled_io.wait_list.Entry.TheVariants.{Waits, Gap}
use Rattle.ready_driver.specs.ScheduledIo.{waiter_of, kept, is_met, taken, left, tasks_of}
use Rattle.ready_driver.specs.WaitList.{live, is_live, is_taken, is_left, task_of, HasGaps, IsPlace}

-- An operation that doesn't wait is put at the end.
pub kept-new : (ws : List Waiter) (w : Waiter) → waiter_of ws w.serial ≡ None → kept ws w ≡ ws ++ w ∷ []
kept-new [] w none = refl
kept-new (v ∷ ws) w none = by-first (eqb v.serial w.serial) (kept-new ws w) none
  where
    by-first : (b : Bool) → (waiter_of ws w.serial ≡ None → kept ws w ≡ ws ++ w ∷ []) →
        cond b (Some v) (waiter_of ws w.serial) ≡ None → cond b (w ∷ ws) (v ∷ kept ws w) ≡ v ∷ ws ++ w ∷ []
    by-first true later at = (let f : ⊥ = cc in absurd f)
    by-first false later at = ap (λ us. v ∷ us) (later at)

-- One entry more at the end is one operation more.
pub live-joined : (es : List Entry) (w : Waiter) → live (es ++ Waits w ∷ []) ≡ live es ++ w ∷ []
live-joined [] w = refl
live-joined (Waits v ∷ es) w = ap (λ us. v ∷ us) (live-joined es w)
live-joined (Gap n ∷ es) w = live-joined es w

-- So a new operation joins.
pub live_kept : (es ys : List Entry) (w : Waiter) → ys ≡ es ++ Waits w ∷ [] → waiter_of (live es) w.serial ≡ None
    → live ys ≡ kept (live es) w
live_kept es ys w is none = ap live is ∙ live-joined es w ∙ sym (kept-new (live es) w none)

-- Without the gaps the same waits.
live-squeezed : (es : List Entry) → live (filter is_live es) ≡ live es
live-squeezed [] = refl
live-squeezed (Waits v ∷ es) = ap (λ us. v ∷ us) (live-squeezed es)
live-squeezed (Gap n ∷ es) = live-squeezed es

-- So it is of entries that are those without the gaps.
pub live_squeezed : (es ys : List Entry) → ys ≡ filter is_live es → live ys ≡ live es
live_squeezed es ys is = ap live is ∙ live-squeezed es

-- A wake leaves what waits for something else.
live-left : (ready : ℕ) (es : List Entry) → live (filter (is_left ready) es) ≡ left ready (live es)
live-left ready [] = refl
live-left ready (Gap n ∷ es) = live-left ready es
live-left ready (Waits v ∷ es) = by-met (is_met ready v) (live-left ready es)
  where
    by-met : (m : Bool) → live (filter (is_left ready) es) ≡ left ready (live es) →
        live (cond (not m) (Waits v ∷ filter (is_left ready) es) (filter (is_left ready) es)) ≡
        cond (not m) (v ∷ left ready (live es)) (left ready (live es))
    by-met true later = later
    by-met false later = ap (λ us. v ∷ us) later

-- So it is of entries that are those which the bits leave.
pub live_left : (ready : ℕ) (es ys : List Entry) → ys ≡ filter (is_left ready) es → live ys ≡ left ready (live es)
live_left ready es ys is = ap live is ∙ live-left ready es

-- Some operation's direction is met exactly if some entry is taken.
pub any_live : (ready : ℕ) (es : List Entry) → list_any (is_taken ready) es ≡ list_any (is_met ready) (live es)
any_live ready [] = refl
any_live ready (Waits v ∷ es) = ap (λ b. is_met ready v || b) (any_live ready es)
any_live ready (Gap n ∷ es) = any_live ready es

-- The entries that are taken are as many as the operations.
pub taken_count : (ready : ℕ) (es : List Entry) → length (filter (is_taken ready) es) ≡ length (taken ready (live es))
taken_count ready [] = refl
taken_count ready (Gap n ∷ es) = taken_count ready es
taken_count ready (Waits v ∷ es) = by-met (is_met ready v) (taken_count ready es)
  where
    by-met : (m : Bool) → length (filter (is_taken ready) es) ≡ length (taken ready (live es)) →
        length (cond m (Waits v ∷ filter (is_taken ready) es) (filter (is_taken ready) es)) ≡
        length (cond m (v ∷ taken ready (live es)) (taken ready (live es)))
    by-met true later = ap suc later
    by-met false later = later

-- They have the tasks of the operations.
pub taken_tasks : (ready : ℕ) (es : List Entry) → map task_of (filter (is_taken ready) es) ≡ tasks_of (taken ready (live es))
taken_tasks ready [] = refl
taken_tasks ready (Gap n ∷ es) = taken_tasks ready es
taken_tasks ready (Waits v ∷ es) = by-met (is_met ready v) (taken_tasks ready es)
  where
    by-met : (m : Bool) → map task_of (filter (is_taken ready) es) ≡ tasks_of (taken ready (live es)) →
        map task_of (cond m (Waits v ∷ filter (is_taken ready) es) (filter (is_taken ready) es)) ≡
        tasks_of (cond m (v ∷ taken ready (live es)) (taken ready (live es)))
    by-met true later = ap (λ ts. v.task ∷ ts) later
    by-met false later = later

-- Fewer of the first entries are taken than of all, where the next one is.
pub taken_before : (p : Entry → Bool) (es : List Entry) (i : ℕ) (d : Entry) → i < length es → p (get_or es i d) ≡ true →
    length (filter p (take i es)) < length (filter p es)
taken_before p [] i d inside is = absurd (omega (arith, inside))
taken_before p (e ∷ es) zero d inside is =
    subst (λ b. 0 < length (cond b (e ∷ filter p es) (filter p es))) (sym is) (omega arith)
taken_before p (e ∷ es) (suc i) d inside is = by-test (p e) (taken_before p es i d (omega (arith, inside)) is)
  where
    by-test : (b : Bool) → length (filter p (take i es)) < length (filter p es) →
        length (cond b (e ∷ filter p (take i es)) (filter p (take i es))) < length (cond b (e ∷ filter p es) (filter p es))
    by-test true later = omega (arith, later)
    by-test false later = later

-- Where none of the entries that are left is a gap, each is an operation.
counted-live : (p : Entry → Bool) → ((n : ℕ) → p (Gap n) ≡ false) → (es : List Entry) → length (live (filter p es)) ≡ length (filter p es)
counted-live p gone [] = refl
counted-live p gone (Gap n ∷ es) =
    subst (λ b. length (live (cond b (Gap n ∷ filter p es) (filter p es))) ≡ length (cond b (Gap n ∷ filter p es) (filter p es)))
    (sym (gone n)) (counted-live p gone es)
counted-live p gone (Waits v ∷ es) = by-test (p (Waits v)) (counted-live p gone es)
  where
    by-test : (b : Bool) → length (live (filter p es)) ≡ length (filter p es) →
        length (live (cond b (Waits v ∷ filter p es) (filter p es))) ≡
        length (cond b (Waits v ∷ filter p es) (filter p es))
    by-test true later = ap suc later
    by-test false later = later

-- There are no gaps then.
pub counted_filtered : (p : Entry → Bool) → ((n : ℕ) → p (Gap n) ≡ false) → (es ys : List Entry) → ys ≡ filter p es → HasGaps 0 ys
counted_filtered p gone es ys is = subst (HasGaps 0) (sym is) (let all = counted-live p gone es in omega (arith, all))

-- One entry more that is no gap leaves the gaps.
pub counted_joined : (gaps : ℕ) (es ys : List Entry) (w : Waiter) → ys ≡ es ++ Waits w ∷ [] → HasGaps gaps es → HasGaps gaps ys
counted_joined gaps es ys w is counted = subst (HasGaps gaps) (sym is) (
    let more = length-append (live es) (w ∷ []) in
    let all = length-append es (Waits w ∷ []) in
    let lives = ap length (live-joined es w) in
    omega (arith, more, all, lives, counted))

-- A gap in place of an operation is one gap more.
pub gap-set : (es : List Entry) (i n : ℕ) (w : Waiter) → i < length es → get_or es i (Gap n) ≡ Waits w →
    suc (length (live (set es i (Gap n)))) ≡ length (live es)
gap-set [] i n w inside is = absurd (omega (arith, inside))
gap-set (e ∷ es) zero n w inside is = subst (λ x. suc (length (live es)) ≡ length (live (x ∷ es))) (sym is) refl
gap-set (Waits v ∷ es) (suc i) n w inside is = ap suc (gap-set es i n w (omega (arith, inside)) is)
gap-set (Gap m ∷ es) (suc i) n w inside is = gap-set es i n w (omega (arith, inside)) is

-- An operation in place of an operation leaves the gaps.
pub waits-set : (es : List Entry) (i : ℕ) (v w : Waiter) → i < length es → get_or es i (Waits v) ≡ Waits w →
    length (live (set es i (Waits v))) ≡ length (live es)
waits-set [] i v w inside is = absurd (omega (arith, inside))
waits-set (e ∷ es) zero v w inside is = subst (λ x. suc (length (live es)) ≡ length (live (x ∷ es))) (sym is) refl
waits-set (Waits u ∷ es) (suc i) v w inside is = ap suc (waits-set es i v w (omega (arith, inside)) is)
waits-set (Gap m ∷ es) (suc i) v w inside is = waits-set es i v w (omega (arith, inside)) is

-- So the gaps are counted once one is left at an operation's place.
pub counted_gap : (gaps : ℕ) (es ys : List Entry) (n i : ℕ) (w : Waiter) → ys ≡ set es i (Gap n) → IsPlace es n i w → HasGaps gaps es →
    HasGaps (gaps + 1) ys
counted_gap gaps es ys n i w is there counted = subst (HasGaps (gaps + 1)) (sym is) (
    let one = gap-set es i n w there.within (there.is (Gap n)) in
    let all : length (set es i (Gap n)) ≡ length es = length-set es i (Gap n) in
    omega (arith, one, all, counted))

-- And once an operation's entry is renewed at its place.
pub counted_renewed : (gaps : ℕ) (es ys : List Entry) (n i : ℕ) (v w : Waiter) → ys ≡ set es i (Waits v) → IsPlace es n i w →
    HasGaps gaps es → HasGaps gaps ys
counted_renewed gaps es ys n i v w is there counted = subst (HasGaps gaps) (sym is) (
    let one = waits-set es i v w there.within (there.is (Waits v)) in
    let all : length (set es i (Waits v)) ≡ length es = length-set es i (Waits v) in
    omega (arith, one, all, counted))
