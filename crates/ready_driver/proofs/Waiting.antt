-- What waits on a handle, by operation: what each change leaves of each entry.
use Rattle.std.proofs.Common.{◌≡◌, ◌≢◌, ◌∙◌, ◌++◌, ℕ, Bool, true, false, cond, eqb, Option, Some, None, List, [], ◌∷◌}
use Rattle.std.proofs.Common.{refl, sym, ap, subst, inl, inr, eq-eqb, arith}
use Rattle.std.specs.Prelude.{◌≤◌, IsTrue, IfSome, Contains, filter, length, ◌||◌, not}
use Rattle.std.specs.List.{list_any}
use Rattle.std.proofs.lemmas.List.Filters.{length-filter_both}
use Rattle.std.proofs.Math.Nat.{zero-lt-suc}
use Rattle.std.proofs.lemmas.Bool.{ne_eqb}
use Rattle.std.proofs.lemmas.Bool.Decides.{eqb_tells}
use Rattle.std.proofs.lemmas.List.Elements.{Contains-append_right}
use Rattle.ready_driver.specs.declared.scheduled_io.Waiter.{Waiter}
use Rattle.ready_driver.specs.ScheduledIo.{waiter_of, kept, forgotten, is_met, taken, left, tasks_of, unless_met, IsOnceEach, ChangesOnly}

-- The first entry, of this operation, is what is found.
found-first : (w : Waiter) (ws : List Waiter) (n : ℕ) → eqb w.serial n ≡ true → waiter_of (w ∷ ws) n ≡ Some w
found-first w ws n is = ap (λ b. cond b (Some w) (waiter_of ws n)) is

-- The first entry, of another operation, isn't looked at.
found-later : (w : Waiter) (ws : List Waiter) (n : ℕ) → eqb w.serial n ≡ false → waiter_of (w ∷ ws) n ≡ waiter_of ws n
found-later w ws n is = ap (λ b. cond b (Some w) (waiter_of ws n)) is

-- An operation that was put among those that wait has that entry.
pub kept-own : (ws : List Waiter) (e : Waiter) → waiter_of (kept ws e) e.serial ≡ Some e
kept-own [] e = found-first e [] e.serial (eq-eqb e.serial e.serial refl)
kept-own (w ∷ ws) e = by-first (eqb w.serial e.serial) refl (kept-own ws e)
  where
    by-first : (b : Bool) → eqb w.serial e.serial ≡ b → waiter_of (kept ws e) e.serial ≡ Some e
        → waiter_of (cond b (e ∷ ws) (w ∷ kept ws e)) e.serial ≡ Some e
    by-first true is later = found-first e ws e.serial (eq-eqb e.serial e.serial refl)
    by-first false is later = found-later w (kept ws e) e.serial is ∙ later

-- Each other operation has the entry that it had.
pub kept-others : (ws : List Waiter) (e : Waiter) (n : ℕ) → n ≢ e.serial → waiter_of (kept ws e) n ≡ waiter_of ws n
kept-others [] e n other = found-later e [] n (ne_eqb e.serial n (λ same. other (sym same)))
kept-others (w ∷ ws) e n other = elim (eqb_tells w.serial e.serial) [
  | inl same ↦
      ap (λ b. waiter_of (cond b (e ∷ ws) (w ∷ kept ws e)) n) same.0
      ∙ found-later e ws n (ne_eqb e.serial n (λ is. other (sym is)))
      ∙ sym (found-later w ws n (ne_eqb w.serial n (λ is. other (sym is ∙ same.1))))
  | inr apart ↦
      ap (λ b. waiter_of (cond b (e ∷ ws) (w ∷ kept ws e)) n) apart.0
      ∙ ap (λ o. cond (eqb w.serial n) (Some w) o) (kept-others ws e n other)
]

-- Only the entry of this operation changed.
pub kept_changes : (ws ys : List Waiter) (e : Waiter) (n : ℕ) → ys ≡ kept ws e → n ≡ e.serial → ChangesOnly ws ys n (Some e)
kept_changes ws ys e n is own = rw (is, own) (record { own = kept-own ws e; others = λ m other. kept-others ws e m other })

-- An operation that doesn't wait doesn't among some of those that wait.
pub none-filtered : (p : Waiter → Bool) (ws : List Waiter) (n : ℕ) → waiter_of ws n ≡ None → waiter_of (filter p ws) n ≡ None
none-filtered p [] n none = refl
none-filtered p (w ∷ ws) n none = elim (eqb_tells w.serial n) [
  | inl same ↦ absurd (let here = found-first w ws n same.0 in cc)
  | inr apart ↦ by-test (p w) apart.0 (none-filtered p ws n (sym (found-later w ws n apart.0) ∙ none))
]
  where
    by-test : (b : Bool) → eqb w.serial n ≡ false → waiter_of (filter p ws) n ≡ None
        → waiter_of (cond b (w ∷ filter p ws) (filter p ws)) n ≡ None
    by-test true is later = found-later w (filter p ws) n is ∙ later
    by-test false is later = later

-- Among some of those that wait none waits twice.
pub once-filtered : (p : Waiter → Bool) (ws : List Waiter) → IsOnceEach ws → IsOnceEach (filter p ws)
once-filtered p [] once = once
once-filtered p (w ∷ ws) once = by-test (p w) (once-filtered p ws once.1)
  where
    by-test : (b : Bool) → IsOnceEach (filter p ws) → IsOnceEach (cond b (w ∷ filter p ws) (filter p ws))
    by-test true later = (none-filtered p ws w.serial once.0, later)
    by-test false later = later

-- None waits twice once an operation was put among those that wait.
pub once-kept : (ws : List Waiter) (e : Waiter) → IsOnceEach ws → IsOnceEach (kept ws e)
once-kept [] e once = (refl, tt)
once-kept (w ∷ ws) e once = elim (eqb_tells w.serial e.serial) [
  | inl same ↦
      subst (λ b. IsOnceEach (cond b (e ∷ ws) (w ∷ kept ws e))) (sym same.0)
      (subst (λ n. waiter_of ws n ≡ None) same.1 once.0, once.1)
  | inr apart ↦
      subst (λ b. IsOnceEach (cond b (e ∷ ws) (w ∷ kept ws e))) (sym apart.0)
      (kept-others ws e w.serial apart.1 ∙ once.0, once-kept ws e once.1)
]

-- An operation that was forgotten doesn't wait.
pub forgotten-own : (ws : List Waiter) (n : ℕ) → waiter_of (forgotten ws n) n ≡ None
forgotten-own [] n = refl
forgotten-own (w ∷ ws) n = by-first (eqb w.serial n) refl (forgotten-own ws n)
  where
    by-first : (b : Bool) → eqb w.serial n ≡ b → waiter_of (forgotten ws n) n ≡ None
        → waiter_of (cond (not b) (w ∷ forgotten ws n) (forgotten ws n)) n ≡ None
    by-first true is later = later
    by-first false is later = found-later w (forgotten ws n) n is ∙ later

-- Each other operation waits as it did.
pub forgotten-others : (ws : List Waiter) (n m : ℕ) → m ≢ n → waiter_of (forgotten ws n) m ≡ waiter_of ws m
forgotten-others [] n m other = refl
forgotten-others (w ∷ ws) n m other = elim (eqb_tells w.serial n) [
  | inl same ↦
      ap (λ b. waiter_of (cond (not b) (w ∷ forgotten ws n) (forgotten ws n)) m) same.0
      ∙ forgotten-others ws n m other
      ∙ sym (found-later w ws m (ne_eqb w.serial m (λ is. other (sym is ∙ same.1))))
  | inr apart ↦
      ap (λ b. waiter_of (cond (not b) (w ∷ forgotten ws n) (forgotten ws n)) m) apart.0
      ∙ ap (λ o. cond (eqb w.serial m) (Some w) o) (forgotten-others ws n m other)
]

-- Only the entry of this operation went.
pub forgotten_changes : (ws ys : List Waiter) (n : ℕ) → ys ≡ forgotten ws n → ChangesOnly ws ys n None
forgotten_changes ws ys n is = rw is (record { own = forgotten-own ws n; others = λ m other. forgotten-others ws n m other })

-- An operation that doesn't wait is not there to be forgotten.
pub forgotten-none : (ws : List Waiter) (n : ℕ) → waiter_of ws n ≡ None → forgotten ws n ≡ ws
forgotten-none [] n none = refl
forgotten-none (w ∷ ws) n none = elim (eqb_tells w.serial n) [
  | inl same ↦ absurd (let here = found-first w ws n same.0 in cc)
  | inr apart ↦
      ap (λ b. cond (not b) (w ∷ forgotten ws n) (forgotten ws n)) apart.0
      ∙ ap (λ ys. w ∷ ys) (forgotten-none ws n (sym (found-later w ws n apart.0) ∙ none))
]

-- A set of bits leaves of each operation that waits what the definition says.
pub left_each : (ready : ℕ) (ws : List Waiter) (n : ℕ) → IsOnceEach ws
    → waiter_of (left ready ws) n ≡ unless_met ready (waiter_of ws n)
left_each ready [] n once = refl
left_each ready (w ∷ ws) n once = elim (eqb_tells w.serial n) [
  | inl same ↦
      by-own (is_met ready w) same.0 (none-filtered (λ v. not (is_met ready v)) ws n (subst (λ m. waiter_of ws m ≡ None) same.1 once.0))
      ∙ ap (unless_met ready) (sym (found-first w ws n same.0))
  | inr apart ↦
      by-other (is_met ready w) apart.0 ∙ left_each ready ws n once.1 ∙ ap (unless_met ready) (sym (found-later w ws n apart.0))
]
  where
    by-own : (m : Bool) → eqb w.serial n ≡ true → waiter_of (left ready ws) n ≡ None
        → waiter_of (cond (not m) (w ∷ left ready ws) (left ready ws)) n ≡ cond m None (Some w)
    by-own true is none = none
    by-own false is none = found-first w (left ready ws) n is

    by-other : (m : Bool) → eqb w.serial n ≡ false
        → waiter_of (cond (not m) (w ∷ left ready ws) (left ready ws)) n ≡ waiter_of (left ready ws) n
    by-other true is = refl
    by-other false is = found-later w (left ready ws) n is

-- The task of each operation whose direction is met is among those that are taken.
abbrev pub IsNamed : ℕ → List Waiter → Option Waiter → Type 0
IsNamed ready ws o = IfSome o (λ v. IsTrue (is_met ready v) → Contains (tasks_of (taken ready ws)) v.task)

-- A longer list names more.
named-later : (ready : ℕ) (w : Waiter) (ws : List Waiter) (o : Option Waiter) → IsNamed ready ws o → IsNamed ready (w ∷ ws) o
named-later ready w ws None named = named
named-later ready w ws (Some v) named = λ met. by-first (is_met ready w) (named met)
  where
    by-first : (m : Bool) → Contains (tasks_of (taken ready ws)) v.task
        → Contains (tasks_of (cond m (w ∷ taken ready ws) (taken ready ws))) v.task
    by-first true later = Contains-append_right (w.task ∷ []) (tasks_of (taken ready ws)) v.task later
    by-first false later = later

-- An operation's task is named if its direction is met.
pub taken_named : (ready : ℕ) (ws : List Waiter) (n : ℕ) → IsNamed ready ws (waiter_of ws n)
taken_named ready [] n = tt
taken_named ready (w ∷ ws) n = elim (eqb_tells w.serial n) [
  | inl same ↦
      subst (IsNamed ready (w ∷ ws)) (sym (found-first w ws n same.0))
      (λ met. subst (λ b. Contains (tasks_of (cond b (w ∷ taken ready ws) (taken ready ws))) w.task) (sym met) (0, zero-lt-suc _, refl))
  | inr apart ↦
      subst (IsNamed ready (w ∷ ws)) (sym (found-later w ws n apart.0)) (named-later ready w ws (waiter_of ws n) (taken_named ready ws n))
]

-- So it is among the tasks of a list that these were added to.
pub named_added : (ready : ℕ) (ws : List Waiter) (front tasks : List ℕ) → tasks ≡ front ++ tasks_of (taken ready ws) →
    (n : ℕ) → IfSome (waiter_of ws n) (λ w. IsTrue (is_met ready w) → Contains tasks w.task)
named_added ready ws front tasks is n = by-find (waiter_of ws n) (taken_named ready ws n)
  where
    by-find : (o : Option Waiter) → IsNamed ready ws o → IfSome o (λ w. IsTrue (is_met ready w) → Contains tasks w.task)
    by-find None named = tt
    by-find (Some w) named = λ met.
        subst (λ ts. Contains ts w.task) (sym is) (Contains-append_right front (tasks_of (taken ready ws)) w.task (named met))

-- A set of bits that meets nobody takes nothing, and leaves everything.
pub none_met : (ready : ℕ) (ws : List Waiter) → list_any (is_met ready) ws ≡ false → (taken ready ws ≡ []) × (left ready ws ≡ ws)
none_met ready [] none = (refl, refl)
none_met ready (w ∷ ws) none = by-test (is_met ready w) none (none_met ready ws)
  where
    by-test : (m : Bool) → (m || list_any (is_met ready) ws) ≡ false
        → (list_any (is_met ready) ws ≡ false → (taken ready ws ≡ []) × (left ready ws ≡ ws))
        → (cond m (w ∷ taken ready ws) (taken ready ws) ≡ []) × (cond (not m) (w ∷ left ready ws) (left ready ws) ≡ w ∷ ws)
    by-test true any later = absurd (cc)
    by-test false any later = ((later any).0, ap (λ ys. w ∷ ys) (later any).1)

-- A filter keeps no more than there is.
pub filtered-fits : (p : Waiter → Bool) (ws : List Waiter) → length (filter p ws) ≤ length ws
filtered-fits p ws = let both = length-filter_both p (λ w. not (p w)) (λ w. refl) ws in omega arith
