-- The replies and the session along a run.
use Rattle.std.proofs.Common.{◌≡◌, ◌≤◌, ℕ, zero, suc, List, [], ◌∷◌, ◌++◌, length, take, drop, Some, refl, sym, ◌∙◌, ap}
use Rattle.std.proofs.Common.{append_assoc, subst, arith}
use Rattle.std.specs.Prelude.{slice_get}
use Rattle.machine.specs.declared.ledger.Event.{Event}
use Rattle.machine.specs.declared.ledger.Reply.{Reply}
use Rattle.machine.specs.Ledger.{Ledger, empty}
use Rattle.machine.specs.Step.{step}
use Rattle.machine.specs.Run.{after, replies}
use Rattle.machine.proofs.Appended.{drop-suc}
use Rattle.run_laws.proofs.Replies.{after-next}

-- The ledger after one event more.
pub after-one_more : (L : Ledger) (events : List Event) (k n : ℕ) (event : Event) → n ≡ suc k → slice_get events k ≡ Some event →
    after L (take n events) ≡ (step (after L (take k events)) event).0
after-one_more L events k n event is there = ap (λ m. after L (take m events)) is ∙ after-next L events k event there

-- One more reply: those so far, then those to what is left, are still the replies to all.
pub replies-one_more : (L : Ledger) (events : List Event) (k n : ℕ) (event : Event) (before now all : List Reply) (reply : Reply) →
    n ≡ suc k → slice_get events k ≡ Some event → (step (after L (take k events)) event).1 ≡ reply → now ≡ before ++ reply ∷ [] →
    before ++ replies (after L (take k events)) (drop k events) ≡ all → now ++ replies (after L (take n events)) (drop n events) ≡ all
replies-one_more L events k n event before now all reply next there is joined so_far =
    ap (λ xs. xs ++ replies (after L (take n events)) (drop n events)) joined
    ∙ append_assoc before (reply ∷ []) (replies (after L (take n events)) (drop n events))
    ∙ ap (λ M. before ++ reply ∷ replies M (drop n events)) (after-one_more L events k n event next there)
    ∙ ap (λ m. before ++ reply ∷ replies (step (after L (take k events)) event).0 (drop m events)) next
    ∙ ap (λ r. before ++ r ∷ replies (step (after L (take k events)) event).0 (drop (suc k) events)) (sym is)
    ∙ ap (λ rest. before ++ replies (after L (take k events)) rest) (sym (drop-suc events k event there))
    ∙ so_far

-- Past the end nothing is left.
pub drop-past : {A : Type 0} (xs : List A) (k : ℕ) → length xs ≤ k → drop k xs ≡ []
drop-past [] zero past = refl
drop-past [] (suc k) past = refl
drop-past (x ∷ xs) zero past = absurd (omega arith)
drop-past (x ∷ xs) (suc k) past = drop-past xs k (omega arith)

-- Nothing joined to a list is that list.
append-none : {A : Type 0} (xs : List A) → xs ++ [] ≡ xs
append-none [] = refl
append-none (x ∷ xs) = ap (λ ys. x ∷ ys) (append-none xs)

-- Where no event is left, the replies so far are the replies to all.
pub replies-done : (L : Ledger) (events : List Event) (k : ℕ) (now all : List Reply) → length events ≤ k →
    now ++ replies (after L (take k events)) (drop k events) ≡ all → now ≡ all
replies-done L events k now all past so_far =
    sym (append-none now) ∙ ap (λ rest. now ++ replies (after L (take k events)) rest) (sym (drop-past events k past)) ∙ so_far

-- So what holds of the replies to all holds of the replies so far.
pub holds-of_all : (capacity : ℕ) (events : List Event) (k : ℕ) (now all : List Reply) (law : List Reply → Type 0) → length events ≤ k →
    now ++ replies (after (empty capacity) (take k events)) (drop k events) ≡ all → law all → law now
holds-of_all capacity events k now all law past so_far holds =
    subst law (sym (replies-done (empty capacity) events k now all past so_far)) holds
