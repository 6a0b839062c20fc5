-- The replies and the session along a run.
use Rattle.std.proofs.Common.{◌≡◌, ◌<◌, ◌≤◌, ℕ, zero, suc, List, [], ◌∷◌, ◌++◌, length, get_or, take, drop, Option, Some, None, refl, sym}
use Rattle.std.proofs.Common.{◌∙◌, ap, append_assoc, subst, arith}
use Rattle.std.proofs.lemmas.List.{append-nil, drop_all, take_all}
use Rattle.std.specs.Prelude.{slice_get}
use Rattle.machine.specs.declared.ledger.Event.{Event}
use Rattle.machine.specs.declared.ledger.Event.TheVariants.{Poll}
use Rattle.machine.specs.declared.ledger.Reply.{Reply}
use Rattle.machine.specs.Ledger.{Ledger, empty}
use Rattle.machine.proofs.Appended.{drop-suc}
use Rattle.ready_driver.specs.Readiness.{IsDriven, AreDriven}
use Rattle.ready_driver.specs.Spelled.{spelled, spelled_reply, spelled_replies, spelled_after, ledger_behind}
use Rattle.ready_driver.proofs.Runs.{poll-pending, poll-canceled}
use Rattle.ready_run.specs.Runs.{PendingWhenBlocked, CanceledWhenAsked}

-- The element at a place that is there.
pub get-there : {A : Type 0} (xs : List A) (n : ℕ) (x : A) → n < length xs → x ≡ get_or xs n x → slice_get xs n ≡ Some x
get-there [] n x in_range is = absurd (omega arith)
get-there (y ∷ xs) zero x in_range is = ap Some (sym is)
get-there (y ∷ xs) (suc n) x in_range is = get-there xs n x (omega arith) is

-- Each of events is one that a driver answers.
pub driven-at : (events : List Event) (n : ℕ) (event : Event) → AreDriven events → slice_get events n ≡ Some event → IsDriven event
driven-at [] n event driven there = absurd (let none : ◌≡◌ {A = Option Event} None (Some event) = there in cc)
driven-at (first ∷ events) zero event driven there = subst IsDriven (let same : first ≡ event = cc in same) driven.0
driven-at (first ∷ events) (suc n) event driven there = driven-at events n event driven.1 there

-- So are the first ones.
driven-before : (events : List Event) (n : ℕ) → AreDriven events → AreDriven (take n events)
driven-before events zero driven = tt
driven-before [] (suc n) driven = tt
driven-before (first ∷ events) (suc n) driven = (driven.0, driven-before events n driven.1)

-- The ledger after one event more, as it is spelled.
pub after-next : (L : Ledger) (events : List Event) (k : ℕ) (event : Event) → slice_get events k ≡ Some event →
    spelled_after L (take (suc k) events) ≡ ledger_behind (spelled_after L (take k events)) event
after-next L [] k event there = absurd (let none : ◌≡◌ {A = Option Event} None (Some event) = there in cc)
after-next L (first ∷ events) zero event there = ap (ledger_behind L) (let same : first ≡ event = cc in same)
after-next L (first ∷ events) (suc k) event there = after-next (ledger_behind L first) events k event there

-- The same, where the number of events is one more.
pub after-one_more : (L : Ledger) (events : List Event) (k n : ℕ) (event : Event) → n ≡ suc k → slice_get events k ≡ Some event →
    spelled_after L (take n events) ≡ ledger_behind (spelled_after L (take k events)) event
after-one_more L events k n event is there = ap (λ m. spelled_after L (take m events)) is ∙ after-next L events k event there

-- One more reply: those so far, then those to what is left, are still the replies to all.
pub replies-one_more : (L : Ledger) (events : List Event) (k n : ℕ) (event : Event) (before now all : List Reply) (reply : Reply) →
    n ≡ suc k → slice_get events k ≡ Some event →
    spelled_reply (spelled_after L (take k events)) (spelled (spelled_after L (take k events)) event) ≡ reply →
    now ≡ before ++ reply ∷ [] → before ++ spelled_replies (spelled_after L (take k events)) (drop k events) ≡ all →
    now ++ spelled_replies (spelled_after L (take n events)) (drop n events) ≡ all
replies-one_more L events k n event before now all reply next there is joined so_far =
    let M : Ledger = spelled_after L (take k events) in
    ap (λ xs. xs ++ spelled_replies (spelled_after L (take n events)) (drop n events)) joined
    ∙ append_assoc before (reply ∷ []) (spelled_replies (spelled_after L (take n events)) (drop n events))
    ∙ ap (λ N. before ++ reply ∷ spelled_replies N (drop n events)) (after-one_more L events k n event next there)
    ∙ ap (λ m. before ++ reply ∷ spelled_replies (ledger_behind M event) (drop m events)) next
    ∙ ap (λ r. before ++ r ∷ spelled_replies (ledger_behind M event) (drop (suc k) events)) (sym is)
    ∙ ap (λ rest. before ++ spelled_replies M rest) (sym (drop-suc events k event there))
    ∙ so_far

-- Where no event is left, the replies so far are the replies to all.
pub replies-done : (L : Ledger) (events : List Event) (k : ℕ) (now all : List Reply) → length events ≤ k →
    now ++ spelled_replies (spelled_after L (take k events)) (drop k events) ≡ all → now ≡ all
replies-done L events k now all past so_far =
    sym (append-nil now) ∙ ap (λ rest. now ++ spelled_replies (spelled_after L (take k events)) rest) (sym (drop_all k events past))
    ∙ so_far

-- And the ledger is the one after all.
pub ledger-done : (L : Ledger) (events : List Event) (k : ℕ) → length events ≤ k →
    spelled_after L (take k events) ≡ spelled_after L events
ledger-done L events k past = ap (spelled_after L) (take_all k events past)

-- There are as many replies as events.
pub one-reply-each : (L : Ledger) (events : List Event) → length (spelled_replies L events) ≡ length events
one-reply-each L [] = refl
one-reply-each L (event ∷ events) = ap suc (one-reply-each (ledger_behind L event) events)

-- The reply to an event that is there.
reply-there : (L : Ledger) (events : List Event) (i : ℕ) (event : Event) → slice_get events i ≡ Some event →
    slice_get (spelled_replies L events) i
    ≡ Some (spelled_reply (spelled_after L (take i events)) (spelled (spelled_after L (take i events)) event))
reply-there L [] i event there = absurd (let none : ◌≡◌ {A = Option Event} None (Some event) = there in cc)
reply-there L (first ∷ events) zero event there = ap (λ e. Some (spelled_reply L (spelled L e))) (let same : first ≡ event = cc in same)
reply-there L (first ∷ events) (suc i) event there = reply-there (ledger_behind L first) events i event there

-- What is there is one.
pub same-there : {A : Type 0} (x y : A) → ◌≡◌ {A = Option A} (Some x) (Some y) → x ≡ y
same-there x y same = cc

-- An unrefused poll is Pending exactly when its operation is blocked.
pub pending-when-blocked : (capacity : ℕ) (events : List Event) → AreDriven events →
    PendingWhenBlocked capacity events (spelled_replies (empty capacity) events)
pending-when-blocked capacity events driven n i polled =
    let there = reply-there (empty capacity) events i (Poll n polled.task) polled.there in
    let exact = poll-pending capacity (take i events) n polled.task (driven-before events i driven) polled.unrefused in
    (λ is. exact.0 (same-there _ _ (sym there ∙ is)), λ blocks. there ∙ ap Some (exact.1 blocks))

-- It ends with the error of a cancel only when that was asked for.
pub canceled-when-asked : (capacity : ℕ) (events : List Event) → AreDriven events →
    CanceledWhenAsked capacity events (spelled_replies (empty capacity) events)
canceled-when-asked capacity events driven n i buffer polled is =
    let there = reply-there (empty capacity) events i (Poll n polled.task) polled.there in
    poll-canceled capacity (take i events) n polled.task buffer (driven-before events i driven) polled.unrefused
    (same-there _ _ (sym there ∙ is))
