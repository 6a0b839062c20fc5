-- The texts of events, one by one.
use Rattle.std.proofs.Common.{◌≡◌, ◌≤◌, ◌∙◌, ℕ, suc, List, ◌++◌, drop, length, Some, sym, ap, append-nil, append_assoc}
use Rattle.std.specs.Prelude.{slice_get}
use Rattle.machine.specs.declared.ledger.Event.{Event}
use Rattle.machine.proofs.Appended.{drop-suc}
use Rattle.event_text.specs.TextEvent.{event_text}
use Rattle.session_core.specs.Top.{ended}
use Rattle.session_core.specs.Trace.{event_lines}
use Rattle.session_core.proofs.Runs.{drop-past}

-- The texts so far and one more, then those of the events that are left.
pub lines-more : (events : List Event) (i j : ℕ) (event : Event) (text now all : List ℕ) → j ≡ suc i → slice_get events i ≡ Some event →
    now ≡ text ++ ended (event_text event) → text ++ event_lines (drop i events) ≡ all → now ++ event_lines (drop j events) ≡ all
lines-more events i j event text now all next there pushed so_far =
    ap (λ xs. xs ++ event_lines (drop j events)) pushed
    ∙ append_assoc text (ended (event_text event)) (event_lines (drop j events))
    ∙ ap (λ k. text ++ (ended (event_text event) ++ event_lines (drop k events))) next
    ∙ ap (λ es. text ++ event_lines es) (sym (drop-suc events i event there))
    ∙ so_far

-- With no event left the texts are all.
pub lines-done : (events : List Event) (i : ℕ) (text all : List ℕ) → length events ≤ i → text ++ event_lines (drop i events) ≡ all →
    text ≡ all
lines-done events i text all past so_far =
    sym (append-nil text) ∙ ap (λ es. text ++ event_lines es) (sym (drop-past events i past)) ∙ so_far
