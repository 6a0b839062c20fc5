-- The events of a seed, round by round.
use Rattle.std.proofs.Common.{◌≡◌, ◌∙◌, ℕ, suc, ◌+◌, ◌%◌, List, [], ◌∷◌, ◌++◌, sym, ap, append_assoc}
use Rattle.std.proofs.lemmas.List.{append-nil}
use Rattle.machine.specs.declared.ledger.Event.{Event}
use Rattle.machine.specs.declared.ledger.Event.TheVariants.{Give}
use Rattle.machine.specs.declared.world.HandleKind.TheVariants.{Stream}
use Rattle.session_core.specs.Generated.{drawn, generated_events, next_state, round_events, rounds_from}

-- A handle, then all rounds.
pub rounds-begun : (seed rounds left : ℕ) (events : List Event) → events ≡ Give Stream ∷ [] → left ≡ rounds →
    events ++ rounds_from seed 0 left ≡ generated_events seed rounds
unfolding generated_events
rounds-begun seed rounds left events begun is =
    ap (λ xs. xs ++ rounds_from seed 0 left) begun ∙ ap (λ k. Give Stream ∷ rounds_from seed 0 k) is

-- The events so far and one round more, then the rounds that are left.
pub round-added : (before now all : List Event) (x y z i choice count more less : ℕ) → more ≡ suc less → y ≡ next_state x →
    z ≡ next_state y →
    choice ≡ drawn y % 4 → count ≡ drawn z % 8 + 1 → now ≡ before ++ round_events i choice count →
    before ++ rounds_from x i more ≡ all → now ++ rounds_from z (i + 1) less ≡ all
round-added before now all x y z i choice count more less is first second chosen counted joined so_far =
    let state : z ≡ next_state (next_state x) = second ∙ ap next_state first in
    let choice_is : choice ≡ drawn (next_state x) % 4 = chosen ∙ ap (λ k. drawn k % 4) first in
    let count_is : count ≡ drawn (next_state (next_state x)) % 8 + 1 = counted ∙ ap (λ k. drawn k % 8 + 1) state in
    ap (λ xs. xs ++ rounds_from z (i + 1) less) joined
    ∙ append_assoc before (round_events i choice count) (rounds_from z (i + 1) less)
    ∙ ap (λ k. before ++ (round_events i k count ++ rounds_from z (i + 1) less)) choice_is
    ∙ ap (λ k. before ++ (round_events i (drawn (next_state x) % 4) k ++ rounds_from z (i + 1) less)) count_is
    ∙ ap (λ k. before ++ (round_events i (drawn (next_state x) % 4) (drawn (next_state (next_state x)) % 8 + 1)
    ++ rounds_from k (i + 1) less)) state
    ∙ ap (λ k. before ++ rounds_from x i k) (sym is)
    ∙ so_far

-- With no round left the events are all.
pub rounds-done : (events all : List Event) (x i left : ℕ) → left ≡ 0 → events ++ rounds_from x i left ≡ all → events ≡ all
rounds-done events all x i left is so_far = sym (append-nil events) ∙ ap (λ k. events ++ rounds_from x i k) (sym is) ∙ so_far
