-- An execution, from the steps that it consists of.
use Rattle.std.proofs.Common.{◌≡◌, ℕ, false, List, [], ◌∷◌, ◌++◌, Some, slice_get, take, drop, remove, refl, sym, ◌∙◌, ap, subst}
use Rattle.std.proofs.Common.{append_assoc}
use Rattle.machine.specs.declared.world.HandleState.{HandleState}
use Rattle.ring_core.specs.declared.entry.Flight.{Flight}
use Rattle.machine.specs.declared.completion.Completion.{Completion}
use Rattle.machine.specs.declared.request.Told.{Told}
use Rattle.machine.specs.declared.request.Outcome.{Outcome}
use Rattle.ring_core.specs.Ring.{RingView}
use Rattle.ring_core.specs.Bodies.{body_effect, IsCarriedOut}
use Rattle.ring_core.specs.MemRing.{completion_of, completed, broken, taken_along, flying_left, IsExecuted}
use Rattle.ring_core.specs.declared.entry.Entry.{Entry}
use Rattle.ring_core.specs.Bound.{AreLed, left_behind}
use Rattle.ring_core.proofs.Binding.{left-removed}
use Rattle.ring_core.proofs.Leading.{ends-alone}

-- An entry in flight that was carried out, and then became the last completion, was executed.
pub run-executed : {P : Type 0} (offered : P → ℕ → List ℕ) (stores : P → ℕ → List ℕ → P → Type 0) (old new : RingView)
    (world : List HandleState) (place : ℕ) (told : Told) (before after : P) (flight : Flight) (outcome : Outcome)
    (completion : Completion) → slice_get old.flying place ≡ Some flight → flight.bound ≡ false →
    IsCarriedOut stores flight told (offered before flight.entry.word) old.world world before after outcome →
    new ≡ completed (record old { world = world }) place flight.entry outcome → completion ≡ completion_of flight.entry outcome →
    IsExecuted offered stores old place told new before after completion
run-executed offered stores old new world place told before after flight outcome completion there free ran new_is completion_is =
    let moved = body_effect old.world flight.entry.body (offered before flight.entry.word) told in
    subst (λ last. IsExecuted offered stores old place told new before after last) (sym completion_is) (record {
      got = moved.got;
      finishes = record {
        flight = flight;
        there = there;
        free = free;
        allows = ran.allowed;
        answer = ap (completion_of flight.entry) ran.answer;
        ring = new_is
            ∙ ap (λ handles. completed (record old { world = handles }) place flight.entry outcome) ran.world
            ∙ ap (λ ended. completed (record old { world = moved.world }) place flight.entry ended) ran.answer;
        bytes = refl;
      };
      stored = ran.stored;
    })

-- A ring with other entries in flight and other completions.
abbrev pub with_lists : RingView → List Flight → List Completion → RingView
with_lists view flying done = record view { flying = flying; done = done }

-- An entry that isn't linked ended, and nothing with it.
pub completes-alone : (v : RingView) (place : ℕ) (flying : List Flight) (done : List Completion) (x : Flight) (entry : Entry)
    (outcome : Outcome) → AreLed false v.flying → slice_get v.flying place ≡ Some x → x.entry.linked ≡ false →
    flying ≡ remove v.flying place → done ≡ v.done ++ completion_of entry outcome ∷ [] →
    with_lists v flying done ≡ completed v place entry outcome
completes-alone v place flying done x entry outcome led there free flying_is done_is =
    let alone = ends-alone outcome false v.flying place x led there free in
    ap (λ xs. with_lists v xs done) (flying_is ∙ alone.0)
    ∙ ap (with_lists v (flying_left outcome place v.flying))
    (done_is ∙ ap (λ ys. v.done ++ completion_of entry outcome ∷ ys) (sym alone.1))

-- An entry ended, and those behind it were released.
pub completes-released : (v : RingView) (place : ℕ) (flying rest : List Flight) (done mid : List Completion) (entry : Entry)
    (outcome : Outcome) → rest ≡ remove v.flying place → mid ≡ v.done ++ completion_of entry outcome ∷ [] →
    flying ≡ take place rest ++ left_behind outcome (drop place rest) → done ≡ mid ++ broken (taken_along outcome (drop place rest)) →
    with_lists v flying done ≡ completed v place entry outcome
completes-released v place flying rest done mid entry outcome rest_is mid_is flying_is done_is =
    let left = left-removed outcome v.flying place in
    let completion = completion_of entry outcome in
    ap (λ xs. with_lists v xs done)
    (flying_is ∙ ap (λ ys. take place ys ++ left_behind outcome (drop place ys)) rest_is ∙ left.0)
    ∙ ap (with_lists v (flying_left outcome place v.flying))
    (done_is ∙ ap (λ ys. ys ++ broken (taken_along outcome (drop place rest))) mid_is
    ∙ append_assoc v.done (completion ∷ []) (broken (taken_along outcome (drop place rest)))
    ∙ ap (λ ys. v.done ++ completion ∷ broken (taken_along outcome (drop place ys))) rest_is
    ∙ ap (λ ys. v.done ++ completion ∷ ys) left.1)
