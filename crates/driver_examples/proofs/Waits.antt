-- What waits in a ring in memory, and how many completions come of one failure.
use Rattle.std.proofs.Common.{◌≡◌, ℕ, zero, suc, ◌+◌, ◌<◌, ◌≤◌, false, List, [], ◌∷◌, ◌++◌, length, drop, Some, None, refl, ◌∙◌, ap, arith}
use Rattle.std.proofs.lemmas.List.{length-append}
use Rattle.ring_core.specs.declared.entry.Entry.{Entry}
use Rattle.ring_core.specs.declared.entry.Flight.{Flight}
use Rattle.machine.specs.declared.completion.Completion.{Completion}
use Rattle.machine.specs.declared.request.Told.{Told}
use Rattle.ring_core.specs.Ring.{RingView}
use Rattle.ring_core.specs.MemRing.{IsFinished, entry_at, body_effect, completion_of, is_bound, broken}
use Rattle.ring_core.proofs.Binding.{free-behind}

-- A place that has an entry is one of those in flight.
pub within_entry : (flying : List Flight) (place : ℕ) (entry : Entry) → entry_at flying place ≡ Some entry → place < length flying
within_entry [] place entry there = cc
within_entry (x ∷ flying) zero entry there = omega arith
within_entry (x ∷ flying) (suc place) entry there = let rest = within_entry flying place entry there in omega arith

-- A place that has none isn't bound.
pub none_entry : (flying : List Flight) (place : ℕ) → entry_at flying place ≡ None → is_bound flying place ≡ false
none_entry [] place none = refl
none_entry (x ∷ flying) zero none = cc
none_entry (x ∷ flying) (suc place) none = none_entry flying place none

-- The first of those from a place on is the one at the place.
first-there : (flying : List Flight) (place : ℕ) → is_bound (drop place flying) zero ≡ is_bound flying place
first-there [] zero = refl
first-there [] (suc place) = refl
first-there (x ∷ flying) zero = refl
first-there (x ∷ flying) (suc place) = first-there flying place

-- One completion comes of an execution where nothing waits for what was executed.
pub one_more : (v w : RingView) (place : ℕ) (told : Told) (sent got : List ℕ) (c : Completion) →
    is_bound v.flying (place + 1) ≡ false → IsFinished v place told sent w got c → length w.done ≤ length v.done + 1
one_more v w place told sent got c free fin =
    let outcome = (body_effect v.world fin.flight.entry.body sent told).outcome in
    let next : suc place ≡ place + 1 = omega arith in
    let alone = free-behind outcome (drop (suc place) v.flying) (first-there v.flying (suc place) ∙ ap (is_bound v.flying) next ∙ free) in
    let is = ap (λ x. length x.done) fin.ring
    ∙ ap (λ xs. length (v.done ++ completion_of fin.flight.entry outcome ∷ broken xs)) alone.1 in
    let long = length-append v.done (completion_of fin.flight.entry outcome ∷ []) in
    omega arith
