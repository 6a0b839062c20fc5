-- What executing an entry in flight does to the handles and the payloads, by its body. Cited by `MemRing`.
use Rattle.std.specs.Prelude.{ℕ, ◌≡◌, Bool, true, false, List, Result, Ok, Err}
use Rattle.machine.specs.declared.world.HandleState.{HandleState}
use Rattle.machine.specs.declared.world.RunError.{RunError}
use Rattle.machine.specs.declared.world.RunError.TheVariants.{NotAllowed, OutOfMemory}
use Rattle.machine.specs.declared.request.Told.{Told}
use Rattle.machine.specs.declared.request.Outcome.{Outcome}
use Rattle.machine.specs.declared.request.Outcome.TheVariants.{Count as Counted}
use Rattle.machine.specs.Outcome.{is_allowed, may_close}
use Rattle.machine.specs.Effect.{Effect, effect, close_effect, unmoved}
use Rattle.machine.specs.Payloads.{comes, StoresIf, may_run_out}
use Rattle.ring_core.specs.declared.entry.Body.{Body}
use Rattle.ring_core.specs.declared.entry.Body.TheVariants.{Call as Calls, Cancel as Cancels, Close as Closes}
use Rattle.ring_core.specs.declared.entry.Flight.{Flight}

-- An outcome is allowed to the body of an entry in flight that is marked, or isn't. No mark counts for a close. A cancel is done as it is
-- taken: none is allowed to it.
abbrev pub is_allowed_body : List HandleState → Bool → Body → Told → Bool
is_allowed_body world marked (Calls call) told = is_allowed world marked call told
is_allowed_body world marked (Cancels key) told = false
is_allowed_body world marked (Closes h) told = may_close told

-- What executing the body of an entry in flight leaves, with what is reported.
abbrev pub body_effect : List HandleState → Body → List ℕ → Told → Effect
body_effect world (Calls call) sent told = effect world call sent told
body_effect world (Cancels key) sent told = unmoved world (Counted 0)
body_effect world (Closes h) sent told = close_effect world told

-- Bytes come to an entry in flight.
abbrev pub body_comes : Body → Told → Bool
body_comes (Calls call) told = comes call told
body_comes (Cancels key) told = false
body_comes (Closes h) told = false

-- Executing an entry in flight may run out of memory.
abbrev pub body_may_run_out : (ℕ → Bool) → Body → Told → Bool
body_may_run_out takes_memory (Calls call) told = may_run_out takes_memory call told
body_may_run_out takes_memory (Cancels key) told = false
body_may_run_out takes_memory (Closes h) told = false

-- An entry in flight was carried out: its bytes have moved.
pub record IsCarriedOut {P : Type 0} (stores : P → ℕ → List ℕ → P → Type 0) (flight : Flight) (told : Told) (sent : List ℕ)
    (old new : List HandleState) (before after : P) (outcome : Outcome) : Type 0 where
  pub allowed : is_allowed_body old flight.marked flight.entry.body told ≡ true
  pub answer : outcome ≡ (body_effect old flight.entry.body sent told).outcome
  pub world : new ≡ (body_effect old flight.entry.body sent told).world
  pub stored :
      StoresIf stores (body_comes flight.entry.body told) before flight.entry.word (body_effect old flight.entry.body sent told).got after

-- What carrying out an entry in flight answers and leaves: one case for each answer, and but for memory no two of them can hold at once.
abbrev pub CarriesOutFor : {P : Type 0} → (P → ℕ → List ℕ → P → Type 0) → (ℕ → Bool) → Flight → Told → List ℕ →
    List HandleState → List HandleState → P → P → Result Outcome RunError → Type 0
CarriesOutFor stores takes_memory flight told sent old new before after (Ok outcome) =
    IsCarriedOut stores flight told sent old new before after outcome
CarriesOutFor stores takes_memory flight told sent old new before after (Err NotAllowed) =
    (is_allowed_body old flight.marked flight.entry.body told ≡ false) × (new ≡ old) × (after ≡ before)
CarriesOutFor stores takes_memory flight told sent old new before after (Err OutOfMemory) =
    (is_allowed_body old flight.marked flight.entry.body told ≡ true)
    × (body_may_run_out takes_memory flight.entry.body told ≡ true) × (new ≡ old) × (after ≡ before)
