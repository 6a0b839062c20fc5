-- What executing a call does to the handles and the payloads. Cited by `World`.
use Rattle.std.specs.Prelude.{ℕ, ◌≡◌, ◌≤◌, Bool, true, false, List, [], Result, Ok, Err}
use Rattle.machine.specs.declared.world.HandleKind.{HandleKind}
use Rattle.machine.specs.declared.world.HandleState.{HandleState}
use Rattle.machine.specs.declared.world.RunError.{RunError}
use Rattle.machine.specs.declared.world.RunError.TheVariants.{NotAllowed, OutOfMemory}
use Rattle.machine.specs.declared.request.Call.{Call}
use Rattle.machine.specs.declared.request.Told.{Told}
use Rattle.machine.specs.declared.request.Outcome.{Outcome}
use Rattle.machine.specs.Outcome.{is_allowed, may_count, may_close}
use Rattle.machine.specs.Effect.{effect, close_effect, count_effect, making}
use Rattle.machine.specs.Payloads.{count_comes, comes, StoresIf, count_may_run_out, may_run_out}

-- What ending a close answers: its outcome, where that is allowed to it. It never runs out of memory.
abbrev pub ClosesFor : Told → Result Outcome RunError → Type 0
ClosesFor told (Ok outcome) = (may_close told ≡ true) × ((world : List HandleState) → outcome ≡ (close_effect world told).outcome)
ClosesFor told (Err NotAllowed) = may_close told ≡ false
ClosesFor told (Err OutOfMemory) = ⊥

-- A count of bytes that is allowed to a call was moved.
pub record IsMoved {P : Type 0} (stores : P → ℕ → List ℕ → P → Type 0) (call : Call) (k word : ℕ) (sent : List ℕ)
    (old new : List HandleState) (before after : P) (outcome : Outcome) : Type 0 where
  pub allowed : may_count old call k ≡ true
  pub answer : outcome ≡ (count_effect old call sent k).outcome
  pub world : new ≡ (count_effect old call sent k).world
  pub stored : StoresIf stores (count_comes call) before word (count_effect old call sent k).got after

-- What moving a count of bytes answers and leaves: one case for each answer, and but for memory no two of them can hold at once.
abbrev pub MovesFor : {P : Type 0} → (P → ℕ → List ℕ → P → Type 0) → (ℕ → Bool) → Call → ℕ → ℕ → List ℕ →
    List HandleState → List HandleState → P → P → Result Outcome RunError → Type 0
MovesFor stores takes_memory call k word sent old new before after (Ok outcome) =
    IsMoved stores call k word sent old new before after outcome
MovesFor stores takes_memory call k word sent old new before after (Err NotAllowed) =
    (may_count old call k ≡ false) × (new ≡ old) × (after ≡ before)
MovesFor stores takes_memory call k word sent old new before after (Err OutOfMemory) =
    (may_count old call k ≡ true) × (count_may_run_out takes_memory call k ≡ true) × (new ≡ old) × (after ≡ before)

-- What moving a count of bytes between two handles answers and leaves: no payload takes part.
abbrev pub SplicesFor : Call → ℕ → List HandleState → List HandleState → Result Outcome RunError → Type 0
SplicesFor call k old new (Ok outcome) =
    (may_count old call k ≡ true) × (outcome ≡ (count_effect old call [] k).outcome) × (new ≡ (count_effect old call [] k).world)
SplicesFor call k old new (Err NotAllowed) = (may_count old call k ≡ false) × (new ≡ old)
SplicesFor call k old new (Err OutOfMemory) = (may_count old call k ≡ true) × (1 ≤ k) × (new ≡ old)

-- What making a handle of a kind answers and leaves, where it may be made.
abbrev pub MakesFor : Bool → HandleKind → List HandleState → List HandleState → Result Outcome RunError → Type 0
MakesFor may kind old new (Ok outcome) = (may ≡ true) × (outcome ≡ (making old kind).outcome) × (new ≡ (making old kind).world)
MakesFor may kind old new (Err NotAllowed) = (may ≡ false) × (new ≡ old)
MakesFor may kind old new (Err OutOfMemory) = (may ≡ true) × (new ≡ old)

-- A call was executed with what is reported of it: its bytes have moved.
pub record IsRun {P : Type 0} (stores : P → ℕ → List ℕ → P → Type 0) (call : Call) (canceled : Bool) (told : Told) (word : ℕ)
    (sent : List ℕ) (old new : List HandleState) (before after : P) (outcome : Outcome) : Type 0 where
  pub allowed : is_allowed old canceled call told ≡ true
  pub answer : outcome ≡ (effect old call sent told).outcome
  pub world : new ≡ (effect old call sent told).world
  pub stored : StoresIf stores (comes call told) before word (effect old call sent told).got after

-- What executing a call answers and leaves: one case for each answer, and but for memory no two of them can hold at once.
abbrev pub RunsFor : {P : Type 0} → (P → ℕ → List ℕ → P → Type 0) → (ℕ → Bool) → Call → Bool → Told → ℕ → List ℕ →
    List HandleState → List HandleState → P → P → Result Outcome RunError → Type 0
RunsFor stores takes_memory call canceled told word sent old new before after (Ok outcome) =
    IsRun stores call canceled told word sent old new before after outcome
RunsFor stores takes_memory call canceled told word sent old new before after (Err NotAllowed) =
    (is_allowed old canceled call told ≡ false) × (new ≡ old) × (after ≡ before)
RunsFor stores takes_memory call canceled told word sent old new before after (Err OutOfMemory) =
    (is_allowed old canceled call told ≡ true) × (may_run_out takes_memory call told ≡ true) × (new ≡ old) × (after ≡ before)
