-- What executing an entry in flight does to the ring in memory.
use Rattle.std.specs.Prelude.{ℕ, suc, ◌≡◌, ◌≤◌, Bool, true, false, List, [], ◌∷◌, ◌++◌, length, drop, slice_get, nat_le, option_map, Option}
use Rattle.std.specs.Prelude.{Some, Result, Ok, Err}
use Rattle.machine.specs.declared.request.Told.{Told}
use Rattle.machine.specs.declared.request.Outcome.{Outcome}
use Rattle.ring_core.specs.declared.entry.Entry.{Entry}
use Rattle.ring_core.specs.declared.entry.Flight.{Flight}
use Rattle.machine.specs.declared.completion.Completion.{Completion}
use Rattle.ring_core.specs.declared.mem_ring.ExecRefusal.{ExecRefusal}
use Rattle.ring_core.specs.declared.mem_ring.ExecRefusal.TheVariants.{NotFlying, Waiting, BadOutcome, OutOfMemory}
pub use Rattle.ring_core.specs.Bodies.{is_allowed_body, body_effect}
pub use Rattle.ring_core.specs.Bound.{completion_of, is_bound, broken, taken_along, flying_left, HasLeader}
use Rattle.machine.specs.Effect.{Effect, unmoved}
use Rattle.machine.specs.Payloads.{StoresIf}
use Rattle.ring_core.specs.Bodies.{body_comes, body_may_run_out}
use Rattle.ring_core.specs.Ring.{RingView}

-- The ring in memory with no entries.
abbrev pub fresh_ring : ℕ → RingView
fresh_ring entries = record {
  capacity = entries;
  queue = [];
  flying = [];
  done = [];
  world = [];
  spare = 0;
  faults = 0;
  busies = 0;
  to_come = 0;
}

-- The entry that is in flight at a place.
abbrev pub entry_at : List Flight → ℕ → Option Entry
entry_at flying place = option_map (λ flight. flight.entry) (slice_get flying place)

-- The ring after the entry at a place was executed: its completion is behind all others, and behind it are those of the entries that it
-- takes with it.
abbrev pub finished : RingView → ℕ → Entry → Effect → RingView
finished view place entry result = record view {
  flying = flying_left result.outcome place view.flying;
  done = view.done
      ++ completion_of entry result.outcome ∷ broken (taken_along result.outcome (drop (suc place) view.flying));
  world = result.world;
}

-- The entry at a place was executed, as its effect says.
pub record IsFinished (old : RingView) (place : ℕ) (told : Told) (sent : List ℕ) (new : RingView) (got : List ℕ)
    (completion : Completion) : Type 0 where
  pub flight : Flight
  pub there : slice_get old.flying place ≡ Some flight
  pub free : flight.bound ≡ false
  pub allows : is_allowed_body old.world flight.marked flight.entry.body told ≡ true
  pub answer : completion ≡ completion_of flight.entry (body_effect old.world flight.entry.body sent told).outcome
  pub ring : new ≡ finished old place flight.entry (body_effect old.world flight.entry.body sent told)
  pub bytes : got ≡ (body_effect old.world flight.entry.body sent told).got

-- The outcome isn't allowed to what is at a place, which isn't bound.
pub record IsForbidden (old : RingView) (place : ℕ) (told : Told) : Type 0 where
  pub flight : Flight
  pub there : slice_get old.flying place ≡ Some flight
  pub free : flight.bound ≡ false
  pub forbids : is_allowed_body old.world flight.marked flight.entry.body told ≡ false

-- What is in flight at a place was executed with the bytes that the payload of its data word offers; what came was stored there.
pub record IsExecuted {P : Type 0} (offered : P → ℕ → List ℕ) (stores : P → ℕ → List ℕ → P → Type 0)
    (old : RingView) (place : ℕ) (told : Told) (new : RingView) (before after : P) (completion : Completion) : Type 0 where
  pub got : List ℕ
  pub finishes : IsFinished old place told (offered before completion.word) new got completion
  pub stored : StoresIf stores (body_comes finishes.flight.entry.body told) before completion.word got after

-- Executing what is in flight at a place is allowed, and may run out of memory.
pub record MayRunOut (takes_memory : ℕ → Bool) (old : RingView) (place : ℕ) (told : Told) : Type 0 where
  pub flight : Flight
  pub there : slice_get old.flying place ≡ Some flight
  pub free : flight.bound ≡ false
  pub allows : is_allowed_body old.world flight.marked flight.entry.body told ≡ true
  pub takes : body_may_run_out takes_memory flight.entry.body told ≡ true

-- What `execute` answers and leaves: one case for each answer, and but for memory no two of them can hold at once.
abbrev pub ExecutesFor : {P : Type 0} → (P → ℕ → List ℕ) → (P → ℕ → List ℕ → P → Type 0) → (ℕ → Bool) →
    RingView → ℕ → Told → RingView → P → P → Result Completion ExecRefusal → Type 0
ExecutesFor offered stores takes_memory old place told new before after (Ok completion) =
    IsExecuted offered stores old place told new before after completion
ExecutesFor offered stores takes_memory old place told new before after (Err NotFlying) =
    (length old.flying ≤ place) × (new ≡ old) × (after ≡ before)
ExecutesFor offered stores takes_memory old place told new before after (Err Waiting) =
    (is_bound old.flying place ≡ true) × (new ≡ old) × (after ≡ before)
ExecutesFor offered stores takes_memory old place told new before after (Err BadOutcome) =
    IsForbidden old place told × (new ≡ old) × (after ≡ before)
ExecutesFor offered stores takes_memory old place told new before after (Err OutOfMemory) =
    MayRunOut takes_memory old place told × (new ≡ old) × (after ≡ before)

-- An entry in flight became a completion of this outcome, and nothing moved.
abbrev pub completed : RingView → ℕ → Entry → Outcome → RingView
completed view place entry outcome = finished view place entry (unmoved view.world outcome)

-- What `finish_at` answers and leaves: one case for each answer, and but for memory no two of them can hold at once. It may run
-- out of memory only where bytes move.
abbrev pub FinishesFor : RingView → ℕ → Told → List ℕ → RingView → List ℕ → Result Completion ExecRefusal → Type 0
FinishesFor old place told sent new got (Ok completion) = IsFinished old place told sent new got completion
FinishesFor old place told sent new got (Err NotFlying) = (length old.flying ≤ place) × (new ≡ old) × (got ≡ [])
FinishesFor old place told sent new got (Err Waiting) = (is_bound old.flying place ≡ true) × (new ≡ old) × (got ≡ [])
FinishesFor old place told sent new got (Err BadOutcome) = IsForbidden old place told × (new ≡ old) × (got ≡ [])
FinishesFor old place told sent new got (Err OutOfMemory) = MayRunOut (nat_le 1) old place told × (new ≡ old) × (got ≡ [])
