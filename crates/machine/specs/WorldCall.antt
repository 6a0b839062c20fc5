-- What a call of a request on handles in memory answers and leaves. Cited by `World::call`.
use Rattle.std.specs.Prelude.{ℕ, ◌≡◌, ◌≤◌, Bool, true, false, List, length, Some, None}
use Rattle.rent_buf.specs.Buffer.{Buffer}
use Rattle.rent_buf.specs.Parts.{Parts}
use Rattle.machine.specs.declared.world.call.WorldCall.{WorldCall}
use Rattle.machine.specs.declared.world.call.WorldCall.TheVariants.{Done, WouldBlock, OutOfMemory}
use Rattle.machine.specs.declared.request.Request.{Request}
use Rattle.machine.specs.declared.request.Told.{Told}
use Rattle.machine.specs.declared.request.Outcome.{Outcome}
use Rattle.machine.specs.declared.world.HandleState.{HandleState}
use Rattle.machine.specs.Request.{call_of, sent_of, room_of, held, held_after, plain_request, IsHolding}
use Rattle.machine.specs.Surroundings.{Surroundings, request_around}
use Rattle.machine.specs.Attempt.{attempt}
use Rattle.machine.specs.Lists.{passes}
use Rattle.machine.specs.Payloads.{may_run_out}
use Rattle.machine.specs.Effect.{Effect, effect}

-- A request has bytes that came stored in what it holds, and nothing else of it changed.
pub record IsStored {B : Type 0} (buffer : B → Buffer) (around : B → Surroundings) (old : Request B Parts) (bytes : List ℕ)
    (new : Request B Parts) : Type 0 where
  pub holds : IsHolding (plain_request buffer old) (held_after (plain_request buffer old) bytes) (plain_request buffer new)
  pub surroundings : request_around around new ≡ request_around around old

-- Bytes that came are stored in what a request holds, where they fit.
abbrev pub StoresFitting : {B : Type 0} → (B → Buffer) → (B → Surroundings) → Request B Parts → List ℕ → Request B Parts → Type 0
StoresFitting buffer around old bytes new =
    length bytes ≤ room_of (plain_request buffer old) → IsStored buffer around old bytes new

-- What a request's call leaves with this report.
abbrev pub call_effect : List HandleState → Request Buffer Parts → Told → Effect
call_effect world request told = effect world (call_of request) (sent_of request) told

-- The call of a request was made: what it reports, the handles after it, and the request with what it holds then.
pub record IsCalled (old : List HandleState) (request : Request Buffer Parts) (new : List HandleState) (now : Request Buffer Parts)
    (outcome : Outcome) : Type 0 where
  pub told : Told
  pub made : attempt old (call_of request) ≡ Some told
  pub outcome_is : outcome ≡ (call_effect old request told).outcome
  pub world : new ≡ (call_effect old request told).world
  pub holds : IsHolding request (held request told (call_effect old request told).got) now

-- Making a request's call may run out of memory: it is made at once, and what it does takes memory. Storing what comes never does.
abbrev pub call_may_run_out : List HandleState → Request Buffer Parts → Bool
call_may_run_out world request = passes (may_run_out (λ count. false) (call_of request)) (attempt world (call_of request))

-- What the call of a request answers and leaves: one case for each answer. It would block exactly when it isn't made at once; memory runs
-- out only where it may; and in both cases nothing changes.
abbrev pub CallsFor : List HandleState → Request Buffer Parts → List HandleState → Request Buffer Parts → WorldCall → Type 0
CallsFor old request new now (Done outcome) = IsCalled old request new now outcome
CallsFor old request new now WouldBlock = (attempt old (call_of request) ≡ None) × (new ≡ old) × (now ≡ request)
CallsFor old request new now OutOfMemory = (call_may_run_out old request ≡ true) × (new ≡ old) × (now ≡ request)
