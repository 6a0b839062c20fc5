-- How many handles there are once a call moved its bytes.
use Rattle.std.proofs.Common.{◌≡◌, ◌∙◌, ℕ, Bool, true, false, List, [], length, Option, Some, None, refl, ap}
use Rattle.std.specs.Prelude.{slice_get, Result, Ok, Err}
use Rattle.machine.specs.declared.world.HandleState.{HandleState}
use Rattle.machine.specs.declared.world.RunError.{RunError}
use Rattle.machine.specs.declared.world.RunError.TheVariants.{NotAllowed, OutOfMemory}
use Rattle.machine.specs.declared.request.Call.{Call}
use Rattle.machine.specs.declared.request.Call.TheVariants.{In, Out, MessageIn, MessageOut, ReadAt, WriteAt, ToPipe, FromPipe, Accept}
use Rattle.machine.specs.declared.request.Call.TheVariants.{Open, Connect, Fsync, PollAdd, Path}
use Rattle.machine.specs.declared.request.Outcome.{Outcome}
use Rattle.machine.specs.World.{messages_at}
use Rattle.machine.specs.Lists.{amended}
use Rattle.machine.specs.Effect.{count_effect, message_effect, without_message}
use Rattle.machine.specs.Called.{MovesFor, SplicesFor}
use Rattle.machine.proofs.Amended.{length-amended}

-- A call that makes no handle.
abbrev pub moves_only : Call → Bool
moves_only (Accept h) = false
moves_only Open = false
moves_only _ = true

-- A message that comes, or doesn't, leaves so many handles.
length-message : (now : List HandleState) (k : ℕ) (first : Option (ℕ × List ℕ)) → length (message_effect now k first).world ≡ length now
length-message now k None = refl
length-message now k (Some message) = refl

-- A call that makes no handle leaves as many as there were.
pub length-counted : (world : List HandleState) (call : Call) (sent : List ℕ) (k : ℕ) → moves_only call ≡ true →
    length (count_effect world call sent k).world ≡ length world
length-counted world (In h want) sent k only = length-amended _ world h
length-counted world (Out h offered) sent k only = length-amended _ world h
length-counted world (MessageIn h want) sent k only =
    length-message (amended world h without_message) k (slice_get (messages_at world h) 0) ∙ length-amended without_message world h
length-counted world (MessageOut h addr offered) sent k only = length-amended _ world h
length-counted world (ReadAt h pos want) sent k only = refl
length-counted world (WriteAt h pos offered) sent k only = length-amended _ world h
length-counted world (ToPipe h pipe want) sent k only = length-amended _ _ pipe ∙ length-amended _ world h
length-counted world (FromPipe pipe h want) sent k only = length-amended _ _ h ∙ length-amended _ world pipe
length-counted world (Accept h) sent k only = (let f : ⊥ = cc in absurd f)
length-counted world Open sent k only = (let f : ⊥ = cc in absurd f)
length-counted world (Connect h) sent k only = refl
length-counted world (Fsync h) sent k only = refl
length-counted world (PollAdd h read) sent k only = refl
length-counted world Path sent k only = refl

-- So does moving its bytes, whatever it answers.
pub length-moved : {P : Type 0} (stores : P → ℕ → List ℕ → P → Type 0) (takes_memory : ℕ → Bool) (call : Call) (k word : ℕ) (sent : List ℕ)
    (old new : List HandleState) (before after : P) (result : Result Outcome RunError) →
    MovesFor stores takes_memory call k word sent old new before after result → moves_only call ≡ true → length new ≡ length old
length-moved stores takes_memory call k word sent old new before after (Ok outcome) moved only =
    ap length moved.world ∙ length-counted old call sent k only
length-moved stores takes_memory call k word sent old new before after (Err NotAllowed) moved only = ap length moved.1
length-moved stores takes_memory call k word sent old new before after (Err OutOfMemory) moved only = ap length moved.2

-- So does a splice.
pub length-spliced : (call : Call) (k : ℕ) (old new : List HandleState) (result : Result Outcome RunError) →
    SplicesFor call k old new result →
    moves_only call ≡ true → length new ≡ length old
length-spliced call k old new (Ok outcome) moved only = ap length moved.2 ∙ length-counted old call [] k only
length-spliced call k old new (Err NotAllowed) moved only = ap length moved.1
length-spliced call k old new (Err OutOfMemory) moved only = ap length moved.2
