-- An object whose calls don't wait, as its callers see it, and what its calls do. Cited by `NonBlock`.
use Rattle.std.specs.Prelude.{ℕ, suc, ◌≡◌, ◌≤◌, ◌+◌, ◌-◌, ◌^◌, ◌⊎◌, Bool, true, IsTrue, List, [], ◌∷◌, length, min, Option, None}
use Rattle.std.specs.Prelude.{Result, Ok, Err}
use Rattle.rent_buf.specs.Buffer.{Buffer}
use Rattle.rent_buf.specs.Parts.{Parts}
use Rattle.rent_buf.specs.Counts.{Rose}
use Rattle.machine.specs.declared.request.TheConstants.{MOST_ASKED}
use Rattle.machine.specs.declared.request.Request.{Request}
use Rattle.machine.specs.declared.request.Request.TheVariants.{SpliceTo, SpliceFrom}
use Rattle.machine.specs.declared.request.Way.{Way}
use Rattle.machine.specs.declared.request.Way.TheVariants.{Reads, Sends, Neither}
use Rattle.machine.specs.declared.request.Told.{Told}
use Rattle.machine.specs.declared.request.Told.TheVariants.{Count as Counts, Fail as Fails}
use Rattle.machine.specs.declared.request.Outcome.{Outcome}
use Rattle.machine.specs.declared.request.Outcome.TheVariants.{Count, From, Made, Fail}
use Rattle.machine.specs.declared.world.HandleState.{HandleState}
use Rattle.machine.specs.Lists.{has_number}
use Rattle.machine.specs.Request.{named, call_of, makes, way_of, held_of, held_want, held_after, held, sent_of, IsHolding}
use Rattle.machine.specs.Outcome.{may_count}
use Rattle.machine.specs.Attempt.{attempt, is_readable_at}
use Rattle.machine.specs.Effect.{made_by}
use Rattle.machine.specs.WorldCall.{IsCalled, call_effect}
use Rattle.driver_core.specs.declared.operations.calls.CallAnswer.{CallAnswer}
use Rattle.driver_core.specs.declared.operations.calls.CallAnswer.TheVariants.{Done, WouldBlock, OutOfMemory}
use Rattle.ready_driver.specs.declared.non_block.Report.{Report}
use Rattle.ready_driver.specs.declared.non_block.NonBlockError.{NonBlockError}
use Rattle.ready_driver.specs.declared.non_block.NonBlockError.TheVariants.{Fault, OutOfMemory as NoMemory}
use Rattle.ready_driver.specs.Reports.{is_keyed, with_key, with_made_key, ShowsBits}

-- An object: how often a call of it failed as a whole, would have blocked, and ended with an error; the number of its last call that
-- failed as a whole; how often it waited, but for waits that ended with an error, and how often it was asked to close a handle; how many
-- handles it made; its handles; by handle, the key that it is registered with, if it is; which handles are due, as the next wait reports
-- them; what it reports; and the limit of its last wait, in milliseconds. Every object shows its counts, that number and that limit. The
-- rest means something only where the object shows it.
pub record IoView : Type 0 where
  pub faults : ℕ
  pub blocks : ℕ
  pub fails : ℕ
  pub last_fault : ℕ
  pub waits : ℕ
  pub closes : ℕ
  pub made : ℕ
  pub world : List HandleState
  pub keys : List (Option ℕ)
  pub due : List ℕ
  pub reports : List Report
  pub limit : Option ℕ

-- A handle is due, if it is registered.
abbrev pub IsDue : IoView → ℕ → Type 0
IsDue io h = is_keyed io.keys h ≡ true → has_number h io.due ≡ true

-- A handle is due, or these bits show it, if it is registered.
abbrev pub IsShown : IoView → ℕ → ℕ → Type 0
IsShown io h ready = is_keyed io.keys h ≡ true → (has_number h io.due ≡ true) ⊎ ShowsBits (is_readable_at io.world h) ready

-- Bits that showed a handle show it still, or the handle is due.
abbrev pub KeepsShown : IoView → IoView → Type 0
KeepsShown old new = (h ready : ℕ) → IsShown old h ready → IsShown new h ready

-- Each of these handles is due.
abbrev pub AreDue : IoView → List ℕ → Type 0
AreDue io handles = (h : ℕ) → has_number h handles ≡ true → IsDue io h

-- A count is one more, or stays the last value of a `u64`.
abbrev pub one_more : ℕ → ℕ
one_more count = min (count + 1) (2 ^ 64 - 1)

-- How often an object was asked to close a handle, once it was for each of these.
abbrev pub closes_after : ℕ → List ℕ → ℕ
closes_after closes [] = closes
closes_after closes (h ∷ handles) = closes_after (one_more closes) handles

-- The counts never fall.
pub record IsLater (old new : IoView) : Type 0 where
  pub faults : old.faults ≤ new.faults
  pub blocks : old.blocks ≤ new.blocks
  pub fails : old.fails ≤ new.fails

-- No call was counted: none that failed as a whole, would have blocked or ended with an error.
pub record IsUncounted (old new : IoView) : Type 0 where
  pub faults : new.faults ≡ old.faults
  pub blocks : new.blocks ≡ old.blocks
  pub fails : new.fails ≡ old.fails

-- The count of errors rose where a call ended with one.
abbrev pub FailRose : Outcome → ℕ → ℕ → Type 0
FailRose (Count k) before now = Unit {0}
FailRose (From k addr) before now = Unit {0}
FailRose (Made h) before now = Unit {0}
FailRose (Fail e) before now = Rose before now

-- How many handles an object made, after a call that ended so: one more where it made one.
abbrev pub made_after : Outcome → ℕ → ℕ
made_after (Count k) made = made
made_after (From k addr) made = made
made_after (Made h) made = suc made
made_after (Fail e) made = made

-- A request has k bytes that came stored in what it holds; it asked for as many at least.
pub record IsFilled (request : Request Buffer Parts) (now : Request Buffer Parts) (k : ℕ) : Type 0 where
  pub bytes : List ℕ
  pub count : length bytes ≡ k
  pub wanted : k ≤ held_want (held_of request)
  pub holds : IsHolding request (held_after request bytes) now

-- The most that a request without a buffer moves: what a splice asks for; another moves nothing.
abbrev pub most_spliced : {B V : Type 0} → Request B V → ℕ
most_spliced (SpliceTo fd pipe len) = min len MOST_ASKED
most_spliced (SpliceFrom pipe fd len) = min len MOST_ASKED
most_spliced _ = 0

-- What became of a request after a count, by the way that its bytes go.
abbrev pub CountsFor : Way → Request Buffer Parts → Request Buffer Parts → ℕ → Type 0
CountsFor Reads request now k = IsFilled request now k
CountsFor Sends request now k = (k ≤ length (sent_of request)) × (now ≡ request)
CountsFor Neither request now k = (k ≤ most_spliced request) × (now ≡ request)

-- What became of a request: only one that makes handles makes one, and then it is as it was, as it is after an error.
abbrev pub EndsFor : Request Buffer Parts → Request Buffer Parts → Outcome → Type 0
EndsFor request now (Count k) = CountsFor (way_of request) request now k
EndsFor request now (From k addr) = CountsFor (way_of request) request now k
EndsFor request now (Made h) = (makes request ≡ true) × (now ≡ request)
EndsFor request now (Fail e) = now ≡ request

-- A reported outcome is an error, or a count that the machine allows to a call on these handles.
abbrev pub MayEnd : List HandleState → Request Buffer Parts → Told → Type 0
MayEnd world request (Counts k) = may_count world (call_of request) k ≡ true
MayEnd world request (Fails e) = Unit {0}

-- A call moved what the machine moves with a report that may end it.
pub record IsMoved (old : List HandleState) (request : Request Buffer Parts) (new : List HandleState) (now : Request Buffer Parts)
    (outcome : Outcome) : Type 0 where
  pub told : Told
  pub may : MayEnd old request told
  pub outcome_is : outcome ≡ (call_effect old request told).outcome
  pub world : new ≡ (call_effect old request told).world
  pub holds : IsHolding request (held request told (call_effect old request told).got) now

-- A call was made, and closed nothing. An object that shows its handles moved what the machine moves; a world in memory made the call as
-- such a world does, and a handle that it made isn't registered.
pub record IsMade (tells memory : Bool) (old : IoView) (request : Request Buffer Parts) (new : IoView) (now : Request Buffer Parts)
    (outcome : Outcome) : Type 0 where
  pub later : IsLater old new
  pub fails : FailRose outcome old.fails new.fails
  pub made : new.made ≡ made_after outcome old.made
  pub closes : new.closes ≡ old.closes
  pub ends : EndsFor request now outcome
  pub moved : IsTrue tells → IsMoved old.world request new.world now outcome
  pub called : IsTrue memory → IsCalled old.world request new.world now outcome × (new.keys ≡ with_made_key (made_by outcome) old.keys)
  pub shown : IsTrue memory → KeepsShown old new

-- A call wasn't made: the request is as it was, and so are the handles and what is registered.
pub record IsUnmade (tells memory : Bool) (old : IoView) (request : Request Buffer Parts) (new : IoView) (now : Request Buffer Parts) :
    Type 0 where
  pub later : IsLater old new
  pub same : now ≡ request
  pub made : new.made ≡ old.made
  pub closes : new.closes ≡ old.closes
  pub world : IsTrue tells → new.world ≡ old.world
  pub keys : IsTrue memory → new.keys ≡ old.keys
  pub shown : IsTrue memory → KeepsShown old new

-- What the call of a request answers and leaves. `WouldBlock` comes only where its count rose; of a world in memory, exactly where the call
-- isn't made at once, and then each handle that the request names is due. Where memory ran out nothing was counted.
abbrev pub CallsFor : Bool → Bool → IoView → Request Buffer Parts → IoView → Request Buffer Parts → CallAnswer → Type 0
CallsFor tells memory old request new now (Done outcome) = IsMade tells memory old request new now outcome
CallsFor tells memory old request new now WouldBlock =
    IsUnmade tells memory old request new now × Rose old.blocks new.blocks
    × (IsTrue memory → (attempt old.world (call_of request) ≡ None) × AreDue new (named request))
CallsFor tells memory old request new now OutOfMemory = IsUnmade tells memory old request new now × IsUncounted old new

-- A call that moves nothing: it made no handle, so many closes were asked for in all, the handles are as they were, and these keys are
-- registered. Bits that showed a handle show it still, or the handle is due.
pub record IsStill (tells memory : Bool) (old new : IoView) (keys : List (Option ℕ)) (closes : ℕ) : Type 0 where
  pub later : IsLater old new
  pub made : new.made ≡ old.made
  pub closes_are : new.closes ≡ closes
  pub world : IsTrue tells → new.world ≡ old.world
  pub keys_are : IsTrue memory → new.keys ≡ keys
  pub shown : IsTrue memory → KeepsShown old new

-- A wait moves nothing: it made no handle, and the handles and what is registered are as they were.
pub record IsWaited (tells memory : Bool) (old new : IoView) : Type 0 where
  pub later : IsLater old new
  pub made : new.made ≡ old.made
  pub closes : new.closes ≡ old.closes
  pub world : IsTrue tells → new.world ≡ old.world
  pub keys_are : IsTrue memory → new.keys ≡ old.keys

-- Why a call failed: `Fault` comes only where its count rose, with the number that the object shows, and never of a world in memory. Where
-- memory ran out the count stays.
abbrev pub FaultsFor : Bool → IoView → IoView → NonBlockError → Type 0
FaultsFor memory old new (Fault code) = Rose old.faults new.faults × (IsTrue memory → ⊥) × (new.last_fault ≡ code)
FaultsFor memory old new NoMemory = new.faults ≡ old.faults

-- What registering a handle, or taking that back, answers and leaves. Done, it counts no fault. A world in memory always does it, and a
-- handle that it registered is due.
abbrev pub RegistersFor : Bool → Bool → ℕ → Option ℕ → IoView → IoView → Result Unit NonBlockError → Type 0
RegistersFor tells memory h key old new (Ok done) =
    IsStill tells memory old new (with_key old.keys h key) old.closes × (IsTrue memory → IsDue new h) × (new.faults ≡ old.faults)
RegistersFor tells memory h key old new (Err why) =
    IsStill tells memory old new old.keys old.closes × FaultsFor memory old new why × (IsTrue memory → ⊥)

-- What closing a handle answers and leaves: it counts as one close, and the handle isn't registered. A world in memory answers the count 0.
pub record IsClosed (tells memory : Bool) (h : ℕ) (old new : IoView) (outcome : Outcome) : Type 0 where
  pub still : IsStill tells memory old new (with_key old.keys h None) (one_more old.closes)
  pub outcome_is : IsTrue memory → outcome ≡ Count 0

-- What a wait with a limit answers and leaves. An object that shows its reports puts just these into the list; after an error there is
-- none. Of a world in memory no handle is due any more, and after an error just those that were. The object counts the wait and shows the
-- limit, unless the wait ended with an error.
abbrev pub WaitsFor : Bool → Bool → Bool → Option ℕ → IoView → IoView → List Report → Result Unit NonBlockError → Type 0
WaitsFor tells reporting memory limit old new reports (Ok done) =
    IsWaited tells memory old new × (IsTrue reporting → reports ≡ old.reports) × (IsTrue memory → new.due ≡ [])
    × (new.limit ≡ limit) × (new.waits ≡ one_more old.waits) × (new.faults ≡ old.faults)
WaitsFor tells reporting memory limit old new reports (Err why) =
    IsWaited tells memory old new × FaultsFor memory old new why × (reports ≡ []) × (IsTrue memory → new.due ≡ old.due)
    × (new.waits ≡ old.waits)
