-- Sockets of the system as an object whose calls don't wait. Cited by `MioIo`.
use Rattle.std.specs.Prelude.{ℕ, suc, ◌≡◌, ◌≤◌, Bool, true, false, [], length, take, Option, Some, None, List, Result, Ok, Err}
use Rattle.std.specs.Prelude.{is_some, refl}
use Rattle.std.specs.FinMap as finite
use Rattle.std.specs.Coded.{Coded, code_by, coded×, coded_ℕ, coded_option, coded_list}
use Rattle.rent_buf.specs.Buffer.{Buffer}
use Rattle.rent_buf.specs.Parts.{Parts}
use Rattle.machine.specs.declared.request.Request.{Request}
use Rattle.machine.specs.declared.request.Call.{Call}
use Rattle.machine.specs.declared.request.Call.TheVariants.{In, Out, Accept, PollAdd}
use Rattle.machine.specs.declared.request.Outcome.{Outcome}
use Rattle.machine.specs.declared.request.Outcome.TheVariants.{Count, Made, Fail}
use Rattle.machine.specs.declared.world.HandleKind.{HandleKind}
use Rattle.machine.specs.declared.world.HandleKind.TheVariants.{Stream}
use Rattle.machine.specs.declared.world.call.TheConstants.{INVALID}
use Rattle.machine.specs.Request.{call_of, held_after, IsHolding}
use Rattle.driver_core.specs.declared.operations.calls.CallAnswer.{CallAnswer}
use Rattle.driver_core.specs.declared.operations.calls.CallAnswer.TheVariants.{Done, OutOfMemory as NoMemory}
use Rattle.socket_io.specs.declared.mio_io.TheConstants.{UNSUPPORTED}
use Rattle.socket_io.specs.declared.mio_io.counts.Counts.{Counts}
use Rattle.ready_driver.specs.declared.non_block.NonBlockError.{NonBlockError}
use Rattle.ready_driver.specs.declared.non_block.Report.{Report}
use Rattle.ready_driver.specs.Io.{IoView, CallsFor}
use Rattle.socket_io.specs.Counted.{IsCounted, SaysNothing}
use Rattle.socket_io.specs.SocketTable.{Kinds, OpenSockets, is_listener, is_stream}
use Rattle.socket_io.specs.Polled.{Polled, unreported_in}

-- What was asked of sockets: how often they waited, but for waits that ended with an error, and were asked to close a handle; and the limit
-- of the last wait.
pub record Asks : Type 0 where
  pub waits : ℕ
  pub closes : ℕ
  pub limit : Option ℕ

-- Sockets: how many handles were made, and which are open; the counts of their calls; what was asked of them; how often the system
-- reported, and what it reported last, if memory ran out for that and no wait has passed it on; and the bytes of the last read, with what
-- is behind them.
pub record Host : Type 0 where
  pub made : ℕ
  pub kinds : Kinds
  pub counts : Counts
  pub asks : Asks
  pub polls : ℕ
  pub unreported : Option (List Report)
  pub room : List ℕ

-- They are stored as the tuple of their fields.
abbrev pub host_code : Coded HandleKind → Coded Counts → Coded Report → Coded Host
host_code kind counts report = code_by
    (Kinds × (ℕ × (Counts × ((ℕ × (ℕ × Option ℕ)) × (ℕ × (Option (List Report) × List ℕ))))))
    (coded× (finite.code coded_ℕ kind) (coded× coded_ℕ (coded× counts (coded× (coded× coded_ℕ (coded× coded_ℕ (coded_option coded_ℕ)))
    (coded× coded_ℕ (coded× (coded_option (coded_list report)) (coded_list coded_ℕ)))))))
    (λ h. (h.kinds, (h.made, (h.counts, ((h.asks.waits, (h.asks.closes, h.asks.limit)), (h.polls, (h.unreported, h.room)))))))
    (λ p. record {
      made = p.1.0;
      kinds = p.0;
      counts = p.1.1.0;
      asks = record { waits = p.1.1.1.0.0; closes = p.1.1.1.0.1.0; limit = p.1.1.1.0.1.1 };
      polls = p.1.1.1.1.0;
      unreported = p.1.1.1.1.1.0;
      room = p.1.1.1.1.1.1;
    })
    (λ _. refl)

-- A table of sockets, with counts, what was asked of them, what the system reported, and the bytes of the last read.
abbrev pub host_of : OpenSockets → Counts → Asks → Polled → List ℕ → Host
host_of table counts asks polled room = record {
  made = table.made;
  kinds = table.kinds;
  counts = counts;
  asks = asks;
  polls = polled.polls;
  unreported = unreported_in polled;
  room = room;
}

-- None, and no call so far.
abbrev pub no_sockets : Host
no_sockets = record {
  made = 0;
  kinds = finite.empty;
  counts = record { faults = 0; last_fault = 0; blocks = 0; fails = 0 };
  asks = record { waits = 0; closes = 0; limit = Some 0 };
  polls = 0;
  unreported = None;
  room = [];
}

-- As an object they show their counts, and the limit of the last wait, alone.
abbrev pub host_view : Host → IoView
host_view host = record {
  faults = host.counts.faults;
  blocks = host.counts.blocks;
  fails = host.counts.fails;
  last_fault = host.counts.last_fault;
  waits = host.asks.waits;
  closes = host.asks.closes;
  made = host.made;
  world = [];
  keys = [];
  due = [];
  reports = [];
  limit = host.asks.limit;
}

-- The requests that are made on sockets: accepts, reads and sends of streams, and waits for readiness.
abbrev pub is_made_here : Call → Bool
is_made_here (In h ask) = true
is_made_here (Out h ask) = true
is_made_here (Accept h) = true
is_made_here (PollAdd h read) = true
is_made_here _ = false

-- A handle of a kind was made: it has the next number.
abbrev pub with_handle : Host → HandleKind → Host
with_handle host kind = record host { made = suc host.made; kinds = finite.insert host.kinds host.made kind }

-- What calls of requests keep: what was asked of sockets, and what the system reported.
pub record KeepsAsks (old new : Host) : Type 0 where
  pub asks : new.asks ≡ old.asks
  pub polls : new.polls ≡ old.polls
  pub unreported : new.unreported ≡ old.unreported

-- A call that moved nothing: the handles are as they were, and it was counted.
pub record IsRefused (old new : Host) (answer : CallAnswer) : Type 0 where
  pub made : new.made ≡ old.made
  pub kinds : new.kinds ≡ old.kinds
  pub asks : KeepsAsks old new
  pub nothing : SaysNothing answer
  pub counted : IsCounted old.counts new.counts answer

-- What an accept answers and leaves: it made a stream, or moved nothing.
abbrev pub AcceptsFor : Host → Host → CallAnswer → Type 0
AcceptsFor old new (Done (Made h)) = (h ≡ old.made) × (new ≡ with_handle old Stream)
AcceptsFor old new answer = IsRefused old new answer

-- What a call answers and leaves that moves bytes out of a request, at most so many.
abbrev pub MovesFor : ℕ → Host → Host → CallAnswer → Type 0
MovesFor most old new (Done (Count k)) = (k ≤ most) × (new ≡ old)
MovesFor most old new answer = IsRefused old new answer

-- A request has the first k bytes that were read stored in what it holds, of so many at most.
pub record IsRead (most : ℕ) (room : List ℕ) (request now : Request Buffer Parts) (k : ℕ) : Type 0 where
  pub count : length (take k room) ≡ k
  pub within : k ≤ most
  pub holds : IsHolding request (held_after request (take k room)) now

-- What a call answers and leaves that reads at most so many bytes into what a request holds.
abbrev pub ReceivesFor : ℕ → Host → Request Buffer Parts → Host → Request Buffer Parts → CallAnswer → Type 0
ReceivesFor most old request new now (Done (Count k)) = IsRead most new.room request now k × (new ≡ record old { room = new.room })
ReceivesFor most old request new now answer = IsRefused old new answer × (now ≡ request)

-- A call that read k bytes stored the first k of those that the sockets show as read.
abbrev pub StoresRead : Call → List ℕ → Request Buffer Parts → Request Buffer Parts → CallAnswer → Type 0
StoresRead (In h ask) room request now (Done (Count k)) = IsRead ask room request now k
StoresRead call room request now answer = Unit {0}

-- A call that made a handle numbers it by how many there were.
abbrev pub IsNumbered : CallAnswer → ℕ → Type 0
IsNumbered (Done (Made h)) made = h ≡ made
IsNumbered _ made = Unit {0}

-- The handle that a call names is open, and of the call's kind.
abbrev pub is_fit : Call → Kinds → Bool
is_fit (In h ask) kinds = is_stream (finite.get kinds h)
is_fit (Out h ask) kinds = is_stream (finite.get kinds h)
is_fit (Accept h) kinds = is_listener (finite.get kinds h)
is_fit (PollAdd h read) kinds = is_some (finite.get kinds h)
is_fit _ kinds = true

-- An answer says that a call isn't fit for its handle, unless memory ran out before that was seen.
abbrev pub IsInvalid : CallAnswer → Type 0
IsInvalid (Done (Fail e)) = e ≡ INVALID
IsInvalid NoMemory = Unit {0}
IsInvalid _ = ⊥

-- The handles after a call that answered this: one that it made is a stream.
abbrev pub kinds_after : CallAnswer → Kinds → Kinds
kinds_after (Done (Made h)) kinds = finite.insert kinds h Stream
kinds_after _ kinds = kinds

-- How the close of a handle ends: well, if it is open.
abbrev pub closed_as : Option HandleKind → Outcome
closed_as (Some kind) = Count 0
closed_as None = Fail INVALID

-- The handles after listening, or dialling.
abbrev pub kinds_given : HandleKind → Result ℕ NonBlockError → Kinds → Kinds
kinds_given kind (Ok h) kinds = finite.insert kinds h kind
kinds_given kind (Err why) kinds = kinds

-- What the call of a request on sockets answers and leaves. A handle that it makes is a stream, and has the next number. The bytes that it
-- stores are those at the start of the room, which they show. A request that isn't made here ends with an error, and so does one on a
-- handle that isn't open, or is of another kind.
pub record HostCalls (old : Host) (request : Request Buffer Parts) (new : Host) (now : Request Buffer Parts) (answer : CallAnswer) :
    Type 0 where
  pub calls : CallsFor false false (host_view old) request (host_view new) now answer
  pub counted : IsCounted old.counts new.counts answer
  pub numbered : IsNumbered answer old.made
  pub stores : StoresRead (call_of request) new.room request now answer
  pub asks : KeepsAsks old new
  pub kinds : new.kinds ≡ kinds_after answer old.kinds
  pub unmade : is_made_here (call_of request) ≡ false → answer ≡ Done (Fail UNSUPPORTED)
  pub unfit : is_fit (call_of request) old.kinds ≡ false → IsInvalid answer
