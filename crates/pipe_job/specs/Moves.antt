-- What a poll of a job moves through its pipe, where the driver's object shows its handles. Cited by `PipeJob`.
use Rattle.std.specs.Prelude.{ℕ, ◌≡◌, ◌≢◌, Bool, true, false, IsTrue, List, [], ◌++◌}
use Rattle.rent_buf.specs.Rent.{Rented}
use Rattle.machine.specs.declared.world.HandleState.{HandleState}
use Rattle.machine.specs.Attempt.{kind_at}
use Rattle.machine.specs.World.{input_at, is_pipe}
use Rattle.ready_driver.specs.declared.ready.Direction.{Direction}
use Rattle.ready_driver.specs.declared.ready.Direction.TheVariants.{Read, Write}
use Rattle.ready_driver.specs.Io.{IoView}
use Rattle.ready_driver.specs.LegacyState.{LegacyState}
use Rattle.ready_driver.specs.Others.{MeetsNone}
use Rattle.ready_driver.specs.Ready.{mask_of, meets}
use Rattle.ready_driver.specs.Records.{Kept, io_at}
use Rattle.pipe_job.specs.Course.{Coursed, IsSameBytes, received_in, sent_in}

-- The handle of a number is there, and is a pipe.
abbrev pub is_pipe_at : List HandleState → ℕ → Bool
is_pipe_at world h = kind_at is_pipe world h

-- The bytes that join those that wait on a handle, as some are sent to it: these where it is a pipe, and else none.
abbrev pub joining : Bool → List ℕ → List ℕ
joining true bytes = bytes
joining false bytes = []

-- A bit of a handle meets a direction.
abbrev pub MeetsBit : Kept → ℕ → Direction → Type 0
MeetsBit records h dir = meets (io_at records h).ready (mask_of dir) ≡ true

-- What a poll of a job sent to its pipe, and what it received from it. Over a world in memory it sent some only where a bit of the pipe met
-- `Write` as the poll began, and received some only where one met `Read`. Where the object shows its handles, the bytes that waited on the
-- pipe, with those that were sent behind them, are those that were received, and then those that wait on it now.
pub record MovesBytes {I : Type 0} (view : I → IoView) (tells memory : Bool) (pipe : ℕ) (old new : LegacyState I Rented) : Type 0 where
  pub sent : List ℕ
  pub got : List ℕ
  pub writes : IsTrue memory → sent ≢ [] → MeetsBit old.handling.records pipe Write
  pub reads : IsTrue memory → got ≢ [] → MeetsBit old.handling.records pipe Read
  pub line : IsTrue tells → input_at (view old.handling.io).world pipe ++ joining (is_pipe_at (view old.handling.io).world pipe) sent
      ≡ got ++ input_at (view new.handling.io).world pipe

-- How far a job came between two moments of a poll, by what it sent and received: it receives only once all its bytes are sent. Its pipe
-- stays of its kind, and no bit comes to it.
pub record MovesOn {I : Type 0} (view : I → IoView) (tells memory : Bool) (was is : Coursed) (old new : LegacyState I Rented) : Type 0 where
  pub same : IsSameBytes was is
  pub moves : MovesBytes view tells memory was.pipe old new
  pub sends : sent_in is ≡ sent_in was ++ moves.sent
  pub gets : received_in is ≡ received_in was ++ moves.got
  pub after : moves.got ≢ [] → sent_in is ≡ is.bytes
  pub kind : IsTrue tells → is_pipe_at (view new.handling.io).world was.pipe ≡ is_pipe_at (view old.handling.io).world was.pipe
  pub unmet : (dir : Direction) → MeetsNone old.handling.records was.pipe dir → MeetsNone new.handling.records was.pipe dir

-- The bytes that wait on a job's pipe are the next ones that it is to receive, of those that it has sent: all of these, where its handle is
-- a pipe.
pub record HasOwn (world : List HandleState) (c : Coursed) : Type 0 where
  pub rest : List ℕ
  pub bytes : sent_in c ≡ received_in c ++ (input_at world c.pipe ++ rest)
  pub all : is_pipe_at world c.pipe ≡ true → rest ≡ []
