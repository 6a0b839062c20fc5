-- What the steps of a direction do. Cited by `flow`.
use Rattle.std.specs.Prelude.{ℕ, ◌≡◌, IsTrue, Bool, List, Option}
use Rattle.rent_buf.specs.declared.plain.Buf.{Buf}
use Rattle.ready_driver.specs.Io.{IoView, IsLater}
use Rattle.ready_driver.specs.LegacyState.{LegacyState, ops_in}
use Rattle.machine.specs.declared.world.HandleState.{HandleState}
use Rattle.net_stream.specs.Told.{IsStream}
use Rattle.relay_net.specs.Flow.{FitsStage, IsElse, held_in, line}
use Rattle.relay_net.specs.Keeping.{CameFor, HasEnded, KeepsOps, KeepsUsers, LeavesFlow, Stays, StopsIf, world_of}
use Rattle.relay_net.specs.declared.flow.Came.{Came}
use Rattle.relay_net.specs.declared.flow.Came.TheVariants.{Goes, Ended, Failed, Stopped}
use Rattle.relay_net.specs.declared.flow.Stage.{Stage}
use Rattle.relay_net.specs.declared.round.RelayError.{RelayError}

-- A direction submitted what it wants, if it wants anything: it holds what it held, and no bytes moved. Or it was stopped.
pub record Begins {I : Type 0} (view : I → IoView) (tells : Bool) (old new : LegacyState I Buf) (room from to : ℕ) (held : List ℕ)
    (stage : Stage) (stop : Option RelayError) : Type 0 where
  pub fits : FitsStage room (ops_in new) from to stage
  pub stays : Stays view tells old new
  pub held_is : held_in (ops_in new) stage ≡ held
  pub stops : StopsIf (view old.handling.io) (view new.handling.io) stop

-- A receive brought the end only where its handle has ended.
abbrev pub EndsAt : List HandleState → ℕ → Came → Type 0
EndsAt world from Ended = HasEnded world from
EndsAt world from Goes = Unit {0}
EndsAt world from (Failed error) = Unit {0}
EndsAt world from (Stopped why) = Unit {0}

-- A direction between two streams that held these bytes has the bytes on their way that it had, and nothing else has changed.
pub record Flows {I : Type 0} (view : I → IoView) (tells : Bool) (old new : LegacyState I Buf) (room from to : ℕ) (held : List ℕ)
    (stage : Stage) (came : Came) : Type 0 where
  pub fits : FitsStage room (ops_in new) from to stage
  pub leaves : LeavesFlow view tells old from to new
  pub line_is : IsTrue tells → IsStream (world_of view old) from → IsStream (world_of view old) to →
      line (world_of view new) from to (held_in (ops_in new) stage) ≡ line (world_of view old) from to held
  pub cause : CameFor (view old.handling.io) (view new.handling.io) came
  pub ended : IsTrue tells → EndsAt (world_of view new) from came

-- What waited for a direction was dropped, and nothing else has changed.
pub record Abandons {I : Type 0} (view : I → IoView) (tells : Bool) (old : LegacyState I Buf) (from to : ℕ) (new : LegacyState I Buf)
    : Type 0 where
  pub later : IsLater (view old.handling.io) (view new.handling.io)
  pub users : KeepsUsers old.handling.table new.handling.table
  pub ops : KeepsOps (IsElse from to) (ops_in old) (ops_in new)
  pub world : IsTrue tells → world_of view new ≡ world_of view old
  pub made : (view new.handling.io).made ≡ (view old.handling.io).made
