-- What the rounds of a run come to. Cited by `relay_all` and by the functions that it calls.
use Rattle.std.specs.Prelude.{ℕ, zero, suc, ◌≡◌, ◌≢◌, ◌≤◌, ◌<◌, ◌+◌, ◌-◌, ◌^◌, ◌++◌, Bool, IsPermutation, IsTrue, [], length, map, min}
use Rattle.std.specs.Prelude.{Result, Ok, Err}
use Rattle.rent_buf.specs.Counts.{Rose}
use Rattle.ready_driver.specs.Io.{IoView}
use Rattle.ready_driver.specs.Registry.{Handling}
use Rattle.ready_driver.specs.declared.non_block.NonBlockError.{NonBlockError}
use Rattle.ready_driver.specs.declared.non_block.NonBlockError.TheVariants as non_block
use Rattle.relay_net.specs.Connection.{near_of}
use Rattle.relay_net.specs.Keeping.{world_of}
use Rattle.relay_net.specs.Keyed.{AreRegistered, HasKeys}
use Rattle.relay_net.specs.Listening.{AreGoingBut, IsListener, MayListen}
use Rattle.relay_net.specs.Relay.{Serving, connections_in}
use Rattle.relay_net.specs.Relaying.{Relaying}
use Rattle.relay_net.specs.declared.round.RelayError.{RelayError}
use Rattle.relay_net.specs.declared.round.RelayError.TheVariants as relay_error
use Rattle.relay_net.specs.declared.round.Round.{Round}
use Rattle.relay_run.specs.declared.run.Relayed.{Relayed}
use Rattle.relay_run.specs.declared.run.Relayed.TheVariants.{Closed, Fault, OutOfMemory}

-- How many handles the object of a relay made.
abbrev pub made_of : {I : Type 0} → (I → IoView) → Relaying I → ℕ
made_of view relay = (view relay.driver.handling.io).made

-- A round was made behind others: it did to each connection what a round does, those that are open, ended and opened are each named once,
-- over handles in memory it opened one where there was a place, and left them registered, its object made as many handles at least as it
-- opened connections, it closed none where each handle but the listener was a stream whose end isn't marked, and those that it named as
-- closed were counted, as far as a `u64` counts. The listener and the limit stay.
pub record MakesRound {I : Type 0} (view : I → IoView) (tells memory : Bool) (mid : Relaying I) (before closed : ℕ) (now : Relaying I)
    : Type 0 where
  pub round : Round
  pub serving : Serving view tells mid.driver mid.open_ones now.driver now.open_ones round.closed round.failed
  pub names : IsPermutation (connections_in now.open_ones round.closed round.failed) (map near_of mid.open_ones ++ round.opened)
  pub accepts : IsTrue memory → MayListen view mid.driver mid.listener → length mid.open_ones < mid.limit → round.opened ≢ []
  pub keyed : IsTrue memory → HasKeys view mid.driver.handling → AreRegistered view now.driver now.listener now.open_ones
  pub grows : made_of view mid + length round.opened ≤ made_of view now
  pub closes : IsTrue tells → AreGoingBut mid.listener (world_of view mid.driver) → round.closed ≡ []
  pub counted : closed ≡ min (before + length round.closed) (2 ^ 64 - 1)
  pub listener : now.listener ≡ mid.listener
  pub limit : now.limit ≡ mid.limit

-- So many rounds were made, one behind another, and they closed so many connections.
abbrev pub MakesRounds : {I : Type 0} → (I → IoView) → Bool → Bool → Relaying I → ℕ → ℕ → Relaying I → Type 0
MakesRounds view tells memory start zero closed now = (closed ≡ 0) × (now ≡ start)
MakesRounds view tells memory start (suc count) closed now =
    (mid : Relaying _) × (before : ℕ) × MakesRounds view tells memory start count before mid
    × MakesRound view tells memory mid before closed now

-- A run that made its rounds has listened: the object's count of handles rose.
abbrev pub ListensFor : Relayed → ℕ → ℕ → Type 0
ListensFor (Closed count) before now = before < now
ListensFor Fault before now = Unit {0}
ListensFor OutOfMemory before now = Unit {0}

-- Without a round no connection was closed.
abbrev pub ClosesNone : ℕ → Relayed → Type 0
ClosesNone rounds (Closed count) = rounds ≡ 0 → count ≡ 0
ClosesNone rounds Fault = Unit {0}
ClosesNone rounds OutOfMemory = Unit {0}

-- An object is a world in memory that has made no handle.
pub record IsEmptyWorld (memory : Bool) (io : IoView) : Type 0 where
  pub is_memory : IsTrue memory
  pub world : io.world ≡ []
  pub keys : io.keys ≡ []
  pub made : io.made ≡ 0

-- A run that made its rounds closed no connection, and each of them opened one, up to so many: the object made a handle for each.
abbrev pub OpensEach : Relayed → ℕ → ℕ → ℕ → ℕ → Type 0
OpensEach (Closed count) limit rounds before now = (count ≡ 0) × (before + min limit rounds ≤ now)
OpensEach Fault limit rounds before now = Unit {0}
OpensEach OutOfMemory limit rounds before now = Unit {0}

-- What a run over an object comes to, by the object before it and behind it: a fault comes only where its count of faults rose, which never
-- falls; where all rounds were made it has listened, and without a round no connection was closed; and over an empty world in memory each
-- round opens a connection, beside the handle that listens.
pub record RunsOver (memory : Bool) (limit rounds : ℕ) (old new : IoView) (relayed : Relayed) : Type 0 where
  pub fault : relayed ≡ Fault → Rose old.faults new.faults
  pub order : old.faults ≤ new.faults
  pub listens : ListensFor relayed old.made new.made
  pub none : ClosesNone rounds relayed
  pub opens : IsEmptyWorld memory old → OpensEach relayed limit rounds (old.made + 1) new.made

-- A handle of a world in memory listens, each handle that is held is registered, and each other handle is a stream whose end isn't marked.
pub record IsListening {I : Type 0} (view : I → IoView) (all : Handling I) (listener : ℕ) : Type 0 where
  pub listens : IsListener (view all.io).world listener
  pub keyed : HasKeys view all
  pub going : AreGoingBut listener (view all.io).world

-- An object has listened since it was this one: its count of faults hasn't fallen, and it made a handle. If it was an empty world, that one
-- listens.
pub record HasListened {I : Type 0} (view : I → IoView) (memory : Bool) (before : IoView) (all : Handling I) (listener : ℕ) : Type 0 where
  pub order : before.faults ≤ (view all.io).faults
  pub made : (view all.io).made ≡ suc before.made
  pub listening : IsEmptyWorld memory before → IsListening view all listener

-- How a run ended whose object doesn't listen.
abbrev pub refused_by : NonBlockError → Relayed
refused_by (non_block.Fault code) = Fault
refused_by non_block.OutOfMemory = OutOfMemory

-- How a run ended whose rounds came to this.
abbrev pub ended_by : Result ℕ RelayError → Relayed
ended_by (Ok closed) = Closed closed
ended_by (Err relay_error.Fault) = Fault
ended_by (Err relay_error.OutOfMemory) = OutOfMemory
