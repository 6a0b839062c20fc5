-- What `echo` and `relay` have done, by the status. Cited by `top`.
use Rattle.std.specs.Prelude.{ℕ, ◌≡◌, ◌≤◌, ◌+◌, Bool, IsTrue, List, ◌++◌, codes, decimal, min}
use Rattle.machine.specs.Counts.{Rose}
use Rattle.rent_io.specs.Call.{Writing}
use Rattle.ready_driver.specs.Io.{IoView}
use Rattle.relay_run.specs.Relaying.{IsEmptyWorld}
use Rattle.session_core.specs.declared.command.Command.{Command}
use Rattle.session_core.specs.declared.command.Command.TheVariants.{Relay}
use Rattle.session_core.specs.declared.top.Status.{Status}
use Rattle.session_core.specs.declared.top.Status.TheVariants.{Done, WriteFault, OutOfMemory, NetFault}
use Rattle.session_core.specs.Top.{WrotePrefix, ended}
use Rattle.session_core.specs.Writes.{Untouched}

-- What is written of so many connections that were closed: `closed`, their number and a newline.
abbrev pub closed_text : ℕ → List ℕ
closed_text n = ended (codes "closed " ++ decimal n)

-- So many connections were closed in these rounds, and that was written: none without a round.
pub record WroteClosed (tells : Bool) (rounds : ℕ) (sink : Writing) : Type 0 where
  pub closed : ℕ
  pub none : rounds ≡ 0 → closed ≡ 0
  pub written : IsTrue tells → sink.now ≡ sink.taken ++ closed_text closed
  pub flushed : IsTrue sink.flushed

-- A prefix of that was written, and the sink failed.
pub record CutClosed (tells : Bool) (rounds : ℕ) (sink : Writing) : Type 0 where
  pub closed : ℕ
  pub none : rounds ≡ 0 → closed ≡ 0
  pub prefix : IsTrue tells → WrotePrefix (closed_text closed) sink.taken sink.now
  pub rose : Rose sink.faults sink.later

-- What `echo` and `relay` have done to a sink, by the status. They have no other status than these four.
abbrev pub RelaysFor : Bool → ℕ → Writing → Status → Type 0
RelaysFor tells rounds sink Done = WroteClosed tells rounds sink
RelaysFor tells rounds sink WriteFault = CutClosed tells rounds sink
RelaysFor tells rounds sink OutOfMemory = Untouched tells sink.taken sink.now sink.faults sink.later
RelaysFor tells rounds sink NetFault = Untouched tells sink.taken sink.now sink.faults sink.later
RelaysFor tells rounds sink _ = ⊥

-- Over an empty world in memory they wrote that none was closed, and the object made a handle that listens, and one for each round, up to
-- so many.
pub record WroteOpened (tells : Bool) (limit rounds : ℕ) (sink : Writing) (before now : ℕ) : Type 0 where
  pub written : IsTrue tells → sink.now ≡ sink.taken ++ closed_text 0
  pub opened : before + 1 + min limit rounds ≤ now

-- So it is where they are done. Of their other statuses nothing is said.
abbrev pub OpensFor : Bool → Bool → ℕ → ℕ → Writing → IoView → IoView → Status → Type 0
OpensFor tells memory limit rounds sink old new Done = IsEmptyWorld memory old → WroteOpened tells limit rounds sink old.made new.made
OpensFor tells memory limit rounds sink old new _ = Unit {0}

-- The same by the command. Of each other command nothing is said.
abbrev pub CommandOpens : Bool → Bool → Command → Writing → IoView → IoView → Status → Type 0
CommandOpens tells memory (Relay plan) sink old new status = OpensFor tells memory plan.limit plan.rounds sink old new status
CommandOpens tells memory _ sink old new status = Unit {0}
