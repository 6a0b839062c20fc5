-- What `unframe` has done, by its words and its status.
use Rattle.std.proofs.Common.{◌≡◌, ◌≤◌, inl, inr, refl, subst, Bool, IsTrue, ℕ, List, Option, Some, length, arith}
use Rattle.session_core.specs.declared.command.Command.{Command}
use Rattle.session_core.specs.declared.command.Command.TheVariants.{Run, Ready, Generate, Trace, Wake, Copy, Unframe, Relay, Tasks}
use Rattle.session_core.specs.declared.input.TheConstants.{MOST_INPUT}
use Rattle.session_core.specs.declared.top.Kept.{Kept}
use Rattle.session_core.specs.declared.top.Status.{Status}
use Rattle.session_core.specs.declared.top.Status.TheVariants.{Done, BadWords, BadLine, TooLong}
use Rattle.session_core.specs.declared.top.Status.TheVariants.{ReadFault, WriteFault, OutOfMemory, NetFault, BadFrame}
use Rattle.session_core.specs.Command.{IsTasks, IsUnframe, ReadsCommand, ReadsNothing}
use Rattle.session_core.specs.Complete.{IsReadOrShort, NoneRose}
use Rattle.session_core.specs.DriverKind.{completion, readiness}
use Rattle.session_core.specs.Top.{unread}
use Rattle.session_core.specs.Ends.{CommandEnds, Reading, RanShort, StatusFor, UnframesFor, Writing}
use Rattle.session_core.proofs.Commands.{not-run-unframe, not-ready-unframe, not-generate-unframe, not-wake-unframe, not-copy-unframe}
use Rattle.session_core.proofs.Commands.{trace-alone}
use Rattle.session_core.proofs.Completing.{few-taken}
use Rattle.session_core.proofs.Reading.{never-wrong}
use Rattle.session_core.proofs.RelayWords.{few-no-relay}
use Rattle.session_core.proofs.TaskWords.{tasks-alone}

-- What a command has done where its words are those of `unframe`.
pub unframe-ends : (ts tk : Bool) (words : List (List ℕ)) (command : Command) (source : Reading) (sink : Writing) (kept : Option Kept)
    (status : Status) →
    ReadsCommand words (Some command) → IsUnframe words → CommandEnds ts tk command source sink kept status →
    UnframesFor ts tk source sink status
unframe-ends ts tk words (Run c) source sink kept status reads unframe ends = absurd (not-run-unframe words c reads unframe)
unframe-ends ts tk words Ready source sink kept status reads unframe ends = absurd (not-ready-unframe words reads unframe)
unframe-ends ts tk words (Generate s r) source sink kept status reads unframe ends = absurd (not-generate-unframe words s r reads unframe)
unframe-ends ts tk words (Trace s r) source sink kept status reads unframe ends = absurd (trace-alone words s r Unframe reads unframe)
unframe-ends ts tk words (Wake s c) source sink kept status reads unframe ends = absurd (not-wake-unframe words s c reads unframe)
unframe-ends ts tk words (Copy c word) source sink kept status reads unframe ends =
    absurd (not-copy-unframe words c reads.prefix reads.is_copy unframe)
unframe-ends ts tk words Unframe source sink kept status reads unframe ends = ends
unframe-ends ts tk words (Relay plan) source sink kept status reads unframe ends = absurd (few-no-relay plan unframe (omega arith) reads)
unframe-ends ts tk words Tasks source sink kept status reads unframe ends = absurd (tasks-alone words Unframe reads unframe)

-- What `unframe` has done is what every command has done.
pub unframe-status : (ts tk : Bool) (source : Reading) (sink : Writing) (status : Status) → UnframesFor ts tk source sink status →
    StatusFor ts tk source sink status
unframe-status ts tk source sink Done ends = ends.flushed
unframe-status ts tk source sink BadWords ends = ends
unframe-status ts tk source sink BadLine ends = absurd ends
unframe-status ts tk source sink TooLong ends = ends.0
unframe-status ts tk source sink ReadFault ends = ends.0
unframe-status ts tk source sink WriteFault ends = ends.0
unframe-status ts tk source sink OutOfMemory ends = record {
  few = λ told.
      let few = ends.0.few told in
      record { count = few.0; few = few.1; taken = few.2.taken };
  calm = record { read = ends.0.read; wrote = ends.0.wrote };
}
unframe-status ts tk source sink NetFault ends = tt
unframe-status ts tk source sink BadFrame ends = tt

-- Bytes that aren't too many, where nothing fails.
pub unframe-complete : (ts tk : Bool) (source : Reading) (sink : Writing) (status : Status) → IsTrue ts → length source.left ≤ MOST_INPUT →
    NoneRose source sink → UnframesFor ts tk source sink status → IsReadOrShort status
unframe-complete ts tk source sink Done told few calm ends = inl refl
unframe-complete ts tk source sink BadWords told few calm ends = absurd ends
unframe-complete ts tk source sink BadLine told few calm ends = absurd ends
unframe-complete ts tk source sink TooLong told few calm ends = absurd (few-taken source.left source.rest few (ends.0 told))
unframe-complete ts tk source sink ReadFault told few calm ends = absurd (calm.read ends.0)
unframe-complete ts tk source sink WriteFault told few calm ends = absurd (calm.wrote ends.0)
unframe-complete ts tk source sink OutOfMemory told few calm ends = inr (inr refl)
unframe-complete ts tk source sink NetFault told few calm ends = absurd ends
unframe-complete ts tk source sink BadFrame told few calm ends = inr (inl refl)

-- A wrong piece is found only by `unframe`.
frame-ends : (ts tk : Bool) (words : List (List ℕ)) (command : Command) (source : Reading) (sink : Writing) (kept : Option Kept) →
    ReadsCommand words (Some command) → CommandEnds ts tk command source sink kept BadFrame → IsUnframe words
frame-ends ts tk words (Run c) source sink kept reads ends = absurd ends
frame-ends ts tk words Ready source sink kept reads ends = absurd (ends 0)
frame-ends ts tk words (Generate s r) source sink kept reads ends = absurd ends
frame-ends ts tk words (Trace s r) source sink kept reads ends = absurd ends
frame-ends ts tk words (Wake s c) source sink kept reads ends = absurd ends
frame-ends ts tk words (Copy c word) source sink kept reads ends = absurd (ends reads.prefix reads.writes)
frame-ends ts tk words Unframe source sink kept reads ends = reads
frame-ends ts tk words (Relay plan) source sink kept reads ends = absurd ends
frame-ends ts tk words Tasks source sink kept reads ends = absurd ends

-- So it is where the status says so.
pub frame-refused : (ts tk : Bool) (words : List (List ℕ)) (command : Command) (source : Reading) (sink : Writing) (kept : Option Kept)
    (status : Status) →
    ReadsCommand words (Some command) → CommandEnds ts tk command source sink kept status → status ≡ BadFrame → IsUnframe words
frame-refused ts tk words command source sink kept status reads ends is =
    frame-ends ts tk words command source sink kept reads (subst (λ s. CommandEnds ts tk command source sink kept s) is ends)

-- Memory ran out: no line that could be looked at is wrong, unless the command reads no lines of events.
short-ends : (ts tk : Bool) (words : List (List ℕ)) (command : Command) (source : Reading) (sink : Writing) (kept : Option Kept) →
    ReadsCommand words (Some command) → CommandEnds ts tk command source sink kept OutOfMemory →
    StatusFor ts tk source sink OutOfMemory → (ReadsNothing command → source.rest ≡ source.left) → (IsUnframe words → ⊥) →
    (IsTasks words → ⊥) →
    RanShort completion ts tk source sink
short-ends ts tk words (Run c) source sink kept reads ends low none other apart = ends.0
short-ends ts tk words Ready source sink kept reads ends low none other apart = record {
  few = low.few;
  lines = λ told. never-wrong readiness source.left source.rest ((ends 0).0.lines told);
  calm = low.calm;
}
short-ends ts tk words (Generate s r) source sink kept reads ends low none other apart =
    record { few = low.few; lines = λ told. unread (none tt); calm = low.calm }
short-ends ts tk words (Trace s r) source sink kept reads ends low none other apart =
    record { few = low.few; lines = λ told. unread (none tt); calm = low.calm }
short-ends ts tk words (Wake s c) source sink kept reads ends low none other apart =
    record { few = low.few; lines = λ told. unread (none tt); calm = low.calm }
short-ends ts tk words (Copy c word) source sink kept reads ends low none other apart =
    record { few = low.few; lines = λ told. unread (ends reads.prefix reads.writes).unread; calm = low.calm }
short-ends ts tk words Unframe source sink kept reads ends low none other apart = absurd (other reads)
short-ends ts tk words (Relay plan) source sink kept reads ends low none other apart =
    record { few = low.few; lines = λ told. unread (none tt); calm = low.calm }
short-ends ts tk words Tasks source sink kept reads ends low none other apart = absurd (apart reads)

-- So it is where the status says so.
pub ran-short-of : (ts tk : Bool) (words : List (List ℕ)) (command : Command) (source : Reading) (sink : Writing) (kept : Option Kept)
    (status : Status) →
    ReadsCommand words (Some command) → CommandEnds ts tk command source sink kept status → StatusFor ts tk source sink status →
    (ReadsNothing command → source.rest ≡ source.left) → (IsUnframe words → ⊥) → (IsTasks words → ⊥) → status ≡ OutOfMemory →
    RanShort completion ts tk source sink
ran-short-of ts tk words command source sink kept status reads ends caused none other apart is =
    short-ends ts tk words command source sink kept reads (subst (λ s. CommandEnds ts tk command source sink kept s) is ends)
    (subst (λ s. StatusFor ts tk source sink s) is caused) none other apart
