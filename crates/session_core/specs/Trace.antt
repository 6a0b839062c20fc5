-- What `gen SEED COUNT --events` writes. Cited by `top`.
use Rattle.std.specs.Prelude.{ℕ, ◌≡◌, Bool, IsTrue, List, [], ◌∷◌, ◌++◌}
use Rattle.machine.specs.declared.ledger.Event.{Event}
use Rattle.event_text.specs.TextEvent.{event_text}
use Rattle.session_core.specs.declared.top.Status.{Status}
use Rattle.session_core.specs.declared.top.Status.TheVariants.{Done, WriteFault, OutOfMemory}
use Rattle.session_core.specs.Top.{WrotePrefix, ended}

-- The text of each event and its newline, in order.
abbrev pub event_lines : List Event → List ℕ
event_lines [] = []
event_lines (event ∷ more) = ended (event_text event) ++ event_lines more

-- What was written of these events, by the status. It has no other status than these three.
abbrev pub TracesFor : Bool → List Event → List ℕ → List ℕ → Status → Type 0
TracesFor tells events taken now Done = IsTrue tells → now ≡ taken ++ event_lines events
TracesFor tells events taken now WriteFault = IsTrue tells → WrotePrefix (event_lines events) taken now
TracesFor tells events taken now OutOfMemory = IsTrue tells → now ≡ taken
TracesFor tells events taken now _ = ⊥
