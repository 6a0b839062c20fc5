-- What the readers of a line's events answer: tables of first words, each with what is read behind it. Only contracts of private functions
-- cite these: `read-stands` and `stands-read` (proofs/TextEvents.antt) prove that a line is read as an event exactly when it stands for
-- it, where any event is taken and where only external ones are.
use Rattle.std.specs.Prelude.{ℕ, ◌^◌, Bool, true, false, List, [], ◌∷◌, codes, Option, Some, None, option_map}
use Rattle.machine.specs.declared.ledger.Event.{Event}
use Rattle.machine.specs.declared.ledger.Event.TheVariants.{Give, Feed, FeedMessage, End, Look, Close, Submit, Poll, Drop, Cancel}
use Rattle.machine.specs.declared.ledger.Event.TheVariants.{NewCanceller, NewHandle, CancelAll, Turn, Exec}
use Rattle.machine.specs.declared.request.Told.{Told}
use Rattle.machine.specs.declared.request.Told.TheVariants.{Count, Fail}
use Rattle.event_text.specs.TextReaders.{with_first, at_end, last_of, row, by_name}
use Rattle.event_text.specs.TextReads.{number_of, number_below, bytes_end, handle_kind_of}
use Rattle.event_text.specs.TextRequestReads.{request_of}

-- What an executor tells, by its words.
abbrev pub told_rows : List (List ℕ × (List (List ℕ) → Option Told))
told_rows = row (codes "ok") Count (last_of (number_below (2 ^ 32))) ∷ row (codes "err") Fail (last_of (number_below (2 ^ 16))) ∷ []

-- What an executor tells, by words.
abbrev pub told_of : List (List ℕ) → Option Told
told_of [] = None
told_of (name ∷ words) = by_name told_rows None name words

-- The events by the words behind their first one: of no word,
abbrev pub turn_of : List (List ℕ) → Option Event
turn_of words = at_end Turn words

-- .. of no word, too,
abbrev pub canceller_of : List (List ℕ) → Option Event
canceller_of words = at_end NewCanceller words

-- .. of one kind of handle.
abbrev pub give_of : List (List ℕ) → Option Event
give_of words = option_map Give (last_of handle_kind_of words)

-- .. of a handle and bytes.
abbrev pub feed_of : List (List ℕ) → Option Event
feed_of words = option_map (λ found. Feed found.0 found.1) (with_first number_of bytes_end words)

-- .. of a handle, an address and bytes.
abbrev pub message_of : List (List ℕ) → Option Event
message_of words =
    option_map (λ found. FeedMessage found.0 found.1.0 found.1.1) (with_first number_of (with_first number_of bytes_end) words)

-- .. of a request.
abbrev pub submit_of : List (List ℕ) → Option Event
submit_of words = option_map (λ request. Submit request None false) (request_of words)

-- .. of a cancel handle and a request.
abbrev pub under_of : List (List ℕ) → Option Event
under_of words = option_map (λ found. Submit found.1 (Some found.0) false) (with_first number_of request_of words)

-- .. of a request that is linked.
abbrev pub link_of : List (List ℕ) → Option Event
link_of words = option_map (λ request. Submit request None true) (request_of words)

-- .. of a cancel handle and a request that is linked.
abbrev pub linkunder_of : List (List ℕ) → Option Event
linkunder_of words = option_map (λ found. Submit found.1 (Some found.0) true) (with_first number_of request_of words)

-- .. of an operation and a task.
abbrev pub poll_of : List (List ℕ) → Option Event
poll_of words = option_map (λ found. Poll found.0 found.1) (with_first number_of (last_of number_of) words)

-- .. of a place and what is told.
abbrev pub exec_of : List (List ℕ) → Option Event
exec_of words = option_map (λ found. Exec found.0 found.1) (with_first number_of told_of words)

-- Events of one number.
abbrev pub numbered_rows : List (List ℕ × (List (List ℕ) → Option Event))
numbered_rows =
    row (codes "drop") Drop (last_of number_of)
    ∷ row (codes "cancel") Cancel (last_of number_of)
    ∷ row (codes "end") End (last_of number_of)
    ∷ row (codes "look") Look (last_of number_of)
    ∷ row (codes "close") Close (last_of number_of)
    ∷ row (codes "newhandle") NewHandle (last_of number_of)
    ∷ row (codes "cancelall") CancelAll (last_of number_of)
    ∷ []

-- Events that submit a request, or create a handle or a canceller.
abbrev pub created_rows : List (List ℕ × (List (List ℕ) → Option Event))
created_rows =
    (codes "submit", submit_of)
    ∷ (codes "under", under_of)
    ∷ (codes "give", give_of)
    ∷ (codes "canceller", canceller_of)
    ∷ []

-- Events of a poll, and of what arrives.
abbrev pub arrived_rows : List (List ℕ × (List (List ℕ) → Option Event))
arrived_rows = (codes "poll", poll_of) ∷ (codes "feed", feed_of) ∷ (codes "message", message_of) ∷ []

-- Events that submit a linked request.
abbrev pub linked_rows : List (List ℕ × (List (List ℕ) → Option Event))
linked_rows = (codes "link", link_of) ∷ (codes "linkunder", linkunder_of) ∷ []

-- Events of a turn and an execution.
abbrev pub engine_rows : List (List ℕ × (List (List ℕ) → Option Event))
engine_rows = (codes "turn", turn_of) ∷ (codes "exec", exec_of) ∷ []

-- The event by its first word and those behind it, by the tables from one of them on.
unfoldable pub numbered_by : List ℕ → List (List ℕ) → Option Event
numbered_by name words = by_name numbered_rows None name words

-- .. from that of what submits or creates on,
unfoldable pub created_by : List ℕ → List (List ℕ) → Option Event
created_by name words = by_name created_rows (numbered_by name words) name words

-- .. from that of polls and of what arrives on,
unfoldable pub external_by : List ℕ → List (List ℕ) → Option Event
external_by name words = by_name arrived_rows (created_by name words) name words

-- .. from that of linked requests on,
unfoldable pub linked_by : List ℕ → List (List ℕ) → Option Event
linked_by name words = by_name linked_rows (external_by name words) name words

-- .. by all of them, or by all but those of linked requests, and of a turn and an execution.
abbrev pub event_by : Bool → List ℕ → List (List ℕ) → Option Event
event_by true name words = external_by name words
event_by false name words = by_name engine_rows (linked_by name words) name words

-- The event that words write, if only external ones are taken, or any.
abbrev pub event_of : Bool → List (List ℕ) → Option Event
event_of external [] = None
event_of external (name ∷ words) = event_by external name words
