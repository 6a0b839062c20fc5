-- The words of the command line, and the session that a run starts with.
use Rattle.std.specs.Prelude.{ℕ, ◌≡◌, ◌≤◌, ◌<◌, ◌==◌, ◌||◌, Bool, true, List, [], ◌∷◌, All, length, codes, decimal}
use Rattle.memchr.specs.Find.{is_byte, places}
use Rattle.ring_core.specs.FaultRing.{fresh_faults}
use Rattle.machine.specs.Ledger.{empty}
use Rattle.ring_core.specs.MemRing.{fresh_ring}
use Rattle.driver_core.specs.Members.{none}
use Rattle.driver_core.specs.Tokens.{by_number, cancellers_in, handles_in}
use Rattle.uring_driver.specs.Op.{HoldsNone}
use Rattle.uring_driver.specs.Uring.{ring_in, due_in, given_by, live_slots, members_in}
use Rattle.fault_run.specs.declared.run.TheConstants.{MOST_ENTRIES}
use Rattle.fault_run.specs.declared.session.FaultSession.{FaultSession}
use Rattle.fault_run.specs.Calls.{EngineStands}
use Rattle.fault_run.specs.Events.{driver_in, tokens_in, given_handles}

-- A letter of a script: the enter takes the queue, or fails, or is busy.
abbrev pub is_letter : ℕ → Bool
is_letter letter = letter == 45 || letter == 102 || letter == 98

-- A word is a script: a letter for each of the first enters, at least one.
pub record IsScript (word : List ℕ) : Type 0 where
  pub some : 0 < length word
  pub letters : All (λ letter. is_letter letter ≡ true) word

-- A word is a capacity: a number from 1 to 4294967295.
pub record IsCapacity (word : List ℕ) (capacity : ℕ) : Type 0 where
  pub positive : 1 ≤ capacity
  pub fits : capacity ≤ MOST_ENTRIES
  pub word_is : word ≡ decimal capacity

-- The words are `faults CAP ENTERS`, with a capacity and a script.
pub record IsFaults (words : List (List ℕ)) (capacity : ℕ) (enters : List ℕ) : Type 0 where
  pub word : List ℕ
  pub capacity_is : IsCapacity word capacity
  pub script : IsScript enters
  pub words_are : words ≡ codes "faults" ∷ word ∷ enters ∷ []

-- A session at the start of a run: the enters of its ring fail at the places of `f`, and are busy at those of `b`.
pub record IsFresh (capacity : ℕ) (enters : List ℕ) (session : FaultSession) : Type 0 where
  pub ring : ring_in (driver_in session) ≡ fresh_faults (fresh_ring capacity) (places (is_byte 102) enters) (places (is_byte 98) enters)
  pub stands : EngineStands (driver_in session) (empty capacity)
  pub no_operation : (live_slots (driver_in session) ≡ 0) × (given_by (driver_in session) ≡ 0) × HoldsNone (driver_in session)
  pub none_due : due_in (driver_in session) ≡ []
  pub no_group : members_in (driver_in session) ≡ none
  pub no_token : by_number (tokens_in session) ≡ []
  pub no_canceller : cancellers_in (tokens_in session) ≡ []
  pub no_cancel_handle : handles_in (tokens_in session) ≡ []
  pub no_handle : given_handles session ≡ 0
