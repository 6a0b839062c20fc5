-- What the words of the command line ask for.
use Rattle.std.specs.Prelude.{ℕ, ◌≡◌, ◌≤◌, List, [], ◌∷◌, Option, Some, None, IsSome, ⊤, codes, decimal}
use Rattle.session_core.specs.declared.command.TheConstants.{MOST_CAPACITY, MOST_COUNT, MOST_ENTRIES, MOST_PORT, MOST_ROUNDS, MOST_SEED}
use Rattle.session_core.specs.declared.command.TheConstants.{MOST_SENDERS}
use Rattle.session_core.specs.declared.command.Command.{Command}
use Rattle.session_core.specs.declared.command.Command.TheVariants.{Run, Ready, Generate, Trace, Wake, Copy, Unframe, Relay, Tasks}
use Rattle.relay_run.specs.declared.plan.Plan.{Plan}
use Rattle.relay_run.specs.declared.plan.TheConstants.{MOST_LIMIT, MOST_RELAY_ROUNDS}
use Rattle.event_text.specs.TextWords.{AreBytes}
use Rattle.event_text.specs.TextReads.{bytes_of}
use Rattle.event_text.specs.TextWords.{bytes_word}
use Rattle.session_core.specs.DriverKind.{DriverKind, completion, readiness}

-- The words are `run CAP`, with a capacity from 1 to 4294967295.
pub record IsRun (words : List (List ℕ)) (capacity : ℕ) : Type 0 where
  pub positive : 1 ≤ capacity
  pub fits : capacity ≤ MOST_ENTRIES
  pub words_are : words ≡ codes "run" ∷ decimal capacity ∷ []

-- The words are `ready`.
abbrev pub IsReady : List (List ℕ) → Type 0
IsReady words = words ≡ codes "ready" ∷ []

-- The words are a command that reads events, and runs them on this driver.
abbrev pub RunsOn : DriverKind → List (List ℕ) → Type 0
RunsOn completion words = (capacity : ℕ) × IsRun words capacity
RunsOn readiness words = IsReady words

-- The words are `wake SENDERS COUNT`, with at most 64 senders and at most 100000 wakers of each.
pub record IsWake (words : List (List ℕ)) (senders count : ℕ) : Type 0 where
  pub few : senders ≤ MOST_SENDERS
  pub small : count ≤ MOST_COUNT
  pub words_are : words ≡ codes "wake" ∷ decimal senders ∷ decimal count ∷ []

-- The words are `gen SEED COUNT`, with a seed of at most 2147483647 and at most 100000 rounds.
pub record IsGenerate (words : List (List ℕ)) (seed rounds : ℕ) : Type 0 where
  pub within : seed ≤ MOST_SEED
  pub small : rounds ≤ MOST_ROUNDS
  pub words_are : words ≡ codes "gen" ∷ decimal seed ∷ decimal rounds ∷ []

-- The words are `gen SEED COUNT --events`, with the same bounds.
pub record IsTrace (words : List (List ℕ)) (seed rounds : ℕ) : Type 0 where
  pub within : seed ≤ MOST_SEED
  pub small : rounds ≤ MOST_ROUNDS
  pub words_are : words ≡ codes "gen" ∷ decimal seed ∷ decimal rounds ∷ codes "--events" ∷ []

-- The words are `copy CAP PREFIXHEX`, with a capacity from 1 to 16777216, and the word of a prefix.
pub record IsCopy (words : List (List ℕ)) (capacity : ℕ) (prefix : List ℕ) : Type 0 where
  pub positive : 1 ≤ capacity
  pub fits : capacity ≤ MOST_CAPACITY
  pub bytes : AreBytes prefix
  pub words_are : words ≡ codes "copy" ∷ decimal capacity ∷ bytes_word prefix ∷ []

-- The words are `unframe`.
abbrev pub IsUnframe : List (List ℕ) → Type 0
IsUnframe words = words ≡ codes "unframe" ∷ []

-- A port of a relay's other end, where it has one, is from 1 to 65535.
abbrev pub IsPortIf : Option ℕ → Type 0
IsPortIf None = ⊤
IsPortIf (Some port) = (1 ≤ port) × (port ≤ MOST_PORT)

-- The words of a relay: `echo PORT CONNECTIONS ROUNDS` where what comes goes back, else `relay PORT TO CONNECTIONS ROUNDS`.
abbrev pub relay_words : Option ℕ → ℕ → ℕ → ℕ → List (List ℕ)
relay_words None port limit rounds = codes "echo" ∷ decimal port ∷ decimal limit ∷ decimal rounds ∷ []
relay_words (Some to) port limit rounds = codes "relay" ∷ decimal port ∷ decimal to ∷ decimal limit ∷ decimal rounds ∷ []

-- The words are those of a relay, with ports from 1 to 65535, 1 to 64 connections, and at most 1000000 rounds.
pub record IsRelay (words : List (List ℕ)) (plan : Plan) : Type 0 where
  pub positive : 1 ≤ plan.port
  pub port : plan.port ≤ MOST_PORT
  pub to : IsPortIf plan.to
  pub some : 1 ≤ plan.limit
  pub few : plan.limit ≤ MOST_LIMIT
  pub small : plan.rounds ≤ MOST_RELAY_ROUNDS
  pub words_are : words ≡ relay_words plan.to plan.port plan.limit plan.rounds

-- The words are `tasks`.
abbrev pub IsTasks : List (List ℕ) → Type 0
IsTasks words = words ≡ codes "tasks" ∷ []

-- The words are no command's.
pub record IsNoCommand (words : List (List ℕ)) : Type 0 where
  pub no_run : (capacity : ℕ) → IsRun words capacity → ⊥
  pub no_ready : IsReady words → ⊥
  pub no_generate : (seed rounds : ℕ) → IsGenerate words seed rounds → ⊥
  pub no_trace : (seed rounds : ℕ) → IsTrace words seed rounds → ⊥
  pub no_wake : (senders count : ℕ) → IsWake words senders count → ⊥
  pub no_copy : (capacity : ℕ) (prefix : List ℕ) → IsCopy words capacity prefix → ⊥
  pub no_unframe : IsUnframe words → ⊥
  pub no_relay : (plan : Plan) → IsRelay words plan → ⊥
  pub no_tasks : IsTasks words → ⊥

-- The word is a capacity.
pub record IsCapacity (word : List ℕ) (capacity : ℕ) : Type 0 where
  pub positive : 1 ≤ capacity
  pub fits : capacity ≤ MOST_ENTRIES
  pub word_is : word ≡ decimal capacity

-- The command of a capacity's word: none exactly when it is no capacity.
abbrev pub ReadsCapacity : List ℕ → Option Command → Type 0
ReadsCapacity word None = (capacity : ℕ) → IsCapacity word capacity → ⊥
ReadsCapacity word (Some (Run capacity)) = IsCapacity word capacity
ReadsCapacity word (Some _) = ⊥

-- The number of a word, at most this one: none exactly when it is no such number.
abbrev pub ReadsUpTo : ℕ → List ℕ → Option ℕ → Type 0
ReadsUpTo most word None = (number : ℕ) → number ≤ most → word ≡ decimal number → ⊥
ReadsUpTo most word (Some number) = (number ≤ most) × (word ≡ decimal number)

-- The number of a word, from 1 to this one: none exactly when it is no such number.
abbrev pub ReadsFromOne : ℕ → List ℕ → Option ℕ → Type 0
ReadsFromOne most word None = (number : ℕ) → 1 ≤ number → number ≤ most → word ≡ decimal number → ⊥
ReadsFromOne most word (Some number) = (1 ≤ number) × (number ≤ most) × (word ≡ decimal number)

-- The words are the port of a relay with this other end, how many connections may be open, and how many rounds it makes.
pub record ArePlan (to : Option ℕ) (first second third : List ℕ) (plan : Plan) : Type 0 where
  pub positive : 1 ≤ plan.port
  pub port : plan.port ≤ MOST_PORT
  pub some : 1 ≤ plan.limit
  pub few : plan.limit ≤ MOST_LIMIT
  pub small : plan.rounds ≤ MOST_RELAY_ROUNDS
  pub to_is : plan.to ≡ to
  pub first_is : first ≡ decimal plan.port
  pub second_is : second ≡ decimal plan.limit
  pub third_is : third ≡ decimal plan.rounds

-- The plan of these words: none exactly when they are no such numbers.
abbrev pub ReadsPlan : Option ℕ → List ℕ → List ℕ → List ℕ → Option Plan → Type 0
ReadsPlan to first second third None = (plan : Plan) → ArePlan to first second third plan → ⊥
ReadsPlan to first second third (Some plan) = ArePlan to first second third plan

-- The words are how many senders there are, and how many wakers each sends.
pub record AreCounts (first second : List ℕ) (senders count : ℕ) : Type 0 where
  pub few : senders ≤ MOST_SENDERS
  pub small : count ≤ MOST_COUNT
  pub first_is : first ≡ decimal senders
  pub second_is : second ≡ decimal count

-- The command of these two words: none exactly when they are no such numbers.
abbrev pub ReadsCounts : List ℕ → List ℕ → Option Command → Type 0
ReadsCounts first second None = (senders count : ℕ) → AreCounts first second senders count → ⊥
ReadsCounts first second (Some (Wake senders count)) = AreCounts first second senders count
ReadsCounts first second (Some _) = ⊥

-- The words are a seed, and how many rounds it generates.
pub record AreRounds (first second : List ℕ) (seed rounds : ℕ) : Type 0 where
  pub within : seed ≤ MOST_SEED
  pub small : rounds ≤ MOST_ROUNDS
  pub first_is : first ≡ decimal seed
  pub second_is : second ≡ decimal rounds

-- The command of these two words: none exactly when they are no such numbers.
abbrev pub ReadsRounds : List ℕ → List ℕ → Option Command → Type 0
ReadsRounds first second None = (seed rounds : ℕ) → AreRounds first second seed rounds → ⊥
ReadsRounds first second (Some (Generate seed rounds)) = AreRounds first second seed rounds
ReadsRounds first second (Some _) = ⊥

-- The words are `copy` with this capacity, and the prefix that a word writes.
pub record IsCopyOf (words : List (List ℕ)) (capacity : ℕ) (word : List ℕ) : Type 0 where
  pub prefix : List ℕ
  pub writes : bytes_of word ≡ Some prefix
  pub is_copy : IsCopy words capacity prefix

-- The command of words: none exactly when they are no command's.
abbrev pub ReadsCommand : List (List ℕ) → Option Command → Type 0
ReadsCommand words None = IsNoCommand words
ReadsCommand words (Some (Run capacity)) = IsRun words capacity
ReadsCommand words (Some Ready) = IsReady words
ReadsCommand words (Some (Generate seed rounds)) = IsGenerate words seed rounds
ReadsCommand words (Some (Trace seed rounds)) = IsTrace words seed rounds
ReadsCommand words (Some (Wake senders count)) = IsWake words senders count
ReadsCommand words (Some (Copy capacity word)) = IsCopyOf words capacity word.now
ReadsCommand words (Some Unframe) = IsUnframe words
ReadsCommand words (Some (Relay plan)) = IsRelay words plan
ReadsCommand words (Some Tasks) = IsTasks words

-- The numbers of a command are within its bounds, and the word of a prefix writes one.
abbrev pub IsWithin : Command → Type 0
IsWithin (Run capacity) = 1 ≤ capacity
IsWithin Ready = ⊤
IsWithin (Generate seed rounds) = rounds ≤ MOST_ROUNDS
IsWithin (Trace seed rounds) = rounds ≤ MOST_ROUNDS
IsWithin (Wake senders count) = senders ≤ MOST_SENDERS
IsWithin (Copy capacity word) = IsSome (bytes_of word.now)
IsWithin Unframe = ⊤
IsWithin (Relay plan) = (plan.limit ≤ MOST_LIMIT) × (plan.rounds ≤ MOST_RELAY_ROUNDS)
IsWithin Tasks = ⊤

-- The command reads no input.
abbrev pub ReadsNothing : Command → Type 0
ReadsNothing (Run capacity) = ⊥
ReadsNothing Ready = ⊥
ReadsNothing (Generate seed rounds) = ⊤
ReadsNothing (Trace seed rounds) = ⊤
ReadsNothing (Wake senders count) = ⊤
ReadsNothing (Copy capacity word) = ⊥
ReadsNothing Unframe = ⊥
ReadsNothing (Relay plan) = ⊤
ReadsNothing Tasks = ⊥

-- The command keeps nothing.
abbrev pub KeepsNothing : Command → Type 0
KeepsNothing (Run capacity) = ⊥
KeepsNothing Ready = ⊥
KeepsNothing (Generate seed rounds) = ⊥
KeepsNothing (Trace seed rounds) = ⊤
KeepsNothing (Wake senders count) = ⊤
KeepsNothing (Copy capacity word) = ⊤
KeepsNothing Unframe = ⊤
KeepsNothing (Relay plan) = ⊤
KeepsNothing Tasks = ⊤

-- The command doesn't use the object that listens and dials.
abbrev pub UsesNoNet : Command → Type 0
UsesNoNet (Relay plan) = ⊥
UsesNoNet _ = ⊤
