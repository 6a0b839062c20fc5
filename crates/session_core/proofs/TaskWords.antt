-- Which words are those of `tasks`.
use Rattle.std.proofs.Common.{◌≡◌, ℕ, List, [], ◌∷◌, Some, get_or, sym, ◌∙◌, ap, refl, arith}
use Rattle.std.specs.Prelude.{codes, decimal, ⊤}
use Rattle.event_text.specs.TextWords.{bytes_word}
use Rattle.session_core.specs.declared.command.Command.{Command}
use Rattle.session_core.specs.declared.command.Command.TheVariants.{Run, Ready, Generate, Trace, Wake, Copy, Unframe, Relay, Tasks}
use Rattle.session_core.specs.Command.{IsCopy, IsTasks, ReadsCommand}
use Rattle.session_core.proofs.RelayWords.{few-no-relay}

-- A command is `tasks`.
abbrev pub IsTasksOf : Command → Type 0
IsTasksOf Tasks = ⊤
IsTasksOf _ = ⊥

-- More words than one aren't its own.
pub many-no-tasks : (name second : List ℕ) (more : List (List ℕ)) → IsTasks (name ∷ second ∷ more) → ⊥
many-no-tasks name second more is = (let all : name ∷ second ∷ more ≡ codes "tasks" ∷ [] = is in cc)

-- Nor are those of `copy`.
pub not-copy-tasks : (words : List (List ℕ)) (capacity : ℕ) (prefix : List ℕ) → IsCopy words capacity prefix → IsTasks words → ⊥
not-copy-tasks words capacity prefix copy tasks =
    (let all : codes "copy" ∷ decimal capacity ∷ bytes_word prefix ∷ [] ≡ codes "tasks" ∷ [] = sym copy.words_are ∙ tasks in cc)

-- The words `tasks` and `ready` differ.
tasks-isnt-ready : codes "tasks" ≡ codes "ready" → ⊥
tasks-isnt-ready same = (let first : ◌≡◌ {A = ℕ} 116 114 = ap (λ xs. get_or xs 0 0) same in absurd (omega arith))

-- Words of another command aren't either.
pub tasks-alone : (words : List (List ℕ)) (command : Command) → IsTasks words → ReadsCommand words (Some command) → IsTasksOf command
tasks-alone words (Run c) is reads =
    (let all : codes "run" ∷ decimal c ∷ [] ≡ codes "tasks" ∷ [] = sym reads.words_are ∙ is in absurd (cc))
tasks-alone words Ready is reads = absurd (tasks-isnt-ready (ap (λ ws. get_or ws 0 []) (sym is ∙ reads)))
tasks-alone words (Generate s r) is reads =
    (let all : codes "gen" ∷ decimal s ∷ decimal r ∷ [] ≡ codes "tasks" ∷ [] = sym reads.words_are ∙ is in absurd (cc))
tasks-alone words (Trace s r) is reads =
    (let all : codes "gen" ∷ decimal s ∷ decimal r ∷ codes "--events" ∷ [] ≡ codes "tasks" ∷ [] = sym reads.words_are ∙ is in absurd (cc))
tasks-alone words (Wake s c) is reads =
    (let all : codes "wake" ∷ decimal s ∷ decimal c ∷ [] ≡ codes "tasks" ∷ [] = sym reads.words_are ∙ is in absurd (cc))
tasks-alone words (Copy c word) is reads = absurd (not-copy-tasks words c reads.prefix reads.is_copy is)
tasks-alone words Unframe is reads = (let all : codes "unframe" ∷ [] ≡ codes "tasks" ∷ [] = sym reads ∙ is in absurd (cc))
tasks-alone words (Relay plan) is reads = absurd (few-no-relay plan is (omega arith) reads)
tasks-alone words Tasks is reads = tt

-- So the command is `tasks`.
pub tasks-are : (words : List (List ℕ)) (command : Command) → ReadsCommand words (Some command) → IsTasks words → command ≡ Tasks
tasks-are words command reads is = same command (tasks-alone words command is reads)
  where
    same : (other : Command) → IsTasksOf other → other ≡ Tasks
    same Tasks of = refl
    same _ of = absurd of
