-- The words `run CAP -i`. Cited by `live_of`.
use Rattle.std.specs.Prelude.{ℕ, ◌≡◌, ◌≤◌, List, [], ◌∷◌, Option, Some, None, codes, decimal}
use Rattle.session_core.specs.declared.command.TheConstants.{MOST_ENTRIES}
use Rattle.session_core.specs.Command.{IsCapacity}

-- The words are `run CAP -i`, with a capacity from 1 to 4294967295.
pub record IsLive (words : List (List ℕ)) (capacity : ℕ) : Type 0 where
  pub positive : 1 ≤ capacity
  pub fits : capacity ≤ MOST_ENTRIES
  pub words_are : words ≡ codes "run" ∷ decimal capacity ∷ codes "-i" ∷ []

-- The capacity of these words: none exactly when they are no such command.
abbrev pub ReadsLive : List (List ℕ) → Option ℕ → Type 0
ReadsLive words None = (capacity : ℕ) → IsLive words capacity → ⊥
ReadsLive words (Some capacity) = IsLive words capacity

-- The capacity of a word: none exactly when it is none.
abbrev pub ReadsLiveWord : List ℕ → Option ℕ → Type 0
ReadsLiveWord word None = (capacity : ℕ) → IsCapacity word capacity → ⊥
ReadsLiveWord word (Some capacity) = IsCapacity word capacity
