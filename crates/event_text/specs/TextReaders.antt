-- How readers of words are put together: from a word's reader one of words, and from those a table of names.
use Rattle.std.specs.Prelude.{ℕ, if◌then◌else◌, List, [], ◌∷◌, bytes_eq, Option, Some, None, option_and_then, option_map}

-- The first of some values that has this word.
abbrev pub value_of : {A : Type 0} → (A → List ℕ) → List A → List ℕ → Option A
value_of word_of [] word = None
value_of word_of (value ∷ values) word = if bytes_eq word (word_of value) then Some value else value_of word_of values word

-- What the first word writes, and the further words.
abbrev pub field : {A : Type 0} → (List ℕ → Option A) → List (List ℕ) → Option (A × List (List ℕ))
field read [] = None
field read (word ∷ words) = option_and_then (λ value. Some (value, words)) (read word)

-- What the first word writes, with what the further words write.
abbrev pub with_first : {A B : Type 0} → (List ℕ → Option A) → (List (List ℕ) → Option B) → List (List ℕ) → Option (A × B)
with_first first read words = option_and_then (λ value. option_map (λ more. (value.0, more)) (read value.1)) (field first words)

-- The value, where no further word stands.
abbrev pub at_end : {A : Type 0} → A → List (List ℕ) → Option A
at_end value [] = Some value
at_end value (word ∷ words) = None

-- What the one word writes.
abbrev pub last_of : {A : Type 0} → (List ℕ → Option A) → List (List ℕ) → Option A
last_of read words = option_and_then (λ value. at_end value.0 value.1) (field read words)

-- A name, with the reader of the words behind it, whose value is made into another.
abbrev pub row : {A B : Type 0} → List ℕ → (A → B) → (List (List ℕ) → Option A) → List ℕ × (List (List ℕ) → Option B)
row name make read = (name, λ words. option_map make (read words))

-- What the row of a name reads behind it; with no such row, another value.
abbrev pub by_name : {A : Type 0} → List (List ℕ × (List (List ℕ) → Option A)) → Option A → List ℕ → List (List ℕ) → Option A
by_name [] otherwise name words = otherwise
by_name (first ∷ rows) otherwise name words = if bytes_eq name first.0 then first.1 words else by_name rows otherwise name words

-- The first word; an empty one, where there is none.
abbrev pub first_of : List (List ℕ) → List ℕ
first_of [] = []
first_of (word ∷ words) = word

-- The words behind the first one.
abbrev pub behind_first : List (List ℕ) → List (List ℕ)
behind_first [] = []
behind_first (word ∷ words) = words
