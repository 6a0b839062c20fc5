-- What the words of the command line ask for.
use Rattle.std.proofs.Common.{◌≡◌, ◌∙◌, ℕ, ◌<◌, ◌≤◌, List, [], ◌∷◌, length, get_or, take, sym, subst, ap, arith, true, false, Option, None, Some}
use Rattle.std.specs.Prelude.{All, codes}
use Rattle.std.proofs.lemmas.List.{take_all}
use Rattle.std.proofs.lemmas.List.Elements.{All-get_or}
use Rattle.event_text.specs.TextReads.{number_of}
use Rattle.event_text.proofs.TextNumbers.{number_of-decimal, number_of-Some}
use Rattle.fault_run.specs.declared.run.TheConstants.{MOST_ENTRIES}
use Rattle.fault_run.specs.Script.{IsCapacity, IsFaults, IsScript, is_letter}

-- A number within the bounds is a capacity.
pub capacity-within : (word : List ℕ) (n : ℕ) → number_of word ≡ Some n → 1 ≤ n → n ≤ MOST_ENTRIES → IsCapacity word n
capacity-within word n reads low high = record { positive = low; fits = high; word_is = (number_of-Some word n reads).0 }

-- A capacity's word is read as its number.
number_of-capacity : (word : List ℕ) (capacity : ℕ) → IsCapacity word capacity → number_of word ≡ Some capacity
number_of-capacity word capacity is = ap number_of is.word_is ∙ number_of-decimal capacity (let fits = is.fits in omega arith)

-- A word that is read as a number out of bounds is no capacity.
pub capacity-outside : (word : List ℕ) (n : ℕ) → number_of word ≡ Some n → (1 ≤ n → n ≤ MOST_ENTRIES → ⊥) → (capacity : ℕ) →
    IsCapacity word capacity → ⊥
capacity-outside word n reads outside capacity is =
    let same : Some n ≡ Some capacity = sym reads ∙ number_of-capacity word capacity is in
    let equal : n ≡ capacity = cc in
    let fits = is.fits in
    let positive = is.positive in
    outside (omega arith) (omega arith)

-- A word that is read as no number is no capacity.
pub capacity-unread : (word : List ℕ) → number_of word ≡ None → (capacity : ℕ) → IsCapacity word capacity → ⊥
capacity-unread word reads capacity is =
    (let never : ◌≡◌ {A = Option ℕ} None (Some capacity) = sym reads ∙ number_of-capacity word capacity is in cc)

-- A word with another byte is no script.
pub other-letter : (word : List ℕ) (i : ℕ) → i < length word → is_letter (get_or word i 0) ≡ false → IsScript word → ⊥
other-letter word i within other script =
    (let never : true ≡ false = sym (All-get_or (λ letter. is_letter letter ≡ true) word i 0 within script.letters) ∙ other in cc)

-- A word whose bytes are all letters is one, if it isn't empty.
pub all-letters : (word : List ℕ) (i : ℕ) → 0 < length word → length word ≤ i → All (λ letter. is_letter letter ≡ true) (take i word) →
    IsScript word
all-letters word i some done letters = record {
  some = some;
  letters = subst (λ xs. All (λ letter. is_letter letter ≡ true) xs) (take_all i word done) letters;
}

-- The three words of the command, each by itself.
record AreThree (name capacity enters script : List ℕ) (found : ℕ) : Type 0 where
  is_name : name ≡ codes "faults"
  is_capacity : IsCapacity capacity found
  is_script : IsScript enters
  same : enters ≡ script

three-of : (name capacity enters script : List ℕ) (found : ℕ) → IsFaults (name ∷ capacity ∷ enters ∷ []) found script →
    AreThree name capacity enters script found
three-of name capacity enters script found is =
    let all : name ∷ capacity ∷ enters ∷ [] ≡ codes "faults" ∷ is.word ∷ script ∷ [] = is.words_are in
    let second : is.word ≡ capacity = cc in
    let third : script ≡ enters = cc in
    record {
      is_name = cc;
      is_capacity = subst (λ xs. IsCapacity xs found) second is.capacity_is;
      is_script = subst (λ xs. IsScript xs) third is.script;
      same = sym third;
    }

-- Words with another name, with no script or with no capacity aren't the command's.
pub other-name : (name capacity enters : List ℕ) → (name ≡ codes "faults" → ⊥) → (found : ℕ) (script : List ℕ) →
    IsFaults (name ∷ capacity ∷ enters ∷ []) found script → ⊥
other-name name capacity enters other found script is = other (three-of name capacity enters script found is).is_name

pub no-script : (name capacity enters : List ℕ) → (IsScript enters → ⊥) → (found : ℕ) (script : List ℕ) →
    IsFaults (name ∷ capacity ∷ enters ∷ []) found script → ⊥
no-script name capacity enters other found script is = other (three-of name capacity enters script found is).is_script

pub no-capacity : (name capacity enters : List ℕ) → ((n : ℕ) → IsCapacity capacity n → ⊥) → (found : ℕ) (script : List ℕ) →
    IsFaults (name ∷ capacity ∷ enters ∷ []) found script → ⊥
no-capacity name capacity enters other found script is = other found (three-of name capacity enters script found is).is_capacity

-- Three right words are.
pub are-faults : (name capacity enters : List ℕ) (n : ℕ) → name ≡ codes "faults" → IsCapacity capacity n → IsScript enters →
    IsFaults (name ∷ capacity ∷ enters ∷ []) n enters
are-faults name capacity enters n is_name is_capacity is_script = record {
  word = capacity;
  capacity_is = is_capacity;
  script = is_script;
  words_are = ap (λ x. x ∷ capacity ∷ enters ∷ []) is_name;
}

-- A list of three elements.
pub three-words : {A : Type 0} (xs : List A) (x y z : A) → 3 ≤ length xs → length xs < 4 → x ≡ get_or xs 0 x → y ≡ get_or xs 1 y →
    z ≡ get_or xs 2 z → xs ≡ x ∷ y ∷ z ∷ []
three-words [] x y z some few first second third = absurd (omega (arith, some))
three-words (a ∷ []) x y z some few first second third = absurd (omega (arith, some))
three-words (a ∷ b ∷ []) x y z some few first second third = absurd (omega (arith, some))
three-words (a ∷ b ∷ d ∷ []) x y z some few first second third =
    ap (λ w. w ∷ b ∷ d ∷ []) (sym first) ∙ ap (λ w. x ∷ w ∷ d ∷ []) (sym second) ∙ ap (λ w. x ∷ y ∷ w ∷ []) (sym third)
three-words (a ∷ b ∷ d ∷ e ∷ xs) x y z some few first second third = absurd (omega (arith, few))
