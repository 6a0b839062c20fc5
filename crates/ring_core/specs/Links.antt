-- Which slot each data word is found on. Cited by `Links` and `Flights`.
use Rattle.std.specs.Prelude.{ℕ, ◌≡◌, ◌≢◌, ◌<◌, ◌≤◌, ◌⊎◌, Bool, true, false, List, length, get_or, slice_get, max, Some}
use Rattle.ring_core.specs.declared.links.TheConstants.{FAR, SEVERAL}
use Rattle.ring_core.specs.declared.links.Link.{Link}
use Rattle.ring_core.specs.declared.links.Link.TheVariants.{Nowhere, At, Anywhere}

-- The links of the data words below a number, and whether each word below `FAR` that is kept on a slot has its link.
pub record Linked : Type 0 where
  pub slots : List ℕ
  pub complete : Bool

-- The link of a data word names a slot, unless several had the word at once. Where the word has no link, it is far, or not each has one.
pub record LinksTo (links : Linked) (slot word : ℕ) : Type 0 where
  pub names : word < length links.slots → get_or links.slots word 0 ≢ slot → get_or links.slots word 0 ≡ SEVERAL
  pub misses : length links.slots ≤ word → word < FAR → links.complete ≡ false

-- The data word that is kept on each slot is linked to it.
abbrev pub AreLinked : Linked → List Bool → List ℕ → Type 0
AreLinked links flags words = (slot word : ℕ) → slice_get flags slot ≡ Some true → slice_get words slot ≡ Some word →
    LinksTo links slot word

-- Where a data word is found: nowhere where each has its link and the word has none, or where its link says.
abbrev pub IsFound : Linked → ℕ → Link → Type 0
IsFound links word Nowhere = (length links.slots ≤ word) × (word < FAR) × (links.complete ≡ true)
IsFound links word (At slot) = (word < length links.slots) × (get_or links.slots word 0 ≡ slot) × (slot < SEVERAL)
IsFound links word Anywhere = Unit {0}

-- The next link of a data word: `SEVERAL`, or the slot that it gets, where what its link names isn't kept with it.
abbrev pub NextLinkFor : List Bool → List ℕ → ℕ → ℕ → ℕ → ℕ → Type 0
NextLinkFor flags words before word slot link =
    (link ≡ SEVERAL) ⊎ ((link ≡ slot) × (before ≢ SEVERAL) × (slice_get flags before ≡ Some true → slice_get words before ≢ Some word))

-- Links that grew, or didn't: those that were there stay, and they grow only where each data word that is kept has its own, or is far.
pub record Lengthens (complete : Bool) (before now : List ℕ) : Type 0 where
  pub longer : length before ≤ length now
  pub near : length now ≤ max (length before) FAR
  pub same : (word : ℕ) → word < length before → get_or now word 0 ≡ get_or before word 0
  pub only : complete ≡ false → now ≡ before
