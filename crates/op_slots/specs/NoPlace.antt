-- Why a slab has no place for a value. Cited by the search of `Slab`, and by no public clause.
use Rattle.std.specs.Prelude.{ℕ, ◌≡◌, ◌<◌}
use Rattle.op_slots.specs.declared.slab.pages.TheConstants.{NUM_PAGES}
use Rattle.op_slots.specs.declared.slab.search.NoPlace.{NoPlace}
use Rattle.op_slots.specs.declared.slab.search.NoPlace.TheVariants.{Full, OutOfMemory}

-- of so many pages: all are there, or memory for another one ran out
abbrev pub WhyNoPlace : ℕ → NoPlace → Type 0
WhyNoPlace pages Full = pages ≡ NUM_PAGES
WhyNoPlace pages OutOfMemory = pages < NUM_PAGES
