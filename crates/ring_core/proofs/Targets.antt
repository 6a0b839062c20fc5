-- Data words, and what they name.
use Rattle.std.proofs.Common.{◌≡◌, ℕ, ◌<◌, refl, arith}
use Rattle.std.proofs.lemmas.Bool.Decides.{nat_tests}
use Rattle.machine.specs.declared.world.TheConstants.{MOST_HANDLES}
use Rattle.ring_core.specs.declared.entry.TheConstants.{FIRST_CLOSE, CANCEL_WORD}
use Rattle.ring_core.specs.declared.entry.Target.TheVariants.{Slot, Handle, Reserved}
use Rattle.ring_core.specs.Entry.{target, close_word}

-- A word below those of closes names the slot of that key.
pub target-slot : (word : ℕ) → word < FIRST_CLOSE → target word ≡ Slot word
target-slot word below = grind (arith, nat_tests)

-- The word of a cancel is reserved.
pub target-cancel : target CANCEL_WORD ≡ Reserved CANCEL_WORD
target-cancel = refl

-- The word of a handle's close names that handle.
pub target-close : (h : ℕ) → h < MOST_HANDLES → target (close_word h) ≡ Handle h
target-close h below = grind (arith, nat_tests)
