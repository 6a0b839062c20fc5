-- What a world in memory reports: each handle that is due, with the key that it is registered with; and when bits show a handle. Cited by
-- `NonBlock` and `MemIo`.
use Rattle.std.specs.Prelude.{ℕ, ◌≡◌, Bool, true, false, List, [], ◌∷◌, ◌++◌, Option, None, Some, slice_get, bit_or}
use Rattle.machine.specs.declared.world.HandleState.{HandleState}
use Rattle.machine.specs.Lists.{amended}
use Rattle.machine.specs.Attempt.{is_readable_at}
use Rattle.ready_driver.specs.declared.ready.TheConstants.{READABLE, WRITABLE}
use Rattle.ready_driver.specs.declared.ready.Direction.TheVariants.{Read, Write}
use Rattle.ready_driver.specs.declared.non_block.Report.{Report}
use Rattle.ready_driver.specs.Ready.{meets, mask_of}

-- The keys with which handles are registered, by handle, after one is registered or isn't any more.
abbrev pub with_key : List (Option ℕ) → ℕ → Option ℕ → List (Option ℕ)
with_key keys h key = amended keys h (λ old. key)

-- The keys with one for a handle that was made, where there is one: it isn't registered yet.
abbrev pub with_made_key : Option ℕ → List (Option ℕ) → List (Option ℕ)
with_made_key None keys = keys
with_made_key (Some h) keys = keys ++ None ∷ []

-- The key that was looked up is there: a handle is registered with it.
abbrev pub has_key : Option (Option ℕ) → Bool
has_key (Some (Some key)) = true
has_key _ = false

-- A handle is registered, by the keys of handles.
abbrev pub is_keyed : List (Option ℕ) → ℕ → Bool
is_keyed keys h = has_key (slice_get keys h)

-- The bits of a handle: it is always writable, and readable or not.
abbrev pub bits_of : Bool → ℕ
bits_of true = bit_or READABLE WRITABLE
bits_of false = WRITABLE

-- The report of a handle with this key; none where it isn't there, or isn't registered.
abbrev pub report_of : Option (Option ℕ) → Bool → List Report
report_of (Some (Some key)) readable = record { key = key; ready = bits_of readable } ∷ []
report_of _ readable = []

-- The reports of these handles, in order.
abbrev pub reports_of : List HandleState → List (Option ℕ) → List ℕ → List Report
reports_of world keys [] = []
reports_of world keys (h ∷ handles) = report_of (slice_get keys h) (is_readable_at world h) ++ reports_of world keys handles

-- Bits show that a handle is writable, and readable where it is.
pub record ShowsBits (readable : Bool) (ready : ℕ) : Type 0 where
  pub writes : meets ready (mask_of Write) ≡ true
  pub reads : readable ≡ true → meets ready (mask_of Read) ≡ true
