-- Why a value was not put into a slab. Cited by `Slab::insert`.
use Rattle.std.specs.Prelude.{◌≡◌, ◌<◌}
use Rattle.std.specs.FinMap as map
use Rattle.op_slots.specs.declared.slab.TheConstants.{MAX_LIVE}
use Rattle.op_slots.specs.Slots.{Slots}
use Rattle.op_slots.specs.declared.slab.InsertError.{InsertError}
use Rattle.op_slots.specs.declared.slab.InsertError.TheVariants.{Full, OutOfMemory}

-- full when all keys are live, and out of memory only when no room was left and a key was; the value comes back in both
abbrev pub IsRefused : {T : Type 0} → Slots T → T → InsertError T → Type 0
IsRefused slots value (Full back) = (map.len slots.values ≡ MAX_LIVE) × (back ≡ value)
IsRefused slots value (OutOfMemory back) = (map.len slots.values < MAX_LIVE) × (slots.room ≡ 0) × (back ≡ value)
