-- What operations that may make a handle do to who holds handles. Cited by `Handles`, and by the driver's calls.
use Rattle.std.specs.Prelude.{ℕ, ◌≡◌, ◌+◌, ◌-◌, ◌<◌, ◌||◌, nat_le, Bool, true, false, not, List, [], ◌++◌}
use Rattle.std.specs.Prelude.{option_to_list, Option, Some, None}
use Rattle.handle_core.specs.Table.{Table, holders_at, with_holders, handed}
use Rattle.machine.specs.declared.world.TheConstants.{MOST_HANDLES}
use Rattle.machine.specs.Lists.{one_if}
use Rattle.driver_core.specs.Holds.{is_nobody, with_ops, without_ops, unheld_by}
use Rattle.uring_driver.specs.Holding.{Holding, places, closes, with_added, IsSameHolding}

-- Reserved memory may have changed for an operation that may make a handle; else nothing has.
abbrev pub KeepsHolding : Bool → Holding → Holding → Type 0
KeepsHolding true old new = IsSameHolding old new
KeepsHolding false old new = new ≡ old

-- There is memory for a handle that one operation more makes, and for its close.
pub record HasMakerRoom (holding : Holding) : Type 0 where
  pub made : holding.makers < holding.table.spare
  pub close : places holding < holding.closing.spare

-- So it is where an operation may make a handle.
abbrev pub CanMake : Bool → Holding → Type 0
CanMake true holding = HasMakerRoom holding
CanMake false holding = Unit {0}

-- An operation that names these handles was submitted, which may make a handle, or not.
abbrev pub op_joined : Holding → List ℕ → Bool → Holding
op_joined holding handles maker =
    record holding { table = with_ops holding.table handles; makers = holding.makers + one_if maker }

-- The handle that an operation made, unless it was dropped: the operation holds it.
abbrev pub kept_if : Bool → Option ℕ → List ℕ
kept_if true made = []
kept_if false made = option_to_list made

-- The handle that an operation made which was dropped: it is closing at once.
abbrev pub lost_if : Bool → Option ℕ → List ℕ
lost_if true made = option_to_list made
lost_if false made = []

-- An operation in flight that may make a handle has ended: it holds what it kept, and what it lost is closing.
abbrev pub maker_ended : Holding → List ℕ → List ℕ → Holding
maker_ended holding kept lost =
    record { table = with_added holding.table kept; closing = with_added holding.closing lost; makers = holding.makers - 1 }

-- The handles whose closes are queued once an operation ended: of those that it named and holds no more each that nobody holds, and then
-- what it lost.
abbrev pub op_closes : Table → List ℕ → List ℕ → List ℕ
op_closes table handles lost = unheld_by table handles ++ lost

-- An operation in flight has ended. It holds no more the handles that it named where it was dropped; it holds what it kept; and what it
-- lost is closing.
abbrev pub op_ended : Holding → List ℕ → Bool → List ℕ → List ℕ → Holding
op_ended holding handles maker kept lost = record {
  table = with_added (without_ops holding.table handles) kept;
  closing = with_added holding.closing (op_closes holding.table handles lost);
  makers = holding.makers - one_if maker;
}

-- A handle that an operation made became its user's.
abbrev pub made_handed : Holding → ℕ → Holding
made_handed holding h = record holding { table = with_holders holding.table h (handed (holders_at holding.table h)) }

-- So did the handle that was made, where there is one.
abbrev pub handed_if : Holding → Option ℕ → Holding
handed_if holding None = holding
handed_if holding (Some h) = made_handed holding h

-- A handle that an operation names as made can't be new: somebody holds it, or it is closing, or it is no handle's number.
abbrev pub is_old : Holding → ℕ → Bool
is_old holding h = not (is_nobody (holders_at holding.table h)) || (closes holding h || nat_le MOST_HANDLES h)

-- What an operation names as made is refused where it may make no handle, and where the handle can't be new.
abbrev pub refuses_made : Holding → Bool → Option ℕ → Bool
refuses_made holding maker None = false
refuses_made holding maker (Some h) = not maker || is_old holding h
