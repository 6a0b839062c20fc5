-- What a wait of the system's poll leaves to the next one.
use Rattle.std.proofs.Common.{◌≡◌, ◌∙◌, inl, inr, ℕ, Bool, true, false, List, map, Option, Some, None, refl, ap}
use Rattle.mio.specs.declared.event.event.Event.{Event}
use Rattle.ready_driver.specs.declared.non_block.NonBlockError.{NonBlockError}
use Rattle.ready_driver.specs.declared.non_block.NonBlockError.TheVariants.{Fault, OutOfMemory}
use Rattle.ready_driver.specs.declared.non_block.Report.{Report}
use Rattle.ready_driver.specs.Io.{one_more}
use Rattle.socket_io.specs.System.{event_report}
use Rattle.socket_io.specs.Polled.{PassesOn, LeavesNext, IsFault, unreported_if}

-- A wait that didn't come to the poll leaves what was left to it.
pub left_same : (why : NonBlockError) (polls : ℕ) (left : Option (List Report)) → LeavesNext why polls left polls left
left_same why polls (Some reports) = (refl, refl)
left_same (Fault code) polls None = (refl, refl)
left_same OutOfMemory polls None = inl (refl, refl)

-- So does one that the system refused: nothing was left to it.
pub left_refused : (old now : Bool) (events later : List Event) (polls polls' : ℕ) (why : NonBlockError) → old ≡ false → IsFault why →
    now ≡ false → polls' ≡ polls → LeavesNext why polls (unreported_if old events) polls' (unreported_if now later)
left_refused false false events later polls polls' (Fault code) none fault unreported same = (same, refl)
left_refused false false events later polls polls' OutOfMemory none fault unreported same = absurd fault
left_refused false true events later polls polls' why none fault unreported same = (let f : ⊥ = cc in absurd f)
left_refused true now events later polls polls' why none fault unreported same = (let f : ⊥ = cc in absurd f)

-- A wait that passed events on leaves none.
pub left_passed : (old : Bool) (events now : List Event) (polls polls' : ℕ) (reports : List Report) →
    (old ≡ true → (now ≡ events) × (polls' ≡ polls)) → (old ≡ false → polls' ≡ one_more polls) → reports ≡ map event_report now →
    PassesOn polls (unreported_if old events) polls' None reports
left_passed true events now polls polls' reports again asked is = (is ∙ ap (map event_report) (again refl).0, (again refl).1, refl)
left_passed false events now polls polls' reports again asked is = (asked refl, refl)

-- One that had no memory for them leaves them.
pub left_kept : (old : Bool) (events now : List Event) (polls polls' : ℕ) → (old ≡ true → (now ≡ events) × (polls' ≡ polls)) →
    (old ≡ false → polls' ≡ one_more polls) →
    LeavesNext OutOfMemory polls (unreported_if old events) polls' (unreported_if true now)
left_kept true events now polls polls' again asked = ((again refl).1, ap (λ es. Some (map event_report es)) (again refl).0)
left_kept false events now polls polls' again asked = inr (asked refl, refl)
