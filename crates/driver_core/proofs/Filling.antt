-- A slot whose request has the bytes that came.
use Rattle.std.proofs.Common.{◌≡◌, ◌≤◌, ℕ, true, List, length, Some, ◌∙◌, ap, subst, arith}
use Rattle.std.specs.Prelude.{nat_le}
use Rattle.std.specs.Ordering.{nat_cmp}
use Rattle.std.specs.FinMap.{FinMap, get}
use Rattle.std.proofs.lemmas.Bool.Decides.{nat_tests}
use Rattle.rent_buf.specs.Buffer.{Buffer}
use Rattle.machine.specs.Request.{plain_request, room_of}
use Rattle.driver_core.specs.declared.slot.Slot.{Slot}
use Rattle.driver_core.specs.Slot.{fits_in, IsFilled, FillsIf, FillsSlot}

-- A slot whose request has room for the bytes is filled.
pub filled-where-fits : {B : Type 0} (buffer : B → Buffer) (old new : FinMap nat_cmp (Slot B)) (key : ℕ) (bytes : List ℕ) (s : Slot B) →
    FillsSlot buffer old key bytes new → get old key ≡ Some s → length bytes ≤ room_of (plain_request buffer s.request) →
    IsFilled buffer old key bytes new s
filled-where-fits buffer old new key bytes s fills there fits =
    let passes : nat_le (length bytes) (room_of (plain_request buffer s.request)) ≡ true = grind (arith, nat_tests) in
    subst (λ b. FillsIf buffer b old key bytes new) (ap (λ x. fits_in buffer x (length bytes)) there ∙ passes) fills s there
