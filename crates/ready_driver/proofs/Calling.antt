-- What a poll called: where memory ran out before its call, and where memory was taken before it.
use Rattle.std.proofs.Common.{◌≡◌, ℕ, Bool, true, false, Option, Some, None, inl, refl, ap, subst}
use Rattle.std.specs.Prelude.{Result, Err}
use Rattle.rent_buf.specs.Buffer.{Buffer}
use Rattle.rent_buf.specs.declared.fault.OutOfMemory.{OutOfMemory}
use Rattle.driver_core.specs.declared.op.Op.{Op}
use Rattle.driver_core.specs.declared.op.PollOp.{PollOp}
use Rattle.driver_core.specs.declared.slot.Slot.{Slot}
use Rattle.ready_driver.specs.declared.ready.Direction.{Direction}
use Rattle.ready_driver.specs.Awaits.{slot_awaits, unless, is_met_at}
use Rattle.ready_driver.specs.Calling.{Called, MakesNone, CallsOnce}
use Rattle.ready_driver.specs.LegacyPolls.{PollsCall}
use Rattle.ready_driver.specs.Ready.{meets, mask_of}
use Rattle.ready_driver.specs.Records.{Kept, io_at}
use Rattle.ready_driver.specs.Registry.{Handling, IsSameButRoom}

-- A poll for which memory ran out before its call, whether it might call or not.
pub refused-calls : {B I : Type 0} (met : Bool) (buffer : B → Buffer) (called : Called I) (slot new : Option (Slot B)) (before after : I)
    (error : OutOfMemory × Op) → MakesNone slot new before after → CallsOnce met buffer called slot before new after (Err error)
refused-calls true buffer called slot new before after error none = inl none
refused-calls false buffer called slot new before after error none = none

-- Whether a poll may call goes by the records alone, and not by the memory that is reserved for more.
pub met-same : (old room : Kept) (awaited : Option (ℕ × Direction)) → room.handles ≡ old.handles →
    is_met_at room awaited ≡ is_met_at old awaited
met-same old room None same = refl
met-same old room (Some (h, dir)) same = ap (λ hs. meets (io_at (record old { handles = hs }) h).ready (mask_of dir)) same

-- What a poll called behind the reserve of memory, it called over the handles before that.
pub calls-room : {B I : Type 0} (files : I → ℕ → Bool) (buffer : B → Buffer) (called : Called I) (old room : Handling I)
    (slot new : Option (Slot B)) (after : I) (result : Result (PollOp B) (OutOfMemory × Op)) → IsSameButRoom old room →
    PollsCall files buffer called room slot new after result → PollsCall files buffer called old slot new after result
calls-room files buffer called old room slot new after result same calls =
    subst (λ b. CallsOnce b buffer called slot old.io new after result)
    (met-same old.records room.records (unless (files old.io) (slot_awaits slot)) same.records)
    (subst (λ io. CallsOnce (is_met_at room.records (unless (files io) (slot_awaits slot))) buffer called slot io new after result) same.io
    calls)
