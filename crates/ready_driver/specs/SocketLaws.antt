-- Laws of objects that listen and dial: those of the impls of `Sockets` and `NonBlock`.
use Rattle.std.specs.Prelude.{ℕ, ◌≡◌, true, false, IsTrue, length, refl}
use Rattle.std.proofs.Common.{ap, sym}
use Rattle.rent_buf.specs.Buffer.{Buffer}
use Rattle.rent_buf.specs.Parts.{Parts}
use Rattle.machine.specs.declared.request.Request.{Request}
use Rattle.machine.specs.declared.request.Outcome.TheVariants.{Made}
use Rattle.machine.specs.Request.{call_of, sent_of}
use Rattle.machine.specs.Effect.{made_by}
use Rattle.machine.proofs.Turning.{grows-effect}
use Rattle.driver_core.specs.declared.operations.calls.CallAnswer.TheVariants.{Done}
use Rattle.ready_driver.specs.Io.{CallsFor}
use Rattle.ready_driver.specs.MemIo.{Memory, memory_view}

-- The number of a handle that a world in memory makes is how many there were.
pub memory-numbered : (old : Memory) (request : Request Buffer Parts) (new : Memory) (now : Request Buffer Parts) (h : ℕ) →
    CallsFor true true (memory_view old) request (memory_view new) now (Done (Made h)) → h ≡ length old.world
memory-numbered old request new now h calls =
    let called = (calls.called refl).0 in
    (grows-effect old.world (call_of request) (sent_of request) called.told).last h (ap made_by (sym called.outcome_is))

-- What isn't a world in memory has whatever is said of one.
pub no-memory : {A : Type 0} → IsTrue false → A
no-memory told = (let f : ⊥ = cc in absurd f)
