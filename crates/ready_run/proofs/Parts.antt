-- What follows where the parts of a session belong together, and that they still do after each event.
use Rattle.std.proofs.Common.{◌≡◌, ◌<◌, ℕ, Bool, true, false, length, Option, Some, None, refl, ap, slice_get, arith}
use Rattle.std.proofs.lemmas.Option.{slice_get_within}
use Rattle.std.specs.Prelude.{Result, Ok, Err, is_some}
use Rattle.rent_buf.specs.declared.fault.OutOfMemory.{OutOfMemory}
use Rattle.machine.specs.declared.ledger.Event.{Event}
use Rattle.machine.specs.declared.ledger.Reply.{Reply}
use Rattle.driver_core.specs.declared.op.Op.{Op}
use Rattle.driver_core.specs.Tokens.{token_at, by_number, cancellers_in, handles_in}
use Rattle.ready_driver.specs.Legacy.{Legacy}
use Rattle.ready_driver.specs.LegacyState.{Holds, group_count}
use Rattle.ready_driver.specs.LegacyStep.{legacy_step}
use Rattle.ready_driver.specs.Registry.{is_known}
use Rattle.ready_driver.proofs.Shown.{keyed-key}
use Rattle.ready_run.specs.declared.inner.Inner.{Inner}
use Rattle.ready_run.specs.ReadySession.{AreParts, SessionStands, StepsFor}
use Rattle.ready_run.proofs.Canceling.{canceller-made, handle-made}

-- After an event that is answered as the driver as plain data does, they do.
pub parts-after : (old new : Inner) (event : Event) (result : Result Reply OutOfMemory) → AreParts old →
    ((D : Legacy) → SessionStands old D → StepsFor D event new result) → AreParts new
parts-after old new event (Ok reply) parts steps =
    record { plain = (legacy_step parts.plain event).0; stands = (steps parts.plain parts.stands).stands }
parts-after old new event (Err refused) parts steps = record { plain = parts.plain; stands = (steps parts.plain parts.stands).stands }

-- A token that is kept is held.
pub token-held : (session : Inner) (n : ℕ) (op : Op) → AreParts session → token_at (by_number session.tokens) n ≡ Some op →
    Holds session.driver op
token-held session n op parts there = ((parts.stands.tokens n op).0 there).0

-- A token that is there isn't missing.
pub not-missing : (found : Option Op) → is_some found ≡ true → None ≡ found → ⊥
not-missing None is none = (let f : ◌≡◌ {A = Bool} false true = is in let g : ⊥ = cc in g)
not-missing (Some op) is none = (let f : ⊥ = cc in f)

-- Nobody holds a handle that the world doesn't have yet.
pub next-unknown : (session : Inner) → AreParts session →
    is_known session.driver.handling.table (length session.driver.handling.io.world) ≡ false
next-unknown session parts = by (is_known session.driver.handling.table (length session.driver.handling.io.world)) refl
  where
    by : (known : Bool) → is_known session.driver.handling.table (length session.driver.handling.io.world) ≡ known → known ≡ false
    by false is = refl
    by true is = absurd (
        let handles = parts.stands.driver.handles in
        let key = keyed-key session.driver.handling.io.keys (length session.driver.handling.io.world) (handles.keyed _ is) in
        let within = slice_get_within session.driver.handling.io.keys (length session.driver.handling.io.world) _ key.1 in
        let sized = handles.sized in
        let same = ap (λ w. length w) parts.stands.driver.parts.handles in
        omega (arith, within, sized, same))

-- The group of a canceller that is kept was made.
pub group-made : (session : Inner) (c g : ℕ) → AreParts session → token_at (cancellers_in session.tokens) c ≡ Some g →
    g < group_count session.driver
group-made session c g parts there = canceller-made session parts.plain c g parts.stands there

-- So was that of a cancel handle.
pub under-made : (session : Inner) (handle g : ℕ) → AreParts session → slice_get (handles_in session.tokens) handle ≡ Some g →
    g < group_count session.driver
under-made session handle g parts there = handle-made session parts.plain handle g parts.stands there
