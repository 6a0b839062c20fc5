-- What a park and a send of one connection leave of both.
use Rattle.std.proofs.Common.{◌≡◌, ◌∙◌, ap, sym, subst, Bool}
use Rattle.rent_buf.specs.Rent.{Rented}
use Rattle.driver_core.specs.Ops.{Ops}
use Rattle.driver_core.specs.declared.op.Turned.{Turned}
use Rattle.ready_driver.specs.Io.{IoView}
use Rattle.ready_driver.specs.LegacyState.{LegacyState, ops_in}
use Rattle.ready_driver.specs.LegacyTurns.{LegacyTurns}
use Rattle.net_stream.specs.declared.connection.Connection.{Connection}
use Rattle.net_stream.specs.Connection.{FitsConnection, KeepsBeside}
use Rattle.net_stream.specs.Outbox.{Outboxed}
use Rattle.net_stream.proofs.Frames.{beside_fits, beside_swaps}
use Rattle.net_copy.specs.Run.{FitsBoth}

-- A turn leaves the operations.
parked_ops : {I : Type 0} (view : I → IoView) (tells reporting memory : Bool) (old new : LegacyState I Rented) (turned : Turned)
    → LegacyTurns view tells reporting memory old new turned → ops_in new ≡ ops_in old
parked_ops view tells reporting memory old new turned turns =
    ap (λ s. record { slots = s; given = new.given }) turns.slots ∙ ap (λ n. record { slots = old.slots; given = n }) turns.given

-- So what connections wait for stays.
pub parked_fits : {I : Type 0} (view : I → IoView) (tells reporting memory : Bool) (old new : LegacyState I Rented) (turned : Turned)
    (from to : Connection) → LegacyTurns view tells reporting memory old new turned → FitsBoth (ops_in old) from to
    → FitsBoth (ops_in new) from to
parked_fits view tells reporting memory old new turned from to turns fits =
    subst (λ ops. FitsBoth ops from to) (sym (parked_ops view tells reporting memory old new turned turns)) fits

-- A call of the second connection keeps what the first waits for.
pub second_fits : (old new : Ops Rented) (from to now : Connection) → FitsBoth old from to → KeepsBeside old to new now
    → FitsConnection new now → FitsBoth new from now
second_fits old new from to now fits keeps later =
    let kept = beside_fits old new to now from keeps fits.from_fits (beside_swaps from to fits.beside) in
    record { from_fits = kept.0; to_fits = later; beside = beside_swaps now from kept.1 }

-- What becomes of the outbox of the second changes nothing of what both wait for.
pub outbox_fits : (ops : Ops Rented) (from to : Connection) (outbox : Outboxed) → FitsBoth ops from to
    → FitsBoth ops from (record to { outbox = outbox })
outbox_fits ops from to outbox fits = record {
  from_fits = fits.from_fits;
  to_fits = record { receives = fits.to_fits.receives; sends = fits.to_fits.sends; apart = fits.to_fits.apart };
  beside = record {
    both_receive = fits.beside.both_receive;
    one_receives = fits.beside.one_receives;
    one_sends = fits.beside.one_sends;
    both_send = fits.beside.both_send;
  };
}
