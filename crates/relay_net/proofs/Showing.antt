-- What the bits of handles show behind a turn, and beside a handle that is opened.
use Rattle.std.proofs.Common.{ℕ, ◌≡◌, ◌∙◌, ap, sym, subst, Bool, IsTrue, true, false, [], ◌∷◌, ◌++◌}
use Rattle.std.proofs.Common.{Some, None}
use Rattle.std.specs.Prelude.{◌||◌, is_some, nat_le}
use Rattle.std.specs.FinMap as map
use Rattle.rent_buf.specs.declared.plain.Buf.{Buf}
use Rattle.machine.specs.declared.world.TheConstants.{MOST_HANDLES}
use Rattle.machine.specs.World.{fresh}
use Rattle.machine.specs.declared.world.HandleKind.TheVariants.{Stream}
use Rattle.driver_core.specs.declared.op.Turned.{Turned}
use Rattle.ready_driver.specs.declared.non_block.NonBlockError.{NonBlockError}
use Rattle.ready_driver.specs.Dialing.{IsOpened, IsUnopened}
use Rattle.ready_driver.specs.Io.{IoView}
use Rattle.ready_driver.specs.LegacyState.{LegacyState}
use Rattle.ready_driver.specs.LegacyTurns.{LegacyTurns, TurnsBy, turning_in}
use Rattle.ready_driver.specs.Records.{io_at}
use Rattle.ready_driver.specs.Registry.{is_old, is_users}
use Rattle.machine.specs.Attempt.{is_readable_at}
use Rattle.relay_net.specs.Forwarding.{IsSeen, KeepsSeen}
use Rattle.relay_net.specs.Keyed.{HasKeys}
use Rattle.relay_net.specs.Keeping.{world_of}
use Rattle.relay_net.proofs.Calls.{same_users}
use Rattle.relay_net.proofs.Listens.{users_known}
use Rattle.relay_net.proofs.Seeing.{appended_readable, handed_bits, keeps_seen, same_bits, shows_still}
use Rattle.relay_net.proofs.Opens.{handed_still}

module _ {I : Type 0} (view : I → IoView) (tells memory : Bool) (told : IsTrue memory → IsTrue tells) where
  -- A handle that was opened, and one that wasn't, leaves what the bits of the others show.
  pub opened_seen : (old new : LegacyState I Buf) (h : ℕ) → IsOpened view tells memory Stream old.handling new.handling h
      → KeepsSeen view memory old new
  opened_seen old new h opened memory_is k held stream seen =
      let t = told memory_is in
      let still = handed_still view tells memory opened.mid new.handling (Some h) (opened_fresh opened, opened.user) in
      let world : world_of view new ≡ world_of view old ++ fresh Stream ∷ [] = still.1 t ∙ opened.made.world t in
      let mid_held = same_users old.handling.table opened.mid.table opened.holders k held in
      shows_still (is_readable_at (world_of view old) k) (is_readable_at (world_of view new) k) (io_at old.handling.records k).ready
      (io_at new.handling.records k).ready
      (handed_bits view tells memory told opened.mid new.handling (Some h) (opened_fresh opened, opened.user) k mid_held
      ∙ same_bits old.handling.records opened.mid.records k opened.handles)
      (λ is. appended_readable (world_of view old) k stream (ap (λ w. is_readable_at w k) (sym world) ∙ is)) seen
    where
      opened_fresh : (opened : IsOpened view tells memory Stream old.handling new.handling h) → is_old opened.mid.table h ≡ false
      opened_fresh opened = ap (λ m. is_some (map.get m h) || nat_le MOST_HANDLES h) opened.holders ∙ opened.fresh

  pub unopened_seen : (old new : LegacyState I Buf) (why : NonBlockError) → IsUnopened view tells memory old.handling new.handling why
      → KeepsSeen view memory old new
  unopened_seen old new why unopened =
      keeps_seen view tells memory told old new unopened.object.world (λ h held.
      same_bits old.handling.records new.handling.records h unopened.handles)

-- Behind a turn that didn't stop the bits of each handle of the user show what it has.
pub turned_seen : {I : Type 0} (view : I → IoView) (tells memory reporting : Bool) (old new : LegacyState I Buf) (turned : Turned)
    → LegacyTurns view tells reporting memory old new turned → turned.stop ≡ None → IsTrue memory → HasKeys view old.handling → (h : ℕ)
    → is_users new.handling.table h ≡ true → IsSeen view new h
turned_seen view tells memory reporting old new turned turns on memory_is has h held =
    let does = subst (TurnsBy view tells reporting memory (turning_in old old.asked) (turning_in new turns.tasks)) on turns.does in
    does.shows memory_is has.keyed h (users_known new.handling.table h held)
