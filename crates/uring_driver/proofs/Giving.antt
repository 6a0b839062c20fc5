-- What the adoption of a handle leaves, with a new handle of the ring or without one.
use Rattle.std.proofs.Common.{◌≡◌, ◌≢◌, ◌∙◌, inl, inr, ℕ, ◌+◌, ◌≤◌, ◌<◌, false, [], ◌∷◌, ◌++◌, length, Some, refl, sym, ap, subst, arith}
use Rattle.std.specs.Prelude.{nat_lt, unwrap_or, is_some}
use Rattle.std.specs.Ordering.{nat_cmp}
use Rattle.std.specs.FinMap.{FinMap, get, remove, len}
use Rattle.rent_buf.specs.Buffer.{Buffer}
use Rattle.handle_core.specs.Table.{holders_at, without_handle, nobody, by_user}
use Rattle.machine.specs.declared.ledger.Event.TheVariants.{Give}
use Rattle.machine.specs.declared.ledger.Reply.TheVariants.{Handle}
use Rattle.machine.specs.declared.world.TheConstants.{MOST_HANDLES}
use Rattle.machine.specs.declared.world.HandleKind.{HandleKind}
use Rattle.machine.specs.declared.world.HandleState.{HandleState}
use Rattle.ring_core.specs.Lends.{with_world}
use Rattle.machine.specs.Lists.{passes}
use Rattle.ring_core.specs.Ring.{RingView}
use Rattle.machine.specs.World.{fresh}
use Rattle.machine.specs.Ledger.{Ledger, is_live, is_owned, user_holds}
use Rattle.machine.specs.Step.{give_step, new_owner}
use Rattle.machine.proofs.Amended.{joined-cases}
use Rattle.machine.proofs.Appended.{get-append-end}
use Rattle.machine.proofs.Numbers.{none-of}
use Rattle.op_slots.proofs.Places.{map-absent}
use Rattle.driver_core.specs.declared.slot.Slot.{Slot}
use Rattle.driver_core.specs.Slots.{SlotsStand}
use Rattle.driver_core.proofs.Counts.{where-within, owned-lives}
use Rattle.driver_core.proofs.Maps.{put-same, put-other, gone-same, gone-other, len-new, len-gone, remove-put}
use Rattle.uring_driver.specs.declared.uring.IoUringDriver.{IoUringDriver}
use Rattle.uring_driver.specs.Holding.{Holding, places, is_held, knows, IsSameHolding, HandlesStand}
use Rattle.uring_driver.specs.Released.{Adopts, HasCloseRoom}
use Rattle.uring_driver.specs.Stands.{owed, Stands, Answers}
use Rattle.uring_driver.specs.State.{AreHolding, IsSound}
use Rattle.uring_driver.specs.Submitted.{SameOps, IsSameRing}
use Rattle.uring_driver.specs.Uring.{ring_in, room_in}
use Rattle.uring_driver.proofs.Answering.{lawful-of}
use Rattle.uring_driver.proofs.Closings.{unknown}
use Rattle.uring_driver.proofs.Handling.{holding-beside, holders-beside}
use Rattle.uring_driver.proofs.Sound.{sound-keeps}
use Rattle.uring_driver.proofs.Starting.{stands-reserved, stands-gives}

-- Memory of a cancel for each slot and of a close for each handle is memory for what is owed.
pub owed-room : {B : Type 0} (buffer : B → Buffer) (slots : FinMap nat_cmp (Slot B)) (L : Ledger) (holding : Holding) (room : ℕ) →
    SlotsStand buffer slots L.ops → len slots + places holding ≤ room → owed L holding ≤ room
owed-room buffer slots L holding room stand more =
    let a = stand.counted in
    let b = where-within is_owned is_live L.ops owned-lives in
    omega (arith, a, b, more)

-- A handle that the user alone holds is forgotten: what holds of every driver holds of it.
pub kept-without : {B : Type 0} (room room' : ℕ) (slots : FinMap nat_cmp (Slot B)) (given : ℕ) (holding new : Holding) (h : ℕ) →
    IsSound room slots (places holding) × AreHolding holding slots given → get holding.table.holders h ≡ Some by_user →
    new ≡ record holding { table = without_handle holding.table h } → room ≤ room' →
    IsSound room' slots (places new) × AreHolding new slots given
kept-without room room' slots given holding new h old there is more =
    let left : Holding = record holding { table = without_handle holding.table h } in
    subst (λ (x : Holding). IsSound room' slots (places x) × AreHolding x slots given) (sym is) (
      sound-keeps room room' slots slots (places holding) (places left) old.0
          (let a = len-gone holding.table.holders h by_user there in omega (arith, a, more)) (λ key. refl),
      holding-beside holding left slots given h old.1 refl
          (ap (λ o. (unwrap_or o nobody).operations) (gone-same holding.table.holders h)
          ∙ ap (λ o. (unwrap_or o nobody).operations) (sym there))
          (λ k e. ap (λ o. unwrap_or o nobody) (gone-other holding.table.holders h k e)),
    )

module _ (old mid : Holding) (h : ℕ) (adopts : Adopts old h mid) where
  -- The user alone holds a handle that it adopted, once.
  pub adopted : get mid.table.holders h ≡ Some by_user
  adopted = ap (λ m. get m h) adopts.table ∙ put-same old.table.holders h by_user

  -- All else is held as before.
  beside : (k : ℕ) → k ≢ h → holders_at mid.table k ≡ holders_at old.table k
  beside k e = ap (λ m. unwrap_or (get m k) nobody) adopts.table ∙ ap (λ o. unwrap_or o nobody) (put-other old.table.holders h by_user k e)

  -- It is one handle more than were held.
  len-adopted : is_held old h ≡ false → len mid.table.holders ≡ len old.table.holders + 1
  len-adopted none = ap len adopts.table ∙ len-new old.table.holders h by_user (none-of (get old.table.holders h) none)

  -- Once it is forgotten the same are held as before.
  pub same-forgotten : (new : Holding) → is_held old h ≡ false → new ≡ record mid { table = without_handle mid.table h } →
      IsSameHolding old new
  same-forgotten new none is = record {
    table = ap (λ x. x.table.holders) is ∙ ap (λ m. remove m h) adopts.table ∙ remove-put old.table.holders h by_user
        ∙ map-absent old.table.holders h (none-of (get old.table.holders h) none);
    closing = ap (λ x. x.closing.holders) is ∙ adopts.closing;
    makers = ap (λ x. x.makers) is ∙ adopts.makers;
  }

  -- The holders stand for the ledger with a new handle, whose number this is.
  handles-adopted : (L : Ledger) (handle : HandleState) → HandlesStand old L → is_held old h ≡ false → h ≡ length L.owners →
      HandlesStand mid (give_step L handle)
  handles-adopted L handle stand none number =
      let M : Ledger = give_step L handle in record {
        holders = holders-beside old.table mid.table L M h stand.holders
            (ap (λ o. nat_lt 0 (unwrap_or o nobody).user) adopted
            ∙ sym (ap (λ k. user_holds M k) number ∙ ap (passes (λ owner. owner.is_user)) (get-append-end L.owners new_owner)))
            (ap (λ o. (unwrap_or o nobody).operations) adopted
            ∙ ap (λ o. (unwrap_or o nobody).operations) (sym (none-of (get old.table.holders h) none)))
            beside
            (λ k e. elim (joined-cases L.owners new_owner k) [
              | inl at ↦ absurd (e (at.0 ∙ sym number))
              | inr at ↦ ap (passes (λ owner. owner.is_user)) at.1
            ])
            (λ k. refl);
        closing = λ k. ap (λ m. is_some (get m k)) adopts.closing ∙ stand.closing k;
      }

-- A driver adopted a handle that it didn't know.
module _ {B : Type 0} (buffer : B → Buffer) (d mid new : IoUringDriver RingView B) (h : ℕ) (fresh_one : knows d.holding h ≡ false)
    (adopts : Adopts d.holding h mid.holding) (same : SameOps d mid × IsSameRing (λ r. r) d mid) (room : HasCloseRoom mid)
    (slots : new.slots ≡ mid.slots) (given : new.given ≡ mid.given) (members : new.members ≡ mid.members) where
  -- It is the number of a new handle of the ring: that is the machine's event.
  pub gives : (kind : HandleKind) (L : Ledger) → Stands (λ r. r) buffer d L → h ≡ length (ring_in d).world →
      length (ring_in d).world < MOST_HANDLES →
      new.ring ≡ record mid.ring { ring = with_world (ring_in mid) ((ring_in mid).world ++ fresh kind ∷ []) } → new.holding ≡ mid.holding →
      Answers (λ r. r) buffer L (Give kind) (Handle h) new
  gives kind L old number few ring holding =
      let none = (unknown d.holding h fresh_one).0 in
      let bare : IoUringDriver RingView B = record mid { holding = d.holding } in
      let in_slots = subst (λ s. SlotsStand buffer s.values L.ops) (sym same.0.slots) old.operations.in_slots in
      let count = len-adopted d.holding mid.holding h adopts none in
      let makers = adopts.makers in
      let stands = stands-reserved (λ r. r) buffer d bare L (ring_in mid).spare same.1.ring same.1.due
      (owed-room buffer mid.slots.values L d.holding (room_in mid) in_slots (omega (arith, count, makers, room)))
      (ap (λ s. s.values) same.0.slots) same.0.given (record { table = refl; closing = refl; makers = refl })
      same.0.members old in
      stands-gives buffer bare new L stands slots (ap (λ p. p.due) ring) given members kind h
      (number ∙ ap (λ r. length r.world) (sym same.1.ring))
      (let w = ap (λ r. length r.world) same.1.ring in omega (arith, w, few)) (ap (λ p. p.ring) ring)
      (subst (λ x. HandlesStand x (give_step L (fresh kind))) (sym holding)
      (handles-adopted d.holding mid.holding h adopts L (fresh kind) old.handles none
      (number ∙ ap length old.ring.world ∙ sym (lawful-of old).known.together)))
      (owed-room buffer mid.slots.values L new.holding (room_in new) in_slots
      (let a = ap places holding in let b = ap (λ p. p.room) ring in omega (arith, a, b, room)))

  -- The ring had no memory for it, and it is forgotten: the driver stands for what it stood for.
  pub stands-forgotten : (L : Ledger) → Stands (λ r. r) buffer d L → new.ring ≡ mid.ring →
      new.holding ≡ record mid.holding { table = without_handle mid.holding.table h } → Stands (λ r. r) buffer new L
  stands-forgotten L old ring is =
      let none = (unknown d.holding h fresh_one).0 in
      let in_slots = subst (λ s. SlotsStand buffer s.values L.ops) (sym same.0.slots) old.operations.in_slots in
      let count = len-adopted d.holding mid.holding h adopts none in
      let less = same-forgotten d.holding mid.holding h adopts new.holding none is in
      stands-reserved (λ r. r) buffer d new L (ring_in mid).spare (ap (λ p. p.ring) ring ∙ same.1.ring) (ap (λ p. p.due) ring ∙ same.1.due)
      (owed-room buffer mid.slots.values L new.holding (room_in new) in_slots
      (let a = ap len less.table in let b = ap (λ p. p.room) ring in let m = less.makers in let n = adopts.makers in
      omega (arith, a, b, m, n, count, room)))
      (ap (λ s. s.values) (slots ∙ same.0.slots)) (given ∙ same.0.given) less (members ∙ same.0.members) old
