-- An error that a poll of a driver returns has one of its causes.
use Rattle.std.proofs.Common.{◌≡◌, inl, inr, ◌⊎◌, ℕ, suc, ◌≤◌, Bool, true, false, List, Option, refl, sym, ◌∙◌, ap, subst}
use Rattle.std.specs.Prelude.{is_some, nat_le, ◌||◌}
use Rattle.std.specs.FinMap.{get}
use Rattle.rent_buf.specs.Counts.{Rose}
use Rattle.handle_core.specs.Table.{Table}
use Rattle.machine.specs.declared.world.TheConstants.{MOST_HANDLES}
use Rattle.machine.specs.declared.request.TheConstants.{CANCELED}
use Rattle.machine.specs.declared.request.Outcome.{Outcome}
use Rattle.machine.specs.declared.request.Outcome.TheVariants.{Count, From, Made, Fail}
use Rattle.machine.specs.declared.world.call.TheConstants.{INVALID}
use Rattle.machine.specs.Effect.{made_by}
use Rattle.driver_core.specs.declared.slot.Slot.{Slot}
use Rattle.ready_driver.specs.Errors.{IsCounted, IsCanceledWith, ErrorFor}
use Rattle.ready_driver.specs.Io.{IoView}
use Rattle.ready_driver.specs.LegacyPolls.{HandsOver, outcome_if, outcome_for}
use Rattle.ready_driver.specs.Named.{IsCompleted, IsOnlyCanceled}
use Rattle.ready_driver.specs.Registry.{Handling, is_old, IsSameButRoom, LetsGo}
use Rattle.driver_core.proofs.Rising.{rose-later}
use Rattle.ready_driver.proofs.Naming.{completed-only}

-- A poll for which memory was reserved: what it left, the handle that it handed over, and the handles that it let go.
module _ {I B : Type 0} (view : I → IoView) (tells memory : Bool) (old room mid handed new : Handling I) (slot : Option (Slot B))
    (same : IsSameButRoom old room) (table : mid.table ≡ room.table) (only : IsOnlyCanceled slot) (after : Table) (handles : List ℕ)
    (lets : LetsGo view tells memory handed after handles new) where
  -- The error of its own cancel.
  canceled-error : (e : ℕ) → IsCompleted slot (Fail e) → IsCanceledWith slot e
  canceled-error e is =
      let canceled = completed-only slot (Fail e) only is in
      record { error = cc; asked = subst (IsCompleted slot) canceled is }

  -- A handle that can't be new by the holders after the poll can't be by those before it.
  old-before : (h : ℕ) → is_old mid.table h ≡ true → is_old old.table h ≡ true
  old-before h is =
      ap (λ m. is_some (get m h) || nat_le MOST_HANDLES h) (sym (ap (λ t. t.holders) table ∙ same.table)) ∙ is

  pub error-caused : (call outcome : Outcome) → IsCompleted slot call ⊎ IsCounted call (view room.io) (view mid.io) →
      outcome ≡ outcome_for mid.table call → HandsOver view tells memory mid (made_by outcome) handed →
      ErrorFor old.table slot (view old.io) (view new.io) outcome
  error-caused (Count k) outcome returned is hands = subst (ErrorFor old.table slot (view old.io) (view new.io)) (sym is) tt
  error-caused (From k addr) outcome returned is hands = subst (ErrorFor old.table slot (view old.io) (view new.io)) (sym is) tt
  error-caused (Made h) outcome returned is hands = by (is_old mid.table h) refl is
    where
      refused : is_old mid.table h ≡ true → outcome ≡ Fail INVALID →
          IsCompleted slot (Made h) ⊎ IsCounted (Made h) (view room.io) (view mid.io) →
          ErrorFor old.table slot (view old.io) (view new.io) (Fail INVALID)
      refused unfit ended (inl completed) =
          let never : Made h ≡ Fail CANCELED = completed-only slot (Made h) only completed in
          let f : ⊥ = cc in
          absurd f
      refused unfit ended (inr counted) =
          let kept : handed ≡ mid = subst (λ o. HandsOver view tells memory mid (made_by o) handed) ended hands in
          inr (inr (record {
            error = refl;
            made = lets.object.made ∙ ap (λ x. (view x.io).made) kept ∙ counted.made ∙ ap (λ i. suc (view i).made) same.io;
            handle = h;
            refused = old-before h unfit;
          }))

      by : (b : Bool) → is_old mid.table h ≡ b → outcome ≡ outcome_if b (Made h) →
          ErrorFor old.table slot (view old.io) (view new.io) outcome
      by true unfit ended = subst (ErrorFor old.table slot (view old.io) (view new.io)) (sym ended) (refused unfit ended returned)
      by false fit ended = subst (ErrorFor old.table slot (view old.io) (view new.io)) (sym ended) tt
  error-caused (Fail e) outcome returned is hands =
      subst (ErrorFor old.table slot (view old.io) (view new.io)) (sym is) (by returned)
    where
      by : IsCompleted slot (Fail e) ⊎ IsCounted (Fail e) (view room.io) (view mid.io) →
          ErrorFor old.table slot (view old.io) (view new.io) (Fail e)
      by (inl completed) = inr (inl (canceled-error e completed))
      by (inr counted) =
          let kept : handed ≡ mid = subst (λ o. HandsOver view tells memory mid (made_by o) handed) is hands in
          inl (rose-later _ _ _ (subst (λ i. Rose (view i).fails (view mid.io).fails) same.io counted.fails)
          (subst (λ x. (view x.io).fails ≤ (view new.io).fails) kept lets.object.later.fails))
