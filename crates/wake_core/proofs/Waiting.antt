-- What a round's wait was.
use Rattle.std.proofs.Common.{◌≡◌, ◌⊎◌, ℕ, Bool, true, false, Option, Some, None, inl, inr}
use Rattle.wake_core.specs.Sleeping.{Sleeping, Waits, waited_if}

-- A round waited with its limit, or didn't wait, by whether the sleeper slept when it came to its wait.
waited-or-not : (asleep : Option Bool) (limit : Option ℕ) (waited : Option (Option ℕ)) → waited ≡ waited_if asleep limit →
    (waited ≡ None) ⊎ (waited ≡ Some limit)
waited-or-not None limit waited is = inl is
waited-or-not (Some true) limit waited is = inr is
waited-or-not (Some false) limit waited is = inl is

-- A round that came to its wait where nothing stands waited with its limit, or didn't wait.
pub waits-or-not : (still : Bool) (limit : Option ℕ) (new : Sleeping) → Waits still limit new →
    (new.waited ≡ None) ⊎ (new.waited ≡ Some limit)
waits-or-not still limit new waits = waited-or-not new.asleep limit new.waited waits.waited
