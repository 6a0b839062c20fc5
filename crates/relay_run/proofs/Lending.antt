-- Lent objects are the same where what they hold is.
use Rattle.std.proofs.Common.{◌≡◌}
use mathlib.Core.HLevel.{is_prop→PathP}

-- What is made of equal values and of a fact that has one proof is equal.
pub made_same : {T L : Type 0} (P : T → Type 0) → ((t : T) → IsProp (P t)) → (make : (t : T) → P t → L) (new old : T) → new ≡ old
    → (now : P new) (before : P old) → make new now ≡ make old before
made_same P one make new old same now before = λ i. make (same i) (is_prop→PathP (λ j. P (same j)) (λ j. one (same j)) now before i)
