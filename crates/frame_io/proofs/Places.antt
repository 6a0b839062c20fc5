-- Open channels, from a place on.
use Rattle.std.proofs.Common.{◌≡◌, ℕ, List, [], ◌∷◌, ◌++◌, Bool, true, false, take, drop, ap, refl}
use Rattle.std.proofs.Common.{cond}
use Rattle.std.specs.Prelude.{nat_eq}
use Rattle.frame_io.specs.declared.message.Message.{Message}
use Rattle.frame_io.specs.Frames.{bytes_of, is_open, without}

-- A channel that is neither the first nor open among the others has no bytes, if it has none there.
none_at : (b : Bool) (channel : ℕ) (message : Message) (channels : List Message) → cond b true (is_open channel channels) ≡ false
    → (is_open channel channels ≡ false → bytes_of channel channels ≡ []) → cond b message.bytes (bytes_of channel channels) ≡ []
none_at true channel message channels none rest = cc
none_at false channel message channels none rest = rest none

-- A channel that isn't open has no bytes.
pub none_of : (channel : ℕ) (channels : List Message) → is_open channel channels ≡ false → bytes_of channel channels ≡ []
none_of channel [] none = refl
none_of channel (message ∷ channels) none =
    none_at (nat_eq message.channel channel) channel message channels none (λ h. none_of channel channels h)

-- All stay without a channel that is neither the first nor open among the others, if these stay.
without_at : (b : Bool) (channel : ℕ) (message : Message) (channels : List Message) → cond b true (is_open channel channels) ≡ false
    → (is_open channel channels ≡ false → without channel channels ≡ channels)
    → cond b channels (message ∷ without channel channels) ≡ message ∷ channels
without_at true channel message channels none rest = cc
without_at false channel message channels none rest = ap (λ o. message ∷ o) (rest none)

-- The others are all that are open then.
pub none_without : (channel : ℕ) (channels : List Message) → is_open channel channels ≡ false → without channel channels ≡ channels
none_without channel [] none = refl
none_without channel (message ∷ channels) none =
    without_at (nat_eq message.channel channel) channel message channels none (λ h. none_without channel channels h)

-- None of the first ones is the channel.
pub record Passes (channel : ℕ) (channels : List Message) (i : ℕ) : Type 0 where
  pub known : is_open channel channels ≡ is_open channel (drop i channels)
  pub bytes : bytes_of channel channels ≡ bytes_of channel (drop i channels)
  pub rest : without channel channels ≡ take i channels ++ without channel (drop i channels)
