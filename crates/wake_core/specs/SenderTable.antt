-- Tables by number, and the senders in one. Cited by the steps of the wake state and by wake safety.
use Rattle.std.specs.Prelude.{ℕ, zero, suc, List, [], ◌∷◌, sum_by}
use Rattle.wake_core.specs.SenderState.{SenderState, new_sender}

-- the entry at this number, or `nothing` past the end of the table
abbrev pub entry_of : {X : Type 0} → X → List X → ℕ → X
entry_of nothing [] number = nothing
entry_of nothing (entry ∷ rest) zero = entry
entry_of nothing (entry ∷ rest) (suc number) = entry_of nothing rest number

-- the table with this entry at this number, and all others as before; past its end it is filled up with `nothing`
abbrev pub with_entry : {X : Type 0} → X → List X → ℕ → X → List X
with_entry nothing [] zero entry = entry ∷ []
with_entry nothing [] (suc number) entry = nothing ∷ with_entry nothing [] number entry
with_entry nothing (first ∷ rest) zero entry = entry ∷ rest
with_entry nothing (first ∷ rest) (suc number) entry = first ∷ with_entry nothing rest number entry

-- the sender with this number; one with no entry pushed nothing yet
abbrev pub sender_of : List SenderState → ℕ → SenderState
sender_of senders number = entry_of new_sender senders number

-- the senders where the one with this number is this one, and all others are as before
abbrev pub with_sender : List SenderState → ℕ → SenderState → List SenderState
with_sender senders number sender = with_entry new_sender senders number sender

-- the sum of the pushed counts
abbrev pub total_pushed : List SenderState → ℕ
total_pushed senders = sum_by (λ (sender : SenderState). sender.pushed) senders

-- the sum of the drained counts
abbrev pub total_drained : List SenderState → ℕ
total_drained senders = sum_by (λ (sender : SenderState). sender.drained) senders
