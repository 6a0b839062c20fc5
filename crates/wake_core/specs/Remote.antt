-- What contracts see of a sender. Cited by `RemoteSender` and by the settling of the sleeper.
use Rattle.std.specs.Prelude.{ℕ, List, Option, None, sum_by}

-- a sender of wakers
pub record Remote : Type 0 where
  -- its number among the senders of its sleeper
  pub number : ℕ
  -- how many wakers it sent
  pub sent : ℕ
  -- the task of the last one
  pub last : Option ℕ

-- the sender with this number, which sent nothing yet
abbrev pub new_remote : ℕ → Remote
new_remote number = record { number = number; sent = 0; last = None }

-- how many wakers these senders sent
abbrev pub sent_by : List Remote → ℕ
sent_by senders = sum_by (λ (sender : Remote). sender.sent) senders
