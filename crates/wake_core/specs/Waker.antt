-- Wakers. Cited by the steps of the wake state.
use Rattle.std.specs.Prelude.{ℕ}
use Rattle.wake_core.specs.declared.waker.Waker.{Waker}

-- the waker with this sender, this number among the sender's wakers, and this task
abbrev pub waker : ℕ → ℕ → ℕ → Waker
waker sender number task = record { sender = sender; number = number; task = task }
