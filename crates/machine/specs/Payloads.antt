-- What becomes of the payloads when a call is executed, and when that may run out of memory. Cited by `World`, and by rings.
use Rattle.std.specs.Prelude.{ℕ, ◌≡◌, Bool, true, false, nat_le, List, length, take, drop, ◌++◌}
use Rattle.machine.specs.declared.request.Call.{Call}
use Rattle.machine.specs.declared.request.Call.TheVariants.{In, Out, MessageIn, MessageOut, ReadAt, WriteAt, ToPipe, FromPipe, Accept}
use Rattle.machine.specs.declared.request.Call.TheVariants.{Open}
use Rattle.machine.specs.declared.request.Told.{Told}
use Rattle.machine.specs.declared.request.Told.TheVariants.{Count, Fail}

-- Bytes over the front of others: as many as there is place for, and behind them what they leave.
abbrev pub laid_over : List ℕ → List ℕ → List ℕ
laid_over bytes old = take (length old) bytes ++ drop (length bytes) old

-- A count of bytes comes from the handle of a call to what its request holds: the call reads.
abbrev pub count_comes : Call → Bool
count_comes (In h want) = true
count_comes (MessageIn h want) = true
count_comes (ReadAt h pos want) = true
count_comes _ = false

-- Bytes come with an outcome of a call: it reads, and didn't fail.
abbrev pub comes : Call → Told → Bool
comes call (Count k) = count_comes call
comes call (Fail e) = false

-- The payloads store the bytes that came for a data word, where bytes come; else they stay.
abbrev pub StoresIf : {P : Type 0} → (P → ℕ → List ℕ → P → Type 0) → Bool → P → ℕ → List ℕ → P → Type 0
StoresIf stores true before word got after = stores before word got after
StoresIf stores false before word got after = after ≡ before

-- Moving so many bytes may run out of memory: they are sent or spliced, or storing them takes memory. So may a
-- message that is sent, whatever its bytes, and a handle that is made.
abbrev pub count_may_run_out : (ℕ → Bool) → Call → ℕ → Bool
count_may_run_out takes_memory (In h want) k = takes_memory k
count_may_run_out takes_memory (MessageIn h want) k = takes_memory k
count_may_run_out takes_memory (ReadAt h pos want) k = takes_memory k
count_may_run_out takes_memory (Out h offered) k = nat_le 1 k
count_may_run_out takes_memory (MessageOut h addr offered) k = true
count_may_run_out takes_memory (WriteAt h pos offered) k = nat_le 1 k
count_may_run_out takes_memory (ToPipe h pipe want) k = nat_le 1 k
count_may_run_out takes_memory (FromPipe pipe h want) k = nat_le 1 k
count_may_run_out takes_memory (Accept h) k = true
count_may_run_out takes_memory Open k = true
count_may_run_out takes_memory _ k = false

-- Executing a call may run out of memory. An error never does.
abbrev pub may_run_out : (ℕ → Bool) → Call → Told → Bool
may_run_out takes_memory call (Count k) = count_may_run_out takes_memory call k
may_run_out takes_memory call (Fail e) = false
