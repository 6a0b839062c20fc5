-- A ring in memory whose enters fail where they are told to. Cited by `FaultRing`, and by the driver over one.
use Rattle.std.specs.Prelude.{ℕ, ◌≡◌, ◌+◌, ◌^◌, ◌-◌, ◌==◌, min, Bool, true, false, List, [], ◌∷◌, ◌++◌, length, Result, Ok, Err}
use Rattle.std.specs.List.{list_any}
use Rattle.machine.specs.declared.completion.Completion.{Completion}
use Rattle.ring_core.specs.declared.ring.EnterError.{EnterError}
use Rattle.ring_core.specs.declared.ring.EnterError.TheVariants.{Fault, Busy}
use Rattle.ring_core.specs.Ring.{RingView, entered, with_done}

-- The ring inside; the numbers of the enters that fail, and of those that are busy; how many enters were called; and how many of them
-- failed and were busy.
pub record FaultView : Type 0 where
  pub ring : RingView
  pub failing : List ℕ
  pub busy : List ℕ
  pub calls : ℕ
  pub faults : ℕ
  pub busies : ℕ

-- A new one: no enter was called.
abbrev pub fresh_faults : RingView → List ℕ → List ℕ → FaultView
fresh_faults ring failing busy = record { ring = ring; failing = failing; busy = busy; calls = 0; faults = 0; busies = 0 }

-- As every ring is seen: the ring inside, with these counts.
abbrev pub faulty_ring : FaultView → RingView
faulty_ring faulty = record faulty.ring { faults = faulty.faults; busies = faulty.busies }

-- The same with another ring inside.
abbrev pub with_ring : FaultView → RingView → FaultView
with_ring faulty ring = record faulty { ring = ring }

-- A ring with one more completion behind those that are ready.
abbrev pub with_completion : RingView → Completion → RingView
with_completion ring completion = with_done ring (ring.done ++ completion ∷ [])

-- A count once more. It stays at the last value of a `u64`.
abbrev pub once_more : ℕ → ℕ
once_more count = min (count + 1) (2 ^ 64 - 1)

-- The number of the next enter is in a list.
abbrev pub is_next : FaultView → List ℕ → Bool
is_next faulty numbers = list_any (λ number. number == faulty.calls) numbers

-- What an enter answers and leaves, by whether its number is one of those that fail, and one of those that are busy. Then the queue stays,
-- and the matching count rises; an enter that would do both fails. Else the ring inside takes its whole queue.
abbrev pub EntersAs : Bool → Bool → FaultView → FaultView → Result ℕ EnterError → Type 0
EntersAs true busy old new result =
    (result ≡ Err Fault) × (new ≡ record old { calls = once_more old.calls; faults = once_more old.faults })
EntersAs false true old new result =
    (result ≡ Err Busy) × (new ≡ record old { calls = once_more old.calls; busies = once_more old.busies })
EntersAs false false old new result =
    (result ≡ Ok (length old.ring.queue)) × (new ≡ record old { calls = once_more old.calls; ring = entered old.ring })

-- What the next enter answers and leaves.
abbrev pub EntersFaulty : FaultView → FaultView → Result ℕ EnterError → Type 0
EntersFaulty old new result = EntersAs (is_next old old.failing) (is_next old old.busy) old new result
