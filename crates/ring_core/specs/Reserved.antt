-- The memory that the ring in memory keeps for its lists.
use Rattle.std.specs.Prelude.{ℕ, ◌+◌, ◌<◌, ◌≤◌, min}

-- By numbers: what is queued, in flight and done, and what is spare, has its memory in each of the three lists; in the queue no more than
-- it may hold.
pub record RingHasRoom (entries queued flying done spare queue_room flying_room done_room : ℕ) : Type 0 where
  pub some : 0 < entries
  pub within : queued ≤ entries
  pub in_queue : min (queued + flying + done + spare) entries ≤ queue_room
  pub in_flight : queued + flying + done + spare ≤ flying_room
  pub in_done : queued + flying + done + spare ≤ done_room
