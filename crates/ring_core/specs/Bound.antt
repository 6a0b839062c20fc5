-- Bound entries in flight: each waits for the linked call directly before it. Cited by `MemRing` and `Flights`.
use Rattle.std.specs.Prelude.{ℕ, suc, ◌≡◌, Bool, true, false, if◌then◌else◌, List, [], ◌∷◌, ◌++◌, take, drop, remove, map, slice_get}
use Rattle.std.specs.Prelude.{Option, Some, None}
use Rattle.machine.specs.declared.request.TheConstants.{CANCELED}
use Rattle.machine.specs.declared.request.Outcome.{Outcome}
use Rattle.machine.specs.declared.request.Outcome.TheVariants.{Count, From, Made, Fail}
use Rattle.ring_core.specs.declared.entry.Entry.{Entry}
use Rattle.ring_core.specs.declared.entry.Flight.{Flight}
use Rattle.machine.specs.declared.completion.Completion.{Completion}
use Rattle.machine.specs.Lists.{passes}
pub use Rattle.ring_core.specs.Ring.{binds_next, fresh_flight}

-- The completion of an entry with an outcome.
abbrev pub completion_of : Entry → Outcome → Completion
completion_of entry outcome = record { word = entry.word; serial = entry.serial; outcome = outcome }

-- What is in flight at a place is bound.
abbrev pub is_bound : List Flight → ℕ → Bool
is_bound flying place = passes (λ flight. flight.bound) (slice_get flying place)

-- A bound entry was taken out of its place.
pub record IsTakenBound (flying : List Flight) (place : ℕ) (left : List Flight) (entry : Entry) : Type 0 where
  pub flight : Flight
  pub there : slice_get flying place ≡ Some flight
  pub bound : flight.bound ≡ true
  pub answer : entry ≡ flight.entry
  pub rest : left ≡ remove flying place

-- What is at a place is taken out where it is bound, and None comes exactly where it isn't.
abbrev pub TakesBound : List Flight → ℕ → List Flight → Option Entry → Type 0
TakesBound flying place left None = (is_bound flying place ≡ false) × (left ≡ flying)
TakesBound flying place left (Some entry) = IsTakenBound flying place left entry

-- The entries at the front that are bound, up to the first that isn't.
abbrev pub bound_front : List Flight → List Flight
bound_front [] = []
bound_front (flight ∷ flights) = if flight.bound then flight ∷ bound_front flights else []

-- What is behind them.
abbrev pub behind_bound : List Flight → List Flight
behind_bound [] = []
behind_bound (flight ∷ flights) = if flight.bound then behind_bound flights else flight ∷ flights

-- An entry that is bound no more.
abbrev pub unbound : Flight → Flight
unbound flight = record flight { bound = false }

-- The first entry is bound no more.
abbrev pub first_unbound : List Flight → List Flight
first_unbound [] = []
first_unbound (flight ∷ flights) = unbound flight ∷ flights

-- What was behind an entry, once it ended: a failed one takes those at the front that are bound with it, and behind any other the first
-- is bound no more.
abbrev pub left_behind : Outcome → List Flight → List Flight
left_behind (Fail e) behind = behind_bound behind
left_behind (Count k) behind = first_unbound behind
left_behind (From k addr) behind = first_unbound behind
left_behind (Made h) behind = first_unbound behind

-- What an entry takes with it as it ends: where it failed, those directly behind it that are bound.
abbrev pub taken_along : Outcome → List Flight → List Flight
taken_along (Fail e) behind = bound_front behind
taken_along (Count k) behind = []
taken_along (From k addr) behind = []
taken_along (Made h) behind = []

-- What is left in flight after the entry at a place ended.
abbrev pub flying_left : Outcome → ℕ → List Flight → List Flight
flying_left outcome place flying = take place flying ++ left_behind outcome (drop (suc place) flying)

-- The completions of those that ended with a failed entry, in order: each is canceled.
abbrev pub broken : List Flight → List Completion
broken flights = map (λ flight. completion_of flight.entry (Fail CANCELED)) flights

-- A bound entry at the front has a leader, and so has each bound one behind: the entry directly before it is a linked call.
abbrev pub AreLed : Bool → List Flight → Type 0
AreLed led [] = Unit {0}
AreLed led (flight ∷ flights) = (flight.bound ≡ true → led ≡ true) × AreLed (binds_next flight.entry flight.entry.body) flights

-- A linked call is directly before a place.
pub record HasLeader (flying : List Flight) (place : ℕ) : Type 0 where
  pub before : ℕ
  pub next : place ≡ suc before
  pub leader : Flight
  pub there : slice_get flying before ≡ Some leader
  pub links : binds_next leader.entry leader.entry.body ≡ true
