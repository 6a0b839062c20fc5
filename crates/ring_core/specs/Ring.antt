-- A ring as a value, and what its calls do.
use Rattle.std.specs.Prelude.{ℕ, ◌+◌, ◌-◌, ◌≡◌, ◌≤◌, ◌<◌, Bool, false, ◌||◌, ◌==◌, IsTrue, List, [], ◌∷◌, ◌++◌, take, drop, map, length}
use Rattle.std.specs.Prelude.{Result, Ok, Err, Option, Some, None}
use Rattle.ring_core.specs.declared.entry.Entry.{Entry}
use Rattle.ring_core.specs.declared.entry.Flight.{Flight}
use Rattle.machine.specs.declared.completion.Completion.{Completion}
use Rattle.machine.specs.declared.request.Outcome.TheVariants.{Count as Counted}
use Rattle.ring_core.specs.declared.entry.Body.{Body}
use Rattle.ring_core.specs.declared.entry.Body.TheVariants.{Call as Calls, Cancel as Cancels, Close as Closes}
use Rattle.machine.specs.declared.world.HandleState.{HandleState}
use Rattle.ring_core.specs.declared.ring.Push.{Push}
use Rattle.ring_core.specs.declared.ring.Push.TheVariants.{Done, Full}
use Rattle.ring_core.specs.declared.ring.EnterError.{EnterError}
use Rattle.ring_core.specs.declared.ring.EnterError.TheVariants.{Fault, Busy}
use Rattle.machine.specs.Counts.{Rose}

-- A ring: its queue, what is in flight, the completions that are ready, its handles, for how many pushes it has reserved memory,
-- how often it failed and was busy, and how many completions are still to come by themselves, of the entries that it took. Every ring
-- shows its capacity, its counts, `spare`, `to_come`, and the lengths of `queue` and `done`; where it doesn't show its lists their
-- contents mean nothing. Only the ring in memory has handles, in `world`: they are here so that one clause of a driver speaks of every
-- ring.
pub record RingView : Type 0 where
  pub capacity : ℕ
  pub queue : List Entry
  pub flying : List Flight
  pub done : List Completion
  pub world : List HandleState
  pub spare : ℕ
  pub faults : ℕ
  pub busies : ℕ
  pub to_come : ℕ

-- An entry in flight after a cancel of a key was taken: it is marked where its data word is that key. No serial is compared.
abbrev pub marked_by : ℕ → Flight → Flight
marked_by key flight = record flight { marked = flight.marked || flight.entry.word == key }

-- An entry that was taken, bound or not.
abbrev pub fresh_flight : Entry → Bool → Flight
fresh_flight entry bound = record { entry = entry; marked = false; bound = bound }

-- What is in flight after one entry was taken: a call and a close join the end, a call bound or not; a cancel marks what has its key.
abbrev pub flying_after_entry : Bool → List Flight → Entry → Body → List Flight
flying_after_entry bound flying entry (Calls call) = flying ++ fresh_flight entry bound ∷ []
flying_after_entry bound flying entry (Cancels key) = map (marked_by key) flying
flying_after_entry bound flying entry (Closes h) = flying ++ fresh_flight entry false ∷ []

-- The call that is taken directly behind an entry is bound where that entry is a linked call.
abbrev pub binds_next : Entry → Body → Bool
binds_next entry (Calls call) = entry.linked
binds_next entry (Cancels key) = false
binds_next entry (Closes h) = false

-- The completions after one entry was taken: a call and a close leave none; a cancel is done, whatever it marked.
abbrev pub done_after_entry : List Completion → Entry → Body → List Completion
done_after_entry done entry (Calls call) = done
done_after_entry done entry (Cancels key) = done ++ record { word = entry.word; serial = entry.serial; outcome = Counted 0 } ∷ []
done_after_entry done entry (Closes h) = done

-- What is in flight after entries were taken, in order, where a call at their front is bound or not.
abbrev pub flying_bound : Bool → List Flight → List Entry → List Flight
flying_bound bound flying [] = flying
flying_bound bound flying (entry ∷ entries) =
    flying_bound (binds_next entry entry.body) (flying_after_entry bound flying entry entry.body) entries

-- What is in flight after entries were taken at once, in order. A call is bound where the entry directly before it is a linked call.
abbrev pub flying_after : List Flight → List Entry → List Flight
flying_after flying entries = flying_bound false flying entries

-- The completions after entries were taken, in order.
abbrev pub done_after : List Completion → List Entry → List Completion
done_after done [] = done
done_after done (entry ∷ entries) = done_after (done_after_entry done entry entry.body) entries

-- A ring after its queue was taken, in order.
abbrev pub entered : RingView → RingView
entered view = record view { queue = []; flying = flying_after view.flying view.queue; done = done_after view.done view.queue }

-- A ring after a push: the entry joins the queue's end, and takes the memory of one push.
abbrev pub pushed : RingView → Entry → RingView
pushed view entry = record view { queue = view.queue ++ entry ∷ []; spare = view.spare - 1 }

-- A ring with room for more pushes.
abbrev pub reserved : RingView → ℕ → RingView
reserved view n = record view { spare = view.spare + n }

-- A ring with these completions left.
abbrev pub with_done : RingView → List Completion → RingView
with_done view done = record view { done = done }

-- What no call makes less: the counts, and how many handles there are; and the capacity stays.
pub record IsLater (old new : RingView) : Type 0 where
  pub same_capacity : new.capacity ≡ old.capacity
  pub more_handles : length old.world ≤ length new.world
  pub more_faults : old.faults ≤ new.faults
  pub more_busies : old.busies ≤ new.busies

-- An entry was pushed: the queue had room, and has it at its end.
pub record IsPushed (tells : Bool) (entry : Entry) (old new : RingView) : Type 0 where
  pub had_room : length old.queue < old.capacity
  pub one_more : length new.queue ≡ length old.queue + 1
  pub same_done : length new.done ≡ length old.done
  pub one_spare_less : new.spare + 1 ≡ old.spare
  pub no_more : new.to_come ≤ old.to_come
  pub later : IsLater old new
  pub told : IsTrue tells → new ≡ pushed old entry

-- What a push returns and leaves: the entry comes back exactly when the queue is at capacity, and then nothing has changed.
abbrev pub PushesFor : Bool → Entry → RingView → RingView → Push → Type 0
PushesFor tells entry old new Done = IsPushed tells entry old new
PushesFor tells entry old new (Full back) = (back ≡ entry) × (new ≡ old) × (length old.queue ≡ old.capacity)

-- An enter that took the whole queue, n entries. At most one completion came for each, and none was lost. For each of these entries that
-- none came for, one may be to come.
pub record IsEntered (tells : Bool) (old new : RingView) (n : ℕ) : Type 0 where
  pub all : n ≡ length old.queue
  pub emptied : new.queue ≡ []
  pub more_done : length old.done ≤ length new.done
  pub few_done : length new.done ≤ length old.done + n
  pub few_to_come : length new.done + new.to_come ≤ length old.done + old.to_come + n
  pub spare : old.spare ≤ new.spare
  pub later : IsLater old new
  pub told : IsTrue tells → new ≡ entered old

-- A prefix of the queue was taken, of `count` entries.
pub record TookFront (count : ℕ) (old new : RingView) : Type 0 where
  pub within : count ≤ length old.queue
  pub queue : new.queue ≡ drop count old.queue
  pub flying : new.flying ≡ flying_after old.flying (take count old.queue)
  pub done : new.done ≡ done_after old.done (take count old.queue)
  pub world : new.world ≡ old.world

-- An enter that failed or was busy: a prefix of the queue may have been taken, with at most one completion for each entry of it, that came
-- or is to come, and no completion was lost.
pub record IsCutShort (tells : Bool) (old new : RingView) : Type 0 where
  pub count : ℕ
  pub rest : length new.queue + count ≡ length old.queue
  pub more_done : length old.done ≤ length new.done
  pub few_done : length new.done ≤ length old.done + count
  pub few_to_come : length new.done + new.to_come ≤ length old.done + old.to_come + count
  pub spare : old.spare ≤ new.spare
  pub later : IsLater old new
  pub told : IsTrue tells → TookFront count old new

-- What an enter returns and leaves: it took the whole queue, or a count rose and it took a prefix at most.
abbrev pub EntersFor : Bool → RingView → RingView → Result ℕ EnterError → Type 0
EntersFor tells old new (Ok n) = IsEntered tells old new n
EntersFor tells old new (Err Fault) = Rose old.faults new.faults × IsCutShort tells old new
EntersFor tells old new (Err Busy) = Rose old.busies new.busies × IsCutShort tells old new

-- The completions that came by themselves are ready now: they are of those that were to come. Nothing else has changed, and a ring that
-- shows its lists had none.
pub record IsSynced (tells : Bool) (old new : RingView) : Type 0 where
  pub same_queue : length new.queue ≡ length old.queue
  pub more_done : length old.done ≤ length new.done
  pub few_to_come : length new.done + new.to_come ≤ length old.done + old.to_come
  pub spare : old.spare ≤ new.spare
  pub later : IsLater old new
  pub told : IsTrue tells → new ≡ old

-- The oldest completion was removed.
pub record IsTakenOff (tells : Bool) (old new : RingView) (completion : Completion) : Type 0 where
  pub one_less : length new.done + 1 ≡ length old.done
  pub same_queue : length new.queue ≡ length old.queue
  pub no_more : new.to_come ≤ old.to_come
  pub spare : old.spare ≤ new.spare
  pub later : IsLater old new
  pub told : IsTrue tells → (old.done ≡ completion ∷ new.done) × (new ≡ with_done old new.done)

-- What `next` returns and leaves: None comes exactly when no completion is ready, and then nothing has changed.
abbrev pub NextFor : Bool → RingView → RingView → Option Completion → Type 0
NextFor tells old new None = (new ≡ old) × (old.done ≡ [])
NextFor tells old new (Some completion) = IsTakenOff tells old new completion
