-- What a park shows of the sleeper that it was lent, and when it waited.
use Rattle.std.proofs.Common.{◌≡◌, ℕ, Bool, true, false, List, [], ◌∷◌, length, suc, Option, Some, None, refl, sym, ◌∙◌, ap, subst, arith}
use Rattle.std.proofs.lemmas.Bool.Decides.{nat_tests}
use Rattle.std.specs.Prelude.{is_some, nat_lt}
use Rattle.machine.specs.declared.completion.Completion.{Completion}
use Rattle.ring_core.specs.Ring.{RingView}
use Rattle.wake_core.specs.WakerList.{is_empty}
use Rattle.wake_core.specs.declared.park.Woken.{Woken}
use Rattle.wake_core.specs.declared.waker.Waker.{Waker}
use Rattle.wake_core.specs.Sleeping.{Sleeping, Waits, is_still, waited_if}
use Rattle.driver_core.specs.declared.driver.Parked.{Parked}
use Rattle.driver_core.specs.declared.op.Stop.{Stop}
use Rattle.driver_core.specs.declared.op.Stop.TheVariants.{RingFault, Busy, BadCompletion, Os, OutOfMemory}
use Rattle.driver_core.specs.declared.op.Turned.{Turned}
use Rattle.uring_driver.specs.declared.uring.IoUringDriver.{IoUringDriver}
use Rattle.uring_driver.specs.Begun.{HasTreated, TookReady}
use Rattle.uring_driver.specs.Turned.{TreatsTaken, TreatsFor}
use Rattle.uring_driver.specs.Reap.{treat_each}
use Rattle.uring_driver.specs.Parked.{MakesRound, DrainsFor, HadNothing, WaitsFor, has_treated}

-- Completions of which none were treated are none.
none-treated : (taken : List Completion) → has_treated taken ≡ false → taken ≡ []
none-treated [] none = refl
none-treated (c ∷ cs) none =
    let some : nat_lt 0 (suc (length cs)) ≡ true = grind (arith, nat_tests) in
    let w = sym some ∙ none in
    let f : ⊥ = cc in
    absurd f

-- A list of wakers that is empty is none.
none-woken : (wakers : List Waker) → is_empty wakers ≡ true → wakers ≡ []
none-woken [] none = refl
none-woken (w ∷ ws) none = (let f : ⊥ = cc in absurd f)

-- What a round was that came to its wait.
record WasStill (ready : Bool) (first again : List Waker) : Type 0 where
  idle : ready ≡ false
  first_none : first ≡ []
  again_none : again ≡ []

-- Nothing stands where a round is still.
was-still : (ready : Bool) (first again : List Waker) → is_still ready first again ≡ true → WasStill ready first again
was-still false [] [] still = record { idle = refl; first_none = refl; again_none = refl }
was-still false [] (w ∷ ws) still = (let f : ⊥ = cc in absurd f)
was-still false (w ∷ ws) again still = (let f : ⊥ = cc in absurd f)
was-still true first again still = (let f : ⊥ = cc in absurd f)

-- A round that waited was still.
waited-still : (still : Bool) (asleep : Option Bool) (limit : Option ℕ) (waited : Option (Option ℕ)) → is_some asleep ≡ still →
    waited ≡ waited_if asleep limit → waited ≡ Some limit → still ≡ true
waited-still still None limit waited comes is with_limit = (let w = sym is ∙ with_limit in let f : ⊥ = cc in absurd f)
waited-still still (Some slept) limit waited comes is with_limit = sym comes

-- A park that waited had nothing at hand, if its turn treated what is said.
had-nothing : {R B : Type 0} (view : R → RingView) (tells : Bool) (old new : IoUringDriver R B) (parked : Parked) (queued : List ℕ)
    (treats : TreatsTaken view tells old new parked.turned queued None) (limit : Option ℕ) (sleeper : Sleeping) →
    Waits (is_still (has_treated treats.taken) parked.remote.first parked.remote.again) limit sleeper → sleeper.waited ≡ Some limit →
    HadNothing parked
had-nothing view tells old new parked queued treats limit sleeper waits with_limit =
    let ready = has_treated treats.taken in
    let first = parked.remote.first in
    let again = parked.remote.again in
    let still = waited-still (is_still ready first again) sleeper.asleep limit sleeper.waited waits.comes waits.waited with_limit in
    let was = was-still ready first again still in
    let none = none-treated treats.taken was.idle in
    let treated = ap (treat_each old.slots.values old.holding) (sym none) ∙ treats.treated in
    record {
      reaped = sym (ap (λ t. t.reaped) treated);
      closed = sym (ap (λ t. t.closed) treated);
      woken = sym (ap (λ t. t.woken) treated);
      drained = record { first = was.first_none; again = was.again_none };
    }

-- a park whose turn went on to treat completions made a round
pub drains_for_treated : {R B : Type 0} (view : R → RingView) (tells : Bool) (old new : IoUringDriver R B) (turned : Turned)
    (queued : List ℕ) (stop : Option Stop) (treats : TreatsFor view tells old new turned queued stop) (ready : Bool) (limit : Option ℕ)
    (before after : Sleeping) (remote : Woken) → TookReady view tells old new turned queued stop treats ready → HasTreated stop →
    MakesRound ready limit after remote → DrainsFor stop limit before after remote
drains_for_treated view tells old new turned queued None treats ready limit before after remote took treated made = (ready, made)
drains_for_treated view tells old new turned queued (Some RingFault) treats ready limit before after remote took treated made =
    absurd treated
drains_for_treated view tells old new turned queued (Some Busy) treats ready limit before after remote took treated made =
    subst (λ r. MakesRound r limit after remote) took made
drains_for_treated view tells old new turned queued (Some (BadCompletion word)) treats ready limit before after remote took treated made =
    subst (λ r. MakesRound r limit after remote) took made
drains_for_treated view tells old new turned queued (Some (Os code)) treats ready limit before after remote took treated made =
    absurd treated
drains_for_treated view tells old new turned queued (Some OutOfMemory) treats ready limit before after remote took treated made =
    absurd treated

-- a park came to its wait by what its turn treated
pub waits_for : {R B : Type 0} (view : R → RingView) (tells : Bool) (old new : IoUringDriver R B) (parked : Parked)
    (queued : List ℕ) (stop : Option Stop) (treats : TreatsFor view tells old new parked.turned queued stop) (ready : Bool)
    (limit : Option ℕ) (sleeper : Sleeping) → TookReady view tells old new parked.turned queued stop treats ready →
    Waits (is_still ready parked.remote.first parked.remote.again) limit sleeper →
    WaitsFor view tells old new parked.turned queued stop treats limit sleeper parked
waits_for view tells old new parked queued None treats ready limit sleeper took waits =
    let same = subst (λ r. Waits (is_still r parked.remote.first parked.remote.again) limit sleeper) (sym took) waits in
    (same, had-nothing view tells old new parked queued treats limit sleeper same)
waits_for view tells old new parked queued (Some stop) treats ready limit sleeper took waits = tt

-- a park whose turn stopped before its round came to no wait
pub waits_for_stopped : {R B : Type 0} (view : R → RingView) (tells : Bool) (old new : IoUringDriver R B) (turned : Turned)
    (queued : List ℕ) (stop : Option Stop) (treats : TreatsFor view tells old new turned queued stop) (why : Stop) (limit : Option ℕ)
    (sleeper : Sleeping) (parked : Parked) → stop ≡ Some why →
    WaitsFor view tells old new turned queued stop treats limit sleeper parked
waits_for_stopped view tells old new turned queued None treats why limit sleeper parked is = (let f : ⊥ = cc in absurd f)
waits_for_stopped view tells old new turned queued (Some stop) treats why limit sleeper parked is = tt
