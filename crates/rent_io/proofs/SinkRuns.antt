-- Polls of a send and a flush, one behind the other.
use Rattle.std.proofs.Common.{◌≡◌, ◌∙◌, ◌≤◌, inl, inr, refl, sym, subst, ap, arith}
use Rattle.std.specs.Prelude.{IfErr, Option, None, Some, IsSome, Result, Ok, Err}
use Rattle.rent_io.specs.declared.poll.Step.{Step}
use Rattle.rent_io.specs.declared.poll.Step.TheVariants.{Ready, Pending, Again}
use Rattle.rent_io.specs.Counts.{Rose}
use Rattle.rent_io.specs.ItemSink.{ItemSink, NothingDone, IsTaken, HasSend, SendEnd, SendsAndFlushes, unsent}
use Rattle.rent_io.specs.Completeness.{IsQuiet}
use Rattle.rent_io.specs.State.{Advances, Ran}
use Rattle.rent_io.proofs.Runs.{rose_later}

-- An item that was taken stays so where nothing is done.
taken_stays : {I : Type 0} (before mid now : ItemSink) (item : Option I) → IsTaken before mid item → NothingDone mid now
    → IsTaken before now item
taken_stays before mid now item taken nothing =
    (taken.0, nothing.1 ∙ taken.1, subst (λ n. Rose before.sends n) (sym nothing.0) taken.2)

-- A poll that does nothing leaves what was done.
sink_waits : {I : Type 0} (before mid now : ItemSink) (item g next : Option I) → HasSend before mid item g → next ≡ g
    → NothingDone mid now → HasSend before now item next
sink_waits before mid now item g next (inl as_was) same nothing =
    inl (same ∙ as_was.0, (nothing.0 ∙ as_was.1.0, nothing.1 ∙ as_was.1.1))
sink_waits before mid now item g next (inr was_taken) same nothing =
    inr (same ∙ was_taken.0, taken_stays before mid now item was_taken.1 nothing)

-- No item is none.
none-some : {I : Type 0} (item : Option I) → item ≡ None → IsSome item → ⊥
none-some item none some = let gone = subst IsSome none some in cc

-- A poll that takes an item takes the one that wasn't taken before.
sink_takes : {I : Type 0} (before mid now : ItemSink) (item g next : Option I) → HasSend before mid item g → IsSome g
    → next ≡ None → now.flushes ≡ mid.flushes → Rose mid.sends now.sends → HasSend before now item next
sink_takes before mid now item g next (inl as_was) some none flushes rose =
    inr (none, (subst IsSome as_was.0 some, flushes ∙ as_was.1.1, subst (λ n. Rose n now.sends) as_was.1.0 rose))
sink_takes before mid now item g next (inr was_taken) some none flushes rose = absurd (none-some g was_taken.0 some)

-- How a poll ends is how the polls end.
sink_ends : {I E : Type 0} (before mid now : ItemSink) (item g : Option I) (end : Result (Unit {0}) E)
    → before.counts.faults ≤ mid.counts.faults → HasSend before mid item g → SendsAndFlushes mid now g (Ready end)
    → SendEnd before now item end
sink_ends before mid now item g (Ok done) stay (inl as_was) end =
    (subst (λ n. Rose n now.flushes) as_was.1.1 end.2, inl (sym as_was.0 ∙ end.0, end.1 ∙ as_was.1.0))
sink_ends before mid now item g (Ok done) stay (inr was_taken) end =
    let taken = was_taken.1 in
    (subst (λ n. Rose n now.flushes) taken.1 end.2, inr (taken.0, subst (λ n. Rose before.sends n) (sym end.1) taken.2))
sink_ends before mid now item g (Err error) stay (inl as_was) end = (
  rose_later before.counts.faults mid.counts.faults now.counts.faults stay end.1,
  inl (end.0.0 ∙ as_was.1.0, end.0.1 ∙ as_was.1.1),
)
sink_ends before mid now item g (Err error) stay (inr was_taken) end = (
  rose_later before.counts.faults mid.counts.faults now.counts.faults stay end.1,
  inr (taken_stays before mid now item was_taken.1 end.0),
)

-- No polls of a send and a flush.
pub sink_none : {I : Type 0} (sink : ItemSink) (item : Option I) → HasSend sink sink item item
sink_none sink item = inl (refl, (refl, refl))

-- One poll more of a send and a flush.
pub sink_more : {I E : Type 0} (before mid now : ItemSink) (item g : Option I) (step : Step (Option I) (Result (Unit {0}) E))
    → before.counts.faults ≤ mid.counts.faults → HasSend before mid item g → SendsAndFlushes mid now g step
    → Ran (SendEnd before now item) (HasSend before now item) step
sink_more before mid now item g (Ready end) stay has is = sink_ends before mid now item g end stay has is
sink_more before mid now item g (Pending next) stay has is = sink_waits before mid now item g next has is.0 is.1
sink_more before mid now item g (Again next) stay has is = sink_takes before mid now item g next has is.0 is.1 is.2 is.3

-- A send and a flush ends so.
send-end : {I E : Type 0} (before now : ItemSink) (item : Option I) (end : Result (Unit {0}) E) → IsQuiet before.counts now.counts
    → SendsAndFlushes before now item (Ready end) → IfErr end (λ error. ⊥)
send-end before now item (Ok done) quiet is = tt
send-end before now item (Err error) quiet is = quiet.0 is.1

-- An item that is there is one.
unsent-some : {I : Type 0} (item : Option I) → IsSome item → unsent item ≡ 1
unsent-some None some = absurd cc
unsent-some (Some item) some = refl

-- A send and a flush gets on.
pub send_advances : {I E : Type 0} (before now : ItemSink) (item : Option I) (step : Step (Option I) (Result (Unit {0}) E))
    → SendsAndFlushes before now item step
    → Advances (λ item. 0) unsent (λ end. IfErr end (λ error. ⊥)) before.counts now.counts item step
send_advances before now item (Ready end) is = λ quiet. send-end before now item end quiet is
send_advances before now item (Pending next) is = (is.0, is.2)
send_advances before now item (Again next) is = inr (omega (arith, unsent-some item is.0, ap unsent is.1))
