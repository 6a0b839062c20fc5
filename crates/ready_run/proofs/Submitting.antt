-- Which submissions a session refuses, by what a driver as plain data refuses them with.
use Rattle.std.proofs.Common.{◌≡◌, ◌<◌, ◌≤◌, ℕ, Bool, true, false, not, ◌&&◌, length, Option, None, Some, refl, sym, ◌∙◌, ap, subst}
use Rattle.std.specs.Prelude.{nat_le}
use Rattle.std.proofs.Math.Bool.{and-false}
use Rattle.std.proofs.lemmas.Option.{slice_get_within}
use Rattle.rent_buf.specs.Buffer.{Buffer}
use Rattle.rent_buf.specs.Parts.{Parts}
use Rattle.machine.specs.Ledger.{Ledger, is_marked, is_under_marked}
use Rattle.machine.specs.Lists.{passes}
use Rattle.machine.specs.Refusal.{refused_if, has_no_canceller}
use Rattle.machine.specs.Request.{named}
use Rattle.machine.specs.declared.ledger.TheConstants.{MOST_LIVE}
use Rattle.machine.specs.declared.ledger.Event.{Event}
use Rattle.machine.specs.declared.ledger.Event.TheVariants.{Submit}
use Rattle.machine.specs.declared.ledger.Refusal.TheVariants.{NoCanceller, NoHandle, Full}
use Rattle.machine.specs.declared.request.Request.{Request}
use Rattle.driver_core.specs.Answers.{IsUnder}
use Rattle.ready_driver.specs.Legacy.{Legacy, seen, live_at}
use Rattle.ready_driver.specs.LegacyState.{holds_all, live_slots}
use Rattle.ready_driver.specs.LegacyStep.{legacy_cause, misses_handle}
use Rattle.ready_driver.specs.Readiness.{IsDriven}
use Rattle.ready_run.specs.declared.inner.Inner.{Inner}
use Rattle.ready_run.specs.ReadySession.{SessionStands}
use Rattle.ready_run.specs.Submission.{IsUnmade}
use Rattle.ready_run.proofs.Refusals.{below-test, past-test, misses-holds_all}

-- A submission that a readiness driver answers isn't linked.
pub unlinked : (event : Event) (request : Request Buffer Parts) (under : Option ℕ) (linked : Bool) → IsDriven event →
    event ≡ Submit request under linked → event ≡ Submit request under false
unlinked event request under true driven is = absurd (subst IsDriven is driven)
unlinked event request under false driven is = is

-- There are as many operations as there may be, for one that isn't submitted under a marked group.
abbrev is_full : Legacy → Option ℕ → Bool
is_full D under = not (is_under_marked (seen D) under) && nat_le MOST_LIVE (length (live_at D))

-- What a submission is refused with, by three tests in order.
causes : (D : Legacy) (request : Request Buffer Parts) (under : Option ℕ) (unmade lacks full : Bool) →
    has_no_canceller (seen D) (Submit request under false) ≡ unmade → misses_handle D (named request) ≡ lacks → is_full D under ≡ full →
    legacy_cause D (Submit request under false) ≡ refused_if unmade NoCanceller (refused_if lacks NoHandle (refused_if full Full None))
causes D request under unmade lacks full u l f =
    ap (λ b. refused_if b NoCanceller (refused_if (misses_handle D (named request)) NoHandle (refused_if (is_full D under) Full None))) u
    ∙ ap (λ b. refused_if unmade NoCanceller (refused_if b NoHandle (refused_if (is_full D under) Full None))) l
    ∙ ap (λ b. refused_if unmade NoCanceller (refused_if lacks NoHandle (refused_if b Full None))) f

-- The cancel handle of a submission under a group was created.
pub made-under : (L : Ledger) (request : Request Buffer Parts) (group under : Option ℕ) → IsUnder L group under →
    has_no_canceller L (Submit request under false) ≡ false
made-under L request None under is = ap (λ u. has_no_canceller L (Submit request u false)) is
made-under L request (Some g) None is = absurd (let none : ◌≡◌ {A = Option ℕ} None (Some g) = is in cc)
made-under L request (Some g) (Some handle) is =
    below-test (length L.cancel_handles) handle (slice_get_within L.cancel_handles handle g is)

-- The user holds each handle that a submission names where the driver says so.
lacks-none : (session : Inner) (D : Legacy) (request : Request Buffer Parts) (held : Bool) → SessionStands session D →
    holds_all session.driver.handling.table (named request) ≡ held → misses_handle D (named request) ≡ not held
lacks-none session D request held stands is =
    misses-holds_all session.driver.handling.table D stands.driver.handles.users (named request) ∙ ap not is

-- A submission under a cancel handle that was never created is refused.
pub cause-submit_unmade : (D : Legacy) (request : Request Buffer Parts) (under : Option ℕ) → IsUnmade D under →
    legacy_cause D (Submit request under false) ≡ Some NoCanceller
cause-submit_unmade D request under unmade =
    causes D request under true (misses_handle D (named request)) (is_full D under)
    (ap (λ u. has_no_canceller (seen D) (Submit request u false)) unmade.under_is
    ∙ past-test (length D.cancel_handles) unmade.handle unmade.past)
    refl refl

-- One that names a handle which the user doesn't hold is refused.
pub cause-submit_handle : (session : Inner) (D : Legacy) (request : Request Buffer Parts) (group under : Option ℕ) →
    SessionStands session D → IsUnder (seen D) group under → holds_all session.driver.handling.table (named request) ≡ false →
    legacy_cause D (Submit request under false) ≡ Some NoHandle
cause-submit_handle session D request group under stands is absent =
    causes D request under false true (is_full D under)
    (made-under (seen D) request group under is) (lacks-none session D request false stands absent) refl

-- Where as many operations as there may be are live, another one is refused as Full, unless its group is marked.
pub cause-submit_full : (session : Inner) (D : Legacy) (request : Request Buffer Parts) (group under : Option ℕ) (live : ℕ)
    (marked : Bool) → SessionStands session D → IsUnder (seen D) group under →
    holds_all session.driver.handling.table (named request) ≡ true → live ≡ live_slots session.driver → MOST_LIVE ≤ live →
    marked ≡ is_under_marked (seen D) under → marked ≡ false → legacy_cause D (Submit request under false) ≡ Some Full
cause-submit_full session D request group under live marked stands is held count full same unmarked =
    causes D request under false false true (made-under (seen D) request group under is) (lacks-none session D request true stands held)
    (ap (λ b. not b && nat_le MOST_LIVE (length (live_at D))) (sym same ∙ unmarked)
    ∙ ap (λ k. nat_le MOST_LIVE k) (sym stands.driver.live ∙ sym count) ∙ past-test MOST_LIVE live full)

-- A submission of handles that the user holds isn't refused where its group is marked.
pub unrefused-marked : (session : Inner) (D : Legacy) (request : Request Buffer Parts) (group under : Option ℕ) (marked : Bool) →
    SessionStands session D → IsUnder (seen D) group under → holds_all session.driver.handling.table (named request) ≡ true →
    marked ≡ is_under_marked (seen D) under → marked ≡ true → legacy_cause D (Submit request under false) ≡ None
unrefused-marked session D request group under marked stands is held same marks =
    causes D request under false false false (made-under (seen D) request group under is) (lacks-none session D request true stands held)
    (ap (λ b. not b && nat_le MOST_LIVE (length (live_at D))) (sym same ∙ marks))

-- Nor is one refused where fewer operations are live.
pub unrefused-fewer : (session : Inner) (D : Legacy) (request : Request Buffer Parts) (group under : Option ℕ) (live : ℕ) →
    SessionStands session D → IsUnder (seen D) group under → holds_all session.driver.handling.table (named request) ≡ true →
    live ≡ live_slots session.driver → live < MOST_LIVE → legacy_cause D (Submit request under false) ≡ None
unrefused-fewer session D request group under live stands is held count fewer =
    causes D request under false false false (made-under (seen D) request group under is) (lacks-none session D request true stands held)
    (ap (λ b. not (is_under_marked (seen D) under) && b) (ap (λ k. nat_le MOST_LIVE k)
    (sym stands.driver.live ∙ sym count) ∙ below-test MOST_LIVE live fewer)
    ∙ and-false (not (is_under_marked (seen D) under)))

-- A submission under a group is under a marked one where that is marked; under none it isn't.
pub under-mark : (D : Legacy) (g : ℕ) (under : Option ℕ) → IsUnder (seen D) (Some g) under →
    is_marked (seen D) g ≡ is_under_marked (seen D) under
under-mark D g under is = ap (passes (is_marked (seen D))) (sym is)

-- So it is under none, which isn't marked.
pub under-none : (D : Legacy) (under : Option ℕ) → IsUnder (seen D) None under → false ≡ is_under_marked (seen D) under
under-none D under is = ap (is_under_marked (seen D)) (sym is)
