-- Which submissions a session refuses, by the causes that the machine names.
use Rattle.std.proofs.Common.{◌≡◌, ◌<◌, ◌≤◌, ℕ, Bool, true, false, not, ◌&&◌, length, Option, None, Some, refl, sym, ◌∙◌, ap}
use Rattle.std.specs.Prelude.{nat_le}
use Rattle.std.proofs.Math.Bool.{and-false}
use Rattle.rent_buf.specs.Buffer.{Buffer}
use Rattle.rent_buf.specs.Parts.{Parts}
use Rattle.machine.specs.Ledger.{Ledger, live_ops, is_marked, is_under_marked}
use Rattle.machine.specs.Lists.{passes}
use Rattle.machine.specs.Request.{named}
use Rattle.machine.specs.declared.ledger.TheConstants.{MOST_LIVE}
use Rattle.machine.specs.declared.ledger.Event.TheVariants.{Submit}
use Rattle.machine.specs.declared.ledger.Refusal.TheVariants.{NoCanceller, NoHandle, Full}
use Rattle.machine.specs.declared.request.Request.{Request}
use Rattle.machine.specs.Refusal.{cause, refused_if, has_no_canceller, lacks_handle}
use Rattle.driver_core.specs.Answers.{IsUnder}
use Rattle.driver_core.proofs.Grouping.{under-known}
use Rattle.uring_driver.specs.Uring.{holds_all, live_slots}
use Rattle.uring_driver.proofs.Steps.{below-test, past-test}
use Rattle.session_core.specs.declared.session.Session.{Session}
use Rattle.session_core.specs.Session.{SessionStands}
use Rattle.session_core.specs.Submission.{IsUnmade}
use Rattle.session_core.proofs.Refusals.{lacks_handle-holds_all}

-- What a submission is refused with, by three tests in order.
causes : (L : Ledger) (request : Request Buffer Parts) (under : Option ℕ) (linked unmade lacks full : Bool) →
    has_no_canceller L (Submit request under linked) ≡ unmade → lacks_handle L (named request) ≡ lacks →
    (not (is_under_marked L under) && nat_le MOST_LIVE (length (live_ops L))) ≡ full →
    cause L (Submit request under linked) ≡ refused_if unmade NoCanceller (refused_if lacks NoHandle (refused_if full Full None))
causes L request under linked unmade lacks full u l f =
    ap (λ b. refused_if b NoCanceller (refused_if (lacks_handle L (named request)) NoHandle
    (refused_if (not (is_under_marked L under) && nat_le MOST_LIVE (length (live_ops L))) Full None))) u
    ∙ ap (λ b. refused_if unmade NoCanceller (refused_if b NoHandle
    (refused_if (not (is_under_marked L under) && nat_le MOST_LIVE (length (live_ops L))) Full None))) l
    ∙ ap (λ b. refused_if unmade NoCanceller (refused_if lacks NoHandle (refused_if b Full None))) f

-- The user holds each handle that a submission names where the driver says so.
lacks-none : (session : Session) (L : Ledger) (request : Request Buffer Parts) (held : Bool) → SessionStands session L →
    holds_all session.driver (named request) ≡ held → lacks_handle L (named request) ≡ not held
lacks-none session L request held stands is =
    lacks_handle-holds_all session.driver L stands.driver.handles.holders.users (named request) ∙ ap not is

-- A submission under a cancel handle that was never created is refused.
pub cause-submit_unmade : (L : Ledger) (request : Request Buffer Parts) (under : Option ℕ) (linked : Bool) → IsUnmade L under →
    cause L (Submit request under linked) ≡ Some NoCanceller
cause-submit_unmade L request under linked unmade =
    causes L request under linked true (lacks_handle L (named request))
    (not (is_under_marked L under) && nat_le MOST_LIVE (length (live_ops L)))
    (ap (λ u. has_no_canceller L (Submit request u linked)) unmade.under_is ∙ past-test (length L.cancel_handles) unmade.handle unmade.past)
    refl refl

-- One that names a handle which the user doesn't hold is refused.
pub cause-submit_handle : (session : Session) (L : Ledger) (request : Request Buffer Parts) (group under : Option ℕ) (linked : Bool) →
    SessionStands session L → IsUnder L group under → holds_all session.driver (named request) ≡ false →
    cause L (Submit request under linked) ≡ Some NoHandle
cause-submit_handle session L request group under linked stands is absent =
    causes L request under linked false true (not (is_under_marked L under) && nat_le MOST_LIVE (length (live_ops L)))
    (under-known L request group under linked is) (lacks-none session L request false stands absent) refl

-- Where as many operations as there may be are live, another one is refused as Full, unless its group is marked.
pub cause-submit_full : (session : Session) (L : Ledger) (request : Request Buffer Parts) (group under : Option ℕ)
    (linked : Bool) (live : ℕ) (marked : Bool) → SessionStands session L → IsUnder L group under →
    holds_all session.driver (named request) ≡ true →
    live ≡ live_slots session.driver → MOST_LIVE ≤ live → marked ≡ is_under_marked L under → marked ≡ false →
    cause L (Submit request under linked) ≡ Some Full
cause-submit_full session L request group under linked live marked stands is held count full same unmarked =
    causes L request under linked false false true (under-known L request group under linked is)
    (lacks-none session L request true stands held)
    (ap (λ b. not b && nat_le MOST_LIVE (length (live_ops L))) (sym same ∙ unmarked)
    ∙ ap (λ k. nat_le MOST_LIVE k) (sym stands.driver.operations.in_slots.counted ∙ sym count) ∙ past-test MOST_LIVE live full)

-- A submission of handles that the user holds isn't refused where its group is marked.
pub unrefused-marked : (session : Session) (L : Ledger) (request : Request Buffer Parts) (group under : Option ℕ) (linked marked : Bool) →
    SessionStands session L → IsUnder L group under → holds_all session.driver (named request) ≡ true →
    marked ≡ is_under_marked L under → marked ≡ true → cause L (Submit request under linked) ≡ None
unrefused-marked session L request group under linked marked stands is held same marks =
    causes L request under linked false false false (under-known L request group under linked is)
    (lacks-none session L request true stands held)
    (ap (λ b. not b && nat_le MOST_LIVE (length (live_ops L))) (sym same ∙ marks))

-- Nor is one refused where fewer operations are live.
pub unrefused-fewer : (session : Session) (L : Ledger) (request : Request Buffer Parts) (group under : Option ℕ) (linked : Bool)
    (live : ℕ) → SessionStands session L → IsUnder L group under → holds_all session.driver (named request) ≡ true →
    live ≡ live_slots session.driver → live < MOST_LIVE → cause L (Submit request under linked) ≡ None
unrefused-fewer session L request group under linked live stands is held count fewer =
    causes L request under linked false false false (under-known L request group under linked is)
    (lacks-none session L request true stands held)
    (ap (λ b. not (is_under_marked L under) && b) (ap (λ k. nat_le MOST_LIVE k)
    (sym stands.driver.operations.in_slots.counted ∙ sym count) ∙ below-test MOST_LIVE live fewer)
    ∙ and-false (not (is_under_marked L under)))

-- A submission under a group is under a marked one where that is marked; under none it isn't.
pub under-mark : (L : Ledger) (g : ℕ) (under : Option ℕ) → IsUnder L (Some g) under → is_marked L g ≡ is_under_marked L under
under-mark L g under is = ap (passes (is_marked L)) (sym is)

-- So it is under none, which isn't marked.
pub under-none : (L : Ledger) (under : Option ℕ) → IsUnder L None under → false ≡ is_under_marked L under
under-none L under is = ap (is_under_marked L) (sym is)
