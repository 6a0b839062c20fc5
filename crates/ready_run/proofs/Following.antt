-- A session that is a driver as plain data stands for ledgers: its answers are the machine's to the events as they are spelled.
use Rattle.std.proofs.Common.{◌≡◌, ◌∙◌, ℕ, true, List, [], ◌∷◌, ◌++◌, refl, sym, ap, subst}
use Rattle.std.specs.Prelude.{Result, Ok, Err}
use Rattle.rent_buf.specs.Buf.{built}
use Rattle.rent_buf.specs.declared.fault.OutOfMemory.{OutOfMemory}
use Rattle.machine.specs.declared.ledger.Event.{Event}
use Rattle.machine.specs.declared.ledger.Reply.{Reply}
use Rattle.machine.specs.Ledger.{Ledger, empty}
use Rattle.machine.specs.Refusal.{cause}
use Rattle.ready_driver.specs.Legacy.{Legacy, idle}
use Rattle.ready_driver.specs.LegacyStep.{legacy_step, legacy_after, legacy_replies}
use Rattle.ready_driver.specs.LegacyTurns.{ShowsLedger}
use Rattle.ready_driver.specs.MemIo.{memory_view}
use Rattle.ready_driver.specs.Readiness.{IsDriven, AreDriven, FollowsMachine, Shows}
use Rattle.ready_driver.specs.Spelled.{spelled, spelled_reply, spelled_replies, spelled_after, ledger_behind}
use Rattle.ready_driver.proofs.Runs.{driver-follows}
use Rattle.ready_run.specs.declared.inner.Inner.{Inner}
use Rattle.ready_run.proofs.Unrefused.{unrefused-alike}
use Rattle.ready_run.specs.ReadySession.{driver_in, SessionStands, StepsFor, ReadyStands, ReadySteps}

-- Events and one more that a driver answers.
driven-joined : (events : List Event) (event : Event) → AreDriven events → IsDriven event → AreDriven (events ++ event ∷ [])
driven-joined [] event driven one = (one, tt)
driven-joined (first ∷ events) event driven one = (driven.0, driven-joined events event driven.1 one)

-- The driver as plain data after one event more.
after-joined : (D : Legacy) (events : List Event) (event : Event) →
    legacy_after D (events ++ event ∷ []) ≡ (legacy_step (legacy_after D events) event).0
after-joined D [] event = refl
after-joined D (first ∷ events) event = after-joined (legacy_step D first).0 events event

-- The ledger after one event more, as it is spelled.
ledger-joined : (L : Ledger) (events : List Event) (event : Event) →
    spelled_after L (events ++ event ∷ []) ≡ ledger_behind (spelled_after L events) event
ledger-joined L [] event = refl
ledger-joined L (first ∷ events) event = ledger-joined (ledger_behind L first) events event

-- Two lists that are the same have the same first element.
first-same : (x y : Reply) (xs ys : List Reply) → x ∷ xs ≡ y ∷ ys → x ≡ y
first-same x y xs ys same = cc

-- And the same rest.
rest-same : (x y : Reply) (xs ys : List Reply) → x ∷ xs ≡ y ∷ ys → xs ≡ ys
rest-same x y xs ys same = cc

-- Where all replies are alike, the last ones are.
last-reply : (D : Legacy) (L : Ledger) (events : List Event) (event : Event) →
    legacy_replies D (events ++ event ∷ []) ≡ spelled_replies L (events ++ event ∷ []) →
    (legacy_step (legacy_after D events) event).1 ≡ spelled_reply (spelled_after L events) (spelled (spelled_after L events) event)
last-reply D L [] event same = first-same _ _ _ _ same
last-reply D L (first ∷ events) event same =
    last-reply (legacy_step D first).0 (ledger_behind L first) events event (rest-same _ _ _ _ same)

-- The reply of the driver as plain data to an event is the machine's to the event as it is spelled.
reply-follows : (capacity : ℕ) (events : List Event) (event : Event) → AreDriven events → IsDriven event →
    (legacy_step (legacy_after idle events) event).1
    ≡ spelled_reply (spelled_after (empty capacity) events) (spelled (spelled_after (empty capacity) events) event)
reply-follows capacity events event driven one =
    last-reply idle (empty capacity) events event
    (driver-follows capacity (events ++ event ∷ []) (driven-joined events event driven one)).replies

-- A session's step answers as the machine does.
pub steps-follow : (old new : Inner) (event : Event) (result : Result Reply OutOfMemory) → IsDriven event →
    ((D : Legacy) → SessionStands old D → StepsFor D event new result) → (L : Ledger) → ReadyStands old L → ReadySteps L event new result
steps-follow old new event (Ok reply) one steps L stands =
    let answers = steps (legacy_after idle stands.events) stands.stands in
    record {
      reply_is = ap (λ M. spelled_reply M (spelled M event)) stands.reached
          ∙ sym (reply-follows stands.capacity stands.events event stands.driven one) ∙ answers.reply_is;
      stands = record {
        capacity = stands.capacity;
        events = stands.events ++ event ∷ [];
        driven = driven-joined stands.events event stands.driven one;
        reached = ap (λ M. ledger_behind M event) stands.reached ∙ sym (ledger-joined (empty stands.capacity) stands.events event);
        stands = subst (SessionStands new) (sym (after-joined idle stands.events event)) answers.stands;
      };
    }
steps-follow old new event (Err refused) one steps L stands =
    let ran = steps (legacy_after idle stands.events) stands.stands in
    record {
      stands = record {
        capacity = stands.capacity;
        events = stands.events;
        driven = stands.driven;
        reached = stands.reached;
        stands = ran.stands;
      };
      unrefused = ap (λ M. cause M event) stands.reached
          ∙ unrefused-alike (legacy_after idle stands.events) (spelled_after (empty stands.capacity) stands.events) event ran.unrefused
          (reply-follows stands.capacity stands.events event stands.driven one);
    }

-- A session stands for the empty ledger of a capacity where it is the new driver as plain data.
pub stands-idle : (session : Inner) (capacity : ℕ) → SessionStands session idle → ReadyStands session (empty capacity)
stands-idle session capacity stands = record { capacity = capacity; events = []; driven = tt; reached = refl; stands = stands }

-- The driver of a session shows each ledger that the session stands for.
pub shows-ledger : (session : Inner) (L : Ledger) → ReadyStands session L →
    ShowsLedger memory_view built true (driver_in session) L
shows-ledger session L stands =
    let follows : FollowsMachine stands.capacity stands.events = driver-follows stands.capacity stands.events stands.driven in
    record {
      driven = legacy_after idle stands.events;
      in_memory = refl;
      stands = stands.stands.driver;
      shows = subst (Shows (legacy_after idle stands.events)) (sym stands.reached) follows.shows;
    }
