-- What each step of a session's driver makes of the session.
use Rattle.std.proofs.Common.{◌≡◌, ℕ, ◌+◌, Bool, true, false, List, [], ◌∷◌, ◌++◌, length, Option, None, Some, length-append, refl, sym}
use Rattle.std.proofs.Common.{◌∙◌, ap, subst}
use Rattle.std.specs.Prelude.{Result, Ok, Err, IfOk, OnErr}
use Rattle.rent_buf.specs.Buffer.{Buffer}
use Rattle.rent_buf.specs.Parts.{Parts}
use Rattle.rent_buf.specs.Buf.{built}
use Rattle.rent_buf.specs.declared.plain.Buf.{Buf}
use Rattle.machine.specs.Lists.{amended}
use Rattle.ring_core.specs.Ring.{RingView}
use Rattle.machine.specs.Ledger.{Ledger}
use Rattle.machine.specs.Request.{named, makes, plain_request}
use Rattle.machine.specs.Refusal.{cause}
use Rattle.machine.proofs.Staying.{groups_of}
use Rattle.machine.proofs.Grouping.{may_group}
use Rattle.machine.specs.declared.ledger.Event.{Event}
use Rattle.machine.specs.declared.ledger.Event.TheVariants.{Look, Submit, Exec}
use Rattle.machine.specs.declared.request.Told.{Told}
use Rattle.machine.specs.declared.world.Look.{Look as Shown}
use Rattle.uring_driver.specs.Handles.{LooksFor}
use Rattle.ring_core.specs.declared.mem_ring.ExecRefusal.{ExecRefusal}
use Rattle.rent_buf.specs.declared.fault.OutOfMemory.{OutOfMemory as NoMemory}
use Rattle.driver_core.specs.declared.op.Executed.{Executed}
use Rattle.driver_core.specs.declared.op.Executed.TheVariants.{Op as ExecutedNumber, Close as ExecutedHandle}
use Rattle.uring_driver.specs.Executed.{ExecutesFor}
use Rattle.session_core.specs.Executed.{reply_to, AnswersRefusal}
use Rattle.machine.specs.declared.ledger.Refusal.{Refusal}
use Rattle.machine.specs.declared.ledger.Refusal.TheVariants.{NotFlying, Waiting, BadOutcome}
use Rattle.machine.specs.declared.ledger.Reply.{Reply}
use Rattle.machine.specs.declared.ledger.Reply.TheVariants.{Refused, ExecutedOp, ExecutedClose}
use Rattle.machine.proofs.Amended.{length-amended}
use Rattle.run_laws.proofs.Replies.{step-refused}
use Rattle.driver_core.specs.declared.op.Op.{Op}
use Rattle.driver_core.specs.Answers.{IsUnder}
use Rattle.uring_driver.specs.declared.uring.IoUringDriver.{IoUringDriver}
use Rattle.uring_driver.specs.Uring.{due_in, given_by}
use Rattle.uring_driver.specs.Op.{number_of, KeepsTokens, DropsToken, ops_in}
use Rattle.driver_core.specs.Slot.{number_at}
use Rattle.machine.specs.Step.{step, look_reply}
use Rattle.uring_driver.specs.Submitted.{AddsTo, WhyRefused, SubmitRefused}
use Rattle.uring_driver.specs.Turned.{TurnsFor}
use Rattle.driver_core.specs.declared.op.Turned.{Turned}
use Rattle.driver_core.specs.declared.op.Stop.{Stop}
use Rattle.driver_core.specs.declared.op.Stop.TheVariants.{RingFault, Busy, BadCompletion, Os, OutOfMemory}
use Rattle.driver_core.specs.declared.op.SubmitError.{SubmitError}
use Rattle.driver_core.specs.declared.op.SubmitFault.{SubmitFault}
use Rattle.machine.specs.declared.request.Request.{Request}
use Rattle.uring_driver.specs.Stands.{Stands, Answers}
use Rattle.session_core.specs.declared.session.Session.{Session}
use Rattle.driver_core.specs.Tokens.{token_at, by_number, KeepsGroups}
use Rattle.session_core.specs.Session.{AreHeld, AreSingle, HasGroups, SessionStands, SessionAnswers, StepsFor}
use Rattle.driver_core.proofs.KeptTokens.{are_held-kept, are_held-taken, are_held-added}
use Rattle.ready_run.proofs.Kept.{SameTokens}
use Rattle.session_core.proofs.KeptGroups.{groups-kept, groups-step, groups-submitted}
use Rattle.session_core.proofs.Single.{single-kept}

-- A session that keeps its operations' tokens stands for a ledger where its driver does, which has nothing due and holds the tokens that it
-- held, and where its cancellers and cancel handles are those of that ledger.
pub stands-beside : (old new : Session) (L M : Ledger) → SessionStands old L → by_number new.tokens ≡ by_number old.tokens →
    HasGroups new.tokens M → Stands (λ r. r) built new.driver M → (due_in old.driver ≡ [] → due_in new.driver ≡ []) →
    (AreSingle old.driver → AreSingle new.driver) → KeepsTokens old.driver new.driver →
    given_by new.driver ≡ given_by old.driver → SessionStands new M
stands-beside old new L M stands tokens groups driver due single kept given = record {
  driver = driver;
  none_due = due stands.none_due;
  single = single stands.single;
  numbered = ap (λ items. length items) tokens ∙ stands.numbered ∙ sym given;
  tokens = subst (λ items. AreHeld items new.driver) (sym tokens)
      (are_held-kept (by_number old.tokens) (ops_in old.driver) (ops_in new.driver) stands.tokens kept);
  groups = groups;
}

-- So does one that keeps all tokens, where the groups of both ledgers are the same.
pub stands-kept : (old new : Session) (L M : Ledger) → SessionStands old L → SameTokens old.tokens new.tokens →
    groups_of M ≡ groups_of L → Stands (λ r. r) built new.driver M → (due_in old.driver ≡ [] → due_in new.driver ≡ []) →
    (AreSingle old.driver → AreSingle new.driver) → KeepsTokens old.driver new.driver →
    given_by new.driver ≡ given_by old.driver → SessionStands new M
stands-kept old new L M stands tokens same driver due single kept given =
    stands-beside old new L M stands tokens.ops (groups-kept old.tokens new.tokens L M stands.groups tokens.groups same)
    driver due single kept given

-- So does one whose driver is the same.
pub stands-unmoved : (old new : Session) (L M : Ledger) → SessionStands old L → new.driver ≡ old.driver →
    by_number new.tokens ≡ by_number old.tokens → HasGroups new.tokens M → Stands (λ r. r) built new.driver M → SessionStands new M
stands-unmoved old new L M stands same tokens groups driver = stands-beside old new L M stands tokens groups driver
    (λ none. ap (λ d. due_in d) same ∙ none) (λ single. subst (λ d. AreSingle d) (sym same) single)
    (subst (λ d. KeepsTokens old.driver d) (sym same) (λ op. (λ h. h, λ h. h))) (ap (λ d. given_by d) same)

-- A driver's answer, where it keeps all tokens and the event changes no groups, is the session's.
pub answers-kept : (old new : Session) (L : Ledger) (event : Event) (reply : Reply) → SessionStands old L →
    SameTokens old.tokens new.tokens → may_group event ≡ false → Answers (λ r. r) built L event reply new.driver →
    (due_in old.driver ≡ [] → due_in new.driver ≡ []) → (AreSingle old.driver → AreSingle new.driver) →
    KeepsTokens old.driver new.driver → given_by new.driver ≡ given_by old.driver → SessionAnswers L event reply new
answers-kept old new L event reply stands tokens plain answers due single kept given = record {
  reply_is = answers.reply_is;
  stands = stands-kept old new L (step L event).0 stands tokens (groups-step L event plain) answers.stands due single kept given;
}

-- Where the driver and the tokens are the same, a session stands for the same ledger.
pub stands-same : (old new : Session) (L : Ledger) → SessionStands old L → new.driver ≡ old.driver →
    SameTokens old.tokens new.tokens → SessionStands new L
stands-same old new L stands driver tokens = record {
  driver = subst (λ d. Stands (λ r. r) built d L) (sym driver) stands.driver;
  none_due = ap (λ d. due_in d) driver ∙ stands.none_due;
  single = subst (λ d. AreSingle d) (sym driver) stands.single;
  numbered = ap (λ items. length items) tokens.ops ∙ stands.numbered ∙ ap (λ d. given_by d) (sym driver);
  tokens = subst (λ d. AreHeld (by_number new.tokens) d) (sym driver)
      (subst (λ items. AreHeld items old.driver) (sym tokens.ops) stands.tokens);
  groups = groups-kept old.tokens new.tokens L L stands.groups tokens.groups refl;
}

-- A refused event changes nothing.
pub answers-refused : (old new : Session) (L : Ledger) (event : Event) (refusal : Refusal) → SessionStands old L →
    cause L event ≡ Some refusal → new.driver ≡ old.driver → SameTokens old.tokens new.tokens →
    SessionAnswers L event (Refused refusal) new
answers-refused old new L event refusal stands named driver tokens =
    let same = step-refused L event refusal named in
    record {
      reply_is = ap (λ next. next.1) same;
      stands = subst (λ next. SessionStands new next.0) (sym same) (stands-same old new L stands driver tokens);
    }

-- A turn that stopped over the ring in memory changed nothing.
pub stopped-same : (L : Ledger) (old new : IoUringDriver RingView Buf) (turned : Turned) (queued : List ℕ) (stop : Stop) →
    TurnsFor (λ r. r) built true L old new turned queued (Some stop) → new ≡ old
stopped-same L old new turned queued RingFault turns = absurd (turns refl)
stopped-same L old new turned queued Busy turns = absurd (turns.0 refl)
stopped-same L old new turned queued (BadCompletion word) turns = absurd turns
stopped-same L old new turned queued (Os code) turns = absurd turns
stopped-same L old new turned queued OutOfMemory turns = turns

-- A driver with the same slots holds the same tokens.
kept-same_slots : (old new : IoUringDriver RingView Buf) → new.slots.values ≡ old.slots.values → KeepsTokens old new
kept-same_slots old new same op = (
  λ h. subst (λ slots. number_at slots op.key ≡ Some (number_of op)) (sym same) h,
  λ h. subst (λ slots. number_at slots op.key ≡ Some (number_of op)) same h,
)

-- A driver over the ring in memory that refused a submission stands as before.
stands-refused : (old new : IoUringDriver RingView Buf) (L : Ledger) (why : SubmitFault) → WhyRefused (λ r. r) built true old new why →
    Stands (λ r. r) built old L → Stands (λ r. r) built new L
stands-refused old new L SubmitFault.Full refused stands = subst (λ d. Stands (λ r. r) built d L) (sym refused) stands
stands-refused old new L SubmitFault.RingFault refused stands = absurd (refused.1 refl)
stands-refused old new L SubmitFault.Busy refused stands = absurd (refused.1 refl)
stands-refused old new L (SubmitFault.Os code) refused stands = absurd refused
stands-refused old new L SubmitFault.OutOfMemory refused stands = refused L stands

-- So does the session.
pub stands-unsubmitted : (old new : Session) (L : Ledger) (request : Request Buf Parts) (refused : SubmitError Buf) → SessionStands old L →
    SameTokens old.tokens new.tokens → (due_in old.driver ≡ [] → due_in new.driver ≡ []) →
    SubmitRefused (λ r. r) built true request old.driver new.driver refused → SessionStands new L
stands-unsubmitted old new L request refused stands tokens due why =
    stands-kept old new L L stands tokens refl (stands-refused old.driver new.driver L refused.why why.why stands.driver) due
    (single-kept (makes request) old.driver new.driver why.same.holding) (kept-same_slots old.driver new.driver why.same.slots)
    why.same.given

-- What a look shows is the session's answer, which stays as it is.
pub answers-looked : (session : Session) (L : Ledger) (h : ℕ) (shown : Shown) (reply : Reply) → SessionStands session L →
    reply ≡ look_reply shown → LooksFor L h shown → SessionAnswers L (Look h) reply session
answers-looked session L h shown reply stands is looks = record {
  reply_is = ap (λ next. next.1) looks ∙ sym is;
  stands = subst (λ next. SessionStands session next.0) (sym looks) stands;
}

-- An operation that is handed over or dropped leaves with its token.
pub answers-taken : (old new : Session) (L : Ledger) (n : ℕ) (op : Op) (event : Event) (reply : Reply) → SessionStands old L →
    token_at (by_number old.tokens) n ≡ Some op → by_number new.tokens ≡ amended (by_number old.tokens) n (λ token. None) →
    KeepsGroups old.tokens new.tokens → may_group event ≡ false → DropsToken old.driver new.driver op →
    (due_in old.driver ≡ [] → due_in new.driver ≡ []) →
    (AreSingle old.driver → AreSingle new.driver) → given_by new.driver ≡ given_by old.driver →
    Answers (λ r. r) built L event reply new.driver → SessionAnswers L event reply new
answers-taken old new L n op event reply stands there tokens groups plain taken due single given answers = record {
  reply_is = answers.reply_is;
  stands = record {
    driver = answers.stands;
    none_due = due stands.none_due;
    single = single stands.single;
    numbered = ap (λ items. length items) tokens ∙ length-amended (λ token. None) (by_number old.tokens) n ∙ stands.numbered ∙ sym given;
    tokens = subst (λ items. AreHeld items new.driver) (sym tokens)
        (are_held-taken (by_number old.tokens) (ops_in old.driver) (ops_in new.driver) n op there stands.tokens taken);
    groups = groups-kept old.tokens new.tokens L (step L event).0 stands.groups groups (groups-step L event plain);
  };
}

-- A new operation's token stands at the end.
pub answers-added : (old new : Session) (L : Ledger) (op : Op) (request : Request Buffer Parts) (under : Option ℕ) (linked : Bool)
    (reply : Reply) → SessionStands old L → by_number new.tokens ≡ by_number old.tokens ++ Some op ∷ [] →
    KeepsGroups old.tokens new.tokens → AddsTo old.driver new.driver op → (due_in old.driver ≡ [] → due_in new.driver ≡ []) →
    (AreSingle old.driver → AreSingle new.driver) →
    Answers (λ r. r) built L (Submit request under linked) reply new.driver → SessionAnswers L (Submit request under linked) reply new
answers-added old new L op request under linked reply stands tokens groups adds due single answers = record {
  reply_is = answers.reply_is;
  stands = record {
    driver = answers.stands;
    none_due = due stands.none_due;
    single = single stands.single;
    numbered = ap (λ items. length items) tokens ∙ length-append (by_number old.tokens) (Some op ∷ [])
        ∙ ap (λ k. k + 1) stands.numbered ∙ sym adds.next;
    tokens = subst (λ items. AreHeld items new.driver) (sym tokens)
        (are_held-added (by_number old.tokens) (ops_in old.driver) (ops_in new.driver) op stands.numbered stands.tokens adds);
    groups = groups-kept old.tokens new.tokens L (step L (Submit request under linked)).0 stands.groups groups
        (groups-submitted L request under linked);
  };
}

-- Under a canceled group the driver is the same, and its answer is the session's.
pub answers-returned : (old new : Session) (L : Ledger) (request : Request Buffer Parts) (under : Option ℕ) (linked : Bool)
    (reply : Reply) → SessionStands old L → SameTokens old.tokens new.tokens → new.driver ≡ old.driver →
    Answers (λ r. r) built L (Submit request under linked) reply new.driver → SessionAnswers L (Submit request under linked) reply new
answers-returned old new L request under linked reply stands tokens same answers = record {
  reply_is = answers.reply_is;
  stands = stands-unmoved old new L (step L (Submit request under linked)).0 stands same tokens.ops
      (groups-kept old.tokens new.tokens L (step L (Submit request under linked)).0 stands.groups tokens.groups
      (groups-submitted L request under linked))
      answers.stands;
}

-- What was executed is the session's answer.
pub answers-executed : (old new : Session) (L : Ledger) (place : ℕ) (told : Told) (executed : Executed) → SessionStands old L →
    SameTokens old.tokens new.tokens → ExecutesFor built L place told new.driver (Ok executed) →
    (due_in old.driver ≡ [] → due_in new.driver ≡ []) → (AreSingle old.driver → AreSingle new.driver) →
    KeepsTokens old.driver new.driver → given_by new.driver ≡ given_by old.driver →
    SessionAnswers L (Exec place told) (reply_to executed) new
answers-executed old new L place told (ExecutedNumber n) stands tokens answers due single kept given =
    answers-kept old new L (Exec place told) (ExecutedOp n) stands tokens refl answers due single kept given
answers-executed old new L place told (ExecutedHandle h) stands tokens answers due single kept given =
    answers-kept old new L (Exec place told) (ExecutedClose h) stands tokens refl answers due single kept given

-- So is an execution that was refused.
pub steps-unexecuted : (old new : Session) (L : Ledger) (place : ℕ) (told : Told) (why : ExecRefusal) (result : Result Reply NoMemory) →
    SessionStands old L → SameTokens old.tokens new.tokens →
    ExecutesFor built L place told new.driver (Err why) → new.driver ≡ old.driver → AnswersRefusal why result →
    StepsFor L (Exec place told) new result
steps-unexecuted old new L place told ExecRefusal.NotFlying result stands tokens cause_is driver answer =
    subst (λ r. StepsFor L (Exec place told) new r) (sym answer)
    (answers-refused old new L (Exec place told) NotFlying stands cause_is driver tokens)
steps-unexecuted old new L place told ExecRefusal.Waiting result stands tokens cause_is driver answer =
    subst (λ r. StepsFor L (Exec place told) new r) (sym answer)
    (answers-refused old new L (Exec place told) Waiting stands cause_is driver tokens)
steps-unexecuted old new L place told ExecRefusal.BadOutcome result stands tokens cause_is driver answer =
    subst (λ r. StepsFor L (Exec place told) new r) (sym answer)
    (answers-refused old new L (Exec place told) BadOutcome stands cause_is driver tokens)
steps-unexecuted old new L place told ExecRefusal.OutOfMemory (Ok reply) stands tokens cause_is driver answer =
    absurd (let never : ◌≡◌ {A = Bool} false true = answer in cc)
steps-unexecuted old new L place told ExecRefusal.OutOfMemory (Err refused) stands tokens cause_is driver answer =
    record { stands = stands-same old new L stands driver tokens; unrefused = cause_is }

-- What a submission of a built request answers is what the session answers.
pub steps-built : (old new : Session) (L : Ledger) (own : Request Buf Parts) (request : Request Buffer Parts) (group under : Option ℕ)
    (linked : Bool) (result : Result Reply NoMemory) →
    IfOk result (λ reply. (L : Ledger) (under : Option ℕ) → SessionStands old L → IsUnder L group under →
    SessionAnswers L (Submit (plain_request built own) under linked) reply new) →
    OnErr result ((L : Ledger) → SessionStands old L → SessionStands new L) →
    plain_request built own ≡ request → SessionStands old L → IsUnder L group under → cause L (Submit request under linked) ≡ None →
    StepsFor L (Submit request under linked) new result
steps-built old new L own request group under linked (Ok reply) ok err plain stands is unrefused =
    subst (λ r. SessionAnswers L (Submit r under linked) reply new) plain (ok L under stands is)
steps-built old new L own request group under linked (Err error) ok err plain stands is unrefused =
    record { stands = err L stands; unrefused = unrefused }
