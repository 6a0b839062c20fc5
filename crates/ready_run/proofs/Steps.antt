-- What each step of a session's driver makes of the session.
use Rattle.std.proofs.Common.{◌≡◌, ◌∙◌, ℕ, ◌+◌, true, false, [], ◌∷◌, ◌++◌, length, Option, None, Some, length-append, refl, sym, ap, subst}
use Rattle.std.specs.Prelude.{Result, Ok, Err, IfOk, OnErr}
use Rattle.rent_buf.specs.Buffer.{Buffer}
use Rattle.rent_buf.specs.Buf.{built}
use Rattle.rent_buf.specs.Parts.{Parts}
use Rattle.rent_buf.specs.declared.fault.OutOfMemory.{OutOfMemory as NoMemory}
use Rattle.rent_buf.specs.declared.plain.Buf.{Buf}
use Rattle.machine.specs.Lists.{amended}
use Rattle.machine.specs.Request.{plain_request}
use Rattle.machine.specs.declared.ledger.Event.{Event}
use Rattle.machine.specs.declared.ledger.Event.TheVariants.{End, Look, Submit}
use Rattle.machine.specs.declared.ledger.Refusal.{Refusal}
use Rattle.machine.specs.declared.ledger.Refusal.TheVariants.{BadHandleEvent}
use Rattle.machine.specs.declared.ledger.Reply.{Reply}
use Rattle.machine.specs.declared.ledger.Reply.TheVariants.{Refused}
use Rattle.machine.specs.declared.request.Request.{Request}
use Rattle.machine.specs.declared.world.Look.{Look as Shown}
use Rattle.machine.specs.declared.world.WorldError.{WorldError}
use Rattle.machine.specs.Step.{look_reply}
use Rattle.machine.specs.World.{WorldEnds}
use Rattle.machine.proofs.Amended.{length-amended}
use Rattle.driver_core.specs.declared.op.Op.{Op}
use Rattle.driver_core.specs.declared.op.SubmitError.{SubmitError}
use Rattle.driver_core.specs.Answers.{IsUnder}
use Rattle.driver_core.specs.Members.{Membership}
use Rattle.driver_core.specs.Op.{number_of, KeepsTokens, DropsToken, AddsToken}
use Rattle.driver_core.specs.Slot.{number_at}
use Rattle.driver_core.specs.Tokens.{token_at, by_number, KeepsGroups, AreHeld}
use Rattle.driver_core.proofs.KeptTokens.{are_held-kept, are_held-taken, are_held-added}
use Rattle.ready_driver.specs.Legacy.{Legacy, seen}
use Rattle.ready_driver.specs.LegacyCalls.{SubmitRefused}
use Rattle.ready_driver.specs.LegacyHandles.{EndsFor, LooksFor}
use Rattle.ready_driver.specs.LegacyStands.{LegacyStands, LegacyAnswers}
use Rattle.ready_driver.specs.LegacyState.{LegacyState, ops_in, SameOps}
use Rattle.ready_driver.specs.LegacyStep.{legacy_cause, legacy_step, legacy_answered}
use Rattle.ready_driver.specs.MemIo.{Memory, memory_view}
use Rattle.ready_driver.specs.Registry.{with_world}
use Rattle.ready_run.specs.declared.inner.Inner.{Inner}
use Rattle.ready_run.specs.ReadySession.{AreSingle, HasGroups, SessionStands, SessionAnswers, StepsFor}
use Rattle.ready_run.proofs.Kept.{SameTokens, IsGroupless, groups_in, groups-kept, groups-step}
use Rattle.ready_run.proofs.Single.{single-same}

-- The user holds each handle of a session once at most.
abbrev pub Single : Inner → Type 0
Single session = AreSingle session.driver.handling.table

-- A driver keeps every token and makes none, and as many operations were submitted.
pub record KeepsOps (old new : LegacyState Memory Buf) : Type 0 where
  pub tokens : KeepsTokens (ops_in old) (ops_in new)
  pub given : new.given ≡ old.given

-- One whose operations are the same does so.
pub same-ops : (old new : LegacyState Memory Buf) → SameOps old new → KeepsOps old new
same-ops old new same = record {
  tokens = λ op. (
    λ h. subst (λ slots. number_at slots op.key ≡ Some (number_of op)) (sym same.slots) h,
    λ h. subst (λ slots. number_at slots op.key ≡ Some (number_of op)) same.slots h,
  );
  given = same.given;
}

-- So does one that is the same.
pub same-driver : (old new : LegacyState Memory Buf) → new ≡ old → KeepsOps old new
same-driver old new same = subst (λ d. KeepsOps old d) (sym same) (record { tokens = λ op. (λ h. h, λ h. h); given = refl })

-- A session that keeps its operations' tokens is a driver as plain data where its driver is, which holds the tokens that it held, and where
-- its cancellers and cancel handles are those of that driver.
pub stands-beside : (old new : Inner) (D E : Legacy) → SessionStands old D → by_number new.tokens ≡ by_number old.tokens →
    HasGroups new.tokens E → LegacyStands memory_view built new.driver E → (Single old → Single new) → KeepsOps old.driver new.driver →
    SessionStands new E
stands-beside old new D E stands tokens groups driver single keeps = record {
  driver = driver;
  single = single stands.single;
  numbered = ap (λ items. length items) tokens ∙ stands.numbered ∙ sym keeps.given;
  tokens = subst (λ items. AreHeld items (ops_in new.driver)) (sym tokens)
      (are_held-kept (by_number old.tokens) (ops_in old.driver) (ops_in new.driver) stands.tokens keeps.tokens);
  groups = groups;
}

-- So is one that keeps all tokens, where the groups of both drivers are the same.
pub stands-kept : (old new : Inner) (D E : Legacy) → SessionStands old D → SameTokens old.tokens new.tokens →
    groups_in E ≡ groups_in D → LegacyStands memory_view built new.driver E → (Single old → Single new) → KeepsOps old.driver new.driver →
    SessionStands new E
stands-kept old new D E stands tokens same driver single keeps =
    stands-beside old new D E stands tokens.ops (groups-kept old.tokens new.tokens D E stands.groups tokens.groups same) driver single keeps

-- The driver's answer, where it keeps all tokens and the event makes no group, is the session's.
pub answers-kept : (old new : Inner) (D : Legacy) (event : Event) (reply : Reply) → SessionStands old D →
    SameTokens old.tokens new.tokens → IsGroupless event → LegacyAnswers memory_view built D event reply new.driver →
    (Single old → Single new) → KeepsOps old.driver new.driver → SessionAnswers D event reply new
answers-kept old new D event reply stands tokens plain answers single keeps = record {
  reply_is = answers.reply_is;
  stands = stands-kept old new D (legacy_step D event).0 stands tokens (groups-step D event plain) answers.stands single keeps;
}

-- Where the driver and the tokens are the same, a session is the same driver as plain data.
pub stands-same : (old new : Inner) (D : Legacy) → SessionStands old D → new.driver ≡ old.driver →
    SameTokens old.tokens new.tokens → SessionStands new D
stands-same old new D stands driver tokens =
    stands-kept old new D D stands tokens refl (subst (λ d. LegacyStands memory_view built d D) (sym driver) stands.driver)
    (λ single. subst (λ d. AreSingle d.handling.table) (sym driver) single) (same-driver old.driver new.driver driver)

-- A refused event changes nothing.
pub step-refused : (D : Legacy) (event : Event) (refusal : Refusal) → legacy_cause D event ≡ Some refusal →
    legacy_step D event ≡ (D, Refused refusal)
step-refused D event refusal named = ap (λ c. legacy_answered c D event) named

-- So is the session's answer to it.
pub answers-refused : (old new : Inner) (D : Legacy) (event : Event) (refusal : Refusal) → SessionStands old D →
    legacy_cause D event ≡ Some refusal → new.driver ≡ old.driver → SameTokens old.tokens new.tokens →
    SessionAnswers D event (Refused refusal) new
answers-refused old new D event refusal stands named driver tokens =
    let same = step-refused D event refusal named in
    record {
      reply_is = ap (λ next. next.1) same;
      stands = subst (λ next. SessionStands new next.0) (sym same) (stands-same old new D stands driver tokens);
    }

-- What a look shows is the session's answer, which stays as it is.
pub answers-looked : (session : Inner) (D : Legacy) (h : ℕ) (shown : Shown) (reply : Reply) → SessionStands session D →
    reply ≡ look_reply shown → LooksFor D h shown → SessionAnswers D (Look h) reply session
answers-looked session D h shown reply stands is looks = record {
  reply_is = ap (λ next. next.1) looks ∙ sym is;
  stands = subst (λ next. SessionStands session next.0) (sym looks) stands;
}

-- An operation that is returned or dropped leaves with its token.
pub answers-taken : (old new : Inner) (D : Legacy) (n : ℕ) (op : Op) (event : Event) (reply : Reply) → SessionStands old D →
    token_at (by_number old.tokens) n ≡ Some op → by_number new.tokens ≡ amended (by_number old.tokens) n (λ token. None) →
    KeepsGroups old.tokens new.tokens → IsGroupless event → DropsToken (ops_in old.driver) (ops_in new.driver) op →
    (Single old → Single new) → new.driver.given ≡ old.driver.given → LegacyAnswers memory_view built D event reply new.driver →
    SessionAnswers D event reply new
answers-taken old new D n op event reply stands there tokens groups plain taken single given answers = record {
  reply_is = answers.reply_is;
  stands = record {
    driver = answers.stands;
    single = single stands.single;
    numbered = ap (λ items. length items) tokens ∙ length-amended (λ token. None) (by_number old.tokens) n ∙ stands.numbered ∙ sym given;
    tokens = subst (λ items. AreHeld items (ops_in new.driver)) (sym tokens)
        (are_held-taken (by_number old.tokens) (ops_in old.driver) (ops_in new.driver) n op there stands.tokens taken);
    groups = groups-kept old.tokens new.tokens D (legacy_step D event).0 stands.groups groups (groups-step D event plain);
  };
}

-- A new operation's token stands at the end.
pub answers-added : (old new : Inner) (D : Legacy) (op : Op) (request : Request Buffer Parts) (under : Option ℕ) (reply : Reply) →
    SessionStands old D → by_number new.tokens ≡ by_number old.tokens ++ Some op ∷ [] → KeepsGroups old.tokens new.tokens →
    AddsToken (ops_in old.driver) (ops_in new.driver) op → (Single old → Single new) →
    LegacyAnswers memory_view built D (Submit request under false) reply new.driver →
    SessionAnswers D (Submit request under false) reply new
answers-added old new D op request under reply stands tokens groups adds single answers = record {
  reply_is = answers.reply_is;
  stands = record {
    driver = answers.stands;
    single = single stands.single;
    numbered = ap (λ items. length items) tokens ∙ length-append (by_number old.tokens) (Some op ∷ [])
        ∙ ap (λ k. k + 1) stands.numbered ∙ sym adds.next;
    tokens = subst (λ items. AreHeld items (ops_in new.driver)) (sym tokens)
        (are_held-added (by_number old.tokens) (ops_in old.driver) (ops_in new.driver) op stands.numbered stands.tokens adds);
    groups = groups-kept old.tokens new.tokens D (legacy_step D (Submit request under false)).0 stands.groups groups
        (groups-step D (Submit request under false) tt);
  };
}

-- What a submission of a built request answers is what the session answers.
pub steps-built : (new : Inner) (old : Inner) (D : Legacy) (own : Request Buf Parts) (request : Request Buffer Parts)
    (group under : Option ℕ) (result : Result Reply NoMemory) →
    IfOk result (λ reply. (D : Legacy) (under : Option ℕ) → SessionStands old D → IsUnder (seen D) group under →
    SessionAnswers D (Submit (plain_request built own) under false) reply new) →
    OnErr result ((D : Legacy) → SessionStands old D → SessionStands new D) →
    plain_request built own ≡ request → SessionStands old D → IsUnder (seen D) group under →
    legacy_cause D (Submit request under false) ≡ None → StepsFor D (Submit request under false) new result
steps-built new old D own request group under (Ok reply) ok err plain stands is unrefused =
    subst (λ r. SessionAnswers D (Submit r under false) reply new) plain (ok D under stands is)
steps-built new old D own request group under (Err error) ok err plain stands is unrefused =
    record { stands = err D stands; unrefused = unrefused }

-- A driver whose handles alone have changed.
pub keeps-world : (old new : LegacyState Memory Buf) (now : Memory) →
    new ≡ record old { handling = with_world old.handling now } → KeepsOps old new
keeps-world old new now same = subst (λ d. KeepsOps old d) (sym same) (record { tokens = λ op. (λ h. h, λ h. h); given = refl })

-- The user of one holds what it held.
pub single-world : (old new : LegacyState Memory Buf) (now : Memory) →
    new ≡ record old { handling = with_world old.handling now } → AreSingle old.handling.table → AreSingle new.handling.table
single-world old new now same single = subst (λ d. AreSingle d.handling.table) (sym same) single

-- A refused event that left the driver as it was as plain data.
pub answers-left : (old new : Inner) (D : Legacy) (event : Event) (refusal : Refusal) → SessionStands old D →
    SameTokens old.tokens new.tokens → legacy_cause D event ≡ Some refusal → LegacyStands memory_view built new.driver D →
    (Single old → Single new) → KeepsOps old.driver new.driver → SessionAnswers D event (Refused refusal) new
answers-left old new D event refusal stands tokens named driver single keeps =
    let same = step-refused D event refusal named in
    record {
      reply_is = ap (λ next. next.1) same;
      stands = subst (λ next. SessionStands new next.0) (sym same) (stands-kept old new D D stands tokens refl driver single keeps);
    }

-- An end that was refused is the session's answer.
pub answers-unended : (old new : Inner) (D : Legacy) (h : ℕ) (why : WorldError) → SessionStands old D →
    SameTokens old.tokens new.tokens → EndsFor built D h new.driver (Err why) →
    WorldEnds old.driver.handling.io.world h new.driver.handling.io.world (Err why) →
    (Single old → Single new) → KeepsOps old.driver new.driver → SessionAnswers D (End h) (Refused BadHandleEvent) new
answers-unended old new D h WorldError.BadHandleEvent stands tokens refused ends single keeps =
    answers-left old new D (End h) BadHandleEvent stands tokens refused.0 refused.1 single keeps
answers-unended old new D h WorldError.OutOfMemory stands tokens refused ends single keeps = absurd ends

-- A driver whose groups alone have changed.
pub keeps-members : (old new : LegacyState Memory Buf) (members : Membership) → new ≡ record old { members = members } → KeepsOps old new
keeps-members old new members same = subst (λ d. KeepsOps old d) (sym same) (record { tokens = λ op. (λ h. h, λ h. h); given = refl })

-- Under a canceled group the driver is the same, and its answer is the session's.
pub answers-returned : (old new : Inner) (D : Legacy) (request : Request Buffer Parts) (under : Option ℕ) (reply : Reply) →
    SessionStands old D → SameTokens old.tokens new.tokens → new.driver ≡ old.driver →
    LegacyAnswers memory_view built D (Submit request under false) reply new.driver →
    SessionAnswers D (Submit request under false) reply new
answers-returned old new D request under reply stands tokens same answers =
    answers-kept old new D (Submit request under false) reply stands tokens tt answers
    (λ single. subst (λ d. AreSingle d.handling.table) (sym same) single) (same-driver old.driver new.driver same)

-- A session whose submission was refused is the same driver as plain data.
pub stands-unsubmitted : (old new : Inner) (D : Legacy) (request : Request Buf Parts) (refused : SubmitError Buf) →
    SessionStands old D → SameTokens old.tokens new.tokens → LegacyStands memory_view built new.driver D →
    SubmitRefused memory_view true true request old.driver new.driver refused → SessionStands new D
stands-unsubmitted old new D request refused stands tokens driver why =
    stands-kept old new D D stands tokens refl driver
    (single-same old.driver.handling.table new.driver.handling.table (ap (λ table. table.holders) why.handles.made.table))
    (same-ops old.driver new.driver why.same)
