-- A call that is made at once, from its execution.
use Rattle.std.proofs.Common.{◌≡◌, ℕ, Bool, true, false, List, Some, Result, Err, refl, sym, ◌∙◌, ap, subst, true≢false}
use Rattle.rent_buf.specs.Buffer.{Buffer}
use Rattle.rent_buf.specs.Parts.{Parts}
use Rattle.machine.specs.declared.request.Request.{Request}
use Rattle.machine.specs.declared.request.Call.{Call}
use Rattle.machine.specs.declared.request.Told.{Told}
use Rattle.machine.specs.declared.request.Outcome.{Outcome}
use Rattle.machine.specs.declared.world.HandleState.{HandleState}
use Rattle.machine.specs.Request.{call_of, sent_of, shown_by, held, held_of, plain_request, IsHolding}
use Rattle.machine.specs.Surroundings.{Surroundings, request_around}
use Rattle.machine.specs.Lists.{passes}
use Rattle.machine.specs.Payloads.{comes, StoresIf, may_run_out}
use Rattle.machine.specs.Effect.{Effect, effect}
use Rattle.machine.specs.Called.{IsRun, RunsFor}
use Rattle.machine.specs.Outcome.{is_allowed}
use Rattle.machine.specs.declared.world.RunError.{RunError}
use Rattle.machine.specs.declared.world.RunError.TheVariants.{OutOfMemory}
use Rattle.machine.specs.Attempt.{attempt}
use Rattle.machine.specs.WorldCall.{StoresFitting, call_effect, IsCalled, call_may_run_out}
use Rattle.machine.proofs.Requests.{holding-own, got-fits, effect-shown, held-comes, held-stays}
use Rattle.machine.proofs.Attempting.{attempt_allowed}

module _ {B : Type 0} (buffer : B → Buffer) (around : B → Surroundings) (old : List HandleState) (request : Request B Parts) (told : Told)
    (made : attempt old (call_of (plain_request buffer request)) ≡ Some told) where
  abbrev plain : Request Buffer Parts
  plain = plain_request buffer request

  -- Storing what comes for whatever data word.
  abbrev storing : Request B Parts → ℕ → List ℕ → Request B Parts → Type 0
  storing before word bytes after = StoresFitting buffer around before bytes after

  -- What it leaves, when all that it shows may be sent.
  shown-effect : effect old (call_of plain) (shown_by plain) told ≡ call_effect old plain told
  shown-effect = effect-shown old false plain told (attempt_allowed old (call_of plain) told made false)

  -- What its payload stores: what came fits what it holds.
  stored-held : (came : Bool) → comes (call_of plain) told ≡ came → (now : Request B Parts) (word : ℕ) →
      StoresIf storing came request word (call_effect old plain told).got now →
      IsHolding plain (held plain told (call_effect old plain told).got) (plain_request buffer now)
      × (request_around around now ≡ request_around around request)
  stored-held true came now word stored =
      let fits = got-fits old false plain told (sent_of plain) (attempt_allowed old (call_of plain) told made false) in
      let is = stored fits in (
        subst (λ held. IsHolding plain held (plain_request buffer now)) (sym (held-comes plain told _ came)) is.holds,
        is.surroundings,
      )
  stored-held false none now word stored = (
    subst (λ held. IsHolding plain held (plain_request buffer now)) (sym (held-stays plain told _ none))
        (subst (λ r. IsHolding plain (held_of plain) (plain_request buffer r)) (sym stored) (holding-own plain)),
    ap (request_around around) stored,
  )

  -- The call was executed with what is reported.
  module _ (call : Call) (asks : call ≡ call_of plain) (word : ℕ) (new : List HandleState) (now : Request B Parts) (outcome : Outcome)
      (ran_so : IsRun storing call false told word (shown_by plain) old new request now outcome) where
    ran : IsRun storing (call_of plain) false told word (shown_by plain) old new request now outcome
    ran = subst (λ asked. IsRun storing asked false told word (shown_by plain) old new request now outcome) asks ran_so

    -- It holds what the call leaves it.
    ran-held : IsHolding plain (held plain told (call_effect old plain told).got) (plain_request buffer now)
        × (request_around around now ≡ request_around around request)
    ran-held =
        stored-held (comes (call_of plain) told) refl now word
        (subst (λ (left : Effect). StoresIf storing (comes (call_of plain) told) request word left.got now) shown-effect ran.stored)

    -- So the call was made.
    pub ran-called : IsCalled old plain new (plain_request buffer now) outcome
    ran-called = record {
      told = told;
      made = made;
      outcome_is = ran.answer ∙ ap (λ left. left.outcome) shown-effect;
      world = ran.world ∙ ap (λ left. left.world) shown-effect;
      holds = ran-held.0;
    }

    -- What surrounds its buffer stays.
    pub ran-around : request_around around now ≡ request_around around request
    ran-around = ran-held.1

  -- Where memory ran out, the call may run out, and nothing has changed.
  pub ran-out : (call : Call) → call ≡ call_of plain → (word : ℕ) (new : List HandleState) (now : Request B Parts)
      (result : Result Outcome RunError) → result ≡ Err OutOfMemory →
      RunsFor storing (λ count. false) call false told word (shown_by plain) old new request now result →
      (call_may_run_out old plain ≡ true) × (new ≡ old) × (plain_request buffer now ≡ plain)
  ran-out call asks word new now result is ran = (
    ap (passes (may_run_out (λ count. false) (call_of plain))) made ∙ out.1,
    out.2,
    ap (plain_request buffer) out.3,
  )
    where
      out : RunsFor storing (λ count. false) (call_of plain) false told word (shown_by plain) old new request now (Err OutOfMemory)
      out =
          subst (RunsFor storing (λ count. false) (call_of plain) false told word (shown_by plain) old new request now) is
          (subst (λ asked. RunsFor storing (λ count. false) asked false told word (shown_by plain) old new request now result) asks ran)

-- A call that is made at once isn't refused.
pub ran_allowed : (world : List HandleState) (call : Call) (told : Told) → attempt world call ≡ Some told →
    is_allowed world false call told ≡ false → ⊥
ran_allowed world call told made refused = true≢false (sym (attempt_allowed world call told made false) ∙ refused)
