-- What calls of operations leave of the slots of all operations, and of their tokens.
use Rattle.std.proofs.Common.{◌≡◌, ◌≢◌, ℕ, ◌&&◌, Bool, true, false, Option, Some, None, refl, sym, ◌∙◌, ap, subst}
use Rattle.std.specs.Ordering.{nat_cmp}
use Rattle.std.specs.FinMap.{FinMap, get, insert, remove}
use Rattle.rent_buf.specs.Buffer.{Buffer}
use Rattle.rent_buf.specs.Parts.{Parts}
use Rattle.op_slots.specs.Lifecycle.{polled}
use Rattle.op_slots.specs.declared.lifecycle.Lifecycle.{Lifecycle}
use Rattle.op_slots.specs.declared.lifecycle.Lifecycle.TheVariants.{Completed}
use Rattle.machine.specs.declared.request.TheConstants.{CANCELED}
use Rattle.machine.specs.declared.request.Outcome.{Outcome}
use Rattle.machine.specs.declared.request.Outcome.TheVariants.{Count, From, Made, Fail}
use Rattle.machine.specs.declared.request.Request.{Request}
use Rattle.machine.specs.declared.request.Way.{Way}
use Rattle.machine.specs.declared.request.Way.TheVariants.{Reads, Sends, Neither}
use Rattle.machine.specs.Effect.{made_by}
use Rattle.machine.specs.Request.{plain_request, way_of, held_after, named, makes}
use Rattle.machine.proofs.Requests.{named-mapped, named-holding, makes-mapped}
use Rattle.driver_core.specs.declared.op.Done.{Done}
use Rattle.driver_core.specs.declared.operations.calls.CallAnswer.{CallAnswer}
use Rattle.driver_core.specs.declared.slot.Slot.{Slot}
use Rattle.driver_core.specs.Calls.{CallsSlot}
use Rattle.driver_core.specs.Holds.{named_in, made_in, made_life, is_maker}
use Rattle.driver_core.specs.Slot.{number_at, is_flying, flies_in, with_life, PollsAt, EndsSlot}
use Rattle.driver_core.proofs.Counted.{flying-made}
use Rattle.driver_core.proofs.Lists.{some}
use Rattle.driver_core.proofs.Maps.{put-same, put-other, gone-same, gone-other, remove-put}
use Rattle.driver_core.proofs.Numbers.{Owner, owner}
use Rattle.driver_core.specs.declared.operations.calls.CallAnswer.TheVariants as calling
use Rattle.ready_driver.specs.Calling.{request_in, MakesCall, CallsInSlot}
use Rattle.driver_core.proofs.Polling.{polled-flies, called-now}
use Rattle.ready_driver.specs.Io.{CountsFor, EndsFor}
use Rattle.ready_driver.specs.Named.{IsCompleted, KeepsSlot, ReturnsSlot, canceled_if, canceled_in, canceled_slots}

-- A request after a count names what it named, by the way that its bytes go.
counts-names : (way : Way) (r now : Request Buffer Parts) (k : ℕ) → CountsFor way r now k → named now ≡ named r
counts-names Reads r now k is = named-holding r (held_after r is.bytes) now is.holds
counts-names Sends r now k is = ap named is.1
counts-names Neither r now k is = ap named is.1

-- A request after its call names what it named.
pub ends-names : (r now : Request Buffer Parts) (outcome : Outcome) → EndsFor r now outcome → named now ≡ named r
ends-names r now (Count k) is = counts-names (way_of r) r now k is
ends-names r now (From k addr) is = counts-names (way_of r) r now k is
ends-names r now (Made h) is = ap named is.1
ends-names r now (Fail e) is = ap named is

-- What is in flight isn't completed.
flying-open : (life : Lifecycle Outcome) (outcome : Outcome) → is_flying life ≡ true → life ≡ Completed outcome → ⊥
flying-open life outcome flies is =
    let f : ◌≡◌ {A = Bool} true false = sym flies ∙ ap is_flying is in
    let g : ⊥ = cc in
    g

-- Only a request that makes handles made one.
pub ends-makes : (r now : Request Buffer Parts) (outcome : Outcome) (h : ℕ) → EndsFor r now outcome → made_by outcome ≡ Some h →
    makes r ≡ true
ends-makes r now (Count k) h is made = (let f : ⊥ = cc in absurd f)
ends-makes r now (From k addr) h is made = (let f : ⊥ = cc in absurd f)
ends-makes r now (Made m) h is made = is.0
ends-makes r now (Fail e) h is made = (let f : ⊥ = cc in absurd f)

-- The slot of an operation that is its user's.
module _ {B : Type 0} (old : FinMap nat_cmp (Slot B)) (key number : ℕ) (holds : number_at old key ≡ Some number) where
  -- The slot.
  abbrev mine : Owner old key number
  mine = owner old key number holds

  -- A poll that returns what was completed before.
  pub ready-slots : (task : ℕ) (new : FinMap nat_cmp (Slot B)) (done : Done B) → PollsAt old key task new (Some done) →
      ReturnsSlot old key new done
  ready-slots task new done polls =
      let p = polls mine.slot mine.there in
      record {
        others = λ k e. ap (λ m. get m k) p.2 ∙ gone-other old key k e;
        free = ap (λ m. get m key) p.2 ∙ gone-same old key;
        names = ap named p.1 ∙ sym (ap named_in mine.there);
        made = λ none h made. absurd (
            let f : ◌≡◌ {A = Option ℕ} None (Some h) =
            sym none ∙ ap made_in mine.there ∙ ap made_life p.0 ∙ made in
            let g : ⊥ = cc in
            g);
      }

  -- It returns what was completed.
  pub ready-outcome : (task : ℕ) (new : FinMap nat_cmp (Slot B)) (done : Done B) → PollsAt old key task new (Some done) →
      IsCompleted (get old key) done.outcome
  ready-outcome task new done polls =
      subst (λ s. IsCompleted s done.outcome) (sym mine.there) (polls mine.slot mine.there).0

  -- Its request is returned, and no call was made.
  pub ready-request : (task : ℕ) (new : FinMap nat_cmp (Slot B)) (done : Done B) → PollsAt old key task new (Some done) →
      request_in (get old key) ≡ Some done.request
  ready-request task new done polls = ap request_in mine.there ∙ ap Some (sym (polls mine.slot mine.there).1)

  -- A poll that waits, and the call behind it.
  module _ {C : Type 0} (buffer : B → Buffer) (called : C → Request Buffer Parts → C → Request Buffer Parts → CallAnswer → Type 0)
      (task : ℕ) (mid new : FinMap nat_cmp (Slot B)) (before after : C) (answer : CallAnswer) (polls : PollsAt old key task mid None)
      (calls : CallsSlot buffer called mid key before new after answer) where
    -- The slot with the task that polled.
    abbrev waits : Slot B
    waits = with_life mine.slot (polled mine.slot.life task)

    -- The slots after the poll.
    mid-at : mid ≡ insert old key waits
    mid-at = (polls mine.slot mine.there).1

    -- The slot that was called is that one.
    slot-at : calls.slot ≡ waits
    slot-at = some calls.slot waits (get mid key) calls.there (ap (λ m. get m key) mid-at ∙ put-same old key waits)

    -- All other slots stay.
    called-others : (k : ℕ) → k ≢ key → get new k ≡ get old k
    called-others k e =
        ap (λ m. get m k) calls.slots ∙ put-other mid key calls.now k e ∙ ap (λ m. get m k) mid-at ∙ put-other old key waits k e

    -- The request that was called is that of the slot.
    asked-request : calls.slot.request ≡ mine.slot.request
    asked-request = ap (λ s. s.request) slot-at

    -- It names the handles that it named, where the call leaves these.
    called-names : named (plain_request buffer calls.now.request) ≡ named (plain_request buffer calls.slot.request) →
        named calls.now.request ≡ named_in (get old key)
    called-names same =
        sym (named-mapped _ _ calls.now.request) ∙ same ∙ named-mapped _ _ calls.slot.request ∙ ap named asked-request
        ∙ sym (ap named_in mine.there)

    -- The request that was called names what the operation names.
    pub called-named : named (plain_request buffer calls.slot.request) ≡ named_in (get old key)
    called-named = named-mapped _ _ calls.slot.request ∙ ap named asked-request ∙ sym (ap named_in mine.there)

    -- A call that wasn't made.
    pub unmade-slots : plain_request buffer calls.now.request ≡ plain_request buffer calls.slot.request → KeepsSlot old key new
    unmade-slots same = record {
      others = called-others;
      names = ap named_in (called-now calls) ∙ called-names (ap named same);
      unmade = λ none. ap made_in (called-now calls) ∙ ap made_life (calls.life ∙ ap (λ s. s.life) slot-at)
          ∙ flying-made (polled mine.slot.life task) (polled-flies mine.slot.life task (polls mine.slot mine.there).0);
      completed = λ outcome. (
        λ now. absurd (flying-open (polled mine.slot.life task) outcome
            (polled-flies mine.slot.life task (polls mine.slot mine.there).0)
            (sym (calls.life ∙ ap (λ s. s.life) slot-at) ∙ subst (λ s. IsCompleted s outcome) (called-now calls) now)),
        λ was. absurd (flying-open mine.slot.life outcome (polls mine.slot mine.there).0
            (subst (λ s. IsCompleted s outcome) mine.there was)),
      );
    }

    -- A call that was made, and the end of its operation.
    pub made-slots : (outcome : Outcome) (done : Done B) (behind : FinMap nat_cmp (Slot B)) →
        EndsFor (plain_request buffer calls.slot.request) (plain_request buffer calls.now.request) outcome →
        EndsSlot new key outcome behind done → ReturnsSlot old key behind done
    made-slots outcome done behind is ends =
        let e = ends calls.now (called-now calls) in
        record {
          others = λ k apart. ap (λ m. get m k) e.2 ∙ gone-other new key k apart ∙ called-others k apart;
          free = ap (λ m. get m key) e.2 ∙ gone-same new key;
          names = ap named e.1
              ∙ called-names (ends-names (plain_request buffer calls.slot.request) (plain_request buffer calls.now.request) outcome is);
          made = λ none h made. ap is_maker mine.there ∙ ap (λ b. b && makes mine.slot.request) (polls mine.slot mine.there).0
              ∙ ap makes (sym asked-request) ∙ sym (makes-mapped _ _ calls.slot.request)
              ∙ ends-makes (plain_request buffer calls.slot.request) (plain_request buffer calls.now.request) outcome h is
              (ap made_by (sym e.0) ∙ made);
        }

    -- The call was made on the request of the slot.
    pub makes-call : (now : Request B Parts) → now ≡ calls.now.request → MakesCall buffer called (get old key) before after answer now
    makes-call now is = record {
      request = mine.slot.request;
      asked = ap request_in mine.there;
      flies = ap flies_in mine.there ∙ (polls mine.slot mine.there).0;
      calls = subst (λ r. called before (plain_request buffer r) after (plain_request buffer now) answer) asked-request
          (subst (λ r. called before (plain_request buffer calls.slot.request) after (plain_request buffer r) answer) (sym is) calls.calls);
    }

    -- The request stays in its slot.
    pub calls-in-slot : CallsInSlot buffer called (get old key) (get new key) before after answer
    calls-in-slot = record {
      now = calls.now.request;
      stays = ap request_in (called-now calls);
      made = makes-call calls.now.request refl;
    }

    -- The call ended, and its operation is returned with its outcome.
    pub calls-ended : (outcome : Outcome) (done : Done B) (behind : FinMap nat_cmp (Slot B)) → answer ≡ calling.Done outcome →
        EndsSlot new key outcome behind done → MakesCall buffer called (get old key) before after (calling.Done done.outcome) done.request
    calls-ended outcome done behind is ends =
        let e = ends calls.now (called-now calls) in
        subst (λ a. MakesCall buffer called (get old key) before after a done.request) (is ∙ ap calling.Done (sym e.0))
        (makes-call done.request e.1)

    -- Its outcome is how the call ended.
    pub made-outcome : (outcome : Outcome) (done : Done B) (behind : FinMap nat_cmp (Slot B)) → EndsSlot new key outcome behind done →
        done.outcome ≡ outcome
    made-outcome outcome done behind ends = (ends calls.now (called-now calls)).0

-- A slot goes, whether its cancel was asked for or not.
pub gone-canceled : {B : Type 0} (slots : FinMap nat_cmp (Slot B)) (key : ℕ) → remove (canceled_slots slots key) key ≡ remove slots key
gone-canceled {B} slots key = by (get slots key)
  where
    flies : (b : Bool) (s : Slot B) → remove (canceled_if b slots key s) key ≡ remove slots key
    flies true s = remove-put slots key (with_life s (Completed (Fail CANCELED)))
    flies false s = refl

    by : (x : Option (Slot B)) → remove (canceled_in slots key x) key ≡ remove slots key
    by None = refl
    by (Some s) = flies (is_flying s.life) s
