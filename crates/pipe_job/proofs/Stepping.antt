-- What the steps of a job's poll do one after the other.
use Rattle.std.proofs.Common.{ℕ, ◌≡◌, ◌≢◌, ◌≤◌, ◌∙◌, ◌⊎◌, ap, sym, refl, subst, Bool, true, false, true≢false, IsTrue, Ok, Err, arith, inl}
use Rattle.std.proofs.Common.{inr}
use Rattle.std.proofs.Common.{List, [], ◌∷◌, ◌++◌, length, None, Result}
use Rattle.std.proofs.lemmas.List.{append_assoc, append-nil, length-append, length-take}
use Rattle.rent_buf.specs.Parts.{Parts}
use Rattle.rent_buf.specs.Rent.{Rented}
use Rattle.rent_buf.specs.Counts.{Rose}
use Rattle.rent_buf.specs.declared.fault.IoFault.{IoFault}
use Rattle.rent_buf.specs.declared.fault.IoFault.TheVariants as fault
use Rattle.machine.specs.declared.request.Request.{Request}
use Rattle.machine.specs.World.{input_at}
use Rattle.driver_core.specs.declared.op.Op.{Op}
use Rattle.driver_core.specs.declared.op.SubmitError.{SubmitError}
use Rattle.driver_core.specs.declared.op.Submitted.TheVariants as submission
use Rattle.driver_core.specs.Ops.{Ops}
use Rattle.ready_driver.specs.declared.ready.Direction.{Direction}
use Rattle.ready_driver.specs.declared.ready.Direction.TheVariants.{Read, Write}
use Rattle.ready_driver.specs.Io.{IoView, IsLater}
use Rattle.ready_driver.specs.LegacyCalls.{JoinsOp, SubmitRefused}
use Rattle.ready_driver.specs.LegacyState.{LegacyState, ops_in}
use Rattle.ready_driver.specs.Others.{MeetsNone}
use Rattle.ready_driver.specs.Ready.{mask_of, meets}
use Rattle.ready_driver.specs.Records.{io_at}
use Rattle.ready_driver.proofs.Others.{refused-keep, submits-keep}
use Rattle.ready_driver.proofs.Still.{later-then}
use Rattle.pipe_job.specs.Causes.{PipeFaultFor, StepEndsFor, WaitsBy}
use Rattle.pipe_job.specs.Course.{Coursed, IsSameBytes, IsWhole, received_in, sent_in}
use Rattle.pipe_job.specs.Moves.{HasOwn, MeetsBit, MovesBytes, MovesOn, is_pipe_at, joining}
use Rattle.pipe_job.specs.Rest.{IsOwnOrNew}
use Rattle.pipe_job.specs.Steps.{IfWhole, StepsTo, UnlessFault}
use Rattle.pipe_job.specs.Waits.{FitsWait, IfBack, KeepsApart, StaysApart}
use Rattle.pipe_job.specs.declared.step.Wait.{Wait}
use Rattle.pipe_job.specs.declared.step.Wait.TheVariants.{Room, Waiting}
use Rattle.pipe_job.specs.declared.step.Step.{Step}
use Rattle.pipe_job.specs.declared.step.Step.TheVariants as step
use Rattle.pipe_job.proofs.Bytes.{whole_received, whole_sent}
use Rattle.pipe_job.proofs.Frames.{same_fit}
use Rattle.pipe_job.proofs.Moved.{joining_none}
use Rattle.pipe_job.proofs.Resting.{own_both, rest_both, same_rest}
use Rattle.pipe_job.proofs.Staying.{same_stays}

-- A count that rose since a later call rose since an earlier one.
rose_since : (one two three : ℕ) → one ≤ two → Rose two three → Rose one three
rose_since one two three first rose = omega (arith, first, rose)

-- Where two lists have elements one of them does.
some_in : (xs ys : List ℕ) → xs ++ ys ≢ [] → (xs ≢ []) ⊎ (ys ≢ [])
some_in [] ys some = inr some
some_in (x ∷ xs) ys some = inl (λ none. absurd cc)

-- All bytes were sent already, so that no more are.
all_still : (was is bytes now more : List ℕ) → was ≡ bytes → is ≡ was ++ more → now ≡ bytes → length is ≤ length now → is ≡ now
all_still was is bytes now more all sends same few =
    let size = ap length sends ∙ length-append was more in
    let whole = ap length all in
    let before = ap length same in
    sends ∙ ap (λ bs. was ++ bs) (none_left more (omega (arith, size, whole, before, few))) ∙ append-nil was ∙ all ∙ sym same
  where
    none_left : (xs : List ℕ) → length xs ≡ 0 → xs ≡ []
    none_left [] none = refl
    none_left (x ∷ xs) none = absurd cc

-- A bit that no call brought was there before.
bit_before : (before after : Bool) → (before ≡ false → after ≡ false) → after ≡ true → before ≡ true
bit_before true after stays is = refl
bit_before false after stays is = absurd (true≢false (sym is ∙ stays refl))

-- A job has its bytes still through one step and another.
pub same_both : (was mid is : Coursed) → IsSameBytes was mid → IsSameBytes mid is → IsSameBytes was is
same_both was mid is first second = record { pipe = second.pipe ∙ first.pipe; bytes = second.bytes ∙ first.bytes }

-- What is sent in two parts joins in two parts.
joining_append : (is : Bool) (xs ys : List ℕ) → joining is (xs ++ ys) ≡ joining is xs ++ joining is ys
joining_append true xs ys = refl
joining_append false xs ys = refl

-- The bytes on a handle through one part of a poll and then another.
line_both : (one two three sent more got further : List ℕ) (is : Bool) → one ++ joining is sent ≡ got ++ two
    → two ++ joining is more ≡ further ++ three → one ++ joining is (sent ++ more) ≡ (got ++ further) ++ three
line_both one two three sent more got further is first second =
    ap (λ bs. one ++ bs) (joining_append is sent more)
    ∙ sym (append_assoc one (joining is sent) (joining is more))
    ∙ ap (λ bs. bs ++ joining is more) first
    ∙ append_assoc got two (joining is more)
    ∙ ap (λ bs. got ++ bs) second
    ∙ sym (append_assoc got further three)

-- The bytes of a job through one part and then another.
bytes_both : (one two three sent more : List ℕ) → two ≡ one ++ sent → three ≡ two ++ more → three ≡ one ++ (sent ++ more)
bytes_both one two three sent more first second = second ∙ ap (λ bs. bs ++ more) first ∙ append_assoc one sent more

-- Where the bytes that waited were a pipe's own, those that wait then are: all that was sent and not received.
own_pipe : (sent_was got_was was now sent got sent_is got_is : List ℕ) → sent_was ≡ got_was ++ (was ++ []) → was ++ sent ≡ got ++ now
    → sent_is ≡ sent_was ++ sent → got_is ≡ got_was ++ got → sent_is ≡ got_is ++ (now ++ [])
own_pipe sent_was got_was was now sent got sent_is got_is own line sends gets =
    sends ∙ ap (λ bs. bs ++ sent) (own ∙ ap (λ bs. got_was ++ bs) (append-nil was)) ∙ append_assoc got_was was sent
    ∙ ap (λ bs. got_was ++ bs) line ∙ sym (append_assoc got_was got now) ∙ ap (λ bs. bs ++ now) (sym gets)
    ∙ ap (λ bs. got_is ++ bs) (sym (append-nil now))

-- Where they were the next ones of another handle, they are still.
own_other : (sent_was got_was was now rest sent got sent_is got_is : List ℕ) → sent_was ≡ got_was ++ (was ++ rest) → was ++ [] ≡ got ++ now
    → sent_is ≡ sent_was ++ sent → got_is ≡ got_was ++ got → sent_is ≡ got_is ++ (now ++ (rest ++ sent))
own_other sent_was got_was was now rest sent got sent_is got_is own line sends gets =
    sends ∙ ap (λ bs. bs ++ sent) own ∙ append_assoc got_was (was ++ rest) sent
    ∙ ap (λ bs. got_was ++ bs) (append_assoc was rest sent ∙ ap (λ bs. bs ++ (rest ++ sent)) (sym (append-nil was) ∙ line)
    ∙ append_assoc got now (rest ++ sent))
    ∙ sym (append_assoc got_was got (now ++ (rest ++ sent))) ∙ ap (λ bs. bs ++ (now ++ (rest ++ sent))) (sym gets)

module _ {I : Type 0} (files : I → ℕ → Bool) (view : I → IoView) (tells memory : Bool) where
  -- Nothing moved, and no bit came.
  pub moves_none : (c : Coursed) (old new : LegacyState I Rented)
      → (IsTrue tells → (view new.handling.io).world ≡ (view old.handling.io).world)
      → ((dir : Direction) → MeetsNone old.handling.records c.pipe dir → MeetsNone new.handling.records c.pipe dir)
      → MovesOn view tells memory c c old new
  moves_none c old new world unmet = record {
    same = record { pipe = refl; bytes = refl };
    moves = record {
      sent = [];
      got = [];
      writes = λ told none. absurd (none refl);
      reads = λ told none. absurd (none refl);
      line = λ t. ap (λ bs. input_at (view old.handling.io).world c.pipe ++ bs) (joining_none (is_pipe_at
          (view old.handling.io).world c.pipe))
          ∙ append-nil (input_at (view old.handling.io).world c.pipe) ∙ ap (λ w. input_at w c.pipe) (sym (world t));
    };
    sends = sym (append-nil (sent_in c));
    gets = sym (append-nil (received_in c));
    after = λ none. absurd (none refl);
    kind = λ t. ap (λ w. is_pipe_at w c.pipe) (world t);
    unmet = unmet;
  }

  -- What moved in one part of a poll and then another.
  moves_both : (was mid is : Coursed) (old then new : LegacyState I Rented) → MovesOn view tells memory was mid old then
      → MovesOn view tells memory mid is then new → MovesOn view tells memory was is old new
  moves_both was mid is old then new first second = record {
    same = same_both was mid is first.same second.same;
    moves = record {
      sent = first.moves.sent ++ second.moves.sent;
      got = first.moves.got ++ second.moves.got;
      writes = λ told some. elim (some_in first.moves.sent second.moves.sent some) [
        | inl here ↦ first.moves.writes told here
        | inr there ↦ before Write (second.moves.writes told there)
      ];
      reads = λ told some. elim (some_in first.moves.got second.moves.got some) [
        | inl here ↦ first.moves.reads told here
        | inr there ↦ before Read (second.moves.reads told there)
      ];
      line = λ t. line_both (input_at (view old.handling.io).world was.pipe) (input_at (view then.handling.io).world was.pipe)
          (input_at (view new.handling.io).world was.pipe) first.moves.sent second.moves.sent first.moves.got second.moves.got
          (is_pipe_at (view old.handling.io).world was.pipe) (first.moves.line t)
          (subst (λ b. input_at (view then.handling.io).world was.pipe ++ joining b second.moves.sent
          ≡ second.moves.got ++ input_at (view new.handling.io).world was.pipe) (first.kind t)
          (subst (λ p. input_at (view then.handling.io).world p ++ joining (is_pipe_at (view then.handling.io).world p) second.moves.sent
          ≡ second.moves.got ++ input_at (view new.handling.io).world p) first.same.pipe (second.moves.line t)));
    };
    sends = bytes_both (sent_in was) (sent_in mid) (sent_in is) first.moves.sent second.moves.sent first.sends second.sends;
    gets = bytes_both (received_in was) (received_in mid) (received_in is) first.moves.got second.moves.got first.gets second.gets;
    after = λ some. elim (some_in first.moves.got second.moves.got some) [
      | inl here ↦ all_still (sent_in mid) (sent_in is) mid.bytes is.bytes second.moves.sent
          (first.after here) second.sends second.same.bytes
          (let size = length-take is.sent is.bytes in omega (arith, size))
      | inr there ↦ second.after there
    ];
    kind = λ t. subst (λ p. is_pipe_at (view new.handling.io).world p ≡ is_pipe_at (view then.handling.io).world p) first.same.pipe
        (second.kind t) ∙ first.kind t;
    unmet = λ dir none. subst (λ p. MeetsNone then.handling.records p dir → MeetsNone new.handling.records p dir) first.same.pipe
        (second.unmet dir) (first.unmet dir none);
  }
    where
      before : (dir : Direction) → MeetsBit then.handling.records mid.pipe dir → MeetsBit old.handling.records was.pipe dir
      before dir is = bit_before (meets (io_at old.handling.records was.pipe).ready (mask_of dir))
          (meets (io_at then.handling.records was.pipe).ready (mask_of dir)) (first.unmet dir)
          (subst (λ p. MeetsBit then.handling.records p dir) first.same.pipe is)

  -- The bytes that wait on a job's pipe are its own still.
  own_since : (was mid : Coursed) (old then : LegacyState I Rented) → MovesOn view tells memory was mid old then → IsTrue tells
      → HasOwn (view old.handling.io).world was → HasOwn (view then.handling.io).world mid
  own_since was mid old then first t own = by (is_pipe_at (view old.handling.io).world was.pipe) refl
    where
      line : (b : Bool) → is_pipe_at (view old.handling.io).world was.pipe ≡ b
          → input_at (view old.handling.io).world was.pipe ++ joining b first.moves.sent
          ≡ first.moves.got ++ input_at (view then.handling.io).world was.pipe
      line b is = subst (λ x. input_at (view old.handling.io).world was.pipe ++ joining x first.moves.sent
          ≡ first.moves.got ++ input_at (view then.handling.io).world was.pipe) is (first.moves.line t)

      by : (b : Bool) → is_pipe_at (view old.handling.io).world was.pipe ≡ b → HasOwn (view then.handling.io).world mid
      by true is = record {
        rest = [];
        bytes = own_pipe (sent_in was) (received_in was) (input_at (view old.handling.io).world was.pipe)
            (input_at (view then.handling.io).world was.pipe) first.moves.sent first.moves.got (sent_in mid) (received_in mid)
            (own.bytes ∙ ap (λ bs. received_in was ++ (input_at (view old.handling.io).world was.pipe ++ bs)) (own.all is)) (line true is)
            first.sends first.gets
            ∙ ap (λ p. received_in mid ++ (input_at (view then.handling.io).world p ++ [])) (sym first.same.pipe);
        all = λ pipe. refl;
      }
      by false is = record {
        rest = own.rest ++ first.moves.sent;
        bytes = own_other (sent_in was) (received_in was) (input_at (view old.handling.io).world was.pipe)
            (input_at (view then.handling.io).world was.pipe) own.rest first.moves.sent first.moves.got (sent_in mid) (received_in mid)
            own.bytes (line false is) first.sends first.gets
            ∙ ap (λ p. received_in mid ++ (input_at (view then.handling.io).world p ++ (own.rest ++ first.moves.sent)))
            (sym first.same.pipe);
        all = λ pipe. absurd (true≢false (sym pipe ∙ ap (is_pipe_at (view then.handling.io).world) first.same.pipe ∙ first.kind t ∙ is));
      }

  -- A fault has its cause since an earlier call.
  fault_since : (pipe cancels : ℕ) (own further : Type 0) (old mid new : LegacyState I Rented) (why : IoFault)
      → IsLater (view old.handling.io) (view mid.handling.io) → (IsTrue tells → own → further)
      → PipeFaultFor view tells pipe cancels further mid new why → PipeFaultFor view tells pipe cancels own old new why
  fault_since pipe cancels own further old mid new (fault.Os e) later since (inl rose) = inl (rose_since _ _ _ later.fails rose)
  fault_since pipe cancels own further old mid new (fault.Os e) later since (inr (inl asked)) = inr (inl asked)
  fault_since pipe cancels own further old mid new (fault.Os e) later since (inr (inr (inl full))) = inr (inr (inl full))
  fault_since pipe cancels own further old mid new (fault.Os e) later since (inr (inr (inr not_held))) = inr (inr (inr not_held))
  fault_since pipe cancels own further old mid new fault.UnexpectedEof later since is = is
  fault_since pipe cancels own further old mid new fault.WriteZero later since is = is
  fault_since pipe cancels own further old mid new fault.InvalidData later since is = λ t has. is t (since t has)
  fault_since pipe cancels own further old mid new fault.ReadFault later since rose = rose_since _ _ _ later.faults rose
  fault_since pipe cancels own further old mid new fault.WriteFault later since is = absurd is
  fault_since pipe cancels own further old mid new fault.OutOfMemory later since is = absurd is

  ends_since : (pipe cancels : ℕ) (own further : Type 0) (old mid new : LegacyState I Rented) (next : Step)
      → IsLater (view old.handling.io) (view mid.handling.io) → (IsTrue tells → own → further)
      → StepEndsFor view tells pipe cancels further mid new next → StepEndsFor view tells pipe cancels own old new next
  ends_since pipe cancels own further old mid new (step.Again wait) later since ends = tt
  ends_since pipe cancels own further old mid new (step.Pending wait) later since ends = tt
  ends_since pipe cancels own further old mid new (step.OutOfMemory wait) later since ends = tt
  ends_since pipe cancels own further old mid new (step.Ended (Ok whole)) later since ends = tt
  ends_since pipe cancels own further old mid new (step.Ended (Err why)) later since ends =
      fault_since pipe cancels own further old mid new why later since ends

  -- A job waits for its cause since an earlier call.
  waits_since : (old mid new : LegacyState I Rented) (next : Step) → IsLater (view old.handling.io) (view mid.handling.io)
      → WaitsBy view mid new next → WaitsBy view old new next
  waits_since old mid new (step.Again wait) later waits = tt
  waits_since old mid new (step.Pending (Room room)) later waits = absurd waits
  waits_since old mid new (step.Pending (Waiting op)) later (inl unmet) = inl unmet
  waits_since old mid new (step.Pending (Waiting op)) later (inr rose) = inr (rose_since _ _ _ later.blocks rose)
  waits_since old mid new (step.OutOfMemory wait) later waits = tt
  waits_since old mid new (step.Ended end) later waits = tt

  -- What each other job waits for is apart since an earlier call.
  apart_since : (old mid : Ops Rented) (wait further : Wait) (next : Step) → KeepsApart old mid wait → StaysApart old wait further
      → IfBack next (StaysApart mid further) → IfBack next (StaysApart old wait)
  apart_since old mid wait further (step.Again last) keeps first second =
      λ course cancels other fits apart. second course cancels other (keeps.keep course cancels other fits apart)
      (first course cancels other fits apart)
  apart_since old mid wait further (step.Pending last) keeps first second =
      λ course cancels other fits apart. second course cancels other (keeps.keep course cancels other fits apart)
      (first course cancels other fits apart)
  apart_since old mid wait further (step.OutOfMemory last) keeps first second =
      λ course cancels other fits apart. second course cancels other (keeps.keep course cancels other fits apart)
      (first course cancels other fits apart)
  apart_since old mid wait further (step.Ended end) keeps first second = tt

  -- What is so of a step that isn't a fault, by another fact.
  unless_fault : (next : Step) (P Q : Type 0) → (P → Q) → UnlessFault next P → UnlessFault next Q
  unless_fault (step.Again wait) P Q so is = so is
  unless_fault (step.Pending wait) P Q so is = so is
  unless_fault (step.OutOfMemory wait) P Q so is = so is
  unless_fault (step.Ended (Ok whole)) P Q so is = so is
  unless_fault (step.Ended (Err why)) P Q so is = tt

  -- What a job waits for is its own or new since an earlier call.
  fresh_since : (given later : ℕ) (wait further : Wait) (next : Step) → given ≤ later → IsOwnOrNew given wait further
      → IfBack next (IsOwnOrNew later further) → IfBack next (IsOwnOrNew given wait)
  fresh_since given later wait further (step.Again last) more first second = own_both given later wait further last more first second
  fresh_since given later wait further (step.Pending last) more first second = own_both given later wait further last more first second
  fresh_since given later wait further (step.OutOfMemory last) more first second = own_both given later wait further last more first second
  fresh_since given later wait further (step.Ended end) more first second = tt

  -- What it waits for still is its own.
  own_same : (given : ℕ) (wait : Wait) → IsOwnOrNew given wait wait
  own_same given (Room room) = tt
  own_same given (Waiting op) = inl refl

  -- A step behind others.
  pub steps_on : (was mid is : Coursed) (cancels : ℕ) (old then new : LegacyState I Rented) (wait further : Wait) (next : Step)
      → StepsTo files view tells memory was mid cancels old then wait (step.Again further)
      → StepsTo files view tells memory mid is cancels then new further next
      → StepsTo files view tells memory was is cancels old new wait next
  steps_on was mid is cancels old then new wait further next first second = record {
    fits = second.fits;
    others = record {
      keep = λ c n other fits apart. second.others.keep c n other (first.others.keep c n other fits apart)
          (first.apart c n other fits apart);
    };
    apart = apart_since (ops_in old) (ops_in then) wait further next first.others first.apart second.apart;
    stays = record {
      keep = λ c n t other fits apart waits. second.stays.keep c n t other (first.others.keep c n other fits apart)
          (first.apart c n other fits apart) (first.stays.keep c n t other fits apart waits);
    };
    later = later-then (view old.handling.io) (view then.handling.io) (view new.handling.io) first.later second.later;
    ends = ends_since was.pipe cancels (HasOwn (view old.handling.io).world was) (HasOwn
        (view then.handling.io).world mid) old then new next
        first.later (own_since was mid old then first.moves)
        (subst (λ p. StepEndsFor view tells p cancels (HasOwn (view then.handling.io).world mid) then new next) first.moves.same.pipe
        second.ends);
    waits = waits_since old then new next first.later second.waits;
    moves = unless_fault next (MovesOn view tells memory mid is then new) (MovesOn view tells memory was is old new)
        (moves_both was mid is old then new first.moves) second.moves;
    rest = rest_both old then new wait further first.rest first.fresh second.rest;
    fresh = fresh_since old.given then.given wait further next first.rest.given first.fresh second.fresh;
  }

  -- No step.
  pub steps_none : (c : Coursed) (cancels : ℕ) (old : LegacyState I Rented) (wait : Wait) → FitsWait (ops_in old) c cancels wait
      → StepsTo files view tells memory c c cancels old old wait (step.Again wait)
  steps_none c cancels old wait fits = record {
    fits = fits;
    others = same_fit (ops_in old) wait;
    apart = λ course n other fits apart. apart;
    stays = same_stays files memory old wait;
    later = record { faults = omega arith; blocks = omega arith; fails = omega arith };
    ends = tt;
    waits = tt;
    moves = moves_none c old old (λ t. refl) (λ dir none. none);
    rest = same_rest old wait;
    fresh = own_same old.given wait;
  }

  -- All was sent and received before.
  pub steps_whole : (c : Coursed) (cancels : ℕ) (old : LegacyState I Rented) (wait : Wait)
      → StepsTo files view tells memory c c cancels old old wait (step.Ended (Ok tt))
  steps_whole c cancels old wait = record {
    fits = tt;
    others = same_fit (ops_in old) wait;
    apart = tt;
    stays = same_stays files memory old wait;
    later = record { faults = omega arith; blocks = omega arith; fails = omega arith };
    ends = tt;
    waits = tt;
    moves = moves_none c old old (λ t. refl) (λ dir none. none);
    rest = same_rest old wait;
    fresh = tt;
  }

  -- A submission moves nothing,
  pub submitted_moves : (c : Coursed) (old new : LegacyState I Rented) (request : Request Rented Parts) (op : Op)
      → JoinsOp view tells memory old new request None op → MovesOn view tells memory c c old new
  submitted_moves c old new request op joins = moves_none c old new
      (λ t. ap (λ h. (view h.io).world) joins.handling ∙ joins.ready.object.world t)
      ((submits-keep view tells memory old new request None (submission.Op op) 0 joins).unmet c.pipe)

  -- nor does one that is refused.
  pub refused_moves : (c : Coursed) (old new : LegacyState I Rented) (request : Request Rented Parts) (refused : SubmitError Rented)
      → SubmitRefused view tells memory request old new refused → MovesOn view tells memory c c old new
  refused_moves c old new request refused is = moves_none c old new is.handles.made.object.world
      ((refused-keep view tells memory request old new refused 0 is).unmet c.pipe)

  -- A poll that is done without a fault has sent and received all.
  pub whole_moves : (was is : Coursed) (old new : LegacyState I Rented) (bytes : List ℕ) (end : Result Unit IoFault) (done : Unit)
      → end ≡ Ok done → UnlessFault (step.Ended end) (MovesOn view tells memory was is old new) → IfWhole (step.Ended end) (IsWhole is)
      → bytes ≡ is.bytes → (moves : MovesBytes view tells memory was.pipe old new) × (was.bytes ≡ sent_in was ++ moves.sent)
      × (bytes ≡ received_in was ++ moves.got)
  whole_moves was is old new bytes end done ok moved whole same =
      by (subst (λ r. UnlessFault (step.Ended r) (MovesOn view tells memory was is old new)) ok moved)
      (subst (λ r. IfWhole (step.Ended r) (IsWhole is)) ok whole)
    where
      by : MovesOn view tells memory was is old new → IsWhole is → (moves : MovesBytes view tells memory was.pipe old new)
          × (was.bytes ≡ sent_in was ++ moves.sent) × (bytes ≡ received_in was ++ moves.got)
      by moved whole =
          (moved.moves, sym moved.same.bytes ∙ sym (whole_sent is whole) ∙ moved.sends, same ∙ sym (whole_received is whole) ∙ moved.gets)
