-- What the calls of a direction leave of its bytes.
use Rattle.std.proofs.Common.{ℕ, zero, suc, ◌≡◌, ◌∙◌, ap, sym, refl, subst, arith, Bool, IsTrue, List, [], ◌∷◌}
use Rattle.std.proofs.Common.{◌++◌, length, drop, Option, Some, None, inl, inr}
use Rattle.std.proofs.lemmas.List.{append_assoc}
use Rattle.rent_buf.specs.Buf.{built, content_of}
use Rattle.rent_buf.specs.Buffer.{Buffer}
use Rattle.rent_buf.specs.Parts.{Parts}
use Rattle.rent_buf.specs.declared.plain.Buf.{Buf}
use Rattle.machine.specs.declared.request.Outcome.{Outcome}
use Rattle.machine.specs.declared.request.Outcome.TheVariants.{Count, From, Made, Fail}
use Rattle.machine.specs.declared.request.Request.{Request}
use Rattle.machine.specs.declared.request.Request.TheVariants.{Recv, Send}
use Rattle.machine.specs.declared.world.HandleState.{HandleState}
use Rattle.machine.specs.World.{input_at}
use Rattle.driver_core.specs.Ops.{Ops}
use Rattle.driver_core.specs.Slot.{serial_of}
use Rattle.driver_core.specs.declared.op.Op.{Op}
use Rattle.driver_core.specs.declared.op.SubmitFault.{SubmitFault}
use Rattle.driver_core.specs.declared.op.SubmitFault.TheVariants as submit
use Rattle.ready_driver.specs.Io.{IoView}
use Rattle.ready_driver.specs.LegacyCalls.{WhyRefused}
use Rattle.ready_driver.specs.LegacyState.{LegacyState, ops_in}
use Rattle.ready_driver.specs.Registry.{Handling}
use Rattle.ready_driver.proofs.Still.{later-then, later-same}
use Rattle.net_stream.specs.Told.{IsSentTo, IsStream, IsTaken, output_at}
use Rattle.net_stream.proofs.Handles.{sent_waiting, taken_sent}
use Rattle.relay_net.specs.Flow.{asked_at, bytes_sent, empty_buffer, FitsStage, held_in, IfAsked, IsElse, IsLoad, IsPending, IsReceive}
use Rattle.relay_net.specs.Flow.{IsSend}
use Rattle.relay_net.specs.Flow.{line}
use Rattle.relay_net.specs.Flow.{send_bytes}
use Rattle.relay_net.specs.Keeping.{AnyRequest, CameFor, HasEnded, LeavesFlow, MovesBetween, Stays, StopsAs, StopsFor, world_of}
use Rattle.relay_net.specs.Outcomes.{CountsAs, HoldsJust, ReceivedAs, SentAs}
use Rattle.relay_net.specs.Steps.{Begins, EndsAt, Flows}
use Rattle.relay_net.specs.declared.flow.Came.{Came}
use Rattle.relay_net.specs.declared.flow.Came.TheVariants as came
use Rattle.relay_net.specs.declared.flow.Stage.{Stage}
use Rattle.relay_net.specs.declared.flow.Stage.TheVariants as stage
use Rattle.relay_net.specs.declared.round.RelayError.{RelayError}
use Rattle.relay_net.specs.declared.round.RelayError.TheVariants as why
use Rattle.relay_net.proofs.Calls.{plain_in, users_then}
use Rattle.relay_net.proofs.Moves.{Brings, Takes, sent}

-- A request that is known, as any one.
any_asked : (asked : Option (Request Buffer Parts)) (P : Request Buffer Parts → Type 0) → IfAsked asked P → IfAsked asked AnyRequest
any_asked None P is = is
any_asked (Some request) P is = tt

-- A receive of a direction is one of those that its frame leaves out, and so is a send.
pub receive_apart : (room from to : ℕ) (request : Request Buffer Parts) → IsReceive room from request → IsElse from to request → ⊥
receive_apart room from to request is else = (subst (IsElse from to) is.request_is else) refl

-- Nor is a send of the direction.
pub send_apart : (from to count : ℕ) (request : Request Buffer Parts) → IsSend to count request → IsElse from to request → ⊥
send_apart from to count request is else = (subst (IsElse from to) is.request_is else) refl

-- A stage that holds just some bytes fits, and holds these.
pub just_fits : (room : ℕ) (ops : Ops Buf) (from to : ℕ) (s : Stage) (bytes : List ℕ) → HoldsJust s bytes → FitsStage room ops from to s
just_fits room ops from to (stage.Idle spare) bytes is = tt
just_fits room ops from to (stage.Receiving op) bytes is = absurd is
just_fits room ops from to (stage.Held buf) bytes is = subst (λ bs. IsLoad (length bs)) (sym is.0) is.1
just_fits room ops from to (stage.Sending op count) bytes is = absurd is

-- It holds just these bytes.
pub just_holds : (ops : Ops Buf) (s : Stage) (bytes : List ℕ) → HoldsJust s bytes → held_in ops s ≡ bytes
just_holds ops (stage.Idle spare) bytes is = sym is
just_holds ops (stage.Receiving op) bytes is = absurd is
just_holds ops (stage.Held buf) bytes is = is.0
just_holds ops (stage.Sending op count) bytes is = absurd is

-- What a receive brought goes behind what is held: the line is what it was.
brought_line : (old new : List HandleState) (from to : ℕ) (held : List ℕ) → held ++ input_at new from ≡ input_at old from
    → IsTaken old from new → line new from to held ≡ line old from to []
brought_line old new from to held came taken =
    ap (λ o. o ++ (held ++ input_at new from)) (taken_sent old new from to taken)
    ∙ ap (λ bs. output_at old to ++ bs) came

-- What a send took left what is held: the line is what it was.
took_line : (old new : List HandleState) (from to : ℕ) (held later : List ℕ) → IsStream old to
    → output_at new to ++ later ≡ output_at old to ++ held → IsSentTo old to new → line new from to later ≡ line old from to held
took_line old new from to held later stream went sent =
    ap (λ w. output_at new to ++ (later ++ w)) (sent_waiting old new to from stream sent)
    ∙ (sym (append_assoc (output_at new to) later (input_at old from))
    ∙ (ap (λ bs. bs ++ input_at old from) went
    ∙ append_assoc (output_at old to) held (input_at old from)))

-- The line where nothing moved.
pub same_line : (old new : List HandleState) (from to : ℕ) (held later : List ℕ) → new ≡ old → later ≡ held
    → line new from to later ≡ line old from to held
same_line old new from to held later world same = ap (λ w. line w from to later) world ∙ ap (line old from to) same

module _ {I : Type 0} (view : I → IoView) (tells : Bool) where
  -- A call that leaves all leaves a direction.
  pub stays_leaves : (old new : LegacyState I Buf) (from to : ℕ) → Stays view tells old new → LeavesFlow view tells old from to new
  stays_leaves old new from to stays = record {
    later = stays.later;
    users = stays.users;
    ops = λ op held asked. stays.ops op held (any_asked (asked_at (ops_in old) op) (IsElse from to) asked);
    moves = λ t. inl (inl (stays.world t));
  }

  -- A call that leaves all, and then one that is about a direction.
  pub then_leaves : (old mid new : LegacyState I Buf) (from to : ℕ) → Stays view tells old mid → LeavesFlow view tells mid from to new
      → LeavesFlow view tells old from to new
  then_leaves old mid new from to stays leaves = record {
    later = later-then (view old.handling.io) (view mid.handling.io) (view new.handling.io) stays.later leaves.later;
    users = users_then old.handling.table mid.handling.table new.handling.table stays.users leaves.users;
    ops = λ op held asked.
        let same = stays.ops op held (any_asked (asked_at (ops_in old) op) (IsElse from to) asked) in
        leaves.ops op (ap serial_of same ∙ held)
        (subst (λ slot. IfAsked (plain_in slot) (IsElse from to)) (sym same) asked) ∙ same;
    moves = λ t. subst (λ w. MovesBetween w from to (world_of view new)) (stays.world t) (leaves.moves t);
  }

  -- A direction that was stopped as it began.
  pub stopped_flows : (old new : LegacyState I Buf) (room from to : ℕ) (held : List ℕ) (s : Stage) (because : RelayError)
      → Begins view tells old new room from to held s (Some because) → Flows view tells old new room from to held s (came.Stopped because)
  stopped_flows old new room from to held s because begins = record {
    fits = begins.fits;
    leaves = stays_leaves old new from to begins.stays;
    line_is = λ t a b. same_line (world_of view old) (world_of view new) from to held (held_in (ops_in new) s) (begins.stays.world t)
        begins.held_is;
    cause = begins.stops;
    ended = λ t. tt;
  }

  -- One that began, and then was polled.
  pub begun_flows : (old mid new : LegacyState I Buf) (room from to : ℕ) (held : List ℕ) (s now : Stage) (c : Came)
      → Begins view tells old mid room from to held s None → Flows view tells mid new room from to (held_in (ops_in mid) s) now c
      → Flows view tells old new room from to held now c
  begun_flows old mid new room from to held s now c begins flows = record {
    fits = flows.fits;
    leaves = then_leaves old mid new from to begins.stays flows.leaves;
    line_is = λ t a b.
        flows.line_is t (subst (λ w. IsStream w from) (sym (begins.stays.world t)) a)
        (subst (λ w. IsStream w to) (sym (begins.stays.world t)) b)
        ∙ same_line (world_of view old) (world_of view mid) from to held (held_in (ops_in mid) s) (begins.stays.world t) begins.held_is;
    cause = came-later c flows.cause;
    ended = flows.ended;
  }
    where
      came-later : (c : Came) → CameFor (view mid.handling.io) (view new.handling.io) c
          → CameFor (view old.handling.io) (view new.handling.io) c
      came-later came.Goes is = tt
      came-later came.Ended is = tt
      came-later (came.Failed error) is =
          let later = begins.stays.later.fails in omega (arith, is, later)
      came-later (came.Stopped why.Fault) is =
          let later = begins.stays.later.faults in omega (arith, is, later)
      came-later (came.Stopped why.OutOfMemory) is = tt

-- A submission was refused for a reason of the driver.
pub refused_stops : {I : Type 0} (view : I
    → IoView) (memory : Bool) (old new : Handling I) (live : ℕ) (fault : SubmitFault) (because : RelayError)
    → WhyRefused view memory old new live fault → StopsAs fault because → StopsFor (view old.io) (view new.io) because
refused_stops view memory old new live submit.Full because refused is = subst (StopsFor (view old.io) (view new.io)) (sym is) tt
refused_stops view memory old new live submit.RingFault because refused is = absurd refused
refused_stops view memory old new live submit.Busy because refused is = absurd refused
refused_stops view memory old new live (submit.Os code) because refused is =
    subst (StopsFor (view old.io) (view new.io)) (sym is) refused.1
refused_stops view memory old new live submit.OutOfMemory because refused is = subst (StopsFor (view old.io) (view new.io)) (sym is) tt

-- What is asked of a pending operation's request, by what that is.
pub pending_as : (ops : Ops Buf) (op : Op) (P Q : Request Buffer Parts → Type 0)
    → ((request : Request Buffer Parts) → P request → Q request) → IsPending ops op P → IsPending ops op Q
pending_as ops op P Q gives pending = record {
  holds = pending.holds;
  flies = pending.flies;
  asks = by-asked (asked_at ops op) pending.asks;
}
  where
    by-asked : (asked : Option (Request Buffer Parts)) → IfAsked asked P → IfAsked asked Q
    by-asked None is = is
    by-asked (Some request) is = gives request is

-- A receive that was submitted is pending.
pub pending_receive : (ops : Ops Buf) (op : Op) (room from : ℕ) (buf : Buf) → built buf ≡ empty_buffer room → IsLoad room
    → IsPending ops op (λ asked. asked ≡ Recv from (built buf)) → IsPending ops op (IsReceive room from)
pending_receive ops op room from buf is roomy pending =
    pending_as ops op (λ asked. asked ≡ Recv from (built buf)) (IsReceive room from)
    (λ request same. record { request_is = same ∙ ap (Recv from) is; roomy = roomy }) pending

-- So is a send.
pub pending_send : (ops : Ops Buf) (op : Op) (to count : ℕ) (buf : Buf) → length (content_of buf) ≡ count → IsLoad count
    → IsPending ops op (λ asked. asked ≡ Send to (built buf)) → IsPending ops op (IsSend to count)
pending_send ops op to count buf is load pending =
    pending_as ops op (λ asked. asked ≡ Send to (built buf)) (IsSend to count)
    (λ request same. record { buf = built buf; request_is = same; count_is = is; load = load }) pending

-- The bytes that a pending send has.
pub pending_bytes : (ops : Ops Buf) (op : Op) (to : ℕ) (buf : Buf) → IsPending ops op (λ asked. asked ≡ Send to (built buf))
    → bytes_sent (asked_at ops op) ≡ content_of buf
pending_bytes ops op to buf pending = by-asked (asked_at ops op) pending.asks
  where
    by-asked : (asked : Option (Request Buffer Parts)) → IfAsked asked (λ request. request ≡ Send to (built buf))
        → bytes_sent asked ≡ content_of buf
    by-asked None is = absurd is
    by-asked (Some request) is = ap send_bytes is

-- How many bytes a pending send has.
pub pending_count : (ops : Ops Buf) (op : Op) (to count : ℕ) → IsPending ops op (IsSend to count)
    → length (bytes_sent (asked_at ops op)) ≡ count
pending_count ops op to count pending = by-asked (asked_at ops op) pending.asks
  where
    by-asked : (asked : Option (Request Buffer Parts)) → IfAsked asked (IsSend to count) → length (bytes_sent asked) ≡ count
    by-asked None is = absurd is
    by-asked (Some request) is = ap (λ r. length (send_bytes r)) is.request_is ∙ is.count_is

-- Where nothing is called all stays.
pub none_stays : {I : Type 0} (view : I → IoView) (tells : Bool) (driver : LegacyState I Buf) → Stays view tells driver driver
none_stays view tells driver = record {
  later = later-same (view driver.handling.io);
  users = λ h held. held;
  ops = λ op held asked. refl;
  world = λ t. refl;
}

-- A direction that submits nothing, and one that polls nothing.
pub still_begins : {I : Type 0} (view : I → IoView) (tells : Bool) (driver : LegacyState I Buf) (room from to : ℕ) (s : Stage)
    → FitsStage room (ops_in driver) from to s → Begins view tells driver driver room from to (held_in (ops_in driver) s) s None
still_begins view tells driver room from to s fits = record {
  fits = fits;
  stays = none_stays view tells driver;
  held_is = refl;
  stops = tt;
}

-- A direction that does nothing flows on as it was.
pub still_flows : {I : Type 0} (view : I → IoView) (tells : Bool) (driver : LegacyState I Buf) (room from to : ℕ) (s : Stage)
    → FitsStage room (ops_in driver) from to s → Flows view tells driver driver room from to (held_in (ops_in driver) s) s came.Goes
still_flows view tells driver room from to s fits = record {
  fits = fits;
  leaves = stays_leaves view tells driver driver from to (none_stays view tells driver);
  line_is = λ t a b. refl;
  cause = tt;
  ended = λ t. tt;
}

-- What a count of a receive leaves of the line.
counts_flow : (old new : IoView) (tells : Bool) (from to k : ℕ) (bytes : List ℕ) (s : Stage) (c : Came) → length bytes ≡ k
    → (IsTrue tells → (bytes ++ input_at new.world from ≡ input_at old.world from) × IsTaken old.world from new.world
    × (k ≡ 0 → HasEnded new.world from)) → CountsAs k bytes s c
    → (held : List ℕ) × (HoldsJust s held × (IsTrue tells → line new.world from to held ≡ line old.world from to [])
    × (IsTrue tells → MovesBetween old.world from to new.world) × CameFor old new c × (IsTrue tells → EndsAt new.world from c))
counts_flow old new tells from to zero bytes s c size brings is =
    let none : bytes ≡ [] = no_bytes bytes size in (
      [],
      (
        is.0,
        λ t. brought_line old.world new.world from to [] (ap (λ bs. bs ++ input_at new.world from) (sym none) ∙ (brings t).0)
            (brings t).1,
        λ t. inl (brings t).1,
        subst (CameFor old new) (sym is.1) tt,
        λ t. subst (EndsAt new.world from) (sym is.1) ((brings t).2 refl),
      ),
    )
  where
    no_bytes : (bytes : List ℕ) → length bytes ≡ 0 → bytes ≡ []
    no_bytes [] none = refl
    no_bytes (b ∷ bytes) none = absurd cc
counts_flow old new tells from to (suc k) bytes s c size brings is = (
  bytes,
  (
    is.0,
    λ t. brought_line old.world new.world from to bytes (brings t).0 (brings t).1,
    λ t. inl (brings t).1,
    subst (CameFor old new) (sym is.1) tt,
    λ t. subst (EndsAt new.world from) (sym is.1) tt,
  ),
)

-- What a receive's bytes leave, by its outcome.
pub brings_flow : (old new : IoView) (tells : Bool) (from to : ℕ) (outcome : Outcome) (bytes : List ℕ) (s : Stage) (c : Came)
    → Brings old new tells from outcome bytes → ReceivedAs outcome bytes s c
    → (held : List ℕ) × (HoldsJust s held × (IsTrue tells → line new.world from to held ≡ line old.world from to [])
    × (IsTrue tells → MovesBetween old.world from to new.world) × CameFor old new c × (IsTrue tells → EndsAt new.world from c))
brings_flow old new tells from to (Count k) bytes s c brings is = counts_flow old new tells from to k bytes s c brings.0 brings.2 is
brings_flow old new tells from to (From k addr) bytes s c brings is = counts_flow old new tells from to k bytes s c brings.0 brings.2 is
brings_flow old new tells from to (Made h) bytes s c brings is = absurd brings
brings_flow old new tells from to (Fail error) bytes s c brings is = (
  [],
  (
    is.0,
    λ t. same_line old.world new.world from to [] [] (brings.1 t) refl,
    λ t. inl (inl (brings.1 t)),
    subst (CameFor old new) (sym is.1) brings.0,
    λ t. subst (EndsAt new.world from) (sym is.1) tt,
  ),
)

-- What a send's bytes leave, by its outcome.
pub takes_flow : (old new : IoView) (tells : Bool) (from to : ℕ) (outcome : Outcome) (bytes : List ℕ) (s : Stage) (c : Came)
    → Takes old new tells to outcome bytes → SentAs outcome bytes s c
    → (held : List ℕ) × (HoldsJust s held
    × (IsTrue tells → IsStream old.world to → line new.world from to held ≡ line old.world from to bytes)
    × (IsTrue tells → MovesBetween old.world from to new.world) × CameFor old new c × EndsAt new.world from c)
takes_flow old new tells from to (Count k) bytes s c takes is = (
  drop k bytes,
  (
    is.0,
    λ t stream. took_line old.world new.world from to bytes (drop k bytes) stream ((takes t).0 stream) (takes t).1,
    λ t. inr (takes t).1,
    subst (CameFor old new) (sym is.1) tt,
    subst (EndsAt new.world from) (sym is.1) tt,
  ),
)
takes_flow old new tells from to (From k addr) bytes s c takes is = (
  drop k bytes,
  (
    is.0,
    λ t stream. took_line old.world new.world from to bytes (drop k bytes) stream ((takes t).0 stream) (takes t).1,
    λ t. inr (takes t).1,
    subst (CameFor old new) (sym is.1) tt,
    subst (EndsAt new.world from) (sym is.1) tt,
  ),
)
takes_flow old new tells from to (Made h) bytes s c takes is = absurd takes
takes_flow old new tells from to (Fail error) bytes s c takes is = (
  bytes,
  (
    is.0,
    λ t stream. same_line old.world new.world from to bytes bytes (takes.1 t) refl,
    λ t. inl (inl (takes.1 t)),
    subst (CameFor old new) (sym is.1) takes.0,
    subst (EndsAt new.world from) (sym is.1) tt,
  ),
)
