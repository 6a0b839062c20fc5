-- What the steps of a connection leave of its bytes, and of all else.
use Rattle.std.proofs.Common.{ℕ, ◌≡◌, ◌≢◌, ◌∙◌, ap, sym, refl, subst, arith, Bool, IsTrue, true, List, [], ◌∷◌, ◌++◌}
use Rattle.std.proofs.Common.{Option, Some, None, inl, inr}
use Rattle.std.specs.Prelude.{◌&&◌, option_map, unwrap_or}
use Rattle.std.specs.FinMap as map
use Rattle.rent_buf.specs.Buffer.{Buffer}
use Rattle.rent_buf.specs.Parts.{Parts}
use Rattle.rent_buf.specs.declared.plain.Buf.{Buf}
use Rattle.handle_core.specs.Table.{Table, holders_at, without_user}
use Rattle.machine.specs.Effect.{with_sent}
use Rattle.machine.specs.World.{input_at}
use Rattle.machine.specs.declared.request.Request.{Request}
use Rattle.machine.specs.declared.world.HandleState.{HandleState}
use Rattle.machine.proofs.Amended.{get-amended-other}
use Rattle.machine.proofs.Numbers.{same-or-not}
use Rattle.driver_core.specs.Holds.{is_nobody, settled}
use Rattle.driver_core.specs.Ops.{Ops}
use Rattle.driver_core.specs.Slot.{serial_of}
use Rattle.ready_driver.specs.Io.{IoView, IsLater}
use Rattle.ready_driver.specs.LegacyState.{LegacyState, SameOps, holds_all, ops_in}
use Rattle.ready_driver.specs.Registry.{LetsGo, is_users, unheld_if}
use Rattle.ready_driver.proofs.Still.{later-then, later-same}
use Rattle.net_stream.specs.Told.{IsSentTo, IsStream, output_at}
use Rattle.net_stream.proofs.Handles.{sent_others, sent_stream, sent_waiting, taken_others, taken_sent, taken_stream}
use Rattle.relay_net.specs.Connection.{FitsBack, FitsConnection, FollowsAs, IsOutside, KeepsElsewhere, KeepsLines}
use Rattle.relay_net.specs.Connection.{KeepsStreams, LeavesConnection, ServedFor, Serves, StaysIdle, far_of, held_back, held_by, held_forth}
use Rattle.relay_net.specs.Connection.{EndsConnection, IsGoing, IsOverIf, Releases, near_of}
use Rattle.relay_net.specs.Flow.{FitsStage, IfAsked, IsElse, IsReceive, IsSend, asked_at, bytes_sent, held_in, line}
use Rattle.relay_net.specs.Keeping.{AnyRequest, CameFor, KeepsOps, LeavesFlow, MovesBetween, world_of}
use Rattle.relay_net.specs.Outcomes.{IsIdle}
use Rattle.relay_net.specs.Steps.{Abandons, Flows}
use Rattle.relay_net.specs.declared.connection.Connection.{Connection}
use Rattle.relay_net.specs.declared.connection.Served.{Served}
use Rattle.relay_net.specs.declared.connection.Served.TheVariants as served
use Rattle.relay_net.specs.declared.flow.Came.{Came}
use Rattle.relay_net.specs.declared.flow.Came.TheVariants as came
use Rattle.relay_net.specs.declared.flow.Flow.{Flow}
use Rattle.relay_net.specs.declared.flow.Stage.{Stage}
use Rattle.relay_net.specs.declared.flow.Stage.TheVariants as stage
use Rattle.relay_net.specs.declared.round.RelayError.TheVariants as why
use Rattle.relay_net.proofs.Going.{moves_going, moves_listens}
use Rattle.relay_net.proofs.Marks.{follows_marks, moves_ended, streams_then}
use Rattle.relay_net.proofs.Calls.{pending_kept, plain_in, released_users, users_then}

-- A handle that the user holds may be named.
pub users_held : (table : Table) (h : ℕ) → is_users table h ≡ true → IsTrue (holds_all table (h ∷ []))
users_held table h held = ap (λ b. b && true) held

-- What is known of a request gives what follows from it.
pub asked_as : (asked : Option (Request Buffer Parts)) (P Q : Request Buffer Parts → Type 0)
    → ((request : Request Buffer Parts) → P request → Q request) → IfAsked asked P → IfAsked asked Q
asked_as None P Q gives is = is
asked_as (Some request) P Q gives is = gives request is

-- A receive from another handle is none of a direction, and so is a send to another.
pub receive_else : (room x from to : ℕ) → x ≢ from → (request : Request Buffer Parts) → IsReceive room x request → IsElse from to request
receive_else room x from to apart request is = subst (IsElse from to) (sym is.request_is) apart

-- Nor is a send to a handle that is neither.
pub send_else : (y from to : ℕ) → y ≢ to → (count : ℕ) (request : Request Buffer Parts) → IsSend y count request → IsElse from to request
send_else y from to apart count request is = subst (IsElse from to) (sym is.request_is) apart

-- A direction whose operation is kept waits for what it waited for, and holds what it held.
pub stage_kept : (room : ℕ) (old new : Ops Buf) (Q : Request Buffer Parts → Type 0) (x y : ℕ) (s : Stage) → KeepsOps Q old new
    → ((request : Request Buffer Parts) → IsReceive room x request → Q request)
    → ((count : ℕ) (request : Request Buffer Parts) → IsSend y count request → Q request) → FitsStage room old x y s
    → FitsStage room new x y s × (held_in new s ≡ held_in old s)
stage_kept room old new Q x y (stage.Idle spare) keeps receives sends fits = (tt, refl)
stage_kept room old new Q x y (stage.Receiving op) keeps receives sends fits =
    let same = keeps op fits.holds (asked_as (asked_at old op) (IsReceive room x) Q receives fits.asks) in
    (pending_kept old new op (IsReceive room x) same fits, refl)
stage_kept room old new Q x y (stage.Held buf) keeps receives sends fits = (fits, refl)
stage_kept room old new Q x y (stage.Sending op count) keeps receives sends fits =
    let same = keeps op fits.holds (asked_as (asked_at old op) (IsSend y count) Q (sends count) fits.asks) in
    (pending_kept old new op (IsSend y count) same fits, ap (λ slot. bytes_sent (plain_in slot)) same)

-- Operations that are kept by one call and then by another.
pub ops_then : (old mid new : Ops Buf) (Q : Request Buffer Parts → Type 0) → KeepsOps Q old mid → KeepsOps Q mid new → KeepsOps Q old new
ops_then old mid new Q first second op held asked =
    let same = first op held asked in
    second op (ap serial_of same ∙ held) (subst (λ slot. IfAsked (plain_in slot) Q) (sym same) asked) ∙ same

-- Those that more are kept of.
pub ops_fewer : (old new : Ops Buf) (P Q : Request Buffer Parts → Type 0) → ((request : Request Buffer Parts) → Q request → P request)
    → KeepsOps P old new → KeepsOps Q old new
ops_fewer old new P Q gives keeps op held asked = keeps op held (asked_as (asked_at old op) Q P gives asked)

-- The other direction between two handles has the bytes on their way that it had.
other_line : (old new : List HandleState) (near far : ℕ) (held : List ℕ) → near ≢ far → IsStream old far
    → MovesBetween old near far new → line new far near held ≡ line old far near held
other_line old new near far held apart stream (inl taken) =
    ap (λ o. o ++ (held ++ input_at new far)) (taken_sent old new near near taken)
    ∙ ap (λ w. output_at old near ++ (held ++ w)) (taken_others old new near far (λ same. apart (sym same)) taken)
other_line old new near far held apart stream (inr sent) =
    ap (λ o. o ++ (held ++ input_at new far)) (sent_others old new far near apart sent)
    ∙ ap (λ w. output_at old near ++ (held ++ w)) (sent_waiting old new far far stream sent)

-- Where bytes were sent to one handle, the input of every other is what it was.
sent_inputs : (old new : List HandleState) (h g : ℕ) → g ≢ h → IsSentTo old h new → input_at new g ≡ input_at old g
sent_inputs old new h g other (inl same) = ap (λ ws. input_at ws g) same
sent_inputs old new h g other (inr sent) =
    ap (λ ws. input_at ws g) sent.1
    ∙ ap (λ found. unwrap_or (option_map (λ handle. handle.input) found) []) (get-amended-other (with_sent sent.0) old h g other)

-- What moves between two handles leaves every other one, and streams stay streams.
moves_elsewhere : (old new : List HandleState) (near far : ℕ) → MovesBetween old near far new → KeepsElsewhere old near far new
moves_elsewhere old new near far (inl taken) h first second =
    (taken_sent old new near h taken, taken_others old new near h first taken)
moves_elsewhere old new near far (inr sent) h first second =
    (sent_others old new far h second sent, sent_inputs old new far h second sent)

-- What moves between two handles keeps what each handle is.
moves_streams : (old new : List HandleState) (near far : ℕ) → MovesBetween old near far new → KeepsStreams old new
moves_streams old new near far (inl taken) h =
    let moves : MovesBetween old near far new = inl taken in (
      λ stream. taken_stream old new near h taken stream,
      moves_ended old new near far moves h,
      moves_listens old new near far moves h,
      moves_going old new near far moves h,
    )
moves_streams old new near far (inr sent) h =
    let moves : MovesBetween old near far new = inr sent in (
      λ stream. sent_stream old new far h sent stream,
      moves_ended old new near far moves h,
      moves_listens old new near far moves h,
      moves_going old new near far moves h,
    )

-- What follows from what a direction came to.
follows_cause : (old new : IoView) (c : Came) (before now : Bool) (answer : Served) → CameFor old new c → FollowsAs c before now answer
    → ServedFor old new answer
follows_cause old new came.Goes before now answer cause is = subst (ServedFor old new) (sym is.1) tt
follows_cause old new came.Ended before now answer cause is = subst (ServedFor old new) (sym is.1) tt
follows_cause old new (came.Failed error) before now answer cause is = subst (ServedFor old new) (sym is.1) cause
follows_cause old new (came.Stopped because) before now answer cause is = subst (ServedFor old new) (sym is.1) cause

-- The end that was marked is marked still.
follows_end : (c : Came) (before now : Bool) (answer : Served) → FollowsAs c before now answer → before ≡ true → now ≡ true
follows_end came.Goes before now answer is marked = is.0 ∙ marked
follows_end came.Ended before now answer is marked = is.0
follows_end (came.Failed error) before now answer is marked = is.0 ∙ marked
follows_end (came.Stopped because) before now answer is marked = is.0 ∙ marked

-- A direction that isn't stepped stays idle.
idle_same : (flow : Option Flow) → StaysIdle flow flow
idle_same None = tt
idle_same (Some flow) = λ idle. idle

-- One step that leaves an idle direction idle follows another.
idle_then : (before between now : Option Flow) → StaysIdle before between → StaysIdle between now → StaysIdle before now
idle_then None None None first second = tt
idle_then None None (Some now) first second = second
idle_then None (Some between) now first second = absurd first
idle_then (Some before) None now first second = absurd first
idle_then (Some before) (Some between) None first second = second
idle_then (Some before) (Some between) (Some now) first second = λ idle. second (first idle)

-- The other direction goes on, where what it waits for is kept.
pub back_kept : (room : ℕ) (old new : Ops Buf) (near far : ℕ) (back : Option Flow) → KeepsOps (IsElse near far) old new
    → FitsBack room old near far back → FitsBack room new near far back × (held_by new back ≡ held_by old back)
back_kept room old new near far None keeps fits = (fits, refl)
back_kept room old new near far (Some flow) keeps fits =
    let kept = stage_kept room old new (IsElse near far) far near flow.stage keeps
    (receive_else room far near far (λ same. fits.0 (sym same))) (send_else near near far fits.0) fits.3 in
    ((fits.0, fits.1, fits.2, kept.0), kept.1)

module _ {I : Type 0} (view : I → IoView) (tells : Bool) where
  -- A step of a direction between two handles is about their connection alone.
  forth_leaves : (old new : LegacyState I Buf) (near far : ℕ) → LeavesFlow view tells old near far new
      → LeavesConnection view tells old near far new
  forth_leaves old new near far leaves = record {
    later = leaves.later;
    users = leaves.users;
    ops = ops_fewer (ops_in old) (ops_in new) (IsElse near far) (IsOutside near far) (λ request out. out.0) leaves.ops;
    elsewhere = λ t. moves_elsewhere (world_of view old) (world_of view new) near far (leaves.moves t);
    streams = λ t. moves_streams (world_of view old) (world_of view new) near far (leaves.moves t);
  }

  back_leaves : (old new : LegacyState I Buf) (near far : ℕ) → LeavesFlow view tells old far near new
      → LeavesConnection view tells old near far new
  back_leaves old new near far leaves = record {
    later = leaves.later;
    users = leaves.users;
    ops = ops_fewer (ops_in old) (ops_in new) (IsElse far near) (IsOutside near far) (λ request out. out.1) leaves.ops;
    elsewhere = λ t h first second.
        moves_elsewhere (world_of view old) (world_of view new) far near (leaves.moves t) h second first;
    streams = λ t. moves_streams (world_of view old) (world_of view new) far near (leaves.moves t);
  }

  -- What a step from the near handle to the far one leaves.
  pub forth_serves : (old new : LegacyState I Buf) (before : Connection) (flow : Flow) (ending : Bool) (c : Came) (answer : Served)
      → flow.from ≡ near_of before → flow.to ≡ far_of before → FitsConnection (ops_in old) before
      → Flows view tells old new before.room (near_of before) (far_of before) (held_forth (ops_in old) before) flow.stage c
      → FollowsAs c before.ending ending answer → (before.ending ≡ true → IsIdle before.forth.stage → IsIdle flow.stage)
      → Serves view tells old new before (record { forth = flow; back = before.back; ending = ending; room = before.room }) answer
  forth_serves old new before flow ending c answer from to fits flows follows quiet =
      let near = near_of before in
      let far = far_of before in
      let kept = back_kept before.room (ops_in old) (ops_in new) near far before.back flows.leaves.ops fits.1 in
      record {
        near = from;
        far = to;
        room = refl;
        fits = (
          subst (λ h. FitsStage before.room (ops_in new) h flow.to flow.stage) (sym from)
              (subst (λ h. FitsStage before.room (ops_in new) near h flow.stage) (sym to) flows.fits),
          subst (λ h. FitsBack before.room (ops_in new) h flow.to before.back) (sym from)
              (subst (λ h. FitsBack before.room (ops_in new) near h before.back) (sym to) kept.0),
        );
        leaves = forth_leaves old new near far flows.leaves;
        lines = record {
          forth_line = flows.line_is;
          back_line = λ t apart a b. ap (line (world_of view new) far near) kept.1
              ∙ other_line (world_of view old) (world_of view new) near far (held_by (ops_in old) before.back) apart b
              (flows.leaves.moves t);
        };
        cause = follows_cause (view old.handling.io) (view new.handling.io) c before.ending ending answer flows.cause follows;
        ends = record {
          ending = follows_end c before.ending ending answer follows;
          forth_idle = quiet;
          back_idle = λ marked. idle_same before.back;
        };
        marks = λ t. follows_marks (world_of view old) (world_of view new) c before
            (record { forth = flow; back = before.back; ending = ending; room = before.room }) answer near follows from to
            (moves_streams (world_of view old) (world_of view new) near far (flows.leaves.moves t)) (flows.ended t) (inl refl);
      }

  -- What a step the other way leaves.
  pub back_serves : (old new : LegacyState I Buf) (before : Connection) (was flow : Flow) (ending : Bool) (c : Came) (answer : Served)
      → before.back ≡ Some was → flow.from ≡ was.from → flow.to ≡ was.to → FitsConnection (ops_in old) before
      → Flows view tells old new before.room was.from was.to (held_in (ops_in old) was.stage) flow.stage c
      → FollowsAs c before.ending ending answer → (before.ending ≡ true → IsIdle was.stage → IsIdle flow.stage)
      → Serves view tells old new before (record { forth = before.forth; back = Some flow; ending = ending; room = before.room }) answer
  back_serves old new before was flow ending c answer there from to fits flowing follows quiet =
      let near = near_of before in
      let far = far_of before in
      let back = subst (FitsBack before.room (ops_in old) near far) there fits.1 in
      let flows : Flows view tells old new before.room far near (held_in (ops_in old) was.stage) flow.stage c =
      subst (λ h. Flows view tells old new before.room h near (held_in (ops_in old) was.stage) flow.stage c) back.1
      (subst (λ h. Flows view tells old new before.room was.from h (held_in (ops_in old) was.stage) flow.stage c) back.2 flowing) in
      let kept = stage_kept before.room (ops_in old) (ops_in new) (IsElse far near) near far before.forth.stage flows.leaves.ops
      (receive_else before.room near far near back.0) (send_else far far near (λ same. back.0 (sym same))) fits.0 in
      record {
        near = refl;
        far = refl;
        room = refl;
        fits = (kept.0, (back.0, from ∙ back.1, to ∙ back.2, flows.fits));
        leaves = back_leaves old new near far flows.leaves;
        lines = record {
          forth_line = λ t a b. ap (line (world_of view new) near far) kept.1
              ∙ other_line (world_of view old) (world_of view new) far near (held_in (ops_in old) before.forth.stage)
              (λ same. back.0 (sym same)) a (flows.leaves.moves t);
          back_line = λ t apart a b. flows.line_is t b a ∙ ap (λ f. line (world_of view old) far near (held_by (ops_in old) f)) (sym there);
        };
        cause = follows_cause (view old.handling.io) (view new.handling.io) c before.ending ending answer flows.cause follows;
        ends = record {
          ending = follows_end c before.ending ending answer follows;
          forth_idle = λ marked idle. idle;
          back_idle = λ marked. subst (λ b. StaysIdle b (Some flow)) (sym there) (quiet marked);
        };
        marks = λ t. follows_marks (world_of view old) (world_of view new) c before
            (record { forth = before.forth; back = Some flow; ending = ending; room = before.room }) answer far follows refl refl
            (moves_streams (world_of view old) (world_of view new) far near (flows.leaves.moves t)) (flows.ended t) (inr refl);
      }

  -- Where there is none all stays.
  pub none_serves : (driver : LegacyState I Buf) (conn : Connection) → FitsConnection (ops_in driver) conn
      → Serves view tells driver driver conn conn served.Open
  none_serves driver conn fits = record {
    near = refl;
    far = refl;
    room = refl;
    fits = fits;
    leaves = record {
      later = later-same (view driver.handling.io);
      users = λ h held. held;
      ops = λ op held asked. refl;
      elsewhere = λ t h first second. (refl, refl);
      streams = λ t h. (λ stream. stream, λ ended. ended, λ listens. listens, λ going. going);
    };
    lines = record { forth_line = λ t a b. refl; back_line = λ t apart a b. refl };
    cause = tt;
    ends = record { ending = λ marked. marked; forth_idle = λ marked idle. idle; back_idle = λ marked. idle_same conn.back };
    marks = λ t marked. marked;
  }

  -- One call about a connection, and then another.
  pub leaves_then : (old mid new : LegacyState I Buf) (near far : ℕ) → LeavesConnection view tells old near far mid
      → LeavesConnection view tells mid near far new → LeavesConnection view tells old near far new
  leaves_then old mid new near far first second = record {
    later = later-then (view old.handling.io) (view mid.handling.io) (view new.handling.io) first.later second.later;
    users = users_then old.handling.table mid.handling.table new.handling.table first.users second.users;
    ops = ops_then (ops_in old) (ops_in mid) (ops_in new) (IsOutside near far) first.ops second.ops;
    elsewhere = λ t h a b. (
      (second.elsewhere t h a b).0 ∙ (first.elsewhere t h a b).0,
      (second.elsewhere t h a b).1 ∙ (first.elsewhere t h a b).1,
    );
    streams = λ t. streams_then (world_of view old) (world_of view mid) (world_of view new) (first.streams t) (second.streams t);
  }

  -- A cause behind an earlier call is one behind both.
  cause_later : (old mid new : IoView) (answer : Served) → IsLater old mid → ServedFor mid new answer → ServedFor old new answer
  cause_later old mid new served.Open later cause = tt
  cause_later old mid new served.Closed later cause = tt
  cause_later old mid new (served.Failed error) later cause = let more = later.fails in omega (arith, cause, more)
  cause_later old mid new (served.Stopped why.Fault) later cause = let more = later.faults in omega (arith, cause, more)
  cause_later old mid new (served.Stopped why.OutOfMemory) later cause = tt

  -- One step of a connection, and then another.
  pub serves_then : (old mid new : LegacyState I Buf) (before between now : Connection) (answer : Served)
      → Serves view tells old mid before between served.Open → Serves view tells mid new between now answer
      → Serves view tells old new before now answer
  serves_then old mid new before between now answer first second =
      let near = near_of before in
      let far = far_of before in
      let leaves : LeavesConnection view tells mid near far new =
      subst (λ h. LeavesConnection view tells mid h far new) first.near
      (subst (λ h. LeavesConnection view tells mid (near_of between) h new) first.far second.leaves) in
      let lines : KeepsLines tells (world_of view mid) (world_of view new) near far (held_forth (ops_in mid) between)
      (held_back (ops_in mid) between) (held_forth (ops_in new) now) (held_back (ops_in new) now) =
      subst (λ h. KeepsLines tells (world_of view mid) (world_of view new) h far (held_forth (ops_in mid) between)
      (held_back (ops_in mid) between) (held_forth (ops_in new) now) (held_back (ops_in new) now)) first.near
      (subst (λ h. KeepsLines tells (world_of view mid) (world_of view new) (near_of between) h (held_forth (ops_in mid) between)
      (held_back (ops_in mid) between) (held_forth (ops_in new) now) (held_back (ops_in new) now)) first.far second.lines) in
      record {
        near = second.near ∙ first.near;
        far = second.far ∙ first.far;
        room = second.room ∙ first.room;
        fits = second.fits;
        leaves = leaves_then old mid new near far first.leaves leaves;
        lines = record {
          forth_line = λ t a b. lines.forth_line t ((first.leaves.streams t near).0 a) ((first.leaves.streams t far).0 b)
              ∙ first.lines.forth_line t a b;
          back_line = λ t apart a b. lines.back_line t apart ((first.leaves.streams t near).0 a) ((first.leaves.streams t far).0 b)
              ∙ first.lines.back_line t apart a b;
        };
        cause = cause_later (view old.handling.io) (view mid.handling.io) (view new.handling.io) answer first.leaves.later second.cause;
        ends = record {
          ending = λ marked. second.ends.ending (first.ends.ending marked);
          forth_idle = λ marked idle. second.ends.forth_idle (first.ends.ending marked) (first.ends.forth_idle marked idle);
          back_idle = λ marked. idle_then before.back between.back now.back (first.ends.back_idle marked)
              (second.ends.back_idle (first.ends.ending marked));
        };
        marks = λ t marked. second.marks t (first.marks t marked);
      }

  -- A connection that goes on is over all the same.
  pub serves_closed : (old new : LegacyState I Buf) (before now : Connection) → Serves view tells old new before now served.Open
      → Serves view tells old new before now served.Closed
  serves_closed old new before now serves = record {
    near = serves.near;
    far = serves.far;
    room = serves.room;
    fits = serves.fits;
    leaves = serves.leaves;
    lines = serves.lines;
    cause = tt;
    ends = serves.ends;
    marks = serves.marks;
  }

  -- A handle that was given up.
  pub released_releases : (memory : Bool) (old new : LegacyState I Buf) (fd : ℕ)
      → LetsGo view tells memory old.handling (settled old.handling.table fd (without_user (holders_at old.handling.table fd)))
      (unheld_if (is_nobody (without_user (holders_at old.handling.table fd))) fd) new.handling
      → SameOps old new → Releases view tells old fd new
  released_releases memory old new fd lets rest = record {
    later = lets.object.later;
    users = λ h other held. subst (λ t. is_users t h ≡ true) (sym lets.holders) (released_users old.handling.table fd h other held);
    ops = λ op held asked. ap (λ m. map.get m op.key) rest.slots;
    world = lets.object.world;
    made = lets.object.made;
  }

  -- What was dropped, and what was given up, as a part of a connection's end.
  pub abandons_ends : (old new : LegacyState I Buf) (near far : ℕ) → Abandons view tells old near far new
      → EndsConnection view tells old near far new
  abandons_ends old new near far drops = record {
    later = drops.later;
    users = λ h a b held. drops.users h held;
    ops = ops_fewer (ops_in old) (ops_in new) (IsElse near far) (IsOutside near far) (λ request out. out.0) drops.ops;
    world = drops.world;
    made = drops.made;
  }

  pub abandons_back : (old new : LegacyState I Buf) (near far : ℕ) → Abandons view tells old far near new
      → EndsConnection view tells old near far new
  abandons_back old new near far drops = record {
    later = drops.later;
    users = λ h a b held. drops.users h held;
    ops = ops_fewer (ops_in old) (ops_in new) (IsElse far near) (IsOutside near far) (λ request out. out.1) drops.ops;
    world = drops.world;
    made = drops.made;
  }

  pub releases_near : (old new : LegacyState I Buf) (near far : ℕ) → Releases view tells old near new
      → EndsConnection view tells old near far new
  releases_near old new near far releases = record {
    later = releases.later;
    users = λ h a b held. releases.users h a held;
    ops = ops_fewer (ops_in old) (ops_in new) AnyRequest (IsOutside near far) (λ request out. tt) releases.ops;
    world = releases.world;
    made = releases.made;
  }

  pub releases_far : (old new : LegacyState I Buf) (near far : ℕ) → Releases view tells old far new
      → EndsConnection view tells old near far new
  releases_far old new near far releases = record {
    later = releases.later;
    users = λ h a b held. releases.users h b held;
    ops = ops_fewer (ops_in old) (ops_in new) AnyRequest (IsOutside near far) (λ request out. tt) releases.ops;
    world = releases.world;
    made = releases.made;
  }

  pub ends_then : (old mid new : LegacyState I Buf) (near far : ℕ) → EndsConnection view tells old near far mid
      → EndsConnection view tells mid near far new → EndsConnection view tells old near far new
  ends_then old mid new near far first second = record {
    later = later-then (view old.handling.io) (view mid.handling.io) (view new.handling.io) first.later second.later;
    users = λ h a b held. second.users h a b (first.users h a b held);
    ops = ops_then (ops_in old) (ops_in mid) (ops_in new) (IsOutside near far) first.ops second.ops;
    world = λ t. second.world t ∙ first.world t;
    made = second.made ∙ first.made;
  }

  pub none_ends : (driver : LegacyState I Buf) (near far : ℕ) → EndsConnection view tells driver near far driver
  none_ends driver near far = record {
    later = later-same (view driver.handling.io);
    users = λ h a b held. held;
    ops = λ op held asked. refl;
    world = λ t. refl;
    made = refl;
  }

  -- The near handle is the user's still behind the end of the other direction.
  pub near_held : (old new : LegacyState I Buf) (near far : ℕ)
      → (near ≢ far → is_users old.handling.table near ≡ true → is_users new.handling.table near ≡ true) → (near ≡ far → new ≡ old)
      → is_users old.handling.table near ≡ true → is_users new.handling.table near ≡ true
  near_held old new near far apart same held = elim (same-or-not near far) [
    | inl e ↦ ap (λ d. is_users d.handling.table near) (same e) ∙ held
    | inr e ↦ apart e held
  ]

-- A step that closes none is over for none.
pub going_over : (ops : Ops Buf) (conn : Connection) (answer : Served) → IsGoing answer → IsOverIf ops conn answer
going_over ops conn served.Open going = tt
going_over ops conn served.Closed going = absurd going
going_over ops conn (served.Failed error) going = tt
going_over ops conn (served.Stopped because) going = tt
