-- What the outcome of a transfer does to a direction.
use Rattle.std.proofs.Common.{ℕ, ◌≡◌, ◌∙◌, ap, sym, refl, subst, Bool, []}
use Rattle.std.proofs.Common.{Ok, Err, inl}
use Rattle.rent_buf.specs.Buf.{built, content_of}
use Rattle.rent_buf.specs.Buffer.{Buffer, shown}
use Rattle.rent_buf.specs.Parts.{Parts}
use Rattle.rent_buf.specs.declared.plain.Buf.{Buf}
use Rattle.rent_buf.specs.declared.fault.OutOfMemory.{OutOfMemory as NoMemory}
use Rattle.machine.specs.declared.request.Request.{Request}
use Rattle.machine.specs.declared.request.Request.TheVariants.{Recv, Send}
use Rattle.machine.specs.Request.{plain_request}
use Rattle.std.specs.FinMap as map
use Rattle.driver_core.proofs.Maps.{gone-other}
use Rattle.driver_core.specs.Holds.{named_in}
use Rattle.driver_core.specs.Op.{KeepsTokens, PollsTokens}
use Rattle.driver_core.specs.declared.op.Done.{Done as Ended}
use Rattle.driver_core.specs.declared.op.Op.{Op}
use Rattle.driver_core.specs.declared.op.PollOp.{PollOp}
use Rattle.driver_core.specs.declared.op.PollOp.TheVariants.{Pending, Ready}
use Rattle.ready_driver.specs.Calling.{Called}
use Rattle.ready_driver.specs.Io.{IoView}
use Rattle.ready_driver.specs.LegacyState.{LegacyState, ops_in}
use Rattle.ready_driver.proofs.Still.{later-same}
use Rattle.op_driver.specs.Legacy.{LegacyDrops, LegacyPolls}
use Rattle.relay_net.specs.Flow.{IsElse, IsPending, IsReceive, IsSend, asked_at, bytes_sent}
use Rattle.relay_net.specs.Flow.{line}
use Rattle.relay_net.specs.Keeping.{KeepsUsers, world_of}
use Rattle.relay_net.specs.Outcomes.{ReceivedAs, SentAs}
use Rattle.relay_net.specs.Steps.{Abandons, Flows}
use Rattle.relay_net.specs.declared.flow.Came.{Came}
use Rattle.relay_net.specs.declared.flow.Came.TheVariants as came
use Rattle.relay_net.specs.declared.flow.Stage.{Stage}
use Rattle.relay_net.specs.declared.flow.Stage.TheVariants as stage
use Rattle.relay_net.specs.declared.round.RelayError.TheVariants as why
use Rattle.relay_net.proofs.Calls.{Lawful, left_users}
use Rattle.relay_net.proofs.Polls.{other_key, pending_pends, pending_waits, polled_others, starved_pends, starved_waits}
use Rattle.relay_net.proofs.Moves.{Brings, Takes, received, sent}
use Rattle.relay_net.proofs.Flows.{brings_flow, just_fits, just_holds, receive_apart, same_line, send_apart, takes_flow}

module _ {I : Type 0} (view : I → IoView) (tells memory : Bool) (files : I → ℕ → Bool) (called : Called I)
    (law : Lawful view tells memory called) where
  -- A receive that waits on.
  pub receive_pending : (old new : LegacyState I Buf) (op : Op) (task room from to : ℕ)
      → LegacyPolls files built called view tells memory old new op task (Ok (Pending op)) → KeepsTokens (ops_in old) (ops_in new)
      → IsPending (ops_in old) op (IsReceive room from) → Flows view tells old new room from to [] (stage.Receiving op) came.Goes
  receive_pending old new op task room from to polls keeps pending =
      let waits = pending_waits view tells memory files called law old new op op task polls in
      record {
        fits = pending_pends view tells memory files called law old new op op task (IsReceive room from) polls keeps pending;
        leaves = record {
          later = waits.later;
          users = waits.users;
          ops = polled_others view tells memory files called law old new op task (Ok (Pending op)) (IsReceive room from)
              (IsElse from to) polls
              pending (receive_apart room from to);
          moves = λ t. inl (inl (waits.world t));
        };
        line_is = λ t a b. same_line (world_of view old) (world_of view new) from to [] [] (waits.world t) refl;
        cause = tt;
        ended = λ t. tt;
      }

  -- One whose poll ran out of memory.
  pub receive_starved : (old new : LegacyState I Buf) (op : Op) (error : NoMemory) (task room from to : ℕ)
      → LegacyPolls files built called view tells memory old new op task (Err (error, op)) → KeepsTokens (ops_in old) (ops_in new)
      → IsPending (ops_in old) op (IsReceive room from)
      → Flows view tells old new room from to [] (stage.Receiving op) (came.Stopped why.OutOfMemory)
  receive_starved old new op error task room from to polls keeps pending =
      let waits = starved_waits view tells memory files called law old new op (error, op) task polls in
      record {
        fits = starved_pends view tells memory files called law old new op (error, op) task (IsReceive room from) polls keeps pending;
        leaves = record {
          later = waits.later;
          users = waits.users;
          ops = polled_others view tells memory files called law old new op task (Err (error, op)) (IsReceive room from)
              (IsElse from to) polls
              pending (receive_apart room from to);
          moves = λ t. inl (inl (waits.world t));
        };
        line_is = λ t a b. same_line (world_of view old) (world_of view new) from to [] [] (waits.world t) refl;
        cause = tt;
        ended = λ t. tt;
      }

  -- One that ended.
  pub receive_ended : (old new : LegacyState I Buf) (op : Op) (done : Ended Buf) (task room from to : ℕ) (buf : Buf) (s : Stage) (c : Came)
      → LegacyPolls files built called view tells memory old new op task (Ok (Ready done))
      → IsPending (ops_in old) op (IsReceive room from) → plain_request built done.request ≡ Recv from (built buf)
      → ReceivedAs done.outcome (content_of buf) s c → Flows view tells old new room from to [] s c
  receive_ended old new op done task room from to buf s c polls pending is ends =
      let came = received view tells memory files called law old new op done task room from polls pending in
      let same : built buf ≡ came.0.buf = recv_same from (built buf) came.0.buf (sym is ∙ came.0.request_is) in
      let flow = brings_flow (view old.handling.io) (view new.handling.io) tells from to done.outcome (content_of buf) s c
      (subst (λ b. Brings (view old.handling.io) (view new.handling.io) tells from done.outcome (shown b)) (sym same) came.0.brings) ends in
      record {
        fits = just_fits room (ops_in new) from to s flow.0 flow.1.0;
        leaves = record {
          later = came.1.0;
          users = came.1.1;
          ops = polled_others view tells memory files called law old new op task (Ok (Ready done)) (IsReceive room from)
              (IsElse from to) polls
              pending (receive_apart room from to);
          moves = flow.1.2;
        };
        line_is = λ t a b. ap (line (world_of view new) from to) (just_holds (ops_in new) s flow.0 flow.1.0) ∙ flow.1.1 t;
        cause = flow.1.3;
        ended = flow.1.4;
      }
    where
      recv_same : (h : ℕ) (one other : Buffer) → ◌≡◌ {A = Request Buffer Parts} (Recv h one) (Recv h other) → one ≡ other
      recv_same h one other same = cc

  -- A send that waits on.
  pub send_pending : (old new : LegacyState I Buf) (op : Op) (task room from to count : ℕ)
      → LegacyPolls files built called view tells memory old new op task (Ok (Pending op)) → KeepsTokens (ops_in old) (ops_in new)
      → IsPending (ops_in old) op (IsSend to count)
      → Flows view tells old new room from to (bytes_sent (asked_at (ops_in old) op)) (stage.Sending op count) came.Goes
  send_pending old new op task room from to count polls keeps pending =
      let waits = pending_waits view tells memory files called law old new op op task polls in
      record {
        fits = pending_pends view tells memory files called law old new op op task (IsSend to count) polls keeps pending;
        leaves = record {
          later = waits.later;
          users = waits.users;
          ops = polled_others view tells memory files called law old new op task (Ok (Pending op)) (IsSend to count) (IsElse from to) polls
              pending (send_apart from to count);
          moves = λ t. inl (inl (waits.world t));
        };
        line_is = λ t a b. same_line (world_of view old) (world_of view new) from to (bytes_sent (asked_at (ops_in old) op))
            (bytes_sent (asked_at (ops_in new) op)) (waits.world t) (ap bytes_sent waits.asked);
        cause = tt;
        ended = λ t. tt;
      }

  pub send_starved : (old new : LegacyState I Buf) (op : Op) (error : NoMemory) (task room from to count : ℕ)
      → LegacyPolls files built called view tells memory old new op task (Err (error, op)) → KeepsTokens (ops_in old) (ops_in new)
      → IsPending (ops_in old) op (IsSend to count)
      → Flows view tells old new room from to (bytes_sent (asked_at (ops_in old) op)) (stage.Sending op count)
      (came.Stopped why.OutOfMemory)
  send_starved old new op error task room from to count polls keeps pending =
      let waits = starved_waits view tells memory files called law old new op (error, op) task polls in
      record {
        fits = starved_pends view tells memory files called law old new op (error, op) task (IsSend to count) polls keeps pending;
        leaves = record {
          later = waits.later;
          users = waits.users;
          ops = polled_others view tells memory files called law old new op task (Err (error, op)) (IsSend to count) (IsElse from to)
              polls pending (send_apart from to count);
          moves = λ t. inl (inl (waits.world t));
        };
        line_is = λ t a b. same_line (world_of view old) (world_of view new) from to (bytes_sent (asked_at (ops_in old) op))
            (bytes_sent (asked_at (ops_in new) op)) (waits.world t) (ap bytes_sent waits.asked);
        cause = tt;
        ended = λ t. tt;
      }

  -- One that ended.
  pub send_ended : (old new : LegacyState I Buf) (op : Op) (done : Ended Buf) (task room from to count : ℕ) (buf : Buf) (s : Stage)
      (c : Came)
      → LegacyPolls files built called view tells memory old new op task (Ok (Ready done))
      → IsPending (ops_in old) op (IsSend to count) → plain_request built done.request ≡ Send to (built buf)
      → SentAs done.outcome (content_of buf) s c → Flows view tells old new room from to (bytes_sent (asked_at (ops_in old) op)) s c
  send_ended old new op done task room from to count buf s c polls pending is ends =
      let went = sent view tells memory files called law old new op done task to count polls pending in
      let took = went.1.1 in
      let same : built buf ≡ went.0 = send_same to (built buf) went.0 (sym is ∙ took.request_is) in
      let flow = takes_flow (view old.handling.io) (view new.handling.io) tells from to done.outcome (content_of buf) s c
      (subst (λ b. Takes (view old.handling.io) (view new.handling.io) tells to done.outcome (shown b)) (sym same) took.takes) ends in
      record {
        fits = just_fits room (ops_in new) from to s flow.0 flow.1.0;
        leaves = record {
          later = went.1.2.0;
          users = went.1.2.1;
          ops = polled_others view tells memory files called law old new op task (Ok (Ready done)) (IsSend to count) (IsElse from to) polls
              pending (send_apart from to count);
          moves = flow.1.2;
        };
        line_is = λ t a b. ap (line (world_of view new) from to) (just_holds (ops_in new) s flow.0 flow.1.0)
            ∙ (flow.1.1 t b ∙ ap (line (world_of view old) from to) (ap shown same ∙ ap bytes_sent (sym went.1.0)));
        cause = flow.1.3;
        ended = λ t. flow.1.4;
      }
    where
      send_same : (h : ℕ) (one other : Buffer) → ◌≡◌ {A = Request Buffer Parts} (Send h one) (Send h other) → one ≡ other
      send_same h one other same = cc

  -- The same of the token that came back.
  pub receive_waits : (old new : LegacyState I Buf) (op back : Op) (answer : PollOp Buf) (task room from to : ℕ) → answer ≡ Pending back
      → LegacyPolls files built called view tells memory old new op task (Ok answer)
      → PollsTokens (ops_in old) (ops_in new) op answer → IsPending (ops_in old) op (IsReceive room from)
      → Flows view tells old new room from to [] (stage.Receiving back) came.Goes
  receive_waits old new op back answer task room from to is polls took pending =
      let tokens = subst (PollsTokens (ops_in old) (ops_in new) op) is took in
      subst (λ b. Flows view tells old new room from to [] (stage.Receiving b) came.Goes) (sym tokens.0)
      (receive_pending old new op task room from to
      (subst (λ b. LegacyPolls files built called view tells memory old new op task (Ok (Pending b))) tokens.0
      (subst (λ a. LegacyPolls files built called view tells memory old new op task (Ok a)) is polls)) tokens.1 pending)

  pub receive_stops : (old new : LegacyState I Buf) (op back : Op) (error : NoMemory) (task room from to : ℕ)
      → LegacyPolls files built called view tells memory old new op task (Err (error, back))
      → (back ≡ op) × KeepsTokens (ops_in old) (ops_in new) → IsPending (ops_in old) op (IsReceive room from)
      → Flows view tells old new room from to [] (stage.Receiving back) (came.Stopped why.OutOfMemory)
  receive_stops old new op back error task room from to polls tokens pending =
      subst (λ b. Flows view tells old new room from to [] (stage.Receiving b) (came.Stopped why.OutOfMemory)) (sym tokens.0)
      (receive_starved old new op error task room from to
      (subst (λ b. LegacyPolls files built called view tells memory old new op task (Err (error, b))) tokens.0 polls) tokens.1 pending)

  pub send_waits : (old new : LegacyState I Buf) (op back : Op) (answer : PollOp Buf) (task room from to count : ℕ) → answer ≡ Pending back
      → LegacyPolls files built called view tells memory old new op task (Ok answer)
      → PollsTokens (ops_in old) (ops_in new) op answer → IsPending (ops_in old) op (IsSend to count)
      → Flows view tells old new room from to (bytes_sent (asked_at (ops_in old) op)) (stage.Sending back count) came.Goes
  send_waits old new op back answer task room from to count is polls took pending =
      let tokens = subst (PollsTokens (ops_in old) (ops_in new) op) is took in
      subst (λ b. Flows view tells old new room from to (bytes_sent (asked_at (ops_in old) op)) (stage.Sending b count) came.Goes)
      (sym tokens.0) (send_pending old new op task room from to count
      (subst (λ b. LegacyPolls files built called view tells memory old new op task (Ok (Pending b))) tokens.0
      (subst (λ a. LegacyPolls files built called view tells memory old new op task (Ok a)) is polls)) tokens.1 pending)

  pub send_stops : (old new : LegacyState I Buf) (op back : Op) (error : NoMemory) (task room from to count : ℕ)
      → LegacyPolls files built called view tells memory old new op task (Err (error, back))
      → (back ≡ op) × KeepsTokens (ops_in old) (ops_in new) → IsPending (ops_in old) op (IsSend to count)
      → Flows view tells old new room from to (bytes_sent (asked_at (ops_in old) op)) (stage.Sending back count)
      (came.Stopped why.OutOfMemory)
  send_stops old new op back error task room from to count polls tokens pending =
      subst (λ b. Flows view tells old new room from to (bytes_sent (asked_at (ops_in old) op)) (stage.Sending b count)
      (came.Stopped why.OutOfMemory)) (sym tokens.0) (send_starved old new op error task room from to count
      (subst (λ b. LegacyPolls files built called view tells memory old new op task (Err (error, b))) tokens.0 polls) tokens.1 pending)

-- A drop leaves all but its operation.
pub dropped_abandons : {I : Type 0} (view : I → IoView) (tells memory : Bool) (old new : LegacyState I Buf) (op : Op) (from to : ℕ)
    (P : Request Buffer Parts → Type 0) → LegacyDrops view tells memory old new op → IsPending (ops_in old) op P
    → ((request : Request Buffer Parts) → P request → IsElse from to request → ⊥) → Abandons view tells old from to new
dropped_abandons view tells memory old new op from to P drops pending apart = record {
  later = drops.handles.object.later;
  users = subst (λ t. KeepsUsers old.handling.table t) (sym drops.handles.holders)
      (left_users old.handling.table (named_in (map.get old.slots.values op.key)));
  ops = λ other held else. ap (λ m. map.get m other.key) drops.slot
      ∙ gone-other old.slots.values op.key other.key (other_key (ops_in old) op other P (IsElse from to) pending.asks else apart);
  world = drops.handles.object.world;
  made = drops.handles.object.made;
}

-- Giving nothing up leaves all as it was.
pub still_abandons : {I : Type 0} (view : I → IoView) (tells : Bool) (driver : LegacyState I Buf) (from to : ℕ)
    → Abandons view tells driver from to driver
still_abandons view tells driver from to = record {
  later = later-same (view driver.handling.io);
  users = λ h held. held;
  ops = λ op held else. refl;
  world = λ t. refl;
  made = refl;
}
