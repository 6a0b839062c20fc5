-- Connections that are opened: what an accept, a release and an opening leave.
use Rattle.std.proofs.Common.{ℕ, zero, suc, ◌≡◌, ◌≤◌, ◌<◌, ◌∙◌, ap, sym, refl, subst, arith, Bool, IsTrue, true, false, List, [], ◌∷◌, ◌++◌}
use Rattle.std.proofs.Common.{Option, Some, None, Ok, Err, inl, inr}
use Rattle.std.specs.Prelude.{◌⊎◌, ◌||◌, IfErr, IfOk, Result, is_some, nat_le, nat_lt, slice_get, unwrap_or}
use Rattle.std.specs.FinMap as map
use Rattle.rent_buf.specs.Buf.{built}
use Rattle.rent_buf.specs.Buffer.{Buffer}
use Rattle.rent_buf.specs.Parts.{Parts}
use Rattle.rent_buf.specs.declared.plain.Buf.{Buf}
use Rattle.rent_buf.specs.declared.fault.OutOfMemory.{OutOfMemory as NoMemory}
use Rattle.handle_core.specs.Table.{nobody}
use Rattle.machine.specs.declared.world.TheConstants.{MOST_HANDLES}
use Rattle.machine.specs.World.{fresh}
use Rattle.machine.specs.declared.request.Outcome.{Outcome}
use Rattle.machine.specs.declared.request.Outcome.TheVariants as ended
use Rattle.machine.specs.declared.request.Request.{Request}
use Rattle.machine.specs.declared.request.Request.TheVariants.{Accept}
use Rattle.machine.specs.declared.world.HandleKind.TheVariants.{Stream}
use Rattle.machine.specs.Effect.{made_by}
use Rattle.machine.specs.Request.{plain_request}
use Rattle.driver_core.specs.Holds.{named_in}
use Rattle.driver_core.specs.Op.{KeepsTokens, PollsTokens}
use Rattle.driver_core.specs.declared.op.Done.{Done as Ended}
use Rattle.driver_core.specs.declared.op.Op.{Op}
use Rattle.driver_core.specs.declared.op.PollOp.{PollOp}
use Rattle.driver_core.specs.declared.op.PollOp.TheVariants.{Pending, Ready}
use Rattle.driver_core.specs.declared.op.Turned.{Turned}
use Rattle.driver_core.specs.declared.op.Stop.{Stop}
use Rattle.driver_core.specs.declared.op.Stop.TheVariants as stop
use Rattle.driver_core.specs.declared.operations.calls.CallAnswer.TheVariants.{Done}
use Rattle.driver_core.proofs.Maps.{gone-other}
use Rattle.driver_core.proofs.Rising.{rose-later}
use Rattle.ready_driver.specs.declared.non_block.NonBlockError.{NonBlockError}
use Rattle.ready_driver.specs.declared.non_block.NonBlockError.TheVariants as non_block
use Rattle.ready_driver.specs.Dialing.{IsOpened, IsUnopened}
use Rattle.ready_driver.specs.Calling.{Called}
use Rattle.rent_buf.specs.Counts.{Rose}
use Rattle.ready_driver.specs.Io.{FailRose, FaultsFor, IoView, IsLater, IsMoved}
use Rattle.ready_driver.specs.LegacyPolls.{HandsOver, outcome_for, outcome_if}
use Rattle.ready_driver.specs.LegacyState.{LegacyState, SameOps, ops_in}
use Rattle.ready_driver.specs.LegacyTurns.{LegacyTurns, TurnsBy, turning_in}
use Rattle.ready_driver.specs.Registry.{Handling, TriesFor, is_old}
use Rattle.ready_driver.proofs.Still.{later-then, later-same}
use Rattle.machine.specs.Attempt.{is_readable_at}
use Rattle.net_stream.specs.Told.{IsStream}
use Rattle.op_driver.specs.Legacy.{LegacyDrops, LegacyPolls}
use Rattle.relay_net.specs.Connection.{FitsConnection, Releases, KeepsStreams, far_of, held_back, held_forth, near_of}
use Rattle.relay_net.specs.Flow.{IfAsked, IsPending, asked_at}
use Rattle.relay_net.specs.Keeping.{AnyRequest, KeepsOps, KeepsUsers, Stays, world_of}
use Rattle.relay_net.specs.Opening.{AcceptFails, AcceptedAs, AcceptedFor, FarFails, IsFar, IsFresh, IsNew, IsTransfer, KeepsBytes}
use Rattle.relay_net.specs.Opening.{IsFirst, Opening, WasOpened, Widens}
use Rattle.relay_net.specs.Relay.{AreServed, FitsAccept, IsAccept, IsAmong, IsSound}
use Rattle.relay_net.specs.Relay.{Serving, StopsUnless}
use Rattle.relay_net.specs.Relaying.{TurnStops}
use Rattle.relay_net.specs.declared.connection.Connection.{Connection}
use Rattle.relay_net.specs.declared.opening.Accepted.{Accepted}
use Rattle.relay_net.specs.declared.round.Lost.{Lost}
use Rattle.relay_net.specs.declared.round.RelayError.{RelayError}
use Rattle.relay_net.specs.declared.round.RelayError.TheVariants as why
use Rattle.relay_net.proofs.Calls.{Lawful, given_users, left_users, pending_kept, same_users, users_then}
use Rattle.relay_net.proofs.Seeing.{appended_readable}
use Rattle.relay_net.proofs.Polls.{other_key, pending_pends, pending_waits, polled_others, ready_ends, starved_pends, starved_waits}
use Rattle.relay_net.proofs.Connections.{asked_as}
use Rattle.relay_net.proofs.Relays.{stops_later}
use Rattle.relay_net.proofs.Beside.{bytes_lines, connection_kept, lines_then}
use Rattle.relay_net.proofs.Made.{ended_grows}
use Rattle.relay_net.proofs.Marks.{all_marked, marked_kept, same_handles, streams_then}
use Rattle.relay_net.proofs.Opens.{accept_apart, accept_world, appended_bytes, appended_streams, bytes_then, fresh_far, fresh_kept}
use Rattle.relay_net.proofs.Opens.{fresh_pushed, given_held, handed_still, same_bytes, stays_widens, unknown_unheld, widens_all}

-- What a turn of the driver did to the waiting accept.
pub turned_accept : {I : Type 0} (view : I → IoView) (tells reporting memory : Bool) (old new : LegacyState I Buf) (turned : Turned)
    (listener : ℕ) (accept : Option Op) → LegacyTurns view tells reporting memory old new turned
    → FitsAccept (ops_in old) listener accept → FitsAccept (ops_in new) listener accept
turned_accept view tells reporting memory old new turned listener None turns fits = tt
turned_accept view tells reporting memory old new turned listener (Some op) turns fits =
    pending_kept (ops_in old) (ops_in new) op (IsAccept listener) (ap (λ s. map.get s.values op.key) turns.slots) fits

module _ {I : Type 0} (view : I → IoView) (tells memory : Bool) (files : I → ℕ → Bool) (called : Called I)
    (law : Lawful view tells memory called) where
  -- An accept that waits on.
  pub accept_waits : (old new : LegacyState I Buf) (op back : Op) (answer : PollOp Buf) (task listener : ℕ) → answer ≡ Pending back
      → LegacyPolls files built called view tells memory old new op task (Ok answer)
      → PollsTokens (ops_in old) (ops_in new) op answer → IsPending (ops_in old) op (IsAccept listener)
      → Widens view tells old new × IsPending (ops_in new) back (IsAccept listener)
  accept_waits old new op back answer task listener is polls took pending =
      let tokens = subst (PollsTokens (ops_in old) (ops_in new) op) is took in
      let asked = subst (λ a. LegacyPolls files built called view tells memory old new op task (Ok a)) is polls in
      let waits = pending_waits view tells memory files called law old new op back task asked in (
        record {
          later = waits.later;
          users = waits.users;
          ops = polled_others view tells memory files called law old new op task (Ok (Pending back)) (IsAccept listener) IsTransfer asked
              pending (accept_apart listener);
          bytes = λ t. same_bytes (world_of view old) (world_of view new) (waits.world t);
          streams = λ t. same_handles (world_of view old) (world_of view new) (waits.world t);
        },
        subst (λ b. IsPending (ops_in new) b (IsAccept listener)) (sym tokens.0)
            (pending_pends view tells memory files called law old new op back task (IsAccept listener) asked tokens.1 pending),
      )

  pub accept_starves : (old new : LegacyState I Buf) (op back : Op) (error : NoMemory) (task listener : ℕ)
      → LegacyPolls files built called view tells memory old new op task (Err (error, back))
      → (back ≡ op) × KeepsTokens (ops_in old) (ops_in new) → IsPending (ops_in old) op (IsAccept listener)
      → Widens view tells old new × IsPending (ops_in new) back (IsAccept listener)
  accept_starves old new op back error task listener polls tokens pending =
      let waits = starved_waits view tells memory files called law old new op (error, back) task polls in (
        record {
          later = waits.later;
          users = waits.users;
          ops = polled_others view tells memory files called law old new op task (Err (error, back)) (IsAccept listener) IsTransfer polls
              pending (accept_apart listener);
          bytes = λ t. same_bytes (world_of view old) (world_of view new) (waits.world t);
          streams = λ t. same_handles (world_of view old) (world_of view new) (waits.world t);
        },
        subst (λ b. IsPending (ops_in new) b (IsAccept listener)) (sym tokens.0)
            (starved_pends view tells memory files called law old new op (error, back) task (IsAccept listener) polls tokens.1 pending),
      )

  -- One that ended. The handle that it made is new, and the object counts it.
  pub accept_ends : (old new : LegacyState I Buf) (op : Op) (answer : PollOp Buf) (done : Ended Buf) (task listener : ℕ)
      → answer ≡ Ready done → LegacyPolls files built called view tells memory old new op task (Ok answer)
      → IsPending (ops_in old) op (IsAccept listener)
      → Widens view tells old new
      × ((h : ℕ) → done.outcome ≡ ended.Made h
      → IsNew old.handling.table new.handling.table h × ((view old.handling.io).made < (view new.handling.io).made))
  accept_ends old new op answer done task listener is polls pending =
      let asked = subst (λ a. LegacyPolls files built called view tells memory old new op task (Ok a)) is polls in
      let ends = ready_ends view tells memory files called law old new op done task (IsAccept listener) asked pending in
      let request : ends.request ≡ Accept listener = subst (λ a. IfAsked a (IsAccept listener)) ends.asked pending.asks in
      let handed = handed_still view tells memory ends.mid ends.handed (made_by done.outcome) ends.hands in
      let world : IsTrue tells → ((world_of view new) ≡ world_of view old)
      ⊎ ((world_of view new) ≡ world_of view old ++ fresh Stream ∷ []) =
      λ t.
      let same : world_of view new ≡ (view ends.mid.io).world = ends.left_world t ∙ handed.1 t in
      elim (accept_world (world_of view old) (view ends.mid.io).world listener (plain_request built done.request) ends.call
      (subst (λ r. IsMoved (world_of view old) r (view ends.mid.io).world (plain_request built done.request) ends.call) request
      (ends.made.moved t))) [
        | inl e ↦ inl (same ∙ e)
        | inr e ↦ inr (same ∙ e)
      ] in (
        record {
          later = later-then (view old.handling.io) (view ends.mid.io) (view new.handling.io) ends.made.later
              (later-then (view ends.mid.io) (view ends.handed.io) (view new.handling.io) handed.0 ends.left_later);
          users = ends.users;
          ops = polled_others view tells memory files called law old new op task (Ok (Ready done)) (IsAccept listener) IsTransfer asked
              pending (accept_apart listener);
          bytes = λ t. elim (world t) [
            | inl e ↦ same_bytes (world_of view old) (world_of view new) e
            | inr e ↦ subst (KeepsBytes (world_of view old)) (sym e) (appended_bytes (world_of view old))
          ];
          streams = λ t. elim (world t) [
            | inl e ↦ same_handles (world_of view old) (world_of view new) e
            | inr e ↦ subst (KeepsStreams (world_of view old)) (sym e) (appended_streams (world_of view old))
          ];
        },
        λ h made.
            let hands = subst (λ m. HandsOver view tells memory ends.mid m ends.handed) (ap made_by made) ends.hands in (
              record {
                before = ap (λ m. nat_lt 0 (unwrap_or (map.get m h) nobody).user) (sym ends.table)
                    ∙ unknown_unheld ends.mid.table h hands.0;
                now = ends.left_users h (given_held ends.mid.table ends.handed.table h hands.1.table);
              },
              ended_grows view tells memory files called law old new op done ends h made,
            ),
      )

  -- A stream is readable behind one that ended only if it was.
  pub accept_readable : (old new : LegacyState I Buf) (op : Op) (answer : PollOp Buf) (done : Ended Buf) (task listener : ℕ)
      → answer ≡ Ready done → LegacyPolls files built called view tells memory old new op task (Ok answer)
      → IsPending (ops_in old) op (IsAccept listener) → IsTrue tells → (h : ℕ) → IsStream (world_of view old) h
      → is_readable_at (world_of view new) h ≡ true → is_readable_at (world_of view old) h ≡ true
  accept_readable old new op answer done task listener is polls pending t h stream readable =
      let asked = subst (λ a. LegacyPolls files built called view tells memory old new op task (Ok a)) is polls in
      let ends = ready_ends view tells memory files called law old new op done task (IsAccept listener) asked pending in
      let request : ends.request ≡ Accept listener = subst (λ a. IfAsked a (IsAccept listener)) ends.asked pending.asks in
      let handed = handed_still view tells memory ends.mid ends.handed (made_by done.outcome) ends.hands in
      let same : world_of view new ≡ (view ends.mid.io).world = ends.left_world t ∙ handed.1 t in
      elim (accept_world (world_of view old) (view ends.mid.io).world listener (plain_request built done.request) ends.call
      (subst (λ r. IsMoved (world_of view old) r (view ends.mid.io).world (plain_request built done.request) ends.call) request
      (ends.made.moved t))) [
        | inl e ↦ ap (λ w. is_readable_at w h) (sym (same ∙ e)) ∙ readable
        | inr e ↦ appended_readable (world_of view old) h stream (ap (λ w. is_readable_at w h) (sym (same ∙ e)) ∙ readable)
      ]

  -- An accept failed only where the object counted an error, if the number of its next handle can be new.
  pub accept_fails : ((before : I) (request : Request Buffer Parts) (after : I) (now : Request Buffer Parts) (h : ℕ)
      → called before request after now (Done (ended.Made h)) → h ≡ (view before).made)
      → (old new : LegacyState I Buf) (op : Op) (answer : PollOp Buf) (done : Ended Buf) (task listener : ℕ) → answer ≡ Ready done
      → LegacyPolls files built called view tells memory old new op task (Ok answer) → IsPending (ops_in old) op (IsAccept listener)
      → is_old old.handling.table (view old.handling.io).made ≡ false → (error : ℕ) → done.outcome ≡ ended.Fail error
      → Rose (view old.handling.io).fails (view new.handling.io).fails
  accept_fails numbered old new op answer done task listener is polls pending number error failed =
      let asked = subst (λ a. LegacyPolls files built called view tells memory old new op task (Ok a)) is polls in
      let ends = ready_ends view tells memory files called law old new op done task (IsAccept listener) asked pending in
      let handed = handed_still view tells memory ends.mid ends.handed (made_by done.outcome) ends.hands in
      let later = later-then (view ends.mid.io) (view ends.handed.io) (view new.handling.io) handed.0 ends.left_later in
      by-call ends.mid (plain_request built done.request) ends.request ends.call ends.made.fails ends.calls (sym failed ∙ ends.outcome)
      ends.table later.fails
    where
      by-call : (mid : Handling I) (now request : Request Buffer Parts) (call : Outcome)
          → FailRose call (view old.handling.io).fails (view mid.io).fails
          → called old.handling.io request mid.io now (Done call) → ended.Fail error ≡ outcome_for mid.table call
          → mid.table.holders ≡ old.handling.table.holders → (view mid.io).fails ≤ (view new.handling.io).fails
          → Rose (view old.handling.io).fails (view new.handling.io).fails
      by-call mid now request (ended.Count k) rose calls is holders later = absurd cc
      by-call mid now request (ended.From k addr) rose calls is holders later = absurd cc
      by-call mid now request (ended.Fail e) rose calls is holders later =
          rose-later (view old.handling.io).fails (view mid.io).fails (view new.handling.io).fails rose later
      by-call mid now request (ended.Made h) rose calls is holders later =
          let at : h ≡ (view old.handling.io).made = numbered old.handling.io request mid.io now h calls in
          let new_one : is_old mid.table h ≡ false =
          ap (λ held. is_some (map.get held h) || nat_le MOST_HANDLES h) holders ∙ ap (is_old old.handling.table) at ∙ number in
          let e : ended.Fail error ≡ ended.Made h = is ∙ ap (λ b. outcome_if b (ended.Made h)) new_one in
          absurd cc

-- What an accept that ended came to.
pub accepted_for : {I : Type 0} (view : I → IoView) (old new : LegacyState I Buf) (listener : ℕ) (outcome : Outcome) (answer : Accepted)
    → ((h : ℕ) → outcome ≡ ended.Made h
    → IsNew old.handling.table new.handling.table h × ((view old.handling.io).made < (view new.handling.io).made))
    → ((error : ℕ) → outcome ≡ ended.Fail error → Rose (view old.handling.io).fails (view new.handling.io).fails)
    → AcceptedAs outcome answer → AcceptedFor view old new listener answer
accepted_for view old new listener (ended.Count k) answer gives rises is = subst (AcceptedFor view old new listener) (sym is) tt
accepted_for view old new listener (ended.From k addr) answer gives rises is = subst (AcceptedFor view old new listener) (sym is) tt
accepted_for view old new listener (ended.Made h) answer gives rises is = subst (AcceptedFor view old new listener) (sym is) (gives h refl)
accepted_for view old new listener (ended.Fail error) answer gives rises is =
    subst (AcceptedFor view old new listener) (sym is) (rises error refl)

-- A fresh handle that was given up leaves all connections, and the accept.
pub released_sound : {room : ℕ} {I : Type 0} (view : I → IoView) (tells : Bool) (old new : LegacyState I Buf) (listener : ℕ)
    (accept : Option Op)
    (all : List Connection) (h : ℕ) → Releases view tells old h new → IsFresh old.handling.table listener all h
    → IsSound room (ops_in old) old.handling.table listener accept all → IsSound room (ops_in new) new.handling.table listener accept all
released_sound view tells old new listener accept all h releases fresh sound = record {
  roomy = sound.roomy;
  listens = releases.users listener (λ e. fresh.other (sym e)) sound.listens;
  accepts = by-accept accept sound.accepts;
  served = record {
    each = λ k conn at.
        let own = sound.served.each k conn at in
        let apart = fresh.apart conn (k, at) in
        record {
          fits = (connection_kept (ops_in old) (ops_in new) AnyRequest conn releases.ops (λ g own request is. tt)
              (λ g own count request is. tt) own.fits).fits;
          room_is = own.room_is;
          near = releases.users (near_of conn) apart.0 own.near;
          far = releases.users (far_of conn) apart.1 own.far;
          near_other = own.near_other;
          far_other = own.far_other;
        };
    apart = sound.served.apart;
  };
}
  where
    by-accept : (accept : Option Op) → FitsAccept (ops_in old) listener accept → FitsAccept (ops_in new) listener accept
    by-accept None fits = tt
    by-accept (Some op) fits =
        pending_kept (ops_in old) (ops_in new) op (IsAccept listener)
        (releases.ops op fits.holds (asked_as (asked_at (ops_in old) op) (IsAccept listener) AnyRequest (λ request is. tt) fits.asks)) fits

-- Letting a handle go leaves what was opened.
pub released_opening : {room : ℕ} {I : Type 0} (view : I → IoView) (tells : Bool) (start old new : LegacyState I Buf)
    (was all : List Connection)
    (listener h : ℕ) → Releases view tells old h new → AreServed room (ops_in old) old.handling.table listener all
    → Opening view tells start was old all → Opening view tells start was new all
released_opening view tells start old new was all listener h releases served opening = record {
  each = λ conn among.
      let still = opening.each conn among in
      let kept = connection_kept (ops_in old) (ops_in new) AnyRequest still.now releases.ops (λ g own request is. tt)
      (λ g own count request is. tt) (served.each still.place still.now still.there).fits in
      record {
        place = still.place;
        now = still.now;
        there = still.there;
        near = still.near;
        far = still.far;
        lines = lines_then tells (world_of view start) (world_of view old) (world_of view new) (near_of conn) (far_of conn)
            (held_forth (ops_in start) conn) (held_back (ops_in start) conn) (held_forth (ops_in old) still.now)
            (held_back (ops_in old) still.now) (held_forth (ops_in new) still.now) (held_back (ops_in new) still.now) opening.streams
            still.lines (bytes_lines tells (world_of view old) (world_of view new) (near_of conn) (far_of conn)
            (held_forth (ops_in old) still.now) (held_back (ops_in old) still.now) (held_forth (ops_in new) still.now)
            (held_back (ops_in new) still.now)
            (λ t. same_bytes (world_of view old) (world_of view new) (releases.world t) (near_of conn))
            (λ t. same_bytes (world_of view old) (world_of view new) (releases.world t) (far_of conn)) kept.forth kept.back);
        mark = λ t marked. marked_kept (world_of view old) (world_of view new) still.now
            (same_handles (world_of view old) (world_of view new) (releases.world t)) (still.mark t marked);
      };
  later = later-then (view start.handling.io) (view old.handling.io) (view new.handling.io) opening.later releases.later;
  bytes = λ t. bytes_then (world_of view start) (world_of view old) (world_of view new) (opening.bytes t)
      (same_bytes (world_of view old) (world_of view new) (releases.world t));
  streams = λ t. streams_then (world_of view start) (world_of view old) (world_of view new) (opening.streams t)
      (same_handles (world_of view old) (world_of view new) (releases.world t));
  marks = λ t marked. all_marked (world_of view old) (world_of view new) all
      (same_handles (world_of view old) (world_of view new) (releases.world t)) (opening.marks t marked);
}

-- The same connections are sound behind a call that moved no bytes, with an accept that fits.
pub widens_sound : {room : ℕ} {I : Type 0} (view : I → IoView) (tells : Bool) (old new : LegacyState I Buf) (listener : ℕ)
    (before now : Option Op)
    (all : List Connection) → IsSound room (ops_in old) old.handling.table listener before all → Widens view tells old new
    → FitsAccept (ops_in new) listener now → IsSound room (ops_in new) new.handling.table listener now all
widens_sound view tells old new listener before now all sound widens fits = record {
  roomy = sound.roomy;
  listens = widens.users listener sound.listens;
  accepts = fits;
  served = widens_all view tells old new listener all widens sound.served;
}

-- The accept that waits, by a call that leaves all, or that leaves an accept.
pub stays_accept : {I : Type 0} (view : I → IoView) (tells : Bool) (old new : LegacyState I Buf) (listener : ℕ) (accept : Option Op)
    → Stays view tells old new → FitsAccept (ops_in old) listener accept → FitsAccept (ops_in new) listener accept
stays_accept view tells old new listener None stays fits = tt
stays_accept view tells old new listener (Some op) stays fits =
    pending_kept (ops_in old) (ops_in new) op (IsAccept listener)
    (stays.ops op fits.holds (asked_as (asked_at (ops_in old) op) (IsAccept listener) AnyRequest (λ request is. tt) fits.asks)) fits

-- A handle was opened, or none was.
pub opened_widens : {I : Type 0} (view : I → IoView) (tells memory : Bool) (old new : LegacyState I Buf) (h : ℕ)
    → IsOpened view tells memory Stream old.handling new.handling h → SameOps old new
    → Widens view tells old new × IsNew old.handling.table new.handling.table h
opened_widens view tells memory old new h opened rest =
    let still = by-taken opened.user.taken opened.user.tries in (
      record {
        later = later-then (view old.handling.io) (view opened.mid.io) (view new.handling.io) opened.made.later still.0;
        users = users_then old.handling.table opened.mid.table new.handling.table
            (same_users old.handling.table opened.mid.table opened.holders)
            (given_users opened.mid.table new.handling.table h opened.user.table);
        ops = λ op held asked. ap (λ m. map.get m op.key) rest.slots;
        bytes = λ t. subst (KeepsBytes (world_of view old)) (sym (still.1 t ∙ opened.made.world t)) (appended_bytes (world_of view old));
        streams = λ t. subst (KeepsStreams (world_of view old)) (sym (still.1 t ∙ opened.made.world t))
            (appended_streams (world_of view old));
      },
      record {
        before = unknown_unheld old.handling.table h opened.fresh;
        now = given_held opened.mid.table new.handling.table h opened.user.table;
      },
    )
  where
    by-taken : (taken : Bool) → TriesFor tells memory h opened.user.key (view opened.mid.io) (view new.handling.io) taken
        → IsLater (view opened.mid.io) (view new.handling.io) × (IsTrue tells → world_of view new ≡ (view opened.mid.io).world)
    by-taken true tries = (tries.0.later, tries.0.world)
    by-taken false tries = (tries.0.later, tries.0.world)

-- A far end that was refused leaves the bytes and the users of the others.
pub unopened_widens : {I : Type 0} (view : I → IoView) (tells memory : Bool) (old new : LegacyState I Buf) (why : NonBlockError)
    → IsUnopened view tells memory old.handling new.handling why → SameOps old new → Widens view tells old new
unopened_widens view tells memory old new why unopened rest = record {
  later = unopened.object.later;
  users = same_users old.handling.table new.handling.table unopened.holders;
  ops = λ op held asked. ap (λ m. map.get m op.key) rest.slots;
  bytes = λ t. same_bytes (world_of view old) (world_of view new) (unopened.object.world t);
  streams = λ t. same_handles (world_of view old) (world_of view new) (unopened.object.world t);
}

-- Why it was refused is a fault that was counted, or want of memory.
pub unopened_fails : {I : Type 0} (view : I → IoView) (tells memory : Bool) (old new : Handling I) (why : NonBlockError)
    → IsUnopened view tells memory old new why → is_old old.table (view old.io).made ≡ false → FarFails (view old.io) (view new.io) why
unopened_fails view tells memory old new (non_block.Fault code) unopened new_number = by-cause unopened.cause
  where
    by-cause : FaultsFor memory (view old.io) (view new.io) (non_block.Fault code)
        ⊎ ((non_block.Fault code ≡ non_block.Fault 22) × (is_old old.table (view old.io).made ≡ true))
        → Rose (view old.io).faults (view new.io).faults
    by-cause (inl fault) = fault.0
    by-cause (inr refused) = let e : ◌≡◌ {A = Bool} true false = sym refused.1 ∙ new_number in absurd cc
unopened_fails view tells memory old new non_block.OutOfMemory unopened new_number = tt

-- Where nothing is called all stays.
pub none_widens : {I : Type 0} (view : I → IoView) (tells : Bool) (driver : LegacyState I Buf) → Widens view tells driver driver
none_widens view tells driver = record {
  later = later-same (view driver.handling.io);
  users = λ h held. held;
  ops = λ op held asked. refl;
  bytes = λ t h. (refl, refl);
  streams = λ t h. (λ stream. stream, λ ended. ended, λ listens. listens, λ going. going);
}

-- Connections are sound behind a call that leaves every operation.
pub kept_sound : {room : ℕ} {I : Type 0} (view : I → IoView) (tells : Bool) (old new : LegacyState I Buf) (listener : ℕ)
    (accept : Option Op)
    (all : List Connection) → IsSound room (ops_in old) old.handling.table listener accept all → Widens view tells old new
    → KeepsOps AnyRequest (ops_in old) (ops_in new) → IsSound room (ops_in new) new.handling.table listener accept all
kept_sound view tells old new listener accept all sound widens keeps =
    widens_sound view tells old new listener accept accept all sound widens (by-accept accept sound.accepts)
  where
    by-accept : (accept : Option Op) → FitsAccept (ops_in old) listener accept → FitsAccept (ops_in new) listener accept
    by-accept None fits = tt
    by-accept (Some op) fits =
        pending_kept (ops_in old) (ops_in new) op (IsAccept listener)
        (keeps op fits.holds (asked_as (asked_at (ops_in old) op) (IsAccept listener) AnyRequest (λ request is. tt) fits.asks)) fits

-- A connection joined the others, once its other end was there.
pub opened_sound : {room : ℕ} {I : Type 0} (view : I → IoView) (tells : Bool) (old new : LegacyState I Buf) (listener : ℕ)
    (accept : Option Op)
    (all : List Connection) (near far : ℕ) (conn : Connection) → IsSound room (ops_in old) old.handling.table listener accept all
    → Widens view tells old new → KeepsOps AnyRequest (ops_in old) (ops_in new) → IsFresh old.handling.table listener all near
    → IsFar old.handling.table new.handling.table near far → (near_of conn ≡ near) × (far_of conn ≡ far)
    → FitsConnection (ops_in new) conn → conn.room ≡ room → IsSound room (ops_in new) new.handling.table listener accept (all ++ conn ∷ [])
opened_sound view tells old new listener accept all near far conn sound widens keeps fresh is handles fits roomy =
    let same = kept_sound view tells old new listener accept all sound widens keeps in
    let near_fresh = fresh_kept old.handling.table new.handling.table listener all near widens.users fresh in
    let far_fresh = fresh_far (ops_in old) old.handling.table new.handling.table listener all near far sound.listens sound.served near_fresh
    is in
    record {
      roomy = sound.roomy;
      listens = same.listens;
      accepts = same.accepts;
      served = fresh_pushed (ops_in new) new.handling.table listener all conn same.served
          (subst (IsFresh new.handling.table listener all) (sym handles.0) near_fresh)
          (subst (IsFresh new.handling.table listener all) (sym handles.1) far_fresh) fits roomy;
    }

-- A submission leaves the connections.
pub stays_sound : {room : ℕ} {I : Type 0} (view : I → IoView) (tells : Bool) (old new : LegacyState I Buf) (listener : ℕ)
    (accept : Option Op)
    (all : List Connection) → IsSound room (ops_in old) old.handling.table listener accept all → Stays view tells old new
    → IsSound room (ops_in new) new.handling.table listener accept all
stays_sound view tells old new listener accept all sound stays =
    kept_sound view tells old new listener accept all sound (stays_widens view tells old new stays) stays.ops

-- Why a turn stopped is why its round does.
pub turned_stops : {I : Type 0} (view : I → IoView) (tells reporting memory : Bool) (old new : LegacyState I Buf) (turned : Turned)
    (result : Result Unit RelayError) → LegacyTurns view tells reporting memory old new turned → TurnStops turned.stop result
    → StopsUnless (view old.handling.io) (view new.handling.io) result
turned_stops view tells reporting memory old new turned result turns is = by-stop turned.stop turns.does is
  where
    by-stop : (s : Option Stop) → TurnsBy view tells reporting memory (turning_in old old.asked) (turning_in new turns.tasks) s
        → TurnStops s result → StopsUnless (view old.handling.io) (view new.handling.io) result
    by-stop None does is = subst (StopsUnless (view old.handling.io) (view new.handling.io)) (sym is) tt
    by-stop (Some stop.RingFault) does is = absurd does
    by-stop (Some stop.Busy) does is = absurd does
    by-stop (Some (stop.BadCompletion word)) does is = absurd does
    by-stop (Some (stop.Os code)) does is = subst (StopsUnless (view old.handling.io) (view new.handling.io)) (sym is) does.2
    by-stop (Some stop.OutOfMemory) does is = subst (StopsUnless (view old.handling.io) (view new.handling.io)) (sym is) tt

-- Why a round stopped, by its turn and by what followed.
pub worked_stops : (old mid new : IoView) (turned result : Result Unit RelayError) → StopsUnless old mid turned → IsLater old mid
    → IsLater mid new → IfOk turned (λ done. StopsUnless mid new result) → IfErr turned (λ because. result ≡ Err because)
    → StopsUnless old new result
worked_stops old mid new (Ok done) result stops first second worked stopped = stops_later old mid new result first worked
worked_stops old mid new (Err why.Fault) result stops first second worked stopped =
    let more = second.faults in
    subst (StopsUnless old new) (sym stopped) (omega (arith, stops, more))
worked_stops old mid new (Err why.OutOfMemory) result stops first second worked stopped = subst (StopsUnless old new) (sym stopped) tt

-- An accept that was dropped moved nothing.
pub dropped_widens : {I : Type 0} (view : I → IoView) (tells memory : Bool) (old new : LegacyState I Buf) (op : Op) (listener : ℕ)
    → LegacyDrops view tells memory old new op → IsPending (ops_in old) op (IsAccept listener) → Widens view tells old new
dropped_widens view tells memory old new op listener drops pending = record {
  later = drops.handles.object.later;
  users = subst (λ t. KeepsUsers old.handling.table t) (sym drops.handles.holders)
      (left_users old.handling.table (named_in (map.get old.slots.values op.key)));
  ops = λ other held else. ap (λ m. map.get m other.key) drops.slot
      ∙ gone-other old.slots.values op.key other.key
      (other_key (ops_in old) op other (IsAccept listener) IsTransfer pending.asks else (accept_apart listener));
  bytes = λ t. same_bytes (world_of view old) (world_of view new) (drops.handles.object.world t);
  streams = λ t. same_handles (world_of view old) (world_of view new) (drops.handles.object.world t);
}

-- Why an accept failed, over a longer time.
pub accept_within : (a b c d : IoView) (accept : Option ℕ) → a.fails ≤ b.fails → c.fails ≤ d.fails → AcceptFails b c accept
    → AcceptFails a d accept
accept_within a b c d None first last fails = tt
accept_within a b c d (Some error) first last fails = omega (arith, first, last, fails)

-- What became of a connection that was opened in a round, from the accept on.
pub opened_becomes : {I : Type 0} (view : I → IoView) (tells : Bool) (old mid new : LegacyState I Buf) (was all now : List Connection)
    (n : ℕ) (closed : List ℕ) (failed : List Lost) → Opening view tells old was mid all → IsFirst (ops_in mid) all n
    → Serving view tells mid all new now closed failed → WasOpened view tells old n new now closed failed
opened_becomes view tells old mid new was all now n closed failed opening is serving = record {
  mid = mid;
  first = is.first;
  near = is.near;
  going = is.going;
  forth = is.forth;
  back = is.back;
  bytes = opening.bytes;
  becomes = serving.each is.first is.among;
}

-- No number is among none.
pub none_opened : {P : Type 0} (names : List ℕ) (n : ℕ) → names ≡ [] → IsAmong names n → P
none_opened names n none among =
    let at : slice_get {X = ℕ} [] among.0 ≡ Some n = subst (λ xs. slice_get xs among.0 ≡ Some n) none among.1 in
    absurd cc

-- A number among one is that.
pub one_opened : (names : List ℕ) (near n : ℕ) → names ≡ near ∷ [] → IsAmong names n → near ≡ n
one_opened names near n is among = by-place among.0 (subst (λ xs. slice_get xs among.0 ≡ Some n) is among.1)
  where
    by-place : (k : ℕ) → slice_get (near ∷ []) k ≡ Some n → near ≡ n
    by-place zero at = cc
    by-place (suc k) at = absurd cc
