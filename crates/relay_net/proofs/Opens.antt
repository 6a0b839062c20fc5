-- What the turn, the accept and the other end leave of the connections.
use Rattle.std.proofs.Common.{ℕ, zero, suc, ◌≡◌, ◌≢◌, ◌∙◌, ap, sym, refl, subst, Bool, IsTrue, true, false, List, [], ◌∷◌, ◌++◌}
use Rattle.std.proofs.Common.{Option, Some, None, inl, inr}
use Rattle.std.specs.Prelude.{◌⊎◌, ◌||◌, is_some, nat_le, nat_lt, option_map, slice_get, unwrap_or}
use Rattle.std.specs.FinMap as map
use Rattle.rent_buf.specs.Buffer.{Buffer}
use Rattle.rent_buf.specs.Parts.{Parts}
use Rattle.rent_buf.specs.declared.plain.Buf.{Buf}
use Rattle.handle_core.specs.Table.{Table, by_user, nobody}
use Rattle.handle_core.specs.declared.table.Holders.{Holders}
use Rattle.machine.specs.declared.world.TheConstants.{MOST_HANDLES}
use Rattle.machine.specs.World.{fresh, input_at}
use Rattle.machine.specs.WorldCall.{call_effect}
use Rattle.machine.specs.declared.request.Outcome.{Outcome}
use Rattle.machine.specs.declared.request.Told.{Told}
use Rattle.machine.specs.declared.request.Told.TheVariants as told
use Rattle.machine.specs.declared.request.Request.{Request}
use Rattle.machine.specs.declared.request.Request.TheVariants.{Accept}
use Rattle.machine.specs.declared.world.HandleKind.TheVariants.{Stream}
use Rattle.machine.specs.declared.world.HandleState.{HandleState}
use Rattle.driver_core.specs.Ops.{Ops}
use Rattle.driver_core.specs.declared.op.Turned.{Turned}
use Rattle.driver_core.specs.declared.op.Stop.{Stop}
use Rattle.driver_core.specs.declared.op.Stop.TheVariants as stop
use Rattle.driver_core.proofs.Maps.{put-same}
use Rattle.ready_driver.specs.Io.{IoView, IsLater, IsMoved}
use Rattle.ready_driver.specs.LegacyPolls.{HandsOver}
use Rattle.ready_driver.specs.LegacyState.{LegacyState, ops_in}
use Rattle.ready_driver.specs.LegacyTurns.{LegacyTurns, TurnsBy, turning_in}
use Rattle.ready_driver.specs.Registry.{Handling, TriesFor, is_old, is_users}
use Rattle.ready_driver.proofs.Still.{later-then, later-same}
use Rattle.net_stream.specs.Told.{output_at}
use Rattle.driver_core.proofs.Lists.{get-front}
use Rattle.relay_net.specs.Connection.{FitsConnection, KeepsStreams, far_of, held_back, held_forth, near_of}
use Rattle.relay_net.specs.Flow.{IsReceive, IsSend}
use Rattle.relay_net.specs.Keeping.{AnyRequest, KeepsOps, KeepsUsers, Stays, world_of}
use Rattle.relay_net.specs.Opening.{IsFar, IsFresh, IsNew, IsTransfer, KeepsBytes}
use Rattle.relay_net.specs.Opening.{Opening, Widens}
use Rattle.relay_net.specs.Relay.{AreBeside, AreServed, IsAccept, IsAmong, IsServed}
use Rattle.relay_net.specs.Relay.{Serving}
use Rattle.relay_net.specs.declared.connection.Connection.{Connection}
use Rattle.relay_net.specs.declared.round.Lost.{Lost}
use Rattle.relay_net.proofs.Connections.{ops_fewer}
use Rattle.relay_net.proofs.Beside.{IsKept, beside_swap, bytes_lines, connection_kept, lines_then}
use Rattle.relay_net.proofs.Places.{get_pushed}
use Rattle.relay_net.proofs.Going.{appended_going, appended_listens}
use Rattle.relay_net.proofs.Marks.{all_marked, appended_ended, marked_kept, pushed_marked, same_handles, streams_then}

-- A receive, and a send, are transfers; an accept is none.
pub receive_transfer : (room h : ℕ) (request : Request Buffer Parts) → IsReceive room h request → IsTransfer request
receive_transfer room h request is = subst IsTransfer (sym is.request_is) tt

-- So is a send.
pub send_transfer : (h count : ℕ) (request : Request Buffer Parts) → IsSend h count request → IsTransfer request
send_transfer h count request is = subst IsTransfer (sym is.request_is) tt

-- An accept is none.
pub accept_apart : (listener : ℕ) (request : Request Buffer Parts) → IsAccept listener request → IsTransfer request → ⊥
accept_apart listener request is transfer = subst IsTransfer is transfer

-- A handle more has no bytes, and no other one's change.
appended_at : (world : List HandleState) (h : ℕ)
    → (slice_get (world ++ fresh Stream ∷ []) h ≡ slice_get world h)
    ⊎ ((slice_get world h ≡ None) × (slice_get (world ++ fresh Stream ∷ []) h ≡ Some (fresh Stream)))
appended_at [] zero = inr (refl, refl)
appended_at [] (suc h) = inl refl
appended_at (a ∷ world) zero = inl refl
appended_at (a ∷ world) (suc h) = appended_at world h

-- A handle more keeps the bytes of the others.
pub appended_bytes : (world : List HandleState) → KeepsBytes world (world ++ fresh Stream ∷ [])
appended_bytes world h = elim (appended_at world h) [
  | inl same ↦ (
    ap (λ found. unwrap_or (option_map (λ handle. handle.output) found) []) same,
    ap (λ found. unwrap_or (option_map (λ handle. handle.input) found) []) same,
  )
  | inr new ↦ (
    ap (λ found. unwrap_or (option_map (λ handle. handle.output) found) []) new.1
        ∙ ap (λ found. unwrap_or (option_map (λ handle. handle.output) found) []) (sym new.0),
    ap (λ found. unwrap_or (option_map (λ handle. handle.input) found) []) new.1
        ∙ ap (λ found. unwrap_or (option_map (λ handle. handle.input) found) []) (sym new.0),
  )
]

-- And what each of them is.
pub appended_streams : (world : List HandleState) → KeepsStreams world (world ++ fresh Stream ∷ [])
appended_streams world h = (
  λ stream. record {
    handle = stream.handle;
    there = get-front world (fresh Stream ∷ []) h stream.handle stream.there;
    kind = stream.kind;
  },
  λ ended. appended_ended world h ended,
  appended_listens world h,
  appended_going world h,
)

-- Bytes stay where the handles do.
pub same_bytes : (old new : List HandleState) → new ≡ old → KeepsBytes old new
same_bytes old new same h = (ap (λ w. output_at w h) same, ap (λ w. input_at w h) same)

-- Bytes stay in one call and then in another.
pub bytes_then : (old mid new : List HandleState) → KeepsBytes old mid → KeepsBytes mid new → KeepsBytes old new
bytes_then old mid new first second h = ((second h).0 ∙ (first h).0, (second h).1 ∙ (first h).1)

-- What the call of an accept leaves: a handle more, or none.
pub accept_world : (old new : List HandleState) (listener : ℕ) (now : Request Buffer Parts) (call : Outcome)
    → IsMoved old (Accept listener) new now call → (new ≡ old) ⊎ (new ≡ old ++ fresh Stream ∷ [])
accept_world old new listener now call moved = by-told moved.told refl
  where
    by-told : (t : Told) → moved.told ≡ t → (new ≡ old) ⊎ (new ≡ old ++ fresh Stream ∷ [])
    by-told (told.Count k) is = inr (moved.world ∙ ap (λ x. (call_effect old (Accept listener) x).world) is)
    by-told (told.Fail e) is = inl (moved.world ∙ ap (λ x. (call_effect old (Accept listener) x).world) is)

-- Who isn't known is no handle of the user.
pub unknown_unheld : (table : Table) (h : ℕ) → is_old table h ≡ false → is_users table h ≡ false
unknown_unheld table h new = by-found (map.get table.holders h) refl
  where
    by-found : (found : Option Holders) → map.get table.holders h ≡ found
        → is_users table h ≡ false
    by-found None is = ap (λ o. nat_lt 0 (unwrap_or o nobody).user) is
    by-found (Some held) is =
        let no : ◌≡◌ {A = Bool} true false = sym (ap (λ o. is_some o || nat_le MOST_HANDLES h) is) ∙ new in
        absurd cc

-- What the user got it holds.
pub given_held : (old new : Table) (h : ℕ) → new.holders ≡ map.insert old.holders h by_user → is_users new h ≡ true
given_held old new h same =
    ap (λ m. nat_lt 0 (unwrap_or (map.get m h) nobody).user) same
    ∙ ap (λ o. nat_lt 0 (unwrap_or o nobody).user) (put-same old.holders h by_user)

module _ {I : Type 0} (view : I → IoView) (tells : Bool) where
  -- A call that leaves all widens nothing.
  pub stays_widens : (old new : LegacyState I Buf) → Stays view tells old new → Widens view tells old new
  stays_widens old new stays = record {
    later = stays.later;
    users = stays.users;
    ops = ops_fewer (ops_in old) (ops_in new) AnyRequest IsTransfer (λ request is. tt) stays.ops;
    bytes = λ t. same_bytes (world_of view old) (world_of view new) (stays.world t);
    streams = λ t. same_handles (world_of view old) (world_of view new) (stays.world t);
  }

  -- A served connection is served still.
  widens_served : {room : ℕ} (old new : LegacyState I Buf) (listener : ℕ) (conn : Connection) → Widens view tells old new
      → IsServed room (ops_in old) old.handling.table listener conn → IsServed room (ops_in new) new.handling.table listener conn
  widens_served old new listener conn widens served = record {
    fits = (kept-of old new conn widens.ops served.fits).fits;
    room_is = served.room_is;
    near = widens.users (near_of conn) served.near;
    far = widens.users (far_of conn) served.far;
    near_other = served.near_other;
    far_other = served.far_other;
  }
    where
      kept-of : (old new : LegacyState I Buf) (conn : Connection) → KeepsOps IsTransfer (ops_in old) (ops_in new)
          → FitsConnection (ops_in old) conn → IsKept (ops_in old) (ops_in new) conn
      kept-of old new conn keeps fits =
          connection_kept (ops_in old) (ops_in new) IsTransfer conn keeps (λ h own. receive_transfer _ h) (λ h own. send_transfer h) fits

  pub widens_all : {room : ℕ} (old new : LegacyState I Buf) (listener : ℕ) (all : List Connection) → Widens view tells old new
      → AreServed room (ops_in old) old.handling.table listener all → AreServed room (ops_in new) new.handling.table listener all
  widens_all old new listener all widens served = record {
    each = λ k conn at. widens_served old new listener conn widens (served.each k conn at);
    apart = served.apart;
  }

  -- Each connection is open still, and has the bytes on their way that it had.
  pub opening_widens : {room : ℕ} (start old new : LegacyState I Buf) (was all : List Connection) (listener : ℕ) → Widens view tells old new
      → AreServed room (ops_in old) old.handling.table listener all → Opening view tells start was old all
      → Opening view tells start was new all
  opening_widens start old new was all listener widens served opening = record {
    each = λ conn among.
        let still = opening.each conn among in
        let kept = connection_kept (ops_in old) (ops_in new) IsTransfer still.now widens.ops (λ h own. receive_transfer _ h)
        (λ h own. send_transfer h) (served.each still.place still.now still.there).fits in
        record {
          place = still.place;
          now = still.now;
          there = still.there;
          near = still.near;
          far = still.far;
          lines = lines_then tells (world_of view start) (world_of view old) (world_of view new) (near_of conn) (far_of conn)
              (held_forth (ops_in start) conn) (held_back (ops_in start) conn) (held_forth (ops_in old) still.now)
              (held_back (ops_in old) still.now) (held_forth (ops_in new) still.now) (held_back (ops_in new) still.now) opening.streams
              still.lines (bytes_lines tells (world_of view old) (world_of view new) (near_of conn) (far_of conn)
              (held_forth (ops_in old) still.now) (held_back (ops_in old) still.now) (held_forth (ops_in new) still.now)
              (held_back (ops_in new) still.now) (λ t. widens.bytes t (near_of conn)) (λ t. widens.bytes t (far_of conn)) kept.forth
              kept.back);
          mark = λ t marked. marked_kept (world_of view old) (world_of view new) still.now (widens.streams t) (still.mark t marked);
        };
    later = later-then (view start.handling.io) (view old.handling.io) (view new.handling.io) opening.later widens.later;
    bytes = λ t. bytes_then (world_of view start) (world_of view old) (world_of view new) (opening.bytes t) (widens.bytes t);
    streams = λ t. streams_then (world_of view start) (world_of view old) (world_of view new) (opening.streams t) (widens.streams t);
    marks = λ t marked. all_marked (world_of view old) (world_of view new) all (widens.streams t) (opening.marks t marked);
  }

  -- As a round begins each connection is open.
  pub opening_starts : (driver : LegacyState I Buf) (all : List Connection) → Opening view tells driver all driver all
  opening_starts driver all = record {
    each = λ conn among. record {
      place = among.0;
      now = conn;
      there = among.1;
      near = refl;
      far = refl;
      lines = record { forth_line = λ t a b. refl; back_line = λ t apart a b. refl };
      mark = λ t marked. marked;
    };
    later = later-same (view driver.handling.io);
    bytes = λ t h. (refl, refl);
    streams = λ t h. (λ stream. stream, λ ended. ended, λ listens. listens, λ going. going);
    marks = λ t marked. marked;
  }

  -- A further connection leaves each open.
  pub opening_pushed : (start now : LegacyState I Buf) (was all : List Connection) (conn : Connection)
      → conn.ending ≡ false → Opening view tells start was now all → Opening view tells start was now (all ++ conn ∷ [])
  opening_pushed start now was all conn going opening = record {
    each = λ one among.
        let still = opening.each one among in
        record {
          place = still.place;
          now = still.now;
          there = get-front all (conn ∷ []) still.place still.now still.there;
          near = still.near;
          far = still.far;
          lines = still.lines;
          mark = still.mark;
        };
    later = opening.later;
    bytes = opening.bytes;
    streams = opening.streams;
    marks = λ t marked. pushed_marked (world_of view now) all conn going (opening.marks t marked);
  }

  -- None has ended yet.
  pub opening_serving : (start now : LegacyState I Buf) (was all : List Connection) → Opening view tells start was now all
      → Serving view tells start was now all [] []
  opening_serving start now was all opening = record {
    each = λ conn among. inl (opening.each conn among);
    fails = λ lost among. none_lost lost among.0 among.1;
    later = opening.later;
    streams = opening.streams;
    marks = opening.marks;
  }
    where
      none_lost : {P : Type 0} (lost : Lost) (k : ℕ) → slice_get {X = Lost} [] k ≡ Some lost → P
      none_lost lost k at = absurd cc

-- A connection that has no handle of the others joins them.
pub served_pushed : {room : ℕ} (ops : Ops Buf) (table : Table) (listener : ℕ) (all : List Connection) (conn : Connection)
    → AreServed room ops table listener all → IsServed room ops table listener conn
    → ((one : Connection) → IsAmong all one → AreBeside one conn) → AreServed room ops table listener (all ++ conn ∷ [])
served_pushed ops table listener all conn served new beside = record {
  each = λ k one at. elim (get_pushed all conn k one at) [
    | inl was ↦ served.each k one was
    | inr is ↦ subst (IsServed _ ops table listener) (sym is.0) new
  ];
  apart = λ j k one other differ at_one at_other. elim (get_pushed all conn j one at_one) [
    | inl was ↦ elim (get_pushed all conn k other at_other) [
      | inl too ↦ served.apart j k one other differ was too
      | inr is ↦ subst (AreBeside one) (sym is.0) (beside one (j, was))
    ]
    | inr is ↦ elim (get_pushed all conn k other at_other) [
      | inl too ↦ subst (λ c. AreBeside c other) (sym is.0) (beside_swap other conn (beside other (k, too)))
      | inr too ↦ absurd (differ (is.1 ∙ sym too.1))
    ]
  ];
}

-- A handle that the user holds is none that it doesn't hold.
held_apart : (table : Table) (h g : ℕ) → is_users table h ≡ true → is_users table g ≡ false → h ≢ g
held_apart table h g held unheld same =
    let no : ◌≡◌ {A = Bool} true false = sym held ∙ (ap (is_users table) same ∙ unheld) in absurd cc

-- A handle that the user got is fresh.
pub fresh_new : {room : ℕ} (ops : Ops Buf) (old new : Table) (listener : ℕ) (all : List Connection) (h : ℕ) → is_users old listener ≡ true
    → AreServed room ops old listener all → IsNew old new h → IsFresh new listener all h
fresh_new ops old new listener all h listens served is = record {
  held = is.now;
  other = λ e. held_apart old listener h listens is.before (sym e);
  apart = λ conn among.
      let own = served.each among.0 conn among.1 in
      (held_apart old (near_of conn) h own.near is.before, held_apart old (far_of conn) h own.far is.before);
}

-- It is so still.
pub fresh_kept : (old new : Table) (listener : ℕ) (all : List Connection) (h : ℕ) → KeepsUsers old new → IsFresh old listener all h
    → IsFresh new listener all h
fresh_kept old new listener all h keeps fresh = record { held = keeps h fresh.held; other = fresh.other; apart = fresh.apart }

-- The other end is fresh, as the near one is.
pub fresh_far : {room : ℕ} (ops : Ops Buf) (old new : Table) (listener : ℕ) (all : List Connection) (near far : ℕ)
    → is_users old listener ≡ true
    → AreServed room ops old listener all → IsFresh new listener all near → IsFar old new near far → IsFresh new listener all far
fresh_far ops old new listener all near far listens served fresh (inl same) =
    subst (IsFresh new listener all) (sym same) fresh
fresh_far ops old new listener all near far listens served fresh (inr is) = fresh_new ops old new listener all far listens served is

-- A connection of fresh handles joins the others.
pub fresh_pushed : {room : ℕ} (ops : Ops Buf) (table : Table) (listener : ℕ) (all : List Connection) (conn : Connection)
    → AreServed room ops table listener all → IsFresh table listener all (near_of conn) → IsFresh table listener all (far_of conn)
    → FitsConnection ops conn → conn.room ≡ room → AreServed room ops table listener (all ++ conn ∷ [])
fresh_pushed ops table listener all conn served near far fits roomy =
    served_pushed ops table listener all conn served
    (record { fits = fits; room_is = roomy; near = near.held; far = far.held; near_other = near.other; far_other = far.other })
    (λ one among. record {
      near_near = (near.apart one among).0;
      near_far = (far.apart one among).0;
      far_near = (near.apart one among).1;
      far_far = (far.apart one among).1;
    })

module _ {I : Type 0} (view : I → IoView) (tells memory : Bool) where
  -- What an operation made was handed over: no bytes moved.
  pub handed_still : (old new : Handling I) (made : Option ℕ) → HandsOver view tells memory old made new
      → IsLater (view old.io) (view new.io) × (IsTrue tells → (view new.io).world ≡ (view old.io).world)
  handed_still old new None hands =
      (subst (λ h. IsLater (view old.io) (view h.io)) (sym hands) (later-same (view old.io)), λ t. ap (λ h. (view h.io).world) hands)
  handed_still old new (Some h) hands = by-taken hands.1.taken hands.1.tries
    where
      by-taken : (taken : Bool) → TriesFor tells memory h hands.1.key (view old.io) (view new.io) taken
          → IsLater (view old.io) (view new.io) × (IsTrue tells → (view new.io).world ≡ (view old.io).world)
      by-taken true tries = (tries.0.later, tries.0.world)
      by-taken false tries = (tries.0.later, tries.0.world)

  -- A turn moves no bytes.
  pub turned_widens : (reporting : Bool) (old new : LegacyState I Buf) (turned : Turned)
      → LegacyTurns view tells reporting memory old new turned → Widens view tells old new
  turned_widens reporting old new turned turns =
      let waited = by-stop turned.stop turns.does in
      record {
        later = waited.0;
        users = waited.1;
        ops = λ op held asked. ap (λ s. map.get s.values op.key) turns.slots;
        bytes = λ t. same_bytes (world_of view old) (world_of view new) (waited.2 t);
        streams = λ t. same_handles (world_of view old) (world_of view new) (waited.2 t);
      }
    where
      by-same : new.handling ≡ old.handling → IsLater (view old.handling.io) (view new.handling.io)
          × KeepsUsers old.handling.table new.handling.table × (IsTrue tells → world_of view new ≡ world_of view old)
      by-same same = (
        subst (λ h. IsLater (view old.handling.io) (view h.io)) (sym same) (later-same (view old.handling.io)),
        subst (λ h. KeepsUsers old.handling.table h.table) (sym same) (λ h held. held),
        λ t. ap (λ h. (view h.io).world) same,
      )

      by-stop : (s : Option Stop) → TurnsBy view tells reporting memory (turning_in old old.asked) (turning_in new turns.tasks) s
          → IsLater (view old.handling.io) (view new.handling.io)
          × KeepsUsers old.handling.table new.handling.table × (IsTrue tells → world_of view new ≡ world_of view old)
      by-stop None does = (
        does.object.later,
        subst (λ h. KeepsUsers old.handling.table h.table) (sym does.treats.handling) (λ h held. held),
        does.object.world,
      )
      by-stop (Some stop.RingFault) does = absurd does
      by-stop (Some stop.Busy) does = absurd does
      by-stop (Some (stop.BadCompletion word)) does = absurd does
      by-stop (Some (stop.Os code)) does = (
        does.0.object.later,
        subst (λ h. KeepsUsers old.handling.table h.table) (sym does.0.treats.handling) (λ h held. held),
        does.0.object.world,
      )
      by-stop (Some stop.OutOfMemory) (inl same) = by-same (ap (λ x. x.handling) same)
      by-stop (Some stop.OutOfMemory) (inr does) = (
        does.stops.object.later,
        subst (λ h. KeepsUsers old.handling.table h.table) (sym does.stops.treats.handling) (λ h held. held),
        does.stops.object.world,
      )
