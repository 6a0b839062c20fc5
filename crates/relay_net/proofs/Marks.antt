-- Which handles have ended, and so which connections are ending.
use Rattle.std.proofs.Common.{ℕ, zero, suc, ◌≡◌, ◌≤◌, ◌∙◌, ap, sym, refl, subst, arith, Bool, true, false, List, [], ◌∷◌, ◌++◌}
use Rattle.std.proofs.Common.{Option, Some, None, inl, inr, drop, length}
use Rattle.std.specs.Prelude.{◌&&◌, ◌⊎◌, option_map, slice_get, slice_set}
use Rattle.std.specs.List.{remove}
use Rattle.std.proofs.lemmas.Bool.Decides.{nat_tests}
use Rattle.machine.specs.declared.request.Call.TheVariants.{In}
use Rattle.machine.specs.declared.world.HandleKind.TheVariants.{Stream}
use Rattle.machine.specs.declared.world.HandleState.{HandleState}
use Rattle.machine.specs.Effect.{sent_to_kind, with_sent, without_front}
use Rattle.machine.specs.Lists.{amended, passes}
use Rattle.machine.specs.Outcome.{may_count, may_read}
use Rattle.machine.specs.World.{fresh, gives_bytes}
use Rattle.machine.proofs.Amended.{get-amended, get-amended-other}
use Rattle.machine.proofs.Numbers.{same-or-not}
use Rattle.driver_core.proofs.Lists.{get-front}
use Rattle.net_stream.specs.Told.{IsStream}
use Rattle.net_stream.proofs.Handles.{same_kind}
use Rattle.relay_net.specs.Connection.{FollowsAs, IsMarked, KeepsStreams, far_of, near_of}
use Rattle.relay_net.specs.Keeping.{HasEnded, MovesBetween}
use Rattle.relay_net.specs.Listening.{AreGoingBut, IsListener}
use Rattle.relay_net.specs.Relay.{AreMarked}
use Rattle.relay_net.specs.Steps.{EndsAt}
use Rattle.relay_net.specs.declared.connection.Connection.{Connection}
use Rattle.relay_net.specs.declared.connection.Served.{Served}
use Rattle.relay_net.specs.declared.flow.Came.{Came}
use Rattle.relay_net.specs.declared.flow.Came.TheVariants as came
use Rattle.relay_net.proofs.Places.{get_pushed, get_removed, get_set, get_set_other, placed}

-- A change of a handle keeps its kind, and a stream that has ended.
record KeepsEnded (change : HandleState → HandleState) : Type 0 where
  kind : (handle : HandleState) → (change handle).kind ≡ handle.kind
  spent : (handle : HandleState) → handle.kind ≡ Stream → (handle.input ≡ []) × (handle.ended ≡ true)
      → ((change handle).input ≡ []) × ((change handle).ended ≡ true)

-- What has ended has ended still, once a handle changed so.
amended_ended : (change : HandleState → HandleState) → KeepsEnded change → (world : List HandleState) (h g : ℕ) → HasEnded world g
    → HasEnded (amended world h change) g
amended_ended change keeps world h g ended = elim (same-or-not g h) [
  | inl e ↦ record {
    handle = change ended.handle;
    there = ap (slice_get (amended world h change)) e
        ∙ (get-amended change world h ∙ ap (option_map change) (sym (ap (slice_get world) e) ∙ ended.there));
    spent = λ stream.
        let was = sym (keeps.kind ended.handle) ∙ stream in
        keeps.spent ended.handle was (ended.spent was);
  }
  | inr e ↦ record { handle = ended.handle; there = get-amended-other change world h g e ∙ ended.there; spent = ended.spent }
]

-- Bytes that leave the input keep the end, and so do bytes that are sent.
none_left : (k : ℕ) → ◌≡◌ {A = List ℕ} (drop k []) []
none_left zero = refl
none_left (suc k) = refl

-- A receive keeps what has ended.
taken_keeps : (k : ℕ) → KeepsEnded (without_front k)
taken_keeps k = record {
  kind = λ handle. refl;
  spent = λ handle stream is. (ap (drop k) is.0 ∙ none_left k, is.1);
}

-- So does a send.
sent_keeps : (bytes : List ℕ) → KeepsEnded (with_sent bytes)
sent_keeps bytes = record {
  kind = λ handle. same_kind handle.kind bytes handle;
  spent = λ handle stream is. (
    ap (λ k. (sent_to_kind k bytes handle).input) stream ∙ is.0,
    ap (λ k. (sent_to_kind k bytes handle).ended) stream ∙ is.1,
  );
}

-- What moves between two handles keeps the end of each handle.
pub moves_ended : (old new : List HandleState) (near far : ℕ) → MovesBetween old near far new → (h : ℕ) → HasEnded old h → HasEnded new h
moves_ended old new near far (inl (inl same)) h ended = subst (λ w. HasEnded w h) (sym same) ended
moves_ended old new near far (inl (inr taken)) h ended =
    subst (λ w. HasEnded w h) (sym taken.1) (amended_ended (without_front taken.0) (taken_keeps taken.0) old near h ended)
moves_ended old new near far (inr (inl same)) h ended = subst (λ w. HasEnded w h) (sym same) ended
moves_ended old new near far (inr (inr sent)) h ended =
    subst (λ w. HasEnded w h) (sym sent.1) (amended_ended (with_sent sent.0) (sent_keeps sent.0) old far h ended)

-- So does a handle more.
pub appended_ended : (world : List HandleState) (h : ℕ) → HasEnded world h → HasEnded (world ++ fresh Stream ∷ []) h
appended_ended world h ended = record {
  handle = ended.handle;
  there = get-front world (fresh Stream ∷ []) h ended.handle ended.there;
  spent = ended.spent;
}

-- A receive that may have the count 0 is of a handle that has ended.
pub spent_here : (world : List HandleState) (room from : ℕ) → 1 ≤ room → may_count world (In from room) 0 ≡ true → HasEnded world from
spent_here world room from some may = by-found (slice_get world from) refl may
  where
    no_bytes : (bytes : List ℕ) → length bytes ≡ 0 → bytes ≡ []
    no_bytes [] none = refl
    no_bytes (byte ∷ bytes) none = absurd cc

    spent_of : (handle : HandleState) → gives_bytes handle.kind && may_read room 0 handle ≡ true
        → (handle.input ≡ []) × (handle.ended ≡ true)
    spent_of handle may =
        let none : length handle.input ≡ 0 = search (arith, nat_tests) in
        let ended : handle.ended ≡ true = search (arith, nat_tests) in
        (no_bytes handle.input none, ended)

    by-found : (found : Option HandleState) → slice_get world from ≡ found
        → passes (λ handle. gives_bytes handle.kind && may_read room 0 handle) found ≡ true → HasEnded world from
    by-found None is may = absurd cc
    by-found (Some handle) is may = record { handle = handle; there = is; spent = λ stream. spent_of handle may }

-- It has ended still once nothing left its input.
pub taken_ended : (k : ℕ) (world : List HandleState) (from : ℕ) → HasEnded world from → HasEnded (amended world from (without_front k)) from
taken_ended k world from ended = amended_ended (without_front k) (taken_keeps k) world from from ended

-- Handles that stay as they are, and streams through one call and then another.
pub same_handles : (old new : List HandleState) → new ≡ old → KeepsStreams old new
same_handles old new same h = (
  λ stream. subst (λ w. IsStream w h) (sym same) stream,
  λ ended. subst (λ w. HasEnded w h) (sym same) ended,
  λ listens. subst (λ w. IsListener w h) (sym same) listens,
  λ going. subst (AreGoingBut h) (sym same) going,
)

-- One call that keeps what handles are follows another.
pub streams_then : (old mid new : List HandleState) → KeepsStreams old mid → KeepsStreams mid new → KeepsStreams old new
streams_then old mid new first second h = (
  λ stream. (second h).0 ((first h).0 stream),
  λ ended. (second h).1 ((first h).1 ended),
  λ listens. (second h).2 ((first h).2 listens),
  λ going. (second h).3 ((first h).3 going),
)

-- What has ended has ended still.
abbrev pub KeepsEnds : List HandleState → List HandleState → Type 0
KeepsEnds old new = (h : ℕ) → HasEnded old h → HasEnded new h

-- A connection that was ending for a reason is ending for it still.
marked_still : (old new : List HandleState) (conn : Connection) → KeepsEnds old new → IsMarked old conn → IsMarked new conn
marked_still old new conn keeps marked ending = elim (marked ending) [
  | inl ended ↦ inl (keeps (near_of conn) ended)
  | inr ended ↦ inr (keeps (far_of conn) ended)
]

-- So are all connections.
pub all_still : (old new : List HandleState) (all : List Connection) → KeepsEnds old new → AreMarked old all → AreMarked new all
all_still old new all keeps marked conn among = marked_still old new conn keeps (marked conn among)

-- So it is where handles keep more.
pub marked_kept : (old new : List HandleState) (conn : Connection) → KeepsStreams old new → IsMarked old conn → IsMarked new conn
marked_kept old new conn keeps = marked_still old new conn (λ h. (keeps h).1)

-- And all connections.
pub all_marked : (old new : List HandleState) (all : List Connection) → KeepsStreams old new → AreMarked old all → AreMarked new all
all_marked old new all keeps = all_still old new all (λ h. (keeps h).1)

-- A connection with the same handles and the same mark is marked for the same.
pub marked_same : (world : List HandleState) (before now : Connection) → near_of now ≡ near_of before → far_of now ≡ far_of before
    → (now.ending ≡ true → before.ending ≡ true) → IsMarked world before → IsMarked world now
marked_same world before now near far was marked ending = elim (marked (was ending)) [
  | inl ended ↦ inl (subst (HasEnded world) (sym near) ended)
  | inr ended ↦ inr (subst (HasEnded world) (sym far) ended)
]

-- The mark of a connection behind a step of a direction that reads at one of its handles.
pub follows_marks : (old new : List HandleState) (c : Came) (before now : Connection) (answer : Served) (from : ℕ)
    → FollowsAs c before.ending now.ending answer → near_of now ≡ near_of before → far_of now ≡ far_of before → KeepsStreams old new
    → EndsAt new from c → (from ≡ near_of before) ⊎ (from ≡ far_of before) → IsMarked old before → IsMarked new now
follows_marks old new came.Goes before now answer from is near far keeps ends own marked =
    marked_same new before now near far (λ ending. sym is.0 ∙ ending) (marked_kept old new before keeps marked)
follows_marks old new came.Ended before now answer from is near far keeps ends (inl own) marked =
    λ ending. inl (subst (HasEnded new) (own ∙ sym near) ends)
follows_marks old new came.Ended before now answer from is near far keeps ends (inr own) marked =
    λ ending. inr (subst (HasEnded new) (own ∙ sym far) ends)
follows_marks old new (came.Failed error) before now answer from is near far keeps ends own marked =
    marked_same new before now near far (λ ending. sym is.0 ∙ ending) (marked_kept old new before keeps marked)
follows_marks old new (came.Stopped because) before now answer from is near far keeps ends own marked =
    marked_same new before now near far (λ ending. sym is.0 ∙ ending) (marked_kept old new before keeps marked)

-- Of two handles one that has ended has ended still.
pub either_kept : (old new : List HandleState) (near far : ℕ) → KeepsStreams old new → HasEnded old near ⊎ HasEnded old far
    → HasEnded new near ⊎ HasEnded new far
either_kept old new near far keeps (inl ended) = inl ((keeps near).1 ended)
either_kept old new near far keeps (inr ended) = inr ((keeps far).1 ended)

-- The same of handles that are called otherwise.
pub either_same : (old new : List HandleState) (near far one other : ℕ) → new ≡ old → near ≡ one → far ≡ other
    → HasEnded old near ⊎ HasEnded old far → HasEnded new one ⊎ HasEnded new other
either_same old new near far one other same is_near is_far (inl ended) =
    inl (subst (λ w. HasEnded w one) (sym same) (subst (HasEnded old) is_near ended))
either_same old new near far one other same is_near is_far (inr ended) =
    inr (subst (λ w. HasEnded w other) (sym same) (subst (HasEnded old) is_far ended))

-- All are marked for what they are once one had its round, once one was taken out, and once a further one came that isn't ending.
pub set_marked : (old new : List HandleState) (all : List Connection) (k : ℕ) (conn now : Connection) → slice_get all k ≡ Some conn
    → KeepsStreams old new → (IsMarked old conn → IsMarked new now) → AreMarked old all → AreMarked new (slice_set all k now)
set_marked old new all k conn now there keeps mine marked other among = elim (same-or-not among.0 k) [
  | inl e ↦ let both : Some now ≡ Some other = sym (ap (slice_get (slice_set all k now)) e ∙ get_set all k conn now there) ∙ among.1 in
      let same : now ≡ other = cc in
      subst (IsMarked new) same (mine (marked conn (k, there)))
  | inr e ↦ marked_kept old new other keeps (marked other (among.0, sym (get_set_other all k among.0 now e) ∙ among.1))
]

-- So are those that are left once one is taken out.
pub removed_marked : (world : List HandleState) (all : List Connection) (k : ℕ) → AreMarked world all → AreMarked world (remove all k)
removed_marked world all k marked other among =
    marked other (placed k among.0, sym (get_removed all k among.0) ∙ among.1)

-- And with one more that isn't ending.
pub pushed_marked : (world : List HandleState) (all : List Connection) (conn : Connection) → conn.ending ≡ false → AreMarked world all
    → AreMarked world (all ++ conn ∷ [])
pushed_marked world all conn going marked other among = elim (get_pushed all conn among.0 other among.1) [
  | inl was ↦ marked other (among.0, was)
  | inr new ↦ λ ending. let no : ◌≡◌ {A = Bool} true false = sym ending ∙ (ap (λ c. c.ending) new.0 ∙ going) in absurd cc
]
