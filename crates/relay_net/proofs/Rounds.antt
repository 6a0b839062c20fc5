-- What the steps of a round forward of each connection, over handles in memory.
use Rattle.std.proofs.Common.{ℕ, zero, suc, ◌≡◌, ◌≢◌, ◌≤◌, ◌∙◌, ap, sym, refl, subst, arith, Bool, IsTrue, true, false}
use Rattle.std.proofs.Common.{List, [], ◌∷◌, ◌++◌, length, Some, inl, inr}
use Rattle.std.specs.Prelude.{nat_lt, slice_get, slice_set}
use Rattle.std.specs.List.{remove}
use Rattle.std.proofs.lemmas.Bool.Decides.{nat_tests}
use Rattle.std.proofs.lemmas.Option.{slice_get_within}
use Rattle.rent_buf.specs.declared.plain.Buf.{Buf}
use Rattle.machine.specs.World.{input_at}
use Rattle.machine.proofs.Numbers.{same-or-not}
use Rattle.machine.proofs.Appended.{get-append-end}
use Rattle.ready_driver.specs.Io.{IoView}
use Rattle.ready_driver.specs.LegacyState.{LegacyState, ops_in}
use Rattle.ready_driver.specs.Registry.{is_users}
use Rattle.net_stream.specs.Told.{IsStream, output_at}
use Rattle.relay_net.specs.Connection.{EndsConnection, Serves}
use Rattle.relay_net.specs.Connection.{far_of, held_back, held_forth, near_of}
use Rattle.relay_net.specs.Forwarding.{AreUntouched, CanForward, Forwards, ForwardsBoth, HasForwarded, HaveForwarded, IsSeen}
use Rattle.relay_net.specs.Forwarding.{IsUntouched}
use Rattle.relay_net.specs.Forwarding.{KeepsSeen, KeepsSeenBut, RoundAt, RoundBut, RoundOn, RoundTo}
use Rattle.relay_net.specs.Keeping.{world_of}
use Rattle.relay_net.specs.Opening.{IsTransfer, Opening, Widens}
use Rattle.relay_net.specs.Relay.{AreServed, IsAmong}
use Rattle.relay_net.specs.declared.connection.Connection.{Connection}
use Rattle.relay_net.specs.declared.connection.Served.{Served}
use Rattle.relay_net.specs.declared.connection.Served.TheVariants as answered
use Rattle.relay_net.proofs.Beside.{connection_kept, found_same, outside_kept}
use Rattle.relay_net.proofs.Opens.{receive_transfer, send_transfer}
use Rattle.driver_core.proofs.Lists.{get-front}
use Rattle.relay_net.proofs.Places.{get_pushed, get_removed, get_set, get_set_other, placed, placed_other}
use Rattle.relay_net.proofs.Stepping.{forwards_same}

-- What several calls of a round forward.
module _ {I : Type 0} (view : I → IoView) (tells memory : Bool) (told : IsTrue memory → IsTrue tells) where
  -- A connection beside which a call was made: what it forwarded, and what wasn't touched of it.
  forwarded_beside : (start old new : LegacyState I Buf) (conn now : Connection)
      → output_at (world_of view new) (near_of conn) ≡ output_at (world_of view old) (near_of conn)
      → output_at (world_of view new) (far_of conn) ≡ output_at (world_of view old) (far_of conn)
      → held_forth (ops_in new) now ≡ held_forth (ops_in old) now → held_back (ops_in new) now ≡ held_back (ops_in old) now
      → HasForwarded view start conn old now → HasForwarded view start conn new now
  forwarded_beside start old new conn now near far forth back has near_stream far_stream going =
      let both = has near_stream far_stream going in
      record {
        forth = forwards_same conn.room (world_of view start) (world_of view start) (world_of view old) (world_of view new) (near_of conn)
            (far_of conn) (held_forth (ops_in start) conn) (held_forth (ops_in start) conn) (held_forth (ops_in old) now)
            (held_forth (ops_in new) now) refl refl refl far forth both.forth;
        back = λ apart. forwards_same conn.room (world_of view start) (world_of view start) (world_of view old) (world_of view new)
            (far_of conn)
            (near_of conn) (held_back (ops_in start) conn) (held_back (ops_in start) conn) (held_back (ops_in old) now)
            (held_back (ops_in new) now) refl refl refl near back (both.back apart);
      }

  untouched_beside : (start old new : LegacyState I Buf) (conn now : Connection)
      → (output_at (world_of view new) (near_of conn) ≡ output_at (world_of view old) (near_of conn))
      × (input_at (world_of view new) (near_of conn) ≡ input_at (world_of view old) (near_of conn))
      → (output_at (world_of view new) (far_of conn) ≡ output_at (world_of view old) (far_of conn))
      × (input_at (world_of view new) (far_of conn) ≡ input_at (world_of view old) (far_of conn))
      → (CanForward view old (near_of conn) (far_of conn) → CanForward view new (near_of conn) (far_of conn))
      → held_forth (ops_in new) now ≡ held_forth (ops_in old) now → held_back (ops_in new) now ≡ held_back (ops_in old) now
      → IsUntouched view start conn old now → IsUntouched view start conn new now
  untouched_beside start old new conn now near far can forth back is = record {
    room = is.room;
    forth = forth ∙ is.forth;
    back = back ∙ is.back;
    near = (near.0 ∙ is.near.0, near.1 ∙ is.near.1);
    far = (far.0 ∙ is.far.0, far.1 ∙ is.far.1);
    forwards = λ a b. can (is.forwards a b);
  }

  round_beside : (b : Bool) (start old new : LegacyState I Buf) (conn now : Connection)
      → (output_at (world_of view new) (near_of conn) ≡ output_at (world_of view old) (near_of conn))
      × (input_at (world_of view new) (near_of conn) ≡ input_at (world_of view old) (near_of conn))
      → (output_at (world_of view new) (far_of conn) ≡ output_at (world_of view old) (far_of conn))
      × (input_at (world_of view new) (far_of conn) ≡ input_at (world_of view old) (far_of conn))
      → (CanForward view old (near_of conn) (far_of conn) → CanForward view new (near_of conn) (far_of conn))
      → held_forth (ops_in new) now ≡ held_forth (ops_in old) now → held_back (ops_in new) now ≡ held_back (ops_in old) now
      → RoundAt view b start conn old now → RoundAt view b start conn new now
  round_beside true start old new conn now near far can forth back has =
      forwarded_beside start old new conn now near.0 far.0 forth back has
  round_beside false start old new conn now near far can forth back is =
      untouched_beside start old new conn now near far can forth back is

  -- The step of one that wasn't touched.
  untouched_served : (start old new : LegacyState I Buf) (conn before now : Connection) → near_of before ≡ near_of conn
      → far_of before ≡ far_of conn → IsUntouched view start conn old before
      → (CanForward view old (near_of before) (far_of before) → now.ending ≡ false → ForwardsBoth view old before new now)
      → HasForwarded view start conn new now
  untouched_served start old new conn before now near far is does near_stream far_stream going =
      let can = subst (λ h. CanForward view old h (far_of before)) (sym near) (subst (CanForward view old (near_of conn)) (sym far)
      (is.forwards near_stream far_stream)) in
      let both = does can going in
      let forth : Forwards conn.room (world_of view old) (world_of view new) (near_of conn) (far_of conn) (held_forth (ops_in old) before)
      (held_forth (ops_in new) now) =
      subst (λ h. Forwards conn.room (world_of view old) (world_of view new) h (far_of conn) (held_forth (ops_in old) before)
      (held_forth (ops_in new) now)) near (subst (λ h. Forwards conn.room (world_of view old) (world_of view new) (near_of before) h
      (held_forth (ops_in old) before) (held_forth (ops_in new) now)) far
      (subst (λ r. Forwards r (world_of view old) (world_of view new) (near_of before) (far_of before) (held_forth (ops_in old) before)
      (held_forth (ops_in new) now)) is.room both.forth)) in
      record {
        forth = forwards_same conn.room (world_of view old) (world_of view start) (world_of view new) (world_of view new) (near_of conn)
            (far_of conn)
            (held_forth (ops_in old) before) (held_forth (ops_in start) conn) (held_forth (ops_in new) now) (held_forth (ops_in new) now)
            is.far.0 is.near.1 is.forth refl refl forth;
        back = λ apart.
            let back : Forwards conn.room (world_of view old) (world_of view new) (far_of conn) (near_of conn)
            (held_back (ops_in old) before)
            (held_back (ops_in new) now) =
            subst (λ h. Forwards conn.room (world_of view old) (world_of view new) h (near_of conn) (held_back (ops_in old) before)
            (held_back (ops_in new) now)) far (subst (λ h. Forwards conn.room (world_of view old) (world_of view new) (far_of before) h
            (held_back (ops_in old) before) (held_back (ops_in new) now)) near
            (subst (λ r. Forwards r (world_of view old) (world_of view new) (far_of before) (near_of before)
            (held_back (ops_in old) before) (held_back (ops_in new) now)) is.room (both.back (λ same. apart (sym near ∙ (same ∙ far)))))) in
            forwards_same conn.room (world_of view old) (world_of view start) (world_of view new) (world_of view new) (far_of conn)
            (near_of conn)
            (held_back (ops_in old) before) (held_back (ops_in start) conn) (held_back (ops_in new) now) (held_back (ops_in new) now)
            is.near.0 is.far.1 is.back refl refl back;
      }

  -- What the step at a place came to, of all.
  pub round_served : {room : ℕ} (start old new : LegacyState I Buf) (was all : List Connection) (at : ℕ) (conn now : Connection)
      (answer : Served)
      (listener : ℕ) → AreServed room (ops_in old) old.handling.table listener all → slice_get all at ≡ Some conn
      → Serves view tells old new conn now answer → KeepsSeen view memory old new → IsTrue memory
      → (CanForward view old (near_of conn) (far_of conn) → now.ending ≡ false → answer ≡ answered.Open
      → ForwardsBoth view old conn new now)
      → RoundTo view start was old all at → RoundOn view start was new (slice_set all at now) at answer
  round_served start old new was all at conn now answer listener served there serves seen memory_is does round =
      by answer refl
    where
      t : IsTrue tells
      t = told memory_is

      beside : (one other : Connection) (k : ℕ) → IsAmong was one → slice_get (slice_set all at now) k ≡ Some other
          → near_of other ≡ near_of one → k ≢ at → (far_of other ≡ far_of one) × RoundAt view (nat_lt k at) start one new other
      beside one other k among found same differ =
          let was_there = sym (get_set_other all at k now differ) ∙ found in
          let had = round one other k among was_there same in
          let apart = served.apart k at other conn differ was_there there in
          let own = served.each k other was_there in
          let kept = outside_kept (ops_in old) (ops_in new) (near_of conn) (far_of conn) other serves.leaves.ops apart own.fits in
          let near_apart : near_of one ≢ near_of conn = λ e. apart.near_near (same ∙ e) in
          let near_far : near_of one ≢ far_of conn = λ e. apart.near_far (same ∙ e) in
          let far_apart : far_of one ≢ near_of conn = λ e. apart.far_near (had.0 ∙ e) in
          let far_far : far_of one ≢ far_of conn = λ e. apart.far_far (had.0 ∙ e) in (
            had.0,
            round_beside (nat_lt k at) start old new one other (serves.leaves.elsewhere t (near_of one) near_apart near_far)
                (serves.leaves.elsewhere t (far_of one) far_apart far_far)
                (λ can. record {
                  from_stream = (serves.leaves.streams t (near_of one)).0 can.from_stream;
                  to_stream = (serves.leaves.streams t (far_of one)).0 can.to_stream;
                  from_seen = seen memory_is (near_of one) (ap (is_users old.handling.table) (sym same) ∙ own.near) can.from_stream
                      can.from_seen;
                  to_seen = seen memory_is (far_of one) (ap (is_users old.handling.table) (sym had.0) ∙ own.far) can.to_stream can.to_seen;
                }) kept.forth kept.back had.1,
          )

      but : RoundBut view start was new (slice_set all at now) at
      but one other k among found same = elim (same-or-not k at) [
        | inl e ↦ (
            let is : now ≡ other = found_same (slice_get (slice_set all at now) k) now other
            (ap (slice_get (slice_set all at now)) e ∙ get_set all at conn now there) found in
            let near : near_of conn ≡ near_of one = sym serves.near ∙ (ap near_of is ∙ same) in
            (sym (ap far_of is) ∙ (serves.far ∙ (round one conn at among there near).0), λ differ. absurd (differ e)))
        | inr e ↦ (let had = beside one other k among found same e in (had.0, λ differ. had.1))
      ]

      later_place : (k : ℕ) → k ≢ at → nat_lt k (suc at) ≡ nat_lt k at
      later_place k differ = search (arith, nat_tests)

      to : answer ≡ answered.Open → RoundTo view start was new (slice_set all at now) (suc at)
      to kept_open one other k among found same = elim (same-or-not k at) [
        | inl e ↦ (
            let is : now ≡ other = found_same (slice_get (slice_set all at now) k) now other
            (ap (slice_get (slice_set all at now)) e ∙ get_set all at conn now there) found in
            let near : near_of conn ≡ near_of one = sym serves.near ∙ (ap near_of is ∙ same) in
            let had = round one conn at among there near in
            let here : nat_lt at at ≡ false = search (arith, nat_tests) in
            let front : nat_lt k (suc at) ≡ true = search (arith, nat_tests) in
            let untouched = subst (λ b. RoundAt view b start one old conn) here had.1 in
            let forwarded = untouched_served start old new one conn now near had.0 untouched (λ can going. does can going kept_open) in (
              sym (ap far_of is) ∙ (serves.far ∙ had.0),
              subst (λ b. RoundAt view b start one new other) (sym front) (subst (HasForwarded view start one new) is forwarded),
            ))
        | inr e ↦ (
            let had = beside one other k among found same e in
            (had.0, subst (λ b. RoundAt view b start one new other) (sym (later_place k e)) had.1))
      ]

      by : (a : Served) → answer ≡ a → RoundOn view start was new (slice_set all at now) at a
      by answered.Open is = to is
      by answered.Closed is = but
      by (answered.Failed error) is = but
      by (answered.Stopped why) is = tt

  -- The one at a place was taken out and ended.
  pub round_removed : {room : ℕ} (start old new : LegacyState I Buf) (was all : List Connection) (at : ℕ) (conn : Connection) (listener : ℕ)
      → AreServed room (ops_in old) old.handling.table listener all → slice_get all at ≡ Some conn
      → EndsConnection view tells old (near_of conn) (far_of conn) new
      → KeepsSeenBut view memory old (near_of conn) (far_of conn) new → IsTrue memory
      → RoundBut view start was old all at → RoundTo view start was new (remove all at) at
  round_removed start old new was all at conn listener served there ends seen memory_is round one other k among found same =
      let t = told memory_is in
      let from = placed at k in
      let differ : from ≢ at = placed_other at k in
      let was_there = sym (get_removed all at k) ∙ found in
      let had = round one other from among was_there same in
      let apart = served.apart from at other conn differ was_there there in
      let own = served.each from other was_there in
      let kept = outside_kept (ops_in old) (ops_in new) (near_of conn) (far_of conn) other ends.ops apart own.fits in
      let near_apart : near_of one ≢ near_of conn = λ e. apart.near_near (same ∙ e) in
      let near_far : near_of one ≢ far_of conn = λ e. apart.near_far (same ∙ e) in
      let far_apart : far_of one ≢ near_of conn = λ e. apart.far_near (had.0 ∙ e) in
      let far_far : far_of one ≢ far_of conn = λ e. apart.far_far (had.0 ∙ e) in
      let world = ends.world t in
      let stays : (h : ℕ) → (output_at (world_of view new) h ≡ output_at (world_of view old) h)
      × (input_at (world_of view new) h ≡ input_at (world_of view old) h) =
      λ h. (ap (λ w. output_at w h) world, ap (λ w. input_at w h) world) in (
        had.0,
        subst (λ b. RoundAt view b start one new other) (place_kept at k)
            (round_beside (nat_lt from at) start old new one other (stays (near_of one)) (stays (far_of one))
            (λ can. record {
              from_stream = subst (λ w. IsStream w (near_of one)) (sym world) can.from_stream;
              to_stream = subst (λ w. IsStream w (far_of one)) (sym world) can.to_stream;
              from_seen = seen memory_is (near_of one) near_apart near_far (ap (is_users old.handling.table) (sym same) ∙ own.near)
                  can.from_stream can.from_seen;
              to_seen = seen memory_is (far_of one) far_apart far_far (ap (is_users old.handling.table) (sym had.0) ∙ own.far) can.to_stream
                  can.to_seen;
            }) kept.forth kept.back (had.1 differ)),
      )
    where
      place_kept : (at k : ℕ) → nat_lt (placed at k) at ≡ nat_lt k at
      place_kept zero zero = search (arith, nat_tests)
      place_kept zero (suc k) = search (arith, nat_tests)
      place_kept (suc at) zero = search (arith, nat_tests)
      place_kept (suc at) (suc k) =
          let was = place_kept at k in search (arith, nat_tests)

  -- As the steps begin none came, and as they end all did.
  pub round_starts : (start driver : LegacyState I Buf) (was all : List Connection) → AreUntouched view start was driver all
      → RoundTo view start was driver all 0
  round_starts start driver was all untouched one other k among found same =
      let had = untouched one other k among found same in
      let none : nat_lt k 0 ≡ false = search (arith, nat_tests) in
      (had.0, subst (λ b. RoundAt view b start one driver other) (sym none) had.1)

  pub round_ends : (start driver : LegacyState I Buf) (was all : List Connection) (at : ℕ) → length all ≤ at
      → RoundTo view start was driver all at → HaveForwarded view start was driver all
  round_ends start driver was all at whole round one other k among found same =
      let had = round one other k among found same in
      let within = slice_get_within all k other found in
      let front : nat_lt k at ≡ true = search (arith, nat_tests) in
      (had.0, subst (λ b. RoundAt view b start one driver other) front had.1)

  -- A call that moves no bytes touches none.
  pub untouched_widens : {room : ℕ} (start old new : LegacyState I Buf) (was all : List Connection) (listener : ℕ)
      → Widens view tells old new
      → KeepsSeen view memory old new → IsTrue memory → AreServed room (ops_in old) old.handling.table listener all
      → AreUntouched view start was old all → AreUntouched view start was new all
  untouched_widens start old new was all listener widens seen memory_is served untouched one other k among found same =
      let t = told memory_is in
      let had = untouched one other k among found same in
      let own = served.each k other found in
      let kept = connection_kept (ops_in old) (ops_in new) IsTransfer other widens.ops (λ h is. receive_transfer _ h)
      (λ h is. send_transfer h) own.fits in (
        had.0,
        untouched_beside start old new one other (widens.bytes t (near_of one)) (widens.bytes t (far_of one))
            (λ can. record {
              from_stream = (widens.streams t (near_of one)).0 can.from_stream;
              to_stream = (widens.streams t (far_of one)).0 can.to_stream;
              from_seen = seen memory_is (near_of one) (ap (is_users old.handling.table) (sym same) ∙ own.near) can.from_stream
                  can.from_seen;
              to_seen = seen memory_is (far_of one) (ap (is_users old.handling.table) (sym had.0) ∙ own.far) can.to_stream can.to_seen;
            }) kept.forth kept.back had.1,
      )

  -- Nor does a further connection, which has no handle of the others.
  pub untouched_pushed : {room : ℕ} (start now : LegacyState I Buf) (was all : List Connection) (conn : Connection) (listener : ℕ)
      → AreServed room (ops_in now) now.handling.table listener (all ++ conn ∷ []) → Opening view tells start was now all
      → AreUntouched view start was now all → AreUntouched view start was now (all ++ conn ∷ [])
  untouched_pushed start now was all conn listener served opening untouched one other k among found same =
      elim (get_pushed all conn k other found) [
        | inl there ↦ untouched one other k among there same
        | inr is ↦ (
            let still = opening.each one among in
            let within = slice_get_within all still.place still.now still.there in
            let apart = served.apart still.place (length all) still.now conn (λ e. absurd (omega (arith, within, e)))
            (get-front all (conn ∷ []) still.place still.now still.there) (get-append-end all conn) in
            absurd (apart.near_near (still.near ∙ (sym same ∙ ap near_of is.0))))
      ]

  -- Behind a turn the bits of each handle of the user show what it has, and no connection was touched.
  pub untouched_starts : {room : ℕ} (old new : LegacyState I Buf) (all : List Connection) (listener : ℕ) → Widens view tells old new
      → IsTrue tells → AreServed room (ops_in old) old.handling.table listener all
      → ((h : ℕ) → is_users new.handling.table h ≡ true → IsSeen view new h) → AreUntouched view old all new all
  untouched_starts old new all listener widens t served seen one other k among found same =
      let is : other ≡ one = elim (same-or-not k among.0) [
        | inl e ↦ found_same (slice_get all k) other one found (ap (slice_get all) e ∙ among.1)
        | inr e ↦ absurd ((served.apart k among.0 other one e found among.1).near_near same)
      ] in
      let own = served.each among.0 one among.1 in
      let kept = connection_kept (ops_in old) (ops_in new) IsTransfer one widens.ops (λ h is. receive_transfer _ h)
      (λ h is. send_transfer h)
      own.fits in (
        ap far_of is,
        subst (IsUntouched view old one new) (sym is) (record {
          room = refl;
          forth = kept.forth;
          back = kept.back;
          near = widens.bytes t (near_of one);
          far = widens.bytes t (far_of one);
          forwards = λ near_stream far_stream. record {
            from_stream = (widens.streams t (near_of one)).0 near_stream;
            to_stream = (widens.streams t (far_of one)).0 far_stream;
            from_seen = seen (near_of one) (widens.users (near_of one) own.near);
            to_seen = seen (far_of one) (widens.users (far_of one) own.far);
          };
        }),
      )
