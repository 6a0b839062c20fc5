-- What a round of one connection leaves of all connections.
use Rattle.std.proofs.Common.{ℕ, ◌≡◌, ◌≢◌, ◌∙◌, ap, sym, refl, subst, arith, Bool, IsTrue, List, [], ◌∷◌, ◌++◌, length}
use Rattle.std.proofs.Common.{Option, Some, None, Ok, Err, inl, inr}
use Rattle.std.specs.Prelude.{◌⊎◌, Result, slice_get, slice_set}
use Rattle.std.proofs.lemmas.Option.{slice_get_within}
use Rattle.std.specs.List.{remove}
use Rattle.rent_buf.specs.Counts.{Rose}
use Rattle.rent_buf.specs.declared.plain.Buf.{Buf}
use Rattle.handle_core.specs.Table.{Table}
use Rattle.machine.specs.World.{input_at}
use Rattle.machine.proofs.Numbers.{same-or-not}
use Rattle.machine.proofs.Appended.{get-append-end}
use Rattle.driver_core.specs.Ops.{Ops}
use Rattle.driver_core.specs.declared.op.Op.{Op}
use Rattle.ready_driver.specs.Io.{IoView, IsLater}
use Rattle.ready_driver.specs.LegacyState.{LegacyState, ops_in}
use Rattle.ready_driver.specs.Registry.{is_users}
use Rattle.ready_driver.proofs.Still.{later-then}
use Rattle.net_stream.specs.Told.{output_at}
use Rattle.driver_core.proofs.Lists.{get-front}
use Rattle.relay_net.specs.Connection.{EndsConnection, IsLostAs, IsMarked, IsOutside, IsOver, KeepsLines}
use Rattle.relay_net.specs.Connection.{KeepsStreams, LeavesConnection, Serves, far_of, held_back, held_forth, near_of}
use Rattle.relay_net.specs.Flow.{asked_at}
use Rattle.relay_net.specs.Keeping.{KeepsOps, world_of}
use Rattle.relay_net.specs.Relay.{AreBeside, AreServed, Becomes, FitsAccept, IsAccept, IsAmong, IsApartFrom}
use Rattle.relay_net.specs.Relay.{IsServed, IsSound, Serving, StopsUnless, WasClosed, WasLost}
use Rattle.relay_net.specs.declared.connection.Connection.{Connection}
use Rattle.relay_net.specs.declared.connection.Served.{Served}
use Rattle.relay_net.specs.declared.round.Lost.{Lost}
use Rattle.relay_net.specs.declared.round.RelayError.{RelayError}
use Rattle.relay_net.specs.declared.round.RelayError.TheVariants as why
use Rattle.relay_net.proofs.Marks.{all_marked, either_kept, either_same, marked_kept, removed_marked, same_handles, set_marked}
use Rattle.relay_net.proofs.Marks.{streams_then}
use Rattle.relay_net.proofs.Calls.{pending_kept}
use Rattle.relay_net.proofs.Connections.{asked_as}
use Rattle.relay_net.proofs.Places.{get_removed, get_set, get_set_other, placed, placed_differ}
use Rattle.relay_net.proofs.Places.{placed_from, placed_other}
use Rattle.relay_net.proofs.Beside.{accept_outside, beside_same, beside_swap, bytes_lines, found_same, lines_then, outside_kept}

module _ {I : Type 0} (view : I → IoView) (tells : Bool) where
  -- A served connection beside the one that a call is about is served still.
  served_beside : {room : ℕ} (old new : LegacyState I Buf) (near far listener : ℕ) (conn : Connection)
      → LeavesConnection view tells old near far new
      → IsApartFrom conn near far → IsServed room (ops_in old) old.handling.table listener conn
      → IsServed room (ops_in new) new.handling.table listener conn
  served_beside old new near far listener conn leaves apart served = record {
    fits = (outside_kept (ops_in old) (ops_in new) near far conn leaves.ops apart served.fits).fits;
    room_is = served.room_is;
    near = leaves.users (near_of conn) served.near;
    far = leaves.users (far_of conn) served.far;
    near_other = served.near_other;
    far_other = served.far_other;
  }

  -- The accept that waits is kept.
  accept_beside : (old new : Ops Buf) (near far listener : ℕ) (accept : Option Op) → KeepsOps (IsOutside near far) old new
      → FitsAccept old listener accept → FitsAccept new listener accept
  accept_beside old new near far listener None keeps fits = tt
  accept_beside old new near far listener (Some op) keeps fits =
      pending_kept old new op (IsAccept listener)
      (keeps op fits.holds (asked_as (asked_at old op) (IsAccept listener) (IsOutside near far) (accept_outside listener near far)
      fits.asks))
      fits

  -- All connections are served once one of them had its round.
  pub sound_set : {room : ℕ} (old new : LegacyState I Buf) (listener : ℕ) (accept : Option Op) (all : List Connection) (k : ℕ)
      (conn now : Connection)
      (answer : Served) → IsSound room (ops_in old) old.handling.table listener accept all → slice_get all k ≡ Some conn
      → Serves view tells old new conn now answer
      → IsSound room (ops_in new) new.handling.table listener accept (slice_set all k now)
  sound_set old new listener accept all k conn now answer sound there serves =
      let near = near_of conn in
      let far = far_of conn in
      let served = sound.served in
      let mine = served.each k conn there in
      record {
        roomy = sound.roomy;
        listens = serves.leaves.users listener sound.listens;
        accepts = accept_beside (ops_in old) (ops_in new) near far listener accept serves.leaves.ops sound.accepts;
        served = record {
          each = λ j other at. elim (same-or-not j k) [
            | inl e ↦ subst (IsServed _ (ops_in new) new.handling.table listener)
                (found_same (slice_get (slice_set all k now) j) now other
                (ap (slice_get (slice_set all k now)) e ∙ get_set all k conn now there) at)
                (record {
                  fits = serves.fits;
                  room_is = serves.room ∙ mine.room_is;
                  near = ap (is_users new.handling.table) serves.near ∙ serves.leaves.users near mine.near;
                  far = ap (is_users new.handling.table) serves.far ∙ serves.leaves.users far mine.far;
                  near_other = λ same. mine.near_other (sym serves.near ∙ same);
                  far_other = λ same. mine.far_other (sym serves.far ∙ same);
                })
            | inr e ↦ let was = sym (get_set_other all k j now e) ∙ at in
                served_beside old new near far listener other serves.leaves (served.apart j k other conn e was there)
                (served.each j other was)
          ];
          apart = λ i j one other differ at_one at_other. elim (same-or-not i k) [
            | inl e ↦ let j-other : j ≢ k = λ same. differ (e ∙ sym same) in
                let one-is = found_same (slice_get (slice_set all k now) i) now one
                (ap (slice_get (slice_set all k now)) e ∙ get_set all k conn now there) at_one in
                let was = sym (get_set_other all k j now j-other) ∙ at_other in
                subst (λ o. AreBeside o other) one-is
                (beside_swap other now (beside_same other conn now serves.near serves.far (served.apart j k other conn j-other was there)))
            | inr e ↦ elim (same-or-not j k) [
              | inl f ↦ let other-is = found_same (slice_get (slice_set all k now) j) now other
                  (ap (slice_get (slice_set all k now)) f ∙ get_set all k conn now there) at_other in
                  let was = sym (get_set_other all k i now e) ∙ at_one in
                  subst (AreBeside one) other-is (beside_same one conn now serves.near serves.far (served.apart i k one conn e was there))
              | inr f ↦ served.apart i j one other differ (sym (get_set_other all k i now e) ∙ at_one)
                  (sym (get_set_other all k j now f) ∙ at_other)
            ]
          ];
        };
      }

  -- What became of a connection beside another one's round, or of the one that had it.
  becomes_set : {room : ℕ} (start old new : LegacyState I Buf) (was conn now : Connection) (answer : Served) (all : List Connection) (k : ℕ)
      (closed : List ℕ) (failed : List Lost) (listener : ℕ) → (IsTrue tells → KeepsStreams (world_of view start) (world_of view old))
      → AreServed room (ops_in old) old.handling.table listener all → slice_get all k ≡ Some conn
      → Serves view tells old new conn now answer
      → Becomes view tells start was old all closed failed → Becomes view tells start was new (slice_set all k now) closed failed
  becomes_set start old new was conn now answer all k closed failed listener streams served there serves (inl still) =
      elim (same-or-not still.place k) [
        | inl e ↦ let is : still.now ≡ conn = found_same (slice_get all k) still.now conn (ap (slice_get all) (sym e) ∙ still.there)
            there in
            let mine : Serves view tells old new still.now now answer = subst (λ c. Serves view tells old new c now answer) (sym is)
            serves in
            inl (record {
              place = k;
              now = now;
              there = get_set all k conn now there;
              near = mine.near ∙ still.near;
              far = mine.far ∙ still.far;
              lines = lines_then tells (world_of view start) (world_of view old) (world_of view new) (near_of was) (far_of was)
                  (held_forth (ops_in start) was) (held_back (ops_in start) was) (held_forth (ops_in old) still.now)
                  (held_back (ops_in old) still.now) (held_forth (ops_in new) now) (held_back (ops_in new) now) streams still.lines
                  (subst (λ h. KeepsLines tells (world_of view old) (world_of view new) h (far_of was) (held_forth (ops_in old) still.now)
                  (held_back (ops_in old) still.now) (held_forth (ops_in new) now) (held_back (ops_in new) now)) still.near
                  (subst (λ h. KeepsLines tells (world_of view old) (world_of view new) (near_of still.now) h
                  (held_forth (ops_in old) still.now) (held_back (ops_in old) still.now) (held_forth (ops_in new) now)
                  (held_back (ops_in new) now)) still.far mine.lines));
              mark = λ t marked. mine.marks t (still.mark t marked);
            })
        | inr e ↦ let apart = served.apart still.place k still.now conn e still.there there in
            let kept = outside_kept (ops_in old) (ops_in new) (near_of conn) (far_of conn) still.now serves.leaves.ops apart
            (served.each still.place still.now still.there).fits in
            inl (record {
              place = still.place;
              now = still.now;
              there = get_set_other all k still.place now e ∙ still.there;
              near = still.near;
              far = still.far;
              lines = lines_then tells (world_of view start) (world_of view old) (world_of view new) (near_of was) (far_of was)
                  (held_forth (ops_in start) was) (held_back (ops_in start) was) (held_forth (ops_in old) still.now)
                  (held_back (ops_in old) still.now) (held_forth (ops_in new) still.now) (held_back (ops_in new) still.now) streams
                  still.lines (bytes_lines tells (world_of view old) (world_of view new) (near_of was) (far_of was)
                  (held_forth (ops_in old) still.now) (held_back (ops_in old) still.now) (held_forth (ops_in new) still.now)
                  (held_back (ops_in new) still.now)
                  (λ t. serves.leaves.elsewhere t (near_of was) (λ same. apart.near_near (still.near ∙ same))
                  (λ same. apart.near_far (still.near ∙ same)))
                  (λ t. serves.leaves.elsewhere t (far_of was) (λ same. apart.far_near (still.far ∙ same))
                  (λ same. apart.far_far (still.far ∙ same))) kept.forth kept.back);
              mark = λ t marked. marked_kept (world_of view old) (world_of view new) still.now (serves.leaves.streams t)
                  (still.mark t marked);
            })
      ]
  becomes_set start old new was conn now answer all k closed failed listener streams served there serves (inr (apart, ended)) =
      inr (
        λ j other at. elim (same-or-not j k) [
          | inl e ↦ subst (AreBeside was) (found_same (slice_get (slice_set all k now) j) now other
              (ap (slice_get (slice_set all k now)) e ∙ get_set all k conn now there) at)
              (beside_same was conn now serves.near serves.far (apart k conn there))
          | inr e ↦ apart j other (sym (get_set_other all k j now e) ∙ at)
        ],
        by-end ended,
      )
    where
      beside : (forth back : List ℕ)
          → KeepsLines tells (world_of view start) (world_of view old) (near_of was) (far_of was) (held_forth (ops_in start) was)
          (held_back (ops_in start) was) forth back
          → KeepsLines tells (world_of view start) (world_of view new) (near_of was) (far_of was) (held_forth (ops_in start) was)
          (held_back (ops_in start) was) forth back
      beside forth back lines =
          let own = apart k conn there in
          lines_then tells (world_of view start) (world_of view old) (world_of view new) (near_of was) (far_of was)
          (held_forth (ops_in start) was) (held_back (ops_in start) was) forth back forth back streams lines
          (bytes_lines tells (world_of view old) (world_of view new) (near_of was) (far_of was) forth back forth back
          (λ t. serves.leaves.elsewhere t (near_of was) own.near_near own.near_far)
          (λ t. serves.leaves.elsewhere t (far_of was) own.far_near own.far_far) refl refl)

      by-end : WasClosed view tells start was old closed ⊎ WasLost view tells start was old failed
          → WasClosed view tells start was new closed ⊎ WasLost view tells start was new failed
      by-end (inl close) = inl (record {
        named = close.named;
        lines = beside [] [] close.lines;
        ended = λ t marked. either_kept (world_of view old) (world_of view new) (near_of was) (far_of was) (serves.leaves.streams t)
            (close.ended t marked);
      })
      by-end (inr loss) = inr (record {
        lost = loss.lost;
        named = loss.named;
        connection = loss.connection;
        forth = loss.forth;
        back = loss.back;
        unsent = loss.unsent;
        unsent_back = loss.unsent_back;
        lines = beside loss.forth loss.back loss.lines;
      })

  -- The same of all.
  pub serving_set : {room : ℕ} (start old new : LegacyState I Buf) (was : List Connection) (conn now : Connection) (answer : Served)
      (all : List Connection) (k : ℕ) (closed : List ℕ) (failed : List Lost) (listener : ℕ)
      → AreServed room (ops_in old) old.handling.table listener all → slice_get all k ≡ Some conn
      → Serves view tells old new conn now answer
      → Serving view tells start was old all closed failed → Serving view tells start was new (slice_set all k now) closed failed
  serving_set start old new was conn now answer all k closed failed listener served there serves serving = record {
    each = λ one among. becomes_set start old new one conn now answer all k closed failed listener serving.streams served there serves
        (serving.each one among);
    fails = λ lost among.
        let rose = serving.fails lost among in
        let later = serves.leaves.later.fails in
        omega (arith, rose, later);
    later = later-then (view start.handling.io) (view old.handling.io) (view new.handling.io) serving.later serves.leaves.later;
    streams = λ t. streams_then (world_of view start) (world_of view old) (world_of view new) (serving.streams t) (serves.leaves.streams t);
    marks = λ t marked. set_marked (world_of view old) (world_of view new) all k conn now there (serves.leaves.streams t) (serves.marks t)
        (serving.marks t marked);
  }

  -- All others are served once one was taken out and ended.
  pub sound_removed : {room : ℕ} (old new : LegacyState I Buf) (listener : ℕ) (accept : Option Op) (all : List Connection) (k : ℕ)
      (conn : Connection)
      → IsSound room (ops_in old) old.handling.table listener accept all → slice_get all k ≡ Some conn
      → EndsConnection view tells old (near_of conn) (far_of conn) new
      → IsSound room (ops_in new) new.handling.table listener accept (remove all k)
  sound_removed old new listener accept all k conn sound there ends =
      let served = sound.served in
      let mine = served.each k conn there in
      record {
        roomy = sound.roomy;
        listens = ends.users listener (λ same. mine.near_other (sym same)) (λ same. mine.far_other (sym same)) sound.listens;
        accepts = accept_beside (ops_in old) (ops_in new) (near_of conn) (far_of conn) listener accept ends.ops sound.accepts;
        served = record {
          each = λ j other at.
              let was = sym (get_removed all k j) ∙ at in
              let apart = served.apart (placed k j) k other conn (placed_other k j) was there in
              let own = served.each (placed k j) other was in
              record {
                fits = (outside_kept (ops_in old) (ops_in new) (near_of conn) (far_of conn) other ends.ops apart own.fits).fits;
                room_is = own.room_is;
                near = ends.users (near_of other) apart.near_near apart.near_far own.near;
                far = ends.users (far_of other) apart.far_near apart.far_far own.far;
                near_other = own.near_other;
                far_other = own.far_other;
              };
          apart = λ i j one other differ at_one at_other.
              served.apart (placed k i) (placed k j) one other (placed_differ k i j differ) (sym (get_removed all k i) ∙ at_one)
              (sym (get_removed all k j) ∙ at_other);
        };
      }

  -- What becomes of one that was taken out and ended is this, and of the others what became of them.
  becomes_removed : {room : ℕ} (start old new : LegacyState I Buf) (was conn : Connection) (all : List Connection) (k : ℕ)
      (closed later : List ℕ)
      (failed lost : List Lost) (listener : ℕ) → (IsTrue tells → KeepsStreams (world_of view start) (world_of view old))
      → AreServed room (ops_in old) old.handling.table listener all → slice_get all k ≡ Some conn
      → EndsConnection view tells old (near_of conn) (far_of conn) new
      → ((n : ℕ) → IsAmong closed n → IsAmong later n) → ((one : Lost) → IsAmong failed one → IsAmong lost one)
      → ((lines : KeepsLines tells (world_of view start) (world_of view new) (near_of was) (far_of was) (held_forth (ops_in start) was)
      (held_back (ops_in start) was) (held_forth (ops_in old) conn) (held_back (ops_in old) conn)) → near_of conn ≡ near_of was
      → far_of conn ≡ far_of was → (IsTrue tells → IsMarked (world_of view start) was → IsMarked (world_of view old) conn)
      → WasClosed view tells start was new later ⊎ WasLost view tells start was new lost)
      → Becomes view tells start was old all closed failed → Becomes view tells start was new (remove all k) later lost
  becomes_removed start old new was conn all k closed later failed lost listener streams served there ends more_closed more_lost this
      (inl still) =
      elim (same-or-not still.place k) [
        | inl e ↦ let is : still.now ≡ conn = found_same (slice_get all k) still.now conn (ap (slice_get all) (sym e) ∙ still.there)
            there in
            let near : near_of was ≡ near_of conn = sym still.near ∙ ap near_of is in
            let far : far_of was ≡ far_of conn = sym still.far ∙ ap far_of is in
            inr (
              λ j other at.
                  let apart = served.apart k (placed k j) conn other (λ same. placed_other k j (sym same)) there
                  (sym (get_removed all k j) ∙ at) in
                  record {
                    near_near = λ same. apart.near_near (sym near ∙ same);
                    near_far = λ same. apart.near_far (sym near ∙ same);
                    far_near = λ same. apart.far_near (sym far ∙ same);
                    far_far = λ same. apart.far_far (sym far ∙ same);
                  },
              this (lines_then tells (world_of view start) (world_of view old) (world_of view new) (near_of was) (far_of was)
                  (held_forth (ops_in start) was) (held_back (ops_in start) was) (held_forth (ops_in old) conn) (held_back (ops_in old)
                  conn)
                  (held_forth (ops_in old) conn) (held_back (ops_in old) conn) streams
                  (subst (λ c. KeepsLines tells (world_of view start) (world_of view old) (near_of was) (far_of was)
                  (held_forth (ops_in start) was) (held_back (ops_in start) was) (held_forth (ops_in old) c) (held_back (ops_in old) c)) is
                  still.lines)
                  (bytes_lines tells (world_of view old) (world_of view new) (near_of was) (far_of was) (held_forth (ops_in old) conn)
                  (held_back (ops_in old) conn) (held_forth (ops_in old) conn) (held_back (ops_in old) conn)
                  (λ t. (ap (λ w. output_at w (near_of was)) (ends.world t), ap (λ w. input_at w (near_of was)) (ends.world t)))
                  (λ t. (ap (λ w. output_at w (far_of was)) (ends.world t), ap (λ w. input_at w (far_of was)) (ends.world t))) refl refl))
                  (sym near) (sym far)
                  (subst (λ c. IsTrue tells → IsMarked (world_of view start) was → IsMarked (world_of view old) c) is still.mark),
            )
        | inr e ↦ let apart = served.apart still.place k still.now conn e still.there there in
            let kept = outside_kept (ops_in old) (ops_in new) (near_of conn) (far_of conn) still.now ends.ops apart
            (served.each still.place still.now still.there).fits in
            let from = placed_from k still.place e in
            inl (record {
              place = from.0;
              now = still.now;
              there = get_removed all k from.0 ∙ (ap (slice_get all) from.1 ∙ still.there);
              near = still.near;
              far = still.far;
              lines = lines_then tells (world_of view start) (world_of view old) (world_of view new) (near_of was) (far_of was)
                  (held_forth (ops_in start) was) (held_back (ops_in start) was) (held_forth (ops_in old) still.now)
                  (held_back (ops_in old) still.now) (held_forth (ops_in new) still.now) (held_back (ops_in new) still.now) streams
                  still.lines (bytes_lines tells (world_of view old) (world_of view new) (near_of was) (far_of was)
                  (held_forth (ops_in old) still.now) (held_back (ops_in old) still.now) (held_forth (ops_in new) still.now)
                  (held_back (ops_in new) still.now)
                  (λ t. (ap (λ w. output_at w (near_of was)) (ends.world t), ap (λ w. input_at w (near_of was)) (ends.world t)))
                  (λ t. (ap (λ w. output_at w (far_of was)) (ends.world t), ap (λ w. input_at w (far_of was)) (ends.world t)))
                  kept.forth kept.back);
              mark = λ t marked. marked_kept (world_of view old) (world_of view new) still.now
                  (same_handles (world_of view old) (world_of view new) (ends.world t)) (still.mark t marked);
            })
      ]
  becomes_removed start old new was conn all k closed later failed lost listener streams served there ends more_closed more_lost this
      (inr (apart, ended)) =
      inr (λ j other at. apart (placed k j) other (sym (get_removed all k j) ∙ at), by-end ended)
    where
      beside : (forth back : List ℕ)
          → KeepsLines tells (world_of view start) (world_of view old) (near_of was) (far_of was) (held_forth (ops_in start) was)
          (held_back (ops_in start) was) forth back
          → KeepsLines tells (world_of view start) (world_of view new) (near_of was) (far_of was) (held_forth (ops_in start) was)
          (held_back (ops_in start) was) forth back
      beside forth back lines =
          lines_then tells (world_of view start) (world_of view old) (world_of view new) (near_of was) (far_of was)
          (held_forth (ops_in start) was) (held_back (ops_in start) was) forth back forth back streams lines
          (bytes_lines tells (world_of view old) (world_of view new) (near_of was) (far_of was) forth back forth back
          (λ t. (ap (λ w. output_at w (near_of was)) (ends.world t), ap (λ w. input_at w (near_of was)) (ends.world t)))
          (λ t. (ap (λ w. output_at w (far_of was)) (ends.world t), ap (λ w. input_at w (far_of was)) (ends.world t))) refl refl)

      by-end : WasClosed view tells start was old closed ⊎ WasLost view tells start was old failed
          → WasClosed view tells start was new later ⊎ WasLost view tells start was new lost
      by-end (inl close) = inl (record {
        named = more_closed (near_of was) close.named;
        lines = beside [] [] close.lines;
        ended = λ t marked. either_kept (world_of view old) (world_of view new) (near_of was) (far_of was)
            (same_handles (world_of view old) (world_of view new) (ends.world t)) (close.ended t marked);
      })
      by-end (inr loss) = inr (record {
        lost = loss.lost;
        named = more_lost loss.lost loss.named;
        connection = loss.connection;
        forth = loss.forth;
        back = loss.back;
        unsent = loss.unsent;
        unsent_back = loss.unsent_back;
        lines = beside loss.forth loss.back loss.lines;
      })

  -- One that was over was taken out and ended: it is named as closed.
  pub serving_closed : {room : ℕ} (start old new : LegacyState I Buf) (was : List Connection) (conn : Connection) (all : List Connection)
      (k : ℕ)
      (closed : List ℕ) (failed : List Lost) (listener : ℕ) → AreServed room (ops_in old) old.handling.table listener all
      → slice_get all k ≡ Some conn → EndsConnection view tells old (near_of conn) (far_of conn) new → IsOver (ops_in old) conn
      → Serving view tells start was old all closed failed
      → Serving view tells start was new (remove all k) (closed ++ near_of conn ∷ []) failed
  serving_closed start old new was conn all k closed failed listener served there ends over serving = record {
    each = λ one among. becomes_removed start old new one conn all k closed (closed ++ near_of conn ∷ []) failed failed listener
        serving.streams served there ends (λ n is. (is.0, get-front closed (near_of conn ∷ []) is.0 n is.1)) (λ lost is. is)
        (λ lines near far mark. inl (record {
          named = (length closed, get-append-end closed (near_of conn) ∙ ap Some near);
          lines = subst (λ f. KeepsLines tells (world_of view start) (world_of view new) (near_of one) (far_of one)
              (held_forth (ops_in start) one) (held_back (ops_in start) one) f []) over.forth
              (subst (λ b. KeepsLines tells (world_of view start) (world_of view new) (near_of one) (far_of one)
              (held_forth (ops_in start) one) (held_back (ops_in start) one) (held_forth (ops_in old) conn) b) over.back lines);
          ended = λ t marked. either_same (world_of view old) (world_of view new) (near_of conn) (far_of conn) (near_of one) (far_of one)
              (ends.world t) near far (mark t marked over.ending);
        })) (serving.each one among);
    fails = λ lost among.
        let rose = serving.fails lost among in
        let later = ends.later.fails in
        omega (arith, rose, later);
    later = later-then (view start.handling.io) (view old.handling.io) (view new.handling.io) serving.later ends.later;
    streams = λ t. streams_then (world_of view start) (world_of view old) (world_of view new) (serving.streams t)
        (same_handles (world_of view old) (world_of view new) (ends.world t));
    marks = λ t marked. removed_marked (world_of view new) all k
        (all_marked (world_of view old) (world_of view new) all (same_handles (world_of view old) (world_of view new) (ends.world t))
        (serving.marks t marked));
  }

  -- One that failed was taken out and ended: it is named, with how much it holds.
  pub serving_lost : {room : ℕ} (start old new : LegacyState I Buf) (was : List Connection) (conn : Connection) (all : List Connection)
      (k fault : ℕ)
      (closed : List ℕ) (failed : List Lost) (lost : Lost) (listener : ℕ) → AreServed room (ops_in old) old.handling.table listener all
      → slice_get all k ≡ Some conn → EndsConnection view tells old (near_of conn) (far_of conn) new
      → IsLostAs (ops_in old) conn fault lost → Rose (view start.handling.io).fails (view old.handling.io).fails
      → Serving view tells start was old all closed failed
      → Serving view tells start was new (remove all k) closed (failed ++ lost ∷ [])
  serving_lost start old new was conn all k fault closed failed lost listener served there ends is rose serving = record {
    each = λ one among. becomes_removed start old new one conn all k closed closed failed (failed ++ lost ∷ []) listener
        serving.streams served there ends (λ n at. at) (λ other at. (at.0, get-front failed (lost ∷ []) at.0 other at.1))
        (λ lines near far mark. inr (record {
          lost = lost;
          named = (length failed, get-append-end failed lost);
          connection = is.connection ∙ near;
          forth = held_forth (ops_in old) conn;
          back = held_back (ops_in old) conn;
          unsent = is.unsent;
          unsent_back = is.unsent_back;
          lines = lines;
        })) (serving.each one among);
    fails = λ other among. let later = ends.later.fails in omega (arith, rose, later);
    later = later-then (view start.handling.io) (view old.handling.io) (view new.handling.io) serving.later ends.later;
    streams = λ t. streams_then (world_of view start) (world_of view old) (world_of view new) (serving.streams t)
        (same_handles (world_of view old) (world_of view new) (ends.world t));
    marks = λ t marked. removed_marked (world_of view new) all k
        (all_marked (world_of view old) (world_of view new) all (same_handles (world_of view old) (world_of view new) (ends.world t))
        (serving.marks t marked));
  }

-- Why a later call stopped is why both did.
pub stops_later : {T : Type 0} (old mid new : IoView) (result : Result T RelayError) → IsLater old mid → StopsUnless mid new result
    → StopsUnless old new result
stops_later old mid new (Ok done) later stops = tt
stops_later old mid new (Err why.Fault) later stops = let more = later.faults in omega (arith, stops, more)
stops_later old mid new (Err why.OutOfMemory) later stops = tt

-- The last connection of a list is served.
pub served_last : {room : ℕ} (ops : Ops Buf) (table : Table) (listener : ℕ) (all rest : List Connection) (conn : Connection)
    → all ≡ rest ++ conn ∷ [] → AreServed room ops table listener all → IsServed room ops table listener conn
served_last ops table listener all rest conn is served =
    served.each (length rest) conn (ap (λ xs. slice_get xs (length rest)) is ∙ get-append-end rest conn)

-- The others are served once it was taken out and ended.
pub served_rest : {room : ℕ} {I : Type 0} (view : I → IoView) (tells : Bool) (old new : LegacyState I Buf) (listener : ℕ)
    (all rest : List Connection)
    (conn : Connection) → all ≡ rest ++ conn ∷ [] → AreServed room (ops_in old) old.handling.table listener all
    → EndsConnection view tells old (near_of conn) (far_of conn) new → AreServed room (ops_in new) new.handling.table listener rest
served_rest view tells old new listener all rest conn is served ends = record {
  each = λ k other at.
      let was = ap (λ xs. slice_get xs k) is ∙ get-front rest (conn ∷ []) k other at in
      let apart = served.apart k (length rest) other conn (λ same. not_last k other at same) was
      (ap (λ xs. slice_get xs (length rest)) is ∙ get-append-end rest conn) in
      let own = served.each k other was in
      record {
        fits = (outside_kept (ops_in old) (ops_in new) (near_of conn) (far_of conn) other ends.ops apart own.fits).fits;
        room_is = own.room_is;
        near = ends.users (near_of other) apart.near_near apart.near_far own.near;
        far = ends.users (far_of other) apart.far_near apart.far_far own.far;
        near_other = own.near_other;
        far_other = own.far_other;
      };
  apart = λ j k one other differ at_one at_other.
      served.apart j k one other differ (ap (λ xs. slice_get xs j) is ∙ get-front rest (conn ∷ []) j one at_one)
      (ap (λ xs. slice_get xs k) is ∙ get-front rest (conn ∷ []) k other at_other);
}
  where
    not_last : (k : ℕ) (other : Connection) → slice_get rest k ≡ Some other → k ≡ length rest → ⊥
    not_last k other at same =
        let within = slice_get_within rest k other at in
        omega (arith, within, same)
