-- What the two steps of a connection forward, over handles in memory.
use Rattle.std.proofs.Common.{ℕ, ◌≡◌, ◌≢◌, ◌∙◌, ap, sym, refl, subst, Bool, IsTrue, true, false, true≢false}
use Rattle.std.proofs.Common.{List, [], ◌∷◌, ◌++◌, take, Option, Some, None, inl, inr}
use Rattle.std.specs.Prelude.{◌&&◌}
use Rattle.rent_buf.specs.declared.plain.Buf.{Buf}
use Rattle.machine.specs.World.{input_at}
use Rattle.machine.specs.declared.world.HandleState.{HandleState}
use Rattle.machine.proofs.Numbers.{same-or-not}
use Rattle.ready_driver.specs.Io.{IoView}
use Rattle.handle_core.specs.Table.{Table}
use Rattle.ready_driver.specs.LegacyState.{LegacyState, holds_all, ops_in}
use Rattle.ready_driver.specs.Registry.{is_users}
use Rattle.net_stream.specs.Told.{IsStream, output_at}
use Rattle.net_stream.proofs.Handles.{sent_others, sent_waiting, taken_others, taken_sent}
use Rattle.relay_net.specs.Connection.{FitsBack, FitsConnection, FollowsAs, Serves}
use Rattle.relay_net.specs.Connection.{far_of, held_back, held_by, held_forth, near_of}
use Rattle.relay_net.specs.Flow.{IsElse, held_in}
use Rattle.relay_net.specs.Forwarding.{CanForward, Forwards, ForwardsBoth, IsAwaiting}
use Rattle.relay_net.specs.Forwarding.{KeepsSeen, StepsBack, StepsForth}
use Rattle.relay_net.specs.Keeping.{MovesBetween, world_of}
use Rattle.relay_net.specs.Steps.{Begins, Flows}
use Rattle.relay_net.specs.declared.flow.Stage.{Stage}
use Rattle.relay_net.specs.declared.round.RelayError.{RelayError}
use Rattle.relay_net.specs.declared.connection.Connection.{Connection}
use Rattle.relay_net.specs.declared.connection.Served.{Served}
use Rattle.relay_net.specs.declared.connection.Served.TheVariants as answered
use Rattle.relay_net.specs.declared.flow.Came.{Came}
use Rattle.relay_net.specs.declared.flow.Came.TheVariants as came
use Rattle.relay_net.specs.declared.flow.Flow.{Flow}
use Rattle.relay_net.proofs.Connections.{back_kept, receive_else, send_else, stage_kept}

-- What moves between two handles leaves the output of each but the second, and the input of each but the first.
moved_output : (old new : List HandleState) (from to h : ℕ) → h ≢ to → MovesBetween old from to new → output_at new h ≡ output_at old h
moved_output old new from to h other (inl taken) = taken_sent old new from h taken
moved_output old new from to h other (inr sent) = sent_others old new to h other sent

-- Nor the input of a handle that it takes from.
moved_input : (old new : List HandleState) (from to h : ℕ) → h ≢ from → IsStream old to → MovesBetween old from to new
    → input_at new h ≡ input_at old h
moved_input old new from to h other stream (inl taken) = taken_others old new from h other taken
moved_input old new from to h other stream (inr sent) = sent_waiting old new to h stream sent

-- A connection that is open behind a step, and isn't ending, is one whose direction went on.
follows_goes : (c : Came) (before now : Bool) (answer : Served) → FollowsAs c before now answer → now ≡ false → answer ≡ answered.Open
    → (c ≡ came.Goes) × (before ≡ false)
follows_goes came.Goes before now answer is going kept_open = (refl, sym is.0 ∙ going)
follows_goes came.Ended before now answer is going kept_open = absurd (true≢false (sym is.0 ∙ going))
follows_goes (came.Failed error) before now answer is going kept_open = let no : answered.Failed error ≡ answered.Open = sym is.1 ∙
    kept_open in absurd cc
follows_goes (came.Stopped why) before now answer is going kept_open = let no : answered.Stopped why ≡ answered.Open = sym is.1 ∙ kept_open
    in absurd cc

-- What wasn't ending isn't, where an end stays.
not_ending : (before now : Bool) → (before ≡ true → now ≡ true) → now ≡ false → before ≡ false
not_ending true now stays going = absurd (true≢false (sym (stays refl) ∙ going))
not_ending false now stays going = refl

-- What a direction forwarded, where the bytes and what it holds are called otherwise.
pub forwards_same : (room : ℕ) (old older new newer : List HandleState) (from to : ℕ) (held first now last : List ℕ)
    → output_at old to ≡ output_at older to → input_at old from ≡ input_at older from → held ≡ first
    → output_at newer to ≡ output_at new to → last ≡ now → Forwards room old new from to held now
    → Forwards room older newer from to first last
forwards_same room old older new newer from to held first now last out waits same out_now same_now forwards = record {
  sends = λ some. out_now ∙ (forwards.sends (λ none. some (sym same ∙ none))
      ∙ (ap (λ o. o ++ held) out ∙ ap (λ bs. output_at older to ++ bs) same));
  takes = λ none. same_now ∙ (forwards.takes (same ∙ none) ∙ ap (take room) waits);
}

module _ {I : Type 0} (view : I → IoView) (tells memory : Bool) where
  -- A step from the near handle to the far one.
  pub forth_forwards : (old new : LegacyState I Buf) (before : Connection) (flow : Flow) (ending : Bool) (c : Came) (answer : Served)
      → FitsConnection (ops_in old) before
      → Flows view tells old new before.room (near_of before) (far_of before) (held_forth (ops_in old) before) flow.stage c
      → FollowsAs c before.ending ending answer
      → (IsTrue memory → before.ending ≡ false → CanForward view old (near_of before) (far_of before) → c ≡ came.Goes
      → Forwards before.room (world_of view old) (world_of view new) (near_of before) (far_of before) (held_forth (ops_in old) before)
      (held_in (ops_in new) flow.stage))
      → StepsForth view tells memory old new before (record { forth = flow; back = before.back; ending = ending; room = before.room })
      answer
  forth_forwards old new before flow ending c answer fits flows follows goes = record {
    held = (back_kept before.room (ops_in old) (ops_in new) (near_of before) (far_of before) before.back flows.leaves.ops fits.1).1;
    moved = flows.leaves.moves;
    forwards = λ memory_is can going kept_open.
        let on = follows_goes c before.ending ending answer follows going kept_open in
        goes memory_is on.1 can on.0;
  }

  -- One from the far handle to the near one.
  pub back_forwards : (old new : LegacyState I Buf) (before : Connection) (was flow : Flow) (ending : Bool) (c : Came) (answer : Served)
      → before.back ≡ Some was → FitsConnection (ops_in old) before
      → Flows view tells old new before.room was.from was.to (held_in (ops_in old) was.stage) flow.stage c
      → FollowsAs c before.ending ending answer
      → (IsTrue memory → before.ending ≡ false → CanForward view old was.from was.to → c ≡ came.Goes
      → Forwards before.room (world_of view old) (world_of view new) was.from was.to (held_in (ops_in old) was.stage)
      (held_in (ops_in new) flow.stage))
      → StepsBack view tells memory old new before (record {
        forth = before.forth;
        back = Some flow;
        ending = ending;
        room = before.room;
      }) answer
  back_forwards old new before was flow ending c answer there fits flowing follows goes =
      let near = near_of before in
      let far = far_of before in
      let back = subst (FitsBack before.room (ops_in old) near far) there fits.1 in
      let flows : Flows view tells old new before.room far near (held_in (ops_in old) was.stage) flow.stage c =
      subst (λ h. Flows view tells old new before.room h near (held_in (ops_in old) was.stage) flow.stage c) back.1
      (subst (λ h. Flows view tells old new before.room was.from h (held_in (ops_in old) was.stage) flow.stage c) back.2 flowing) in
      record {
        held = (stage_kept before.room (ops_in old) (ops_in new) (IsElse far near) near far before.forth.stage flows.leaves.ops
            (receive_else before.room near far near back.0) (send_else far far near (λ same. back.0 (sym same))) fits.0).1;
        same = λ one. absurd (back.0 one);
        moved = flows.leaves.moves;
        forwards = λ memory_is apart can going kept_open.
            let on = follows_goes c before.ending ending answer follows going kept_open in
            let does = goes memory_is on.1 (subst (λ h. CanForward view old h was.to) (sym back.1)
            (subst (CanForward view old far) (sym back.2) can)) on.0 in
            subst (λ f. Forwards before.room (world_of view old) (world_of view new) far near (held_by (ops_in old) f) (held_in (ops_in new)
            flow.stage))
            (sym there)
            (subst (λ h. Forwards before.room (world_of view old) (world_of view new) h near (held_in (ops_in old) was.stage)
            (held_in (ops_in new) flow.stage)) back.1
            (subst (λ h. Forwards before.room (world_of view old) (world_of view new) was.from h (held_in (ops_in old) was.stage)
            (held_in (ops_in new) flow.stage)) back.2 does));
      }

  -- Where there is none it forwards nothing.
  pub none_forwards : (driver : LegacyState I Buf) (conn : Connection) (answer : Served) → conn.back ≡ None
      → FitsConnection (ops_in driver) conn → StepsBack view tells memory driver driver conn conn answer
  none_forwards driver conn answer none fits = record {
    held = refl;
    same = λ one. refl;
    moved = λ t. inl (inl refl);
    forwards = λ memory_is apart can going kept_open. absurd (apart (subst
        (FitsBack conn.room (ops_in driver) (near_of conn) (far_of conn)) none
        fits.1));
  }

-- What the user holds, of one handle.
held_user : (table : Table) (h : ℕ) → IsTrue (holds_all table (h ∷ [])) → is_users table h ≡ true
held_user table h held = by (is_users table h) held
  where
    by : (b : Bool) → b && true ≡ true → b ≡ true
    by true is = refl
    by false is = absurd (true≢false (sym is))

-- What two calls behind each other forward.
module _ {I : Type 0} (view : I → IoView) (tells memory : Bool) (told : IsTrue memory → IsTrue tells) where
  -- A direction that began, and then was polled.
  pub begun_forwards : (old mid new : LegacyState I Buf) (room from to : ℕ) (held : List ℕ) (s now : Stage) (stop : Option RelayError)
      (c : Came)
      → Begins view tells old mid room from to held s stop → KeepsSeen view memory old mid
      → IsTrue (holds_all old.handling.table (from ∷ []))
      → IsTrue (holds_all old.handling.table (to ∷ []))
      → (IsTrue memory → IsAwaiting s → CanForward view mid from to → c ≡ came.Goes
      → Forwards room (world_of view mid) (world_of view new) from to (held_in (ops_in mid) s) (held_in (ops_in new) now))
      → IsTrue memory → IsAwaiting s → CanForward view old from to → c ≡ came.Goes
      → Forwards room (world_of view old) (world_of view new) from to held (held_in (ops_in new) now)
  begun_forwards old mid new room from to held s now stop c begins seen from_held to_held polls memory_is awaits can goes =
      let world = begins.stays.world (told memory_is) in
      let from_user = held_user old.handling.table from from_held in
      let to_user = held_user old.handling.table to to_held in
      forwards_same room (world_of view mid) (world_of view old) (world_of view new) (world_of view new) from to
      (held_in (ops_in mid) s) held
      (held_in (ops_in new) now) (held_in (ops_in new) now) (ap (λ w. output_at w to) world) (ap (λ w. input_at w from) world)
      begins.held_is refl refl (polls memory_is awaits (record {
        from_stream = subst (λ w. IsStream w from) (sym world) can.from_stream;
        to_stream = subst (λ w. IsStream w to) (sym world) can.to_stream;
        from_seen = seen memory_is from from_user can.from_stream can.from_seen;
        to_seen = seen memory_is to to_user can.to_stream can.to_seen;
      }) goes)

  -- So do a connection's two steps, one behind the other.
  pub both_forward : (old mid new : LegacyState I Buf) (before between now : Connection) (answer : Served)
      → Serves view tells old mid before between answered.Open → StepsForth view tells memory old mid before between answered.Open
      → KeepsSeen view memory old mid → Serves view tells mid new between now answer
      → StepsBack view tells memory mid new between now answer → is_users old.handling.table (near_of before) ≡ true
      → is_users old.handling.table (far_of before) ≡ true → IsTrue memory → CanForward view old (near_of before) (far_of before)
      → now.ending ≡ false → answer ≡ answered.Open → ForwardsBoth view old before new now
  both_forward old mid new before between now answer first forth seen second back near_held far_held memory_is can going kept_open =
      let near = near_of before in
      let far = far_of before in
      let t = told memory_is in
      let between_going = not_ending between.ending now.ending second.ends.ending going in
      let forward = forth.forwards memory_is can between_going refl in
      let moved : MovesBetween (world_of view mid) far near (world_of view new) =
      subst (λ h. MovesBetween (world_of view mid) far h (world_of view new)) first.near
      (subst (λ h. MovesBetween (world_of view mid) h (near_of between) (world_of view new)) first.far (back.moved t)) in
      let mid_far = (first.leaves.streams t far).0 can.to_stream in
      let mid_near = (first.leaves.streams t near).0 can.from_stream in
      let mid_can : CanForward view mid far near = record {
        from_stream = mid_far;
        to_stream = mid_near;
        from_seen = seen memory_is far far_held can.to_stream can.to_seen;
        to_seen = seen memory_is near near_held can.from_stream can.from_seen;
      } in
      record {
        forth = forwards_same before.room (world_of view old) (world_of view old) (world_of view mid) (world_of view new) near far
            (held_forth (ops_in old) before) (held_forth (ops_in old) before) (held_forth (ops_in mid) between)
            (held_forth (ops_in new) now) refl refl refl (elim (same-or-not near far) [
              | inl e ↦ ap (λ d. output_at (world_of view d) far) (back.same (first.near ∙ (e ∙ sym first.far)))
              | inr e ↦ moved_output (world_of view mid) (world_of view new) far near far (λ same. e (sym same)) moved
            ]) back.held forward;
        back = λ apart.
            let does : Forwards before.room (world_of view mid) (world_of view new) far near (held_back (ops_in mid) between)
            (held_back (ops_in new) now) =
            subst (λ h. Forwards before.room (world_of view mid) (world_of view new) far h (held_back (ops_in mid) between)
            (held_back (ops_in new)
            now))
            first.near
            (subst (λ h. Forwards before.room (world_of view mid) (world_of view new) h (near_of between) (held_back (ops_in mid) between)
            (held_back (ops_in new) now)) first.far
            (subst (λ r. Forwards r (world_of view mid) (world_of view new) (far_of between) (near_of between)
            (held_back (ops_in mid) between) (held_back (ops_in new) now)) first.room
            (back.forwards memory_is (λ same. apart (sym first.near ∙ (same ∙ first.far)))
            (subst (λ h. CanForward view mid h (near_of between)) (sym first.far) (subst (CanForward view mid far) (sym first.near)
            mid_can))
            going kept_open))) in
            forwards_same before.room (world_of view mid) (world_of view old) (world_of view new) (world_of view new) far near
            (held_back (ops_in mid) between) (held_back (ops_in old) before) (held_back (ops_in new) now) (held_back (ops_in new) now)
            (moved_output (world_of view old) (world_of view mid) near far near apart (forth.moved t))
            (moved_input (world_of view old) (world_of view mid) near far far (λ same. apart (sym same)) can.to_stream (forth.moved t))
            forth.held refl refl does;
      }
