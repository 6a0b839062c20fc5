-- What became of the bytes of a receive and of a send that ended.
use Rattle.std.proofs.Common.{ℕ, ◌≡◌, ◌∙◌, ◌-◌, ◌≤◌, ap, sym, refl, subst, arith, Bool, IsTrue, true, false, List, [], ◌++◌, length}
use Rattle.std.proofs.Common.{take, drop, min, Some, None, Ok, inr}
use Rattle.std.proofs.Math.Nat.{min-eq_left}
use Rattle.std.proofs.lemmas.List.{append_assoc, length-take, take-append-drop, take-take, take_all}
use Rattle.rent_buf.specs.Buf.{built, content_of}
use Rattle.rent_buf.specs.Buffer.{Buffer, shown, stored}
use Rattle.rent_buf.specs.Counts.{Rose}
use Rattle.rent_buf.specs.Parts.{Parts}
use Rattle.rent_buf.specs.declared.held.Held.TheVariants.{One}
use Rattle.rent_buf.specs.declared.plain.Buf.{Buf}
use Rattle.machine.specs.declared.request.Outcome.{Outcome}
use Rattle.machine.specs.declared.request.Outcome.TheVariants.{Count, From, Made, Fail}
use Rattle.machine.specs.declared.request.Told.{Told}
use Rattle.machine.specs.declared.request.Told.TheVariants as told
use Rattle.machine.specs.declared.request.Request.{Request}
use Rattle.machine.specs.declared.request.Request.TheVariants.{Recv, ReadVec, Send, WriteVec, RecvMsg, SendMsg, Read, Write}
use Rattle.machine.specs.declared.request.Request.TheVariants.{SpliceTo, SpliceFrom, Accept, Open, Connect, Fsync, PollAdd, MkDir, Rename}
use Rattle.machine.specs.declared.request.Request.TheVariants.{Unlink}
use Rattle.machine.specs.declared.request.TheConstants.{MOST_ASKED}
use Rattle.machine.specs.declared.world.HandleState.{HandleState}
use Rattle.machine.specs.Effect.{made_by, with_sent, without_front}
use Rattle.machine.specs.Lists.{amended}
use Rattle.machine.specs.Outcome.{may_count}
use Rattle.machine.specs.declared.request.Call.TheVariants.{In}
use Rattle.machine.specs.Request.{held, held_of, held_want, plain_request, shape_of}
use Rattle.machine.specs.World.{input_at}
use Rattle.machine.specs.WorldCall.{call_effect}
use Rattle.driver_core.specs.declared.op.Done.{Done as Ended}
use Rattle.driver_core.specs.declared.op.Op.{Op}
use Rattle.driver_core.specs.declared.op.PollOp.TheVariants.{Ready}
use Rattle.ready_driver.specs.Calling.{Called}
use Rattle.ready_driver.specs.Io.{EndsFor, FailRose, IoView, IsLater, IsMade, IsMoved, MayEnd}
use Rattle.ready_driver.specs.LegacyPolls.{HandsOver}
use Rattle.ready_driver.specs.LegacyState.{LegacyState, ops_in}
use Rattle.ready_driver.proofs.Still.{later-then}
use Rattle.op_driver.specs.Legacy.{LegacyPolls}
use Rattle.net_stream.specs.Told.{IsSentTo, IsStream, IsTaken, output_at}
use Rattle.net_stream.proofs.Told.{same_outcome, input_left}
use Rattle.net_stream.proofs.Went.{output_after}
use Rattle.driver_core.proofs.Rising.{rose-later}
use Rattle.relay_net.specs.Flow.{IfAsked, IsLoad, IsPending, IsReceive, IsSend, asked_at, empty_buffer}
use Rattle.relay_net.specs.Keeping.{HasEnded, KeepsUsers, world_of}
use Rattle.relay_net.specs.Outcomes.{CountsLoad}
use Rattle.relay_net.proofs.Calls.{Lawful}
use Rattle.relay_net.proofs.Marks.{spent_here, taken_ended}
use Rattle.relay_net.proofs.Polls.{Ends, ready_ends}

-- A request of a receive's shape that holds a buffer is that receive.
recv_holding : (h : ℕ) (b : Buffer) (now : Request Buffer Parts) → shape_of now ≡ Recv h tt → held_of now ≡ One b → now ≡ Recv h b
recv_holding h b (Recv fd buf) same held = cc
recv_holding h b (ReadVec fd parts) same held = absurd cc
recv_holding h b (Send fd buf) same held = absurd cc
recv_holding h b (WriteVec fd parts) same held = absurd cc
recv_holding h b (RecvMsg fd buf) same held = absurd cc
recv_holding h b (SendMsg fd addr buf) same held = absurd cc
recv_holding h b (Read fd pos buf) same held = absurd cc
recv_holding h b (Write fd pos buf) same held = absurd cc
recv_holding h b (SpliceTo fd pipe len) same held = absurd cc
recv_holding h b (SpliceFrom pipe fd len) same held = absurd cc
recv_holding h b (Accept fd) same held = absurd cc
recv_holding h b (Open path flags mode) same held = absurd cc
recv_holding h b (Connect fd addr) same held = absurd cc
recv_holding h b (Fsync fd data_only) same held = absurd cc
recv_holding h b (PollAdd fd read) same held = absurd cc
recv_holding h b (MkDir path mode) same held = absurd cc
recv_holding h b (Rename from to) same held = absurd cc
recv_holding h b (Unlink path remove_dir) same held = absurd cc

-- The bytes that an empty buffer shows once some were stored that fit.
stored_shows : (room : ℕ) (bytes : List ℕ) → length bytes ≤ room → shown (stored (empty_buffer room) bytes) ≡ bytes
stored_shows room bytes within = take_all room bytes within

-- A receive asks for its whole room.
pub whole_room : (room : ℕ) → IsLoad room → held_want (One (empty_buffer room)) ≡ room
whole_room room roomy =
    let bare : room - 0 ≡ room = omega arith in ap (λ w. min w MOST_ASKED) bare ∙ min-eq_left roomy.1

-- What a receive brought, by how its call ended.
abbrev pub Brings : IoView → IoView → Bool → ℕ → Outcome → List ℕ → Type 0
Brings old new tells from (Count k) bytes = (length bytes ≡ k) × (k ≤ MOST_ASKED) × (IsTrue tells
    → (bytes ++ input_at new.world from ≡ input_at old.world from) × IsTaken old.world from new.world
    × (k ≡ 0 → HasEnded new.world from))
Brings old new tells from (From k addr) bytes = (length bytes ≡ k) × (k ≤ MOST_ASKED) × (IsTrue tells
    → (bytes ++ input_at new.world from ≡ input_at old.world from) × IsTaken old.world from new.world
    × (k ≡ 0 → HasEnded new.world from))
Brings old new tells from (Made h) bytes = ⊥
Brings old new tells from (Fail error) bytes = Rose old.fails new.fails × (IsTrue tells → new.world ≡ old.world)

-- A count is that of the bytes which came, of which there is room for all.
pub brings_load : (old new : IoView) (tells : Bool) (from : ℕ) (call : Outcome) (bytes : List ℕ) → Brings old new tells from call bytes
    → CountsLoad call bytes
brings_load old new tells from (Count k) bytes brings = (brings.0, brings.1)
brings_load old new tells from (From k addr) bytes brings = (brings.0, brings.1)
brings_load old new tells from (Made h) bytes brings = tt
brings_load old new tells from (Fail error) bytes brings = tt

-- What the call of a receive brought, with the request that came back.
pub record Brought (old new : IoView) (tells : Bool) (from : ℕ) (call : Outcome) (now : Request Buffer Parts) : Type 0 where
  pub buf : Buffer
  pub request_is : now ≡ Recv from buf
  pub unmade : made_by call ≡ None
  pub brings : Brings old new tells from call (shown buf)

-- Bytes that came are those that left the input.
filled_moves : (room k : ℕ) (old new : List HandleState) (from : ℕ) (bytes : List ℕ) (buf : Buffer) (now : Request Buffer Parts)
    (call : Outcome)
    → IsLoad room → length bytes ≡ k → k ≤ room → shown buf ≡ bytes → now ≡ Recv from buf
    → ((e : ℕ) → call ≡ Fail e → ⊥) → ((j : ℕ) → call ≡ Count j → j ≡ k)
    → IsMoved old (Recv from (empty_buffer room)) new now call
    → (shown buf ++ input_at new from ≡ input_at old from) × IsTaken old from new × (k ≡ 0 → HasEnded new from)
filled_moves room k old new from bytes buf now call roomy size within shows is sound counts moved = by-told moved.told refl
  where
    by-told : (t : Told) → moved.told ≡ t
        → (shown buf ++ input_at new from ≡ input_at old from) × IsTaken old from new × (k ≡ 0 → HasEnded new from)
    by-told (told.Fail e) t = absurd (sound e (moved.outcome_is
        ∙ ap (λ x. (call_effect old (Recv from (empty_buffer room)) x).outcome) t))
    by-told (told.Count j) t =
        let e : j ≡ k = counts j (moved.outcome_is
        ∙ ap (λ x. (call_effect old (Recv from (empty_buffer room)) x).outcome) t) in
        let fits = length-take j (input_at old from) in
        let few : length (take j (input_at old from)) ≤ room = omega (arith, fits, e, within) in
        let holds : One buf ≡ One (stored (empty_buffer room) (take j (input_at old from))) = sym (ap held_of is) ∙ (moved.holds.holds
        ∙ ap (λ x. held (Recv from (empty_buffer room)) x
        (call_effect old (Recv from (empty_buffer room)) x).got) t) in
        let same : buf ≡ stored (empty_buffer room) (take j (input_at old from)) = cc in
        let world : new ≡ amended old from (without_front j) = moved.world
        ∙ ap (λ x. (call_effect old (Recv from (empty_buffer room)) x).world) t in (
          ap (λ bs. bs ++ input_at new from) (ap shown same ∙ stored_shows room (take j (input_at old from)) few)
              ∙ (ap (λ w. take j (input_at old from) ++ input_at w from) world
              ∙ (ap (λ rest. take j (input_at old from) ++ rest) (input_left j from old) ∙ take-append-drop j (input_at old from))),
          inr (j, world),
          λ none.
              let may : MayEnd old (Recv from (empty_buffer room)) (told.Count j) = subst
              (MayEnd old (Recv from (empty_buffer room))) t moved.may in
              let nought : may_count old (In from room) 0 ≡ true = subst (λ w. may_count old (In from w) 0 ≡ true) (whole_room room roomy)
              (subst (MayEnd old (Recv from (empty_buffer room))) (ap told.Count (e ∙ none)) may) in
              subst (λ w. HasEnded w from) (sym world) (taken_ended j old from (spent_here old room from roomy.0 nought)),
        )

-- A call that failed moved nothing.
pub failed_unmoved : (old new : List HandleState) (request now : Request Buffer Parts) (error : ℕ)
    → ((k : ℕ) → Fail error ≡ (call_effect old request (told.Count k)).outcome → ⊥) → IsMoved old request new now (Fail error) → new ≡ old
failed_unmoved old new request now error counts moved = by-told moved.told refl
  where
    by-told : (t : Told) → moved.told ≡ t → new ≡ old
    by-told (told.Count k) t = absurd (counts k (moved.outcome_is
        ∙ ap (λ x. (call_effect old request x).outcome) t))
    by-told (told.Fail e) t = moved.world ∙ ap (λ x. (call_effect old request x).world) t

-- A call of a receive that ended so.
recv_brought : (old new : IoView) (tells memory : Bool) (room from : ℕ) (call : Outcome) (now : Request Buffer Parts)
    → IsMade tells memory old (Recv from (empty_buffer room)) new now call → EndsFor (Recv from (empty_buffer room)) now call
    → FailRose call old.fails new.fails → IsLoad room → Brought old new tells from call now
recv_brought old new tells memory room from (Count k) now made ends rose roomy =
    let size = ends.count in
    let wanted : k ≤ room = subst (λ w. k ≤ w) (whole_room room roomy) ends.wanted in
    let few : length ends.bytes ≤ room = omega (arith, size, wanted) in
    let most = roomy.1 in
    let within : k ≤ MOST_ASKED = omega (arith, wanted, most) in
    let is = recv_holding from (stored (empty_buffer room) ends.bytes) now ends.holds.shape ends.holds.holds in
    let shows = stored_shows room ends.bytes few in
    record {
      buf = stored (empty_buffer room) ends.bytes;
      request_is = is;
      unmade = refl;
      brings = (
        ap length shows ∙ size,
        within,
        λ t. filled_moves room k old.world new.world from ends.bytes (stored (empty_buffer room) ends.bytes) now (Count k) roomy size wanted
            shows is
            (λ e same. absurd cc) (λ j same. cc) (made.moved t),
      );
    }
recv_brought old new tells memory room from (From k addr) now made ends rose roomy =
    let size = ends.count in
    let wanted : k ≤ room = subst (λ w. k ≤ w) (whole_room room roomy) ends.wanted in
    let few : length ends.bytes ≤ room = omega (arith, size, wanted) in
    let most = roomy.1 in
    let within : k ≤ MOST_ASKED = omega (arith, wanted, most) in
    let is = recv_holding from (stored (empty_buffer room) ends.bytes) now ends.holds.shape ends.holds.holds in
    let shows = stored_shows room ends.bytes few in
    record {
      buf = stored (empty_buffer room) ends.bytes;
      request_is = is;
      unmade = refl;
      brings = (
        ap length shows ∙ size,
        within,
        λ t. filled_moves room k old.world new.world from ends.bytes (stored (empty_buffer room) ends.bytes) now
            (From k addr) roomy size wanted
            shows is
            (λ e same. absurd cc) (λ j same. absurd cc) (made.moved t),
      );
    }
recv_brought old new tells memory room from (Made h) now made ends rose roomy =
    let no : ◌≡◌ {A = Bool} false true = ends.0 in absurd cc
recv_brought old new tells memory room from (Fail error) now made ends rose roomy = record {
  buf = empty_buffer room;
  request_is = ends;
  unmade = refl;
  brings = (
    rose,
    λ t. failed_unmoved old.world new.world (Recv from (empty_buffer room)) now error (λ k same. absurd cc)
        (made.moved t),
  );
}

-- What a send took, by how its call ended.
abbrev pub Takes : IoView → IoView → Bool → ℕ → Outcome → List ℕ → Type 0
Takes old new tells to (Count k) bytes = IsTrue tells
    → (IsStream old.world to → output_at new.world to ++ drop k bytes ≡ output_at old.world to ++ bytes) × IsSentTo old.world to new.world
Takes old new tells to (From k addr) bytes = IsTrue tells
    → (IsStream old.world to → output_at new.world to ++ drop k bytes ≡ output_at old.world to ++ bytes) × IsSentTo old.world to new.world
Takes old new tells to (Made h) bytes = ⊥
Takes old new tells to (Fail error) bytes = Rose old.fails new.fails × (IsTrue tells → new.world ≡ old.world)

-- Bytes that were taken of a send joined the output.
taken_moves : (k : ℕ) (old new : List HandleState) (to : ℕ) (buf : Buffer) (now : Request Buffer Parts) (call : Outcome)
    → k ≤ length (take MOST_ASKED (shown buf)) → ((e : ℕ) → call ≡ Fail e → ⊥) → ((j : ℕ) → call ≡ Count j → j ≡ k)
    → IsMoved old (Send to buf) new now call
    → (IsStream old to → output_at new to ++ drop k (shown buf) ≡ output_at old to ++ shown buf) × IsSentTo old to new
taken_moves k old new to buf now call within sound counts moved = by-told moved.told refl
  where
    by-told : (t : Told) → moved.told ≡ t
        → (IsStream old to → output_at new to ++ drop k (shown buf) ≡ output_at old to ++ shown buf) × IsSentTo old to new
    by-told (told.Fail e) t = absurd (sound e (moved.outcome_is ∙ ap (λ x. (call_effect old (Send to buf) x).outcome) t))
    by-told (told.Count j) t =
        let e : j ≡ k = counts j (moved.outcome_is ∙ ap (λ x. (call_effect old (Send to buf) x).outcome) t) in
        let size = length-take MOST_ASKED (shown buf) in
        let most : k ≤ MOST_ASKED = omega (arith, within, size) in
        let front : take k (take MOST_ASKED (shown buf)) ≡ take k (shown buf) = take-take k MOST_ASKED (shown buf) most in
        let world : new ≡ amended old to (with_sent (take k (take MOST_ASKED (shown buf)))) = moved.world
        ∙ (ap (λ x. (call_effect old (Send to buf) x).world) t
        ∙ ap (λ n. amended old to (with_sent (take n (take MOST_ASKED (shown buf))))) e) in (
          λ stream. ap (λ w. output_at w to ++ drop k (shown buf)) world
              ∙ (ap (λ bs. bs ++ drop k (shown buf)) (output_after (take k (take MOST_ASKED (shown buf))) to old stream)
              ∙ (ap (λ bs. (output_at old to ++ bs) ++ drop k (shown buf)) front
              ∙ (append_assoc (output_at old to) (take k (shown buf)) (drop k (shown buf))
              ∙ ap (λ bs. output_at old to ++ bs) (take-append-drop k (shown buf))))),
          inr (take k (take MOST_ASKED (shown buf)), world),
        )

-- What the call of a send took, with the request that came back, which is what it was.
pub record Took (old new : IoView) (tells : Bool) (to : ℕ) (buf : Buffer) (call : Outcome) (now : Request Buffer Parts) : Type 0 where
  pub request_is : now ≡ Send to buf
  pub unmade : made_by call ≡ None
  pub takes : Takes old new tells to call (shown buf)

-- A send that was made took what it says from its buffer.
send_took : (old new : IoView) (tells memory : Bool) (to : ℕ) (buf : Buffer) (call : Outcome) (now : Request Buffer Parts)
    → IsMade tells memory old (Send to buf) new now call → EndsFor (Send to buf) now call → FailRose call old.fails new.fails
    → Took old new tells to buf call now
send_took old new tells memory to buf (Count k) now made ends rose = record {
  request_is = ends.1;
  unmade = refl;
  takes = λ t. taken_moves k old.world new.world to buf now (Count k) ends.0 (λ e same. absurd cc) (λ j same. cc) (made.moved t);
}
send_took old new tells memory to buf (From k addr) now made ends rose = record {
  request_is = ends.1;
  unmade = refl;
  takes = λ t. taken_moves k old.world new.world to buf now (From k addr) ends.0 (λ e same. absurd cc) (λ j same. absurd cc)
      (made.moved t);
}
send_took old new tells memory to buf (Made h) now made ends rose =
    let no : ◌≡◌ {A = Bool} false true = ends.0 in absurd cc
send_took old new tells memory to buf (Fail error) now made ends rose = record {
  request_is = ends;
  unmade = refl;
  takes = (rose, λ t. failed_unmoved old.world new.world (Send to buf) now error (λ k same. absurd cc) (made.moved t));
}

-- What is so of the object behind a call is so where no bytes moved since.
brings_later : (old mid new : IoView) (tells : Bool) (from : ℕ) (call : Outcome) (bytes : List ℕ) → IsLater mid new
    → (IsTrue tells → new.world ≡ mid.world) → Brings old mid tells from call bytes → Brings old new tells from call bytes
brings_later old mid new tells from (Count k) bytes later world brings = (
  brings.0,
  brings.1,
  λ t. (
    ap (λ w. bytes ++ input_at w from) (world t) ∙ (brings.2 t).0,
    subst (λ w. IsTaken old.world from w) (sym (world t)) (brings.2 t).1,
    λ none. subst (λ w. HasEnded w from) (sym (world t)) ((brings.2 t).2 none),
  ),
)
brings_later old mid new tells from (From k addr) bytes later world brings = (
  brings.0,
  brings.1,
  λ t. (
    ap (λ w. bytes ++ input_at w from) (world t) ∙ (brings.2 t).0,
    subst (λ w. IsTaken old.world from w) (sym (world t)) (brings.2 t).1,
    λ none. subst (λ w. HasEnded w from) (sym (world t)) ((brings.2 t).2 none),
  ),
)
brings_later old mid new tells from (Made h) bytes later world brings = brings
brings_later old mid new tells from (Fail error) bytes later world brings =
    (rose-later old.fails mid.fails new.fails brings.0 later.fails, λ t. world t ∙ brings.1 t)

-- What a send took it took still, behind calls that leave the world.
takes_later : (old mid new : IoView) (tells : Bool) (to : ℕ) (call : Outcome) (bytes : List ℕ) → IsLater mid new
    → (IsTrue tells → new.world ≡ mid.world) → Takes old mid tells to call bytes → Takes old new tells to call bytes
takes_later old mid new tells to (Count k) bytes later world takes = λ t. (
  λ stream. ap (λ w. output_at w to ++ drop k bytes) (world t) ∙ (takes t).0 stream,
  subst (λ w. IsSentTo old.world to w) (sym (world t)) (takes t).1,
)
takes_later old mid new tells to (From k addr) bytes later world takes = λ t. (
  λ stream. ap (λ w. output_at w to ++ drop k bytes) (world t) ∙ (takes t).0 stream,
  subst (λ w. IsSentTo old.world to w) (sym (world t)) (takes t).1,
)
takes_later old mid new tells to (Made h) bytes later world takes = takes
takes_later old mid new tells to (Fail error) bytes later world takes =
    (rose-later old.fails mid.fails new.fails takes.0 later.fails, λ t. world t ∙ takes.1 t)

module _ {I : Type 0} (view : I → IoView) (tells memory : Bool) (files : I → ℕ → Bool) (called : Called I)
    (law : Lawful view tells memory called) where
  -- An operation whose call made no handle: its outcome is that of the call, behind which no bytes moved.
  pub record Settles (old new : LegacyState I Buf) (op : Op) (done : Ended Buf) (ends : Ends view tells memory files called law old new op
      done)
      : Type 0 where
    pub outcome : done.outcome ≡ ends.call
    pub later : IsLater (view ends.mid.io) (view new.handling.io)
    pub world : IsTrue tells → world_of view new ≡ (view ends.mid.io).world

  pub settles : (old new : LegacyState I Buf) (op : Op) (done : Ended Buf) (ends : Ends view tells memory files called law old new op done)
      → made_by ends.call ≡ None → Settles old new op done ends
  settles old new op done ends none =
      let out : done.outcome ≡ ends.call = ends.outcome ∙ same_outcome ends.mid.table ends.call none in
      let unmade : made_by done.outcome ≡ None = ap made_by out ∙ none in
      let handed : ends.handed ≡ ends.mid = subst (λ m. HandsOver view tells memory ends.mid m ends.handed) unmade ends.hands in
      record {
        outcome = out;
        later = subst (λ h. IsLater (view h.io) (view new.handling.io)) handed ends.left_later;
        world = λ t. ends.left_world t ∙ ap (λ h. (view h.io).world) handed;
      }

  -- What a poll that returned a receive brought.
  pub received : (old new : LegacyState I Buf) (op : Op) (done : Ended Buf) (task room from : ℕ)
      → LegacyPolls files built called view tells memory old new op task (Ok (Ready done))
      → IsPending (ops_in old) op (IsReceive room from)
      → Brought (view old.handling.io) (view new.handling.io) tells from done.outcome (plain_request built done.request)
      × (IsLater (view old.handling.io) (view new.handling.io) × KeepsUsers old.handling.table new.handling.table)
  received old new op done task room from polls pending =
      let ends = ready_ends view tells memory files called law old new op done task (IsReceive room from) polls pending in
      let own : IsReceive room from ends.request = subst (λ asked. IfAsked asked (IsReceive room from)) ends.asked pending.asks in
      let is = own.request_is in
      let made : IsMade tells memory (view old.handling.io) (Recv from (empty_buffer room)) (view ends.mid.io)
      (plain_request built done.request)
      ends.call = subst (λ r. IsMade tells memory (view old.handling.io) r (view ends.mid.io) (plain_request built done.request)
      ends.call) is
      ends.made in
      let brought = recv_brought (view old.handling.io) (view ends.mid.io) tells memory room from ends.call
      (plain_request built done.request)
      made
      made.ends made.fails own.roomy in
      let s = settles old new op done ends brought.unmade in (
        subst (λ o. Brought (view old.handling.io) (view new.handling.io) tells from o (plain_request built done.request)) (sym s.outcome)
            (record {
              buf = brought.buf;
              request_is = brought.request_is;
              unmade = brought.unmade;
              brings = brings_later (view old.handling.io) (view ends.mid.io) (view new.handling.io) tells from ends.call
                  (shown brought.buf) s.later s.world brought.brings;
            }),
        (later-then (view old.handling.io) (view ends.mid.io) (view new.handling.io) made.later s.later, ends.users),
      )

  -- What a poll that returned a send took.
  pub sent : (old new : LegacyState I Buf) (op : Op) (done : Ended Buf) (task to count : ℕ)
      → LegacyPolls files built called view tells memory old new op task (Ok (Ready done))
      → (pending : IsPending (ops_in old) op (IsSend to count))
      → (buf : Buffer) × ((asked_at (ops_in old) op ≡ Some (Send to buf))
      × Took (view old.handling.io) (view new.handling.io) tells to buf done.outcome (plain_request built done.request)
      × (IsLater (view old.handling.io) (view new.handling.io) × KeepsUsers old.handling.table new.handling.table))
  sent old new op done task to count polls pending =
      let ends = ready_ends view tells memory files called law old new op done task (IsSend to count) polls pending in
      let is : IsSend to count ends.request = subst (λ asked. IfAsked asked (IsSend to count)) ends.asked pending.asks in
      let made : IsMade tells memory (view old.handling.io) (Send to is.buf) (view ends.mid.io) (plain_request built done.request)
      ends.call = subst (λ r. IsMade tells memory (view old.handling.io) r (view ends.mid.io) (plain_request built done.request) ends.call)
      is.request_is ends.made in
      let took = send_took (view old.handling.io) (view ends.mid.io) tells memory to is.buf ends.call (plain_request built done.request)
      made
      made.ends made.fails in
      let s = settles old new op done ends took.unmade in (
        is.buf,
        (
          ends.asked ∙ ap Some is.request_is,
          subst (λ o. Took (view old.handling.io) (view new.handling.io) tells to is.buf o (plain_request built done.request))
              (sym s.outcome) (record {
                request_is = took.request_is;
                unmade = took.unmade;
                takes = takes_later (view old.handling.io) (view ends.mid.io) (view new.handling.io) tells to ends.call (shown is.buf)
                    s.later s.world took.takes;
              }),
          (later-then (view old.handling.io) (view ends.mid.io) (view new.handling.io) made.later s.later, ends.users),
        ),
      )

  -- The bytes of a receive that came back are as many as it counts.
  pub received_load : (old new : LegacyState I Buf) (op : Op) (done : Ended Buf) (task room from : ℕ) (buf : Buf)
      → LegacyPolls files built called view tells memory old new op task (Ok (Ready done)) → IsPending (ops_in old) op (IsReceive room from)
      → plain_request built done.request ≡ Recv from (built buf) → CountsLoad done.outcome (content_of buf)
  received_load old new op done task room from buf polls pending is =
      let came = received old new op done task room from polls pending in
      let same : Recv from came.0.buf ≡ Recv from (built buf) = sym came.0.request_is ∙ is in
      let e : came.0.buf ≡ built buf = cc in
      subst (λ b. CountsLoad done.outcome (shown b)) e
      (brings_load (view old.handling.io) (view new.handling.io) tells from done.outcome (shown came.0.buf) came.0.brings)

  -- A send that came back has a load.
  pub sent_load : (old new : LegacyState I Buf) (op : Op) (done : Ended Buf) (task to count : ℕ) (buf : Buf)
      → LegacyPolls files built called view tells memory old new op task (Ok (Ready done)) → IsPending (ops_in old) op (IsSend to count)
      → plain_request built done.request ≡ Send to (built buf) → IsLoad (length (content_of buf))
  sent_load old new op done task to count buf polls pending is =
      let went = sent old new op done task to count polls pending in
      let same : Send to went.0 ≡ Send to (built buf) = sym went.1.1.request_is ∙ is in
      let e : went.0 ≡ built buf = cc in
      let own = subst (λ a. IfAsked a (IsSend to count)) went.1.0 pending.asks in
      let both : Send to went.0 ≡ Send to own.buf = own.request_is in
      let f : went.0 ≡ own.buf = cc in
      subst (λ b. IsLoad (length (shown b))) e (subst (λ b. IsLoad (length (shown b))) (sym f) (subst IsLoad (sym own.count_is) own.load))
