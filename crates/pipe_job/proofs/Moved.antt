-- What a call of a job's operation brings the job, by the request that came back, and what is so of its pipe where it is a fault.
use Rattle.std.proofs.Common.{ℕ, ◌≡◌, ◌≢◌, ◌∙◌, ◌≤◌, ◌<◌, ◌+◌, ◌⊎◌, ap, sym, refl, subst, arith, Bool, true, false, true≢false, IsTrue}
use Rattle.std.proofs.Common.{inl, inr, List, [], ◌++◌, length, take, drop, Some, take-add}
use Rattle.std.proofs.lemmas.List.{take_all, append_assoc, append-nil, length-drop, length-take}
use Rattle.rent_buf.specs.Buffer.{Buffer}
use Rattle.rent_buf.specs.Parts.{Parts}
use Rattle.rent_buf.specs.Rent.{Rented, buffer_of_rent}
use Rattle.rent_buf.specs.declared.fault.IoFault.{IoFault}
use Rattle.rent_buf.specs.declared.fault.IoFault.TheVariants as fault
use Rattle.rent_buf.specs.declared.held.Held.TheVariants.{One}
use Rattle.machine.specs.declared.request.Outcome.{Outcome}
use Rattle.machine.specs.declared.request.Outcome.TheVariants.{Count, From, Made, Fail}
use Rattle.machine.specs.declared.request.Request.{Request}
use Rattle.machine.specs.declared.request.Request.TheVariants.{Recv, ReadVec, Send, WriteVec, RecvMsg, SendMsg, Read, Write}
use Rattle.machine.specs.declared.request.Request.TheVariants.{SpliceTo, SpliceFrom, Accept, Open, Connect, Fsync, PollAdd, MkDir, Rename}
use Rattle.machine.specs.declared.request.Request.TheVariants.{Unlink}
use Rattle.machine.specs.declared.request.Told.{Told}
use Rattle.machine.specs.declared.request.Told.TheVariants as told
use Rattle.machine.specs.Attempt.{is_file_at}
use Rattle.machine.specs.Effect.{without_front}
use Rattle.machine.specs.Lists.{amended}
use Rattle.machine.specs.Request.{held_want, plain_request, sent_of, shape_of}
use Rattle.machine.specs.World.{input_at}
use Rattle.machine.specs.WorldCall.{call_effect}
use Rattle.ready_driver.specs.declared.ready.Direction.{Direction}
use Rattle.ready_driver.specs.declared.ready.Direction.TheVariants as towards
use Rattle.ready_driver.specs.Awaits.{awaits}
use Rattle.ready_driver.specs.Io.{IoView, IsMade, IsMoved}
use Rattle.pipe_job.specs.Causes.{HasEnded}
use Rattle.pipe_job.specs.Course.{BringsOn, Coursed, FailsBy, IsNext, IsSameBytes, ReceiveFault, SendFault, received_in, sent_in}
use Rattle.pipe_job.specs.Moves.{HasOwn, is_pipe_at, joining}
use Rattle.pipe_job.specs.declared.course.TheConstants.{MOST_MOVED}
use Rattle.pipe_job.proofs.Bytes.{next_front}
use Rattle.pipe_job.proofs.Calls.{moves_makes}
use Rattle.pipe_job.proofs.Moving.{ReceiveMoves, SendMoves, ended_still, flows_unfiled, kind_sent, kind_taken, next_is, receive_got}
use Rattle.pipe_job.proofs.Moving.{receive_moves, send_counts}
use Rattle.pipe_job.proofs.Moving.{send_moves, sent_input, taken_input}

-- A request that came back is a receive, or a send; or it is of another shape, and a count of it is nothing that a job takes.
abbrev pub IsOther : Request Rented Parts → Type 0
IsOther request =
    ((was is : Coursed) (k : ℕ) → BringsOn was is (Count k) request → ⊥)
    × ((c : Coursed) (k : ℕ) (why : IoFault) → FailsBy c (Count k) request why → why ≡ fault.InvalidData)
    × ((h : ℕ) → (shape_of request ≡ Recv h tt → ⊥) × (shape_of request ≡ Send h tt → ⊥))

-- A receive.
pub record IsReceive (request : Request Rented Parts) : Type 0 where
  pub fd : ℕ
  pub buf : Rented
  pub is : request ≡ Recv fd buf

-- A send.
pub record IsSend (request : Request Rented Parts) : Type 0 where
  pub fd : ℕ
  pub buf : Rented
  pub is : request ≡ Send fd buf

-- Which of these it is.
pub which : (request : Request Rented Parts) → IsReceive request ⊎ (IsSend request ⊎ IsOther request)
which (Recv fd buf) = inl (record { fd = fd; buf = buf; is = refl })
which (Send fd buf) = inr (inl (record { fd = fd; buf = buf; is = refl }))
which (ReadVec fd parts) = inr (inr (λ was is k no. no, λ c k why is. is, λ h. (λ e. absurd cc, λ e. absurd cc)))
which (WriteVec fd parts) = inr (inr (λ was is k no. no, λ c k why is. is, λ h. (λ e. absurd cc, λ e. absurd cc)))
which (RecvMsg fd buf) = inr (inr (λ was is k no. no, λ c k why is. is, λ h. (λ e. absurd cc, λ e. absurd cc)))
which (SendMsg fd addr buf) = inr (inr (λ was is k no. no, λ c k why is. is, λ h. (λ e. absurd cc, λ e. absurd cc)))
which (Read fd pos buf) = inr (inr (λ was is k no. no, λ c k why is. is, λ h. (λ e. absurd cc, λ e. absurd cc)))
which (Write fd pos buf) = inr (inr (λ was is k no. no, λ c k why is. is, λ h. (λ e. absurd cc, λ e. absurd cc)))
which (SpliceTo fd to len) = inr (inr (λ was is k no. no, λ c k why is. is, λ h. (λ e. absurd cc, λ e. absurd cc)))
which (SpliceFrom from fd len) = inr (inr (λ was is k no. no, λ c k why is. is, λ h. (λ e. absurd cc, λ e. absurd cc)))
which (Accept fd) = inr (inr (λ was is k no. no, λ c k why is. is, λ h. (λ e. absurd cc, λ e. absurd cc)))
which (Open path flags mode) = inr (inr (λ was is k no. no, λ c k why is. is, λ h. (λ e. absurd cc, λ e. absurd cc)))
which (Connect fd addr) = inr (inr (λ was is k no. no, λ c k why is. is, λ h. (λ e. absurd cc, λ e. absurd cc)))
which (Fsync fd data_only) = inr (inr (λ was is k no. no, λ c k why is. is, λ h. (λ e. absurd cc, λ e. absurd cc)))
which (PollAdd fd read) = inr (inr (λ was is k no. no, λ c k why is. is, λ h. (λ e. absurd cc, λ e. absurd cc)))
which (MkDir path mode) = inr (inr (λ was is k no. no, λ c k why is. is, λ h. (λ e. absurd cc, λ e. absurd cc)))
which (Rename from to) = inr (inr (λ was is k no. no, λ c k why is. is, λ h. (λ e. absurd cc, λ e. absurd cc)))
which (Unlink path remove_dir) = inr (inr (λ was is k no. no, λ c k why is. is, λ h. (λ e. absurd cc, λ e. absurd cc)))

-- A plain request has the shape of the request.
shape_plain : (request : Request Rented Parts) → shape_of (plain_request buffer_of_rent request) ≡ shape_of request
shape_plain (Recv fd buf) = refl
shape_plain (Send fd buf) = refl
shape_plain (ReadVec fd parts) = refl
shape_plain (WriteVec fd parts) = refl
shape_plain (RecvMsg fd buf) = refl
shape_plain (SendMsg fd addr buf) = refl
shape_plain (Read fd pos buf) = refl
shape_plain (Write fd pos buf) = refl
shape_plain (SpliceTo fd to len) = refl
shape_plain (SpliceFrom from fd len) = refl
shape_plain (Accept fd) = refl
shape_plain (Open path flags mode) = refl
shape_plain (Connect fd addr) = refl
shape_plain (Fsync fd data_only) = refl
shape_plain (PollAdd fd read) = refl
shape_plain (MkDir path mode) = refl
shape_plain (Rename from to) = refl
shape_plain (Unlink path remove_dir) = refl

-- Where no bytes are sent none join those that wait.
pub joining_none : (is : Bool) → joining is [] ≡ []
joining_none true = refl
joining_none false = refl

-- What a counted call of a job's operation moved.
pub record Counted (tells : Bool) (old new : IoView) (was is : Coursed) (dir : Direction) : Type 0 where
  pub sent : List ℕ
  pub got : List ℕ
  pub sends : sent_in is ≡ sent_in was ++ sent
  pub gets : received_in is ≡ received_in was ++ got
  pub after : got ≢ [] → sent_in is ≡ is.bytes
  pub out : sent ≢ [] → dir ≡ towards.Write
  pub into : got ≢ [] → dir ≡ towards.Read
  pub file : IsTrue tells → is_file_at old.world was.pipe ≡ false
  pub kind : IsTrue tells → is_pipe_at new.world was.pipe ≡ is_pipe_at old.world was.pipe
  pub line : IsTrue tells → input_at old.world was.pipe ++ joining (is_pipe_at old.world was.pipe) sent
      ≡ got ++ input_at new.world was.pipe

module _ (tells memory : Bool) (old new : IoView) (was is : Coursed) (same : IsSameBytes was is) where
  -- A receive.
  received : (buf after : Rented) (g k : ℕ) → was.sent ≡ length was.bytes → received_in is ≡ received_in was ++ after.bytes
      → is.sent ≡ was.sent
      → IsMade tells memory old (Recv was.pipe (buffer_of_rent buf)) new (Recv g (buffer_of_rent after)) (Count k)
      → Counted tells old new was is towards.Read
  received buf after g k all gets sent made =
      let moves : IsTrue tells → ReceiveMoves old.world new.world was.pipe (buffer_of_rent buf) (Recv g (buffer_of_rent after)) k =
      λ t. receive_moves old.world new.world was.pipe (buffer_of_rent buf) (Recv g (buffer_of_rent after)) k (made.moved t) in
      record {
        sent = [];
        got = after.bytes;
        sends = ap (λ n. take n is.bytes) sent ∙ ap (take was.sent) same.bytes ∙ sym (append-nil (sent_in was));
        gets = gets;
        after = λ some. take_all is.sent is.bytes (let size = ap length same.bytes in omega (arith, all, sent, size));
        out = λ none. absurd (none refl);
        into = λ some. refl;
        file = λ t. flows_unfiled old.world was.pipe (moves t).may.flows;
        kind = λ t. ap (λ w. is_pipe_at w was.pipe) (moves t).world ∙ kind_taken k old.world was.pipe;
        line = λ t. ap (λ bs. input_at old.world was.pipe ++ bs) (joining_none (is_pipe_at old.world was.pipe))
            ∙ append-nil (input_at old.world was.pipe) ∙ taken_input k old.world was.pipe
            ∙ ap (λ bs. bs ++ input_at (amended old.world was.pipe (without_front k)) was.pipe)
            (sym (receive_got old.world new.world was.pipe g buf after k (moves t)))
            ∙ ap (λ w. after.bytes ++ input_at w was.pipe) (sym (moves t).world);
      }

  -- A send.
  sent : (buf : Rented) (k : ℕ) → sent_of (Send was.pipe (buffer_of_rent buf)) ≡ take MOST_MOVED (drop was.sent was.bytes)
      → is.sent ≡ was.sent + k → is.received ≡ was.received → k ≤ length (sent_of (Send was.pipe (buffer_of_rent buf)))
      → (now : Request Buffer Parts) → IsMade tells memory old (Send was.pipe (buffer_of_rent buf)) new now (Count k)
      → Counted tells old new was is towards.Write
  sent buf k next count got within now made =
      let moves : IsTrue tells → SendMoves old.world new.world was.pipe (buffer_of_rent buf) k =
      λ t. send_moves old.world new.world was.pipe (buffer_of_rent buf) now k (made.moved t) in
      let bytes = take k (sent_of (Send was.pipe (buffer_of_rent buf))) in
      let front : bytes ≡ take k (drop was.sent was.bytes) = ap (take k) next
      ∙ next_front was.bytes k MOST_MOVED was.sent (subst (λ bs. k ≤ length bs) next within) in
      record {
        sent = bytes;
        got = [];
        sends = ap (λ n. take n is.bytes) count ∙ ap (take (was.sent + k)) same.bytes ∙ take-add was.sent k was.bytes
            ∙ ap (λ bs. sent_in was ++ bs) (sym front);
        gets = ap (λ n. take n is.bytes) got ∙ ap (take was.received) same.bytes ∙ sym (append-nil (received_in was));
        after = λ none. absurd (none refl);
        out = λ some. refl;
        into = λ none. absurd (none refl);
        file = λ t. flows_unfiled old.world was.pipe (moves t).may.flows;
        kind = λ t. ap (λ w. is_pipe_at w was.pipe) (moves t).world ∙ kind_sent bytes old.world was.pipe;
        line = λ t. sent_input bytes old.world was.pipe ∙ ap (λ w. input_at w was.pipe) (sym (moves t).world);
      }

  -- A counted call, with the request that came back.
  pub record Counts (request : Request Rented Parts) : Type 0 where
    pub dir : Direction
    pub awaited : awaits request ≡ Some (was.pipe, dir)
    pub counted : Counted tells old new was is dir

  -- A receive that came back as another request did not.
  recv_shape : (buf after : Rented) (h g k : ℕ)
      → IsMade tells memory old (Recv h (buffer_of_rent buf)) new (Send g (buffer_of_rent after)) (Count k)
      → ⊥
  recv_shape buf after h g k made = absurd (let no = made.ends.holds.shape in cc)

  send_shape : (buf after : Rented) (h g k : ℕ)
      → IsMade tells memory old (Send h (buffer_of_rent buf)) new (Recv g (buffer_of_rent after)) (Count k)
      → ⊥
  send_shape buf after h g k made = absurd (let no = made.ends.1 in cc)

  pub counts : (request now : Request Rented Parts) (k : ℕ) → IsNext was (plain_request buffer_of_rent request)
      → IsMade tells memory old (plain_request buffer_of_rent request) new (plain_request buffer_of_rent now) (Count k)
      → BringsOn was is (Count k) now → Counts request
  counts request now k next made brings = elim (which now) [
    | inl back ↦ back_receive back.fd back.buf
        (subst (λ r. IsMade tells memory old (plain_request buffer_of_rent request) new (plain_request buffer_of_rent r)
        (Count k)) back.is made)
        (subst (BringsOn was is (Count k)) back.is brings)
    | inr (inl back) ↦ back_send back.fd back.buf
        (subst (λ r. IsMade tells memory old (plain_request buffer_of_rent request) new (plain_request buffer_of_rent r)
        (Count k)) back.is made)
        (subst (BringsOn was is (Count k)) back.is brings)
    | inr (inr other) ↦ absurd (other.0 was is k brings)
  ]
    where
      back_receive : (g : ℕ) (after : Rented)
          → IsMade tells memory old (plain_request buffer_of_rent request) new (Recv g (buffer_of_rent after)) (Count k)
          → BringsOn was is (Count k) (Recv g after) → Counts request
      back_receive g after made brings = elim (next_is was request next) [
        | inl asked ↦ record {
          dir = towards.Read;
          awaited = ap awaits asked.1;
          counted = received asked.0 after g k asked.2 brings.0 brings.1
              (subst (λ r. IsMade tells memory old (plain_request buffer_of_rent r) new (Recv g (buffer_of_rent after))
              (Count k)) asked.1 made);
        }
        | inr asked ↦ absurd (send_shape asked.0 after was.pipe g k
            (subst (λ r. IsMade tells memory old (plain_request buffer_of_rent r) new (Recv g (buffer_of_rent after))
            (Count k)) asked.1 made))
      ]

      back_send : (g : ℕ) (after : Rented)
          → IsMade tells memory old (plain_request buffer_of_rent request) new (Send g (buffer_of_rent after)) (Count k)
          → BringsOn was is (Count k) (Send g after) → Counts request
      back_send g after made brings = elim (next_is was request next) [
        | inl asked ↦ absurd (recv_shape asked.0 after was.pipe g k
            (subst (λ r. IsMade tells memory old (plain_request buffer_of_rent r) new (Send g (buffer_of_rent after))
            (Count k)) asked.1 made))
        | inr asked ↦
            let sends = subst (λ r. IsMade tells memory old (plain_request buffer_of_rent r) new (Send g (buffer_of_rent after))
            (Count k)) asked.1
            made in record {
              dir = towards.Write;
              awaited = ap awaits asked.1;
              counted = sent asked.0 k asked.3 brings.1 brings.2 sends.ends.0 (Send g (buffer_of_rent after)) sends;
            }
      ]

-- Why a job fails that isn't an error: what is so of its pipe then, where the object shows its handles.
abbrev pub ToldFault : Bool → IoView → IoView → Coursed → IoFault → Type 0
ToldFault tells old new was (fault.Os e) = Unit {0}
ToldFault tells old new was fault.UnexpectedEof = IsTrue tells → HasEnded new.world was.pipe
ToldFault tells old new was fault.WriteZero = IsTrue tells → ⊥
ToldFault tells old new was fault.InvalidData = IsTrue tells → HasOwn old.world was → ⊥
ToldFault tells old new was fault.ReadFault = ⊥
ToldFault tells old new was fault.WriteFault = ⊥
ToldFault tells old new was fault.OutOfMemory = ⊥

module _ (tells memory : Bool) (old new : IoView) (was : Coursed) where
  -- A receive that brought none, or other bytes.
  receive_told : (buf after : Rented) (g k : ℕ) (why : IoFault) → 1 ≤ held_want (One (buffer_of_rent buf))
      → IsMade tells memory old (Recv was.pipe (buffer_of_rent buf)) new (Recv g (buffer_of_rent after)) (Count k)
      → ReceiveFault was after.bytes why → ToldFault tells old new was why
  receive_told buf after g k (fault.Os e) some made fails = tt
  receive_told buf after g k fault.UnexpectedEof some made fails = λ t.
      let moves = receive_moves old.world new.world was.pipe (buffer_of_rent buf) (Recv g (buffer_of_rent after)) k (made.moved t) in
      subst (λ w. HasEnded w was.pipe) (sym moves.world) (ended_still old.world was.pipe (held_want (One
      (buffer_of_rent buf))) k moves.may some
      (sym (receive_got old.world new.world was.pipe g buf after k moves) ∙ fails))
  receive_told buf after g k fault.WriteZero some made fails = absurd fails
  receive_told buf after g k fault.InvalidData some made fails = λ t own.
      let moves = receive_moves old.world new.world was.pipe (buffer_of_rent buf) (Recv g (buffer_of_rent after)) k (made.moved t) in
      let got = receive_got old.world new.world was.pipe g buf after k moves in
      let left = input_at (amended old.world was.pipe (without_front k)) was.pipe in
      let waits : input_at old.world was.pipe ++ own.rest ≡ after.bytes ++ (left ++ own.rest) =
      ap (λ bs. bs ++ own.rest) (taken_input k old.world was.pipe ∙ ap (λ bs. bs ++ left) (sym got))
      ∙ append_assoc after.bytes left own.rest in
      fails (left ++ own.rest) (own.bytes ∙ ap (λ bs. received_in was ++ bs) waits)
  receive_told buf after g k fault.ReadFault some made fails = absurd fails
  receive_told buf after g k fault.WriteFault some made fails = absurd fails
  receive_told buf after g k fault.OutOfMemory some made fails = absurd fails

  -- A send that took none, or more than there was.
  send_told : (buf : Rented) (now : Request Buffer Parts) (k : ℕ) (why : IoFault) → was.sent < length was.bytes
      → sent_of (Send was.pipe (buffer_of_rent buf)) ≡ take MOST_MOVED (drop was.sent was.bytes)
      → IsMade tells memory old (Send was.pipe (buffer_of_rent buf)) new now (Count k) → SendFault was k why
      → ToldFault tells old new was why
  send_told buf now k (fault.Os e) some next made fails = tt
  send_told buf now k fault.UnexpectedEof some next made fails = absurd fails
  send_told buf now k fault.WriteZero some next made fails = λ t.
      let moves = send_moves old.world new.world was.pipe (buffer_of_rent buf) now k (made.moved t) in
      send_counts (length (sent_of (Send was.pipe (buffer_of_rent buf)))) k (offers buf some next) moves.may.may fails
    where
      offers : (buf : Rented) → was.sent < length was.bytes
          → sent_of (Send was.pipe (buffer_of_rent buf)) ≡ take MOST_MOVED (drop was.sent was.bytes)
          → 1 ≤ length (sent_of (Send was.pipe (buffer_of_rent buf)))
      offers buf some next =
          let size = ap length next ∙ length-take MOST_MOVED (drop was.sent was.bytes) in
          let rest = length-drop was.sent was.bytes in
          omega (arith, size, rest, some)
  send_told buf now k fault.InvalidData some next made fails = λ t own.
      let size = ap length next ∙ length-take MOST_MOVED (drop was.sent was.bytes) in
      let rest = length-drop was.sent was.bytes in
      let within = made.ends.0 in
      omega (arith, size, rest, within, fails)
  send_told buf now k fault.ReadFault some next made fails = absurd fails
  send_told buf now k fault.WriteFault some next made fails = absurd fails
  send_told buf now k fault.OutOfMemory some next made fails = absurd fails

  -- An operation of a job that failed, which its call ended so.
  pub fault_told : (call : Outcome) (request now : Request Rented Parts) (why : IoFault) → IsNext was (plain_request buffer_of_rent request)
      → IsMade tells memory old (plain_request buffer_of_rent request) new (plain_request buffer_of_rent now) call
      → FailsBy was call now why → ToldFault tells old new was why
  fault_told (Fail e) request now why next made fails = subst (ToldFault tells old new was) (sym fails) tt
  fault_told (Made h) request now why next made fails =
      absurd (true≢false (sym made.ends.0 ∙ moves_makes was request next))
  fault_told (From k addr) request now why next made fails = subst (ToldFault tells old new was) (sym fails) (λ t own.
      no_message request next (made.moved t))
    where
      by : (request : Request Buffer Parts) (t : Told)
          → From k addr ≡ (call_effect old.world request t).outcome → ((e : ℕ)
          → (call_effect old.world request (told.Fail e)).outcome ≡ Fail e)
          → ((j : ℕ) → (call_effect old.world request (told.Count j)).outcome ≡ Count j) → ⊥
      by request (told.Fail e) is fail count = absurd (let no = is ∙ fail e in cc)
      by request (told.Count j) is fail count = absurd (let no = is ∙ count j in cc)

      no_message : (request : Request Rented Parts) → IsNext was (plain_request buffer_of_rent request)
          → IsMoved old.world (plain_request buffer_of_rent request) new.world (plain_request buffer_of_rent now) (From k addr) → ⊥
      no_message request next moved = elim (next_is was request next) [
        | inl asked ↦
            let is = subst (λ r. From k addr ≡ (call_effect old.world
            (plain_request buffer_of_rent r) moved.told).outcome) asked.1 moved.outcome_is in
            by (Recv was.pipe (buffer_of_rent asked.0)) moved.told is (λ e. refl) (λ j. refl)
        | inr asked ↦
            let is = subst (λ r. From k addr ≡ (call_effect old.world
            (plain_request buffer_of_rent r) moved.told).outcome) asked.1 moved.outcome_is in
            by (Send was.pipe (buffer_of_rent asked.0)) moved.told is (λ e. refl) (λ j. refl)
      ]
  fault_told (Count k) request now why next made fails = elim (which now) [
    | inl back ↦ receive_back back.fd back.buf
        (subst (λ r. IsMade tells memory old (plain_request buffer_of_rent request) new (plain_request buffer_of_rent r)
        (Count k)) back.is made)
        (subst (λ r. FailsBy was (Count k) r why) back.is fails)
    | inr (inl back) ↦ send_back back.fd back.buf
        (subst (λ r. IsMade tells memory old (plain_request buffer_of_rent request) new (plain_request buffer_of_rent r)
        (Count k)) back.is made)
        (subst (λ r. FailsBy was (Count k) r why) back.is fails)
    | inr (inr other) ↦ absurd (none_back other made)
  ]
    where
      receive_back : (g : ℕ) (after : Rented)
          → IsMade tells memory old (plain_request buffer_of_rent request) new (Recv g (buffer_of_rent after)) (Count k)
          → FailsBy was (Count k) (Recv g after) why → ToldFault tells old new was why
      receive_back g after made fails = elim (next_is was request next) [
        | inl asked ↦ receive_told asked.0 after g k why asked.3
            (subst (λ r. IsMade tells memory old (plain_request buffer_of_rent r) new (Recv g (buffer_of_rent after))
            (Count k)) asked.1 made) fails
        | inr asked ↦ absurd (send_shape tells memory old new was was (record { pipe = refl; bytes = refl }) asked.0 after was.pipe g k
            (subst (λ r. IsMade tells memory old (plain_request buffer_of_rent r) new (Recv g (buffer_of_rent after))
            (Count k)) asked.1 made))
      ]

      send_back : (g : ℕ) (after : Rented)
          → IsMade tells memory old (plain_request buffer_of_rent request) new (Send g (buffer_of_rent after)) (Count k)
          → FailsBy was (Count k) (Send g after) why → ToldFault tells old new was why
      send_back g after made fails = elim (next_is was request next) [
        | inl asked ↦ absurd (recv_shape tells memory old new was was (record { pipe = refl; bytes = refl }) asked.0 after was.pipe g k
            (subst (λ r. IsMade tells memory old (plain_request buffer_of_rent r) new (Send g (buffer_of_rent after))
            (Count k)) asked.1 made))
        | inr asked ↦ send_told asked.0 (Send g (buffer_of_rent after)) k why asked.2 asked.3
            (subst (λ r. IsMade tells memory old (plain_request buffer_of_rent r) new (Send g (buffer_of_rent after))
            (Count k)) asked.1 made) fails
      ]

      none_back : IsOther now
          → IsMade tells memory old (plain_request buffer_of_rent request) new (plain_request buffer_of_rent now) (Count k) → ⊥
      none_back other made = elim (next_is was request next) [
        | inl asked ↦ (other.2 was.pipe).0 (sym (shape_plain now)
            ∙ (subst (λ r. IsMade tells memory old (plain_request buffer_of_rent r) new (plain_request buffer_of_rent now)
            (Count k)) asked.1
            made).ends.holds.shape)
        | inr asked ↦ (other.2 was.pipe).1 (sym (shape_plain now)
            ∙ ap shape_of (subst (λ r. IsMade tells memory old (plain_request buffer_of_rent r) new (plain_request buffer_of_rent now)
            (Count k))
            asked.1 made).ends.1)
      ]
