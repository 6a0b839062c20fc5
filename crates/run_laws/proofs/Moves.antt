-- Each event moves at a handle what its transfers say.
use Rattle.std.proofs.Common.{◌≡◌, ◌≢◌, ◌⊎◌, inl, inr, ℕ, zero, suc, Bool, true, false, List, [], ◌∷◌, ◌++◌, length, take, drop, map}
use Rattle.std.proofs.Common.{Option, None, Some, option_map, unwrap_or, slice_get, refl, sym, ◌∙◌, ap, subst, arith}
use Rattle.std.specs.Prelude.{nat_le, if◌then◌else◌}
use Rattle.std.proofs.lemmas.Bool.{eq-eqb}
use Rattle.std.proofs.lemmas.Option.{slice_get_cases}
use Rattle.std.proofs.lemmas.List.{append-nil, append_assoc}
use Rattle.rent_buf.specs.Buffer.{Buffer}
use Rattle.rent_buf.specs.Parts.{Parts}
use Rattle.machine.specs.declared.request.Request.{Request}
use Rattle.machine.specs.declared.request.Call.{Call}
use Rattle.machine.specs.declared.request.Call.TheVariants.{In, Out, MessageIn, MessageOut, ReadAt, WriteAt, ToPipe, FromPipe, Accept}
use Rattle.machine.specs.declared.request.Call.TheVariants.{Open, Connect, Fsync, PollAdd, Path}
use Rattle.machine.specs.declared.request.Told.{Told}
use Rattle.machine.specs.declared.request.Told.TheVariants.{Count, Fail}
use Rattle.machine.specs.declared.world.HandleKind.{HandleKind}
use Rattle.machine.specs.declared.world.HandleKind.TheVariants.{Stream, Datagram, File, Pipe, Listener}
use Rattle.machine.specs.declared.world.HandleState.{HandleState}
use Rattle.machine.specs.declared.ledger.Event.{Event}
use Rattle.machine.specs.declared.ledger.Event.TheVariants.{Give, Feed, FeedMessage, End, Look, Close, Submit, Poll, Drop, Cancel, Turn}
use Rattle.machine.specs.declared.ledger.Event.TheVariants.{Exec}
use Rattle.machine.specs.declared.ledger.Event.TheVariants.{NewCanceller, NewHandle, CancelAll}
use Rattle.machine.specs.declared.ledger.Refusal.{Refusal}
use Rattle.machine.specs.Lists.{amended, passes}
use Rattle.machine.specs.World.{fresh, gives_bytes, is_file, is_pipe, input_at, messages_at, with_input, with_message, with_end}
use Rattle.machine.specs.Request.{call_of, sent_of}
use Rattle.machine.specs.Outcome.{may_receive, may_count, is_allowed}
use Rattle.machine.specs.Effect.{without_front, without_message, with_sent, with_sent_message, with_written, message_effect}
use Rattle.machine.specs.Effect.{count_effect, effect}
use Rattle.machine.specs.Ledger.{Ledger, Operation, Place, InQueue, InFlight, InDone, Reaped, Gone, Queued, Req, Item, Op}
use Rattle.machine.specs.Ledger.{new_operation, user_holds, is_under_marked, group_under, members}
use Rattle.machine.specs.Queue.{with_op, take_all, is_unheld}
use Rattle.machine.specs.Turn.{exec_op, exec_step, complete_at}
use Rattle.machine.specs.Refusal.{cause, allowed, waits}
use Rattle.machine.specs.Step.{step, row, with_new_op, submit_if, group_of, with_mark, handed_over, poll_at, poll_step, with_drop}
use Rattle.machine.specs.Step.{drop_at, drop_step, with_user, close_if}
use Rattle.machine.proofs.Releasing.{released-beside}
use Rattle.run_laws.specs.Transfers.{Transfer, Fed, Taken, Sent, Written, MessageFed, MessageTaken, MessageSent, at_handle, message_taken}
use Rattle.run_laws.specs.Transfers.{spliced, moved, moved_as, op_moves, item_moves, row_moves, moves_if, event_moves}
use Rattle.machine.proofs.Numbers.{equal-other, and-left, and-right}
use Rattle.machine.proofs.Amended.{changed-cases, joined-cases}
use Rattle.machine.proofs.Staying.{stays-take_all, stays-push, stays-push_each, stays-leave, stays-reap_each}
use Rattle.machine.proofs.Listed.{flying-there}
use Rattle.machine.proofs.Stepping.{step-refused, step-row, held-there, executed-there}
use Rattle.machine.proofs.Lawful.{Lawful}
use Rattle.run_laws.proofs.Ends.{allowed-there}
use Rattle.run_laws.proofs.Used.{used-held}
use Rattle.run_laws.proofs.Passing.{after_transfer, Fits, IsLeft, left-fresh, left-end, left-next}

-- A handle that was looked up goes through transfers, one after the other.
abbrev pub Goes : Option HandleState → List Transfer → Option HandleState → Type 0
Goes x [] y = y ≡ x
Goes x (t ∷ moves) y = (old : HandleState) × (x ≡ Some old) × Fits t old × Goes (Some (after_transfer t old)) moves y

-- Transfers, and then others.
goes-then : (moves later : List Transfer) (x y z : Option HandleState) → Goes x moves y → Goes y later z → Goes x (moves ++ later) z
goes-then [] later x y z a b = subst (λ w. Goes w later z) a b
goes-then (t ∷ moves) later x y z a b = (a.0, a.1, a.2, goes-then moves later (Some (after_transfer t a.0)) y z a.3 b)

-- A handle that was looked up is made, has its end marked, or goes through transfers.
abbrev pub Steps : Option HandleState → List Transfer → Option HandleState → Type 0
Steps x moves y =
    Goes x moves y
    ⊎ ((kind : HandleKind) × (x ≡ None) × (moves ≡ []) × (y ≡ Some (fresh kind)))
    ⊎ ((old : HandleState) × (x ≡ Some old) × (moves ≡ []) × (y ≡ Some (with_end old)))

-- What a handle that was looked up has, by the transfers at it: where it isn't there, there were none.
abbrev pub Told_of : List Transfer → Option HandleState → Type 0
Told_of made None = made ≡ []
Told_of made (Some handle) = IsLeft made handle

-- Transfers more.
told-goes : (x y : Option HandleState) (made moves : List Transfer) → Goes x moves y → Told_of made x → Told_of (made ++ moves) y
told-goes x y made [] g a = subst (λ w. Told_of (made ++ []) w) (sym g) (subst (λ ts. Told_of ts x) (sym (append-nil made)) a)
told-goes x y made (t ∷ moves) g a =
    subst (λ ts. Told_of ts y) (append_assoc made (t ∷ []) moves)
    (told-goes (Some (after_transfer t g.0)) y (made ++ t ∷ []) moves g.3
    (left-next t made g.0 g.2 (subst (Told_of made) g.1 a)))

-- One event more.
pub told-steps : (x y : Option HandleState) (made moves : List Transfer) → Steps x moves y → Told_of made x → Told_of (made ++ moves) y
told-steps x y made moves (inl g) a = told-goes x y made moves g a
told-steps x y made moves (inr (inl n)) a =
    let none : made ≡ [] = subst (Told_of made) n.1 a in
    subst (Told_of (made ++ moves)) (sym n.3)
    (subst (λ ts. IsLeft ts (fresh n.0)) (sym (ap (λ ts. ts ++ moves) none ∙ n.2)) (left-fresh n.0))
told-steps x y made moves (inr (inr e)) a =
    subst (Told_of (made ++ moves)) (sym e.3)
    (subst (λ ts. IsLeft ts (with_end e.0)) (sym (ap (λ ts. made ++ ts) e.2 ∙ append-nil made))
    (left-end made e.0 (subst (Told_of made) e.1 a)))

-- The transfers at a handle are those at it.
pub at-same : (h k : ℕ) (t : Transfer) → h ≡ k → at_handle h k t ≡ t ∷ []
at-same h k t e = ap (λ b. if b then t ∷ [] else []) (eq-eqb h k e)

-- And none at another one.
pub at-other : (h k : ℕ) (t : Transfer) → h ≢ k → at_handle h k t ≡ []
at-other h k t other = ap (λ b. if b then t ∷ [] else []) (equal-other h k other)

-- One handle is changed by a transfer.
goes-at : (world : List HandleState) (k : ℕ) (change : HandleState → HandleState) (t : Transfer) (h : ℕ) (old : HandleState) →
    slice_get world k ≡ Some old → Fits t old → change old ≡ after_transfer t old →
    Goes (slice_get world h) (at_handle h k t) (slice_get (amended world k change) h)
goes-at world k change t h old there fits is = elim (changed-cases change world k h) [
  | inl e ↦ subst (λ moves. Goes (slice_get world h) moves (slice_get (amended world k change) h)) (sym (at-same h k t e.0))
      (old, ap (slice_get world) e.0 ∙ there, fits, e.1 ∙ ap (option_map change) there ∙ ap Some is)
  | inr e ↦ subst (λ moves. Goes (slice_get world h) moves (slice_get (amended world k change) h)) (sym (at-other h k t e.0)) e.1
]

-- The number of bytes that are the first of a list is that of a cut.
take-cut : (k : ℕ) (xs : List ℕ) → take (length (take k xs)) xs ≡ take k xs
take-cut zero xs = refl
take-cut (suc k) [] = refl
take-cut (suc k) (x ∷ xs) = ap (λ ys. x ∷ ys) (take-cut k xs)

-- So it is behind them.
drop-cut : (k : ℕ) (xs : List ℕ) → drop k xs ≡ drop (length (take k xs)) xs
drop-cut zero xs = refl
drop-cut (suc k) [] = refl
drop-cut (suc k) (x ∷ xs) = drop-cut k xs

-- The first bytes leave a handle that is no file.
goes-taken : (world : List HandleState) (from k h : ℕ) (old : HandleState) → slice_get world from ≡ Some old → is_file old.kind ≡ false →
    Goes (slice_get world h) (at_handle h from (Taken (take k (input_at world from)))) (slice_get (amended world from (without_front k)) h)
goes-taken world from k h old there plain =
    let input : old.input ≡ input_at world from = ap (λ x. unwrap_or (option_map (λ handle. handle.input) x) []) (sym there) in
    subst (λ xs. Goes (slice_get world h) (at_handle h from (Taken (take k xs))) (slice_get (amended world from (without_front k)) h)) input
    (goes-at world from (without_front k) (Taken (take k old.input)) h old there (take-cut k old.input, plain)
    (ap (λ xs. record old { input = xs }) (drop-cut k old.input)))

-- What passes a test is there.
pub passes-there : {A : Type 0} (test : A → Bool) (x : Option A) → passes test x ≡ true → (y : A) × (x ≡ Some y) × (test y ≡ true)
passes-there test None is = (let f : ⊥ = cc in absurd f)
passes-there test (Some y) is = (y, refl, is)

-- What was there is there after a change.
changed-there : {A : Type 0} (f : A → A) (xs : List A) (n k : ℕ) (x : A) → slice_get xs k ≡ Some x →
    (y : A) × (slice_get (amended xs n f) k ≡ Some y)
changed-there f xs n k x there = elim (changed-cases f xs n k) [
  | inl e ↦ (f x, e.1 ∙ ap (option_map f) (sym (ap (slice_get xs) e.0) ∙ there))
  | inr e ↦ (x, e.1 ∙ there)
]

-- What gives bytes is no file.
gives-plain : (kind : HandleKind) → gives_bytes kind ≡ true → is_file kind ≡ false
gives-plain Stream is = refl
gives-plain Datagram is = refl
gives-plain File is = (let f : ⊥ = cc in absurd f)
gives-plain Pipe is = refl
gives-plain Listener is = refl

-- Nor is a pipe.
pipe-plain : (kind : HandleKind) → is_pipe kind ≡ true → is_file kind ≡ false
pipe-plain Stream is = refl
pipe-plain Datagram is = refl
pipe-plain File is = (let f : ⊥ = cc in absurd f)
pipe-plain Pipe is = refl
pipe-plain Listener is = refl

-- A splice moves the first bytes of one handle to another one.
goes-spliced : (world : List HandleState) (from to k h : ℕ) (old other : HandleState) → slice_get world from ≡ Some old →
    is_file old.kind ≡ false → slice_get world to ≡ Some other →
    Goes (slice_get world h) (spliced h from to (take k (input_at world from)))
    (slice_get (amended (amended world from (without_front k)) to (with_sent (take k (input_at world from)))) h)
goes-spliced world from to k h old other there plain takes =
    let first : List HandleState = amended world from (without_front k) in
    let bytes : List ℕ = take k (input_at world from) in
    let t = changed-there (without_front k) world from to other takes in
    goes-then (at_handle h from (Taken bytes)) (at_handle h to (Sent bytes)) (slice_get world h) (slice_get first h)
    (slice_get (amended first to (with_sent bytes)) h) (goes-taken world from k h old there plain)
    (goes-at first to (with_sent bytes) (Sent bytes) h t.0 t.1 tt refl)

-- A receive takes the message that waits longest.
goes-received : (world : List HandleState) (from k h : ℕ) (old : HandleState) (first : Option (ℕ × List ℕ)) →
    slice_get world from ≡ Some old → slice_get old.messages_in 0 ≡ first → (want : ℕ) → may_receive want k first ≡ true →
    Goes (slice_get world h) (message_taken h from first)
    (slice_get (message_effect (amended world from without_message) k first).world h)
goes-received world from k h old None there is want may = (let f : ⊥ = cc in absurd f)
goes-received world from k h old (Some message) there is want may =
    goes-at world from without_message (MessageTaken message) h old there is refl

-- A new handle is made behind the others.
steps-new : (world : List HandleState) (kind : HandleKind) (h : ℕ) → Steps (slice_get world h) [] (slice_get (world ++ fresh kind ∷ []) h)
steps-new world kind h = elim (joined-cases world (fresh kind) h) [
  | inl e ↦ inr (inl (kind, e.1, refl, e.2))
  | inr e ↦ inl e.1
]

module _ (world : List HandleState) (sent : List ℕ) (k h : ℕ) where
  -- A count of a call, by its rule.
  steps-count : (call : Call) → may_count world call k ≡ true →
      Steps (slice_get world h) (moved h world call sent k) (slice_get (count_effect world call sent k).world h)
  steps-count (In from want) may =
      let f = passes-there _ (slice_get world from) may in
      inl (goes-taken world from k h f.0 f.1 (gives-plain f.0.kind (and-left _ _ f.2)))
  steps-count (Out to offered) may =
      let f = passes-there _ (slice_get world to) may in
      inl (goes-at world to (with_sent (take k sent)) (Sent (take k sent)) h f.0 f.1 tt refl)
  steps-count (MessageIn from want) may =
      let f = passes-there _ (slice_get world from) may in
      let first : slice_get f.0.messages_in 0 ≡ slice_get (messages_at world from) 0 =
      ap (λ x. slice_get (unwrap_or (option_map (λ handle. handle.messages_in) x) []) 0) (sym f.1) in
      inl (goes-received world from k h f.0 (slice_get (messages_at world from) 0) f.1 first want
      (ap (may_receive want k) (sym first) ∙ and-right _ _ f.2))
  steps-count (MessageOut from addr offered) may =
      let f = passes-there _ (slice_get world from) may in
      inl (goes-at world from (with_sent_message addr (take k sent)) (MessageSent addr (take k sent)) h f.0 f.1 tt refl)
  steps-count (ReadAt from pos want) may = inl refl
  steps-count (WriteAt to pos offered) may =
      let f = passes-there _ (slice_get world to) may in
      inl (goes-at world to (with_written pos (take k sent)) (Written pos (take k sent)) h f.0 f.1 (and-left _ _ f.2) refl)
  steps-count (ToPipe from pipe want) may =
      let two = and-left _ _ may in
      let f = passes-there _ (slice_get world from) (and-right _ _ two) in
      let g = passes-there _ (slice_get world pipe) (and-right _ _ may) in
      inl (goes-spliced world from pipe k h f.0 g.0 f.1 (gives-plain f.0.kind (and-left _ _ f.2)) g.1)
  steps-count (FromPipe pipe to want) may =
      let two = and-left _ _ may in
      let f = passes-there _ (slice_get world pipe) (and-right _ _ two) in
      let g = passes-there _ (slice_get world to) (and-right _ _ may) in
      inl (goes-spliced world pipe to k h f.0 g.0 f.1 (pipe-plain f.0.kind (and-left _ _ f.2)) g.1)
  steps-count (Accept from) may = steps-new world Stream h
  steps-count Open may = steps-new world File h
  steps-count (Connect from) may = inl refl
  steps-count (Fsync from) may = inl refl
  steps-count (PollAdd from read) may = inl refl
  steps-count Path may = inl refl

-- What executing a call leaves, where that is allowed.
steps-effect : (world : List HandleState) (call : Call) (sent : List ℕ) (told : Told) (canceled : Bool) (h : ℕ) →
    is_allowed world canceled call told ≡ true →
    Steps (slice_get world h) (moved_as h world call sent told) (slice_get (effect world call sent told).world h)
steps-effect world call sent (Count k) canceled h may = steps-count world sent k h call may
steps-effect world call sent (Fail e) canceled h may = inl refl

-- An Exec of an item in flight.
steps-item : (L : Ledger) (place : ℕ) (told : Told) (item : Item) (h : ℕ) → slice_get L.flying place ≡ Some item →
    allowed L item told ≡ true → Lawful L →
    Steps (slice_get L.world h) (item_moves h L told (Some item)) (slice_get (exec_step L place told (Some item)).0.world h)
steps-item L place told (Op n) h there may l =
    let f = flying-there L place n l.lists there in
    let o : Operation = f.0 in
    let is : is_allowed L.world o.canceled (call_of o.request) told ≡ true =
    sym (ap (passes (λ p. is_allowed L.world p.canceled (call_of p.request) told)) f.1) ∙ may in
    let E : Ledger = exec_op (complete_at L place (Op n)) n told (slice_get L.ops n) in
    subst (λ world. Steps (slice_get L.world h) (op_moves h L.world told (slice_get L.ops n)) (slice_get world h))
    (sym (released-beside told E n).world)
    (subst (λ x. Steps (slice_get L.world h) (op_moves h L.world told x)
    (slice_get (exec_op (complete_at L place (Op n)) n told x).world h))
    (sym f.1) (steps-effect L.world (call_of o.request) (sent_of o.request) told o.canceled h is))
steps-item L place told (Item.Close k) h there may l = inl refl

-- The same world.
steps-same : (L M : Ledger) (h : ℕ) → M.world ≡ L.world → Steps (slice_get L.world h) [] (slice_get M.world h)
steps-same L M h same = inl (ap (λ world. slice_get world h) same)

-- A handle that is handed over leaves the world.
world-handed : (L : Ledger) (made : Option ℕ) → (handed_over L made).world ≡ L.world
world-handed L None = refl
world-handed L (Some h) = refl

-- So does a poll, by the place of its operation.
world-poll : (L : Ledger) (n task : ℕ) (o : Operation) (p : Place) → (poll_at L n task o p).0.world ≡ L.world
world-poll L n task o (Reaped outcome) = (stays-leave (handed_over L o.made) n).world ∙ world-handed L o.made
world-poll L n task o InQueue = refl
world-poll L n task o InFlight = refl
world-poll L n task o (InDone outcome) = refl
world-poll L n task o Gone = refl

-- So does a poll.
world-poll_step : (L : Ledger) (n task : ℕ) (x : Option Operation) → (poll_step L n task x).0.world ≡ L.world
world-poll_step L n task None = refl
world-poll_step L n task (Some o) = world-poll L n task o o.place

-- So does a drop, by the place of its operation.
world-drop : (L : Ledger) (n : ℕ) (p : Place) → (drop_at L n p).world ≡ L.world
world-drop L n (Reaped outcome) = (stays-leave L n).world
world-drop L n InQueue = (stays-push L (Queued.Cancel n)).world
world-drop L n InFlight = (stays-push L (Queued.Cancel n)).world
world-drop L n (InDone outcome) = (stays-push L (Queued.Cancel n)).world
world-drop L n Gone = (stays-push L (Queued.Cancel n)).world

-- So does a drop.
world-drop_step : (L : Ledger) (n : ℕ) (x : Option Operation) → (drop_step L n x).0.world ≡ L.world
world-drop_step L n None = refl
world-drop_step L n (Some o) = world-drop (with_op L n with_drop) n o.place

-- So does the push of a close.
world-close_if : (b : Bool) (L : Ledger) (h : ℕ) → (close_if b L h).world ≡ L.world
world-close_if true L h = (stays-push L (Queued.Close h)).world
world-close_if false L h = refl

-- So does a submission, under a marked group or not.
world-submit_if : (b : Bool) (L : Ledger) (request : Request Buffer Parts) (group : Option ℕ) (linked : Bool) →
    (submit_if b L request group linked).0.world ≡ L.world
world-submit_if true L request group linked = refl
world-submit_if false L request group linked =
    (stays-push (with_new_op L (new_operation request group linked)) (Req (length L.ops))).world

-- A handle that its user holds is there.
user-there : (L : Ledger) (k : ℕ) → Lawful L → user_holds L k ≡ true → (old : HandleState) × (slice_get L.world k ≡ Some old)
user-there L k l holds =
    let within = held-there L k holds in
    let count = l.known.together in
    elim (slice_get_cases L.world k).1 [
      | inl e ↦ (e.0, e.2)
      | inr e ↦ absurd (let past = e.0 in omega (arith, within, count, past))
    ]

-- The end of a handle is marked.
steps-end : (world : List HandleState) (k h : ℕ) (old : HandleState) → slice_get world k ≡ Some old →
    Steps (slice_get world h) [] (slice_get (amended world k with_end) h)
steps-end world k h old there = elim (changed-cases with_end world k h) [
  | inl e ↦ inr (inr (old, ap (slice_get world) e.0 ∙ there, refl, e.1 ∙ ap (option_map with_end) there))
  | inr e ↦ inl e.1
]

-- An event that isn't refused.
steps-row : (L : Ledger) (e : Event) (h : ℕ) → cause L e ≡ None → Lawful L →
    Steps (slice_get L.world h) (row_moves h L e) (slice_get (row L e).0.world h)
steps-row L (Give kind) h u l = steps-new L.world kind h
steps-row L (Feed k bytes) h u l =
    let t = user-there L k l (used-held L (Feed k bytes) k (eq-eqb k k refl) u) in
    inl (goes-at L.world k (with_input bytes) (Fed bytes) h t.0 t.1 tt refl)
steps-row L (FeedMessage k addr bytes) h u l =
    let t = user-there L k l (used-held L (FeedMessage k addr bytes) k (eq-eqb k k refl) u) in
    inl (goes-at L.world k (with_message addr bytes) (MessageFed addr bytes) h t.0 t.1 tt refl)
steps-row L (End k) h u l =
    let t = user-there L k l (used-held L (End k) k (eq-eqb k k refl) u) in steps-end L.world k h t.0 t.1
steps-row L (Look k) h u l = inl refl
steps-row L (Close k) h u l =
    let U : Ledger = with_user L k false in steps-same L (row L (Close k)).0 h (world-close_if (is_unheld U k) U k)
steps-row L (Submit request under linked) h u l =
    steps-same L (row L (Submit request under linked)).0 h
    (world-submit_if (is_under_marked L under) L request (group_under L under) linked)
steps-row L (Poll n task) h u l = steps-same L (row L (Poll n task)).0 h (world-poll_step L n task (slice_get L.ops n))
steps-row L (Drop n) h u l = steps-same L (row L (Drop n)).0 h (world-drop_step L n (slice_get L.ops n))
steps-row L (Cancel n) h u l = steps-same L (row L (Cancel n)).0 h (stays-push L (Queued.Cancel n)).world
steps-row L NewCanceller h u l = inl refl
steps-row L (NewHandle c) h u l = inl refl
steps-row L (CancelAll c) h u l =
    let g : ℕ = group_of L c in
    steps-same L (row L (CancelAll c)).0 h (stays-push_each (with_mark L g) (map Queued.Cancel (members L g))).world
steps-row L Turn h u l =
    steps-same L (row L Turn).0 h
    ((stays-reap_each (record (take_all L) { done = [] }) (take_all L).done).world ∙ (stays-take_all L).world)
steps-row L (Exec place told) h u l =
    let i = executed-there L place told u in
    let may : allowed L i.0 told ≡ true = sym (ap (passes (λ item. allowed L item told)) i.1)
    ∙ allowed-there L told (nat_le (length L.flying) place) (passes (waits L) (slice_get L.flying place)) (slice_get L.flying place) u in
    subst (λ x. Steps (slice_get L.world h) (item_moves h L told x) (slice_get (exec_step L place told x).0.world h)) (sym i.1)
    (steps-item L place told i.0 h i.1 may l)

-- An event, by its cause.
steps-cause : (L : Ledger) (e : Event) (h : ℕ) (c : Option Refusal) → cause L e ≡ c → Lawful L →
    Steps (slice_get L.world h) (moves_if h c L e) (slice_get (step L e).0.world h)
steps-cause L e h None is l =
    subst (λ s. Steps (slice_get L.world h) (row_moves h L e) (slice_get s.0.world h)) (sym (step-row L e is)) (steps-row L e h is l)
steps-cause L e h (Some refusal) is l =
    subst (λ s. Steps (slice_get L.world h) [] (slice_get s.0.world h)) (sym (step-refused L e refusal is)) (inl refl)

-- A step.
pub steps-step : (L : Ledger) (e : Event) (h : ℕ) → Lawful L →
    Steps (slice_get L.world h) (event_moves h L e) (slice_get (step L e).0.world h)
steps-step L e h l = steps-cause L e h (cause L e) refl l
