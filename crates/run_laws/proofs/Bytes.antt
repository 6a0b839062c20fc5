-- The laws of bytes, by what the transfers of a whole run leave of each handle.
use Rattle.std.proofs.Common.{◌≡◌, ◌⊎◌, ◌≢◌, inl, inr, ℕ, ◌≤◌, Bool, true, not, List, [], ◌∷◌, ◌++◌, take, Option, None, Some}
use Rattle.std.proofs.Common.{slice_get, refl, sym}
use Rattle.std.proofs.Common.{◌∙◌, ap, subst, length, option_map, unwrap_or, arith, true≢false}
use Rattle.std.specs.Prelude.{nat_le, ◌==◌}
use Rattle.std.proofs.lemmas.Bool.{eq-eqb, leb-true}
use Rattle.std.proofs.lemmas.List.{append-nil, append_assoc, length-take-le}
use Rattle.std.proofs.lemmas.Option.{slice_get_past}
use Rattle.rent_buf.specs.Held.{HeldBuf}
use Rattle.machine.specs.declared.request.Call.{Call}
use Rattle.machine.specs.declared.request.Call.TheVariants.{In, MessageIn, ToPipe, FromPipe}
use Rattle.machine.specs.declared.request.Told.{Told}
use Rattle.machine.specs.declared.request.Told.TheVariants.{Count, Fail}
use Rattle.machine.specs.declared.request.Outcome.{Outcome}
use Rattle.machine.specs.declared.world.HandleState.{HandleState}
use Rattle.machine.specs.declared.ledger.Event.{Event}
use Rattle.machine.specs.declared.ledger.Event.TheVariants.{Exec}
use Rattle.machine.specs.Lists.{amended, passes}
use Rattle.machine.specs.World.{input_at, messages_at}
use Rattle.machine.specs.Request.{call_of, sent_of}
use Rattle.machine.specs.Outcome.{may_take, may_receive, is_allowed}
use Rattle.machine.specs.Effect.{Effect, effect, message_effect, without_message}
use Rattle.machine.specs.Ledger.{Ledger, Operation, InFlight, Item, Op, empty}
use Rattle.machine.specs.Turn.{effect_of}
use Rattle.machine.specs.Refusal.{allowed, waits}
use Rattle.machine.specs.Step.{step}
use Rattle.machine.specs.Run.{after, ledger_before, IsOwn, IsGiven, own_answer}
use Rattle.run_laws.proofs.Executing.{executed-flew, breaks-by-failure, counted-itself, own-itself}
use Rattle.run_laws.specs.Transfers.{Transfer, Taken, Sent, MessageTaken, moved_as, op_moves, item_moves, moves_if, event_moves, transfers}
use Rattle.run_laws.specs.Transfers.{at_handle, message_taken, spliced}
use Rattle.run_laws.specs.Bytes.{InputInOrder, MessagesInOrder, FilesHoldLast, OutputInOrder, SentInOrder, ReadsTakeOwn, TakesMessage}
use Rattle.run_laws.specs.Bytes.{ReceivesTakeOwn, PassesOn, SplicesPassOn, MovesOwn, own_moves, own_got, transfers_before}
use Rattle.run_laws.specs.Files.{pieces}
use Rattle.machine.proofs.Numbers.{and-left, and-right, not-passes}
use Rattle.machine.proofs.Moving.{read-within}
use Rattle.machine.proofs.Lawful.{Lawful, lawful-step, lawful-ledger}
use Rattle.run_laws.proofs.Moments.{History}
use Rattle.run_laws.proofs.Trace.{Trace}
use Rattle.run_laws.proofs.Polls.{traced, given-once}
use Rattle.run_laws.proofs.Ends.{allowed-there}
use Rattle.run_laws.proofs.Files.{holds-last}
use Rattle.run_laws.proofs.Passing.{IsLeft}
use Rattle.run_laws.proofs.Moves.{Told_of, told-steps, steps-step, at-same, at-other, passes-there}

-- What each handle has after events, by the transfers at it.
told-after : (h : ℕ) (L : Ledger) (events : List Event) (made : List Transfer) → Lawful L → Told_of made (slice_get L.world h) →
    Told_of (made ++ transfers h L events) (slice_get (after L events).world h)
told-after h L [] made l a = subst (λ ts. Told_of ts (slice_get L.world h)) (sym (append-nil made)) a
told-after h L (e ∷ events) made l a =
    let next = told-steps (slice_get L.world h) (slice_get (step L e).0.world h) made (event_moves h L e) (steps-step L e h l) a in
    subst (λ ts. Told_of ts (slice_get (after (step L e).0 events).world h))
    (append_assoc made (event_moves h L e) (transfers h (step L e).0 events))
    (told-after h (step L e).0 events (made ++ event_moves h L e) (lawful-step L e l) next)

-- A cut of the input of a handle that is there has so many bytes, where there are as many.
count-there : (k : ℕ) (world : List HandleState) (h : ℕ) (old : HandleState) → slice_get world h ≡ Some old → k ≤ length old.input →
    length (take k (input_at world h)) ≡ k
count-there k world h old there within =
    ap (λ x. length (take k (unwrap_or (option_map (λ handle. handle.input) x) []))) there ∙ length-take-le k old.input within

-- A count that may be taken is within the bytes.
take-within : (want k : ℕ) (bytes : List ℕ) → may_take want k bytes ≡ true → k ≤ length bytes
take-within want k bytes may = leb-true _ _ (and-right _ _ (and-left _ _ may))

-- Two handles aren't the same, where a test says so.
not-same : (n m : ℕ) → not (n == m) ≡ true → n ≢ m
not-same n m other same = true≢false (sym (eq-eqb n m same) ∙ not-passes (n == m) other)

-- A splice between two handles passes on so many bytes.
passes-on : (from to k : ℕ) (world : List HandleState) (old : HandleState) → slice_get world from ≡ Some old → not (from == to) ≡ true →
    k ≤ length old.input → (left came : List Transfer) → left ≡ spliced from from to (take k (input_at world from)) →
    came ≡ spliced to from to (take k (input_at world from)) → PassesOn left came k
passes-on from to k world old there other within left came takes sends =
    let bytes : List ℕ = take k (input_at world from) in
    let apart : from ≢ to = not-same from to other in
    record {
      bytes = bytes;
      takes = record {
        moved = takes ∙ ap (λ moves. moves ++ at_handle from to (Sent bytes)) (at-same from from (Taken bytes) refl)
            ∙ ap (λ moves. Taken bytes ∷ moves) (at-other from to (Sent bytes) apart);
        count = count-there k world from old there within;
      };
      sends = sends ∙ ap (λ moves. moves ++ at_handle to to (Sent bytes)) (at-other to from (Taken bytes) (λ e. apart (sym e)))
          ∙ at-same to to (Sent bytes) refl;
    }

-- A receive that is allowed takes one message.
takes-message : (h want k : ℕ) (world : List HandleState) (first : Option (ℕ × List ℕ)) (moves : List Transfer) (result : Effect)
    (outcome : Outcome) → may_receive want k first ≡ true → moves ≡ message_taken h h first → result ≡ message_effect world k first →
    outcome ≡ result.outcome → TakesMessage moves result.got outcome k
takes-message h want k world None moves result outcome may moved is own = (let f : ⊥ = cc in absurd f)
takes-message h want k world (Some message) moves result outcome may moved is own = record {
  message = message;
  moved = moved ∙ at-same h h (MessageTaken message) refl;
  stored = ap (λ r. r.got) is;
  address = own ∙ ap (λ r. r.outcome) is;
}

-- A failure moves nothing.
fails-moves : (h : ℕ) (world : List HandleState) (e : ℕ) (x : Option Operation) → op_moves h world (Fail e) x ≡ []
fails-moves h world e None = refl
fails-moves h world e (Some o) = refl

module _ (capacity : ℕ) (events : List Event) where
  -- What a handle has before an event.
  left-before : (i h : ℕ) (handle : HandleState) → slice_get (ledger_before capacity events i).world h ≡ Some handle →
      IsLeft (transfers_before capacity events h i) handle
  left-before i h handle there =
      subst (Told_of (transfers_before capacity events h i)) there
      (told-after h (empty capacity) (take i events) [] (lawful-ledger capacity [])
      (subst (Told_of []) (sym (slice_get_past (empty capacity).world h (omega arith))) refl))

  -- What came to an input is what was taken, and behind it what waits.
  pub input-in-order : InputInOrder capacity events
  input-in-order i h handle there plain = (left-before i h handle there).input plain

  -- So it is with messages.
  pub messages-in-order : MessagesInOrder capacity events
  messages-in-order i h handle there = (left-before i h handle there).messages

  -- A file has the bytes of its last writes and feeds.
  pub files-hold-last : FilesHoldLast capacity events
  files-hold-last i h handle there is =
      holds-last (pieces [] (transfers_before capacity events h i)) handle.input ((left-before i h handle there).file is)

  -- The output has what was sent, in order.
  pub output-in-order : OutputInOrder capacity events
  output-in-order i h handle there = (left-before i h handle there).output

  -- So it has the messages.
  pub sent-in-order : SentInOrder capacity events
  sent-in-order i h handle there = (left-before i h handle there).messages_out

  module _ (n h : ℕ) (outcome : Outcome) (buffer : HeldBuf) (own : IsOwn capacity events n outcome buffer) where
    -- The ledger before the execution.
    abbrev L : Ledger
    L = ledger_before capacity events own.exec

    -- The operation that is executed has the request that was submitted.
    executed : (o : Operation) × (slice_get L.ops n ≡ Some o) × (o.request ≡ own.is_given.request)
    executed =
        let x = own.is_executed in
        let t : Trace capacity events own.exec L = traced capacity events own.exec (Exec x.place own.told) x.event in
        let f : (o : Operation) × (slice_get L.ops n ≡ Some o) × (o.place ≡ InFlight) =
        executed-flew capacity events n own.exec own.told own.item x in
        let past : History capacity events own.exec n (Some f.0) = subst (History capacity events own.exec n) f.1 (t.history n) in
        let g : IsGiven capacity events n past.given.at =
        record {
          request = f.0.request;
          under = past.given.under;
          linked = past.given.linked;
          event = past.given.event;
          reply = past.given.reply;
        } in
        let same : past.given.at ≡ own.given = given-once capacity events n past.given.at own.given g own.is_given in
        (f.0, f.1, (let q = sym past.given.event ∙ ap (slice_get events) same ∙ own.is_given.event in cc))

    -- What the execution of an item moves, which is the operation, or fails.
    item-moves : (item : Item) → (item ≡ Op n) ⊎ ((m error : ℕ) × (item ≡ Op m) × (own.told ≡ Fail error)) →
        item_moves h L own.told (Some item)
        ≡ moved_as h L.world (call_of own.is_given.request) (sent_of own.is_given.request) own.told
    item-moves item (inl e) =
        ap (λ i. item_moves h L own.told (Some i)) e ∙ ap (op_moves h L.world own.told) executed.1
        ∙ ap (λ r. moved_as h L.world (call_of r) (sent_of r) own.told) executed.2
    item-moves item (inr b) =
        ap (λ i. item_moves h L own.told (Some i)) b.2 ∙ ap (λ t. op_moves h L.world t (slice_get L.ops b.0)) b.3
        ∙ fails-moves h L.world b.1 (slice_get L.ops b.0)
        ∙ sym (ap (moved_as h L.world (call_of own.is_given.request) (sent_of own.is_given.request)) b.3)

    -- What the execution moves.
    own-moves : event_moves h L (Exec own.is_executed.place own.told)
        ≡ moved_as h L.world (call_of own.is_given.request) (sent_of own.is_given.request) own.told
    own-moves =
        let x = own.is_executed in
        ap (λ c. moves_if h c L (Exec x.place own.told)) x.unrefused ∙ ap (item_moves h L own.told) x.there
        ∙ item-moves own.item (breaks-by-failure capacity events n own.exec own.told own.item x)

    -- What it got.
    own-got : (call : Call) (told : Told) → call_of own.is_given.request ≡ call → own.told ≡ told →
        effect_of L own.is_given.request own.told ≡ effect L.world call (sent_of own.is_given.request) told
    own-got call told is report =
        ap (λ c. effect L.world c (sent_of own.is_given.request) own.told) is
        ∙ ap (effect L.world call (sent_of own.is_given.request)) report

    -- It was allowed.
    own-allowed : (call : Call) (k : ℕ) → call_of own.is_given.request ≡ call → own.told ≡ Count k →
        (canceled : Bool) × (is_allowed L.world canceled call (Count k) ≡ true)
    own-allowed call k is report =
        let x = own.is_executed in
        let o : Operation = executed.0 in
        let itself : own.item ≡ Op n = counted-itself capacity events n own.exec k own.told own.item x report in
        let allows : allowed L (Op n) own.told ≡ true =
        sym (ap (passes (λ item. allowed L item own.told)) (x.there ∙ ap Some itself))
        ∙ allowed-there L own.told (nat_le (length L.flying) x.place) (passes (waits L) (slice_get L.flying x.place))
        (slice_get L.flying x.place) x.unrefused in (
          o.canceled,
          ap (is_allowed L.world o.canceled call) (sym report)
              ∙ ap (λ c. is_allowed L.world o.canceled c own.told) (sym is)
              ∙ ap (λ r. is_allowed L.world o.canceled (call_of r) own.told) (sym executed.2)
              ∙ sym (ap (passes (λ p. is_allowed L.world p.canceled (call_of p.request) own.told)) executed.1) ∙ allows,
        )

    -- Its own outcome is that of its execution.
    own-outcome : (k : ℕ) → own.told ≡ Count k → outcome ≡ (effect_of L own.is_given.request own.told).outcome
    own-outcome k report =
        let itself = counted-itself capacity events n own.exec k own.told own.item own.is_executed report in
        own.outcome_is ∙ ap (λ i. (own_answer L n i own.is_given.request own.told).0) itself
        ∙ ap (λ a. a.0) (own-itself L n own.is_given.request own.told)

    -- What it moves, by its call and what was told.
    own-moved : (call : Call) (told : Told) → call_of own.is_given.request ≡ call → own.told ≡ told →
        own_moves capacity events n h outcome buffer own ≡ moved_as h L.world call (sent_of own.is_given.request) told
    own-moved call told is report =
        own-moves ∙ ap (λ c. moved_as h L.world c (sent_of own.is_given.request) own.told) is
        ∙ ap (moved_as h L.world call (sent_of own.is_given.request)) report

  -- What an operation moves is what its request moves.
  pub moves-own : MovesOwn capacity events
  moves-own n h outcome buffer own = own-moves n h outcome buffer own

  -- What a read takes is what it stores in its own buffer.
  pub reads-take-own : ReadsTakeOwn capacity events
  reads-take-own n h want k outcome buffer own is report =
      let L : Ledger = ledger_before capacity events own.exec in
      let may = (own-allowed n h outcome buffer own (In h want) k is report).1 in
      let f = passes-there _ (slice_get L.world h) may in
      let got : own_got capacity events n outcome buffer own ≡ take k (input_at L.world h) =
      ap (λ r. r.got) (own-got n h outcome buffer own (In h want) (Count k) is report) in
      record {
        moved = own-moved n h outcome buffer own (In h want) (Count k) is report
            ∙ at-same h h (Taken (take k (input_at L.world h))) refl ∙ ap (λ bytes. Taken bytes ∷ []) (sym got);
        count = ap length got ∙ count-there k L.world h f.0 f.1 (read-within want k f.0 f.2);
      }

  -- A receive takes one message, whole.
  pub receives-take-own : ReceivesTakeOwn capacity events
  receives-take-own n h want k outcome buffer own is report =
      let L : Ledger = ledger_before capacity events own.exec in
      let may = (own-allowed n h outcome buffer own (MessageIn h want) k is report).1 in
      let f = passes-there _ (slice_get L.world h) may in
      let first : slice_get f.0.messages_in 0 ≡ slice_get (messages_at L.world h) 0 =
      ap (λ x. slice_get (unwrap_or (option_map (λ handle. handle.messages_in) x) []) 0) (sym f.1) in
      takes-message h want k (amended L.world h without_message) (slice_get (messages_at L.world h) 0)
      (own_moves capacity events n h outcome buffer own) (effect_of L own.is_given.request own.told) outcome
      (ap (may_receive want k) (sym first) ∙ and-right _ _ f.2)
      (own-moved n h outcome buffer own (MessageIn h want) (Count k) is report)
      (own-got n h outcome buffer own (MessageIn h want) (Count k) is report) (own-outcome n h outcome buffer own k report)

  -- A splice passes on so many bytes.
  pub splices-pass-on : SplicesPassOn capacity events
  splices-pass-on n from to want k outcome buffer own (inl is) report =
      let L : Ledger = ledger_before capacity events own.exec in
      let call : Call = ToPipe from to want in
      let may = (own-allowed n from outcome buffer own call k is report).1 in
      let two = and-left _ _ may in
      let f = passes-there _ (slice_get L.world from) (and-right _ _ two) in
      passes-on from to k L.world f.0 f.1 (and-left _ _ two) (read-within want k f.0 f.2) _ _
      (own-moved n from outcome buffer own call (Count k) is report) (own-moved n to outcome buffer own call (Count k) is report)
  splices-pass-on n from to want k outcome buffer own (inr is) report =
      let L : Ledger = ledger_before capacity events own.exec in
      let call : Call = FromPipe from to want in
      let may = (own-allowed n from outcome buffer own call k is report).1 in
      let two = and-left _ _ may in
      let f = passes-there _ (slice_get L.world from) (and-right _ _ two) in
      passes-on from to k L.world f.0 f.1 (and-left _ _ two) (take-within want k f.0.input (and-right _ _ f.2)) _ _
      (own-moved n from outcome buffer own call (Count k) is report) (own-moved n to outcome buffer own call (Count k) is report)
