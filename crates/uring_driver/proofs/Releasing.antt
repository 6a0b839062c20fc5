-- What an execution releases in a ring and slots that mean a ledger: where it failed what waits for it ends too, and else the next one
-- waits no more.
use Rattle.std.proofs.Common.{◌≡◌, ℕ, zero, suc, Bool, true, false, List, [], ◌∷◌, ◌++◌, length, take, drop, remove, Option, None}
use Rattle.std.proofs.Common.{Some}
use Rattle.std.proofs.Common.{slice_get, refl, sym, ◌∙◌, ap, subst}
use Rattle.std.specs.Prelude.{if◌then◌else◌, is_some, ◌&&◌, not}
use Rattle.std.specs.Ordering.{nat_cmp}
use Rattle.std.specs.FinMap.{FinMap}
use Rattle.std.proofs.lemmas.List.{append-nil, append_assoc, take-append-drop}
use Rattle.rent_buf.specs.Buffer.{Buffer}
use Rattle.ring_core.specs.Ring.{RingView}
use Rattle.ring_core.specs.MemRing.{finished}
use Rattle.ring_core.specs.Bound.{completion_of, is_bound, bound_front, unbound, left_behind, taken_along, broken, IsTakenBound}
use Rattle.machine.specs.Lists.{amended, numbers_where, passes}
use Rattle.machine.specs.Effect.{Effect, effect, count_effect, message_effect, without_message}
use Rattle.machine.specs.Request.{plain_request, IsHolding}
use Rattle.machine.specs.World.{messages_at}
use Rattle.machine.specs.declared.request.Call.{Call}
use Rattle.machine.specs.declared.request.Call.TheVariants.{In, Out, MessageIn, MessageOut, ReadAt, WriteAt, ToPipe, FromPipe, Accept}
use Rattle.machine.specs.declared.request.Call.TheVariants.{Open, Connect, Fsync, PollAdd, Path}
use Rattle.machine.specs.declared.request.TheConstants.{CANCELED}
use Rattle.machine.specs.declared.request.Told.{Told}
use Rattle.machine.specs.declared.request.Told.TheVariants.{Count, Fail}
use Rattle.machine.specs.declared.request.Outcome.{Outcome}
use Rattle.ring_core.specs.declared.entry.Body.{Body}
use Rattle.ring_core.specs.declared.entry.Body.TheVariants.{Call as Calls, Cancel as Cancels, Close as Closes}
use Rattle.ring_core.specs.declared.entry.Entry.{Entry}
use Rattle.ring_core.specs.declared.entry.Flight.{Flight}
use Rattle.machine.specs.declared.world.HandleState.{HandleState}
use Rattle.machine.specs.Ledger.{Ledger, Operation, InDone, Item, Op, is_kept, is_owned}
use Rattle.machine.specs.Queue.{with_op}
use Rattle.machine.specs.Turn.{waiting_on, unless_waits, with_break, break_one, break_each, complete_at, released}
use Rattle.machine.proofs.Amended.{get-amended-same}
use Rattle.ring_core.proofs.Binding.{unbound-parts, none-bound, none-broken, left-broken, next-broken, behind-counted, free-behind}
use Rattle.ring_core.proofs.Binding.{left-removed}
use Rattle.machine.proofs.Where.{where-map}
use Rattle.machine.proofs.Taking.{Listed}
use Rattle.machine.proofs.Releasing.{AreFlown, waiting-flown, first-flies, rest-flown, flies-at, flies-listed, listed-break_one}
use Rattle.machine.proofs.Releasing.{unless-keeps}
use Rattle.machine.proofs.Releasing.{let_go}
use Rattle.machine.proofs.Behind.{awaited, awaited_by, waiting_front, listed-there}
use Rattle.machine.proofs.Parting.{Parted, get-drop, front-first, leaves, parted-break, break-front, parted-waits}
use Rattle.driver_core.specs.declared.slot.Slot.{Slot}
use Rattle.driver_core.specs.Holds.{is_seen}
use Rattle.driver_core.specs.Slots.{SlotFor, is_early, life_of}
use Rattle.driver_core.proofs.Counts.{where-same}
use Rattle.driver_core.proofs.Lists.{some, map-get}
use Rattle.driver_core.proofs.Seen.{SameSeen, seen-own, seen-then, seen-op, made-early, made-done, early-live}
use Rattle.driver_core.proofs.Slots.{slots-amended}
use Rattle.uring_driver.specs.Lists.{CompletionFor, FlightFor, is_call, item_in, item_of}
use Rattle.uring_driver.proofs.Means.{Means}
use Rattle.uring_driver.proofs.Heads.{means-view}
use Rattle.uring_driver.proofs.Flights.{o, s, slot-there, n-is, which, flies, flying-at}
use Rattle.uring_driver.proofs.Finishing.{ended, lists-world, means-ended}
use Rattle.uring_driver.proofs.Executing.{done-life}
use Rattle.uring_driver.proofs.Loosing.{means-loose}

-- A ring in which an execution with this outcome released what was behind its place.
abbrev pub let_behind : Outcome → ℕ → RingView → RingView
let_behind outcome place v = record v {
  flying = take place v.flying ++ left_behind outcome (drop place v.flying);
  done = v.done ++ broken (taken_along outcome (drop place v.flying));
}

-- What is in flight is bound where its item waits, by its body.
bound-awaits : {B : Type 0} (buffer : B → Buffer) (slots : FinMap nat_cmp (Slot B)) (ops : List Operation) (f : Flight) (b : Body) →
    FlightFor buffer slots ops f b → f.bound ≡ is_some (awaited_by ops (item_in f.entry b))
bound-awaits buffer slots ops f (Calls call) q = q.1.bound ∙ ap (λ o. is_some (awaited o)) (sym q.1.there)
bound-awaits buffer slots ops f (Cancels key) q = absurd q
bound-awaits buffer slots ops f (Closes k) q = q.3

-- So it is in a ring and slots that mean a ledger.
pub bound-is : {B : Type 0} (buffer : B → Buffer) (v : RingView) (slots : FinMap nat_cmp (Slot B)) (L : Ledger) → Means buffer v slots L →
    (place : ℕ) (f : Flight) → slice_get v.flying place ≡ Some f → f.bound ≡ is_some (awaited_by L.ops (item_of f))
bound-is buffer v slots L old place f there =
    bound-awaits buffer slots L.ops f f.entry.body (old.in_lists.in_flight place f there)

-- What is in flight and means an operation is its call.
op-call : {B : Type 0} (buffer : B → Buffer) (slots : FinMap nat_cmp (Slot B)) (ops : List Operation) (f : Flight) (b : Body) (m : ℕ) →
    FlightFor buffer slots ops f b → Op m ≡ item_in f.entry b → (is_call b ≡ true) × (f.entry.serial ≡ m)
op-call buffer slots ops f (Calls call) m q is = (refl, (let e : m ≡ f.entry.serial = cc in sym e))
op-call buffer slots ops f (Cancels key) m q is = absurd q
op-call buffer slots ops f (Closes k) m q is = (let z : ⊥ = cc in absurd z)

-- A call in flight ends with its leader, which failed: its operation is done with the error of a cancel, with what was submitted.
module _ {B : Type 0} (buffer : B → Buffer) (v : RingView) (slots : FinMap nat_cmp (Slot B)) (L : Ledger) (place : ℕ) (flight : Flight)
    (old : Means buffer v slots L) (there : slice_get v.flying place ≡ Some flight) (calls : is_call flight.entry.body ≡ true) where
  abbrev n : ℕ
  n = flight.entry.serial

  abbrev op : Operation
  op = o buffer v slots L place flight old there calls

  abbrev fails : Outcome
  fails = Outcome.Fail CANCELED

  fits-break : (t : Slot B) → t.serial ≡ n → SlotFor buffer L.ops t → SlotFor buffer (amended L.ops n with_break) t
  fits-break t q m =
      let same : m.operation ≡ op = some m.operation op (slice_get L.ops t.serial) m.there
      (ap (slice_get L.ops) q ∙ which buffer v slots L place flight old there calls) in
      let at = ap (λ x. x.place) same ∙ flies buffer v slots L place flight old there calls in
      record {
        operation = with_break m.operation;
        there = ap (slice_get (amended L.ops n with_break)) q
            ∙ get-amended-same with_break L.ops n m.operation (ap (slice_get L.ops) (sym q) ∙ m.there);
        live = refl;
        request = subst (λ h. IsHolding m.operation.request h (plain_request buffer t.request)) (m.fresh (ap is_early at)) m.request;
        life = m.life ∙ ap (λ p. life_of m.operation.dropped p m.operation.task) at
            ∙ done-life m.operation.dropped fails m.operation.task;
        fresh = λ h. (let z : false ≡ true = h in cc);
        uncanceled = λ h. cc;
      }

  has-break : CompletionFor slots (completion_of flight.entry fails)
  has-break = record {
    slot = s buffer v slots L place flight old there calls;
    there = slot-there buffer v slots L place flight old there calls;
    serial = n-is buffer v slots L place flight old there calls;
  }

  means-broke : Means buffer (ended v place (completion_of flight.entry (Outcome.Fail CANCELED)) v.world) slots
      (record (complete_at L place (Op flight.entry.serial)) { ops = amended L.ops flight.entry.serial with_break })
  means-broke =
      let stand = slots-amended buffer slots L.ops n with_break op old.in_slots (which buffer v slots L place flight old there calls)
      (sym (ap is_kept (flies buffer v slots L place flight old there calls))) fits-break in
      let m = means-ended buffer v slots slots L place flight old there calls with_break fails refl stand has-break (λ k u h q. h)
      v.world in
      record {
        capacity = m.capacity;
        world = old.world;
        in_slots = m.in_slots;
        in_lists = lists-world buffer slots (ended v place (completion_of flight.entry fails) v.world)
            (record (complete_at L place (Op n)) { ops = amended L.ops n with_break; world = v.world }) L.world m.in_lists;
      }

-- Where some wait at the front, the first of the items waits.
first-waits : (ops : List Operation) (items : List Item) (m : ℕ) (numbers : List ℕ) → m ∷ numbers ≡ waiting_front ops items →
    is_some (awaited (slice_get ops m)) ≡ true
first-waits ops [] m numbers is = (let f : ⊥ = cc in absurd f)
first-waits ops (Op x ∷ items) m numbers is = by (is_some (awaited (slice_get ops x))) refl is
  where
    by : (b : Bool) → is_some (awaited (slice_get ops x)) ≡ b → m ∷ numbers ≡ (if b then x ∷ waiting_front ops items else []) →
        is_some (awaited (slice_get ops m)) ≡ true
    by true at q = (let e : m ≡ x = cc in ap (λ k. is_some (awaited (slice_get ops k))) e ∙ at)
    by false at q = (let f : ⊥ = cc in absurd f)
first-waits ops (Item.Close h ∷ items) m numbers is = (let f : ⊥ = cc in absurd f)

-- Where none waits at the front, the first of the items doesn't.
front-free : (ops : List Operation) (items : List Item) → [] ≡ waiting_front ops items → (item : Item) → slice_get items 0 ≡ Some item →
    is_some (awaited_by ops item) ≡ false
front-free ops [] none item there = (let f : ⊥ = cc in absurd f)
front-free ops (Op x ∷ items) none item there =
    let e : Op x ≡ item = cc in
    ap (λ i. is_some (awaited_by ops i)) (sym e) ∙ by (is_some (awaited (slice_get ops x))) refl none
  where
    by : (b : Bool) → is_some (awaited (slice_get ops x)) ≡ b → [] ≡ (if b then x ∷ waiting_front ops items else []) →
        is_some (awaited (slice_get ops x)) ≡ false
    by true at q = (let f : ⊥ = cc in absurd f)
    by false at q = at
front-free ops (Item.Close h ∷ items) none item there =
    let e : Item.Close h ≡ item = cc in ap (λ i. is_some (awaited_by ops i)) (sym e)

-- What is at a place is bound or not, by whether something is there.
bound-there : (flying : List Flight) (place : ℕ) → ((f : Flight) → slice_get flying place ≡ Some f → f.bound ≡ false) →
    is_bound flying place ≡ false
bound-there flying place free = by (slice_get flying place) refl
  where
    by : (x : Option Flight) → slice_get flying place ≡ x → passes (λ flight. flight.bound) x ≡ false
    by None at = refl
    by (Some f) at = free f at

-- Where none waits from a place on up to the first item that doesn't, what is at the place isn't bound.
pub front-unbound : {B : Type 0} (buffer : B → Buffer) (v : RingView) (slots : FinMap nat_cmp (Slot B)) (L : Ledger) →
    Means buffer v slots L → (place : ℕ) → [] ≡ waiting_front L.ops (drop place L.flying) → is_bound v.flying place ≡ false
front-unbound buffer v slots L old place none = bound-there v.flying place (λ f there.
    bound-is buffer v slots L old place f there
    ∙ front-free L.ops (drop place L.flying) none (item_of f)
    (get-drop L.flying place ∙ flying-at buffer v slots L place f (item_of f) old there refl))

-- Those from a place on that wait end with their leader, one after another, up to the first item that doesn't.
means-broken : {B : Type 0} (buffer : B → Buffer) (slots : FinMap nat_cmp (Slot B)) (numbers : List ℕ) (v : RingView) (L : Ledger)
    (n place e : ℕ) → numbers ≡ waiting_front L.ops (drop place L.flying) → Means buffer v slots L → Listed L → Parted L n place →
    Means buffer (let_behind (Outcome.Fail e) place v) slots (break_each L numbers)
means-broken buffer slots [] v L n place e are old l p =
    let none = front-unbound buffer v slots L old place are in
    let both = none-bound v.flying place none in
    means-view buffer v (let_behind (Outcome.Fail e) place v) slots L refl refl (none-broken v.flying place none)
    (ap (λ xs. v.done ++ broken xs) both.1 ∙ append-nil v.done) refl old
means-broken buffer slots (m ∷ numbers) v L n place e are old l p =
    let f = front-first L.ops (drop place L.flying) m numbers are in
    let at : slice_get L.flying place ≡ Some (Op m) = sym (get-drop L.flying place) ∙ ap (λ xs. slice_get xs 0) f.items_are in
    let flies_m = flies-listed L m l (listed-there L.flying place m at) in
    let g = map-get item_of v.flying place (Op m) (ap (λ xs. slice_get xs place) (sym old.in_lists.flying) ∙ at) in
    let flight = g.0 in
    let is = op-call buffer slots L.ops flight flight.entry.body m (old.in_lists.in_flight place flight g.1) g.2 in
    let c = completion_of flight.entry (Outcome.Fail CANCELED) in
    let w : RingView = ended v place c v.world in
    let waits : flight.bound ≡ true = bound-is buffer v slots L old place flight g.1 ∙ ap (λ i. is_some (awaited_by L.ops i)) (sym g.2)
    ∙ first-waits L.ops (drop place L.flying) m numbers are in
    let taken : IsTakenBound v.flying place w.flying flight.entry =
    record { flight = flight; there = g.1; bound = waits; answer = refl; rest = refl } in
    let once : Means buffer w slots (break_one L m) =
    subst (λ xs. Means buffer w slots (record (with_op L m with_break) { flying = xs; done = L.done ++ Op m ∷ [] }))
    (sym (leaves L n place m l p at))
    (subst (λ k. Means buffer w slots (record (complete_at L place (Op k)) { ops = amended L.ops k with_break })) is.1
    (means-broke buffer v slots L place flight old g.1 is.0)) in
    let rest = means-broken buffer slots numbers w (break_one L m) m place e
    (f.rest_are ∙ sym (break-front L n place m l p at f.rest f.items_are)) once (listed-break_one L m flies_m l)
    (parted-break L n place m l p at) in
    means-view buffer (let_behind (Outcome.Fail e) place w) (let_behind (Outcome.Fail e) place v) slots (break_each L (m ∷ numbers)) refl
    refl
    (sym (left-broken v.flying place w.flying flight.entry taken))
    (ap (λ xs. v.done ++ xs) (next-broken v.flying place w.flying flight.entry taken)
    ∙ sym (append_assoc v.done (c ∷ []) (broken (bound_front (drop place w.flying))))) refl rest

-- An outcome that a report comes to: an error is the outcome's too, and a count is never an error.
abbrev pub IsOutcome : Told → Outcome → Type 0
IsOutcome (Fail e) outcome = outcome ≡ Outcome.Fail e
IsOutcome (Count k) outcome = (e : ℕ) → outcome ≡ Outcome.Fail e → ⊥

-- A count of a message is no error.
message-ends : (world : List HandleState) (k : ℕ) (x : Option (ℕ × List ℕ)) (e : ℕ) →
    (message_effect world k x).outcome ≡ Outcome.Fail e → ⊥
message-ends world k None e is = (let f : ⊥ = cc in f)
message-ends world k (Some message) e is = (let f : ⊥ = cc in f)

-- A count is no error, whatever the call.
count-ends : (world : List HandleState) (call : Call) (sent : List ℕ) (k e : ℕ) →
    (count_effect world call sent k).outcome ≡ Outcome.Fail e → ⊥
count-ends world (In h want) sent k e is = (let f : ⊥ = cc in f)
count-ends world (Out h offered) sent k e is = (let f : ⊥ = cc in f)
count-ends world (MessageIn h want) sent k e is =
    message-ends (amended world h without_message) k (slice_get (messages_at world h) 0) e is
count-ends world (MessageOut h addr offered) sent k e is = (let f : ⊥ = cc in f)
count-ends world (ReadAt h pos want) sent k e is = (let f : ⊥ = cc in f)
count-ends world (WriteAt h pos offered) sent k e is = (let f : ⊥ = cc in f)
count-ends world (ToPipe h pipe want) sent k e is = (let f : ⊥ = cc in f)
count-ends world (FromPipe pipe h want) sent k e is = (let f : ⊥ = cc in f)
count-ends world (Accept h) sent k e is = (let f : ⊥ = cc in f)
count-ends world Open sent k e is = (let f : ⊥ = cc in f)
count-ends world (Connect h) sent k e is = (let f : ⊥ = cc in f)
count-ends world (Fsync h) sent k e is = (let f : ⊥ = cc in f)
count-ends world (PollAdd h read) sent k e is = (let f : ⊥ = cc in f)
count-ends world Path sent k e is = (let f : ⊥ = cc in f)

-- Executing a call ends so.
pub effect-ends : (world : List HandleState) (call : Call) (sent : List ℕ) (told : Told) →
    IsOutcome told (effect world call sent told).outcome
effect-ends world call sent (Fail e) = refl
effect-ends world call sent (Count k) = count-ends world call sent k

-- Those that wait for an operation that was executed are released in the ring as in the ledger.
pub means-released : {B : Type 0} (buffer : B → Buffer) (v : RingView) (slots : FinMap nat_cmp (Slot B)) (L : Ledger) (n place : ℕ)
    (told : Told) (outcome : Outcome) → IsOutcome told outcome → Means buffer v slots L → Listed L → Parted L n place →
    Means buffer (let_behind outcome place v) slots (released told L n)
means-released buffer v slots L n place (Fail e) outcome ends old l p =
    let waits : waiting_on L.ops n L.flying ≡ waiting_front L.ops (drop place L.flying) = parted-waits L n place l p in
    subst (λ r. Means buffer (let_behind r place v) slots (break_each L (waiting_on L.ops n L.flying))) (sym ends)
    (means-broken buffer slots (waiting_on L.ops n L.flying) v L n place e waits old l p)
means-released buffer v slots L n place (Count k) outcome ends old l p =
    let behind = behind-counted outcome (drop place v.flying) ends in
    means-view buffer (record v { flying = amended v.flying place unbound }) (let_behind outcome place v) slots (let_go L n) refl refl
    (ap (λ xs. take place v.flying ++ xs) behind.0 ∙ sym (unbound-parts v.flying place))
    (ap (λ xs. v.done ++ broken xs) behind.1 ∙ append-nil v.done) refl (means-loose buffer v slots L n place old p)

-- An execution is the end of what is at the place, and then a release.
pub finished-parts : (v : RingView) (place : ℕ) (entry : Entry) (result : Effect) →
    finished v place entry result ≡ let_behind result.outcome place (ended v place (completion_of entry result.outcome) result.world)
finished-parts v place entry result =
    let left = left-removed result.outcome v.flying place in
    let c = completion_of entry result.outcome in
    let along = broken (taken_along result.outcome (drop place (remove v.flying place))) in
    ap (λ xs. record v {
      flying = xs;
      done = v.done ++ c ∷ broken (taken_along result.outcome (drop (suc place) v.flying));
      world = result.world;
    }) (sym left.0)
    ∙ ap (λ xs. record v {
      flying = take place (remove v.flying place) ++ left_behind result.outcome (drop place (remove v.flying place));
      done = v.done ++ c ∷ xs;
      world = result.world;
    }) (sym left.1)
    ∙ ap (λ xs. record v {
      flying = take place (remove v.flying place) ++ left_behind result.outcome (drop place (remove v.flying place));
      done = xs;
      world = result.world;
    }) (sym (append_assoc v.done (c ∷ []) along))

-- What is at a place is the first of those from there on.
bound-drop : (flying : List Flight) (place : ℕ) → is_bound (drop place flying) 0 ≡ is_bound flying place
bound-drop [] zero = refl
bound-drop [] (suc place) = refl
bound-drop (f ∷ flying) zero = refl
bound-drop (f ∷ flying) (suc place) = bound-drop flying place

-- Where what is behind the place isn't bound, nothing is released.
pub finished-alone : (v : RingView) (place : ℕ) (entry : Entry) (result : Effect) → is_bound (remove v.flying place) place ≡ false →
    finished v place entry result ≡ ended v place (completion_of entry result.outcome) result.world
finished-alone v place entry result free =
    let w = ended v place (completion_of entry result.outcome) result.world in
    let behind = free-behind result.outcome (drop place w.flying) (bound-drop w.flying place ∙ free) in
    finished-parts v place entry result
    ∙ ap (λ xs. record w { flying = take place w.flying ++ xs; done = w.done ++ broken (taken_along result.outcome (drop place w.flying)) })
    behind.0
    ∙ ap (λ xs. record w { flying = xs; done = w.done ++ broken (taken_along result.outcome (drop place w.flying)) })
    (take-append-drop place w.flying)
    ∙ ap (λ xs. record w { done = xs }) (ap (λ xs. w.done ++ broken xs) behind.1 ∙ append-nil w.done)

-- What a release leaves: what is seen of each handle, and how many operations are their user's.
pub record Leaves (L M : Ledger) : Type 0 where
  pub seen : SameSeen L M
  pub owned : length (numbers_where is_owned 0 M.ops) ≡ length (numbers_where is_owned 0 L.ops)

-- Operations in flight that end with their leaders leave it.
leaves-break_each : (L : Ledger) (numbers : List ℕ) → AreFlown L numbers → Listed L → Leaves L (break_each L numbers)
leaves-break_each L [] a l = record { seen = seen-own L; owned = refl }
leaves-break_each L (m ∷ numbers) a l =
    let f = first-flies L m numbers l a in
    let outcome : Outcome = Outcome.Fail CANCELED in
    let one = seen-op L m with_break (λ o at. (
    let early = ap is_early (flies-at f o at) in
    record {
      request = refl;
      made = made-done o.dropped (InDone outcome) o.task outcome refl ∙ sym (made-early o.dropped o.place o.task early);
      live = sym (early-live o early);
    })) in
    let rest = leaves-break_each (break_one L m) numbers (rest-flown L m numbers l a) (listed-break_one L m f l) in
    record {
      seen = seen-then (record { users = one.users; ops = one.ops }) rest.seen;
      owned = rest.owned
          ∙ where-same is_owned with_break L.ops m f.operation f.there
          (sym (ap (λ p. is_kept p && not f.operation.dropped) f.place));
    }

-- Those that wait for an operation that was executed leave it as they are released.
pub leaves-released : (told : Told) (L : Ledger) (n : ℕ) → Listed L → Leaves L (released told L n)
leaves-released (Fail e) L n l = leaves-break_each L (waiting_on L.ops n L.flying) (waiting-flown L n) l
leaves-released (Count k) L n l = record {
  seen = record {
    users = λ h. refl;
    ops = λ h. where-map (is_seen h) (unless_waits n) L.ops 0 (λ o. unless-keeps (is_seen h) n o refl);
  };
  owned = ap length (where-map is_owned (unless_waits n) L.ops 0 (λ o. unless-keeps is_owned n o refl));
}
