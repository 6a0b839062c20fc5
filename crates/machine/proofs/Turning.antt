-- What executing and reaping make of the holders and the closes of a ledger.
use Rattle.std.proofs.Common.{◌≡◌, inl, inr, ℕ, suc, ◌+◌, ◌<◌, ◌&&◌, Bool, true, false, List, [], ◌∷◌, ◌++◌, length, take, map, Option}
use Rattle.std.proofs.Common.{None, Some}
use Rattle.std.proofs.Common.{slice_get, refl, sym, ◌∙◌, ap, if◌then◌else◌, ◌==◌, arith, length-append}
use Rattle.std.specs.Prelude.{option_to_list}
use Rattle.std.proofs.lemmas.List.{append-nil}
use Rattle.machine.specs.declared.request.Told.{Told}
use Rattle.machine.specs.declared.request.Told.TheVariants.{Count, Fail}
use Rattle.machine.specs.declared.request.Call.{Call}
use Rattle.machine.specs.declared.request.Call.TheVariants.{In, Out, MessageIn, MessageOut, ReadAt, WriteAt, ToPipe, FromPipe, Accept}
use Rattle.machine.specs.declared.request.Call.TheVariants.{Open, Connect, Fsync, PollAdd, Path}
use Rattle.machine.specs.declared.request.Outcome.{Outcome}
use Rattle.machine.specs.declared.world.HandleKind.{HandleKind}
use Rattle.machine.specs.declared.world.HandleKind.TheVariants.{Stream, File}
use Rattle.machine.specs.declared.world.HandleState.{HandleState}
use Rattle.machine.specs.Lists.{amended, has_number, passes}
use Rattle.machine.specs.World.{fresh, messages_at}
use Rattle.machine.specs.Request.{named, call_of, sent_of}
use Rattle.machine.specs.Effect.{Effect, effect, making, made_by, message_effect, without_message}
use Rattle.machine.specs.Ledger.{Ledger, Operation, Owner, Place, InQueue, InFlight, InDone, Reaped, Gone, Queued, Req, Item, Op, is_live}
use Rattle.machine.specs.Ledger.{is_kept, holds, is_holding}
use Rattle.machine.specs.Queue.{at_place, take_all, make_room, push, push_each, became_unheld, with_gone, leave}
use Rattle.machine.specs.Turn.{reaped_place, with_reap, reap_if, reap_op, reap_one, reap_each, effect_of, with_result, with_effect}
use Rattle.machine.specs.Turn.{made_owners, exec_op}
use Rattle.machine.specs.Queue.{is_unheld}
use Rattle.machine.specs.Closes.{AreKnown, ClosesOnce}
use Rattle.machine.proofs.Amended.{length-amended, changed-cases, joined-cases, there-before}
use Rattle.machine.proofs.Appended.{get-append-within}
use Rattle.machine.proofs.Taken.{queue-take_each}
use Rattle.machine.proofs.Holders.{HoldsSame, AreLive, live-changed, live-push_close, unheld-is, is-unheld}
use Rattle.machine.proofs.Leaving.{holds-named, holds-either}
use Rattle.machine.proofs.Once.{once-fewer, once-op, once-leave}

-- What an execution leaves: one handle more where it made one, which is the last; else as many.
pub record Grows (world : List HandleState) (result : Effect) : Type 0 where
  pub count : length result.world ≡ length world + length (option_to_list (made_by result.outcome))
  pub last : (h : ℕ) → made_by result.outcome ≡ Some h → h ≡ length world

-- As many handles, where none was made.
grows-none : (world now : List HandleState) (got : List ℕ) (outcome : Outcome) → made_by outcome ≡ None → length now ≡ length world →
    Grows world (record { world = now; got = got; outcome = outcome })
grows-none world now got outcome none same = record {
  count = (let z : length (option_to_list (made_by outcome)) ≡ 0 = ap (λ m. length (option_to_list m)) none in omega (arith, z, same));
  last = λ h made. (let f : None ≡ Some h = sym none ∙ made in let g : ⊥ = cc in absurd g);
}

-- One more.
grows-made : (world : List HandleState) (kind : HandleKind) → Grows world (making world kind)
grows-made world kind = record {
  count = length-append world (fresh kind ∷ []);
  last = λ h made. (let e : length world ≡ h = cc in sym e);
}

-- A message that comes, or doesn't, makes none.
grows-message : (world now : List HandleState) (k : ℕ) (first : Option (ℕ × List ℕ)) → length now ≡ length world →
    Grows world (message_effect now k first)
grows-message world now k None same = grows-none world now [] (Outcome.Count k) refl same
grows-message world now k (Some message) same = grows-none world now (take k message.1) (Outcome.From k message.0) refl same

-- Executing makes one handle at most.
pub grows-effect : (world : List HandleState) (call : Call) (sent : List ℕ) (told : Told) → Grows world (effect world call sent told)
grows-effect world call sent (Fail e) = grows-none world world [] (Outcome.Fail e) refl refl
grows-effect world (In h want) sent (Count k) = grows-none world _ _ (Outcome.Count k) refl (length-amended _ world h)
grows-effect world (Out h offered) sent (Count k) = grows-none world _ [] (Outcome.Count k) refl (length-amended _ world h)
grows-effect world (MessageIn h want) sent (Count k) =
    grows-message world (amended world h without_message) k (slice_get (messages_at world h) 0) (length-amended without_message world h)
grows-effect world (MessageOut h addr offered) sent (Count k) = grows-none world _ [] (Outcome.Count k) refl (length-amended _ world h)
grows-effect world (ReadAt h pos want) sent (Count k) = grows-none world world _ (Outcome.Count k) refl refl
grows-effect world (WriteAt h pos offered) sent (Count k) = grows-none world _ [] (Outcome.Count k) refl (length-amended _ world h)
grows-effect world (ToPipe h pipe want) sent (Count k) =
    grows-none world _ [] (Outcome.Count k) refl (length-amended _ _ pipe ∙ length-amended _ world h)
grows-effect world (FromPipe pipe h want) sent (Count k) =
    grows-none world _ [] (Outcome.Count k) refl (length-amended _ _ h ∙ length-amended _ world pipe)
grows-effect world (Accept h) sent (Count k) = grows-made world Stream
grows-effect world Open sent (Count k) = grows-made world File
grows-effect world (Connect h) sent (Count k) = grows-none world world [] (Outcome.Count k) refl refl
grows-effect world (Fsync h) sent (Count k) = grows-none world world [] (Outcome.Count k) refl refl
grows-effect world (PollAdd h read) sent (Count k) = grows-none world world [] (Outcome.Count k) refl refl
grows-effect world Path sent (Count k) = grows-none world world [] (Outcome.Count k) refl refl

-- As many owners come as handles were made.
length-owners : (made : Option ℕ) → length (made_owners made) ≡ length (option_to_list made)
length-owners None = refl
length-owners (Some h) = refl

-- The owner of a handle that was there before.
pub owner-before : (owners : List Owner) (made : Option ℕ) (h : ℕ) → h < length owners →
    slice_get (owners ++ made_owners made) h ≡ slice_get owners h
owner-before owners None h lt = ap (λ os. slice_get os h) (append-nil owners)
owner-before owners (Some m) h lt = get-append-within owners _ h lt

-- An executed operation holds a handle that was there before only where it held it.
result-holds : (told : Told) (result : Effect) (o : Operation) (h : ℕ) → is_live o ≡ true → (made_by result.outcome ≡ Some h → ⊥) →
    is_holding h o ≡ false → is_holding h (with_result told result o) ≡ false
result-holds told result o h live other none = by (has_number h (holds (with_result told result o))) refl
  where
    unnamed : has_number h (named o.request) ≡ true → ⊥
    unnamed is =
        let holding : is_holding h o ≡ true =
        ap (λ b. b && has_number h (holds o)) live ∙ holds-named h o.made (named o.request) is in
        let f : false ≡ true = sym none ∙ holding in cc

    by : (b : Bool) → has_number h (holds (with_result told result o)) ≡ b → b ≡ false
    by true is = elim (holds-either h (made_by result.outcome) (named o.request) is) [
      | inl names ↦ absurd (unnamed names)
      | inr made ↦ absurd (other made)
    ]
    by false is = refl

module _ (L : Ledger) (n : ℕ) (told : Told) (result : Effect) (grows : Grows L.world result) where
  -- An operation that isn't gone, executed: nobody holds a handle that was there before and that nobody held.
  pub unheld-with_effect : ((o : Operation) → slice_get L.ops n ≡ Some o → is_live o ≡ true) → AreKnown L → (h : ℕ) → h < length L.owners →
      is_unheld L h ≡ true → is_unheld (with_effect L n told result) h ≡ true
  unheld-with_effect live known h lt is =
      let u = unheld-is L h is in is-unheld (with_effect L n told result) h (record {
        user = ap (passes (λ owner. owner.is_user)) (owner-before L.owners (made_by result.outcome) h lt) ∙ u.user;
        ops = λ m o there. elim (changed-cases (with_result told result) L.ops n m) [
          | inl e ↦ (
              let b = there-before (with_result told result) (slice_get L.ops n) o (sym e.1 ∙ there) in
              ap (is_holding h) b.2
              ∙ result-holds told result b.0 h (live b.0 b.1)
              (λ made. (let last = grows.last h made in let t = known.together in omega (arith, last, t, lt)))
              (u.ops n b.0 b.1))
          | inr e ↦ u.ops m o (sym e.1 ∙ there)
        ];
      })

  -- A close is one of a handle that was there before, and nobody holds it still.
  pub once-with_effect : ((o : Operation) → slice_get L.ops n ≡ Some o → is_live o ≡ true) → AreKnown L → ClosesOnce L →
      ClosesOnce (with_effect L n told result)
  once-with_effect live known c =
      let more = length-append L.owners (made_owners (made_by result.outcome)) in
      once-fewer L (with_effect L n told result) (λ h. omega arith) (λ h one is. unheld-with_effect live known h (c.there h one) is)
      (omega (arith, more)) c

  -- The handles stay known, with the one that was made.
  pub known-with_effect : AreKnown L → AreKnown (with_effect L n told result)
  known-with_effect k =
      let more = length-append L.owners (made_owners (made_by result.outcome)) in
      let owners = length-owners (made_by result.outcome) in
      let count = grows.count in
      let t = k.together in
      record {
        known = λ m h p there is. elim (changed-cases (with_result told result) L.ops n m) [
          | inl e ↦ (
              let b = there-before (with_result told result) (slice_get L.ops n) p (sym e.1 ∙ there) in
              elim (holds-either h (made_by result.outcome) (named b.0.request) (ap (λ z. has_number h (holds z)) (sym b.2) ∙ is)) [
                | inl names ↦ (let lt = k.known n h b.0 b.1 (holds-named h b.0.made (named b.0.request) names) in omega (arith, lt, more))
                | inr made ↦ (
                    let last = grows.last h made in
                    let one : length (option_to_list (made_by result.outcome)) ≡ 1 = ap (λ m. length (option_to_list m)) made in
                    omega (arith, last, one, more, owners, t))
              ])
          | inr e ↦ (let lt = k.known m h p (sym e.1 ∙ there) is in omega (arith, lt, more))
        ];
        above = λ m h j p there is made. elim (changed-cases (with_result told result) L.ops n m) [
          | inl e ↦ (
              let b = there-before (with_result told result) (slice_get L.ops n) p (sym e.1 ∙ there) in
              let names : has_number h (named b.0.request) ≡ true = ap (λ z. has_number h (named z.request)) (sym b.2) ∙ is in
              let lt = k.known n h b.0 b.1 (holds-named h b.0.made (named b.0.request) names) in
              let last = grows.last j (ap (λ z. z.made) (sym b.2) ∙ made) in
              omega (arith, lt, last, t))
          | inr e ↦ k.above m h j p (sym e.1 ∙ there) is made
        ];
        together = omega (arith, more, owners, count, t);
      }

-- Executing an operation that was looked up.
pub once-exec_op : (L : Ledger) (n : ℕ) (told : Told) (x : Option Operation) →
    ((o : Operation) → slice_get L.ops n ≡ Some o → is_live o ≡ true) → AreKnown L → ClosesOnce L → ClosesOnce (exec_op L n told x)
once-exec_op L n told None live known c = c
once-exec_op L n told (Some o) live known c =
    once-with_effect L n told (effect_of L o.request told) (grows-effect L.world (call_of o.request) (sent_of o.request) told) live known c

-- It leaves the handles known.
pub known-exec_op : (L : Ledger) (n : ℕ) (told : Told) (x : Option Operation) → AreKnown L → AreKnown (exec_op L n told x)
known-exec_op L n told None k = k
known-exec_op L n told (Some o) k =
    known-with_effect L n told (effect_of L o.request told) (grows-effect L.world (call_of o.request) (sent_of o.request) told) k

-- What is reaped isn't gone by that, or was.
pub reaped-kept : (p : Place) → is_kept (reaped_place p) ≡ is_kept p
reaped-kept InQueue = refl
reaped-kept InFlight = refl
reaped-kept (InDone outcome) = refl
reaped-kept (Reaped outcome) = refl
reaped-kept Gone = refl

-- What is reaped holds what it held.
pub reap-holds : (o : Operation) → HoldsSame o (with_reap o)
reap-holds o = record { request = refl; made = refl; live = reaped-kept o.place }

-- No entry asks for an operation of these items.
pub record Apart (entries : List Queued) (items : List Item) : Type 0 where
  pub apart : (i j n : ℕ) → slice_get entries i ≡ Some (Req n) → slice_get items j ≡ Some (Op n) → ⊥

-- An empty queue asks for none.
pub apart-none : (entries : List Queued) (items : List Item) → entries ≡ [] → Apart entries items
apart-none entries items none = record {
  apart = λ i j n asks there. (let q : slice_get [] i ≡ Some (Req n) = sym (ap (λ es. slice_get es i) none) ∙ asks in cc);
}

-- Room that is made asks for no more.
asks-room : (b : Bool) (L : Ledger) (i n : ℕ) → slice_get (if b then take_all L else L).queue i ≡ Some (Req n) →
    (j : ℕ) × (slice_get L.queue j ≡ Some (Req n))
asks-room true L i n asks =
    (let q : slice_get [] i ≡ Some (Req n) = sym (ap (λ es. slice_get es i) (queue-take_each (record L { queue = [] }) L.queue)) ∙ asks in
    let f : ⊥ = cc in absurd f)
asks-room false L i n asks = (i, asks)

-- A close that is pushed asks for no operation.
asks-push_close : (L : Ledger) (k i n : ℕ) → slice_get (push L (Queued.Close k)).queue i ≡ Some (Req n) →
    (j : ℕ) × (slice_get L.queue j ≡ Some (Req n))
asks-push_close L k i n asks = elim (joined-cases (make_room L).queue (Queued.Close k) i) [
  | inl e ↦ (let q : Some (Queued.Close k) ≡ Some (Req n) = sym e.2 ∙ asks in let f : ⊥ = cc in absurd f)
  | inr e ↦ asks-room (length L.queue == L.capacity) L i n (sym e.1 ∙ asks)
]

-- Closes that are pushed ask for none.
apart-push_closes : (L : Ledger) (handles : List ℕ) (items : List Item) → Apart L.queue items →
    Apart (push_each L (map Queued.Close handles)).queue items
apart-push_closes L [] items a = a
apart-push_closes L (k ∷ handles) items a =
    apart-push_closes (push L (Queued.Close k)) handles items
    (record { apart = λ i j n asks there. (let b = asks-push_close L k i n asks in a.apart b.0 j n b.1 there) })

-- The queue after closes were pushed.
pub live-push_closes : (L : Ledger) (handles : List ℕ) → AreLive L.ops L.queue →
    AreLive (push_each L (map Queued.Close handles)).ops (push_each L (map Queued.Close handles)).queue
live-push_closes L [] live = live
live-push_closes L (k ∷ handles) live = live-push_closes (push L (Queued.Close k)) handles (live-push_close L k live)

-- A gone operation that no entry asks for.
pub live-gone : (ops : List Operation) (entries : List Queued) (n : ℕ) → ((i : ℕ) → slice_get entries i ≡ Some (Req n) → ⊥) →
    AreLive ops entries → AreLive (amended ops n (at_place Gone)) entries
live-gone ops entries n unasked live = record {
  live = λ place m o asks there. elim (changed-cases (at_place Gone) ops n m) [
    | inl e ↦ absurd (unasked place (asks ∙ ap (λ k. Some (Req k)) e.0))
    | inr e ↦ live.live place m o asks (sym e.1 ∙ there)
  ];
}

-- The queue after an operation that no entry asks for left.
pub live-leave : (L : Ledger) (n : ℕ) → AreLive (with_gone L n).ops L.queue → AreLive (leave L n).ops (leave L n).queue
live-leave L n live = live-push_closes (with_gone L n) (became_unheld L (with_gone L n)) live

-- The closes are once, requests are of operations that aren't gone, and no entry asks for an operation of these items.
pub record Reapable (L : Ledger) (items : List Item) : Type 0 where
  pub closes : ClosesOnce L
  pub live : AreLive L.ops L.queue
  pub apart : Apart L.queue items

-- The rest of the items.
apart-rest : (entries : List Queued) (item : Item) (items : List Item) → Apart entries (item ∷ items) → Apart entries items
apart-rest entries item items a = record { apart = λ i j n asks there. a.apart i (suc j) n asks there }

-- A dropped operation's completion, or another one's.
reapable-if : (dropped : Bool) (L : Ledger) (n : ℕ) (items : List Item) → Reapable L (Op n ∷ items) → Reapable (reap_if dropped L n) items
reapable-if true L n items r =
    let live = live-gone L.ops L.queue n (λ i asks. r.apart.apart i 0 n asks refl) r.live in
    record {
      closes = once-leave L n live r.closes;
      live = live-leave L n live;
      apart = apart-push_closes (with_gone L n) (became_unheld L (with_gone L n)) items (apart-rest L.queue (Op n) items r.apart);
    }
reapable-if false L n items r = record {
  closes = once-op L n with_reap (λ o there. reap-holds o) r.closes;
  live = live-changed L.ops L.queue n with_reap (λ o is. (reap-holds o).live ∙ is) r.live;
  apart = apart-rest L.queue (Op n) items r.apart;
}

-- The completion of an operation that was looked up.
reapable-op : (L : Ledger) (n : ℕ) (x : Option Operation) (items : List Item) → Reapable L (Op n ∷ items) → Reapable (reap_op L n x) items
reapable-op L n None items r = record { closes = r.closes; live = r.live; apart = apart-rest L.queue (Op n) items r.apart }
reapable-op L n (Some o) items r = reapable-if o.dropped L n items r

-- One completion reaped.
pub reapable-one : (L : Ledger) (item : Item) (items : List Item) → Reapable L (item ∷ items) → Reapable (reap_one L item) items
reapable-one L (Op n) items r = reapable-op L n (slice_get L.ops n) items r
reapable-one L (Item.Close h) items r =
    record { closes = r.closes; live = r.live; apart = apart-rest L.queue (Item.Close h) items r.apart }

-- Completions reaped, in order.
pub reapable-each : (L : Ledger) (items : List Item) → Reapable L items → Reapable (reap_each L items) []
reapable-each L [] r = r
reapable-each L (item ∷ items) r = reapable-each (reap_one L item) items (reapable-one L item items r)
