-- Who holds the handles of a driver, and which closes aren't reaped, after steps that change neither, and after a submission.
use Rattle.std.proofs.Common.{Option, ◌≡◌, inl, inr, ℕ, Bool, true, false, not, ◌||◌, List, [], ◌∷◌, ◌++◌, None, Some, refl, sym, ◌∙◌}
use Rattle.std.proofs.Common.{ap, subst, arith, append-nil}
use Rattle.std.specs.Prelude.{slice_get, nat_lt, is_some, unwrap_or}
use Rattle.std.specs.Ordering.{nat_cmp}
use Rattle.std.specs.FinMap.{FinMap, get, get-empty, empty as map-empty}
use Rattle.rent_buf.specs.Buffer.{Buffer}
use Rattle.rent_buf.specs.Parts.{Parts}
use Rattle.handle_core.specs.declared.table.Holders.{Holders}
use Rattle.handle_core.specs.Table.{holders_at, nobody}
use Rattle.machine.specs.declared.world.HandleState.{HandleState}
use Rattle.ring_core.specs.declared.entry.Body.{Body}
use Rattle.ring_core.specs.declared.entry.Body.TheVariants.{Call as Calls, Cancel as Cancels, Close as Closes}
use Rattle.ring_core.specs.declared.entry.Entry.{Entry}
use Rattle.ring_core.specs.Ring.{RingView}
use Rattle.machine.specs.declared.request.Request.{Request}
use Rattle.machine.specs.declared.request.Told.{Told}
use Rattle.machine.specs.Request.{named}
use Rattle.machine.specs.Effect.{Effect, made_by}
use Rattle.machine.specs.Lists.{passes}
use Rattle.machine.specs.Ledger.{Ledger, Operation, Owner, Queued, Req, Item, Op, InQueue, InDone, is_kept, user_holds}
use Rattle.machine.specs.Ledger.{new_operation, empty}
use Rattle.machine.specs.Queue.{make_room, append, push}
use Rattle.machine.specs.Refusal.{lacks_handle}
use Rattle.machine.specs.Turn.{with_effect, with_result, made_owners, complete_at}
use Rattle.machine.specs.Step.{with_new_op}
use Rattle.machine.specs.Closes.{closes_queued, close_count}
use Rattle.machine.proofs.Numbers.{and-left, and-right}
use Rattle.machine.proofs.Occurring.{closes_queued-append}
use Rattle.machine.proofs.Amended.{joined-cases}
use Rattle.machine.proofs.Holders.{AreLive}
use Rattle.machine.proofs.Closing.{count-push, count-make_room, count-complete_at}
use Rattle.driver_core.specs.Slots.{is_early}
use Rattle.driver_core.specs.declared.slot.Slot.{Slot}
use Rattle.driver_core.proofs.Lists.{some, map-get}
use Rattle.driver_core.proofs.Counted.{counted-none, making-none, apart-none}
use Rattle.driver_core.proofs.Seen.{SameSeen, AreEarly, seen-op, seen-push, seen-make_room, made-early, made-done, early-live}
use Rattle.driver_core.proofs.Standing.{holders-stand-same, holders-stand-joined}
use Rattle.uring_driver.specs.declared.uring.IoUringDriver.{IoUringDriver}
use Rattle.uring_driver.specs.Holding.{Holding, IsSameHolding, HandlesStand}
use Rattle.uring_driver.specs.Making.{op_joined}
use Rattle.uring_driver.specs.State.{AreHolding}
use Rattle.uring_driver.specs.Uring.{holds_handle, holds_all}
use Rattle.uring_driver.specs.Lists.{IsAt, is_call, queued_in, queued_of}
use Rattle.uring_driver.proofs.Means.{Means}
use Rattle.uring_driver.proofs.Kept.{call-queued, queued-at}

-- The user lacks none of the handles that it holds.
pub lacks-none : {R B : Type 0} (d : IoUringDriver R B) (L : Ledger) (handles : List ℕ) → ((h : ℕ) → holds_handle d h ≡ user_holds L h) →
    holds_all d handles ≡ true → lacks_handle L handles ≡ false
lacks-none d L [] all h = refl
lacks-none d L (x ∷ xs) all h =
    ap (λ b. not b || lacks_handle L xs) (sym (all x) ∙ and-left (holds_handle d x) (holds_all d xs) h)
    ∙ lacks-none d L xs all (and-right (holds_handle d x) (holds_all d xs) h)

-- An entry that means a request is that of a call, and has its number.
req-call : (e : Entry) (b : Body) (n : ℕ) → queued_in e b ≡ Req n → (e.serial ≡ n) × (is_call b ≡ true)
req-call e (Calls call) n h = (let q : Req e.serial ≡ Req n = h in (cc, refl))
req-call e (Cancels key) n h = (let f : ⊥ = cc in absurd f)
req-call e (Closes k) n h = (let f : ⊥ = cc in absurd f)

module _ {B : Type 0} (buffer : B → Buffer) (v : RingView) (slots : FinMap nat_cmp (Slot B)) (L : Ledger)
    (means : Means buffer v slots L) where
  -- A request in the queue is that of an operation that is queued.
  pub req-queued : (i n : ℕ) → slice_get L.queue i ≡ Some (Req n) → IsAt L.ops n InQueue
  req-queued i n h =
      let g = map-get queued_of v.queue i (Req n) (ap (λ xs. slice_get xs i) (sym means.in_lists.queue) ∙ h) in
      let r = req-call g.0 g.0.body n (sym g.2) in
      subst (λ x. IsAt L.ops x InQueue) r.0
      (queued-at L.ops g.0 (call-queued buffer slots L.ops g.0 g.0.body (means.in_lists.in_queue i g.0 g.1) r.1).1)

  -- So it is that of an operation that wasn't executed.
  pub means-early : AreEarly L.ops L.queue
  means-early = record {
    early = λ i n o h there.
        let a = req-queued i n h in
        ap is_early (ap (λ x. x.place) (some o a.operation (slice_get L.ops n) there a.there) ∙ a.stays);
  }

  -- It isn't gone.
  pub means-live : AreLive L.ops L.queue
  means-live = record {
    live = λ i n o h there.
        let a = req-queued i n h in
        ap is_kept (ap (λ x. x.place) (some o a.operation (slice_get L.ops n) there a.there) ∙ a.stays);
  }

-- Other memory for more handles changes nothing.
pub handles-room : (old new : Holding) (L : Ledger) → IsSameHolding old new → HandlesStand old L → HandlesStand new L
handles-room old new L same stand = record {
  holders = record {
    users = λ h. ap (λ m. nat_lt 0 (holders_at (record { holders = m; spare = 0 }) h).user) same.table ∙ stand.holders.users h;
    operations = λ h. ap (λ m. (holders_at (record { holders = m; spare = 0 }) h).operations) same.table ∙ stand.holders.operations h;
  };
  closing = λ h. ap (λ m. is_some (get m h)) same.closing ∙ stand.closing h;
}

-- Nothing is held.
pub handles-none : (holding : Holding) (capacity : ℕ) → holding.table.holders ≡ map-empty → holding.closing.holders ≡ map-empty →
    HandlesStand holding (empty capacity)
handles-none holding capacity none closed =
    let nothing = get-empty {X = Holders} nat_cmp in
    record {
      holders = record {
        users = λ h. ap (λ m. nat_lt 0 (unwrap_or (get m h) nobody).user) none ∙ ap (λ o. nat_lt 0 (unwrap_or o nobody).user) (nothing h);
        operations = λ h. ap (λ m. (unwrap_or (get m h) nobody).operations) none ∙ ap (λ o. (unwrap_or o nobody).operations) (nothing h);
      };
      closing = λ h. ap (λ m. is_some (get m h)) closed ∙ ap is_some (nothing h);
    }

-- No operation holds a handle, and none makes one.
pub holding-none : {B : Type 0} (holding : Holding) (slots : FinMap nat_cmp (Slot B)) (given : ℕ) → holding.table.holders ≡ map-empty →
    holding.makers ≡ 0 → slots ≡ map-empty → AreHolding holding slots given
holding-none {B} holding slots given none idle fresh =
    let nobody-there : (h : ℕ) → (holders_at holding.table h).operations ≡ 0 = λ h.
    ap (λ m. (unwrap_or (get m h) nobody).operations) none
    ∙ ap (λ o. (unwrap_or o nobody).operations) (get-empty {X = Holders} nat_cmp h) in
    record {
      counted = counted-none holding.table slots nobody-there fresh;
      few = λ h. (let z = nobody-there h in omega (arith, z));
      making = making-none slots holding.makers fresh idle;
      apart = apart-none slots (λ key. ap (λ m. get m key) fresh ∙ get-empty {X = Slot B} nat_cmp key);
    }

-- The user of each handle is as it was where an operation made one.
user-made : (owners : List Owner) (made : Option ℕ) (h : ℕ) →
    passes (λ owner. owner.is_user) (slice_get (owners ++ made_owners made) h) ≡ passes (λ owner. owner.is_user) (slice_get owners h)
user-made owners None h = ap (λ os. passes (λ owner. owner.is_user) (slice_get os h)) (append-nil owners)
user-made owners (Some m) h = elim (joined-cases owners (record { is_user = false }) h) [
  | inl e ↦ ap (passes (λ owner. owner.is_user)) e.2 ∙ sym (ap (passes (λ owner. owner.is_user)) e.1)
  | inr e ↦ ap (passes (λ owner. owner.is_user)) e.1
]

module _ (holding : Holding) (L : Ledger) (old : HandlesStand holding L) where
  -- Each handle is seen to have the same holders, and has as many closes.
  pub handles-same : (M : Ledger) → SameSeen L M → ((h : ℕ) → close_count M h ≡ close_count L h) → HandlesStand holding M
  handles-same M same count = record {
    holders = holders-stand-same old.holders same;
    closing = λ h. old.closing h ∙ ap (nat_lt 0) (sym (count h));
  }

  -- What stands on the handles changes.
  pub handles-world : (world : List HandleState) → HandlesStand holding (record L { world = world })
  handles-world world = handles-same (record L { world = world }) (record { users = λ h. refl; ops = λ h. refl }) (λ h. refl)

  -- What isn't a close is pushed.
  pub handles-push : (entry : Queued) → ((h : ℕ) → closes_queued h (entry ∷ []) ≡ 0) → AreEarly L.ops L.queue →
      HandlesStand holding (push L entry)
  handles-push entry none early = handles-same (push L entry) (seen-push L entry early)
      (λ h. (let a = count-push L entry h in let b = none h in omega (arith, a, b)))

  -- An operation in flight is executed.
  pub handles-executed : (place n : ℕ) (told : Told) (result : Effect) → slice_get L.flying place ≡ Some (Op n) →
      ((o : Operation) → slice_get L.ops n ≡ Some o → is_early o.place ≡ true) →
      HandlesStand holding (with_effect (complete_at L place (Op n)) n told result)
  handles-executed place n told result there early =
      let same = seen-op L n (with_result told result) (λ o at. record {
        request = refl;
        made = made-done o.dropped (InDone result.outcome) o.task result.outcome refl
            ∙ sym (made-early o.dropped o.place o.task (early o at));
        live = sym (early-live o (early o at));
      }) in
      handles-same (with_effect (complete_at L place (Op n)) n told result)
      (record { users = λ h. user-made L.owners (made_by result.outcome) h; ops = same.ops })
      (λ h. count-complete_at L place (Op n) h there)

  -- A close in flight is executed.
  pub handles-closed : (place k : ℕ) → slice_get L.flying place ≡ Some (Item.Close k) →
      HandlesStand holding (complete_at L place (Item.Close k))
  handles-closed place k there = handles-same (complete_at L place (Item.Close k)) (record { users = λ h. refl; ops = λ h. refl })
      (λ h. count-complete_at L place (Item.Close k) h there)

-- A new operation holds the handles that it names: room is made, and its request is queued.
module _ (holding : Holding) (L : Ledger) (request : Request Buffer Parts) (group : Option ℕ) (linked : Bool) (n : ℕ)
    (early : AreEarly L.ops L.queue) where
  abbrev joined : Ledger
  joined = append (with_new_op (make_room L) (new_operation request group linked)) (Req n)

  joined-count : (h : ℕ) → close_count joined h ≡ close_count L h
  joined-count h =
      let q = closes_queued-append h (make_room L).queue (Req n ∷ []) in
      let m = count-make_room L h in
      omega (arith, q, m)

  pub handles-joined : (maker : Bool) → HandlesStand holding L →
      HandlesStand (op_joined holding (named request) maker)
      (append (with_new_op (make_room L) (new_operation request group linked)) (Req n))
  handles-joined maker old = record {
    holders = holders-stand-same
        (holders-stand-joined holding.table (make_room L) (new_operation request group linked)
        (holders-stand-same old.holders (seen-make_room L early)) refl refl)
        (record { users = λ h. refl; ops = λ h. refl });
    closing = λ h. old.closing h ∙ ap (nat_lt 0) (sym (joined-count h));
  }
