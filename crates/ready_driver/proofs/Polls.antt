-- What a readiness driver answers to the poll and the drop of an operation, and the ledger behind them as they are spelled.
use Rattle.std.proofs.Common.{◌≡◌, ℕ, ◌+◌, Bool, true, false, not, ◌&&◌, List, [], ◌∷◌, ◌++◌, length, map, remove, Option, Some, None}
use Rattle.std.proofs.Common.{option_map}
use Rattle.std.proofs.Common.{slice_get, refl, sym, ◌∙◌, ap, subst, arith, if◌then◌else◌}
use Rattle.std.specs.Prelude.{is_none, unwrap_or, option_to_list}
use Rattle.std.proofs.lemmas.List.{map-append, length-append, append-nil}
use Rattle.rent_buf.specs.Buffer.{Buffer}
use Rattle.rent_buf.specs.Parts.{Parts}
use Rattle.machine.specs.declared.request.TheConstants.{CANCELED}
use Rattle.machine.specs.declared.request.Request.{Request}
use Rattle.machine.specs.declared.request.Told.{Told}
use Rattle.machine.specs.declared.request.Told.TheVariants.{Fail}
use Rattle.machine.specs.declared.world.HandleState.{HandleState}
use Rattle.machine.specs.declared.ledger.Event.TheVariants.{Poll, Turn, Exec}
use Rattle.machine.specs.declared.ledger.Reply.{Reply}
use Rattle.machine.specs.declared.ledger.Reply.TheVariants.{Pending, Handed}
use Rattle.machine.specs.Lists.{amended}
use Rattle.machine.specs.Request.{call_of, sent_of, held}
use Rattle.machine.specs.Effect.{Effect, effect, made_by}
use Rattle.machine.specs.Ledger.{Ledger, Operation, Owner, Place, InQueue, InFlight, InDone, Reaped, Gone, Queued, Op}
use Rattle.machine.specs.Queue.{with_op, at_place, canceled_at, take_all, push_each, with_gone, became_unheld, leave}
use Rattle.machine.specs.Turn.{made_owners, effect_of}
use Rattle.machine.specs.Step.{step, as_user, with_task, with_drop, poll_at}
use Rattle.machine.specs.Run.{after}
use Rattle.machine.specs.Attempt.{attempt}
use Rattle.machine.proofs.Amended.{map-amended}
use Rattle.machine.proofs.Taking.{taken_place, with_taking}
use Rattle.machine.proofs.Staying.{Stays, stays-take_all, stays-leave}
use Rattle.machine.proofs.Stepping.{OwnedAt}
use Rattle.machine.proofs.Turning.{Grows, grows-effect}
use Rattle.machine.proofs.Reaping.{AreCloses, closed-leave, ops-take_closes}
use Rattle.machine.proofs.Attempting.{attempt_allowed}
use Rattle.ready_driver.specs.Spelled.{attempted, blocked, greedy, place_of, spelled_out, finishing, poll_spelling}
use Rattle.ready_driver.specs.Spelled.{row_spelling, spelled_reply}
use Rattle.ready_driver.specs.Legacy.{LegacyOp, Legacy, slot_in, slot_at}
use Rattle.ready_driver.specs.LegacyStep.{freed, users_with, ends_with, poll_op, poll_slot, legacy_row}
use Rattle.ready_driver.specs.Readiness.{slot_by}
use Rattle.driver_core.proofs.Lists.{amended-twice}
use Rattle.ready_driver.proofs.Lists.{amended-end, map-changed}
use Rattle.ready_driver.proofs.Free.{Free}
use Rattle.ready_driver.proofs.Flat.{take-none, Unmoved, flat-changed}
use Rattle.ready_driver.proofs.Closes.{closes_only, turn-takes, closes-remove}
use Rattle.ready_driver.proofs.Asks.{Flies}
use Rattle.ready_driver.proofs.Settled.{Half, Tidy, Stands, shown, is_users, half-closes, half-changed, Flat, half-flat, flat-half}
use Rattle.ready_driver.proofs.Settled.{tidy-closes}
use Rattle.ready_driver.proofs.Finish.{flies-found, allows, left, reaped_by, finish-kept, poll-row, handed, poll-hands, flat-left}
use Rattle.ready_driver.proofs.Causes.{slot-taken}
use Rattle.ready_driver.proofs.Meets.{Meets, meets-same, MeetsSpelled, meets-itself, Taken, taken-flies}

-- What a task waits for is taken alike.
task-canceled : (task : ℕ) (p : Place) (o : Operation) → canceled_at p (with_task task o) ≡ with_task task (canceled_at p o)
task-canceled task InQueue o = refl
task-canceled task InFlight o = refl
task-canceled task (InDone outcome) o = refl
task-canceled task (Reaped outcome) o = refl
task-canceled task Gone o = refl

-- What is dropped is taken alike.
drop-canceled : (p : Place) (o : Operation) → canceled_at p (with_drop o) ≡ with_drop (canceled_at p o)
drop-canceled InQueue o = refl
drop-canceled InFlight o = refl
drop-canceled (InDone outcome) o = refl
drop-canceled (Reaped outcome) o = refl
drop-canceled Gone o = refl

-- A task that waits commutes with taking.
task-unmoved : (task : ℕ) → Unmoved (with_task task)
task-unmoved task = record { taken = λ o. refl; canceled = λ o. task-canceled task o.place o; free = λ o f. f }

-- A drop does.
pub drop-unmoved : Unmoved with_drop
drop-unmoved = record { taken = λ o. refl; canceled = λ o. drop-canceled o.place o; free = λ o f. f }

-- A poll that waits.
waiting-meets : (D : Legacy) (L : Ledger) (n task : ℕ) (o : Operation) → slice_get L.ops n ≡ Some o → Stands D L →
    Meets (D, Pending) (with_op L n (with_task task)) Pending
waiting-meets D L n task o there st =
    let e = flat-changed L n (with_task task) (task-unmoved task) st.settled.half.free in
    record {
      reply_is = refl;
      half = half-changed L n (with_task task) o (task-unmoved task) (λ x. (refl, refl, λ c. c)) there st.settled.half;
      tidy = λ none. ap (λ K. closes_only K.flying) e ∙ st.settled.closed;
      shows = record {
        slots = st.shows.slots
            ∙ sym (ap (λ K. map shown K.ops) e ∙ map-amended shown (with_task task) (take_all L).ops n (λ x. refl));
        users = st.shows.users;
        world = st.shows.world;
        cancellers = st.shows.cancellers;
        cancel_handles = st.shows.cancel_handles;
        groups = st.shows.groups;
      };
    }

-- An operation in flight leaves, with these handles and users.
module _ (D : Legacy) (L : Ledger) (p n : ℕ) (change : Operation → Operation)
    (keeps : (x : Operation) → Free x → Free (change x)) (st : Stands D L) (item : slice_get (take_all L).flying p ≡ Some (Op n))
    (f : Flies (take_all L) n) (users : List Bool) (dw world : List HandleState)
    (owners : List Owner) (eu : users ≡ is_users owners) (ew : dw ≡ world) (counted : length owners ≡ length world) where
  -- The operation once it is gone.
  abbrev changed : Operation → Operation
  changed x = at_place Gone (change x)

  -- The ledger before it leaves.
  abbrev before : Ledger
  before = left (take_all L) p n change world owners

  -- The ledger once it is gone.
  abbrev behind : Ledger
  behind = left (take_all L) p n changed world owners

  -- It is that once it left, but for the closes.
  behind-is : with_gone before n ≡ behind
  behind-is =
      ap (λ ops. record (take_all L) {
        flying = remove (take_all L).flying p;
        done = [];
        ops = ops;
        world = world;
        owners = owners;
      }) (amended-twice (take_all L).ops n change (at_place Gone))

  -- It is between two spellings.
  flat-behind : Flat behind
  flat-behind = flat-left (take_all L) p n changed (λ x. refl) keeps (half-flat L st.settled.half) item f world owners counted

  -- The handles that nobody holds any more.
  abbrev unheld : List ℕ
  unheld = became_unheld before (with_gone before n)

  -- Their closes are pushed.
  leave-is : leave before n ≡ push_each behind (map Queued.Close unheld)
  leave-is = ap (λ M. push_each M (map Queued.Close unheld)) behind-is

  -- No close is in flight before that.
  closed-behind : closes_only (take_all behind).flying ≡ []
  closed-behind =
      ap (λ M. closes_only M.flying) (take-none behind flat-behind.queue) ∙ closes-remove (take_all L).flying p st.settled.closed

  -- The operations once the queue is taken.
  ops-left : (take_all (leave before n)).ops ≡ behind.ops
  ops-left =
      let K : Ledger = leave before n in
      let c = closed-leave before n (subst AreCloses (sym flat-behind.queue) tt) in
      ops-take_closes (record K { queue = [] }) K.queue c.queue ∙ c.ops ∙ ap (λ M. M.ops) behind-is

  -- It leaves the driver, too.
  pub left-meets : (r : Reply) → Meets (record (freed D n) { world = dw; users = users }, r) (leave before n) r
  left-meets r =
      let a = stays-take_all L in
      let b : Stays before (leave before n) = stays-leave before n in
      record {
        reply_is = refl;
        half = subst Half (sym leave-is) (half-closes behind unheld (flat-half behind flat-behind));
        tidy = subst Tidy (sym leave-is) (tidy-closes behind unheld closed-behind);
        shows = record {
          slots = ap (λ xs. amended xs n (λ slot. None)) st.shows.slots
              ∙ sym (map-changed shown (take_all L).ops n changed (λ slot. None) (λ x. refl)) ∙ ap (map shown) (sym ops-left);
          users = eu ∙ ap is_users (sym b.owners);
          world = ew ∙ sym b.world;
          cancellers = st.shows.cancellers ∙ ap (λ g. g.cancellers) (sym a.groups) ∙ ap (λ g. g.cancellers) (sym b.groups);
          cancel_handles = st.shows.cancel_handles ∙ ap (λ g. g.cancel_handles) (sym a.groups)
              ∙ ap (λ g. g.cancel_handles) (sym b.groups);
          groups = st.shows.groups ∙ ap (λ g. g.groups) (sym a.groups) ∙ ap (λ g. g.groups) (sym b.groups);
        };
      }

-- The users and the owners once what an operation made, if anything, is handed over.
pub hands-alike : (made : Option ℕ) (owners : List Owner) (users : List Bool) (count : ℕ) → ((h : ℕ) → made ≡ Some h → h ≡ count) →
    length owners ≡ count → users ≡ is_users owners →
    (users_with made users ≡ is_users (handed made (owners ++ made_owners made)))
    × (length (handed made (owners ++ made_owners made)) ≡ count + length (option_to_list made))
hands-alike None owners users count last counted u = (
  u ∙ ap is_users (sym (append-nil owners)),
  (let l = ap length (append-nil owners) in omega (arith, l, counted)),
)
hands-alike (Some h) owners users count last counted u =
    let x : Owner = record { is_user = false } in
    let y : Owner = record { is_user = true } in
    let e : handed (Some h) (owners ++ x ∷ []) ≡ owners ++ y ∷ [] =
    ap (λ k. amended (owners ++ x ∷ []) k (as_user true)) (last h refl ∙ sym counted) ∙ amended-end owners x (as_user true) in (
      ap (λ us. us ++ true ∷ []) u ∙ sym (map-append (λ owner. owner.is_user) owners (y ∷ [])) ∙ ap is_users (sym e),
      (let l = ap length e in let a = length-append owners (y ∷ []) in omega (arith, l, a, counted)),
    )

-- The slot of an operation.
abbrev pub slot_for : Operation → Bool → LegacyOp
slot_for o is_asked = record { request = o.request; group = o.group; asked = is_asked }

-- An operation of its user's, of a driver that stands for a ledger.
module _ (D : Legacy) (L : Ledger) (n task : ℕ) (st : Stands D L) (f : OwnedAt L n) (t : Taken L n f.operation) where
  -- The operation once the queue is taken.
  abbrev pub flying : Operation
  flying = with_taking t.canceled t.waits_for f.operation

  -- Its slot.
  abbrev pub slot : LegacyOp
  slot = slot_for f.operation t.canceled

  -- It is in the driver.
  owned-slot : slot_at D n ≡ Some slot
  owned-slot =
      slot-taken D L n st.shows ∙ ap (λ x. slot_in (option_map shown x)) t.there ∙ ap (λ p. slot_in (Some (slot_by p slot))) t.place

  -- What it holds once the queue is taken.
  pub flat-taken : Flat (take_all L)
  flat-taken = half-flat L st.settled.half

  -- Its place.
  abbrev pub place : ℕ
  place = place_of n (take_all L).flying

  -- It is there.
  pub item-there : slice_get (take_all L).flying place ≡ Some (Op n)
  item-there = flies-found (take_all L) n flat-taken.lists (taken-flies L n f.operation t)

  -- The handles are the same.
  pub same-world : D.world ≡ (take_all L).world
  same-world = st.shows.world ∙ sym (stays-take_all L).world

  -- So are their users.
  pub same-users : D.users ≡ is_users (take_all L).owners
  same-users = st.shows.users ∙ ap is_users (sym (stays-take_all L).owners)

  -- What its call moves.
  abbrev moved : Told → Effect
  moved told = effect_of (take_all L) f.operation.request told

  -- The owners of the handles, with that of what it made.
  abbrev owners_now : Told → List Owner
  owners_now told = (take_all L).owners ++ made_owners (made_by (moved told).outcome)

  -- The ledger once it ended.
  abbrev ended : Told → Ledger
  ended told =
      leave (left (take_all L) place n (reaped_by told (moved told)) (moved told).world
      (handed (made_by (moved told).outcome) (owners_now told))) n

  -- The reply.
  abbrev ended_reply : Told → Reply
  ended_reply told = Handed (moved told).outcome (held f.operation.request told (moved told).got)

  -- The driver ends it alike.
  ended-meets : (told : Told) → Meets (ends_with D n slot told) (ended told) (ended_reply told)
  ended-meets told =
      let r : Request Buffer Parts = f.operation.request in
      let driven : Effect = effect D.world (call_of r) (sent_of r) told in
      let same : driven ≡ moved told = ap (λ w. effect w (call_of r) (sent_of r) told) same-world in
      let grows : Grows (take_all L).world (moved told) = grows-effect (take_all L).world (call_of r) (sent_of r) told in
      let m = hands-alike (made_by (moved told).outcome) (take_all L).owners D.users (length (take_all L).world) grows.last
      flat-taken.counted same-users in
      let reply : Handed driven.outcome (held r told driven.got) ≡ ended_reply told = ap (λ e. Handed e.outcome (held r told e.got)) same in
      subst (Meets (ends_with D n slot told) (ended told)) reply
      (left-meets D L place n (reaped_by told (moved told)) (λ x f. f) st item-there (taken-flies L n f.operation t)
      (users_with (made_by driven.outcome) D.users) driven.world (moved told).world
      (handed (made_by (moved told).outcome) (owners_now told)) (ap (λ e. users_with (made_by e.outcome) D.users) same ∙ m.0)
      (ap (λ e. e.world) same) (m.1 ∙ sym grows.count) (Handed driven.outcome (held r told driven.got)))

  -- A poll that makes the call.
  poll-ends : (told : Told) → greedy L n ≡ told → allows (take_all L) flying told ≡ true →
      MeetsSpelled (ends_with D n slot told) L (poll_spelling false L n task)
  poll-ends told g may =
      let T : Ledger = take_all L in
      let first : after L (finishing L n (greedy L n))
      ≡ left T place n (reaped_by told (moved told)) (moved told).world (owners_now told) =
      ap (λ X. after X (Exec (place_of n X.flying) (greedy L n) ∷ Turn ∷ [])) (turn-takes L st.settled.half.idle)
      ∙ ap (λ report. after T (Exec place report ∷ Turn ∷ [])) g
      ∙ finish-kept T place n flying told flat-taken.queue flat-taken.done flat-taken.free item-there t.there may t.undropped in
      let whole : step (after L (finishing L n (greedy L n))) (Poll n task) ≡ (ended told, ended_reply told) =
      ap (λ K. step K (Poll n task)) first
      ∙ poll-hands T place n task flying told (moved told).world (owners_now told) t.there t.undropped in
      meets-same (ends_with D n slot told) (after L (spelled_out (poll_spelling false L n task))) (ended told)
      (spelled_reply L (poll_spelling false L n task)) (ended_reply told) (ap (λ x. x.0) whole) (ap (λ x. x.1) whole) (ended-meets told)

  -- A poll of what isn't reaped waits.
  blocked-waits : (p : Place) → taken_place p ≡ InFlight → poll_at L n task f.operation p ≡ (with_op L n (with_task task), Pending)
  blocked-waits InQueue h = refl
  blocked-waits InFlight h = refl
  blocked-waits (InDone outcome) h = (let x : ⊥ = cc in absurd x)
  blocked-waits (Reaped outcome) h = (let x : ⊥ = cc in absurd x)
  blocked-waits Gone h = (let x : ⊥ = cc in absurd x)

  -- A poll that waits.
  poll-waits : MeetsSpelled (D, Pending) L (poll_spelling true L n task)
  poll-waits =
      meets-itself (D, Pending) L (with_op L n (with_task task)) (Poll n task) Pending
      (poll-row L n task f.operation f.there f.kept f.undropped ∙ blocked-waits f.operation.place t.place)
      (waiting-meets D L n task f.operation f.there st)

  -- What its call makes.
  abbrev pub made : Option Told
  made = attempt L.world (call_of f.operation.request)

  -- It is what the spelling asks for.
  attempt-is : attempted L (slice_get L.ops n) ≡ made
  attempt-is = ap (attempted L) f.there

  -- By whether its cancel is asked for, and by what its call makes.
  poll-cases : (c : Bool) (m : Option Told) → t.canceled ≡ c → made ≡ m →
      MeetsSpelled (poll_op c m D n slot) L (poll_spelling (not c && is_none m) L n task)
  poll-cases true m ec em =
      poll-ends (Fail CANCELED)
      (ap (λ b. if b then Fail CANCELED else unwrap_or (attempted L (slice_get L.ops n)) (Fail 0)) (t.asked_is ∙ ec)) ec
  poll-cases false None ec em = poll-waits
  poll-cases false (Some told) ec em =
      poll-ends told
      (ap (λ b. if b then Fail CANCELED else unwrap_or (attempted L (slice_get L.ops n)) (Fail 0)) (t.asked_is ∙ ec)
      ∙ ap (λ m. unwrap_or m (Fail 0)) (attempt-is ∙ em))
      (attempt_allowed (take_all L).world (call_of f.operation.request) told
      (ap (λ w. attempt w (call_of f.operation.request)) (stays-take_all L).world ∙ em) t.canceled)

  -- The poll of its slot.
  pub poll-slot : legacy_row D (Poll n task) ≡ poll_op t.canceled made D n slot
  poll-slot =
      ap (poll_slot D n) owned-slot
      ∙ ap (λ w. poll_op t.canceled (attempt w (call_of f.operation.request)) D n slot) st.shows.world

  -- Whether it is blocked.
  pub poll-blocked : blocked L n ≡ (not t.canceled && is_none made)
  poll-blocked =
      ap (λ x. not x && is_none (attempted L (slice_get L.ops n))) t.asked_is ∙ ap (λ m. not t.canceled && is_none m) attempt-is

  -- The poll.
  pub poll-meets : MeetsSpelled (legacy_row D (Poll n task)) L (row_spelling L (Poll n task))
  poll-meets =
      subst (λ s. MeetsSpelled s L (row_spelling L (Poll n task))) (sym poll-slot)
      (subst (λ b. MeetsSpelled (poll_op t.canceled made D n slot) L (poll_spelling b L n task)) (sym poll-blocked)
      (poll-cases t.canceled made refl refl))
