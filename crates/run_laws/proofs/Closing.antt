-- What a step makes of the closes of handles, by what its reply names.
use Rattle.std.proofs.Common.{◌≡◌, inl, inr, ℕ, ◌+◌, ◌≤◌, ◌<◌, Bool, true, false, List, [], ◌∷◌, length, map, Option}
use Rattle.std.proofs.Common.{None, Some, slice_get, refl, sym, ◌∙◌, ap, subst, arith, true≢false, length-append}
use Rattle.rent_buf.specs.Buffer.{Buffer}
use Rattle.rent_buf.specs.Parts.{Parts}
use Rattle.machine.specs.declared.request.Request.{Request}
use Rattle.machine.specs.declared.request.Told.{Told}
use Rattle.machine.specs.declared.world.HandleState.{HandleState}
use Rattle.machine.specs.declared.ledger.Event.{Event}
use Rattle.machine.specs.declared.ledger.Event.TheVariants.{Give, Feed, FeedMessage, End, Look, Close, Submit, Poll, Drop, Cancel, Turn}
use Rattle.machine.specs.declared.ledger.Event.TheVariants.{Exec}
use Rattle.machine.specs.declared.ledger.Event.TheVariants.{NewCanceller, NewHandle, CancelAll}
use Rattle.machine.specs.declared.ledger.Refusal.{Refusal}
use Rattle.machine.specs.declared.ledger.Reply.{Reply}
use Rattle.machine.specs.declared.ledger.Reply.TheVariants.{Turned}
use Rattle.machine.specs.Lists.{passes, has_number}
use Rattle.machine.specs.World.{fresh}
use Rattle.machine.specs.Request.{named, call_of, sent_of}
use Rattle.machine.specs.Effect.{Effect, made_by}
use Rattle.machine.specs.Ledger.{Ledger, Operation, Place, InQueue, InFlight, InDone, Reaped, Gone, Queued, Req, Item, Op}
use Rattle.machine.specs.Ledger.{new_operation, is_kept, is_live, user_holds, is_under_marked, group_under, members}
use Rattle.machine.specs.Queue.{with_op, take_all, make_room, append, push, push_each, leave, is_unheld}
use Rattle.machine.specs.Turn.{closes_in, turn_step, exec_op, exec_step, complete_at, effect_of, made_owners, with_effect, released}
use Rattle.machine.specs.Step.{new_owner, give_step, step, row, with_new_op, submit_step, with_task, handed_over, poll_at, poll_step}
use Rattle.machine.specs.Step.{with_drop}
use Rattle.machine.specs.Step.{drop_at, drop_step, submit_if, new_canceller_step, group_of, new_handle_step, with_mark, renew_group}
use Rattle.machine.specs.Step.{cancel_all_step}
use Rattle.machine.specs.Refusal.{cause}
use Rattle.machine.specs.Closes.{AreKnown, close_count, ClosesOnce, made_at, MadeAlone}
use Rattle.machine.proofs.Numbers.{below-or-not}
use Rattle.machine.proofs.Amended.{get-amended-same}
use Rattle.machine.proofs.Appended.{get-append-within, get-append-end}
use Rattle.machine.proofs.Taken.{queue-take_each}
use Rattle.machine.proofs.Occurring.{closes_queued-append}
use Rattle.machine.proofs.Staying.{Stays, stays-make_room}
use Rattle.machine.proofs.Holders.{AreLive, live-none, live-push_cancel, holders-own, holders-take_all, held-by_user, unheld-at}
use Rattle.machine.proofs.Holders.{unheld-same, held-by_op}
use Rattle.machine.proofs.Closing.{count-take_all, count-complete_at, known-lists}
use Rattle.machine.proofs.Once.{once-fewer, once-take_all}
use Rattle.machine.proofs.Turning.{apart-none, live-gone, Grows, grows-effect, unheld-with_effect}
use Rattle.machine.proofs.Taking.{in_queue, Listed}
use Rattle.machine.proofs.Listed.{submit-joined, listed-changed, flying-there}
use Rattle.machine.proofs.Stepping.{step-refused, step-row, OwnedAt, found, executed-there, closed-held, submitted-held}
use Rattle.machine.proofs.Releasing.{released-beside, released-holders, released-count}
use Rattle.machine.proofs.Lawful.{Lawful, listed-live, listed-unasked, handed-there, lawful-executed}
use Rattle.machine.proofs.Alone.{made-there, made-holding, listed-handed}
use Rattle.machine.proofs.Makes.{closing-handed, unheld-before}
use Rattle.machine.proofs.Unheld.{Closing, closing-same, closing-then, closing-op, closing-take_all, closing-make_room, closing-new_op}
use Rattle.machine.proofs.Unheld.{closing-push, closing-leave, closing-close, closing-reap_each}
use Rattle.run_laws.proofs.Times.{times, times-closes}
use Rattle.run_laws.proofs.Looks.{looked}

-- The handles whose closes a reply names.
abbrev pub closed_by : Reply → List ℕ
closed_by (Turned reaped closed woken) = closed
closed_by _ = []

-- From a ledger to the next one, with these closes named: a handle that nobody held is held by nobody, and has as many closes as
-- before, but for those that are named, and one whose holders became none has a close.
pub record Ends (L M : Ledger) (closed : List ℕ) : Type 0 where
  pub more : length L.owners ≤ length M.owners
  pub stays : (h : ℕ) → h < length L.owners → is_unheld L h ≡ true → is_unheld M h ≡ true
  pub closes : (h : ℕ) → h < length L.owners → is_unheld L h ≡ true → close_count M h + times h closed ≡ close_count L h
  pub comes : (h : ℕ) → h < length M.owners → (h < length L.owners → is_unheld L h ≡ false) → is_unheld M h ≡ true → 1 ≤ close_count M h
  pub few : (h : ℕ) → times h closed ≤ close_count L h

-- A change that names none.
ends-quiet : {L M : Ledger} → Closing L M → Ends L M []
ends-quiet {L} {M} c = record {
  more = (let e = c.count in omega arith);
  stays = λ h within is. c.stays h is;
  closes = λ h within is. (let e = c.closes h is in omega arith);
  comes = λ h within held is. (
      let inside : h < length L.owners = (let e = c.count in omega (arith, e, within)) in c.comes h inside (held inside) is);
  few = λ h. omega arith;
}

-- Nothing changes.
ends-same : (L : Ledger) → Ends L L []
ends-same L = ends-quiet (closing-same L L refl (holders-own L) (λ h. refl))

-- Other handles.
ends-world : (L : Ledger) (world : List HandleState) → Ends L (record L { world = world }) []
ends-world L world =
    ends-quiet (closing-same L (record L { world = world }) refl (record { users = λ h. refl; ops = λ h. refl }) (λ h. refl))

-- A new handle, which its user holds.
ends-give : (L : Ledger) (handle : HandleState) → Ends L (give_step L handle) []
ends-give L handle =
    let M : Ledger = give_step L handle in
    let count = length-append L.owners (new_owner ∷ []) in
    let old : (h : ℕ) → h < length L.owners → is_unheld M h ≡ is_unheld L h = λ h within.
    unheld-at L M h (ap (passes (λ owner. owner.is_user)) (get-append-within L.owners new_owner h within)) refl in
    record {
      more = omega (arith, count);
      stays = λ h within is. old h within ∙ is;
      closes = λ h within is. omega arith;
      comes = λ h within held is. elim (below-or-not h (length L.owners)) [
        | inl lt ↦ (let f : true ≡ false = sym is ∙ old h lt ∙ held lt in let g : ⊥ = cc in absurd g)
        | inr past ↦ (
            let at : h ≡ length L.owners = omega (arith, count, within, past) in
            let user : user_holds M h ≡ true = ap (passes (λ owner. owner.is_user))
            (ap (slice_get M.owners) at ∙ get-append-end L.owners new_owner) in
            let f : true ≡ false = sym is ∙ held-by_user M h user in let g : ⊥ = cc in absurd g)
      ];
      few = λ h. omega arith;
    }

-- A new operation on handles that its user holds.
ends-submit : (L : Ledger) (request : Request Buffer Parts) (group : Option ℕ) (linked : Bool) →
    ((h : ℕ) → has_number h (named request) ≡ true → user_holds L h ≡ true) → Lawful L → Ends L (submit_step L request group linked) []
ends-submit L request group linked holds l =
    let M : Ledger = make_room L in
    let N : Ledger = with_new_op M (new_operation request group linked) in
    let stays : Stays L M = stays-make_room L in
    let new : Closing M N = closing-new_op M (new_operation request group linked) (λ h names. held-by_user M h
    (ap (λ owners. user_holds (record L { owners = owners }) h) stays.owners ∙ holds h names)) in
    let asked : Closing N (append N (Req (length M.ops))) = closing-same N (append N (Req (length M.ops))) refl
    (record { users = λ h. refl; ops = λ h. refl })
    (λ h. (let a = closes_queued-append h N.queue (Req (length M.ops) ∷ []) in omega (arith, a))) in
    subst (λ K. Ends L K []) (sym (submit-joined L request group linked l.lists))
    (ends-quiet (closing-then (closing-make_room L (listed-live L l.lists)) (closing-then new asked)))

-- A submission, under a marked group or not.
ends-submit_if : (b : Bool) (L : Ledger) (request : Request Buffer Parts) (group : Option ℕ) (linked : Bool) →
    ((h : ℕ) → has_number h (named request) ≡ true → user_holds L h ≡ true) → Lawful L →
    Ends L (submit_if b L request group linked).0 (closed_by (submit_if b L request group linked).1)
ends-submit_if true L request group linked holds l = ends-same L
ends-submit_if false L request group linked holds l = ends-submit L request group linked holds l

-- A cancel that is pushed.
closing-cancel : (L : Ledger) (n : ℕ) → AreLive L.ops L.queue → Closing L (push L (Queued.Cancel n))
closing-cancel L n live = closing-push L (Queued.Cancel n) (λ h. refl) live

-- Other groups.
closing-groups : (L : Ledger) (cancellers cancel_handles : List ℕ) (groups : List Bool) →
    Closing L (record L { cancellers = cancellers; cancel_handles = cancel_handles; groups = groups })
closing-groups L cancellers cancel_handles groups =
    closing-same L (record L { cancellers = cancellers; cancel_handles = cancel_handles; groups = groups }) refl
    (record { users = λ h. refl; ops = λ h. refl }) (λ h. refl)

-- Cancels that are pushed.
closing-cancels : (L : Ledger) (numbers : List ℕ) → AreLive L.ops L.queue → Closing L (push_each L (map Queued.Cancel numbers))
closing-cancels L [] live = closing-same L L refl (holders-own L) (λ h. refl)
closing-cancels L (n ∷ numbers) live =
    closing-then (closing-cancel L n live) (closing-cancels (push L (Queued.Cancel n)) numbers (live-push_cancel L n live))

-- A group that is canceled.
closing-cancel_all : (L : Ledger) (c g : ℕ) → AreLive L.ops L.queue → Closing L (cancel_all_step L c g)
closing-cancel_all L c g live =
    let M : Ledger = with_mark L g in
    let N : Ledger = push_each M (map Queued.Cancel (members L g)) in
    closing-then (closing-groups L L.cancellers L.cancel_handles M.groups)
    (closing-then (closing-cancels M (members L g) (record { live = live.live }))
    (closing-groups N (renew_group N c).cancellers N.cancel_handles (renew_group N c).groups))

-- A reaped operation that leaves.
closing-left : (L : Ledger) (n : ℕ) (o : Operation) → slice_get L.ops n ≡ Some o → in_queue o.place ≡ 0 → Listed L → Closing L (leave L n)
closing-left L n o there none lists =
    closing-leave L n (live-gone L.ops L.queue n (listed-unasked L n o lists there none) (listed-live L lists))

-- An operation that a task waits for.
closing-waits : (L : Ledger) (n task : ℕ) → Closing L (with_op L n (with_task task))
closing-waits L n task = closing-op L n (with_task task) (λ q is. record { request = refl; made = refl; live = refl })

-- A reaped operation that is returned, and the handle that it made is handed over.
closing-returned : (L : Ledger) (n : ℕ) (o : Operation) → slice_get L.ops n ≡ Some o → is_live o ≡ true → in_queue o.place ≡ 0 → Lawful L →
    Closing L (leave (handed_over L o.made) n)
closing-returned L n o there live none l =
    closing-then
    (closing-handed L o.made
    (λ h made. (made-there L n h o l.known there made, held-by_op L h n o there (made-holding h o live made))))
    (closing-left (handed_over L o.made) n o (handed-there L o.made n o there) none (listed-handed L o.made l.lists))

-- A poll, by the place of its operation.
ends-poll : (L : Ledger) (n task : ℕ) (o : Operation) → slice_get L.ops n ≡ Some o → Lawful L → (p : Place) → o.place ≡ p →
    Ends L (poll_at L n task o p).0 (closed_by (poll_at L n task o p).1)
ends-poll L n task o there l (Reaped outcome) at = ends-quiet (closing-returned L n o there (ap is_kept at) (ap in_queue at) l)
ends-poll L n task o there l InQueue at = ends-quiet (closing-waits L n task)
ends-poll L n task o there l InFlight at = ends-quiet (closing-waits L n task)
ends-poll L n task o there l (InDone outcome) at = ends-quiet (closing-waits L n task)
ends-poll L n task o there l Gone at = ends-quiet (closing-waits L n task)

-- A drop, by the place of its operation.
closing-drop : (L : Ledger) (n : ℕ) (o : Operation) → slice_get L.ops n ≡ Some o → Listed L → (p : Place) → o.place ≡ p →
    Closing L (drop_at L n p)
closing-drop L n o there lists InQueue at = closing-cancel L n (listed-live L lists)
closing-drop L n o there lists InFlight at = closing-cancel L n (listed-live L lists)
closing-drop L n o there lists (InDone outcome) at = closing-cancel L n (listed-live L lists)
closing-drop L n o there lists (Reaped outcome) at = closing-left L n o there (ap in_queue at) lists
closing-drop L n o there lists Gone at = closing-cancel L n (listed-live L lists)

-- A turn names the closes that are done.
ends-turn : (L : Ledger) → Lawful L → Ends L (turn_step L).0 (closes_in (take_all L).done)
ends-turn L l =
    let T : Ledger = take_all L in
    let E : Ledger = record T { done = [] } in
    let live : AreLive L.ops L.queue = listed-live L l.lists in
    let none : T.queue ≡ [] = queue-take_each (record L { queue = [] }) L.queue in
    let taken : Closing L T = closing-take_all L live in
    let once : ClosesOnce T = once-take_all L live l.closes in
    let reaped : Closing E (turn_step L).0 = closing-reap_each E T.done (record {
      closes = once-fewer T E (λ h. omega arith) (λ h one is. is) (omega arith) once;
      live = live-none T.ops T.queue none;
      apart = apart-none T.queue T.done none;
    }) in
    let count = reaped.count in
    let owners = taken.count in
    let all : (h : ℕ) → close_count T h ≡ close_count L h = λ h. count-take_all L h in
    record {
      more = omega (arith, count, owners);
      stays = λ h within is. reaped.stays h (taken.stays h is);
      closes = λ h within is. (
          let a = reaped.closes h (taken.stays h is) in
          let b = all h in
          let c = times-closes h T.done in
          omega (arith, a, b, c));
      comes = λ h within held is. (
          let inside : h < length L.owners = omega (arith, count, owners, within) in
          reaped.comes h (omega (arith, owners, inside))
          (unheld-same (holders-take_all L live) h ∙ held inside) is);
      few = λ h. (let b = all h in let c = times-closes h T.done in omega (arith, b, c));
    }

-- An operation that made nothing yet, and isn't gone, is executed.
ends-effect : (L : Ledger) (n : ℕ) (o : Operation) (told : Told) (result : Effect) → Grows L.world result → AreKnown L →
    slice_get L.ops n ≡ Some o → is_live o ≡ true → o.made ≡ None → Ends L (with_effect L n told result) []
ends-effect L n o told result grows known there live none =
    let count = length-append L.owners (made_owners (made_by result.outcome)) in
    let lives : (p : Operation) → slice_get L.ops n ≡ Some p → is_live p ≡ true = λ p at.
    (let q : o ≡ p = (let w = sym there ∙ at in cc) in ap is_live (sym q) ∙ live) in
    record {
      more = omega (arith, count);
      stays = λ h within is. unheld-with_effect L n told result grows lives known h within is;
      closes = λ h within is. omega arith;
      comes = λ h within held is. (
          let b = unheld-before L n o told result grows known there live none h within is in
          absurd (true≢false (sym b.1 ∙ held b.0)));
      few = λ h. omega arith;
    }

-- Those that wait for an operation that was executed are released.
ends-released : (L E : Ledger) (m : ℕ) (told : Told) → Listed E → Ends L E [] → Ends L (released told E m) []
ends-released L E m told lists e =
    let owners = ap length (released-beside told E m).owners in
    let same : (h : ℕ) → is_unheld (released told E m) h ≡ is_unheld E h = unheld-same (released-holders told E m lists) in
    record {
      more = (let a = e.more in omega (arith, owners, a));
      stays = λ h within is. same h ∙ e.stays h within is;
      closes = λ h within is. (let c = released-count told E m h in let a = e.closes h within is in omega (arith, c, a));
      comes = λ h within held is. (
          let inside : h < length E.owners = omega (arith, owners, within) in
          let a = e.comes h inside held (sym (same h) ∙ is) in
          let c = released-count told E m h in
          omega (arith, a, c));
      few = e.few;
    }

-- An execution of what is in flight.
ends-exec : (L : Ledger) (place : ℕ) (told : Told) (item : Item) → slice_get L.flying place ≡ Some item → Lawful L → MadeAlone L →
    Ends L (exec_step L place told (Some item)).0 (closed_by (exec_step L place told (Some item)).1)
ends-exec L place told (Op m) there l a =
    let f = flying-there L place m l.lists there in
    let C : Ledger = complete_at L place (Op m) in
    let e = ends-effect C m f.0 told (effect_of L f.0.request told)
    (grows-effect L.world (call_of f.0.request) (sent_of f.0.request) told) (known-lists L L.queue C.flying C.done l.known) f.1
    (ap is_kept f.2) (a.agrees m f.0 f.1 (ap is_kept f.2) ∙ ap made_at f.2) in
    ends-released L (exec_op C m told (slice_get L.ops m)) m told (lawful-executed L place told m there l).lists
    (subst (λ x. Ends L (exec_op C m told x) []) (sym f.1) (record {
      more = e.more;
      stays = e.stays;
      closes = λ h within is. e.closes h within is ∙ count-complete_at L place (Op m) h there;
      comes = e.comes;
      few = λ h. omega arith;
    }))
ends-exec L place told (Item.Close k) there l a =
    let C : Ledger = complete_at L place (Item.Close k) in
    ends-quiet (closing-same L C refl (record { users = λ h. refl; ops = λ h. refl })
    (λ h. count-complete_at L place (Item.Close k) h there))

-- The row of an event that isn't refused.
ends-row : (L : Ledger) (e : Event) → cause L e ≡ None → Lawful L → MadeAlone L → Ends L (row L e).0 (closed_by (row L e).1)
ends-row L (Give kind) u l a = ends-give L (fresh kind)
ends-row L (Feed h bytes) u l a = ends-world L _
ends-row L (FeedMessage h addr bytes) u l a = ends-world L _
ends-row L (End h) u l a = ends-world L _
ends-row L (Look h) u l a = looked (λ reply. Ends L L (closed_by reply)) L h (λ b. ends-same L) (λ m. ends-same L)
ends-row L (Close h) u l a =
    ends-quiet (closing-close L h (held-by_user L h (closed-held L h u)) (listed-live L l.lists))
ends-row L (Submit request under linked) u l a =
    ends-submit_if (is_under_marked L under) L request (group_under L under) linked (submitted-held L request under linked u) l
ends-row L (Poll n task) u l a =
    let f : OwnedAt L n = found L n u in
    subst (λ x. Ends L (poll_step L n task x).0 (closed_by (poll_step L n task x).1)) (sym f.there)
    (ends-poll L n task f.operation f.there l f.operation.place refl)
ends-row L (Drop n) u l a =
    let f : OwnedAt L n = found L n u in
    let D : Ledger = with_op L n with_drop in
    subst (λ x. Ends L (drop_step L n x).0 (closed_by (drop_step L n x).1)) (sym f.there)
    (ends-quiet (closing-then (closing-op L n with_drop (λ q is. record { request = refl; made = refl; live = refl }))
    (closing-drop D n (with_drop f.operation) (get-amended-same with_drop L.ops n f.operation f.there)
    (listed-changed L n with_drop f.operation l.lists f.there (record { queue = refl; flight = refl; done = refl }))
    f.operation.place refl)))
ends-row L (Cancel n) u l a = ends-quiet (closing-cancel L n (listed-live L l.lists))
ends-row L NewCanceller u l a =
    let N : Ledger = new_canceller_step L in ends-quiet (closing-groups L N.cancellers L.cancel_handles N.groups)
ends-row L (NewHandle c) u l a = ends-quiet (closing-groups L L.cancellers (new_handle_step L c).cancel_handles L.groups)
ends-row L (CancelAll c) u l a = ends-quiet (closing-cancel_all L c (group_of L c) (listed-live L l.lists))
ends-row L Turn u l a = ends-turn L l
ends-row L (Exec place told) u l a =
    let i = executed-there L place told u in
    subst (λ x. Ends L (exec_step L place told x).0 (closed_by (exec_step L place told x).1)) (sym i.1)
    (ends-exec L place told i.0 i.1 l a)

-- An event, by its cause.
ends-cause : (L : Ledger) (e : Event) (c : Option Refusal) → cause L e ≡ c → Lawful L → MadeAlone L →
    Ends L (step L e).0 (closed_by (step L e).1)
ends-cause L e None h l a = subst (λ s. Ends L s.0 (closed_by s.1)) (sym (step-row L e h)) (ends-row L e h l a)
ends-cause L e (Some refusal) h l a = subst (λ s. Ends L s.0 (closed_by s.1)) (sym (step-refused L e refusal h)) (ends-same L)

-- A step.
pub ends-step : (L : Ledger) (e : Event) → Lawful L → MadeAlone L → Ends L (step L e).0 (closed_by (step L e).1)
ends-step L e l a = ends-cause L e (cause L e) refl l a
