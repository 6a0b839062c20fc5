-- What a linked request does to the one behind it in a run: that one waits once both are taken, and is executed itself only once the linked
-- one was executed, and didn't fail.
use Rattle.std.proofs.Common.{◌≡◌, ◌≢◌, ◌⊎◌, inl, inr, ℕ, zero, suc, ◌<◌, ◌≤◌, false, List, [], ◌∷◌, ◌++◌, length, take}
use Rattle.std.proofs.Common.{Option, Some, None, option_map, slice_get, refl, sym, ◌∙◌, ap, subst, arith}
use Rattle.std.specs.Prelude.{◌==◌, if◌then◌else◌}
use Rattle.std.proofs.lemmas.Option.{slice_get_cases, slice_get_within}
use Rattle.std.proofs.lemmas.List.{append_assoc}
use Rattle.machine.specs.declared.request.Told.{Told}
use Rattle.machine.specs.declared.request.Told.TheVariants.{Count, Fail}
use Rattle.machine.specs.declared.ledger.Event.{Event}
use Rattle.machine.specs.declared.ledger.Event.TheVariants.{Give, Feed, FeedMessage, End, Look, Submit, Poll, Drop, Cancel, Turn}
use Rattle.machine.specs.declared.ledger.Event.TheVariants.{Exec, NewCanceller, NewHandle, CancelAll}
use Rattle.machine.specs.declared.ledger.Refusal.{Refusal}
use Rattle.machine.specs.Lists.{passes}
use Rattle.machine.specs.Ledger.{Ledger, Operation, InFlight, Item, Op, empty}
use Rattle.machine.specs.Turn.{without_wait, unless_waits, waiting_on, with_result, effect_of, exec_op, exec_step, complete_at}
use Rattle.machine.specs.Step.{step, row}
use Rattle.machine.specs.Refusal.{cause}
use Rattle.machine.specs.Run.{after, ledger_before}
use Rattle.run_laws.specs.Transfers.{Transfer, event_moves, transfers}
use Rattle.run_laws.specs.Waits.{IsNext, WaitsOnceTaken, WaitsOnlyTaken, IsWaiting, Runs, EndsBetween, StartsAfterLeader, MovesBehindLeader}
use Rattle.machine.proofs.Numbers.{same-or-not, below-or-not, equal-other}
use Rattle.machine.proofs.Occurring.{queued}
use Rattle.machine.proofs.Taking.{in_queue, in_flight, queue_mark, flight_mark, Listed}
use Rattle.machine.proofs.Listed.{flying-there}
use Rattle.machine.proofs.Amended.{get-map}
use Rattle.machine.proofs.Releasing.{with_waits, released-beside, break_each-ops, waiting-flown}
use Rattle.machine.proofs.Lawful.{queued-there, lawful-executed, lawful-ledger}
use Rattle.machine.proofs.Stepping.{step-refused, step-row, executed-there}
use Rattle.machine.proofs.Behind.{awaited, no-number, same-at, unless-awaits}
use Rattle.run_laws.proofs.Replies.{after-next}
use Rattle.run_laws.proofs.Moments.{NotBefore, Executes, Placed, History, is_exec}
use Rattle.run_laws.proofs.Reached.{reached}
use Rattle.run_laws.proofs.Executing.{lists-at, exec-itself, exec-after, exec-other, count-other, fail-other, left-executed}
use Rattle.run_laws.proofs.Waiting.{waiting-flies, starts-free}
use Rattle.run_laws.proofs.Kept.{keeps-row}

-- An operation that was looked up, and waits for another, does.
pub awaits-waiting : (L : Ledger) (n leader : ℕ) → awaited (slice_get L.ops n) ≡ Some leader → IsWaiting L n leader
awaits-waiting L n leader is = by (slice_get L.ops n) refl is
  where
    by : (x : Option Operation) → slice_get L.ops n ≡ x → awaited x ≡ Some leader → IsWaiting L n leader
    by None there w = no-number leader None refl w
    by (Some o) there w = record { operation = o; there = there; waits = w }

-- The other way round.
waiting-awaits : (L : Ledger) (n leader : ℕ) → IsWaiting L n leader → awaited (slice_get L.ops n) ≡ Some leader
waiting-awaits L n leader w = ap awaited w.there ∙ w.waits

-- What waits for another than m waits still once nothing waits for m.
unless-stays : (m leader : ℕ) (x : Option Operation) → awaited x ≡ Some leader → leader ≢ m →
    awaited (option_map (unless_waits m) x) ≡ Some leader
unless-stays m leader None is other = no-number leader None refl is
unless-stays m leader (Some o) is other =
    ap (λ b. (if b then without_wait o else o).waits_for) (ap (passes (λ l. l == m)) is ∙ equal-other leader m other) ∙ is

-- An operation that stayed, but for whom it waits for, is linked exactly where it was.
stayed-linked : (waits_for : Option ℕ) (x : Option Operation) →
    passes (λ (o : Operation). o.linked) (option_map (with_waits waits_for) x) ≡ passes (λ (o : Operation). o.linked) x
stayed-linked waits_for None = refl
stayed-linked waits_for (Some o) = refl

-- An event is an Exec, or isn't.
exec-or-not : (e : Event) → ((place : ℕ) × (told : Told) × (e ≡ Exec place told)) ⊎ (is_exec e ≡ false)
exec-or-not (Give kind) = inr refl
exec-or-not (Feed h bytes) = inr refl
exec-or-not (FeedMessage h addr bytes) = inr refl
exec-or-not (End h) = inr refl
exec-or-not (Look h) = inr refl
exec-or-not (Event.Close h) = inr refl
exec-or-not (Submit request under linked) = inr refl
exec-or-not (Poll n task) = inr refl
exec-or-not (Drop n) = inr refl
exec-or-not (Cancel n) = inr refl
exec-or-not NewCanceller = inr refl
exec-or-not (NewHandle c) = inr refl
exec-or-not (CancelAll c) = inr refl
exec-or-not Turn = inr refl
exec-or-not (Exec place told) = inl (place, told, refl)

-- No more are taken than there are.
take-past : {X : Type 0} (xs : List X) (i : ℕ) → length xs ≤ i → take i xs ≡ take (length xs) xs
take-past [] zero h = refl
take-past [] (suc i) h = refl
take-past (x ∷ xs) zero h = absurd (omega (arith, h))
take-past (x ∷ xs) (suc i) h = ap (λ ys. x ∷ ys) (take-past xs i (omega (arith, h)))

-- The transfers of events are those before one of them, its own, and those behind it.
split-transfers : (h : ℕ) (L : Ledger) (events : List Event) (at j : ℕ) (e : Event) → slice_get events at ≡ Some e → at < j →
    (between : List Transfer) × (transfers h L (take j events)
    ≡ transfers h L (take at events) ++ event_moves h (after L (take at events)) e ++ between)
split-transfers h L [] at j e there lt = cc
split-transfers h L (x ∷ events) at zero e there lt = absurd (omega (arith, lt))
split-transfers h L (x ∷ events) zero (suc j) e there lt =
    let q : x ≡ e = cc in (
      transfers h (step L x).0 (take j events),
      ap (λ y. event_moves h L y ++ transfers h (step L x).0 (take j events)) q,
    )
split-transfers h L (x ∷ events) (suc at) (suc j) e there lt =
    let M : Ledger = (step L x).0 in
    let r = split-transfers h M events at j e there (omega (arith, lt)) in
    let own : List Transfer = event_moves h (after M (take at events)) e in
    let early : List Transfer = transfers h M (take at events) in (
      r.0,
      ap (λ ts. event_moves h L x ++ ts) r.1 ∙ sym (append_assoc (event_moves h L x) (early ++ own) r.0)
          ∙ ap (λ ts. ts ++ r.0) (sym (append_assoc (event_moves h L x) early own)),
    )

module _ (capacity : ℕ) (events : List Event) where
  -- What the operation n does at an event before which it waits: it waits still, or its leader is executed, and doesn't fail.
  abbrev Goes : ℕ → ℕ → ℕ → Type 0
  Goes n leader k = IsWaiting (ledger_before capacity events (suc k)) n leader
      ⊎ ((count : ℕ) × Runs capacity events leader k (Count count))

  module _ (n leader k : ℕ) (w : IsWaiting (ledger_before capacity events k) n leader) (never : Executes capacity events n k → ⊥) where
    -- Whom it waits for before the event.
    before : awaited (slice_get (ledger_before capacity events k).ops n) ≡ Some leader
    before = waiting-awaits (ledger_before capacity events k) n leader w

    -- It is in flight before the event.
    flies : flight_mark (slice_get (ledger_before capacity events k).ops n) ≡ 1
    flies = ap flight_mark w.there ∙ ap in_flight (waiting-flies capacity events k n leader w)

    -- It waits still after what keeps it.
    goes-kept : (N : Ledger) → ledger_before capacity events (suc k) ≡ N →
        awaited (slice_get N.ops n) ≡ awaited (slice_get (ledger_before capacity events k).ops n) → Goes n leader k
    goes-kept N is same =
        inl (awaits-waiting (ledger_before capacity events (suc k)) n leader (ap (λ K. awaited (slice_get K.ops n)) is ∙ same ∙ before))

    -- An execution of another item.
    goes-exec : (place : ℕ) (told : Told) (item : Item) → slice_get events k ≡ Some (Exec place told) →
        cause (ledger_before capacity events k) (Exec place told) ≡ None →
        slice_get (ledger_before capacity events k).flying place ≡ Some item → Goes n leader k
    goes-exec place told (Item.Close h) event unrefused there =
        goes-kept _ (exec-after capacity events k place told (Item.Close h) event unrefused there) refl
    goes-exec place told (Op m) event unrefused there = elim (same-or-not n m) [
      | inl e ↦ absurd (never (
        told,
        Op n,
        exec-itself capacity events n k place told event unrefused (there ∙ ap (λ j. Some (Op j)) (sym e)),
      ))
      | inr other ↦ by told event unrefused other
    ]
      where
        by : (t : Told) → slice_get events k ≡ Some (Exec place t) → cause (ledger_before capacity events k) (Exec place t) ≡ None →
            n ≢ m → Goes n leader k
        by (Count count) event unrefused other = elim (same-or-not leader m) [
          | inl e ↦ inr (
            count,
            record {
              place = place;
              event = event;
              unrefused = unrefused;
              there = there ∙ ap (λ j. Some (Op j)) (sym e);
            },
          )
          | inr apart ↦ goes-kept _ (exec-after capacity events k place (Count count) (Op m) event unrefused there)
              (ap awaited (count-other capacity events n m k place count there other)
              ∙ unless-stays m leader (slice_get (ledger_before capacity events k).ops n) before apart ∙ sym before)
        ]
        by (Fail error) event unrefused other =
            let after = exec-after capacity events k place (Fail error) (Op m) event unrefused there in
            elim (fail-other capacity events n m k place error there other) [
              | inl s ↦ goes-kept _ after (ap awaited s)
              | inr b ↦ absurd (never (
                Fail error,
                Op m,
                left-executed capacity events k place (Fail error) (Op m) event unrefused there n
                    (record { flew = flies; left = ap (λ K. flight_mark (slice_get K.ops n)) after ∙ ap flight_mark b.is }),
              ))
            ]

    -- An event that isn't refused.
    goes-row : (e : Event) → slice_get events k ≡ Some e → cause (ledger_before capacity events k) e ≡ None → Goes n leader k
    goes-row e there unrefused =
        let L : Ledger = ledger_before capacity events k in
        elim (exec-or-not e) [
          | inl x ↦ (
              let event = there ∙ ap Some x.2 in
              let free : cause L (Exec x.0 x.1) ≡ None = ap (cause L) (sym x.2) ∙ unrefused in
              let i = executed-there L x.0 x.1 free in
              goes-exec x.0 x.1 i.0 event free i.1)
          | inr calm ↦ goes-kept (step L e).0 (after-next (empty capacity) events k e there)
              (ap (λ s. awaited (slice_get s.0.ops n)) (step-row L e unrefused)
              ∙ ((keeps-row L e unrefused calm (lists-at capacity events k)).flight n flies).1)
        ]

    -- Each event.
    goes : (e : Event) (c : Option Refusal) → slice_get events k ≡ Some e → cause (ledger_before capacity events k) e ≡ c →
        Goes n leader k
    goes e None there is = goes-row e there is
    goes e (Some refusal) there is =
        let L : Ledger = ledger_before capacity events k in
        goes-kept (step L e).0 (after-next (empty capacity) events k e there)
        (ap (λ s. awaited (slice_get s.0.ops n)) (step-refused L e refusal is))

  -- What is in flight wasn't executed before.
  flies-unexecuted : (n k : ℕ) → k ≤ length events → (o : Operation) → slice_get (ledger_before capacity events k).ops n ≡ Some o →
      o.place ≡ InFlight → NotBefore (Executes capacity events n) k
  flies-unexecuted n k h o there place =
      let had : History capacity events k n (Some o) =
      subst (History capacity events k n) there ((reached capacity events k h).history n) in
      subst (Placed capacity events k n o.buffer) place had.placed

  -- The same of what waits, at any moment.
  waits-unexecuted : (n leader k j : ℕ) → IsWaiting (ledger_before capacity events k) n leader → Executes capacity events n j → k ≤ j
  waits-unexecuted n leader k j w x = elim (below-or-not j k) [
    | inr le ↦ le
    | inl lt ↦ elim (below-or-not (length events) k) [
      | inr le ↦ absurd (flies-unexecuted n k le w.operation w.there (waiting-flies capacity events k n leader w) j lt x)
      | inl past ↦ (
          let m : ℕ = length events in
          let same : ledger_before capacity events k ≡ ledger_before capacity events m =
          ap (λ es. after (empty capacity) es) (take-past events k (omega (arith, past))) in
          let v : IsWaiting (ledger_before capacity events m) n leader = subst (λ L. IsWaiting L n leader) same w in
          let in_events = slice_get_within events j (Exec x.2.place x.0) x.2.event in
          absurd (flies-unexecuted n m (omega arith) v.operation v.there (waiting-flies capacity events m n leader v) j
          (omega (arith, in_events)) x))
    ]
  ]

  -- At each later moment before which it wasn't executed, it waits still, or its leader was executed meanwhile, and didn't fail.
  waits-or-ends : (n leader i j : ℕ) → IsWaiting (ledger_before capacity events i) n leader → i ≤ j → j ≤ length events →
      NotBefore (Executes capacity events n) j →
      IsWaiting (ledger_before capacity events j) n leader ⊎ EndsBetween capacity events leader i j
  waits-or-ends n leader i zero w from within never =
      inl (subst (λ k. IsWaiting (ledger_before capacity events k) n leader) (let e : i ≡ 0 = omega (arith, from) in e) w)
  waits-or-ends n leader i (suc j) w from within never = elim (same-or-not i (suc j)) [
    | inl e ↦ inl (subst (λ k. IsWaiting (ledger_before capacity events k) n leader) e w)
    | inr other ↦ elim (waits-or-ends n leader i j w (omega (arith, from, other)) (omega (arith, within))
        (λ k lt x. never k (omega (arith, lt)) x)) [
          | inr e ↦ inr (record {
            at = e.at;
            count = e.count;
            behind = e.behind;
            before = (let b = e.before in omega (arith, b));
            runs = e.runs;
          })
          | inl v ↦ elim (slice_get_cases events j).1 [
            | inr none ↦ absurd (let l = none.0 in omega (arith, l, within))
            | inl some ↦ elim (goes n leader j v (never j (omega arith)) some.0 (cause (ledger_before capacity events j) some.0) some.2 refl) [
              | inl s ↦ inl s
              | inr r ↦ inr (record { at = j; count = r.0; behind = omega (arith, from, other); before = omega arith; runs = r.1 })
            ]
          ]
        ]
  ]

  -- It is executed itself only once its leader was, which didn't fail.
  pub starts-after-leader : StartsAfterLeader capacity events
  starts-after-leader n leader i j told w x =
      let L : Ledger = ledger_before capacity events j in
      let within = slice_get_within events j (Exec x.place told) x.event in
      let f = flying-there L x.place n (lists-at capacity events j) x.there in
      let executed : Executes capacity events n j =
      (told, Op n, exec-itself capacity events n j x.place told x.event x.unrefused x.there) in
      elim (waits-or-ends n leader i j w (waits-unexecuted n leader i j w executed) (omega (arith, within))
      (flies-unexecuted n j (omega (arith, within)) f.0 f.1 f.2)) [
        | inl v ↦ absurd (starts-free capacity events n j leader told x v)
        | inr e ↦ e
      ]

  -- Before it moves anything at a handle, its leader has moved its own.
  pub moves-behind-leader : MovesBehindLeader capacity events
  moves-behind-leader n leader i j h told w x =
      let e : EndsBetween capacity events leader i j = starts-after-leader n leader i j told w x in
      let s = split-transfers h (empty capacity) events e.at j (Exec e.runs.place (Count e.count)) e.runs.event e.before in
      (e, record { between = s.0; moved = s.1 })

  -- What stands behind a linked one in the queue, where an Exec leaves the queue as it is.
  next-exec : (n leader k place : ℕ) (told : Told) (item : Item) → slice_get events k ≡ Some (Exec place told) →
      cause (ledger_before capacity events k) (Exec place told) ≡ None →
      slice_get (ledger_before capacity events k).flying place ≡ Some item → IsNext (ledger_before capacity events k) n leader →
      IsNext (ledger_before capacity events (suc k)) n leader
  next-exec n leader k place told (Item.Close h) event unrefused there x =
      subst (λ N. IsNext N n leader) (sym (exec-after capacity events k place told (Item.Close h) event unrefused there))
      (record { place = x.place; ahead = x.ahead; next = x.next; linked = x.linked })
  next-exec n leader k place told (Op m) event unrefused there x =
      let L : Ledger = ledger_before capacity events k in
      let N : Ledger = (exec_step L place told (Some (Op m))).0 in
      let f = flying-there L place m (lists-at capacity events k) there in
      let E : Ledger = exec_op (complete_at L place (Op m)) m told (slice_get L.ops m) in
      let queue : N.queue ≡ L.queue =
      (released-beside told E m).queue ∙ ap (λ o. (exec_op (complete_at L place (Op m)) m told o).queue) f.1 in
      let mark : queue_mark (slice_get L.ops m) ≡ 0 = ap queue_mark f.1 ∙ ap in_queue f.2 in
      let other : leader ≢ m = λ e. (
      let q : queued leader L.queue ≡ queue_mark (slice_get L.ops leader) = (lists-at capacity events k).waiting leader in
      let some = queued-there leader L.queue x.place x.ahead in
      let z : queue_mark (slice_get L.ops leader) ≡ 0 = ap (λ j. queue_mark (slice_get L.ops j)) e ∙ mark in
      omega (arith, q, some, z)) in
      subst (λ N. IsNext N n leader) (sym (exec-after capacity events k place told (Op m) event unrefused there))
      (record {
        place = x.place;
        ahead = ap (λ q. slice_get q x.place) queue ∙ x.ahead;
        next = ap (λ q. slice_get q (suc x.place)) queue ∙ x.next;
        linked = elim (exec-other capacity events leader m k place told there other) [
          | inl s ↦ ap (passes (λ (o : Operation). o.linked)) s.is ∙ stayed-linked s.waits_for (slice_get L.ops leader) ∙ x.linked
          | inr b ↦ ap (passes (λ (o : Operation). o.linked)) b.is ∙ sym (ap (passes (λ (o : Operation). o.linked)) b.there) ∙ x.linked
        ];
      })

  -- An event that isn't refused.
  next-row : (n leader k : ℕ) (e : Event) → slice_get events k ≡ Some e → cause (ledger_before capacity events k) e ≡ None →
      IsNext (ledger_before capacity events k) n leader →
      IsNext (ledger_before capacity events (suc k)) n leader ⊎ IsWaiting (ledger_before capacity events (suc k)) n leader
  next-row n leader k e there unrefused x =
      let L : Ledger = ledger_before capacity events k in
      let N : Ledger = (row L e).0 in
      let same : ledger_before capacity events (suc k) ≡ N =
      after-next (empty capacity) events k e there ∙ ap (λ s. s.0) (step-row L e unrefused) in
      elim (exec-or-not e) [
        | inl y ↦ (
            let event = there ∙ ap Some y.2 in
            let free : cause L (Exec y.0 y.1) ≡ None = ap (cause L) (sym y.2) ∙ unrefused in
            let i = executed-there L y.0 y.1 free in
            inl (next-exec n leader k y.0 y.1 i.0 event free i.1 x))
        | inr calm ↦ elim ((keeps-row L e unrefused calm (lists-at capacity events k)).next n leader x) [
          | inl y ↦ inl (subst (λ M. IsNext M n leader) (sym same) y)
          | inr w ↦ inr (subst (λ M. IsWaiting M n leader) (sym same) (awaits-waiting N n leader w.awaits))
        ]
      ]

  -- Each event.
  next-cause : (n leader k : ℕ) (e : Event) (c : Option Refusal) → slice_get events k ≡ Some e →
      cause (ledger_before capacity events k) e ≡ c → IsNext (ledger_before capacity events k) n leader →
      IsNext (ledger_before capacity events (suc k)) n leader ⊎ IsWaiting (ledger_before capacity events (suc k)) n leader
  next-cause n leader k e None there is x = next-row n leader k e there is x
  next-cause n leader k e (Some refusal) there is x =
      let L : Ledger = ledger_before capacity events k in
      let same : ledger_before capacity events (suc k) ≡ L =
      after-next (empty capacity) events k e there ∙ ap (λ s. s.0) (step-refused L e refusal is) in
      inl (subst (λ M. IsNext M n leader) (sym same) x)

  -- What stands behind a linked one in the queue does after an event, or waits for that one.
  pub waits-once-taken : WaitsOnceTaken capacity events
  waits-once-taken i n leader within x = elim (slice_get_cases events i).1 [
    | inl e ↦ next-cause n leader i e.0 (cause (ledger_before capacity events i) e.0) e.2 refl x
    | inr e ↦ absurd (let l = e.0 in omega (arith, l, within))
  ]

  -- What an operation that is executed leaves of whom each one waits for.
  executed-waits : (k m place : ℕ) (told : Told) → slice_get (ledger_before capacity events k).flying place ≡ Some (Op m) → (n : ℕ) →
      let L : Ledger = ledger_before capacity events k in
      awaited (slice_get (exec_op (complete_at L place (Op m)) m told (slice_get L.ops m)).ops n) ≡ awaited (slice_get L.ops n)
  executed-waits k m place told there n =
      let L : Ledger = ledger_before capacity events k in
      let f = flying-there L place m (lists-at capacity events k) there in
      ap (λ o. awaited (slice_get (exec_op (complete_at L place (Op m)) m told o).ops n)) f.1
      ∙ same-at awaited L.ops m (with_result told (effect_of L f.0.request told)) (λ o at. refl) n

  -- What waits after an Exec waited before it.
  exec-only : (k place : ℕ) (told : Told) (item : Item) → slice_get (ledger_before capacity events k).flying place ≡ Some item →
      (n leader : ℕ) → awaited (slice_get (exec_step (ledger_before capacity events k) place told (Some item)).0.ops n) ≡ Some leader →
      awaited (slice_get (ledger_before capacity events k).ops n) ≡ Some leader
  exec-only k place told (Item.Close h) there n leader w = w
  exec-only k place (Count count) (Op m) there n leader w =
      let L : Ledger = ledger_before capacity events k in
      let E : Ledger = exec_op (complete_at L place (Op m)) m (Count count) (slice_get L.ops m) in
      sym (executed-waits k m place (Count count) there n)
      ∙ (unless-awaits m leader (slice_get E.ops n) (sym (ap awaited (get-map (unless_waits m) E.ops n)) ∙ w)).0
  exec-only k place (Fail error) (Op m) there n leader w =
      let L : Ledger = ledger_before capacity events k in
      let E : Ledger = exec_op (complete_at L place (Op m)) m (Fail error) (slice_get L.ops m) in
      let lists : Listed E = (lawful-executed L place (Fail error) m there (lawful-ledger capacity (take k events))).lists in
      elim (break_each-ops error E (waiting_on E.ops m E.flying) (waiting-flown E m) lists n) [
        | inl s ↦ sym (executed-waits k m place (Fail error) there n) ∙ sym (ap awaited s) ∙ w
        | inr b ↦ no-number leader None refl (sym (ap awaited b.is) ∙ w)
      ]

  -- What waits after an event that isn't refused waited before it, or stood behind a linked one in the queue.
  only-row : (n leader k : ℕ) (e : Event) → slice_get events k ≡ Some e → cause (ledger_before capacity events k) e ≡ None →
      awaited (slice_get (row (ledger_before capacity events k) e).0.ops n) ≡ Some leader →
      (awaited (slice_get (ledger_before capacity events k).ops n) ≡ Some leader) ⊎ IsNext (ledger_before capacity events k) n leader
  only-row n leader k e there unrefused w =
      let L : Ledger = ledger_before capacity events k in
      elim (exec-or-not e) [
        | inl y ↦ (
            let free : cause L (Exec y.0 y.1) ≡ None = ap (cause L) (sym y.2) ∙ unrefused in
            let i = executed-there L y.0 y.1 free in
            inl (exec-only k y.0 y.1 i.0 i.1 n leader
            (sym (ap (λ x. awaited (slice_get (exec_step L y.0 y.1 x).0.ops n)) i.1)
            ∙ sym (ap (λ x. awaited (slice_get (row L x).0.ops n)) y.2) ∙ w)))
        | inr calm ↦ (keeps-row L e unrefused calm (lists-at capacity events k)).only n leader w
      ]

  -- Each event.
  only-cause : (n leader k : ℕ) (e : Event) (c : Option Refusal) → slice_get events k ≡ Some e →
      cause (ledger_before capacity events k) e ≡ c →
      awaited (slice_get (step (ledger_before capacity events k) e).0.ops n) ≡ Some leader →
      (awaited (slice_get (ledger_before capacity events k).ops n) ≡ Some leader) ⊎ IsNext (ledger_before capacity events k) n leader
  only-cause n leader k e None there is w =
      only-row n leader k e there is
      (sym (ap (λ s. awaited (slice_get s.0.ops n)) (step-row (ledger_before capacity events k) e is)) ∙ w)
  only-cause n leader k e (Some refusal) there is w =
      inl (sym (ap (λ s. awaited (slice_get s.0.ops n)) (step-refused (ledger_before capacity events k) e refusal is)) ∙ w)

  -- Nothing else waits.
  pub waits-only-taken : WaitsOnlyTaken capacity events
  waits-only-taken i n leader within w = elim (slice_get_cases events i).1 [
    | inr e ↦ absurd (let l = e.0 in omega (arith, l, within))
    | inl e ↦ (
        let L : Ledger = ledger_before capacity events i in
        let after : awaited (slice_get (step L e.0).0.ops n) ≡ Some leader =
        sym (ap (λ N. awaited (slice_get N.ops n)) (after-next (empty capacity) events i e.0 e.2))
        ∙ waiting-awaits (ledger_before capacity events (suc i)) n leader w in
        elim (only-cause n leader i e.0 (cause L e.0) e.2 refl after) [
          | inl v ↦ inl (awaits-waiting L n leader v)
          | inr x ↦ inr x
        ])
  ]
