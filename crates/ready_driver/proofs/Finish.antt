-- What the events of a spelling do to a ledger whose queue was taken: an operation is executed and reaped, and is polled or leaves.
use Rattle.std.proofs.Common.{◌≡◌, inl, inr, ℕ, suc, ◌≤◌, Bool, true, false, not, ◌&&◌, List, [], ◌∷◌, ◌++◌, length, remove, Option, Some}
use Rattle.std.proofs.Common.{None}
use Rattle.std.proofs.Common.{option_map, slice_get, refl, sym, ◌∙◌, ap, subst, arith, if◌then◌else◌}
use Rattle.std.specs.Prelude.{is_some}
use Rattle.std.proofs.lemmas.Bool.{lt-leb}
use Rattle.std.proofs.lemmas.Bool.Decides.{eqb_tells}
use Rattle.std.proofs.lemmas.Option.{slice_get_within}
use Rattle.machine.specs.declared.request.Told.{Told}
use Rattle.machine.specs.declared.world.HandleState.{HandleState}
use Rattle.machine.specs.declared.ledger.Event.TheVariants.{Poll, Turn, Exec}
use Rattle.machine.specs.declared.ledger.Refusal.TheVariants.{NoOp, NotFlying, Waiting, BadOutcome}
use Rattle.machine.specs.declared.ledger.Reply.TheVariants.{Handed}
use Rattle.machine.specs.Lists.{amended, passes}
use Rattle.machine.specs.Request.{call_of, held}
use Rattle.machine.specs.Outcome.{is_allowed}
use Rattle.machine.specs.Effect.{Effect, made_by}
use Rattle.machine.specs.Ledger.{Ledger, Operation, Owner, Gone, Item, Op, is_kept}
use Rattle.machine.specs.Queue.{leave}
use Rattle.machine.specs.Refusal.{cause, refused_if, waits, allowed}
use Rattle.machine.specs.Turn.{with_reap, reap_if, reap_op, reap_each, reap_all, effect_of, with_result, made_owners, with_effect}
use Rattle.machine.specs.Turn.{exec_op, complete_at, released, exec_step}
use Rattle.machine.specs.Step.{step, as_user, handed_over, poll_at, poll_step}
use Rattle.machine.specs.Run.{after}
use Rattle.machine.proofs.Amended.{get-amended, get-amended-other}
use Rattle.machine.proofs.Occurring.{same-cases, queued, listed, listed-remove}
use Rattle.machine.proofs.Taking.{in_queue, in_flight, in_done, queue_mark, flight_mark, done_mark, Listed}
use Rattle.machine.proofs.Stepping.{step-row}
use Rattle.driver_core.proofs.Lists.{amended-twice}
use Rattle.ready_driver.specs.Spelled.{place_of}
use Rattle.ready_driver.proofs.Free.{Free, AllFree, free-changed, releases-none}
use Rattle.ready_driver.proofs.Flat.{take-none}
use Rattle.ready_driver.proofs.Asks.{Calm, calm-changed, Flies}
use Rattle.ready_driver.proofs.Settled.{Flat}

-- The operation of a number that is listed is at its place.
place-found : (n : ℕ) (items : List Item) → 1 ≤ listed n items → slice_get items (place_of n items) ≡ Some (Op n)
place-found n [] h = absurd (omega (arith, h))
place-found n (Op m ∷ items) h = elim (eqb_tells n m) [
  | inl e ↦ ap (λ b. slice_get (Op m ∷ items) (if b then 0 else suc (place_of n items))) e.0 ∙ ap (λ k. Some (Op k)) (sym e.1)
  | inr e ↦ ap (λ b. slice_get (Op m ∷ items) (if b then 0 else suc (place_of n items))) e.0
      ∙ place-found n items (elim (same-cases n m) [
        | inl s ↦ absurd (e.1 s.0)
        | inr s ↦ (let z = s.1 in omega (arith, h, z))
      ])
]
place-found n (Item.Close x ∷ items) h = place-found n items h

-- What is in flight is at its place.
pub flies-found : (T : Ledger) (n : ℕ) → Listed T → Flies T n → slice_get T.flying (place_of n T.flying) ≡ Some (Op n)
flies-found T n l f =
    place-found n T.flying (let a : listed n T.flying ≡ 1 = l.flown n ∙ ap flight_mark f.there ∙ ap in_flight f.place in omega arith)

-- A report is allowed to an operation.
abbrev pub allows : Ledger → Operation → Told → Bool
allows T o told = is_allowed T.world o.canceled (call_of o.request) told

-- An operation in flight, at a place of a ledger whose queue is empty, and with nothing done.
module _ (T : Ledger) (p n : ℕ) (o : Operation) (told : Told) (queue : T.queue ≡ []) (idle : T.done ≡ [])
    (free : AllFree T.ops) (item : slice_get T.flying p ≡ Some (Op n)) (there : slice_get T.ops n ≡ Some o)
    (may : allows T o told ≡ true) where
  -- What its execution moves.
  abbrev pub moves : Effect
  moves = effect_of T o.request told

  -- The ledger after its execution.
  abbrev done_by : Ledger
  done_by = with_effect (complete_at T p (Op n)) n told moves

  -- Its execution isn't refused.
  exec-unrefused : cause T (Exec p told) ≡ None
  exec-unrefused =
      ap (λ b. refused_if b NotFlying (refused_if (passes (waits T) (slice_get T.flying p)) Waiting
      (refused_if (not (passes (λ i. allowed T i told) (slice_get T.flying p))) BadOutcome None)))
      (lt-leb (length T.flying) p (slice_get_within T.flying p (Op n) item))
      ∙ ap (λ x. refused_if (passes (waits T) x) Waiting (refused_if (not (passes (λ i. allowed T i told) x)) BadOutcome None)) item
      ∙ ap (λ x. refused_if (passes (λ q. is_some q.waits_for) x) Waiting
      (refused_if (not (passes (λ q. allows T q told) x)) BadOutcome None)) there
      ∙ ap (λ w. refused_if (is_some w) Waiting (refused_if (not (allows T o told)) BadOutcome None)) (free n o there).1
      ∙ ap (λ b. refused_if (not b) BadOutcome None) may

  -- It is executed.
  exec-executes : (step T (Exec p told)).0 ≡ done_by
  exec-executes =
      ap (λ s. s.0) (step-row T (Exec p told) exec-unrefused)
      ∙ ap (λ x. (exec_step T p told x).0) item
      ∙ ap (λ x. released told (exec_op (complete_at T p (Op n)) n told x) n) there
      ∙ releases-none told done_by n (free-changed T.ops n (with_result told moves) (λ x f. f) free)

  -- The turn behind that reaps it.
  turn-reaps : (step done_by Turn).0 ≡ reap_if o.dropped (record done_by { done = [] }) n
  turn-reaps =
      ap (λ s. s.0) (step-row done_by Turn refl)
      ∙ ap (λ K. (reap_all K).0) (take-none done_by queue)
      ∙ ap (λ xs. reap_each (record done_by { done = [] }) xs) (ap (λ xs. xs ++ Op n ∷ []) idle)
      ∙ ap (λ y. reap_op (record done_by { done = [] }) n y)
      (get-amended (with_result told moves) T.ops n ∙ ap (option_map (with_result told moves)) there)

  -- The owners of the handles, with that of what it made.
  abbrev pub owners_by : List Owner
  owners_by = T.owners ++ made_owners (made_by moves.outcome)

  -- Both events.
  executed-reaped : after T (Exec p told ∷ Turn ∷ []) ≡ reap_if o.dropped (record done_by { done = [] }) n
  executed-reaped = ap (λ K. (step K Turn).0) exec-executes ∙ turn-reaps

-- A ledger in which an operation was changed and flies no more.
abbrev pub left : Ledger → ℕ → ℕ → (Operation → Operation) → List HandleState → List Owner → Ledger
left T p n change world owners =
    record T { flying = remove T.flying p; done = []; ops = amended T.ops n change; world = world; owners = owners }

-- An operation that was executed and reaped.
abbrev pub reaped_by : Told → Effect → Operation → Operation
reaped_by told result o = with_reap (with_result told result o)

-- An operation in flight, as above.
module _ (T : Ledger) (p n : ℕ) (o : Operation) (told : Told) (queue : T.queue ≡ []) (idle : T.done ≡ [])
    (free : AllFree T.ops) (item : slice_get T.flying p ≡ Some (Op n)) (there : slice_get T.ops n ≡ Some o)
    (may : allows T o told ≡ true) where
  -- What its execution moves.
  abbrev result : Effect
  result = effect_of T o.request told

  -- The owners of the handles, with that of what it made.
  abbrev owners_now : List Owner
  owners_now = T.owners ++ made_owners (made_by result.outcome)

  -- One that wasn't dropped is reaped.
  pub finish-kept : o.dropped ≡ false →
      after T (Exec p told ∷ Turn ∷ []) ≡ left T p n (reaped_by told result) result.world owners_now
  finish-kept undropped =
      executed-reaped T p n o told queue idle free item there may
      ∙ ap (λ b. reap_if b (left T p n (with_result told result) result.world owners_now) n) undropped
      ∙ ap (λ ops. record T { flying = remove T.flying p; done = []; ops = ops; world = result.world; owners = owners_now })
      (amended-twice T.ops n (with_result told result) with_reap)

  -- One that was dropped leaves.
  pub finish-dropped : o.dropped ≡ true →
      after T (Exec p told ∷ Turn ∷ []) ≡ leave (left T p n (with_result told result) result.world owners_now) n
  finish-dropped dropped =
      executed-reaped T p n o told queue idle free item there may
      ∙ ap (λ b. reap_if b (left T p n (with_result told result) result.world owners_now) n) dropped

-- A poll of an operation that is its user's goes by its place.
pub poll-row : (L : Ledger) (n task : ℕ) (o : Operation) → slice_get L.ops n ≡ Some o → is_kept o.place ≡ true → o.dropped ≡ false →
    step L (Poll n task) ≡ poll_at L n task o o.place
poll-row L n task o there kept undropped =
    step-row L (Poll n task) (
    ap (λ x. refused_if (not (passes (λ y. is_kept y.place && not y.dropped) x)) NoOp None) there
    ∙ ap (λ b. refused_if (not (b && not o.dropped)) NoOp None) kept
    ∙ ap (λ d. refused_if (not (true && not d)) NoOp None) undropped)
    ∙ ap (λ x. poll_step L n task x) there

-- The owners of the handles once one that was made, where there is one, is its user's.
abbrev pub handed : Option ℕ → List Owner → List Owner
handed None owners = owners
handed (Some h) owners = amended owners h (as_user true)

-- A hand-over changes the owners alone.
hands-over : (L : Ledger) (made : Option ℕ) → handed_over L made ≡ record L { owners = handed made L.owners }
hands-over L None = refl
hands-over L (Some h) = refl

-- The poll of what was executed and reaped hands it over with what it made.
pub poll-hands : (T : Ledger) (p n task : ℕ) (o : Operation) (told : Told) (world : List HandleState) (owners : List Owner) →
    slice_get T.ops n ≡ Some o → o.dropped ≡ false →
    step (left T p n (reaped_by told (effect_of T o.request told)) world owners) (Poll n task)
    ≡ (
      leave
          (left T p n (reaped_by told (effect_of T o.request told)) world (handed (made_by (effect_of T o.request told).outcome) owners)) n,
      Handed (effect_of T o.request told).outcome (held o.request told (effect_of T o.request told).got),
    )
poll-hands T p n task o told world owners there undropped =
    let result : Effect = effect_of T o.request told in
    let Y : Ledger = left T p n (reaped_by told result) world owners in
    let y : slice_get Y.ops n ≡ Some (reaped_by told result o) =
    get-amended (reaped_by told result) T.ops n ∙ ap (option_map (reaped_by told result)) there in
    poll-row Y n task (reaped_by told result o) y refl undropped
    ∙ ap (λ K. (leave K n, Handed result.outcome (held o.request told result.got))) (hands-over Y (made_by result.outcome))

-- What is left of a ledger whose queue is empty, once an operation in flight is gone.
module _ (T : Ledger) (p n : ℕ) (change : Operation → Operation) (gone : (x : Operation) → (change x).place ≡ Gone)
    (keeps : (x : Operation) → Free x → Free (change x)) (flat : Flat T) (item : slice_get T.flying p ≡ Some (Op n)) (f : Flies T n) where
  -- By number: what each list holds, and the mark of the operation.
  left-at : (k : ℕ) → (queued k T.queue ≡ queue_mark (slice_get (amended T.ops n change) k))
      × (listed k (remove T.flying p) ≡ flight_mark (slice_get (amended T.ops n change) k))
      × (listed k [] ≡ done_mark (slice_get (amended T.ops n change) k))
  left-at k =
      let r = listed-remove k T.flying p (Op n) item in
      let w = flat.lists.waiting k in
      let l = flat.lists.flown k in
      let s : listed k [] ≡ done_mark (slice_get T.ops k) = sym (ap (listed k) flat.done) ∙ flat.lists.standing k in
      elim (same-cases k n) [
        | inl e ↦ (
            let old : slice_get T.ops k ≡ Some f.o = ap (slice_get T.ops) e.0 ∙ f.there in
            let new : slice_get (amended T.ops n change) k ≡ Some (change f.o) =
            ap (slice_get (amended T.ops n change)) e.0 ∙ get-amended change T.ops n ∙ ap (option_map change) f.there in
            let one = e.1 in
            let w0 : queue_mark (slice_get T.ops k) ≡ 0 = ap queue_mark old ∙ ap in_queue f.place in
            let f1 : flight_mark (slice_get T.ops k) ≡ 1 = ap flight_mark old ∙ ap in_flight f.place in
            let w' : queue_mark (slice_get (amended T.ops n change) k) ≡ 0 = ap queue_mark new ∙ ap in_queue (gone f.o) in
            let f' : flight_mark (slice_get (amended T.ops n change) k) ≡ 0 = ap flight_mark new ∙ ap in_flight (gone f.o) in
            let s' : done_mark (slice_get (amended T.ops n change) k) ≡ 0 = ap done_mark new ∙ ap in_done (gone f.o) in
            (omega arith, omega arith, omega arith))
        | inr e ↦ (
            let other : slice_get (amended T.ops n change) k ≡ slice_get T.ops k = get-amended-other change T.ops n k e.0 in
            let none = e.1 in
            let f' : flight_mark (slice_get (amended T.ops n change) k) ≡ flight_mark (slice_get T.ops k) = ap flight_mark other in
            (w ∙ sym (ap queue_mark other), omega arith, s ∙ sym (ap done_mark other)))
      ]

  -- It is between two spellings.
  pub flat-left : (world : List HandleState) (owners : List Owner) → length owners ≡ length world → Flat (left T p n change world owners)
  flat-left world owners counted = record {
    lists = record { waiting = λ k. (left-at k).0; flown = λ k. (left-at k).1; standing = λ k. (left-at k).2 };
    queue = flat.queue;
    done = refl;
    calm = calm-changed T.ops n change (λ o there c. calm-gone (change o) (gone o)) flat.calm;
    free = free-changed T.ops n change keeps flat.free;
    counted = counted;
  }
    where
      calm-gone : (o : Operation) → o.place ≡ Gone → Calm o
      calm-gone o is = subst (λ q. Calm (record o { place = q })) (sym is) tt
