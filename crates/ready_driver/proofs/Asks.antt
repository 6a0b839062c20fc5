-- What holds between two spellings of the operations once the queue is taken: they are in flight or gone, and the cancels that are asked
-- for were taken.
use Rattle.std.proofs.Common.{◌≡◌, inl, inr, ℕ, Bool, true, false, ◌||◌, List, [], ◌∷◌, ◌++◌, length, Option, Some, None, option_map}
use Rattle.std.proofs.Common.{slice_get, refl, sym, ◌∙◌, ap, subst, if◌then◌else◌, ◌==◌}
use Rattle.std.proofs.Math.Bool.{or-true, or-false}
use Rattle.std.proofs.lemmas.Bool.Decides.{eqb_tells}
use Rattle.machine.specs.Lists.{amended, passes}
use Rattle.machine.specs.Ledger.{Ledger, Operation, Place, InQueue, InFlight, InDone, Reaped, Gone, Queued, Req, Cancel}
use Rattle.machine.specs.Queue.{with_op, canceled_at, with_take, with_cancel, take_all, make_room, append}
use Rattle.machine.proofs.Amended.{changed-cases, joined-cases, there-before}
use Rattle.machine.proofs.Taken.{length-take_each}
use Rattle.machine.proofs.Taking.{Listed}
use Rattle.machine.proofs.Listed.{joined}
use Rattle.ready_driver.specs.Spelled.{asked, has_cancel}
use Rattle.ready_driver.proofs.Free.{Free, AllFree}
use Rattle.ready_driver.proofs.Flat.{take-none, flat-queue, flat-append, flat-joined, Unmoved, flat-changed}

-- An operation at a place is calm: it is in flight, wasn't dropped and made nothing; or it is gone.
abbrev pub CalmAt : Place → Bool → Option ℕ → Type 0
CalmAt InFlight dropped made = (dropped ≡ false) × (made ≡ None)
CalmAt Gone dropped made = Unit {0}
CalmAt _ dropped made = ⊥

-- An operation is calm.
abbrev pub Calm : Operation → Type 0
Calm o = CalmAt o.place o.dropped o.made

-- Each operation is calm.
abbrev pub AllCalm : List Operation → Type 0
AllCalm ops = (n : ℕ) (o : Operation) → slice_get ops n ≡ Some o → Calm o

-- A change of one operation that keeps it calm.
pub calm-changed : (ops : List Operation) (n : ℕ) (f : Operation → Operation) →
    ((o : Operation) → slice_get ops n ≡ Some o → Calm o → Calm (f o)) → AllCalm ops → AllCalm (amended ops n f)
calm-changed ops n f keeps h k o there = elim (changed-cases f ops n k) [
  | inl e ↦ (
      let b = there-before f (slice_get ops n) o (sym e.1 ∙ there) in
      subst Calm (sym b.2) (keeps b.0 b.1 (h n b.0 b.1)))
  | inr e ↦ h k o (sym e.1 ∙ there)
]

-- A further calm operation.
pub calm-joined : (ops : List Operation) (o : Operation) → Calm o → AllCalm ops → AllCalm (ops ++ o ∷ [])
calm-joined ops o c h n q there = elim (joined-cases ops o n) [
  | inl e ↦ (let same : o ≡ q = (let w = sym e.2 ∙ there in cc) in subst Calm same c)
  | inr e ↦ h n q (sym e.1 ∙ there)
]

-- A cancel that is taken keeps an operation calm.
calm-canceled_at : (p : Place) (o : Operation) → Calm o → Calm (canceled_at p o)
calm-canceled_at InQueue o c = c
calm-canceled_at InFlight o c = c
calm-canceled_at (InDone outcome) o c = c
calm-canceled_at (Reaped outcome) o c = c
calm-canceled_at Gone o c = c

-- The same of the one of a number.
pub calm-canceled : (ops : List Operation) (n : ℕ) → AllCalm ops → AllCalm (amended ops n with_cancel)
calm-canceled ops n h = calm-changed ops n with_cancel (λ o there c. calm-canceled_at o.place o c) h

-- The cancel of an operation that was looked up was taken.
abbrev pub canceled_in : Option Operation → Bool
canceled_in x = passes (λ o. o.canceled) x

-- The cancels that are asked for are those that were taken once the queue is.
abbrev pub Asks : Ledger → Type 0
Asks L = (n : ℕ) → asked L n ≡ canceled_in (slice_get (take_all L).ops n)

-- A cancel that is appended is in the queue.
cancel-same : (xs : List Queued) (m n : ℕ) → (n == m) ≡ true → has_cancel n (xs ++ Cancel m ∷ []) ≡ true
cancel-same [] m n h = ap (λ b. b || false) h
cancel-same (Req k ∷ xs) m n h = cancel-same xs m n h
cancel-same (Cancel k ∷ xs) m n h = ap (λ b. n == k || b) (cancel-same xs m n h) ∙ or-true (n == k)
cancel-same (Queued.Close k ∷ xs) m n h = cancel-same xs m n h

-- It is no cancel of another operation.
cancel-other : (xs : List Queued) (m n : ℕ) → (n == m) ≡ false → has_cancel n (xs ++ Cancel m ∷ []) ≡ has_cancel n xs
cancel-other [] m n h = ap (λ b. b || false) h
cancel-other (Req k ∷ xs) m n h = cancel-other xs m n h
cancel-other (Cancel k ∷ xs) m n h = ap (λ b. n == k || b) (cancel-other xs m n h)
cancel-other (Queued.Close k ∷ xs) m n h = cancel-other xs m n h

-- A request that is appended is no cancel.
cancel-req : (xs : List Queued) (m n : ℕ) → has_cancel n (xs ++ Req m ∷ []) ≡ has_cancel n xs
cancel-req [] m n = refl
cancel-req (Req k ∷ xs) m n = cancel-req xs m n
cancel-req (Cancel k ∷ xs) m n = ap (λ b. n == k || b) (cancel-req xs m n)
cancel-req (Queued.Close k ∷ xs) m n = cancel-req xs m n

-- Nor is a close.
cancel-close : (xs : List Queued) (m n : ℕ) → has_cancel n (xs ++ Queued.Close m ∷ []) ≡ has_cancel n xs
cancel-close [] m n = refl
cancel-close (Req k ∷ xs) m n = cancel-close xs m n
cancel-close (Cancel k ∷ xs) m n = ap (λ b. n == k || b) (cancel-close xs m n)
cancel-close (Queued.Close k ∷ xs) m n = cancel-close xs m n

-- They are where the queue is empty.
pub asks-empty : (M : Ledger) → M.queue ≡ [] → Asks M
asks-empty M q n =
    ap (λ entries. canceled_in (slice_get M.ops n) || has_cancel n entries) q ∙ or-false (canceled_in (slice_get M.ops n))
    ∙ ap (λ K. canceled_in (slice_get K.ops n)) (sym (take-none M q))

-- They are once room was made, or wasn't.
asks-room_if : (b : Bool) (L : Ledger) → Asks L → Asks (if b then take_all L else L)
asks-room_if true L h = asks-empty (take_all L) (flat-queue L)
asks-room_if false L h = h

-- They are once room was made.
pub asks-room : (L : Ledger) → Asks L → Asks (make_room L)
asks-room L h = asks-room_if (length L.queue == L.capacity) L h

-- An operation is in flight.
pub record Flies (T : Ledger) (n : ℕ) : Type 0 where
  pub o : Operation
  pub there : slice_get T.ops n ≡ Some o
  pub place : o.place ≡ InFlight

-- They are once the cancel of what is in flight was appended.
pub asks-cancel : (M : Ledger) (m : ℕ) → Flies (take_all M) m → AllFree M.ops → Asks M → Asks (append M (Cancel m))
asks-cancel M m f free h n =
    let T : Ledger = take_all M in
    let a : Bool = canceled_in (slice_get M.ops n) in
    let mid : asked (append M (Cancel m)) n ≡ canceled_in (slice_get (amended T.ops m with_cancel) n) = (elim (eqb_tells n m) [
      | inl e ↦ ap (λ b. a || b) (cancel-same M.queue m n e.0) ∙ or-true a ∙ sym (elim (changed-cases with_cancel T.ops m n) [
        | inl c ↦ ap canceled_in (c.1 ∙ ap (option_map with_cancel) f.there) ∙ ap (λ p. (canceled_at p f.o).canceled) f.place
        | inr c ↦ absurd (c.0 e.1)
      ])
      | inr e ↦ ap (λ b. a || b) (cancel-other M.queue m n e.0) ∙ h n ∙ sym (elim (changed-cases with_cancel T.ops m n) [
        | inl c ↦ absurd (e.1 c.0)
        | inr c ↦ ap canceled_in c.1
      ])
    ]) in
    mid ∙ ap (λ K. canceled_in (slice_get K.ops n)) (sym (flat-append M (Cancel m) free))

-- They are once a close was appended.
pub asks-close : (M : Ledger) (m : ℕ) → AllFree M.ops → Asks M → Asks (append M (Queued.Close m))
asks-close M m free h n =
    ap (λ b. canceled_in (slice_get M.ops n) || b) (cancel-close M.queue m n) ∙ h n
    ∙ ap (λ K. canceled_in (slice_get K.ops n)) (sym (flat-append M (Queued.Close m) free))

-- They are once a new operation and its request joined.
pub asks-joined : (M : Ledger) (o : Operation) → o.canceled ≡ false → with_cancel o ≡ o → Free o → Listed M → AllFree M.ops → Asks M →
    Asks (joined M o)
asks-joined M o fresh fixed free l all h n =
    let T : Ledger = take_all M in
    let count : length T.ops ≡ length M.ops = length-take_each (record M { queue = [] }) M.queue in
    let mid : asked (joined M o) n ≡ canceled_in (slice_get (T.ops ++ with_take None o ∷ []) n) =
    (ap (λ b. canceled_in (slice_get (M.ops ++ o ∷ []) n) || b) (cancel-req M.queue (length M.ops) n)
    ∙ elim (joined-cases M.ops o n) [
      | inl e ↦ elim (joined-cases T.ops (with_take None o) n) [
        | inl f ↦ (
            let none : has_cancel n M.queue ≡ false = ap (λ x. canceled_in x || has_cancel n M.queue) (sym e.1) ∙ h n
            ∙ ap canceled_in f.1 in
            ap (λ x. canceled_in x || has_cancel n M.queue) e.2 ∙ ap (λ b. o.canceled || b) none ∙ or-false o.canceled
            ∙ sym (ap canceled_in f.2))
        | inr f ↦ absurd (f.0 (e.0 ∙ sym count))
      ]
      | inr e ↦ elim (joined-cases T.ops (with_take None o) n) [
        | inl f ↦ absurd (e.0 (f.0 ∙ count))
        | inr f ↦ ap (λ x. canceled_in x || has_cancel n M.queue) e.1 ∙ h n ∙ ap canceled_in (sym f.1)
      ]
    ]) in
    mid ∙ ap (λ ops. canceled_in (slice_get ops n)) (sym (flat-joined M o fixed free l all))

-- A change that leaves whether cancels were taken.
canceled-kept : (ops : List Operation) (n : ℕ) (f : Operation → Operation) → ((o : Operation) → (f o).canceled ≡ o.canceled) → (k : ℕ) →
    canceled_in (slice_get (amended ops n f) k) ≡ canceled_in (slice_get ops k)
canceled-kept ops n f same k = elim (changed-cases f ops n k) [
  | inl e ↦ ap canceled_in e.1 ∙ at (slice_get ops n) ∙ ap (λ j. canceled_in (slice_get ops j)) (sym e.0)
  | inr e ↦ ap canceled_in e.1
]
  where
    at : (x : Option Operation) → canceled_in (option_map f x) ≡ canceled_in x
    at None = refl
    at (Some o) = same o

-- They are after a change that leaves whether cancels were taken.
pub asks-changed : (L : Ledger) (n : ℕ) (f : Operation → Operation) → Unmoved f → ((o : Operation) → (f o).canceled ≡ o.canceled) →
    AllFree L.ops → Asks L → Asks (with_op L n f)
asks-changed L n f u same free h k =
    ap (λ b. b || has_cancel k L.queue) (canceled-kept L.ops n f same k) ∙ h k
    ∙ sym (ap (λ K. canceled_in (slice_get K.ops k)) (flat-changed L n f u free) ∙ canceled-kept (take_all L).ops n f same k)
