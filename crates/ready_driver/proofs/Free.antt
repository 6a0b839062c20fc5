-- Operations of which none is linked, and none waits for another: what taking makes of them, and that none is released.
use Rattle.std.proofs.Common.{◌≡◌, inl, inr, ℕ, suc, Bool, true, false, List, [], ◌∷◌, ◌++◌, length, map, Option, Some, None, slice_get}
use Rattle.std.proofs.Common.{refl, sym, ◌∙◌, ap, subst, if◌then◌else◌, ◌==◌}
use Rattle.machine.specs.declared.request.Told.{Told}
use Rattle.machine.specs.declared.request.Told.TheVariants.{Count, Fail}
use Rattle.machine.specs.Lists.{amended, passes}
use Rattle.machine.specs.Ledger.{Ledger, Operation, Place, InQueue, InFlight, InDone, Reaped, Gone, Queued, Req, Cancel, Item, Op}
use Rattle.machine.specs.Queue.{canceled_at, with_take, with_cancel, take_one, leader_behind, take_behind, take_each, take_all, make_room}
use Rattle.machine.specs.Turn.{waits_on, waiting_on, without_wait, unless_waits, break_each, released}
use Rattle.machine.proofs.Amended.{changed-cases, joined-cases, there-before}

-- An operation isn't linked, and waits for none.
abbrev pub Free : Operation → Type 0
Free o = (o.linked ≡ false) × (o.waits_for ≡ None)

-- Each operation is free.
abbrev pub AllFree : List Operation → Type 0
AllFree ops = (n : ℕ) (o : Operation) → slice_get ops n ≡ Some o → Free o

-- A change of one operation that keeps it free.
pub free-changed : (ops : List Operation) (n : ℕ) (f : Operation → Operation) → ((o : Operation) → Free o → Free (f o)) → AllFree ops →
    AllFree (amended ops n f)
free-changed ops n f keeps h k o there = elim (changed-cases f ops n k) [
  | inl e ↦ (
      let b = there-before f (slice_get ops n) o (sym e.1 ∙ there) in
      subst Free (sym b.2) (keeps b.0 (h n b.0 b.1)))
  | inr e ↦ h k o (sym e.1 ∙ there)
]

-- A further free operation.
pub free-joined : (ops : List Operation) (o : Operation) → Free o → AllFree ops → AllFree (ops ++ o ∷ [])
free-joined ops o f h n q there = elim (joined-cases ops o n) [
  | inl e ↦ (let same : o ≡ q = (let w = sym e.2 ∙ there in cc) in subst Free same f)
  | inr e ↦ h n q (sym e.1 ∙ there)
]

-- No linked operation was looked up.
linked-none : (x : Option Operation) (n : ℕ) → ((o : Operation) → x ≡ Some o → Free o) →
    (if passes (λ (o : Operation). o.linked) x then Some n else None) ≡ None
linked-none None n h = refl
linked-none (Some o) n h = ap (λ b. if b then Some n else None) (h o refl).0

-- Nothing follows an entry.
no-leader : (L : Ledger) (entry : Queued) → AllFree L.ops → leader_behind L entry ≡ None
no-leader L (Req n) h = linked-none (slice_get L.ops n) n (h n)
no-leader L (Cancel n) h = refl
no-leader L (Queued.Close k) h = refl

-- So the first entry is taken before the others.
pub take-first : (L : Ledger) (entry : Queued) (entries : List Queued) → AllFree L.ops →
    take_each L (entry ∷ entries) ≡ take_each (take_one None L entry) entries
take-first L entry entries h = ap (λ leader. take_behind leader (take_one None L entry) entries) (no-leader L entry h)

-- A cancel that is taken keeps an operation free.
pub free-canceled : (p : Place) (o : Operation) → Free o → Free (canceled_at p o)
free-canceled InQueue o f = f
free-canceled InFlight o f = f
free-canceled (InDone outcome) o f = f
free-canceled (Reaped outcome) o f = f
free-canceled Gone o f = f

-- So does taking an entry.
pub free-one : (L : Ledger) (entry : Queued) → AllFree L.ops → AllFree (take_one None L entry).ops
free-one L (Req n) h = free-changed L.ops n (with_take None) (λ o f. (f.0, refl)) h
free-one L (Cancel n) h = free-changed L.ops n with_cancel (λ o f. free-canceled o.place o f) h
free-one L (Queued.Close k) h = h

-- So does taking entries.
free-each : (L : Ledger) (entries : List Queued) → AllFree L.ops → AllFree (take_each L entries).ops
free-each L [] h = h
free-each L (entry ∷ entries) h =
    subst (λ K. AllFree K.ops) (sym (take-first L entry entries h)) (free-each (take_one None L entry) entries (free-one L entry h))

-- So does taking the queue.
pub free-taken : (L : Ledger) → AllFree L.ops → AllFree (take_all L).ops
free-taken L h = free-each (record L { queue = [] }) L.queue h

-- By whether room is made.
free-room_if : (b : Bool) (L : Ledger) → AllFree L.ops → AllFree (if b then take_all L else L).ops
free-room_if true L h = free-taken L h
free-room_if false L h = h

-- So does making room.
pub free-room : (L : Ledger) → AllFree L.ops → AllFree (make_room L).ops
free-room L h = free-room_if (length L.queue == L.capacity) L h

-- What was looked up doesn't wait for an operation.
waits-none : (x : Option Operation) (n : ℕ) → ((o : Operation) → x ≡ Some o → Free o) → passes (waits_on n) x ≡ false
waits-none None n h = refl
waits-none (Some o) n h = ap (passes (λ leader. leader == n)) (h o refl).1

-- None among items does.
none-waiting : (ops : List Operation) (n : ℕ) (items : List Item) → AllFree ops → waiting_on ops n items ≡ []
none-waiting ops n [] h = refl
none-waiting ops n (Op m ∷ items) h =
    ap (λ b. if b then m ∷ waiting_on ops m items else waiting_on ops n items) (waits-none (slice_get ops m) n (h m))
    ∙ none-waiting ops n items h
none-waiting ops n (Item.Close k ∷ items) h = none-waiting ops n items h

-- So each stays where those that wait for an operation wait no more.
unwaiting-same : (n : ℕ) (ops : List Operation) → AllFree ops → map (unless_waits n) ops ≡ ops
unwaiting-same n [] h = refl
unwaiting-same n (o ∷ ops) h =
    ap (λ xs. unless_waits n o ∷ xs) (unwaiting-same n ops (λ k. h (suc k)))
    ∙ ap (λ b. (if b then without_wait o else o) ∷ ops) (waits-none (Some o) n (h 0))

-- What is executed releases none.
pub releases-none : (told : Told) (L : Ledger) (n : ℕ) → AllFree L.ops → released told L n ≡ L
releases-none (Count k) L n h = ap (λ ops. record L { ops = ops }) (unwaiting-same n L.ops h)
releases-none (Fail e) L n h = ap (break_each L) (none-waiting L.ops n L.flying h)
