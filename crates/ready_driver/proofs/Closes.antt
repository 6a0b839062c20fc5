-- The closes at the end of a spelling: what the ledger is once they are executed and named.
use Rattle.std.proofs.Common.{◌≡◌, ℕ, zero, suc, true, not, List, [], ◌∷◌, ◌++◌, length, remove, Some, None}
use Rattle.std.proofs.Common.{refl, sym, ◌∙◌, ap, arith, slice_get}
use Rattle.std.proofs.lemmas.Bool.{lt-leb}
use Rattle.std.proofs.lemmas.List.{append_assoc, append-nil, length-append}
use Rattle.std.proofs.lemmas.Option.{slice_get_within}
use Rattle.machine.specs.declared.request.Told.TheVariants.{Count}
use Rattle.machine.specs.declared.ledger.Event.{Event}
use Rattle.machine.specs.declared.ledger.Event.TheVariants.{Turn, Exec}
use Rattle.machine.specs.declared.ledger.Refusal.TheVariants.{NotFlying, Waiting, BadOutcome}
use Rattle.machine.specs.Lists.{passes}
use Rattle.machine.specs.Ledger.{Ledger, Queued, Req, Cancel, Item, Op}
use Rattle.machine.specs.Refusal.{cause, refused_if, waits, allowed}
use Rattle.machine.specs.Queue.{take_all}
use Rattle.machine.specs.Turn.{reap_each, reap_all, exec_step}
use Rattle.machine.specs.Step.{step}
use Rattle.machine.specs.Run.{after}
use Rattle.machine.proofs.Taken.{done-take_each}
use Rattle.machine.proofs.Stepping.{step-row}
use Rattle.ready_driver.specs.Spelled.{has_close, close_execs}
use Rattle.ready_driver.proofs.Flat.{take-none, flat-queue}

-- The operations among items.
abbrev pub ops_only : List Item → List Item
ops_only [] = []
ops_only (Op n ∷ items) = Op n ∷ ops_only items
ops_only (Item.Close h ∷ items) = ops_only items

-- The closes among items.
abbrev pub closes_only : List Item → List Item
closes_only [] = []
closes_only (Op n ∷ items) = closes_only items
closes_only (Item.Close h ∷ items) = Item.Close h ∷ closes_only items

-- The element behind a list.
pub get-behind : {A : Type 0} (xs : List A) (y : A) (ys : List A) → slice_get (xs ++ y ∷ ys) (length xs) ≡ Some y
get-behind [] y ys = refl
get-behind (x ∷ xs) y ys = get-behind xs y ys

-- It is removed.
remove-behind : {A : Type 0} (xs : List A) (y : A) (ys : List A) → remove (xs ++ y ∷ ys) (length xs) ≡ xs ++ ys
remove-behind [] y ys = refl
remove-behind (x ∷ xs) y ys = ap (λ zs. x ∷ zs) (remove-behind xs y ys)

-- Events behind events.
pub after-append : (L : Ledger) (xs ys : List Event) → after L (xs ++ ys) ≡ after (after L xs) ys
after-append L [] ys = refl
after-append L (x ∷ xs) ys = after-append (step L x).0 xs ys

-- The execution of a close behind other items.
close-executes : (T : Ledger) (xs ys : List Item) (h : ℕ) → T.flying ≡ xs ++ Item.Close h ∷ ys →
    (step T (Exec (length xs) (Count 0))).0 ≡ record T { flying = xs ++ ys; done = T.done ++ Item.Close h ∷ [] }
close-executes T xs ys h e =
    let item : slice_get T.flying (length xs) ≡ Some (Item.Close h) =
    ap (λ zs. slice_get zs (length xs)) e ∙ get-behind xs (Item.Close h) ys in
    let u : cause T (Exec (length xs) (Count 0)) ≡ None =
    ap (λ b. refused_if b NotFlying (refused_if (passes (waits T) (slice_get T.flying (length xs))) Waiting
    (refused_if (not (passes (λ i. allowed T i (Count 0)) (slice_get T.flying (length xs)))) BadOutcome None)))
    (lt-leb (length T.flying) (length xs) (slice_get_within T.flying (length xs) (Item.Close h) item))
    ∙ ap (λ x. refused_if (passes (waits T) x) Waiting (refused_if (not (passes (λ i. allowed T i (Count 0)) x)) BadOutcome None)) item in
    ap (λ s. s.0) (step-row T (Exec (length xs) (Count 0)) u)
    ∙ ap (λ x. (exec_step T (length xs) (Count 0) x).0) item
    ∙ ap (λ zs. record T { flying = zs; done = T.done ++ Item.Close h ∷ [] })
    (ap (λ zs. remove zs (length xs)) e ∙ remove-behind xs (Item.Close h) ys)

-- Each close among the items behind others is executed.
closes-executed : (T : Ledger) (xs items : List Item) →
    after (record T { flying = xs ++ items }) (close_execs (length xs) items)
    ≡ record T { flying = xs ++ ops_only items; done = T.done ++ closes_only items }
closes-executed T xs [] = ap (λ d. record T { flying = xs ++ []; done = d }) (sym (append-nil T.done))
closes-executed T xs (Op n ∷ items) =
    ap (λ zs. after (record T { flying = zs }) (close_execs (suc (length xs)) items)) (sym (append_assoc xs (Op n ∷ []) items))
    ∙ ap (λ k. after (record T { flying = (xs ++ Op n ∷ []) ++ items }) (close_execs k items))
    (let l = length-append xs (Op n ∷ []) in omega (arith, l))
    ∙ closes-executed T (xs ++ Op n ∷ []) items
    ∙ ap (λ zs. record T { flying = zs; done = T.done ++ closes_only items }) (append_assoc xs (Op n ∷ []) (ops_only items))
closes-executed T xs (Item.Close h ∷ items) =
    ap (λ K. after K (close_execs (length xs) items))
    (close-executes (record T { flying = xs ++ Item.Close h ∷ items }) xs items h refl)
    ∙ closes-executed (record T { done = T.done ++ Item.Close h ∷ [] }) xs items
    ∙ ap (λ d. record T { flying = xs ++ ops_only items; done = d }) (append_assoc T.done (Item.Close h ∷ []) (closes_only items))

-- Reaping closes changes nothing.
closes-reaped : (L : Ledger) (items : List Item) → reap_each L (closes_only items) ≡ L
closes-reaped L [] = refl
closes-reaped L (Op n ∷ items) = closes-reaped L items
closes-reaped L (Item.Close h ∷ items) = closes-reaped L items

-- Nothing is done once the queue is taken, where nothing was.
pub flat-done : (L : Ledger) → L.done ≡ [] → (take_all L).done ≡ []
flat-done L h = done-take_each (record L { queue = [] }) L.queue ∙ h

-- A turn only takes the queue, where nothing is done.
pub turn-takes : (L : Ledger) → L.done ≡ [] → (step L Turn).0 ≡ take_all L
turn-takes L h =
    let T : Ledger = take_all L in
    ap (λ s. s.0) (step-row L Turn refl) ∙ ap (λ xs. reap_each (record T { done = [] }) xs) (flat-done L h)
    ∙ ap (λ xs. record T { done = xs }) (sym (flat-done L h))

-- A turn over closes alone names them.
turn-names : (T : Ledger) (items : List Item) → T.queue ≡ [] → T.done ≡ closes_only items → (step T Turn).0 ≡ record T { done = [] }
turn-names T items q d =
    ap (λ s. s.0) (step-row T Turn refl)
    ∙ ap (λ K. (reap_all K).0) (take-none T q)
    ∙ ap (λ xs. reap_each (record T { done = [] }) xs) d
    ∙ closes-reaped (record T { done = [] }) items

-- A ledger once the queue is taken and its closes are gone.
abbrev pub still : Ledger → Ledger
still L = record (take_all L) { flying = ops_only (take_all L).flying }

-- The closes in flight are executed and named: what is left is still.
pub closes-end : (L : Ledger) → L.done ≡ [] → after L (Turn ∷ close_execs 0 (after L (Turn ∷ [])).flying ++ Turn ∷ []) ≡ still L
closes-end L h =
    let T : Ledger = take_all L in
    let d : T.done ≡ [] = flat-done L h in
    ap (λ X. after X (close_execs 0 X.flying ++ Turn ∷ [])) (turn-takes L h)
    ∙ after-append T (close_execs 0 T.flying) (Turn ∷ [])
    ∙ ap (λ X. (step X Turn).0) (closes-executed T [] T.flying)
    ∙ turn-names (record T { flying = ops_only T.flying; done = T.done ++ closes_only T.flying }) T.flying (flat-queue L)
    (ap (λ xs. xs ++ closes_only T.flying) d)
    ∙ ap (λ xs. record T { flying = ops_only T.flying; done = xs }) (sym d)

-- What has no close is still once it is taken.
pub no-closes : (items : List Item) → closes_only items ≡ [] → ops_only items ≡ items
no-closes [] h = refl
no-closes (Op n ∷ items) h = ap (λ xs. Op n ∷ xs) (no-closes items h)
no-closes (Item.Close k ∷ items) h = (let f : ⊥ = cc in absurd f)

-- No close is among the operations.
pub none-left : (items : List Item) → closes_only (ops_only items) ≡ []
none-left [] = refl
none-left (Op n ∷ items) = none-left items
none-left (Item.Close h ∷ items) = none-left items

-- An operation that joins is no close.
pub closes-op : (items : List Item) (n : ℕ) → closes_only (items ++ Op n ∷ []) ≡ closes_only items
closes-op [] n = refl
closes-op (Op m ∷ items) n = closes-op items n
closes-op (Item.Close h ∷ items) n = ap (λ xs. Item.Close h ∷ xs) (closes-op items n)

-- Where there is no close, none is left once an item is removed.
pub closes-remove : (items : List Item) (place : ℕ) → closes_only items ≡ [] → closes_only (remove items place) ≡ []
closes-remove [] zero h = refl
closes-remove [] (suc place) h = refl
closes-remove (Op n ∷ items) zero h = h
closes-remove (Op n ∷ items) (suc place) h = closes-remove items place h
closes-remove (Item.Close x ∷ items) place h = (let f : ⊥ = cc in absurd f)

-- A close that is appended is in the queue.
pub close-there : (xs : List Queued) (h : ℕ) → has_close (xs ++ Queued.Close h ∷ []) ≡ true
close-there [] h = refl
close-there (Req k ∷ xs) h = close-there xs h
close-there (Cancel k ∷ xs) h = close-there xs h
close-there (Queued.Close k ∷ xs) h = refl
