-- The lists after an execution released what waited for it.
use Rattle.std.proofs.Common.{◌≡◌, ℕ, zero, suc, List, [], ◌∷◌, ◌++◌, take, drop, remove, length, map, Some, slice_get, refl, sym, ◌∙◌, ap}
use Rattle.std.proofs.lemmas.List.{append_assoc, append-nil, take-append-drop}
use Rattle.machine.specs.declared.request.Told.TheVariants.{Fail}
use Rattle.machine.specs.Ledger.{Ledger, Item, Op}
use Rattle.machine.specs.Turn.{waiting_on, break_one, break_each, released}
use Rattle.machine.proofs.Taking.{Listed}
use Rattle.machine.proofs.Releasing.{Flies, flies-listed, listed-break_one}
use Rattle.machine.proofs.Behind.{waiting_front, listed-there}
use Rattle.machine.proofs.Parting.{Parted, Leads, front-first, get-drop, drop-removed, leaves, break-front, parted-break, parted-waits}

-- Operations that end with their leaders are done behind what was, in order.
pub break_each-done : (L : Ledger) (numbers : List ℕ) → (break_each L numbers).done ≡ L.done ++ map Op numbers
break_each-done L [] = sym (append-nil L.done)
break_each-done L (m ∷ numbers) = break_each-done (break_one L m) numbers ∙ append_assoc L.done (Op m ∷ []) (map Op numbers)

-- What is before a place stays as the item at the place leaves it.
take-removed : (items : List Item) (place : ℕ) → take place (remove items place) ≡ take place items
take-removed [] zero = refl
take-removed [] (suc place) = refl
take-removed (x ∷ items) zero = refl
take-removed (x ∷ items) (suc place) = ap (λ xs. x ∷ xs) (take-removed items place)

-- Nothing dropped leaves all.
drop-none : (items : List Item) → drop 0 items ≡ items
drop-none [] = refl
drop-none (x ∷ items) = refl

-- Those at the front that wait leave what is in flight, from their leader's place on.
pub break_each-flying : (L : Ledger) (n place : ℕ) (numbers : List ℕ) → numbers ≡ waiting_front L.ops (drop place L.flying) → Listed L →
    Parted L n place → (break_each L numbers).flying ≡ take place L.flying ++ drop (length numbers) (drop place L.flying)
break_each-flying L n place [] are l p =
    sym (ap (λ xs. take place L.flying ++ xs) (drop-none (drop place L.flying)) ∙ take-append-drop place L.flying)
break_each-flying L n place (m ∷ numbers) are l p =
    let f : Leads L.ops (drop place L.flying) m numbers = front-first L.ops (drop place L.flying) m numbers are in
    let there : slice_get L.flying place ≡ Some (Op m) = sym (get-drop L.flying place) ∙ ap (λ xs. slice_get xs 0) f.items_are in
    let flies : Flies L m = flies-listed L m l (listed-there L.flying place m there) in
    break_each-flying (break_one L m) m place numbers (f.rest_are ∙ sym (break-front L n place m l p there f.rest f.items_are))
    (listed-break_one L m flies l) (parted-break L n place m l p there)
    ∙ ap (λ xs. take place xs ++ drop (length numbers) (drop place xs)) (leaves L n place m l p there)
    ∙ ap (λ xs. xs ++ drop (length numbers) (drop place (remove L.flying place))) (take-removed L.flying place)
    ∙ ap (λ xs. take place L.flying ++ drop (length numbers) xs) (drop-removed L.flying place (Op m) f.rest f.items_are)
    ∙ sym (ap (λ xs. take place L.flying ++ drop (length (m ∷ numbers)) xs) f.items_are)

-- Where an operation failed, those from its place on that wait, up to the first item that doesn't, leave what is in flight,
pub failed-flying : (L : Ledger) (n place e : ℕ) → Listed L → Parted L n place →
    (released (Fail e) L n).flying
    ≡ take place L.flying ++ drop (length (waiting_front L.ops (drop place L.flying))) (drop place L.flying)
failed-flying L n place e l p =
    ap (λ numbers. (break_each L numbers).flying) (parted-waits L n place l p)
    ∙ break_each-flying L n place (waiting_front L.ops (drop place L.flying)) refl l p

-- .. and are done behind what was, in order.
pub failed-done : (L : Ledger) (n place e : ℕ) → Listed L → Parted L n place →
    (released (Fail e) L n).done ≡ L.done ++ map Op (waiting_front L.ops (drop place L.flying))
failed-done L n place e l p =
    break_each-done L (waiting_on L.ops n L.flying) ∙ ap (λ numbers. L.done ++ map Op numbers) (parted-waits L n place l p)
