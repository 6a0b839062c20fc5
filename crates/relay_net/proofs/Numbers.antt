-- The numbers of connections, as a round opens, closes and loses some.
use Rattle.std.proofs.Common.{ℕ, zero, suc, ◌≡◌, ◌∙◌, ap, sym, subst, List, [], ◌∷◌, ◌++◌, map, Some}
use Rattle.std.specs.Prelude.{IsPermutation, slice_get, slice_set}
use Rattle.std.specs.List.{remove}
use Rattle.std.proofs.lemmas.List.{append-nil, append_assoc, map-append}
use Rattle.std.proofs.lemmas.List.Sorted.{IsPermutation-append_left, IsPermutation-cons, IsPermutation-middle, IsPermutation-refl}
use Rattle.std.proofs.lemmas.List.Sorted.{IsPermutation-sym, IsPermutation-trans}
use Rattle.relay_net.specs.Connection.{near_of}
use Rattle.relay_net.specs.Relay.{connections_in}
use Rattle.relay_net.specs.declared.connection.Connection.{Connection}
use Rattle.relay_net.specs.declared.round.Lost.{Lost}

-- Equal lists have the same elements.
same_numbers : (xs ys : List ℕ) → xs ≡ ys → IsPermutation xs ys
same_numbers xs ys same = subst (IsPermutation xs) same (IsPermutation-refl xs)

-- One in the place of another of its number leaves the numbers.
pub numbers_set : (all : List Connection) (k : ℕ) (conn now : Connection) → slice_get all k ≡ Some conn → near_of now ≡ near_of conn
    → map near_of (slice_set all k now) ≡ map near_of all
numbers_set [] k conn now there same = absurd cc
numbers_set (a ∷ all) zero conn now there same =
    (let e : a ≡ conn = cc in ap (λ n. n ∷ map near_of all) (same ∙ ap near_of (sym e)))
numbers_set (a ∷ all) (suc k) conn now there same = ap (λ ns. near_of a ∷ ns) (numbers_set all k conn now there same)

-- So they are, whatever was closed and lost.
pub numbers_kept : (all now : List Connection) (closed : List ℕ) (failed : List Lost) → map near_of now ≡ map near_of all
    → IsPermutation (connections_in now closed failed) (connections_in all closed failed)
numbers_kept all now closed failed same =
    same_numbers (connections_in now closed failed) (connections_in all closed failed)
    (ap (λ ns. ns ++ (closed ++ map (λ lost. lost.connection) failed)) same)

-- One that is taken out, and the others, are all.
taken_out : (all : List Connection) (k : ℕ) (conn : Connection) → slice_get all k ≡ Some conn
    → IsPermutation (map near_of all) (near_of conn ∷ map near_of (remove all k))
taken_out [] k conn there = absurd cc
taken_out (a ∷ all) zero conn there =
    (let e : a ≡ conn = cc in
    same_numbers (near_of a ∷ map near_of all) (near_of conn ∷ map near_of all) (ap (λ c. near_of c ∷ map near_of all) e))
taken_out (a ∷ all) (suc k) conn there =
    IsPermutation-trans (near_of a ∷ map near_of all) (near_of a ∷ near_of conn ∷ map near_of (remove all k))
    (near_of conn ∷ near_of a ∷ map near_of (remove all k))
    (IsPermutation-cons (near_of a) (map near_of all) (near_of conn ∷ map near_of (remove all k)) (taken_out all k conn there))
    (IsPermutation-middle (near_of a ∷ []) (near_of conn) (map near_of (remove all k)))

-- A number between two lists is one of them all.
between : (front middle back : List ℕ) (n : ℕ) → IsPermutation (front ++ ((middle ++ n ∷ []) ++ back)) (n ∷ (front ++ (middle ++ back)))
between front middle back n =
    IsPermutation-trans (front ++ ((middle ++ n ∷ []) ++ back)) ((front ++ middle) ++ n ∷ back) (n ∷ (front ++ (middle ++ back)))
    (same_numbers (front ++ ((middle ++ n ∷ []) ++ back)) ((front ++ middle) ++ n ∷ back)
    (ap (λ ns. front ++ ns) (append_assoc middle (n ∷ []) back) ∙ sym (append_assoc front middle (n ∷ back))))
    (IsPermutation-trans ((front ++ middle) ++ n ∷ back) (n ∷ ((front ++ middle) ++ back)) (n ∷ (front ++ (middle ++ back)))
    (IsPermutation-middle (front ++ middle) n back)
    (same_numbers (n ∷ ((front ++ middle) ++ back)) (n ∷ (front ++ (middle ++ back))) (ap (λ ns. n ∷ ns) (append_assoc front middle back))))

-- What is taken out and put behind is there still.
put_behind : (all : List Connection) (k : ℕ) (conn : Connection) (rest : List ℕ) → slice_get all k ≡ Some conn
    → IsPermutation (near_of conn ∷ (map near_of (remove all k) ++ rest)) (map near_of all ++ rest)
put_behind all k conn rest there =
    IsPermutation-append_left rest (near_of conn ∷ map near_of (remove all k)) (map near_of all)
    (IsPermutation-sym (map near_of all) (near_of conn ∷ map near_of (remove all k)) (taken_out all k conn there))

-- One that is closed keeps its number among all.
pub numbers_closed : (all : List Connection) (k : ℕ) (conn : Connection) (closed : List ℕ) (failed : List Lost)
    → slice_get all k ≡ Some conn
    → IsPermutation (connections_in (remove all k) (closed ++ near_of conn ∷ []) failed) (connections_in all closed failed)
numbers_closed all k conn closed failed there =
    let lost = map (λ (one : Lost). one.connection) failed in
    IsPermutation-trans (connections_in (remove all k) (closed ++ near_of conn ∷ []) failed)
    (near_of conn ∷ (map near_of (remove all k) ++ (closed ++ lost))) (connections_in all closed failed)
    (between (map near_of (remove all k)) closed lost (near_of conn)) (put_behind all k conn (closed ++ lost) there)

-- So does one that is lost.
pub numbers_lost : (all : List Connection) (k : ℕ) (conn : Connection) (closed : List ℕ) (failed : List Lost) (lost : Lost)
    → lost.connection ≡ near_of conn → slice_get all k ≡ Some conn
    → IsPermutation (connections_in (remove all k) closed (failed ++ lost ∷ [])) (connections_in all closed failed)
numbers_lost all k conn closed failed lost is there =
    let number = λ (one : Lost). one.connection in
    let before = map number failed in
    let rest = map near_of (remove all k) in
    IsPermutation-trans (connections_in (remove all k) closed (failed ++ lost ∷ []))
    (near_of conn ∷ (rest ++ ((closed ++ before) ++ []))) (connections_in all closed failed)
    (subst (λ ns. IsPermutation ns (near_of conn ∷ (rest ++ ((closed ++ before) ++ []))))
    (ap (λ ns. rest ++ ns) (append-nil ((closed ++ before) ++ near_of conn ∷ []) ∙ append_assoc closed before (near_of conn ∷ [])
    ∙ ap (λ ns. closed ++ ns) (ap (λ n. before ++ n ∷ []) (sym is) ∙ sym (map-append number failed (lost ∷ [])))))
    (between rest (closed ++ before) [] (near_of conn)))
    (IsPermutation-trans (near_of conn ∷ (rest ++ ((closed ++ before) ++ []))) (near_of conn ∷ (rest ++ (closed ++ before)))
    (connections_in all closed failed)
    (same_numbers (near_of conn ∷ (rest ++ ((closed ++ before) ++ []))) (near_of conn ∷ (rest ++ (closed ++ before)))
    (ap (λ ns. near_of conn ∷ (rest ++ ns)) (append-nil (closed ++ before))))
    (put_behind all k conn (closed ++ before) there))

-- Before any was closed or lost they are those that are open.
pub numbers_open : (all : List Connection) (closed : List ℕ) (failed : List Lost) (numbers : List ℕ) → closed ≡ [] → failed ≡ []
    → map near_of all ≡ numbers → IsPermutation (connections_in all closed failed) numbers
numbers_open all closed failed numbers none_closed none_failed is =
    same_numbers (connections_in all closed failed) numbers
    (ap (λ ns. map near_of all ++ (ns ++ map (λ lost. lost.connection) failed)) none_closed
    ∙ ap (λ ls. map near_of all ++ map (λ (lost : Lost). lost.connection) ls) none_failed ∙ append-nil (map near_of all) ∙ is)

-- Where none was opened, those that are open are those that were.
pub numbers_unopened : (all : List Connection) (opened : List ℕ) → opened ≡ [] → map near_of all ≡ map near_of all ++ opened
numbers_unopened all opened none = sym (ap (λ ns. map near_of all ++ ns) none ∙ append-nil (map near_of all))

-- One that was opened is the last.
pub numbers_opened : (all : List Connection) (conn : Connection) (near : ℕ) → near_of conn ≡ near
    → map near_of (all ++ conn ∷ []) ≡ map near_of all ++ near ∷ []
numbers_opened all conn near is = map-append near_of all (conn ∷ []) ∙ ap (λ n. map near_of all ++ n ∷ []) is
