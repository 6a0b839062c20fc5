-- What answers leave of a session.
use Rattle.std.proofs.Common.{◌≡◌, ◌∙◌, ℕ, zero, suc, ◌+◌, ◌≤◌, ◌<◌, List, [], ◌∷◌, ◌++◌, length, take, map, refl, sym, ap, subst, arith, add-one, Option, None, Some}
use Rattle.std.proofs.lemmas.List.{length-append, take_all}
use Rattle.ring_core.specs.declared.entry.Entry.{Entry}
use Rattle.ring_core.specs.declared.entry.Flight.{Flight}
use Rattle.machine.specs.Lists.{amended}
use Rattle.ring_core.specs.MemRing.{entry_at}
use Rattle.driver_core.specs.declared.op.Op.{Op}
use Rattle.driver_core.specs.declared.tokens.Tokens.{Tokens}
use Rattle.driver_core.specs.Tokens.{by_number, cancellers_in, token_at, KeepsGroups}
use Rattle.fault_run.specs.declared.session.FaultSession.{FaultSession}
use Rattle.fault_run.specs.Events.{HasGroup, HasOp, tokens_in}

-- A place that was emptied and then filled is filled.
pub filled : {A : Type 0} (xs : List (Option A)) (n : ℕ) (x : A) →
    amended (amended xs n (λ place. None)) n (λ place. Some x) ≡ amended xs n (λ place. Some x)
filled [] n x = refl
filled (y ∷ xs) zero x = refl
filled (y ∷ xs) (suc n) x = ap (λ ys. y ∷ ys) (filled xs n x)

-- What keeps groups twice keeps them.
pub groups-then : (a b c : Tokens) → KeepsGroups a b → KeepsGroups b c → KeepsGroups a c
groups-then a b c one two = record { cancellers = two.cancellers ∙ one.cancellers; handles = two.handles ∙ one.handles }

-- The token that was found under a number is the operation's that is held there.
pub op-there : (session : FaultSession) (n : ℕ) (op : Op) → ((other : Op) × HasOp session n other) →
    token_at (by_number (tokens_in session)) n ≡ Some op → HasOp session n op
op-there session n op found there =
    let both : Some found.0 ≡ Some op = sym found.1.there ∙ there in
    let same : found.0 ≡ op = cc in
    subst (λ o. HasOp session n o) same found.1

-- The group that was found under a number is the canceller's that the driver made.
pub group-there : (session : FaultSession) (c group : ℕ) → ((other : ℕ) × HasGroup session c other) →
    token_at (cancellers_in (tokens_in session)) c ≡ Some group → HasGroup session c group
group-there session c group found there =
    let both : Some found.0 ≡ Some group = sym found.1.there ∙ there in
    let same : found.0 ≡ group = cc in
    subst (λ g. HasGroup session c g) same found.1

-- The data word of one entry more.
pub word-more : (flying : List Flight) (words all : List ℕ) (n : ℕ) (entry : Entry) → entry_at flying n ≡ Some entry →
    words ≡ map (λ flight. flight.entry.word) (take n flying) → n ≡ length words → all ≡ words ++ entry.word ∷ [] →
    (all ≡ map (λ flight. flight.entry.word) (take (length all) flying)) × (length all ≤ length flying) × (length all ≡ n + 1)
word-more flying words all n entry there so_far count more =
    let long : length all ≡ n + 1 = ap length more ∙ (let one = length-append words (entry.word ∷ []) in omega arith) in (
      more ∙ ap (λ xs. xs ++ entry.word ∷ []) so_far ∙ next flying n entry there
          ∙ ap (λ m. map (λ flight. flight.entry.word) (take m flying)) (sym (long ∙ add-one n)),
      (let within = inside flying n entry there in omega arith),
      long,
    )
  where
    next : (xs : List Flight) (n : ℕ) (entry : Entry) → entry_at xs n ≡ Some entry →
        map (λ flight. flight.entry.word) (take n xs) ++ entry.word ∷ [] ≡ map (λ flight. flight.entry.word) (take (suc n) xs)
    next [] n entry there = absurd (cc)
    next (x ∷ xs) zero entry there = (let same : x.entry ≡ entry = cc in ap (λ e. e.word ∷ []) (sym same))
    next (x ∷ xs) (suc n) entry there = ap (λ ys. x.entry.word ∷ ys) (next xs n entry there)

    inside : (xs : List Flight) (n : ℕ) (entry : Entry) → entry_at xs n ≡ Some entry → n < length xs
    inside [] n entry there = absurd (cc)
    inside (x ∷ xs) zero entry there = omega arith
    inside (x ∷ xs) (suc n) entry there = (let more = inside xs n entry there in omega arith)

-- The words of all entries.
pub words-all : (flying : List Flight) (words : List ℕ) → entry_at flying (length words) ≡ None →
    words ≡ map (λ flight. flight.entry.word) (take (length words) flying) → words ≡ map (λ flight. flight.entry.word) flying
words-all flying words none so_far =
    so_far ∙ ap (λ xs. map (λ flight. flight.entry.word) xs) (take_all (length words) flying (past flying (length words) none))
  where
    past : (xs : List Flight) (n : ℕ) → entry_at xs n ≡ None → length xs ≤ n
    past [] n none = omega arith
    past (x ∷ xs) zero none = absurd (cc)
    past (x ∷ xs) (suc n) none = (let more = past xs n none in omega arith)
