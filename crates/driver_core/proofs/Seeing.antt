-- Where all operations that hold a handle are seen to hold it, in a ledger in which nobody else holds what an operation made; and which
-- closes are queued once an operation left.
use Rattle.std.proofs.Common.{◌≡◌, ◌≢◌, ◌∙◌, inl, inr, ℕ, suc, ◌+◌, ◌<◌, Bool, true, false, cond, ◌==◌, List, [], ◌∷◌, ◌++◌}
use Rattle.std.proofs.Common.{Option, Some, None, refl, sym, ap, subst, arith, append-nil, if◌then◌else◌}
use Rattle.std.specs.Prelude.{◌&&◌, nat_lt, slice_get, filter, max, option_to_list}
use Rattle.std.proofs.lemmas.Bool.Decides.{nat_tests}
use Rattle.handle_core.specs.Table.{Table, holders_at, with_holders, without_operation, handed}
use Rattle.machine.specs.Lists.{has_number, numbers_where}
use Rattle.machine.specs.Lists.{one_if}
use Rattle.machine.specs.Request.{named}
use Rattle.machine.specs.Ledger.{Ledger, Operation, Place, InQueue, InFlight, InDone, Reaped, Gone, is_live}
use Rattle.machine.specs.Ledger.{is_holding, holding_ops, holds}
use Rattle.machine.specs.Ledger.{user_holds, with_made}
use Rattle.machine.specs.Queue.{at_place, with_gone, is_unheld, became_unheld}
use Rattle.machine.specs.Step.{with_user}
use Rattle.machine.specs.Closes.{AreKnown, MadeAlone, made_at}
use Rattle.machine.proofs.Alone.{fails-by}
use Rattle.machine.proofs.Owning.{same-tests}
use Rattle.machine.proofs.Numbers.{same-or-not, and-left, and-right}
use Rattle.machine.proofs.Amended.{changed-cases, there-before}
use Rattle.machine.proofs.Where.{none-where}
use Rattle.machine.proofs.Holders.{is-unheld, held-by_user, unheld-at}
use Rattle.machine.proofs.Users.{user-with_user, user-with_user-other}
use Rattle.machine.proofs.Closing.{known-with_user}
use Rattle.machine.proofs.Leaving.{has-first, has-other, holds-named, holds-either, holds-ascends, named-ascends, became-held}
use Rattle.driver_core.specs.Slots.{life_of, life_at}
use Rattle.driver_core.specs.Holds.{made_life, seen, is_seen, seen_ops, is_nobody, settled, left_holders, without_ops, unheld_by, front_if}
use Rattle.driver_core.specs.Holds.{HoldersStand}
use Rattle.driver_core.proofs.Counted.{made-held}
use Rattle.driver_core.proofs.Distinct.{Distinct, ascends-distinct, first-other, one-more, not-both, apart-by}
use Rattle.driver_core.proofs.Holds.{with-same, with-other, user-left, left-one, ops-left, ops-handed, settled-other}
use Rattle.driver_core.proofs.Standing.{holders-stand-left, nobody-unheld, seen-gone, seen-some}

-- Two tests that agree on all elements let the same ones pass.
where-agree : (p q : Operation → Bool) (xs : List Operation) (k : ℕ) →
    ((i : ℕ) (x : Operation) → slice_get xs i ≡ Some x → p x ≡ q x) → numbers_where p k xs ≡ numbers_where q k xs
where-agree p q [] k agree = refl
where-agree p q (x ∷ xs) k agree =
    let rest : List ℕ = numbers_where p (suc k) xs in
    ap (λ b. if b then k ∷ rest else rest) (agree 0 x refl)
    ∙ ap (λ ns. if q x then k ∷ ns else ns) (where-agree p q xs (suc k) (λ i y there. agree (suc i) y there))

-- What is seen to have been made an operation's place says.
seen-made : (dropped : Bool) (place : Place) (task : Option ℕ) (h : ℕ) → made_life (life_of dropped place task) ≡ Some h →
    made_at place ≡ Some h
seen-made true place task h is = (let f : ⊥ = cc in absurd f)
seen-made false InQueue None h is = (let f : ⊥ = cc in absurd f)
seen-made false InQueue (Some t) h is = (let f : ⊥ = cc in absurd f)
seen-made false InFlight None h is = (let f : ⊥ = cc in absurd f)
seen-made false InFlight (Some t) h is = (let f : ⊥ = cc in absurd f)
seen-made false (InDone outcome) None h is = (let f : ⊥ = cc in absurd f)
seen-made false (InDone outcome) (Some t) h is = (let f : ⊥ = cc in absurd f)
seen-made false (Reaped outcome) task h is = is
seen-made false Gone task h is = (let f : ⊥ = cc in absurd f)

module _ (L : Ledger) (alone : MadeAlone L) where
  -- An operation that is seen to hold a handle holds it.
  pub seen-holds : (n h : ℕ) (o : Operation) → slice_get L.ops n ≡ Some o → is_seen h o ≡ true → is_holding h o ≡ true
  seen-holds n h o there is =
      let live = and-left (is_live o) (has_number h (seen o)) is in
      ap (λ b. b && has_number h (holds o)) live
      ∙ elim (holds-either h (made_life (life_at o)) (named o.request) (and-right (is_live o) (has_number h (seen o)) is)) [
        | inl names ↦ holds-named h o.made (named o.request) names
        | inr made ↦ made-held o.made (named o.request) h
            (alone.agrees n o there live ∙ seen-made o.dropped o.place o.task h made)
      ]

  -- It is seen to hold what it holds, unless that is what it made.
  pub holds-seen : (n h : ℕ) (o : Operation) → slice_get L.ops n ≡ Some o →
      (is_live o ≡ true → o.made ≡ Some h → is_seen h o ≡ true) → is_seen h o ≡ is_holding h o
  holds-seen n h o there sees = same-tests (is_seen h o) (is_holding h o) (seen-holds n h o there) (λ is.
      let live = and-left (is_live o) (has_number h (holds o)) is in
      elim (holds-either h o.made (named o.request) (and-right (is_live o) (has_number h (holds o)) is)) [
        | inl names ↦ ap (λ b. b && has_number h (seen o)) live ∙ holds-named h (made_life (life_at o)) (named o.request) names
        | inr made ↦ sees live made
      ])

  -- All that hold a handle of the user's are seen.
  pub user-seen : (h : ℕ) → user_holds L h ≡ true → seen_ops L h ≡ holding_ops L h
  user-seen h user = where-agree (is_seen h) (is_holding h) L.ops 0 (λ n o there. holds-seen n h o there (λ live made.
      absurd (not-both (user_holds L h) user (alone.users n h o there live made))))

  module _ (n : ℕ) (o : Operation) (there : slice_get L.ops n ≡ Some o) (live : is_live o ≡ true) where
    -- All that hold a handle that an operation is seen to hold are seen.
    one-seen : (h : ℕ) → is_seen h o ≡ true → (m : ℕ) (p : Operation) → slice_get L.ops m ≡ Some p → is_seen h p ≡ is_holding h p
    one-seen h is m p at = holds-seen m h p at (λ lives made.
        let same : n ≡ m = alone.others m n h p o at lives made there (seen-holds n h o there is) in
        let e : o ≡ p = (let w = sym there ∙ ap (slice_get L.ops) same ∙ at in cc) in
        ap (is_seen h) (sym e) ∙ is)

    -- So it is once that operation is gone.
    pub gone-seen : (h : ℕ) → is_seen h o ≡ true → seen_ops (with_gone L n) h ≡ holding_ops (with_gone L n) h
    gone-seen h is = where-agree (is_seen h) (is_holding h) (with_gone L n).ops 0 (λ m p at.
        elim (changed-cases (at_place Gone) L.ops n m) [
          | inl e ↦ (
              let b = there-before (at_place Gone) (slice_get L.ops n) p (sym e.1 ∙ at) in
              ap (is_seen h) b.2 ∙ ap (is_holding h) (sym b.2))
          | inr e ↦ one-seen h is m p (sym e.1 ∙ at)
        ])

    -- Nobody holds a handle that an operation made once that is gone.
    pub made-unheld : (h : ℕ) → o.made ≡ Some h → is_unheld (with_gone L n) h ≡ true
    made-unheld h made = is-unheld (with_gone L n) h (record {
      user = alone.users n h o there live made;
      ops = λ m p at. elim (changed-cases (at_place Gone) L.ops n m) [
        | inl e ↦ (
            let b = there-before (at_place Gone) (slice_get L.ops n) p (sym e.1 ∙ at) in ap (is_holding h) b.2)
        | inr e ↦ fails-by (is_holding h p) (λ holding. e.0 (alone.others n m h o p there live made (sym e.1 ∙ at) holding))
      ];
    })

-- Nobody is seen to hold a handle that an operation made which isn't seen.
pub made-unseen : (L : Ledger) → MadeAlone L → AreKnown L → (n h : ℕ) (o : Operation) → slice_get L.ops n ≡ Some o → is_live o ≡ true →
    o.made ≡ Some h → made_life (life_at o) ≡ None → seen_ops L h ≡ []
made-unseen L alone known n h o there live made none = none-where (is_seen h) L.ops 0 (λ m p at. fails-by (is_seen h p) (λ is.
    let same : m ≡ n = alone.others n m h o p there live made at (seen-holds L alone m h p at is) in
    let e : o ≡ p = (let w = sym there ∙ ap (slice_get L.ops) (sym same) ∙ at in cc) in
    let names : has_number h (named o.request) ≡ true = ap (λ x. has_number h (with_made x (named o.request))) (sym none)
    ∙ and-right (is_live o) (has_number h (seen o)) (ap (is_seen h) e ∙ is) in
    let lt = known.above n h h o there names made in
    omega (arith, lt)))

-- Of handles that are distinct, those that nobody holds any more once an operation left are those of which nobody is left.
pub unheld-left : (table : Table) (test : ℕ → Bool) (handles : List ℕ) → Distinct handles →
    ((h : ℕ) → has_number h handles ≡ true → is_nobody (left_holders table h) ≡ test h) → unheld_by table handles ≡ filter test handles
unheld-left table test [] apart says = refl
unheld-left table test (h ∷ handles) apart says =
    ap (λ xs. front_if (is_nobody (left_holders table h)) h xs)
    (unheld-left (settled table h (left_holders table h)) test handles apart.1 (λ k there.
    let e = first-other h handles apart k there in
    ap (λ x. is_nobody (without_operation x)) (settled-other table h (left_holders table h) k e)
    ∙ says k (has-other k h handles e ∙ there)))
    ∙ ap (λ b. front_if b h (filter test handles)) (says h (has-first h handles)) ∙ kept-first (test h)
  where
    kept-first : (b : Bool) → front_if b h (filter test handles) ≡ (if b then h ∷ filter test handles else filter test handles)
    kept-first true = refl
    kept-first false = refl

-- Those that pass of a list with one more.
filter-one_more : (test : ℕ → Bool) (xs : List ℕ) (h : ℕ) → filter test (xs ++ h ∷ []) ≡ filter test xs ++ (if test h then h ∷ [] else [])
filter-one_more test [] h = refl
filter-one_more test (x ∷ xs) h = by (test x) (filter-one_more test xs h)
  where
    by : (b : Bool) → filter test (xs ++ h ∷ []) ≡ filter test xs ++ (if test h then h ∷ [] else []) →
        cond b (x ∷ filter test (xs ++ h ∷ [])) (filter test (xs ++ h ∷ []))
        ≡ cond b (x ∷ filter test xs) (filter test xs) ++ (if test h then h ∷ [] else [])
    by true e = ap (λ ys. x ∷ ys) e
    by false e = e

-- Those that pass where one that was made passes too.
filter-made : (test : ℕ → Bool) (xs : List ℕ) (made : Option ℕ) → ((h : ℕ) → made ≡ Some h → test h ≡ true) →
    filter test (with_made made xs) ≡ filter test xs ++ option_to_list made
filter-made test xs None passes = sym (append-nil (filter test xs))
filter-made test xs (Some h) passes = filter-one_more test xs h ∙ ap (λ b. filter test xs ++ (if b then h ∷ [] else [])) (passes h refl)

module _ (table : Table) (L : Ledger) (n : ℕ) (o : Operation) (stand : HoldersStand table L) (there : slice_get L.ops n ≡ Some o)
    (live : is_live o ≡ true) (known : AreKnown L) (alone : MadeAlone L) where
  -- The handles that an operation is seen to hold are distinct.
  pub seen-distinct : Distinct (seen o)
  seen-distinct = by (made_life (life_at o)) refl
    where
      by : (made : Option ℕ) → made_life (life_at o) ≡ made → Distinct (with_made made (named o.request))
      by None e = ascends-distinct 0 (named o.request) (named-ascends o.request)
      by (Some h) e = subst (λ m. Distinct (with_made m (named o.request)))
          (alone.agrees n o there live ∙ seen-made o.dropped o.place o.task h e)
          (ascends-distinct 0 (holds o) (holds-ascends L n o there known))

  -- Nobody is left of a handle's holders exactly where nobody holds it in the ledger in which the operation is gone.
  left-nobody : (h : ℕ) → has_number h (seen o) ≡ true → is_nobody (left_holders table h) ≡ is_unheld (with_gone L n) h
  left-nobody h is =
      ap is_nobody (sym (left-one table (seen o) seen-distinct h is))
      ∙ nobody-unheld (holders-stand-left table L n o stand there live seen-distinct) h
      (gone-seen L alone n o there live h (ap (λ b. b && has_number h (seen o)) live ∙ is))

  -- Those that became unheld are those that the operation held and that nobody holds.
  became : became_unheld L (with_gone L n) ≡ filter (is_unheld (with_gone L n)) (holds o)
  became = became-held L n o there live known (holds-ascends L n o there known)

  -- Of an operation of which all is seen, those that nobody holds any more in a table are those whose holders became none in the ledger.
  pub unheld-became : made_life (life_at o) ≡ o.made → unheld_by table (seen o) ≡ became_unheld L (with_gone L n)
  unheld-became all =
      unheld-left table (is_unheld (with_gone L n)) (seen o) seen-distinct left-nobody
      ∙ ap (λ m. filter (is_unheld (with_gone L n)) (with_made m (named o.request))) all ∙ sym became

  -- Of one of which nothing that it made is seen, that is closed too.
  pub unheld-lost : made_life (life_at o) ≡ None → unheld_by table (named o.request) ++ option_to_list o.made
      ≡ became_unheld L (with_gone L n)
  unheld-lost none =
      ap (λ m. unheld_by table (with_made m (named o.request)) ++ option_to_list o.made) (sym none)
      ∙ ap (λ hs. hs ++ option_to_list o.made) (unheld-left table (is_unheld (with_gone L n)) (seen o) seen-distinct left-nobody)
      ∙ ap (λ m. filter (is_unheld (with_gone L n)) (with_made m (named o.request)) ++ option_to_list o.made) none
      ∙ sym (filter-made (is_unheld (with_gone L n)) (named o.request) o.made (made-unheld L alone n o there live)) ∙ sym became

  -- An operation of which all is seen made a handle, which was handed over.
  module _ (h : ℕ) (made : o.made ≡ Some h) (all : made_life (life_at o) ≡ o.made) where
    abbrev handed_table : Table
    handed_table = with_holders table h (handed (holders_at table h))

    abbrev handed_ledger : Ledger
    handed_ledger = with_user L h true

    -- Its user holds it then.
    user-has : user_holds handed_ledger h ≡ true
    user-has = user-with_user L h true (known.known n h o there (made-held o.made (named o.request) h made))

    -- It isn't among those that the operation names.
    named-not : has_number h (named o.request) ≡ false
    named-not = fails-by (has_number h (named o.request)) (λ is. let lt = known.above n h h o there is made in omega (arith, lt))

    seen-is : seen o ≡ named o.request ++ h ∷ []
    seen-is = ap (λ m. with_made m (named o.request)) (all ∙ made)

    some : (k : ℕ) → has_number k (named o.request) ≡ true → 0 < (holders_at table k).operations
    some k is = seen-some table L n o stand there live k (holds-named k (made_life (life_at o)) (named o.request) is)

    some-made : 0 < (holders_at table h).operations
    some-made = seen-some table L n o stand there live h (made-held (made_life (life_at o)) (named o.request) h (all ∙ made))

    -- What the operation names has the holders that it had.
    other : (k : ℕ) → has_number k (named o.request) ≡ true → k ≢ h
    other k is = apart-by (named o.request) k h is named-not

    same-holders : (k : ℕ) → has_number k (named o.request) ≡ true → holders_at handed_table k ≡ holders_at table k
    same-holders k is = with-other table h (handed (holders_at table h)) k (other k is)

    named-apart : Distinct (named o.request)
    named-apart = ascends-distinct 0 (named o.request) (named-ascends o.request)

    -- The table then stands for the ledger in which the user has it and the operation is gone.
    pub holders-stand-handed : HoldersStand (without_ops handed_table (named o.request)) (with_gone handed_ledger n)
    holders-stand-handed = record {
      users = λ k. ap (nat_lt 0) (user-left handed_table (named o.request) k) ∙ elim (same-or-not k h) [
        | inl e ↦ (
            ap (λ x. nat_lt 0 (holders_at handed_table x).user) e
            ∙ ap (λ x. nat_lt 0 x.user) (with-same table h (handed (holders_at table h))) ∙ once (holders_at table h).user
            ∙ sym (ap (user_holds handed_ledger) e ∙ user-has))
        | inr e ↦ (
            ap (λ x. nat_lt 0 x.user) (with-other table h (handed (holders_at table h)) k e) ∙ stand.users k
            ∙ sym (user-with_user-other L h k true e))
      ];
      operations = λ k. (
          let a = ops-left handed_table (named o.request) named-apart
          (λ j is. subst (λ x. 0 < x.operations) (sym (same-holders j is)) (some j is)) k in
          let b = ops-handed table h some-made k in
          let c = stand.operations k in
          let d = seen-gone L n k o there in
          let e : one_if (is_seen k o) ≡ one_if (has_number k (named o.request)) + one_if (k == h) =
          ap one_if (ap (λ b. b && has_number k (seen o)) live ∙ ap (has_number k) seen-is) ∙ one-more k h (named o.request) named-not in
          omega (arith, a, b, c, d, e));
    }
      where
        once : (user : ℕ) → nat_lt 0 (max user 1) ≡ true
        once user = grind (arith, nat_tests)

    -- Those that nobody holds any more in it are those whose holders became none.
    pub unheld-handed : unheld_by handed_table (named o.request) ≡ became_unheld handed_ledger (with_gone handed_ledger n)
    unheld-handed =
        let G : Ledger = with_gone handed_ledger n in
        unheld-left handed_table (is_unheld G) (named o.request) named-apart (λ k is.
        ap (λ x. is_nobody (without_operation x)) (same-holders k is)
        ∙ left-nobody k (holds-named k (made_life (life_at o)) (named o.request) is)
        ∙ sym (unheld-at (with_gone L n) G k (user-with_user-other L h k true (other k is)) refl))
        ∙ sym (append-nil (filter (is_unheld G) (named o.request)))
        ∙ ap (λ b. filter (is_unheld G) (named o.request) ++ (if b then h ∷ [] else []))
        (sym (held-by_user G h user-has))
        ∙ sym (filter-one_more (is_unheld G) (named o.request) h)
        ∙ ap (λ m. filter (is_unheld G) (with_made m (named o.request))) (sym made)
        ∙ sym (became-held handed_ledger n o there live (known-with_user L h true known) (holds-ascends L n o there known))
