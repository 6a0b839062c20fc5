-- Which handles' holders became none, as the test says it, and as the request of the operation that left does.
use Rattle.std.proofs.Common.{◌≡◌, ◌≢◌, ◌⊎◌, inl, inr, ℕ, zero, suc, ◌+◌, ◌≤◌, ◌<◌, Bool, true, false, cond, not, ◌&&◌, ◌||◌}
use Rattle.std.proofs.Common.{Option, None, List, [], ◌∷◌, ◌++◌, length, Some, slice_get, refl, sym, ◌∙◌, ap, subst, arith}
use Rattle.std.specs.Prelude.{filter, nat_lt, if◌then◌else◌}
use Rattle.std.proofs.Math.Bool.{and-false}
use Rattle.std.proofs.lemmas.Bool.Decides.{nat_tests}
use Rattle.machine.specs.declared.request.Request.{Request}
use Rattle.machine.specs.declared.request.Request.TheVariants.{Recv, ReadVec, Send, WriteVec, RecvMsg, SendMsg, Read, Write}
use Rattle.machine.specs.declared.request.Request.TheVariants.{SpliceTo, SpliceFrom, Accept, Open, Connect, Fsync, PollAdd, MkDir, Rename}
use Rattle.machine.specs.declared.request.Request.TheVariants.{Unlink}
use Rattle.machine.specs.Lists.{has_number, numbers_below}
use Rattle.machine.specs.Request.{named, both}
use Rattle.machine.specs.Ledger.{Ledger, Operation, with_made, holds, is_live, is_holding}
use Rattle.machine.specs.Queue.{is_unheld, became_unheld, with_gone}
use Rattle.machine.specs.Closes.{AreKnown}
use Rattle.machine.proofs.Numbers.{equal-self, same-or-not, equal-other, and-left, and-right, not-passes}
use Rattle.machine.proofs.Holders.{held-by_op, holding-gone-other, unheld-at}

-- Numbers rise, and the first is at least k.
abbrev pub Ascends : ℕ → List ℕ → Type 0
Ascends k [] = Unit {0}
Ascends k (x ∷ xs) = (k ≤ x) × Ascends (suc x) xs

-- Two handles rise.
both-ascends : (a b : ℕ) → Ascends 0 (both a b)
both-ascends a b = lower (nat_lt a b) refl
  where
    upper : (test : Bool) → nat_lt b a ≡ test → Ascends 0 (if test then b ∷ a ∷ [] else a ∷ [])
    upper true is = (omega arith, (let l : suc b ≤ a = grind (arith, nat_tests) in l, tt))
    upper false is = (omega arith, tt)

    lower : (test : Bool) → nat_lt a b ≡ test → Ascends 0 (if test then a ∷ b ∷ [] else if nat_lt b a then b ∷ a ∷ [] else a ∷ [])
    lower true is = (omega arith, (let l : suc a ≤ b = grind (arith, nat_tests) in l, tt))
    lower false is = upper (nat_lt b a) refl

-- The handles in a request rise.
pub named-ascends : {B V : Type 0} (r : Request B V) → Ascends 0 (named r)
named-ascends (Recv fd buf) = (omega arith, tt)
named-ascends (ReadVec fd parts) = (omega arith, tt)
named-ascends (Send fd buf) = (omega arith, tt)
named-ascends (WriteVec fd parts) = (omega arith, tt)
named-ascends (RecvMsg fd buf) = (omega arith, tt)
named-ascends (SendMsg fd addr buf) = (omega arith, tt)
named-ascends (Read fd pos buf) = (omega arith, tt)
named-ascends (Write fd pos buf) = (omega arith, tt)
named-ascends (SpliceTo fd pipe len) = both-ascends fd pipe
named-ascends (SpliceFrom pipe fd len) = both-ascends pipe fd
named-ascends (Accept fd) = (omega arith, tt)
named-ascends (Open path flags mode) = tt
named-ascends (Connect fd addr) = (omega arith, tt)
named-ascends (Fsync fd data_only) = (omega arith, tt)
named-ascends (PollAdd fd read) = (omega arith, tt)
named-ascends (MkDir path mode) = tt
named-ascends (Rename from to) = tt
named-ascends (Unlink path remove_dir) = tt

-- The first number of a list is in it.
pub has-first : (x : ℕ) (xs : List ℕ) → has_number x (x ∷ xs) ≡ true
has-first x xs = ap (λ b. b || has_number x xs) (equal-self x)

-- What is in the rest is in the list.
pub has-later : (h x : ℕ) (xs : List ℕ) → has_number h xs ≡ true → has_number h (x ∷ xs) ≡ true
has-later h x xs is = elim (same-or-not h x) [
  | inl e ↦ subst (λ y. has_number h (y ∷ xs) ≡ true) e (has-first h xs)
  | inr e ↦ ap (λ b. b || has_number h xs) (equal-other h x e) ∙ is
]

-- Numbers that rise, and one above all of them.
ascends-above : (k m : ℕ) (xs : List ℕ) → Ascends k xs → k ≤ m → ((h : ℕ) → has_number h xs ≡ true → h < m) → Ascends k (xs ++ m ∷ [])
ascends-above k m [] rises le above = (le, tt)
ascends-above k m (x ∷ xs) rises le above =
    (rises.0, ascends-above (suc x) m xs rises.1 (above x (has-first x xs)) (λ h is. above h (has-later h x xs is)))

-- The handles that an operation holds rise.
pub holds-ascends : (L : Ledger) (n : ℕ) (o : Operation) → slice_get L.ops n ≡ Some o → AreKnown L → Ascends 0 (holds o)
holds-ascends L n o there known = by o.made refl
  where
    by : (made : Option ℕ) → o.made ≡ made → Ascends 0 (with_made made (named o.request))
    by None e = named-ascends o.request
    by (Some m) e = ascends-above 0 m (named o.request) (named-ascends o.request) (omega arith) (λ h is. known.above n h m o there is e)

-- A number other than the first is in a list exactly where it is in the rest.
pub has-other : (h x : ℕ) (xs : List ℕ) → h ≢ x → has_number h (x ∷ xs) ≡ has_number h xs
has-other h x xs other = ap (λ b. b || has_number h xs) (equal-other h x other)

-- Numbers that rise from a number rise from a lower one.
pub ascends-lower : (j k : ℕ) (xs : List ℕ) → j ≤ k → Ascends k xs → Ascends j xs
ascends-lower j k [] le h = tt
ascends-lower j k (x ∷ xs) le h = ((let a = h.0 in omega arith), h.1)

-- What is in a list is in it with one more number.
pub has-before : (h m : ℕ) (xs : List ℕ) → has_number h xs ≡ true → has_number h (xs ++ m ∷ []) ≡ true
has-before h m [] is = (let f : ⊥ = cc in absurd f)
has-before h m (x ∷ xs) is = elim (same-or-not h x) [
  | inl e ↦ subst (λ y. has_number h (y ∷ (xs ++ m ∷ [])) ≡ true) e (has-first h (xs ++ m ∷ []))
  | inr e ↦ has-later h x (xs ++ m ∷ []) (has-before h m xs (sym (has-other h x xs e) ∙ is))
]

-- The last of some numbers is among them.
pub has-last : (m : ℕ) (xs : List ℕ) → has_number m (xs ++ m ∷ []) ≡ true
has-last m [] = has-first m []
has-last m (x ∷ xs) = has-later m x (xs ++ m ∷ []) (has-last m xs)

-- What is in a list with one more number is in the list, or is that number.
pub has-appended : (h m : ℕ) (xs : List ℕ) → has_number h (xs ++ m ∷ []) ≡ true → (has_number h xs ≡ true) ⊎ (h ≡ m)
has-appended h m [] is = elim (same-or-not h m) [
  | inl e ↦ inr e
  | inr e ↦ (let q : false ≡ true = sym (ap (λ b. b || false) (equal-other h m e)) ∙ is in let f : ⊥ = cc in absurd f)
]
has-appended h m (x ∷ xs) is = elim (same-or-not h x) [
  | inl e ↦ inl (subst (λ y. has_number h (y ∷ xs) ≡ true) e (has-first h xs))
  | inr e ↦ elim (has-appended h m xs (sym (has-other h x (xs ++ m ∷ []) e) ∙ is)) [
    | inl b ↦ inl (has-later h x xs b)
    | inr b ↦ inr b
  ]
]

-- What a request names its operation holds.
pub holds-named : (h : ℕ) (made : Option ℕ) (names : List ℕ) → has_number h names ≡ true → has_number h (with_made made names) ≡ true
holds-named h None names is = is
holds-named h (Some m) names is = has-before h m names is

-- What an operation holds its request names, or it made it.
pub holds-either : (h : ℕ) (made : Option ℕ) (names : List ℕ) → has_number h (with_made made names) ≡ true →
    (has_number h names ≡ true) ⊎ (made ≡ Some h)
holds-either h None names is = inl is
holds-either h (Some m) names is = elim (has-appended h m names is) [ inl b ↦ inl b | inr b ↦ inr (ap Some (sym b)) ]

-- A number below those that rise isn't among them.
pub ascends-not : (h k : ℕ) (xs : List ℕ) → h < k → Ascends k xs → has_number h xs ≡ false
ascends-not h k [] lt a = refl
ascends-not h k (x ∷ xs) lt a =
    let l : h < x = (let b = a.0 in omega arith) in
    has-other h x xs (λ e. omega (arith, e, l)) ∙ ascends-not h (suc x) xs (omega arith) a.1

-- Those that pass a test rise too.
pub filter-ascends : (p : ℕ → Bool) (k : ℕ) (xs : List ℕ) → Ascends k xs → Ascends k (filter p xs)
filter-ascends p k [] h = tt
filter-ascends p k (x ∷ xs) h = elim (p x) as (λ b. Ascends k (cond b (x ∷ filter p xs) (filter p xs))) [
  | true ↦ (h.0, filter-ascends p (suc x) xs h.1)
  | false ↦ ascends-lower k (suc x) (filter p xs) (let a = h.0 in omega arith) (filter-ascends p (suc x) xs h.1)
]

-- What passes a test and is in a list is among those that pass it.
pub filter-has : (p : ℕ → Bool) (h : ℕ) (xs : List ℕ) → has_number h (filter p xs) ≡ (has_number h xs && p h)
filter-has p h [] = refl
filter-has p h (x ∷ xs) = elim (same-or-not h x) [
  | inl e ↦ here e (filter-has p h xs) (p x) refl ∙ sym (ap (λ b. b && p h) (subst (λ y. has_number h (y ∷ xs) ≡ true) e (has-first h xs)))
  | inr e ↦ there e (p x) ∙ filter-has p h xs ∙ sym (ap (λ b. b && p h) (has-other h x xs e))
]
  where
    here : h ≡ x → has_number h (filter p xs) ≡ (has_number h xs && p h) → (b : Bool) → p x ≡ b →
        has_number h (cond b (x ∷ filter p xs) (filter p xs)) ≡ p h
    here e rest true is = subst (λ y. has_number h (y ∷ filter p xs) ≡ true) e (has-first h (filter p xs)) ∙ sym (ap p e ∙ is)
    here e rest false is =
        rest ∙ ap (λ b. has_number h xs && b) (ap p e ∙ is) ∙ and-false (has_number h xs) ∙ sym (ap p e ∙ is)

    there : h ≢ x → (b : Bool) → has_number h (cond b (x ∷ filter p xs) (filter p xs)) ≡ has_number h (filter p xs)
    there e true = has-other h x (filter p xs) e
    there e false = refl

-- So many numbers from k on.
abbrev numbers_from : ℕ → ℕ → List ℕ
numbers_from k zero = []
numbers_from k (suc count) = k ∷ numbers_from (suc k) count

-- One more.
from-next : (k count : ℕ) → numbers_from k (suc count) ≡ numbers_from k count ++ (k + count) ∷ []
from-next k zero = ap (λ n. n ∷ []) (let e : k ≡ k + 0 = omega arith in e)
from-next k (suc count) =
    ap (λ ns. k ∷ ns) (from-next (suc k) count)
    ∙ ap (λ n. (k ∷ numbers_from (suc k) count) ++ n ∷ []) (let e : suc k + count ≡ k + suc count = omega arith in e)

-- The numbers below n are the first n from 0.
below-from : (n : ℕ) → numbers_below n ≡ numbers_from 0 n
below-from zero = refl
below-from (suc n) =
    ap (λ ns. ns ++ n ∷ []) (below-from n)
    ∙ ap (λ m. numbers_from 0 n ++ m ∷ []) (let e : n ≡ 0 + n = omega arith in e)
    ∙ sym (from-next 0 n)

-- They rise.
from-ascends : (k count : ℕ) → Ascends k (numbers_from k count)
from-ascends k zero = tt
from-ascends k (suc count) = (omega arith, from-ascends (suc k) count)

-- What is among them is below their end.
from-has : (h k count : ℕ) → has_number h (numbers_from k count) ≡ true → h < k + count
from-has h k zero is = (let f : ⊥ = cc in absurd f)
from-has h k (suc count) is = elim (same-or-not h k) [
  | inl e ↦ omega (arith, e)
  | inr e ↦ (let r = from-has h (suc k) count (sym (has-other h k (numbers_from (suc k) count) e) ∙ is) in omega arith)
]

-- What is between is among them.
has-from : (h k count : ℕ) → k ≤ h → h < k + count → has_number h (numbers_from k count) ≡ true
has-from h k zero le lt = absurd (omega arith)
has-from h k (suc count) le lt = elim (same-or-not h k) [
  | inl e ↦ subst (λ y. has_number h (y ∷ numbers_from (suc k) count) ≡ true) e (has-first h (numbers_from (suc k) count))
  | inr e ↦ has-later h k (numbers_from (suc k) count) (has-from h (suc k) count (omega (arith, e)) (omega arith))
]

-- The handles whose holders became none rise.
pub became-ascends : (old new : Ledger) → Ascends 0 (became_unheld old new)
became-ascends old new =
    filter-ascends (λ h. not (is_unheld old h) && is_unheld new h) 0 (numbers_below (length old.owners))
    (subst (Ascends 0) (sym (below-from (length old.owners))) (from-ascends 0 (length old.owners)))

-- A handle's holders became none: somebody held it, and nobody does.
pub record Became (old new : Ledger) (h : ℕ) : Type 0 where
  pub held : is_unheld old h ≡ false
  pub unheld : is_unheld new h ≡ true
  pub there : h < length old.owners

-- Which handles these are.
became-has : (old new : Ledger) (h : ℕ) →
    has_number h (became_unheld old new)
    ≡ (has_number h (numbers_from 0 (length old.owners)) && (not (is_unheld old h) && is_unheld new h))
became-has old new h =
    filter-has (λ k. not (is_unheld old k) && is_unheld new k) h (numbers_below (length old.owners))
    ∙ ap (λ ns. has_number h ns && (not (is_unheld old h) && is_unheld new h)) (below-from (length old.owners))

-- Each of them became so.
pub became-is : (old new : Ledger) (h : ℕ) → has_number h (became_unheld old new) ≡ true → Became old new h
became-is old new h is =
    let all = sym (became-has old new h) ∙ is in
    let among = and-left (has_number h (numbers_from 0 (length old.owners))) (not (is_unheld old h) && is_unheld new h) all in
    let both = and-right (has_number h (numbers_from 0 (length old.owners))) (not (is_unheld old h) && is_unheld new h) all in
    let below = from-has h 0 (length old.owners) among in
    record {
      held = not-passes (is_unheld old h) (and-left (not (is_unheld old h)) (is_unheld new h) both);
      unheld = and-right (not (is_unheld old h)) (is_unheld new h) both;
      there = omega arith;
    }

-- Each that became so is among them.
pub is-became : (old new : Ledger) (h : ℕ) → Became old new h → has_number h (became_unheld old new) ≡ true
is-became old new h b =
    became-has old new h
    ∙ ap (λ c. c && (not (is_unheld old h) && is_unheld new h))
    (has-from h 0 (length old.owners) (omega arith) (let t = b.there in omega arith))
    ∙ ap (λ c. not c && is_unheld new h) b.held ∙ b.unheld

-- Tests that agree on numbers let the same ones pass.
filter-from : (p q : ℕ → Bool) (k count : ℕ) → ((h : ℕ) → k ≤ h → h < k + count → p h ≡ q h) →
    filter p (numbers_from k count) ≡ filter q (numbers_from k count)
filter-from p q k zero agree = refl
filter-from p q k (suc count) agree =
    ap (λ b. cond b (k ∷ filter p (numbers_from (suc k) count)) (filter p (numbers_from (suc k) count)))
    (agree k (omega arith) (omega arith))
    ∙ ap (λ ns. cond (q k) (k ∷ ns) ns) (filter-from p q (suc k) count (λ h le lt. agree h (omega arith) (omega arith)))

-- No number passes a test that always fails.
filter-none : (xs : List ℕ) → filter (λ h. false) xs ≡ []
filter-none [] = refl
filter-none (x ∷ xs) = filter-none xs

-- Two tests, one after the other.
filter-both : (p q : ℕ → Bool) (xs : List ℕ) → filter (λ h. p h && q h) xs ≡ filter q (filter p xs)
filter-both p q [] = refl
filter-both p q (x ∷ xs) =
    elim (p x) as (λ b. cond (b && q x) (x ∷ filter (λ h. p h && q h) xs) (filter (λ h. p h && q h) xs)
    ≡ filter q (cond b (x ∷ filter p xs) (filter p xs))) [
      | true ↦ ap (λ ns. cond (q x) (x ∷ ns) ns) (filter-both p q xs)
      | false ↦ filter-both p q xs
    ]

-- Of numbers from k on those in a list that rises are that list.
filter-named : (names : List ℕ) (k count : ℕ) → Ascends k names → ((h : ℕ) → has_number h names ≡ true → h < k + count) →
    filter (λ h. has_number h names) (numbers_from k count) ≡ names
filter-named [] k count rises below = filter-none (numbers_from k count)
filter-named (x ∷ xs) k zero rises below = absurd (let b = below x (has-first x xs) in let a = rises.0 in omega (arith, a, b))
filter-named (x ∷ xs) k (suc count) rises below =
    let rest : List ℕ = filter (λ h. has_number h (x ∷ xs)) (numbers_from (suc k) count) in
    elim (same-or-not k x) [
      | inl e ↦ ap (λ b. cond b (k ∷ rest) rest) (subst (λ y. has_number k (y ∷ xs) ≡ true) e (has-first k xs))
          ∙ ap (λ ns. k ∷ ns)
          (filter-from (λ h. has_number h (x ∷ xs)) (λ h. has_number h xs) (suc k) count
          (λ h le lt. has-other h x xs (λ f. omega (arith, e, f, le)))
          ∙ filter-named xs (suc k) count (subst (λ y. Ascends (suc y) xs) (sym e) rises.1)
          (λ h is. (let b = below h (has-later h x xs is) in omega arith)))
          ∙ ap (λ y. y ∷ xs) e
      | inr e ↦ (
          let later : suc k ≤ x = (let a = rises.0 in omega (arith, e, a)) in
          ap (λ b. cond b (k ∷ rest) rest) (ascends-not k (suc k) (x ∷ xs) (omega arith) (later, rises.1))
          ∙ filter-named (x ∷ xs) (suc k) count (later, rises.1) (λ h is. (let b = below h is in omega arith)))
    ]

-- A test and its opposite never both pass.
not-both : (b : Bool) → (not b && b) ≡ false
not-both true = refl
not-both false = refl

module _ (L : Ledger) (n : ℕ) (o : Operation) (there : slice_get L.ops n ≡ Some o) (live : is_live o ≡ true) where
  -- Whether a handle's holders became none once an operation is gone: it held the handle, and nobody holds it.
  became-test : (h : ℕ) → (not (is_unheld L h) && is_unheld (with_gone L n) h)
      ≡ (has_number h (holds o) && is_unheld (with_gone L n) h)
  became-test h = by (has_number h (holds o)) refl
    where
      holding : (b : Bool) → has_number h (holds o) ≡ b → is_holding h o ≡ b
      holding b is = ap (λ c. c && has_number h (holds o)) live ∙ is

      by : (b : Bool) → has_number h (holds o) ≡ b →
          (not (is_unheld L h) && is_unheld (with_gone L n) h) ≡ (b && is_unheld (with_gone L n) h)
      by true is = ap (λ c. not c && is_unheld (with_gone L n) h) (held-by_op L h n o there (holding true is))
      by false is =
          let same : is_unheld (with_gone L n) h ≡ is_unheld L h = unheld-at L (with_gone L n) h refl
          (holding-gone-other L n h (λ p at.
          (let q : o ≡ p = (let w = sym there ∙ at in cc) in sym (ap (is_holding h) q) ∙ holding false is))) in
          ap (λ c. not (is_unheld L h) && c) same ∙ not-both (is_unheld L h)

  -- Once an operation is gone, the handles whose holders became none are those that it held and that nobody holds.
  pub became-held : AreKnown L → Ascends 0 (holds o) →
      became_unheld L (with_gone L n) ≡ filter (is_unheld (with_gone L n)) (holds o)
  became-held known rises =
      let count : ℕ = length L.owners in
      ap (filter (λ h. not (is_unheld L h) && is_unheld (with_gone L n) h)) (below-from count)
      ∙ filter-from (λ h. not (is_unheld L h) && is_unheld (with_gone L n) h)
      (λ h. has_number h (holds o) && is_unheld (with_gone L n) h) 0 count (λ h le lt. became-test h)
      ∙ filter-both (λ h. has_number h (holds o)) (is_unheld (with_gone L n)) (numbers_from 0 count)
      ∙ ap (filter (is_unheld (with_gone L n)))
      (filter-named (holds o) 0 count rises (λ h is. (let k = known.known n h o there is in omega arith)))
