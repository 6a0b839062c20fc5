-- Which keys a page has.
use Rattle.std.proofs.Common.{◌≡◌, ℕ, zero, suc, ◌+◌, ◌-◌, ◌*◌, ◌/◌, ◌^◌, ◌<◌, ◌≤◌, min, inl, inr, sym, ap, ◌∙◌, arith}
use Rattle.std.proofs.Math.Nat.{pow-suc, pow-le-pow_right}
use Rattle.std.proofs.lemmas.Nat.{leading_length, pow_pos, pow-add}
use Rattle.std.proofs.lemmas.Bool.{cases_lt}
use Rattle.op_slots.specs.declared.slab.TheConstants.{MAX_LIVE}
use Rattle.op_slots.specs.declared.slab.pages.TheConstants.{NUM_PAGES, PAGE_INITIAL_SIZE}
use Rattle.op_slots.specs.Pages.{page_of, places_on, first_key, binary_digits}

-- the next power of two is twice as great
pub doubled : (i : ℕ) → 2 ^ suc i ≡ 2 * 2 ^ i
doubled i = omega (arith, pow-suc 2 i)

-- behind a page the next one begins
pub next_first : (i : ℕ) → first_key i + places_on i ≡ first_key (suc i)
next_first i = omega (arith, doubled i, pow_pos i)

-- a later page begins later
pub first-mono : (i j : ℕ) → i ≤ j → first_key i ≤ first_key j
first-mono i j le = let pow : 2 ^ i ≤ 2 ^ j = pow-le-pow_right (omega arith) le in omega arith

-- of two pages the one that begins below the other's first key is the earlier one
pub first-less : (i j : ℕ) → first_key i < first_key j → i < j
first-less i j less = elim (cases_lt i j) [ inl lt ↦ lt | inr ge ↦ absurd (omega (arith, first-mono j i ge)) ]

-- no page ends behind the bound on keys
pub first-bound : (i : ℕ) → i ≤ NUM_PAGES → first_key i ≤ MAX_LIVE
first-bound i few = first-mono i NUM_PAGES few

-- a number, and how many binary digits it has
record HasDigits (n m : ℕ) : Type 0 where
  above : n < 2 ^ m
  below : 2 ^ m ≤ 2 * n + 1

-- the binary digits of a number
digits : (n : ℕ) → n < 2 ^ 64 → HasDigits n (binary_digits n)
digits n fits =
    let d = leading_length 64 n fits in
    let e : binary_digits n ≡ d.0 = omega (arith, d.1) in
    rw e (record { above = d.2; below = d.3 })

-- the number whose binary digits name the page of a key
abbrev naming : ℕ → ℕ
naming key = min (key + PAGE_INITIAL_SIZE) (2 ^ 64 - 1) / (2 * PAGE_INITIAL_SIZE)

-- a page that is named by the digits of a number begins at or below it
begins : (key n m : ℕ) → n ≤ (key + PAGE_INITIAL_SIZE) / (2 * PAGE_INITIAL_SIZE) → 2 ^ m ≤ 2 * n + 1 → first_key m ≤ key
begins key n zero le below = omega arith
begins key n (suc m) le below = omega (arith, doubled m)

-- the page of a key begins at or below it
pub page_of-first : (key : ℕ) → key < 2 ^ 64 → first_key (page_of key) ≤ key
unfolding page_of
page_of-first key fits =
    let n = naming key in
    let d = digits n (omega arith) in
    let pow : 2 ^ (min (binary_digits n) (NUM_PAGES - 1)) ≤ 2 ^ binary_digits n = pow-le-pow_right (omega arith) (omega arith) in
    begins key n (min (binary_digits n) (NUM_PAGES - 1)) (omega arith) (omega (arith, pow, d.below))

-- there are `NUM_PAGES` pages
pub page_of-few : (key : ℕ) → page_of key < NUM_PAGES
unfolding page_of
page_of-few key = omega arith

-- a key ends before the page after its own begins
pub page_of-last : (key : ℕ) → key < MAX_LIVE → key < first_key (page_of key) + places_on (page_of key)
unfolding page_of
page_of-last key below =
    let n = naming key in
    let d = digits n (omega arith) in
    by_digits (binary_digits n) d.above
  where
    by_digits : (m : ℕ) → naming key < 2 ^ m → key < first_key (min m (NUM_PAGES - 1)) + places_on (min m (NUM_PAGES - 1))
    by_digits m above =
        elim (cases_lt m (NUM_PAGES - 1)) [
          | inl lt ↦ (let e : min m (NUM_PAGES - 1) ≡ m = omega arith in rw e (omega (arith, above, pow_pos m)))
          | inr ge ↦ (let e : min m (NUM_PAGES - 1) ≡ NUM_PAGES - 1 = omega arith in rw e (omega (arith, below)))
        ]

-- a page is that of each key between its first one and its last one
pub page_of-at : (key i : ℕ) → i < NUM_PAGES → first_key i ≤ key → key < first_key i + places_on i → page_of key ≡ i
page_of-at key i few first last =
    let bound = first-bound (suc i) (omega arith) in
    let next = next_first i in
    let begin = page_of-first key (omega arith) in
    let end = page_of-last key (omega arith) in
    let after = next_first (page_of key) in
    let low : page_of key < suc i = first-less (page_of key) (suc i) (omega arith) in
    let high : i < suc (page_of key) = first-less i (suc (page_of key)) (omega arith) in
    omega arith

-- the highest binary digit of a key and `PAGE_INITIAL_SIZE` names its page
pub page_of-digit : (key r : ℕ) → key < MAX_LIVE → 2 ^ r ≤ key + PAGE_INITIAL_SIZE → key + PAGE_INITIAL_SIZE < 2 * 2 ^ r
    → (6 ≤ r) × (r - 6 ≡ page_of key)
page_of-digit key r below above next =
    elim (cases_lt r 6) [
      | inl lt ↦ (let pow : 2 ^ suc r ≤ 2 ^ 6 = pow-le-pow_right (omega arith) lt in absurd (omega (arith, pow, doubled r)))
      | inr ge ↦ (ge, by_page (r - 6) (omega (arith, ge)))
    ]
  where
    by_page : (i : ℕ) → i + 6 ≡ r → i ≡ page_of key
    by_page i is =
        let pow : 2 ^ r ≡ 2 ^ i * PAGE_INITIAL_SIZE = ap (λ n. 2 ^ n) (sym is) ∙ pow-add 2 i 6 in
        sym (page_of-at key i (few i pow) (omega arith) (omega arith))
      where
        few : (i : ℕ) → 2 ^ r ≡ 2 ^ i * PAGE_INITIAL_SIZE → i < NUM_PAGES
        few i pow = elim (cases_lt i NUM_PAGES) [
          | inl lt ↦ lt
          | inr ge ↦ (let more : 2 ^ 26 ≤ 2 ^ i = pow-le-pow_right (omega arith) ge in absurd (omega (arith, more, pow)))
        ]

-- a number that is no key is answered with the last page
pub page_of-past : (key : ℕ) → MAX_LIVE ≤ key → page_of key ≡ NUM_PAGES - 1
unfolding page_of
page_of-past key past = by_digits (naming key) (omega arith) (omega arith)
  where
    by_digits : (n : ℕ) → n < 2 ^ 64 → 33554432 ≤ n → min (binary_digits n) (NUM_PAGES - 1) ≡ NUM_PAGES - 1
    by_digits n fits many =
        let d = digits n fits in
        elim (cases_lt (binary_digits n) (NUM_PAGES - 1)) [
          | inl lt ↦ (let ends : binary_digits n ≤ NUM_PAGES - 1 = omega (arith, lt) in
              let pow : 2 ^ binary_digits n ≤ 2 ^ (NUM_PAGES - 1) = pow-le-pow_right (omega arith) ends in
              absurd (omega (arith, pow, d.above)))
          | inr ge ↦ omega (arith, ge)
        ]
