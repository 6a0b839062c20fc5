-- The members of a group, by whose its operations are: which they are once those change of which an operation is its user's.
use Rattle.std.proofs.Common.{◌≡◌, ◌≢◌, ◌⊎◌, inl, inr, ℕ, zero, suc, ◌≤◌, ◌<◌, Bool, true, false, not, List, [], ◌∷◌, ◌++◌, length}
use Rattle.std.proofs.Common.{Option, Some, option_map, slice_get, refl, sym, ◌∙◌, ap, subst, arith, true≢false, eq-eqb}
use Rattle.std.specs.Prelude.{if◌then◌else◌, filter, ◌==◌, ◌&&◌}
use Rattle.std.proofs.lemmas.List.{length-map}
use Rattle.std.proofs.lemmas.Option.{slice_get_within}
use Rattle.machine.specs.Lists.{numbers_where, has_number, passes}
use Rattle.machine.specs.Ledger.{Ledger, is_marked, is_member, members}
use Rattle.machine.proofs.Amended.{get-map}
use Rattle.machine.proofs.Appended.{get-append-within, get-append-end}
use Rattle.machine.proofs.Grouping.{op_groups}
use Rattle.machine.proofs.Leaving.{Ascends, ascends-not, has-first, has-later, has-other, has-before, has-last, has-appended}
use Rattle.machine.proofs.Leaving.{filter-ascends, filter-has}
use Rattle.machine.proofs.Members.{MemberAt, members-are, are-members, members-ascend}
use Rattle.machine.proofs.Numbers.{same-or-not, below-or-above, equal-other, and-left, and-right, not-passes}
use Rattle.machine.proofs.Stepping.{OwnedAt}

-- Two tests are the same where each passes when the other does.
pub same-tests : (a b : Bool) → (a ≡ true → b ≡ true) → (b ≡ true → a ≡ true) → a ≡ b
same-tests true true f g = refl
same-tests true false f g = sym (f refl)
same-tests false true f g = g refl
same-tests false false f g = refl

-- Numbers that rise are the same where each number is in both or in neither.
pub ascends-same : (k : ℕ) (xs ys : List ℕ) → Ascends k xs → Ascends k ys → ((n : ℕ) → has_number n xs ≡ has_number n ys) → xs ≡ ys
ascends-same k [] [] a b same = refl
ascends-same k [] (y ∷ ys) a b same = absurd (true≢false (sym (has-first y ys) ∙ sym (same y)))
ascends-same k (x ∷ xs) [] a b same = absurd (true≢false (sym (has-first x xs) ∙ same x))
ascends-same k (x ∷ xs) (y ∷ ys) a b same = elim (same-or-not x y) [
  | inl e ↦
      let rise : Ascends (suc x) ys = subst (λ z. Ascends (suc z) ys) (sym e) b.1 in
      let rest : (n : ℕ) → has_number n xs ≡ has_number n ys = λ n. elim (same-or-not n x) [
        | inl q ↦ ascends-not n (suc x) xs (omega (arith, q)) a.1 ∙ sym (ascends-not n (suc x) ys (omega (arith, q)) rise)
        | inr q ↦ sym (has-other n x xs q) ∙ same n ∙ has-other n y ys (λ r. q (r ∙ sym e))
      ] in
      ap (λ z. z ∷ xs) e ∙ ap (λ zs. y ∷ zs) (ascends-same (suc x) xs ys a.1 rise rest)
  | inr e ↦ elim (below-or-above x y e) [
    | inl lt ↦ absurd (true≢false (sym (has-first x xs) ∙ same x ∙ ascends-not x y (y ∷ ys) lt (omega arith, b.1)))
    | inr gt ↦ absurd (true≢false (sym (has-first y ys) ∙ sym (same y) ∙ ascends-not y x (x ∷ xs) gt (omega arith, a.1)))
  ]
]

-- Numbers that rise, with a greater one behind them, rise.
ascends-last : (j k : ℕ) (xs : List ℕ) → Ascends j xs → ((q : ℕ) → has_number q xs ≡ true → q < k) → j ≤ k → Ascends j (xs ++ k ∷ [])
ascends-last j k [] a below le = (le, tt)
ascends-last j k (x ∷ xs) a below le =
    (a.0, ascends-last (suc x) k xs a.1 (λ q h. below q (has-later q x xs h)) (let b = below x (has-first x xs) in omega (arith, b)))

-- A marked group has no members.
pub members-marked : (L : Ledger) (g : ℕ) → is_marked L g ≡ true → members L g ≡ []
members-marked L g marked = ap (λ b. if b then [] else numbers_where (is_member g) 0 L.ops) marked

-- The members of a group that isn't marked are these numbers, which rise, where each of them is a member, and each member is one.
members-by : (M : Ledger) (g : ℕ) (xs : List ℕ) → is_marked M g ≡ false → Ascends 0 xs →
    ((n : ℕ) → has_number n xs ≡ true → MemberAt M g n) → ((n : ℕ) → MemberAt M g n → has_number n xs ≡ true) → members M g ≡ xs
members-by M g xs unmarked rise are all =
    ascends-same 0 (members M g) xs (members-ascend M g) rise (λ n. same-tests (has_number n (members M g)) (has_number n xs)
    (λ h. all n (members-are M g n unmarked h)) (λ h. are-members M g n unmarked (are n h)))

-- The group of an operation.
group-is : (L : Ledger) (n : ℕ) (o : OwnedAt L n) → slice_get (op_groups L) n ≡ Some o.operation.group
group-is L n o = get-map (λ x. x.group) L.ops n ∙ ap (option_map (λ x. x.group)) o.there

-- A member is an operation of its user's, and is under that group.
pub member-owned : (L : Ledger) (g n : ℕ) → MemberAt L g n → OwnedAt L n × (slice_get (op_groups L) n ≡ Some (Some g))
member-owned L g n m =
    let o : OwnedAt L n = record { operation = m.operation; there = m.there; kept = m.kept; undropped = m.undropped } in
    (o, group-is L n o ∙ ap Some m.under)

-- What is so is a member.
pub owned-member : (L : Ledger) (g n : ℕ) → OwnedAt L n → slice_get (op_groups L) n ≡ Some (Some g) → MemberAt L g n
owned-member L g n o at =
    let same : Some o.operation.group ≡ Some (Some g) = sym (group-is L n o) ∙ at in
    record { operation = o.operation; there = o.there; under = cc; kept = o.kept; undropped = o.undropped }

-- Where the same operations are their user's, a group has the same members.
pub members-kept : (L M : Ledger) (g : ℕ) → is_marked M g ≡ is_marked L g → op_groups M ≡ op_groups L →
    ((n : ℕ) → OwnedAt L n → OwnedAt M n) → ((n : ℕ) → OwnedAt M n → OwnedAt L n) → members M g ≡ members L g
members-kept L M g mark groups into from = by (is_marked L g) refl
  where
    by : (b : Bool) → is_marked L g ≡ b → members M g ≡ members L g
    by true e = members-marked M g (mark ∙ e) ∙ sym (members-marked L g e)
    by false e = members-by M g (members L g) (mark ∙ e) (members-ascend L g)
        (λ n h. let w = member-owned L g n (members-are L g n e h) in
        owned-member M g n (into n w.0) (ap (λ gs. slice_get gs n) groups ∙ w.1))
        (λ n m. let w = member-owned M g n m in
        are-members L g n e (owned-member L g n (from n w.0) (ap (λ gs. slice_get gs n) (sym groups) ∙ w.1)))

-- Where one operation is its user's no more, a group has its other members.
pub members-left : (L M : Ledger) (g k : ℕ) → is_marked M g ≡ is_marked L g → op_groups M ≡ op_groups L →
    ((n : ℕ) → n ≢ k → OwnedAt L n → OwnedAt M n) → ((n : ℕ) → OwnedAt M n → OwnedAt L n × (n ≢ k)) →
    members M g ≡ filter (λ m. not (m == k)) (members L g)
members-left L M g k mark groups into from = by (is_marked L g) refl
  where
    by : (b : Bool) → is_marked L g ≡ b → members M g ≡ filter (λ m. not (m == k)) (members L g)
    by true e = members-marked M g (mark ∙ e) ∙ sym (ap (filter (λ m. not (m == k))) (members-marked L g e))
    by false e = members-by M g (filter (λ m. not (m == k)) (members L g)) (mark ∙ e)
        (filter-ascends (λ m. not (m == k)) 0 (members L g) (members-ascend L g))
        (λ n h. let both : (has_number n (members L g) && not (n == k)) ≡ true = sym (filter-has (λ m. not (m == k)) n (members L g)) ∙ h in
        let w = member-owned L g n (members-are L g n e (and-left (has_number n (members L g)) (not (n == k)) both)) in
        let apart : (n == k) ≡ false = not-passes (n == k) (and-right (has_number n (members L g)) (not (n == k)) both) in
        owned-member M g n (into n (λ q. true≢false (sym (eq-eqb n k q) ∙ apart)) w.0) (ap (λ gs. slice_get gs n) groups ∙ w.1))
        (λ n m. let w = member-owned M g n m in
        let was = from n w.0 in
        let is : has_number n (members L g) ≡ true =
        are-members L g n e (owned-member L g n was.0 (ap (λ gs. slice_get gs n) (sym groups) ∙ w.1)) in
        filter-has (λ m. not (m == k)) n (members L g) ∙ ap (λ b. b && not (n == k)) is ∙ ap not (equal-other n k was.1))

-- One more operation is its user's, of the next number.
module _ (L M : Ledger) (k : ℕ) (under : Option ℕ) (groups : op_groups M ≡ op_groups L ++ under ∷ []) (number : k ≡ length L.ops)
    (into : (n : ℕ) → OwnedAt L n → OwnedAt M n) (this : OwnedAt M k) (from : (n : ℕ) → OwnedAt M n → OwnedAt L n ⊎ (n ≡ k)) where
  -- Each other operation has the group that it had.
  group-old : (n : ℕ) → OwnedAt L n → slice_get (op_groups M) n ≡ slice_get (op_groups L) n
  group-old n o =
      ap (λ gs. slice_get gs n) groups
      ∙ get-append-within (op_groups L) under n (slice_get_within (op_groups L) n o.operation.group (group-is L n o))

  -- It has the group that it was submitted under.
  group-new : slice_get (op_groups M) k ≡ Some under
  group-new =
      ap (λ gs. slice_get gs k) groups
      ∙ ap (slice_get (op_groups L ++ under ∷ [])) (number ∙ sym (length-map L.ops (λ o. o.group))) ∙ get-append-end (op_groups L) under

  -- A member that there was is below it.
  below : (g n : ℕ) → is_marked L g ≡ false → has_number n (members L g) ≡ true → n < k
  below g n unmarked h =
      let m = members-are L g n unmarked h in
      let w = slice_get_within L.ops n m.operation m.there in
      omega (arith, w, number)

  -- Its group has it as its last member.
  pub members-more : (g : ℕ) → is_marked M g ≡ false → is_marked L g ≡ false → under ≡ Some g → members M g ≡ members L g ++ k ∷ []
  members-more g now unmarked at = members-by M g (members L g ++ k ∷ []) now
      (ascends-last 0 k (members L g) (members-ascend L g) (λ q h. below g q unmarked h) (omega arith))
      (λ n h. elim (has-appended n k (members L g) h) [
        | inl q ↦ (let w = member-owned L g n (members-are L g n unmarked q) in
            owned-member M g n (into n w.0) (group-old n w.0 ∙ w.1))
        | inr q ↦ subst (λ i. MemberAt M g i) (sym q) (owned-member M g k this (group-new ∙ ap Some at))
      ])
      (λ n m. let w = member-owned M g n m in elim (from n w.0) [
        | inl o ↦ has-before n k (members L g) (are-members L g n unmarked (owned-member L g n o (sym (group-old n o) ∙ w.1)))
        | inr q ↦ subst (λ i. has_number i (members L g ++ k ∷ []) ≡ true) (sym q) (has-last k (members L g))
      ])

  -- Each other group has the members that it had.
  pub members-beside : (g : ℕ) → is_marked M g ≡ is_marked L g → under ≢ Some g → members M g ≡ members L g
  members-beside g mark other = by (is_marked L g) refl
    where
      by : (b : Bool) → is_marked L g ≡ b → members M g ≡ members L g
      by true e = members-marked M g (mark ∙ e) ∙ sym (members-marked L g e)
      by false e = members-by M g (members L g) (mark ∙ e) (members-ascend L g)
          (λ n h. let w = member-owned L g n (members-are L g n e h) in owned-member M g n (into n w.0) (group-old n w.0 ∙ w.1))
          (λ n m. let w = member-owned M g n m in elim (from n w.0) [
            | inl o ↦ are-members L g n e (owned-member L g n o (sym (group-old n o) ∙ w.1))
            | inr q ↦ absurd (other (let same : Some under ≡ Some (Some g) =
                sym group-new ∙ ap (slice_get (op_groups M)) (sym q) ∙ w.1 in cc))
          ])

-- A group that isn't marked may stand behind all: no other is marked by it.
pub marks-more : (marks : List Bool) (g : ℕ) →
    passes (λ mark. mark) (slice_get (marks ++ false ∷ []) g) ≡ passes (λ mark. mark) (slice_get marks g)
marks-more [] zero = refl
marks-more [] (suc g) = refl
marks-more (x ∷ marks) zero = refl
marks-more (x ∷ marks) (suc g) = marks-more marks g
