-- A hash map from handles to keys and a slab with what is kept of each handle: what they have at a handle, after both changed at one.
use Rattle.std.proofs.Common.{◌≡◌, ◌≢◌, ◌∙◌, inl, inr, ℕ, zero, suc, ◌+◌, ◌<◌, Option, Some, None, Bool, true, false, cond, nat_eq}
use Rattle.std.proofs.Common.{option_map, refl, sym, ap, arith, List, [], ◌∷◌, zero-add, get_or}
use Rattle.std.proofs.lemmas.Bool.Decides.{nat_tests}
use Rattle.std.specs.Prelude.{unwrap_or, is_some}
use Rattle.std.specs.Map.{lookup}
use Rattle.std.specs.HashMap.{HashMap, get_by}
use Rattle.slab.specs.Slab.{Slab, get as slot_at, entries_from, slab_len, with_value, Updates as ChangesSlot}
use Rattle.slab.proofs.SlabLemmas.{ContainsKey-within}
use Rattle.std.proofs.lemmas.List.Sums.{sum_by-set}
use Rattle.machine.proofs.Numbers.{same-or-not}
use Rattle.ready_driver.specs.declared.records.One.{One}
use Rattle.ready_driver.specs.Records.{one_at, no_one, IsPlaced, IsPaired}

-- A number is equal to itself.
pub equal-same : (n : ℕ) → nat_eq n n ≡ true
equal-same n = grind (arith, nat_tests)

-- It is equal to no other.
pub equal-not : (n m : ℕ) → n ≢ m → nat_eq n m ≡ false
equal-not n m other = grind (arith, nat_tests)

-- Numbers that are equal by the test are the same.
pub equal-is : (n m : ℕ) → nat_eq n m ≡ true → n ≡ m
equal-is n m same = grind (arith, nat_tests)

-- Numbers that the test tells apart aren't the same.
pub apart-not : (n m : ℕ) → nat_eq n m ≡ false → n ≢ m
apart-not n m apart = λ same. (
    let f : ◌≡◌ {A = Bool} true false = sym (equal-same n) ∙ ap (nat_eq n) same ∙ apart in
    let g : ⊥ = cc in g)

-- What was found is one thing alone.
pub some-same : {X : Type 0} (a b : X) → Some a ≡ Some b → a ≡ b
some-same a b is = ap (λ x. unwrap_or x a) is

-- The entries of slots have no key in front of the first one.
before-first : {X : Type 0} (first q : ℕ) (slots : List (Option X)) → q < first → lookup (nat_eq q) (entries_from first slots) ≡ None
before-first first q [] less = refl
before-first first q (None ∷ rest) less = before-first (first + 1) q rest (omega (arith, less))
before-first first q (Some value ∷ rest) less =
    ap (λ b. cond b (Some value) (lookup (nat_eq q) (entries_from (first + 1) rest))) (apart less)
    ∙ before-first (first + 1) q rest (omega (arith, less))
  where
    apart : q < first → nat_eq q first ≡ false
    apart less = grind (arith, nat_tests)

-- They have at a key what its slot has.
slot-looked : {X : Type 0} (first at : ℕ) (slots : List (Option X)) →
    lookup (nat_eq (first + at)) (entries_from first slots) ≡ get_or slots at None
slot-looked first at [] = refl
slot-looked first zero (None ∷ rest) = before-first (first + 1) (first + 0) rest (omega arith)
slot-looked first (suc at) (None ∷ rest) =
    let shift : first + suc at ≡ first + 1 + at = omega arith in
    ap (λ q. lookup (nat_eq q) (entries_from (first + 1) rest)) shift ∙ slot-looked (first + 1) at rest
slot-looked first zero (Some value ∷ rest) =
    ap (λ b. cond b (Some value) (lookup (nat_eq (first + 0)) (entries_from (first + 1) rest))) here
  where
    here : nat_eq (first + 0) first ≡ true
    here = grind (arith, nat_tests)
slot-looked first (suc at) (Some value ∷ rest) =
    let shift : first + suc at ≡ first + 1 + at = omega arith in
    ap (λ b. cond b (Some value) (lookup (nat_eq (first + suc at)) (entries_from (first + 1) rest))) past
    ∙ ap (λ q. lookup (nat_eq q) (entries_from (first + 1) rest)) shift ∙ slot-looked (first + 1) at rest
  where
    past : nat_eq (first + suc at) first ≡ false
    past = grind (arith, nat_tests)

-- So it is of a slab.
pub slab-looked : {X : Type 0} (slab : Slab X) (key : ℕ) → lookup (nat_eq key) (entries_from 0 slab.slots) ≡ slot_at slab key
slab-looked slab key = ap (λ q. lookup (nat_eq q) (entries_from 0 slab.slots)) (sym (zero-add key)) ∙ slot-looked 0 key slab.slots

-- A slab that changed at a key has that there, and at each other key what it had.
pub slot-after : {X : Type 0} (old new : Slab X) (key : ℕ) (slot : Option X) → ChangesSlot old new key slot → (k : ℕ) →
    slot_at new k ≡ cond (nat_eq key k) slot (slot_at old k)
slot-after old new key slot changes k = elim (same-or-not k key) [
  | inl e ↦
      ap (slot_at new) e ∙ changes.changed
      ∙ ap (λ b. cond b slot (slot_at old k)) (sym (ap (nat_eq key) e ∙ equal-same key))
  | inr e ↦
      changes.others k e ∙ ap (λ b. cond b slot (slot_at old k)) (sym (equal-not key k (λ same. e (sym same))))
]

-- A slab has as many values once one of them was written.
pub len-written : {X : Type 0} (slab : Slab X) (key : ℕ) (was now : X) → slot_at slab key ≡ Some was →
    slab_len (with_value slab key now) ≡ slab_len slab
len-written slab key was now at =
    let counted = sum_by-set (λ o. cond (is_some o) 1 0) slab.slots key (Some now) None
    (ContainsKey-within slab key (ap is_some at)) in
    let one : ◌≡◌ {A = ℕ} (cond (is_some (slot_at slab key)) 1 0) 1 = ap (λ x. cond (is_some x) 1 0) at in
    omega (arith, counted, one)

-- What a hash map and a slab have at a handle, in part.
abbrev pub part_at : {S Y : Type 0} → (One → Y) → HashMap ℕ ℕ S → Slab One → ℕ → Option Y
part_at part keys slab h = option_map (λ key. part (one_at slab key)) (get_by (nat_eq h) keys)

-- Both changed at a handle and its key: to this, or to none.
pub record AreChanged {S : Type 0} (keys new_keys : HashMap ℕ ℕ S) (slab new_slab : Slab One) (h key : ℕ) (now : Option One) : Type 0 where
  pub keys_are : (q : ℕ) → get_by (nat_eq q) new_keys ≡ cond (nat_eq h q) (option_map (λ one. key) now) (get_by (nat_eq q) keys)
  pub slots_are : (k : ℕ) → slot_at new_slab k ≡ cond (nat_eq key k) now (slot_at slab k)
  pub apart : (q k : ℕ) → nat_eq h q ≡ false → get_by (nat_eq q) keys ≡ Some k → nat_eq key k ≡ false
  pub mine : (k : ℕ) → get_by (nat_eq h) keys ≡ Some k → k ≡ key

module _ {S Y : Type 0} (keys new_keys : HashMap ℕ ℕ S) (slab new_slab : Slab One) (h key : ℕ) (part : One → Y) where
  -- What they have of another handle.
  part-other : (now : Option One) → AreChanged keys new_keys slab new_slab h key now → (q : ℕ) → nat_eq h q ≡ false →
      (found : Option ℕ) → get_by (nat_eq q) keys ≡ found →
      option_map (λ k. part (one_at new_slab k)) found ≡ option_map (λ k. part (one_at slab k)) found
  part-other now changed q other None is = refl
  part-other now changed q other (Some k) is =
      ap (λ x. Some (part (unwrap_or x no_one)))
      (changed.slots_are k ∙ ap (λ b. cond b now (slot_at slab k)) (changed.apart q k other is))

  -- What they have once one was put there.
  pub part-put : (now : One) → AreChanged keys new_keys slab new_slab h key (Some now) → (q : ℕ) →
      part_at part new_keys new_slab q ≡ cond (nat_eq h q) (Some (part now)) (part_at part keys slab q)
  part-put now changed q = ap (option_map (λ k. part (one_at new_slab k))) (changed.keys_are q) ∙ by (nat_eq h q) refl
    where
      by : (b : Bool) → nat_eq h q ≡ b →
          option_map (λ k. part (one_at new_slab k)) (cond b (Some key) (get_by (nat_eq q) keys))
          ≡ cond b (Some (part now)) (part_at part keys slab q)
      by true is = ap (λ x. Some (part (unwrap_or x no_one)))
          (changed.slots_are key ∙ ap (λ b. cond b (Some now) (slot_at slab key)) (equal-same key))
      by false is = part-other (Some now) changed q is (get_by (nat_eq q) keys) refl

  -- What they have once it was taken out.
  pub part-gone : AreChanged keys new_keys slab new_slab h key None → (q : ℕ) →
      part_at part new_keys new_slab q ≡ cond (nat_eq h q) None (part_at part keys slab q)
  part-gone changed q = ap (option_map (λ k. part (one_at new_slab k))) (changed.keys_are q) ∙ by (nat_eq h q) refl
    where
      by : (b : Bool) → nat_eq h q ≡ b →
          option_map (λ k. part (one_at new_slab k)) (cond b None (get_by (nat_eq q) keys)) ≡ cond b None (part_at part keys slab q)
      by true is = refl
      by false is = part-other None changed q is (get_by (nat_eq q) keys) refl

module _ {S : Type 0} (keys : HashMap ℕ ℕ S) (slab : Slab One) (room : ℕ) (paired : IsPaired keys slab room) where
  -- What is at the key of a handle is that handle's.
  pub placed-number : (h key : ℕ) (one : One) → get_by (nat_eq h) keys ≡ Some key → slot_at slab key ≡ Some one → one.number ≡ h
  placed-number h key one there at =
      let place = paired.there h key there in
      ap (λ (o : One). o.number) (some-same one place.one (sym at ∙ place.there)) ∙ place.number

  -- And its record has the key.
  pub placed-key : (h key : ℕ) (one : One) → get_by (nat_eq h) keys ≡ Some key → slot_at slab key ≡ Some one → one.kept.key ≡ key
  placed-key h key one there at =
      let place = paired.there h key there in
      ap (λ (o : One). o.kept.key) (some-same one place.one (sym at ∙ place.there)) ∙ place.keyed

  -- Two handles don't have one key.
  pub keys-apart : (h key : ℕ) → get_by (nat_eq h) keys ≡ Some key → (q k : ℕ) → nat_eq h q ≡ false → get_by (nat_eq q) keys ≡ Some k →
      nat_eq key k ≡ false
  keys-apart h key there q k other is = equal-not key k (λ same.
      let mine = paired.there h key there in
      apart-not h q other (sym mine.number
      ∙ placed-number q k mine.one is (ap (slot_at slab) (sym same) ∙ mine.there)))

  -- The key of nothing is no handle's.
  pub vacant-apart : (key : ℕ) → slot_at slab key ≡ None → (q k : ℕ) → get_by (nat_eq q) keys ≡ Some k → nat_eq key k ≡ false
  vacant-apart key vacant q k is = equal-not key k (λ same.
      let place = paired.there q k is in
      let f : ◌≡◌ {A = Option One} None (Some place.one) = sym vacant ∙ ap (slot_at slab) same ∙ place.there in cc)

-- Where both changed at a handle and its key, to what has its number and the key, or to none, the slab has still each handle at its key,
-- and no other.
module _ {S : Type 0} (keys new_keys : HashMap ℕ ℕ S) (slab new_slab : Slab One) (room : ℕ) (paired : IsPaired keys slab room)
    (h key : ℕ) where
  -- Other handles have their places.
  placed-other : (now : Option One) → AreChanged keys new_keys slab new_slab h key now → (q k : ℕ) → nat_eq h q ≡ false →
      get_by (nat_eq q) keys ≡ Some k → IsPlaced new_slab q k
  placed-other now changed q k other is =
      let place = paired.there q k is in
      record {
        one = place.one;
        there = changed.slots_are k ∙ ap (λ b. cond b now (slot_at slab k)) (changed.apart q k other is) ∙ place.there;
        number = place.number;
        keyed = place.keyed;
      }

  pub there-put : (now : One) → AreChanged keys new_keys slab new_slab h key (Some now) → now.number ≡ h → now.kept.key ≡ key →
      (q k : ℕ) → get_by (nat_eq q) new_keys ≡ Some k → IsPlaced new_slab q k
  there-put now changed number keyed q k is = by (nat_eq h q) refl (sym (changed.keys_are q) ∙ is)
    where
      by : (b : Bool) → nat_eq h q ≡ b → cond b (Some key) (get_by (nat_eq q) keys) ≡ Some k → IsPlaced new_slab q k
      by true same found =
          let mine : key ≡ k = some-same key k found in
          let self : h ≡ q = grind (arith, nat_tests, same) in
          record {
            one = now;
            there = ap (slot_at new_slab) (sym mine) ∙ changed.slots_are key
                ∙ ap (λ b. cond b (Some now) (slot_at slab key)) (equal-same key);
            number = number ∙ self;
            keyed = keyed ∙ mine;
          }
      by false other found = placed-other (Some now) changed q k other found

  pub there-gone : AreChanged keys new_keys slab new_slab h key None → (q k : ℕ) → get_by (nat_eq q) new_keys ≡ Some k →
      IsPlaced new_slab q k
  there-gone changed q k is = by (nat_eq h q) refl (sym (changed.keys_are q) ∙ is)
    where
      by : (b : Bool) → nat_eq h q ≡ b → cond b None (get_by (nat_eq q) keys) ≡ Some k → IsPlaced new_slab q k
      by true same found = (let f : ⊥ = cc in absurd f)
      by false other found = placed-other None changed q k other found

  -- A handle that the slab had at another key isn't the one that changed.
  number-other : (now : Option One) → AreChanged keys new_keys slab new_slab h key now → (k : ℕ) (one : One) → nat_eq key k ≡ false →
      slot_at slab k ≡ Some one → nat_eq h one.number ≡ false
  number-other now changed k one other at = equal-not h one.number (λ same.
      apart-not key k other (sym (changed.mine k (ap (λ q. get_by (nat_eq q) keys) same ∙ paired.named k one at))))

  pub named-put : (now : One) → AreChanged keys new_keys slab new_slab h key (Some now) → now.number ≡ h → (k : ℕ) (one : One) →
      slot_at new_slab k ≡ Some one → get_by (nat_eq one.number) new_keys ≡ Some k
  named-put now changed number k one at = by (nat_eq key k) refl (sym (changed.slots_are k) ∙ at)
    where
      by : (b : Bool) → nat_eq key k ≡ b → cond b (Some now) (slot_at slab k) ≡ Some one →
          get_by (nat_eq one.number) new_keys ≡ Some k
      by true same found =
          let self : key ≡ k = grind (arith, nat_tests, same) in
          ap (λ (o : One). get_by (nat_eq o.number) new_keys) (sym (some-same now one found))
          ∙ ap (λ q. get_by (nat_eq q) new_keys) number ∙ changed.keys_are h
          ∙ ap (λ b. cond b (Some key) (get_by (nat_eq h) keys)) (equal-same h) ∙ ap Some self
      by false other found =
          changed.keys_are one.number
          ∙ ap (λ b. cond b (Some key) (get_by (nat_eq one.number) keys)) (number-other (Some now) changed k one other found)
          ∙ paired.named k one found

  pub named-gone : AreChanged keys new_keys slab new_slab h key None → (k : ℕ) (one : One) → slot_at new_slab k ≡ Some one →
      get_by (nat_eq one.number) new_keys ≡ Some k
  named-gone changed k one at = by (nat_eq key k) refl (sym (changed.slots_are k) ∙ at)
    where
      by : (b : Bool) → nat_eq key k ≡ b → cond b None (slot_at slab k) ≡ Some one → get_by (nat_eq one.number) new_keys ≡ Some k
      by true same found = (let f : ⊥ = cc in absurd f)
      by false other found =
          changed.keys_are one.number
          ∙ ap (λ b. cond b None (get_by (nat_eq one.number) keys)) (number-other None changed k one other found)
          ∙ paired.named k one found
