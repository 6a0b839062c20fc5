-- Slots stand for operations after a change of one operation, and of its slot.
use Rattle.std.proofs.Common.{◌≡◌, ◌≢◌, inl, inr, ℕ, ◌<◌, true, false, List, Some, refl, sym, ◌∙◌, ap, subst, arith}
use Rattle.std.specs.Prelude.{slice_get}
use Rattle.std.specs.Ordering.{nat_cmp}
use Rattle.std.specs.FinMap.{FinMap, get, insert, remove}
use Rattle.rent_buf.specs.Buffer.{Buffer}
use Rattle.op_slots.specs.declared.slab.TheConstants.{MAX_LIVE}
use Rattle.machine.specs.Lists.{amended}
use Rattle.machine.specs.Ledger.{Operation, is_live}
use Rattle.machine.proofs.Amended.{get-amended-same, get-amended-other}
use Rattle.driver_core.specs.declared.slot.Slot.{Slot}
use Rattle.driver_core.specs.Slots.{SlotFor, SlotsStand}
use Rattle.machine.proofs.Numbers.{same-or-not}
use Rattle.driver_core.proofs.Lists.{some}
use Rattle.driver_core.proofs.Counts.{where-same, where-less}
use Rattle.driver_core.proofs.Maps.{put-same, put-other, len-put, gone-same, gone-other, len-gone}

-- A slot of another number means what it meant.
slot-other : {B : Type 0} (buffer : B → Buffer) (ops : List Operation) (n : ℕ) (f : Operation → Operation) (t : Slot B) → t.serial ≢ n →
    SlotFor buffer ops t → SlotFor buffer (amended ops n f) t
slot-other buffer ops n f t other m = record {
  operation = m.operation;
  there = get-amended-other f ops n t.serial other ∙ m.there;
  live = m.live;
  request = m.request;
  life = m.life;
  fresh = m.fresh;
  uncanceled = m.uncanceled;
}

-- A slot that is there once one was written with its own number was there before, with its number.
pub slot-before : {B : Type 0} (slots : FinMap nat_cmp (Slot B)) (key : ℕ) (s t : Slot B) → get slots key ≡ Some s → t.serial ≡ s.serial →
    (k : ℕ) (u : Slot B) → get (insert slots key t) k ≡ Some u → (w : Slot B) × (get slots k ≡ Some w) × (w.serial ≡ u.serial)
slot-before slots key s t there number k u h = elim (same-or-not k key) [
  | inl e ↦ (
    s,
    ap (get slots) e ∙ there,
    sym number ∙ ap (λ x. x.serial)
        (some t u (get (insert slots key t) key) (put-same slots key t) (ap (get (insert slots key t)) (sym e) ∙ h)),
  )
  | inr e ↦ (u, sym (put-other slots key t k e) ∙ h, refl)
]

-- One operation was changed, and its slot still fits it.
module _ {B : Type 0} (buffer : B → Buffer) (slots : FinMap nat_cmp (Slot B)) (ops : List Operation) (n : ℕ) (f : Operation → Operation)
    (o : Operation)
    (stand : SlotsStand buffer slots ops) (which : slice_get ops n ≡ Some o) (lives : is_live (f o) ≡ is_live o)
    (fits : (t : Slot B) → t.serial ≡ n → SlotFor buffer ops t → SlotFor buffer (amended ops n f) t) where
  pub slots-amended : SlotsStand buffer slots (amended ops n f)
  slots-amended = record {
    holds = λ k t h. elim (same-or-not t.serial n) [
      | inl e ↦ fits t e (stand.holds k t h)
      | inr e ↦ slot-other buffer ops n f t e (stand.holds k t h)
    ];
    one = stand.one;
    each = λ m p h l. elim (same-or-not m n) [
      | inl e ↦ stand.each m o (ap (slice_get ops) e ∙ which)
          (sym lives ∙ ap is_live (some (f o) p (slice_get (amended ops n f) n) (get-amended-same f ops n o which)
          (ap (slice_get (amended ops n f)) (sym e) ∙ h)) ∙ l)
      | inr e ↦ stand.each m p (sym (get-amended-other f ops n m e) ∙ h) l
    ];
    counted = stand.counted ∙ sym (where-same is_live f ops n o which lives);
    below = stand.below;
  }

-- One operation was changed, and its slot written.
module _ {B : Type 0} (buffer : B → Buffer) (slots : FinMap nat_cmp (Slot B)) (ops : List Operation) (key : ℕ) (s t : Slot B)
    (f : Operation → Operation) (o : Operation)
    (stand : SlotsStand buffer slots ops) (there : get slots key ≡ Some s) (number : t.serial ≡ s.serial)
    (which : slice_get ops s.serial ≡ Some o) (lives : is_live (f o) ≡ is_live o) (fits : SlotFor buffer (amended ops s.serial f) t) where
  pub slots-replaced : SlotsStand buffer (insert slots key t) (amended ops s.serial f)
  slots-replaced = record {
    holds = λ k u h. elim (same-or-not k key) [
      | inl e ↦ subst (λ x. SlotFor buffer (amended ops s.serial f) x)
          (some t u (get (insert slots key t) key) (put-same slots key t) (ap (get (insert slots key t)) (sym e) ∙ h)) fits
      | inr e ↦
          let before = sym (put-other slots key t k e) ∙ h in
          slot-other buffer ops s.serial f u (λ q. e (stand.one k key u s before there q)) (stand.holds k u before)
    ];
    one = λ k j u w h i e.
        let a = slot-before slots key s t there number k u h in
        let b = slot-before slots key s t there number j w i in
        stand.one k j a.0 b.0 a.1 b.1 (a.2 ∙ e ∙ sym b.2);
    each = λ n p h l. elim (same-or-not n s.serial) [
      | inl e ↦ record { key = key; slot = t; there = put-same slots key t; serial = number ∙ sym e }
      | inr e ↦
          let old = stand.each n p (sym (get-amended-other f ops s.serial n e) ∙ h) l in
          let other : old.key ≢ key =
          λ q. e (sym old.serial ∙ ap (λ x. x.serial) (some old.slot s (get slots old.key) old.there (ap (get slots) q ∙ there))) in
          record { key = old.key; slot = old.slot; there = put-other slots key t old.key other ∙ old.there; serial = old.serial }
    ];
    counted = len-put slots key t s there ∙ stand.counted ∙ sym (where-same is_live f ops s.serial o which lives);
    below = λ k u h. elim (same-or-not k key) [
      | inl e ↦ subst (λ x. x < MAX_LIVE) (sym e) (stand.below key s there)
      | inr e ↦ stand.below k u (sym (put-other slots key t k e) ∙ h)
    ];
  }

  -- A slot of another number is kept.
  pub other-slot : (k : ℕ) (u : Slot B) → get slots k ≡ Some u → u.serial ≢ s.serial → get (insert slots key t) k ≡ Some u
  other-slot k u h e =
      let other : k ≢ key = λ q. e (ap (λ x. x.serial) (some u s (get slots k) h (ap (get slots) q ∙ there))) in
      put-other slots key t k other ∙ h

-- One operation left, and its slot was freed.
module _ {B : Type 0} (buffer : B → Buffer) (slots : FinMap nat_cmp (Slot B)) (ops : List Operation) (key : ℕ) (s : Slot B)
    (f : Operation → Operation) (o : Operation)
    (stand : SlotsStand buffer slots ops) (there : get slots key ≡ Some s) (which : slice_get ops s.serial ≡ Some o)
    (lives : is_live o ≡ true) (gone : is_live (f o) ≡ false) where
  -- A slot that is left is at another key.
  left : (k : ℕ) (t : Slot B) → get (remove slots key) k ≡ Some t → (k ≢ key) × (get slots k ≡ Some t)
  left k t h = elim (same-or-not k key) [
    | inl e ↦ (let n = sym (gone-same slots key) ∙ ap (get (remove slots key)) (sym e) ∙ h in cc)
    | inr e ↦ (e, sym (gone-other slots key k e) ∙ h)
  ]

  pub slots-freed : SlotsStand buffer (remove slots key) (amended ops s.serial f)
  unfolding left
  slots-freed = record {
    holds = λ k t h.
        let l = left k t h in
        slot-other buffer ops s.serial f t (λ q. l.0 (stand.one k key t s l.1 there q)) (stand.holds k t l.1);
    one = λ k j t u h i e. stand.one k j t u (left k t h).1 (left j u i).1 e;
    each = λ n p h l. elim (same-or-not n s.serial) [
      | inl e ↦ absurd (let q : Some (f o) ≡ Some p = sym (get-amended-same f ops s.serial o which)
          ∙ ap (slice_get (amended ops s.serial f)) (sym e) ∙ h in let r : f o ≡ p = cc in
          let g : false ≡ true = sym gone ∙ ap is_live r ∙ l in cc)
      | inr e ↦
          let old = stand.each n p (sym (get-amended-other f ops s.serial n e) ∙ h) l in
          let other : old.key ≢ key =
          λ q. e (sym old.serial ∙ ap (λ x. x.serial) (some old.slot s (get slots old.key) old.there (ap (get slots) q ∙ there))) in
          record { key = old.key; slot = old.slot; there = gone-other slots key old.key other ∙ old.there; serial = old.serial }
    ];
    counted =
        (let a = len-gone slots key s there in
        let b = where-less is_live f ops s.serial o which lives gone in omega (arith, a, b, stand.counted));
    below = λ k t h. stand.below k t (left k t h).1;
  }

  -- A slot of another number is kept.
  pub other-left : (k : ℕ) (u : Slot B) → get slots k ≡ Some u → u.serial ≢ s.serial → get (remove slots key) k ≡ Some u
  other-left k u h e =
      let other : k ≢ key = λ q. e (ap (λ x. x.serial) (some u s (get slots k) h (ap (get slots) q ∙ there))) in
      gone-other slots key k other ∙ h
