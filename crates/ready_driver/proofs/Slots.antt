-- Slots are those of a driver's operations after one of them was written, goes, or joined.
use Rattle.std.proofs.Common.{◌≡◌, ◌≢◌, inl, inr, ℕ, ◌<◌, false, length, Option, Some, None, option_map, slice_get}
use Rattle.std.proofs.Common.{refl, sym, ◌∙◌, ap, subst, arith}
use Rattle.std.specs.Ordering.{nat_cmp}
use Rattle.std.specs.FinMap.{FinMap, get, insert, remove}
use Rattle.std.proofs.lemmas.Option.{slice_get_within}
use Rattle.rent_buf.specs.Buffer.{Buffer}
use Rattle.rent_buf.specs.Parts.{Parts}
use Rattle.machine.specs.declared.request.Request.{Request}
use Rattle.machine.specs.Request.{plain_request}
use Rattle.machine.proofs.Amended.{get-amended, get-amended-other, joined-cases}
use Rattle.machine.proofs.Numbers.{same-or-not}
use Rattle.driver_core.specs.declared.slot.Slot.{Slot}
use Rattle.driver_core.proofs.Lists.{some}
use Rattle.driver_core.proofs.Maps.{put-same, put-other, gone-same, gone-other}
use Rattle.driver_core.proofs.Slots.{slot-before}
use Rattle.ready_driver.specs.Legacy.{LegacyOp, Legacy, slot_in, slot_at}
use Rattle.ready_driver.specs.LegacyStep.{freed, with_ask, new_op}
use Rattle.ready_driver.specs.Polling.{LifeFor, SlotFor, SlotsStand, asked_at, joined_at}

-- A slot of another operation is that of the driver's operation, where that stays.
slot-stays : {B : Type 0} (buffer : B → Buffer) (D E : Legacy) (s : Slot B) → slot_at E s.serial ≡ slot_at D s.serial →
    SlotFor buffer D s → SlotFor buffer E s
slot-stays buffer D E s same fits =
    record { op = fits.op; there = same ∙ fits.there; request = fits.request; life = fits.life }

-- Slots that are those of a driver, and one of them.
module _ {B : Type 0} (buffer : B → Buffer) (slots : FinMap nat_cmp (Slot B)) (D : Legacy) (key : ℕ) (s : Slot B)
    (stand : SlotsStand buffer slots D) (there : get slots key ≡ Some s) where
  -- A slot at another key has another number.
  other-serial : (k : ℕ) (u : Slot B) → k ≢ key → get slots k ≡ Some u → u.serial ≢ s.serial
  other-serial k u apart at same = apart (stand.one k key u s at there same)

  -- It is written with the same number, and no other operation changes.
  module _ (E : Legacy) (t : Slot B) (serial : t.serial ≡ s.serial) (fits : SlotFor buffer E t)
      (stays : (n : ℕ) → n ≢ s.serial → slot_at E n ≡ slot_at D n) where
    -- The slots are those of the driver.
    pub slots-put : SlotsStand buffer (insert slots key t) E
    slots-put = record {
      holds = λ k u at. elim (same-or-not k key) [
        | inl e ↦ subst (SlotFor buffer E)
            (some t u (get (insert slots key t) key) (put-same slots key t) (ap (get (insert slots key t)) (sym e) ∙ at)) fits
        | inr e ↦ (
            let old : get slots k ≡ Some u = sym (put-other slots key t k e) ∙ at in
            slot-stays buffer D E u (stays u.serial (other-serial k u e old)) (stand.holds k u old))
      ];
      one = λ k j u v at there_too same. (
          let a = slot-before slots key s t there serial k u at in
          let b = slot-before slots key s t there serial j v there_too in
          stand.one k j a.0 b.0 a.1 b.1 (a.2 ∙ same ∙ sym b.2));
      each = λ number op at. elim (same-or-not number s.serial) [
        | inl e ↦ record { key = key; slot = t; there = put-same slots key t; serial = serial ∙ sym e }
        | inr e ↦ (
            let h = stand.each number op (sym (stays number e) ∙ at) in
            let apart : h.key ≢ key = λ same. e (sym h.serial
            ∙ ap (λ x. x.serial) (some h.slot s (get slots key) (ap (get slots) (sym same) ∙ h.there) there)) in
            record { key = h.key; slot = h.slot; there = put-other slots key t h.key apart ∙ h.there; serial = h.serial })
      ];
    }

  -- It goes with its operation.
  pub slots-gone : SlotsStand buffer (remove slots key) (freed D s.serial)
  slots-gone = record {
    holds = λ k u at. (
        let apart : k ≢ key = λ e. none-there k u e at in
        let old : get slots k ≡ Some u = sym (gone-other slots key k apart) ∙ at in
        slot-stays buffer D (freed D s.serial) u (freed-other u.serial (other-serial k u apart old)) (stand.holds k u old));
    one = λ k j u v at there_too same. (
        let a : k ≢ key = λ e. none-there k u e at in
        let b : j ≢ key = λ e. none-there j v e there_too in
        stand.one k j u v (sym (gone-other slots key k a) ∙ at) (sym (gone-other slots key j b) ∙ there_too) same);
    each = λ number op at. elim (same-or-not number s.serial) [
      | inl e ↦ absurd (freed-same op (ap (slot_at (freed D s.serial)) (sym e) ∙ at))
      | inr e ↦ (
          let h = stand.each number op (sym (freed-other number e) ∙ at) in
          let apart : h.key ≢ key = λ same. e (sym h.serial
          ∙ ap (λ x. x.serial) (some h.slot s (get slots key) (ap (get slots) (sym same) ∙ h.there) there)) in
          record { key = h.key; slot = h.slot; there = gone-other slots key h.key apart ∙ h.there; serial = h.serial })
    ];
  }
    where
      none-there : (k : ℕ) (u : Slot B) → k ≡ key → get (remove slots key) k ≡ Some u → ⊥
      none-there k u e at = (
          let f : ◌≡◌ {A = Option (Slot B)} None (Some u) = sym (gone-same slots key) ∙ ap (get (remove slots key)) (sym e) ∙ at in
          let g : ⊥ = cc in
          g)

      freed-other : (n : ℕ) → n ≢ s.serial → slot_at (freed D s.serial) n ≡ slot_at D n
      freed-other n apart = ap slot_in (get-amended-other (λ slot. None) D.slots s.serial n apart)

      freed-none : (x : Option (Option LegacyOp)) (op : LegacyOp) → slot_in (option_map (λ slot. None) x) ≡ Some op → ⊥
      freed-none None op at = (let f : ⊥ = cc in f)
      freed-none (Some slot) op at = (let f : ⊥ = cc in f)

      freed-same : (op : LegacyOp) → slot_at (freed D s.serial) s.serial ≡ Some op → ⊥
      freed-same op at =
          freed-none (slice_get D.slots s.serial) op (ap slot_in (sym (get-amended (λ slot. None) D.slots s.serial)) ∙ at)

-- The operation of a number, once its cancel is asked for.
pub asked-same : (D : Legacy) (n : ℕ) (op : LegacyOp) → slot_at D n ≡ Some op → slot_at (asked_at D n) n ≡ Some (with_ask op)
asked-same D n op there = ap slot_in (get-amended (option_map with_ask) D.slots n) ∙ by (slice_get D.slots n) there
  where
    by : (x : Option (Option LegacyOp)) → slot_in x ≡ Some op → slot_in (option_map (option_map with_ask) x) ≡ Some (with_ask op)
    by None at = (let f : ⊥ = cc in absurd f)
    by (Some slot) at = ap (option_map with_ask) at

-- Every other operation stays then.
pub asked-other : (D : Legacy) (n m : ℕ) → m ≢ n → slot_at (asked_at D n) m ≡ slot_at D m
asked-other D n m apart = ap slot_in (get-amended-other (option_map with_ask) D.slots n m apart)

-- An operation that is there was submitted.
slot-below : (D : Legacy) (n : ℕ) (op : LegacyOp) → slot_at D n ≡ Some op → n < length D.slots
slot-below D n op there = by (slice_get D.slots n) refl there
  where
    by : (x : Option (Option LegacyOp)) → slice_get D.slots n ≡ x → slot_in x ≡ Some op → n < length D.slots
    by None is at = (let f : ⊥ = cc in absurd f)
    by (Some slot) is at = slice_get_within D.slots n slot is

-- A new slot joins with the next operation.
module _ {B : Type 0} (buffer : B → Buffer) (slots : FinMap nat_cmp (Slot B)) (D : Legacy) (key : ℕ) (request : Request B Parts)
    (group : Option ℕ) (t : Slot B) (stand : SlotsStand buffer slots D) (free : get slots key ≡ None) (serial : t.serial ≡ length D.slots)
    (asks : t.request ≡ request) (life : LifeFor false t.life) where
  -- The driver with it.
  abbrev E : Legacy
  E = joined_at D (plain_request buffer request) group

  -- Every other operation stays.
  joined-other : (n : ℕ) → n ≢ length D.slots → slot_at E n ≡ slot_at D n
  joined-other n apart = elim (joined-cases D.slots (Some (new_op (plain_request buffer request) group)) n) [
    | inl e ↦ absurd (apart e.0)
    | inr e ↦ ap slot_in e.1
  ]

  -- It has the next operation.
  joined-same : slot_at E (length D.slots) ≡ Some (new_op (plain_request buffer request) group)
  joined-same = elim (joined-cases D.slots (Some (new_op (plain_request buffer request) group)) (length D.slots)) [
    | inl e ↦ ap slot_in e.2
    | inr e ↦ absurd (e.0 refl)
  ]

  -- A slot that was there is of an operation that was submitted before.
  old-serial : (k : ℕ) (u : Slot B) → get slots k ≡ Some u → u.serial ≢ length D.slots
  old-serial k u at same =
      let f = stand.holds k u at in
      let below = slot-below D u.serial f.op f.there in
      absurd (omega (arith, below, same))

  -- Its key is another one.
  old-key : (k : ℕ) (u : Slot B) → get slots k ≡ Some u → k ≢ key
  old-key k u at e = (
      let f : ◌≡◌ {A = Option (Slot B)} None (Some u) = sym free ∙ ap (get slots) (sym e) ∙ at in
      let g : ⊥ = cc in
      g)

  -- The slot at its key is the new one.
  new-there : (k : ℕ) (u : Slot B) → k ≡ key → get (insert slots key t) k ≡ Some u → t ≡ u
  new-there k u e at = some t u (get (insert slots key t) key) (put-same slots key t) (ap (get (insert slots key t)) (sym e) ∙ at)

  -- One at another key was there before.
  old-there : (k : ℕ) (u : Slot B) → k ≢ key → get (insert slots key t) k ≡ Some u → get slots k ≡ Some u
  old-there k u e at = sym (put-other slots key t k e) ∙ at

  -- The slots are those of the driver.
  pub slots-joined : SlotsStand buffer (insert slots key t) (joined_at D (plain_request buffer request) group)
  slots-joined = record {
    holds = λ k u at. elim (same-or-not k key) [
      | inl e ↦ subst (SlotFor buffer E) (new-there k u e at) (record {
        op = new_op (plain_request buffer request) group;
        there = ap (slot_at E) serial ∙ joined-same;
        request = ap (plain_request buffer) asks;
        life = life;
      })
      | inr e ↦ (
          let old = old-there k u e at in
          slot-stays buffer D E u (joined-other u.serial (old-serial k u old)) (stand.holds k u old))
    ];
    one = λ k j u v at there_too same. elim (same-or-not k key) [
      | inl e ↦ elim (same-or-not j key) [
        | inl f ↦ e ∙ sym f
        | inr f ↦ absurd (old-serial j v (old-there j v f there_too)
            (sym same ∙ sym (ap (λ x. x.serial) (new-there k u e at)) ∙ serial))
      ]
      | inr e ↦ elim (same-or-not j key) [
        | inl f ↦ absurd (old-serial k u (old-there k u e at) (same ∙ sym (ap (λ x. x.serial) (new-there j v f there_too)) ∙ serial))
        | inr f ↦ stand.one k j u v (old-there k u e at) (old-there j v f there_too) same
      ]
    ];
    each = λ number op at. elim (same-or-not number (length D.slots)) [
      | inl e ↦ record { key = key; slot = t; there = put-same slots key t; serial = serial ∙ sym e }
      | inr e ↦ (
          let h = stand.each number op (sym (joined-other number e) ∙ at) in
          record {
            key = h.key;
            slot = h.slot;
            there = put-other slots key t h.key (old-key h.key h.slot h.there) ∙ h.there;
            serial = h.serial;
          })
    ];
  }
