-- What holds of holders and closes always, through each change of a table.
use Rattle.std.proofs.Common.{◌≡◌, ◌≢◌, ◌∙◌, inl, inr, ℕ, ◌+◌, ◌-◌, ◌<◌, Bool, true, false, [], ◌∷◌, Option, Some, None}
use Rattle.std.proofs.Common.{sym, ap, subst, arith}
use Rattle.std.specs.Prelude.{◌||◌, is_some, OnOk, OnErr, Result, Ok, Err}
use Rattle.std.proofs.lemmas.Bool.{or_parts}
use Rattle.std.specs.Ordering.{nat_cmp}
use Rattle.std.specs.FinMap.{get, insert, remove, len, empty, get-empty, len-empty}
use Rattle.handle_core.specs.declared.table.Holders.{Holders}
use Rattle.handle_core.specs.Table.{Table, with_holders, without_handle, nobody, by_user, by_operation}
use Rattle.handle_core.proofs.Kept.{held-with, held-without}
use Rattle.machine.specs.declared.world.TheConstants.{MOST_HANDLES}
use Rattle.machine.proofs.Numbers.{same-or-not, some-of, none-of}
use Rattle.driver_core.proofs.Maps.{put-same, put-other, gone-same, gone-other, len-put, len-new, len-gone, len-some, above}
use Rattle.uring_driver.specs.Making.{maker_ended}
use Rattle.uring_driver.specs.Holding.{Holding, no_holding, is_held, closes, knows, places, IsKept}

-- A handle that isn't known is neither held nor closing.
pub unknown : (holding : Holding) (h : ℕ) → knows holding h ≡ false → (is_held holding h ≡ false) × (closes holding h ≡ false)
unknown holding h fresh = or_parts (is_held holding h) (closes holding h) fresh

-- Holders that aren't nobody are somebody.
pub somebody-of : (held : Holders) → (held ≡ nobody → ⊥) → 0 < held.user + held.operations
somebody-of held not = above (held.user + held.operations) (λ z.
    not (let a : held.user ≡ 0 = omega arith in let b : held.operations ≡ 0 = omega arith in
    ap (λ x. record held { user = x }) a ∙ ap (λ x. record { user = 0; operations = x }) b))

-- Nothing held and nothing closing.
pub kept-none : (holding : Holding) → holding.table.holders ≡ empty → holding.closing.holders ≡ empty → holding.makers ≡ 0 → IsKept holding
kept-none holding none closed idle = record {
  room = (let a = ap len none in let b = len-empty nat_cmp Holders in omega (arith, a, b, idle));
  made = omega (arith, idle);
  apart = λ h held. ap (λ m. is_some (get m h)) closed ∙ ap is_some (get-empty {X = Holders} nat_cmp h);
  below = λ h held.
      let e = ap (λ m. is_some (get m h)) none ∙ ap is_some (get-empty {X = Holders} nat_cmp h) in
      let f : ◌≡◌ {A = Bool} true false = sym held ∙ e in cc;
  somebody = λ h held there.
      let e : ◌≡◌ {A = Option Holders} None (Some held) = sym (ap (λ m. get m h) none ∙ get-empty {X = Holders} nat_cmp h) ∙ there in cc;
  once = λ h held there.
      let e : ◌≡◌ {A = Option Holders} None (Some held) = sym (ap (λ m. get m h) closed ∙ get-empty {X = Holders} nat_cmp h) ∙ there in cc;
}

-- Where nothing is held and nothing closing, no handle is known.
pub known-none : (holding : Holding) → holding ≡ no_holding → (h : ℕ) → knows holding h ≡ false
known-none holding none h = ap (λ x. knows x h) none ∙ ap (λ o. is_some o || is_some o) (get-empty {X = Holders} nat_cmp h)

module _ (holding : Holding) (kept : IsKept holding) (h : ℕ) where
  -- The table with other holders of a handle, of which there is one.
  abbrev written : Holders → Holding
  written held = record holding { table = with_holders holding.table h held }

  -- A handle that wasn't known is held from now on.
  pub kept-added : (held : Holders) → is_held holding h ≡ false → closes holding h ≡ false → h < MOST_HANDLES →
      places holding < holding.closing.spare → 0 < held.user + held.operations → IsKept (written held)
  kept-added held fresh apart below room some = record {
    room = (let a = len-new holding.table.holders h held (none-of (get holding.table.holders h) fresh) in omega (arith, a, room));
    made = kept.made;
    apart = λ q at. elim (same-or-not q h) [
      | inl e ↦ ap (closes holding) e ∙ apart
      | inr e ↦ kept.apart q (sym (ap is_some (put-other holding.table.holders h held q e)) ∙ at)
    ];
    below = λ q at. elim (same-or-not q h) [
      | inl e ↦ subst (λ x. x < MOST_HANDLES) (sym e) below
      | inr e ↦ kept.below q (sym (ap is_some (put-other holding.table.holders h held q e)) ∙ at)
    ];
    somebody = held-with holding.table h held kept.somebody some;
    once = kept.once;
  }

  -- A handle that is held has other holders.
  pub kept-written : (held : Holders) → is_held holding h ≡ true → 0 < held.user + held.operations → IsKept (written held)
  kept-written held there some = record {
    room = (
        let was = some-of (get holding.table.holders h) there in
        let a = len-put holding.table.holders h held was.0 was.1 in
        let b = kept.room in
        omega (arith, a, b));
    made = kept.made;
    apart = λ q at. elim (same-or-not q h) [
      | inl e ↦ kept.apart q (ap (is_held holding) e ∙ there)
      | inr e ↦ kept.apart q (sym (ap is_some (put-other holding.table.holders h held q e)) ∙ at)
    ];
    below = λ q at. elim (same-or-not q h) [
      | inl e ↦ kept.below q (ap (is_held holding) e ∙ there)
      | inr e ↦ kept.below q (sym (ap is_some (put-other holding.table.holders h held q e)) ∙ at)
    ];
    somebody = held-with holding.table h held kept.somebody some;
    once = kept.once;
  }

  -- A handle that is in a table without another is another one, and was in the table.
  remains : (q : ℕ) → is_some (get (remove holding.table.holders h) q) ≡ true → (q ≢ h) × (is_held holding q ≡ true)
  remains q at = elim (same-or-not q h) [
    | inl e ↦ absurd (
        let a : ◌≡◌ {A = Bool} true false = sym at ∙ ap (λ x. is_some (get (remove holding.table.holders h) x)) e
        ∙ ap is_some (gone-same holding.table.holders h) in
        cc)
    | inr e ↦ (e, sym (ap is_some (gone-other holding.table.holders h q e)) ∙ at)
  ]

  -- A handle that is held has one key of the table.
  fewer : is_held holding h ≡ true → len (remove holding.table.holders h) + 1 ≡ len holding.table.holders
  fewer there =
      let was = some-of (get holding.table.holders h) there in
      let a = len-gone holding.table.holders h was.0 was.1 in
      let b = len-some holding.table.holders h there in
      omega (arith, a, b)

  -- There is memory for the close of a handle that is held.
  pub room-kept : is_held holding h ≡ true → 0 < holding.closing.spare
  room-kept there = (let a = len-some holding.table.holders h there in let b = kept.room in omega (arith, a, b))

  -- A handle that is held isn't held any more.
  pub kept-forgotten : is_held holding h ≡ true → IsKept (record holding { table = without_handle holding.table h })
  kept-forgotten there = record {
    room = (let a = fewer there in let b = kept.room in omega (arith, a, b));
    made = kept.made;
    apart = λ q at. kept.apart q (remains q at).1;
    below = λ q at. kept.below q (remains q at).1;
    somebody = held-without holding.table h kept.somebody;
    once = kept.once;
  }

  -- A handle that is held is closing from now on.
  pub kept-closing : is_held holding h ≡ true → IsKept (record holding {
    table = without_handle holding.table h;
    closing = record (with_holders holding.closing h by_operation) { spare = holding.closing.spare - 1 };
  })
  kept-closing there = record {
    room = (let a = fewer there in let b = kept.room in omega (arith, a, b));
    made = kept.made;
    apart = λ q at. ap is_some (put-other holding.closing.holders h by_operation q (remains q at).0) ∙ kept.apart q (remains q at).1;
    below = λ q at. kept.below q (remains q at).1;
    somebody = held-without holding.table h kept.somebody;
    once = λ q held at. elim (same-or-not q h) [
      | inl e ↦ (
          let a : ◌≡◌ {A = Option Holders} (Some held) (Some by_operation) =
          sym at ∙ ap (get (insert holding.closing.holders h by_operation)) e ∙ put-same holding.closing.holders h by_operation in
          cc)
      | inr e ↦ kept.once q held (sym (put-other holding.closing.holders h by_operation q e) ∙ at)
    ];
  }

  -- A new handle that is held is one of those that operations may make, or is closing at once.
  pub kept-made : is_held holding h ≡ false → closes holding h ≡ false → h < MOST_HANDLES → 0 < holding.makers →
      IsKept (maker_ended holding (h ∷ []) [])
  kept-made fresh apart below some = record {
    room = (
        let a = len-new holding.table.holders h by_operation (none-of (get holding.table.holders h) fresh) in
        let b = kept.room in
        omega (arith, a, b, some));
    made = (let a = kept.made in omega (arith, a, some));
    apart = λ q at. elim (same-or-not q h) [
      | inl e ↦ ap (closes holding) e ∙ apart
      | inr e ↦ kept.apart q (sym (ap is_some (put-other holding.table.holders h by_operation q e)) ∙ at)
    ];
    below = λ q at. elim (same-or-not q h) [
      | inl e ↦ subst (λ x. x < MOST_HANDLES) (sym e) below
      | inr e ↦ kept.below q (sym (ap is_some (put-other holding.table.holders h by_operation q e)) ∙ at)
    ];
    somebody = held-with holding.table h by_operation kept.somebody (omega arith);
    once = kept.once;
  }

  pub kept-lost : is_held holding h ≡ false → closes holding h ≡ false → 0 < holding.makers → IsKept (maker_ended holding [] (h ∷ []))
  kept-lost fresh apart some = record {
    room = (let b = kept.room in omega (arith, b, some));
    made = (let a = kept.made in omega (arith, a, some));
    apart = λ q at. elim (same-or-not q h) [
      | inl e ↦ absurd (let a : ◌≡◌ {A = Bool} true false = sym at ∙ ap (is_held holding) e ∙ fresh in cc)
      | inr e ↦ ap is_some (put-other holding.closing.holders h by_operation q e) ∙ kept.apart q at
    ];
    below = kept.below;
    somebody = kept.somebody;
    once = λ q held at. elim (same-or-not q h) [
      | inl e ↦ (
          let a : ◌≡◌ {A = Option Holders} (Some held) (Some by_operation) =
          sym at ∙ ap (get (insert holding.closing.holders h by_operation)) e ∙ put-same holding.closing.holders h by_operation in
          cc)
      | inr e ↦ kept.once q held (sym (put-other holding.closing.holders h by_operation q e) ∙ at)
    ];
  }

  -- A handle that was closing isn't any more.
  pub kept-reaped : IsKept (record holding { closing = without_handle holding.closing h })
  kept-reaped = record {
    room = kept.room;
    made = kept.made;
    apart = λ q at. elim (same-or-not q h) [
      | inl e ↦ ap (λ x. is_some (get (remove holding.closing.holders h) x)) e ∙ ap is_some (gone-same holding.closing.holders h)
      | inr e ↦ ap is_some (gone-other holding.closing.holders h q e) ∙ kept.apart q at
    ];
    below = kept.below;
    somebody = kept.somebody;
    once = λ q held at. elim (same-or-not q h) [
      | inl e ↦ (
          let a : ◌≡◌ {A = Option Holders} (Some held) None = sym at ∙ ap (get (remove holding.closing.holders h)) e
          ∙ gone-same holding.closing.holders h in
          let f : ⊥ = cc in absurd f)
      | inr e ↦ kept.once q held (sym (gone-other holding.closing.holders h q e) ∙ at)
    ];
  }

-- What an addition to the table leaves keeps what holds, whether it had memory or not.
pub added : {E : Type 0} (holding : Holding) (h : ℕ) (new : Table) (result : Result Unit E) →
    OnOk result (new ≡ with_holders holding.table h by_user) → OnErr result (new ≡ holding.table) → IsKept holding →
    IsKept (record holding { table = with_holders holding.table h by_user }) → IsKept (record holding { table = new })
added holding h new (Ok done) ok err kept more = subst (λ t. IsKept (record holding { table = t })) (sym ok) more
added holding h new (Err why) ok err kept more = subst (λ t. IsKept (record holding { table = t })) (sym err) kept
