-- What treating one completion does to the parts of a driver that stand for a ledger, in the middle of a turn.
use Rattle.std.proofs.Common.{◌≡◌, inl, inr, ℕ, ◌+◌, ◌<◌, ◌≤◌, Bool, true, false, List, [], ◌∷◌, ◌++◌, length, flat_map, None}
use Rattle.std.proofs.Common.{refl, sym, ◌∙◌, ap, subst, arith}
use Rattle.std.specs.Prelude.{nat_lt, is_some}
use Rattle.std.proofs.lemmas.Bool.Decides.{nat_tests}
use Rattle.std.specs.Ordering.{nat_cmp}
use Rattle.std.specs.FinMap.{FinMap, get, len, remove}
use Rattle.rent_buf.specs.Buffer.{Buffer}
use Rattle.machine.specs.declared.completion.Completion.{Completion}
use Rattle.ring_core.specs.declared.entry.Target.TheVariants.{Handle, Reserved}
use Rattle.machine.specs.declared.world.TheConstants.{MOST_HANDLES}
use Rattle.ring_core.specs.Entry.{target}
use Rattle.ring_core.specs.Ring.{RingView, with_done}
use Rattle.machine.specs.Ledger.{Ledger, Item}
use Rattle.machine.specs.Turn.{ops_in, closes_in, tasks_woken}
use Rattle.machine.specs.Closes.{close_count, AreKnown, ClosesOnce, MadeAlone}
use Rattle.machine.proofs.Occurring.{same-cases}
use Rattle.machine.proofs.Closing.{count-first, known-lists}
use Rattle.machine.proofs.Once.{once-first}
use Rattle.driver_core.specs.declared.slot.Slot.{Slot}
use Rattle.driver_core.specs.Holds.{AreMaking}
use Rattle.driver_core.proofs.Lists.{some}
use Rattle.driver_core.proofs.Maps.{gone-same, gone-other}
use Rattle.uring_driver.specs.Holding.{Holding, closes, reaped_if, HandlesStand}
use Rattle.uring_driver.specs.Lists.{done_items_of, done_items_in}
use Rattle.uring_driver.specs.Stands.{owed}
use Rattle.uring_driver.specs.Reap.{Treated, treats_none, treats_close}
use Rattle.uring_driver.specs.Reaps.{closes_of, posted}
use Rattle.uring_driver.proofs.Means.{Means}
use Rattle.uring_driver.proofs.Reaping.{means-less, done-first}

-- The parts of a driver stand for a ledger that needn't be one that events lead to: handles that operations name are there, each close is
-- in the lists once, nobody else holds what an operation made, no handle's number is too great, and the operations that may make a handle
-- are counted.
pub record Amid {B : Type 0} (buffer : B → Buffer) (v : RingView) (slots : FinMap nat_cmp (Slot B)) (holding : Holding) (L : Ledger)
    : Type 0 where
  pub means : Means buffer v slots L
  pub handles : HandlesStand holding L
  pub known : AreKnown L
  pub once : ClosesOnce L
  pub alone : MadeAlone L
  pub few : length L.world ≤ MOST_HANDLES
  pub making : AreMaking slots holding.makers

-- What treating a completion comes to where its items are reaped: those are named, and nothing more is owed than room is left for.
pub record TreatsItems {B : Type 0} (buffer : B → Buffer) (v : RingView) (holding : Holding) (L M : Ledger) (items : List Item)
    (first : Treated B) : Type 0 where
  pub no_bad : first.bad ≡ None
  pub amid : Amid buffer (posted v (closes_of first.queued)) first.slots first.holding M
  pub reaped : first.reaped ≡ ops_in items
  pub closed : first.closed ≡ closes_in items
  pub woken : first.woken ≡ tasks_woken L.ops (ops_in items)
  pub owed : owed M first.holding + length first.queued ≤ owed L holding

-- A number above 0 is found so.
found-lt : (k : ℕ) → 0 < k → nat_lt 0 k ≡ true
found-lt k some = grind (arith, nat_tests)

-- The reap of a close leaves who holds what.
table-reaped : (holding : Holding) (h : ℕ) (b : Bool) → (reaped_if b holding h).table ≡ holding.table
table-reaped holding h true = refl
table-reaped holding h false = refl

-- And how many operations may make a handle.
makers-reaped : (holding : Holding) (h : ℕ) (b : Bool) → (reaped_if b holding h).makers ≡ holding.makers
makers-reaped holding h true = refl
makers-reaped holding h false = refl

module _ {B : Type 0} (buffer : B → Buffer) (v : RingView) (slots : FinMap nat_cmp (Slot B)) (holding : Holding) (L : Ledger)
    (c : Completion) (rest : List Completion) (old : Amid buffer v slots holding L) (first : v.done ≡ c ∷ rest) where
  -- The ledger without what the first completion means.
  abbrev less : Ledger
  less = record L { done = flat_map done_items_of rest }

  pub less-known : AreKnown less
  less-known = known-lists L L.queue L.flying (flat_map done_items_of rest) old.known

  pub less-alone : MadeAlone less
  less-alone = (let a = old.alone in record { agrees = a.agrees; users = a.users; others = a.others; makers = a.makers })

  less-means : Means buffer (with_done v rest) slots less
  less-means = means-less buffer v slots L c rest old.means first

  -- A completion of a reserved word means nothing.
  pub reserved : (word : ℕ) → target c.word ≡ Reserved word →
      TreatsItems buffer (with_done v rest) holding L less [] (treats_none slots holding)
  reserved word is =
      let same : L ≡ less = ap (λ d. record L { done = d }) (done-first buffer v slots L c rest old.means first
      ∙ ap (λ t. done_items_in c t ++ flat_map done_items_of rest) is) in
      record {
        no_bad = refl;
        amid = record {
          means = less-means;
          handles = subst (HandlesStand holding) same old.handles;
          known = less-known;
          once = subst ClosesOnce same old.once;
          alone = less-alone;
          few = old.few;
          making = old.making;
        };
        reaped = refl;
        closed = refl;
        woken = refl;
        owed = omega arith;
      }

  -- A close that is done is of a handle that is closing, once.
  module _ (h : ℕ) (is : target c.word ≡ Handle h) where
    done-close : L.done ≡ Item.Close h ∷ flat_map done_items_of rest
    done-close = done-first buffer v slots L c rest old.means first ∙ ap (λ t. done_items_in c t ++ flat_map done_items_of rest) is

    is-closing : closes holding h ≡ true
    is-closing = old.handles.closing h ∙ found-lt (close_count L h) (elim (same-cases h h) [
      | inl e ↦ (let one = count-first L (Item.Close h) (flat_map done_items_of rest) h done-close in let s = e.1 in omega (arith, one, s))
      | inr e ↦ absurd (e.0 refl)
    ])

    closing-left : (k : ℕ) → closes (reaped_if true holding h) k ≡ nat_lt 0 (close_count less k)
    closing-left k =
        let one = count-first L (Item.Close h) (flat_map done_items_of rest) k done-close in
        elim (same-cases k h) [
          | inl e ↦ (
              let most = old.once.once k in
              let s = e.1 in
              let none : close_count less k ≡ 0 = omega (arith, one, most, s) in
              ap is_some (ap (get (remove holding.closing.holders h)) e.0 ∙ gone-same holding.closing.holders h)
              ∙ sym (ap (nat_lt 0) none))
          | inr e ↦ (
              let s = e.1 in
              let same : close_count L k ≡ close_count less k = omega (arith, one, s) in
              ap is_some (gone-other holding.closing.holders h k e.0) ∙ old.handles.closing k ∙ ap (nat_lt 0) same)
        ]

    pub closed : TreatsItems buffer (with_done v rest) holding L less (Item.Close h ∷ [])
        (treats_close (closes holding h) slots holding c.word h)
    closed = subst (λ b. TreatsItems buffer (with_done v rest) holding L less (Item.Close h ∷ []) (treats_close b slots holding c.word h))
        (sym is-closing) (record {
          no_bad = refl;
          amid = record {
            means = less-means;
            handles = subst (λ b. HandlesStand (reaped_if b holding h) less) (sym is-closing)
                (record {
                  holders = record { users = old.handles.holders.users; operations = old.handles.holders.operations };
                  closing = closing-left;
                });
            known = less-known;
            once = once-first L (Item.Close h) (flat_map done_items_of rest) done-close old.once;
            alone = less-alone;
            few = old.few;
            making = subst (AreMaking slots) (sym (makers-reaped holding h (closes holding h))) old.making;
          };
          reaped = refl;
          closed = refl;
          woken = refl;
          owed = (
              let t = ap (λ t. len t.holders) (table-reaped holding h (closes holding h)) in
              let m = makers-reaped holding h (closes holding h) in
              omega (arith, t, m));
        })
