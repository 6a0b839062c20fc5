-- What holds of every driver once an operation's slot changes or is freed.
use Rattle.std.proofs.Common.{◌≡◌, ◌<◌, ◌≤◌, ◌+◌, ◌==◌, ℕ, Bool, true, false, List, map, length, Option, Some, None}
use Rattle.std.proofs.Common.{refl, sym, ◌∙◌, ap, subst, arith}
use Rattle.std.specs.Prelude.{IfSome}
use Rattle.std.proofs.lemmas.List.{length-map}
use Rattle.std.specs.Ordering.{nat_cmp}
use Rattle.std.specs.FinMap.{FinMap, get, remove}
use Rattle.handle_core.specs.Table.{holders_at, handed}
use Rattle.ring_core.specs.Entry.{close_entry}
use Rattle.machine.specs.Lists.{has_number}
use Rattle.machine.specs.Lists.{one_if}
use Rattle.machine.specs.Ledger.{with_made}
use Rattle.machine.specs.Effect.{made_by}
use Rattle.machine.specs.Request.{named}
use Rattle.ring_core.specs.Ring.{RingView}
use Rattle.machine.proofs.Leaving.{holds-named}
use Rattle.driver_core.specs.Holds.{without_ops, unheld_by, named_in, made_in, made_life, held_in, CanLeave}
use Rattle.driver_core.specs.Slot.{is_flying, number_at, serial_of, PollsAt, DropsAt}
use Rattle.op_slots.specs.Lifecycle.{polled}
use Rattle.op_slots.specs.declared.lifecycle.AfterDrop.TheVariants.{Left, Free}
use Rattle.op_slots.specs.declared.lifecycle.Lifecycle.TheVariants.{Ignored}
use Rattle.machine.specs.declared.world.TheConstants.{MOST_HANDLES}
use Rattle.driver_core.specs.declared.op.Op.{Op}
use Rattle.driver_core.specs.declared.op.Done.{Done}
use Rattle.driver_core.specs.declared.slot.Slot.{Slot}
use Rattle.driver_core.proofs.Counted.{counted-some, counted-leave, named-distinct, held-distinct, made-held}
use Rattle.driver_core.proofs.Distinct.{apart-by, one-more}
use Rattle.driver_core.proofs.Holds.{with-other, can-leave, ops-left, ops-handed, len-left, len-handed}
use Rattle.driver_core.proofs.Maps.{gone-same, gone-other}
use Rattle.driver_core.proofs.Numbers.{Owner}
use Rattle.driver_core.proofs.Polling.{polled-flies}
use Rattle.driver_core.proofs.SlotTokens.{held-slot}
use Rattle.uring_driver.specs.Holding.{Holding, places, ops_left}
use Rattle.uring_driver.specs.Making.{made_handed, handed_if}
use Rattle.uring_driver.specs.Op.{Holds}
use Rattle.uring_driver.specs.PollOp.{handed_by}
use Rattle.uring_driver.specs.Pending.{Pending}
use Rattle.uring_driver.specs.State.{IsSound, AreHolding}
use Rattle.uring_driver.specs.Submissions.{PostsEach}
use Rattle.uring_driver.specs.Uring.{room_in}
use Rattle.uring_driver.specs.declared.uring.IoUringDriver.{IoUringDriver}
use Rattle.uring_driver.proofs.Holdings.{holding-changed, holding-freed}
use Rattle.uring_driver.proofs.Lefts.{posts-room}
use Rattle.uring_driver.proofs.Sound.{sound-gone}

-- What a call keeps where it leaves the slot of a token.
module _ {B : Type 0} (holding : Holding) (slots slots' : FinMap nat_cmp (Slot B)) (given : ℕ) (op : Op)
    (are : AreHolding holding slots given) (has : Owner slots op.key op.number) where
  -- A poll that waits keeps what holds of every driver's handles.
  pub polled-holding : (task : ℕ) → PollsAt slots op.key task slots' None → AreHolding holding slots' given
  polled-holding task polls =
      let is = polls has.slot has.there in
      holding-changed holding slots slots' given op.key has.slot are has.there (polled has.slot.life task) is.0
      (polled-flies has.slot.life task is.0) is.1

  -- So does a drop that leaves its slot.
  pub ignored-holding : DropsAt slots op.key slots' Left → AreHolding holding slots' given
  ignored-holding drops =
      let is = drops has.slot has.there in
      holding-changed holding slots slots' given op.key has.slot are has.there Ignored is.0 refl is.1

-- What the leaving of an operation did to the parts of a driver, of which it holds these handles: they were let go, and their closes
-- posted.
pub record TakesParts {R B : Type 0} (view : R → RingView) (tells steady : Bool) (d new : IoUringDriver R B) (base : Holding)
    (handles : List ℕ) : Type 0 where
  pub holding : new.holding ≡ ops_left base handles
  pub room : length (unheld_by base.table handles) ≤ room_in d
  pub below : (h : ℕ) → has_number h (unheld_by base.table handles) ≡ true → h < MOST_HANDLES
  pub may : CanLeave base.table handles
  pub posts : PostsEach view tells steady d.ring new.ring (map close_entry (unheld_by base.table handles))

-- What a call may do, and what it keeps, where the operation of a token leaves that holds these handles of what is held. What it made was
-- handed over before, or wasn't.
module _ {R B : Type 0} (d : IoUringDriver R B) (op : Op) (holds : Holds d op)
    (sound : IsSound d.ring.room d.slots.values (places d.holding))
    (are : AreHolding d.holding d.slots.values d.given) (base : Holding) (handles : List ℕ) (may : CanLeave base.table handles)
    (as_many : places base ≡ places d.holding) (same : base.makers ≡ d.holding.makers)
    (ops : (h : ℕ) → (holders_at (without_ops base.table handles) h).operations
    + one_if (has_number h (held_in (get d.slots.values op.key))) ≡ (holders_at d.holding.table h).operations) where
  abbrev has : Owner d.slots.values op.key op.number
  has = held-slot d.slots.values op holds

  -- There is room for the closes of those that nobody holds any more.
  pub op-room : length (unheld_by base.table handles) ≤ d.ring.room
  op-room = (let a = len-left base.table handles may in let b = sound.few in omega (arith, a, b, as_many))

  module _ (view : R → RingView) (tells steady : Bool) (ring : Pending R)
      (posts : PostsEach view tells steady d.ring ring (map close_entry (unheld_by base.table handles))) where
    -- The room that is left, beside the handles that are, is what there was.
    left-room : d.ring.room + places (ops_left base handles) ≤ ring.room + places d.holding
    left-room =
        let us = unheld_by base.table handles in
        let l = length-map us close_entry in
        let a = posts-room view tells steady d.ring ring (map close_entry us) (let r = op-room in omega (arith, l, r)) posts in
        let b = len-left base.table handles may in
        omega (arith, a, b, l, as_many)

    -- What holds of every driver holds once the slot, which was completed, is free.
    pub op-freed : (slots : FinMap nat_cmp (Slot B)) → slots ≡ remove d.slots.values op.key →
        ((s : Slot B) → get d.slots.values op.key ≡ Some s → is_flying s.life ≡ false) →
        IsSound ring.room slots (places (ops_left base handles)) × AreHolding (ops_left base handles) slots d.given
    op-freed slots gone reaped = (
      sound-gone d.ring.room d.slots.values slots (places d.holding) op.key op.number sound holds
          (ap (λ m. number_at m op.key) gone ∙ ap serial_of (gone-same d.slots.values op.key))
          (λ j e. ap (λ m. number_at m j) gone ∙ ap serial_of (gone-other d.slots.values op.key j e)) ring.room
          (places (ops_left base handles)) left-room,
      holding-freed d.holding d.slots.values slots d.given op.key has.slot are has.there (ops_left base handles)
          (reaped has.slot has.there) gone same
          (λ h. (let a = ops h in let b = ap (λ o. one_if (has_number h (held_in o))) has.there in omega (arith, a, b))),
    )

    -- What its leaving did to the driver's parts.
    pub op-parts : (new : IoUringDriver R B) → new.ring ≡ ring → new.holding ≡ ops_left base handles →
        ((h : ℕ) → has_number h (unheld_by base.table handles) ≡ true → h < MOST_HANDLES) →
        TakesParts view tells steady d new base handles
    op-parts new same holding below = record {
      holding = holding;
      room = op-room;
      below = below;
      may = may;
      posts = subst (λ p. PostsEach view tells steady d.ring p (map close_entry (unheld_by base.table handles))) (sym same) posts;
    }

-- What an operation holds is let go: as many operations hold each handle as are left.
module _ {B : Type 0} (holding : Holding) (slots : FinMap nat_cmp (Slot B)) (given key : ℕ) (are : AreHolding holding slots given) where
  -- It may leave.
  pub all-may : CanLeave holding.table (held_in (get slots key))
  all-may = counted-leave holding.table slots key are.counted are.apart

  pub all-ops : (h : ℕ) → (holders_at (without_ops holding.table (held_in (get slots key))) h).operations
      + one_if (has_number h (held_in (get slots key))) ≡ (holders_at holding.table h).operations
  all-ops h = ops-left holding.table (held_in (get slots key)) (held-distinct slots key are.apart)
      (counted-some holding.table slots key are.counted) h

  -- What it made was handed over first, where it made a handle.
  module _ (made : Option ℕ) (is : made_in (get slots key) ≡ made) where
    -- An operation holds what it made.
    pub handed-some : IfSome made (λ h. 0 < (holders_at holding.table h).operations)
    handed-some = by made is
      where
        by : (made : Option ℕ) → made_in (get slots key) ≡ made → IfSome made (λ h. 0 < (holders_at holding.table h).operations)
        by None is = tt
        by (Some h) is = counted-some holding.table slots key are.counted h
            (made-held (made_in (get slots key)) (named_in (get slots key)) h is)

    -- The others may leave then.
    pub handed-may : CanLeave (handed_if holding made).table (named_in (get slots key))
    handed-may = by made is
      where
        some-named : (h : ℕ) → has_number h (named_in (get slots key)) ≡ true → 0 < (holders_at holding.table h).operations
        some-named h names = counted-some holding.table slots key are.counted h
            (holds-named h (made_in (get slots key)) (named_in (get slots key)) names)

        by : (made : Option ℕ) → made_in (get slots key) ≡ made → CanLeave (handed_if holding made).table (named_in (get slots key))
        by None is = can-leave holding.table (named_in (get slots key)) (named-distinct (get slots key)) some-named
        by (Some m) is =
            can-leave (made_handed holding m).table (named_in (get slots key)) (named-distinct (get slots key)) (λ h names.
            subst (λ x. 0 < x.operations) (sym (with-other holding.table m (handed (holders_at holding.table m)) h
            (apart-by (named_in (get slots key)) h m names (are.apart key m is)))) (some-named h names))

    -- As many are left.
    pub handed-ops : (h : ℕ) → (holders_at (without_ops (handed_if holding made).table (named_in (get slots key))) h).operations
        + one_if (has_number h (held_in (get slots key))) ≡ (holders_at holding.table h).operations
    handed-ops h = by made is
      where
        by : (made : Option ℕ) → made_in (get slots key) ≡ made →
            (holders_at (without_ops (handed_if holding made).table (named_in (get slots key))) h).operations
            + one_if (has_number h (held_in (get slots key))) ≡ (holders_at holding.table h).operations
        by None is =
            let a = ops-left holding.table (named_in (get slots key)) (named-distinct (get slots key)) (λ k names.
            counted-some holding.table slots key are.counted k
            (holds-named k (made_in (get slots key)) (named_in (get slots key)) names)) h in
            let b : one_if (has_number h (held_in (get slots key))) ≡ one_if (has_number h (named_in (get slots key))) =
            ap (λ m. one_if (has_number h (with_made m (named_in (get slots key))))) is in
            omega (arith, a, b)
        by (Some m) is =
            let a = ops-left (made_handed holding m).table (named_in (get slots key)) (named-distinct (get slots key)) (λ k names.
            subst (λ x. 0 < x.operations) (sym (with-other holding.table m (handed (holders_at holding.table m)) k
            (apart-by (named_in (get slots key)) k m names (are.apart key m is))))
            (counted-some holding.table slots key are.counted k
            (holds-named k (made_in (get slots key)) (named_in (get slots key)) names))) h in
            let b = ops-handed holding.table m (counted-some holding.table slots key are.counted m
            (made-held (made_in (get slots key)) (named_in (get slots key)) m is)) h in
            let c : one_if (has_number h (held_in (get slots key)))
            ≡ one_if (has_number h (named_in (get slots key))) + one_if (h == m) =
            ap (λ x. one_if (has_number h (with_made x (named_in (get slots key))))) is
            ∙ one-more h m (named_in (get slots key)) (are.apart key m is) in
            omega (arith, a, b, c)

    -- So many handles are held as before.
    pub handed-places : places (handed_if holding made) ≡ places holding
    handed-places = by made is
      where
        by : (made : Option ℕ) → made_in (get slots key) ≡ made → places (handed_if holding made) ≡ places holding
        by None is = refl
        by (Some m) is =
            let a = len-handed holding.table m (counted-some holding.table slots key are.counted m
            (made-held (made_in (get slots key)) (named_in (get slots key)) m is)) in
            omega (arith, a)

    -- And as many operations may make one.
    pub handed-makers : (handed_if holding made).makers ≡ holding.makers
    handed-makers = by made
      where
        by : (made : Option ℕ) → (handed_if holding made).makers ≡ holding.makers
        by None = refl
        by (Some m) = refl

-- What a call may do that takes the outcome of an operation that is reaped: what it made was handed over, where it made a handle, and then
-- those that it named are let go.
module _ {R B : Type 0} (d : IoUringDriver R B) (op : Op) (holds : Holds d op)
    (sound : IsSound d.ring.room d.slots.values (places d.holding))
    (are : AreHolding d.holding d.slots.values d.given) (task : ℕ) (slots : FinMap nat_cmp (Slot B)) (done : Done B)
    (polls : PollsAt d.slots.values op.key task slots (Some done)) where
  abbrev has-polled : Owner d.slots.values op.key op.number
  has-polled = held-slot d.slots.values op holds

  made-polled : made_in (get d.slots.values op.key) ≡ made_by done.outcome
  made-polled = ap made_in has-polled.there ∙ ap made_life (polls has-polled.slot has-polled.there).0

  -- It holds what it made.
  pub ready-some : IfSome (made_by done.outcome) (λ h. 0 < (holders_at d.holding.table h).operations)
  ready-some = handed-some d.holding d.slots.values d.given op.key are (made_by done.outcome) made-polled

  module _ (base : Holding) (based : base ≡ handed_by d.holding done) (handles : List ℕ) (named_is : handles ≡ named done.request) where
    names-polled : handles ≡ named_in (get d.slots.values op.key)
    names-polled = named_is ∙ ap (λ r. named r) (polls has-polled.slot has-polled.there).1 ∙ sym (ap named_in has-polled.there)

    -- It may leave those that it named.
    pub ready-may : CanLeave base.table handles
    ready-may =
        subst (λ x. CanLeave x.table handles) (sym based)
        (subst (CanLeave (handed_by d.holding done).table) (sym names-polled)
        (handed-may d.holding d.slots.values d.given op.key are (made_by done.outcome) made-polled))

    pub ready-places : places base ≡ places d.holding
    ready-places = ap (λ x. places x) based
        ∙ handed-places d.holding d.slots.values d.given op.key are (made_by done.outcome) made-polled

    ready-makers : base.makers ≡ d.holding.makers
    ready-makers = ap (λ x. x.makers) based
        ∙ handed-makers d.holding d.slots.values d.given op.key are (made_by done.outcome) made-polled

    ready-ops : (h : ℕ) → (holders_at (without_ops base.table handles) h).operations
        + one_if (has_number h (held_in (get d.slots.values op.key))) ≡ (holders_at d.holding.table h).operations
    ready-ops h =
        ap (λ x. (holders_at (without_ops x.table handles) h).operations + one_if (has_number h (held_in (get d.slots.values op.key))))
        based
        ∙ ap (λ ns. (holders_at (without_ops (handed_by d.holding done).table ns) h).operations
        + one_if (has_number h (held_in (get d.slots.values op.key)))) names-polled
        ∙ handed-ops d.holding d.slots.values d.given op.key are (made_by done.outcome) made-polled h

    -- There is room for their closes.
    pub ready-room : length (unheld_by base.table handles) ≤ d.ring.room
    ready-room = op-room d op holds sound are base handles ready-may ready-places ready-makers ready-ops

    module _ (view : R → RingView) (tells steady : Bool) (ring : Pending R)
        (posts : PostsEach view tells steady d.ring ring (map close_entry (unheld_by base.table handles))) where
      -- What holds of every driver holds then.
      pub ready-freed : IsSound ring.room slots (places (ops_left base handles)) × AreHolding (ops_left base handles) slots d.given
      ready-freed =
          let is = polls has-polled.slot has-polled.there in
          op-freed d op holds sound are base handles ready-may ready-places ready-makers ready-ops view tells steady ring posts slots is.2
          (λ s there. ap (λ l. is_flying l) (polls s there).0)

      -- What it did to the driver's parts.
      pub ready-parts : (new : IoUringDriver R B) → new.ring ≡ ring → new.holding ≡ ops_left base handles →
          ((h : ℕ) → has_number h (unheld_by base.table handles) ≡ true → h < MOST_HANDLES) →
          TakesParts view tells steady d new (handed_by d.holding done) (named done.request)
      ready-parts new same holding below =
          subst (λ x. TakesParts view tells steady d new x (named done.request)) based
          (subst (λ ns. TakesParts view tells steady d new base ns) named_is
          (op-parts d op holds sound are base handles ready-may ready-places ready-makers ready-ops view tells steady ring posts new same
          holding below))

-- What a drop may do of an operation that is reaped: all that it holds is let go.
module _ {R B : Type 0} (d : IoUringDriver R B) (op : Op) (holds : Holds d op)
    (sound : IsSound d.ring.room d.slots.values (places d.holding))
    (are : AreHolding d.holding d.slots.values d.given) (handles : List ℕ) (is : handles ≡ held_in (get d.slots.values op.key)) where
  pub gone-may : CanLeave d.holding.table handles
  gone-may = subst (CanLeave d.holding.table) (sym is) (all-may d.holding d.slots.values d.given op.key are)

  gone-ops : (h : ℕ) → (holders_at (without_ops d.holding.table handles) h).operations
      + one_if (has_number h (held_in (get d.slots.values op.key))) ≡ (holders_at d.holding.table h).operations
  gone-ops h =
      ap (λ ns. (holders_at (without_ops d.holding.table ns) h).operations + one_if (has_number h (held_in (get d.slots.values op.key)))) is
      ∙ all-ops d.holding d.slots.values d.given op.key are h

  pub gone-room : length (unheld_by d.holding.table handles) ≤ d.ring.room
  gone-room = op-room d op holds sound are d.holding handles gone-may refl refl gone-ops

  module _ (view : R → RingView) (tells steady : Bool) (ring : Pending R)
      (posts : PostsEach view tells steady d.ring ring (map close_entry (unheld_by d.holding.table handles))) where
    pub gone-freed : (slots : FinMap nat_cmp (Slot B)) → DropsAt d.slots.values op.key slots Free →
        IsSound ring.room slots (places (ops_left d.holding handles)) × AreHolding (ops_left d.holding handles) slots d.given
    gone-freed slots drops =
        let own = held-slot d.slots.values op holds in
        let gone = drops own.slot own.there in
        op-freed d op holds sound are d.holding handles gone-may refl refl gone-ops view tells steady ring posts slots gone.1
        (λ s there. (drops s there).0)

    pub gone-parts : (new : IoUringDriver R B) → new.ring ≡ ring → new.holding ≡ ops_left d.holding handles →
        ((h : ℕ) → has_number h (unheld_by d.holding.table handles) ≡ true → h < MOST_HANDLES) →
        TakesParts view tells steady d new d.holding handles
    gone-parts new same holding below =
        op-parts d op holds sound are d.holding handles gone-may refl refl gone-ops view tells steady ring posts new same holding below

-- What is read of a slot by a token's key is what its operation holds.
pub drop-names : {R B : Type 0} (d : IoUringDriver R B) (key read : ℕ) (names : List ℕ) (made : Option ℕ) → read ≡ key →
    names ≡ named_in (get d.slots.values read) → made ≡ made_in (get d.slots.values read) →
    with_made made names ≡ held_in (get d.slots.values key)
drop-names d key read names made is named_is made_is =
    ap (with_made made) named_is ∙ ap (λ m. with_made m (named_in (get d.slots.values read))) made_is
    ∙ ap (λ k. held_in (get d.slots.values k)) is
