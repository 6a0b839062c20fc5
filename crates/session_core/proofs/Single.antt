-- The user of a session holds each handle once at most, after each call of its driver.
use Rattle.std.proofs.Common.{◌≡◌, ◌≤◌, inl, inr, ℕ, Bool, true, false, List, [], ◌∷◌, Option, None, Some, refl, sym}
use Rattle.std.proofs.Common.{◌∙◌, ap, subst}
use Rattle.std.proofs.Common.{arith}
use Rattle.std.specs.Prelude.{◌&&◌, ◌==◌, ◌-◌, nat_lt, max, length, unwrap_or}
use Rattle.std.proofs.lemmas.Bool.Decides.{nat_tests}
use Rattle.std.specs.Ordering.{nat_cmp}
use Rattle.std.specs.FinMap.{FinMap, get, insert}
use Rattle.handle_core.specs.Table.{Table, holders_at, with_holders, nobody, by_user, by_operation, without_user, handed}
use Rattle.handle_core.specs.declared.table.Holders.{Holders}
use Rattle.rent_buf.specs.Buf.{built}
use Rattle.rent_buf.specs.Parts.{Parts}
use Rattle.rent_buf.specs.declared.plain.Buf.{Buf}
use Rattle.machine.specs.Closes.{AreKnown}
use Rattle.ring_core.specs.Entry.{target}
use Rattle.machine.specs.Ledger.{Ledger, user_holds}
use Rattle.machine.specs.Request.{named, makes}
use Rattle.machine.specs.Effect.{made_by}
use Rattle.machine.specs.declared.request.Request.{Request}
use Rattle.ring_core.specs.Ring.{RingView}
use Rattle.machine.specs.declared.completion.Completion.{Completion}
use Rattle.ring_core.specs.declared.entry.Target.{Target}
use Rattle.ring_core.specs.declared.entry.Target.TheVariants.{Slot as Keyed, Handle, Reserved}
use Rattle.machine.proofs.Lawful.{lawful-ledger}
use Rattle.machine.proofs.Numbers.{same-or-not}
use Rattle.machine.proofs.Stepping.{held-there}
use Rattle.driver_core.specs.Holds.{without_ops, settled, dropped_in, held_in, is_dropped}
use Rattle.driver_core.specs.declared.op.Done.{Done}
use Rattle.driver_core.specs.declared.slot.Slot.{Slot}
use Rattle.driver_core.proofs.Holds.{user-joined, user-left, settled-same, settled-other}
use Rattle.driver_core.proofs.Maps.{put-same, put-other}
use Rattle.uring_driver.specs.Holding.{Holding, user_count, user_left, ops_left, closes, reaped_if, with_added, IsSameHolding}
use Rattle.uring_driver.specs.Making.{KeepsHolding, handed_if, kept_if}
use Rattle.uring_driver.specs.PollOp.{handed_by}
use Rattle.uring_driver.specs.Submitted.{JoinsHandles}
use Rattle.uring_driver.specs.Reap.{Treated, treat_one, treat_each, treats_slot, treats_close, goes_on, names_in}
use Rattle.uring_driver.specs.Released.{Adopts}
use Rattle.uring_driver.specs.Stands.{Stands}
use Rattle.uring_driver.specs.Turned.{TreatsTaken}
use Rattle.driver_core.specs.declared.op.Turned.{Turned}
use Rattle.uring_driver.specs.Uring.{ring_in, holding_in, holds_handle}
use Rattle.uring_driver.specs.declared.uring.IoUringDriver.{IoUringDriver}
use Rattle.uring_driver.specs.Dropped.{DropsOp, DropsSlotOf}
use Rattle.uring_driver.specs.Op.{Holds}
use Rattle.driver_core.specs.declared.op.Op.{Op}
use Rattle.driver_core.specs.Slot.{is_flying}
use Rattle.driver_core.proofs.SlotTokens.{held-slot}
use Rattle.session_core.specs.Session.{AreSingle}
use Rattle.ready_run.proofs.Single.{less-test, once-counted}

-- A driver that keeps who holds its handles.
pub single-same : (old new : IoUringDriver RingView Buf) → holding_in new ≡ holding_in old → AreSingle old → AreSingle new
single-same old new same single h = subst (λ x. user_count x h ≤ 1) (sym same) (single h)

-- One whose user holds no handle more often.
single-fewer : (old new : IoUringDriver RingView Buf) → ((h : ℕ) → user_count (holding_in new) h ≤ user_count (holding_in old) h) →
    AreSingle old → AreSingle new
single-fewer old new few single h = let a = few h in let b = single h in omega (arith, a, b)

-- One whose user's holds stay.
pub single-users : (old new : IoUringDriver RingView Buf) → ((h : ℕ) → user_count (holding_in new) h ≡ user_count (holding_in old) h) →
    AreSingle old → AreSingle new
single-users old new same single h = subst (λ k. k ≤ 1) (sym (same h)) (single h)

-- One whose holders were kept but for reserved memory.
pub single-reserved : (old new : IoUringDriver RingView Buf) → IsSameHolding (holding_in old) (holding_in new) →
    AreSingle old → AreSingle new
single-reserved old new same =
    single-users old new (λ h. ap (λ m. (holders_at (record (holding_in old).table { holders = m }) h).user) same.table)

-- Memory may have been reserved for an operation that may make a handle.
kept-users : (maker : Bool) (old new : Holding) → KeepsHolding maker old new → (h : ℕ) → user_count new h ≡ user_count old h
kept-users true old new same h = ap (λ m. (holders_at (record old.table { holders = m }) h).user) same.table
kept-users false old new same h = ap (λ x. user_count x h) same

-- One that kept them but for that memory.
pub single-kept : (maker : Bool) (old new : IoUringDriver RingView Buf) → KeepsHolding maker (holding_in old) (holding_in new) →
    AreSingle old → AreSingle new
single-kept maker old new same = single-users old new (kept-users maker (holding_in old) (holding_in new) same)

-- One of which an operation holds what it names.
pub single-joined : (old new : IoUringDriver RingView Buf) (request : Request Buf Parts) →
    JoinsHandles request (holding_in old) (holding_in new) → AreSingle old → AreSingle new
single-joined old new request joins = single-users old new (λ h.
    ap (λ x. user_count x h) joins.joined ∙ user-joined joins.mid.table (named request) h
    ∙ kept-users (makes request) (holding_in old) joins.mid joins.ready h)

-- One of which an operation is gone.
pub single-left : (old new : IoUringDriver RingView Buf) (handles : List ℕ) → holding_in new ≡ ops_left (holding_in old) handles →
    AreSingle old → AreSingle new
single-left old new handles is = single-users old new (λ h. ap (λ x. user_count x h) is ∙ user-left (holding_in old).table handles h)

-- A handle that was handed over is held once, where its user held it once at most.
handed-users : (holding : Holding) (made : Option ℕ) (h : ℕ) → user_count holding h ≤ 1 → user_count (handed_if holding made) h ≤ 1
handed-users holding None h few = few
handed-users holding (Some k) h few =
    let table = holding.table in
    let held : Holders = handed (holders_at table k) in
    elim (same-or-not h k) [
      | inl e ↦ (
          let a = ap (λ x. (holders_at (with_holders table k held) x).user) e
          ∙ ap (λ o. (unwrap_or o nobody).user) (put-same table.holders k held) in
          let b = subst (λ x. user_count holding x ≤ 1) e few in
          let c = greatest (holders_at table k).user b in
          omega (arith, a, c))
      | inr e ↦ (
          let a = ap (λ o. (unwrap_or o nobody).user) (put-other table.holders k held h e) in
          omega (arith, a, few))
    ]
  where
    greatest : (k : ℕ) → k ≤ 1 → max k 1 ≤ 1
    greatest k few = grind (arith, nat_tests)

-- One that handed over what an operation made which is gone.
pub single-polled : (old new : IoUringDriver RingView Buf) (done : Done Buf) →
    holding_in new ≡ ops_left (handed_by (holding_in old) done) (named done.request) → AreSingle old → AreSingle new
single-polled old new done is single h =
    let handed : Holding = handed_by (holding_in old) done in
    let a = ap (λ x. user_count x h) is ∙ user-left handed.table (named done.request) h in
    let b = handed-users (holding_in old) (made_by done.outcome) h (single h) in
    omega (arith, a, b)

-- One of which the user dropped a hold.
pub single-released : (old new : IoUringDriver RingView Buf) (h : ℕ) → holding_in new ≡ user_left (holding_in old) h →
    AreSingle old → AreSingle new
single-released old new h is single k =
    let table = (holding_in old).table in
    let held : Holders = without_user (holders_at table h) in
    elim (same-or-not k h) [
      | inl e ↦ (
          let a = ap (λ x. user_count x k) is ∙ ap (λ x. (holders_at (settled table h held) x).user) e
          ∙ ap (λ x. x.user) (settled-same table h held) in
          let b = single h in
          omega (arith, a, b))
      | inr e ↦ (
          let a = ap (λ x. user_count x k) is ∙ ap (λ x. x.user) (settled-other table h held k e) in
          let b = single k in
          omega (arith, a, b))
    ]

-- One that adopted a handle.
pub single-adopted : (old new : IoUringDriver RingView Buf) (h : ℕ) → Adopts (holding_in old) h (holding_in new) →
    AreSingle old → AreSingle new
single-adopted old new h adopts single k =
    let holders = (holding_in old).table.holders in
    let is = ap (λ m. (unwrap_or (get m k) nobody).user) adopts.table in
    elim (same-or-not k h) [
      | inl e ↦ (
          let a = is ∙ ap (λ x. (unwrap_or (get (insert holders h by_user) x) nobody).user) e
          ∙ ap (λ o. (unwrap_or o nobody).user) (put-same holders h by_user) in
          omega (arith, a))
      | inr e ↦ (
          let a = is ∙ ap (λ o. (unwrap_or o nobody).user) (put-other holders h by_user k e) in
          let b = single k in
          omega (arith, a, b))
    ]

-- With handles that operations hold no handle is held more often by the user.
added-users : (table : Table) (handles : List ℕ) (h : ℕ) → (holders_at (with_added table handles) h).user ≤ (holders_at table h).user
added-users table [] h = let k = (holders_at table h).user in omega arith
added-users table (k ∷ handles) h =
    let next : Table = record (with_holders table k by_operation) { spare = table.spare - 1 } in
    let a = added-users next handles h in
    elim (same-or-not h k) [
      | inl e ↦ (
          let b = ap (λ x. (holders_at next x).user) e ∙ ap (λ o. (unwrap_or o nobody).user) (put-same table.holders k by_operation) in
          omega (arith, a, b))
      | inr e ↦ (
          let b = ap (λ o. (unwrap_or o nobody).user) (put-other table.holders k by_operation h e) in
          omega (arith, a, b))
    ]

-- Treating a completion makes none of the user's holds.
treated-slot : (names : Option (ℕ × Option ℕ)) (slots : FinMap nat_cmp (Slot Buf)) (holding : Holding) (completion : Completion) (h : ℕ) →
    user_count (treats_slot names slots holding completion).holding h ≤ user_count holding h
treated-slot None slots holding completion h = let k = user_count holding h in omega arith
treated-slot (Some names) slots holding completion h =
    let slot = get slots completion.word in
    let a = added-users (without_ops holding.table (dropped_in slot)) (kept_if (is_dropped slot) (made_by completion.outcome)) h in
    let b = user-left holding.table (dropped_in slot) h in
    omega (arith, a, b)

-- Reaping a close leaves them.
reaped-users : (b : Bool) (holding : Holding) (k h : ℕ) → user_count (reaped_if b holding k) h ≡ user_count holding h
reaped-users true holding k h = refl
reaped-users false holding k h = refl

-- Treating a completion of a handle does.
treated-close : (b : Bool) (slots : FinMap nat_cmp (Slot Buf)) (holding : Holding) (word k h : ℕ) →
    user_count (treats_close b slots holding word k).holding h ≤ user_count holding h
treated-close true slots holding word k h = let a = reaped-users (closes holding k) holding k h in omega (arith, a)
treated-close false slots holding word k h = let k = user_count holding h in omega arith

-- Treating any one does.
treated-one : (t : Target) (slots : FinMap nat_cmp (Slot Buf)) (holding : Holding) (completion : Completion) (h : ℕ) →
    user_count (treat_one t slots holding completion).holding h ≤ user_count holding h
treated-one (Keyed key) slots holding completion h =
    treated-slot (names_in holding completion.outcome (get slots completion.word)) slots holding completion h
treated-one (Handle k) slots holding completion h = treated-close (closes holding k) slots holding completion.word k h
treated-one (Reserved word) slots holding completion h = let k = user_count holding h in omega arith

-- What goes on holds what the rest does, and what stops what the first did.
goes-users : (bad : Option ℕ) (first more : Treated Buf) (rest : List Completion) (h : ℕ) →
    user_count more.holding h ≤ user_count first.holding h → user_count (goes_on bad first rest more).holding h ≤ user_count first.holding h
goes-users None first more rest h few = few
goes-users (Some word) first more rest h few = let k = user_count first.holding h in omega arith

-- Treating some in order does.
treated-each : (slots : FinMap nat_cmp (Slot Buf)) (holding : Holding) (completions : List Completion) (h : ℕ) →
    user_count (treat_each slots holding completions).holding h ≤ user_count holding h
treated-each slots holding [] h = let k = user_count holding h in omega arith
treated-each slots holding (completion ∷ rest) h =
    let first = treat_one (target completion.word) slots holding completion in
    let a = goes-users first.bad first (treat_each first.slots first.holding rest) rest h (treated-each first.slots first.holding rest h) in
    let b = treated-one (target completion.word) slots holding completion h in
    omega (arith, a, b)

-- One whose turn treated completions.
pub single-turned : (old new : IoUringDriver RingView Buf) (turned : Turned) (queued : List ℕ) (bad : Option ℕ) →
    TreatsTaken (λ r. r) true old new turned queued bad → AreSingle old → AreSingle new
single-turned old new turned queued bad treats = single-fewer old new (λ h.
    let a = ap (λ t. user_count t.holding h) (sym treats.treated) in
    let b = treated-each old.slots.values old.holding treats.taken h in
    omega (arith, a, b))

-- The user holds a handle of the ring exactly where it does in the ledger.
pub has-held : (driver : IoUringDriver RingView Buf) (L : Ledger) (h : ℕ) → Stands (λ r. r) built driver L →
    (holds_handle driver h && nat_lt h (length (ring_in driver).world)) ≡ user_holds L h
has-held driver L h stands = at (user_holds L h) refl (holds_handle driver h) (stands.handles.holders.users h)
    (λ holds.
    let a = held-there L h holds in
    let known : AreKnown L =
    subst (λ M. AreKnown M) (sym stands.reached) (lawful-ledger (ring_in driver).capacity stands.events).known in
    let b = known.together in
    let c = ap (λ w. length w) stands.ring.world in
    less-test h (length (ring_in driver).world) (omega (arith, a, b, c)))
  where
    at : (b : Bool) → user_holds L h ≡ b → (held : Bool) → held ≡ user_holds L h →
        (user_holds L h ≡ true → nat_lt h (length (ring_in driver).world) ≡ true) →
        (held && nat_lt h (length (ring_in driver).world)) ≡ user_holds L h
    at true is held same within = ap (λ x. x && nat_lt h (length (ring_in driver).world)) (same ∙ is) ∙ within is ∙ sym is
    at false is held same within = ap (λ x. x && nat_lt h (length (ring_in driver).world)) (same ∙ is) ∙ sym is

-- A handle that the user holds is held once by it.
pub once-held : (driver : IoUringDriver RingView Buf) (h : ℕ) → AreSingle driver → holds_handle driver h ≡ true →
    (user_count (holding_in driver) h == 1) ≡ true
once-held driver h single holds = once-counted (user_count (holding_in driver) h) (single h) holds

-- One of which an operation was dropped.
pub single-dropped : (old new : IoUringDriver RingView Buf) (op : Op) → Holds old op → DropsOp (λ r. r) true old new op →
    AreSingle old → AreSingle new
single-dropped old new op holds drops =
    let has = held-slot old.slots.values op holds in
    by has.slot (is_flying has.slot.life) (drops has.slot has.there)
  where
    by : (slot : Slot Buf) (b : Bool) → DropsSlotOf (λ r. r) true old new op slot b → AreSingle old → AreSingle new
    by slot true drops = single-same old new drops.1
    by slot false drops = single-left old new (held_in (Some slot)) drops.1
