-- Ledgers whose queue is of operations that weren't executed, and where operations come from once it was taken.
use Rattle.std.proofs.Common.{◌≡◌, inl, inr, ℕ, ◌≤◌, Bool, true, false, List, [], ◌∷◌, length, map, Some, refl, sym, Option, None}
use Rattle.std.proofs.Common.{◌∙◌, ap, arith, subst, if◌then◌else◌}
use Rattle.std.specs.Prelude.{slice_get, ◌==◌}
use Rattle.machine.specs.Lists.{amended, passes}
use Rattle.machine.specs.Ledger.{Ledger, Operation, Place, InQueue, InFlight, InDone, Reaped, Gone, Queued, Req, Cancel}
use Rattle.machine.specs.Queue.{at_place, canceled_at, with_take, with_cancel, take_one, leader_behind, take_behind, take_each, take_all, push}
use Rattle.machine.specs.Queue.{push_each}
use Rattle.machine.specs.Closes.{made_at}
use Rattle.machine.proofs.Amended.{changed-cases, there-before}
use Rattle.machine.proofs.Making.{From, OpsFrom, ops_from-then, ops_from-same}
use Rattle.machine.proofs.Taking.{in_queue, queue_mark, Listed}
use Rattle.machine.proofs.Lawful.{queued-there}
use Rattle.driver_core.specs.Slots.{is_early}
use Rattle.driver_core.proofs.Seen.{AreEarly, early-live, early-take_one, early-first, early-push}

-- What has the mark of the queue wasn't executed.
queued-early : (p : Place) → 1 ≤ in_queue p → is_early p ≡ true
queued-early InQueue h = refl
queued-early InFlight h = refl
queued-early (InDone outcome) h = absurd (omega (arith, h))
queued-early (Reaped outcome) h = absurd (omega (arith, h))
queued-early Gone h = absurd (omega (arith, h))

-- Where the lists hold what the places say, each request in the queue is one of an operation that wasn't executed.
pub listed-early : (L : Ledger) → Listed L → AreEarly L.ops L.queue
listed-early L h = record {
  early = λ place n o asks there. (
      let some = queued-there n L.queue place asks in
      let mark = h.waiting n ∙ ap queue_mark there in
      queued-early o.place (omega (arith, some, mark)));
}

-- An operation that no entry asks for is gone.
pub early-gone : (ops : List Operation) (entries : List Queued) (n : ℕ) → ((i : ℕ) → slice_get entries i ≡ Some (Req n) → ⊥) →
    AreEarly ops entries → AreEarly (amended ops n (at_place Gone)) entries
early-gone ops entries n unasked early = record {
  early = λ place m o asks there. elim (changed-cases (at_place Gone) ops n m) [
    | inl e ↦ absurd (unasked place (asks ∙ ap (λ k. Some (Req k)) e.0))
    | inr e ↦ early.early place m o asks (sym e.1 ∙ there)
  ];
}

-- What wasn't executed made nothing.
early-made : (p : Place) → is_early p ≡ true → made_at p ≡ made_at InFlight
early-made InQueue early = refl
early-made InFlight early = refl
early-made (InDone outcome) early = (let f : ⊥ = cc in absurd f)
early-made (Reaped outcome) early = (let f : ⊥ = cc in absurd f)
early-made Gone early = (let f : ⊥ = cc in absurd f)

-- A cancel that is taken leaves where an operation comes from.
from-canceled : (p : Place) (o : Operation) → From o (canceled_at p o)
from-canceled InQueue o = record { request = refl; made = refl; live = λ l. l; place = λ l. refl }
from-canceled InFlight o = record { request = refl; made = refl; live = λ l. l; place = λ l. refl }
from-canceled (InDone outcome) o = record { request = refl; made = refl; live = λ l. l; place = λ l. refl }
from-canceled (Reaped outcome) o = record { request = refl; made = refl; live = λ l. l; place = λ l. refl }
from-canceled Gone o = record { request = refl; made = refl; live = λ l. l; place = λ l. refl }

-- One operation that is changed as it is there.
from-change : (L M : Ledger) (n : ℕ) (change : Operation → Operation) → M.ops ≡ amended L.ops n change → M.owners ≡ L.owners →
    ((o : Operation) → slice_get L.ops n ≡ Some o → From o (change o)) → OpsFrom L M
from-change L M n change ops owners comes = record {
  users = λ h is. ap (λ os. passes (λ owner. owner.is_user) (slice_get os h)) (sym owners) ∙ is;
  ops = λ m p there'. (
      let there = ap (λ xs. slice_get xs m) (sym ops) ∙ there' in
      elim (changed-cases change L.ops n m) [
        | inl e ↦ (
            let b = there-before change (slice_get L.ops n) p (sym e.1 ∙ there) in
            (b.0, ap (slice_get L.ops) e.0 ∙ b.1, subst (From b.0) (sym b.2) (comes b.0 b.1)))
        | inr e ↦ (p, sym e.1 ∙ there, record { request = refl; made = refl; live = λ l. l; place = λ l. refl })
      ]);
}

-- One entry taken.
from-take_one : (leader : Option ℕ) (L : Ledger) (entry : Queued) → AreEarly L.ops (entry ∷ []) → OpsFrom L (take_one leader L entry)
from-take_one leader L (Req n) h = from-change L (take_one leader L (Req n)) n (with_take leader) refl refl (λ o there.
    let early = h.early 0 n o refl there in
    record { request = refl; made = refl; live = λ l. early-live o early; place = λ l. sym (early-made o.place early) })
from-take_one leader L (Cancel n) h =
    from-change L (take_one leader L (Cancel n)) n with_cancel refl refl (λ o there. from-canceled o.place o)
from-take_one leader L (Queued.Close k) h = record { users = λ h is. is; ops = (ops_from-same L).ops }

-- Entries taken, whatever the first of them follows.
from-take_behind : (leader : Option ℕ) (L : Ledger) (entries : List Queued) → AreEarly L.ops entries →
    OpsFrom L (take_behind leader L entries)
from-take_behind leader L [] h = ops_from-same L
from-take_behind leader L (entry ∷ entries) h =
    ops_from-then (from-take_one leader L entry (early-first L.ops entry entries h))
    (from-take_behind (leader_behind L entry) (take_one leader L entry) entries (early-take_one leader L entry entries h))

-- Entries taken.
pub from-take_each : (L : Ledger) (entries : List Queued) → AreEarly L.ops entries → OpsFrom L (take_each L entries)
from-take_each L entries h = from-take_behind None L entries h

-- An entry pushed.
pub from-push : (L : Ledger) (entry : Queued) → AreEarly L.ops L.queue → OpsFrom L (push L entry)
from-push L entry h = let s = by (length L.queue == L.capacity) in record { users = s.users; ops = s.ops }
  where
    all : OpsFrom L (take_all L)
    all = (let s = from-take_each (record L { queue = [] }) L.queue h in record { users = s.users; ops = s.ops })

    by : (b : Bool) → OpsFrom L (if b then take_all L else L)
    by true = all
    by false = ops_from-same L

-- Closes pushed.
pub from-push_closes : (L : Ledger) (handles : List ℕ) → AreEarly L.ops L.queue → OpsFrom L (push_each L (map Queued.Close handles))
from-push_closes L [] h = ops_from-same L
from-push_closes L (k ∷ handles) h =
    ops_from-then (from-push L (Queued.Close k) h)
    (from-push_closes (push L (Queued.Close k)) handles (early-push L (Queued.Close k) (λ n e. (let f : ⊥ = cc in f)) h))
