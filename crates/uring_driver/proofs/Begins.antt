-- The parts of a driver that stands for a ledger, once a prefix of its queue was taken.
use Rattle.std.proofs.Common.{◌≡◌, ℕ, List, [], ◌++◌, length, sym, ◌∙◌, ap, arith, append-nil}
use Rattle.std.specs.Prelude.{slice_get, take, drop}
use Rattle.std.proofs.lemmas.List.{take-append-drop}
use Rattle.std.specs.Ordering.{nat_cmp}
use Rattle.std.specs.FinMap.{FinMap}
use Rattle.rent_buf.specs.Buffer.{Buffer}
use Rattle.ring_core.specs.Ring.{RingView}
use Rattle.machine.specs.Ledger.{Ledger, Queued}
use Rattle.machine.specs.Queue.{take_each, take_all}
use Rattle.machine.specs.Closes.{close_count, closes_queued, closes_listed}
use Rattle.machine.proofs.Closing.{closes-flown, known-stays}
use Rattle.machine.proofs.Making.{OpsFrom}
use Rattle.machine.proofs.Alone.{alone-from}
use Rattle.machine.proofs.Once.{once-same}
use Rattle.machine.proofs.Holders.{SameHolders, AreLive, holders-take_each}
use Rattle.machine.proofs.Occurring.{closes_queued-append}
use Rattle.machine.proofs.Staying.{stays-take_each}
use Rattle.machine.proofs.Taken.{queue-take_each}
use Rattle.driver_core.specs.declared.slot.Slot.{Slot}
use Rattle.driver_core.specs.Holds.{AreMaking}
use Rattle.driver_core.proofs.Lists.{get-front}
use Rattle.driver_core.proofs.Seen.{SameSeen, AreEarly, seen-take_each}
use Rattle.driver_core.proofs.Early.{from-take_each}
use Rattle.uring_driver.specs.declared.uring.IoUringDriver.{IoUringDriver}
use Rattle.uring_driver.specs.Holding.{Holding}
use Rattle.uring_driver.specs.Stands.{Stands}
use Rattle.uring_driver.specs.Turned.{taken_front}
use Rattle.uring_driver.specs.Uring.{whole_ring}
use Rattle.uring_driver.proofs.Amid.{Amid}
use Rattle.uring_driver.proofs.Answering.{lawful-of, alone-of}
use Rattle.uring_driver.proofs.Holders.{means-early, means-live, handles-same}
use Rattle.uring_driver.proofs.Means.{Means, means-of}

-- The parts of a driver that stands for a ledger do.
pub amid-of : {R B : Type 0} {view : R → RingView} {buffer : B → Buffer} {d : IoUringDriver R B} {L : Ledger} → Stands view buffer d L →
    AreMaking d.slots.values d.holding.makers → Amid buffer (whole_ring view d) d.slots.values d.holding L
amid-of stands making =
    let lawful = lawful-of stands in
    record {
      means = means-of stands;
      handles = stands.handles;
      known = lawful.known;
      once = lawful.closes;
      alone = alone-of stands;
      few = stands.few;
      making = making;
    }

module _ {B : Type 0} (buffer : B → Buffer) (v w : RingView) (slots : FinMap nat_cmp (Slot B)) (holding : Holding) (L : Ledger)
    (old : Amid buffer v slots holding L) where
  -- Entries at the head of the queue are taken.
  module _ (es rest : List Queued) (queue : L.queue ≡ es ++ rest) where
    abbrev taken : Ledger
    taken = take_each (record L { queue = rest }) es

    asks : AreLive L.ops es
    asks = record {
      live = λ place n o is there.
          (means-live buffer v slots L old.means).live place n o
          (ap (λ xs. slice_get xs place) queue ∙ get-front es rest place _ is) there;
    }

    early : AreEarly L.ops es
    early = record {
      early = λ place n o is there.
          (means-early buffer v slots L old.means).early place n o
          (ap (λ xs. slice_get xs place) queue ∙ get-front es rest place _ is) there;
    }

    same-seen : SameSeen L taken
    same-seen = (let s = seen-take_each (record L { queue = rest }) es early in record { users = s.users; ops = s.ops })

    comes : OpsFrom L taken
    comes = (let s = from-take_each (record L { queue = rest }) es early in record { users = s.users; ops = s.ops })

    same-holders : SameHolders L taken
    same-holders = (let s = holders-take_each (record L { queue = rest }) es asks in record { users = s.users; ops = s.ops })

    same-count : (h : ℕ) → close_count taken h ≡ close_count L h
    same-count h =
        let E : Ledger = record L { queue = rest } in
        let flown = closes-flown E es h in
        let queued = ap (closes_queued h) (queue-take_each E es) in
        let done = ap (closes_listed h) (stays-take_each E es).done in
        let both = ap (closes_queued h) queue ∙ closes_queued-append h es rest in
        omega (arith, flown, queued, done, both)

    amid-taken : Means buffer w slots taken → Amid buffer w slots holding taken
    amid-taken means =
        let stays = stays-take_each (record L { queue = rest }) es in
        record {
          means = means;
          handles = handles-same holding L old.handles taken same-seen same-count;
          known = known-stays (record {
            capacity = stays.capacity;
            done = stays.done;
            world = stays.world;
            owners = stays.owners;
            groups = stays.groups;
            ops = stays.ops;
          }) old.known;
          once = once-same L taken same-count same-holders (let e = ap length stays.owners in omega (arith, e)) old.once;
          alone = alone-from comes old.alone;
          few = (let e = ap length stays.world in let f = old.few in omega (arith, e, f));
          making = old.making;
        }

  -- A prefix of the queue is taken.
  pub amid-front : (count : ℕ) → Means buffer w slots (taken_front count L) → Amid buffer w slots holding (taken_front count L)
  amid-front count means = amid-taken (take count L.queue) (drop count L.queue) (sym (take-append-drop count L.queue)) means

  -- All of it is taken.
  pub amid-all : Means buffer w slots (take_all L) → Amid buffer w slots holding (take_all L)
  amid-all means = amid-taken L.queue [] (sym (append-nil L.queue)) means
