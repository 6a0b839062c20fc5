use Rattle.std.proofs.Common.{false, [], ◌∷◌, ◌++◌, length, take, drop, slice_get, sym, ◌∙◌, ap, subst, arith}
use Rattle.ring_core.specs.declared.entry.Flight.{Flight}
use Rattle.ring_core.specs.Bound.{AreLed, left_behind}
use Rattle.ring_core.specs.MemRing.{entry_at, completed}
use Rattle.machine.proofs.Amended.{there-before}
use Rattle.ring_core.proofs.Binding.{left-removed, length-removed}
use Rattle.ring_core.proofs.Leading.{ends-alone, led-left}
use Rattle.ring_core.proofs.Executed.{completes-alone}
use Rattle.ring_core.proofs.mem_ring.MemRing.complete.Goals as goal

pub invariant_of-self : goal.invariant_of-self
invariant_of-self c =
    let flights = c.self.inside.flying.flights in
    let at = there-before (λ (f : Flight). f.entry) (slice_get flights c.args.place) c.args.entry
    (ap (λ v. entry_at v.flying c.args.place) c.self.view_is ∙ c.requires) in
    let rest = ap (λ f. f.flights) c.remove.ensures in
    let room = ap (λ f. f.room) c.remove.ensures in
    let fewer = length-removed flights c.args.place at.0 at.1 in
    let left = ap length rest in
    let more = c.push_back_reserved.ensures.len in
    let capacity = c.push_back_reserved.ensures.capacity in
    let both = c.release.ensures.length in
    let rooms = c.release.ensures.room in
    let had = c.self.invariant.0 in (
      record { some = had.some; within = had.within; in_queue = omega arith; in_flight = omega arith; in_done = omega arith },
      subst (AreLed false) (sym (c.release.ensures.flying
          ∙ ap (λ ys. take c.args.place ys ++ left_behind c.args.outcome (drop c.args.place ys)) rest
          ∙ (left-removed c.args.outcome flights c.args.place).0))
          (led-left c.args.outcome c.args.place false flights c.self.invariant.1),
    )

pub invariant_of-self-else-entry : goal.invariant_of-self-else-entry
invariant_of-self-else-entry c =
    let flights = c.self.inside.flying.flights in
    let at = there-before (λ (f : Flight). f.entry) (slice_get flights c.args.place) c.args.entry
    (ap (λ v. entry_at v.flying c.args.place) c.self.view_is ∙ c.requires) in
    let rest = ap (λ f. f.flights) c.remove.ensures in
    let room = ap (λ f. f.room) c.remove.ensures in
    let fewer = length-removed flights c.args.place at.0 at.1 in
    let left = ap length rest in
    let more = c.push_back_reserved.ensures.len in
    let capacity = c.push_back_reserved.ensures.capacity in
    let had = c.self.invariant.0 in
    let free = sym (ap (λ e. e.linked) at.2) ∙ c.if-entry.false in (
      record { some = had.some; within = had.within; in_queue = omega arith; in_flight = omega arith; in_done = omega arith },
      subst (AreLed false) (sym (rest
          ∙ (ends-alone c.args.outcome false flights c.args.place at.0 c.self.invariant.1 at.1 free).0))
          (led-left c.args.outcome c.args.place false flights c.self.invariant.1),
    )

pub returns-else-entry-clause-ring : goal.returns-else-entry-clause-ring
returns-else-entry-clause-ring c =
    let flights = c.self.inside.flying.flights in
    let at = there-before (λ (f : Flight). f.entry) (slice_get flights c.args.place) c.args.entry
    (ap (λ v. entry_at v.flying c.args.place) c.self.view_is ∙ c.requires) in
    let free = sym (ap (λ e. e.linked) at.2) ∙ c.if-entry.false in
    completes-alone (record {
      capacity = c.self.inside.entries;
      queue = c.self.inside.queue.items;
      flying = flights;
      done = c.self.inside.done.items;
      world = c.self.inside.world;
      spare = c.self.inside.spare;
      faults = 0;
      busies = 0;
      to_come = 0;
    }) c.args.place c.remove.new.self.flights c.push_back_reserved.new.self.items at.0 c.args.entry c.args.outcome
    c.self.invariant.1 at.1 free (ap (λ f. f.flights) c.remove.ensures)
    (c.push_back_reserved.ensures.items ∙ ap (λ x. c.self.inside.done.items ++ x ∷ []) c.completion_for-completion.ensures)
    ∙ ap (λ v. completed v c.args.place c.args.entry c.args.outcome) c.self.view_is
