use Rattle.std.proofs.Common.{[], ◌∷◌, ◌++◌, length, drop, sym, ◌∙◌, ap, subst, arith}
use Rattle.std.proofs.lemmas.List.{append_assoc, append-nil}
use Rattle.machine.specs.declared.request.TheConstants.{CANCELED}
use Rattle.machine.specs.declared.request.Outcome.TheVariants.{Fail}
use Rattle.ring_core.specs.Bound.{TakesBound, completion_of, broken, bound_front}
use Rattle.ring_core.proofs.Binding.{left-broken, next-broken, none-bound, none-broken, length-taken}
use Rattle.ring_core.proofs.mem_ring.break_bound.Goals as goal

pub returns : goal.returns
returns c =
    let invariant = c.loop-entry.invariant in
    let none = subst (λ r. TakesBound c.loop-entry.flying.flights c.args.place c.take_bound.new.self.flights r) c.in_default.is
    c.take_bound.ensures.takes in
    let front = (none-bound c.loop-entry.flying.flights c.args.place none.0).1 in
    let same = ap length none.1 in record {
      flying = none.1 ∙ sym (none-broken c.loop-entry.flying.flights c.args.place none.0) ∙ invariant.flying;
      done = sym (append-nil c.loop-entry.done.items) ∙ ap (λ ys. c.loop-entry.done.items ++ broken ys) (sym front) ∙ invariant.done;
      length = omega arith;
      room = (c.take_bound.ensures.room ∙ invariant.flying_room, invariant.done_room);
    }

pub loop-entry-preserved : goal.loop-entry-preserved
loop-entry-preserved c =
    let invariant = c.loop-entry.invariant in
    let taken = c.in-Some.ensures.takes in
    let before = c.loop-entry.flying.flights in
    let left = c.take_bound.new.self.flights in
    let place = c.args.place in
    let completion = completion_of c.in-Some.entry (Fail CANCELED) in
    let fewer = length-taken before place left c.in-Some.entry taken in
    let more = c.push_back_reserved.ensures.len in record {
      flying = left-broken before place left c.in-Some.entry taken ∙ invariant.flying;
      done = ap (λ ys. ys ++ broken (bound_front (drop place left)))
          (c.push_back_reserved.ensures.items ∙ ap (λ x. c.loop-entry.done.items ++ x ∷ []) c.completion_for.ensures)
          ∙ append_assoc c.loop-entry.done.items (completion ∷ []) (broken (bound_front (drop place left)))
          ∙ ap (λ ys. c.loop-entry.done.items ++ ys) (sym (next-broken before place left c.in-Some.entry taken))
          ∙ invariant.done;
      sum = omega arith;
      flying_room = c.take_bound.ensures.room ∙ invariant.flying_room;
      done_room = c.push_back_reserved.ensures.capacity ∙ invariant.done_room;
    }
