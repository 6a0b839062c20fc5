use Rattle.std.proofs.Common.{rules, ℕ, ◌≡◌, ◌<◌, ◌∙◌, ap, sym, refl, subst, arith, drop, length, get_or, [], Some, List}
use Rattle.std.proofs.lemmas.List.Sorted.{IsNonDecreasingBy-from_sort}
use Rattle.std.specs.Vec.{vec_len, vec_capacity}
use Rattle.core_exec.specs.Tasks.{task_at}
use Rattle.core_exec.specs.Marks.{Covers}
use Rattle.core_exec.specs.Turns.{Turns, Reaches}
use Rattle.core_exec.proofs.Reaching.{Turning, rising_sorted, turning_starts}
use Rattle.core_exec.proofs.Looping.{loop_next, loop_stops, loop_outputs, outputs_none, marks_step}
use Rattle.core_exec.proofs.Placing.{places_step}
use Rattle.core_exec.proofs.turn.poll_ready.Given as given
use Rattle.core_exec.proofs.turn.poll_ready.Goals as goal

-- the turn is to come to all numbers
pub loop-k-init : goal.loop-k-init
loop-k-init g c = record {
  sound = c.requires.sound;
  waits = λ waiting. waiting;
  jobs = c.requires.jobs;
  deadlines = c.requires.deadlines;
  numbers = c.requires.numbers;
  marks = refl;
  moment = refl;
  turning = subst (λ P. Turning g.J.Job.polls g.J.Job.cancels g.J.Job.aim c.args.ready.now.moment (task_at c.args.ready.now.table)
      (task_at c.args.ready.now.table)
      P c.args.ran.now.canceled.items c.args.ran.now.done.items c.args.ready.now.marks.items) (sym c.requires.polled.0)
      (subst (λ C. Turning g.J.Job.polls g.J.Job.cancels g.J.Job.aim c.args.ready.now.moment (task_at c.args.ready.now.table)
      (task_at c.args.ready.now.table)
      [] C c.args.ran.now.done.items c.args.ready.now.marks.items) (sym c.requires.canceled.0)
      (subst (λ D. Turning g.J.Job.polls g.J.Job.cancels g.J.Job.aim c.args.ready.now.moment (task_at c.args.ready.now.table)
      (task_at c.args.ready.now.table)
      [] [] D c.args.ready.now.marks.items) (sym c.requires.done.0)
      (turning_starts g.J.Job.polls g.J.Job.cancels g.J.Job.aim c.args.ready.now.moment
      (task_at c.args.ready.now.table) c.args.ready.now.marks.items
      (rising_sorted c.args.ready.now.marks.items (IsNonDecreasingBy-from_sort (λ x. x) c.args.ready.now.marks.items c.requires.sorted))
      c.requires.listed.covers)));
  outputs = outputs_none g.J.Job.aim g.J.Job.meets
      (task_at c.args.ready.now.table) c.args.ran.now.done.items c.args.outputs.now.items c.requires.done.0;
  places = λ s. refl;
  marks_room = search rules;
  len = refl;
  capacity = refl;
  polled = search rules;
  canceled = search rules;
  done = search rules;
  stopped = refl;
}

-- what is so where memory ran out at this task
stopped_here : (g : given.Over) (c : goal.Then-stops g)
    → Turns g.J.Job.polls g.J.Job.cancels g.J.Job.aim c.args.ready.now.moment (task_at c.args.ready.now.table)
    (task_at c.poll_at-seen.new.ready.table)
    c.poll_at-seen.new.ran.polled.items c.poll_at-seen.new.ran.canceled.items c.poll_at-seen.new.ran.done.items (Some c.index-t.result.now)
    × Reaches (task_at c.args.ready.now.table) (task_at c.poll_at-seen.new.ready.table) c.poll_at-seen.new.ran.polled.items
    (Some c.index-t.result.now)
    × Covers (task_at c.poll_at-seen.new.ready.table) (drop c.loop-k.k c.args.ready.now.marks.items)
stopped_here g c =
    let M : List ℕ = c.args.ready.now.marks.items in
    let test = c.loop-k-test.true in
    let count = c.len-count.ensures in
    let below : c.loop-k.k < length M = search rules in
    let at : c.index-t.result.now ≡ get_or M c.loop-k.k c.index-t.result.now
    = c.index-t.ensures ∙ ap (λ v. get_or v.items c.loop-k.k c.index-t.result.now) c.loop-k.invariant.marks in
    loop_stops g.J.Job.polls g.J.Job.cancels g.J.Job.aim c.args.ready.now.moment c.loop-k.ready.moment c.loop-k.k c.index-t.result.now M
    (task_at c.args.ready.now.table) (task_at c.loop-k.ready.table) (task_at c.poll_at-seen.new.ready.table)
    c.loop-k.ran.polled.items c.loop-k.ran.canceled.items c.loop-k.ran.done.items
    c.poll_at-seen.new.ran.polled.items c.poll_at-seen.new.ran.canceled.items c.poll_at-seen.new.ran.done.items c.poll_at-seen.result
    c.loop-k.invariant.moment below at c.loop-k.invariant.turning c.poll_at-seen.ensures.this c.poll_at-seen.ensures.rest
    c.poll_at-seen.ensures.polled c.poll_at-seen.ensures.canceled c.poll_at-seen.ensures.done (sym c.stops.ensures ∙ c.if-stops.true)

pub returns-then-stops-clause-turns : goal.returns-then-stops-clause-turns
returns-then-stops-clause-turns g c = (stopped_here g c).0

pub returns-then-stops-clause-reaches : goal.returns-then-stops-clause-reaches
returns-then-stops-clause-reaches g c = (stopped_here g c).1

pub returns-then-stops-clause-covers : goal.returns-then-stops-clause-covers
returns-then-stops-clause-covers g c =
    subst (λ v. Covers (task_at c.poll_at-seen.new.ready.table) (drop c.loop-k.k v.items)) (sym (c.poll_at-seen.ensures.marks.0
    ∙ c.loop-k.invariant.marks))
    (stopped_here g c).2

pub returns-then-stops-clause-places : goal.returns-then-stops-clause-places
returns-then-stops-clause-places g c = λ s.
    places_step g.J.Job.polls g.J.Job.cancels g.J.Job.aim g.J.Job.meets _ c.index-t.result.now
    (task_at c.loop-k.ready.table) (task_at c.poll_at-seen.new.ready.table) c.loop-k.outputs.items c.poll_at-seen.new.outputs.items
    c.poll_at-seen.result c.poll_at-seen.ensures.this c.poll_at-seen.ensures.rest c.poll_at-seen.ensures.output s
    ∙ c.loop-k.invariant.places s

-- one number more
pub loop-k-preserved : goal.loop-k-preserved
loop-k-preserved g c =
    let M : List ℕ = c.args.ready.now.marks.items in
    let test = c.loop-k-test.true in
    let count = c.len-count.ensures in
    let below : c.loop-k.k < length M = search rules in
    let at : c.index-t.result.now ≡ get_or M c.loop-k.k c.index-t.result.now
    = c.index-t.ensures ∙ ap (λ v. get_or v.items c.loop-k.k c.index-t.result.now) c.loop-k.invariant.marks in
    record {
      sound = c.poll_at-seen.ensures.sound;
      waits = λ waiting. c.poll_at-seen.ensures.waits (c.loop-k.invariant.waits waiting);
      jobs = c.poll_at-seen.ensures.jobs;
      deadlines = c.poll_at-seen.ensures.deadlines;
      numbers = c.poll_at-seen.ensures.numbers;
      marks = c.poll_at-seen.ensures.marks.0 ∙ c.loop-k.invariant.marks;
      moment = c.poll_at-seen.ensures.marks.1 ∙ c.loop-k.invariant.moment;
      turning = loop_next g.J.Job.polls g.J.Job.cancels g.J.Job.aim c.args.ready.now.moment c.loop-k.ready.moment c.loop-k.k
          c.index-t.result.now M
          (task_at c.args.ready.now.table) (task_at c.loop-k.ready.table) (task_at c.poll_at-seen.new.ready.table)
          c.loop-k.ran.polled.items c.loop-k.ran.canceled.items c.loop-k.ran.done.items
          c.poll_at-seen.new.ran.polled.items c.poll_at-seen.new.ran.canceled.items c.poll_at-seen.new.ran.done.items c.poll_at-seen.result
          c.loop-k.invariant.moment below at c.loop-k.invariant.turning c.poll_at-seen.ensures.this c.poll_at-seen.ensures.rest
          c.poll_at-seen.ensures.polled c.poll_at-seen.ensures.canceled c.poll_at-seen.ensures.done (sym c.stops.ensures
          ∙ c.if-stops.false);
      outputs = loop_outputs g.J.Job.polls g.J.Job.cancels g.J.Job.aim c.args.ready.now.moment c.loop-k.ready.moment c.loop-k.k
          c.index-t.result.now M
          (task_at c.args.ready.now.table) (task_at c.loop-k.ready.table) (task_at c.poll_at-seen.new.ready.table)
          c.loop-k.ran.polled.items c.loop-k.ran.canceled.items c.loop-k.ran.done.items
          c.poll_at-seen.new.ran.polled.items c.poll_at-seen.new.ran.canceled.items c.poll_at-seen.new.ran.done.items c.poll_at-seen.result
          c.loop-k.invariant.moment below at c.loop-k.invariant.turning c.poll_at-seen.ensures.this c.poll_at-seen.ensures.rest
          c.poll_at-seen.ensures.polled c.poll_at-seen.ensures.canceled c.poll_at-seen.ensures.done g.J.Job.meets
          c.args.outputs.now.items c.loop-k.outputs.items c.poll_at-seen.new.outputs.items
          c.loop-k.invariant.outputs c.poll_at-seen.ensures.output;
      places = λ s. places_step g.J.Job.polls g.J.Job.cancels g.J.Job.aim g.J.Job.meets _ c.index-t.result.now
          (task_at c.loop-k.ready.table) (task_at c.poll_at-seen.new.ready.table) c.loop-k.outputs.items c.poll_at-seen.new.outputs.items
          c.poll_at-seen.result c.poll_at-seen.ensures.this c.poll_at-seen.ensures.rest c.poll_at-seen.ensures.output s
          ∙ c.loop-k.invariant.places s;
      marks_room =
          let more = marks_step c.poll_at-seen.result _ _ c.poll_at-seen.ensures.unmarked in
          let len = ap (λ v. vec_len v) c.poll_at-seen.ensures.marks.0 in
          let capacity = ap (λ v. vec_capacity v) c.poll_at-seen.ensures.marks.0 in
          let room = c.loop-k.invariant.marks_room in omega (arith, more, len, capacity, room);
      len = c.poll_at-seen.ensures.len ∙ c.loop-k.invariant.len;
      capacity = c.poll_at-seen.ensures.capacity ∙ c.loop-k.invariant.capacity;
      polled = search rules;
      canceled = search rules;
      done = search rules;
      stopped = c.poll_at-seen.ensures.stopped ∙ c.loop-k.invariant.stopped;
    }
