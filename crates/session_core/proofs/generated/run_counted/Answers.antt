use Rattle.std.proofs.Common.{◌≡◌, ◌∙◌, ap, length, take, sym, subst, arith}
use Rattle.std.specs.List.{count_by}
use Rattle.std.proofs.lemmas.Iterator.Adapters.{YieldsList-from_vec}
use Rattle.std.proofs.lemmas.Iterator.Consumers.{YieldsList-turn, YieldsList-end}
use Rattle.std.proofs.lemmas.List.{length_push}
use Rattle.machine.specs.Ledger.{empty}
use Rattle.machine.specs.Run.{after, replies}
use Rattle.session_core.specs.declared.generated.TheConstants.{ENTRIES}
use Rattle.session_core.specs.DriverKind.{completion}
use Rattle.session_core.specs.Session.{SessionStands}
use Rattle.session_core.specs.Top.{generated_text, is_ready, is_refused}
use Rattle.session_core.proofs.Replying.{all-replied, answered-next, count-few, count-next, steps-on, take-all}
use Rattle.session_core.proofs.generated.run_counted.Goals as goal

pub count-requires : goal.count-requires
count-requires c =
    let given = c.into_iter-event-iterator.ensures.into_iter_gives in
    let road = YieldsList-from_vec {s = c.into_iter-event-iterator.result} c.args.events.items given.0 (given.1 ∙ c.args.events.ok.0) in
    let rs = replies (empty ENTRIES) c.args.events.items in
    let k = length c.loop-event.yielded in
    let turn = YieldsList-turn road c.loop-event.yielded c.loop-event.event-iterator c.loop-event.yielded_by c.next.result c.next.new.self
    c.in-Some.event c.in-Some.is c.next.ensures.steps in
    let next = answered-next SessionStands completion (empty ENTRIES) c.args.events.items k c.in-Some.event c.in_ok-reply.reply
    c.apply.new.self turn.0 turn.1
    (steps-on _ _ _ _ (c.in_ok-reply.ensures.answers _ c.loop-event.invariant.stands)) in
    let within = next.within in
    let below = turn.0 in
    let refused = count-few is_refused rs k c.loop-event.summary.refused (omega arith) c.loop-event.invariant.refused in
    let ready = count-few is_ready rs k c.loop-event.summary.ready (omega arith) c.loop-event.invariant.ready in
    record { refused = omega arith; ready = omega arith }

pub loop-event-preserved : goal.loop-event-preserved
loop-event-preserved c =
    let given = c.into_iter-event-iterator.ensures.into_iter_gives in
    let road = YieldsList-from_vec {s = c.into_iter-event-iterator.result} c.args.events.items given.0 (given.1 ∙ c.args.events.ok.0) in
    let rs = replies (empty ENTRIES) c.args.events.items in
    let k = length c.loop-event.yielded in
    let turn = YieldsList-turn road c.loop-event.yielded c.loop-event.event-iterator c.loop-event.yielded_by c.next.result c.next.new.self
    c.in-Some.event c.in-Some.is c.next.ensures.steps in
    let next = answered-next SessionStands completion (empty ENTRIES) c.args.events.items k c.in-Some.event c.in_ok-reply.reply
    c.apply.new.self turn.0 turn.1
    (steps-on _ _ _ _ (c.in_ok-reply.ensures.answers _ c.loop-event.invariant.stands)) in
    let more = sym (length_push c.loop-event.yielded c.in-Some.event) in
    record {
      stands = subst (λ m. SessionStands c.apply.new.self (after (empty ENTRIES) (take m c.args.events.items))) more next.stands;
      events = c.count.ensures.events ∙ c.loop-event.invariant.events;
      refused = subst (λ m. c.count.new.self.refused ≡ count_by is_refused (take m rs)) more
          (count-next is_refused rs k c.loop-event.summary.refused c.count.new.self.refused c.in_ok-reply.reply next.within next.reply_is
          c.loop-event.invariant.refused c.count.ensures.refused);
      ready = subst (λ m. c.count.new.self.ready ≡ count_by is_ready (take m rs)) more
          (count-next is_ready rs k c.loop-event.summary.ready c.count.new.self.ready c.in_ok-reply.reply next.within next.reply_is
          c.loop-event.invariant.ready c.count.ensures.ready);
    }

pub returns-clause-summary : goal.returns-clause-summary
returns-clause-summary c =
    let given = c.into_iter-event-iterator.ensures.into_iter_gives in
    let road = YieldsList-from_vec {s = c.into_iter-event-iterator.result} c.args.events.items given.0 (given.1 ∙ c.args.events.ok.0) in
    let rs = replies (empty ENTRIES) c.args.events.items in
    let k = length c.loop-event.yielded in
    let end = YieldsList-end road c.loop-event.yielded c.loop-event.event-iterator c.loop-event.yielded_by c.next.result c.next.new.self
    c.in-None.is c.next.ensures.steps in
    let all = take-all rs k (all-replied completion (empty ENTRIES) c.args.events.items k end.1) in
    ap (λ n. generated_text n c.loop-event.summary.refused c.loop-event.summary.ready) c.loop-event.invariant.events
    ∙ ap (λ n. generated_text (length c.args.events.items) n c.loop-event.summary.ready)
    (c.loop-event.invariant.refused ∙ ap (λ xs. count_by is_refused xs) all)
    ∙ ap (λ n. generated_text (length c.args.events.items) (count_by is_refused rs) n)
    (c.loop-event.invariant.ready ∙ ap (λ xs. count_by is_ready xs) all)

pub returns-clause-stands : goal.returns-clause-stands
returns-clause-stands c =
    let given = c.into_iter-event-iterator.ensures.into_iter_gives in
    let road = YieldsList-from_vec {s = c.into_iter-event-iterator.result} c.args.events.items given.0 (given.1 ∙ c.args.events.ok.0) in
    let end = YieldsList-end road c.loop-event.yielded c.loop-event.event-iterator c.loop-event.yielded_by c.next.result c.next.new.self
    c.in-None.is c.next.ensures.steps in
    subst (λ xs. SessionStands c.loop-event.session (after (empty ENTRIES) xs))
    (take-all c.args.events.items (length c.loop-event.yielded) end.1) c.loop-event.invariant.stands
