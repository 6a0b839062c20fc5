use Rattle.std.proofs.Common.{◌+◌, ◌∙◌, ◌++◌, ◌∷◌, [], add-one, ap, append_assoc, arith}
use Rattle.event_text.specs.TextEvent.{event_text}
use Rattle.ready_run.proofs.Runs.{get-there}
use Rattle.session_core.proofs.Tracing.{lines-done, lines-more}
use Rattle.session_core.proofs.trace.text_of.Goals as goal

pub loop-event-preserved : goal.loop-event-preserved
loop-event-preserved c =
    let index = c.loop-event.event-index in
    let there = get-there c.args.events.now index c.event-item.result (omega arith) c.event-item.is in
    lines-more c.args.events.now index (index + 1) _ c.loop-event.text.items _ _ (add-one index) there
    (c.in_ok-push.ensures.items ∙ ap (λ xs. xs ++ 10 ∷ []) c.in_ok-write_event.ensures.ok
    ∙ append_assoc c.loop-event.text.items (event_text c.event-item.result) (10 ∷ []))
    c.loop-event.invariant

pub returns : goal.returns
returns c = lines-done c.args.events.now c.loop-event.event-index _ _ (omega arith) c.loop-event.invariant
