use Rattle.std.proofs.Common.{arith, subst}
use Rattle.std.specs.Prelude.{MatchOption, not, ◌==◌}
use Rattle.std.proofs.lemmas.Bool.Decides.{nat_tests}
use Rattle.event_text.specs.TextEvent.{stands_for}
use Rattle.event_text.specs.TextLines.{IsWrong}
use Rattle.event_text.proofs.TextLinesRead.{have_read-none, have_read-more, have_read-all, right-behind}
use Rattle.event_text.proofs.text.read_right.Goals as goal

pub loop-rest-init : goal.loop-rest-init
loop-rest-init g c = record { read = rw c.new-events.ensures.items (have_read-none _ c.args.text.now); right = c.requires }

pub returns : goal.returns
returns g c = have_read-all _ c.args.text.now c.loop-rest.rest.now c.loop-rest.events.items c.loop-rest.invariant.read
    (grind (arith, nat_tests))

pub loop-rest-preserved : goal.loop-rest-preserved
loop-rest-preserved g c =
    let line = c.first_line.result.0.now in
    let x = not (g.row.EXTERNAL == 0) in
    let stands : stands_for x line c.in-Some.event =
    subst (λ o. MatchOption o (IsWrong (stands_for x) line) (stands_for x line)) c.in-Some.is c.in_ok-event.ensures in
    record {
      read = have_read-more _ c.args.text.now c.loop-rest.rest.now line c.first_line.result.1.now c.loop-rest.events.items
          c.push.new.self.items c.in-Some.event c.loop-rest.invariant.read c.first_line.ensures.lines stands
          c.in_ok-push-in-Some.ensures.items;
      right = right-behind _ _ _ line c.loop-rest.invariant.right c.first_line.ensures.lines;
    }
