use Rattle.std.proofs.Common.{◌+◌, ap, arith, subst}
use Rattle.rent_io.specs.declared.poll.Step.TheVariants.{Ready, Pending, Again}
use Rattle.rent_io.proofs.Runs.{one_more}
use Rattle.rent_io.proofs.States.{used_again, used_paused}
use Rattle.rent_io.proofs.state.StateBy.drive.Goals as goal
use Rattle.rent_io.proofs.state.StateBy.drive.Goals.{in-Pending, in-Again}

pub returns-in-Ready-clause-run : goal.returns-in-Ready-clause-run
returns-in-Ready-clause-run g c =
    subst (λ s. g.S.Polled.ended c.args.io.now c.poll_by.new.io s c.in-Ready.end) (ap (λ x. x.state) c.self.view_is)
    (c.laws.ensures.one_more _ _ _ _ _ _ (Ready c.in-Ready.end) c.laws.ensures.holds c.loop.invariant.1.faults_stay
    c.loop.invariant.1.zeros_stay c.loop.invariant.0 c.in-Ready.ensures.answer)

pub loop-preserved : goal.loop-preserved
loop-preserved g c =
    let s = g.S.Polled in
    let laws = c.laws.ensures in
    let has = c.loop.invariant in
    let call = c.poll_by.ensures.counts in
    let calls = one_more _ c.loop.counter (c.loop.counter + 1) _ _ _ (omega arith) has.1 call in
    elim c.match-poll_by.branch [
      | in-Pending w ↦
          let answer = w.in-Pending.ensures.answer in
          let advance = laws.advances _ _ _ _ (Pending w.in-Pending.next) answer in
          rw w.state-is (
            laws.one_more _ _ _ _ _ _ (Pending w.in-Pending.next) laws.holds has.1.faults_stay has.1.zeros_stay has.0 answer,
            calls,
            used_paused s.moved s.due c.loop.counter _ _ _ _ (s.counts c.loop.io) _ has.2 call.pauses_stay call.interrupts_stay
                advance.0 advance.1,
          )
      | in-Again w ↦
          let answer = w.in-Again.ensures.answer in
          rw w.state-is (
            laws.one_more _ _ _ _ _ _ (Again w.in-Again.next) laws.holds has.1.faults_stay has.1.zeros_stay has.0 answer,
            calls,
            used_again s.moved s.due c.loop.counter _ _ _ _ (s.counts c.loop.io) _ has.2 call.pauses_stay call.interrupts_stay
                (laws.advances _ _ _ _ (Again w.in-Again.next) answer),
          )
    ]
