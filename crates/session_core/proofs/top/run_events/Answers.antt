use Rattle.session_core.proofs.top.run_events.Goals as goal

pub returns-in-Ok-clause-gives : goal.returns-in-Ok-clause-gives
returns-in-Ok-clause-gives g c = λ events stand L begun.
    (c.in-Ok.ensures.ok events stand L begun, c.in-Ok.ensures.flushed, c.in-Ok.ensures.stands events stand L begun)
