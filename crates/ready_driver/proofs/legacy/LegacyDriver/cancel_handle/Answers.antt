use Rattle.ready_driver.proofs.Driven.{makes-handle}
use Rattle.ready_driver.proofs.legacy.LegacyDriver.cancel_handle.Goals as goal

pub returns-clause-answers : goal.returns-clause-answers
returns-clause-answers g c = λ D stands. makes-handle g.I.NonBlock.view g.B.IoBufMut.buffer c.args.self.now D stands c.args.c.now
