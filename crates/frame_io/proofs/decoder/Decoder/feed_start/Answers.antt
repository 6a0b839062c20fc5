use Rattle.frame_io.proofs.Reading.{again-same, polled-on}
use Rattle.frame_io.proofs.decoder.Decoder.feed_start.Goals as goal

pub returns-in-Again-clause-answer : goal.returns-in-Again-clause-answer
returns-in-Again-clause-answer c = λ more.
    polled-on _ _ _ _ (again-same _ _ _ c.in-Again.is (c.feed_header-count.ensures.answer more)) (c.go_on.ensures.answer more)
