use Rattle.std.proofs.Common.{length, sym, ◌∙◌, ap}
use Rattle.ready_driver.specs.ScheduledIo.{Scheduled}
use Rattle.ready_driver.proofs.Kept.{io-found, io-unfound}
use Rattle.ready_driver.proofs.records.Records.waiting.Goals as goal

pub returns-in-Some : goal.returns-in-Some
returns-in-Some c =
    c.waiting.ensures ∙ sym (ap (λ (io : Scheduled). length io.waiting)
    (io-found c.self.inside.keys c.self.inside.slab _ c.self.invariant _ c.self.view_is c.args.key _ c.in-Some.ensures))

pub returns-in-None : goal.returns-in-None
returns-in-None c = sym (ap (λ (io : Scheduled). length io.waiting)
    (io-unfound c.self.inside.keys c.self.inside.slab _ c.self.invariant _ c.self.view_is c.args.key c.in-None.ensures))
