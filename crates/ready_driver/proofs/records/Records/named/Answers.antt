use Rattle.ready_driver.proofs.Kept.{named-keyed}
use Rattle.ready_driver.proofs.records.Records.named.Goals as goal

pub returns : goal.returns
returns c = named-keyed c.self.inside.keys c.self.inside.slab _ c.self.invariant _ c.self.view_is
