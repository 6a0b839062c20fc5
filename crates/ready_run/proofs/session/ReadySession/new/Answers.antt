use Rattle.std.proofs.Common.{ap}
use Rattle.ready_driver.specs.Legacy.{idle}
use Rattle.ready_run.proofs.Following.{stands-idle}
use Rattle.ready_run.proofs.Starting.{stands-new}
use Rattle.ready_run.proofs.session.ReadySession.new.Goals as goal

pub invariant_of-result : goal.invariant_of-result
invariant_of-result c =
    let driver = c.over.ensures.stands (ap (λ m. m.world) c.new.ensures) (ap (λ m. m.keys) c.new.ensures) in
    record {
      plain = idle;
      stands = stands-new _ driver c.over.ensures.none.1 c.over.ensures.none.2 c.new-2.ensures.ops c.new-2.ensures.cancellers
          c.new-2.ensures.handles;
    }

pub returns : goal.returns
returns c = λ capacity.
    let driver = c.over.ensures.stands (ap (λ m. m.world) c.new.ensures) (ap (λ m. m.keys) c.new.ensures) in
    stands-idle _ capacity (stands-new _ driver c.over.ensures.none.1 c.over.ensures.none.2 c.new-2.ensures.ops
    c.new-2.ensures.cancellers c.new-2.ensures.handles)
