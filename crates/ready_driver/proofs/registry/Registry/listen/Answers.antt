use Rattle.machine.specs.declared.world.HandleKind.TheVariants.{Listener}
use Rattle.ready_driver.proofs.Dialing.{opened-by}
use Rattle.ready_driver.proofs.registry.Registry.listen.Goals as goal

-- memory was taken, the object made the handle, and the user has it
pub returns-in-Ok : goal.returns-in-Ok
returns-in-Ok g c =
    opened-by g.I.NonBlock.view g.I.NonBlock.tells g.I.NonBlock.memory Listener c.args.self.now c.make_way.new.self _ c.listen.new.self
    c.in-Ok.h
    c.new.result c.give_user.new.self c.self.view_is c.in_ok-make_way.ensures.same c.in_ok-make_way.ensures.ok.0 c.in-Ok.ensures
    c.give_user.ensures c.new.ensures
