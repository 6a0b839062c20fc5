use Rattle.std.proofs.Common.{true, refl, ◌∙◌}
use Rattle.ready_driver.specs.Records.{with_registered}
use Rattle.ready_driver.proofs.Kept.{key-found, unchanged-named, written-named, written-paired}
use Rattle.ready_driver.proofs.records.Records.set_registered.Goals as goal

pub returns-in_default : goal.returns-in_default
returns-in_default c = c.self.view_is
    ∙ unchanged-named c.self.inside.keys c.self.inside.slab _ c.self.invariant _ c.self.view_is c.args.key (with_registered true)
    c.in_default.ensures.value

pub invariant_of-self-2 : goal.invariant_of-self-2
invariant_of-self-2 c = written-paired c.self.inside.keys c.self.inside.slab _ c.self.invariant _ c.self.view_is _ c.args.key _ _
    (key-found c.self.inside.keys c.self.inside.slab _ c.self.invariant _ c.self.view_is c.args.key _ c.in-Some.ensures.value)
    c.in-Some.ensures.value refl refl

pub returns : goal.returns
returns c = written-named c.self.inside.keys c.self.inside.slab _ c.self.invariant _ c.self.view_is c.args.key _ _ (with_registered true)
    c.in-Some.ensures.value refl
