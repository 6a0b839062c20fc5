use Rattle.std.proofs.Common.{◌≡◌, ◌∙◌, max, ap, arith}
use Rattle.std.proofs.lemmas.Bool.Decides.{nat_tests}
use Rattle.handle_core.specs.Table.{Table}
use Rattle.handle_core.proofs.Tables.{reordered, ok-says, is-ok}
use Rattle.handle_core.proofs.Kept.{kept-reordered}
use Rattle.handle_core.proofs.table.HandleTable.reserve.Goals as goal

pub returns-clause-ok : goal.returns-clause-ok
returns-clause-ok c =
    let room = ap (λ (t : Table). t.spare) c.self.view_is in
    let more : c.args.n ≡ max c.args.n c.args.self.now.spare = grind (arith, nat_tests, room, c.if-n-self.false) in
    reordered c.self.inside.handles _ _ c.self.view_is c.reserve.new.self _ c.reserve.ensures.entries.2
    ∙ ap (λ n. record c.args.self.now { spare = n }) more

pub invariant_of-self-2 : goal.invariant_of-self-2
invariant_of-self-2 c =
    kept-reordered c.self.inside.handles _ c.self.invariant c.reserve.new.self _ c.reserve.ensures.entries.2
    (ok-says _ (is-ok _ c.is_err.ensures.value c.if-is_err.false) c.reserve.ensures.ok)
