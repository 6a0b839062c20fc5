use Rattle.std.proofs.Common.{ap, arith}
use Rattle.std.proofs.lemmas.Bool.Decides.{nat_tests}
use Rattle.handle_core.specs.declared.table.Holders.{Holders}
use Rattle.handle_core.proofs.Tables.{found, unfound}
use Rattle.handle_core.proofs.table.HandleTable.user_holds.Goals as goal

pub returns-in-Some : goal.returns-in-Some
returns-in-Some c =
    let is = ap (λ (h : Holders). h.user) (found c.self.inside.handles _ _ c.self.view_is _ _ c.in-Some.ensures.value) in
    (λ e. grind (arith, nat_tests, is, e), λ some. grind (arith, nat_tests, is, some))

pub returns-in-None : goal.returns-in-None
returns-in-None c =
    let none = ap (λ (h : Holders). h.user) (unfound c.self.inside.handles _ _ c.self.view_is _ c.in-None.ensures.value) in
    (λ e. cc, λ some. absurd (omega (arith, none, some)))
