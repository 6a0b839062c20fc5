use Rattle.std.proofs.Common.{◌∙◌, sym, arith}
use Rattle.session_core.proofs.Commands.{same-number}
use Rattle.session_core.proofs.command.number_from_one.Goals as goal

pub returns-in_default : goal.returns-in_default
returns-in_default c = λ number low within is.
    let read = c.in-Some.ensures in
    let same = same-number c.in-Some.number number (let fits = c.ranges.most.fits in let small = read.0 in omega arith)
    (let fits = c.ranges.most.fits in omega arith) (sym read.1 ∙ is) in
    let few = c.if-number-ge1.false in absurd (omega (arith, low, same, few))
