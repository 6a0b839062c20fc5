use Rattle.std.proofs.Common.{◌<◌, ◌≤◌, length, sym, subst, arith}
use Rattle.std.proofs.lemmas.Grind.{common_steps}
use Rattle.frame_io.proofs.Headers.{Short, short_number}
use Rattle.frame_io.proofs.header.header_of.Goals as goal

pub returns-clause-within : goal.returns-clause-within
returns-clause-within c =
    let first = c.in-Whole in
    let second = c.in-Whole-number_of in
    let few : first.count ≤ 5 = subst (Short 5) (sym first.ensures.value) (short_number c.args.bytes.now) in
    let more : second.more ≤ 5 = subst (Short 5) (sym second.ensures.value) (short_number c.split_at.result.1.now) in
    let flag : 0 < length c.split_at-2.result.1.now = grind (arith, common_steps) in
    (omega (arith, first.ensures.within), omega (arith, first.ensures.within, second.ensures.within), omega arith, omega arith)
