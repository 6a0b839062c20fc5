use Rattle.std.proofs.Common.{rules, ◌≤◌, ◌<◌, ◌^◌, length}
use Rattle.std.specs.Prelude.{All, sum_by}
use Rattle.rent_buf.proofs.Rooms.{parts_pairs}
use Rattle.rent_buf.proofs.plain_parts.PartsSpec.new.Goals as goal

pub invariant_of-result : goal.invariant_of-result
invariant_of-result c =
    let fit : All (λ pair. length pair.1 ≤ pair.0) c.args.parts.items = search rules in
    let fits : sum_by (λ pair. pair.0) c.args.parts.items < 2 ^ 64 = search rules in
    parts_pairs c.args.parts.items fit fits

pub returns-clause-exact : goal.returns-clause-exact
returns-clause-exact c =
    let fit : All (λ pair. length pair.1 ≤ pair.0) c.args.parts.items = search rules in
    let fits : sum_by (λ pair. pair.0) c.args.parts.items < 2 ^ 64 = search rules in
    (λ _. parts_pairs c.args.parts.items fit fits, λ _. search rules)
