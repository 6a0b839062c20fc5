use Rattle.std.proofs.Common.{length, ap, ◌∙◌, arith}
use Rattle.ring_core.specs.Ranks.{kept}
use Rattle.ring_core.proofs.Keeping.{length-kept, kept-whole}
use Rattle.ring_core.proofs.flights.make_way.Goals as goal

pub register-requires-clause-room : goal.register-requires-clause-room
register-requires-clause-room c =
    let few = length-kept c.args.ranks.now.flags c.args.items.now.items (omega arith) in
    let packed = ap length c.pack.ensures.items in
    let room = ap (λ v. v.room) c.clear.ensures in
    omega arith

pub returns-clause-kept : goal.returns-clause-kept
returns-clause-kept c =
    ap (λ flags. kept flags c.pack.new.items.items) c.register.ensures.flags
    ∙ kept-whole _ c.pack.new.items.items (omega arith) ∙ c.pack.ensures.items

pub returns-clause-way : goal.returns-clause-way
returns-clause-way c =
    let few = length-kept c.args.ranks.now.flags c.args.items.now.items (omega arith) in
    let packed = ap length c.pack.ensures.items in
    let room = ap (λ v. v.room) c.clear.ensures in
    omega arith
