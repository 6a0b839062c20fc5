use Rattle.std.proofs.Common.{◌≤◌, ◌+◌, length, refl, sym, subst, arith}
use Rattle.std.specs.HashMap.{hash_map_len, spare}
use Rattle.ready_driver.specs.WaitList.{live, IsIndexed}
use Rattle.ready_driver.proofs.Spots.{indexed_put}
use Rattle.ready_driver.proofs.scheduled_io.spots.join.Goals as goal
use Rattle.ready_driver.proofs.scheduled_io.spots.join.Goals.{then-in_order, else-in_order}

pub returns : goal.returns
returns c = λ w own.
    let es = c.args.entries.now in
    let index : IsIndexed c.if-in_order.places es = elim c.if-in_order.branch [
      | then-in_order b ↦ subst (λ m. IsIndexed m es) (sym b.places-is) b.index_all.ensures.index
      | else-in_order b ↦ subst (λ m. IsIndexed m es) (sym b.places-is) (c.requires.index b.if-in_order.false)
    ] in
    let room : length (live es) + 1 ≤ hash_map_len c.if-in_order.places + spare c.if-in_order.places = elim c.if-in_order.branch [
      | then-in_order b ↦
          subst (λ m. length (live es) + 1 ≤ hash_map_len m + spare m) (sym b.places-is)
          (let kept = b.index_all.ensures.room in let all = c.requires.room in omega (arith, kept, all))
      | else-in_order b ↦ subst (λ m. length (live es) + 1 ≤ hash_map_len m + spare m) (sym b.places-is) c.requires.room
    ] in
    indexed_put c.if-in_order.places c.insert.new.self es c.insert.result c.args.serial _
    (c.insert.ensures.succeeds (let count = index.count in omega (arith, room, count))) c.insert.ensures.updates c.insert.ensures.old
    c.insert.ensures.len index c.requires.away refl w own
