use Rattle.std.proofs.Common.{◌≡◌, ◌∙◌, max, ap, refl, sym, arith, is_some, count_by}
use Rattle.std.proofs.lemmas.Bool.Decides.{nat_tests}
use Rattle.slab.specs.Slab.{Slab}
use Rattle.handle_core.proofs.Tables.{ok-says, is-ok}
use Rattle.ready_driver.specs.declared.records.One.{One}
use Rattle.ready_driver.specs.Records.{Holdings, with_room}
use Rattle.ready_driver.proofs.Kept.{like-holdings, like-paired}
use Rattle.ready_driver.proofs.records.Records.reserve.Goals as goal

pub returns-then-n-self-clause-ok : goal.returns-then-n-self-clause-ok
returns-then-n-self-clause-ok c =
    let room = ap (λ (a : Holdings). a.records.spare) c.self.view_is in
    let less : c.self.inside.reserved ≡ max c.args.n c.args.self.now.records.spare = grind (arith, nat_tests, room, c.if-n-self.true) in
    sym c.self.view_is ∙ like-holdings c.self.inside.keys c.self.inside.slab _ c.self.invariant _ c.self.view_is c.self.inside.keys
    c.self.inside.slab _ (λ q. refl) refl ∙ ap (λ n. with_room c.args.self.now n) less

pub invariant_of-self : goal.invariant_of-self
invariant_of-self c =
    let slots = ap (λ (s : Slab One). s.slots) c.reserve.ensures.rest_kept in
    let places = c.self.invariant.places in
    let more = c.reserve.ensures.capacity in
    let len = ap (λ xs. count_by is_some xs) slots in
    like-paired c.self.inside.keys c.self.inside.slab _ c.self.invariant _ c.self.view_is c.self.inside.keys c.reserve.new.self _ (λ q.
    refl)
    slots c.self.invariant.room (omega (arith, places, more, len))

pub invariant_of-self-then-is_err-2 : goal.invariant_of-self-then-is_err-2
invariant_of-self-then-is_err-2 c =
    let slots = ap (λ (s : Slab One). s.slots) c.reserve.ensures.rest_kept in
    let places = c.self.invariant.places in
    let more = c.reserve.ensures.capacity in
    let len = ap (λ xs. count_by is_some xs) slots in
    let room = c.self.invariant.room in
    let spare = c.reserve-2.ensures.spare in
    like-paired c.self.inside.keys c.self.inside.slab _ c.self.invariant _ c.self.view_is c.reserve-2.new.self c.reserve.new.self _
    c.reserve-2.ensures.entries.2 slots (omega (arith, room, spare)) (omega (arith, places, more, len))

pub invariant_of-self-2 : goal.invariant_of-self-2
invariant_of-self-2 c =
    let slots = ap (λ (s : Slab One). s.slots) c.reserve.ensures.rest_kept in
    like-paired c.self.inside.keys c.self.inside.slab _ c.self.invariant _ c.self.view_is c.reserve-2.new.self c.reserve.new.self _
    c.reserve-2.ensures.entries.2 slots
    (ok-says c.reserve-2.result (is-ok c.reserve-2.result c.is_err-2.ensures.value c.if-is_err-2.false) c.reserve-2.ensures.ok)
    (ok-says c.reserve.result (is-ok c.reserve.result c.is_err.ensures.value c.if-is_err.false) c.reserve.ensures.room)

pub returns-clause-ok : goal.returns-clause-ok
returns-clause-ok c =
    let room = ap (λ (a : Holdings). a.records.spare) c.self.view_is in
    let more : c.args.n ≡ max c.args.n c.args.self.now.records.spare = grind (arith, nat_tests, room, c.if-n-self.false) in
    like-holdings c.self.inside.keys c.self.inside.slab _ c.self.invariant _ c.self.view_is c.reserve-2.new.self c.reserve.new.self _
    c.reserve-2.ensures.entries.2 (ap (λ (s : Slab One). s.slots) c.reserve.ensures.rest_kept)
    ∙ ap (λ n. with_room c.args.self.now n) more
