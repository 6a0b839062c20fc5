use Rattle.std.proofs.Common.{ℕ, ◌-◌, ◌∙◌, false, Some, refl, sym, ap, arith, subst}
use Rattle.slab.specs.Slab.{Updates as ChangesSlot}
use Rattle.handle_core.proofs.Tables.{ok-says}
use Rattle.ready_driver.specs.ScheduledIo.{Scheduled}
use Rattle.ready_driver.specs.declared.records.One.{One}
use Rattle.ready_driver.specs.Records.{Holdings, with_room}
use Rattle.ready_driver.proofs.Kept.{changes-new, new-fresh, new-paired, put-all, with_all}
use Rattle.ready_driver.proofs.records.Records.add_reserved.Goals as goal

-- A handle of this number that its user alone holds, whose record has this key, and this of bits and of what waits.
abbrev new_one : ℕ → ℕ → Scheduled → One
new_one h key io = record {
  number = h;
  held = record { user = 1; operations = 0 };
  kept = record { registered = false; key = key; io = io };
}

pub invariant_of-self : goal.invariant_of-self
invariant_of-self c =
    let room = ap (λ (a : Holdings). a.records.spare) c.self.view_is in
    let some = c.insert.ensures.succeeds (omega (arith, room, c.requires.room, c.self.invariant.room)) in
    let at = c.insert_reserved.ensures.key ∙ sym c.vacant_key-key.ensures.value in
    let one = new_one c.args.h c.vacant_key-key.result c.new.result in
    new-paired c.self.inside.keys c.self.inside.slab _ c.self.invariant _ c.self.view_is c.insert.new.self c.insert_reserved.new.self
    c.args.h c.vacant_key-key.result one c.requires.fresh (ok-says _ some c.insert.ensures.updates) c.vacant_key-key.ensures.vacant
    (subst (λ k. ChangesSlot c.self.inside.slab c.insert_reserved.new.self k (Some one)) at c.insert_reserved.ensures.updates)
    (c.self.inside.reserved - 1) refl refl (omega (arith, room, c.requires.room)) c.insert_reserved.ensures.len
    c.insert_reserved.ensures.capacity c.insert.ensures.spare

pub returns-clause-key : goal.returns-clause-key
returns-clause-key c =
    let room = ap (λ (a : Holdings). a.records.spare) c.self.view_is in
    let some = c.insert.ensures.succeeds (omega (arith, room, c.requires.room, c.self.invariant.room)) in
    let at = c.insert_reserved.ensures.key ∙ sym c.vacant_key-key.ensures.value in
    let one = new_one c.args.h c.vacant_key-key.result c.new.result in
    new-fresh c.self.inside.keys c.self.inside.slab _ c.self.invariant _ c.self.view_is c.insert.new.self c.insert_reserved.new.self
    c.args.h c.vacant_key-key.result one c.requires.fresh (ok-says _ some c.insert.ensures.updates) c.vacant_key-key.ensures.vacant
    (subst (λ k. ChangesSlot c.self.inside.slab c.insert_reserved.new.self k (Some one)) at c.insert_reserved.ensures.updates)

pub returns-clause-rest : goal.returns-clause-rest
returns-clause-rest c =
    let room = ap (λ (a : Holdings). a.records.spare) c.self.view_is in
    let some = c.insert.ensures.succeeds (omega (arith, room, c.requires.room, c.self.invariant.room)) in
    let at = c.insert_reserved.ensures.key ∙ sym c.vacant_key-key.ensures.value in
    let one = new_one c.args.h c.vacant_key-key.result c.new.result in
    ap (λ (a : Holdings). with_room a (a.records.spare - 1)) (put-all c.self.inside.keys c.self.inside.slab _ c.self.invariant _
    c.self.view_is
    c.insert.new.self c.insert_reserved.new.self c.args.h c.vacant_key-key.result one (changes-new c.self.inside.keys c.self.inside.slab _
    c.self.invariant _ c.self.view_is c.insert.new.self c.insert_reserved.new.self c.args.h c.vacant_key-key.result one c.requires.fresh
    (ok-says _ some c.insert.ensures.updates) c.vacant_key-key.ensures.vacant
    (subst (λ k. ChangesSlot c.self.inside.slab c.insert_reserved.new.self k (Some one)) at c.insert_reserved.ensures.updates)))
    ∙ ap (λ io. with_room (with_all c.args.self.now c.args.h c.vacant_key-key.result (new_one c.args.h c.vacant_key-key.result io))
    (c.args.self.now.records.spare - 1)) c.new.ensures
