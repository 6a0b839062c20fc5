use Rattle.std.proofs.Common.{◌∙◌, sym, ap, subst, arith}
use Rattle.ready_driver.specs.ScheduledIo.{IsSound}
use Rattle.ready_driver.specs.WaitList.{Line}
use Rattle.ready_driver.proofs.Memory.{sound_renewed, sound_joined}
use Rattle.ready_driver.proofs.scheduled_io.keep.Goals as goal

pub returns-then-renew-clause-sound : goal.returns-then-renew-clause-sound
returns-then-renew-clause-sound c =
    let fits = c.in_ok-reserve.ensures.ok in
    let len = c.len.ensures.value in
    sound_renewed c.args.waiting.now.waiters c.renew.new.self.waiters c.args.rooms.now c.reserve.new.self c.args.entry
    (c.renew.ensures.renews c.if-renew.true) (sym c.renew.ensures.there ∙ c.if-renew.true) c.requires c.reserve.ensures.kept
    (omega (arith, fits, len))

pub returns-clause-sound : goal.returns-clause-sound
returns-clause-sound c =
    let same = ap (λ (l : Line). l.waiters) (c.renew.ensures.same c.if-renew.false) in
    let len = c.len-2.ensures.value in
    sound_joined c.join.result c.renew.new.self.waiters c.join.new.self.waiters c.args.rooms.now c.reserve_both.new.self c.args.entry
    c.join.ensures.ok c.join.ensures.err (subst (λ ws. IsSound ws c.args.rooms.now) (sym same) c.requires)
    (λ d. (let first = c.reserve.ensures.kept d in let second = c.reserve_both.ensures.kept d in omega (arith, first, second)))
    (λ d. (let fits = c.in_ok-reserve_both.ensures.ok d in omega (arith, fits, len)))
