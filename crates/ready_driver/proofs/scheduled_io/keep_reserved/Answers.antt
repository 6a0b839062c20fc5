use Rattle.std.proofs.Common.{sym, ap, subst, length, arith}
use Rattle.ready_driver.specs.ScheduledIo.{IsSound}
use Rattle.ready_driver.specs.WaitList.{Line}
use Rattle.ready_driver.proofs.Memory.{sound_kept}
use Rattle.ready_driver.proofs.scheduled_io.keep_reserved.Goals as goal

pub returns-then-not-renew-clause-sound : goal.returns-then-not-renew-clause-sound
returns-then-not-renew-clause-sound c =
    let same = ap (λ (l : Line). l.waiters) (c.renew.ensures.same c.if-not-renew.true) in
    let len = ap length same in
    sound_kept c.renew.new.self.waiters c.join_reserved.new.self.waiters c.args.rooms.now c.args.rooms.now c.args.entry
    c.join_reserved.ensures (subst (λ ws. IsSound ws c.args.rooms.now) (sym same) c.requires.sound)
    (λ d. (let fits = c.requires.room d in omega (arith, fits, len)))

pub returns-else-not-renew-clause-sound : goal.returns-else-not-renew-clause-sound
returns-else-not-renew-clause-sound c =
    sound_kept c.args.waiting.now.waiters c.renew.new.self.waiters c.args.rooms.now c.args.rooms.now c.args.entry
    (c.renew.ensures.renews c.if-not-renew.false) c.requires.sound c.requires.room
