use Rattle.std.proofs.Common.{◌∙◌, ap, refl, subst, sym}
use Rattle.std.specs.Prelude.{IsSome}
use Rattle.socket_io.specs.SocketTable.{OpenSockets}
use Rattle.socket_io.proofs.Opened.{found, written}
use Rattle.socket_io.proofs.mio_io.table.Table.register.Goals as goal

pub returns-in_err-register-clause-open : goal.returns-in_err-register-clause-open
returns-in_err-register-clause-open c =
    written c.self.inside.open _ _ _ c.self.view_is _ c.args.h c.in-Some.socket.now _ c.in-Some.ensures.value c.register.ensures
    (c.get_mut.follows.holds _)

pub returns-clause-open : goal.returns-clause-open
returns-clause-open c =
    c.set_told.ensures.open ∙ ap (λ (t : OpenSockets). t.kinds) c.self-2.view_is ∙ c.forget_other.ensures.open
    ∙ written c.self.inside.open _ _ _ c.self.view_is _ c.args.h c.in-Some.socket.now _ c.in-Some.ensures.value c.register.ensures
    (c.get_mut.follows.holds _)

pub returns-clause-there : goal.returns-clause-there
returns-clause-there c =
    subst IsSome (sym (found c.self.inside.open _ _ _ c.self.view_is c.args.h c.in-Some.socket.now c.in-Some.ensures.value)) refl
