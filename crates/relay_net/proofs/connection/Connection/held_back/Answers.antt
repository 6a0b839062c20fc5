use Rattle.std.proofs.Common.{◌∙◌, ap, length, subst, sym}
use Rattle.relay_net.specs.Connection.{FitsBack, far_of, held_by, near_of}
use Rattle.relay_net.specs.Flow.{FitsStage}
use Rattle.relay_net.proofs.connection.Connection.held_back.Goals as goal

pub returns-in-Some : goal.returns-in-Some
returns-in-Some c = λ ops fits.
    let conn = c.args.self.now in
    let flow = c.in-Some.flow in
    let back = subst (FitsBack conn.room ops (near_of conn) (far_of conn)) c.in-Some.is fits.1 in
    c.held.ensures conn.room ops
    (subst (λ h. FitsStage conn.room ops h flow.to flow.stage) (sym back.1)
    (subst (λ h. FitsStage conn.room ops (far_of conn) h flow.stage) (sym back.2) back.3))
    ∙ ap (λ b. length (held_by ops b)) (sym c.in-Some.is)
