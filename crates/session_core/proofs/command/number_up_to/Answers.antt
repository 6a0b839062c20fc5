use Rattle.std.proofs.Common.{sym, arith}
use Rattle.session_core.proofs.Commands.{upto-within, upto-outside, upto-unread}
use Rattle.session_core.proofs.command.number_up_to.Goals as goal

pub returns-in-Some : goal.returns-in-Some
returns-in-Some c = upto-within c.args.most _ c.in-Some.number (sym c.in-Some.ensures) c.if-number-most.true

pub returns-in_default : goal.returns-in_default
returns-in_default c = upto-outside c.args.most _ c.in-Some.number c.ranges.most.fits (sym c.in-Some.ensures)
    (λ within. omega (arith, c.if-number-most.false, within))

pub returns-in_default-2 : goal.returns-in_default-2
returns-in_default-2 c = upto-unread c.args.most _ c.ranges.most.fits (sym c.in_default.ensures)
