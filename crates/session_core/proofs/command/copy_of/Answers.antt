use Rattle.std.proofs.Common.{◌∷◌, [], sym, subst, refl}
use Rattle.std.specs.Prelude.{codes}
use Rattle.session_core.specs.Command.{ReadsCommand}
use Rattle.session_core.proofs.Commands.{copy-zero, copy-blank, copy-read, uncounted}
use Rattle.session_core.proofs.command.copy_of.Goals as goal

pub returns-then-capacity-eq0 : goal.returns-then-capacity-eq0
returns-then-capacity-eq0 c = copy-zero _ c.args.prefix.now c.in_ok-capacity.capacity c.in_ok-capacity.ensures c.if-capacity-eq0.true

pub returns-in_err-count_bytes : goal.returns-in_err-count_bytes
returns-in_err-count_bytes c =
    let words = codes "copy" ∷ c.args.capacity.now ∷ c.args.prefix.now ∷ [] in
    subst (λ r. ReadsCommand words r) (sym c.from_residual-in_err-count_bytes.ensures)
    (copy-blank c.args.capacity.now c.args.prefix.now (uncounted _ c.in_err-count_bytes.ensures))

pub returns : goal.returns
returns c =
    copy-read _ c.args.prefix.now c.in_ok-capacity.capacity c.in_ok-count_bytes.field-0 _ c.in_ok-capacity.ensures c.if-capacity-eq0.false
    refl c.in_ok-count_bytes.ensures
