use Rattle.std.proofs.Common.{◌≡◌, subst}
use Rattle.std.specs.Prelude.{IfOk}
use Rattle.event_text.proofs.TextLook.{bytes-left}
use Rattle.event_text.proofs.word.last_bytes.Goals as goal

pub returns-in-len1-up : goal.returns-in-len1-up
returns-in-len1-up c =
    subst (λ o. IfOk c.read_bytes.result (λ bytes. bytes ≡ o)) (bytes-left c.args.rest.now c.in-len1-up.len_at_least c.requires)
    c.read_bytes.ensures
