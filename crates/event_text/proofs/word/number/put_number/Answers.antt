use Rattle.std.proofs.Common.{◌≡◌, ◌++◌, sym, subst}
use Rattle.std.specs.Prelude.{OnOk}
use Rattle.std.proofs.lemmas.Fmt.{decimal_digit}
use Rattle.event_text.proofs.word.number.put_number.Goals as goal

pub returns-then-number-lt10-clause-ok : goal.returns-then-number-lt10-clause-ok
returns-then-number-lt10-clause-ok c =
    subst (λ digits. OnOk c.put_byte.result (c.put_byte.new.out.items ≡ c.args.out.now.items ++ digits))
    (sym (decimal_digit c.args.number c.if-number-lt10.true)) c.put_byte.ensures.ok
