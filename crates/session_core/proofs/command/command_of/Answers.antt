use Rattle.std.proofs.Common.{ap, sym, subst, ◌∙◌, ◌∷◌, [], map, string_bytes, arith}
use Rattle.session_core.specs.Command.{ReadsCommand}
use Rattle.session_core.proofs.Commands.{one-word, two-words}
use Rattle.session_core.proofs.command.command_of.Goals as goal

pub returns-in-len2 : goal.returns-in-len2
returns-in-len2 c =
    let words = ap (map string_bytes) (two-words c.args.words.now c.name-item-then-words-lt3.result c.capacity-item.result (omega arith)
    (omega arith) c.name-item-then-words-lt3.is c.capacity-item.is) in
    let texts = ap (λ x. x ∷ c.as_str-in-len2-2.result.now ∷ []) c.as_str-in-len2.ensures.value
    ∙ ap (λ x. string_bytes c.name-item-then-words-lt3.result ∷ x ∷ []) c.as_str-in-len2-2.ensures.value in
    subst (λ ws. ReadsCommand ws c.run_of.result) (texts ∙ sym words) c.run_of.ensures

pub returns-in-len1 : goal.returns-in-len1
returns-in-len1 c =
    let words = ap (map string_bytes) (one-word c.args.words.now c.name-item.result (omega arith) (omega arith) c.name-item.is) in
    subst (λ ws. ReadsCommand ws c.single_of.result) (ap (λ x. x ∷ []) c.as_str.ensures.value ∙ sym words) c.single_of.ensures
