use Rattle.std.proofs.Common.{◌∙◌, ◌+◌, ◌-◌, ◌/◌, ◌%◌, List, ℕ, [], ◌∷◌, ◌++◌, append_assoc, sym, ap, arith}
use Rattle.frame_io.specs.Number.{number_in}
use Rattle.frame_io.proofs.Encoded.{number_high}
use Rattle.frame_io.proofs.encode.+push_number.Goals as goal

pub returns-clause-items : goal.returns-clause-items
returns-clause-items t c =
    let old : List ℕ = c.args.buf.now.items in
    let tail : List ℕ = number_in (c.args.count - 1) (c.args.n / 128) in
    let byte = 128 + c.args.n % 128 in
    c.push_number.ensures.items ∙ ap (λ l. l ++ tail) c.put-2.ensures.items ∙ append_assoc old (byte ∷ []) tail
    ∙ ap (λ l. old ++ l) (sym (number_high c.args.count (c.args.count - 1) c.args.n (omega arith) (omega arith)))
