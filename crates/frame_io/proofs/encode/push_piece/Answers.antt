use Rattle.std.proofs.Common.{◌∙◌, List, ℕ, [], ◌∷◌, ◌++◌, length, ap, arith}
use Rattle.frame_io.specs.Number.{number_in}
use Rattle.frame_io.proofs.Encoded.{piece_is, piece_short}
use Rattle.frame_io.proofs.encode.push_piece.Goals as goal

pub returns-clause-items : goal.returns-clause-items
returns-clause-items c =
    let bytes : List ℕ = c.args.bytes.now in
    c.put_all.ensures.items ∙ ap (λ l. l ++ bytes) (c.put.ensures.items ∙ ap (λ l. l ++ c.flag_of.result ∷ [])
    (c.push_number-2.ensures.items ∙ ap (λ l. l ++ number_in 5 (length bytes)) c.push_number.ensures.items))
    ∙ piece_is c.args.buf.now.items bytes c.args.channel c.args.last c.flag_of.result c.flag_of.ensures

pub returns-clause-size : goal.returns-clause-size
returns-clause-size c = omega (
  arith,
  ap length (returns-clause-items c),
  piece_short c.args.buf.now.items c.args.bytes.now c.args.channel c.args.last,
)
