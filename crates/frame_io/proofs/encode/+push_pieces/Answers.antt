use Rattle.std.proofs.Common.{◌∙◌, ◌<◌, List, ℕ, ◌++◌, length, take, append_assoc, sym, ap, arith, false}
use Rattle.frame_io.specs.Piece.{piece, pieces_of}
use Rattle.frame_io.proofs.Encoded.{pieces_more}
use Rattle.frame_io.proofs.encode.+push_pieces.Goals as goal

pub returns : goal.returns
returns t c =
    let old : List ℕ = c.args.buf.now.items in
    let bytes : List ℕ = c.args.bytes.now in
    let channel = c.args.channel in
    let first : List ℕ = c.split_at.result.0.now in
    let rest : List ℕ = c.split_at.result.1.now in
    let big : 65536 < length bytes = omega arith in
    c.push_pieces.ensures ∙ ap (λ l. l ++ pieces_of channel rest) c.push_piece-2.ensures.items
    ∙ append_assoc old (piece channel first false) (pieces_of channel rest)
    ∙ ap (λ l. old ++ (piece channel l false ++ pieces_of channel rest)) c.split_at.ensures.front
    ∙ ap (λ l. old ++ (piece channel (take 65536 bytes) false ++ pieces_of channel l)) c.split_at.ensures.back
    ∙ ap (λ l. old ++ l) (sym (pieces_more channel bytes big))
