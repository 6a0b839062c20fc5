-- Other bytes in place of as many: what is left, where they lie within.
use Rattle.std.proofs.Common.{◌≡◌, ◌∙◌, ℕ, ◌+◌, ◌≤◌, List, ◌++◌, length, take, drop, ap, sym, arith, append_assoc, length-append}
use Rattle.std.proofs.Common.{length-drop}
use Rattle.std.proofs.lemmas.List.{take_all, drop-drop, length-take}

-- bytes that lie within are between those before them and those behind them
pub overwritten_within : (bytes w : List ℕ) (at : ℕ) → at + length w ≤ length bytes
    → take (length bytes) (take at bytes ++ (w ++ drop (length w) (drop at bytes))) ≡ take at bytes ++ w ++ drop (at + length w) bytes
overwritten_within bytes w at within =
    let front = length-take at bytes in
    let behind = length-drop at bytes in
    let rest = length-drop (length w) (drop at bytes) in
    let tail = length-append w (drop (length w) (drop at bytes)) in
    let all = length-append (take at bytes) (w ++ drop (length w) (drop at bytes)) in
    let short : length (take at bytes ++ (w ++ drop (length w) (drop at bytes))) ≤ length bytes = omega arith in
    take_all (length bytes) (take at bytes ++ (w ++ drop (length w) (drop at bytes))) short
    ∙ ap (λ (l : List ℕ). take at bytes ++ (w ++ l)) (drop-drop (length w) at bytes)
    ∙ sym (append_assoc (take at bytes) w (drop (at + length w) bytes))
