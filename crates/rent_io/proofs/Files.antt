-- Bytes that are written to a file.
use Rattle.std.proofs.Common.{◌≡◌, ◌∙◌, ℕ, ◌-◌, ◌<◌, List, [], ◌∷◌, ◌++◌, length, take, drop, sym, ap, arith}
use Rattle.std.proofs.Math.Seq.{take-length}
use Rattle.std.proofs.lemmas.List.{drop-drop, length-take}
use Rattle.std.specs.Prelude.{replicate}
use Rattle.rent_io.specs.FileAt.{written_at}

-- A write of all bytes is one of the first of them.
pub all_written : (before now bytes : List ℕ) (pos n : ℕ) → n ≡ length bytes → now ≡ written_at before pos bytes
    → now ≡ written_at before pos (take n bytes)
all_written before now bytes pos n all is = is ∙ ap (written_at before pos) (sym (ap (λ k. take k bytes) all ∙ take-length bytes))

-- The bytes before a position lack as many to it as all of them do.
gap : (file : List ℕ) (pos : ℕ) → pos - length (take pos file) ≡ pos - length file
gap file pos = let len = length-take pos file in omega (arith, len)

-- The bytes before a position, zeros up to it, some bytes, and what was behind them: these bytes were written over the file.
pub laid_over : (file bytes front gapped next : List ℕ) (pos : ℕ) → front ≡ take pos file
    → gapped ≡ front ++ replicate (pos - length front) 0 → next ≡ (gapped ++ bytes) ++ drop (length bytes) (drop pos file)
    → 0 < length bytes → next ≡ written_at file pos bytes
laid_over file [] front gapped next pos front_is gapped_is is some = absurd (omega (arith, some))
laid_over file (b ∷ bytes) front gapped next pos front_is gapped_is is some =
    let zeros : gapped ≡ take pos file ++ replicate (pos - length file) 0 =
    gapped_is ∙ ap (λ f. f ++ replicate (pos - length f) 0) front_is
    ∙ ap (λ k. take pos file ++ replicate k 0) (gap file pos) in
    is ∙ ap (λ g. (g ++ (b ∷ bytes)) ++ drop (length (b ∷ bytes)) (drop pos file)) zeros
    ∙ ap (λ rest. ((take pos file ++ replicate (pos - length file) 0) ++ (b ∷ bytes)) ++ rest) (drop-drop (length (b ∷ bytes)) pos file)
