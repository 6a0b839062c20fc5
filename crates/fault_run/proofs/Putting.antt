-- What appending numbers leaves.
use Rattle.std.proofs.Common.{◌≡◌, ◌∙◌, ℕ, ◌+◌, ◌<◌, ◌≤◌, List, [], ◌∷◌, ◌++◌, length, get_or, take, refl, ap, append_assoc}
use Rattle.std.specs.Prelude.{codes, decimal}
use Rattle.std.proofs.lemmas.List.{take_more, take_all, append-nil}
use Rattle.fault_run.specs.Texts.{behind_spaces}

-- Numbers behind spaces are those of each of two lists, joined.
behind_spaces-append : (ms ns : List ℕ) → behind_spaces (ms ++ ns) ≡ behind_spaces ms ++ behind_spaces ns
behind_spaces-append [] ns = refl
behind_spaces-append (m ∷ ms) ns = rw (behind_spaces-append ms ns) (simp append_assoc)

-- One number more was appended.
pub words-more : (old ns before behind : List ℕ) (i : ℕ) → i < length ns → before ≡ old ++ behind_spaces (take i ns) →
    behind ≡ before ++ (codes " " ++ decimal (get_or ns i 0)) → behind ≡ old ++ behind_spaces (take (i + 1) ns)
words-more old ns before behind i below is0 is1 =
    rw (is1, is0, take_more ns i 0 below, behind_spaces-append (take i ns) (get_or ns i 0 ∷ []), append-nil (codes " " ++ decimal (get_or ns i 0)))
    (simp append_assoc)

-- All numbers were appended.
pub words-all : (old ns all : List ℕ) (i : ℕ) → length ns ≤ i → all ≡ old ++ behind_spaces (take i ns) → all ≡ old ++ behind_spaces ns
words-all old ns all i done is = is ∙ ap (λ xs. old ++ behind_spaces xs) (take_all i ns done)
