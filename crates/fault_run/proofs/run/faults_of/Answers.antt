use Rattle.std.proofs.Common.{ℕ, List, [], ◌∷◌, ◌∙◌, map, string_bytes, ap, sym, subst, arith}
use Rattle.std.specs.Prelude.{MatchOption}
use Rattle.fault_run.specs.Script.{IsFaults}
use Rattle.fault_run.proofs.Words.{three-words}
use Rattle.fault_run.proofs.run.faults_of.Goals as goal

pub returns-in-len3 : goal.returns-in-len3
returns-in-len3 c =
    let words = ap (map string_bytes) (three-words c.args.words.now c.name-item.result c.capacity-item.result c.enters-item.result
    (omega arith) (omega arith) c.name-item.is c.capacity-item.is c.enters-item.is) in
    let texts = ap (λ x. x ∷ c.as_bytes.result.now ∷ c.as_bytes-in-len3.result.now ∷ []) c.as_str.ensures.value
    ∙ ap (λ x. string_bytes c.name-item.result ∷ x ∷ c.as_bytes-in-len3.result.now ∷ []) c.as_bytes.ensures.value
    ∙ ap (λ x. string_bytes c.name-item.result ∷ string_bytes c.capacity-item.result ∷ x ∷ []) c.as_bytes-in-len3.ensures.value in
    subst (λ (ws : List (List ℕ)). MatchOption c.three_of.result
    ((capacity : ℕ) (enters : List ℕ) → IsFaults ws capacity enters → ⊥) (λ found. IsFaults ws found.0 found.1.now))
    (texts ∙ sym words) c.three_of.ensures
