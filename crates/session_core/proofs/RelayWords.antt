-- Which words are those of a relay.
use Rattle.std.proofs.Common.{◌≡◌, ◌≤◌, ◌<◌, ℕ, List, [], ◌∷◌, length, get_or, Option, None, Some, sym, ◌∙◌, ap, refl, subst, arith}
use Rattle.std.specs.Prelude.{codes, decimal}
use Rattle.relay_run.specs.declared.plan.Plan.{Plan}
use Rattle.session_core.specs.Command.{IsRelay, IsTrace, relay_words}

-- They are four at least.
words-four : (to : Option ℕ) (port limit rounds : ℕ) → 4 ≤ length (relay_words to port limit rounds)
words-four None port limit rounds = omega arith
words-four (Some to) port limit rounds = omega arith

-- So fewer words are none: those of `run`, `ready`, `unframe`, `gen`, `wake`, `copy` and `tasks` among them.
pub few-no-relay : {words few : List (List ℕ)} (plan : Plan) → words ≡ few → length few < 4 → IsRelay words plan → ⊥
few-no-relay {few = few} plan same short relay =
    let four : 4 ≤ length few =
    subst (λ ws. 4 ≤ length ws) (sym relay.words_are ∙ same) (words-four plan.to plan.port plan.limit plan.rounds) in
    absurd (omega (arith, four, short))

-- Four words are those of a relay only where the first is `echo`.
echo-name : (to : Option ℕ) (port limit rounds : ℕ) (name first second third : List ℕ)
    → name ∷ first ∷ second ∷ third ∷ [] ≡ relay_words to port limit rounds → name ≡ codes "echo"
echo-name None port limit rounds name first second third all = ap (λ ws. get_or ws 0 []) all
echo-name (Some to) port limit rounds name first second third all = absurd cc

-- So they aren't those of `gen` with `--events`.
pub not-trace-relay : (words : List (List ℕ)) (seed rounds : ℕ) (plan : Plan) → IsTrace words seed rounds → IsRelay words plan → ⊥
not-trace-relay words seed rounds plan trace relay =
    let same : codes "gen" ≡ codes "echo" = echo-name plan.to plan.port plan.limit plan.rounds (codes "gen") (decimal seed) (decimal rounds)
    (codes "--events") (sym trace.words_are ∙ relay.words_are) in
    cc

-- Three words are those of no relay.
pub three-no-relay : (name first second : List ℕ) (plan : Plan) → IsRelay (name ∷ first ∷ second ∷ []) plan → ⊥
three-no-relay name first second plan relay =
    few-no-relay {few = name ∷ first ∷ second ∷ []} plan refl (omega arith) relay

-- Four words whose first is another than `echo` are those of none.
pub four-no-relay : (name first second third : List ℕ) → (name ≡ codes "echo" → ⊥) → (plan : Plan)
    → IsRelay (name ∷ first ∷ second ∷ third ∷ []) plan → ⊥
four-no-relay name first second third other plan relay =
    other (echo-name plan.to plan.port plan.limit plan.rounds name first second third relay.words_are)
