-- What lines stand for.
use Rattle.std.proofs.Common.{◌≡◌, ◌∙◌, ℕ, true, false, List, [], ◌∷◌, ◌++◌, get_or, refl, ap, sym, subst, arith, Option, Some, None}
use Rattle.std.specs.Prelude.{MatchOption, codes, decimal}
use Rattle.machine.specs.declared.ledger.Event.{Event}
use Rattle.machine.specs.declared.ledger.Event.TheVariants.{Give, Feed, FeedMessage, End, Look, Close, Submit, Poll, Drop, Cancel}
use Rattle.machine.specs.declared.ledger.Event.TheVariants.{NewCanceller, NewHandle, CancelAll, Turn, Exec}
use Rattle.machine.specs.declared.request.Told.{Told}
use Rattle.event_text.specs.TextEvent.{StandsFor, event_text, told_words}
use Rattle.event_text.specs.TextLines.{IsWrong}
use Rattle.event_text.specs.TextRequest.{request_words}
use Rattle.event_text.specs.TextWords.{spaced}
use Rattle.event_text.proofs.TextEvents.{stands_once}
use Rattle.fault_run.specs.declared.line.Line.{Line}
use Rattle.fault_run.specs.declared.line.Line.TheVariants.{Of, Complete, Ring}
use Rattle.fault_run.specs.Lines.{IsTaken, IsNoCompletion, Says, SaysNothing}

-- What is behind the first word of a completion's text is what is behind that of an execution's.
executes : (text rest execution : List ℕ) (word : ℕ) (told : Told) → text ≡ codes "complete" ++ rest → execution ≡ codes "exec" ++ rest →
    Says text (Complete word told) → StandsFor execution (Exec word told)
executes text rest execution word told text-is execution-is says =
    let behind : List ℕ = 32 ∷ spaced (decimal word ∷ told_words told) in
    let both : codes "complete" ++ rest ≡ codes "complete" ++ behind = sym text-is ∙ says.2 in
    let same : rest ≡ behind = cc in
    record { typed = (says.0, says.1); text = execution-is ∙ ap (λ xs. codes "exec" ++ xs) same }

-- A text whose execution stands for no event is no completion.
pub no-completion : (text rest execution : List ℕ) → text ≡ codes "complete" ++ rest → execution ≡ codes "exec" ++ rest →
    IsWrong StandsFor execution → IsNoCompletion text
no-completion text rest execution text-is execution-is wrong = λ word told says.
    wrong (Exec word told) (executes text rest execution word told text-is execution-is says)

-- A text that begins otherwise is no completion.
pub begins-otherwise : (text : List ℕ) → ((rest : List ℕ) → text ≡ codes "complete" ++ rest → ⊥) → IsNoCompletion text
begins-otherwise text other = λ word told says. other (32 ∷ spaced (decimal word ∷ told_words told)) says.2

-- It is a completion exactly where its execution stands for an execution's event.
pub completes-if : (text rest execution : List ℕ) (event : Event) (line : Option Line) → text ≡ codes "complete" ++ rest →
    execution ≡ codes "exec" ++ rest → StandsFor execution event →
    MatchOption line ((place : ℕ) (told : Told) → event ≡ Exec place told → ⊥)
    (λ l. (place : ℕ) × (told : Told) × (event ≡ Exec place told) × (l ≡ Complete place told)) →
    MatchOption line (IsNoCompletion text) (Says text)
completes-if text rest execution event None text-is execution-is stands other = λ word told says.
    other word told (stands_once execution event (Exec word told) stands (executes text rest execution word told text-is execution-is says))
completes-if text rest execution event (Some l) text-is execution-is stands found =
    let place = found.0 in
    let told = found.1 in
    let there : StandsFor execution (Exec place told) = subst (λ e. StandsFor execution e) found.2 stands in
    let behind : List ℕ = 32 ∷ spaced (decimal place ∷ told_words told) in
    let both : codes "exec" ++ rest ≡ codes "exec" ++ behind = sym execution-is ∙ there.text in
    let same : rest ≡ behind = cc in
    subst (λ x. Says text x) (sym found.3)
    (there.typed.0, there.typed.1, text-is ∙ ap (λ xs. codes "complete" ++ xs) same)

-- Texts with other first bytes differ.
first-differs : (a b : ℕ) (xs ys : List ℕ) → (a ≡ b → ⊥) → a ∷ xs ≡ b ∷ ys → ⊥
first-differs a b xs ys other same = other (ap (λ zs. get_or zs 0 0) same)

-- The text of a linked request differs from one with another first byte, whatever its words are.
link-differs : (words : List (List ℕ)) (b : ℕ) (ys : List ℕ) → (108 ≡ b → ⊥) → spaced (codes "link" ∷ words) ≡ b ∷ ys → ⊥
link-differs [] b ys other same = first-differs 108 b _ ys other same
link-differs (word ∷ words) b ys other same = first-differs 108 b _ ys other same

-- The text of an event that isn't taken is neither a completion's nor `ring`.
untaken : (event : Event) → (IsTaken event → ⊥) → (line : Line) → Says (event_text event) line → (other : Event) × (line ≡ Of other) × IsTaken other
untaken event refused (Of other) says = (other, refl, says.1)
untaken (Feed h bytes) refused (Complete word told) says = absurd (first-differs 102 99 _ _ (λ is. omega (arith, is)) says.2)
untaken (FeedMessage h address bytes) refused (Complete word told) says =
    absurd (first-differs 109 99 _ _ (λ is. omega (arith, is)) says.2)
untaken (End h) refused (Complete word told) says = absurd (first-differs 101 99 _ _ (λ is. omega (arith, is)) says.2)
untaken (Look h) refused (Complete word told) says = absurd (first-differs 108 99 _ _ (λ is. omega (arith, is)) says.2)
untaken (Submit request None true) refused (Complete word told) says =
    absurd (link-differs (request_words request) 99 _ (λ is. omega (arith, is)) says.2)
untaken (Submit request (Some c) true) refused (Complete word told) says =
    absurd (first-differs 108 99 _ _ (λ is. omega (arith, is)) says.2)
untaken (Exec place report) refused (Complete word told) says = absurd (first-differs 101 99 _ _ (λ is. omega (arith, is)) says.2)
untaken (Feed h bytes) refused Ring says = absurd (first-differs 102 114 _ _ (λ is. omega (arith, is)) says)
untaken (FeedMessage h address bytes) refused Ring says = absurd (first-differs 109 114 _ _ (λ is. omega (arith, is)) says)
untaken (End h) refused Ring says = absurd (first-differs 101 114 _ _ (λ is. omega (arith, is)) says)
untaken (Look h) refused Ring says = absurd (first-differs 108 114 _ _ (λ is. omega (arith, is)) says)
untaken (Submit request None true) refused Ring says = absurd (link-differs (request_words request) 114 _ (λ is. omega (arith, is)) says)
untaken (Submit request (Some c) true) refused Ring says = absurd (first-differs 108 114 _ _ (λ is. omega (arith, is)) says)
untaken (Exec place report) refused Ring says = absurd (first-differs 101 114 _ _ (λ is. omega (arith, is)) says)
untaken (Give kind) refused line says = absurd (refused tt)
untaken (Close h) refused line says = absurd (refused tt)
untaken (Submit request under false) refused line says = absurd (refused tt)
untaken (Poll n task) refused line says = absurd (refused tt)
untaken (Drop n) refused line says = absurd (refused tt)
untaken (Cancel n) refused line says = absurd (refused tt)
untaken NewCanceller refused line says = absurd (refused tt)
untaken (NewHandle c) refused line says = absurd (refused tt)
untaken (CancelAll c) refused line says = absurd (refused tt)
untaken Turn refused line says = absurd (refused tt)

-- A line that stands for an event stands for nothing else: for that event, where it is taken.
pub taken-says : (text : List ℕ) (event : Event) (line : Option Line) → StandsFor text event →
    MatchOption line (IsTaken event → ⊥) (λ l. (l ≡ Of event) × IsTaken event) → MatchOption line (SaysNothing text) (Says text)
taken-says text event None stands refused = λ line says.
    let found = untaken event refused line (subst (λ xs. Says xs line) stands.text says) in
    let there : Says text (Of found.0) = subst (λ l. Says text l) found.1 says in
    refused (subst (λ e. IsTaken e) (stands_once text found.0 event there.0 stands) found.2)
taken-says text event (Some l) stands taken = subst (λ x. Says text x) (sym taken.0) (stands, taken.1)

-- A line that stands for no event and isn't `ring` stands for what a completion does.
pub only-completion : (text : List ℕ) (line : Option Line) → IsWrong StandsFor text → (text ≡ codes "ring" → ⊥) →
    MatchOption line (IsNoCompletion text) (Says text) → MatchOption line (SaysNothing text) (Says text)
only-completion text (Some l) wrong other says = says
only-completion text None wrong other none = says_nothing
  where
    says_nothing : (line : Line) → Says text line → ⊥
    says_nothing (Of event) says = wrong event says.0
    says_nothing (Complete word told) says = none word told says
    says_nothing Ring says = other says
