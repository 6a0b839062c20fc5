-- Bytes that move between a handle and a payload.
use Rattle.std.proofs.Common.{◌≡◌, ◌<◌, ◌≤◌, ℕ, Bool, true, false, List, [], length, take, drop, get_or, set, unwrap_or, option_map}
use Rattle.std.proofs.Common.{refl}
use Rattle.std.proofs.Common.{Option, None, Some, slice_get, sym, ◌∙◌, ap, subst, arith}
use Rattle.std.specs.Prelude.{◌&&◌, IsTrue}
use Rattle.std.proofs.lemmas.Bool.{leb-true}
use Rattle.std.proofs.lemmas.Bool.Decides.{nat_tests}
use Rattle.std.proofs.lemmas.Option.{slice_get_read}
use Rattle.std.proofs.lemmas.List.{length-take-le}
use Rattle.machine.specs.Lists.{amended}
use Rattle.machine.specs.declared.world.HandleState.{HandleState}
use Rattle.machine.specs.declared.request.Call.{Call}
use Rattle.machine.specs.declared.request.Call.TheVariants.{In, MessageIn}
use Rattle.machine.specs.declared.request.Outcome.{Outcome}
use Rattle.machine.specs.World.{gives_bytes, is_datagram}
use Rattle.machine.specs.Outcome.{may_read, may_receive, may_count}
use Rattle.machine.specs.Effect.{without_front, without_message, nothing_got, message_effect, count_effect}
use Rattle.machine.specs.Payloads.{StoresIf, count_comes}
use Rattle.machine.specs.Called.{IsMoved}
use Rattle.machine.proofs.Numbers.{and-left, and-right}
use Rattle.machine.proofs.Amended.{amended-at, passes-at}

-- A count that a read may have is within the input.
pub read-within : (ask k : ℕ) (x : HandleState) → (gives_bytes x.kind && may_read ask k x) ≡ true → k ≤ length x.input
read-within ask k x allowed =
    let counts = and-left _ _ (and-right _ _ allowed) in
    leb-true _ _ (and-right _ _ counts)

-- So many bytes came.
pub read-count : (ask k : ℕ) (x : HandleState) (bytes : List ℕ) → (gives_bytes x.kind && may_read ask k x) ≡ true → bytes ≡ take k x.input →
    length bytes ≡ k
read-count ask k x bytes allowed first = ap length first ∙ length-take-le k x.input (read-within ask k x allowed)

-- The first bytes of a handle's input were stored, and are gone from it.
pub read-moved : {P : Type 0} (stores : P → ℕ → List ℕ → P → Type 0) (xs : List HandleState) (h : ℕ) (x : HandleState) (rest : List ℕ)
    (ask k word : ℕ) (sent bytes : List ℕ) (before after : P) → h < length xs → x ≡ get_or xs h x →
    (gives_bytes x.kind && may_read ask k x) ≡ true → rest ≡ drop k x.input → bytes ≡ take k x.input → stores before word bytes after →
    IsMoved stores (In h ask) k word sent xs (set xs h (record x { input = rest })) before after (Outcome.Count k)
read-moved stores xs h x rest ask k word sent bytes before after in_range there allowed rest_is bytes_are stored =
    let found = slice_get_read xs (length xs) h x refl in_range there in record {
      allowed = passes-at _ xs h x in_range there ∙ allowed;
      answer = refl;
      world = amended-at (without_front k) xs h x _ in_range there (ap (λ input. record x { input = input }) rest_is);
      stored =
          subst (λ got. stores before word got after)
          (bytes_are ∙ ap (λ handle. take k (unwrap_or (option_map (λ state. state.input) handle) [])) (sym found)) stored;
    }

-- Storing so many bytes as came takes memory.
pub read-memory : (takes_memory : ℕ → Bool) (ask k : ℕ) (x : HandleState) (bytes : List ℕ) →
    (gives_bytes x.kind && may_read ask k x) ≡ true → bytes ≡ take k x.input → IsTrue (takes_memory (length bytes)) → takes_memory k ≡ true
read-memory takes_memory ask k x bytes allowed first takes =
    sym (ap takes_memory (read-count ask k x bytes allowed first)) ∙ takes

-- The first bytes of the message that waits longest were stored, and the message is gone.
pub receive-moved : {P : Type 0} (stores : P → ℕ → List ℕ → P → Type 0) (xs : List HandleState) (h : ℕ) (x : HandleState)
    (rest : List (ℕ × List ℕ)) (message : ℕ × List ℕ) (ask k word : ℕ) (sent bytes : List ℕ) (before after : P) → h < length xs →
    x ≡ get_or xs h x → (is_datagram x.kind && may_receive ask k (slice_get x.messages_in 0)) ≡ true →
    Some message ≡ slice_get x.messages_in 0 → rest ≡ drop 1 x.messages_in → bytes ≡ take k message.1 → stores before word bytes after →
    IsMoved stores (MessageIn h ask) k word sent xs (set xs h (record x { messages_in = rest })) before after (Outcome.From k message.0)
receive-moved stores xs h x rest message ask k word sent bytes before after in_range there allowed first rest_is bytes_are stored =
    let found = slice_get_read xs (length xs) h x refl in_range there in
    let firsts = ap (λ handle. slice_get (unwrap_or (option_map (λ state. state.messages_in) handle) []) 0) found ∙ sym first in
    let same : count_effect xs (MessageIn h ask) sent k ≡ message_effect (amended xs h without_message) k (Some message) =
    ap (message_effect (amended xs h without_message) k) firsts in record {
      allowed = passes-at _ xs h x in_range there ∙ allowed;
      answer = sym (ap (λ e. e.outcome) same);
      world = amended-at without_message xs h x _ in_range there (ap (λ messages. record x { messages_in = messages }) rest_is)
          ∙ sym (ap (λ e. e.world) same);
      stored = subst (λ got. stores before word got after) (bytes_are ∙ sym (ap (λ e. e.got) same)) stored;
    }

-- So many bytes of a message came as its count says.
received-count : (first : Option (ℕ × List ℕ)) (message : ℕ × List ℕ) (ask k : ℕ) → Some message ≡ first → may_receive ask k first ≡ true →
    length (take k message.1) ≡ k
received-count None message ask k there allowed = cc
received-count (Some other) message ask k there allowed =
    let same : message ≡ other = cc in
    let few : k ≤ length other.1 = grind (arith, nat_tests) in
    ap (λ m. length (take k m.1)) same ∙ length-take-le k other.1 few

-- Storing so many bytes of a message as came takes memory.
pub receive-memory : (takes_memory : ℕ → Bool) (ask k : ℕ) (x : HandleState) (message : ℕ × List ℕ) (bytes : List ℕ) →
    (is_datagram x.kind && may_receive ask k (slice_get x.messages_in 0)) ≡ true → Some message ≡ slice_get x.messages_in 0 →
    bytes ≡ take k message.1 → IsTrue (takes_memory (length bytes)) → takes_memory k ≡ true
receive-memory takes_memory ask k x message bytes allowed first bytes_are takes =
    sym (ap takes_memory (ap length bytes_are
    ∙ received-count (slice_get x.messages_in 0) message ask k first (and-right (is_datagram x.kind) _ allowed))) ∙ takes

-- A count changed one handle, and no bytes came.
pub changed-moved : {P : Type 0} (stores : P → ℕ → List ℕ → P → Type 0) (call : Call) (xs : List HandleState) (h : ℕ) (x y : HandleState)
    (k word : ℕ) (sent : List ℕ) (payloads : P) (change : HandleState → HandleState) → h < length xs → x ≡ get_or xs h x →
    may_count xs call k ≡ true → count_effect xs call sent k ≡ nothing_got (amended xs h change) k → count_comes call ≡ false →
    y ≡ change x → IsMoved stores call k word sent xs (set xs h y) payloads payloads (Outcome.Count k)
changed-moved stores call xs h x y k word sent payloads change in_range there allowed leaves none changed = record {
  allowed = allowed;
  answer = sym (ap (λ e. e.outcome) leaves);
  world = amended-at change xs h x y in_range there changed ∙ sym (ap (λ e. e.world) leaves);
  stored = subst (λ comes. StoresIf stores comes payloads word (count_effect xs call sent k).got payloads) (sym none) refl;
}
