-- What is read, step by step.
use Rattle.std.proofs.Common.{◌≡◌, ◌∙◌, ℕ, zero, suc, ◌+◌, ◌<◌, ◌≤◌, List, [], ◌∷◌, ◌++◌, Bool, true, false, length}
use Rattle.std.proofs.Common.{take, drop, sym, ap, subst, refl, arith}
use Rattle.std.proofs.Common.{cond, append_assoc, append-nil, length-append}
use Rattle.std.specs.Prelude.{Option, None, Some, nat_lt}
use Rattle.std.proofs.Math.ListN.{drop_of_length-le}
use Rattle.std.proofs.Math.Seq.{take-append-add, drop-append-add}
use Rattle.std.proofs.lemmas.Bool.Decides.{nat_tests}
use Rattle.std.proofs.lemmas.List.{length-drop, drop-append-le, drop-drop}
use Rattle.frame_io.specs.declared.fault.BadFrame.{BadFrame}
use Rattle.frame_io.specs.declared.fault.BadFrame.TheVariants.{Number, Large, Flag, Channels, Long, Cut}
use Rattle.frame_io.specs.declared.fault.Ending.{Ending}
use Rattle.frame_io.specs.declared.fault.Ending.TheVariants.{End, Fault}
use Rattle.frame_io.specs.declared.header.Begun.{Begun}
use Rattle.frame_io.specs.declared.header.Head.{Head}
use Rattle.frame_io.specs.declared.header.Header.{Header}
use Rattle.frame_io.specs.declared.header.Header.TheVariants.{Whole, Cut as HeaderCut, Bad}
use Rattle.frame_io.specs.declared.limits.Limits.{Limits}
use Rattle.frame_io.specs.declared.message.Message.{Message}
use Rattle.frame_io.specs.Piece.{header_at, IsHeader}
use Rattle.frame_io.specs.Frames.{Outcome, stops, gives, bytes_of, without, refusal, ended, inside, begun, ending_of, taken}
use Rattle.frame_io.specs.Frames.{reads_at, reads}
use Rattle.frame_io.specs.Frames.{read_from}
use Rattle.frame_io.specs.declared.message.MessagePoll.{MessagePoll}
use Rattle.frame_io.specs.declared.message.MessagePoll.TheVariants.{Message as Given, End as AtEnd, Pending, Again, Fault as AtFault}
use Rattle.frame_io.specs.Decoder.{IsOwn, Polled, answer_of}
use Rattle.frame_io.proofs.Headers.{HeaderGoes, header_goes, header_within}

-- A poll that answered that it goes on has left what is to be read.
pub again-same : (was now : Outcome) (answer : MessagePoll) → answer ≡ Again → Polled was now answer → now ≡ was
again-same was now answer is polled = subst (λ a. Polled was now a) is polled

-- A poll behind one that went on is a poll of what was to be read before both.
pub polled-on : (was mid now : Outcome) (answer : MessagePoll) → mid ≡ was → Polled mid now answer → Polled was now answer
polled-on was mid now answer same polled = subst (λ o. Polled o now answer) same polled

-- The same of a poll over what is behind the first bytes, where those were taken and others behind them.
pub polled-behind : (was mid now : List ℕ → Outcome) (count next : ℕ) (bytes behind more : List ℕ) (answer : MessagePoll)
    → behind ≡ drop count bytes → mid (drop count bytes ++ more) ≡ was more
    → Polled (mid (behind ++ more)) (now (drop next behind ++ more)) answer
    → Polled (was more) (now (drop (count + next) bytes ++ more)) answer
polled-behind was mid now count next bytes behind more answer is same polled =
    subst (λ xs. Polled (was more) (now (xs ++ more)) answer) (ap (drop next) is ∙ drop-drop next count bytes)
    (polled-on (was more) (mid (behind ++ more)) (now (drop next behind ++ more)) answer (ap (λ xs. mid (xs ++ more)) is ∙ same) polled)

-- What a reader answers by itself after it has taken bytes it answers so after it has taken more.
pub own-more : (answer : MessagePoll) (n m : ℕ) → n ≤ m → IsOwn answer (0 < n) → IsOwn answer (0 < m)
own-more (Given message) n m more own = own
own-more AtEnd n m more own = own
own-more Pending n m more own = own
own-more Again n m more own = omega arith
own-more (AtFault fault) n m more own = own

-- An end is answered by its name.
pub stopped : (was : Outcome) (ending : Ending) → was.messages ≡ [] → was.ending ≡ ending → Polled was was (answer_of ending)
stopped was End nothing ends = record { nothing = nothing; ends = ends; same = refl }
stopped was (Fault Number) nothing ends = record { nothing = nothing; ends = ends; same = refl }
stopped was (Fault Large) nothing ends = record { nothing = nothing; ends = ends; same = refl }
stopped was (Fault Flag) nothing ends = record { nothing = nothing; ends = ends; same = refl }
stopped was (Fault Channels) nothing ends = record { nothing = nothing; ends = ends; same = refl }
stopped was (Fault Long) nothing ends = record { nothing = nothing; ends = ends; same = refl }
stopped was (Fault Cut) nothing ends = record { nothing = nothing; ends = ends; same = refl }

-- Two ways to read on that agree on shorter bytes.
abbrev pub Agree : (List Message → ℕ → List ℕ → Outcome) → (List Message → ℕ → List ℕ → Outcome) → ℕ → Type 0
Agree f g most = (channels : List Message) (offset : ℕ) (bytes : List ℕ) → length bytes < most
    → f channels offset bytes ≡ g channels offset bytes

-- Whether a message is given or not, what is read is the same if what follows is.
same_ended : (b : Bool) (message : Message) (x y u v : Outcome) → x ≡ y → u ≡ v → cond b (gives message x) u ≡ cond b (gives message y) v
same_ended true message x y u v first second = ap (gives message) first
same_ended false message x y u v first second = second

-- Choices with the same first branch are equal if their second ones are.
same_if : (b : Bool) (x y z : Outcome) → y ≡ z → cond b x y ≡ cond b x z
same_if true x y z is = refl
same_if false x y z is = is

-- Two ways to read on that agree on shorter bytes read the same inside a piece.
same_inside : (f g : List Message → ℕ → List ℕ → Outcome) (channels : List Message) (offset : ℕ) (p : Begun)
    (bytes rest : List ℕ) (most : ℕ)
    → length rest < most → Agree f g most → inside f channels offset p bytes rest ≡ inside g channels offset p bytes rest
same_inside f g channels offset p bytes rest most less agree =
    let message : Message = record { channel = p.channel; bytes = bytes ++ take p.lacks rest } in
    let shorter : length (drop p.lacks rest) < most = omega (arith, length-drop p.lacks rest) in
    same_if (nat_lt (length rest) p.lacks) (stops (Fault Cut) offset)
    (ended (λ o r. f o (offset + p.size) r) channels p (bytes ++ take p.lacks rest) (drop p.lacks rest))
    (ended (λ o r. g o (offset + p.size) r) channels p (bytes ++ take p.lacks rest) (drop p.lacks rest))
    (same_ended p.last message (f channels (offset + p.size) (drop p.lacks rest)) (g channels (offset + p.size) (drop p.lacks rest))
    (f (channels ++ message ∷ []) (offset + p.size) (drop p.lacks rest))
    (g (channels ++ message ∷ []) (offset + p.size) (drop p.lacks rest))
    (agree channels (offset + p.size) (drop p.lacks rest) shorter)
    (agree (channels ++ message ∷ []) (offset + p.size) (drop p.lacks rest) shorter))

-- They read the same behind a header, whether its piece is refused or not.
same_taken : (f g : List Message → ℕ → List ℕ → Outcome) (channels : List Message) (offset : ℕ) (head : Head) (count : ℕ) (rest : List ℕ)
    (why : Option BadFrame) (most : ℕ) → length rest < most → Agree f g most
    → taken f channels offset head count rest why ≡ taken g channels offset head count rest why
same_taken f g channels offset head count rest (Some fault) most less agree = refl
same_taken f g channels offset head count rest None most less agree =
    same_inside f g (without head.channel channels) offset (begun head count) (bytes_of head.channel channels) rest most less agree

-- And from a place on where a header stands, less than one, or a fault.
same_at : (f g : List Message → ℕ → List ℕ → Outcome) (limits : Limits) (channels : List Message) (offset : ℕ) (bytes : List ℕ) (h : Header)
    → IsHeader (length bytes) h → Agree f g (length bytes)
    → reads_at f limits channels offset bytes h ≡ reads_at g limits channels offset bytes h
same_at f g limits channels offset bytes (Whole head count) some agree =
    same_taken f g channels offset head count (drop count bytes) (refusal limits channels head) (length bytes)
    (omega (arith, length-drop count bytes, some.0, some.1)) agree
same_at f g limits channels offset bytes HeaderCut some agree = refl
same_at f g limits channels offset bytes (Bad fault) some agree = refl

-- More pieces than there are bytes are enough.
enough : (n m : ℕ) (limits : Limits) (channels : List Message) (offset : ℕ) (bytes : List ℕ) → length bytes < n → length bytes < m
    → reads n limits channels offset bytes ≡ reads m limits channels offset bytes
enough zero m limits channels offset bytes small less = absurd (omega arith)
enough (suc n) zero limits channels offset bytes small less = absurd (omega arith)
enough (suc n) (suc m) limits channels offset bytes small less =
    same_at (λ o k b. reads n limits o k b) (λ o k b. reads m limits o k b) limits channels offset bytes (header_at bytes)
    (header_within bytes)
    (λ o k b shorter. enough n m limits o k b (omega arith) (omega arith))

-- What is read from an offset on, by the piece that stands there.
pub reads_is : (limits : Limits) (channels : List Message) (offset : ℕ) (bytes : List ℕ) → read_from limits channels offset bytes
    ≡ reads_at (λ o n b. read_from limits o n b) limits channels offset bytes (header_at bytes)
unfolding read_from
reads_is limits channels offset bytes =
    same_at (λ o k b. reads (length bytes) limits o k b) (λ o k b. read_from limits o k b) limits channels offset bytes (header_at bytes)
    (header_within bytes) (λ o k b shorter. enough (length bytes) (suc (length b)) limits o k b shorter (omega arith))

-- The same of bytes that begin with what no header begins with.
pub read_bad : (limits : Limits) (channels : List Message) (offset : ℕ) (xs more : List ℕ) (fault : BadFrame) → header_at xs ≡ Bad fault
    → read_from limits channels offset (xs ++ more) ≡ stops (Fault fault) offset
read_bad limits channels offset xs more fault is =
    let goes : header_at (xs ++ more) ≡ Bad fault =
    subst (λ h. HeaderGoes (length xs) h (header_at (xs ++ more))) is (header_goes xs more) in
    reads_is limits channels offset (xs ++ more)
    ∙ ap (λ h. reads_at (λ o n b. read_from limits o n b) limits channels offset (xs ++ more) h) goes

-- The same of bytes that begin with a header.
pub read_whole : (limits : Limits) (channels : List Message) (offset : ℕ) (xs more : List ℕ) (head : Head) (count : ℕ)
    → header_at xs ≡ Whole head count → read_from limits channels offset (xs ++ more)
    ≡ taken (λ o n b. read_from limits o n b) channels offset head count (drop count xs ++ more) (refusal limits channels head)
read_whole limits channels offset xs more head count is =
    let next : List Message → ℕ → List ℕ → Outcome = λ o n b. read_from limits o n b in
    let goes : header_at (xs ++ more) ≡ Whole head count =
    subst (λ h. HeaderGoes (length xs) h (header_at (xs ++ more))) is (header_goes xs more) in
    let here : IsHeader (length xs) (Whole head count) = subst (IsHeader (length xs)) is (header_within xs) in
    reads_is limits channels offset (xs ++ more) ∙ ap (λ h. reads_at next limits channels offset (xs ++ more) h) goes
    ∙ ap (λ r. taken next channels offset head count r (refusal limits channels head)) (drop-append-le count xs more here.1)

-- The byte that makes a header whole is its last one.
pub takes_all : (xs : List ℕ) (byte : ℕ) (head : Head) (count : ℕ) → header_at xs ≡ HeaderCut
    → header_at (xs ++ byte ∷ []) ≡ Whole head count → drop count (xs ++ byte ∷ []) ≡ []
takes_all xs byte head count cut whole =
    let part : HeaderGoes (length xs) HeaderCut (header_at (xs ++ byte ∷ [])) =
    subst (λ h. HeaderGoes (length xs) h (header_at (xs ++ byte ∷ []))) cut (header_goes xs (byte ∷ [])) in
    let more : length xs < count = subst (HeaderGoes (length xs) HeaderCut) whole part in
    drop_of_length-le (xs ++ byte ∷ []) (omega (arith, length-append xs (byte ∷ [])))

-- Less than a header, with nothing behind it.
pub read_end : (limits : Limits) (channels : List Message) (offset : ℕ) (head : List ℕ) → header_at head ≡ HeaderCut
    → read_from limits channels offset head ≡ stops (ending_of channels head) offset
read_end limits channels offset head cut = reads_is limits channels offset head
    ∙ ap (λ h. reads_at (λ o n b. read_from limits o n b) limits channels offset head h) cut

-- Bytes of a piece are its channel's.
pub inside_more : (next : List Message → ℕ → List ℕ → Outcome) (channels : List Message) (offset : ℕ) (channel : ℕ) (last : Bool)
    (lacks size m : ℕ) (bytes xs ys : List ℕ) → lacks ≡ length xs + m
    → inside next channels offset (record { channel = channel; last = last; lacks = lacks; size = size }) bytes (xs ++ ys)
    ≡ inside next channels offset (record { channel = channel; last = last; lacks = m; size = size }) (bytes ++ xs) ys
inside_more next channels offset channel last lacks size m bytes xs ys is =
    let tests : nat_lt (length (xs ++ ys)) lacks ≡ nat_lt (length ys) m = grind (arith, nat_tests, length-append xs ys) in
    let first : take lacks (xs ++ ys) ≡ xs ++ take m ys = ap (λ n. take n (xs ++ ys)) is ∙ take-append-add xs ys m in
    let rest : drop lacks (xs ++ ys) ≡ drop m ys = ap (λ n. drop n (xs ++ ys)) is ∙ drop-append-add xs ys m in
    let piece : Begun = record { channel = channel; last = last; lacks = m; size = size } in
    let make : Bool → List ℕ → List ℕ → Outcome = λ b t r.
    cond b (stops (Fault Cut) offset) (ended (λ o s. next o (offset + size) s) channels piece t r) in
    ap (λ b. make b (bytes ++ take lacks (xs ++ ys)) (drop lacks (xs ++ ys))) tests
    ∙ ap (λ t. make (nat_lt (length ys) m) (bytes ++ t) (drop lacks (xs ++ ys))) first
    ∙ ap (λ r. make (nat_lt (length ys) m) (bytes ++ (xs ++ take m ys)) r) rest
    ∙ ap (λ t. make (nat_lt (length ys) m) t (drop m ys)) (sym (append_assoc bytes xs (take m ys)))

-- A piece whose bytes are all there ends.
pub inside_whole : (next : List Message → ℕ → List ℕ → Outcome) (channels : List Message) (offset : ℕ) (p : Begun) (bytes left : List ℕ)
    → p.lacks ≡ 0 → inside next channels offset p bytes left ≡ ended (λ o s. next o (offset + p.size) s) channels p bytes left
inside_whole next channels offset p bytes left none =
    let make : Bool → List ℕ → List ℕ → Outcome = λ b t r.
    cond b (stops (Fault Cut) offset) (ended (λ o s. next o (offset + p.size) s) channels p t r) in
    let test : nat_lt (length left) p.lacks ≡ false = grind (arith, nat_tests) in
    ap (λ b. make b (bytes ++ take p.lacks left) (drop p.lacks left)) test
    ∙ ap (λ n. make false (bytes ++ take n left) (drop n left)) none
    ∙ ap (λ t. make false t left) (append-nil bytes)

-- A piece of which bytes are to come, with nothing behind it.
pub inside_end : (next : List Message → ℕ → List ℕ → Outcome) (channels : List Message) (offset : ℕ) (p : Begun) (bytes : List ℕ)
    → 0 < p.lacks → inside next channels offset p bytes [] ≡ stops (Fault Cut) offset
inside_end next channels offset p bytes more =
    let test : nat_lt 0 p.lacks ≡ true = grind (arith, nat_tests) in
    ap (λ b. cond b (stops (Fault Cut) offset) (ended (λ o s. next o (offset + p.size) s) channels p (bytes ++ take p.lacks [])
    (drop p.lacks []))) test
