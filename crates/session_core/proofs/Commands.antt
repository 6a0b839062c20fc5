-- What the words of the command line ask for.
use Rattle.std.proofs.Common.{◌≡◌, ◌≤◌, ◌<◌, ℕ, List, [], ◌∷◌, length, get_or, Option, None, Some, sym, ◌∙◌, ap, refl, subst, arith}
use Rattle.std.specs.Prelude.{◌^◌, codes, decimal, option_map}
use Rattle.session_core.specs.declared.command.TheConstants.{MOST_CAPACITY, MOST_ENTRIES}
use Rattle.session_core.specs.declared.command.Command.{Command}
use Rattle.session_core.specs.declared.command.Command.TheVariants.{Run, Ready, Generate, Trace, Wake, Copy, Unframe, Relay, Tasks}
use Rattle.session_core.specs.Command.{IsRun, IsReady, IsWake, IsGenerate, IsTrace, IsCopy}
use Rattle.session_core.specs.Command.{IsCopyOf, IsCapacity, IsNoCommand, IsTasks, IsUnframe, ReadsUpTo}
use Rattle.session_core.specs.Command.{KeepsNothing, ReadsCommand, ReadsNothing}
use Rattle.session_core.proofs.RelayWords.{not-trace-relay, three-no-relay}
use Rattle.session_core.proofs.TaskWords.{many-no-tasks, tasks-alone, tasks-are}
use Rattle.event_text.specs.TextReads.{number_of, bytes_of}
use Rattle.event_text.specs.TextWords.{bytes_word}
use Rattle.event_text.proofs.TextHex.{bytes_of-Some, bytes_of-bytes_word}
use Rattle.event_text.proofs.TextNumbers.{number_of-decimal, number_of-Some}

-- A number within the bounds is a capacity.
pub capacity-within : (word : List ℕ) (n : ℕ) → number_of word ≡ Some n → 1 ≤ n → n ≤ MOST_ENTRIES → IsCapacity word n
capacity-within word n reads low high = record { positive = low; fits = high; word_is = (number_of-Some word n reads).0 }

-- A capacity's word is read as its number.
pub number_of-capacity : (word : List ℕ) (capacity : ℕ) → IsCapacity word capacity → number_of word ≡ Some capacity
number_of-capacity word capacity is = ap number_of is.word_is ∙ number_of-decimal capacity (let fits = is.fits in omega arith)

-- A word that is read as a number out of bounds is no capacity.
pub capacity-outside : (word : List ℕ) (n : ℕ) → number_of word ≡ Some n → (1 ≤ n → n ≤ MOST_ENTRIES → ⊥) → (capacity : ℕ) →
    IsCapacity word capacity → ⊥
capacity-outside word n reads outside capacity is =
    let same : Some n ≡ Some capacity = sym reads ∙ number_of-capacity word capacity is in
    let equal : n ≡ capacity = cc in
    let fits = is.fits in
    let positive = is.positive in
    outside (omega arith) (omega arith)

-- A word that is read as no number is no capacity.
pub capacity-unread : (word : List ℕ) → number_of word ≡ None → (capacity : ℕ) → IsCapacity word capacity → ⊥
capacity-unread word reads capacity is =
    (let never : ◌≡◌ {A = Option ℕ} None (Some capacity) = sym reads ∙ number_of-capacity word capacity is in cc)

-- A number within the bound is one up to it.
pub upto-within : (most : ℕ) (word : List ℕ) (n : ℕ) → number_of word ≡ Some n → n ≤ most → ReadsUpTo most word (Some n)
upto-within most word n reads within = (within, (number_of-Some word n reads).0)

-- A word that is read as a number past the bound is none up to it.
pub upto-outside : (most : ℕ) (word : List ℕ) (n : ℕ) → most < 2 ^ 64 → number_of word ≡ Some n → (n ≤ most → ⊥) → ReadsUpTo most word None
upto-outside most word n small reads outside = λ number within is.
    let same : Some n ≡ Some number = sym reads ∙ ap number_of is ∙ number_of-decimal number (omega arith) in
    let equal : n ≡ number = cc in
    outside (omega arith)

-- A word that is read as no number is none.
pub upto-unread : (most : ℕ) (word : List ℕ) → most < 2 ^ 64 → number_of word ≡ None → ReadsUpTo most word None
upto-unread most word small reads = λ number within is.
    (let never : ◌≡◌ {A = Option ℕ} None (Some number) = sym reads ∙ ap number_of is ∙ number_of-decimal number (omega arith) in cc)

-- A number has one text.
pub same-number : (a b : ℕ) → a < 2 ^ 64 → b < 2 ^ 64 → decimal a ≡ decimal b → a ≡ b
same-number a b small_a small_b texts =
    let low : Some a ≡ Some b = sym (number_of-decimal a small_a) ∙ ap number_of texts ∙ number_of-decimal b small_b in
    cc

-- Three words are no `run`.
three-no-run : (name first second : List ℕ) (capacity : ℕ) → IsRun (name ∷ first ∷ second ∷ []) capacity → ⊥
three-no-run name first second capacity run =
    (let all : name ∷ first ∷ second ∷ [] ≡ codes "run" ∷ decimal capacity ∷ [] = run.words_are in cc)

-- Nor are they `gen SEED COUNT --events`.
three-no-trace : (name first second : List ℕ) (seed rounds : ℕ) → IsTrace (name ∷ first ∷ second ∷ []) seed rounds → ⊥
three-no-trace name first second seed rounds is =
    (let all : name ∷ first ∷ second ∷ [] ≡ codes "gen" ∷ decimal seed ∷ decimal rounds ∷ codes "--events" ∷ [] = is.words_are in cc)

-- Three words are `wake` only where the first is.
wake-name : (name first second : List ℕ) (senders count : ℕ) → IsWake (name ∷ first ∷ second ∷ []) senders count → name ≡ codes "wake"
wake-name name first second senders count is =
    (let all : name ∷ first ∷ second ∷ [] ≡ codes "wake" ∷ decimal senders ∷ decimal count ∷ [] = is.words_are in cc)

-- Three words are `gen` only where the first is.
generate-name : (name first second : List ℕ) (seed rounds : ℕ) → IsGenerate (name ∷ first ∷ second ∷ []) seed rounds → name ≡ codes "gen"
generate-name name first second seed rounds is =
    (let all : name ∷ first ∷ second ∷ [] ≡ codes "gen" ∷ decimal seed ∷ decimal rounds ∷ [] = is.words_are in cc)

-- Three words are `copy` only where the first is, the second is the capacity, and the third is the word of the prefix.
copy-words : (name first second : List ℕ) (capacity : ℕ) (prefix : List ℕ) → IsCopy (name ∷ first ∷ second ∷ []) capacity prefix →
    (name ≡ codes "copy") × (first ≡ decimal capacity) × (second ≡ bytes_word prefix)
copy-words name first second capacity prefix is =
    let all : name ∷ first ∷ second ∷ [] ≡ codes "copy" ∷ decimal capacity ∷ bytes_word prefix ∷ [] = is.words_are in (cc, cc, cc)

-- More words than one are no `ready`.
pub many-no-ready : (name second : List ℕ) (more : List (List ℕ)) → IsReady (name ∷ second ∷ more) → ⊥
many-no-ready name second more is = (let all : name ∷ second ∷ more ≡ codes "ready" ∷ [] = is in cc)

-- Nor are they `unframe`.
pub many-no-unframe : (name second : List ℕ) (more : List (List ℕ)) → IsUnframe (name ∷ second ∷ more) → ⊥
many-no-unframe name second more is = (let all : name ∷ second ∷ more ≡ codes "unframe" ∷ [] = is in cc)

-- The words `copy` and `wake` differ.
copy-isnt-wake : codes "copy" ≡ codes "wake" → ⊥
copy-isnt-wake same = (let first : ◌≡◌ {A = ℕ} 99 119 = ap (λ xs. get_or xs 0 0) same in absurd (omega arith))

-- Words that begin with `copy` are no command's, if they are no `copy`.
copy-or-none : (first second : List ℕ) →
    ((capacity : ℕ) (prefix : List ℕ) → IsCopy (codes "copy" ∷ first ∷ second ∷ []) capacity prefix → ⊥) →
    IsNoCommand (codes "copy" ∷ first ∷ second ∷ [])
copy-or-none first second none = record {
  no_run = three-no-run (codes "copy") first second;
  no_ready = many-no-ready (codes "copy") first (second ∷ []);
  no_generate = λ seed rounds is. (let never : codes "copy" ≡ codes "gen" = generate-name (codes "copy") first second seed rounds is in cc);
  no_trace = three-no-trace (codes "copy") first second;
  no_wake = λ senders count is. copy-isnt-wake (wake-name (codes "copy") first second senders count is);
  no_copy = none;
  no_unframe = many-no-unframe (codes "copy") first (second ∷ []);
  no_relay = three-no-relay (codes "copy") first second;
  no_tasks = many-no-tasks (codes "copy") first (second ∷ []);
}

-- Words of `copy` whose capacity is 0 are no command's.
pub copy-zero : (first second : List ℕ) (n : ℕ) → ReadsUpTo MOST_CAPACITY first (Some n) → n ≡ 0 →
    ReadsCommand (codes "copy" ∷ first ∷ second ∷ []) None
copy-zero first second n reads zero = copy-or-none first second (λ capacity prefix is.
    let same : decimal n ≡ decimal capacity = sym reads.1 ∙ (copy-words (codes "copy") first second capacity prefix is).1 in
    let fits = is.fits in
    let positive = is.positive in
    let equal = same-number n capacity (omega arith) (omega arith) same in
    absurd (omega (arith, equal)))

-- So are those whose last word writes no bytes.
pub copy-blank : (first second : List ℕ) → bytes_of second ≡ None → ReadsCommand (codes "copy" ∷ first ∷ second ∷ []) None
copy-blank first second none = copy-or-none first second (λ capacity prefix is.
    let read : bytes_of second ≡ Some prefix =
    ap bytes_of ((copy-words (codes "copy") first second capacity prefix is).2) ∙ bytes_of-bytes_word prefix is.bytes in
    let never : ◌≡◌ {A = Option (List ℕ)} None (Some prefix) = sym none ∙ read in cc)

-- What is counted as none is none.
pub uncounted : (read : Option (List ℕ)) → ◌≡◌ {A = Option ℕ} None (option_map length read) → read ≡ None
uncounted None none = refl
uncounted (Some bytes) none = (let never : ◌≡◌ {A = Option ℕ} None (Some (length bytes)) = none in cc)

-- The other words of `copy` are those of a capacity and of a prefix.
pub copy-read : (first second : List ℕ) (n count : ℕ) (read : Option (List ℕ)) → ReadsUpTo MOST_CAPACITY first (Some n) → (n ≡ 0 → ⊥) →
    bytes_of second ≡ read → Some count ≡ option_map length read → IsCopyOf (codes "copy" ∷ first ∷ second ∷ []) n second
copy-read first second n count None reads some writes counted =
    absurd (let never : ◌≡◌ {A = Option ℕ} (Some count) None = counted in cc)
copy-read first second n count (Some bytes) reads some writes counted =
    let word = bytes_of-Some second bytes writes in
    record {
      prefix = bytes;
      writes = writes;
      is_copy = record {
        positive = omega (arith, some);
        fits = reads.0;
        bytes = word.1;
        words_are = ap (λ x. codes "copy" ∷ x ∷ second ∷ []) reads.1 ∙ ap (λ x. codes "copy" ∷ decimal n ∷ x ∷ []) word.0;
      };
    }

-- A list of one is its element.
pub one-word : {A : Type 0} (xs : List A) (x : A) → 1 ≤ length xs → length xs < 2 → x ≡ get_or xs 0 x → xs ≡ x ∷ []
one-word [] x some few first = absurd (omega (arith, some))
one-word (a ∷ []) x some few first = ap (λ z. z ∷ []) (sym first)
one-word (a ∷ b ∷ xs) x some few first = absurd (omega (arith, few))

-- A list of two is its two elements.
pub two-words : {A : Type 0} (xs : List A) (x y : A) → 2 ≤ length xs → length xs < 3 → x ≡ get_or xs 0 x → y ≡ get_or xs 1 y →
    xs ≡ x ∷ y ∷ []
two-words [] x y some few first second = absurd (omega (arith, some))
two-words (a ∷ []) x y some few first second = absurd (omega (arith, some))
two-words (a ∷ b ∷ []) x y some few first second = ap (λ z. z ∷ b ∷ []) (sym first) ∙ ap (λ z. x ∷ z ∷ []) (sym second)
two-words (a ∷ b ∷ d ∷ xs) x y some few first second = absurd (omega (arith, few))

-- Words have one capacity.
pub same-capacity : (words : List (List ℕ)) (a b : ℕ) → IsRun words a → IsRun words b → a ≡ b
same-capacity words a b first second =
    let both : codes "run" ∷ decimal a ∷ [] ≡ codes "run" ∷ decimal b ∷ [] = sym first.words_are ∙ second.words_are in
    same-number a b (let fits = first.fits in omega arith) (let fits = second.fits in omega arith) (cc)

-- Words have one number of senders, and one of wakers.
pub same-counts : (words : List (List ℕ)) (a b m n : ℕ) → IsWake words a m → IsWake words b n → (a ≡ b) × (m ≡ n)
same-counts words a b m n first second =
    let all : codes "wake" ∷ decimal a ∷ decimal m ∷ [] ≡ codes "wake" ∷ decimal b ∷ decimal n ∷ [] =
    sym first.words_are ∙ second.words_are in (
      same-number a b (let few = first.few in omega arith) (let few = second.few in omega arith) (cc),
      same-number m n (let small = first.small in omega arith) (let small = second.small in omega arith) (cc),
    )

-- Words have one seed, and one number of rounds.
pub same-rounds : (words : List (List ℕ)) (a b m n : ℕ) → IsGenerate words a m → IsGenerate words b n → (a ≡ b) × (m ≡ n)
same-rounds words a b m n first second =
    let all : codes "gen" ∷ decimal a ∷ decimal m ∷ [] ≡ codes "gen" ∷ decimal b ∷ decimal n ∷ [] =
    sym first.words_are ∙ second.words_are in (
      same-number a b (let within = first.within in omega arith) (let within = second.within in omega arith) (cc),
      same-number m n (let small = first.small in omega arith) (let small = second.small in omega arith) (cc),
    )

-- So have those of `gen SEED COUNT --events`.
pub same-traced : (words : List (List ℕ)) (a b m n : ℕ) → IsTrace words a m → IsTrace words b n → (a ≡ b) × (m ≡ n)
same-traced words a b m n first second =
    let all : codes "gen" ∷ decimal a ∷ decimal m ∷ codes "--events" ∷ [] ≡ codes "gen" ∷ decimal b ∷ decimal n ∷ codes "--events" ∷ [] =
    sym first.words_are ∙ second.words_are in (
      same-number a b (let within = first.within in omega arith) (let within = second.within in omega arith) (cc),
      same-number m n (let small = first.small in omega arith) (let small = second.small in omega arith) (cc),
    )

-- A command is that of a seed and rounds whose events are written.
abbrev pub IsTraceOf : Command → ℕ → ℕ → Type 0
IsTraceOf (Trace s r) seed rounds = (s ≡ seed) × (r ≡ rounds)
IsTraceOf _ seed rounds = ⊥

-- Words of another command aren't four, as those of `gen SEED COUNT --events` are.
pub trace-alone : (words : List (List ℕ)) (seed rounds : ℕ) (command : Command) → IsTrace words seed rounds →
    ReadsCommand words (Some command) → IsTraceOf command seed rounds
trace-alone words seed rounds (Run c) is reads =
    (let all : codes "gen" ∷ decimal seed ∷ decimal rounds ∷ codes "--events" ∷ [] ≡ codes "run" ∷ decimal c ∷ [] =
    sym is.words_are ∙ reads.words_are in absurd (cc))
trace-alone words seed rounds Ready is reads =
    (let all : codes "gen" ∷ decimal seed ∷ decimal rounds ∷ codes "--events" ∷ [] ≡ codes "ready" ∷ [] =
    sym is.words_are ∙ reads in absurd (cc))
trace-alone words seed rounds (Generate s r) is reads =
    (let all : codes "gen" ∷ decimal seed ∷ decimal rounds ∷ codes "--events" ∷ [] ≡ codes "gen" ∷ decimal s ∷ decimal r ∷ [] =
    sym is.words_are ∙ reads.words_are in absurd (cc))
trace-alone words seed rounds (Trace s r) is reads = same-traced words s seed r rounds reads is
trace-alone words seed rounds (Wake s c) is reads =
    (let all : codes "gen" ∷ decimal seed ∷ decimal rounds ∷ codes "--events" ∷ [] ≡ codes "wake" ∷ decimal s ∷ decimal c ∷ [] =
    sym is.words_are ∙ reads.words_are in absurd (cc))
trace-alone words seed rounds (Copy c word) is reads =
    (let all : codes "gen" ∷ decimal seed ∷ decimal rounds ∷ codes "--events" ∷ [] ≡
    codes "copy" ∷ decimal c ∷ bytes_word reads.prefix ∷ [] = sym is.words_are ∙ reads.is_copy.words_are in absurd (cc))
trace-alone words seed rounds Unframe is reads =
    (let all : codes "gen" ∷ decimal seed ∷ decimal rounds ∷ codes "--events" ∷ [] ≡ codes "unframe" ∷ [] =
    sym is.words_are ∙ reads in absurd (cc))
trace-alone words seed rounds (Relay plan) is reads = absurd (not-trace-relay words seed rounds plan is reads)
trace-alone words seed rounds Tasks is reads = absurd (tasks-alone words (Trace seed rounds) reads is)

-- Nor are those of `copy`.
pub not-copy-trace : (words : List (List ℕ)) (seed rounds capacity : ℕ) (prefix : List ℕ) → IsTrace words seed rounds →
    IsCopy words capacity prefix → ⊥
not-copy-trace words seed rounds capacity prefix trace copy =
    (let all : codes "gen" ∷ decimal seed ∷ decimal rounds ∷ codes "--events" ∷ [] ≡
    codes "copy" ∷ decimal capacity ∷ bytes_word prefix ∷ [] = sym trace.words_are ∙ copy.words_are in cc)

-- Words don't ask for two commands.
pub not-both : (words : List (List ℕ)) (capacity senders count : ℕ) → IsRun words capacity → IsWake words senders count → ⊥
not-both words capacity senders count run wake =
    (let all : codes "run" ∷ decimal capacity ∷ [] ≡ codes "wake" ∷ decimal senders ∷ decimal count ∷ [] =
    sym run.words_are ∙ wake.words_are in cc)

-- Words don't ask for both `run` and `gen`.
pub not-run-generate : (words : List (List ℕ)) (capacity seed rounds : ℕ) → IsRun words capacity → IsGenerate words seed rounds → ⊥
not-run-generate words capacity seed rounds run gen =
    (let all : codes "run" ∷ decimal capacity ∷ [] ≡ codes "gen" ∷ decimal seed ∷ decimal rounds ∷ [] =
    sym run.words_are ∙ gen.words_are in cc)

-- Words don't ask for both `wake` and `gen`.
pub not-wake-generate : (words : List (List ℕ)) (senders count seed rounds : ℕ) → IsWake words senders count →
    IsGenerate words seed rounds → ⊥
not-wake-generate words senders count seed rounds wake gen =
    (let all : codes "wake" ∷ decimal senders ∷ decimal count ∷ [] ≡ codes "gen" ∷ decimal seed ∷ decimal rounds ∷ [] =
    sym wake.words_are ∙ gen.words_are in cc)

-- Words don't ask for `ready` and another command.
pub not-run-ready : (words : List (List ℕ)) (capacity : ℕ) → IsRun words capacity → IsReady words → ⊥
not-run-ready words capacity run ready =
    (let all : codes "run" ∷ decimal capacity ∷ [] ≡ codes "ready" ∷ [] = sym run.words_are ∙ ready in cc)

-- Nor for `gen`,
pub not-generate-ready : (words : List (List ℕ)) (seed rounds : ℕ) → IsGenerate words seed rounds → IsReady words → ⊥
not-generate-ready words seed rounds gen ready =
    (let all : codes "gen" ∷ decimal seed ∷ decimal rounds ∷ [] ≡ codes "ready" ∷ [] = sym gen.words_are ∙ ready in cc)

-- nor for `wake`,
pub not-wake-ready : (words : List (List ℕ)) (senders count : ℕ) → IsWake words senders count → IsReady words → ⊥
not-wake-ready words senders count wake ready =
    (let all : codes "wake" ∷ decimal senders ∷ decimal count ∷ [] ≡ codes "ready" ∷ [] = sym wake.words_are ∙ ready in cc)

-- nor for `copy`.
pub not-copy-ready : (words : List (List ℕ)) (capacity : ℕ) (prefix : List ℕ) → IsCopy words capacity prefix → IsReady words → ⊥
not-copy-ready words capacity prefix copy ready =
    (let all : codes "copy" ∷ decimal capacity ∷ bytes_word prefix ∷ [] ≡ codes "ready" ∷ [] = sym copy.words_are ∙ ready in cc)

-- Words don't ask for both `run` and `copy`.
pub not-run-copy : (words : List (List ℕ)) (capacity other : ℕ) (prefix : List ℕ) → IsRun words capacity → IsCopy words other prefix → ⊥
not-run-copy words capacity other prefix run copy =
    let all : codes "run" ∷ decimal capacity ∷ [] ≡ codes "copy" ∷ decimal other ∷ bytes_word prefix ∷ [] =
    sym run.words_are ∙ copy.words_are in
    cc

-- Words don't ask for both `wake` and `copy`.
pub not-wake-copy : (words : List (List ℕ)) (senders count other : ℕ) (prefix : List ℕ) → IsWake words senders count →
    IsCopy words other prefix → ⊥
not-wake-copy words senders count other prefix wake copy =
    let all : codes "copy" ∷ decimal other ∷ bytes_word prefix ∷ [] ≡ codes "wake" ∷ decimal senders ∷ decimal count ∷ [] =
    sym copy.words_are ∙ wake.words_are in
    copy-isnt-wake (ap (λ ws. get_or ws 0 []) all)

-- Words don't ask for both `gen` and `copy`.
pub not-generate-copy : (words : List (List ℕ)) (seed rounds other : ℕ) (prefix : List ℕ) → IsGenerate words seed rounds →
    IsCopy words other prefix → ⊥
not-generate-copy words seed rounds other prefix gen copy =
    let all : codes "gen" ∷ decimal seed ∷ decimal rounds ∷ [] ≡ codes "copy" ∷ decimal other ∷ bytes_word prefix ∷ [] =
    sym gen.words_are ∙ copy.words_are in
    cc

-- Words don't ask for both `run` and `unframe`,
pub not-run-unframe : (words : List (List ℕ)) (capacity : ℕ) → IsRun words capacity → IsUnframe words → ⊥
not-run-unframe words capacity run unframe =
    (let all : codes "run" ∷ decimal capacity ∷ [] ≡ codes "unframe" ∷ [] = sym run.words_are ∙ unframe in cc)

-- nor for `ready`,
pub not-ready-unframe : (words : List (List ℕ)) → IsReady words → IsUnframe words → ⊥
not-ready-unframe words ready unframe = (let all : codes "ready" ∷ [] ≡ codes "unframe" ∷ [] = sym ready ∙ unframe in cc)

-- nor for `gen`,
pub not-generate-unframe : (words : List (List ℕ)) (seed rounds : ℕ) → IsGenerate words seed rounds → IsUnframe words → ⊥
not-generate-unframe words seed rounds gen unframe =
    (let all : codes "gen" ∷ decimal seed ∷ decimal rounds ∷ [] ≡ codes "unframe" ∷ [] = sym gen.words_are ∙ unframe in cc)

-- nor for `wake`,
pub not-wake-unframe : (words : List (List ℕ)) (senders count : ℕ) → IsWake words senders count → IsUnframe words → ⊥
not-wake-unframe words senders count wake unframe =
    (let all : codes "wake" ∷ decimal senders ∷ decimal count ∷ [] ≡ codes "unframe" ∷ [] = sym wake.words_are ∙ unframe in cc)

-- nor for `copy`.
pub not-copy-unframe : (words : List (List ℕ)) (capacity : ℕ) (prefix : List ℕ) → IsCopy words capacity prefix → IsUnframe words → ⊥
not-copy-unframe words capacity prefix copy unframe =
    (let all : codes "copy" ∷ decimal capacity ∷ bytes_word prefix ∷ [] ≡ codes "unframe" ∷ [] = sym copy.words_are ∙ unframe in cc)

-- The word of a prefix writes that prefix alone.
pub same-prefix : (words : List (List ℕ)) (capacity other : ℕ) (word prefix : List ℕ) → IsCopyOf words capacity word →
    IsCopy words other prefix → bytes_of word ≡ Some prefix
same-prefix words capacity other word prefix of is =
    let all : codes "copy" ∷ decimal capacity ∷ bytes_word of.prefix ∷ [] ≡ codes "copy" ∷ decimal other ∷ bytes_word prefix ∷ [] =
    sym of.is_copy.words_are ∙ is.words_are in
    let word_is : bytes_word of.prefix ≡ bytes_word prefix = cc in
    of.writes ∙ sym (bytes_of-bytes_word of.prefix of.is_copy.bytes) ∙ ap bytes_of word_is ∙ bytes_of-bytes_word prefix is.bytes

-- A command that `wake` asks for reads nothing.
pub reads-nothing : (words : List (List ℕ)) (command : Command) (senders count : ℕ) → ReadsCommand words (Some command) →
    IsWake words senders count → ReadsNothing command
reads-nothing words (Run capacity) senders count reads wake = absurd (not-both words capacity senders count reads wake)
reads-nothing words Ready senders count reads wake = absurd (not-wake-ready words senders count wake reads)
reads-nothing words (Generate seed rounds) senders count reads wake = tt
reads-nothing words (Trace s r) senders count reads wake = tt
reads-nothing words (Wake s c) senders count reads wake = tt
reads-nothing words (Copy c word) senders count reads wake = absurd (not-wake-copy words senders count c reads.prefix wake reads.is_copy)
reads-nothing words Unframe senders count reads wake = absurd (not-wake-unframe words senders count wake reads)
reads-nothing words (Relay plan) senders count reads wake = tt
reads-nothing words Tasks senders count reads wake = absurd (tasks-alone words (Wake senders count) reads wake)

-- Nor does one that `gen` asks for.
pub generate-nothing : (words : List (List ℕ)) (command : Command) (seed rounds : ℕ) → ReadsCommand words (Some command) →
    IsGenerate words seed rounds → ReadsNothing command
generate-nothing words (Run capacity) seed rounds reads gen = absurd (not-run-generate words capacity seed rounds reads gen)
generate-nothing words Ready seed rounds reads gen = absurd (not-generate-ready words seed rounds gen reads)
generate-nothing words (Generate s c) seed rounds reads gen = tt
generate-nothing words (Trace s c) seed rounds reads gen = tt
generate-nothing words (Wake s c) seed rounds reads gen = tt
generate-nothing words (Copy c word) seed rounds reads gen = absurd (not-generate-copy words seed rounds c reads.prefix gen reads.is_copy)
generate-nothing words Unframe seed rounds reads gen = absurd (not-generate-unframe words seed rounds gen reads)
generate-nothing words (Relay plan) seed rounds reads gen = tt
generate-nothing words Tasks seed rounds reads gen = absurd (tasks-alone words (Generate seed rounds) reads gen)

-- A command that `wake` asks for keeps nothing.
pub wake-keeps : (words : List (List ℕ)) (command : Command) (senders count : ℕ) → ReadsCommand words (Some command) →
    IsWake words senders count → KeepsNothing command
wake-keeps words (Run capacity) senders count reads wake = absurd (not-both words capacity senders count reads wake)
wake-keeps words Ready senders count reads wake = absurd (not-wake-ready words senders count wake reads)
wake-keeps words (Generate seed rounds) senders count reads wake = absurd (not-wake-generate words senders count seed rounds wake reads)
wake-keeps words (Trace s r) senders count reads wake = tt
wake-keeps words (Wake s c) senders count reads wake = tt
wake-keeps words (Copy c word) senders count reads wake = tt
wake-keeps words Unframe senders count reads wake = tt
wake-keeps words (Relay plan) senders count reads wake = tt
wake-keeps words Tasks senders count reads wake = tt

-- Nor does one that `copy` asks for.
pub copy-keeps : (words : List (List ℕ)) (command : Command) (capacity : ℕ) (prefix : List ℕ) → ReadsCommand words (Some command) →
    IsCopy words capacity prefix → KeepsNothing command
copy-keeps words (Run c) capacity prefix reads copy = absurd (not-run-copy words c capacity prefix reads copy)
copy-keeps words Ready capacity prefix reads copy = absurd (not-copy-ready words capacity prefix copy reads)
copy-keeps words (Generate s r) capacity prefix reads copy = absurd (not-generate-copy words s r capacity prefix reads copy)
copy-keeps words (Trace s r) capacity prefix reads copy = tt
copy-keeps words (Wake s c) capacity prefix reads copy = tt
copy-keeps words (Copy c word) capacity prefix reads copy = tt
copy-keeps words Unframe capacity prefix reads copy = tt
copy-keeps words (Relay plan) capacity prefix reads copy = tt
copy-keeps words Tasks capacity prefix reads copy = tt

-- Nor does one that `unframe` asks for.
pub unframe-keeps : (words : List (List ℕ)) (command : Command) → ReadsCommand words (Some command) → IsUnframe words →
    KeepsNothing command
unframe-keeps words (Run c) reads unframe = absurd (not-run-unframe words c reads unframe)
unframe-keeps words Ready reads unframe = absurd (not-ready-unframe words reads unframe)
unframe-keeps words (Generate s r) reads unframe = absurd (not-generate-unframe words s r reads unframe)
unframe-keeps words (Trace s r) reads unframe = tt
unframe-keeps words (Wake s c) reads unframe = tt
unframe-keeps words (Copy c word) reads unframe = tt
unframe-keeps words Unframe reads unframe = tt
unframe-keeps words (Relay plan) reads unframe = tt
unframe-keeps words Tasks reads unframe = tt

-- Nor does one that `tasks` asks for.
pub tasks-keeps : (words : List (List ℕ)) (command : Command) → ReadsCommand words (Some command) → IsTasks words →
    KeepsNothing command
tasks-keeps words command reads tasks = subst KeepsNothing (sym (tasks-are words command reads tasks)) tt

-- A command that writes generated events reads nothing, and keeps nothing.
pub trace-nothing : (words : List (List ℕ)) (command : Command) (seed rounds : ℕ) → ReadsCommand words (Some command) →
    IsTrace words seed rounds → ReadsNothing command × KeepsNothing command
trace-nothing words (Run c) seed rounds reads is = absurd (trace-alone words seed rounds (Run c) is reads)
trace-nothing words Ready seed rounds reads is = absurd (trace-alone words seed rounds Ready is reads)
trace-nothing words (Generate s r) seed rounds reads is = absurd (trace-alone words seed rounds (Generate s r) is reads)
trace-nothing words (Trace s r) seed rounds reads is = (tt, tt)
trace-nothing words (Wake s c) seed rounds reads is = absurd (trace-alone words seed rounds (Wake s c) is reads)
trace-nothing words (Copy c word) seed rounds reads is = absurd (trace-alone words seed rounds (Copy c word) is reads)
trace-nothing words Unframe seed rounds reads is = absurd (trace-alone words seed rounds Unframe is reads)
trace-nothing words (Relay plan) seed rounds reads is = (tt, tt)
trace-nothing words Tasks seed rounds reads is = absurd (trace-alone words seed rounds Tasks is reads)
