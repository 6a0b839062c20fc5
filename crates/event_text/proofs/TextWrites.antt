-- What a write that failed leaves.
use Rattle.std.proofs.Common.{◌≡◌, ◌∙◌, ℕ, ◌+◌, ◌-◌, ◌<◌, ◌≤◌, List, [], ◌∷◌, ◌++◌, length, get_or, take, drop, refl, ap, sym, arith}
use Rattle.std.proofs.Common.{codes, decimal, append_assoc}
use Rattle.std.specs.Prelude.{Option}
use Rattle.std.proofs.lemmas.List.{take_more, take_all, append-nil}
use Rattle.event_text.proofs.TextCuts.{take-rest}
use Rattle.rent_buf.specs.Parts.{Parts, part_at}
use Rattle.event_text.specs.TextReply.{message_words}
use Rattle.event_text.specs.TextRequest.{address_word, part_words, parts_words}
use Rattle.event_text.specs.TextWords.{bytes_word, numbers_word, spaced}

-- Numbers, each behind a comma.
abbrev pub behind_commas : List ℕ → List ℕ
behind_commas [] = []
behind_commas (n ∷ ns) = 44 ∷ decimal n ++ behind_commas ns

-- Joined numbers behind commas are those of each, joined.
pub behind_commas-append : (ms ns : List ℕ) → behind_commas (ms ++ ns) ≡ behind_commas ms ++ behind_commas ns
behind_commas-append [] ns = refl
behind_commas-append (m ∷ ms) ns = rw (behind_commas-append ms ns) (simp append_assoc)

-- A list of numbers is the first, then the others behind commas.
pub numbers_word-cons : (n : ℕ) (ns : List ℕ) → numbers_word (n ∷ ns) ≡ decimal n ++ behind_commas ns
numbers_word-cons n [] = sym (append-nil (decimal n))
numbers_word-cons n (m ∷ ms) = ap (λ (rest : List ℕ). decimal n ++ 44 ∷ rest) (numbers_word-cons m ms)

-- A list of some numbers is its first, then the others behind commas.
pub numbers_word-first : (ns : List ℕ) → 0 < length ns → numbers_word ns ≡ decimal (get_or ns 0 0) ++ behind_commas (drop 1 ns)
numbers_word-first [] some = absurd (omega arith)
numbers_word-first (n ∷ ns) some = numbers_word-cons n ns

-- What the loop of `put_numbers` leaves after one number more.
pub commas-written : (old ns before between behind : List ℕ) (i : ℕ) → i < length ns → before ≡ old ++ behind_commas (take i ns)
    → between ≡ before ++ 44 ∷ [] → behind ≡ between ++ decimal (get_or ns i 0) → behind ≡ old ++ behind_commas (take (i + 1) ns)
commas-written old ns before between behind i below is0 is1 is2 =
    rw (is2, is1, is0, take_more ns i 0 below, behind_commas-append (take i ns) (get_or ns i 0 ∷ []), append-nil (decimal (get_or ns i 0)))
    (simp append_assoc)

-- What `put_numbers` leaves.
pub numbers-written : (old ns first all : List ℕ) (i : ℕ) → 0 < length ns → length (take (length ns - 1) (drop 1 ns)) ≤ i
    → first ≡ old ++ decimal (get_or ns 0 0)
    → all ≡ first ++ behind_commas (take i (take (length ns - 1) (drop 1 ns))) → all ≡ old ++ numbers_word ns
numbers-written old ns first all i some done is0 is1 =
    let whole : take i (take (length ns - 1) (drop 1 ns)) ≡ drop 1 ns = take_all i (take (length ns - 1) (drop 1 ns)) done
    ∙ take-rest ns 1 in
    rw (is1, whole, is0, numbers_word-first ns some) (simp append_assoc)

-- Words, each behind a space.
abbrev pub behind_spaces : List (List ℕ) → List ℕ
behind_spaces [] = []
behind_spaces (word ∷ words) = 32 ∷ word ++ behind_spaces words

-- Joined words behind spaces are those of each, joined.
pub behind_spaces-append : (vs ws : List (List ℕ)) → behind_spaces (vs ++ ws) ≡ behind_spaces vs ++ behind_spaces ws
behind_spaces-append [] ws = refl
behind_spaces-append (v ∷ vs) ws = rw (behind_spaces-append vs ws) (simp append_assoc)

-- Words are the first, then the others behind spaces.
pub spaced-cons : (word : List ℕ) (words : List (List ℕ)) → spaced (word ∷ words) ≡ word ++ behind_spaces words
spaced-cons word [] = sym (append-nil word)
spaced-cons word (next ∷ words) = ap (λ (rest : List ℕ). word ++ 32 ∷ rest) (spaced-cons next words)

-- The words of joined parts are those of each, joined.
pub part_words-append : (ps qs : Parts) → part_words (ps ++ qs) ≡ part_words ps ++ part_words qs
part_words-append [] qs = refl
part_words-append (p ∷ ps) qs = ap (λ (words : List (List ℕ)). decimal p.total ∷ bytes_word p.bytes ∷ words) (part_words-append ps qs)

-- What the loop of `put_parts` leaves after one part more.
pub parts-more : (old before between behind bytes : List ℕ) (parts : Parts) (i room : ℕ) → i < length parts
    → before ≡ old ++ behind_spaces (part_words (take i parts))
    → room ≡ (part_at parts i).total → bytes ≡ (part_at parts i).bytes
    → between ≡ before ++ 32 ∷ decimal room → behind ≡ between ++ 32 ∷ bytes_word bytes
    → behind ≡ old ++ behind_spaces (part_words (take (i + 1) parts))
parts-more old before between behind bytes parts i room below is0 isr isb is1 is2 =
    rw (
      is2,
      is1,
      is0,
      isr,
      isb,
      take_more parts i (record { bytes = []; total = 0 }) below,
      part_words-append (take i parts) (part_at parts i ∷ []),
      behind_spaces-append (part_words (take i parts)) (part_words (part_at parts i ∷ [])),
      append-nil (bytes_word (part_at parts i).bytes),
    )
    (simp append_assoc)

-- What `put_parts` leaves.
pub parts-written : (old first all : List ℕ) (parts : Parts) (count i : ℕ) → length parts ≤ i → count ≡ length parts
    → first ≡ old ++ (112 ∷ 32 ∷ decimal count)
    → all ≡ first ++ behind_spaces (part_words (take i parts)) → all ≡ old ++ spaced (parts_words parts)
parts-written old first all parts count i done isc is0 is1 =
    rw (is1, is0, isc, take_all i parts done, spaced-cons (decimal (length parts)) (part_words parts)) (simp append_assoc)

-- The words of joined messages are those of each, joined.
message_words-append : (ms ns : List (Option ℕ × List ℕ)) → message_words (ms ++ ns) ≡ message_words ms ++ message_words ns
message_words-append [] ns = refl
message_words-append (m ∷ ms) ns =
    ap (λ (words : List (List ℕ)). address_word m.0 ∷ bytes_word m.1 ∷ words) (message_words-append ms ns)

-- What the loop of `put_messages` leaves after one message more.
pub messages-more : (old before between behind bytes : List ℕ) (messages : List (Option ℕ × List ℕ)) (i : ℕ) (message : Option ℕ × List ℕ)
    → i < length messages → before ≡ old ++ behind_spaces (message_words (take i messages)) → message ≡ get_or messages i message
    → bytes ≡ message.1 → between ≡ before ++ 32 ∷ address_word message.0 → behind ≡ between ++ 32 ∷ bytes_word bytes
    → behind ≡ old ++ behind_spaces (message_words (take (i + 1) messages))
messages-more old before between behind bytes messages i message below is0 ism isb is1 is2 =
    rw (
      is2,
      is1,
      is0,
      isb,
      take_more messages i message below,
      sym ism,
      message_words-append (take i messages) (message ∷ []),
      behind_spaces-append (message_words (take i messages)) (message_words (message ∷ [])),
      append-nil (bytes_word message.1),
    )
    (simp append_assoc)

-- What `put_messages` leaves.
pub messages-written : (old first all : List ℕ) (messages items : List (Option ℕ × List ℕ)) (count i : ℕ) → items ≡ messages
    → length items ≤ i → count ≡ length messages → first ≡ old ++ (codes "messages " ++ decimal count)
    → all ≡ first ++ behind_spaces (message_words (take i items))
    → all ≡ old ++ spaced (codes "messages" ∷ decimal (length messages) ∷ message_words messages)
messages-written old first all messages items count i same done isc is0 is1 =
    rw (is1, is0, isc, take_all i items done, same, spaced-cons (decimal (length messages)) (message_words messages)) (simp append_assoc)
