-- The pieces of messages: how far they are written, and how the writing ends.
use Rattle.std.proofs.Common.{◌≡◌, ◌∙◌, ◌≤◌, ◌<◌, ◌+◌, ℕ, List, [], ◌∷◌, ◌++◌, Bool, IsTrue, length, drop, refl, sym, ap, subst, arith}
use Rattle.std.proofs.Common.{append_assoc, length-append, zero, suc}
use Rattle.std.proofs.lemmas.List.{append_cancel_left}
use Rattle.std.specs.Prelude.{Some}
use Rattle.rent_io.specs.Call.{Took}
use Rattle.rent_io.proofs.Runs.{rose_later}
use Rattle.event_text.specs.TextLines.{lines}
use Rattle.frame_io.specs.declared.message.Message.{Message}
use Rattle.frame_io.specs.Piece.{pieces_of}
use Rattle.frame_io.specs.Written.{pieces_of_all}
use Rattle.frame_io.proofs.Sending.{one_more_sent}
use Rattle.frame_run.specs.declared.framing.Framed.{Framed}
use Rattle.frame_run.specs.declared.framing.Framed.TheVariants.{Done, BadLine, TooLong, ReadFault, WriteFault, OutOfMemory}
use Rattle.frame_run.specs.Framing.{FramesText, pieces_in}
use Rattle.frame_run.specs.MessageLine.{followed, message_of, messages_of}
use Rattle.frame_run.specs.Reads.{WhyStopped}
use Rattle.frame_run.specs.Unframing.{WroteFirst}

-- The first bytes of a text were written, where what was written and something behind it are the text behind what had been taken.
pub wrote_some : (taken now tail text : List ℕ) → now ≡ taken ++ drop (length taken) now → now ++ tail ≡ taken ++ text →
    WroteFirst text taken now
wrote_some taken now tail text grew same =
    let new = drop (length taken) now in
    record {
      written = new;
      rest = tail;
      text_is =
          sym (append_cancel_left taken (new ++ tail) text
          (sym (append_assoc taken new tail) ∙ ap (λ xs. xs ++ tail) (sym grew) ∙ same));
      now_is = grew;
    }

-- The same with something behind them.
pub joined_behind : (now later before held more : List ℕ) → now ++ later ≡ before ++ held →
    now ++ (later ++ more) ≡ before ++ (held ++ more)
joined_behind now later before held more same =
    sym (append_assoc now later more) ∙ ap (λ l. l ++ more) same ∙ append_assoc before held more

-- How far the reading of all of a source is.
pub record ReadingText (tells : Bool) (most : ℕ) (left rest text : List ℕ) (faults later size : ℕ) : Type 0 where
  pub some : 0 < size
  pub few : length text ≤ most
  pub order : faults ≤ later
  pub calm : IsTrue tells → later ≡ faults
  pub all : IsTrue tells → text ++ rest ≡ left

-- How far the sending of the messages of a text is: what was written and is buffered, and the pieces of the lines that are left, joined,
-- are the pieces of all, behind what had been taken.
pub record SendingText (tells : Bool) (text rest taken now held : List ℕ) (number failures : ℕ) : Type 0 where
  pub calm : failures ≡ 0
  pub joined : IsTrue tells → now ++ (held ++ pieces_of_all (messages_of (lines rest))) ≡ taken ++ pieces_in text
  pub counted : number + length (messages_of (lines rest)) ≡ length (messages_of (lines text))
  pub all : number + length (lines rest) ≡ length (lines text)

-- How far the writing of what is buffered is.
pub record DrainingText (tells : Bool) (before taken now held : List ℕ) (failures : ℕ) : Type 0 where
  pub calm : failures ≡ 0
  pub joined : IsTrue tells → now ++ held ≡ taken ++ before

-- The messages of lines of which the first writes one.
pub messages_more : (all behind : List (List ℕ)) (line : List ℕ) (message : Message) → all ≡ line ∷ behind →
    message_of line ≡ Some message → messages_of all ≡ message ∷ messages_of behind
messages_more all behind line message cut is = ap messages_of cut ∙ ap (λ m. followed m (messages_of behind)) is

-- A line's message was buffered: what was written and is buffered, and the pieces of the other lines, joined, stay the same.
pub line_sent : (taken held now whole : List ℕ) (all behind : List (List ℕ)) (line : List ℕ) (message : Message) → all ≡ line ∷ behind →
    message_of line ≡ Some message → now ≡ held ++ pieces_of message.channel message.bytes →
    taken ++ (held ++ pieces_of_all (messages_of all)) ≡ whole → taken ++ (now ++ pieces_of_all (messages_of behind)) ≡ whole
line_sent taken held now whole all behind line message cut is sent same =
    ap (λ l. taken ++ l) (one_more_sent held now message (messages_of all) (messages_of behind)
    (messages_more all behind line message cut is) sent)
    ∙ same

-- What becomes of a sink that is given back.
pub sink_back : {K : Type 0} (taken : K → List ℕ) (counts : K → ℕ) (flushed : K → Bool) (tk : Bool) (text had : List ℕ) (wrote : ℕ)
    (k again : K) (ending now : Framed) → again ≡ k → now ≡ ending →
    FramesText tk text (record { taken = had; now = taken k; faults = wrote; later = counts k; flushed = flushed k }) ending →
    FramesText tk text (record { taken = had; now = taken again; faults = wrote; later = counts again; flushed = flushed again }) now
sink_back taken counts flushed tk text had wrote k again ending now sink same ends =
    subst (λ x. FramesText tk text
    (record { taken = had; now = taken x; faults = wrote; later = counts x; flushed = flushed x }) now) (sym sink)
    (subst (λ x. FramesText tk text
    (record { taken = had; now = taken k; faults = wrote; later = counts k; flushed = flushed k }) x) (sym same) ends)

-- What is behind a part of a list, and behind more of it.
drop_behind : (xs ys : List ℕ) (n k : ℕ) → k ≡ length xs + n → drop k (xs ++ ys) ≡ drop n ys
drop_behind [] ys n k is = (let same : k ≡ n = omega arith in ap (λ m. drop m ys) same)
drop_behind (x ∷ xs) ys n zero is = absurd (omega (arith, is))
drop_behind (x ∷ xs) ys n (suc k) is = drop_behind xs ys n k (omega (arith, is))

-- What was taken behind a text that was read.
took_behind : (text left mid rest : List ℕ) (n : ℕ) → text ++ mid ≡ left → Took mid rest n → Took left rest (length text + n)
took_behind text left mid rest n joined took = record {
  there = omega (arith, took.there, length-append text mid, ap length joined);
  taken = took.taken ∙ sym (drop_behind text mid n (length text + n) refl) ∙ ap (drop (length text + n)) joined;
}

-- More of a source was read before it stopped.
pub unread_later : (tells : Bool) (most before : ℕ) (text left mid rest : List ℕ) (faults between later : ℕ) (ending : Framed) →
    before ≡ length text → faults ≤ between → (IsTrue tells → between ≡ faults) → (IsTrue tells → text ++ mid ≡ left) →
    WhyStopped tells most before mid rest between later ending → WhyStopped tells most 0 left rest faults later ending
unread_later tells most before text left mid rest faults between later Done is order calm all why = absurd why
unread_later tells most before text left mid rest faults between later (BadLine number) is order calm all why = absurd why
unread_later tells most before text left mid rest faults between later TooLong is order calm all why = λ told.
    let more = why told in
    record {
      count = length text + more.count;
      many = omega (arith, more.many, is);
      took = took_behind text left mid rest more.count (all told) more.took;
    }
unread_later tells most before text left mid rest faults between later ReadFault is order calm all why =
    rose_later faults between later order why
unread_later tells most before text left mid rest faults between later WriteFault is order calm all why = absurd why
unread_later tells most before text left mid rest faults between later OutOfMemory is order calm all why = λ told.
    let few = why told in
    record {
      count = length text + few.count;
      few = omega (arith, few.few, is);
      took = took_behind text left mid rest few.count (all told) few.took;
      calm = few.calm ∙ calm told;
    }
