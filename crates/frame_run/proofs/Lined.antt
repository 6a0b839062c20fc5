-- The lines of messages: how far they are written.
use Rattle.std.proofs.Common.{◌≡◌, ◌∙◌, ℕ, List, [], ◌∷◌, ◌++◌, Bool, IsTrue, append-nil, append_assoc, refl, sym, ap, subst}
use Rattle.frame_io.specs.declared.fault.BadFrame.{BadFrame}
use Rattle.frame_io.specs.declared.fault.BadFrame.TheVariants.{Number, Large, Flag, Channels, Long, Cut}
use Rattle.frame_io.specs.declared.fault.Ending.{Ending}
use Rattle.frame_io.specs.declared.fault.Ending.TheVariants.{Fault}
use Rattle.frame_io.specs.declared.message.Message.{Message}
use Rattle.frame_io.specs.Decoder.{Decoding, Faults, IsStopAt, Stops, fault_of, rest_at, rest_of}
use Rattle.frame_io.specs.Frames.{Outcome, behind, gives, stops}
use Rattle.std.specs.Prelude.{Option, Some}
use Rattle.frame_run.specs.Lines.{ending_line, message_line, message_lines, outcome_lines}
use Rattle.frame_run.specs.Unframing.{Reached, Unframing, WroteFirst, WroteLines}
use Rattle.frame_run.specs.Writes.{Collects, kept, sent}

-- The lines of joined messages are those of each, joined.
pub lines-append : (xs ys : List Message) → message_lines (xs ++ ys) ≡ message_lines xs ++ message_lines ys
lines-append [] ys = refl
lines-append (x ∷ xs) ys = ap (λ l. message_line x ++ l) (lines-append xs ys)
    ∙ sym (append_assoc (message_line x) (message_lines xs) (message_lines ys))

-- The lines of one message more.
lines-more : (xs : List Message) (m : Message) → message_lines (xs ++ m ∷ []) ≡ message_lines xs ++ message_line m
lines-more xs m = lines-append xs (m ∷ []) ∙ ap (λ l. message_lines xs ++ l) (append-nil (message_line m))

-- A message that is given is one that was before what is left then.
given-behind : (xs ys : List Message) (m : Message) (rest : Outcome) →
    behind (xs ++ ys) (gives m rest) ≡ behind (xs ++ (ys ++ m ∷ [])) rest
given-behind xs ys m rest =
    ap (λ ms. record { messages = ms; ending = rest.ending; offset = rest.offset }) (
    sym (append_assoc (xs ++ ys) (m ∷ []) rest.messages) ∙ ap (λ l. l ++ rest.messages) (append_assoc xs ys (m ∷ []))
    )

-- Nothing is written before anything is given.
pub unframing-none : (tk : Bool) (outcome rest : Outcome) (taken now waits : List ℕ) → rest ≡ outcome → now ≡ taken → waits ≡ [] →
    Unframing tk outcome rest taken now waits
unframing-none tk outcome rest taken now waits same here none = record {
  written = [];
  waiting = [];
  messages_are = sym same;
  waits_is = none;
  now_is = λ told. here ∙ sym (append-nil taken);
}

-- What is still to be read may be the same.
pub unframing-same : (tk : Bool) (outcome rest then : Outcome) (taken now waits : List ℕ) → then ≡ rest →
    Unframing tk outcome rest taken now waits → Unframing tk outcome then taken now waits
unframing-same tk outcome rest then taken now waits same far =
    subst (λ r. Unframing tk outcome r taken now waits) (sym same) far

-- A message more was given, and its line waits or was written.
pub unframing-more : (tk : Bool) (outcome was rest : Outcome) (m : Message) (taken now then waits after : List ℕ) →
    was ≡ gives m rest → Unframing tk outcome was taken now waits → Collects tk (waits ++ message_line m) now then after →
    Unframing tk outcome rest taken then after
unframing-more tk outcome was rest m taken now then waits after given far (kept waits_is still) = record {
  written = far.written;
  waiting = far.waiting ++ m ∷ [];
  messages_are = far.messages_are ∙ ap (behind (far.written ++ far.waiting)) given ∙ given-behind far.written far.waiting m rest;
  waits_is = waits_is ∙ ap (λ l. l ++ message_line m) far.waits_is ∙ sym (lines-more far.waiting m);
  now_is = λ told. still told ∙ far.now_is told;
}
unframing-more tk outcome was rest m taken now then waits after given far (sent waits_is wrote) = record {
  written = far.written ++ (far.waiting ++ m ∷ []);
  waiting = [];
  messages_are = far.messages_are ∙ ap (behind (far.written ++ far.waiting)) given ∙ given-behind far.written far.waiting m rest
      ∙ ap (λ ms. behind ms rest) (sym (append-nil (far.written ++ (far.waiting ++ m ∷ []))));
  waits_is = waits_is;
  now_is = λ told.
      wrote told ∙ ap (λ l. l ++ (waits ++ message_line m)) (far.now_is told)
      ∙ append_assoc taken (message_lines far.written) (waits ++ message_line m)
      ∙ ap (λ l. taken ++ (message_lines far.written ++ l))
      (ap (λ l. l ++ message_line m) far.waits_is ∙ sym (lines-more far.waiting m))
      ∙ ap (λ l. taken ++ l) (sym (lines-append far.written (far.waiting ++ m ∷ [])));
}

-- Where what is still to be read is an end alone, it is reached.
pub reached-end : (tk : Bool) (outcome was after : Outcome) (ending : Ending) (taken now waits : List ℕ) →
    Unframing tk outcome was taken now waits → Stops ending was after → Reached tk outcome ending taken now waits
reached-end tk outcome was after ending taken now waits far stops = record {
  written = far.written;
  waiting = far.waiting;
  messages_are = ap (λ o. o.messages) far.messages_are ∙ ap (λ ms. (far.written ++ far.waiting) ++ ms) stops.nothing
      ∙ append-nil (far.written ++ far.waiting);
  ending_is = ap (λ o. o.ending) far.messages_are ∙ stops.ends;
  waits_is = far.waits_is;
  now_is = far.now_is;
}

-- The offset of what is read is that of the reader that stopped.
pub reached-offset : (tk : Bool) (outcome was : Outcome) (now : Decoding) (left : List ℕ) (ending : Ending) (taken there waits : List ℕ) →
    Unframing tk outcome was taken there waits → rest_of now left ≡ was → now.stop ≡ Some ending → outcome.offset ≡ now.offset
reached-offset tk outcome was now left ending taken there waits far same stop =
    ap (λ o. o.offset) far.messages_are ∙ ap (λ o. o.offset) (sym same) ∙ ap (λ s. (rest_at now s left).offset) stop

-- A fault of a piece is an end.
pub fault-stops : (bad : BadFrame) (was now : Outcome) → Faults was now (fault_of bad) → Stops (Fault bad) was now
fault-stops Number was now faults = faults
fault-stops Large was now faults = faults
fault-stops Flag was now faults = faults
fault-stops Channels was now faults = faults
fault-stops Long was now faults = faults
fault-stops Cut was now faults = faults

pub fault-stop : (bad : BadFrame) (stop : Option Ending) → IsStopAt stop (fault_of bad) → stop ≡ Some (Fault bad)
fault-stop Number stop is = is
fault-stop Large stop is = is
fault-stop Flag stop is = is
fault-stop Channels stop is = is
fault-stop Long stop is = is
fault-stop Cut stop is = is

-- The lines of the first messages were written.
pub wrote-lines : (tk : Bool) (outcome rest : Outcome) (taken now waits : List ℕ) → Unframing tk outcome rest taken now waits →
    IsTrue tk → WroteLines outcome.messages taken now
wrote-lines tk outcome rest taken now waits far told = record {
  written = far.written;
  rest = far.waiting ++ rest.messages;
  messages_are = ap (λ o. o.messages) far.messages_are ∙ append_assoc far.written far.waiting rest.messages;
  now_is = far.now_is told;
}

-- The same where the end was reached.
pub reached-lines : (tk : Bool) (outcome : Outcome) (ending : Ending) (taken now waits : List ℕ) →
    Reached tk outcome ending taken now waits → IsTrue tk → WroteLines outcome.messages taken now
reached-lines tk outcome ending taken now waits far told =
    record { written = far.written; rest = far.waiting; messages_are = far.messages_are; now_is = far.now_is told }

-- The first bytes of a part of a text were written behind the part before it.
wrote-on : (text before part behind taken now then : List ℕ) → text ≡ before ++ (part ++ behind) → now ≡ taken ++ before →
    WroteFirst part now then → WroteFirst text taken then
wrote-on text before part behind taken now then whole here wrote = record {
  written = before ++ wrote.written;
  rest = wrote.rest ++ behind;
  text_is = whole ∙ ap (λ l. before ++ (l ++ behind)) wrote.text_is
      ∙ ap (λ l. before ++ l) (append_assoc wrote.written wrote.rest behind)
      ∙ sym (append_assoc before wrote.written (wrote.rest ++ behind));
  now_is = wrote.now_is ∙ ap (λ l. l ++ wrote.written) here ∙ append_assoc taken before wrote.written;
}

-- The first bytes of the lines that wait, with one line more, were written.
pub wrote-first : (tk : Bool) (outcome was rest : Outcome) (m : Message) (taken now then waits : List ℕ) →
    was ≡ gives m rest → Unframing tk outcome was taken now waits → IsTrue tk → WroteFirst (waits ++ message_line m) now then →
    WroteFirst (outcome_lines outcome) taken then
wrote-first tk outcome was rest m taken now then waits given far told wrote =
    let lines = message_lines (far.waiting ++ m ∷ []) in
    let tail = ending_line rest.offset rest.ending in
    let all = far.messages_are ∙ ap (behind (far.written ++ far.waiting)) given ∙ given-behind far.written far.waiting m rest in
    wrote-on (outcome_lines outcome) (message_lines far.written) lines (message_lines rest.messages ++ tail) taken now then (
    ap outcome_lines all
    ∙ ap (λ l. l ++ tail) (
    ap message_lines (append_assoc far.written (far.waiting ++ m ∷ []) rest.messages)
    ∙ lines-append far.written ((far.waiting ++ m ∷ []) ++ rest.messages)
    ∙ ap (λ l. message_lines far.written ++ l) (lines-append (far.waiting ++ m ∷ []) rest.messages)
    )
    ∙ append_assoc (message_lines far.written) (lines ++ message_lines rest.messages) tail
    ∙ ap (λ l. message_lines far.written ++ l) (append_assoc lines (message_lines rest.messages) tail)
    ) (far.now_is told)
    (subst (λ l. WroteFirst l now then) (ap (λ l. l ++ message_line m) far.waits_is ∙ sym (lines-more far.waiting m)) wrote)

-- The lines of what is read, where its end was reached.
reached-whole : (tk : Bool) (outcome : Outcome) (ending : Ending) (taken now waits : List ℕ) →
    (far : Reached tk outcome ending taken now waits) →
    outcome_lines outcome ≡ message_lines far.written ++ (waits ++ ending_line outcome.offset ending)
reached-whole tk outcome ending taken now waits far =
    let tail = ending_line outcome.offset ending in
    ap (λ e. message_lines outcome.messages ++ ending_line outcome.offset e) far.ending_is
    ∙ ap (λ ms. message_lines ms ++ tail) far.messages_are
    ∙ ap (λ l. l ++ tail) (lines-append far.written far.waiting)
    ∙ append_assoc (message_lines far.written) (message_lines far.waiting) tail
    ∙ ap (λ l. message_lines far.written ++ (l ++ tail)) (sym far.waits_is)

-- The first bytes of the lines that wait, and of that of the end, were written.
pub reached-first : (tk : Bool) (outcome : Outcome) (ending : Ending) (taken now waits then : List ℕ) →
    Reached tk outcome ending taken now waits → IsTrue tk → WroteFirst (waits ++ ending_line outcome.offset ending) now then →
    WroteFirst (outcome_lines outcome) taken then
reached-first tk outcome ending taken now waits then far told wrote =
    let line = waits ++ ending_line outcome.offset ending in
    wrote-on (outcome_lines outcome) (message_lines far.written) line [] taken now then
    (reached-whole tk outcome ending taken now waits far ∙ ap (λ l. message_lines far.written ++ l) (sym (append-nil line)))
    (far.now_is told) wrote

-- All of them were written.
pub reached-all : (tk : Bool) (outcome : Outcome) (ending : Ending) (taken now waits then : List ℕ) →
    Reached tk outcome ending taken now waits → IsTrue tk → then ≡ now ++ (waits ++ ending_line outcome.offset ending) →
    then ≡ taken ++ (message_lines outcome.messages ++ ending_line outcome.offset ending)
reached-all tk outcome ending taken now waits then far told wrote =
    let line = waits ++ ending_line outcome.offset ending in
    wrote ∙ ap (λ l. l ++ line) (far.now_is told) ∙ append_assoc taken (message_lines far.written) line
    ∙ ap (λ l. taken ++ l)
    (sym (reached-whole tk outcome ending taken now waits far)
    ∙ ap (λ e. message_lines outcome.messages ++ ending_line outcome.offset e) far.ending_is)
