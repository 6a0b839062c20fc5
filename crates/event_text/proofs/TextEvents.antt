-- A line is read as an event exactly when it is its text.
use Rattle.std.proofs.Common.{◌≡◌, ◌∙◌, ℕ, ◌^◌, ◌<◌, List, [], ◌∷◌, refl, ap, sym, subst, arith}
use Rattle.std.specs.Prelude.{Bool, true, false, Option, Some, None, option_map, codes, decimal}
use Rattle.std.proofs.lemmas.Option.{same_Some}
use Rattle.rent_buf.specs.Buffer.{Buffer}
use Rattle.rent_buf.specs.Parts.{Parts}
use Rattle.machine.specs.declared.ledger.Event.{Event}
use Rattle.machine.specs.declared.ledger.Event.TheVariants.{Give, Feed, FeedMessage, End, Look, Close, Submit, Poll, Drop, Cancel}
use Rattle.machine.specs.declared.ledger.Event.TheVariants.{NewCanceller, NewHandle, CancelAll, Turn, Exec}
use Rattle.machine.specs.declared.request.Request.{Request}
use Rattle.machine.specs.declared.request.Told.{Told}
use Rattle.machine.specs.declared.request.Told.TheVariants.{Count, Fail}
use Rattle.machine.specs.declared.world.HandleKind.{HandleKind}
use Rattle.machine.specs.declared.world.HandleKind.TheVariants.{Stream, Datagram, File, Pipe, Listener}
use Rattle.event_text.specs.TextEvent.{IsEvent, IsExternal, IsTold, StandsFor, event_text, event_words, handle_kind_word}
use Rattle.event_text.specs.TextEvent.{stands_for, told_words}
use Rattle.event_text.specs.TextLines.{IsWrong}
use Rattle.event_text.specs.TextReaders.{with_first, at_end, last_of}
use Rattle.event_text.specs.TextReads.{words, number_of, number_below, bytes_end, handle_kind_of}
use Rattle.event_text.specs.TextRequest.{IsRequest, request_words}
use Rattle.event_text.specs.TextRequestReads.{request_of}
use Rattle.event_text.specs.TextEventReads.{told_rows, told_of, engine_rows, linked_rows, arrived_rows, created_rows, numbered_rows, numbered_by}
use Rattle.event_text.specs.TextEventReads.{created_by, external_by, linked_by, event_of}
use Rattle.event_text.specs.TextWords.{AreBytes, spaced, bytes_word, is_solid}
use Rattle.event_text.proofs.TextFields.{at_end-Some, value_of-Some}
use Rattle.event_text.proofs.TextForms.{IsWord, IsForm, IsRow, AreRows, number_word, below_word, bytes_form, last_form, with_first_form}
use Rattle.event_text.proofs.TextForms.{row_form, by_name-Some}
use Rattle.event_text.proofs.TextRequests.{alone_behind, number_behind, request_of-words, request_read, solid_request}
use Rattle.event_text.proofs.TextSpaces.{AreSolid, words-spaced, spaced-words}

-- The word of a handle's kind.
kind_word : IsWord handle_kind_of handle_kind_word (λ kind. Unit {0})
kind_word = record {
  solid = solid;
  reads = reads;
  spelt = λ word kind is. (value_of-Some handle_kind_word (Stream ∷ Datagram ∷ File ∷ Pipe ∷ Listener ∷ []) word kind is, tt);
}
  where
    solid : (kind : HandleKind) → Unit {0} → is_solid (handle_kind_word kind) ≡ true
    solid Stream h = refl
    solid Datagram h = refl
    solid File h = refl
    solid Pipe h = refl
    solid Listener h = refl

    reads : (kind : HandleKind) → Unit {0} → handle_kind_of (handle_kind_word kind) ≡ Some kind
    reads Stream h = refl
    reads Datagram h = refl
    reads File h = refl
    reads Pipe h = refl
    reads Listener h = refl

-- What an executor tells.
told_form : IsForm told_of told_words IsTold
told_form = record { solid = solid; reads = reads; spelt = spelt }
  where
    count : IsForm (last_of (number_below (2 ^ 32))) (λ n. decimal n ∷ []) (λ n. n < 2 ^ 32)
    count = last_form (below_word (2 ^ 32) (omega arith))

    error : IsForm (last_of (number_below (2 ^ 16))) (λ n. decimal n ∷ []) (λ n. n < 2 ^ 16)
    error = last_form (below_word (2 ^ 16) (omega arith))

    solid : (told : Told) → IsTold told → AreSolid (told_words told)
    solid (Count k) h = (refl, count.solid k h)
    solid (Fail e) h = (refl, error.solid e h)

    reads : (told : Told) → IsTold told → told_of (told_words told) ≡ Some told
    reads (Count k) h = ap (λ o. option_map Count o) (count.reads k h)
    reads (Fail e) h = ap (λ o. option_map Fail o) (error.reads e h)

    rows : AreRows told_words IsTold told_rows
    rows = (
      row_form told_words IsTold (codes "ok") Count count (λ k h. (refl, h)),
      (row_form told_words IsTold (codes "err") Fail error (λ e h. (refl, h)), tt),
    )

    spelt : (all : List (List ℕ)) (told : Told) → told_of all ≡ Some told → (all ≡ told_words told) × IsTold told
    spelt [] told is = absurd (cc)
    spelt (name ∷ words) told is =
        by_name-Some told_words IsTold told_rows rows None name words told (λ none. absurd (cc)) is

-- The shapes of what is behind an event's first word, where it isn't one number: a number and bytes,
bytes_behind : IsForm (with_first number_of bytes_end) (λ x. decimal x.0 ∷ bytes_word x.1 ∷ []) (λ x. (x.0 < 2 ^ 64) × AreBytes x.1)
bytes_behind = with_first_form number_word bytes_form

-- .. or two numbers and bytes,
message_behind : IsForm (with_first number_of (with_first number_of bytes_end))
    (λ x. decimal x.0 ∷ decimal x.1.0 ∷ bytes_word x.1.1 ∷ []) (λ x. (x.0 < 2 ^ 64) × ((x.1.0 < 2 ^ 64) × AreBytes x.1.1))
message_behind = with_first_form number_word bytes_behind

-- .. or a kind,
kind_behind : IsForm (last_of handle_kind_of) (λ kind. handle_kind_word kind ∷ []) (λ kind. Unit {0})
kind_behind = last_form kind_word

-- .. or a request,
request_behind : IsForm request_of request_words IsRequest
request_behind = record { solid = solid_request; reads = request_of-words; spelt = request_read }

-- .. or a number and a request,
under_behind : IsForm (with_first number_of request_of) (λ x. decimal x.0 ∷ request_words x.1) (λ x. (x.0 < 2 ^ 64) × IsRequest x.1)
under_behind = with_first_form number_word request_behind

-- .. or a number and what is told.
told_behind : IsForm (with_first number_of told_of) (λ x. decimal x.0 ∷ told_words x.1) (λ x. (x.0 < 2 ^ 64) × IsTold x.1)
told_behind = with_first_form number_word told_form

-- What an event's words are read as.
pub event_of-event_words : (event : Event) → IsEvent event → event_of false (event_words event) ≡ Some event
unfolding linked_by external_by created_by numbered_by
event_of-event_words (Give kind) h = ap (λ o. option_map Give o) (kind_behind.reads kind tt)
event_of-event_words (Feed n bytes) h = ap (λ o. option_map (λ x. Feed x.0 x.1) o) (bytes_behind.reads (n, bytes) h)
event_of-event_words (FeedMessage n address bytes) h =
    ap (λ o. option_map (λ x. FeedMessage x.0 x.1.0 x.1.1) o) (message_behind.reads (n, (address, bytes)) (h.0, (h.1, h.2)))
event_of-event_words (End n) h = ap (λ o. option_map End o) (alone_behind.reads n h)
event_of-event_words (Look n) h = ap (λ o. option_map Look o) (alone_behind.reads n h)
event_of-event_words (Close n) h = ap (λ o. option_map Close o) (alone_behind.reads n h)
event_of-event_words (Submit request None false) h =
    ap (λ (o : Option (Request Buffer Parts)). option_map (λ r. Submit r None false) o) (request_of-words request h)
event_of-event_words (Submit request (Some handle) false) h =
    ap (λ o. option_map (λ x. Submit x.1 (Some x.0) false) o) (under_behind.reads (handle, request) h)
event_of-event_words (Submit request None true) h =
    ap (λ (o : Option (Request Buffer Parts)). option_map (λ r. Submit r None true) o) (request_of-words request h)
event_of-event_words (Submit request (Some handle) true) h =
    ap (λ o. option_map (λ x. Submit x.1 (Some x.0) true) o) (under_behind.reads (handle, request) h)
event_of-event_words (Poll n task) h = ap (λ o. option_map (λ x. Poll x.0 x.1) o) (number_behind.reads (n, task) h)
event_of-event_words (Drop n) h = ap (λ o. option_map Drop o) (alone_behind.reads n h)
event_of-event_words (Cancel n) h = ap (λ o. option_map Cancel o) (alone_behind.reads n h)
event_of-event_words NewCanceller h = refl
event_of-event_words (NewHandle c) h = ap (λ o. option_map NewHandle o) (alone_behind.reads c h)
event_of-event_words (CancelAll c) h = ap (λ o. option_map CancelAll o) (alone_behind.reads c h)
event_of-event_words Turn h = refl
event_of-event_words (Exec place told) h = ap (λ o. option_map (λ x. Exec x.0 x.1) o) (told_behind.reads (place, told) h)

-- No word of an event has a space in it.
solid_event : (event : Event) → IsEvent event → AreSolid (event_words event)
solid_event (Give kind) h = (refl, kind_behind.solid kind tt)
solid_event (Feed n bytes) h = (refl, bytes_behind.solid (n, bytes) h)
solid_event (FeedMessage n address bytes) h = (refl, message_behind.solid (n, (address, bytes)) (h.0, (h.1, h.2)))
solid_event (End n) h = (refl, alone_behind.solid n h)
solid_event (Look n) h = (refl, alone_behind.solid n h)
solid_event (Close n) h = (refl, alone_behind.solid n h)
solid_event (Submit request None false) h = (refl, solid_request request h)
solid_event (Submit request (Some handle) false) h = (refl, under_behind.solid (handle, request) h)
solid_event (Submit request None true) h = (refl, solid_request request h)
solid_event (Submit request (Some handle) true) h = (refl, under_behind.solid (handle, request) h)
solid_event (Poll n task) h = (refl, number_behind.solid (n, task) h)
solid_event (Drop n) h = (refl, alone_behind.solid n h)
solid_event (Cancel n) h = (refl, alone_behind.solid n h)
solid_event NewCanceller h = (refl, tt)
solid_event (NewHandle c) h = (refl, alone_behind.solid c h)
solid_event (CancelAll c) h = (refl, alone_behind.solid c h)
solid_event Turn h = (refl, tt)
solid_event (Exec place told) h = (refl, told_behind.solid (place, told) h)

-- A first word alone is an event's.
alone : (name : List ℕ) (event : Event) → name ∷ [] ≡ event_words event → IsEvent event
    → IsRow event_words IsEvent (name, λ more. at_end event more)
alone name event is typed = record {
  spelt = λ more found read.
      let end = at_end-Some event more found read in
      subst (λ (e : Event). (name ∷ more ≡ event_words e) × IsEvent e) end.1 (ap (λ (l : List (List ℕ)). name ∷ l) end.0 ∙ is, typed);
}

-- Each row of one number reads its event's words,
numbered_rows-are : AreRows event_words IsEvent numbered_rows
numbered_rows-are = (
  row_form event_words IsEvent (codes "drop") Drop alone_behind (λ n h. (refl, h)),
  (
    row_form event_words IsEvent (codes "cancel") Cancel alone_behind (λ n h. (refl, h)),
    (
      row_form event_words IsEvent (codes "end") End alone_behind (λ n h. (refl, h)),
      (
        row_form event_words IsEvent (codes "look") Look alone_behind (λ n h. (refl, h)),
        (
          row_form event_words IsEvent (codes "close") Close alone_behind (λ n h. (refl, h)),
          (
            row_form event_words IsEvent (codes "newhandle") NewHandle alone_behind (λ n h. (refl, h)),
            (row_form event_words IsEvent (codes "cancelall") CancelAll alone_behind (λ n h. (refl, h)), tt),
          ),
        ),
      ),
    ),
  ),
)

-- .. each of what submits or creates,
created_rows-are : AreRows event_words IsEvent created_rows
created_rows-are = (
  row_form event_words IsEvent (codes "submit") (λ request. Submit request None false) request_behind (λ x h. (refl, h)),
  (
    row_form event_words IsEvent (codes "under") (λ x. Submit x.1 (Some x.0) false) under_behind (λ x h. (refl, h)),
    (
      row_form event_words IsEvent (codes "give") Give kind_behind (λ kind h. (refl, tt)),
      (alone (codes "canceller") NewCanceller refl tt, tt),
    ),
  ),
)

-- .. each of a poll and of what arrives,
arrived_rows-are : AreRows event_words IsEvent arrived_rows
arrived_rows-are = (
  row_form event_words IsEvent (codes "poll") (λ x. Poll x.0 x.1) number_behind (λ x h. (refl, h)),
  (
    row_form event_words IsEvent (codes "feed") (λ x. Feed x.0 x.1) bytes_behind (λ x h. (refl, h)),
    (
      row_form event_words IsEvent (codes "message") (λ x. FeedMessage x.0 x.1.0 x.1.1) message_behind
          (λ x h. (refl, (h.0, h.1.0, h.1.1))),
      tt,
    ),
  ),
)

-- .. each of a linked submission,
linked_rows-are : AreRows event_words IsEvent linked_rows
linked_rows-are = (
  row_form event_words IsEvent (codes "link") (λ request. Submit request None true) request_behind (λ x h. (refl, h)),
  (row_form event_words IsEvent (codes "linkunder") (λ x. Submit x.1 (Some x.0) true) under_behind (λ x h. (refl, h)), tt),
)

-- .. and each of a turn and an execution.
engine_rows-are : AreRows event_words IsEvent engine_rows
engine_rows-are = (
  alone (codes "turn") Turn refl tt,
  (row_form event_words IsEvent (codes "exec") (λ x. Exec x.0 x.1) told_behind (λ x h. (refl, h)), tt),
)

-- Words that are read as an event are that event's: where only external ones are taken,
external_by-Some : (name : List ℕ) (words : List (List ℕ)) (event : Event) → external_by name words ≡ Some event
    → (name ∷ words ≡ event_words event) × IsEvent event
unfolding external_by created_by numbered_by
external_by-Some name words event is =
    by_name-Some event_words IsEvent arrived_rows arrived_rows-are (created_by name words) name words event (λ created.
    by_name-Some event_words IsEvent created_rows created_rows-are (numbered_by name words) name words event (λ numbered.
    by_name-Some event_words IsEvent numbered_rows numbered_rows-are None name words event (λ none. absurd (cc)) numbered) created) is

-- .. where linked submissions are, too,
linked_by-Some : (name : List ℕ) (words : List (List ℕ)) (event : Event) → linked_by name words ≡ Some event
    → (name ∷ words ≡ event_words event) × IsEvent event
unfolding linked_by
linked_by-Some name words event is =
    by_name-Some event_words IsEvent linked_rows linked_rows-are (external_by name words) name words event
    (external_by-Some name words event) is

-- .. and where any is.
event_of-Some : (external : Bool) (all : List (List ℕ)) (event : Event) → event_of external all ≡ Some event
    → (all ≡ event_words event) × IsEvent event
event_of-Some external [] event is = absurd (cc)
event_of-Some true (name ∷ words) event is = external_by-Some name words event is
event_of-Some false (name ∷ words) event is =
    by_name-Some event_words IsEvent engine_rows engine_rows-are (linked_by name words) name words event
    (linked_by-Some name words event) is

-- Nothing is no event.
none_isnt_some : (event : Event) → None ≡ Some event → ⊥
none_isnt_some event is = cc

-- The words of an external event are read as the same, whichever are taken.
external_of-event_words : (event : Event) → IsExternal event → event_of true (event_words event) ≡ event_of false (event_words event)
unfolding linked_by external_by created_by numbered_by
external_of-event_words Turn external = absurd external
external_of-event_words (Exec place told) external = absurd external
external_of-event_words (Submit request under true) external = absurd external
external_of-event_words (Submit request None false) external = refl
external_of-event_words (Submit request (Some handle) false) external = refl
external_of-event_words event external = refl

-- Words that are read as an event, where only external ones are taken, aren't those of a turn, an execution or a linked submission.
is_external : (event : Event) → event_of true (event_words event) ≡ Some event → IsExternal event
unfolding linked_by external_by created_by numbered_by
is_external Turn is = absurd (none_isnt_some Turn is)
is_external (Exec place told) is = absurd (none_isnt_some (Exec place told) is)
is_external (Submit request None true) is = absurd (none_isnt_some (Submit request None true) is)
is_external (Submit request (Some handle) true) is = absurd (none_isnt_some (Submit request (Some handle) true) is)
is_external (Submit request None false) is = tt
is_external (Submit request (Some handle) false) is = tt
is_external event is = tt

-- Words that have no space in them, and are some, are those that their line is cut into.
words-solid : (all : List (List ℕ)) → (all ≡ [] → ⊥) → AreSolid all → words (spaced all) ≡ all
words-solid [] some solid = absurd (some refl)
words-solid (word ∷ more) some solid = words-spaced word more solid

-- The words of an event's text.
words-event_text : (event : Event) → IsEvent event → words (event_text event) ≡ event_words event
words-event_text event typed =
    words-solid (event_words event) (λ empty. none_isnt_some event (sym (ap (event_of false) empty) ∙ event_of-event_words event typed))
    (solid_event event typed)

-- A line that is read as an event stands for it,
pub event_of-stands : (external : Bool) (line : List ℕ) (event : Event) → event_of external (words line) ≡ Some event
    → StandsFor line event
event_of-stands external line event is =
    let read = event_of-Some external (words line) event is in
    record { typed = read.1; text = sym (spaced-words line) ∙ ap spaced read.0 }

-- .. and for one that is taken.
pub read-stands : (external : Bool) (line : List ℕ) (event : Event) → event_of external (words line) ≡ Some event
    → stands_for external line event
read-stands false line event is = event_of-stands false line event is
read-stands true line event is = record {
  stands = event_of-stands true line event is;
  external = is_external event (ap (event_of true) (sym (event_of-Some true (words line) event is).0) ∙ is);
}

-- A line that stands for an event is read as it,
pub stands-event_of : (line : List ℕ) (event : Event) → StandsFor line event → event_of false (words line) ≡ Some event
stands-event_of line event stands =
    ap (event_of false) (ap words stands.text ∙ words-event_text event stands.typed) ∙ event_of-event_words event stands.typed

-- .. also where only external events are taken.
pub stands-read : (external : Bool) (line : List ℕ) (event : Event) → stands_for external line event
    → event_of external (words line) ≡ Some event
stands-read false line event stands = stands-event_of line event stands
stands-read true line event stands =
    let words_are = ap words stands.stands.text ∙ words-event_text event stands.stands.typed in
    ap (event_of true) words_are ∙ external_of-event_words event stands.external ∙ event_of-event_words event stands.stands.typed

-- A line that is read as none stands for no event that is taken.
pub read-wrong : (external : Bool) (line : List ℕ) → event_of external (words line) ≡ None → IsWrong (stands_for external) line
read-wrong external line none event stands = none_isnt_some event (sym none ∙ stands-read external line event stands)

-- A line stands for one event at most.
pub stands_once : (line : List ℕ) (a b : Event) → StandsFor line a → StandsFor line b → a ≡ b
stands_once line a b first second = same_Some a b (sym (stands-event_of line a first) ∙ stands-event_of line b second)

-- Two events with one text are one.
pub one_text : (a b : Event) → IsEvent a → IsEvent b → event_text a ≡ event_text b → a ≡ b
one_text a b first second is = stands_once (event_text a) a b (record { typed = first; text = refl }) (record { typed = second; text = is })
