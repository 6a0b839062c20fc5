-- What `echo` and `relay` have done, by their words and their status.
use Rattle.std.proofs.Common.{◌≡◌, ◌∙◌, inl, inr, refl, sym, ap, subst, Bool, ℕ, List, [], ◌∷◌, Option, Some, None, get_or, arith}
use Rattle.std.specs.Prelude.{codes, decimal}
use Rattle.event_text.specs.TextWords.{bytes_word}
use Rattle.ready_driver.specs.Io.{IoView}
use Rattle.relay_run.specs.declared.plan.Plan.{Plan}
use Rattle.session_core.specs.declared.command.TheConstants.{MOST_PORT}
use Rattle.session_core.specs.declared.command.Command.{Command}
use Rattle.session_core.specs.declared.command.Command.TheVariants.{Run, Ready, Generate, Trace, Wake, Copy, Unframe, Relay, Tasks}
use Rattle.session_core.specs.declared.top.Kept.{Kept}
use Rattle.session_core.specs.declared.top.Status.{Status}
use Rattle.session_core.specs.declared.top.Status.TheVariants.{Done, BadWords, BadLine, TooLong}
use Rattle.session_core.specs.declared.top.Status.TheVariants.{ReadFault, WriteFault, OutOfMemory, NetFault, BadFrame}
use Rattle.session_core.specs.Command.{IsPortIf, IsRelay, KeepsNothing, ReadsCommand, ReadsFromOne, ReadsNothing, ReadsPlan}
use Rattle.session_core.specs.Command.{UsesNoNet, relay_words}
use Rattle.session_core.specs.Complete.{IsDoneOrShort, NoneRose}
use Rattle.session_core.specs.Ends.{CommandEnds, Reading, StatusFor, Writing}
use Rattle.session_core.specs.Relays.{CommandOpens, OpensFor, RelaysFor}
use Rattle.session_core.proofs.Commands.{same-number}
use Rattle.session_core.proofs.RelayWords.{few-no-relay, not-trace-relay}
use Rattle.session_core.proofs.TaskWords.{many-no-tasks}

-- The last word of a relay is how many rounds it makes.
last-word : (to other : Option ℕ) (port limit rounds more most all : ℕ)
    → relay_words to port limit rounds ≡ relay_words other more most all → decimal rounds ≡ decimal all
last-word None None port limit rounds more most all same = ap (λ ws. get_or ws 3 []) same
last-word None (Some b) port limit rounds more most all same = absurd cc
last-word (Some a) None port limit rounds more most all same = absurd cc
last-word (Some a) (Some b) port limit rounds more most all same = ap (λ ws. get_or ws 4 []) same

-- Words have one number of rounds.
same-relayed : (words : List (List ℕ)) (plan other : Plan) → IsRelay words plan → IsRelay words other → plan.rounds ≡ other.rounds
same-relayed words plan other first second =
    let texts = last-word plan.to other.to plan.port plan.limit plan.rounds other.port other.limit other.rounds
    (sym first.words_are ∙ second.words_are) in
    same-number plan.rounds other.rounds (let small = first.small in omega arith) (let small = second.small in omega arith) texts

-- The one in front of it is how many connections may be open.
limit-word : (to other : Option ℕ) (port limit rounds more most all : ℕ)
    → relay_words to port limit rounds ≡ relay_words other more most all → decimal limit ≡ decimal most
limit-word None None port limit rounds more most all same = ap (λ ws. get_or ws 2 []) same
limit-word None (Some b) port limit rounds more most all same = absurd cc
limit-word (Some a) None port limit rounds more most all same = absurd cc
limit-word (Some a) (Some b) port limit rounds more most all same = ap (λ ws. get_or ws 3 []) same

-- Words have one limit.
same-limited : (words : List (List ℕ)) (plan other : Plan) → IsRelay words plan → IsRelay words other → plan.limit ≡ other.limit
same-limited words plan other first second =
    let texts = limit-word plan.to other.to plan.port plan.limit plan.rounds other.port other.limit other.rounds
    (sym first.words_are ∙ second.words_are) in
    same-number plan.limit other.limit (let few = first.few in omega arith) (let few = second.few in omega arith) texts

-- Words that begin with `relay`, and whose other numbers are none of a plan, are no command's.
pub relay-or-none : (port to limit rounds : List ℕ) (end : ℕ) → ReadsFromOne MOST_PORT to (Some end) →
    ReadsPlan (Some end) port limit rounds None → ReadsCommand (codes "relay" ∷ port ∷ to ∷ limit ∷ rounds ∷ []) None
relay-or-none port to limit rounds end reads none = record {
  no_run = λ capacity is. (let all : five ≡ codes "run" ∷ decimal capacity ∷ [] = is.words_are in cc);
  no_ready = λ is. (let all : five ≡ codes "ready" ∷ [] = is in cc);
  no_generate = λ seed count is. (let all : five ≡ codes "gen" ∷ decimal seed ∷ decimal count ∷ [] = is.words_are in cc);
  no_trace = λ seed count is.
      (let all : five ≡ codes "gen" ∷ decimal seed ∷ decimal count ∷ codes "--events" ∷ [] = is.words_are in cc);
  no_wake = λ senders count is. (let all : five ≡ codes "wake" ∷ decimal senders ∷ decimal count ∷ [] = is.words_are in cc);
  no_copy = λ capacity prefix is.
      (let all : five ≡ codes "copy" ∷ decimal capacity ∷ bytes_word prefix ∷ [] = is.words_are in cc);
  no_unframe = λ is. (let all : five ≡ codes "unframe" ∷ [] = is in cc);
  no_tasks = many-no-tasks (codes "relay") port (to ∷ limit ∷ rounds ∷ []);
  no_relay = λ plan is. no-plan plan is plan.to refl is.to is.words_are;
}
  where
    five : List (List ℕ)
    five = codes "relay" ∷ port ∷ to ∷ limit ∷ rounds ∷ []

    no-plan : (plan : Plan) → IsRelay five plan → (other : Option ℕ) → plan.to ≡ other → IsPortIf other
        → five ≡ relay_words other plan.port plan.limit plan.rounds → ⊥
    no-plan plan is None to_is port_if all = absurd cc
    no-plan plan is (Some other) to_is port_if all =
        let same = same-number end other (let fits = reads.1 in omega arith) (let fits = port_if.1 in omega arith)
        (sym reads.2 ∙ ap (λ ws. get_or ws 2 []) all) in
        none plan (record {
          positive = is.positive;
          port = is.port;
          some = is.some;
          few = is.few;
          small = is.small;
          to_is = to_is ∙ ap Some (sym same);
          first_is = ap (λ ws. get_or ws 1 []) all;
          second_is = ap (λ ws. get_or ws 3 []) all;
          third_is = ap (λ ws. get_or ws 4 []) all;
        })

-- What a command has done where its words are those of a relay.
pub relay-ends : (ts tk : Bool) (words : List (List ℕ)) (command : Command) (plan : Plan) (source : Reading) (sink : Writing)
    (kept : Option Kept) (status : Status) →
    ReadsCommand words (Some command) → IsRelay words plan → CommandEnds ts tk command source sink kept status →
    RelaysFor tk plan.rounds sink status
relay-ends ts tk words (Run c) plan source sink kept status reads relay ends =
    absurd (few-no-relay plan reads.words_are (omega arith) relay)
relay-ends ts tk words Ready plan source sink kept status reads relay ends = absurd (few-no-relay plan reads (omega arith) relay)
relay-ends ts tk words (Generate s r) plan source sink kept status reads relay ends =
    absurd (few-no-relay plan reads.words_are (omega arith) relay)
relay-ends ts tk words (Trace s r) plan source sink kept status reads relay ends = absurd (not-trace-relay words s r plan reads relay)
relay-ends ts tk words (Wake s c) plan source sink kept status reads relay ends =
    absurd (few-no-relay plan reads.words_are (omega arith) relay)
relay-ends ts tk words (Copy c word) plan source sink kept status reads relay ends =
    absurd (few-no-relay plan reads.is_copy.words_are (omega arith) relay)
relay-ends ts tk words Unframe plan source sink kept status reads relay ends = absurd (few-no-relay plan reads (omega arith) relay)
relay-ends ts tk words Tasks plan source sink kept status reads relay ends = absurd (few-no-relay plan reads (omega arith) relay)
relay-ends ts tk words (Relay p) plan source sink kept status reads relay ends =
    subst (λ rounds. RelaysFor tk rounds sink status) (same-relayed words p plan reads relay) ends

-- What a command opened where its words are those of a relay.
pub relay-opens : (tk memory : Bool) (words : List (List ℕ)) (command : Command) (plan : Plan) (sink : Writing) (old new : IoView)
    (status : Status) → ReadsCommand words (Some command) → IsRelay words plan → CommandOpens tk memory command sink old new status →
    OpensFor tk memory plan.limit plan.rounds sink old new status
relay-opens tk memory words (Run c) plan sink old new status reads relay opens =
    absurd (few-no-relay plan reads.words_are (omega arith) relay)
relay-opens tk memory words Ready plan sink old new status reads relay opens = absurd (few-no-relay plan reads (omega arith) relay)
relay-opens tk memory words (Generate s r) plan sink old new status reads relay opens =
    absurd (few-no-relay plan reads.words_are (omega arith) relay)
relay-opens tk memory words (Trace s r) plan sink old new status reads relay opens = absurd (not-trace-relay words s r plan reads relay)
relay-opens tk memory words (Wake s c) plan sink old new status reads relay opens =
    absurd (few-no-relay plan reads.words_are (omega arith) relay)
relay-opens tk memory words (Copy c word) plan sink old new status reads relay opens =
    absurd (few-no-relay plan reads.is_copy.words_are (omega arith) relay)
relay-opens tk memory words Unframe plan sink old new status reads relay opens = absurd (few-no-relay plan reads (omega arith) relay)
relay-opens tk memory words Tasks plan sink old new status reads relay opens = absurd (few-no-relay plan reads (omega arith) relay)
relay-opens tk memory words (Relay p) plan sink old new status reads relay opens =
    subst (λ limit. OpensFor tk memory limit plan.rounds sink old new status) (same-limited words p plan reads relay)
    (subst (λ rounds. OpensFor tk memory p.limit rounds sink old new status) (same-relayed words p plan reads relay) opens)

-- A command of a relay reads nothing, and keeps nothing.
pub relay-nothing : (words : List (List ℕ)) (command : Command) (plan : Plan) → ReadsCommand words (Some command) →
    IsRelay words plan → ReadsNothing command × KeepsNothing command
relay-nothing words (Run c) plan reads relay = absurd (few-no-relay plan reads.words_are (omega arith) relay)
relay-nothing words Ready plan reads relay = absurd (few-no-relay plan reads (omega arith) relay)
relay-nothing words (Generate s r) plan reads relay = absurd (few-no-relay plan reads.words_are (omega arith) relay)
relay-nothing words (Trace s r) plan reads relay = (tt, tt)
relay-nothing words (Wake s c) plan reads relay = (tt, tt)
relay-nothing words (Copy c word) plan reads relay = absurd (few-no-relay plan reads.is_copy.words_are (omega arith) relay)
relay-nothing words Unframe plan reads relay = absurd (few-no-relay plan reads (omega arith) relay)
relay-nothing words Tasks plan reads relay = absurd (few-no-relay plan reads (omega arith) relay)
relay-nothing words (Relay p) plan reads relay = (tt, tt)

-- A command of other words doesn't use the object.
pub other-unused : (words : List (List ℕ)) (command : Command) → ReadsCommand words (Some command) →
    ((plan : Plan) → IsRelay words plan → ⊥) → UsesNoNet command
other-unused words (Run c) reads other = tt
other-unused words Ready reads other = tt
other-unused words (Generate s r) reads other = tt
other-unused words (Trace s r) reads other = tt
other-unused words (Wake s c) reads other = tt
other-unused words (Copy c word) reads other = tt
other-unused words Unframe reads other = tt
other-unused words Tasks reads other = tt
other-unused words (Relay plan) reads other = absurd (other plan reads)

-- A command of a relay uses the object.
pub relay-uses : (words : List (List ℕ)) (command : Command) (plan : Plan) → ReadsCommand words (Some command) →
    IsRelay words plan → UsesNoNet command → ⊥
relay-uses words (Run c) plan reads relay none = few-no-relay plan reads.words_are (omega arith) relay
relay-uses words Ready plan reads relay none = few-no-relay plan reads (omega arith) relay
relay-uses words (Generate s r) plan reads relay none = few-no-relay plan reads.words_are (omega arith) relay
relay-uses words (Trace s r) plan reads relay none = not-trace-relay words s r plan reads relay
relay-uses words (Wake s c) plan reads relay none = few-no-relay plan reads.words_are (omega arith) relay
relay-uses words (Copy c word) plan reads relay none = few-no-relay plan reads.is_copy.words_are (omega arith) relay
relay-uses words Unframe plan reads relay none = few-no-relay plan reads (omega arith) relay
relay-uses words Tasks plan reads relay none = few-no-relay plan reads (omega arith) relay
relay-uses words (Relay p) plan reads relay none = none

-- What a relay has done is what every command has done, where nothing was read.
pub relay-status : (ts tk : Bool) (rounds : ℕ) (source : Reading) (sink : Writing) (status : Status) → source.rest ≡ source.left →
    source.later ≡ source.faults → RelaysFor tk rounds sink status → StatusFor ts tk source sink status
relay-status ts tk rounds source sink Done same still ends = ends.flushed
relay-status ts tk rounds source sink BadWords same still ends = ends
relay-status ts tk rounds source sink BadLine same still ends = tt
relay-status ts tk rounds source sink TooLong same still ends = absurd ends
relay-status ts tk rounds source sink ReadFault same still ends = absurd ends
relay-status ts tk rounds source sink WriteFault same still ends = ends.rose
relay-status ts tk rounds source sink OutOfMemory same still ends = record {
  few = λ told. record { count = 0; few = omega arith; taken = same };
  calm = record { read = λ told. still; wrote = ends.calm };
}
relay-status ts tk rounds source sink NetFault same still ends = tt
relay-status ts tk rounds source sink BadFrame same still ends = tt

-- A relay is done, or memory runs out, where neither the sink nor the object fails.
pub relay-complete : (tk : Bool) (rounds : ℕ) (source : Reading) (sink : Writing) (status : Status) → NoneRose source sink →
    (status ≡ NetFault → ⊥) → RelaysFor tk rounds sink status → IsDoneOrShort status
relay-complete tk rounds source sink Done calm still ends = inl refl
relay-complete tk rounds source sink BadWords calm still ends = absurd ends
relay-complete tk rounds source sink BadLine calm still ends = absurd ends
relay-complete tk rounds source sink TooLong calm still ends = absurd ends
relay-complete tk rounds source sink ReadFault calm still ends = absurd ends
relay-complete tk rounds source sink WriteFault calm still ends = absurd (calm.wrote ends.rose)
relay-complete tk rounds source sink OutOfMemory calm still ends = inr refl
relay-complete tk rounds source sink NetFault calm still ends = absurd (still refl)
relay-complete tk rounds source sink BadFrame calm still ends = absurd ends
