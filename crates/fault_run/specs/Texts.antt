-- The texts of answers.
use Rattle.std.specs.Prelude.{ℕ, List, [], ◌∷◌, ◌++◌, length, codes, decimal}
use Rattle.ring_core.specs.declared.ring.EnterError.{EnterError}
use Rattle.ring_core.specs.declared.ring.EnterError.TheVariants.{Fault, Busy as WasBusy}
use Rattle.event_text.specs.TextReply.{reply_text}
use Rattle.fault_run.specs.declared.answer.Answer.{Answer}
use Rattle.fault_run.specs.declared.answer.Answer.TheVariants.{Plain, Kept, Stopped, Completed, Ring}
use Rattle.fault_run.specs.declared.answer.Halt.{Halt}
use Rattle.fault_run.specs.declared.answer.Halt.TheVariants.{RingFault, Busy, BadCompletion}
use Rattle.fault_run.specs.declared.answer.Shown.{Shown}

-- Why a turn stopped, behind a space.
abbrev pub halt_text : Halt → List ℕ
halt_text RingFault = codes " RingFault"
halt_text Busy = codes " Busy"
halt_text (BadCompletion word) = codes " BadCompletion " ++ decimal word

-- Numbers, each behind a space.
abbrev pub behind_spaces : List ℕ → List ℕ
behind_spaces [] = []
behind_spaces (number ∷ numbers) = (codes " " ++ decimal number) ++ behind_spaces numbers

-- What the ring shows: how many entries are queued and due, how many completions are ready, how many entries are in flight, and the data
-- word of each.
abbrev pub shown_text : Shown → List ℕ
shown_text shown =
    (codes "ring " ++ decimal shown.queued)
    ++ behind_spaces (shown.due ∷ shown.ready ∷ length shown.words ∷ shown.words)

-- A request that the ring kept out.
abbrev pub kept_text : EnterError → List ℕ
kept_text Fault = codes "refused RingFault"
kept_text WasBusy = codes "refused Busy"

-- The text of an answer.
abbrev pub answer_text : Answer → List ℕ
answer_text (Plain reply) = reply_text reply
answer_text (Kept why) = kept_text why
answer_text (Stopped turned halt) = reply_text turned ++ halt_text halt
answer_text Completed = codes "completed"
answer_text (Ring shown) = shown_text shown

-- A text and its newline.
abbrev pub ended : List ℕ → List ℕ
ended text = text ++ 10 ∷ []

-- The text of each answer and its newline, in order.
abbrev pub answer_lines : List Answer → List ℕ
answer_lines [] = []
answer_lines (answer ∷ answers) = ended (answer_text answer) ++ answer_lines answers

-- What is written of a wrong line: its number and a newline.
abbrev pub bad_line_text : ℕ → List ℕ
bad_line_text number = ended (codes "line " ++ decimal number)
