-- The texts of replies.
use Rattle.std.specs.Prelude.{ℕ, List, [], ◌∷◌, length, codes, decimal, Option}
use Rattle.rent_buf.specs.Held.{HeldBuf}
use Rattle.rent_buf.specs.declared.held.Held.TheVariants.{One, Parts, Nothing}
use Rattle.machine.specs.declared.ledger.Refusal.{Refusal}
use Rattle.machine.specs.declared.ledger.Refusal.TheVariants.{NoOp, NoCanceller, NoHandle, Full, NotFlying, Waiting, BadOutcome}
use Rattle.machine.specs.declared.ledger.Refusal.TheVariants.{BadHandleEvent}
use Rattle.machine.specs.declared.ledger.Reply.{Reply}
use Rattle.machine.specs.declared.ledger.Reply.TheVariants.{Handle, Fed, Ended, Released, Output, Messages, Submitted, Pending, Handed}
use Rattle.machine.specs.declared.ledger.Reply.TheVariants.{Dropped, Asked, Turned, ExecutedOp, ExecutedClose, Refused}
use Rattle.machine.specs.declared.ledger.Reply.TheVariants.{CanceledAtOnce, Canceller, CancelHandle, Cancels}
use Rattle.machine.specs.declared.request.Outcome.{Outcome}
use Rattle.machine.specs.declared.request.Outcome.TheVariants.{Count, Made, From, Fail}
use Rattle.event_text.specs.TextRequest.{address_word, buffer_words, parts_words}
use Rattle.event_text.specs.TextWords.{spaced, bytes_word, numbers_word}

-- The word of a refusal.
abbrev pub refusal_word : Refusal → List ℕ
refusal_word NoOp = codes "NoOp"
refusal_word NoCanceller = codes "NoCanceller"
refusal_word NoHandle = codes "NoHandle"
refusal_word Full = codes "Full"
refusal_word NotFlying = codes "NotFlying"
refusal_word Waiting = codes "Waiting"
refusal_word BadOutcome = codes "BadOutcome"
refusal_word BadHandleEvent = codes "BadHandleEvent"

-- The words of what was handed back: `-` where the request held nothing.
abbrev pub held_words : HeldBuf → List (List ℕ)
held_words (One buffer) = buffer_words buffer
held_words (Parts parts) = parts_words parts
held_words Nothing = codes "-" ∷ []

-- The address and the bytes of each message.
abbrev pub message_words : List (Option ℕ × List ℕ) → List (List ℕ)
message_words [] = []
message_words (message ∷ messages) = address_word message.0 ∷ bytes_word message.1 ∷ message_words messages

-- The words of an outcome, and of what was handed back with it.
abbrev pub ready_words : Outcome → HeldBuf → List (List ℕ)
ready_words (Count k) held = codes "ok" ∷ decimal k ∷ held_words held
ready_words (Made h) held = codes "made" ∷ decimal h ∷ held_words held
ready_words (From k address) held = codes "from" ∷ decimal k ∷ decimal address ∷ held_words held
ready_words (Fail e) held = codes "err" ∷ decimal e ∷ held_words held

-- The words of a reply.
abbrev pub reply_words : Reply → List (List ℕ)
reply_words (Handle h) = codes "handle" ∷ decimal h ∷ []
reply_words Fed = codes "fed" ∷ []
reply_words Ended = codes "ended" ∷ []
reply_words Released = codes "released" ∷ []
reply_words (Output bytes) = codes "output" ∷ bytes_word bytes ∷ []
reply_words (Messages messages) = codes "messages" ∷ decimal (length messages) ∷ message_words messages
reply_words (Submitted n) = codes "op" ∷ decimal n ∷ []
reply_words (CanceledAtOnce held) = codes "canceled" ∷ held_words held
reply_words Pending = codes "pending" ∷ []
reply_words (Handed outcome held) = codes "ready" ∷ ready_words outcome held
reply_words Dropped = codes "dropped" ∷ []
reply_words Asked = codes "asked" ∷ []
reply_words (Canceller c) = codes "canceller" ∷ decimal c ∷ []
reply_words (CancelHandle handle) = codes "cancelhandle" ∷ decimal handle ∷ []
reply_words (Cancels numbers) = codes "cancels" ∷ numbers_word numbers ∷ []
reply_words (Turned reaped closed woken) = codes "turned" ∷ numbers_word reaped ∷ numbers_word closed ∷ numbers_word woken ∷ []
reply_words (ExecutedOp n) = codes "executed" ∷ codes "op" ∷ decimal n ∷ []
reply_words (ExecutedClose h) = codes "executed" ∷ codes "close" ∷ decimal h ∷ []
reply_words (Refused refusal) = codes "refused" ∷ refusal_word refusal ∷ []

-- The text of a reply.
abbrev pub reply_text : Reply → List ℕ
reply_text reply = spaced (reply_words reply)
