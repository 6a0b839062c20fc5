-- An entry of the ring, and what a data word names.
use Rattle.std.specs.Prelude.{ℕ, ◌+◌, ◌-◌, Bool, true, false, not, nat_lt, if◌then◌else◌}
use Rattle.ring_core.specs.declared.entry.TheConstants.{FIRST_CLOSE, FIRST_RESERVED, CANCEL_WORD}
use Rattle.ring_core.specs.declared.entry.Entry.{Entry}
use Rattle.ring_core.specs.declared.entry.Body.{Body}
use Rattle.ring_core.specs.declared.entry.Body.TheVariants.{Call as Calls, Cancel as Cancels, Close as Closes}
use Rattle.ring_core.specs.declared.entry.Target.{Target}
use Rattle.ring_core.specs.declared.entry.Target.TheVariants.{Slot, Handle, Reserved}
use Rattle.machine.specs.declared.request.Call.{Call}

-- What a data word names: below the words of closes the slot of that key, and from there on a handle, up to the reserved words.
abbrev pub target : ℕ → Target
target word =
    if nat_lt word FIRST_CLOSE then Slot word else if nat_lt word FIRST_RESERVED then Handle (word - FIRST_CLOSE) else Reserved word

-- The entry of an operation's call, linked or not: its word is the key of the operation's slot.
abbrev pub call_entry : ℕ → ℕ → Bool → Call → Entry
call_entry key serial linked call = record { word = key; serial = serial; linked = linked; body = Calls call }

-- The entry of a cancel: it names the key of the operation's slot, and has that operation's serial.
abbrev pub cancel_entry : ℕ → ℕ → Entry
cancel_entry key serial = record { word = CANCEL_WORD; serial = serial; linked = false; body = Cancels key }

-- The data word of a handle's close.
abbrev pub close_word : ℕ → ℕ
close_word h = FIRST_CLOSE + h

-- The entry of a handle's close: its word and its serial name the handle.
abbrev pub close_entry : ℕ → Entry
close_entry h = record { word = close_word h; serial = h; linked = false; body = Closes h }

-- An entry may be pushed: only a call is linked.
abbrev pub may_link : Entry → Body → Bool
may_link entry (Calls call) = true
may_link entry (Cancels key) = not entry.linked
may_link entry (Closes h) = not entry.linked
