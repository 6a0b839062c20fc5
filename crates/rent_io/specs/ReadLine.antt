-- A read of a line into a text: what each poll of it does, and what many have done. The clauses `answer` and `run` cite it.
use Rattle.std.specs.Prelude.{ℕ, ◌≡◌, ◌<◌, ◌≤◌, ◌⊎◌, Bool, List, [], ◌++◌, length, take, drop, IsUtf8, Result, Ok, Err}
use Rattle.rent_buf.specs.declared.fault.IoFault.{IoFault}
use Rattle.rent_buf.specs.declared.fault.IoFault.TheVariants.{OutOfMemory, InvalidData}
use Rattle.rent_io.specs.declared.poll.Step.{Step}
use Rattle.rent_io.specs.Polls.{Fails}
use Rattle.rent_io.specs.Reader.{AtEnd, Reader}
use Rattle.rent_io.specs.ReadState.{Gave, ReadPoll, ReadEnd, ReadRunEnd}
use Rattle.rent_io.specs.ReadUntil.{Until, Lacks, IsLine, IsWholeLine}

-- Such a read is the bytes of the text before it, and those that it added.
pub record Lining : Type 0 where
  pub text : List ℕ
  pub added : List ℕ

-- The read up to a newline below it, whose bytes from one on are those that it added.
pub record IsLining (u : Until) (start : ℕ) : Type 0 where
  pub to_newline : u.delim ≡ 10
  pub within : start ≤ length u.bytes
  pub count : u.added ≡ length (drop start u.bytes)
  pub utf8 : IsUtf8 (take start u.bytes)

-- The outcome where the bytes that were added aren't UTF-8.
abbrev pub invalid : Result ℕ IoFault → Result ℕ IoFault
invalid (Ok n) = Err InvalidData
invalid (Err fault) = Err fault

-- The text at the end: with the bytes that were added, where they are UTF-8, and else without.
abbrev pub TextOf : List ℕ → List ℕ → Result ℕ IoFault → Result ℕ IoFault → List ℕ → Type 0
TextOf text added outcome end back = (IsUtf8 added × (end ≡ outcome) × (back ≡ text ++ added))
    ⊎ (¬ IsUtf8 added × (end ≡ invalid outcome) × (back ≡ text))

-- The same read, after it added these bytes too.
abbrev pub lined : Lining → List ℕ → Lining
lined l got = record l { added = l.added ++ got }

-- With these bytes it goes on: some, none of them a newline.
abbrev pub LineGoesOn : Lining → Lining → List ℕ → Type 0
LineGoesOn l next got = (0 < length got) × Lacks 10 got × (next ≡ lined l got)

-- With these bytes, of which this is so, the line is done, and the text has it, if it is UTF-8.
abbrev pub EndsLine : (List ℕ → Type 0) → Lining → List ℕ → Result ℕ IoFault → ℕ → List ℕ → Type 0
EndsLine line l back end n got = line got × (n ≡ length (l.added ++ got)) × TextOf l.text (l.added ++ got) (Ok n) end back

-- With these bytes it stops at a fault: they stay, if they are UTF-8, and none of them is a newline.
abbrev pub StopsLine : Reader → Reader → Lining → List ℕ → Result ℕ IoFault → IoFault → List ℕ → Type 0
StopsLine before now l back end fault got =
    Lacks 10 got × (Fails before.counts now.counts fault ⊎ (fault ≡ OutOfMemory)) × TextOf l.text (l.added ++ got) (Err fault) end back

-- How a poll ends, whose bytes had this outcome: it added the rest of the line, or none, since the stream ended; or at a fault.
pub record LineEnd (tells : Bool) (before now : Reader) (l : Lining) (back : List ℕ) (end : Result ℕ IoFault) : Type 0 where
  pub outcome : Result ℕ IoFault
  pub is : ReadEnd tells before now (EndsLine (λ got. IsLine 10 got ⊎ ((got ≡ []) × AtEnd tells before now)) l back end)
      (StopsLine before now l back end) outcome

-- A poll of it.
abbrev pub ReadsLine : {T : Type 0} → Bool → ℕ → Reader → Reader → (T → List ℕ) → Lining → Step Lining (Result ℕ IoFault × T) → Type 0
ReadsLine tells task before now bytes l step =
    ReadPoll tells task before now l (λ end. LineEnd tells before now l (bytes end.1) end.0) (LineGoesOn l) step

-- Polls that aren't the end: the bytes that left the stream were added, and none of them is a newline.
abbrev pub HasLined : Bool → Reader → Reader → Lining → Lining → Type 0
HasLined tells before now l next = Gave tells before now (λ got. Lacks 10 got × (next ≡ lined l got))

-- How its polls end: with the bytes up to and with the newline, or all, where there is none; or at a fault.
pub record LineRunEnd (tells : Bool) (before now : Reader) (l : Lining) (back : List ℕ) (end : Result ℕ IoFault) : Type 0 where
  pub outcome : Result ℕ IoFault
  pub is : ReadRunEnd tells before now (EndsLine (λ got. IsWholeLine tells 10 got now.left) l back end) (StopsLine before now l back end)
      outcome
