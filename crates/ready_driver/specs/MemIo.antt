-- Handles in memory as an object whose calls don't wait. Cited by `MemIo`.
use Rattle.std.specs.Prelude.{ℕ, Bool, true, List, [], length, Option, Some}
use Rattle.machine.specs.declared.world.HandleState.{HandleState}
use Rattle.machine.specs.Attempt.{is_file_at}
use Rattle.ready_driver.specs.Calling.{Called}
use Rattle.ready_driver.specs.Io.{IoView, CallsFor}
use Rattle.ready_driver.specs.Reports.{reports_of}

-- Handles in memory; by handle, the key with which it is registered, if it is; which handles are due, in the order in which they became so;
-- how often a call would have blocked, and ended with an error; how often it waited, but for waits that ran out of memory, and was asked to
-- close a handle; and the limit of the last wait.
pub record Memory : Type 0 where
  pub world : List HandleState
  pub keys : List (Option ℕ)
  pub due : List ℕ
  pub blocks : ℕ
  pub fails : ℕ
  pub waits : ℕ
  pub closes : ℕ
  pub limit : Option ℕ

-- As an object it never fails, made each of its handles, and reports each handle that is due.
abbrev pub memory_view : Memory → IoView
memory_view memory = record {
  faults = 0;
  blocks = memory.blocks;
  fails = memory.fails;
  last_fault = 0;
  waits = memory.waits;
  closes = memory.closes;
  made = length memory.world;
  world = memory.world;
  keys = memory.keys;
  due = memory.due;
  reports = reports_of memory.world memory.keys memory.due;
  limit = memory.limit;
}

-- A handle is a file.
abbrev pub memory_files : Memory → ℕ → Bool
memory_files memory h = is_file_at memory.world h

-- What its calls do.
abbrev pub memory_called : Called Memory
memory_called old request new now answer = CallsFor true true (memory_view old) request (memory_view new) now answer

-- No handles.
abbrev pub no_handles : Memory
no_handles = record { world = []; keys = []; due = []; blocks = 0; fails = 0; waits = 0; closes = 0; limit = Some 0 }
