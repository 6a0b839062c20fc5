-- The lines that are written of tasks. Cited by the functions of `output`.
use Rattle.std.specs.Prelude.{ℕ, List, [], ◌∷◌, ◌++◌, codes, decimal, Result, Ok, Err}
use Rattle.event_text.specs.TextWords.{bytes_word}
use Rattle.rent_buf.specs.declared.fault.IoFault.{IoFault}
use Rattle.rent_buf.specs.declared.fault.IoFault.TheVariants.{Os, UnexpectedEof, WriteZero, InvalidData, ReadFault, WriteFault, OutOfMemory}

-- The text of a fault.
abbrev pub fault_text : IoFault → List ℕ
fault_text (Os code) = codes "os error " ++ decimal code
fault_text UnexpectedEof = codes "failed to fill whole buffer"
fault_text WriteZero = codes "failed to write whole buffer"
fault_text InvalidData = codes "stream did not contain valid UTF-8"
fault_text ReadFault = codes "ReadFault"
fault_text WriteFault = codes "WriteFault"
fault_text OutOfMemory = codes "OutOfMemory"

-- What a task is done with: bytes, in hexadecimal digits, or a fault.
abbrev pub end_word : Result (List ℕ) IoFault → List ℕ
end_word (Ok bytes) = bytes_word bytes
end_word (Err fault) = codes "err " ++ fault_text fault

-- The line of a task that is done.
abbrev pub result_line : ℕ × Result (List ℕ) IoFault → List ℕ
result_line result = codes "task " ++ (decimal result.0 ++ (codes " " ++ (end_word result.1 ++ 10 ∷ [])))

-- The lines of tasks that are done.
abbrev pub result_lines : List (ℕ × Result (List ℕ) IoFault) → List ℕ
result_lines [] = []
result_lines (result ∷ results) = result_line result ++ result_lines results

-- The line of how many tasks are left.
abbrev pub left_line : ℕ → List ℕ
left_line left = codes "left " ++ (decimal left ++ 10 ∷ [])

-- The line of a wrong line's number.
abbrev pub wrong_line : ℕ → List ℕ
wrong_line number = codes "line " ++ (decimal number ++ 10 ∷ [])
