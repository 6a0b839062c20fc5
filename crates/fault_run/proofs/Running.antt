-- How far a run is behind each of its steps.
use Rattle.std.proofs.Common.{◌≡◌, ◌∙◌, ℕ, ◌+◌, ◌<◌, ◌≤◌, Bool, IsTrue, List, [], ◌∷◌, ◌++◌, length, refl, ap, sym, subst}
use Rattle.std.proofs.Common.{arith, add-zero, add_assoc, append-nil, append_assoc, length-append}
use Rattle.std.specs.List.{AllZip}
use Rattle.machine.specs.Counts.{Rose}
use Rattle.rent_io.proofs.Runs.{rose_later}
use Rattle.event_text.specs.TextLines.{lines}
use Rattle.event_text.specs.TextLook.{line_end}
use Rattle.fault_run.specs.declared.answer.Answer.{Answer}
use Rattle.fault_run.specs.declared.line.Line.{Line}
use Rattle.fault_run.specs.declared.run.Ending.{Ending}
use Rattle.fault_run.specs.declared.run.Ending.TheVariants.{Done, BadLine, TooLong, ReadFault, WriteFault, OutOfMemory}
use Rattle.fault_run.specs.declared.session.FaultSession.{FaultSession}
use Rattle.fault_run.specs.Lines.{Says, SaysNothing}
use Rattle.fault_run.specs.Runs.{Answered, AreFirst, IsWrongBehind, of_answers, of_wrong, RanAll, RanSome, RanUnwritten}
use Rattle.fault_run.specs.Running.{AnswersLine, AnswersLines, EndsAtLine, EndsLast, FlushEnds, Running, StopsAtLine}
use Rattle.fault_run.specs.Running.{StopsInLines, StopsLast}
use Rattle.fault_run.specs.Steps.{Steps, StepsEach}
use Rattle.fault_run.specs.Texts.{answer_lines, answer_text, bad_line_text, ended}
use Rattle.fault_run.specs.Writes.{Untouched, Wrote, WroteFirst}
use Rattle.fault_run.proofs.Cutting.{whole-line}

-- At first nothing was answered.
pub begins : (ts tk : Bool) (session : FaultSession) (left taken : List ℕ) → Running ts tk session left taken session 0 left taken
begins ts tk session left taken = record {
  said = [];
  answers = [];
  steps = refl;
  counted = refl;
  read = λ told. record { before = []; split = refl; says = tt };
  written = λ told. sym (append-nil taken);
}

-- One line more was answered.
steps-more : (first : FaultSession) (said : List Line) (answers : List Answer) (mid : FaultSession) (line : Line) (answer : Answer)
    (new : FaultSession) → StepsEach first said answers mid → Steps mid line answer new →
    StepsEach first (said ++ line ∷ []) (answers ++ answer ∷ []) new
steps-more first [] [] mid line answer new steps one = (new, subst (λ s. Steps s line answer new) steps one, refl)
steps-more first [] (x ∷ answers) mid line answer new steps one = absurd steps
steps-more first (x ∷ said) [] mid line answer new steps one = absurd steps
steps-more first (x ∷ said) (y ∷ answers) mid line answer new steps one =
    (steps.0, steps.1, steps-more steps.0 said answers mid line answer new steps.2 one)

-- A line and what it says join those before.
says-more : (before : List (List ℕ)) (said : List Line) (text : List ℕ) (line : Line) → AllZip Says before said → Says text line →
    AllZip Says (before ++ text ∷ []) (said ++ line ∷ [])
says-more [] [] text line all one = (one, tt)
says-more [] (y ∷ said) text line all one = absurd all
says-more (x ∷ before) [] text line all one = absurd all
says-more (x ∷ before) (y ∷ said) text line all one = (all.0, says-more before said text line all.1 one)

-- The texts of answers, and of one more.
lines-more : (answers : List Answer) (answer : Answer) →
    answer_lines (answers ++ answer ∷ []) ≡ answer_lines answers ++ ended (answer_text answer)
lines-more [] answer = append-nil (ended (answer_text answer))
lines-more (x ∷ answers) answer =
    ap (λ xs. ended (answer_text x) ++ xs) (lines-more answers answer)
    ∙ sym (append_assoc (ended (answer_text x)) (answer_lines answers) (ended (answer_text answer)))

-- The first lines of an input, and the next one.
first-more : (left : List ℕ) (said : List Line) (text : List ℕ) (behind : List (List ℕ)) (line : Line) →
    AreFirst left said (text ∷ behind) → Says text line → AreFirst left (said ++ line ∷ []) behind
first-more left said text behind line first says = record {
  before = first.before ++ text ∷ [];
  split = first.split ∙ sym (append_assoc first.before (text ∷ []) behind);
  says = says-more first.before said text line first.says says;
}

-- The first lines of an input, where the rest is cut.
first-cut : (left : List ℕ) (said : List Line) (rest behind : List (List ℕ)) → rest ≡ behind → AreFirst left said rest →
    AreFirst left said behind
first-cut left said rest behind is first = subst (λ ls. AreFirst left said ls) is first

-- What a run has answered so far.
so-far : (ts tk : Bool) (first : FaultSession) (left before : List ℕ) (session : FaultSession) (ran : ℕ) (rest now : List ℕ)
    (running : Running ts tk first left before session ran rest now) → Answered first running.said running.answers
so-far ts tk first left before session ran rest now running = record { last = session; steps = running.steps }

-- A line that was answered, and whose answer was written.
pub answers-line : (tk : Bool) (old : FaultSession) (ran : ℕ) (text taken : List ℕ) (new : FaultSession) (now : List ℕ) (line : Line)
    (answer : Answer) (faults later : ℕ) → Says text line → Steps old line answer new →
    Wrote tk (ended (answer_text answer)) taken now faults later → AnswersLine tk old ran text taken new now
answers-line tk old ran text taken new now line answer faults later says step wrote = λ ts first left before rest behind split running.
    record {
      said = running.said ++ line ∷ [];
      answers = running.answers ++ answer ∷ [];
      steps = steps-more first running.said running.answers old line answer new running.steps step;
      counted = (let counted = running.counted in
          let one = length-append running.said (line ∷ []) in omega arith);
      read = λ told.
          first-more left running.said text (lines behind) line
          (first-cut left running.said (lines rest) (text ∷ lines behind) split (running.read told)) says;
      written = λ told.
          wrote.all told ∙ ap (λ xs. xs ++ ended (answer_text answer)) (running.written told)
          ∙ append_assoc before (answer_lines running.answers) (ended (answer_text answer))
          ∙ ap (λ xs. before ++ xs) (sym (lines-more running.answers answer));
    }

-- What was answered so far is what was answered at the end.
some-of : (ts tk : Bool) (first : FaultSession) (left before : List ℕ) (session : FaultSession) (ran : ℕ) (rest taken now : List ℕ) →
    Running ts tk first left before session ran rest taken → (IsTrue tk → now ≡ taken) → RanSome ts tk first left before now ran
some-of ts tk first left before session ran rest taken now running same = record {
  said = running.said;
  answers = running.answers;
  answered = so-far ts tk first left before session ran rest taken running;
  counted = running.counted;
  read = λ told. (lines rest, running.read told);
  written = λ told. same told ∙ running.written told;
}

-- The same, where nothing was written since.
pub some-so-far : (ts tk : Bool) (first : FaultSession) (left before : List ℕ) (session : FaultSession) (ran : ℕ) (rest now : List ℕ) →
    Running ts tk first left before session ran rest now → RanSome ts tk first left before now ran
some-so-far ts tk first left before session ran rest now running =
    some-of ts tk first left before session ran rest now now running (λ told. refl)

-- Memory ran out at a line, and nothing was written.
pub stops-short : (tk : Bool) (old : FaultSession) (ran : ℕ) (text taken now : List ℕ) (faults later : ℕ) (flushed : Bool) →
    Untouched tk taken now faults later → StopsAtLine tk old ran text taken now faults later flushed (OutOfMemory ran)
stops-short tk old ran text taken now faults later flushed untouched = λ ts first left before rest behind split running.
    (untouched.calm, some-of ts tk first left before old ran rest taken now running untouched.nothing)

-- The first bytes of a text behind another that was written whole.
wrote-behind : (front text before taken now : List ℕ) → taken ≡ before ++ front → WroteFirst text taken now →
    WroteFirst (front ++ text) before now
wrote-behind front text before taken now is wrote = record {
  written = front ++ wrote.written;
  rest = wrote.rest;
  text_is = ap (λ xs. front ++ xs) wrote.text_is ∙ sym (append_assoc front wrote.written wrote.rest);
  now_is = wrote.now_is ∙ ap (λ xs. xs ++ wrote.written) is ∙ append_assoc before front wrote.written;
}

-- The sink failed at an answer.
pub stops-unwritten : (tk : Bool) (old : FaultSession) (ran : ℕ) (text taken now : List ℕ) (new : FaultSession) (faults later : ℕ)
    (flushed : Bool) (line : Line) (answer : Answer) → Says text line → Steps old line answer new →
    Rose faults later × (IsTrue tk → WroteFirst (ended (answer_text answer)) taken now) →
    StopsAtLine tk old ran text taken now faults later flushed WriteFault
stops-unwritten tk old ran text taken now new faults later flushed line answer says step failed =
    λ ts first left before rest behind split running. (
      failed.0,
      record {
        said = running.said ++ line ∷ [];
        answers = running.answers ++ answer ∷ [];
        answered = record {
          last = new;
          steps = steps-more first running.said running.answers old line answer new running.steps step;
        };
        more = [];
        ends = of_answers (λ told. (
          lines behind,
          first-more left running.said text (lines behind) line
              (first-cut left running.said (lines rest) (text ∷ lines behind) split (running.read told)) says,
        ));
        written = λ told.
            subst (λ xs. WroteFirst xs before now)
            (sym (lines-more running.answers answer) ∙ sym (append-nil (answer_lines (running.answers ++ answer ∷ []))))
            (wrote-behind (answer_lines running.answers) (ended (answer_text answer)) before taken now (running.written told)
            (failed.1 told));
      },
    )

-- The line behind those that were answered stands for nothing.
wrong-behind : (ts tk : Bool) (first : FaultSession) (left before : List ℕ) (session : FaultSession) (ran : ℕ) (rest taken : List ℕ)
    (text : List ℕ) (behind : List ℕ) (running : Running ts tk first left before session ran rest taken) →
    lines rest ≡ text ∷ lines behind → SaysNothing text → IsTrue ts → IsWrongBehind left running.said text
wrong-behind ts tk first left before session ran rest taken text behind running split wrong told = record {
  behind = lines behind;
  first = first-cut left running.said (lines rest) (text ∷ lines behind) split (running.read told);
  wrong = wrong;
}

-- A wrong line's number was written.
pub stops-wrong : (tk : Bool) (old : FaultSession) (ran : ℕ) (text taken now : List ℕ) (faults later : ℕ) (flushed : Bool) →
    SaysNothing text → Wrote tk (bad_line_text (ran + 1)) taken now faults later → IsTrue flushed →
    StopsAtLine tk old ran text taken now faults later flushed (BadLine (ran + 1) text)
stops-wrong tk old ran text taken now faults later flushed wrong wrote is_flushed = λ ts first left before rest behind split running. (
  is_flushed,
  record {
    said = running.said;
    answers = running.answers;
    answered = so-far ts tk first left before old ran rest taken running;
    counted = ap (λ n. n + 1) running.counted;
    read = wrong-behind ts tk first left before old ran rest taken text behind running split wrong;
    written = λ told.
        wrote.all told ∙ ap (λ xs. xs ++ bad_line_text (ran + 1)) (running.written told)
        ∙ append_assoc before (answer_lines running.answers) (bad_line_text (ran + 1));
  },
)

-- The sink failed at a wrong line's number.
pub stops-wrong_unwritten : (tk : Bool) (old : FaultSession) (ran : ℕ) (text taken now : List ℕ) (faults later : ℕ) (flushed : Bool) →
    SaysNothing text → Rose faults later × (IsTrue tk → WroteFirst (bad_line_text (ran + 1)) taken now) →
    StopsAtLine tk old ran text taken now faults later flushed WriteFault
stops-wrong_unwritten tk old ran text taken now faults later flushed wrong failed = λ ts first left before rest behind split running. (
  failed.0,
  record {
    said = running.said;
    answers = running.answers;
    answered = so-far ts tk first left before old ran rest taken running;
    more = bad_line_text (ran + 1);
    ends = of_wrong (ran + 1) text (ap (λ n. n + 1) running.counted)
        (wrong-behind ts tk first left before old ran rest taken text behind running split wrong);
    written = λ told.
        wrote-behind (answer_lines running.answers) (bad_line_text (ran + 1)) before taken now (running.written told) (failed.1 told);
  },
)

-- How a run ended is told by the faults since an earlier moment, too.
ends-since : (ts tk : Bool) (first : FaultSession) (left before now : List ℕ) (faults mid later : ℕ) (flushed : Bool) (ending : Ending) →
    faults ≤ mid → (IsTrue tk → mid ≡ faults) → EndsAtLine ts tk first left before now mid later flushed ending →
    EndsAtLine ts tk first left before now faults later flushed ending
ends-since ts tk first left before now faults mid later flushed Done order calm ends = ends
ends-since ts tk first left before now faults mid later flushed (BadLine number text) order calm ends = ends
ends-since ts tk first left before now faults mid later flushed TooLong order calm ends = ends
ends-since ts tk first left before now faults mid later flushed ReadFault order calm ends = ends
ends-since ts tk first left before now faults mid later flushed WriteFault order calm ends =
    (rose_later faults mid later order ends.0, ends.1)
ends-since ts tk first left before now faults mid later flushed (OutOfMemory count) order calm ends =
    (λ told. ends.0 told ∙ calm told, ends.1)

-- No line of a text was answered yet.
pub lines-none : (tk : Bool) (old : FaultSession) (ran : ℕ) (text taken : List ℕ) → AnswersLines tk old ran text taken old 0 text taken
lines-none tk old ran text taken = λ ts first left before more running.
    subst (λ n. Running ts tk first left before old n (text ++ more) taken) (sym (add-zero ran)) running

-- One line more of a text was answered.
pub lines-next : (tk : Bool) (old mid new : FaultSession) (ran count : ℕ) (text taken rest line behind between now : List ℕ) →
    AnswersLines tk old ran text taken mid count rest between →
    ((more : List ℕ) → lines (rest ++ more) ≡ line ∷ lines (behind ++ more)) →
    AnswersLine tk mid (ran + count) line between new now → AnswersLines tk old ran text taken new (count + 1) behind now
lines-next tk old mid new ran count text taken rest line behind between now so_far split one = λ ts first left before more running.
    subst (λ n. Running ts tk first left before new n (behind ++ more) now) (add_assoc ran count 1)
    (one ts first left before (rest ++ more) (behind ++ more) (split more) (so_far ts first left before more running))

-- A run ended at a line of a text.
pub lines-stop : (tk : Bool) (old mid : FaultSession) (ran count : ℕ) (text taken rest line behind between now : List ℕ)
    (faults half later : ℕ) (flushed : Bool) (ending : Ending) → AnswersLines tk old ran text taken mid count rest between →
    ((more : List ℕ) → lines (rest ++ more) ≡ line ∷ lines (behind ++ more)) → faults ≤ half → (IsTrue tk → half ≡ faults) →
    StopsAtLine tk mid (ran + count) line between now half later flushed ending →
    StopsInLines tk old ran text taken now faults later flushed ending
lines-stop tk old mid ran count text taken rest line behind between now faults half later flushed ending so_far split order calm stops =
    λ ts first left before more running.
    ends-since ts tk first left before now faults half later flushed ending order calm
    (stops ts first left before (rest ++ more) (behind ++ more) (split more) (so_far ts first left before more running))

-- What a run ended at is how it ended behind its last line.
last-of : (ts tk : Bool) (first : FaultSession) (left before now : List ℕ) (faults later : ℕ) (flushed : Bool) (ending : Ending) →
    EndsAtLine ts tk first left before now faults later flushed ending → EndsLast ts tk first left before now faults later flushed ending
last-of ts tk first left before now faults later flushed Done ends = absurd ends
last-of ts tk first left before now faults later flushed (BadLine number text) ends = ends
last-of ts tk first left before now faults later flushed TooLong ends = ends
last-of ts tk first left before now faults later flushed ReadFault ends = ends
last-of ts tk first left before now faults later flushed WriteFault ends = ends
last-of ts tk first left before now faults later flushed (OutOfMemory count) ends = ends

-- The run ended at its last line.
pub last-stop : (tk : Bool) (old : FaultSession) (ran : ℕ) (text taken now : List ℕ) (faults later : ℕ) (flushed : Bool) (ending : Ending) →
    line_end text ≡ [] → 0 < length text → StopsAtLine tk old ran text taken now faults later flushed ending →
    StopsLast tk old ran text taken now faults later flushed ending
last-stop tk old ran text taken now faults later flushed ending none some stops = λ ts first left before running.
    last-of ts tk first left before now faults later flushed ending
    (stops ts first left before text [] (whole-line text none some) running)

-- All lines were answered, where nothing is left.
all-of : (ts tk : Bool) (first : FaultSession) (left before : List ℕ) (session : FaultSession) (ran : ℕ) (taken now : List ℕ) →
    Running ts tk first left before session ran [] taken → (IsTrue tk → now ≡ taken) → RanAll ts tk first left before now
all-of ts tk first left before session ran taken now running same = record {
  said = running.said;
  answers = running.answers;
  answered = so-far ts tk first left before session ran [] taken running;
  read = running.read;
  written = λ told. same told ∙ running.written told;
}

-- The sink failed to flush: all answers were written.
unflushed : (ts tk : Bool) (first : FaultSession) (left before : List ℕ) (session : FaultSession) (ran : ℕ) (rest taken now : List ℕ) →
    Running ts tk first left before session ran rest taken → (IsTrue tk → now ≡ taken) → RanUnwritten ts tk first left before now
unflushed ts tk first left before session ran rest taken now running same = record {
  said = running.said;
  answers = running.answers;
  answered = so-far ts tk first left before session ran rest taken running;
  more = [];
  ends = of_answers (λ told. (lines rest, running.read told));
  written = λ told. record {
    written = answer_lines running.answers;
    rest = [];
    text_is = refl;
    now_is = same told ∙ running.written told;
  };
}

-- How a run ends that has answered all lines, by how its flush did.
flushed-last : (ts tk : Bool) (first : FaultSession) (left before : List ℕ) (session : FaultSession) (ran : ℕ) (taken now : List ℕ)
    (faults half later : ℕ) (flushed : Bool) (ending : Ending) → Running ts tk first left before session ran [] taken → faults ≤ half →
    FlushEnds tk taken now half later flushed ending → EndsLast ts tk first left before now faults later flushed ending
flushed-last ts tk first left before session ran taken now faults half later flushed Done running order ends =
    (ends.0, all-of ts tk first left before session ran taken now running ends.1)
flushed-last ts tk first left before session ran taken now faults half later flushed (BadLine number text) running order ends = absurd ends
flushed-last ts tk first left before session ran taken now faults half later flushed TooLong running order ends = absurd ends
flushed-last ts tk first left before session ran taken now faults half later flushed ReadFault running order ends = absurd ends
flushed-last ts tk first left before session ran taken now faults half later flushed WriteFault running order ends =
    (rose_later faults half later order ends.0, unflushed ts tk first left before session ran [] taken now running ends.1)
flushed-last ts tk first left before session ran taken now faults half later flushed (OutOfMemory count) running order ends = absurd ends

-- So it is where nothing was left,
pub last-none : (tk : Bool) (old : FaultSession) (ran : ℕ) (text taken now : List ℕ) (faults later : ℕ) (flushed : Bool) (ending : Ending) →
    text ≡ [] → FlushEnds tk taken now faults later flushed ending → StopsLast tk old ran text taken now faults later flushed ending
last-none tk old ran text taken now faults later flushed ending none ends = λ ts first left before running.
    flushed-last ts tk first left before old ran taken now faults faults later flushed ending
    (subst (λ xs. Running ts tk first left before old ran xs taken) none running) (omega arith) ends

-- .. and where the last line was answered.
pub last-one : (tk : Bool) (old new : FaultSession) (ran : ℕ) (text taken between now : List ℕ) (faults half later : ℕ) (flushed : Bool)
    (ending : Ending) → line_end text ≡ [] → 0 < length text → AnswersLine tk old ran text taken new between → faults ≤ half →
    FlushEnds tk between now half later flushed ending → StopsLast tk old ran text taken now faults later flushed ending
last-one tk old new ran text taken between now faults half later flushed ending none some one order ends = λ ts first left before running.
    flushed-last ts tk first left before new (ran + 1) between now faults half later flushed ending
    (one ts first left before text [] (whole-line text none some) running) order ends
