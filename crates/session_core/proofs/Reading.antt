-- What was read of an input.
use Rattle.std.proofs.Common.{◌≡◌, ◌≤◌, ℕ, zero, suc, ◌+◌, Bool, IsTrue, List, [], ◌∷◌, ◌++◌, length, take, drop, refl, sym, ◌∙◌, ap, subst}
use Rattle.std.proofs.Common.{length-append, arith}
use Rattle.std.specs.List.{AllZip}
use Rattle.machine.specs.declared.ledger.Event.{Event}
use Rattle.session_core.specs.declared.input.NoEvents.{NoEvents}
use Rattle.event_text.specs.TextLines.{lines, IsFirstWrongFor}
use Rattle.session_core.specs.DriverKind.{DriverKind, StandsOn, completion, readiness}
use Rattle.session_core.specs.Top.{TookFew, WasRead, IsBadLine, NoLineWrong, unread, half_read, all_right}
use Rattle.session_core.specs.Reads.{IsAll, WhyNoEvents, WhyStopped, WhyUnread}
use Rattle.rent_io.specs.Call.{Took}
use Rattle.event_text.proofs.TextCuts.{drop-whole}
use Rattle.rent_io.proofs.Runs.{rose_later}

-- What was taken away, then what is left, is the list.
take-then-drop : (n : ℕ) (xs : List ℕ) → take n xs ++ drop n xs ≡ xs
take-then-drop zero xs = refl
take-then-drop (suc n) [] = refl
take-then-drop (suc n) (x ∷ xs) = ap (λ ys. x ∷ ys) (take-then-drop n xs)

-- What is dropped behind a prefix.
drop-behind : (xs ys : List ℕ) (n k : ℕ) → k ≡ length xs + n → drop k (xs ++ ys) ≡ drop n ys
drop-behind [] ys n k is = (let same : k ≡ n = omega arith in ap (λ m. drop m ys) same)
drop-behind (x ∷ xs) ys n zero is = absurd (omega arith)
drop-behind (x ∷ xs) ys n (suc k) is = drop-behind xs ys n k (omega arith)

-- What was taken behind a text that was read.
taken-behind : (text left rest all : List ℕ) (before n : ℕ) → before ≡ length text → Took left rest n → text ++ left ≡ all →
    (before + n ≤ length all) × (rest ≡ drop (before + n) all)
taken-behind text left rest all before n is took joined = (
  (let whole : length text + length left ≡ length all = sym (length-append text left) ∙ ap length joined in
      let there = took.there in omega arith),
  took.taken ∙ sym (drop-behind text left n (before + n) (omega arith)) ∙ ap (drop (before + n)) joined,
)

-- Why a later read stopped is why not all was read.
pub unread-later : (driver : DriverKind) (tells : Bool) (text left rest all : List ℕ) (before f g h : ℕ) (why : NoEvents) →
    before ≡ length text → f ≤ g →
    (IsTrue tells → g ≡ f) → (IsTrue tells → text ++ left ≡ all) →
    WhyStopped tells before left rest g h why → WhyUnread driver tells all rest f h why
unread-later driver tells text left rest all before f g h (NoEvents.BadLine n) is order calm joined why = why
unread-later driver tells text left rest all before f g h NoEvents.TooLong is order calm joined why = λ told.
    let stopped = why told in
    let took = taken-behind text left rest all before stopped.0 is stopped.2 (joined told) in
    record { count = before + stopped.0; many = stopped.1; there = took.0; taken = took.1 }
unread-later driver tells text left rest all before f g h NoEvents.Fault is order calm joined why = rose_later f g h order why
unread-later driver tells text left rest all before f g h NoEvents.OutOfMemory is order calm joined why = λ told.
    let stopped = why told in
    let took = taken-behind text left rest all before stopped.0 is stopped.3 (joined told) in
    record {
      few = record { count = before + stopped.0; few = stopped.1; taken = took.1 };
      lines = half_read (record { count = before + stopped.0; many = stopped.2; there = took.0; taken = took.1 });
      calm = stopped.4 ∙ calm told;
    }

-- Why a source gave no bytes is why it gave no events.
pub unread-events : (driver : DriverKind) (tells : Bool) (left rest : List ℕ) (faults later : ℕ) (why : NoEvents) →
    WhyUnread driver tells left rest faults later why → WhyNoEvents driver tells left rest faults later why
unread-events driver tells left rest faults later (NoEvents.BadLine n) why = absurd why
unread-events driver tells left rest faults later NoEvents.TooLong why = why
unread-events driver tells left rest faults later NoEvents.Fault why = why
unread-events driver tells left rest faults later NoEvents.OutOfMemory why = why

-- What was read as events is no more than the input may have.
pub few-read : (driver : DriverKind) (left rest : List ℕ) (events : List Event) → WasRead driver left rest events → TookFew left rest
few-read driver left rest events read = record { count = length left; few = read.within; taken = read.to_its_end ∙ sym (drop-whole left) }

-- An input whose lines stand for events was read as those.
pub was-read : (driver : DriverKind) (left rest text seen : List ℕ) (events : List Event) → IsAll left rest text → seen ≡ text →
    AllZip (StandsOn driver) (lines seen) events → WasRead driver left rest events
was-read driver left rest text seen events all same stand = record {
  within = (let within = all.within in let lengths = ap length all.all in omega arith);
  to_its_end = all.to_its_end;
  stand = subst (λ xs. AllZip (StandsOn driver) (lines xs) events) (same ∙ all.all) stand;
}

-- An input with a wrong line has that one.
pub was-wrong : (driver : DriverKind) (left rest text seen : List ℕ) (n : ℕ) → IsAll left rest text → seen ≡ text →
    IsFirstWrongFor (StandsOn driver) (lines seen) n → IsBadLine driver left rest n
was-wrong driver left rest text seen n all same wrong = record {
  within = (let within = all.within in let lengths = ap length all.all in omega arith);
  to_its_end = all.to_its_end;
  first = subst (λ xs. IsFirstWrongFor (StandsOn driver) (lines xs) n) (same ∙ all.all) wrong;
}

-- Events of the readiness driver are events.
some-zip : (all : List (List ℕ)) (events : List Event) → AllZip (StandsOn readiness) all events → AllZip (StandsOn completion) all events
some-zip [] [] stand = tt
some-zip [] (event ∷ events) stand = absurd stand
some-zip (line ∷ all) [] stand = absurd stand
some-zip (line ∷ all) (event ∷ events) stand = (stand.0.stands, some-zip all events stand.1)

-- So where no line is wrong for a driver, none is wrong for the completion driver.
pub never-wrong : (driver : DriverKind) (left rest : List ℕ) → NoLineWrong driver left rest → NoLineWrong completion left rest
never-wrong driver left rest (unread is) = unread is
never-wrong driver left rest (half_read took) = half_read took
never-wrong completion left rest (all_right events read) = all_right events read
never-wrong readiness left rest (all_right events read) =
    all_right events
    (record { within = read.within; to_its_end = read.to_its_end; stand = some-zip (lines left) events read.stand })
