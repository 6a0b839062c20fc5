-- The lines that were read so far, and the events that they stand for.
use Rattle.std.proofs.Common.{◌≡◌, ◌∙◌, ℕ, ◌+◌, List, [], ◌∷◌, ◌++◌, length, refl, ap, sym, subst, arith, append_assoc}
use Rattle.std.specs.Prelude.{Bool, Option, Some, None, Result, Ok, Err, IfOk, MatchOption}
use Rattle.std.proofs.lemmas.List.{append-nil}
use Rattle.std.specs.List.{AllZip}
use Rattle.machine.specs.declared.ledger.Event.{Event}
use Rattle.event_text.specs.TextEvent.{AreExternal, StandsForExternal, stands_for}
use Rattle.event_text.specs.TextEventReads.{event_of}
use Rattle.event_text.specs.TextLines.{lines, AreEventsFor, IsFirstWrongFor, IsWrong, Standing}
use Rattle.event_text.specs.TextLook.{line_end, line_of}
use Rattle.event_text.specs.TextReads.{words}
use Rattle.event_text.proofs.TextEvents.{read-stands, read-wrong}
use Rattle.event_text.proofs.TextLook.{line_of-whole}

-- The events so far stand for the lines in front of the rest.
pub record HaveRead (Stands : Standing) (text rest : List ℕ) (events : List Event) : Type 0 where
  pub read : List (List ℕ)
  pub split : lines text ≡ read ++ lines rest
  pub stand : AllZip Stands read events

-- At first no line was read.
pub have_read-none : (Stands : Standing) (text : List ℕ) → HaveRead Stands text text []
have_read-none Stands text = record { read = []; split = refl; stand = tt }

-- A line and its event join those that stand for each other.
zip-push : (Stands : Standing) (xs : List (List ℕ)) (ys : List Event) (x : List ℕ) (y : Event) → AllZip Stands xs ys → Stands x y
    → AllZip Stands (xs ++ x ∷ []) (ys ++ y ∷ [])
zip-push Stands [] [] x y all one = (one, tt)
zip-push Stands [] (z ∷ ys) x y all one = absurd all
zip-push Stands (w ∷ xs) [] x y all one = absurd all
zip-push Stands (w ∷ xs) (z ∷ ys) x y all one = (all.0, zip-push Stands xs ys x y all.1 one)

-- Lines that stand for events are as many.
zip-length : (Stands : Standing) (xs : List (List ℕ)) (ys : List Event) → AllZip Stands xs ys → length xs ≡ length ys
zip-length Stands [] [] all = refl
zip-length Stands [] (y ∷ ys) all = absurd all
zip-length Stands (x ∷ xs) [] all = absurd all
zip-length Stands (x ∷ xs) (y ∷ ys) all = let rest = zip-length Stands xs ys all.1 in omega (arith, rest)

-- One line more was read.
pub have_read-more : (Stands : Standing) (text rest line behind : List ℕ) (events more : List Event) (event : Event)
    → HaveRead Stands text rest events → lines rest ≡ line ∷ lines behind → Stands line event
    → more ≡ events ++ event ∷ [] → HaveRead Stands text behind more
have_read-more Stands text rest line behind events more event so_far first stands is =
    record {
      read = so_far.read ++ line ∷ [];
      split = so_far.split ∙ ap (λ (l : List (List ℕ)). so_far.read ++ l) first ∙ sym (append_assoc so_far.read (line ∷ []) (lines behind));
      stand = rw is (zip-push Stands so_far.read events line event so_far.stand stands);
    }

-- The next line is the first wrong one.
pub have_read-wrong : (Stands : Standing) (text rest line behind : List ℕ) (events : List Event) (n : ℕ)
    → HaveRead Stands text rest events → lines rest ≡ line ∷ lines behind → IsWrong Stands line → n ≡ length events
    → IsFirstWrongFor Stands (lines text) (n + 1)
have_read-wrong Stands text rest line behind events n so_far first wrong count =
    let read = zip-length Stands so_far.read events so_far.stand in
    record {
      before = so_far.read;
      events = events;
      line = line;
      behind = lines behind;
      split = so_far.split ∙ ap (λ (l : List (List ℕ)). so_far.read ++ l) first;
      number = omega (arith, read);
      right = so_far.stand;
      wrong = wrong;
    }

-- All lines were read.
pub have_read-all : (Stands : Standing) (text rest : List ℕ) (events : List Event) → HaveRead Stands text rest events → length rest ≡ 0
    → AllZip Stands (lines text) events
have_read-all Stands text [] events so_far end = rw (so_far.split, append-nil so_far.read) so_far.stand
have_read-all Stands text (byte ∷ rest) events so_far end = absurd (omega arith)

-- The first line stands for this event, and these lines are behind it.
pub record IsFirstEvent (Stands : Standing) (all : List (List ℕ)) (event : Event) (behind : List (List ℕ)) : Type 0 where
  pub line : List ℕ
  pub split : all ≡ line ∷ behind
  pub stands : Stands line event

-- The first of lines that each stand for an event is no wrong one.
pub right-first : (Stands : Standing) (all behind : List (List ℕ)) (line : List ℕ) → AreEventsFor Stands all → all ≡ line ∷ behind
    → IsWrong Stands line → ⊥
right-first Stands [] behind line right is wrong = (let f : ⊥ = cc in f)
right-first Stands (first ∷ more) behind line right is wrong = by right.events right.stand
  where
    by : (events : List Event) → AllZip Stands (first ∷ more) events → ⊥
    by [] none = none
    by (event ∷ events) stand =
        let same : first ≡ line = cc in
        wrong event (subst (λ (l : List ℕ). Stands l event) same stand.0)

-- Those behind it stand for events, too.
pub right-behind : (Stands : Standing) (all behind : List (List ℕ)) (line : List ℕ) → AreEventsFor Stands all → all ≡ line ∷ behind
    → AreEventsFor Stands behind
right-behind Stands [] behind line right is = (let f : ⊥ = cc in absurd f)
right-behind Stands (first ∷ more) behind line right is = by right.events right.stand
  where
    by : (events : List Event) → AllZip Stands (first ∷ more) events → AreEventsFor Stands behind
    by [] none = absurd none
    by (event ∷ events) stand =
        let same : more ≡ behind = cc in
        record { events = events; stand = subst (λ (all : List (List ℕ)). AllZip Stands all events) same stand.1 }

-- Lines that stand for external events stand for nothing else.
pub zip-external : (xs : List (List ℕ)) (events : List Event) → AllZip StandsForExternal xs events → AreExternal events
zip-external [] [] all = tt
zip-external [] (event ∷ events) all = absurd all
zip-external (x ∷ xs) [] all = tt
zip-external (x ∷ xs) (event ∷ events) all = (all.0.external, zip-external xs events all.1)

-- What a line is read as, it stands for.
line-read : (x : Bool) (line : List ℕ) (o : Option Event) → line_end line ≡ [] → o ≡ event_of x (words (line_of line))
    → MatchOption o (IsWrong (stands_for x) line) (stands_for x line)
line-read x line None one is = read-wrong x line (ap (λ l. event_of x (words l)) (sym (line_of-whole line one)) ∙ sym is)
line-read x line (Some event) one is = read-stands x line event (ap (λ l. event_of x (words l)) (sym (line_of-whole line one)) ∙ sym is)

-- So it does where memory may run out.
pub ok-read : {E : Type 0} (x : Bool) (line : List ℕ) (result : Result (Option Event) E) → line_end line ≡ []
    → IfOk result (λ event. event ≡ event_of x (words (line_of line)))
    → IfOk result (λ event. MatchOption event (IsWrong (stands_for x) line) (stands_for x line))
ok-read x line (Ok event) one is = line-read x line event one is
ok-read x line (Err short) one is = tt
