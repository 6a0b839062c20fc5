-- What a run gives whose replies come line by line.
use Rattle.std.proofs.Common.{◌≡◌, ◌∙◌, inl, ℕ, ◌+◌, ◌≤◌, Bool, IsTrue, List, [], ◌∷◌, length, Option, None, refl, append-nil, sym, subst, arith}
use Rattle.std.specs.Prelude.{Result, Ok, Err, IfErr, OnOk}
use Rattle.machine.specs.Ledger.{Ledger}
use Rattle.rent_io.specs.Call.{Reading, Took, Writing}
use Rattle.rent_io.proofs.Runs.{rose_later}
use Rattle.session_core.specs.declared.input.TheConstants.{MOST_INPUT}
use Rattle.session_core.specs.declared.session.Session.{Session}
use Rattle.session_core.specs.declared.top.Status.{Status}
use Rattle.session_core.specs.declared.top.Status.TheVariants.{Done, BadWords, BadLine, TooLong}
use Rattle.session_core.specs.declared.top.Status.TheVariants.{ReadFault, WriteFault, OutOfMemory, NetFault, BadFrame}
use Rattle.session_core.specs.declared.top.Stop.{Stop}
use Rattle.session_core.specs.Session.{SessionStands}
use Rattle.machine.specs.Run.{replies}
use Rattle.session_core.specs.Top.{reply_lines}
use Rattle.live_run.specs.Live.{LiveGives, RanFirst, RanUnwritten, of_lines}
use Rattle.live_run.specs.Living.{AllRan, AreBehind, FinishGives, LiveAt, SinkStops, StoppedAtLine, WhyNoMore}
use Rattle.live_run.proofs.Living.{all-ran, first-lines}
use Rattle.live_run.proofs.Taking.{took-both}

-- At first no line has run.
pub live-none : (ts tk : Bool) (L : Ledger) (all rest : List ℕ) (session : Session) (taken : List ℕ) → rest ≡ all →
    SessionStands session L → LiveAt ts tk L all rest session taken taken 0
live-none ts tk L all rest session taken same stands = record {
  events = [];
  count = refl;
  read = λ told. subst (λ (xs : List ℕ). AreBehind all xs []) (sym same) (record { before = []; split = refl; stand = tt });
  stands = stands;
  written = λ told. sym (append-nil taken);
}

-- What is left may be said otherwise, where the source tells it.
pub live-moved : (ts tk : Bool) (L : Ledger) (all rest other : List ℕ) (session : Session) (taken now : List ℕ) (ran : ℕ) →
    LiveAt ts tk L all rest session taken now ran → (IsTrue ts → other ≡ rest) → LiveAt ts tk L all other session taken now ran
live-moved ts tk L all rest other session taken now ran at same = record {
  events = at.events;
  count = at.count;
  read = λ told. subst (λ (xs : List ℕ). AreBehind all xs at.events) (sym (same told)) (at.read told);
  stands = at.stands;
  written = at.written;
}

-- The first lines ran.
first-ran : (ts tk : Bool) (L : Ledger) (all rest : List ℕ) (session : Session) (taken now : List ℕ) (ran : ℕ)
    (at : LiveAt ts tk L all rest session taken now ran) → RanFirst ts tk L all taken now at.events
first-ran ts tk L all rest session taken now ran at =
    record { ran = λ told. first-lines all rest at.events (at.read told); written = at.written }

-- A read gave none behind the first lines.
pub unread-gives : (ts tk : Bool) (L : Ledger) (all left rest text : List ℕ) (session : Session) (taken now : List ℕ)
    (ran count f g h p q : ℕ) (flushed : Bool) (stop : Option Stop) (status : Status) →
    LiveAt ts tk L all text session taken now ran → (IsTrue ts → Took all left count) → f ≤ g → (IsTrue ts → g ≡ f) →
    (IsTrue tk → q ≡ p) → stop ≡ None →
    WhyNoMore ts count (record { left = left; rest = rest; faults = g; later = h }) status →
    LiveGives ts tk L (record { left = all; rest = rest; faults = f; later = h })
    (record { taken = taken; now = now; faults = p; later = q; flushed = flushed }) stop (Err status)
unread-gives ts tk L all left rest text session taken now ran count f g h p q flushed stop Done at took order calm still none why =
    absurd why
unread-gives ts tk L all left rest text session taken now ran count f g h p q flushed stop BadWords at took order calm still none why =
    absurd why
unread-gives ts tk L all left rest text session taken now ran count f g h p q flushed stop BadLine at took order calm still none why =
    absurd why
unread-gives ts tk L all left rest text session taken now ran count f g h p q flushed stop TooLong at took order calm still none why = (
  λ told.
      let more = why told in
      let both = took-both all left rest count more.0 (took told) more.2 in
      record { count = count + more.0; many = more.1; there = both.there; taken = both.taken },
  record { events = at.events; ran = first-ran ts tk L all text session taken now ran at },
  none,
)
unread-gives ts tk L all left rest text session taken now ran count f g h p q flushed stop ReadFault at took order calm still none why = (
  rose_later f g h order why,
  record { events = at.events; ran = first-ran ts tk L all text session taken now ran at },
  none,
)
unread-gives ts tk L all left rest text session taken now ran count f g h p q flushed stop WriteFault at took order calm still none why =
    absurd why
unread-gives ts tk L all left rest text session taken now ran count f g h p q flushed stop OutOfMemory at took order calm still none why = (
  record { read = λ told. why told ∙ calm told; wrote = still },
  record { events = at.events; ran = first-ran ts tk L all text session taken now ran at; named = inl none },
)
unread-gives ts tk L all left rest text session taken now ran count f g h p q flushed stop NetFault at took order calm still none why =
    absurd why
unread-gives ts tk L all left rest text session taken now ran count f g h p q flushed stop BadFrame at took order calm still none why =
    absurd why

-- The run ended at a line.
pub stop-gives : (ts tk : Bool) (L : Ledger) (source : Reading) (taken mid now : List ℕ) (p q r : ℕ) (flushed : Bool) (stop : Option Stop)
    (status : Status) → StoppedAtLine ts tk L source.left taken now stop status → (IsTrue ts → source.later ≡ source.faults) →
    p ≤ q → (IsTrue tk → q ≡ p) →
    SinkStops tk (record { taken = mid; now = now; faults = q; later = r; flushed = flushed }) status →
    LiveGives ts tk L source (record { taken = taken; now = now; faults = p; later = r; flushed = flushed }) stop (Err status)
stop-gives ts tk L source taken mid now p q r flushed stop Done stops read order calm why = absurd stops
stop-gives ts tk L source taken mid now p q r flushed stop BadWords stops read order calm why = absurd stops
stop-gives ts tk L source taken mid now p q r flushed stop BadLine stops read order calm why = (stops, why)
stop-gives ts tk L source taken mid now p q r flushed stop TooLong stops read order calm why = absurd stops
stop-gives ts tk L source taken mid now p q r flushed stop ReadFault stops read order calm why = absurd stops
stop-gives ts tk L source taken mid now p q r flushed stop WriteFault stops read order calm why = (rose_later p q r order why, stops)
stop-gives ts tk L source taken mid now p q r flushed stop OutOfMemory stops read order calm why =
    (record { read = read; wrote = λ told. why told ∙ calm told }, stops)
stop-gives ts tk L source taken mid now p q r flushed stop NetFault stops read order calm why = absurd stops
stop-gives ts tk L source taken mid now p q r flushed stop BadFrame stops read order calm why = absurd stops

-- All was read, and all lines have run.
pub all-gives : (ts tk : Bool) (L : Ledger) (source : Reading) (sink : Writing) (session : Session) (stop : Option Stop) →
    AllRan ts tk L source.left session sink.taken sink.now → (IsTrue ts → source.rest ≡ []) →
    (IsTrue ts → length source.left ≤ MOST_INPUT) → IsTrue sink.flushed → stop ≡ None → LiveGives ts tk L source sink stop (Ok session)
all-gives ts tk L source sink session stop ran end within flushed none = (
  record {
    events = ran.events;
    read = λ told. record { within = within told; to_its_end = end told; stand = ran.stand told };
    written = ran.written;
    kept = ran.stands;
  },
  flushed,
  none,
)

-- Why a later call ended the run is why the run ended.
pub stops-later : (tk : Bool) (taken mid now : List ℕ) (p q r : ℕ) (flushed : Bool) (status : Status) → p ≤ q → (IsTrue tk → q ≡ p) →
    SinkStops tk (record { taken = mid; now = now; faults = q; later = r; flushed = flushed }) status →
    SinkStops tk (record { taken = taken; now = now; faults = p; later = r; flushed = flushed }) status
stops-later tk taken mid now p q r flushed Done order calm why = absurd why
stops-later tk taken mid now p q r flushed BadWords order calm why = absurd why
stops-later tk taken mid now p q r flushed BadLine order calm why = why
stops-later tk taken mid now p q r flushed TooLong order calm why = absurd why
stops-later tk taken mid now p q r flushed ReadFault order calm why = absurd why
stops-later tk taken mid now p q r flushed WriteFault order calm why = rose_later p q r order why
stops-later tk taken mid now p q r flushed OutOfMemory order calm why = λ told. why told ∙ calm told
stops-later tk taken mid now p q r flushed NetFault order calm why = absurd why
stops-later tk taken mid now p q r flushed BadFrame order calm why = absurd why

-- A flush that fails behind the last line leaves the replies to the first ones written.
pub flush-stops : (ts tk : Bool) (L : Ledger) (all rest : List ℕ) (session : Session) (taken now later : List ℕ) (ran : ℕ) →
    LiveAt ts tk L all rest session taken now ran → (IsTrue tk → later ≡ now) → RanUnwritten ts tk L all taken later
flush-stops ts tk L all rest session taken now later ran at same = record {
  text = reply_lines (replies L at.events);
  may = of_lines at.events (λ told. first-lines all rest at.events (at.read told));
  prefix = λ told. record {
    prefix = reply_lines (replies L at.events);
    starts = record { more = []; is = sym (append-nil (reply_lines (replies L at.events))) };
    written = same told ∙ at.written told;
  };
}

-- The run of the last line gives what the run gives.
pub finish-gives : (ts tk : Bool) (L : Ledger) (source : Reading) (taken now later : List ℕ) (p q r : ℕ) (flushed : Bool)
    (stop : Option Stop) (text : List ℕ) (session : Session) (ran : ℕ) (result : Result Session Status) →
    LiveAt ts tk L source.left text session taken now ran → FinishGives tk text session now later ran stop result →
    OnOk result (stop ≡ None) → OnOk result (IsTrue flushed) →
    IfErr result (SinkStops tk (record { taken = now; now = later; faults = q; later = r; flushed = flushed })) →
    (IsTrue ts → source.rest ≡ []) → (IsTrue ts → length source.left ≤ MOST_INPUT) → (IsTrue ts → source.later ≡ source.faults) →
    p ≤ q → (IsTrue tk → q ≡ p) →
    LiveGives ts tk L source (record { taken = taken; now = later; faults = p; later = r; flushed = flushed }) stop result
finish-gives ts tk L source taken now later p q r flushed stop text session ran (Ok new) at gives none done why end within read order calm =
    all-gives ts tk L source (record { taken = taken; now = later; faults = p; later = r; flushed = flushed }) new stop
    (gives ts L source.left taken at) end within done none
finish-gives ts tk L source taken now later p q r flushed stop text session ran (Err status) at gives none done why end within read order
    calm = stop-gives ts tk L source taken now later p q r flushed stop status (gives ts L source.left taken at) read order calm why

-- All lines have run where nothing is left, also behind a flush.
pub all-flushed : (ts tk : Bool) (L : Ledger) (all rest : List ℕ) (session : Session) (taken now later : List ℕ) (ran : ℕ) →
    LiveAt ts tk L all rest session taken now ran → length rest ≡ 0 → (IsTrue tk → later ≡ now) → AllRan ts tk L all session taken later
all-flushed ts tk L all [] session taken now later ran at none same =
    let whole = all-ran ts tk L all [] session taken now ran at refl in
    record { events = whole.events; stand = whole.stand; stands = whole.stands; written = λ told. same told ∙ whole.written told }
all-flushed ts tk L all (byte ∷ rest) session taken now later ran at none same = absurd (omega arith)
