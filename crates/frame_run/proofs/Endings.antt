-- How the writing of a source's messages ends.
use Rattle.std.proofs.Common.{◌≡◌, ◌∙◌, ◌≤◌, ◌-◌, ℕ, List, [], ◌∷◌, ◌++◌, Bool, IsTrue, length, refl, sym, ap, subst, append-nil, arith}
use Rattle.std.proofs.lemmas.List.{length-drop}
use Rattle.std.specs.Prelude.{true, false}
use Rattle.rent_io.specs.Call.{Writing}
use Rattle.frame_io.specs.declared.fault.BadFrame.{BadFrame as Wrong}
use Rattle.frame_io.specs.declared.fault.Ending.TheVariants.{End, Fault}
use Rattle.frame_io.specs.FrameReader.{standard}
use Rattle.frame_io.specs.Frames.{Outcome, read_frames}
use Rattle.frame_run.specs.declared.unframing.Unframed.{Unframed}
use Rattle.frame_run.specs.declared.unframing.Unframed.TheVariants.{Done, BadFrame, TooLong, ReadFault, WriteFault, OutOfMemory}
use Rattle.frame_run.specs.Lines.{bad_line, message_lines}
use Rattle.frame_run.specs.Places.{SourceAt, StopsFor, left_of, read_since}
use Rattle.frame_run.specs.Unframing.{Reached, UnframeEnds, UnframedFirst, Unframing}
use Rattle.frame_run.proofs.Sources.{took-more-than}
use Rattle.frame_run.proofs.Lined.{reached-all}

-- How far the writing is in the loop, and that no fault of the sink was counted.
pub record Pumping (ts tk : Bool) (outcome rest : Outcome) (taken now waits : List ℕ) (faults later : ℕ) : Type 0 where
  pub order : faults ≤ later
  pub calm : IsTrue tk → later ≡ faults
  pub far : IsTrue ts → Unframing tk outcome rest taken now waits

-- What is left in a source is what is left in the one that is given back.
pub given-back : {S : Type 0} (left : S → List ℕ) (faults : S → ℕ) (ts tk : Bool) (most : ℕ) (before : List ℕ) (read : ℕ) (s back : S)
    (sink : Writing) (ending now : Unframed) → back ≡ s → now ≡ ending →
    UnframeEnds ts tk most (read_since before read (left s) (faults s)) sink ending →
    UnframeEnds ts tk most (read_since before read (left back) (faults back)) sink now
given-back left faults ts tk most before read s back sink ending now source same ends =
    subst (λ x. UnframeEnds ts tk most (read_since before read (left x) (faults x)) sink now) (sym source)
    (subst (λ e. UnframeEnds ts tk most (read_since before read (left s) (faults s)) sink e) (sym same) ends)

-- No more is read of a source, and the lines of the first messages were written.
pub stopped-ends : (ts tk : Bool) (most : ℕ) (before : List ℕ) (faults place : ℕ) (left : List ℕ) (later name room : ℕ) (over : Bool)
    (failures : ℕ) (sink : Writing) (ending : Unframed) →
    SourceAt ts most before faults place left later name room over failures → StopsFor over failures ending →
    UnframedFirst ts tk (read_since before faults left later) sink → (IsTrue tk → sink.later ≡ sink.faults) →
    UnframeEnds ts tk most (read_since before faults left later) sink ending
stopped-ends ts tk most before faults place left later name room over failures sink Done home stops first calm = absurd stops
stopped-ends ts tk most before faults place left later name room over failures sink BadFrame home stops first calm = absurd stops
stopped-ends ts tk most before faults place left later name room over failures sink TooLong home stops first calm =
    ((λ told. took-more-than before left most (home.many stops told)), first)
stopped-ends ts tk most before faults place left later name room over failures sink ReadFault home stops first calm =
    (home.rose stops.0 stops.1, first)
stopped-ends ts tk most before faults place left later name room over failures sink WriteFault home stops first calm = absurd stops
stopped-ends ts tk most before faults place left later name room over failures sink OutOfMemory home stops first calm = (
  record {
    few = λ told. (most - room, omega (arith, home.within), home.given stops.0 told);
    read = λ told. home.calm stops.1 told;
    wrote = calm;
  },
  first,
)

-- A source of which nothing is left has no byte that it may not give.
closed : (over : Bool) (next : ℕ) (left : List ℕ) → left_of over next left ≡ [] → (over ≡ false) × (left ≡ [])
closed true next left none = (let never : ◌≡◌ {A = List ℕ} (next ∷ left) [] = none in cc)
closed false next left none = (refl, none)

-- All was read, and the lines that waited were written.
pub done-ends : (ts tk : Bool) (most : ℕ) (before : List ℕ) (faults place : ℕ) (left : List ℕ) (later name room : ℕ) (over : Bool)
    (next failures : ℕ) (sink : Writing) (now waits : List ℕ) →
    SourceAt ts most before faults place left later name room over failures → (IsTrue ts → left_of over next left ≡ []) →
    (IsTrue ts → Reached tk (read_frames standard before) End sink.taken now waits) → (IsTrue tk → sink.now ≡ now ++ waits) →
    IsTrue sink.flushed → UnframeEnds ts tk most (read_since before faults left later) sink Done
done-ends ts tk most before faults place left later name room over next failures sink now waits home ended reached wrote flushed = record {
  within = λ told.
      let none = closed over next left (ended told) in
      let took = home.given none.0 told in
      omega (arith, home.within, ap length (sym none.1 ∙ took.taken), length-drop (most - room) before);
  to_its_end = λ told. (closed over next left (ended told)).1;
  ending = λ told. (reached told).ending_is;
  written = λ source told.
      reached-all tk (read_frames standard before) End sink.taken now waits sink.now (reached source) told
      (wrote told ∙ ap (λ l. now ++ l) (sym (append-nil waits)))
      ∙ ap (λ l. sink.taken ++ l) (append-nil (message_lines (read_frames standard before).messages));
  flushed = flushed;
}

-- The lines that waited and that of a wrong piece were written.
pub bad-ends : (ts tk : Bool) (most : ℕ) (before : List ℕ) (faults : ℕ) (left : List ℕ) (later : ℕ) (sink : Writing) (bad : Wrong)
    (offset : ℕ) (now waits : List ℕ) →
    (IsTrue ts → Reached tk (read_frames standard before) (Fault bad) sink.taken now waits) →
    (IsTrue ts → (read_frames standard before).offset ≡ offset) → (IsTrue tk → sink.now ≡ now ++ (waits ++ bad_line offset bad)) →
    IsTrue sink.flushed → UnframeEnds ts tk most (read_since before faults left later) sink BadFrame
bad-ends ts tk most before faults left later sink bad offset now waits reached there wrote flushed = record {
  bad = λ source. record {
    fault = bad;
    ending = (reached source).ending_is;
    written = λ told.
        reached-all tk (read_frames standard before) (Fault bad) sink.taken now waits sink.now (reached source) told
        (wrote told ∙ ap (λ o. now ++ (waits ++ bad_line o bad)) (sym (there source)));
  };
  flushed = flushed;
}
