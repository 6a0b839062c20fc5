-- Runs of a copy over a piece of what is buffered.
use Rattle.std.proofs.Common.{◌≡◌, ◌∙◌, ◌≤◌, ◌<◌, ◌-◌, ◌^◌, inl, inr, ℕ, List, [], ◌++◌, Bool, length, take, drop, refl, sym, ap}
use Rattle.std.proofs.Common.{arith, true, append_assoc, length-append}
use Rattle.std.proofs.lemmas.List.{length-take, nil_from_length, take-append-drop, take_at}
use Rattle.std.specs.Prelude.{IsTrue, Result, Ok, Err}
use Rattle.rent_buf.specs.declared.fault.IoFault.{IoFault}
use Rattle.rent_io.specs.declared.poll.Step.{Step}
use Rattle.rent_io.specs.declared.poll.Step.TheVariants.{Ready, Pending, Again}
use Rattle.stream_util.specs.Copy.{Copying, Ends, IsRunEnd, Moves, Runs, held_in}
use Rattle.stream_util.specs.declared.copy.Copied.{Copied}
use Rattle.copy_run.specs.Pieces.{IsSinkFault, PieceRuns}

-- What a run moved, whatever it answers.
pub run_moves : (reads writes : Bool) (task turns : ℕ) (before now : Ends) (copy : Copying) (step : Step Copying Copied)
    → Runs reads writes task turns before now copy step
    → (count : ℕ) × Moves reads writes before now copy (record { held = held_in step; count = count })
run_moves reads writes task turns before now copy (Ready copied) has = (has.count, has.moves)
run_moves reads writes task turns before now copy (Pending next) waits = (next.count, waits.0)
run_moves reads writes task turns before now copy (Again next) uses = (next.count, uses.moves)

-- The bytes that were read of a piece at the start of what is buffered are the first of what is buffered.
pub piece_taken : (buffered got left piece : List ℕ) (size used : ℕ) → piece ≡ take size buffered → size ≤ length buffered
    → piece ≡ got ++ left → used ≡ size - length left → take used buffered ≡ got
piece_taken buffered got left piece size used is fits cut count =
    let long : length got ≡ used =
    omega (arith, count, fits, ap length is, ap length cut, length-take size buffered, length-append got left) in
    let whole : buffered ≡ got ++ (left ++ drop size buffered) = sym (take-append-drop size buffered)
    ∙ ap (λ l. l ++ drop size buffered) (sym is ∙ cut) ∙ append_assoc got left (drop size buffered) in
    ap (take used) whole ∙ take_at got (left ++ drop size buffered) used long

-- What was delivered, and what is held, joined, grew by what was read.
pub moved_joined : (reads writes : Bool) (before now : Ends) (copy next : Copying) (got : List ℕ)
    → (m : Moves reads writes before now copy next) → got ≡ m.got
    → IsTrue writes → now.writer.delivered ++ next.held ≡ before.writer.delivered ++ (copy.held ++ got)
moved_joined reads writes before now copy next got m same w =
    ap (λ d. d ++ next.held) (m.delivered w) ∙ append_assoc before.writer.delivered m.sent next.held
    ∙ ap (λ l. before.writer.delivered ++ l) (sym m.kept ∙ ap (λ g. copy.held ++ g) (sym same))

-- Nothing is read where nothing is left.
pub none_got : (writes : Bool) (before now : Ends) (copy next : Copying) → (m : Moves true writes before now copy next)
    → before.reader.left ≡ [] → [] ≡ m.got
none_got writes before now copy next m none =
    sym (nil_from_length m.got
    (omega (arith, ap length (m.front refl), ap length none, length-append m.got now.reader.left)))

-- The counts of a reader that never fails, is never interrupted and never ends, and of a writer that takes a byte of some, and never pauses
-- and is never interrupted.
pub record Calm (now : Ends) : Type 0 where
  pub faults : now.reader.counts.faults ≡ 0
  pub breaks : now.reader.counts.interrupts ≡ 0
  pub zeros : now.writer.counts.zeros ≡ 0
  pub pauses : now.writer.counts.pauses ≡ 0
  pub interrupts : now.writer.counts.interrupts ≡ 0

-- A run over a piece ends by a fault of the sink.
sink-fault : (before now : Ends) (count : ℕ) (rest : List ℕ) (result : Result ℕ IoFault) → Calm now → now.reader.counts.zeros ≡ 0
    → IsRunEnd true before now count rest result → IsSinkFault before.writer.counts.faults now.writer.counts.faults result
sink-fault before now count rest (Ok n) calm endless end = absurd (omega (arith, end.3, endless))
sink-fault before now count rest (Err fault) calm endless (inl failed) = absurd (omega (arith, failed.0, calm.faults))
sink-fault before now count rest (Err fault) calm endless (inr (inl failed)) = failed.0
sink-fault before now count rest (Err fault) calm endless (inr (inr none)) = absurd (omega (arith, none.1.1, calm.zeros))

-- What a run over a piece answers.
pub piece_runs : (writes : Bool) (before now : Ends) (copy : Copying) (step : Step Copying Copied) (size used : ℕ) → Calm now
    → now.reader.counts.zeros ≡ 0 → (0 < now.reader.counts.waiter → now.reader.left ≡ []) → length before.reader.left ≡ size
    → used ≡ size - length now.reader.left → Runs true writes 1 (2 ^ 64 - 1) before now copy step
    → PieceRuns size used before.writer.counts.faults now.writer.counts.faults copy step
piece_runs writes before now copy (Ready copied) size used calm endless waits long count has =
    sink-fault before now has.count copied.rest copied.result calm endless has.ends
piece_runs writes before now copy (Pending next) size used calm endless waits long count (m, inl paused) =
    let none = waits (omega (arith, paused.1)) in (
      omega (arith, count, ap length none),
      omega (
        arith,
        count,
        long,
        ap length m.kept,
        ap length (m.front refl),
        length-append m.got now.reader.left,
        length-append copy.held m.got,
        length-append m.sent next.held,
      ),
    )
piece_runs writes before now copy (Pending next) size used calm endless waits long count (m, inr paused) =
    absurd (omega (arith, paused.0, calm.pauses))
piece_runs writes before now copy (Again next) size used calm endless waits long count uses =
    let m = uses.moves in
    omega (
      arith,
      count,
      long,
      uses.each,
      uses.reads_break,
      uses.writes_break,
      calm.breaks,
      calm.interrupts,
      ap length m.kept,
      ap length (m.front refl),
      length-append m.got now.reader.left,
      length-append copy.held m.got,
      length-append m.sent next.held,
    )
