use Rattle.std.proofs.Common.{◌≡◌, ◌∙◌, ◌++◌, ◌-◌, ap, arith, length, min, refl, rules, sym, take}
use Rattle.stream_util.specs.Copy.{Ends}
use Rattle.copy_run.specs.Pieces.{outlet_writer, piece_reader}
use Rattle.copy_run.proofs.Pieces.{Calm, moved_joined, piece_runs, piece_taken, run_moves}
use Rattle.copy_run.proofs.copying.copy_piece.Goals as goal

pub returns-clause-moved : goal.returns-clause-moved
returns-clause-moved g c =
    let moves = run_moves _ _ _ _ _ _ _ _ c.run-step.ensures.answer in
    let buffered = g.R.AsyncBufRead.buffered c.args.reader.now in
    let taken = piece_taken buffered moves.1.got c.left.result.now c.new-piece.result.bytes.now c.lesser-size.result _
    (c.new-piece.ensures ∙ c.split_at.ensures.front ∙ ap (take c.lesser-size.result) c.buffered-bytes.ensures.value)
    (omega (arith, c.lesser-size.ensures, ap length c.buffered-bytes.ensures.value))
    (moves.1.front refl ∙ ap (λ l. moves.1.got ++ l) (sym c.left.ensures)) refl in
    record { behind = search rules; joined = moved_joined _ _ _ _ _ _ _ moves.1 taken }

pub returns-clause-runs : goal.returns-clause-runs
returns-clause-runs g c =
    let buffered = g.R.AsyncBufRead.buffered c.args.reader.now in
    let all = min c.args.most (length buffered) in
    let left = c.run-step.new.reader in
    let w = c.run-step.new.writer.writer in
    let now : Ends = record {
      reader = piece_reader left.bytes.now left.waiter;
      writer = outlet_writer (g.K.ByteSink.taken w.inner.sink) (g.K.ByteSink.faults w.inner.sink) w;
    } in
    let calm : Calm now = record { faults = refl; breaks = refl; zeros = refl; pauses = refl; interrupts = refl } in
    let size : c.lesser-size.result ≡ all = omega (arith, c.lesser-size.ensures, ap length c.buffered-bytes.ensures.value) in
    let long : length c.new-piece.result.bytes.now ≡ all =
    omega (arith, ap length c.new-piece.ensures, c.split_at.ensures.front_len, size) in
    let count : c.lesser-size.result - length c.left.result.now ≡ all - length left.bytes.now =
    omega (arith, size, ap length c.left.ensures) in
    piece_runs g.K.ByteSink.tells _ now c.args.copy c.run-step.result all _ calm refl left.paused long count c.run-step.ensures.answer
