use Rattle.std.proofs.Common.{◌≡◌, ◌∙◌, ◌+◌, Some, sym, ap, arith, length}
use Rattle.event_text.specs.TextReads.{bytes_of}
use Rattle.task_run.specs.Tasks.{bytes_at}
use Rattle.task_run.proofs.Results.{line_next, line_read}
use Rattle.task_run.proofs.jobs.spawn_lines.Goals as goal

pub loop-rest-preserved : goal.loop-rest-preserved
loop-rest-preserved c =
    let before = c.loop-rest.invariant in
    let spawned = c.in_ok-spawn.ensures in
    let is : Some c.in-Some.bytes ≡ bytes_of c.first_line.result.0.now = sym c.in-Some.is ∙ c.in_ok-bytes.ensures in
    record {
      reads = line_next c.args.text.now c.loop-rest.rest.now c.first_line.result.0.now c.first_line.result.1.now c.in-Some.bytes
          c.loop-rest.number before.reads c.first_line.ensures.lines c.first_line.ensures.less is;
      stands = spawned.stands;
      sound = spawned.sound;
      spawned = spawned.counted ∙ ap (λ n. n + 1) before.spawned;
      all = (let outputs = ap length spawned.outputs in let left = spawned.left in let counted = spawned.counted in
          let all = before.all in omega (arith, outputs, left, counted, all));
      kept = (spawned.kept.0 ∙ before.kept.0, spawned.kept.1 ∙ before.kept.1);
      aims = spawned.aims (bytes_at c.args.text.now)
          (ap (bytes_at c.args.text.now) before.spawned
          ∙ line_read c.args.text.now c.loop-rest.rest.now c.first_line.result.0.now c.first_line.result.1.now c.in-Some.bytes
          c.loop-rest.number before.reads c.first_line.ensures.lines is) before.aims;
    }
