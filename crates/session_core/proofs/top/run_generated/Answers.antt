use Rattle.std.proofs.Common.{◌++◌, ◌∙◌, ap, refl}
use Rattle.session_core.proofs.top.run_generated.Goals as goal

pub returns-in-Ok-write_last-clause-sums : goal.returns-in-Ok-write_last-clause-sums
returns-in-Ok-write_last-clause-sums g c = record {
  written = λ told. c.in-Ok-write_last.ensures.writes.all told
      ∙ ap (λ xs. g.K.ByteSink.taken c.args.sink.now ++ xs) (c.as_slice.ensures.value ∙ c.in-Ok.ensures.line);
  session = c.in-Ok.session;
  kept_is = refl;
  stands = c.in-Ok.ensures.stands;
}
