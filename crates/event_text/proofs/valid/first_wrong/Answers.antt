use Rattle.std.proofs.Common.{◌∙◌, ◌∷◌, drop, ap, sym, arith}
use Rattle.std.specs.Prelude.{not, ◌==◌}
use Rattle.std.proofs.lemmas.Bool.Decides.{nat_tests}
use Rattle.event_text.specs.TextLines.{lines}
use Rattle.event_text.specs.TextLook.{line_end, line_of}
use Rattle.event_text.proofs.TextLook.{behind-short, lines-line}
use Rattle.event_text.proofs.TextValid.{have_seen-more, have_seen-wrong}
use Rattle.event_text.proofs.valid.first_wrong.Goals as goal

pub returns-in_default : goal.returns-in_default
returns-in_default g c =
    have_seen-wrong (not (g.row.EXTERNAL == 0)) c.args.text.now c.loop-rest.rest.now (line_of c.loop-rest.rest.now)
    (drop 1 (line_end c.loop-rest.rest.now)) c.loop-rest.number c.loop-rest.invariant.seen
    (lines-line c.loop-rest.rest.now (grind (arith, nat_tests))) (sym c.in_default.ensures.reads)

pub loop-rest-smaller : goal.loop-rest-smaller
loop-rest-smaller g c =
    behind-short c.loop-rest.rest.now c.in-Some.past.now c.behind_newline-rest.result.now (grind (arith, nat_tests))
    c.in-Some.ensures.past c.behind_newline-rest.ensures

pub loop-rest-preserved : goal.loop-rest-preserved
loop-rest-preserved g c =
    let behind = c.behind_newline-rest.ensures ∙ ap (λ l. drop 1 l) c.in-Some.ensures.past in
    let less = behind-short c.loop-rest.rest.now c.in-Some.past.now c.behind_newline-rest.result.now (grind (arith, nat_tests))
    c.in-Some.ensures.past c.behind_newline-rest.ensures in
    let few = c.loop-rest.invariant.few in
    record {
      seen = have_seen-more (not (g.row.EXTERNAL == 0)) c.args.text.now c.loop-rest.rest.now (line_of c.loop-rest.rest.now)
          c.behind_newline-rest.result.now c.loop-rest.number c.loop-rest.invariant.seen
          (lines-line c.loop-rest.rest.now (grind (arith, nat_tests))
          ∙ ap (λ l. line_of c.loop-rest.rest.now ∷ lines l) (sym behind)) (sym c.in-Some.ensures.reads);
      few = omega (arith, few, less);
    }
