use Rattle.std.proofs.Common.{◌++◌, length, take, drop, refl, sym, ◌∙◌, ap, arith}
use Rattle.std.proofs.lemmas.List.{append-nil}
use Rattle.ring_core.specs.Bound.{unbound, broken}
use Rattle.machine.proofs.Amended.{length-amended}
use Rattle.ring_core.proofs.Binding.{behind-counted, unbound-parts}
use Rattle.ring_core.proofs.mem_ring.release.Goals as goal

pub returns-in_default : goal.returns-in_default
returns-in_default c =
    let flights = c.args.flying.now.flights in
    let behind = behind-counted c.args.outcome (drop c.args.place flights) c.in_default.not-Fail in
    let is = ap (λ f. f.flights) c.unbind.ensures in
    let long = ap length is ∙ length-amended unbound flights c.args.place in record {
      flying = is ∙ unbound-parts flights c.args.place ∙ ap (λ ys. take c.args.place flights ++ ys) (sym behind.0);
      done = sym (append-nil c.args.done.now.items) ∙ ap (λ ys. c.args.done.now.items ++ broken ys) (sym behind.1);
      length = omega arith;
      room = (ap (λ f. f.room) c.unbind.ensures, refl);
    }
