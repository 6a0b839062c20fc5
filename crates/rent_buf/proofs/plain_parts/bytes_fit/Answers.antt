use Rattle.std.proofs.Common.{rules, arith, ◌≡◌, ◌≤◌, ◌<◌, length, refl, subst, take}
use Rattle.std.specs.Prelude.{All}
use Rattle.std.proofs.lemmas.List.Elements.{All-more}
use Rattle.std.proofs.lemmas.List.{take_all}
use Rattle.rent_buf.proofs.plain_parts.bytes_fit.Goals as goal

pub loop-pair-preserved : goal.loop-pair-preserved
loop-pair-preserved c =
    let there : c.loop-pair.pair-index < length c.args.pairs.now = search rules in
    let fits : length c.pair-item.result.1 ≤ c.pair-item.result.0 = search rules in
    All-more (λ pair. length pair.1 ≤ pair.0) c.args.pairs.now c.loop-pair.pair-index c.pair-item.result there c.loop-pair.invariant
    (subst (λ pair. length pair.1 ≤ pair.0) c.pair-item.is fits)

pub returns : goal.returns
returns c =
    let whole : take c.loop-pair.pair-index c.args.pairs.now ≡ c.args.pairs.now = take_all c.loop-pair.pair-index c.args.pairs.now
    (omega arith) in
    let all : All (λ pair. length pair.1 ≤ pair.0) c.args.pairs.now = subst (All (λ pair. length pair.1 ≤ pair.0)) whole
    c.loop-pair.invariant in
    (λ _. all, λ _. refl)
