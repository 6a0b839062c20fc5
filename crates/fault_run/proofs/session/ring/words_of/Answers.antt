use Rattle.std.proofs.Common.{ap, length, refl, sym, ◌∙◌}
use Rattle.ring_core.specs.MemRing.{entry_at}
use Rattle.fault_run.proofs.Answering.{word-more, words-all}
use Rattle.fault_run.proofs.session.ring.words_of.Goals as goal

pub loop-entry-preserved : goal.loop-entry-preserved
loop-entry-preserved c =
    let words = c.loop-entry.words in
    let flying = c.args.ring.now.flying in
    let more = word-more flying words c.push.new.self (length words) c.in-Some.entry
    (ap (entry_at flying) (sym c.len.ensures) ∙ sym c.flying_at.ensures ∙ c.in-Some.is) c.loop-entry.invariant.words_are refl
    c.in_ok-push.ensures.ok in
    record { words_are = more.0; few = more.1 }

pub returns : goal.returns
returns c =
    words-all c.args.ring.now.flying c.loop-entry.words
    (ap (entry_at c.args.ring.now.flying) (sym c.len.ensures) ∙ sym c.flying_at.ensures ∙ c.in_default.is) c.loop-entry.invariant.words_are
