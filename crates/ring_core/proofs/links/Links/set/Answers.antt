use Rattle.std.proofs.Common.{rules, false, length, slice_get, refl, sym, ◌∙◌, ap, subst, arith}
use Rattle.std.proofs.lemmas.Grind.{get_or_default_zero}
use Rattle.std.proofs.lemmas.Option.{slice_get_read}
use Rattle.ring_core.specs.Flights.{words_of}
use Rattle.ring_core.specs.Links.{AreLinked, NextLinkFor}
use Rattle.ring_core.proofs.Keeping.{word-there}
use Rattle.ring_core.proofs.Linking.{linked-grown, linked-without, linked-joined}
use Rattle.ring_core.proofs.links.Links.set.Goals as goal

pub returns-then-word-lt-FAR : goal.returns-then-word-lt-FAR
returns-then-word-lt-FAR c =
    let items = c.args.items.now.items in
    let flags = c.args.ranks.now.flags in
    let item = slice_get_read items _ c.args.slot c.index.result.now refl (let there = c.requires.there in omega arith) c.index.ensures in
    let joins = ap (slice_get (words_of items)) (sym c.requires.next) ∙ word-there items c.args.slot c.index.result.now item in
    linked-without c.self.inside.complete false c.self.inside.slots.items c.lengthen.new.slots.items flags (words_of items) _
    c.lengthen.ensures.longer (subst (λ links. AreLinked links flags (words_of items)) (sym c.self.view_is) c.requires.linked) joins
    (c.lengthen.ensures.beyond (let no = c.if-not-lengthen.true in search rules)) (λ near. refl) (λ lost. refl)

pub returns-else-word-lt-FAR : goal.returns-else-word-lt-FAR
returns-else-word-lt-FAR c =
    let items = c.args.items.now.items in
    let flags = c.args.ranks.now.flags in
    let item = slice_get_read items _ c.args.slot c.index.result.now refl (let there = c.requires.there in omega arith) c.index.ensures in
    let joins = ap (slice_get (words_of items)) (sym c.requires.next) ∙ word-there items c.args.slot c.index.result.now item in
    linked-without c.self.inside.complete c.self.inside.complete c.self.inside.slots.items c.lengthen.new.slots.items flags
    (words_of items) _
    c.lengthen.ensures.longer (subst (λ links. AreLinked links flags (words_of items)) (sym c.self.view_is) c.requires.linked) joins
    (c.lengthen.ensures.beyond (let no = c.if-not-lengthen.true in search rules))
    (λ near. (let far = c.if-word-lt-FAR.false in absurd (omega arith))) (λ lost. lost)

pub returns : goal.returns
returns c =
    let items = c.args.items.now.items in
    let flags = c.args.ranks.now.flags in
    let item = slice_get_read items _ c.args.slot c.index.result.now refl (let there = c.requires.there in omega arith) c.index.ensures in
    let joins = ap (slice_get (words_of items)) (sym c.requires.next) ∙ word-there items c.args.slot c.index.result.now item in
    let linked = subst (λ links. AreLinked links flags (words_of items)) (sym c.self.view_is) c.requires.linked in
    let grown = linked-grown c.self.inside.complete c.self.inside.slots.items c.lengthen.new.slots.items flags (words_of items)
    c.lengthen.ensures.longer linked in
    linked-joined c.self.inside.complete c.lengthen.new.slots.items flags (words_of items) c.index.result.now.entry.word c.next_link.result
    grown joins (omega arith)
    (subst (λ before. NextLinkFor flags (words_of items) before c.index.result.now.entry.word (length flags) c.next_link.result)
    (c.index-before.ensures
    ∙ get_or_default_zero c.lengthen.new.slots.items c.index.result.now.entry.word c.index-before.result.now (omega arith))
    (subst (λ n. NextLinkFor flags (words_of items) c.index-before.result.now c.index.result.now.entry.word n c.next_link.result)
    c.requires.next c.next_link.ensures))
