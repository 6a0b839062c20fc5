use Rattle.std.proofs.Common.{◌<◌, ◌∙◌, ap, subst, sym}
use Rattle.rent_io.proofs.SingleParts.{WayBack, part_cut, ready_part, paused_part}
use Rattle.rent_io.proofs.part_room.read_part.Goals as goal

pub returns-in-Ready-clause-reads : goal.returns-in-Ready-clause-reads
returns-in-Ready-clause-reads g c =
    let held = g.T.IoVecBufMut.held in
    let end = c.room-end in
    let cut = c.new.ensures ∙ ap (λ p. part_cut (held p.inner) p.part c.args.at end.result) c.new-room.ensures in
    let part = c.into_inner-part in
    let way : WayBack c.in-Ready.slice (held c.into_inner.result) part.result.part = rw c.into_inner.ensures
    (record { whole_is = part.ensures.buffer; place_is = part.ensures.under; others_is = part.ensures.beside }) in
    ready_part _ _ _ held _ _ _ _ _ _ _ _ _ way cut end.ensures (subst (λ n. c.args.at < n) (sym end.ensures) c.requires.room)
    c.in-Ready.ensures.reads

pub returns-in-Pending-clause-reads : goal.returns-in-Pending-clause-reads
returns-in-Pending-clause-reads g c =
    let held = g.T.IoVecBufMut.held in
    let cut = c.new.ensures ∙ ap (λ p. part_cut (held p.inner) p.part c.args.at c.room-end.result) c.new-room.ensures in
    let part = c.into_inner-part-in-Pending in
    let way : WayBack c.in-Pending.slice (held c.into_inner-in-Pending.result) part.result.part = rw c.into_inner-in-Pending.ensures
    (record { whole_is = part.ensures.buffer; place_is = part.ensures.under; others_is = part.ensures.beside }) in
    paused_part _ _ _ held _ _ _ _ _ _ _ _ way cut c.in-Pending.ensures.reads

pub returns-in-Again-clause-reads : goal.returns-in-Again-clause-reads
returns-in-Again-clause-reads g c =
    let held = g.T.IoVecBufMut.held in
    let cut = c.new.ensures ∙ ap (λ p. part_cut (held p.inner) p.part c.args.at c.room-end.result) c.new-room.ensures in
    let part = c.into_inner-part-in-Again in
    let way : WayBack c.in-Again.slice (held c.into_inner-in-Again.result) part.result.part = rw c.into_inner-in-Again.ensures
    (record { whole_is = part.ensures.buffer; place_is = part.ensures.under; others_is = part.ensures.beside }) in
    paused_part _ _ _ held _ _ _ _ _ _ _ _ way cut c.in-Again.ensures.reads
