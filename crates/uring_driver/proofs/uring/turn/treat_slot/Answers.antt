use Rattle.std.proofs.Common.{◌∙◌, sym, subst, append-nil}
use Rattle.driver_core.specs.Holds.{CanLeave}
use Rattle.uring_driver.specs.Holding.{places}
use Rattle.uring_driver.specs.Reaps.{PostsAll}
use Rattle.uring_driver.specs.State.{IsSound}
use Rattle.machine.specs.Request.{listed}
use Rattle.uring_driver.proofs.Holdings.{dropped-leave}
use Rattle.uring_driver.proofs.Treating.{slots-stray, treats-completed, posts-completed}
use Rattle.uring_driver.proofs.Completing.{reads-slot, not-refused, end-some, end-room, closes-read, ended-read, sound-ended, holding-ended}
use Rattle.uring_driver.proofs.uring.turn.treat_slot.Goals as goal

pub returns-in_default-clause-sound : goal.returns-in_default-clause-sound
returns-in_default-clause-sound g c =
    subst (λ slots. IsSound c.args.ring.now.room slots (places c.args.handles.now))
    (sym (slots-stray c.args.ops.now.slots.values c.complete.new.self.slots.values c.args.completion.now c.complete.result
    c.complete.ensures.completes c.in_default.is)) c.requires.sound

pub end_op-requires-clause-held : goal.end_op-requires-clause-held
end_op-requires-clause-held g c =
    subst (CanLeave c.args.handles.now.table) (sym c.dropped_names-names.ensures)
    (dropped-leave c.args.handles.now c.args.ops.now.slots.values c.args.ops.now.given c.args.key c.requires.holding)

pub end_op-requires-clause-room : goal.end_op-requires-clause-room
end_op-requires-clause-room g c =
    let slots = c.args.ops.now.slots.values in
    let holding = c.args.handles.now in
    let c' = c.args.completion.now in
    let given = c.args.ops.now.given in
    let names = listed c.dropped_names-names.result in
    let maker = c.is_maker-maker.result in
    let dropped = c.is_dropped-dropped.result in
    let made = c.made-made.result in
    let reads = reads-slot slots c' c.args.key names maker dropped made c.requires.word c.dropped_names-names.ensures
    c.is_maker-maker.ensures c.is_dropped-dropped.ensures c.made-made.ensures in
    let takes = not-refused slots holding given c' names maker dropped made reads (c.in-Some.number, c.in-Some.task)
    (sym c.refuses.ensures ∙ c.if-refuses.false) (sym c.complete.ensures.completes.answer ∙ c.in-Some.is) in
    end-room slots holding given c' names maker dropped made reads c.requires.holding takes c.args.ring.now.room c.requires.sound

pub end_op-requires-clause-some : goal.end_op-requires-clause-some
end_op-requires-clause-some g c =
    let slots = c.args.ops.now.slots.values in
    let holding = c.args.handles.now in
    let c' = c.args.completion.now in
    let given = c.args.ops.now.given in
    let names = listed c.dropped_names-names.result in
    let maker = c.is_maker-maker.result in
    let dropped = c.is_dropped-dropped.result in
    let made = c.made-made.result in
    let reads = reads-slot slots c' c.args.key names maker dropped made c.requires.word c.dropped_names-names.ensures
    c.is_maker-maker.ensures c.is_dropped-dropped.ensures c.made-made.ensures in
    end-some slots holding given c' names maker dropped made reads c.requires.holding

pub returns-clause-treats : goal.returns-clause-treats
returns-clause-treats g c =
    let slots = c.args.ops.now.slots.values in
    let holding = c.args.handles.now in
    let c' = c.args.completion.now in
    let given = c.args.ops.now.given in
    let names = listed c.dropped_names-names.result in
    let maker = c.is_maker-maker.result in
    let dropped = c.is_dropped-dropped.result in
    let made = c.made-made.result in
    let reads = reads-slot slots c' c.args.key names maker dropped made c.requires.word c.dropped_names-names.ensures
    c.is_maker-maker.ensures c.is_dropped-dropped.ensures c.made-made.ensures in
    let takes = not-refused slots holding given c' names maker dropped made reads (c.in-Some.number, c.in-Some.task)
    (sym c.refuses.ensures ∙ c.if-refuses.false) (sym c.complete.ensures.completes.answer ∙ c.in-Some.is) in
    treats-completed slots c.complete.new.self.slots.values holding c.end_op.new.handles c' c.in-Some.number c.in-Some.task
    c.args.named.now c.note.new.named c.complete.result takes c.complete.ensures.completes c.in-Some.is
    (c.end_op.ensures.handles ∙ ended-read slots holding given c' names maker dropped made reads)
    c.note.ensures.reaped c.note.ensures.closed c.note.ensures.woken (append-nil c.args.named.now.closed.items)

pub returns-clause-posts : goal.returns-clause-posts
returns-clause-posts g c =
    let slots = c.args.ops.now.slots.values in
    let holding = c.args.handles.now in
    let c' = c.args.completion.now in
    let given = c.args.ops.now.given in
    let names = listed c.dropped_names-names.result in
    let maker = c.is_maker-maker.result in
    let dropped = c.is_dropped-dropped.result in
    let made = c.made-made.result in
    let reads = reads-slot slots c' c.args.key names maker dropped made c.requires.word c.dropped_names-names.ensures
    c.is_maker-maker.ensures c.is_dropped-dropped.ensures c.made-made.ensures in
    let takes = not-refused slots holding given c' names maker dropped made reads (c.in-Some.number, c.in-Some.task)
    (sym c.refuses.ensures ∙ c.if-refuses.false) (sym c.complete.ensures.completes.answer ∙ c.in-Some.is) in
    posts-completed g.R.Ring.view g.R.Ring.tells g.R.Ring.steady c.args.ring.now c.end_op.new.ring slots holding c'
    (c.in-Some.number, c.in-Some.task) takes (sym c.complete.ensures.completes.answer ∙ c.in-Some.is)
    (subst (λ us. PostsAll g.R.Ring.view g.R.Ring.tells g.R.Ring.steady c.args.ring.now c.end_op.new.ring us)
    (closes-read slots holding given c' names maker dropped made reads) (record {
      below = c.end_op.ensures.below;
      few = end-room slots holding given c' names maker dropped made reads c.requires.holding takes c.args.ring.now.room c.requires.sound;
      posts = c.end_op.ensures.posts;
    }))

pub returns-clause-sound : goal.returns-clause-sound
returns-clause-sound g c =
    let slots = c.args.ops.now.slots.values in
    let holding = c.args.handles.now in
    let c' = c.args.completion.now in
    let given = c.args.ops.now.given in
    let names = listed c.dropped_names-names.result in
    let maker = c.is_maker-maker.result in
    let dropped = c.is_dropped-dropped.result in
    let made = c.made-made.result in
    let reads = reads-slot slots c' c.args.key names maker dropped made c.requires.word c.dropped_names-names.ensures
    c.is_maker-maker.ensures c.is_dropped-dropped.ensures c.made-made.ensures in
    let takes = not-refused slots holding given c' names maker dropped made reads (c.in-Some.number, c.in-Some.task)
    (sym c.refuses.ensures ∙ c.if-refuses.false) (sym c.complete.ensures.completes.answer ∙ c.in-Some.is) in
    sound-ended slots holding given c' names maker dropped made reads c.requires.holding takes g.R.Ring.view g.R.Ring.tells
    g.R.Ring.steady c.args.ring.now c.end_op.new.ring c.complete.new.self.slots.values c.complete.result c.complete.ensures.completes
    c.end_op.new.handles c.end_op.ensures.handles c.requires.sound c.complete.ensures.numbers c.end_op.ensures.posts

pub returns-clause-holding : goal.returns-clause-holding
returns-clause-holding g c =
    let slots = c.args.ops.now.slots.values in
    let holding = c.args.handles.now in
    let c' = c.args.completion.now in
    let given = c.args.ops.now.given in
    let names = listed c.dropped_names-names.result in
    let maker = c.is_maker-maker.result in
    let dropped = c.is_dropped-dropped.result in
    let made = c.made-made.result in
    let reads = reads-slot slots c' c.args.key names maker dropped made c.requires.word c.dropped_names-names.ensures
    c.is_maker-maker.ensures c.is_dropped-dropped.ensures c.made-made.ensures in
    let takes = not-refused slots holding given c' names maker dropped made reads (c.in-Some.number, c.in-Some.task)
    (sym c.refuses.ensures ∙ c.if-refuses.false) (sym c.complete.ensures.completes.answer ∙ c.in-Some.is) in
    holding-ended slots holding given c' names maker dropped made reads c.requires.holding takes g.R.Ring.view g.R.Ring.tells
    g.R.Ring.steady c.args.ring.now c.end_op.new.ring c.complete.new.self.slots.values c.complete.result c.complete.ensures.completes
    c.end_op.new.handles c.end_op.ensures.handles c.complete.new.self.given c.complete.ensures.numbered c.complete.ensures.given
