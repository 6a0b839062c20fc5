use Rattle.std.proofs.Common.{◌∙◌, sym, subst, arith, slice_index_or, take}
use Rattle.uring_driver.specs.Groups.{cancels_of}
use Rattle.uring_driver.specs.Submissions.{Posts, PostsEach}
use Rattle.uring_driver.proofs.Groups.{few-cancels, few-taken, more-cancels, posts-more, posts-room}
use Rattle.uring_driver.proofs.uring.groups.post_cancels.Goals as goal

pub post-requires-clause-room : goal.post-requires-clause-room
post-requires-clause-room g c =
    let front = take c.loop-i.i c.args.numbers.now in
    let some = few-cancels c.args.members.now front in
    let less = few-taken c.loop-i.i c.args.numbers.now in
    let room = c.requires.room in
    let within = c.loop-i-test.true in
    let left = posts-room g.R.Ring.view g.R.Ring.tells g.R.Ring.steady c.args.ring.now c.loop-i.ring (cancels_of c.args.members.now front)
    (omega (arith, some, less, room, within)) c.loop-i.invariant.posts in
    omega (arith, some, less, room, within, left)

pub loop-i-preserved : goal.loop-i-preserved
loop-i-preserved g c =
    let i = c.loop-i.i in
    let number = slice_index_or c.args.numbers.now i 0 in
    let front = cancels_of c.args.members.now (take i c.args.numbers.now) in
    record {
      posts = subst (λ es. PostsEach g.R.Ring.view g.R.Ring.tells g.R.Ring.steady c.args.ring.now c.post.new.self es)
          (sym (more-cancels c.args.members.now c.args.numbers.now i c.in-Some.key (omega (arith, c.loop-i-test.true))
          (sym c.key_of.ensures.key ∙ c.in-Some.is)))
          (posts-more g.R.Ring.view g.R.Ring.tells g.R.Ring.steady c.args.ring.now c.loop-i.ring c.post.new.self front _
          c.loop-i.invariant.posts
          (subst (λ e. Posts g.R.Ring.view g.R.Ring.tells g.R.Ring.steady c.loop-i.ring c.post.new.self e) c.cancel.ensures
          c.post.ensures.posts));
      none_due = λ always none. c.post.ensures.none always (c.loop-i.invariant.none_due always none);
    }
