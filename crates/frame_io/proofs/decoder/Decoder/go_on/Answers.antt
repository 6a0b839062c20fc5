use Rattle.std.proofs.Common.{◌+◌, ◌<◌, ◌++◌, length, length-drop, drop, ap, subst, arith}
use Rattle.frame_io.specs.Decoder.{IsOwn, rest_of}
use Rattle.frame_io.proofs.Reading.{again-same, own-more, polled-behind}
use Rattle.frame_io.proofs.decoder.Decoder.go_on.Goals as goal

pub loop-done-preserved : goal.loop-done-preserved
loop-done-preserved c =
    let bytes = c.args.bytes.now in
    let done = c.loop-done.done in
    let more = c.feed_header-more.result.0 in
    let some : 0 < more = subst (λ a. IsOwn a (0 < more)) c.in-Again.is c.feed_header-more.ensures.own in
    record {
      some = omega (arith, some);
      within = omega (arith, c.feed_header-more.ensures.within, ap length c.split_at.ensures.back, length-drop done bytes, c.loop-done.invariant.within);
      same = λ left. again-same _ _ _ c.in-Again.is (polled-behind (λ xs. rest_of c.args.self.now (drop c.args.count bytes ++ xs))
          (rest_of c.loop-done.self) (rest_of c.feed_header-more.new.self) done more bytes c.split_at.result.1.now left
          c.feed_header-more.result.1 c.split_at.ensures.back (c.loop-done.invariant.same left) (c.feed_header-more.ensures.answer left));
    }

pub returns-in_default : goal.returns-in_default
returns-in_default c =
    let bytes = c.args.bytes.now in
    let done = c.loop-done.done in
    let more = c.feed_header-more.result.0 in
    record {
      within = omega (arith, c.feed_header-more.ensures.within, ap length c.split_at.ensures.back, length-drop done bytes, c.loop-done.invariant.within);
      own = own-more c.feed_header-more.result.1 more (done + more) (omega arith) c.feed_header-more.ensures.own;
      stop = c.feed_header-more.ensures.stop;
      answer = λ left. polled-behind (λ xs. rest_of c.args.self.now (drop c.args.count bytes ++ xs))
          (rest_of c.loop-done.self) (rest_of c.feed_header-more.new.self) done more bytes c.split_at.result.1.now left
          c.feed_header-more.result.1 c.split_at.ensures.back (c.loop-done.invariant.same left) (c.feed_header-more.ensures.answer left);
    }

pub returns-clause-answer : goal.returns-clause-answer
returns-clause-answer c = λ left.
    let bytes = c.args.bytes.now in
    polled-behind (λ xs. rest_of c.args.self.now (drop c.args.count bytes ++ xs)) (rest_of c.loop-done.self)
    (rest_of c.feed_piece-more.new.self) c.loop-done.done c.feed_piece-more.result.0 bytes c.split_at-2.result.1.now left
    c.feed_piece-more.result.1 c.split_at-2.ensures.back (c.loop-done.invariant.same left) (c.feed_piece-more.ensures.answer left)
