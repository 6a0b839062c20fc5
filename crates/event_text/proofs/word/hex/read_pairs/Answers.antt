use Rattle.std.proofs.Common.{arith}
use Rattle.event_text.specs.TextReads.{pairs_of}
use Rattle.event_text.proofs.TextDigits.{pairs_of-block, pairs_of-stop}
use Rattle.event_text.proofs.word.hex.read_pairs.Goals as goal

pub returns-then-not-are_digits : goal.returns-then-not-are_digits
returns-then-not-are_digits c =
    pairs_of-stop (pairs_of c.args.word.now) c.loop-rest.bytes.items c.loop-rest.rest.now c.split_at.result.0.now 32
    c.loop-rest.invariant.read c.split_at.ensures.front (c.are_digits.ensures.no c.if-not-are_digits.true)

pub loop-rest-preserved : goal.loop-rest-preserved
loop-rest-preserved c =
    let rest = c.loop-rest.rest.now in
    let even = c.loop-rest.invariant.even in
    let front = c.split_at.ensures.front in
    let back = c.split_at.ensures.back in
    let few = c.split_at.ensures.back_len in
    let long = c.loop-rest-test.true in
    let read = rw front at c.read_block.ensures.read in
    let size = c.read_block.ensures.long in
    let room = c.loop-rest.invariant.room in
    let len = c.in_ok-extend_from_slice.ensures.len in
    let added = c.in_ok-extend_from_slice.ensures.items in
    record {
      even = omega arith;
      read = rw (added, back) (pairs_of-block (pairs_of c.args.word.now) c.loop-rest.bytes.items rest c.read_block.result 32
          c.loop-rest.invariant.read read);
      room = omega arith;
    }
