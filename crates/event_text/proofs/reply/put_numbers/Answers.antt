use Rattle.std.proofs.Common.{◌-◌, length, take, drop, arith}
use Rattle.std.proofs.lemmas.Bool.Decides.{nat_tests}
use Rattle.event_text.proofs.TextWrites.{commas-written, numbers-written}
use Rattle.event_text.proofs.reply.put_numbers.Goals as goal

pub loop-number-preserved : goal.loop-number-preserved
loop-number-preserved c =
    commas-written c.put_number.new.out.items (take (length c.args.numbers.now - 1) (drop 1 c.args.numbers.now)) c.loop-number.out.items _ _
    c.loop-number.number-index c.loop-number-test.true c.loop-number.invariant c.in_ok-put_byte.ensures.ok c.in_ok-put_number-2.ensures.ok

pub returns-clause-ok : goal.returns-clause-ok
returns-clause-ok c =
    numbers-written c.args.out.now.items c.args.numbers.now c.put_number.new.out.items c.loop-number.out.items c.loop-number.number-index
    (grind (arith, nat_tests)) c.loop-number-test.false c.in_ok-put_number.ensures.ok c.loop-number.invariant
