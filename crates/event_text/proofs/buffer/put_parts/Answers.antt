use Rattle.std.proofs.Common.{arith}
use Rattle.event_text.proofs.TextWrites.{parts-more, parts-written}
use Rattle.event_text.proofs.buffer.put_parts.Goals as goal

pub loop-i-preserved : goal.loop-i-preserved
loop-i-preserved c =
    parts-more c.put_counted.new.out.items c.loop-i.out.items _ _ c.bytes.result.now c.args.parts.now c.loop-i.i c.room.result
    (omega (arith, c.len-i-end.ensures)) c.loop-i.invariant
    c.room.ensures c.bytes.ensures c.in_ok-put_next_number.ensures.ok c.in_ok-put_next_bytes.ensures.ok

pub returns-clause-ok : goal.returns-clause-ok
returns-clause-ok c =
    parts-written c.args.out.now.items c.put_counted.new.out.items c.loop-i.out.items c.args.parts.now c.len.result c.loop-i.i
    (omega (arith, c.len-i-end.ensures)) c.len.ensures c.in_ok-put_counted.ensures.ok c.loop-i.invariant
