use Rattle.event_text.proofs.TextWrites.{messages-more, messages-written}
use Rattle.event_text.proofs.reply.put_messages.Goals as goal

pub loop-address-preserved : goal.loop-address-preserved
loop-address-preserved c =
    messages-more c.put_counted.new.out.items c.loop-address.out.items _ _ c.as_slice.result.now
    c.as_slice-address-items.result.now c.loop-address.address-index
    c.loop-address-item.result c.loop-address-test.true c.loop-address.invariant c.loop-address-item.is c.as_slice.ensures
    c.in_ok-put_next_address.ensures.ok c.in_ok-put_next_bytes.ensures.ok

pub returns-clause-ok : goal.returns-clause-ok
returns-clause-ok c =
    messages-written c.args.out.now.items c.put_counted.new.out.items c.loop-address.out.items c.args.messages.now
    c.as_slice-address-items.result.now c.len.result c.loop-address.address-index c.as_slice-address-items.ensures
    c.loop-address-test.false c.len.ensures c.in_ok-put_counted.ensures.ok c.loop-address.invariant
