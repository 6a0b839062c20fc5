use Rattle.std.proofs.Common.{◌≡◌, refl}
use Rattle.rent_buf.specs.Buf.{built}
use Rattle.machine.specs.Request.{plain_request}
use Rattle.relay_net.proofs.Calls.{submitted_pends, submitted_stays}
use Rattle.relay_net.proofs.Listens.{submitted_bits}
use Rattle.relay_net.proofs.Keyed.{refused_keys, submitted_keys}
use Rattle.relay_net.proofs.Seeing.{refused_seen, submitted_seen}
use Rattle.relay_net.proofs.flow.submit.Goals as goal

pub returns-in-Ok-clause-stays : goal.returns-in-Ok-clause-stays
returns-in-Ok-clause-stays g c =
    submitted_stays g.I.NonBlock.view g.I.NonBlock.tells g.I.NonBlock.memory c.args.driver.now c.submit_op.new.self c.args.request
    c.in-Ok.op
    c.in-Ok.ensures.submits c.in-Ok.ensures.token c.given.ensures.numbers

pub returns-in-Ok-clause-pends : goal.returns-in-Ok-clause-pends
returns-in-Ok-clause-pends g c =
    submitted_pends g.I.NonBlock.view g.I.NonBlock.tells g.I.NonBlock.memory c.args.driver.now c.submit_op.new.self c.args.request
    c.in-Ok.op
    (λ asked. asked ≡ plain_request built c.args.request) c.in-Ok.ensures.submits c.in-Ok.ensures.token refl

pub returns-in-Ok-clause-bits : goal.returns-in-Ok-clause-bits
returns-in-Ok-clause-bits g c = λ h.
    submitted_bits g.I.NonBlock.view g.I.NonBlock.tells g.I.NonBlock.memory c.args.driver.now c.submit_op.new.self c.args.request c.in-Ok.op
    c.in-Ok.ensures.submits h

pub returns-in-Ok-clause-keyed : goal.returns-in-Ok-clause-keyed
returns-in-Ok-clause-keyed g c =
    submitted_keys g.I.NonBlock.view g.I.NonBlock.tells g.I.NonBlock.memory c.args.driver.now c.submit_op.new.self c.args.request c.in-Ok.op
    c.in-Ok.ensures.submits c.requires.held

pub returns-in-Err-clause-keyed : goal.returns-in-Err-clause-keyed
returns-in-Err-clause-keyed g c =
    refused_keys g.I.NonBlock.view g.I.NonBlock.tells g.I.NonBlock.memory c.args.driver.now c.submit_op.new.self c.args.request _
    c.in-Err.ensures.submits

pub returns-in-Ok-clause-seen : goal.returns-in-Ok-clause-seen
returns-in-Ok-clause-seen g c =
    submitted_seen g.I.NonBlock.view g.I.NonBlock.tells g.I.NonBlock.memory g.met.I.NonBlock.memory_tells c.args.driver.now
    c.submit_op.new.self
    (returns-in-Ok-clause-stays g c).world (returns-in-Ok-clause-bits g c)

pub returns-in-Err-clause-seen : goal.returns-in-Err-clause-seen
returns-in-Err-clause-seen g c =
    refused_seen g.I.NonBlock.view g.I.NonBlock.tells g.I.NonBlock.memory g.met.I.NonBlock.memory_tells c.args.driver.now
    c.submit_op.new.self
    c.args.request _ c.in-Err.ensures.submits
