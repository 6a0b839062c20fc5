use Rattle.std.proofs.Common.{ap}
use Rattle.std.specs.FinMap as map
use Rattle.relay_net.proofs.Opened.{opened_widens, unopened_widens}
use Rattle.relay_net.proofs.Keyed.{opened_keys, unopened_keys}
use Rattle.relay_net.proofs.Showing.{opened_seen, unopened_seen}
use Rattle.relay_net.proofs.far.dial.Goals as goal

pub returns-in-Ok-clause-widens : goal.returns-in-Ok-clause-widens
returns-in-Ok-clause-widens g c =
    (opened_widens g.I.NonBlock.view g.I.NonBlock.tells g.I.NonBlock.memory c.args.driver.now c.dial.new.self c.in-Ok.fd
    c.in-Ok.ensures.opens c.dial.ensures.rest).0

pub returns-in-Ok-clause-far : goal.returns-in-Ok-clause-far
returns-in-Ok-clause-far g c =
    (opened_widens g.I.NonBlock.view g.I.NonBlock.tells g.I.NonBlock.memory c.args.driver.now c.dial.new.self c.in-Ok.fd
    c.in-Ok.ensures.opens c.dial.ensures.rest).1

pub returns-in-Ok-clause-ops : goal.returns-in-Ok-clause-ops
returns-in-Ok-clause-ops g c = λ op held asked. ap (λ m. map.get m op.key) c.dial.ensures.rest.slots

pub returns-in-Err-clause-ops : goal.returns-in-Err-clause-ops
returns-in-Err-clause-ops g c = λ op held asked. ap (λ m. map.get m op.key) c.dial.ensures.rest.slots

pub returns-in-Err-clause-widens : goal.returns-in-Err-clause-widens
returns-in-Err-clause-widens g c =
    unopened_widens g.I.NonBlock.view g.I.NonBlock.tells g.I.NonBlock.memory c.args.driver.now c.dial.new.self c.in-Err.why
    c.in-Err.ensures.opens c.dial.ensures.rest

pub returns-in-Ok-clause-keyed : goal.returns-in-Ok-clause-keyed
returns-in-Ok-clause-keyed g c =
    opened_keys g.I.NonBlock.view g.I.NonBlock.tells g.I.NonBlock.memory c.args.driver.now c.dial.new.self c.in-Ok.fd c.in-Ok.ensures.opens

pub returns-in-Err-clause-keyed : goal.returns-in-Err-clause-keyed
returns-in-Err-clause-keyed g c =
    unopened_keys g.I.NonBlock.view g.I.NonBlock.tells g.I.NonBlock.memory c.args.driver.now c.dial.new.self c.in-Err.why
    c.in-Err.ensures.opens

pub returns-in-Ok-clause-seen : goal.returns-in-Ok-clause-seen
returns-in-Ok-clause-seen g c =
    opened_seen g.I.NonBlock.view g.I.NonBlock.tells g.I.NonBlock.memory g.met.I.NonBlock.memory_tells c.args.driver.now c.dial.new.self
    c.in-Ok.fd
    c.in-Ok.ensures.opens

pub returns-in-Err-clause-seen : goal.returns-in-Err-clause-seen
returns-in-Err-clause-seen g c =
    unopened_seen g.I.NonBlock.view g.I.NonBlock.tells g.I.NonBlock.memory g.met.I.NonBlock.memory_tells c.args.driver.now c.dial.new.self
    c.in-Err.why
    c.in-Err.ensures.opens
