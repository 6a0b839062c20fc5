use Rattle.std.proofs.Common.{refl}
use Rattle.ready_driver.specs.LegacyState.{ops_in}
use Rattle.stream_util.specs.Copy.{held_in}
use Rattle.net_stream.proofs.Frames.{beside_fits, beside_flight}
use Rattle.net_copy.proofs.Lines.{boxed_fits, round_left, round_line, round_streams}
use Rattle.net_copy.proofs.round.copy_round.Goals as goal

pub send-sent-requires : goal.send-sent-requires
send-sent-requires g c = record {
  fits = boxed_fits (ops_in c.receive-received.new.driver) c.args.to.now c.args.to.now.inbox c.run-copied.new.writer
      (beside_fits (ops_in c.args.driver.now) (ops_in c.receive-received.new.driver) c.args.from.now c.receive-received.new.conn
      c.args.to.now c.receive-received.ensures.others c.requires.to c.requires.beside).0;
}

pub returns-clause-line : goal.returns-clause-line
returns-clause-line g c = λ tells stream.
    round_line g.I.NonBlock.view c.args.driver.now c.receive-received.new.driver c.send-sent.new.driver c.args.from.now
    c.receive-received.new.conn (record c.receive-received.new.conn { inbox = c.run-copied.new.reader }) c.args.to.now
    (record c.args.to.now { outbox = c.run-copied.new.writer }) c.send-sent.new.conn c.args.copy.held (held_in c.run-copied.result)
    (c.receive-received.ensures.came tells) (c.receive-received.ensures.handles tells) c.receive-received.ensures.same
    (beside_flight (ops_in c.args.driver.now) (ops_in c.receive-received.new.driver) c.args.from.now c.receive-received.new.conn
    c.args.to.now c.receive-received.ensures.others c.requires.to c.requires.beside) refl refl (c.run-copied.ensures.joined refl refl)
    stream
    (c.send-sent.ensures.handles tells) c.send-sent.ensures.same (c.send-sent.ensures.went tells)

pub returns-clause-streams : goal.returns-clause-streams
returns-clause-streams g c = λ tells h stream.
    round_streams g.I.NonBlock.view c.args.driver.now c.receive-received.new.driver c.send-sent.new.driver c.args.from.now.fd
    c.args.to.now.fd h (c.receive-received.ensures.handles tells) (c.send-sent.ensures.handles tells) stream

pub returns-clause-from : goal.returns-clause-from
returns-clause-from g c =
    (round_left (ops_in c.args.driver.now) (ops_in c.receive-received.new.driver) (ops_in c.send-sent.new.driver) c.args.from.now
    c.receive-received.new.conn c.args.to.now c.send-sent.new.conn c.run-copied.new.reader c.run-copied.new.writer
    c.receive-received.ensures.others c.receive-received.ensures.fits c.requires.to c.requires.beside c.send-sent.ensures.others).0

pub returns-clause-beside : goal.returns-clause-beside
returns-clause-beside g c =
    (round_left (ops_in c.args.driver.now) (ops_in c.receive-received.new.driver) (ops_in c.send-sent.new.driver) c.args.from.now
    c.receive-received.new.conn c.args.to.now c.send-sent.new.conn c.run-copied.new.reader c.run-copied.new.writer
    c.receive-received.ensures.others c.receive-received.ensures.fits c.requires.to c.requires.beside c.send-sent.ensures.others).1
