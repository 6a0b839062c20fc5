use Rattle.ready_driver.specs.LegacyState.{ops_in}
use Rattle.net_copy.proofs.Parks.{second_fits}
use Rattle.net_copy.proofs.run.send_on.Goals as goal

-- src/run.rt:96:1
pub returns : goal.returns
returns g c =
    let sent = c.send-sent.ensures in
    record {
      fits = second_fits (ops_in c.args.driver.now) (ops_in c.send-sent.new.driver) c.args.both.now.from c.args.both.now.to
          c.send-sent.new.conn c.requires.fits sent.others sent.fits;
    }
