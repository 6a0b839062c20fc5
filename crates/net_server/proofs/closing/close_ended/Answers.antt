use Rattle.std.proofs.Common.{◌∙◌, slice_index_or}
use Rattle.std.proofs.lemmas.Option.{slice_get-get_or}
use Rattle.net_server.specs.Closing.{table_of}
use Rattle.net_server.proofs.Closes.{closed_all, closed_more}
use Rattle.net_server.proofs.closing.close_ended.Goals as goal

-- src/closing.rt:98:5
pub loop-k-preserved : goal.loop-k-preserved
loop-k-preserved g c =
    let ended = c.args.ended.now in
    let call = c.close_end.ensures in
    let one = slice_index_or ended c.loop-k.k c.index-ended-k.result in
    let at = slice_get-get_or ended c.loop-k.k c.index-ended-k.result c.loop-k-test.true in
    record {
      stands = call.stands;
      sound = call.sound;
      left = call.left ∙ c.loop-k.invariant.left;
      below = closed_more (table_of c.loop-k.exec.driver.driver) (table_of c.close_end.new.exec.driver.driver) ended c.loop-k.k one
          c.loop-k.invariant.below call.gains at call.closed;
    }

-- src/closing.rt:86:1
pub returns-clause-closed : goal.returns-clause-closed
returns-clause-closed g c = closed_all (table_of c.loop-k.exec.driver.driver) c.args.ended.now c.loop-k.k c.loop-k-test.false
    c.loop-k.invariant.below
