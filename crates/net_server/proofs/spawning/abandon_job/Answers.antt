use Rattle.core_exec.specs.Exec.{jobs_of}
use Rattle.ready_driver.specs.LegacyState.{ops_in}
use Rattle.net_server.proofs.Frames.{apart_sound}
use Rattle.net_server.proofs.spawning.abandon_job.Goals as goal

-- src/spawning.rt:173:5
pub close_in-requires-clause-sound : goal.close_in-requires-clause-sound
close_in-requires-clause-sound g c =
    let exec = c.args.exec.now in
    apart_sound ops_in exec.driver (record exec.driver { driver = c.abandon-fd.new.driver }) (jobs_of exec) c.args.job c.requires.sound
    c.requires.apart c.abandon-fd.ensures.others
