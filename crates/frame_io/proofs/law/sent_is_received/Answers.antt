use Rattle.frame_io.proofs.Received
use Rattle.frame_io.proofs.law.sent_is_received.Goals as goal

pub returns-clause-first : goal.returns-clause-first
returns-clause-first c = Received.first_is_read

pub returns-clause-send : goal.returns-clause-send
returns-clause-send c = Received.send_keeps

pub returns-clause-write : goal.returns-clause-write
returns-clause-write c = Received.write_keeps

pub returns-clause-sent : goal.returns-clause-sent
returns-clause-sent c = Received.sent_is_received

pub returns-clause-all : goal.returns-clause-all
returns-clause-all c = Received.all_is_received

pub returns-clause-run : goal.returns-clause-run
returns-clause-run c = Received.run_receives
