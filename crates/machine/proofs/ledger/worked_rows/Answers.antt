use Rattle.std.proofs.Common.{refl}
use Rattle.machine.specs.Step.{step}
use Rattle.machine.proofs.ledger.worked_rows.Goals as goal

pub returns-clause-one_read : goal.returns-clause-one_read
unfolding step
returns-clause-one_read c = refl

pub returns-clause-refused_in_order : goal.returns-clause-refused_in_order
unfolding step
returns-clause-refused_in_order c = refl

pub returns-clause-late_cancel : goal.returns-clause-late_cancel
unfolding step
returns-clause-late_cancel c = refl

pub returns-clause-full_queue : goal.returns-clause-full_queue
unfolding step
returns-clause-full_queue c = refl

pub returns-clause-refused_outcomes : goal.returns-clause-refused_outcomes
unfolding step
returns-clause-refused_outcomes c = refl

pub returns-clause-errors : goal.returns-clause-errors
unfolding step
returns-clause-errors c = refl

pub returns-clause-read_at_the_end : goal.returns-clause-read_at_the_end
unfolding step
returns-clause-read_at_the_end c = refl

pub returns-clause-short_read : goal.returns-clause-short_read
unfolding step
returns-clause-short_read c = refl

pub returns-clause-grown_read : goal.returns-clause-grown_read
unfolding step
returns-clause-grown_read c = refl

pub returns-clause-fixed_read : goal.returns-clause-fixed_read
unfolding step
returns-clause-fixed_read c = refl

pub returns-clause-range_read : goal.returns-clause-range_read
unfolding step
returns-clause-range_read c = refl

pub returns-clause-parts_read : goal.returns-clause-parts_read
unfolding step
returns-clause-parts_read c = refl

pub returns-clause-short_send : goal.returns-clause-short_send
unfolding step
returns-clause-short_send c = refl

pub returns-clause-parts_send : goal.returns-clause-parts_send
unfolding step
returns-clause-parts_send c = refl

pub returns-clause-close_under_read : goal.returns-clause-close_under_read
unfolding step
returns-clause-close_under_read c = refl

pub returns-clause-canceled_group : goal.returns-clause-canceled_group
unfolding step
returns-clause-canceled_group c = refl

pub returns-clause-full_queue_group : goal.returns-clause-full_queue_group
unfolding step
returns-clause-full_queue_group c = refl

pub returns-clause-group_members : goal.returns-clause-group_members
unfolding step
returns-clause-group_members c = refl

pub returns-clause-messages_in_and_out : goal.returns-clause-messages_in_and_out
unfolding step
returns-clause-messages_in_and_out c = refl

pub returns-clause-file_positions : goal.returns-clause-file_positions
unfolding step
returns-clause-file_positions c = refl

pub returns-clause-splices : goal.returns-clause-splices
unfolding step
returns-clause-splices c = refl

pub returns-clause-plain_requests : goal.returns-clause-plain_requests
unfolding step
returns-clause-plain_requests c = refl

pub returns-clause-abandoned_accept : goal.returns-clause-abandoned_accept
unfolding step
returns-clause-abandoned_accept c = refl

pub returns-clause-echo_server : goal.returns-clause-echo_server
unfolding step
returns-clause-echo_server c = refl

pub returns-clause-opened_file : goal.returns-clause-opened_file
unfolding step
returns-clause-opened_file c = refl

pub returns-clause-linked_reads : goal.returns-clause-linked_reads
unfolding step
returns-clause-linked_reads c = refl

pub returns-clause-broken_chain : goal.returns-clause-broken_chain
unfolding step
returns-clause-broken_chain c = refl

pub returns-clause-taken_apart : goal.returns-clause-taken_apart
unfolding step
returns-clause-taken_apart c = refl

pub returns-clause-canceled_follower : goal.returns-clause-canceled_follower
unfolding step
returns-clause-canceled_follower c = refl
