use Rattle.std.proofs.Common.{ap}
use Rattle.session_core.proofs.Commands.{reads-nothing, generate-nothing, trace-nothing, wake-keeps, copy-keeps, unframe-keeps, tasks-keeps}
use Rattle.session_core.proofs.Endings.{run-ends, ready-ends, sum-ends, trace-ends, wake-ends, copy-ends, line-refused, written-late}
use Rattle.session_core.proofs.Completing.{command-complete, input-taken}
use Rattle.session_core.proofs.Framing.{frame-refused, ran-short-of, unframe-complete, unframe-ends}
use Rattle.session_core.proofs.Relaying.{other-unused, relay-complete, relay-ends, relay-nothing, relay-opens, relay-uses}
use Rattle.session_core.proofs.Stopping.{run-stops, ready-stops, tasks-stops, none-stops}
use Rattle.session_core.proofs.Tasking.{tasks-ends}
use Rattle.session_core.proofs.top.top.Goals as goal

pub returns-in-Some-clause-runs : goal.returns-in-Some-clause-runs
returns-in-Some-clause-runs g c = λ capacity run.
    run-ends g.S.ByteSource.tells g.K.ByteSink.tells _ c.in-Some.command capacity _ _ _ _ c.in-Some.ensures run c.run_command.ensures.ends

pub returns-in-Some-clause-readies : goal.returns-in-Some-clause-readies
returns-in-Some-clause-readies g c = λ ready capacity.
    ready-ends g.S.ByteSource.tells g.K.ByteSink.tells _ c.in-Some.command capacity _ _ _ _ c.in-Some.ensures ready
    c.run_command.ensures.ends

pub returns-in-Some-clause-bad_line : goal.returns-in-Some-clause-bad_line
returns-in-Some-clause-bad_line g c = λ other is.
    line-refused g.S.ByteSource.tells g.K.ByteSink.tells _ c.in-Some.command _ _ _ _ c.in-Some.ensures c.run_command.ensures.ends is other

pub returns-in-Some-clause-sums : goal.returns-in-Some-clause-sums
returns-in-Some-clause-sums g c = λ seed rounds gen.
    sum-ends g.S.ByteSource.tells g.K.ByteSink.tells _ c.in-Some.command seed rounds _ _ _ _ c.in-Some.ensures gen
    c.run_command.ensures.ends

pub returns-in-Some-clause-wakes : goal.returns-in-Some-clause-wakes
returns-in-Some-clause-wakes g c = λ senders count wake.
    wake-ends g.S.ByteSource.tells g.K.ByteSink.tells _ c.in-Some.command senders count _ _ _ _ c.in-Some.ensures wake
    c.run_command.ensures.ends

pub returns-in-Some-clause-unread_sums : goal.returns-in-Some-clause-unread_sums
returns-in-Some-clause-unread_sums g c = λ seed rounds gen.
    c.run_command.ensures.unread (generate-nothing _ c.in-Some.command seed rounds c.in-Some.ensures gen)

pub returns-in-Some-clause-unread_wakes : goal.returns-in-Some-clause-unread_wakes
returns-in-Some-clause-unread_wakes g c = λ senders count wake. (
  c.run_command.ensures.unread (reads-nothing _ c.in-Some.command senders count c.in-Some.ensures wake),
  c.run_command.ensures.unkept (wake-keeps _ c.in-Some.command senders count c.in-Some.ensures wake),
)

pub returns-in-Some-clause-copies : goal.returns-in-Some-clause-copies
returns-in-Some-clause-copies g c = λ capacity prefix copy.
    copy-ends g.S.ByteSource.tells g.K.ByteSink.tells _ c.in-Some.command capacity prefix _ _ _ _ c.in-Some.ensures copy
    c.run_command.ensures.ends

pub returns-in-Some-clause-unkept_copies : goal.returns-in-Some-clause-unkept_copies
returns-in-Some-clause-unkept_copies g c = λ capacity prefix copy.
    c.run_command.ensures.unkept (copy-keeps _ c.in-Some.command capacity prefix c.in-Some.ensures copy)

pub returns-in-Some-clause-unwritten : goal.returns-in-Some-clause-unwritten
returns-in-Some-clause-unwritten g c = λ other last why.
    written-late g.S.ByteSource.tells g.K.ByteSink.tells _ c.in-Some.command _ _ _ _ c.in-Some.ensures c.run_command.ensures.ends other last
    why

pub returns-in-Some-clause-unframes : goal.returns-in-Some-clause-unframes
returns-in-Some-clause-unframes g c = λ unframe.
    unframe-ends g.S.ByteSource.tells g.K.ByteSink.tells _ c.in-Some.command _ _ _ _ c.in-Some.ensures unframe c.run_command.ensures.ends

pub returns-in-Some-clause-unkept_unframes : goal.returns-in-Some-clause-unkept_unframes
returns-in-Some-clause-unkept_unframes g c = λ unframe.
    c.run_command.ensures.unkept (unframe-keeps _ c.in-Some.command c.in-Some.ensures unframe)

pub returns-in-Some-clause-bad_frame : goal.returns-in-Some-clause-bad_frame
returns-in-Some-clause-bad_frame g c = λ is.
    frame-refused g.S.ByteSource.tells g.K.ByteSink.tells _ c.in-Some.command _ _ _ _ c.in-Some.ensures c.run_command.ensures.ends is

pub returns-in-Some-clause-memory : goal.returns-in-Some-clause-memory
returns-in-Some-clause-memory g c = λ other apart is.
    ran-short-of g.S.ByteSource.tells g.K.ByteSink.tells _ c.in-Some.command _ _ _ _ c.in-Some.ensures c.run_command.ensures.ends
    c.run_command.ensures.status (λ none. ap g.S.ByteSource.left (c.run_command.ensures.unread none)) other apart is

pub returns-in-Some-clause-complete_unframes : goal.returns-in-Some-clause-complete_unframes
returns-in-Some-clause-complete_unframes g c = λ unframe told few calm.
    unframe-complete g.S.ByteSource.tells g.K.ByteSink.tells _ _ _ told few calm
    (unframe-ends g.S.ByteSource.tells g.K.ByteSink.tells _ c.in-Some.command _ _ _ _ c.in-Some.ensures unframe c.run_command.ensures.ends)

pub returns-in-Some-clause-complete : goal.returns-in-Some-clause-complete
returns-in-Some-clause-complete g c = λ takes calm.
    command-complete g.S.ByteSource.tells g.K.ByteSink.tells _ c.in-Some.command _ _ _ _ c.in-Some.ensures c.run_command.ensures.ends
    c.run_command.ensures.status takes calm

pub returns-in-None-clause-complete : goal.returns-in-None-clause-complete
returns-in-None-clause-complete g c = λ takes calm. absurd (input-taken g.S.ByteSource.tells _ _ takes c.in-None.ensures)

pub returns-in-None-clause-complete_unframes : goal.returns-in-None-clause-complete_unframes
returns-in-None-clause-complete_unframes g c = λ unframe told few calm. absurd (c.in-None.ensures.no_unframe unframe)

pub returns-in-Some-clause-traces : goal.returns-in-Some-clause-traces
returns-in-Some-clause-traces g c = λ seed rounds trace.
    trace-ends g.S.ByteSource.tells g.K.ByteSink.tells _ c.in-Some.command seed rounds _ _ _ _ c.in-Some.ensures trace
    c.run_command.ensures.ends

pub returns-in-Some-clause-unread_traces : goal.returns-in-Some-clause-unread_traces
returns-in-Some-clause-unread_traces g c = λ seed rounds trace.
    let nothing = trace-nothing _ c.in-Some.command seed rounds c.in-Some.ensures trace in
    (c.run_command.ensures.unread nothing.0, c.run_command.ensures.unkept nothing.1)

pub returns-in-Some-clause-stops_run : goal.returns-in-Some-clause-stops_run
returns-in-Some-clause-stops_run g c = λ capacity run.
    run-stops g.S.ByteSource.tells g.K.ByteSink.tells _ c.in-Some.command capacity _ _ _ _ c.in-Some.ensures run
    c.run_command.ensures.stops

pub returns-in-Some-clause-stops_ready : goal.returns-in-Some-clause-stops_ready
returns-in-Some-clause-stops_ready g c = λ ready capacity.
    ready-stops g.S.ByteSource.tells g.K.ByteSink.tells _ c.in-Some.command capacity _ _ _ _ c.in-Some.ensures ready
    c.run_command.ensures.stops

pub returns-in-Some-clause-stops_none : goal.returns-in-Some-clause-stops_none
returns-in-Some-clause-stops_none g c = λ no_run no_ready no_tasks.
    none-stops g.S.ByteSource.tells g.K.ByteSink.tells _ c.in-Some.command _ _ _ _ c.in-Some.ensures no_run no_ready no_tasks
    c.run_command.ensures.stops

pub returns-in-Some-clause-relays : goal.returns-in-Some-clause-relays
returns-in-Some-clause-relays g c = λ plan relay.
    relay-ends g.S.ByteSource.tells g.K.ByteSink.tells _ c.in-Some.command plan _ _ _ _ c.in-Some.ensures relay c.run_command.ensures.ends

pub returns-in-Some-clause-unread_relays : goal.returns-in-Some-clause-unread_relays
returns-in-Some-clause-unread_relays g c = λ plan relay.
    let nothing = relay-nothing _ c.in-Some.command plan c.in-Some.ensures relay in
    (c.run_command.ensures.unread nothing.0, c.run_command.ensures.unkept nothing.1)

pub returns-in-Some-clause-unused_net : goal.returns-in-Some-clause-unused_net
returns-in-Some-clause-unused_net g c = λ other. c.run_command.ensures.unused (other-unused _ c.in-Some.command c.in-Some.ensures other)

pub returns-in-Some-clause-complete_relays : goal.returns-in-Some-clause-complete_relays
returns-in-Some-clause-complete_relays g c = λ plan relay calm still.
    relay-complete g.K.ByteSink.tells plan.rounds _ _ _ calm (λ is. still (c.run_command.ensures.net_fault is))
    (relay-ends g.S.ByteSource.tells g.K.ByteSink.tells _ c.in-Some.command plan _ _ _ _ c.in-Some.ensures relay
    c.run_command.ensures.ends)

pub returns-in-None-clause-complete_relays : goal.returns-in-None-clause-complete_relays
returns-in-None-clause-complete_relays g c = λ plan relay calm still. absurd (c.in-None.ensures.no_relay plan relay)

pub returns-in-Some-clause-tasks : goal.returns-in-Some-clause-tasks
returns-in-Some-clause-tasks g c = λ tasks.
    tasks-ends g.S.ByteSource.tells g.K.ByteSink.tells _ c.in-Some.command _ _ _ _ c.in-Some.ensures tasks c.run_command.ensures.ends

pub returns-in-Some-clause-unkept_tasks : goal.returns-in-Some-clause-unkept_tasks
returns-in-Some-clause-unkept_tasks g c = λ tasks.
    c.run_command.ensures.unkept (tasks-keeps _ c.in-Some.command c.in-Some.ensures tasks)

pub returns-in-Some-clause-stops_tasks : goal.returns-in-Some-clause-stops_tasks
returns-in-Some-clause-stops_tasks g c = λ tasks.
    tasks-stops g.S.ByteSource.tells g.K.ByteSink.tells _ c.in-Some.command _ _ _ _ c.in-Some.ensures tasks c.run_command.ensures.stops

pub returns-in-Some-clause-listens : goal.returns-in-Some-clause-listens
returns-in-Some-clause-listens g c = λ plan relay done.
    c.run_command.ensures.listens (relay-uses _ c.in-Some.command plan c.in-Some.ensures relay) done

pub returns-in-None-clause-listens : goal.returns-in-None-clause-listens
returns-in-None-clause-listens g c = λ plan relay done. absurd (c.in-None.ensures.no_relay plan relay)

pub returns-in-Some-clause-opens : goal.returns-in-Some-clause-opens
returns-in-Some-clause-opens g c = λ plan relay.
    relay-opens g.K.ByteSink.tells g.N.NonBlock.memory _ c.in-Some.command plan _ _ _ _ c.in-Some.ensures relay c.run_command.ensures.opens
