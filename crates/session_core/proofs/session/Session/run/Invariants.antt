use Rattle.std.proofs.Common.{◌≡◌, ◌≤◌, ◌++◌, length, take, drop, vec_len, vec_capacity}
use Rattle.machine.specs.Ledger.{empty}
use Rattle.machine.specs.Run.{after, replies}
use Rattle.session_core.specs.Session.{SessionStands}
use Rattle.session_core.proofs.session.Session.run.Given as goal

abbrev pub invariant-loop-event : goal.invariant-loop-event
invariant-loop-event l = record {
  count : vec_len l.replies ≡ l.event-index;
  room : length l.events ≤ vec_capacity l.replies;
  all : l.replies.items ++ replies (after (empty l.capacity) (take l.event-index l.events))
      (drop l.event-index l.events) ≡ replies (empty l.capacity) l.events;
  stands : SessionStands l.session (after (empty l.capacity) (take l.event-index l.events));
}
