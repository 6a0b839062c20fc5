use Rattle.std.proofs.Common.{◌≡◌, ◌≤◌, ◌++◌, ℕ, length, take, drop, vec_len, vec_capacity}
use Rattle.machine.specs.Ledger.{empty}
use Rattle.ready_driver.specs.Spelled.{spelled_after, spelled_replies}
use Rattle.ready_run.specs.ReadySession.{ReadyStands}
use Rattle.ready_run.proofs.session.ReadySession.run.Given as goal

abbrev pub invariant-loop-event : goal.invariant-loop-event
invariant-loop-event l = record {
  count : vec_len l.replies ≡ l.event-index;
  room : length l.events ≤ vec_capacity l.replies;
  all : (capacity : ℕ) → l.replies.items ++ spelled_replies (spelled_after (empty capacity) (take l.event-index l.events))
      (drop l.event-index l.events) ≡ spelled_replies (empty capacity) l.events;
  stands : (capacity : ℕ) → ReadyStands l.session (spelled_after (empty capacity) (take l.event-index l.events));
}
