use Rattle.std.proofs.Common.{◌≡◌, length, take}
use Rattle.std.specs.List.{count_by}
use Rattle.machine.specs.Ledger.{empty}
use Rattle.machine.specs.Run.{after, replies}
use Rattle.session_core.specs.declared.generated.TheConstants.{ENTRIES}
use Rattle.session_core.specs.Session.{SessionStands}
use Rattle.session_core.specs.Top.{is_ready, is_refused}
use Rattle.session_core.proofs.generated.run_counted.Given as goal

-- The replies so far were counted.
abbrev pub invariant-loop-event : goal.invariant-loop-event
invariant-loop-event l = record {
  stands : SessionStands l.session (after (empty ENTRIES) (take (length l.yielded) l.fn.events.items));
  events : l.summary.events ≡ length l.fn.events.items;
  refused : l.summary.refused ≡ count_by is_refused (take (length l.yielded) (replies (empty ENTRIES) l.fn.events.items));
  ready : l.summary.ready ≡ count_by is_ready (take (length l.yielded) (replies (empty ENTRIES) l.fn.events.items));
}
