use Rattle.std.proofs.Common.{◌≡◌, ◌≤◌, ◌+◌, ◌*◌, ◌-◌, IsTrue, List}
use Rattle.std.specs.Vec.{vec_len, vec_capacity}
use Rattle.rent_buf.specs.declared.plain.Buf.{Buf}
use Rattle.ready_driver.specs.Io.{IsLater}
use Rattle.ready_driver.specs.LegacyState.{LegacyState, ops_in}
use Rattle.std.specs.Prelude.{IsPermutation, IsTrue}
use Rattle.relay_net.specs.Forwarding.{AreUntouched, RoundTo}
use Rattle.relay_net.specs.Keyed.{KeepsKeys}
use Rattle.relay_net.specs.Relay.{AreGoing, IsSound, Serving, connections_in}
use Rattle.relay_net.specs.declared.connection.Connection.{Connection}
use Rattle.relay_net.proofs.state.serve_all.Given as goal

-- The connections before this place had their round.
abbrev pub invariant-loop-at : goal.invariant-loop-at
invariant-loop-at g l = record {
  sound : IsSound l.state.room (ops_in l.state.driver) l.state.driver.handling.table l.state.listener l.state.accept l.state.open.items;
  serving : (start : LegacyState g.row.I.Denot Buf) (was : List Connection)
      → Serving g.I.NonBlock.view g.I.NonBlock.tells start was l.initial.state.driver l.initial.state.open.items
      l.initial.ended.closed.items l.initial.ended.failed.items
      → Serving g.I.NonBlock.view g.I.NonBlock.tells start was l.state.driver l.state.open.items l.ended.closed.items
      l.ended.failed.items;
  names : IsPermutation (connections_in l.state.open.items l.ended.closed.items l.ended.failed.items)
      (connections_in l.initial.state.open.items l.initial.ended.closed.items l.initial.ended.failed.items);
  later : IsLater (g.I.NonBlock.view l.initial.state.driver.handling.io) (g.I.NonBlock.view l.state.driver.handling.io);
  same : (l.state.listener ≡ l.initial.state.listener) × (l.state.accept ≡ l.initial.state.accept);
  asks : l.state.room ≡ l.initial.state.room;
  within : l.at ≤ vec_len l.state.open;
  fewer : vec_len l.state.open ≤ vec_len l.initial.state.open;
  given : l.state.driver.given + 2 * vec_len l.state.open ≤ (l.initial.state.driver.given + 2 * vec_len l.initial.state.open) + 2 * l.at;
  closed : vec_len l.ended.closed + vec_len l.state.open ≤ vec_capacity l.ended.closed + l.at;
  failed : vec_len l.ended.failed + vec_len l.state.open ≤ vec_capacity l.ended.failed + l.at;
  keyed : KeepsKeys g.I.NonBlock.view g.I.NonBlock.memory l.initial.state.driver l.state.driver;
  forwards : IsTrue g.I.NonBlock.memory → (start : LegacyState g.row.I.Denot Buf) (was : List Connection)
      → AreUntouched g.I.NonBlock.view start was l.initial.state.driver l.initial.state.open.items
      → RoundTo g.I.NonBlock.view start was l.state.driver l.state.open.items l.at;
  closes : IsTrue g.I.NonBlock.tells
      → AreGoing g.I.NonBlock.view l.initial.state.driver l.initial.state.listener l.initial.state.open.items
      → (l.ended.closed ≡ l.initial.ended.closed) × AreGoing g.I.NonBlock.view l.state.driver l.state.listener l.state.open.items;
}

-- Each turn serves one or ends one.
abbrev pub decreases-loop-at : goal.decreases-loop-at
decreases-loop-at g l = vec_len l.state.open - l.at
