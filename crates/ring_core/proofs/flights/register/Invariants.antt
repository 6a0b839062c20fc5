use Rattle.std.proofs.Common.{◌≡◌, true, replicate}
use Rattle.ring_core.specs.Flights.{words_of}
use Rattle.ring_core.specs.Links.{AreLinked}
use Rattle.ring_core.proofs.flights.register.Given as goal

-- The first items have slots.
abbrev pub invariant-loop : goal.invariant-loop
invariant-loop l = record {
  flags : l.ranks.flags ≡ replicate l.counter true;
  room : l.ranks.room ≡ l.fn.ranks.room;
  linked : AreLinked l.links l.ranks.flags (words_of l.items.items);
}
