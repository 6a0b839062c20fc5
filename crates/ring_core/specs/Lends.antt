-- What a ring in memory ends as, where a `&mut` to its handles is returned.
use Rattle.std.specs.Prelude.{List}
use Rattle.std.specs.Borrow.{Lends, Fml, MutBor}
use Rattle.machine.specs.declared.world.HandleState.{HandleState}
use Rattle.ring_core.specs.Ring.{RingView}
use Rattle.ring_core.specs.contracts.mem_ring.MemRing.{the_row}
use Rattle.machine.specs.contracts.world.World.{the_row as world_row}

-- A ring with these handles.
abbrev pub with_world : RingView → List HandleState → RingView
with_world view world = record view { world = world }

-- Once the borrow r ends, the ring has the last handles written through r.
abbrev pub lends_world : MutBor RingView → MutBor (List HandleState) → Fml
lends_world s r = Lends the_row world_row s r (with_world s.now)
