-- Entries that may be pushed.
use Rattle.std.proofs.Common.{List, [], ◌∷◌, ◌++◌, IsTrue}
use Rattle.ring_core.specs.declared.entry.Entry.{Entry}
use Rattle.ring_core.specs.Entry.{may_link}
use Rattle.uring_driver.specs.Pending.{MayBePushed}

-- One more may be pushed too.
pub may-joined : (xs : List Entry) (e : Entry) → MayBePushed xs → IsTrue (may_link e e.body) → MayBePushed (xs ++ e ∷ [])
may-joined [] e may links = (links, tt)
may-joined (x ∷ xs) e may links = (may.0, may-joined xs e may.1 links)
