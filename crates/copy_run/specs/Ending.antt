-- How a copy ends: what it has then read and written. `copy_all` cites `CopyEnds`.
use Rattle.std.specs.Prelude.{ℕ, ◌≡◌, ◌≤◌, Bool, IsTrue, List, [], ◌++◌, length}
use Rattle.rent_buf.specs.Counts.{Rose}
use Rattle.rent_io.specs.Call.{Reading, Writing, TookMore}
use Rattle.copy_run.specs.declared.copying.Ending.{Ending}
use Rattle.copy_run.specs.declared.copying.Ending.TheVariants.{Done, TooLong, ReadFault, WriteFault, OutOfMemory}

-- The first bytes of a text were written, behind those that had been taken.
pub record WroteFirst (text taken now : List ℕ) : Type 0 where
  pub written : List ℕ
  pub rest : List ℕ
  pub text_is : text ≡ written ++ rest
  pub now_is : now ≡ taken ++ written

-- All was copied. Where the source tells its bytes there were no more than may be, and they were read to their end; where the sink tells
-- its bytes too, the prefix and then all of those bytes were written, and nothing else.
pub record CopiedAll (tells_source tells_sink : Bool) (most : ℕ) (prefix : List ℕ) (source : Reading) (sink : Writing) : Type 0 where
  pub within : IsTrue tells_source → length source.left ≤ most
  pub to_its_end : IsTrue tells_source → source.rest ≡ []
  pub written : IsTrue tells_source → IsTrue tells_sink → sink.now ≡ sink.taken ++ (prefix ++ source.left)
  pub flushed : IsTrue sink.flushed

-- The first bytes of the prefix and the source's bytes, joined, were written.
abbrev pub CopiedFirst : Bool → Bool → List ℕ → Reading → Writing → Type 0
CopiedFirst tells_source tells_sink prefix source sink =
    IsTrue tells_source → IsTrue tells_sink → WroteFirst (prefix ++ source.left) sink.taken sink.now

-- Nothing was read or written, and nothing failed.
pub record NothingDone (source : Reading) (sink : Writing) : Type 0 where
  pub unread : source.rest ≡ source.left
  pub unwritten : sink.now ≡ sink.taken
  pub no_read_fault : source.later ≡ source.faults
  pub no_write_fault : sink.later ≡ sink.faults

-- What a copy of at most so many bytes behind a prefix has done, by how it ended.
abbrev pub CopyEnds : Bool → Bool → ℕ → List ℕ → Reading → Writing → Ending → Type 0
CopyEnds tells_source tells_sink most prefix source sink Done = CopiedAll tells_source tells_sink most prefix source sink
CopyEnds tells_source tells_sink most prefix source sink TooLong =
    (IsTrue tells_source → TookMore most source.left source.rest) × CopiedFirst tells_source tells_sink prefix source sink
CopyEnds tells_source tells_sink most prefix source sink ReadFault =
    Rose source.faults source.later × CopiedFirst tells_source tells_sink prefix source sink
CopyEnds tells_source tells_sink most prefix source sink WriteFault =
    Rose sink.faults sink.later × CopiedFirst tells_source tells_sink prefix source sink
CopyEnds tells_source tells_sink most prefix source sink OutOfMemory = NothingDone source sink
