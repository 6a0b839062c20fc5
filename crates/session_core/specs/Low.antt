-- What is so where memory ran out, of every command. Cited by `Ends` and `Tasking`.
use Rattle.std.specs.Prelude.{◌≡◌, Bool, IsTrue}
use Rattle.rent_io.specs.Call.{Reading, Writing}
use Rattle.session_core.specs.Top.{TookFew}

-- No count of faults rose, as far as the source and the sink tell it.
pub record NoFaults (tells_source tells_sink : Bool) (source : Reading) (sink : Writing) : Type 0 where
  pub read : IsTrue tells_source → source.later ≡ source.faults
  pub wrote : IsTrue tells_sink → sink.later ≡ sink.faults

-- Memory ran out: no more was taken than the input may have, and no count of faults rose.
pub record RanLow (tells_source tells_sink : Bool) (source : Reading) (sink : Writing) : Type 0 where
  pub few : IsTrue tells_source → TookFew source.left source.rest
  pub calm : NoFaults tells_source tells_sink source sink
