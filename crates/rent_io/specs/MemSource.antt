-- A source and a sink in memory as contracts see them: they fail at the calls that they are told to.
use Rattle.std.specs.Prelude.{ℕ, ◌==◌, Bool, true, List, []}
use Rattle.std.specs.List.{list_any}

-- What is left, the numbers of the reads that fail, how many reads were made, and how often it failed.
pub record SourceView : Type 0 where
  pub left : List ℕ
  pub failing : List ℕ
  pub calls : ℕ
  pub faults : ℕ

-- What was taken, the numbers of the writes and flushes that fail, how many of these were made, how often it failed, and whether it is
-- flushed.
pub record SinkView : Type 0 where
  pub taken : List ℕ
  pub failing : List ℕ
  pub calls : ℕ
  pub faults : ℕ
  pub is_flushed : Bool

-- A new source of bytes, whose reads of these numbers fail.
abbrev pub fresh_source : List ℕ → List ℕ → SourceView
fresh_source bytes failing = record { left = bytes; failing = failing; calls = 0; faults = 0 }

-- A new sink, whose calls of these numbers fail.
abbrev pub fresh_sink : List ℕ → SinkView
fresh_sink failing = record { taken = []; failing = failing; calls = 0; faults = 0; is_flushed = true }

-- The call of this number is one of those that fail.
abbrev pub is_to_fail : List ℕ → ℕ → Bool
is_to_fail failing call = list_any (λ number. number == call) failing
