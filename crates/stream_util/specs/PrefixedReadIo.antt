-- A stream with a prefix in front of its reads.
use Rattle.std.specs.Prelude.{ℕ, ◌≡◌, ◌+◌, Bool, true, false, IsTrue, Option, Some, List, [], ◌++◌}
use Rattle.rent_buf.specs.declared.fault.IoFault.{IoFault}
use Rattle.rent_buf.specs.declared.fault.IoFault.TheVariants.{ReadFault}
use Rattle.rent_io.specs.declared.poll.PollBuf.{PollBuf}
use Rattle.rent_io.specs.Counts.{Counts}
use Rattle.rent_io.specs.Reader.{Reader, IfGiven}
use Rattle.stream_util.specs.declared.prefixed_io.Front.{Front}
use Rattle.stream_util.specs.declared.prefixed_io.Front.TheVariants.{Answered, Behind}

-- Such a stream is the one inside, the prefix, and whether the prefix has ended.
pub record Prefixed (I P : Type 0) : Type 0 where
  pub io : I
  pub prefix : P
  pub finished : Bool

-- The bytes that are left of the prefix: none, once it has ended.
abbrev pub prefix_left : Bool → List ℕ → List ℕ
prefix_left true left = []
prefix_left false left = left

-- The last fault of a read: before the prefix has ended it was the prefix's.
abbrev pub fault_of : Bool → Option IoFault → Option IoFault
fault_of true fault = fault
fault_of false fault = Some ReadFault

-- Its counts, by those of the one inside: faults of both count.
abbrev pub counts_behind : Bool → ℕ → Counts → Counts
counts_behind finished faults inner = record inner { faults = inner.faults + faults; fault = fault_of finished inner.fault }

-- It as a reader: what is left of the prefix comes before what is left of the one inside.
abbrev pub reader_behind : Bool → List ℕ → ℕ → Reader → Reader
reader_behind finished left faults inner = record
    { left = prefix_left finished left ++ inner.left; counts = counts_behind finished faults inner.counts }

-- A fact of a read that the prefix answered, and one of a read that is behind it.
abbrev pub IfAnswered : {T : Type 0} → Front T → (PollBuf T → Type 0) → Type 0
IfAnswered (Answered answer) P = P answer
IfAnswered (Behind buf) P = Unit {0}

abbrev pub IfBehind : {T : Type 0} → Front T → (T → Type 0) → Type 0
IfBehind (Answered answer) P = Unit {0}
IfBehind (Behind buf) P = P buf

-- The rule for a read that the prefix may answer. Until the prefix has ended the stream inside is left alone, and a read gives no byte only
-- where there is no room: so the first read of the prefix that gives none ends it. Where it tells its bytes none was left then. Once it has
-- ended it is read no more.
pub record PrefixRule {I P T : Type 0} (tells : Bool) (left : P → List ℕ) (before now : Prefixed I P) (space : ℕ) (result : PollBuf T) :
    Type 0
  where
    pub first : now.finished ≡ false → now.io ≡ before.io
    pub some : now.finished ≡ false → IfGiven result (λ n. n ≡ 0 → space ≡ 0)
    pub ends : before.finished ≡ false → now.finished ≡ true → IsTrue tells → left before.prefix ≡ []
    pub stays : before.finished ≡ true → (now.finished ≡ true) × (now.prefix ≡ before.prefix)

-- Such a read of the prefix was made, and the prefix has ended: the stream inside is to be read.
pub record PrefixEnds {I P : Type 0} (tells : Bool) (left : P → List ℕ) (before now : Prefixed I P) : Type 0 where
  pub finished : now.finished ≡ true
  pub none_left : before.finished ≡ false → IsTrue tells → left before.prefix ≡ []
  pub stays : before.finished ≡ true → now.prefix ≡ before.prefix
