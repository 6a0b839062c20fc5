-- What a copy has taken and written.
use Rattle.std.proofs.Common.{subst, append_assoc, ◌≡◌, ◌∙◌, ◌≤◌, ◌<◌, ◌+◌, ◌-◌, ℕ, List, [], inl, inr}
use Rattle.std.proofs.Common.{◌++◌, length, drop, refl, sym, ap, arith}
use Rattle.std.proofs.lemmas.List.{length-drop, drop-drop}
use Rattle.std.proofs.lemmas.List.{append_cancel_left}
use Rattle.std.specs.Prelude.{◌&&◌, true, false, Bool, IsTrue, Result, Ok, Err}
use Rattle.rent_buf.specs.declared.fault.IoFault.{IoFault}
use Rattle.rent_io.specs.Counts.{Counts, Rose}
use Rattle.rent_io.specs.Polls.{IsFlushCaused}
use Rattle.rent_io.specs.Call.{Reading, Writing, Took, TookMore}
use Rattle.rent_io.specs.Source.{Gives}
use Rattle.rent_io.specs.Writer.{IfDone}
use Rattle.rent_io.specs.declared.poll.PollCount.TheVariants.{Ready}
use Rattle.copy_run.specs.Ending.{CopyEnds, WroteFirst}
use Rattle.copy_run.specs.declared.copying.Ending.{Ending}
use Rattle.copy_run.specs.declared.copying.Ending.TheVariants.{Done}

-- More bytes were taken.
pub gave_more : (before left rest room : List ℕ) (size n : ℕ) → Took before left (length before - length left) →
    Gives left rest room size n → Took before rest (length before - length rest)
gave_more before left rest room size n took gives =
    let given = length before - length left in
    let long : length left ≡ length before - given = ap length took.taken ∙ length-drop given before in
    let short : length rest ≡ length left - n = ap length gives.after ∙ length-drop n left in
    let all : given + n ≡ length before - length rest = omega (arith, took.there, gives.within, long, short) in
    subst (λ k. Took before rest k) all (record {
      there = omega (arith, took.there, gives.within, long);
      taken = gives.after ∙ ap (drop n) took.taken ∙ drop-drop n given before;
    })

-- More bytes were taken than a bound, where fewer are left than the bound lets be.
pub took-more-than : (before left : List ℕ) (most : ℕ) → Took before left (length before - length left) →
    length left + most < length before → TookMore most before left
took-more-than before left most took few =
    record { count = length before - length left; many = omega (arith, few); there = took.there; taken = took.taken }

-- What a copy leaves in a source and a sink is what it leaves in those that are given back.
pub given-back : {S K : Type 0} (left : S → List ℕ) (faults : S → ℕ) (taken : K → List ℕ) (counts : K → ℕ) (flushed : K → Bool)
    (ts tk : Bool) (most : ℕ) (prefix before had : List ℕ) (read wrote : ℕ) (s back : S) (k again : K) (ending now : Ending) →
    back ≡ s → again ≡ k → now ≡ ending →
    CopyEnds ts tk most prefix (record { left = before; rest = left s; faults = read; later = faults s })
    (record { taken = had; now = taken k; faults = wrote; later = counts k; flushed = flushed k }) ending →
    CopyEnds ts tk most prefix (record { left = before; rest = left back; faults = read; later = faults back })
    (record { taken = had; now = taken again; faults = wrote; later = counts again; flushed = flushed again }) now
given-back left faults taken counts flushed ts tk most prefix before had read wrote s back k again ending now source sink same ends =
    subst (λ x. CopyEnds ts tk most prefix (record { left = before; rest = left x; faults = read; later = faults x })
    (record { taken = had; now = taken again; faults = wrote; later = counts again; flushed = flushed again }) now) (sym source)
    (subst (λ x. CopyEnds ts tk most prefix (record { left = before; rest = left s; faults = read; later = faults s })
    (record { taken = had; now = taken x; faults = wrote; later = counts x; flushed = flushed x }) now) (sym sink)
    (subst (λ x. CopyEnds ts tk most prefix (record { left = before; rest = left s; faults = read; later = faults s })
    (record { taken = had; now = taken k; faults = wrote; later = counts k; flushed = flushed k }) x) (sym same) ends))

-- The first bytes of a text were written, where what was written and something behind it are the text behind what had been taken.
pub wrote-first : (taken now tail text : List ℕ) → now ≡ taken ++ drop (length taken) now → now ++ tail ≡ taken ++ text →
    WroteFirst text taken now
wrote-first taken now tail text grew same =
    let new = drop (length taken) now in
    let behind : new ++ tail ≡ text =
    append_cancel_left taken (new ++ tail) text (sym (append_assoc taken new tail) ∙ ap (λ xs. xs ++ tail) (sym grew) ∙ same) in
    record { written = new; rest = tail; text_is = sym behind; now_is = grew }

-- A poll that is done with a number did what it does then.
pub did : (P : Type 0) (result : Result ℕ IoFault) (n : ℕ) → result ≡ Ok n → IfDone (Ready result) P → P
did P (Ok m) n is done = done
did P (Err fault) n is done = (let never : ◌≡◌ {A = Result ℕ IoFault} (Err fault) (Ok n) = is in cc)

-- What tells with something that tells does so if it does alone.
pub tells-both : (tells : Bool) → IsTrue tells → IsTrue (tells && true)
tells-both true told = refl
tells-both false told = told

-- The first bytes of the prefix and the source's were written, where what was written, buffered, held and left, joined, is what had been
-- taken and then these.
pub copied-first : (ts tk : Bool) (text taken now held rest behind : List ℕ) → (IsTrue tk → now ≡ taken ++ drop (length taken) now) →
    (IsTrue ts → IsTrue tk → ((now ++ held) ++ rest) ++ behind ≡ taken ++ text) → IsTrue ts → IsTrue tk → WroteFirst text taken now
copied-first ts tk text taken now held rest behind grew same source sink =
    wrote-first taken now (held ++ (rest ++ behind)) text (grew sink)
    (sym (append_assoc now held (rest ++ behind)) ∙ sym (append_assoc (now ++ held) rest behind) ∙ same source sink)

-- A copy is done, where its source has ended within the bytes that it may give, and all was written.
pub copy-done : (ts tk : Bool) (most : ℕ) (prefix : List ℕ) (source : Reading) (sink : Writing) →
    (IsTrue ts → length source.left ≤ most) → (IsTrue ts → source.rest ≡ []) →
    (IsTrue ts → IsTrue tk → sink.now ≡ sink.taken ++ (prefix ++ source.left)) → IsTrue sink.flushed →
    CopyEnds ts tk most prefix source sink Done
copy-done ts tk most prefix source sink few ended all flushed =
    record { within = few; to_its_end = ended; written = all; flushed = flushed }

-- A flush that failed of a stream that takes a byte of each write: its count of faults rose.
pub fault_rose : (task : ℕ) (before now : Counts) (result : Result ℕ IoFault) (fault : IoFault) → result ≡ Err fault → now.zeros ≡ 0 →
    IsFlushCaused task before now (Ready result) → Rose before.faults now.faults
fault_rose task before now (Ok n) fault is none cause = (let never : ◌≡◌ {A = Result ℕ IoFault} (Ok n) (Err fault) = is in cc)
fault_rose task before now (Err other) fault is none (inl failed) = failed.0
fault_rose task before now (Err other) fault is none (inr zero) = absurd (omega (arith, zero.1, none))
