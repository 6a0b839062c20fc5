-- Polls of a state that reads, one behind the other.
use Rattle.std.proofs.Common.{◌≡◌, ◌∙◌, ℕ, ◌<◌, ◌≤◌, inl, inr, List, [], ◌++◌, Bool, length, sym, ap, subst, arith, refl, append_assoc}
use Rattle.std.specs.Prelude.{IsTrue, Result, Ok, Err, IfErr}
use Rattle.rent_buf.specs.declared.fault.IoFault.{IoFault}
use Rattle.rent_io.specs.declared.poll.Step.{Step}
use Rattle.rent_io.specs.declared.poll.Step.TheVariants.{Ready, Pending, Again}
use Rattle.rent_io.specs.Completeness.{IsQuiet, IsShort}
use Rattle.rent_io.specs.Reader.{Reader, WasFront}
use Rattle.rent_io.specs.ReadState.{EndsEarly, Gave, ReadPoll, ReadEnd, ReadRunEnd}
use Rattle.rent_io.specs.State.{Advances, Ran}
use Rattle.rent_io.proofs.Runs.{rose_later}

-- No bytes.
pub gave_none : (tells : Bool) (reader : Reader) (P : List ℕ → Type 0) → P [] → Gave tells reader reader P
gave_none tells reader P is = record { got = []; is = is; front = λ t. refl }

module _ (tells : Bool) (before mid now : Reader) where
  -- Bytes, and then others, are both of them joined.
  gave_twice : (P Q R : List ℕ → Type 0) → Gave tells before mid P → Gave tells mid now Q
      → ((u v : List ℕ) → P u → Q v → WasFront tells mid.left v now.left → R (u ++ v)) → Gave tells before now R
  gave_twice P Q R first second both = record {
    got = first.got ++ second.got;
    is = both first.got second.got first.is second.is second.front;
    front = λ t. first.front t ∙ ap (λ l. first.got ++ l) (second.front t) ∙ sym (append_assoc first.got second.got now.left);
  }

  -- Bytes, and then none.
  gave_still : (P R : List ℕ → Type 0) → Gave tells before mid P → (IsTrue tells → mid.left ≡ now.left)
      → ((u : List ℕ) → P u → R u) → Gave tells before now R
  gave_still P R first same still = record {
    got = first.got;
    is = still first.got first.is;
    front = λ t. first.front t ∙ ap (λ l. first.got ++ l) (same t);
  }

  -- How a poll ends is how the polls end.
  pub read_ends : {N : Type 0} (has : List ℕ → Type 0) (done all : N → List ℕ → Type 0) (stops stopped : IoFault → List ℕ → Type 0)
      (end : Result N IoFault) → Gave tells before mid has
      → ((n : N) (u v : List ℕ) → has u → done n v → WasFront tells mid.left v now.left → all n (u ++ v))
      → ((fault : IoFault) (u : List ℕ) → has u → stops fault [] → stopped fault u) → ReadEnd tells mid now done stops end
      → ReadRunEnd tells before now all stopped end
  read_ends has done all stops stopped (Ok n) gave joins later is = gave_twice has (done n) (all n) gave is (joins n)
  read_ends has done all stops stopped (Err fault) gave joins later is =
      gave_still has (stopped fault) gave is.0 (λ u it. later fault u it is.1)

  -- One poll more: what it does is added to what the polls before it did.
  pub read_more : {S R : Type 0} (task : ℕ) (g : S) (has goes : S → List ℕ → Type 0) (ends ended : R → Type 0) (step : Step S R)
      → Gave tells before mid (has g) → ((next : S) (u v : List ℕ) → has g u → goes next v → has next (u ++ v))
      → ((end : R) → ends end → ended end) → ReadPoll tells task mid now g ends goes step
      → Ran ended (λ next. Gave tells before now (has next)) step
  read_more task g has goes ends ended (Ready end) gave adds later is = later end is
  read_more task g has goes ends ended (Pending next) gave adds later is =
      gave_still (has g) (has next) gave is.1 (λ u it. subst (λ x. has x u) (sym is.0) it)
  read_more task g has goes ends ended (Again next) gave adds later (inl broken) =
      gave_still (has g) (has next) gave broken.1 (λ u it. subst (λ x. has x u) (sym broken.0) it)
  read_more task g has goes ends ended (Again next) gave adds later (inr more) =
      gave_twice (has g) (goes next) (has next) gave more (λ u v it that front. adds next u v it that)

  -- A read that ended too early now did so in all polls.
  pub early_later : (fault : IoFault) → before.counts.zeros ≤ mid.counts.zeros → EndsEarly tells mid now fault
      → EndsEarly tells before now fault
  early_later fault stay is = (is.0, is.1, rose_later before.counts.zeros mid.counts.zeros now.counts.zeros stay is.2)

module _ (tells : Bool) (before now : Reader) where
  -- A poll waits for a cause, or its bytes move something; and how it ends where no count rose.
  pub read_advances : {S R : Type 0} (task : ℕ) (moved : S → ℕ) (s : S) (ends short : R → Type 0) (goes : S → List ℕ → Type 0)
      (step : Step S R) → ((end : R) → ends end → IsQuiet before.counts now.counts → short end)
      → ((next : S) (got : List ℕ) → goes next got → moved s < moved next) → ReadPoll tells task before now s ends goes step
      → Advances moved (λ t. 0) short before.counts now.counts s step
  read_advances task moved s ends short goes (Ready end) quiet grows is = quiet end is
  read_advances task moved s ends short goes (Pending next) quiet grows is = (is.0, is.2.0)
  read_advances task moved s ends short goes (Again next) quiet grows (inl broken) = inl (broken.0, broken.2)
  read_advances task moved s ends short goes (Again next) quiet grows (inr more) = inr (omega (arith, grows next more.got more.is))

  -- How a poll ends where no count rose.
  pub read_short : {N : Type 0} (done : N → List ℕ → Type 0) (stops : IoFault → List ℕ → Type 0) (short : IoFault → Type 0)
      (end : Result N IoFault) → ReadEnd tells before now done stops end
      → ((fault : IoFault) → (IsTrue tells → before.left ≡ now.left) → stops fault [] → short fault) → IfErr end short
  read_short done stops short (Ok n) is why = tt
  read_short done stops short (Err fault) is why = why fault is.0 is.1

  -- A read that ended too early was short of what it wanted.
  pub early_short : (wanted : ℕ) (fault : IoFault) → (IsTrue tells → before.left ≡ now.left) → 0 < wanted
      → EndsEarly tells before now fault → IsShort tells before now wanted fault
  early_short wanted fault same some is = (is.0, (λ t. omega (arith, ap length (same t ∙ is.1 t), some)), is.2)
