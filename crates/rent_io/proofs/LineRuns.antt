-- Polls of reads of lines, one behind the other.
use Rattle.std.proofs.Common.{◌≡◌, ◌∙◌, ℕ, ◌+◌, ◌≤◌, ◌⊎◌, inl, inr, List, [], ◌∷◌, ◌++◌, Bool, length, sym, ap, subst, arith}
use Rattle.std.proofs.Common.{add-zero, append_assoc, append-nil, length-append, true}
use Rattle.std.specs.Prelude.{◌≢◌, IsTrue, Result, Ok, Err, IfErr}
use Rattle.std.proofs.lemmas.List.Elements.{All-append, All-nil}
use Rattle.rent_buf.specs.declared.fault.IoFault.{IoFault}
use Rattle.rent_buf.specs.declared.fault.IoFault.TheVariants.{OutOfMemory}
use Rattle.rent_io.specs.declared.poll.Step.{Step}
use Rattle.rent_io.specs.Completeness.{IsNoLine, IsQuiet}
use Rattle.rent_io.specs.Counts.{Counts}
use Rattle.rent_io.specs.Polls.{Fails}
use Rattle.rent_io.specs.Reader.{AtEnd, Reader, WasFront}
use Rattle.rent_io.specs.ReadState.{ReadEnd}
use Rattle.rent_io.specs.ReadUntil.{Until, Lacks, IsLine, IsWholeLine, added_to, ReadsOn, AddsLine, StopsAdding, UntilEnd, ReadsUntil}
use Rattle.rent_io.specs.ReadUntil.{HasAdded, UntilRunEnd}
use Rattle.rent_io.specs.ReadLine.{Lining, TextOf, lined, LineGoesOn, EndsLine, StopsLine, ReadsLine, HasLined, LineRunEnd}
use Rattle.rent_io.specs.State.{Advances, Ran}
use Rattle.rent_io.proofs.ReadStates.{gave_none, read_advances, read_ends, read_more, read_short}
use Rattle.rent_io.proofs.Runs.{fails_later}

-- Bytes without a delimiter, and then others without it.
lacks_both : (d : ℕ) (u v : List ℕ) → Lacks d u → Lacks d v → Lacks d (u ++ v)
lacks_both d u v first second = All-append (λ byte. byte ≢ d) u v first second

-- Bytes without a delimiter, and then a line, or none at the end, are a whole line.
whole_line : (tells : Bool) (d : ℕ) (u v : List ℕ) (mid now : Reader) → Lacks d u → WasFront tells mid.left v now.left
    → IsLine d v ⊎ ((v ≡ []) × AtEnd tells mid now) → IsWholeLine tells d (u ++ v) now.left
whole_line tells d u v mid now others front (inl line) = inl (record {
  before = u ++ line.before;
  others = lacks_both d u line.before others line.others;
  ends = ap (λ l. u ++ l) line.ends ∙ sym (append_assoc u line.before (d ∷ []));
})
whole_line tells d u v mid now others front (inr end) = inr (
  subst (Lacks d) (sym (ap (λ l. u ++ l) end.0 ∙ append-nil u)) others,
  λ t. sym (front t ∙ ap (λ l. l ++ now.left) end.0) ∙ end.1.0 t,
)

-- A fault that came later came, or memory ran out.
cause_later : (before mid now : Counts) (fault : IoFault) → before.faults ≤ mid.faults → Fails mid now fault ⊎ (fault ≡ OutOfMemory)
    → Fails before now fault ⊎ (fault ≡ OutOfMemory)
cause_later before mid now fault stay (inl failed) = inl (fails_later before mid now fault stay failed)
cause_later before mid now fault stay (inr none) = inr none

module _ (u g : Until) (got : List ℕ) (lacking : Lacks u.delim got) (same : g ≡ added_to u got) where
  -- Bytes that are added in two steps are added in one.
  added_twice : (more : List ℕ) → added_to g more ≡ added_to u (got ++ more)
  added_twice more =
      let make : List ℕ → ℕ → Until = λ b n. record u { bytes = b; added = n } in
      let count : (u.added + length got) + length more ≡ u.added + length (got ++ more) = omega (arith, length-append got more) in
      ap (λ x. added_to x more) same ∙ ap (λ b. make b ((u.added + length got) + length more)) (append_assoc u.bytes got more)
      ∙ ap (make (u.bytes ++ (got ++ more))) count

  -- A poll that goes on adds its bytes.
  until_adds : (next : Until) (more : List ℕ) → ReadsOn g next more → Lacks u.delim (got ++ more) × (next ≡ added_to u (got ++ more))
  until_adds next more reads = (
    lacks_both u.delim got more lacking (subst (λ d. Lacks d more) (ap (λ x. x.delim) same) reads.1),
    reads.2 ∙ added_twice more,
  )

  -- One that adds a line ends a whole line.
  until_is_done : (tells : Bool) (mid now : Reader) (back : List ℕ) (n : ℕ) (more : List ℕ) → WasFront tells mid.left more now.left
      → AddsLine (λ l. IsLine g.delim l ⊎ ((l ≡ []) × AtEnd tells mid now)) g back n more
      → AddsLine (λ l. IsWholeLine tells u.delim l now.left) u back n (got ++ more)
  until_is_done tells mid now back n more front done = (
    whole_line tells u.delim got more mid now lacking front
        (subst (λ d. IsLine d more ⊎ ((more ≡ []) × AtEnd tells mid now)) (ap (λ x. x.delim) same) done.0),
    done.1 ∙ ap (λ x. x.bytes) (added_twice more),
    done.2 ∙ ap (λ x. x.added) (added_twice more),
  )

  -- What a fault leaves.
  until_stops : (before mid now : Reader) (back : List ℕ) (fault : IoFault) → before.counts.faults ≤ mid.counts.faults
      → StopsAdding mid now g back fault [] → StopsAdding before now u back fault got
  until_stops before mid now back fault stay stops = (
    lacking,
    stops.1 ∙ append-nil g.bytes ∙ ap (λ x. x.bytes) same,
    cause_later before.counts mid.counts now.counts fault stay stops.2,
  )

-- No polls of a read up to a delimiter.
pub until_none : (tells : Bool) (reader : Reader) (u : Until) → HasAdded tells reader reader u u
until_none tells reader u = gave_none tells reader (λ got. Lacks u.delim got × (u ≡ added_to u got)) (
  All-nil (λ byte. byte ≢ u.delim),
  ap (λ b. record u { bytes = b }) (sym (append-nil u.bytes))
      ∙ ap (λ n. record u { bytes = u.bytes ++ []; added = n }) (sym (add-zero u.added)),
)

module _ (tells : Bool) (task : ℕ) (before mid now : Reader) (u g : Until) (step : Step Until (Result ℕ IoFault × List ℕ)) where
  -- One poll more of a read up to a delimiter.
  pub until_more : before.counts.faults ≤ mid.counts.faults → HasAdded tells before mid u g → ReadsUntil tells task mid now g step
      → Ran (UntilRunEnd tells before now u) (HasAdded tells before now u) step
  until_more stay has is =
      read_more tells before mid now task g (λ next got. Lacks u.delim got × (next ≡ added_to u got)) (ReadsOn g) (UntilEnd tells mid now g)
      (UntilRunEnd tells before now u) step has (λ next got more it goes. until_adds u g got it.0 it.1 next more goes)
      (λ end is. read_ends tells before mid now (λ got. Lacks u.delim got × (g ≡ added_to u got))
      (AddsLine (λ l. IsLine g.delim l ⊎ ((l ≡ []) × AtEnd tells mid now)) g end.1)
      (AddsLine (λ l. IsWholeLine tells u.delim l now.left) u end.1) (StopsAdding mid now g end.1) (StopsAdding before now u end.1)
      end.0 has
      (λ n got more it done front. until_is_done u g got it.0 it.1 tells mid now end.1 n more front done)
      (λ fault got it stops. until_stops u g got it.0 it.1 before mid now end.1 fault stay stops) is) is

  -- A poll of it waits for a cause, or moves something; and how it ends where no count rose.
  pub until_advances : ReadsUntil tells task mid now g step
      → Advances (λ u. u.added) (λ u. 0) (λ end. IfErr end.0 (λ fault. fault ≡ OutOfMemory)) mid.counts now.counts g step
  until_advances is =
      read_advances tells mid now task (λ u. u.added) g (UntilEnd tells mid now g) (λ end. IfErr end.0 (λ fault. fault ≡ OutOfMemory))
      (ReadsOn g) step
      (λ end is quiet. read_short tells mid now (AddsLine (λ l. IsLine g.delim l ⊎ ((l ≡ []) × AtEnd tells mid now)) g end.1)
      (StopsAdding mid now g end.1) (λ fault. fault ≡ OutOfMemory) end.0 is
      (λ fault same stops. elim stops.2 [ inl failed ↦ absurd (quiet.0 failed.0) | inr none ↦ none ]))
      (λ next got goes. omega (arith, goes.0, ap (λ x. x.added) goes.2)) is

module _ (l g : Lining) (got : List ℕ) (lacking : Lacks 10 got) (same : g ≡ lined l got) where
  -- Bytes that are added to a line in two steps are added in one.
  lined_twice : (more : List ℕ) → lined g more ≡ lined l (got ++ more)
  lined_twice more = ap (λ x. lined x more) same ∙ ap (λ b. record l { added = b }) (append_assoc l.added got more)

  -- A poll that ends the line ends the whole line.
  line_is_done : (tells : Bool) (mid now : Reader) (back : List ℕ) (end : Result ℕ IoFault) (n : ℕ) (more : List ℕ)
      → WasFront tells mid.left more now.left → EndsLine (λ x. IsLine 10 x ⊎ ((x ≡ []) × AtEnd tells mid now)) g back end n more
      → EndsLine (λ x. IsWholeLine tells 10 x now.left) l back end n (got ++ more)
  line_is_done tells mid now back end n more front done = (
    whole_line tells 10 got more mid now lacking front done.0,
    done.1 ∙ ap (λ x. length x.added) (lined_twice more),
    subst (λ (x : Lining). TextOf x.text x.added (Ok n) end back) (lined_twice more) done.2,
  )

  -- What a fault leaves.
  line_stops : (before mid now : Reader) (back : List ℕ) (end : Result ℕ IoFault) (fault : IoFault)
      → before.counts.faults ≤ mid.counts.faults → StopsLine mid now g back end fault [] → StopsLine before now l back end fault got
  line_stops before mid now back end fault stay stops = (
    lacking,
    cause_later before.counts mid.counts now.counts fault stay stops.1,
    subst (λ (x : Lining). TextOf x.text x.added (Err fault) end back) (lined_twice [] ∙ ap (lined l) (append-nil got)) stops.2,
  )

-- No polls of a read of a line.
pub line_none : (tells : Bool) (reader : Reader) (l : Lining) → HasLined tells reader reader l l
line_none tells reader l = gave_none tells reader (λ got. Lacks 10 got × (l ≡ lined l got)) (
  All-nil (λ byte. byte ≢ 10),
  ap (λ b. record l { added = b }) (sym (append-nil l.added)),
)

-- What a read of a line added at last is the whole line that was left.
last_line : (tells : Bool) (before now : Reader) (got : List ℕ) → WasFront tells before.left got now.left → IsTrue tells
    → IsLine 10 got ⊎ ((got ≡ []) × AtEnd tells before now) → IsWholeLine true 10 got now.left
last_line tells before now got front t line =
    elim (whole_line tells 10 [] got before now (All-nil (λ byte. byte ≢ 10)) front line) [
      | inl is ↦ inl is
      | inr none ↦ inr (none.0, λ _. none.1 t)
    ]

-- A read of a line ends so where no count rose.
line_short : (tells : Bool) (before now : Reader) (l : Lining) (back : List ℕ) (end outcome : Result ℕ IoFault)
    → ReadEnd tells before now (EndsLine (λ x. IsLine 10 x ⊎ ((x ≡ []) × AtEnd tells before now)) l back end)
    (StopsLine before now l back end) outcome → IsQuiet before.counts now.counts → IfErr end (IsNoLine tells l.added before.left)
line_short tells before now l back (Ok n) outcome is quiet = tt
line_short tells before now l back (Err fault) (Ok n) has quiet = elim has.is.2 [
  | inl text ↦ absurd (cc text.1)
  | inr none ↦ inr (
    let is = none.1 in cc,
    λ t text. none.0 (text has.got now.left (has.front t) (last_line tells before now has.got has.front t has.is.0)),
  )
]
line_short tells before now l back (Err fault) (Err cause) fails quiet = elim fails.1.1 [
  | inl failed ↦ absurd (quiet.0 failed.0)
  | inr none ↦ elim fails.1.2 [
    | inl text ↦ let is = text.1 in inl cc
    | inr text ↦ let is = text.1 in inl cc
  ]
]

module _ {T : Type 0} (tells : Bool) (task : ℕ) (before mid now : Reader) (bytes : T → List ℕ) (l g : Lining)
    (step : Step Lining (Result ℕ IoFault × T)) where
  -- One poll more of a read of a line.
  pub line_more : before.counts.faults ≤ mid.counts.faults → HasLined tells before mid l g → ReadsLine tells task mid now bytes g step
      → Ran (λ end. LineRunEnd tells before now l (bytes end.1) end.0) (HasLined tells before now l) step
  line_more stay has is =
      read_more tells before mid now task g (λ next got. Lacks 10 got × (next ≡ lined l got)) (LineGoesOn g) _
      (λ end. LineRunEnd tells before now l (bytes end.1) end.0) step has
      (λ next got more it goes. (lacks_both 10 got more it.0 goes.1, goes.2 ∙ lined_twice l g got it.0 it.1 more))
      (λ end is. record {
        outcome = is.outcome;
        is = read_ends tells before mid now (λ got. Lacks 10 got × (g ≡ lined l got))
            (EndsLine (λ x. IsLine 10 x ⊎ ((x ≡ []) × AtEnd tells mid now)) g (bytes end.1) end.0)
            (EndsLine (λ x. IsWholeLine tells 10 x now.left) l (bytes end.1) end.0)
            (StopsLine mid now g (bytes end.1) end.0) (StopsLine before now l (bytes end.1) end.0) is.outcome has
            (λ n got more it done front. line_is_done l g got it.0 it.1 tells mid now (bytes end.1) end.0 n more front done)
            (λ fault got it stops. line_stops l g got it.0 it.1 before mid now (bytes end.1) end.0 fault stay stops) is.is;
      }) is

  -- A poll of it waits for a cause, or moves something; and how it ends where no count rose.
  pub line_advances : ReadsLine tells task mid now bytes g step
      → Advances (λ l. length l.added) (λ l. 0) (λ end. IfErr end.0 (IsNoLine tells g.added mid.left)) mid.counts now.counts g step
  line_advances is =
      read_advances tells mid now task (λ l. length l.added) g _ (λ end. IfErr end.0 (IsNoLine tells g.added mid.left)) (LineGoesOn g) step
      (λ end is quiet. line_short tells mid now g (bytes end.1) end.0 is.outcome is.is quiet)
      (λ next got goes. omega (arith, goes.0, ap (λ x. length x.added) goes.2, length-append g.added got)) is
