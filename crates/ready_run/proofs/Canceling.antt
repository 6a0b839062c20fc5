-- What the events of cancellers make of a session.
use Rattle.std.proofs.Common.{◌≡◌, ◌<◌, ◌≤◌, ◌+◌, inl, inr, ℕ, Bool, true, false, List, [], ◌∷◌, ◌++◌, length, map, Option, None, Some, sym}
use Rattle.std.proofs.Common.{◌∙◌, ap, subst, slice_get, unwrap_or, option_map, length-append, arith}
use Rattle.std.proofs.lemmas.List.{length-map, map-append}
use Rattle.std.proofs.lemmas.Option.{slice_get_within, slice_get_cases}
use Rattle.handle_core.specs.Table.{holders_at}
use Rattle.rent_buf.specs.Buf.{built}
use Rattle.machine.specs.Lists.{amended}
use Rattle.machine.specs.Step.{group_of}
use Rattle.machine.specs.declared.ledger.Event.TheVariants.{NewCanceller, NewHandle, CancelAll}
use Rattle.machine.specs.declared.ledger.Reply.TheVariants.{Canceller, CancelHandle, Cancels}
use Rattle.machine.proofs.Amended.{length-amended, changed-cases, joined-cases}
use Rattle.driver_core.specs.Tokens.{token_at, by_number, cancellers_in, handles_in}
use Rattle.ready_driver.specs.Legacy.{Legacy, seen}
use Rattle.ready_driver.specs.LegacyStands.{LegacyStands, CancellerFor, HandleFor, CancelsFor}
use Rattle.ready_driver.specs.LegacyState.{group_count}
use Rattle.ready_driver.specs.LegacyStep.{legacy_answered, legacy_step, cancel_group}
use Rattle.ready_driver.specs.MemIo.{memory_view}
use Rattle.ready_run.specs.declared.inner.Inner.{Inner}
use Rattle.ready_run.specs.ReadySession.{AreBelow, HasGroups, SessionStands, SessionAnswers}
use Rattle.ready_run.specs.Submission.{IsUnmade}
use Rattle.ready_run.proofs.Kept.{canceller-there, canceller-past, canceller-renewed}
use Rattle.ready_run.proofs.Refusals.{unrefused-new_handle, unrefused-cancel_all}
use Rattle.ready_run.proofs.Steps.{Single, KeepsOps, same-driver, stands-beside}

-- There are as many groups in the driver as in the one as plain data.
as-many : (session : Inner) (D : Legacy) → SessionStands session D → length D.groups ≡ group_count session.driver
as-many session D stands =
    ap (λ marks. length marks) (sym stands.driver.groups.marks) ∙ length-map session.driver.members.groups (λ group. group.canceled)

-- The canceller of a number is of the group that it has as plain data.
pub canceller-at : (session : Inner) (D : Legacy) (c g : ℕ) → SessionStands session D →
    token_at (cancellers_in session.tokens) c ≡ Some g → slice_get D.cancellers c ≡ Some g
canceller-at session D c g stands there =
    canceller-there D.cancellers c g (ap (λ xs. token_at xs c) (sym stands.groups.cancellers) ∙ there)

-- Where there is none, none was created.
pub canceller-none : (session : Inner) (D : Legacy) (c : ℕ) → SessionStands session D →
    token_at (cancellers_in session.tokens) c ≡ None → length D.cancellers ≤ c
canceller-none session D c stands none =
    canceller-past D.cancellers c (ap (λ xs. token_at xs c) (sym stands.groups.cancellers) ∙ none)

-- The group of a canceller was made in the driver.
pub canceller-made : (session : Inner) (D : Legacy) (c g : ℕ) → SessionStands session D →
    token_at (cancellers_in session.tokens) c ≡ Some g → g < group_count session.driver
canceller-made session D c g stands there =
    subst (λ k. g < k) (as-many session D stands) (stands.groups.cancellers_made c g (canceller-at session D c g stands there))

-- So was that of a cancel handle.
pub handle-made : (session : Inner) (D : Legacy) (handle g : ℕ) → SessionStands session D →
    slice_get (handles_in session.tokens) handle ≡ Some g → g < group_count session.driver
handle-made session D handle g stands there =
    subst (λ k. g < k) (as-many session D stands)
    (stands.groups.handles_made handle g (ap (λ xs. slice_get xs handle) (sym stands.groups.handles) ∙ there))

-- A cancel handle that isn't there was never created.
pub handle-unmade : (session : Inner) (D : Legacy) (under : Option ℕ) (handle : ℕ) → SessionStands session D → under ≡ Some handle →
    slice_get (handles_in session.tokens) handle ≡ None → IsUnmade D under
handle-unmade session D under handle stands is none = record {
  handle = handle;
  under_is = is;
  past = elim (slice_get_cases D.cancel_handles handle).1 [
    | inl e ↦ absurd (let both : ◌≡◌ {A = Option ℕ} None (Some _) =
        sym none ∙ ap (λ xs. slice_get xs handle) stands.groups.handles ∙ e.2 in cc)
    | inr e ↦ e.0
  ];
}

-- Numbers below a count are below a greater one.
below-more : (numbers : List ℕ) (count more : ℕ) → count ≤ more → AreBelow numbers count → AreBelow numbers more
below-more numbers count more greater below place number there = (let b = below place number there in omega (arith, b, greater))

-- So they are with one more that is.
below-joined : (numbers : List ℕ) (one count : ℕ) → one < count → AreBelow numbers count → AreBelow (numbers ++ one ∷ []) count
below-joined numbers one count within below place number there = elim (joined-cases numbers one place) [
  | inl e ↦ (let same : one ≡ number = (let both = sym e.2 ∙ there in cc) in omega (arith, same, within))
  | inr e ↦ below place number (sym e.1 ∙ there)
]

-- A number that was looked up, and was changed into another.
changed-is : (found : Option ℕ) (one number : ℕ) → option_map (λ old. one) found ≡ Some number → one ≡ number
changed-is None one number is = absurd (let none : ◌≡◌ {A = Option ℕ} None (Some number) = is in cc)
changed-is (Some old) one number is = (let both : ◌≡◌ {A = Option ℕ} (Some one) (Some number) = is in cc)

-- And where one was changed into another that is.
below-changed : (numbers : List ℕ) (c one count : ℕ) → one < count → AreBelow numbers count →
    AreBelow (amended numbers c (λ old. one)) count
below-changed numbers c one count within below place number there = elim (changed-cases (λ old. one) numbers c place) [
  | inl e ↦ (let same = changed-is (slice_get numbers c) one number (sym e.1 ∙ there) in omega (arith, same, within))
  | inr e ↦ below place number (sym e.1 ∙ there)
]

-- One group more.
one-more : (groups : List Bool) (mark : Bool) → length (groups ++ mark ∷ []) ≡ length groups + 1
one-more groups mark = length-append groups (mark ∷ [])

-- A new canceller is the session's answer.
pub answers-canceller : (old new : Inner) (D : Legacy) (group number : ℕ) → SessionStands old D →
    by_number new.tokens ≡ by_number old.tokens → cancellers_in new.tokens ≡ cancellers_in old.tokens ++ Some group ∷ [] →
    handles_in new.tokens ≡ handles_in old.tokens → number ≡ length (cancellers_in old.tokens) →
    CancellerFor memory_view built D group new.driver → (Single old → Single new) → KeepsOps old.driver new.driver →
    SessionAnswers D NewCanceller (Canceller number) new
answers-canceller old new D group number stands tokens added handles is for single keeps =
    let more = one-more D.groups false in
    record {
      reply_is = for.answers.reply_is
          ∙ ap Canceller (sym (is ∙ ap (λ xs. length xs) stands.groups.cancellers ∙ length-map D.cancellers Some));
      stands = stands-beside old new D (legacy_step D NewCanceller).0 stands tokens
          (record {
            cancellers = added ∙ ap (λ xs. xs ++ Some group ∷ []) stands.groups.cancellers
                ∙ ap (λ g. map Some D.cancellers ++ Some g ∷ []) for.fresh
                ∙ sym (map-append Some D.cancellers (length D.groups ∷ []));
            handles = handles ∙ stands.groups.handles;
            cancellers_made = below-joined D.cancellers (length D.groups) (length (D.groups ++ false ∷ [])) (omega (arith, more))
                (below-more D.cancellers (length D.groups) (length (D.groups ++ false ∷ [])) (omega (arith, more))
                stands.groups.cancellers_made);
            handles_made = below-more D.cancel_handles (length D.groups) (length (D.groups ++ false ∷ [])) (omega (arith, more))
                stands.groups.handles_made;
          })
          for.answers.stands single keeps;
    }

-- A new cancel handle is the session's answer. The driver stays.
pub answers-handle : (old new : Inner) (D : Legacy) (c group number : ℕ) → SessionStands old D → new.driver ≡ old.driver →
    by_number new.tokens ≡ by_number old.tokens → cancellers_in new.tokens ≡ cancellers_in old.tokens →
    handles_in new.tokens ≡ handles_in old.tokens ++ group ∷ [] → number ≡ length (handles_in old.tokens) →
    token_at (cancellers_in old.tokens) c ≡ Some group → HandleFor memory_view built D group old.driver →
    SessionAnswers D (NewHandle c) (CancelHandle number) new
answers-handle old new D c group number stands driver tokens cancellers added is there for =
    let at = canceller-at old D c group stands there in
    let unrefused = unrefused-new_handle D c (slice_get_within D.cancellers c group at) in
    let answers = for c at in
    let own : group_of (seen D) c ≡ group = ap (λ x. unwrap_or x 0) at in
    let next : (legacy_step D (NewHandle c)).0 ≡ record D { cancel_handles = D.cancel_handles ++ group ∷ [] } =
    ap (λ r. (legacy_answered r D (NewHandle c)).0) unrefused ∙ ap (λ g. record D { cancel_handles = D.cancel_handles ++ g ∷ [] }) own in
    record {
      reply_is = answers.reply_is ∙ ap CancelHandle (sym (is ∙ ap (λ xs. length xs) stands.groups.handles));
      stands = stands-beside old new D (legacy_step D (NewHandle c)).0 stands tokens
          (subst (HasGroups new.tokens) (sym next) (record {
            cancellers = cancellers ∙ stands.groups.cancellers;
            handles = added ∙ ap (λ xs. xs ++ group ∷ []) stands.groups.handles;
            cancellers_made = stands.groups.cancellers_made;
            handles_made = below-joined D.cancel_handles group (length D.groups) (stands.groups.cancellers_made c group at)
                stands.groups.handles_made;
          }))
          (subst (λ d. LegacyStands memory_view built d (legacy_step D (NewHandle c)).0) (sym driver) answers.stands)
          (λ single. subst (λ d. (h : ℕ) → (holders_at d.handling.table h).user ≤ 1) (sym driver) single)
          (same-driver old.driver new.driver driver);
    }

-- The cancel of a group is the session's answer: the canceller of that number has its fresh group.
pub answers-cancels : (old new : Inner) (D : Legacy) (c group fresh : ℕ) (numbers : List ℕ) → SessionStands old D →
    by_number new.tokens ≡ by_number old.tokens →
    cancellers_in new.tokens ≡ amended (amended (cancellers_in old.tokens) c (λ place. None)) c (λ place. Some fresh) →
    handles_in new.tokens ≡ handles_in old.tokens → token_at (cancellers_in old.tokens) c ≡ Some group →
    CancelsFor memory_view built D group numbers fresh new.driver → (Single old → Single new) → KeepsOps old.driver new.driver →
    SessionAnswers D (CancelAll c) (Cancels numbers) new
answers-cancels old new D c group fresh numbers stands tokens renewed_is handles there for single keeps =
    let at = canceller-at old D c group stands there in
    let unrefused = unrefused-cancel_all D c (slice_get_within D.cancellers c group at) in
    let answers = for.answers c at in
    let own : group_of (seen D) c ≡ group = ap (λ x. unwrap_or x 0) at in
    let next : (legacy_step D (CancelAll c)).0 ≡ cancel_group D c group =
    ap (λ r. (legacy_answered r D (CancelAll c)).0) unrefused ∙ ap (λ g. cancel_group D c g) own in
    let now : List Bool = amended D.groups group (λ mark. true) ++ false ∷ [] in
    let more = one-more (amended D.groups group (λ mark. true)) false in
    let same = length-amended (λ mark. true) D.groups group in
    record {
      reply_is = answers.reply_is;
      stands = stands-beside old new D (legacy_step D (CancelAll c)).0 stands tokens
          (subst (HasGroups new.tokens) (sym next) (record {
            cancellers = renewed_is
                ∙ ap (λ xs. amended (amended xs c (λ place. None)) c (λ place. Some fresh)) stands.groups.cancellers
                ∙ canceller-renewed D.cancellers c fresh ∙ ap (λ k. map Some (amended D.cancellers c (λ g. k))) for.renewed;
            handles = handles ∙ stands.groups.handles;
            cancellers_made = below-changed D.cancellers c (length D.groups) (length now) (omega (arith, more, same))
                (below-more D.cancellers (length D.groups) (length now) (omega (arith, more, same)) stands.groups.cancellers_made);
            handles_made = below-more D.cancel_handles (length D.groups) (length now) (omega (arith, more, same))
                stands.groups.handles_made;
          }))
          answers.stands single keeps;
    }
