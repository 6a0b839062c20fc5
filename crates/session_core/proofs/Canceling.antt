-- What the events of cancellers make of a session.
use Rattle.std.proofs.Common.{◌≡◌, ◌<◌, ◌≤◌, inl, inr, ℕ, true, List, [], ◌∷◌, ◌++◌, length, map, Option, None, Some, refl, sym, ◌∙◌, ap}
use Rattle.std.proofs.Common.{subst, slice_get, unwrap_or}
use Rattle.std.proofs.lemmas.List.{length-map, map-append}
use Rattle.std.proofs.lemmas.Option.{slice_get_within, slice_get_cases}
use Rattle.rent_buf.specs.Buf.{built}
use Rattle.machine.specs.Lists.{amended}
use Rattle.machine.specs.Ledger.{Ledger}
use Rattle.machine.specs.Step.{step, group_of, cancel_all_step}
use Rattle.machine.specs.declared.ledger.Event.TheVariants.{NewCanceller, NewHandle, CancelAll}
use Rattle.machine.specs.declared.ledger.Reply.TheVariants.{Canceller, CancelHandle, Cancels}
use Rattle.machine.proofs.Amended.{length-amended}
use Rattle.machine.proofs.Grouped.{Grouped, grouped-ledger, present-there}
use Rattle.machine.proofs.Grouping.{op_groups, with_canceller, with_handle_of, renewed, groups-cancel_all}
use Rattle.machine.proofs.Staying.{Groups, groups_of}
use Rattle.machine.proofs.Stepping.{step-row}
use Rattle.driver_core.specs.Answers.{CancellerFor, HandleFor, CancelsFor}
use Rattle.uring_driver.specs.Op.{KeepsTokens}
use Rattle.uring_driver.specs.Stands.{Stands}
use Rattle.uring_driver.specs.Uring.{due_in, given_by, group_count}
use Rattle.session_core.specs.declared.session.Session.{Session}
use Rattle.driver_core.specs.declared.tokens.Tokens.{Tokens}
use Rattle.driver_core.specs.Tokens.{token_at, by_number, cancellers_in, handles_in}
use Rattle.session_core.specs.Session.{AreSingle, HasGroups, SessionStands, SessionAnswers}
use Rattle.session_core.specs.Submission.{IsUnmade}
use Rattle.ready_run.proofs.Kept.{canceller-there, canceller-past, canceller-renewed}
use Rattle.session_core.proofs.Refusals.{unrefused-new_handle, unrefused-cancel_all}
use Rattle.session_core.proofs.Steps.{stands-beside, stands-unmoved}

-- A ledger's groups are those of its events.
are-grouped : (session : Session) (L : Ledger) → SessionStands session L → Grouped L
are-grouped session L stands =
    subst Grouped (sym stands.driver.reached) (grouped-ledger _ stands.driver.events)

-- There are as many groups in the driver as in the ledger.
as-many : (session : Session) (L : Ledger) → SessionStands session L → length L.groups ≡ group_count session.driver
as-many session L stands =
    ap (λ marks. length marks) (sym stands.driver.groups.marks) ∙ length-map session.driver.members.groups (λ group. group.canceled)

-- The canceller of a number is of the ledger's group.
pub canceller-at : (session : Session) (L : Ledger) (c g : ℕ) → SessionStands session L →
    token_at (cancellers_in session.tokens) c ≡ Some g → slice_get L.cancellers c ≡ Some g
canceller-at session L c g stands there =
    canceller-there L.cancellers c g (ap (λ xs. token_at xs c) (sym stands.groups.cancellers) ∙ there)

-- Where there is none, none was created.
pub canceller-none : (session : Session) (L : Ledger) (c : ℕ) → SessionStands session L →
    token_at (cancellers_in session.tokens) c ≡ None → length L.cancellers ≤ c
canceller-none session L c stands none =
    canceller-past L.cancellers c (ap (λ xs. token_at xs c) (sym stands.groups.cancellers) ∙ none)

-- The group of a canceller was made in the driver.
pub canceller-made : (session : Session) (L : Ledger) (c g : ℕ) → SessionStands session L →
    token_at (cancellers_in session.tokens) c ≡ Some g → g < group_count session.driver
canceller-made session L c g stands there =
    subst (λ k. g < k) (as-many session L stands)
    (present-there (groups_of L) (op_groups L) c g (are-grouped session L stands) (canceller-at session L c g stands there))

-- So was that of a cancel handle.
pub handle-made : (session : Session) (L : Ledger) (handle g : ℕ) → SessionStands session L →
    slice_get (handles_in session.tokens) handle ≡ Some g → g < group_count session.driver
handle-made session L handle g stands there =
    subst (λ k. g < k) (as-many session L stands)
    ((are-grouped session L stands).handles handle g (ap (λ xs. slice_get xs handle) (sym stands.groups.handles) ∙ there))

-- A cancel handle that isn't there was never created.
pub handle-unmade : (session : Session) (L : Ledger) (under : Option ℕ) (handle : ℕ) → SessionStands session L → under ≡ Some handle →
    slice_get (handles_in session.tokens) handle ≡ None → IsUnmade L under
handle-unmade session L under handle stands is none = record {
  handle = handle;
  under_is = is;
  past = elim (slice_get_cases L.cancel_handles handle).1 [
    | inl e ↦ absurd (let both : ◌≡◌ {A = Option ℕ} None (Some _) =
        sym none ∙ ap (λ xs. slice_get xs handle) stands.groups.handles ∙ e.2 in cc)
    | inr e ↦ e.0
  ];
}

-- The groups that tokens have are those of a ledger whose groups are these.
has-groups : (tokens : Tokens) (M : Ledger) (G : Groups) → groups_of M ≡ G → cancellers_in tokens ≡ map Some G.cancellers →
    handles_in tokens ≡ G.cancel_handles → HasGroups tokens M
has-groups tokens M G is cancellers handles = record {
  cancellers = cancellers ∙ ap {A = Groups} (λ G. map Some G.cancellers) (sym is);
  handles = handles ∙ ap {A = Groups} (λ G. G.cancel_handles) (sym is);
}

-- A new canceller is the session's answer.
pub answers-canceller : (old new : Session) (L : Ledger) (group number : ℕ) → SessionStands old L →
    by_number new.tokens ≡ by_number old.tokens → cancellers_in new.tokens ≡ cancellers_in old.tokens ++ Some group ∷ [] →
    handles_in new.tokens ≡ handles_in old.tokens → number ≡ length (cancellers_in old.tokens) →
    CancellerFor (Stands (λ r. r) built) L group new.driver → (due_in old.driver ≡ [] → due_in new.driver ≡ []) →
    (AreSingle old.driver → AreSingle new.driver) → KeepsTokens old.driver new.driver → given_by new.driver ≡ given_by old.driver →
    SessionAnswers L NewCanceller (Canceller number) new
answers-canceller old new L group number stands tokens added handles is for due single kept given = record {
  reply_is = for.answers.reply_is
      ∙ ap Canceller (sym (is ∙ ap (λ xs. length xs) stands.groups.cancellers ∙ length-map L.cancellers Some));
  stands = stands-beside old new L (step L NewCanceller).0 stands tokens
      (has-groups new.tokens (step L NewCanceller).0 (with_canceller (groups_of L)) (ap (λ s. groups_of s.0) (step-row L NewCanceller refl))
      (added ∙ ap (λ xs. xs ++ Some group ∷ []) stands.groups.cancellers ∙ ap (λ g. map Some L.cancellers ++ Some g ∷ []) for.fresh
      ∙ sym (map-append Some L.cancellers (length L.groups ∷ []))) (handles ∙ stands.groups.handles))
      for.answers.stands due single kept given;
}

-- A new cancel handle is the session's answer. The driver stays.
pub answers-handle : (old new : Session) (L : Ledger) (c group number : ℕ) → SessionStands old L → new.driver ≡ old.driver →
    by_number new.tokens ≡ by_number old.tokens → cancellers_in new.tokens ≡ cancellers_in old.tokens →
    handles_in new.tokens ≡ handles_in old.tokens ++ group ∷ [] → number ≡ length (handles_in old.tokens) →
    token_at (cancellers_in old.tokens) c ≡ Some group → HandleFor (Stands (λ r. r) built) L group old.driver →
    SessionAnswers L (NewHandle c) (CancelHandle number) new
answers-handle old new L c group number stands driver tokens cancellers added is there for =
    let at = canceller-at old L c group stands there in
    let unrefused = unrefused-new_handle L c (slice_get_within L.cancellers c group at) in
    let answers = for c at in
    let own : group_of L c ≡ group = ap (λ x. unwrap_or x 0) at in
    record {
      reply_is = answers.reply_is ∙ ap CancelHandle (sym (is ∙ ap (λ xs. length xs) stands.groups.handles));
      stands = stands-unmoved old new L (step L (NewHandle c)).0 stands driver tokens
          (has-groups new.tokens (step L (NewHandle c)).0 (with_handle_of (groups_of L) group)
          (ap (λ s. groups_of s.0) (step-row L (NewHandle c) unrefused) ∙ ap (λ g. with_handle_of (groups_of L) g) own)
          (cancellers ∙ stands.groups.cancellers) (added ∙ ap (λ xs. xs ++ group ∷ []) stands.groups.handles))
          (subst (λ d. Stands (λ r. r) built d (step L (NewHandle c)).0) (sym driver) answers.stands);
    }

-- The cancel of a group is the session's answer: the canceller of that number has its fresh group.
pub answers-cancels : (old new : Session) (L : Ledger) (c group fresh : ℕ) (numbers : List ℕ) → SessionStands old L →
    by_number new.tokens ≡ by_number old.tokens →
    cancellers_in new.tokens ≡ amended (amended (cancellers_in old.tokens) c (λ place. None)) c (λ place. Some fresh) →
    handles_in new.tokens ≡ handles_in old.tokens → token_at (cancellers_in old.tokens) c ≡ Some group →
    CancelsFor (Stands (λ r. r) built) L group numbers fresh new.driver → (due_in old.driver ≡ [] → due_in new.driver ≡ []) →
    (AreSingle old.driver → AreSingle new.driver) → KeepsTokens old.driver new.driver → given_by new.driver ≡ given_by old.driver →
    SessionAnswers L (CancelAll c) (Cancels numbers) new
answers-cancels old new L c group fresh numbers stands tokens renewed_is handles there for due single kept given =
    let at = canceller-at old L c group stands there in
    let unrefused = unrefused-cancel_all L c (slice_get_within L.cancellers c group at) in
    let answers = for.answers c at in
    let own : group_of L c ≡ group = ap (λ x. unwrap_or x 0) at in
    let same : length (amended L.groups group (λ mark. true)) ≡ fresh =
    length-amended (λ mark. true) L.groups group ∙ sym for.renewed in
    record {
      reply_is = answers.reply_is;
      stands = stands-beside old new L (step L (CancelAll c)).0 stands tokens
          (has-groups new.tokens (step L (CancelAll c)).0 (renewed (groups_of L) c group)
          (ap (λ s. groups_of s.0) (step-row L (CancelAll c) unrefused) ∙ ap (λ g. groups_of (cancel_all_step L c g)) own
          ∙ (groups-cancel_all L c group).0)
          (renewed_is ∙ ap (λ xs. amended (amended xs c (λ place. None)) c (λ place. Some fresh)) stands.groups.cancellers
          ∙ canceller-renewed L.cancellers c fresh ∙ ap (λ k. map Some (amended L.cancellers c (λ g. k))) (sym same))
          (handles ∙ stands.groups.handles))
          answers.stands due single kept given;
    }
