-- A readiness driver answers each event as the machine answers it spelled, and stands for the ledger behind it.
use Rattle.std.proofs.Common.{◌≡◌, ℕ, ◌+◌, Bool, true, false, List, [], ◌∷◌, ◌++◌, length, Option, Some, None, option_map}
use Rattle.std.proofs.Common.{refl, sym, ◌∙◌, ap, subst}
use Rattle.std.proofs.lemmas.List.{map-append, length-append}
use Rattle.machine.specs.declared.world.HandleKind.{HandleKind}
use Rattle.machine.specs.declared.world.HandleState.{HandleState}
use Rattle.machine.specs.declared.ledger.Event.{Event}
use Rattle.machine.specs.declared.ledger.Event.TheVariants.{Give, Feed, FeedMessage, End, Look, Close, Submit, Poll, Drop, Cancel}
use Rattle.machine.specs.declared.ledger.Event.TheVariants.{NewCanceller, NewHandle, CancelAll, Turn, Exec}
use Rattle.machine.specs.declared.ledger.Refusal.{Refusal}
use Rattle.machine.specs.declared.ledger.Reply.{Reply}
use Rattle.machine.specs.declared.ledger.Reply.TheVariants.{Handle, Fed, Ended, Released, Asked, Canceller, CancelHandle, Cancels}
use Rattle.machine.specs.declared.ledger.Reply.TheVariants.{Refused}
use Rattle.machine.specs.Lists.{amended}
use Rattle.machine.specs.World.{fresh, with_input, with_message, with_end, look_at}
use Rattle.machine.specs.Ledger.{Ledger, Owner, Queued, is_under_marked, group_under, members}
use Rattle.machine.specs.Queue.{push, is_unheld}
use Rattle.machine.specs.Refusal.{cause}
use Rattle.machine.specs.Step.{step, new_owner, as_user, close_unheld, with_handle, submit_if, group_of, cancel_all_step, look_reply}
use Rattle.machine.specs.Run.{after}
use Rattle.machine.proofs.Amended.{length-amended}
use Rattle.machine.proofs.Stepping.{step-row, step-refused, OwnedAt, found}
use Rattle.ready_driver.specs.Spelled.{Spelling, spelled_out, open_spelling, row_spelling, closes_behind, spelled, spelled_reply}
use Rattle.ready_driver.specs.Spelled.{ledger_behind}
use Rattle.ready_driver.specs.Legacy.{Legacy, seen, members_at}
use Rattle.ready_driver.specs.LegacyStep.{with_ask, submit_at, cancel_group, legacy_row, legacy_answered, legacy_step}
use Rattle.ready_driver.specs.Readiness.{IsDriven}
use Rattle.ready_driver.proofs.Lists.{map-changed}
use Rattle.ready_driver.proofs.Flat.{beside}
use Rattle.ready_driver.proofs.Closes.{after-append}
use Rattle.ready_driver.proofs.Settled.{Stands, is_users, settle, Ends as Settles, ended-shows}
use Rattle.ready_driver.proofs.Causes.{sees, sees-under, sees-group, same-cause}
use Rattle.ready_driver.proofs.Meets.{Meets, MeetsSpelled, meets-itself, stands-meets, stands-beside, kept-taken, taken-flies}
use Rattle.ready_driver.proofs.Meets.{stands-canceled, cancel_all-meets, close-meets, submit-meets}
use Rattle.ready_driver.proofs.Polls.{poll-meets}
use Rattle.ready_driver.proofs.Drops.{drop-meets}

-- A driver that stands for a ledger.
module _ (D : Legacy) (L : Ledger) (st : Stands D L) where
  -- The handles are others.
  handles-meet : (users : List Bool) (dw world : List HandleState) (owners : List Owner) (reply : Reply) (told : Reply) →
      users ≡ is_users owners → dw ≡ world → length owners ≡ length world → reply ≡ told →
      Meets (record D { users = users; world = dw }, reply) (beside L world owners L.cancellers L.cancel_handles L.groups) told
  handles-meet users dw world owners reply told eu ew counted er =
      stands-meets (record D { users = users; world = dw }) (beside L world owners L.cancellers L.cancel_handles L.groups) reply told er
      (stands-beside D L users dw D.cancellers D.cancel_handles D.groups world owners L.cancellers L.cancel_handles L.groups eu ew
      st.shows.cancellers st.shows.cancel_handles st.shows.groups counted st)

  -- The groups are others.
  groups-meet : (dc dh : List ℕ) (dg : List Bool) (cancellers handles : List ℕ) (groups : List Bool) (reply : Reply) (told : Reply) →
      dc ≡ cancellers → dh ≡ handles → dg ≡ groups → reply ≡ told →
      Meets (record D { cancellers = dc; cancel_handles = dh; groups = dg }, reply)
      (beside L L.world L.owners cancellers handles groups) told
  groups-meet dc dh dg cancellers handles groups reply told ec eh eg er =
      stands-meets (record D { cancellers = dc; cancel_handles = dh; groups = dg }) (beside L L.world L.owners cancellers handles groups)
      reply told er
      (stands-beside D L D.users D.world dc dh dg L.world L.owners cancellers handles groups st.shows.users st.shows.world ec eh eg
      st.settled.half.counted st)

  -- One handle changes, and no list, owner or group.
  changed-meets : (h : ℕ) (change : HandleState → HandleState) (reply : Reply) →
      Meets (record D { world = amended D.world h change }, reply) (with_handle L h change) reply
  changed-meets h change reply =
      handles-meet D.users (amended D.world h change) (amended L.world h change) L.owners reply reply st.shows.users
      (ap (λ w. amended w h change) st.shows.world) (st.settled.half.counted ∙ sym (length-amended change L.world h)) refl

  -- A new handle.
  give-meets : (kind : HandleKind) → cause L (Give kind) ≡ None → MeetsSpelled (legacy_row D (Give kind)) L (row_spelling L (Give kind))
  give-meets kind u =
      let owners : List Owner = L.owners ++ new_owner ∷ [] in
      let world : List HandleState = L.world ++ fresh kind ∷ [] in
      meets-itself (legacy_row D (Give kind)) L (beside L world owners L.cancellers L.cancel_handles L.groups) (Give kind)
      (Handle (length L.world)) (step-row L (Give kind) u)
      (handles-meet (D.users ++ true ∷ []) (D.world ++ fresh kind ∷ []) world owners (Handle (length D.world)) (Handle (length L.world))
      (ap (λ us. us ++ true ∷ []) st.shows.users ∙ sym (map-append (λ o. o.is_user) L.owners (new_owner ∷ [])))
      (ap (λ w. w ++ fresh kind ∷ []) st.shows.world)
      (length-append L.owners (new_owner ∷ []) ∙ ap (λ k. k + 1) st.settled.half.counted ∙ sym (length-append L.world (fresh kind ∷ [])))
      (ap (λ w. Handle (length w)) st.shows.world))

  -- The user closes a handle.
  closed-meets : (h : ℕ) → cause L (Close h) ≡ None → MeetsSpelled (legacy_row D (Close h)) L (row_spelling L (Close h))
  closed-meets h u =
      let owners : List Owner = amended L.owners h (as_user false) in
      let users : List Bool = amended D.users h (λ is_user. false) in
      let K : Ledger = beside L L.world owners L.cancellers L.cancel_handles L.groups in
      meets-itself (legacy_row D (Close h)) L (close_unheld K h) (Close h) Released (step-row L (Close h) u)
      (close-meets (record D { users = users }) K h (is_unheld K h)
      (stands-beside D L users D.world D.cancellers D.cancel_handles D.groups L.world owners L.cancellers L.cancel_handles L.groups
      (ap (λ us. amended us h (λ is_user. false)) st.shows.users
      ∙ sym (map-changed (λ o. o.is_user) L.owners h (as_user false) (λ is_user. false) (λ x. refl)))
      st.shows.world st.shows.cancellers st.shows.cancel_handles st.shows.groups
      (length-amended (as_user false) L.owners h ∙ st.settled.half.counted) st))

  -- A new canceller.
  canceller-meets : cause L NewCanceller ≡ None → MeetsSpelled (legacy_row D NewCanceller) L (row_spelling L NewCanceller)
  canceller-meets u =
      meets-itself (legacy_row D NewCanceller) L
      (beside L L.world L.owners (L.cancellers ++ length L.groups ∷ []) L.cancel_handles (L.groups ++ false ∷ [])) NewCanceller
      (Canceller (length L.cancellers)) (step-row L NewCanceller u)
      (groups-meet (D.cancellers ++ length D.groups ∷ []) D.cancel_handles (D.groups ++ false ∷ []) (L.cancellers ++ length L.groups ∷ [])
      L.cancel_handles (L.groups ++ false ∷ []) (Canceller (length D.cancellers)) (Canceller (length L.cancellers))
      (ap (λ xs. xs ++ length D.groups ∷ []) st.shows.cancellers ∙ ap (λ g. L.cancellers ++ length g ∷ []) st.shows.groups)
      st.shows.cancel_handles (ap (λ g. g ++ false ∷ []) st.shows.groups) (ap (λ xs. Canceller (length xs)) st.shows.cancellers))

  -- A new cancel handle.
  cancel_handle-meets : (c : ℕ) → cause L (NewHandle c) ≡ None →
      MeetsSpelled (legacy_row D (NewHandle c)) L (row_spelling L (NewHandle c))
  cancel_handle-meets c u =
      meets-itself (legacy_row D (NewHandle c)) L
      (beside L L.world L.owners L.cancellers (L.cancel_handles ++ group_of L c ∷ []) L.groups) (NewHandle c)
      (CancelHandle (length L.cancel_handles)) (step-row L (NewHandle c) u)
      (groups-meet D.cancellers (D.cancel_handles ++ group_of (seen D) c ∷ []) D.groups L.cancellers
      (L.cancel_handles ++ group_of L c ∷ []) L.groups (CancelHandle (length D.cancel_handles)) (CancelHandle (length L.cancel_handles))
      st.shows.cancellers
      (ap (λ xs. xs ++ group_of (seen D) c ∷ []) st.shows.cancel_handles
      ∙ ap (λ S. L.cancel_handles ++ group_of S c ∷ []) (sees D L st.shows))
      st.shows.groups (ap (λ xs. CancelHandle (length xs)) st.shows.cancel_handles))

  -- An event that isn't refused.
  row-meets : (e : Event) → IsDriven e → cause L e ≡ None → MeetsSpelled (legacy_row D e) L (row_spelling L e)
  row-meets (Give kind) r u = give-meets kind u
  row-meets (Feed h bytes) r u =
      meets-itself (legacy_row D (Feed h bytes)) L (with_handle L h (with_input bytes)) (Feed h bytes) Fed (step-row L (Feed h bytes) u)
      (changed-meets h (with_input bytes) Fed)
  row-meets (FeedMessage h addr bytes) r u =
      meets-itself (legacy_row D (FeedMessage h addr bytes)) L (with_handle L h (with_message addr bytes)) (FeedMessage h addr bytes) Fed
      (step-row L (FeedMessage h addr bytes) u) (changed-meets h (with_message addr bytes) Fed)
  row-meets (End h) r u =
      meets-itself (legacy_row D (End h)) L (with_handle L h with_end) (End h) Ended (step-row L (End h) u) (changed-meets h with_end Ended)
  row-meets (Look h) r u =
      meets-itself (legacy_row D (Look h)) L L (Look h) (look_reply (look_at L.world h)) (step-row L (Look h) u)
      (stands-meets D L (look_reply (look_at D.world h)) (look_reply (look_at L.world h))
      (ap (λ w. look_reply (look_at w h)) st.shows.world) st)
  row-meets (Close h) r u = closed-meets h u
  row-meets (Submit request under true) r u = absurd r
  row-meets (Submit request under false) r u =
      let b : Bool = is_under_marked L under in
      meets-itself (legacy_row D (Submit request under false)) L (submit_if b L request (group_under L under) false).0
      (Submit request under false) (submit_if b L request (group_under L under) false).1 (step-row L (Submit request under false) u)
      (subst (λ x. Meets (submit_at x D request (group_under (seen D) under)) (submit_if b L request (group_under L under) false).0
      (submit_if b L request (group_under L under) false).1) (sym (sees-under D L under st.shows))
      (submit-meets D L request (group_under (seen D) under) (group_under L under) b (sees-group D L under st.shows) st))
  row-meets (Poll n task) r u =
      let f : OwnedAt L n = found L n u in
      poll-meets D L n task st f (kept-taken L n f.operation st.settled.half f.there f.kept)
  row-meets (Drop n) r u =
      let f : OwnedAt L n = found L n u in
      drop-meets D L n st f (kept-taken L n f.operation st.settled.half f.there f.kept)
  row-meets (Cancel n) r u =
      let f : OwnedAt L n = found L n u in
      let asked : Legacy = record D { slots = amended D.slots n (option_map with_ask) } in
      meets-itself (legacy_row D (Cancel n)) L (push L (Queued.Cancel n)) (Cancel n) Asked (step-row L (Cancel n) u)
      (stands-meets asked (push L (Queued.Cancel n)) Asked Asked refl
      (stands-canceled D L n (taken-flies L n f.operation (kept-taken L n f.operation st.settled.half f.there f.kept))
      st))
  row-meets NewCanceller r u = canceller-meets u
  row-meets (NewHandle c) r u = cancel_handle-meets c u
  row-meets (CancelAll c) r u =
      let g : ℕ = group_of L c in
      meets-itself (legacy_row D (CancelAll c)) L (cancel_all_step L c g) (CancelAll c) (Cancels (members L g)) (step-row L (CancelAll c) u)
      (subst (λ x. Meets (cancel_group D c x, Cancels (members_at D x)) (cancel_all_step L c g) (Cancels (members L g)))
      (sym (ap (λ S. group_of S c) (sees D L st.shows))) (cancel_all-meets D L c g st))
  row-meets Turn r u = absurd r
  row-meets (Exec place told) r u = absurd r

  -- An event, by what it is refused with.
  cause-meets : (e : Event) (c : Option Refusal) → IsDriven e → cause L e ≡ c → MeetsSpelled (legacy_answered c D e) L (open_spelling c L e)
  cause-meets e (Some refusal) r h =
      meets-itself (D, Refused refusal) L L e (Refused refusal) (step-refused L e refusal h)
      (stands-meets D L (Refused refusal) (Refused refusal) refl st)
  cause-meets e None r h = row-meets e r h

-- Events behind a spelling.
after-behind : (L : Ledger) (s : Spelling) (events : List Event) →
    after L (spelled_out (record s { behind = s.behind ++ events })) ≡ after (after L (spelled_out s)) events
after-behind L s events =
    after-append L s.before (s.answering ∷ s.behind ++ events)
    ∙ after-append (step (after L s.before) s.answering).0 s.behind events
    ∙ ap (λ K. after K events) (sym (after-append L s.before (s.answering ∷ s.behind)))

-- A driver and its reply are those of an event as it is spelled.
pub record Follows (s : Legacy × Reply) (L : Ledger) (e : Event) : Type 0 where
  pub reply_is : s.1 ≡ spelled_reply L (spelled L e)
  pub stands : Stands s.0 (ledger_behind L e)

-- Each event that a driver answers is followed.
pub step-follows : (D : Legacy) (L : Ledger) (e : Event) → IsDriven e → Stands D L → Follows (legacy_step D e) L e
step-follows D L e r st =
    let open_one : Spelling = open_spelling (cause L e) L e in
    let m : MeetsSpelled (legacy_step D e) L open_one =
    subst (λ c. MeetsSpelled (legacy_answered c D e) L open_one) (sym (same-cause D L st e r)) (cause-meets D L st e (cause L e) r refl) in
    let M : Ledger = after L (spelled_out open_one) in
    let end : Settles M (after M (closes_behind M)) = settle M m.half m.tidy in
    record {
      reply_is = m.reply_is;
      stands = subst (Stands (legacy_step D e).0) (sym (after-behind L open_one (closes_behind M))) (record {
        settled = end.settled;
        shows = ended-shows (legacy_step D e).0 M (after M (closes_behind M)) end m.shows;
      });
    }
