-- Which tokens, cancellers and cancel handles a session keeps, after each event.
use Rattle.std.proofs.Common.{◌≡◌, ◌≤◌, ℕ, zero, suc, Bool, true, false, List, [], ◌∷◌, length, map, Option, None, Some, refl, sym, ◌∙◌}
use Rattle.std.proofs.Common.{ap, subst, slice_get, arith}
use Rattle.rent_buf.specs.Buffer.{Buffer}
use Rattle.rent_buf.specs.Parts.{Parts}
use Rattle.machine.specs.declared.request.Request.{Request}
use Rattle.machine.specs.declared.request.Told.{Told}
use Rattle.machine.specs.declared.ledger.Event.{Event}
use Rattle.machine.specs.declared.ledger.Event.TheVariants.{Give, Feed, FeedMessage, End, Look, Close, Submit, Poll, Drop, Cancel}
use Rattle.machine.specs.declared.ledger.Event.TheVariants.{NewCanceller, NewHandle, CancelAll, Turn, Exec}
use Rattle.machine.specs.declared.ledger.Refusal.{Refusal}
use Rattle.machine.specs.Lists.{amended}
use Rattle.machine.specs.Ledger.{is_under_marked, group_under}
use Rattle.machine.specs.Request.{call_of}
use Rattle.machine.specs.Attempt.{attempt}
use Rattle.machine.proofs.Staying.{Groups, groups_of}
use Rattle.driver_core.specs.declared.op.Op.{Op}
use Rattle.driver_core.specs.declared.tokens.Tokens.{Tokens}
use Rattle.driver_core.proofs.KeptTokens.{token_at-emptied, put-taken}
use Rattle.driver_core.specs.Tokens.{token_at, by_number, KeepsGroups}
use Rattle.ready_driver.specs.Legacy.{LegacyOp, Legacy, seen, slot_at}
use Rattle.ready_driver.specs.LegacyStep.{poll_op, poll_slot, submit_at, legacy_cause, legacy_answered, legacy_step}
use Rattle.ready_run.specs.ReadySession.{HasGroups, AreBelow}

-- The cancellers, the cancel handles and the groups of a driver as plain data.
abbrev pub groups_in : Legacy → Groups
groups_in D = groups_of (seen D)

-- Tokens keep the groups that they have.
pub groups-same : (t : Tokens) → KeepsGroups t t
groups-same t = record { cancellers = refl; handles = refl }

-- What keeps them twice keeps them.
pub groups-then : (a b c : Tokens) → KeepsGroups a b → KeepsGroups b c → KeepsGroups a c
groups-then a b c one two = record { cancellers = two.cancellers ∙ one.cancellers; handles = two.handles ∙ one.handles }

-- Two kept lists of tokens have the same: each operation's token, each canceller and each cancel handle.
pub record SameTokens (old new : Tokens) : Type 0 where
  pub ops : by_number new ≡ by_number old
  pub groups : KeepsGroups old new

-- Tokens are the same as they are.
pub tokens-same : (t : Tokens) → SameTokens t t
tokens-same t = record { ops = refl; groups = groups-same t }

-- A token that was taken and put back is where it was.
pub put-back : (old taken new : Tokens) (n : ℕ) (op back : Op) → token_at (by_number old) n ≡ Some op →
    by_number taken ≡ amended (by_number old) n (λ token. None) →
    (token_at (by_number taken) n ≡ None → by_number new ≡ amended (by_number taken) n (λ token. Some back)) → back ≡ op →
    KeepsGroups old taken → KeepsGroups taken new → SameTokens old new
put-back old taken new n op back there rest items same takes puts = record {
  ops = items (ap (λ tokens. token_at tokens n) rest ∙ token_at-emptied (by_number old) n)
      ∙ ap (λ o. amended (by_number taken) n (λ token. Some o)) same ∙ ap (λ tokens. amended tokens n (λ token. Some op)) rest
      ∙ put-taken (by_number old) n op there;
  groups = groups-then old taken new takes puts;
}

-- They are those of another driver whose groups are the same.
pub groups-kept : (old new : Tokens) (D E : Legacy) → HasGroups old D → KeepsGroups old new → groups_in E ≡ groups_in D → HasGroups new E
groups-kept old new D E has keeps same = record {
  cancellers = keeps.cancellers ∙ has.cancellers ∙ ap {A = Groups} (λ G. map Some G.cancellers) (sym same);
  handles = keeps.handles ∙ has.handles ∙ ap {A = Groups} (λ G. G.cancel_handles) (sym same);
  cancellers_made = subst {A = Groups} (λ G. AreBelow G.cancellers (length G.groups)) (sym same) has.cancellers_made;
  handles_made = subst {A = Groups} (λ G. AreBelow G.cancel_handles (length G.groups)) (sym same) has.handles_made;
}

-- The event makes no canceller, no cancel handle and no group.
abbrev pub IsGroupless : Event → Type 0
IsGroupless NewCanceller = ⊥
IsGroupless (NewHandle c) = ⊥
IsGroupless (CancelAll c) = ⊥
IsGroupless event = Unit {0}

-- A poll leaves them.
op-groups : (asked : Bool) (made : Option Told) (D : Legacy) (n : ℕ) (op : LegacyOp) → groups_in (poll_op asked made D n op).0 ≡ groups_in D
op-groups true made D n op = refl
op-groups false None D n op = refl
op-groups false (Some told) D n op = refl

-- A poll of what was found leaves the groups.
slot-groups : (D : Legacy) (n : ℕ) (found : Option LegacyOp) → groups_in (poll_slot D n found).0 ≡ groups_in D
slot-groups D n None = refl
slot-groups D n (Some op) = op-groups op.asked (attempt D.world (call_of op.request)) D n op

-- So does a submission.
submit-groups : (marked : Bool) (D : Legacy) (request : Request Buffer Parts) (group : Option ℕ) →
    groups_in (submit_at marked D request group).0 ≡ groups_in D
submit-groups true D request group = refl
submit-groups false D request group = refl

-- So does each event but those of cancellers, by what it is refused with.
by_cause : (c : Option Refusal) (D : Legacy) (e : Event) → IsGroupless e → groups_in (legacy_answered c D e).0 ≡ groups_in D
by_cause (Some refusal) D e plain = refl
by_cause None D (Give kind) plain = refl
by_cause None D (Feed h bytes) plain = refl
by_cause None D (FeedMessage h addr bytes) plain = refl
by_cause None D (End h) plain = refl
by_cause None D (Look h) plain = refl
by_cause None D (Close h) plain = refl
by_cause None D (Submit request under true) plain = refl
by_cause None D (Submit request under false) plain = submit-groups (is_under_marked (seen D) under) D request (group_under (seen D) under)
by_cause None D (Poll n task) plain = slot-groups D n (slot_at D n)
by_cause None D (Drop n) plain = refl
by_cause None D (Cancel n) plain = refl
by_cause None D NewCanceller plain = absurd plain
by_cause None D (NewHandle c) plain = absurd plain
by_cause None D (CancelAll c) plain = absurd plain
by_cause None D Turn plain = refl
by_cause None D (Exec place told) plain = refl

-- So they stay in its step.
pub groups-step : (D : Legacy) (e : Event) → IsGroupless e → groups_in (legacy_step D e).0 ≡ groups_in D
groups-step D e plain = by_cause (legacy_cause D e) D e plain

-- The canceller of a number is that of the driver.
pub canceller-there : (cancellers : List ℕ) (c : ℕ) (g : ℕ) → token_at (map Some cancellers) c ≡ Some g → slice_get cancellers c ≡ Some g
canceller-there [] c g there = (let none : ◌≡◌ {A = Option ℕ} None (Some g) = there in cc)
canceller-there (k ∷ cancellers) zero g there = there
canceller-there (k ∷ cancellers) (suc c) g there = canceller-there cancellers c g there

-- There is none of the numbers from the count of cancellers on.
pub canceller-past : (cancellers : List ℕ) (c : ℕ) → token_at (map Some cancellers) c ≡ None → length cancellers ≤ c
canceller-past [] c none = omega arith
canceller-past (k ∷ cancellers) zero none = absurd (let never : ◌≡◌ {A = Option ℕ} (Some k) None = none in cc)
canceller-past (k ∷ cancellers) (suc c) none = (let rest = canceller-past cancellers c none in omega (arith, rest))

-- A canceller that was taken away and got a fresh group is the driver's.
pub canceller-renewed : (cancellers : List ℕ) (c fresh : ℕ) →
    amended (amended (map Some cancellers) c (λ place. None)) c (λ place. Some fresh) ≡ map Some (amended cancellers c (λ g. fresh))
canceller-renewed [] c fresh = refl
canceller-renewed (k ∷ cancellers) zero fresh = refl
canceller-renewed (k ∷ cancellers) (suc c) fresh = ap (λ xs. Some k ∷ xs) (canceller-renewed cancellers c fresh)
