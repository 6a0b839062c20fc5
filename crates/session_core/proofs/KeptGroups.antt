-- Which cancellers and cancel handles a session keeps, after each event.
use Rattle.std.proofs.Common.{◌≡◌, ℕ, Bool, true, false, map, Option, None, Some, refl, sym, ◌∙◌, ap}
use Rattle.rent_buf.specs.Buffer.{Buffer}
use Rattle.rent_buf.specs.Parts.{Parts}
use Rattle.machine.specs.declared.request.Request.{Request}
use Rattle.machine.specs.declared.ledger.Event.{Event}
use Rattle.machine.specs.declared.ledger.Event.TheVariants.{Submit}
use Rattle.machine.specs.declared.ledger.Refusal.{Refusal}
use Rattle.machine.specs.Ledger.{Ledger, is_under_marked, group_under}
use Rattle.machine.specs.Refusal.{cause}
use Rattle.machine.specs.Step.{step, submit_if}
use Rattle.machine.proofs.Staying.{Groups, groups_of}
use Rattle.machine.proofs.Stepping.{step-refused, step-row}
use Rattle.machine.proofs.Grouping.{may_group, groups-row, groups-submit}
use Rattle.driver_core.specs.declared.tokens.Tokens.{Tokens}
use Rattle.driver_core.specs.Tokens.{KeepsGroups}
use Rattle.session_core.specs.Session.{HasGroups}

-- They are those of another ledger whose groups are the same.
pub groups-kept : (old new : Tokens) (L M : Ledger) → HasGroups old L → KeepsGroups old new → groups_of M ≡ groups_of L → HasGroups new M
groups-kept old new L M has keeps same = record {
  cancellers = keeps.cancellers ∙ has.cancellers ∙ ap {A = Groups} (λ G. map Some G.cancellers) (sym same);
  handles = keeps.handles ∙ has.handles ∙ ap {A = Groups} (λ G. G.cancel_handles) (sym same);
}

-- An event by its cause: one that is refused leaves the groups, and so does any other that changes none.
by_cause : (L : Ledger) (e : Event) (c : Option Refusal) → cause L e ≡ c → may_group e ≡ false → groups_of (step L e).0 ≡ groups_of L
by_cause L e None is plain = ap (λ s. groups_of s.0) (step-row L e is) ∙ (groups-row L e plain).groups
by_cause L e (Some refusal) is plain = ap (λ s. groups_of s.0) (step-refused L e refusal is)

-- An event that changes no groups leaves them.
pub groups-step : (L : Ledger) (e : Event) → may_group e ≡ false → groups_of (step L e).0 ≡ groups_of L
groups-step L e plain = by_cause L e (cause L e) refl plain

-- A submission, under a marked group or not, leaves them.
submitted_if : (b : Bool) (L : Ledger) (request : Request Buffer Parts) (group : Option ℕ) (linked : Bool) →
    groups_of (submit_if b L request group linked).0 ≡ groups_of L
submitted_if true L request group linked = refl
submitted_if false L request group linked = (groups-submit L request group linked).0

-- So does its event, by its cause.
submitted_by : (L : Ledger) (request : Request Buffer Parts) (under : Option ℕ) (linked : Bool) (c : Option Refusal) →
    cause L (Submit request under linked) ≡ c →
    groups_of (step L (Submit request under linked)).0 ≡ groups_of L
submitted_by L request under linked None is =
    ap (λ s. groups_of s.0) (step-row L (Submit request under linked) is)
    ∙ submitted_if (is_under_marked L under) L request (group_under L under) linked
submitted_by L request under linked (Some refusal) is = ap (λ s. groups_of s.0) (step-refused L (Submit request under linked) refusal is)

-- A submission leaves them.
pub groups-submitted : (L : Ledger) (request : Request Buffer Parts) (under : Option ℕ) (linked : Bool) →
    groups_of (step L (Submit request under linked)).0 ≡ groups_of L
groups-submitted L request under linked = submitted_by L request under linked (cause L (Submit request under linked)) refl
