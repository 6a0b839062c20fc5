-- A new session is a new driver as plain data.
use Rattle.std.proofs.Common.{◌≡◌, ◌∙◌, ◌≤◌, ℕ, false, [], length, Option, Some, None, sym, ap, arith}
use Rattle.std.proofs.lemmas.Bool.Decides.{nat_tests}
use Rattle.std.specs.Prelude.{nat_lt}
use Rattle.handle_core.specs.Table.{holders_at}
use Rattle.rent_buf.specs.Buf.{built}
use Rattle.driver_core.specs.declared.op.Op.{Op}
use Rattle.driver_core.specs.Tokens.{token_at, by_number, cancellers_in, handles_in}
use Rattle.ready_driver.specs.Legacy.{idle}
use Rattle.ready_driver.specs.LegacyStands.{LegacyStands}
use Rattle.ready_driver.specs.LegacyState.{HoldsNone}
use Rattle.ready_driver.specs.MemIo.{memory_view}
use Rattle.ready_run.specs.declared.inner.Inner.{Inner}
use Rattle.ready_run.specs.ReadySession.{SessionStands}

-- What the user holds in no case it holds once at most.
few : (k : ℕ) → nat_lt 0 k ≡ false → k ≤ 1
few k none = grind (arith, nat_tests)

-- A session whose driver is new, and that has no tokens.
pub stands-new : (session : Inner) → LegacyStands memory_view built session.driver idle → session.driver.given ≡ 0 →
    HoldsNone session.driver → by_number session.tokens ≡ [] → cancellers_in session.tokens ≡ [] → handles_in session.tokens ≡ [] →
    SessionStands session idle
stands-new session driver given none ops cancellers handles = record {
  driver = driver;
  single = λ h. few (holders_at session.driver.handling.table h).user (driver.handles.users h);
  numbered = ap (λ items. length items) ops ∙ sym given;
  tokens = λ n op. (
    λ there. absurd (let found : ◌≡◌ {A = Option Op} None (Some op) = ap (λ items. token_at items n) (sym ops) ∙ there in cc),
    λ h. absurd (none op h.0),
  );
  groups = record {
    cancellers = cancellers;
    handles = handles;
    cancellers_made = λ place number there. absurd (let found : ◌≡◌ {A = Option ℕ} None (Some number) = there in cc);
    handles_made = λ place number there. absurd (let found : ◌≡◌ {A = Option ℕ} None (Some number) = there in cc);
  };
}
