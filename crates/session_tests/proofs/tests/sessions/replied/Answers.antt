use Rattle.std.proofs.Common.{subst, sym}
use Rattle.ready_driver.specs.Readiness.{AreDriven}
use Rattle.session_core.proofs.Driven.{are_driven}
use Rattle.session_tests.proofs.tests.sessions.replied.Goals as goal

pub ready_replies-requires : goal.ready_replies-requires
ready_replies-requires c = subst AreDriven (sym c.as_slice.ensures.value) (are_driven _ c.in-Ok.ensures.external)
