use Rattle.session_core.proofs.Parts.{parts_of_some}
use Rattle.session_tests.proofs.tests.sessions.reaped_by_driver.Goals as goal

pub execute_first-requires : goal.execute_first-requires
execute_first-requires c = parts_of_some _ _ _ (c.into_parts-driver.ensures.stands _ c.in_ok-session.ensures.stands)
