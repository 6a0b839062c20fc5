use Rattle.std.proofs.Common.{◌∙◌}
use Rattle.ready_driver.proofs.Places.{spot_is, away_is}
use Rattle.ready_driver.proofs.scheduled_io.spots.spot_of.Goals as goal

pub returns-clause-some : goal.returns-clause-some
returns-clause-some c =
    spot_is c.args.serial c.args.entries.now c.copied.result (c.copied.ensures ∙ c.get.ensures.value ∙ c.requires.at c.args.serial)

pub returns-clause-none : goal.returns-clause-none
returns-clause-none c =
    away_is c.args.serial c.args.entries.now c.copied.result (c.copied.ensures ∙ c.get.ensures.value ∙ c.requires.at c.args.serial)
