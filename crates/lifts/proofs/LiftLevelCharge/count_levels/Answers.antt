use Rattle.lifts.proofs.Lifted.{levels_lift}
use Rattle.lifts.proofs.LiftLevelCharge.count_levels.Goals as goal

pub returns-clause-laws : goal.returns-clause-laws
returns-clause-laws g c = levels_lift _ _ _ c.count_levels.ensures.laws
