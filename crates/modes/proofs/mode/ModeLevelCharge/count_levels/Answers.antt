use Rattle.modes.proofs.Shows.{mode_level_laws}
use Rattle.modes.proofs.mode.ModeLevelCharge.count_levels.Goals as goal

pub returns-clause-laws : goal.returns-clause-laws
returns-clause-laws c = mode_level_laws _
