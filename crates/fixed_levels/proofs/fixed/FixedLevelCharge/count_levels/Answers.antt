use Rattle.fixed_levels.proofs.Shows.{level-laws}
use Rattle.fixed_levels.proofs.fixed.FixedLevelCharge.count_levels.Goals as goal

pub returns-clause-laws : goal.returns-clause-laws
returns-clause-laws c = level-laws _ c.args.self.now.set.lawful _
