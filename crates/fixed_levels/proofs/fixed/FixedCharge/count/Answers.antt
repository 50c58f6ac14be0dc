use Rattle.fixed_levels.proofs.Shows.{charge-laws}
use Rattle.fixed_levels.proofs.fixed.FixedCharge.count.Goals as goal

pub returns-clause-laws : goal.returns-clause-laws
returns-clause-laws c = charge-laws _ c.args.self.now.set.lawful _ c.args.self.now.list.small
