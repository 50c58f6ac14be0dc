use Rattle.modes.proofs.Shows.{mode_laws}
use Rattle.modes.proofs.mode.ModeCharge.count.Goals as goal

pub returns-clause-laws : goal.returns-clause-laws
returns-clause-laws c = mode_laws _ c.args.self.now.list.small
