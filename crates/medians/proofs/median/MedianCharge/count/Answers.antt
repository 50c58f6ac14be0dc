use Rattle.medians.proofs.Shows.{median-laws}
use Rattle.medians.proofs.median.MedianCharge.count.Goals as goal

pub returns-clause-laws : goal.returns-clause-laws
returns-clause-laws c = median-laws _ c.args.self.now.list.small
