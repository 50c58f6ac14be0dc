use Rattle.theory.proofs.Layerings.{optimal}
use Rattle.theory.proofs.optimal_stands.Goals as goal

pub returns : goal.returns
returns g c = λ fee penalty. optimal g.met.V.Amount.lawful fee penalty
