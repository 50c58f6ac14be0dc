use Rattle.theory.proofs.Layerings.{recursion}
use Rattle.theory.proofs.recursion_stands.Goals as goal

pub returns : goal.returns
returns g c = λ fee penalty. recursion g.met.V.Amount.lawful fee penalty
