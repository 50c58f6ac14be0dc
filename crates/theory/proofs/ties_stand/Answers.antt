use Rattle.theory.proofs.Ties.{ties}
use Rattle.theory.proofs.ties_stand.Goals as goal

pub returns : goal.returns
returns g c = λ fee penalty. ties g.met.V.Amount.lawful fee penalty
