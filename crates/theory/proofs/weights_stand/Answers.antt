use Rattle.theory.proofs.Weights.{totals_weigh, exact}
use Rattle.theory.proofs.weights_stand.Goals as goal

pub returns : goal.returns
returns g c = record {
  totals = λ fee penalty bound N fees. totals_weigh g.met.V.Amount.lawful fee penalty bound N fees;
  exact = λ fee penalty price k bound N limits. exact g.met.V.Amount.lawful fee penalty price k bound N limits;
}
