use Rattle.theory.proofs.Smooth.{smoothed}
use Rattle.theory.proofs.smooth_stands.Goals as goal

pub returns : goal.returns
returns g c = λ level j ps lay. smoothed level j ps lay
