use Rattle.theory.proofs.Keeping.{plain_sound}
use Rattle.theory.proofs.plain_stands.Goals as goal

pub returns : goal.returns
returns g c = λ fee penalty N. plain_sound g.met.V.Amount.lawful fee penalty N
