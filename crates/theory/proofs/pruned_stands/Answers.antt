use Rattle.theory.proofs.Pruned.{pruning, pruned_sound}
use Rattle.theory.proofs.pruned_stands.Goals as goal

pub returns : goal.returns
returns g c = record {
  kept = λ fee penalty. pruning g.met.V.Amount.lawful fee penalty;
  sound = λ fee penalty N splits. pruned_sound g.met.V.Amount.lawful fee penalty N splits;
}
