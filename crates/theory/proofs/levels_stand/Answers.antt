use Rattle.theory.proofs.Levels.{holding, level_search, level_sound}
use Rattle.theory.proofs.levels_stand.Goals as goal

pub returns : goal.returns
returns g c = record {
  held = λ fee penalty price k. holding g.met.V.Amount.lawful fee penalty price k;
  search = λ fee penalty price k N law. level_search g.met.V.Amount.lawful fee penalty price k N law;
  sound = λ fee penalty price k N law. level_sound g.met.V.Amount.lawful fee penalty price k N law;
}
