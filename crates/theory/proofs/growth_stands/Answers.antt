use Rattle.theory.proofs.Growth.{unchanged, levels_unchanged}
use Rattle.theory.proofs.growth_stands.Goals as goal

pub returns : goal.returns
returns g c = record {
  told = λ penalty f h N fees. unchanged g.met.V.Amount.lawful penalty f h N fees;
  levels = λ penalty f h p q k N fees prices. levels_unchanged g.met.V.Amount.lawful penalty f h N fees p q k prices;
}
