use Rattle.holes.proofs.Shows.{hole_laws, hole_level_laws, grows}
use Rattle.holes.proofs.hole_laws_stand.Goals as goal

pub returns : goal.returns
returns g c = record {
  fees = λ r h so lawful few. hole_laws r h lawful so few;
  levels = λ r leveling l h so lawful. hole_level_laws r h lawful g.met.V.Amount.lawful leveling l so;
  grows = λ r l h more. grows r l h more;
}
