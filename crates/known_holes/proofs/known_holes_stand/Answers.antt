use Rattle.known_holes.proofs.Settled.{known}
use Rattle.known_holes.proofs.known_holes_stand.Goals as goal

pub returns : goal.returns
returns c = known
