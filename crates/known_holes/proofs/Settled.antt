-- The table of known holes, settled by computation.
use Rattle.std.proofs.Common.{refl}
use Rattle.charges.specs.Levels.{price_total, best_upto}
use Rattle.theory.specs.Least.{choose}
use Rattle.theory.specs.Totals.{totals, total, back}
use Rattle.theory.specs.Pruned.{dropped}
use Rattle.theory.specs.Levels.{held, some_holds}
use Rattle.theory.specs.Tallies.{pairs_tried}
use Rattle.modes.specs.Modes.{first_most}
use Rattle.soils.specs.Soils.{different_below, set_below}
use Rattle.known_holes.specs.Outcomes.{places_found}
use Rattle.known_holes.specs.Table.{Known}

pub known : Known
unfolding choose totals total back dropped held some_holds pairs_tried first_most different_below set_below price_total best_upto places_found
known = (refl, (refl, (refl, (refl, (refl, (refl, (refl, ((refl, refl), ((refl, refl), tt)))))))))
