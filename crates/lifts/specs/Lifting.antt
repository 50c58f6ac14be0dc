-- The lift: a charge in whole amounts as one in pairs.
--   lifted: of a whole amount f, the pair (f, 0). A penalty of b is then (b, 1), so that of equal costs fewer layers come first in the order.
use Rattle.amounts.specs.Kinds.{pair}
use Rattle.amounts.specs.declared.Whole.{Whole}
use Rattle.amounts.specs.declared.Pair.{Pair}
use Rattle.charges.specs.Rules.{Rules}
use Rattle.charges.specs.Levels.{Levels}

abbrev pub lifted : Whole → Pair
lifted f = pair f.number 0

-- the penalty of a lifted charge
abbrev pub lifted_penalty : Whole → Pair
lifted_penalty b = pair b.number 1

-- nothing but the fee alters
abbrev pub lifted_rules : Rules Whole → Rules Pair
lifted_rules r = record { capacity = r.capacity; bound = r.bound; lawful = r.lawful; fee = λ u. lifted (r.fee u) }

-- nothing but the price alters
abbrev pub lifted_levels : Levels Whole → Levels Pair
lifted_levels l = record { offered = l.offered; value = l.value; price = λ x i. lifted (l.price x i) }
