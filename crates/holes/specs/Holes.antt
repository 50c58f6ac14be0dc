-- Fees, levels and prices of one hole, by places.
--   hole: a list of readings, numbered from 0.
use Rattle.std.specs.Prelude.{ℕ, List, ℤ, pos, slice_index_or}
use Rattle.charges.specs.Rules.{Rules, segment}
use Rattle.charges.specs.Levels.{Levels}

-- the fee of the segment (s, t) of a hole
abbrev pub fee_of : {V : Type 0} → Rules V → List ℤ → ℕ → ℕ → V
fee_of r h s t = r.fee (segment h s t)

-- its level
abbrev pub level_of : (List ℤ → ℤ) → List ℤ → ℕ → ℕ → ℤ
level_of leveling h s t = leveling (segment h s t)

-- the price of the reading i of a hole, at level l
abbrev pub price_of : {V : Type 0} → Levels V → List ℤ → ℕ → ℕ → V
price_of levels h i l = levels.price (slice_index_or h i (pos 0)) l
