-- What the soils charge means.
--   symbol: a reading from 0 to 31, the kind of soil found.
--   The fee is, once for each reading, how many different symbols occur besides the first.
--   The level is the set of symbols that occur, written as a number: the sum of 2^k over each symbol k of them.
use Rattle.std.specs.Prelude.{ℕ, zero, suc, ◌+◌, ◌-◌, ◌*◌, ◌^◌, Bool, false, cond, ◌||◌, List, [], ◌∷◌, length, ℤ, pos, ◌==◌, unsigned_abs}
use Rattle.amounts.specs.Kinds.{whole}
use Rattle.amounts.specs.declared.Whole.{Whole}
use Rattle.charges.specs.Rules.{Rules}
use Rattle.readings.specs.Symbols.{symbol_reading}

-- symbol k is among the readings
abbrev pub occurs : ℕ → List ℤ → Bool
occurs k [] = false
occurs k (x ∷ xs) = unsigned_abs x == k || occurs k xs

-- how many of the symbols below n occur
unfoldable pub different_below : ℕ → List ℤ → ℕ
different_below zero u = 0
different_below (suc n) u = cond (occurs n u) 1 0 + different_below n u

abbrev pub different : List ℤ → ℕ
different u = different_below 32 u

-- the sum of 2^k over the symbols k below n that occur
unfoldable pub set_below : ℕ → List ℤ → ℕ
set_below zero u = 0
set_below (suc n) u = cond (occurs n u) 1 0 * 2 ^ n + set_below n u

abbrev pub set_of : List ℤ → ℕ
set_of u = set_below 32 u

abbrev pub soils_fee : List ℤ → Whole
soils_fee u = whole (length u * (different u - 1))

abbrev pub soils_level : List ℤ → ℤ
soils_level u = pos (set_of u)

abbrev pub soils_rules : ℕ → Rules Whole
soils_rules capacity = record { capacity = capacity; bound = 31; lawful = symbol_reading; fee = soils_fee }
