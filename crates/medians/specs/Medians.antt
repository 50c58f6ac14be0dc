-- What the median charge means.
--   distance: how far two readings lie apart.
--   median: the smallest reading that at least half of the list does not exceed; it is the level of the list.
--   The fee is the sum of the distances to the level.
use Rattle.std.specs.Prelude.{ℕ, ◌*◌, Bool, List, [], ◌∷◌, length, ℤ, pos, ◌-ℤ◌, fold, sum_by, count_by, filter, int_le, nat_le, unsigned_abs}
use Rattle.std.specs.Int.{int_min}
use Rattle.amounts.specs.Kinds.{whole}
use Rattle.amounts.specs.declared.Whole.{Whole}
use Rattle.charges.specs.Rules.{Rules}
use Rattle.readings.specs.Numbers.{number_reading}

abbrev pub distance : ℤ → ℤ → ℕ
distance x y = unsigned_abs (x -ℤ y)

abbrev pub distances : ℤ → List ℤ → ℕ
distances x u = sum_by (distance x) u

-- how many of the readings do not exceed x
abbrev pub upto : ℤ → List ℤ → ℕ
upto x u = count_by (λ y. int_le y x) u

-- at least half of the list does not exceed x
abbrev pub half_upto : List ℤ → ℤ → Bool
half_upto u x = nat_le (length u) (2 * upto x u)

-- the smallest of a list that is not empty
abbrev pub lowest : List ℤ → ℤ
lowest [] = pos 0
lowest (x ∷ xs) = fold int_min x xs

abbrev pub median : List ℤ → ℤ
median u = lowest (filter (half_upto u) u)

abbrev pub median_fee : List ℤ → Whole
median_fee u = whole (distances (median u) u)

abbrev pub median_rules : ℕ → Rules Whole
median_rules capacity = record { capacity = capacity; bound = 2000000; lawful = number_reading; fee = median_fee }
