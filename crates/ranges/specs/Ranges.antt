-- What the range charge means.
--   range: how far the highest and the lowest reading of a list lie apart.
--   The fee is the range once for each reading; the level is the middle between lowest and highest.
use Rattle.std.specs.Prelude.{ℕ, ◌*◌, List, [], ◌∷◌, length, ℤ, pos, ◌+ℤ◌, ◌-ℤ◌, int_div, unsigned_abs}
use Rattle.std.specs.Int.{int_min, int_max}
use Rattle.amounts.specs.Kinds.{whole}
use Rattle.amounts.specs.declared.Whole.{Whole}
use Rattle.charges.specs.Rules.{Rules}
use Rattle.readings.specs.Numbers.{number_reading}

-- the lowest of x and others, and of a list that is not empty
abbrev pub lowest_of : ℤ → List ℤ → ℤ
lowest_of x [] = x
lowest_of x (y ∷ ys) = int_min x (lowest_of y ys)

abbrev pub lowest : List ℤ → ℤ
lowest [] = pos 0
lowest (x ∷ xs) = lowest_of x xs

-- the highest likewise
abbrev pub highest_of : ℤ → List ℤ → ℤ
highest_of x [] = x
highest_of x (y ∷ ys) = int_max x (highest_of y ys)

abbrev pub highest : List ℤ → ℤ
highest [] = pos 0
highest (x ∷ xs) = highest_of x xs

abbrev pub range : List ℤ → ℕ
range u = unsigned_abs (highest u -ℤ lowest u)

abbrev pub range_fee : List ℤ → Whole
range_fee u = whole (length u * range u)

-- half of the sum, rounded toward zero
abbrev pub middle : ℤ → ℤ → ℤ
middle low high = int_div (low +ℤ high) (pos 2)

abbrev pub range_level : List ℤ → ℤ
range_level u = middle (lowest u) (highest u)

abbrev pub range_rules : ℕ → Rules Whole
range_rules capacity = record { capacity = capacity; bound = 2000000; lawful = number_reading; fee = range_fee }
