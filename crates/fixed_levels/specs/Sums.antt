-- How the table keeps the readings: each with the sums up to it.
--   sums: of readings, and of their squares. The sum of squared distances to a level follows from them.
use Rattle.std.specs.Prelude.{ℕ, ◌+◌, Bool, true, ◌&&◌, List, [], ◌∷◌, map, take, ℤ, pos, ◌+ℤ◌, ◌==◌, int_le}
use Rattle.fixed_levels.specs.declared.place.Place.{Place}
use Rattle.fixed_levels.specs.Fixed.{square, squared_distance_lem}

unfoldable pub sum_of : List ℤ → ℤ
sum_of [] = pos 0
sum_of (x ∷ xs) = x +ℤ sum_of xs

unfoldable pub squares_of : List ℤ → ℕ
squares_of [] = 0
squares_of (x ∷ xs) = square x + squares_of xs

-- the sum of squared distances to the level l
unfoldable pub squares_about : ℤ → List ℤ → ℕ
squares_about l [] = 0
squares_about l (x ∷ xs) = squared_distance_lem x l + squares_about l xs

abbrev pub readings_of : List Place → List ℤ
readings_of ps = map (λ p. p.reading) ps

abbrev pub same_number : ℤ → ℤ → Bool
same_number a b = int_le a b && int_le b a

-- each place has the sums up to and including its reading, where a and b are those of the readings before
abbrev pub summed_from : ℤ → ℕ → List Place → Bool
summed_from a b [] = true
summed_from a b (p ∷ ps) = same_number p.sum (a +ℤ p.reading) && (p.squares == b + square p.reading && summed_from p.sum p.squares ps)

abbrev pub summed : List Place → Bool
summed ps = summed_from (pos 0) 0 ps

-- the readings that the first places of a table hold
abbrev pub held_in : List Place → ℕ → List ℤ
held_in table count = readings_of (take count table)
