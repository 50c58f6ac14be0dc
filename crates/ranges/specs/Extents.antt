-- What the table of a range charge holds.
--   extent: the lowest and the highest of some readings. Two extents join to that of all their readings.
--   point: the extent of one reading.
use Rattle.std.specs.Prelude.{ℕ, Bool, true, ◌&&◌, List, [], ◌∷◌, map, take, ℤ, int_le}
use Rattle.std.specs.Int.{int_min, int_max}
use Rattle.readings.specs.Numbers.{number_reading}
use Rattle.ranges.specs.declared.extent.Extent.{Extent}

abbrev pub extent : ℤ → ℤ → Extent
extent l h = record { low = l; high = h }

abbrev pub hull : Extent → Extent → Extent
hull a b = extent (int_min a.low b.low) (int_max a.high b.high)

abbrev pub point : ℤ → Extent
point x = extent x x

-- each is the extent of one number reading
abbrev pub all_points : List Extent → Bool
all_points [] = true
all_points (e ∷ es) = (int_le e.low e.high && int_le e.high e.low) && (number_reading e.low && all_points es)

-- the readings that the first cells of a table hold
abbrev pub held_in : List Extent → ℕ → List ℤ
held_in cells count = map (λ e. e.low) (take count cells)
