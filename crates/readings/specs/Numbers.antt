-- Which readings are numbers.
--   number reading: a whole number from -1,000,000 to 1,000,000.
use Rattle.std.specs.Prelude.{Bool, ◌&&◌, List, ℤ, pos, negsuc, int_le}
use Rattle.std.specs.List.{list_all}

abbrev pub number_reading : ℤ → Bool
number_reading x = int_le (negsuc 999999) x && int_le x (pos 1000000)

abbrev pub all_numbers : List ℤ → Bool
all_numbers u = list_all number_reading u
