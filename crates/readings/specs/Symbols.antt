-- Which readings are symbols.
--   symbol: a whole number from 0 to 31.
use Rattle.std.specs.Prelude.{Bool, ◌&&◌, List, ℤ, pos, int_le}
use Rattle.std.specs.List.{list_all}

abbrev pub symbol_reading : ℤ → Bool
symbol_reading x = int_le (pos 0) x && int_le x (pos 31)

abbrev pub all_symbols : List ℤ → Bool
all_symbols u = list_all symbol_reading u
