-- What the table of a soils charge holds.
--   symbols: a set of symbols, of which digit k of the number says whether symbol k is in it. Two sets join to their union.
--   single: the set of one symbol.
use Rattle.std.specs.Prelude.{ℕ, ◌^◌, Bool, true, ◌&&◌, List, [], ◌∷◌, map, take, ℤ, pos, ◌==◌, bit_or, nat_lt, unsigned_abs}
use Rattle.std.specs.Int.Count.{count_trailing_zeros}
use Rattle.soils.specs.declared.symbols.Symbols.{Symbols}

abbrev pub symbols : ℕ → Symbols
symbols n = record { bits = n }

abbrev pub union : Symbols → Symbols → Symbols
union a b = symbols (bit_or a.bits b.bits)

abbrev pub single : ℤ → Symbols
single x = symbols (2 ^ unsigned_abs x)

-- the lowest symbol of a set: as many digits below it are 0
abbrev pub symbol_of : Symbols → ℤ
symbol_of a = pos (count_trailing_zeros 32 a.bits)

-- each is the set of one symbol
abbrev pub all_single : List Symbols → Bool
all_single [] = true
all_single (a ∷ as') = (nat_lt (count_trailing_zeros 32 a.bits) 32 && a.bits == 2 ^ count_trailing_zeros 32 a.bits) && all_single as'

-- the readings that the first cells of a table hold
abbrev pub held_in : List Symbols → ℕ → List ℤ
held_in cells count = map symbol_of (take count cells)
