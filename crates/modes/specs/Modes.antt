-- What the mode charge means.
--   occurrences: how many of the readings are a symbol.
--   commonest: the symbol of most occurrences, the smallest at a tie; it is the level of the list.
--   The fee is how many readings differ from the level.
use Rattle.std.specs.Prelude.{ℕ, zero, suc, Bool, cond, not, ◌&&◌, List, ℤ, pos, count_by, int_le, nat_le}
use Rattle.amounts.specs.Kinds.{whole}
use Rattle.amounts.specs.declared.Whole.{Whole}
use Rattle.charges.specs.Rules.{Rules}
use Rattle.charges.specs.Levels.{Levels}
use Rattle.readings.specs.Symbols.{symbol_reading}

-- the reading is the symbol i
abbrev pub is : ℤ → ℕ → Bool
is x i = int_le x (pos i) && int_le (pos i) x

abbrev pub occurrences : List ℤ → ℕ → ℕ
occurrences u i = count_by (λ x. is x i) u

abbrev pub differing : List ℤ → ℕ → ℕ
differing u i = count_by (λ x. not (is x i)) u

-- of the numbers 0 to n, the first at which f is greatest
unfoldable pub first_most : (ℕ → ℕ) → ℕ → ℕ
first_most f zero = zero
first_most f (suc n) = let b = first_most f n in cond (nat_le (f (suc n)) (f b)) b (suc n)

abbrev pub commonest : List ℤ → ℕ
commonest u = first_most (occurrences u) 31

abbrev pub mode_fee : List ℤ → Whole
mode_fee u = whole (differing u (commonest u))

abbrev pub mode : List ℤ → ℤ
mode u = pos (commonest u)

abbrev pub mode_rules : ℕ → Rules Whole
mode_rules capacity = record { capacity = capacity; bound = 1; lawful = symbol_reading; fee = mode_fee }

-- all 32 symbols, at price 0 for an equal one and else 1
abbrev pub mode_levels : Levels Whole
mode_levels = record { offered = 32; value = λ i. pos i; price = λ x i. whole (cond (is x i) 0 1) }
