-- What the charge with fixed levels means.
--   squared distance: how far a reading lies from a level, times itself; it is the price of the reading at that level.
--   The fee is the least sum of squared distances over the level set; the level is the one that gives it, the lowest at a tie.
use Rattle.std.specs.Prelude.{ℕ, ◌*◌, cond, ◌||◌, List, [], ◌∷◌, length, ℤ, pos, ◌-ℤ◌, is_ok, Ok, Err, Result, ◌==◌, nat_lt, slice_index_or, unsigned_abs}
use Rattle.amounts.specs.Kinds.{whole, whole_kind}
use Rattle.amounts.specs.declared.Whole.{Whole}
use Rattle.charges.specs.declared.Refusal.{Refusal}
use Rattle.charges.specs.declared.Refusal.TheVariants.{Capacity, LevelSet, ShortTable}
use Rattle.charges.specs.Levels.{Levels, price_total, best_level}
use Rattle.charges.specs.Rules.{Rules}
use Rattle.readings.specs.Numbers.{number_reading}
use Rattle.level_sets.specs.LevelSets.{level_set_lawful}

abbrev pub square : ℤ → ℕ
square x = unsigned_abs x * unsigned_abs x

abbrev pub squared_distance_lem : ℤ → ℤ → ℕ
squared_distance_lem x l = square (x -ℤ l)

-- the levels of a level set, in its order, with the squared distance as price
abbrev pub fixed_levels : List ℤ → Levels Whole
fixed_levels ls = record { offered = length ls; value = λ i. slice_index_or ls i (pos 0); price = λ x i. whole (squared_distance_lem x (slice_index_or ls i (pos 0))) }

-- the lowest-numbered level of least price total
abbrev pub best : List ℤ → List ℤ → ℕ
best ls u = best_level whole_kind (fixed_levels ls) u

abbrev pub fixed_fee : List ℤ → List ℤ → Whole
fixed_fee ls u = price_total whole_kind (fixed_levels ls) (best ls u) u

abbrev pub fixed_level : List ℤ → List ℤ → ℤ
fixed_level ls u = slice_index_or ls (best ls u) (pos 0)

abbrev pub fixed_rules : List ℤ → ℕ → Rules Whole
fixed_rules ls capacity = record { capacity = capacity; bound = 4000000000000; lawful = number_reading; fee = fixed_fee ls }

-- what the test before making answers, of levels, a capacity and the length of a table
abbrev pub fixed_told : List ℤ → ℕ → ℕ → Result (Unit {0}) Refusal
fixed_told ls capacity table =
    cond (capacity == 0 || nat_lt 1024 capacity) (Err Capacity) (cond (level_set_lawful ls) (cond (nat_lt table capacity) (Err ShortTable) (Ok tt)) (Err LevelSet))

-- the levels asked for, and the one level 0 from what the test refuses
abbrev pub made_levels : Result (Unit {0}) Refusal → List ℤ → List ℤ
made_levels told ls = cond (is_ok told) ls (pos 0 ∷ [])
