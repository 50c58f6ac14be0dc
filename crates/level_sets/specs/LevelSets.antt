-- Which lists are level sets.
--   level: a number that can stand for a layer.
--   level set: the levels that a charge chooses from, 1 to 32 strictly rising number readings.
use Rattle.std.specs.Prelude.{Bool, true, cond, ◌&&◌, List, [], ◌∷◌, length, ℤ, Ok, Err, Result, int_lt, nat_le}
use Rattle.charges.specs.declared.Refusal.{Refusal}
use Rattle.charges.specs.declared.Refusal.TheVariants.{LevelSet}
use Rattle.readings.specs.Numbers.{all_numbers}

-- each level is above the one before it, the first above l
abbrev pub rising_from : ℤ → List ℤ → Bool
rising_from l [] = true
rising_from l (m ∷ ms) = int_lt l m && rising_from m ms

abbrev pub rising : List ℤ → Bool
rising [] = true
rising (l ∷ ls) = rising_from l ls

abbrev pub level_set_lawful : List ℤ → Bool
level_set_lawful ls = nat_le 1 (length ls) && (nat_le (length ls) 32 && (rising ls && all_numbers ls))

-- the levels of the set made from a list, or the refusal
abbrev pub level_set_told : List ℤ → Result (List ℤ) Refusal
level_set_told ls = cond (level_set_lawful ls) (Ok ls) (Err LevelSet)
