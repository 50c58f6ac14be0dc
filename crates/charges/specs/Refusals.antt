-- The numbers of the refusals.
--   refusal: why a call says no. A refused call changes nothing.
use Rattle.std.specs.Prelude.{ℕ}
use Rattle.charges.specs.declared.Refusal.{Refusal}
use Rattle.charges.specs.declared.Refusal.TheVariants.{Capacity, LevelSet, ShortTable, Full, Unlawful, Outside}

abbrev pub refusal_number : Refusal → ℕ
-- a new charge: the capacity is 0 or above 1,024
refusal_number Capacity = 1
-- a new charge: the level set is empty, longer than 32, not strictly rising or out of range
refusal_number LevelSet = 2
-- a new charge: the table is shorter than the capacity needs
refusal_number ShortTable = 3
-- take: the capacity is reached
refusal_number Full = 6
-- take: the reading is not lawful
refusal_number Unlawful = 7
-- a question: the segment is not one of the readings held, the place is not below their number, or the level is not offered
refusal_number Outside = 9
