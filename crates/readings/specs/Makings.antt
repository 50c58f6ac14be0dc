-- What the test before making a charge answers, and the capacity that the making then gives.
--   capacity: how many readings a charge can hold, from 1 to 1,024.
--   table: the memory lent to a charge for its life.
use Rattle.std.specs.Prelude.{ℕ, cond, ◌||◌, is_ok, Ok, Err, Result, ◌==◌, nat_lt}
use Rattle.charges.specs.declared.Refusal.{Refusal}
use Rattle.charges.specs.declared.Refusal.TheVariants.{Capacity, ShortTable}

-- a capacity, how long a table it needs, and how long the table is
abbrev pub making_told : ℕ → ℕ → ℕ → Result (Unit {0}) Refusal
making_told capacity needed table = cond (capacity == 0 || nat_lt 1024 capacity) (Err Capacity) (cond (nat_lt table needed) (Err ShortTable) (Ok tt))

-- the capacity asked for, and 0 from what the test refuses
abbrev pub made_capacity : Result (Unit {0}) Refusal → ℕ → ℕ
made_capacity told capacity = cond (is_ok told) capacity 0
