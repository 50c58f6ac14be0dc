-- What one element more answers.
--   capacity: how many elements a list can have.
use Rattle.std.specs.Prelude.{ℕ, cond, Ok, Err, Result, nat_le, nat_lt}
use Rattle.charges.specs.declared.Refusal.{Refusal}
use Rattle.charges.specs.declared.Refusal.TheVariants.{Full, Outside}

-- before the element at a place, or at the end, of n elements
abbrev pub insert_told : ℕ → ℕ → ℕ → Result (Unit {0}) Refusal
insert_told capacity n at = cond (nat_le capacity n) (Err Full) (cond (nat_lt n at) (Err Outside) (Ok tt))
