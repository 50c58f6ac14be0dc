-- What the tests before a charge takes a reading or answers a question say, of numbers alone; they run from the top down. Of a charge's
-- rules and the readings held, Told and Levels of charges say the same.
use Rattle.std.specs.Prelude.{ℕ, Bool, cond, ◌&&◌, Ok, Err, Result, nat_le, nat_lt}
use Rattle.charges.specs.declared.Refusal.{Refusal}
use Rattle.charges.specs.declared.Refusal.TheVariants.{Full, Unlawful, Outside}

-- how many readings are held, how many can be, and whether the one more is lawful
abbrev pub taking_told : ℕ → ℕ → Bool → Result (Unit {0}) Refusal
taking_told held capacity lawful = cond (nat_le capacity held) (Err Full) (cond lawful (Ok tt) (Err Unlawful))

-- whether (s, t) is a segment of so many readings: s < t ≤ held
abbrev pub asking_told : ℕ → ℕ → ℕ → Result (Unit {0}) Refusal
asking_told s t held = cond (nat_lt s t && nat_le t held) (Ok tt) (Err Outside)

-- a place and how many readings are held, a level and how many are offered
abbrev pub pricing_told : ℕ → ℕ → ℕ → ℕ → Result (Unit {0}) Refusal
pricing_told place held level offered = cond (nat_lt place held && nat_lt level offered) (Ok tt) (Err Outside)
