-- Which breaks a search still keeps.
--   keeping test: tells of n and a break s ≤ n whether s is kept after n readings; else it is dropped.
--   plain search: keeps every break.
use Rattle.std.specs.Prelude.{ℕ, suc, Bool, true, List, filter}
use Rattle.theory.specs.Totals.{below}

abbrev pub KeepingTest : Type 0
KeepingTest = ℕ → ℕ → Bool

-- the breaks kept after n readings, in rising order
abbrev pub kept_breaks : KeepingTest → ℕ → List ℕ
kept_breaks keep n = filter (keep n) (below (suc n))

abbrev pub plain_keeps : KeepingTest
plain_keeps n s = true
