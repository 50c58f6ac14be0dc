-- The pruned search: which breaks it drops.
--   dropped: after n readings, a break s for which some u with s < u ≤ n has total(s) + fee(s, u) not below total(u).
--   splitting law: two neighbouring segments have fees that add up to at most the fee of the two together.
use Rattle.std.specs.Prelude.{◌≡◌, ℕ, zero, suc, ◌<◌, ◌≤◌, Bool, true, false, not, ◌&&◌, ◌||◌, nat_lt}
use Rattle.amounts.specs.Kind.{Kind}
use Rattle.theory.specs.Keeping.{KeepingTest}
use Rattle.theory.specs.Totals.{total}

-- the splitting law, for the segments within the first N readings
abbrev pub Splits : {V : Type 0} → Kind V → (ℕ → ℕ → V) → ℕ → Type 0
Splits kind fee N = (s u t : ℕ) → s < u → u < t → t ≤ N → kind.at_most (kind.plus (fee s u) (fee u t)) (fee s t) ≡ true

module _ {V : Type 0} (kind : Kind V) (fee : ℕ → ℕ → V) (penalty : V) where
  -- total(s) + fee(s, u) is not below total(u): no penalty is added, and equality drops
  abbrev pub drops : ℕ → ℕ → Bool
  drops u s = kind.at_most (total kind fee penalty u) (kind.plus (total kind fee penalty s) (fee s u))

  pub record Dropped (n s : ℕ) : Type 0 where
    pub u : ℕ
    pub above : s < u
    pub within : u ≤ n
    pub dropped_by : drops u s ≡ true

  -- the same as a test
  unfoldable pub dropped : ℕ → ℕ → Bool
  dropped zero s = false
  dropped (suc n) s = (nat_lt s (suc n) && drops (suc n) s) || dropped n s

  abbrev pub pruned_keeps : KeepingTest
  pruned_keeps n s = not (dropped n s)
