-- The level search: what each level holds, and which breaks are kept.
--   price i l: the price of reading i at level l; the levels are numbered from 0, and k is their number.
--   held: by a level after n readings, the greatest s < n of least total(s) + its price sum of (s, n).
--   worth: of a level, this least amount.
--   kept: n itself, and every break that some level holds.
use Rattle.std.specs.Prelude.{◌≡◌, ℕ, zero, suc, ◌<◌, ◌≤◌, Bool, true, false, cond, not, ◌&&◌, ◌||◌, ◌⊎◌, ◌==◌, nat_le}
use Rattle.amounts.specs.Kind.{Kind}
use Rattle.theory.specs.Keeping.{KeepingTest}
use Rattle.theory.specs.Least.{choose, argmin}
use Rattle.theory.specs.Totals.{below, total}

-- the prices of the readings s to t - 1 at level l, added up
abbrev pub price_sum : {V : Type 0} → Kind V → (ℕ → ℕ → V) → ℕ → ℕ → ℕ → V
price_sum kind price l s zero = kind.nothing
price_sum kind price l s (suc t) = cond (nat_le s t) (kind.plus (price_sum kind price l s t) (price t l)) kind.nothing

-- the level law: within the first N readings the fee of a segment is the least of its k price sums
pub record Leveled {V : Type 0} (kind : Kind V) (fee price : ℕ → ℕ → V) (k N : ℕ) : Type 0 where
  pub least : (s t l : ℕ) → s < t → t ≤ N → l < k → kind.at_most (fee s t) (price_sum kind price l s t) ≡ true
  pub reached : (s t : ℕ) → s < t → t ≤ N → (l : ℕ) × (l < k) × (fee s t ≡ price_sum kind price l s t)

module _ {V : Type 0} (kind : Kind V) (fee : ℕ → ℕ → V) (penalty : V) (price : ℕ → ℕ → V) where
  -- what level l makes of the break s, for the first n readings
  abbrev pub at_level : ℕ → ℕ → ℕ → V
  at_level l n s = kind.plus (total kind fee penalty s) (price_sum kind price l s n)

  -- (0 for n = 0)
  unfoldable pub held : ℕ → ℕ → ℕ
  held l n = argmin kind (at_level l n) (below n)

  abbrev pub worth : ℕ → ℕ → V
  worth l n = at_level l n (held l n)

  -- with the reading n a level takes up the break n, or carries on with the one that it held
  abbrev pub taken_up : ℕ → ℕ → V
  taken_up l n = kind.plus (total kind fee penalty n) (price n l)

  abbrev pub carried_on : ℕ → ℕ → V
  carried_on l n = kind.plus (worth l n) (price n l)

  abbrev pub takes_up : ℕ → ℕ → Bool
  takes_up l n = kind.at_most (taken_up l n) (carried_on l n)

  -- level l is worth less than level m, or as much and holds no shallower a break
  abbrev pub wins : ℕ → ℕ → ℕ → Bool
  wins n l m = kind.at_most (worth l n) (worth m n) && (not (kind.at_most (worth m n) (worth l n)) || nat_le (held m n) (held l n))

  -- of k levels the one that the search takes its break from
  abbrev pub winner : ℕ → ℕ → ℕ
  winner k n = choose (wins n) (below k)

  -- kept after n readings, with k levels
  abbrev pub LevelKept : ℕ → ℕ → ℕ → Type 0
  LevelKept k n s = (s ≡ n) ⊎ ((l : ℕ) × (l < k) × (held l n ≡ s))

  -- the same as a test
  unfoldable pub some_holds : ℕ → KeepingTest
  some_holds zero n s = false
  some_holds (suc k) n s = held k n == s || some_holds k n s

  abbrev pub level_keeps : ℕ → KeepingTest
  level_keeps k n s = s == n || some_holds k n s
