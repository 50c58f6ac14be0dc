-- How heavy totals can be, so that every addition of a search is exact.
--   bound: no fee weighs more than this times the length of its segment, and no price more than this.
--   exact: an addition whose two weights add up to at most 2^62.
use Rattle.std.specs.Prelude.{ℕ, ◌+◌, ◌-◌, ◌*◌, ◌^◌, ◌<◌, ◌≤◌}
use Rattle.amounts.specs.Kind.{Kind}
use Rattle.theory.specs.Totals
use Rattle.theory.specs.Levels

-- the fees of the segments within the first N readings
abbrev pub FeesWeigh : {V : Type 0} → Kind V → (ℕ → ℕ → V) → ℕ → ℕ → Type 0
FeesWeigh kind fee bound N = (s t : ℕ) → s < t → t ≤ N → kind.weight (fee s t) ≤ (t - s) * bound

-- the prices of the first N readings at k levels
abbrev pub PricesWeigh : {V : Type 0} → Kind V → (ℕ → ℕ → V) → ℕ → ℕ → ℕ → Type 0
PricesWeigh kind price k bound N = (i l : ℕ) → i < N → l < k → kind.weight (price i l) ≤ bound

-- 1,024 readings of the greatest bound, and as many of the heaviest penalties
abbrev pub heaviest : ℕ
heaviest = 1024 * (2 ^ 47 + 1000000000)

module _ {V : Type 0} (kind : Kind V) (fee : ℕ → ℕ → V) (penalty : V) where
  abbrev total : ℕ → V
  total = Totals.total kind fee penalty

  abbrev pub TotalsWeigh : ℕ → ℕ → Type 0
  TotalsWeigh bound N = (t : ℕ) → t ≤ N → kind.weight (total t) ≤ t * (bound + kind.weight penalty)

  -- with k levels, or none
  module _ (price : ℕ → ℕ → V) (k : ℕ) where
    abbrev worth : ℕ → ℕ → V
    worth = Levels.worth kind fee penalty price

    pub record Limits (bound N : ℕ) : Type 0 where
      pub fees : FeesWeigh kind fee bound N
      pub prices : PricesWeigh kind price k bound N
      pub bound_limit : bound ≤ 2 ^ 47
      pub penalty_limit : kind.weight penalty ≤ 1000000000
      pub readings_limit : N ≤ 1024

    -- each addition that a search makes: its two weights together
    pub record Exact (N : ℕ) : Type 0 where
      pub limit : heaviest < 2 ^ 62
      pub fee_added : (s t : ℕ) → s < t → t ≤ N → kind.weight (total s) + kind.weight (fee s t) ≤ heaviest
      pub penalty_added : (s t : ℕ) → s < t → t ≤ N → kind.weight (kind.plus (total s) (fee s t)) + kind.weight penalty ≤ heaviest
      pub price_added : (n l : ℕ) → n < N → l < k → kind.weight (total n) + kind.weight (price n l) ≤ heaviest
      pub worth_carried : (n l : ℕ) → n < N → l < k → kind.weight (worth l n) + kind.weight (price n l) ≤ heaviest
      pub worth_charged : (t l : ℕ) → t ≤ N → l < k → kind.weight (worth l t) + kind.weight penalty ≤ heaviest
