-- Tallies of a search after n readings.
--   fees worked out: how many fees the search has worked out for n readings; under the level search it stands for the prices asked.
--   dropped count: how many of the breaks 0 to n are dropped.
use Rattle.std.specs.Prelude.{ℕ, zero, suc, ◌+◌, ◌*◌, ◌/◌, not, count_by}
use Rattle.amounts.specs.Kind.{Kind}
use Rattle.theory.specs.Keeping.{KeepingTest}
use Rattle.theory.specs.Totals.{below}
use Rattle.theory.specs.Pruned.{pruned_keeps}

abbrev pub dropped_count : KeepingTest → ℕ → ℕ
dropped_count keep n = count_by (λ s. not (keep n s)) (below (suc n))

-- the pairs s < t ≤ n with s kept after t - 1 readings
unfoldable pub pairs_tried : KeepingTest → ℕ → ℕ
pairs_tried keep zero = 0
pairs_tried keep (suc n) = pairs_tried keep n + count_by (keep n) (below (suc n))

abbrev pub plain_fees : ℕ → ℕ
plain_fees n = n * (n + 1) / 2

abbrev pub pruned_fees : {V : Type 0} → Kind V → (ℕ → ℕ → V) → V → ℕ → ℕ
pruned_fees kind fee penalty n = pairs_tried (pruned_keeps kind fee penalty) n

-- with k levels
abbrev pub level_fees : ℕ → ℕ → ℕ
level_fees k n = n * k
