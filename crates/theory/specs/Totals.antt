-- Totals, their breaks, and the layering that they give.
--   total: of 0 it is nothing; of t the least, over all s < t, of total(s) + fee(s, t) + penalty.
--   back: of t, the greatest s that reaches this least amount.
--   given: the layering given for back(j), none for 0, and then the layer (back(j), j).
use Rattle.std.specs.Prelude.{ℕ, zero, suc, List, [], ◌∷◌, ◌++◌, get_or, slice_index_or}
use Rattle.std.specs.List.{range_with_len}
use Rattle.amounts.specs.Kind.{Kind}
use Rattle.theory.specs.Least.{argmin}

-- all s < t
abbrev pub below : ℕ → List ℕ
below t = range_with_len 0 t

module _ {V : Type 0} (kind : Kind V) (fee : ℕ → ℕ → V) (penalty : V) where
  -- what the first t cost, if the first s cost f s and the last layer is (s, t)
  abbrev pub through : (ℕ → V) → ℕ → ℕ → V
  through f t s = kind.plus (kind.plus (f s) (fee s t)) penalty

  -- the least of these, over all s < t
  abbrev pub least_through : (ℕ → V) → ℕ → V
  least_through f t = through f t (argmin kind (through f t) (below t))

  -- the totals of 0 to n, each worked out from those before it
  unfoldable pub totals : ℕ → List V
  totals zero = kind.nothing ∷ []
  totals (suc n) = let ts = totals n in ts ++ (least_through (λ s. get_or ts s kind.nothing) (suc n) ∷ [])

  unfoldable pub total : ℕ → V
  total t = slice_index_or (totals t) t kind.nothing

  -- (0 for t = 0)
  unfoldable pub back : ℕ → ℕ
  back t = argmin kind (through total t) (below t)

  -- from j up, break by break, for at most k layers
  unfoldable pub climb : ℕ → ℕ → List ℕ
  climb zero j = []
  climb (suc k) zero = []
  climb (suc k) (suc j) = climb k (back (suc j)) ++ (suc j ∷ [])

  unfoldable pub given : ℕ → List ℕ
  given j = climb j j
