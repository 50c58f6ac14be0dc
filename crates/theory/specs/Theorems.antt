-- What is true of totals, breaks and the layering that they give, for every kind of amounts and every fee.
--   optimal: the layering given costs exactly the total, and none costs less.
--   ties: another layering of equal cost has the shallower break where the two first differ, counted from the last.
use Rattle.std.specs.Prelude.{◌≡◌, ℕ, ◌<◌, ◌≤◌, true, ◌⊎◌, List, [], ◌∷◌, ◌++◌, length, slice_index_or}
use Rattle.amounts.specs.Kind.{Kind}
use Rattle.theory.specs.Least.{Lowest}
use Rattle.theory.specs.Layerings
use Rattle.theory.specs.Layerings.{Layering, Layer, Deeper, last_break}
use Rattle.theory.specs.Totals
use Rattle.theory.specs.Smooth.{smooth}

module _ {V : Type 0} (kind : Kind V) (fee : ℕ → ℕ → V) (penalty : V) where
  abbrev total : ℕ → V
  total = Totals.total kind fee penalty

  abbrev through : ℕ → ℕ → V
  through = Totals.through kind fee penalty total

  abbrev back : ℕ → ℕ
  back = Totals.back kind fee penalty

  abbrev given : ℕ → List ℕ
  given = Totals.given kind fee penalty

  abbrev cost : List ℕ → V
  cost = Layerings.cost kind fee penalty

  pub record Recursion : Type 0 where
    pub total_none : total 0 ≡ kind.nothing
    pub total_is : (t : ℕ) → 0 < t → total t ≡ through t (back t)
    pub back_is : (t : ℕ) → 0 < t → Lowest kind (λ s. s < t) (through t) (back t)
    pub given_none : given 0 ≡ []
    pub given_is : (j : ℕ) → 0 < j → given j ≡ given (back j) ++ (j ∷ [])
    pub last_break_is : (j : ℕ) → 0 < j → last_break (given j) ≡ back j

  pub record Optimal : Type 0 where
    pub layering : (j : ℕ) → Layering j (given j)
    pub exact : (j : ℕ) → cost (given j) ≡ total j
    pub no_better : (j : ℕ) (qs : List ℕ) → Layering j qs → kind.at_most (total j) (cost qs) ≡ true

  abbrev pub Ties : Type 0
  Ties = (j : ℕ) (qs : List ℕ) → Layering j qs → cost qs ≡ cost (given j) → (given j ≡ qs) ⊎ Deeper (given j) qs

-- the places ps of a layering of the first j, smoothed
pub record Smoothed {L : Type 0} (level : ℕ → ℕ → L) (j : ℕ) (ps : List ℕ) : Type 0 where
  pub one_each : length (smooth level ps) ≡ j
  pub each : (s t i : ℕ) (other : L) → Layer ps s t → s ≤ i → i < t → slice_index_or (smooth level ps) i other ≡ level s t
