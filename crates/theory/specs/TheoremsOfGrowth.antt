-- What is given for the first N readings does not change as readings are added.
--   alike: two fees that agree on the segments within the first N readings, as before and after more are put.
use Rattle.std.specs.Prelude.{◌≡◌, ℕ, ◌<◌, ◌≤◌, List}
use Rattle.amounts.specs.Kind.{Kind}
use Rattle.theory.specs.Layerings.{Layering, cost}
use Rattle.theory.specs.Totals.{total, back, given}
use Rattle.theory.specs.Keeping.{kept_breaks}
use Rattle.theory.specs.Pruned.{dropped, pruned_keeps}
use Rattle.theory.specs.Levels.{held, worth, level_keeps}
use Rattle.theory.specs.Tallies.{dropped_count, pruned_fees}

abbrev pub FeesAlike : {V : Type 0} → (ℕ → ℕ → V) → (ℕ → ℕ → V) → ℕ → Type 0
FeesAlike f g N = (s t : ℕ) → s < t → t ≤ N → f s t ≡ g s t

abbrev pub PricesAlike : {V : Type 0} → (ℕ → ℕ → V) → (ℕ → ℕ → V) → ℕ → ℕ → Type 0
PricesAlike p q k N = (i l : ℕ) → i < N → l < k → p i l ≡ q i l

module _ {V : Type 0} (kind : Kind V) (penalty : V) (f g : ℕ → ℕ → V) where
  pub record Unchanged (N : ℕ) : Type 0 where
    pub total_same : (t : ℕ) → t ≤ N → total kind f penalty t ≡ total kind g penalty t
    pub back_same : (t : ℕ) → t ≤ N → back kind f penalty t ≡ back kind g penalty t
    pub given_same : (j : ℕ) → j ≤ N → given kind f penalty j ≡ given kind g penalty j
    pub cost_same : (j : ℕ) (ps : List ℕ) → j ≤ N → Layering j ps → cost kind f penalty ps ≡ cost kind g penalty ps
    pub dropped_same : (n s : ℕ) → n ≤ N → dropped kind f penalty n s ≡ dropped kind g penalty n s
    pub kept_same : (n : ℕ) → n ≤ N → kept_breaks (pruned_keeps kind f penalty) n ≡ kept_breaks (pruned_keeps kind g penalty) n
    pub count_same : (n : ℕ) → n ≤ N → dropped_count (pruned_keeps kind f penalty) n ≡ dropped_count (pruned_keeps kind g penalty) n
    pub fees_same : (n : ℕ) → n ≤ N → pruned_fees kind f penalty n ≡ pruned_fees kind g penalty n

  -- under the level search with k levels, of prices p and q
  pub record LevelsUnchanged (p q : ℕ → ℕ → V) (k N : ℕ) : Type 0 where
    pub held_same : (l n : ℕ) → n ≤ N → l < k → held kind f penalty p l n ≡ held kind g penalty q l n
    pub worth_same : (l n : ℕ) → n ≤ N → l < k → worth kind f penalty p l n ≡ worth kind g penalty q l n
    pub keeps_same : (n s : ℕ) → n ≤ N → level_keeps kind f penalty p k n s ≡ level_keeps kind g penalty q k n s
    pub kept_same : (n : ℕ) → n ≤ N → kept_breaks (level_keeps kind f penalty p k) n ≡ kept_breaks (level_keeps kind g penalty q k) n
    pub count_same : (n : ℕ) → n ≤ N → dropped_count (level_keeps kind f penalty p k) n ≡ dropped_count (level_keeps kind g penalty q k) n
