-- The least over candidates, and of several places that reach it the greatest.
--   candidate: a place that passes P, or stands in a rising list.
--   chosen: the greatest of the candidates that are as good as any, by a test.
--   lowest, argmin: chosen by the least amount.
use Rattle.std.specs.Prelude.{◌≡◌, ℕ, ◌<◌, Bool, true, false, List, [], ◌∷◌}
use Rattle.std.specs.List.{best_of}
use Rattle.amounts.specs.Kind.{Kind}

-- of the places that pass P, b is the greatest that is as good as any (good s u: s is as good as u)
pub record Chosen (good : ℕ → ℕ → Bool) (P : ℕ → Type 0) (b : ℕ) : Type 0 where
  pub among : P b
  pub best : (s : ℕ) → P s → good b s ≡ true
  pub last : (s : ℕ) → P s → b < s → good s b ≡ false

-- as good: f is no greater there
abbrev pub by_amount : {V : Type 0} → Kind V → (ℕ → V) → ℕ → ℕ → Bool
by_amount kind f s u = kind.at_most (f s) (f u)

abbrev pub Lowest : {V : Type 0} → Kind V → (ℕ → Type 0) → (ℕ → V) → ℕ → Type 0
Lowest kind P f b = Chosen (by_amount kind f) P b

-- of a rising list, each place tried against the best before it (0 if the list is empty)
unfoldable pub choose : (ℕ → ℕ → Bool) → List ℕ → ℕ
choose good [] = 0
choose good (c ∷ cs) = best_of good c cs

abbrev pub argmin : {V : Type 0} → Kind V → (ℕ → V) → List ℕ → ℕ
argmin kind f cs = choose (by_amount kind f) cs
