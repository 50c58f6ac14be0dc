-- Smooth: every reading gets the level of its layer.
--   level s t: the level of the segment (s, t).
use Rattle.std.specs.Prelude.{ℕ, ◌-◌, List, [], ◌∷◌, ◌++◌, replicate}

module _ {L : Type 0} (level : ℕ → ℕ → L) where
  unfoldable pub smooth_from : ℕ → List ℕ → List L
  smooth_from s [] = []
  smooth_from s (q ∷ ps) = replicate (q - s) (level s q) ++ smooth_from q ps

  -- of the places of a layering
  abbrev pub smooth : List ℕ → List L
  smooth ps = smooth_from 0 ps
