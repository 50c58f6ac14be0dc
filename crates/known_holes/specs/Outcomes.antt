-- What a search finds of a hole, by the definitions.
--   outcome: the total as its two words, the places of the layering, the tally (fees worked out, breaks dropped), and each layer's level.
use Rattle.std.specs.Prelude.{ℕ, zero, suc, ◌-◌, List, [], ◌∷◌, ◌++◌, length, ℤ}
use Rattle.amounts.specs.Kind.{Kind}
use Rattle.charges.specs.Rules.{Rules}
use Rattle.charges.specs.Levels.{Levels}
use Rattle.theory.specs.Least.{argmin}
use Rattle.theory.specs.Totals.{total, through}
use Rattle.theory.specs.Keeping.{KeepingTest, kept_breaks, plain_keeps}
use Rattle.theory.specs.Pruned.{pruned_keeps}
use Rattle.theory.specs.Levels.{held, worth, winner, level_keeps}
use Rattle.theory.specs.Tallies.{dropped_count, plain_fees, pruned_fees, level_fees}
use Rattle.holes.specs.Holes.{fee_of, level_of, price_of}

pub data SearchKind : Type 0 where
  plain : SearchKind
  pruned : SearchKind
  by_level : SearchKind

pub record Outcome : Type 0 where
  pub words : ℕ × ℕ
  pub places : List ℕ
  pub tally : ℕ × ℕ
  pub levels : List ℤ

-- the levels of the layers between neighbouring places
abbrev pub levels_of : (List ℤ → ℤ) → List ℤ → ℕ → List ℕ → List ℤ
levels_of leveling h s [] = []
levels_of leveling h s (q ∷ ps) = level_of leveling h s q ∷ levels_of leveling h q ps

module _ {V : Type 0} (kind : Kind V) (r : Rules V) (l : Levels V) (h : List ℤ) (penalty : V) where
  abbrev fee : ℕ → ℕ → V
  fee = fee_of r h

  abbrev price : ℕ → ℕ → V
  price = price_of l h

  abbrev best : KeepingTest → ℕ → ℕ
  best keep t = argmin kind (through kind fee penalty (total kind fee penalty) t) (kept_breaks keep (t - 1))

  -- the break and the total that a search finds for the first t readings, t > 0: over the breaks that it keeps, or from what its levels hold
  abbrev pub break_found : SearchKind → ℕ → ℕ
  break_found plain t = best plain_keeps t
  break_found pruned t = best (pruned_keeps kind fee penalty) t
  break_found by_level t = held kind fee penalty price (winner kind fee penalty price l.offered t) t

  abbrev pub total_found : SearchKind → ℕ → V
  total_found plain t = through kind fee penalty (total kind fee penalty) t (break_found plain t)
  total_found pruned t = through kind fee penalty (total kind fee penalty) t (break_found pruned t)
  total_found by_level t = kind.plus (worth kind fee penalty price (winner kind fee penalty price l.offered t) t) penalty

  -- from j up, break by break, for at most k layers
  unfoldable pub places_found : SearchKind → ℕ → ℕ → List ℕ
  places_found way zero j = []
  places_found way (suc k) zero = []
  places_found way (suc k) (suc j) = places_found way k (break_found way (suc j)) ++ (suc j ∷ [])

  abbrev pub tally_found : SearchKind → ℕ → ℕ × ℕ
  tally_found plain n = (plain_fees n, dropped_count plain_keeps n)
  tally_found pruned n = (pruned_fees kind fee penalty n, dropped_count (pruned_keeps kind fee penalty) n)
  tally_found by_level n = (level_fees l.offered n, dropped_count (level_keeps kind fee penalty price l.offered) n)

  abbrev pub outcome : SearchKind → (List ℤ → ℤ) → Outcome
  outcome way leveling =
      let n = length h in
      let ps = places_found way n n in
      record { words = kind.words (total_found way n); places = ps; tally = tally_found way n; levels = levels_of leveling h 0 ps }
