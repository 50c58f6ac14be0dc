-- Known holes: some small holes and what is to be found of them, worked out by hand.
--   row: a charge, a kind of amounts, the readings of a hole, and what is expected.
use Rattle.std.specs.Prelude.{◌≡◌, ℕ, List, [], ◌∷◌, ℤ, pos, negsuc}
use Rattle.std.specs.List.{AllByRecursion}
use Rattle.amounts.specs.Kinds.{whole, whole_kind, pair_kind}
use Rattle.amounts.specs.declared.Whole.{Whole}
use Rattle.charges.specs.Rules.{Rules}
use Rattle.charges.specs.Levels.{Levels}
use Rattle.medians.specs.Medians.{median, median_rules}
use Rattle.ranges.specs.Ranges.{range_level, range_rules}
use Rattle.modes.specs.Modes.{mode, mode_rules, mode_levels}
use Rattle.fixed_levels.specs.Fixed.{fixed_level, fixed_rules, fixed_levels}
use Rattle.soils.specs.Soils.{soils_level, soils_rules}
use Rattle.lifts.specs.Lifting.{lifted_penalty, lifted_rules, lifted_levels}
use Rattle.known_holes.specs.Outcomes.{SearchKind, pruned, by_level, Outcome, outcome}

-- the letters of the charges, Q with its level set
pub data ChargeKind : Type 0 where
  M : ChargeKind
  R : ChargeKind
  S : ChargeKind
  Q : List ℤ → ChargeKind
  D : ChargeKind

pub data AmountKind : Type 0 where
  wholes : AmountKind
  pairs : AmountKind

abbrev pub rules_of : ChargeKind → Rules Whole
rules_of M = median_rules 1024
rules_of R = range_rules 1024
rules_of S = mode_rules 1024
rules_of (Q ls) = fixed_rules ls 1024
rules_of D = soils_rules 1024

abbrev pub leveling_of : ChargeKind → List ℤ → ℤ
leveling_of M = median
leveling_of R = range_level
leveling_of S = mode
leveling_of (Q ls) = fixed_level ls
leveling_of D = soils_level

-- of a charge that is no level charge, none
abbrev no_levels : Levels Whole
no_levels = record { offered = 0; value = λ i. pos 0; price = λ x i. whole 0 }

abbrev pub levels_of : ChargeKind → Levels Whole
levels_of M = no_levels
levels_of R = no_levels
levels_of S = mode_levels
levels_of (Q ls) = fixed_levels ls
levels_of D = no_levels

-- under a search and a penalty an outcome, or of the whole hole as one layer its fee, in whole amounts, and its level
pub data Expected : Type 0 where
  layered : SearchKind → ℕ → Outcome → Expected
  one_layer : ℕ → ℤ → Expected

pub record Row : Type 0 where
  pub charge : ChargeKind
  pub amounts : AmountKind
  pub readings : List ℤ
  pub expected : Expected

-- in pairs the charge is lifted, and the penalty b is (b, 1)
abbrev pub found : AmountKind → ChargeKind → List ℤ → SearchKind → ℕ → Outcome
found wholes c h way b = outcome whole_kind (rules_of c) (levels_of c) h (whole b) way (leveling_of c)
found pairs c h way b = outcome pair_kind (lifted_rules (rules_of c)) (lifted_levels (levels_of c)) h (lifted_penalty (whole b)) way (leveling_of c)

abbrev pub HoldsOf : ChargeKind → AmountKind → List ℤ → Expected → Type 0
HoldsOf c a h (layered way b o) = found a c h way b ≡ o
HoldsOf c a h (one_layer f v) = ((rules_of c).fee h ≡ whole f) × (leveling_of c h ≡ v)

-- the row is as expected
abbrev pub Holds : Row → Type 0
Holds row = HoldsOf row.charge row.amounts row.readings row.expected

abbrev search_row : ChargeKind → AmountKind → SearchKind → List ℤ → ℕ → ℕ × ℕ → List ℕ → ℕ × ℕ → List ℤ → Row
search_row c a way h b words places tally levels =
    record { charge = c; amounts = a; readings = h; expected = layered way b (record { words = words; places = places; tally = tally; levels = levels }) }

abbrev layer_row : ChargeKind → List ℤ → ℕ → ℤ → Row
layer_row c h f v = record { charge = c; amounts = wholes; readings = h; expected = one_layer f v }

-- charge, amounts, search, readings, penalty; then the total's words, the places, the tally and the levels
abbrev pub table : List Row
table =
    search_row M wholes pruned (pos 3 ∷ (pos 3 ∷ (pos 4 ∷ (pos 10 ∷ (pos 10 ∷ []))))) 2 (5, 0) (3 ∷ (5 ∷ [])) (10, 4) (pos 3 ∷ (pos 10 ∷ []))
    ∷ (search_row M wholes pruned (pos 5 ∷ (pos 5 ∷ [])) 0 (0, 0) (1 ∷ (2 ∷ [])) (2, 2) (pos 5 ∷ (pos 5 ∷ []))
    ∷ (search_row M pairs pruned (pos 5 ∷ (pos 5 ∷ [])) 0 (0, 1) (2 ∷ []) (3, 1) (pos 5 ∷ [])
    ∷ (search_row M wholes pruned (pos 1 ∷ (pos 2 ∷ [])) 1 (2, 0) (1 ∷ (2 ∷ [])) (3, 0) (pos 1 ∷ (pos 2 ∷ []))
    ∷ (search_row S wholes pruned (pos 2 ∷ (pos 2 ∷ (pos 5 ∷ (pos 2 ∷ (pos 2 ∷ []))))) 1 (2, 0) (5 ∷ []) (10, 4) (pos 2 ∷ [])
    ∷ (search_row S wholes by_level (pos 2 ∷ (pos 2 ∷ (pos 5 ∷ (pos 2 ∷ (pos 2 ∷ []))))) 1 (2, 0) (5 ∷ []) (160, 3) (pos 2 ∷ [])
    ∷ (search_row (Q (pos 0 ∷ (pos 10 ∷ []))) wholes pruned (pos 1 ∷ (pos 9 ∷ (pos 6 ∷ []))) 5 (28, 0) (1 ∷ (3 ∷ [])) (5, 2) (pos 0 ∷ (pos 10 ∷ []))
    ∷ (layer_row R (negsuc 3 ∷ (pos 1 ∷ [])) 10 (negsuc 0) ∷ (layer_row D (pos 1 ∷ (pos 4 ∷ (pos 4 ∷ []))) 3 (pos 18) ∷ []))))))))

-- every row is as expected
abbrev pub Known : Type 0
Known = AllByRecursion Holds table
