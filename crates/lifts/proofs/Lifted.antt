-- What a lifted charge shows, from what the charge below shows.
use Rattle.std.proofs.Common.{◌≡◌, ℕ, zero, suc, ◌-◌, cond, leb, List, [], ◌∷◌, ℤ, sym, refl, ap, ◌∙◌, arith}
use Rattle.std.proofs.lemmas.Bool.Decides.{nat_tests}
use Rattle.amounts.specs.Kinds.{whole_kind, pair_kind, pair_at_most}
use Rattle.amounts.specs.declared.Whole.{Whole}
use Rattle.charges.specs.Rules.{Rules, Layable}
use Rattle.charges.specs.Levels.{Levels, LevelLaws, price_total, best_upto, best_level}
use Rattle.lifts.specs.Lifting.{lifted, lifted_rules, lifted_levels}

at_most_lifts : (a b : Whole) → pair_at_most (lifted a) (lifted b) ≡ leb a.number b.number
at_most_lifts a b = grind (arith, nat_tests)

weight_lifts : (a : Whole) → pair_kind.weight (lifted a) ≡ a.number
weight_lifts a = omega arith

module _ (l : Levels Whole) where
  total_lifts : (i : ℕ) (u : List ℤ) → price_total pair_kind (lifted_levels l) i u ≡ lifted (price_total whole_kind l i u)
  unfolding price_total
  total_lifts i [] = refl
  total_lifts i (x ∷ xs) = ap (pair_kind.plus (lifted (l.price x i))) (total_lifts i xs)

  best_lifts : (n : ℕ) (u : List ℤ) → best_upto pair_kind (lifted_levels l) n u ≡ best_upto whole_kind l n u
  unfolding best_upto
  best_lifts zero u = refl
  best_lifts (suc n) u =
      let b = best_upto whole_kind l n u in
      ap (λ m. cond (pair_at_most (price_total pair_kind (lifted_levels l) m u) (price_total pair_kind (lifted_levels l) (suc n) u)) m (suc n)) (best_lifts n u)
      ∙ (ap (λ v. cond (pair_at_most v (price_total pair_kind (lifted_levels l) (suc n) u)) b (suc n)) (total_lifts b u)
      ∙ (ap (λ v. cond (pair_at_most (lifted (price_total whole_kind l b u)) v) b (suc n)) (total_lifts (suc n) u)
      ∙ ap (λ t. cond t b (suc n)) (at_most_lifts (price_total whole_kind l b u) (price_total whole_kind l (suc n) u))))

  module _ (r : Rules Whole) (leveling : List ℤ → ℤ) (so : LevelLaws whole_kind r leveling l) where
    below : (u : List ℤ) → Layable (lifted_rules r) u → Layable r u
    below u p = record { some = p.some; lawful = p.lawful }

    pub levels_lift : LevelLaws pair_kind (lifted_rules r) leveling (lifted_levels l)
    levels_lift = record {
      some = so.some;
      few = so.few;
      weight = λ x i h lt. omega (arith, weight_lifts (l.price x i), so.weight x i h lt);
      fee = λ u p.
          let e = best_lifts (l.offered - 1) u in
          ap lifted (so.fee u (below u p)) ∙ (sym (total_lifts (best_level whole_kind l u) u) ∙ ap (λ i. price_total pair_kind (lifted_levels l) i u) (sym e));
      level = λ u p. so.level u (below u p) ∙ ap l.value (sym (best_lifts (l.offered - 1) u));
    }
