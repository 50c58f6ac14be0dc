-- The layering given is a layering, costs the total, and no layering costs less.
use Rattle.std.proofs.Common.{◌≡◌, ℕ, zero, suc, ◌+◌, ◌<◌, ◌≤◌, true, List, [], ◌∷◌, ◌++◌, length, sym, refl, ap, ◌∙◌, subst, arith}
use Rattle.amounts.specs.Kind.{Kind, Laws}
use Rattle.theory.specs.Layerings.{Rising, Layering, last_break, last_break_from, cost_from, cost}
use Rattle.theory.specs.Totals.{total, back, climb, given}
use Rattle.theory.specs.Theorems.{Recursion, Optimal}
use Rattle.theory.proofs.Order.{at_most_refl, nothing-plus, plus_right}
use Rattle.theory.proofs.Totals.{total-zero, total-through, total-least, back-lowest, back_below}

-- one layer more at the end
pub rising-push : (s : ℕ) (ps : List ℕ) (m j : ℕ) → Rising s ps m → m < j → Rising s (ps ++ (j ∷ [])) j
rising-push s [] m j h lt = (subst (λ x. x < j) (sym h) lt, refl)
rising-push s (q ∷ ps) m j h lt = (h.0, rising-push q ps m j h.1 lt)

pub rising_le : (s : ℕ) (ps : List ℕ) (j : ℕ) → Rising s ps j → s ≤ j
rising_le s [] j h = omega arith
rising_le s (q ∷ ps) j h = omega (arith, h.0, rising_le q ps j h.1)

-- as each layer has a reading at least
pub rising-length : (s : ℕ) (ps : List ℕ) (j : ℕ) → Rising s ps j → s + length ps ≤ j
rising-length s [] j h = omega arith
rising-length s (q ∷ ps) j h = omega (arith, h.0, rising-length q ps j h.1)

last_break-push : (s : ℕ) (ps : List ℕ) (m j : ℕ) → Rising s ps m → last_break_from s (ps ++ (j ∷ [])) ≡ m
last_break-push s [] m j h = h
last_break-push s (q ∷ []) m j h = h.1
last_break-push s (q ∷ (r ∷ ps)) m j h = last_break-push q (r ∷ ps) m j h.1

module _ {V : Type 0} {kind : Kind V} (laws : Laws kind) (fee : ℕ → ℕ → V) (penalty : V) where
  pub cost-push : (s : ℕ) (ps : List ℕ) (m j : ℕ) → Rising s ps m → cost_from kind fee penalty s (ps ++ (j ∷ [])) ≡ kind.plus (kind.plus (cost_from kind fee penalty s ps) (fee m j)) penalty
  cost-push s [] m j h = rw (laws.plus_nothing, nothing-plus laws, h)
  cost-push s (q ∷ ps) m j h = rw (cost-push q ps m j h.1) (simp laws.plus_assoc)

  no_better_from : (s : ℕ) (ps : List ℕ) (j : ℕ) → Rising s ps j → kind.at_most (total kind fee penalty j) (kind.plus (total kind fee penalty s) (cost_from kind fee penalty s ps)) ≡ true
  no_better_from s [] j h = rw (laws.plus_nothing, h) (at_most_refl laws _)
  no_better_from s (q ∷ ps) j h =
      let step = plus_right laws _ _ (cost_from kind fee penalty q ps) (total-least laws fee penalty q s h.0) in
      laws.transitive _ _ _ (no_better_from q ps j h.1) (simp laws.plus_assoc (simp laws.plus_assoc at step))

  -- with layers enough, how many more are allowed does not matter
  climb_enough : (k m j : ℕ) → j ≤ k → j ≤ m → climb kind fee penalty k j ≡ climb kind fee penalty m j
  unfolding climb
  climb_enough zero zero j h g = refl
  climb_enough zero (suc m) zero h g = refl
  climb_enough zero (suc m) (suc j) h g = absurd (omega arith)
  climb_enough (suc k) zero zero h g = refl
  climb_enough (suc k) zero (suc j) h g = absurd (omega arith)
  climb_enough (suc k) (suc m) zero h g = refl
  climb_enough (suc k) (suc m) (suc j) h g =
      let low = back_below laws fee penalty (suc j) (omega arith) in
      ap (λ ps. ps ++ (suc j ∷ [])) (climb_enough k m (back kind fee penalty (suc j)) (omega arith) (omega arith))

  pub given-zero : given kind fee penalty 0 ≡ []
  unfolding given climb
  given-zero = refl

  pub given-push : (j : ℕ) → 0 < j → given kind fee penalty j ≡ given kind fee penalty (back kind fee penalty j) ++ (j ∷ [])
  unfolding given climb
  given-push zero h = absurd (omega arith)
  given-push (suc j) h =
      let low = back_below laws fee penalty (suc j) (omega arith) in
      ap (λ ps. ps ++ (suc j ∷ [])) (climb_enough j (back kind fee penalty (suc j)) (back kind fee penalty (suc j)) (omega arith) (omega arith))

  -- j follows from back(j): induction on how far up
  pub by_breaks : (P : ℕ → Type 0) → P 0 → ((j : ℕ) → 0 < j → P (back kind fee penalty j) → P j) → (j : ℕ) → P j
  by_breaks P none more j = go j j (omega arith)
    where
      go : (k j : ℕ) → j ≤ k → P j
      go zero j h = let e : j ≡ 0 = omega arith in rw e none
      go (suc k) zero h = none
      go (suc k) (suc j) h = more (suc j) (omega arith) (go k (back kind fee penalty (suc j)) (omega (arith, back_below laws fee penalty (suc j) (omega arith))))

  pub given-layering : (j : ℕ) → Layering j (given kind fee penalty j)
  given-layering =
      by_breaks (λ j. Layering j (given kind fee penalty j)) (rw given-zero refl)
      (λ j h old. rw (given-push j h) (rising-push 0 _ _ j old (back_below laws fee penalty j h)))

  pub given-cost : (j : ℕ) → cost kind fee penalty (given kind fee penalty j) ≡ total kind fee penalty j
  given-cost =
      by_breaks (λ j. cost kind fee penalty (given kind fee penalty j) ≡ total kind fee penalty j) (rw given-zero (sym (total-zero laws fee penalty)))
      (λ j h old. ap (cost kind fee penalty) (given-push j h) ∙ cost-push 0 _ _ j (given-layering (back kind fee penalty j)) ∙ ap (λ v. kind.plus (kind.plus v (fee (back kind fee penalty j) j)) penalty) old ∙ sym (total-through laws fee penalty j h))

  pub no_better : (j : ℕ) (qs : List ℕ) → Layering j qs → kind.at_most (total kind fee penalty j) (cost kind fee penalty qs) ≡ true
  no_better j qs h = simp (total-zero laws fee penalty, nothing-plus laws) at (no_better_from 0 qs j h)

  pub last_break-given : (j : ℕ) → 0 < j → last_break (given kind fee penalty j) ≡ back kind fee penalty j
  last_break-given j h = ap last_break (given-push j h) ∙ last_break-push 0 _ _ j (given-layering (back kind fee penalty j))

  pub optimal : Optimal kind fee penalty
  optimal = record { layering = given-layering; exact = given-cost; no_better = no_better }

  pub recursion : Recursion kind fee penalty
  recursion = record {
    total_none = total-zero laws fee penalty;
    total_is = total-through laws fee penalty;
    back_is = back-lowest laws fee penalty;
    given_none = given-zero;
    given_is = given-push;
    last_break_is = last_break-given;
  }
