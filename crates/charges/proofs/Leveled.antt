-- The level law gives the splitting law and the weight law, for every level charge.
use Rattle.std.proofs.Common.{◌≡◌, ℕ, zero, suc, ◌-◌, ◌*◌, ◌<◌, ◌≤◌, true, false, List, [], ◌∷◌, ◌++◌, length, ℤ, sym, refl, ap, ◌∙◌, subst, ⊎_elim, add-mul, arith}
use Rattle.std.specs.List.{AllByRecursion}
use Rattle.std.proofs.ByRecursion.{All-append}
use Rattle.std.proofs.lemmas.List.{length-append}
use Rattle.std.proofs.lemmas.Bool.{cases_Bool, cond-true, cond-false, cases_eq, both_ways}
use Rattle.amounts.specs.Kind.{Kind, Laws}
use Rattle.charges.specs.Rules.{Rules, Layable}
use Rattle.charges.specs.Levels.{Levels, LevelLaws, price_total, best_upto, best_level}
use Rattle.charges.proofs.Lawful.{all_from_pass, pass_from_all}

module _ {V : Type 0} {k : Kind V} (a : Laws k) where
  reflexive : (x : V) → k.at_most x x ≡ true
  reflexive x = ⊎_elim (λ h. h) (λ h. h) (a.total x x)

  -- where x is not at most y, y is at most x
  turned : (x y : V) → k.at_most x y ≡ false → k.at_most y x ≡ true
  turned x y h = ⊎_elim (λ t. absurd (both_ways (k.at_most x y) h t)) (λ t. t) (a.total x y)

  plus-both : (x y z w : V) → k.at_most x z ≡ true → k.at_most y w ≡ true → k.at_most (k.plus x y) (k.plus z w) ≡ true
  plus-both x y z w h l =
      a.transitive (k.plus x y) (k.plus z y) (k.plus z w) (a.cancels x z y ∙ h)
      (ap (λ v. k.at_most v (k.plus z w)) (a.plus_comm z y) ∙ (ap (k.at_most (k.plus y z)) (a.plus_comm z w) ∙ (a.cancels y w z ∙ l)))

  module _ (l : Levels V) where
    abbrev total : ℕ → List ℤ → V
    total = price_total k l

    pub total-append : (i : ℕ) (u v : List ℤ) → total i (u ++ v) ≡ k.plus (total i u) (total i v)
    unfolding price_total
    total-append i [] v = sym (a.plus_comm k.nothing (total i v) ∙ a.plus_nothing (total i v))
    total-append i (x ∷ xs) v = ap (k.plus (l.price x i)) (total-append i xs v) ∙ sym (a.plus_assoc (l.price x i) (total i xs) (total i v))

    -- the best of the levels 0 to n is none of the others, and no dearer than any
    pub best-within : (n : ℕ) (u : List ℤ) → best_upto k l n u ≤ n
    unfolding best_upto
    best-within zero u = omega arith
    best-within (suc n) u =
        ⊎_elim
        (λ t. let e = cond-true _ (best_upto k l n u) (suc n) t in omega (arith, best-within n u))
        (λ t. let e = cond-false _ (best_upto k l n u) (suc n) t in omega arith)
        (cases_Bool (k.at_most (total (best_upto k l n u) u) (total (suc n) u)))

    best_step : (n : ℕ) (u : List ℤ) (b : ℕ) → b ≡ best_upto k l n u → (k.at_most (total (best_upto k l (suc n) u) u) (total b u) ≡ true) × (k.at_most (total (best_upto k l (suc n) u) u) (total (suc n) u) ≡ true)
    unfolding best_upto
    best_step n u b e =
        let c = best_upto k l n u in
        ⊎_elim
        (λ t. let f = cond-true _ c (suc n) t in (
          ap (λ m. k.at_most (total m u) (total b u)) (f ∙ sym e) ∙ reflexive (total b u),
          ap (λ m. k.at_most (total m u) (total (suc n) u)) f ∙ t,
        ))
        (λ t. let f = cond-false _ c (suc n) t in (
          ap (λ m. k.at_most (total m u) (total b u)) f ∙ (ap (λ m. k.at_most (total (suc n) u) (total m u)) e ∙ turned (total c u) (total (suc n) u) t),
          ap (λ m. k.at_most (total m u) (total (suc n) u)) f ∙ reflexive (total (suc n) u),
        ))
        (cases_Bool (k.at_most (total c u) (total (suc n) u)))

    pub best-least : (n : ℕ) (u : List ℤ) (i : ℕ) → i ≤ n → k.at_most (total (best_upto k l n u) u) (total i u) ≡ true
    best-least zero u i h =
        let z : best_upto k l zero u ≡ i = omega (arith, best-within zero u) in
        ap (λ m. k.at_most (total m u) (total i u)) z ∙ reflexive (total i u)
    best-least (suc n) u i h =
        let s = best_step n u (best_upto k l n u) refl in
        ⊎_elim
        (λ e. ap (λ m. k.at_most (total (best_upto k l (suc n) u) u) (total m u)) e ∙ s.1)
        (λ ne. a.transitive _ _ _ s.0 (best-least n u i (omega arith)))
        (cases_eq i (suc n))

    pub total-weight : (bound i : ℕ) (u : List ℤ) → AllByRecursion (λ x. k.weight (l.price x i) ≤ bound) u → k.weight (total i u) ≤ length u * bound
    unfolding price_total
    total-weight bound i [] h = omega (arith, a.weight_nothing)
    total-weight bound i (x ∷ xs) h =
        omega (arith, a.weight_plus (l.price x i) (total i xs), h.0, total-weight bound i xs h.1, add-mul 1 (length xs) bound)

  module _ (r : Rules V) (leveling : List ℤ → ℤ) (l : Levels V) (so : LevelLaws k r leveling l) where
    prices_weigh : (i : ℕ) → i < l.offered → (u : List ℤ) → AllByRecursion (λ x. r.lawful x ≡ true) u → AllByRecursion (λ x. k.weight (l.price x i) ≤ r.bound) u
    prices_weigh i lt [] h = tt
    prices_weigh i lt (x ∷ xs) h = (so.weight x i h.0 lt, prices_weigh i lt xs h.1)

    pub leveled-weight : (u : List ℤ) → Layable r u → k.weight (r.fee u) ≤ length u * r.bound
    leveled-weight u p =
        let b = best_level k l u in
        let lt : b < l.offered = omega (arith, best-within l (l.offered - 1) u, so.some) in
        let w = total-weight l r.bound b u (prices_weigh b lt u (all_from_pass r.lawful u p.lawful)) in
        let P : V → Type 0 = λ v. k.weight v ≤ length u * r.bound in
        subst P (sym (so.fee u p)) w

    fee-least : (u : List ℤ) (i : ℕ) → Layable r u → i < l.offered → k.at_most (r.fee u) (price_total k l i u) ≡ true
    fee-least u i p lt = ap (λ v. k.at_most v (price_total k l i u)) (so.fee u p) ∙ best-least l (l.offered - 1) u i (omega (arith, so.some))

    joined : (u v : List ℤ) → Layable r u → Layable r v → Layable r (u ++ v)
    joined u v p q = record {
      some = omega (arith, length-append u v, p.some);
      lawful = pass_from_all r.lawful (u ++ v) (All-append (λ x. r.lawful x ≡ true) u v (all_from_pass r.lawful u p.lawful) (all_from_pass r.lawful v q.lawful));
    }

    pub leveled-splits : (u v : List ℤ) → Layable r u → Layable r v → k.at_most (k.plus (r.fee u) (r.fee v)) (r.fee (u ++ v)) ≡ true
    leveled-splits u v p q =
        let i = best_level k l (u ++ v) in
        let lt : i < l.offered = omega (arith, best-within l (l.offered - 1) (u ++ v), so.some) in
        ap (k.at_most (k.plus (r.fee u) (r.fee v))) (so.fee (u ++ v) (joined u v p q) ∙ total-append l i u v)
        ∙ plus-both (r.fee u) (r.fee v) (price_total k l i u) (price_total k l i v) (fee-least u i p lt) (fee-least v i q lt)
