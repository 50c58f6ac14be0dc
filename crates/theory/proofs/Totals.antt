-- The recursion of totals and breaks.
use Rattle.std.proofs.Common.{◌≡◌, ℕ, zero, suc, ◌<◌, ◌≤◌, true, length, get_or, sym, refl, ap, ◌∙◌, subst, inl, inr, arith, length-append}
use Rattle.std.proofs.lemmas.List.{get_or_append_left, get_or_push}
use Rattle.std.proofs.lemmas.Bool.{cases_lt}
use Rattle.amounts.specs.Kind.{Kind, Laws}
use Rattle.theory.specs.Least.{Lowest, choose}
use Rattle.theory.specs.Totals.{through, least_through, totals, total, back}
use Rattle.theory.proofs.Choosing.{ranked-by_amount, choose-below, argmin_like}

module _ {V : Type 0} {kind : Kind V} (laws : Laws kind) (fee : ℕ → ℕ → V) (penalty : V) where
  totals-length : (n : ℕ) → length (totals kind fee penalty n) ≡ suc n
  unfolding totals
  totals-length zero = refl
  totals-length (suc n) = simp length-append (omega (arith, totals-length n))

  -- the totals before stay as they are
  totals_has : (n s : ℕ) → s ≤ n → get_or (totals kind fee penalty n) s kind.nothing ≡ total kind fee penalty s
  unfolding totals total
  totals_has zero s h = let e : s ≡ 0 = omega arith in rw e
  totals_has (suc n) s h =
      elim (cases_lt s (suc n)) [
        | inl lt ↦ get_or_append_left (totals kind fee penalty n) _ _ s (omega (arith, totals-length n)) ∙ totals_has n s (omega arith)
        | inr ge ↦ let e : s ≡ suc n = omega arith in subst (λ x. get_or (totals kind fee penalty (suc n)) x kind.nothing ≡ total kind fee penalty x) (sym e) refl
      ]

  pub total-zero : total kind fee penalty 0 ≡ kind.nothing
  unfolding totals total
  total-zero = refl

  pub back-zero : back kind fee penalty 0 ≡ 0
  unfolding back choose
  back-zero = refl

  pub back-lowest : (t : ℕ) → 0 < t → Lowest kind (λ s. s < t) (through kind fee penalty (total kind fee penalty) t) (back kind fee penalty t)
  unfolding back
  back-lowest t h = choose-below (ranked-by_amount laws _) t h

  pub back_below : (t : ℕ) → 0 < t → back kind fee penalty t < t
  back_below t h = (back-lowest t h).among

  total_more : (n : ℕ) → total kind fee penalty (suc n) ≡ through kind fee penalty (total kind fee penalty) (suc n) (back kind fee penalty (suc n))
  unfolding totals total back
  total_more n =
      let read : ℕ → V = λ s. get_or (totals kind fee penalty n) s kind.nothing in
      let same : (s : ℕ) → s < suc n → through kind fee penalty read (suc n) s ≡ through kind fee penalty (total kind fee penalty) (suc n) s = λ s h. ap (λ v. kind.plus (kind.plus v (fee s (suc n))) penalty) (totals_has n s (omega arith)) in
      let place = argmin_like laws (through kind fee penalty read (suc n)) (through kind fee penalty (total kind fee penalty) (suc n)) (suc n) same in
      get_or_push (totals kind fee penalty n) (least_through kind fee penalty read (suc n)) kind.nothing (suc n) (totals-length n)
      ∙ ap (through kind fee penalty read (suc n)) place
      ∙ same _ (back_below (suc n) (omega arith))

  pub total-through : (t : ℕ) → 0 < t → total kind fee penalty t ≡ through kind fee penalty (total kind fee penalty) t (back kind fee penalty t)
  total-through zero h = absurd (omega arith)
  total-through (suc n) h = total_more n

  -- no break makes less of t than its total
  pub total-least : (t s : ℕ) → s < t → kind.at_most (total kind fee penalty t) (through kind fee penalty (total kind fee penalty) t s) ≡ true
  total-least t s h = rw (total-through t (omega arith)) ((back-lowest t (omega arith)).best s h)
