-- Where two fees agree on the first N readings, all that is told of these readings agrees.
use Rattle.std.proofs.Common.{◌≡◌, ℕ, zero, suc, ◌+◌, ◌<◌, ◌≤◌, Bool, cond, not, ◌||◌, eqb, leb, List, [], ◌∷◌, ◌++◌, count_by, filter, sym, refl, ap, ◌∙◌, ap₂, inl, inr, arith}
use mathlib.Core.Path.{fun_ext}
use Rattle.std.proofs.lemmas.Bool.{cases_lt, le-ltb}
use Rattle.amounts.specs.Kind.{Kind, Laws}
use Rattle.theory.specs.Layerings.{Rising, cost_from}
use Rattle.theory.specs.Totals.{below, through, total, back, given}
use Rattle.theory.specs.Keeping.{KeepingTest, kept_breaks}
use Rattle.theory.specs.Pruned.{drops, dropped, pruned_keeps}
use Rattle.theory.specs.Levels.{price_sum, at_level, held, worth, some_holds, level_keeps}
use Rattle.theory.specs.Tallies.{dropped_count, pairs_tried}
use Rattle.theory.specs.TheoremsOfGrowth.{FeesAlike, PricesAlike, Unchanged, LevelsUnchanged}
use Rattle.theory.proofs.Choosing.{argmin_like}
use Rattle.theory.proofs.Totals.{total-zero, total-through, back_below}
use Rattle.theory.proofs.Layerings.{rising_le, given-zero, given-push, by_breaks}
use Rattle.theory.proofs.Levels.{held-within}

-- two keeping tests that agree up to N
module _ (keep other : KeepingTest) (N : ℕ) (same : (n s : ℕ) → n ≤ N → keep n s ≡ other n s) where
  tests_same : (n : ℕ) → n ≤ N → keep n ≡ other n
  tests_same n h = fun_ext (λ s. same n s h)

  pub kept_alike : (n : ℕ) → n ≤ N → kept_breaks keep n ≡ kept_breaks other n
  kept_alike n h = ap (λ p. filter p (below (suc n))) (tests_same n h)

  pub count_alike : (n : ℕ) → n ≤ N → dropped_count keep n ≡ dropped_count other n
  count_alike n h = ap (λ (p : ℕ → Bool). count_by (λ s. not (p s)) (below (suc n))) (tests_same n h)

  pub pairs_alike : (n : ℕ) → n ≤ N → pairs_tried keep n ≡ pairs_tried other n
  unfolding pairs_tried
  pairs_alike zero h = refl
  pairs_alike (suc n) h = ap₂ ◌+◌ (pairs_alike n (omega arith)) (ap (λ p. count_by p (below (suc n))) (tests_same n (omega arith)))

module _ {V : Type 0} {kind : Kind V} (laws : Laws kind) (penalty : V) (f g : ℕ → ℕ → V) (N : ℕ) (fees : FeesAlike f g N) where
  abbrev Tf : ℕ → V
  Tf = total kind f penalty

  abbrev Tg : ℕ → V
  Tg = total kind g penalty

  through_same : (t s : ℕ) → s < t → t ≤ N → Tf s ≡ Tg s → through kind f penalty Tf t s ≡ through kind g penalty Tg t s
  through_same t s h top same = let e = fees s t h top in cc

  back_from : (t : ℕ) → t ≤ N → ((s : ℕ) → s < t → Tf s ≡ Tg s) → back kind f penalty t ≡ back kind g penalty t
  unfolding back
  back_from t top same = argmin_like laws _ _ t (λ s h. through_same t s h top (same s h))

  total_from : (t : ℕ) → 0 < t → t ≤ N → ((s : ℕ) → s < t → Tf s ≡ Tg s) → Tf t ≡ Tg t
  total_from t h top same =
      let b = back_below laws f penalty t h in
      total-through laws f penalty t h ∙ through_same t _ b top (same _ b) ∙ ap (through kind g penalty Tg t) (back_from t top same) ∙ sym (total-through laws g penalty t h)

  totals-same : (k t : ℕ) → t ≤ k → t ≤ N → Tf t ≡ Tg t
  totals-same k zero h top = total-zero laws f penalty ∙ sym (total-zero laws g penalty)
  totals-same zero (suc t) h top = absurd (omega arith)
  totals-same (suc k) (suc t) h top = total_from (suc t) (omega arith) top (λ s lt. totals-same k s (omega arith) (omega arith))

  pub total_same : (t : ℕ) → t ≤ N → Tf t ≡ Tg t
  total_same t = totals-same t t (omega arith)

  pub back_same : (t : ℕ) → t ≤ N → back kind f penalty t ≡ back kind g penalty t
  back_same t h = back_from t h (λ s lt. total_same s (omega arith))

  pub given_same : (j : ℕ) → j ≤ N → given kind f penalty j ≡ given kind g penalty j
  given_same =
      by_breaks laws f penalty (λ j. j ≤ N → given kind f penalty j ≡ given kind g penalty j) (λ h. given-zero laws f penalty ∙ sym (given-zero laws g penalty))
      (λ j h old top. given-push laws f penalty j h ∙ ap (λ ps. ps ++ (j ∷ [])) (old (omega (arith, back_below laws f penalty j h)) ∙ ap (given kind g penalty) (back_same j top)) ∙ sym (given-push laws g penalty j h))

  cost_from-same : (s : ℕ) (ps : List ℕ) (j : ℕ) → j ≤ N → Rising s ps j → cost_from kind f penalty s ps ≡ cost_from kind g penalty s ps
  cost_from-same s [] j top h = refl
  cost_from-same s (q ∷ ps) j top h =
      let here = fees s q h.0 (omega (arith, rising_le q ps j h.1)) in
      let rest = cost_from-same q ps j top h.1 in
      cc

  drops_same : (u s : ℕ) → s < u → u ≤ N → drops kind f penalty u s ≡ drops kind g penalty u s
  drops_same u s h top =
      let e = fees s u h top in
      let high = total_same u top in
      let low = total_same s (omega arith) in
      cc

  pub dropped_same : (n s : ℕ) → n ≤ N → dropped kind f penalty n s ≡ dropped kind g penalty n s
  unfolding dropped
  dropped_same zero s h = refl
  dropped_same (suc n) s h =
      let old = dropped_same n s (omega arith) in
      elim (cases_lt s (suc n)) [
        | inl lt ↦ let new = drops_same (suc n) s lt h in cc
        | inr ge ↦ let out = le-ltb s (suc n) ge in cc
      ]

  pruned-same : (n s : ℕ) → n ≤ N → pruned_keeps kind f penalty n s ≡ pruned_keeps kind g penalty n s
  pruned-same n s h = ap not (dropped_same n s h)

  pub unchanged : Unchanged kind penalty f g N
  unchanged = record {
    total_same = total_same;
    back_same = back_same;
    given_same = given_same;
    cost_same = λ j ps top h. cost_from-same 0 ps j top h;
    dropped_same = dropped_same;
    kept_same = kept_alike _ _ N pruned-same;
    count_same = count_alike _ _ N pruned-same;
    fees_same = pairs_alike _ _ N pruned-same;
  }

  module _ (p q : ℕ → ℕ → V) (k : ℕ) (prices : PricesAlike p q k N) where
    price_sum-same : (l s t : ℕ) → t ≤ N → l < k → price_sum kind p l s t ≡ price_sum kind q l s t
    price_sum-same l s zero top lk = refl
    price_sum-same l s (suc t) top lk = ap₂ (λ a b. cond (leb s t) (kind.plus a b) kind.nothing) (price_sum-same l s t (omega arith) lk) (prices t l (omega arith) lk)

    at_level-same : (l n s : ℕ) → s ≤ n → n ≤ N → l < k → at_level kind f penalty p l n s ≡ at_level kind g penalty q l n s
    at_level-same l n s h top lk = ap₂ kind.plus (total_same s (omega arith)) (price_sum-same l s n top lk)

    held_same : (l n : ℕ) → n ≤ N → l < k → held kind f penalty p l n ≡ held kind g penalty q l n
    unfolding held
    held_same l n top lk = argmin_like laws _ _ n (λ s h. at_level-same l n s (omega arith) top lk)

    worth_same : (l n : ℕ) → n ≤ N → l < k → worth kind f penalty p l n ≡ worth kind g penalty q l n
    worth_same l n top lk = at_level-same l n _ (held-within laws f penalty p l n) top lk ∙ ap (at_level kind g penalty q l n) (held_same l n top lk)

    some_holds-same : (m n s : ℕ) → m ≤ k → n ≤ N → some_holds kind f penalty p m n s ≡ some_holds kind g penalty q m n s
    unfolding some_holds
    some_holds-same zero n s mk top = refl
    some_holds-same (suc m) n s mk top = ap₂ (λ h t. eqb h s || t) (held_same m n top (omega arith)) (some_holds-same m n s (omega arith) top)

    keeps_same : (n s : ℕ) → n ≤ N → level_keeps kind f penalty p k n s ≡ level_keeps kind g penalty q k n s
    keeps_same n s top = ap (λ t. eqb s n || t) (some_holds-same k n s (omega arith) top)

    pub levels_unchanged : LevelsUnchanged kind penalty f g p q k N
    levels_unchanged = record {
      held_same = held_same;
      worth_same = worth_same;
      keeps_same = keeps_same;
      kept_same = kept_alike _ _ N keeps_same;
      count_same = count_alike _ _ N keeps_same;
    }
