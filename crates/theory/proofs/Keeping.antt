-- A keeping test that loses no break still to be used is sound; keeping every break is.
use Rattle.std.proofs.Common.{◌≡◌, ℕ, suc, ◌<◌, ◌≤◌, true, false, ◌⊎◌, sym, refl, ap, ◌∙◌, inl, inr, arith}
use Rattle.std.proofs.lemmas.Bool.{both_ways}
use Rattle.amounts.specs.Kind.{Kind, Laws}
use Rattle.theory.specs.Least.{Lowest, argmin}
use Rattle.theory.specs.Totals.{through, total, back}
use Rattle.theory.specs.Keeping.{KeepingTest, kept_breaks, plain_keeps}
use Rattle.theory.specs.TheoremsOfSearches.{Sound}
use Rattle.theory.proofs.Choosing.{ranked-by_amount, chosen_like, choose_finds}
use Rattle.theory.proofs.Totals.{total-through, back-lowest}
use Rattle.theory.proofs.Layerings.{last_break-given}

module _ {V : Type 0} {kind : Kind V} (laws : Laws kind) (fee : ℕ → ℕ → V) (penalty : V) where
  module _ (keep : KeepingTest) (N : ℕ) (not_lost : (n t : ℕ) → n < t → t ≤ N → (n < back kind fee penalty t) ⊎ (keep n (back kind fee penalty t) ≡ true)) where
    back_kept : (n t : ℕ) → n < t → t ≤ N → back kind fee penalty t ≤ n → keep n (back kind fee penalty t) ≡ true
    back_kept n t h top le = elim (not_lost n t h top) [ inl lt ↦ absurd (omega arith) | inr e ↦ e ]

    lowest : (n : ℕ) → n < N → Lowest kind (λ s. (s ≤ n) × (keep n s ≡ true)) (through kind fee penalty (total kind fee penalty) (suc n)) (back kind fee penalty (suc n))
    lowest n top =
        let low = back-lowest laws fee penalty (suc n) (omega arith) in
        let under : back kind fee penalty (suc n) ≤ n = omega (arith, low.among) in
        record {
          among = (under, back_kept n (suc n) (omega arith) (omega arith) under);
          best = λ s h. low.best s (omega (arith, h.0));
          last = λ s h. low.last s (omega (arith, h.0));
        }

    unused : (n s t : ℕ) → s ≤ n → keep n s ≡ false → n < t → t ≤ N → back kind fee penalty t ≡ s → ⊥
    unused n s t le e h top is = both_ways _ e (rw is at (back_kept n t h top (omega arith)))

    search_back : (n : ℕ) → n < N → argmin kind (through kind fee penalty (total kind fee penalty) (suc n)) (kept_breaks keep n) ≡ back kind fee penalty (suc n)
    search_back n top = choose_finds (ranked-by_amount laws _) (keep n) (suc n) _ (chosen_like (λ s h. (omega (arith, h.0), h.1)) (λ s h. (omega (arith, h.0), h.1)) (λ s u x y. refl) (lowest n top))

    pub sound_from : ((n : ℕ) → keep n n ≡ true) → ((n m s : ℕ) → s ≤ n → n ≤ m → keep n s ≡ false → keep m s ≡ false) → Sound kind fee penalty keep N
    sound_from newest stays = record {
      newest = newest;
      not_lost = not_lost;
      unused = unused;
      unused_last = λ n s j le e h top is. unused n s j le e h top (sym (last_break-given laws fee penalty j (omega arith)) ∙ is);
      stays = stays;
      lowest = lowest;
      search_back = search_back;
      search_total = λ n top. ap (through kind fee penalty (total kind fee penalty) (suc n)) (search_back n top) ∙ sym (total-through laws fee penalty (suc n) (omega arith));
    }

  pub plain_sound : (N : ℕ) → Sound kind fee penalty plain_keeps N
  plain_sound N = sound_from plain_keeps N (λ n t h top. inr refl) (λ n. refl) (λ n m s le h e. absurd (both_ways true e refl))
