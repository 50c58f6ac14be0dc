-- The pruned search: a dropped break is never used again.
use Rattle.std.proofs.Common.{◌≡◌, ℕ, zero, suc, ◌<◌, ◌≤◌, Bool, true, false, cond, not, ◌&&◌, ◌||◌, ltb, ◌⊎◌, [], ◌∷◌, ◌++◌, Decides, filter, sym, refl, ap, ◌∙◌, inl, inr, arith}
use Rattle.std.proofs.lemmas.Bool.{cases_Bool, both_ways, not-false, not_from_true, not_from_false, lt-ltb}
use Rattle.std.proofs.lemmas.Bool.Decides.{Decides-and, Decides-ltb, Decides-like, Decides-below_or}
use Rattle.amounts.specs.Kind.{Kind, Laws}
use Rattle.theory.specs.Totals.{below, through, total, back}
use Rattle.theory.specs.Keeping.{kept_breaks}
use Rattle.theory.specs.Pruned.{Splits, drops, Dropped, dropped, pruned_keeps}
use Rattle.theory.specs.TheoremsOfSearches.{Sound, Pruning}
use Rattle.theory.proofs.Order.{plus_left, plus_right}
use Rattle.theory.proofs.Choosing.{kept_by_push, kept_by_like, kept_by_twice}
use Rattle.theory.proofs.Totals.{back-lowest}
use Rattle.theory.proofs.Keeping.{sound_from}

swapped : (a b : Bool) → not (a || b) ≡ (not b && not a)
swapped true true = refl
swapped true false = refl
swapped false true = refl
swapped false false = refl

module _ {V : Type 0} {kind : Kind V} (laws : Laws kind) (fee : ℕ → ℕ → V) (penalty : V) where
  -- what dropped_by says of u = m + 1
  abbrev DroppedAt : ℕ → ℕ → Type 0
  DroppedAt s m = (s < suc m) × (drops kind fee penalty (suc m) s ≡ true)

  found_at : (n s u : ℕ) → s < u → u ≤ n → drops kind fee penalty u s ≡ true → (m : ℕ) × (m < n) × DroppedAt s m
  found_at n s zero above within e = absurd (omega arith)
  found_at n s (suc m) above within e = (m, omega arith, (above, e))

  pub dropped_decides : (n s : ℕ) → Decides (dropped kind fee penalty n s) (Dropped kind fee penalty n s)
  unfolding dropped
  dropped_decides n s =
      Decides-like (dropped kind fee penalty n s)
      (λ h. record { u = suc h.0; above = h.2.0; within = omega (arith, h.1); dropped_by = h.2.1 })
      (λ d. found_at n s d.u d.above d.within d.dropped_by)
      (Decides-below_or (λ m. ltb s (suc m) && drops kind fee penalty (suc m) s) (DroppedAt s) (λ m. dropped kind fee penalty m s) (λ m. Decides-and _ _ (Decides-ltb s (suc m)) (λ e. e, λ e. e)) refl (λ m. refl) n)

  newest : (n : ℕ) → pruned_keeps kind fee penalty n n ≡ true
  newest n = not_from_false _ (go _ refl)
    where
      go : (t : Bool) → dropped kind fee penalty n n ≡ t → dropped kind fee penalty n n ≡ false
      go true e = let d = (dropped_decides n n).0 e in absurd (omega (arith, d.above, d.within))
      go false e = e

  stays : (n m s : ℕ) → s ≤ n → n ≤ m → pruned_keeps kind fee penalty n s ≡ false → pruned_keeps kind fee penalty m s ≡ false
  stays n m s sn nm e =
      let d = (dropped_decides n s).0 (not-false _ e) in
      not_from_true _ ((dropped_decides m s).1 (record { u = d.u; above = d.above; within = omega (arith, d.within); dropped_by = d.dropped_by }))

  -- of a break below the newest: kept before, and not dropped by the new total
  keeps_more : (n s : ℕ) → s < suc n → pruned_keeps kind fee penalty (suc n) s ≡ (pruned_keeps kind fee penalty n s && not (drops kind fee penalty (suc n) s))
  unfolding dropped
  keeps_more n s h = rw (lt-ltb s (suc n) h) (swapped (drops kind fee penalty (suc n) s) (dropped kind fee penalty n s))

  kept_none : kept_breaks (pruned_keeps kind fee penalty) 0 ≡ 0 ∷ []
  unfolding dropped
  kept_none = refl

  kept_more : (n : ℕ) → kept_breaks (pruned_keeps kind fee penalty) (suc n) ≡ filter (λ s. not (drops kind fee penalty (suc n) s)) (kept_breaks (pruned_keeps kind fee penalty) n) ++ (suc n ∷ [])
  kept_more n =
      let before = kept_by_like (pruned_keeps kind fee penalty (suc n)) (λ s. pruned_keeps kind fee penalty n s && not (drops kind fee penalty (suc n) s)) (suc n) (keeps_more n) in
      let twice = kept_by_twice (pruned_keeps kind fee penalty n) (λ s. not (drops kind fee penalty (suc n) s)) (below (suc n)) in
      kept_by_push (pruned_keeps kind fee penalty (suc n)) (suc n)
      ∙ ap (λ t. filter (pruned_keeps kind fee penalty (suc n)) (below (suc n)) ++ cond t (suc n ∷ []) []) (newest (suc n))
      ∙ ap (λ l. l ++ (suc n ∷ [])) (before ∙ sym twice)

  pub pruning : Pruning kind fee penalty
  pruning = record { told = dropped_decides; kept_none = kept_none; kept_more = kept_more }

  module _ (N : ℕ) (splits : Splits kind fee N) where
    -- at any later t the break u makes no more than s
    no_dearer_later : (n s t : ℕ) (d : Dropped kind fee penalty n s) → n < t → t ≤ N → kind.at_most (through kind fee penalty (total kind fee penalty) t d.u) (through kind fee penalty (total kind fee penalty) t s) ≡ true
    no_dearer_later n s t d h top =
        let T = total kind fee penalty in
        let one = plus_right laws _ _ (fee d.u t) d.dropped_by in
        let two = rw (← (laws.plus_assoc (T s) (fee s d.u) (fee d.u t))) at (plus_left laws _ _ (T s) (splits s d.u t d.above (omega (arith, d.within)) top)) in
        plus_right laws _ _ penalty (laws.transitive _ _ _ one two)

    unused : (n t : ℕ) → Dropped kind fee penalty n (back kind fee penalty t) → n < t → t ≤ N → ⊥
    unused n t d h top =
        let low = back-lowest laws fee penalty t (omega arith) in
        both_ways _ (low.last d.u (omega (arith, d.within)) d.above) (no_dearer_later n _ t d h top)

    not_lost : (n t : ℕ) → n < t → t ≤ N → (n < back kind fee penalty t) ⊎ (pruned_keeps kind fee penalty n (back kind fee penalty t) ≡ true)
    not_lost n t h top =
        elim (cases_Bool (dropped kind fee penalty n (back kind fee penalty t)))
        [ inl e ↦ absurd (unused n t ((dropped_decides n _).0 e) h top) | inr e ↦ inr (not_from_false _ e) ]

    pub pruned_sound : Sound kind fee penalty (pruned_keeps kind fee penalty) N
    pruned_sound = sound_from laws fee penalty (pruned_keeps kind fee penalty) N not_lost newest stays
